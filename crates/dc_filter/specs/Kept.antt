-- What the fields of the engine hold.
use Rattle.std.specs.Prelude.{◌≡◌, ◌+◌, ◌≤◌, false, vec_capacity, vec_len}
use Rattle.dc_model.specs.Places.{all_empty}
use Rattle.dc_filter.specs.Sifter.{Sifter}
use Rattle.dc_filter.specs.Queue.{slots_of, AreFit, AreIdle}
use Rattle.dc_filter.specs.declared.engine.FilterEngine.TheInside.{Inside}

-- The engine as contracts see it.
abbrev pub sifter_of : Inside → Sifter
sifter_of a = record { room = a.slots; servers = a.servers; queue = slots_of a.queue.items; links = a.link; handled = a.handled }

-- Each line fits, each spare slot is idle, there are slots and memory for as many lines as the queue may hold, each link came with an
-- event, and a server is there.
pub record IsKept (a : Inside) : Type 0 where
  pub fit : AreFit a.queue.items
  pub idle : AreIdle a.spare.items
  pub slots : vec_len a.queue + vec_len a.spare ≡ a.slots
  pub least : 1 ≤ a.slots
  pub most : a.slots ≤ 16
  pub queue : a.slots ≤ vec_capacity a.queue
  pub spare : a.slots ≤ vec_capacity a.spare
  pub links : a.link ≤ a.handled
  pub place : all_empty a.servers ≡ false
