use Rattle.std.proofs.Common.{ℕ, List, ap, sym, ◌∙◌, subst}
use Rattle.dc_model.specs.Event.{Action}
use Rattle.dc_model.specs.Puts.{all_put, puts_given}
use Rattle.dc_puts.specs.Order.{records_in, given_from}
use Rattle.dc_puts.specs.Told.{told}
use Rattle.dc_puts.specs.Sorted.{AreSorted}
use Rattle.dc_puts.proofs.Walking.{sorted_of, puts_told, puts_put}
use Rattle.dc_puts.proofs.walk.puts.Goals as goal

pub walk-requires-clause-sorted : goal.walk-requires-clause-sorted
walk-requires-clause-sorted g c =
    subst (AreSorted c.new-message.result) (sym c.as_slice.ensures.value)
    (sorted_of c.args.packet.now c.new-message.result c.arrange.new.index.items c.new-message.ensures c.arrange.ensures.permutation c.arrange.ensures.sorted)

pub returns-clause-acts : goal.returns-clause-acts
returns-clause-acts g c =
    let a = c.args in
    subst (λ (ls : List Action). g.O.Effects.acted a.out.now ls c.walk.new.out)
    (ap (λ (is : List ℕ). told (given_from a.zones.now a.control.now a.server (records_in c.new-message.result is))) c.as_slice.ensures.value
    ∙ puts_told a.packet.now c.new-message.result c.arrange.new.index.items a.zones.now a.control.now a.server c.new-message.ensures c.arrange.ensures.permutation c.arrange.ensures.sorted) c.walk.ensures.acts

pub returns-clause-cache : goal.returns-clause-cache
returns-clause-cache g c =
    let a = c.args in
    c.walk.ensures.cache
    ∙ ap (λ (is : List ℕ). all_put (puts_given (given_from a.zones.now a.control.now a.server (records_in c.new-message.result is))) a.now (g.S.Store.cache a.store.now)) c.as_slice.ensures.value
    ∙ puts_put a.packet.now c.new-message.result c.arrange.new.index.items a.zones.now a.control.now a.server a.now (g.S.Store.cache a.store.now) c.new-message.ensures c.arrange.ensures.permutation c.arrange.ensures.sorted
