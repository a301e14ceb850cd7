-- Why a tool isn't done.
use Rattle.std.proofs.Common.{◌≡◌, ◌≢◌, ◌⊎◌, inl, inr, ℕ, Bool, true, false, List, refl, sym, ap, ◌∙◌}
use Rattle.dc_lookup.specs.Lookup.{Lookup, Stage, asking, ended, complete, unanswered, portless, unreadable, has_ended_by}
use Rattle.dc_stub.specs.Look.{Closes}
use Rattle.dc_stub.specs.declared.status.ToolStatus.{ToolStatus}
use Rattle.dc_stub.specs.declared.status.ToolStatus.TheVariants.{Done, Usage, NoAnswer, NoPort, Malformed, Ended, Spent, FilesFault, WriteFault, WorldFault, BadScript, NoMemory, ReadFault, LongLine}

-- A tool that is complete has ended, and didn't give up.

going_on : (s : Stage) (P : Type 0) → has_ended_by s ≡ false → s ≡ ended complete → P
going_on (asking a jobs) P h c = cc
going_on (ended how) P h c = cc

gave_up : (how : Stage) (s : Stage) (P : Type 0) → s ≡ how → s ≡ ended complete → (how ≡ ended complete → P) → P
gave_up how s P h c f = f (sym h ∙ c)

pub answered_done : (status : ToolStatus) (l : Lookup) (text : List ℕ) (count limit : ℕ) (used_up : Type 0) (broken : ℕ → Type 0)
    → Closes status l text count limit used_up broken → l.stage ≡ ended complete → status ≢ WriteFault → (status ≡ Done) ⊎ (status ≡ NoMemory)
answered_done Done l text count limit used_up broken k c w = inl refl
answered_done NoAnswer l text count limit used_up broken k c w = gave_up (ended unanswered) l.stage _ k.0 c (λ e. cc)
answered_done NoPort l text count limit used_up broken k c w = gave_up (ended portless) l.stage _ k.0 c (λ e. cc)
answered_done Malformed l text count limit used_up broken k c w = gave_up (ended unreadable) l.stage _ k.0 c (λ e. cc)
answered_done Ended l text count limit used_up broken k c w = going_on l.stage _ k.0 c
answered_done Spent l text count limit used_up broken k c w = going_on l.stage _ k.0 c
answered_done (BadScript n) l text count limit used_up broken k c w = going_on l.stage _ k.0 c
answered_done WorldFault l text count limit used_up broken k c w = going_on l.stage _ k.0 c
answered_done NoMemory l text count limit used_up broken k c w = inr refl
answered_done WriteFault l text count limit used_up broken k c w = absurd (w refl)
answered_done Usage l text count limit used_up broken k c w = absurd k
answered_done FilesFault l text count limit used_up broken k c w = absurd k
answered_done ReadFault l text count limit used_up broken k c w = absurd k
answered_done (LongLine n) l text count limit used_up broken k c w = absurd k
