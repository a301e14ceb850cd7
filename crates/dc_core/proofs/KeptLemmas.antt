-- What a core keeps at each event.
use Rattle.std.proofs.Common.{◌≡◌, ℕ, ◌+◌, ◌≤◌, ◌^◌, List, length, arith, subst, sym}
use Rattle.dc_model.specs.Cache.{Cache}
use Rattle.dc_model.specs.Event.{Event}
use Rattle.dc_model.specs.Rules.{Rules}
use Rattle.dc_machine.specs.Machine.{Machine, step}
use Rattle.dc_machine.specs.Kept.{IsSound, IsRoomy}
use Rattle.dc_machine.specs.Run.{opening}
use Rattle.dc_machine.proofs.Sound.{opening_sound, step_sound}
use Rattle.dc_machine.proofs.Limits.{step_roomy}
use Rattle.dc_machine.proofs.Moves.{step_moves}
use Rattle.dc_desk.specs.declared.desk.Counts.{Counts}
use Rattle.dc_clients.proofs.Few.{queries_few}
use Rattle.dc_clients.specs.View.{AreBelow}
use Rattle.dc_core.specs.Running.{IsKept}

opening_roomy : (c : Cache) → IsRoomy (opening c)
opening_roomy c = record { udp = omega arith; tcp = omega arith }

-- A core that has handled nothing.
pub opening_kept : (m : Machine) (c : Cache) (n : ℕ) → m ≡ opening c → n ≡ 221 → IsKept m n 0
opening_kept m c n e k =
    let P : Machine → Type 0 = λ x. IsKept x n 0 in
    subst P (sym e) (record { sound = opening_sound c; roomy = opening_roomy c; works = k; accepted = omega arith; links = omega arith })

-- There are few queries.
pub kept_few : (m : Machine) (n k : ℕ) → IsKept m n k → length m.queries ≤ 220
kept_few m n k h = queries_few m h.sound h.roomy

-- The counts are small.
pub kept_below : (m : Machine) (n k : ℕ) (c : Counts) → IsKept m n k → k ≤ 2 ^ 60 → c.accepted ≡ m.accepted → c.sent ≡ m.sent → c.dropped ≡ m.dropped → AreBelow (2 ^ 61) c
kept_below m n k c h few accepted sent dropped = record {
  accepted = omega (arith, h.accepted, few, accepted);
  sent = omega (arith, h.accepted, few, sent, h.sound.balance);
  dropped = omega (arith, h.accepted, few, dropped, h.sound.balance);
}

-- A step keeps all of it.
pub step_kept : (rules : Rules) (m new : Machine) (e : Event) (draws : List ℕ) (n later k : ℕ) → IsKept m n k → new ≡ (step rules m e draws).machine → later ≡ 221 → new.accepted ≤ m.accepted + 1
    → IsKept new later (k + 1)
step_kept rules m new e draws n later k h same works more =
    let P : Machine → Type 0 = λ x. x.links ≤ m.links + 1 in
    let links : new.links ≤ m.links + 1 = subst P (sym same) (step_moves rules m e draws).links in record {
      sound = subst IsSound (sym same) (step_sound rules m e draws h.sound);
      roomy = subst IsRoomy (sym same) (step_roomy rules m e draws h.roomy);
      works = works;
      accepted = omega (arith, h.accepted, more);
      links = omega (arith, h.links, links);
    }
