-- What tests rest on.
use Rattle.std.proofs.Common.{◌≡◌, List, refl, sym, subst}
use Rattle.std.specs.Prelude.{IsTrue}
use Rattle.dc_model.specs.Event.{Action}
use Rattle.dc_transmit.specs.Standing.{Standing}
use Rattle.dc_reply.specs.Draft.{Draft, draft_of}
use Rattle.dc_machine.specs.Turn.{State, Turned}
use Rattle.dc_desk.specs.declared.outcome.Outcome.{Outcome}
use Rattle.dc_desk.specs.declared.outcome.Outcome.TheVariants.{Replied}
use Rattle.dc_resolve.specs.Steps.{Ends}
use Rattle.dc_resolve.specs.Turns.{TookTurned}

-- Where a query is replied to, the reply is begun.
pub begun : {O : Type 0} (acted : O → List Action → O → Type 0) (a b : O) (t : Turned) (s : State) (d : Draft) (w : Standing) (answer : Outcome) →
    TookTurned acted a b t s d w answer → answer ≡ Replied → IsTrue d.begun
unfolding draft_of
begun acted a b t s d w answer h e =
    let x : Ends Replied d w h.outcome = subst (λ (o : Outcome). Ends o d w h.outcome) e h.ends in
    subst (λ (y : Draft). IsTrue y.begun) (sym x.2) refl
