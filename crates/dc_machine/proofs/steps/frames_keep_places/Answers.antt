use Rattle.dc_model.specs.Message.{Request}
use Rattle.dc_model.specs.Rules.{Rules, Zones}
use Rattle.dc_machine.specs.Query.{Query, query_for}
use Rattle.dc_machine.specs.Kept.{AllOf, HavePlaces, ZonesHavePlaces}
use Rattle.dc_machine.specs.Run.{opening, run}
use Rattle.dc_machine.proofs.Places.{turn_placed}
use Rattle.dc_machine.proofs.Each.{step_each, taken_each}
use Rattle.dc_machine.proofs.steps.frames_keep_places.Goals as goal

no_frames : (r : Request) → HavePlaces (query_for r).frames
unfolding HavePlaces
no_frames r = tt

pub returns-clause-step : goal.returns-clause-step
returns-clause-step c rules m e draws z h =
    step_each (λ (x : Zones). ZonesHavePlaces x) (λ (q : Query). HavePlaces q.frames) no_frames (λ g p s. turn_placed g p s) rules m e draws z h

pub returns-clause-run : goal.returns-clause-run
unfolding run AllOf
returns-clause-run c rules draws cache es z =
    taken_each (λ (x : Zones). ZonesHavePlaces x) (λ (q : Query). HavePlaces q.frames) no_frames (λ g p s. turn_placed g p s) rules draws 0 (opening cache) es z tt
