use Rattle.dc_machine.specs.Machine.{Active}
use Rattle.dc_machine.specs.Kept.{IsApart, IsOther}
use Rattle.dc_machine.specs.Run.{opening, run, last_of}
use Rattle.dc_machine.proofs.Lists.{pairs_map}
use Rattle.dc_machine.proofs.Sound.{opening_sound, taken_sound}
use Rattle.dc_machine.proofs.steps.connections_have_one_query.Goals as goal

pub returns : goal.returns
unfolding run
returns c rules draws cache es =
    pairs_map IsApart (λ (a b : Active). IsOther a.client b.client) (last_of (opening cache) (run rules draws cache es)).queries (λ a b d. d.clients)
    (taken_sound rules draws 0 (opening cache) es (opening_sound cache)).apart
