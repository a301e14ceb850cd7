use Rattle.std.proofs.Common.{◌++◌, map, ap, ◌∙◌}
use Rattle.dc_script.specs.Head.{head_of as head_read}
use Rattle.dc_script.specs.Read.{end_text}
use Rattle.dc_record.specs.HeadOf.{head_of}
use Rattle.dc_record.specs.Plain.{plain}
use Rattle.dc_record.specs.Recorded.{lines_of}
use Rattle.dc_recording.specs.Rooted.{rooted}
use Rattle.dc_recording.specs.Recording.{head_lines}
use Rattle.dc_recording.proofs.LawLemmas.{recorded_said, recorded_plays}
use Rattle.dc_commands.specs.Replay.{with_status}
use Rattle.dc_commands.proofs.Complete.{whole_comes}
use Rattle.dc_commands.proofs.laws.recorded_runs_come_to_done.Goals as goal

pub returns : goal.returns
returns c = λ config seed events limit told bounds octets few.
    whole_comes (head_read ((head_lines config seed ++ lines_of events) ++ end_text)) (head_of (rooted config) seed) (map plain events) limit (recorded_said config seed events told bounds octets)
    ∙ ap with_status (recorded_plays config seed events limit few)
