use Rattle.std.proofs.Common.{◌∙◌, ap}
use Rattle.std.specs.Str.{str_to_ascii_lowercase}
use Rattle.dc_model.specs.Name as model
use Rattle.dc_name.proofs.WireLemmas.{lowered_is}
use Rattle.dc_name.proofs.name.Name.lower.Goals as goal

pub invariant_of-result : goal.invariant_of-result
invariant_of-result c = (lowered_is _ c.lowercase.new.bytes.items c.self.invariant (c.lowercase.ensures ∙ ap str_to_ascii_lowercase (c.copied-bytes.ensures ∙ c.as_slice.ensures.value))).0

pub returns : goal.returns
returns c =
    (lowered_is _ c.lowercase.new.bytes.items c.self.invariant (c.lowercase.ensures ∙ ap str_to_ascii_lowercase (c.copied-bytes.ensures ∙ c.as_slice.ensures.value))).1
    ∙ ap model.lower c.self.view_is
