use Rattle.std.proofs.Common.{rules, subst, ap, ◌∙◌}
use Rattle.std.specs.List.{AllByRecursion}
use Rattle.dc_model.specs.Name.{IsName, lower}
use Rattle.dc_model.proofs.ZoneLemmas.{lower-lower}
use Rattle.dc_script.specs.Text.{IsAddress}
use Rattle.dc_record.proofs.typed.is_zone.Goals as goal

pub returns : goal.returns
returns c = record {
  name = subst (λ n. IsName n) (c.lower-name.ensures ∙ ap lower c.name.ensures.name) c.wire.ensures.name;
  lowered = lower-lower c.args.zone.now.name;
  sixteen = search rules;
  octets = subst (λ l. AllByRecursion IsAddress l) c.servers.ensures.servers c.are_addresses.ensures;
}
