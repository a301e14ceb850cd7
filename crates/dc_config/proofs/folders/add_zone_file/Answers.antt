use Rattle.std.proofs.Common.{◌≡◌, true, false, sym, ap, ◌∙◌}
use Rattle.dc_model.specs.Rules.{add_zone, read_servers}
use Rattle.dc_config.specs.Folders.{is_shown}
use Rattle.dc_config.proofs.Zoned.{zone_hidden, zone_unnamed, zone_is_added, zone_is_refused, zone_absent}
use Rattle.dc_config.proofs.folders.add_zone_file.Goals as goal

pub returns-then-not-is_shown-clause-zones : goal.returns-then-not-is_shown-clause-zones
returns-then-not-is_shown-clause-zones g c = λ t e.
    let hidden : is_shown c.args.file ≡ false = cc in
    zone_hidden t c.args.file c.args.zones.now hidden

pub returns-in_default-clause-zones : goal.returns-in_default-clause-zones
returns-in_default-clause-zones g c = λ t e.
    let shown : is_shown c.args.file ≡ true = cc in
    zone_unnamed t c.args.file c.args.zones.now shown (sym c.zone_named.ensures ∙ c.in_default.is)

pub returns-in-Ok-clause-zones : goal.returns-in-Ok-clause-zones
returns-in-Ok-clause-zones g c = λ t e.
    let shown : is_shown c.args.file ≡ true = cc in
    let servers = c.read_servers.ensures ∙ ap read_servers c.deref.ensures.value in
    zone_is_added t c.args.file c.as_str.result.now c.in-Bytes.text.items c.args.zones.now c.add.new.self c.in-Some.name shown (sym c.zone_named.ensures ∙ c.in-Some.is)
    (c.as_str.ensures.value ∙ c.in_ok-path.ensures) (c.in-Bytes.ensures.bytes t e) (ap (λ x. add_zone c.in-Some.name x c.args.zones.now) (sym servers) ∙ c.in-Ok.ensures.added)

pub returns-in-Err-clause-zones : goal.returns-in-Err-clause-zones
returns-in-Err-clause-zones g c = λ t e.
    let shown : is_shown c.args.file ≡ true = cc in
    let servers = c.read_servers.ensures ∙ ap read_servers c.deref.ensures.value in
    zone_is_refused t c.args.file c.as_str.result.now c.in-Bytes.text.items c.args.zones.now _ c.in-Some.name shown (sym c.zone_named.ensures ∙ c.in-Some.is)
    (c.as_str.ensures.value ∙ c.in_ok-path.ensures) (c.in-Bytes.ensures.bytes t e) (ap (λ x. add_zone c.in-Some.name x c.args.zones.now) (sym servers) ∙ c.in-Err.ensures.added)

pub returns-in-Absent-clause-zones : goal.returns-in-Absent-clause-zones
returns-in-Absent-clause-zones g c = λ t e.
    let shown : is_shown c.args.file ≡ true = cc in
    zone_absent t c.args.file c.as_str.result.now c.args.zones.now c.in-Some.name shown (sym c.zone_named.ensures ∙ c.in-Some.is) (c.as_str.ensures.value ∙ c.in_ok-path.ensures) (c.in-Absent.ensures.bytes t e)
