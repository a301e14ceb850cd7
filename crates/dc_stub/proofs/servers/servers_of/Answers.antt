use Rattle.std.proofs.Common.{List, ℕ, Option, Some, None, ap, sym, ◌∙◌}
use Rattle.std.specs.Prelude.{codes}
use Rattle.dc_model.specs.Places.{places_of}
use Rattle.dc_event.specs.Causes.{failed_now}
use Rattle.dc_config.specs.Environment.{value_of}
use Rattle.dc_lookup.specs.Servers.{or_own, servers_in}
use Rattle.dc_stub.proofs.ServerLemmas.{of_variable, of_file, variable_there, file_there}
use Rattle.dc_stub.proofs.servers.servers_of.Goals as goal

pub returns-in-Some-clause-servers : goal.returns-in-Some-clause-servers
returns-in-Some-clause-servers g c t e = of_variable _ _ c.in-Some.server (sym c.own_server.ensures ∙ c.in-Some.is)

pub returns-in-Bytes-clause-servers : goal.returns-in-Bytes-clause-servers
returns-in-Bytes-clause-servers g c t e =
    of_file _ _ _ (sym c.own_server.ensures ∙ c.in_default.is)
    (c.read_nameservers.ensures ∙ ap (λ (b : List ℕ). places_of (or_own (servers_in (Some b)))) c.deref.ensures.value
    ∙ ap (λ (o : Option (List ℕ)). places_of (or_own (servers_in o))) (sym (c.in-Bytes.ensures.bytes t e)))

pub returns-in-Absent-clause-servers : goal.returns-in-Absent-clause-servers
returns-in-Absent-clause-servers g c t e =
    of_file _ _ _ (sym c.own_server.ensures ∙ c.in_default.is)
    (c.read_nameservers-in-Absent.ensures ∙ ap (λ (o : Option (List ℕ)). places_of (or_own (servers_in o))) (sym (c.in-Absent.ensures.bytes t e)))

pub returns-in-Some-clause-place : goal.returns-in-Some-clause-place
returns-in-Some-clause-place g c = variable_there (value_of (codes "DNSCACHEIP") c.args.env.now) c.in-Some.server (sym c.own_server.ensures ∙ c.in-Some.is)

pub returns-in-Bytes-clause-place : goal.returns-in-Bytes-clause-place
returns-in-Bytes-clause-place g c = file_there (value_of (codes "DNSCACHEIP") c.args.env.now) (Some c.deref.result.now) c.read_nameservers.result (sym c.own_server.ensures ∙ c.in_default.is) c.read_nameservers.ensures

pub returns-in-Absent-clause-place : goal.returns-in-Absent-clause-place
returns-in-Absent-clause-place g c =
    file_there (value_of (codes "DNSCACHEIP") c.args.env.now) None c.read_nameservers-in-Absent.result (sym c.own_server.ensures ∙ c.in_default.is) c.read_nameservers-in-Absent.ensures

pub returns-in-Failed-clause-fares : goal.returns-in-Failed-clause-fares
returns-in-Failed-clause-fares g c = failed_now g.F.Files.asked g.met.F.Files.asked_none g.F.Files.refused g.F.Files.faults _ _ c.in-Failed.ensures.failed c.in-Failed.ensures.count
