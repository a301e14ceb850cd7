use Rattle.std.proofs.Common.{◌≡◌, true, [], inr, refl, sym, ap, ◌∙◌}
use Rattle.dc_event.specs.Causes.{count_where}
use Rattle.dc_commands.specs.declared.command.Command.TheVariants.{Replay, Simulate, Audit, Unknown}
use Rattle.dc_status.specs.declared.status.Status.TheVariants.{Usage}
use Rattle.dc_simulate.specs.Told.{summary_of, writes_well}
use Rattle.dc_status.specs.Faults.{fault_of, files_well, source_well, sink_well, world_well}
use Rattle.dc_commands.proofs.Promised.{kept_for}
use Rattle.dc_status.proofs.FareLemmas.{simulated_sink, simulated_files, simulated_source, simulated_world, simulated_usage, fares_as}
use Rattle.dc_commands.proofs.FareLemmas.{kept_files, kept_world, simulates, audited_source, audited_world, audited_known}
use Rattle.dc_commands.proofs.command.dnscache.Goals as goal

pub returns-in-Replay-clause-usage : goal.returns-in-Replay-clause-usage
returns-in-Replay-clause-usage g c = (
  λ e. absurd (kept_for _ _ _ _ Usage (c.replay_command.ensures.replayed.keeps [] (inr refl)) e),
  λ e. let other : Replay ≡ Unknown = sym c.in-Replay.is ∙ c.of.ensures ∙ e in cc,
)

pub returns-in-Replay-clause-files_fare : goal.returns-in-Replay-clause-files_fare
returns-in-Replay-clause-files_fare g c =
    let files = g.F.Files in
    let well = kept_files _ _ _ c.replay_command.result (c.replay_command.ensures.replayed.keeps [] (inr refl)) in
    fares_as files.asked files.refused files.faults c.args.files.now c.args.files.now true (files_well (fault_of c.replay_command.result)) (sym well) refl

pub returns-in-Replay-clause-world_fares : goal.returns-in-Replay-clause-world_fares
returns-in-Replay-clause-world_fares g c =
    let well = kept_world _ _ _ c.replay_command.result (c.replay_command.ensures.replayed.keeps [] (inr refl)) in
    ap (λ b. count_where b (g.W.World.faults c.args.world.now)) (sym well)

pub returns-in-Simulate-clause-usage : goal.returns-in-Simulate-clause-usage
returns-in-Simulate-clause-usage g c = (
  λ e. absurd (simulated_usage c.simulate_command.result (sym c.from.ensures ∙ e)),
  λ e. let other : Simulate c.in-Simulate.seed c.in-Simulate.events ≡ Unknown = sym c.in-Simulate.is ∙ c.of.ensures ∙ e in cc,
)

pub returns-in-Simulate-clause-files_fare : goal.returns-in-Simulate-clause-files_fare
returns-in-Simulate-clause-files_fare g c =
    let files = g.F.Files in
    let well = ap (λ s. files_well (fault_of s)) c.from.ensures ∙ simulated_files c.simulate_command.result in
    fares_as files.asked files.refused files.faults c.args.files.now c.args.files.now true (files_well (fault_of c.from.result)) (sym well) refl

pub returns-in-Simulate-clause-source_fares : goal.returns-in-Simulate-clause-source_fares
returns-in-Simulate-clause-source_fares g c = λ other.
    let source = g.S.Source in
    let well = ap (λ s. source_well (fault_of s)) c.from.ensures ∙ simulated_source c.simulate_command.result in
    fares_as source.took source.refused source.faults c.args.source.now c.args.source.now true (source_well (fault_of c.from.result)) (sym well) refl

pub returns-in-Simulate-clause-sink_fares : goal.returns-in-Simulate-clause-sink_fares
returns-in-Simulate-clause-sink_fares g c = λ other.
    let sink = g.K.Sink in
    let well = simulated_sink c.simulate_command.result ∙ ap (λ s. sink_well (fault_of s)) (sym c.from.ensures) in
    fares_as sink.gained sink.refused sink.faults _ _ (writes_well c.simulate_command.result) (sink_well (fault_of c.from.result)) well c.simulate_command.ensures.fares

pub returns-in-Simulate-clause-world_fares : goal.returns-in-Simulate-clause-world_fares
returns-in-Simulate-clause-world_fares g c =
    let well = ap (λ s. world_well (fault_of s)) c.from.ensures ∙ simulated_world c.simulate_command.result in
    ap (λ b. count_where b (g.W.World.faults c.args.world.now)) (sym well)

pub returns-in-Simulate-clause-simulated : goal.returns-in-Simulate-clause-simulated
returns-in-Simulate-clause-simulated g c = λ seed events e.
    let same : Simulate c.in-Simulate.seed c.in-Simulate.events ≡ Simulate seed events = sym c.in-Simulate.is ∙ c.of.ensures ∙ e in
    let wrote = simulates g.K.Sink.gained c.simulate_command.result c.from.result _ _ _ c.from.ensures c.simulate_command.ensures.told in
    let one : c.in-Simulate.seed ≡ seed = cc in
    let other : c.in-Simulate.events ≡ events = cc in
    rw (← one, ← other) wrote

pub returns-in-Audit-clause-usage : goal.returns-in-Audit-clause-usage
returns-in-Audit-clause-usage g c = (
  λ e. absurd (audited_known _ _ _ _ _ _ _ _ c.audit_command.result c.audit_command.ensures.audited e),
  λ e. let other : Audit ≡ Unknown = sym c.in-Audit.is ∙ c.of.ensures ∙ e in cc,
)

pub returns-in-Audit-clause-source_fares : goal.returns-in-Audit-clause-source_fares
returns-in-Audit-clause-source_fares g c = λ other.
    let source = g.S.Source in
    let well = audited_source _ _ _ _ _ _ _ _ c.audit_command.result c.audit_command.ensures.audited in
    fares_as source.took source.refused source.faults c.args.source.now c.args.source.now true (source_well (fault_of c.audit_command.result)) (sym well) refl

pub returns-in-Audit-clause-world_fares : goal.returns-in-Audit-clause-world_fares
returns-in-Audit-clause-world_fares g c =
    let well = audited_world _ _ _ _ _ _ _ _ c.audit_command.result c.audit_command.ensures.audited in
    ap (λ b. count_where b (g.W.World.faults c.args.world.now)) (sym well)
