use Rattle.std.proofs.Common.{◌++◌, [], length, subst, Err, ap, sym, refl, ◌∙◌}
use Rattle.dc_event.specs.Causes.{fares_behind}
use Rattle.dc_model.specs.Draws.{draws_of}
use Rattle.dc_script.specs.Heads.{head_at, HeadStands}
use Rattle.dc_script.specs.Head.{head_of}
use Rattle.dc_script.specs.Script.{pieces_of}
use Rattle.dc_play.specs.Playing.{run_of, limit_of, reads_well, writes_well}
use Rattle.dc_core.specs.Running.{core_machine}
use Rattle.dc_status.specs.Faults.{fault_of, source_well, sink_well}
use Rattle.dc_status.proofs.FareLemmas.{played_source, played_sink, played_done, played_in_memory, fares_as}
use Rattle.dc_serving.proofs.MachineRuns.{run_from}
use Rattle.dc_commands.proofs.Promised.{other_keeps, nothing_whole, behind_keeps}
use Rattle.dc_commands.proofs.Trusted.{script_trusted}
use Rattle.dc_commands.proofs.replay.replay_command.Goals as goal

pub returns-in-Err-Bad-clause-replayed : goal.returns-in-Err-Bad-clause-replayed
returns-in-Err-Bad-clause-replayed g c =
    let head = c.in-Err-Bad.ensures.head in
    let stands = subst (λ e. HeadStands (Err e) head.0 (g.S.Source.left c.read_head.new.source)) c.in-Err-Bad.field-0-is head.2 in
    record {
      bytes = head.0;
      text = [];
      taken = head.1;
      written = g.met.K.Sink.gained_none c.args.sink.now;
      keeps = λ tail follows. rw c.in-Err-Bad.field-0-is (other_keeps (limit_of c.args.turns) c.in-Err-Bad.line (head_of (head.0 ++ tail)) [] (stands tail follows));
      trust = λ tail follows. script_trusted (head.0 ++ tail);
      end = λ e. cc;
      unwritten = λ e. refl;
    }

pub returns-in-Err-ReadFault-clause-replayed : goal.returns-in-Err-ReadFault-clause-replayed
returns-in-Err-ReadFault-clause-replayed g c =
    let head = c.in-Err-ReadFault.ensures.head in
    let stands = subst (λ e. HeadStands (Err e) head.0 (g.S.Source.left c.read_head.new.source)) c.in-Err-ReadFault.field-0-is head.2 in
    record {
      bytes = head.0;
      text = [];
      taken = head.1;
      written = g.met.K.Sink.gained_none c.args.sink.now;
      keeps = λ tail follows. nothing_whole (length (pieces_of head.0)) (head_of head.0) stands;
      trust = λ tail follows. script_trusted (head.0 ++ tail);
      end = λ e. cc;
      unwritten = λ e. refl;
    }

pub returns-clause-replayed : goal.returns-clause-replayed
returns-clause-replayed g c =
    let script = c.in-Ok-read_head.script in
    let head = c.in-Ok-read_head.ensures.head in
    let told = c.play.ensures.told in
    let core = c.in-Ok-core_of.core in
    record {
      bytes = head.0 ++ told.0;
      text = told.1.0;
      taken = g.met.S.Source.took_both _ _ _ _ _ head.1 told.1.1;
      written = told.1.2;
      keeps = λ tail follows. behind_keeps (run_of core_machine (draws_of script.seed) core) (limit_of c.args.turns) script.lines (head_at script) head.0 script.rest.rest told.0 tail told.1.0
          c.play.result c.from.result (run_from core script.config script.seed c.in-Ok-core_of.ensures.opening) head.2 (told.1.3 tail follows) c.from.ensures;
      trust = λ tail follows. script_trusted ((head.0 ++ told.0) ++ tail);
      end = λ e. c.play.ensures.end (played_done c.play.result (sym c.from.ensures ∙ e));
      unwritten = λ e. played_in_memory c.play.result _ (sym c.from.ensures ∙ e);
    }

pub returns-clause-source_fares : goal.returns-clause-source_fares
returns-clause-source_fares g c =
    let head = c.in-Ok-read_head.ensures.head in
    let source = g.S.Source in
    fares_as source.took source.refused source.faults _ _ (reads_well c.play.result) _ (played_source c.play.result ∙ ap (λ s. source_well (fault_of s)) (sym c.from.ensures))
    (fares_behind source.took g.met.S.Source.took_both source.refused source.faults (reads_well c.play.result) _ _ _ _ head.1 c.in-Ok-read_head.ensures.fares c.play.ensures.read)

pub returns-clause-sink_fares : goal.returns-clause-sink_fares
returns-clause-sink_fares g c =
    let sink = g.K.Sink in
    fares_as sink.gained sink.refused sink.faults _ _ (writes_well c.play.result) _ (played_sink c.play.result ∙ ap (λ s. sink_well (fault_of s)) (sym c.from.ensures)) c.play.ensures.write

pub returns-in_default-clause-replayed : goal.returns-in_default-clause-replayed
returns-in_default-clause-replayed g c = record {
  bytes = [];
  text = [];
  taken = g.met.S.Source.took_none c.args.source.now;
  written = g.met.K.Sink.gained_none c.args.sink.now;
  keeps = λ tail follows. refl;
  trust = λ tail follows. script_trusted tail;
  end = λ e. cc;
  unwritten = λ e. refl;
}

pub returns-in-Err-NoMemory-clause-replayed : goal.returns-in-Err-NoMemory-clause-replayed
returns-in-Err-NoMemory-clause-replayed g c =
    let head = c.in-Err-NoMemory.ensures.head in
    record {
      bytes = head.0;
      text = [];
      taken = head.1;
      written = g.met.K.Sink.gained_none c.args.sink.now;
      keeps = λ tail follows. refl;
      trust = λ tail follows. script_trusted (head.0 ++ tail);
      end = λ e. cc;
      unwritten = λ e. refl;
    }

pub returns-in_default-core_of-clause-replayed : goal.returns-in_default-core_of-clause-replayed
returns-in_default-core_of-clause-replayed g c =
    let head = c.in-Ok-read_head.ensures.head in
    record {
      bytes = head.0;
      text = [];
      taken = head.1;
      written = g.met.K.Sink.gained_none c.args.sink.now;
      keeps = λ tail follows. refl;
      trust = λ tail follows. script_trusted (head.0 ++ tail);
      end = λ e. cc;
      unwritten = λ e. refl;
    }
