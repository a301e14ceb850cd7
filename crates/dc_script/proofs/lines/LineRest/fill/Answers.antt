use Rattle.std.proofs.Common.{◌≡◌, ◌-◌, take, drop, length, arith, ap, ◌∙◌, ◌++◌, length-drop}
use Rattle.dc_event.specs.Answers.{taken_by}
use Rattle.dc_script.proofs.Filling.{filled, length-taken, copied}
use Rattle.dc_script.proofs.lines.LineRest.fill.Goals as goal

pub returns-clause-took : goal.returns-clause-took
returns-clause-took g c =
    let start = c.self.inside.start in
    let end = c.self.inside.end in
    let held = c.self.inside.end - c.self.inside.start in
    let new = c.take_behind-taken.new.buffer in
    let old = c.copy_within.new.self.items in
    let t = c.take_behind-taken.result in
    let same : length new ≡ length old = omega (arith, c.take_behind-taken.auto.buffer, ap length c.deref_mut.ensures.value) in
    let room : c.copy_within.new.self.len ≡ length old = omega (arith, c.copy_within.new.self.ok.0) in
    let front : take held new ≡ take held old = c.take_behind-taken.ensures.front ∙ ap (take held) c.deref_mut.ensures.value in
    let rest : take held old ≡ c.args.self.now.rest =
    ap (take held) c.copy_within.ensures.items ∙ copied c.self.inside.buffer.items start end (omega arith) (omega arith) ∙ ap (λ h. h.rest) c.self.view_is in
    let more = filled new old c.copy_within.new.self.len held t same room front in (
      taken_by t (drop held new),
      c.take_behind-taken.ensures.took,
      rw c.count_taken.ensures (more ∙ ap (λ l. l ++ taken_by t (drop held new)) rest),
      length-taken t (drop held new) (omega (arith, length-drop held new, c.take_behind-taken.ensures.bound)),
    )
