use Rattle.std.proofs.Common.{◌≡◌, ap, ◌∙◌}
use Rattle.dc_model.specs.Line.{line_stats}
use Rattle.dc_desk.specs.View.{setting_of}
use Rattle.dc_desk.specs.declared.desk.Counts.{Counts}
use Rattle.dc_heard.proofs.told.tell.Goals as goal

pub returns-clause-acts : goal.returns-clause-acts
unfolding setting_of
returns-clause-acts g c =
    let own : Counts = c.args.desk.now.counts in
    let counts : c.remember.new.desk.counts ≡ own = ap (λ d. d.counts) c.remember.ensures.rest in
    let text : c.text.result.now ≡ line_stats own.accepted (g.S.Store.cache c.remember.new.desk.store).motion own.udp own.tcp
    = c.text.ensures.bytes ∙ c.line_stats.ensures
    ∙ ap (λ n. line_stats c.remember.new.desk.counts.accepted n c.remember.new.desk.counts.udp c.remember.new.desk.counts.tcp) c.motion.ensures
    ∙ ap (λ (x : Counts). line_stats x.accepted (g.S.Store.cache c.remember.new.desk.store).motion x.udp x.tcp) counts in
    g.met.O.Effects.acted_both _ _ _ _ _ c.remember.ensures.acts (rw text at c.line.ensures)
