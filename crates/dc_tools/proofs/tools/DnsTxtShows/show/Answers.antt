use Rattle.dc_lookup.specs.Words.{shown_by}
use Rattle.dc_tools.proofs.RunLemmas.{shown_from}
use Rattle.dc_tools.proofs.tools.DnsTxtShows.show.Goals as goal

pub returns-clause-whole : goal.returns-clause-whole
unfolding shown_by
returns-clause-whole g c m e = shown_from g.K.Sink.gained c.show_txt.result _ _ _ (c.show_txt.ensures.whole m e)
