use Rattle.dc_frames.specs.View.{query_of, alias_of}
use Rattle.dc_answer.specs.Replies.{first_aliases}
use Rattle.dc_answer.proofs.Making.{Replies-begun}
use Rattle.dc_answer.proofs.Aliases.{alias_added}
use Rattle.dc_answer.proofs.begin.add_alias.Goals as goal

pub rr-requires : goal.rr-requires
rr-requires c = Replies-begun c.args.reply.now (first_aliases c.args.i (query_of c.args.query.now)) c.requires.before

pub returns : goal.returns
returns c =
    alias_added (query_of c.args.query.now) c.args.i (alias_of c.alias-alias.result.now) c.target.result.now c.rr.result c.args.reply.now c.rr.new.self
    c.alias-alias.ensures c.target.ensures c.requires.before c.rr.ensures.fits c.rr.ensures.added
