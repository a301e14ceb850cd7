use Rattle.std.proofs.Common.{length, ◌∙◌, ap}
use Rattle.std.specs.Prelude.{nat_lt}
use Rattle.std.specs.Option.{unwrap_or}
use Rattle.dc_active.specs.declared.entry.Entry.{Entry}
use Rattle.dc_active.proofs.ListLemmas.{place_or_len}
use Rattle.dc_active.proofs.entry.place_for.Goals as goal

pub returns : goal.returns
returns c =
    c.unwrap_or.ensures
    ∙ ap (λ o. unwrap_or o (length c.args.entries.now)) c.find_after.ensures
    ∙ place_or_len (λ (e : Entry). nat_lt c.args.serial e.serial) c.args.entries.now
