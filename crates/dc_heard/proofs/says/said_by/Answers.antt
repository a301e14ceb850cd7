use Rattle.std.proofs.Common.{◌≡◌, ℕ, refl, ap, sym, ◌∙◌, subst, Option}
use Rattle.std.specs.Option.{IsSome}
use Rattle.dc_model.specs.Message as model
use Rattle.dc_model.specs.Marks as marks
use Rattle.dc_model.specs.Marks.{class_of}
use Rattle.dc_marks.specs.Places.{record_in}
use Rattle.dc_heard.specs.Said.{marks_found}
use Rattle.dc_heard.proofs.Saying.{found_lame, found_alias, found_referral, number_within}
use Rattle.dc_heard.proofs.says.said_by.Goals as goal

pub unwrap-requires : goal.unwrap-requires
unwrap-requires c =
    let m = c.args.message.now in
    let n = found_lame c.args.control.now (model.rcode m) m c.args.found.now (sym (c.class_of.ensures (marks_found m c.args.found.now) c.requires) ∙ c.in-Lame.is) in
    subst (λ (o : Option ℕ). IsSome o) (sym n.1) refl

pub unwrap-requires-in-Alias : goal.unwrap-requires-in-Alias
unwrap-requires-in-Alias c =
    let m = c.args.message.now in
    let n = found_alias c.args.control.now (model.rcode m) m c.args.found.now (sym (c.class_of.ensures (marks_found m c.args.found.now) c.requires) ∙ c.in-Alias.is) in
    subst (λ (o : Option ℕ). IsSome o) (sym n.1) refl

pub unwrap-requires-in-Referral : goal.unwrap-requires-in-Referral
unwrap-requires-in-Referral c =
    let m = c.args.message.now in
    let n = found_referral c.args.control.now (model.rcode m) m c.args.found.now (sym (c.class_of.ensures (marks_found m c.args.found.now) c.requires) ∙ c.in-Referral.is) in
    subst (λ (o : Option ℕ). IsSome o) (sym n.1) refl

pub returns-in-Lame-clause-class : goal.returns-in-Lame-clause-class
returns-in-Lame-clause-class c =
    let m = c.args.message.now in
    let n = found_lame c.args.control.now (model.rcode m) m c.args.found.now (sym (c.class_of.ensures (marks_found m c.args.found.now) c.requires) ∙ c.in-Lame.is) in
    let e : c.unwrap.result ≡ n.0 = cc (c.unwrap.ensures, n.1) in
    ap (λ i. marks.lame (record_in m i).owner) e ∙ n.2

pub returns-in-Lame-clause-within : goal.returns-in-Lame-clause-within
returns-in-Lame-clause-within c =
    let m = c.args.message.now in
    number_within m.records c.unwrap.result c.args.found.now.referral (marks_found m c.args.found.now).referral c.requires.referral (cc (c.unwrap.ensures))

pub returns-in-Alias-clause-class : goal.returns-in-Alias-clause-class
returns-in-Alias-clause-class c =
    let m = c.args.message.now in
    let n = found_alias c.args.control.now (model.rcode m) m c.args.found.now (sym (c.class_of.ensures (marks_found m c.args.found.now) c.requires) ∙ c.in-Alias.is) in
    let e : c.unwrap-in-Alias.result ≡ n.0 = cc (c.unwrap-in-Alias.ensures, n.1) in
    ap (λ i. marks.renames (record_in m i)) e ∙ n.2

pub returns-in-Alias-clause-within : goal.returns-in-Alias-clause-within
returns-in-Alias-clause-within c =
    let m = c.args.message.now in
    number_within m.records c.unwrap-in-Alias.result c.args.found.now.alias (marks_found m c.args.found.now).alias c.requires.alias (cc (c.unwrap-in-Alias.ensures))

pub returns-in-Referral-clause-class : goal.returns-in-Referral-clause-class
returns-in-Referral-clause-class c =
    let m = c.args.message.now in
    let n = found_referral c.args.control.now (model.rcode m) m c.args.found.now (sym (c.class_of.ensures (marks_found m c.args.found.now) c.requires) ∙ c.in-Referral.is) in
    let e : c.unwrap-in-Referral.result ≡ n.0 = cc (c.unwrap-in-Referral.ensures, n.1) in
    ap (λ i. marks.refers (record_in m i).owner) e ∙ n.2

pub returns-in-Referral-clause-within : goal.returns-in-Referral-clause-within
returns-in-Referral-clause-within c =
    let m = c.args.message.now in
    number_within m.records c.unwrap-in-Referral.result c.args.found.now.referral (marks_found m c.args.found.now).referral c.requires.referral (cc (c.unwrap-in-Referral.ensures))
