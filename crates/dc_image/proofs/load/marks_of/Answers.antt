use Rattle.std.proofs.Common.{◌≡◌, true, take, sym, ◌∙◌}
use Rattle.std.specs.Prelude.{bytes_eq}
use Rattle.std.proofs.lemmas.Bool.{not-false}
use Rattle.std.proofs.lemmas.Slice.Eq.{bytes_eq-Decides}
use Rattle.dc_image.specs.Image.{marks_in}
use Rattle.dc_image.proofs.load.marks_of.Goals as goal

pub returns : goal.returns
unfolding marks_in
returns c =
    let same : bytes_eq (take 8 c.args.head.now) c.as_slice.result.now ≡ true = not-false _ (sym c.if-ne.ensures) in
    let equal : take 8 c.args.head.now ≡ c.as_slice.result.now = (bytes_eq-Decides (take 8 c.args.head.now) c.as_slice.result.now).0 same in
    record {
      long = c.told-head;
      signed = equal ∙ c.as_slice.ensures;
      sized = sym c.word_at.ensures ∙ c.if-word_at-size.false;
      marks = λ i. record { writer = sym c.word_at-2.ensures i; oldest = sym c.word_at-3.ensures i; unused = sym c.word_at-4.ensures i };
    }
