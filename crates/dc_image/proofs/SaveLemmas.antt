-- What is put of an image.
use Rattle.std.proofs.Common.{◌≡◌, ℕ, List, ◌++◌, length, sym, ◌∙◌, ap, subst, append_assoc}
use Rattle.dc_model.specs.Cache.{Cache}
use Rattle.dc_chain.specs.declared.Marks.{Marks}
use Rattle.dc_ring.specs.Image.{writer_of, oldest_of, unused_of, IsImage as IsBlock}
use Rattle.dc_event.specs.Told.{GainedFront}
use Rattle.dc_image.specs.Image.{IsImage, head_of, image_of}
use Rattle.dc_image.specs.Loaded.{marked}
use Rattle.dc_image.proofs.ImageLemmas.{image_there}

-- the marks of a cache
abbrev marks_of : Cache → Marks
marks_of c = record { writer = writer_of c; oldest = oldest_of c; unused = unused_of c }

-- A head with a cache's marks, and its block, are its image.
pub made : (block : List ℕ) (c : Cache) (marks : Marks) (head : List ℕ) → IsBlock block c → marks ≡ record { writer = writer_of c; oldest = oldest_of c; unused = unused_of c }
    → head ≡ head_of (length block) (marked marks) → IsImage c.size (head ++ block) c
unfolding image_of
made block c marks head l m h =
    let e : head ≡ head_of (length block) (marked (marks_of c)) = h ∙ ap (λ k. head_of (length block) (marked k)) m in
    let whole : IsImage (length block) (image_of (marked (marks_of c)) block) c = image_there (marked (marks_of c)) block c l in
    subst (λ n. IsImage n (head ++ block) c) l.holds.block (subst (λ x. IsImage (length block) (x ++ block) c) (sym e) whole)

module _ {O : Type 0} (gained : O → List ℕ → O → Type 0) (both : (a b c : O) (xs ys : List ℕ) → gained a xs b → gained b ys c → gained a (xs ++ ys) c) where
  -- a front of the block behind the whole head
  pub front_behind : (old mid new : O) (head block : List ℕ) → gained old head mid → GainedFront gained mid block new → GainedFront gained old (head ++ block) new
  front_behind old mid new head block g f = (
    head ++ f.0,
    (f.1.0, ap (λ x. head ++ x) f.1.1 ∙ sym (append_assoc head f.0 f.1.0)),
    both old mid new head f.0 g f.2,
  )

  -- a front of the head
  pub front_before : (old new : O) (head block : List ℕ) → GainedFront gained old head new → GainedFront gained old (head ++ block) new
  front_before old new head block f = (f.0, (f.1.0 ++ block, ap (λ x. x ++ block) f.1.1 ∙ append_assoc f.0 f.1.0 block), f.2)
