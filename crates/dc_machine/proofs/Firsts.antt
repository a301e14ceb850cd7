-- The earliest holder is no later than any other.
use Rattle.std.proofs.Common.{◌≡◌, ◌≢◌, List, [], ◌∷◌, Option, Some, None, refl, sym, ◌∙◌, ap, subst}
use Rattle.std.specs.Cmp.Lexicographic.{slice_cmp}
use Rattle.std.specs.Ordering.{nat_cmp, ordering_reverse}
use Rattle.std.specs.declared.cmp.Ordering.{Ordering}
use Rattle.std.specs.declared.cmp.Ordering.TheVariants.{Less, Equal, Greater}
use Rattle.std.proofs.lemmas.Cmp.{nat_list_cmp_total}
use Rattle.dc_machine.specs.Machine.{Holder, place_of, earlier_by, earlier, earliest}
use Rattle.dc_machine.specs.Kept.{AllOf}
use Rattle.dc_machine.proofs.Lists.{all_map}

-- one holder isn't later than another
abbrev Before : Holder → Holder → Type 0
Before h k = slice_cmp nat_cmp (place_of h) (place_of k) ≢ Greater

not_greater : (o : Ordering) → o ≢ Greater → ordering_reverse o ≢ Less
not_greater Less n e = absurd (cc)
not_greater Equal n e = absurd (cc)
not_greater Greater n e = n refl

before_self : (h : Holder) → Before h h
before_self h e = let r = nat_list_cmp_total.antisymm (place_of h) (place_of h) in absurd (own (slice_cmp nat_cmp (place_of h) (place_of h)) e r) where
  own : (o : Ordering) → o ≡ Greater → o ≡ ordering_reverse o → ⊥
  own Less e r = cc
  own Equal e r = cc
  own Greater e r = cc

-- what comes before something that is not later than a third isn't later either
before_trans : (h k l : Holder) → Before h k → Before k l → Before h l
before_trans h k l a b e =
    let t = nat_list_cmp_total in
    let back : slice_cmp nat_cmp (place_of l) (place_of h) ≡ Less = t.antisymm (place_of l) (place_of h) ∙ ap ordering_reverse e in
    by_first (slice_cmp nat_cmp (place_of h) (place_of k)) refl back
  where
    by_first : (o : Ordering) → slice_cmp nat_cmp (place_of h) (place_of k) ≡ o → slice_cmp nat_cmp (place_of l) (place_of h) ≡ Less → ⊥
    by_first Less e' back =
        let t = nat_list_cmp_total in
        b (t.antisymm (place_of k) (place_of l) ∙ ap ordering_reverse (t.trans (place_of l) (place_of h) (place_of k) back e'))
    by_first Equal e' back =
        let t = nat_list_cmp_total in
        let same : slice_cmp nat_cmp (place_of h) (place_of l) ≡ slice_cmp nat_cmp (place_of k) (place_of l) = t.congr (place_of h) (place_of k) (place_of l) e' in
        b (sym same ∙ e)
    by_first Greater e' back = a e'

unfoldable IsFirst : List Holder → Option Holder → Type 0
IsFirst hs None = hs ≡ []
IsFirst hs (Some h) = AllOf (Before h) hs

first_by : (h k : Holder) (hs : List Holder) (o : Ordering) → slice_cmp nat_cmp (place_of h) (place_of k) ≡ o → AllOf (Before k) hs → AllOf (Before (earlier_by o h k)) (h ∷ hs)
unfolding AllOf
first_by h k hs Less e f = (before_self h, all_map (Before k) (Before h) hs (λ x b. before_trans h k x (λ g. absurd (clash e g)) b) f)
  where
    clash : slice_cmp nat_cmp (place_of h) (place_of k) ≡ Less → slice_cmp nat_cmp (place_of h) (place_of k) ≡ Greater → ⊥
    clash a b = cc
first_by h k hs Equal e f = (before_self h, all_map (Before k) (Before h) hs (λ x b. before_trans h k x (λ g. absurd (clash e g)) b) f)
  where
    clash : slice_cmp nat_cmp (place_of h) (place_of k) ≡ Equal → slice_cmp nat_cmp (place_of h) (place_of k) ≡ Greater → ⊥
    clash a b = cc
first_by h k hs Greater e f = (λ g. absurd (clash (nat_list_cmp_total.antisymm (place_of k) (place_of h) ∙ ap ordering_reverse e) g), f)
  where
    clash : slice_cmp nat_cmp (place_of k) (place_of h) ≡ Less → slice_cmp nat_cmp (place_of k) (place_of h) ≡ Greater → ⊥
    clash a b = cc

first_of : (h : Holder) (hs : List Holder) (o : Option Holder) → IsFirst hs o → AllOf (Before (earlier h o)) (h ∷ hs)
unfolding IsFirst AllOf
first_of h hs None f = subst (λ xs. AllOf (Before h) (h ∷ xs)) (sym f) (before_self h, tt)
first_of h hs (Some k) f = first_by h k hs (slice_cmp nat_cmp (place_of h) (place_of k)) refl f

earliest_first : (hs : List Holder) → IsFirst hs (earliest hs)
unfolding IsFirst earliest
earliest_first [] = refl
earliest_first (h ∷ hs) = first_of h hs (earliest hs) (earliest_first hs)

pub earliest_is : (hs : List Holder) (h : Holder) → earliest hs ≡ Some h → AllOf (λ (k : Holder). slice_cmp nat_cmp (place_of h) (place_of k) ≢ Greater) hs
unfolding IsFirst AllOf
earliest_is hs h e = subst (IsFirst hs) e (earliest_first hs)

pub earliest_none : (hs : List Holder) → earliest hs ≡ None → hs ≡ []
unfolding IsFirst AllOf
earliest_none hs e = subst (IsFirst hs) e (earliest_first hs)
