-- The earliest of two lists is the earlier of the earliest of each.
use Rattle.std.proofs.Common.{◌≡◌, false, List, [], ◌∷◌, ◌++◌, Option, Some, None, refl, ap, sym, ◌∙◌}
use Rattle.std.specs.Cmp.Lexicographic.{slice_cmp, nat_list_cmp_total}
use Rattle.std.specs.Ordering.{nat_cmp, ordering_reverse, is_gt}
use Rattle.std.specs.declared.cmp.Ordering.{Ordering}
use Rattle.std.specs.declared.cmp.Ordering.TheVariants.{Less, Equal, Greater}
use Rattle.std.proofs.lemmas.Cmp.{upto}
use Rattle.dc_machine.specs.Machine.{Holder, place_of, earlier, earlier_by, earliest}

-- The earlier of two, where either may be missing.
abbrev pub sooner : Option Holder → Option Holder → Option Holder
sooner None o = o
sooner (Some h) o = Some (earlier h o)

abbrev compared : Holder → Holder → Ordering
compared h k = slice_cmp nat_cmp (place_of h) (place_of k)

least : (h k l : Holder) → is_gt (compared h k) ≡ false → is_gt (compared k l) ≡ false → is_gt (compared h l) ≡ false
least h k l e f = upto nat_list_cmp_total (place_of h) (place_of k) (place_of l) e f

flipped : (o p : Ordering) → o ≡ ordering_reverse p → p ≡ Greater → o ≡ Less
flipped o p e f = e ∙ ap ordering_reverse f

back : (o p : Ordering) → o ≡ ordering_reverse p → p ≡ Less → o ≡ Greater
back o p e f = e ∙ ap ordering_reverse f

greatest : (h k l : Holder) → compared h k ≡ Greater → compared k l ≡ Greater → compared h l ≡ Greater
greatest h k l e f =
    let total = nat_list_cmp_total in
    let p = place_of h in
    let q = place_of k in
    let r = place_of l in
    back _ _ (total.antisymm p r) (total.trans r q p (flipped _ _ (total.antisymm r q) f) (flipped _ _ (total.antisymm q p) e))

kept : (o : Ordering) (h k : Holder) → is_gt o ≡ false → earlier_by o h k ≡ h
kept Less h k e = refl
kept Equal h k e = refl
kept Greater h k e = cc

both_kept : (h k l : Holder) → is_gt (compared h k) ≡ false → is_gt (compared k l) ≡ false → earlier h (Some k) ≡ earlier h (Some l)
both_kept h k l e f = kept (compared h k) h k e ∙ sym (kept (compared h l) h l (least h k l e f))

second_kept : (h k l : Holder) → compared h k ≡ Greater → is_gt (compared k l) ≡ false → earlier h (Some k) ≡ earlier k (Some l)
second_kept h k l e f = ap (λ o. earlier_by o h k) e ∙ sym (kept (compared k l) k l f)

three_by : (h k l : Holder) (a b : Ordering) → compared h k ≡ a → compared k l ≡ b → earlier h (Some (earlier_by b k l)) ≡ earlier (earlier_by a h k) (Some l)
three_by h k l Less Less e f = both_kept h k l (ap is_gt e) (ap is_gt f)
three_by h k l Less Equal e f = both_kept h k l (ap is_gt e) (ap is_gt f)
three_by h k l Equal Less e f = both_kept h k l (ap is_gt e) (ap is_gt f)
three_by h k l Equal Equal e f = both_kept h k l (ap is_gt e) (ap is_gt f)
three_by h k l Greater Less e f = second_kept h k l e (ap is_gt f)
three_by h k l Greater Equal e f = second_kept h k l e (ap is_gt f)
three_by h k l Less Greater e f = refl
three_by h k l Equal Greater e f = refl
three_by h k l Greater Greater e f = ap (λ o. earlier_by o h l) (greatest h k l e f) ∙ sym (ap (λ o. earlier_by o k l) f)

three : (h : Holder) (o p : Option Holder) → earlier h (sooner o p) ≡ earlier (earlier h o) p
three h None p = refl
three h (Some k) None = refl
three h (Some k) (Some l) = three_by h k l (compared h k) (compared k l) refl refl

pub earliest_both : (hs ks : List Holder) → earliest (hs ++ ks) ≡ sooner (earliest hs) (earliest ks)
unfolding earliest
earliest_both [] ks = refl
earliest_both (h ∷ hs) ks = ap (λ o. Some (earlier h o)) (earliest_both hs ks) ∙ ap (λ k. Some k) (three h (earliest hs) (earliest ks))
