-- The choice of a zone, from a name upwards.
use Rattle.std.proofs.Common.{◌≡◌, ◌==◌, true, false, List, ℕ, [], ◌∷◌, length, Option, Some, None, refl, ap, sym, ◌∙◌}
use Rattle.dc_model.specs.Message.{kind_ns}
use Rattle.dc_model.specs.Event.{second}
use Rattle.dc_model.specs.Cache.{Cache, Hit, get}
use Rattle.dc_model.specs.Puts.{key_of}
use Rattle.dc_model.specs.Bodies.{items_of}
use Rattle.dc_model.specs.Name.{Name, root, lower, parent, suffixes}
use Rattle.dc_model.specs.Places.{empty_places}
use Rattle.dc_model.specs.Rules.{servers}
use Rattle.dc_machine.specs.Turn.{Setting, Choice, uses_cached, cached_choice, choice_by, choice_or, choice_of}
use Rattle.dc_frames.specs.View.{query_of}
use Rattle.dc_frames.specs.declared.query.Query.{Query}
use Rattle.dc_desk.specs.View.{setting_of, setting_at, at}
use Rattle.dc_desk.specs.declared.desk.Desk.{Desk}
use Rattle.dc_desk.specs.declared.moment.Moment.{Moment}
use Rattle.dc_look.specs.Chosen.{choice_among}

-- The choice at a name alone.
abbrev pub choice_here : {S : Type 0} → (S → Cache) → Query → Desk S → Moment → Name → Option Choice
choice_here cache q d m zone = choice_by (servers d.zones zone) (setting_at d m) (at cache q d) zone

-- The choice from a name upwards.
abbrev pub choice_above : {S : Type 0} → (S → Cache) → Query → Desk S → Moment → Name → Choice
choice_above cache q d m zone = choice_of (setting_at d m) (at cache q d) (suffixes zone)

pub choice-first : {S : Type 0} (cache : S → Cache) (q : Query) (d : Desk S) (m : Moment) (zone : Name) (c : Choice) →
    Some c ≡ choice_here cache q d m zone → c ≡ choice_above cache q d m zone
unfolding choice_of setting_of
choice-first cache q d m [] c e = ap (λ o. choice_or o (choice_of (setting_at d m) (at cache q d) [])) e
choice-first cache q d m (l ∷ ls) c e = ap (λ o. choice_or o (choice_of (setting_at d m) (at cache q d) (suffixes ls))) e

pub choice-up : {S : Type 0} (cache : S → Cache) (q : Query) (d : Desk S) (m : Moment) (zone above : Name) (l : List ℕ) →
    None ≡ choice_here cache q d m zone → zone ≡ l ∷ above → choice_above cache q d m above ≡ choice_above cache q d m zone
unfolding choice_of setting_of
choice-up cache q d m [] above l h e = cc
choice-up cache q d m (k ∷ ks) above l h e =
    let tail : above ≡ ks = cc in
    ap (λ n. choice_of (setting_at d m) (at cache q d) (suffixes n)) tail ∙ ap (λ o. choice_or o (choice_of (setting_at d m) (at cache q d) (suffixes ks))) h

pub choice-none : {S : Type 0} (cache : S → Cache) (q : Query) (d : Desk S) (m : Moment) (zone : Name) → None ≡ choice_here cache q d m zone → zone ≡ [] →
    record { control = root; hosts = []; places = empty_places; lines = [] } ≡ choice_above cache q d m zone
unfolding choice_of setting_of
choice-none cache q d m [] h e = ap (λ o. choice_or o (choice_of (setting_at d m) (at cache q d) [])) h
choice-none cache q d m (k ∷ ks) h e = cc

pub key-up : (key key' zone above : Name) (l : List ℕ) → key' ≡ parent key → key ≡ lower zone → zone ≡ l ∷ above → key' ≡ lower above
key-up key key' zone above l e k h = e ∙ ap (λ n. parent n) (k ∙ ap (λ n. lower n) h)

-- Of a zone that isn't configured, what the cache knows counts.
pub choice-cached : {S : Type 0} (cache : S → Cache) (q : Query) (d : Desk S) (m : Moment) (zone : Name) (now : ℕ) (o : Option Hit) →
    None ≡ servers d.zones zone → uses_cached (setting_at d m) (query_of q) zone ≡ true → now ≡ second m.time → o ≡ get (key_of kind_ns zone) now (cache d.store) →
    cached_choice (setting_at d m) zone o ≡ choice_by (servers d.zones zone) (setting_at d m) (at cache q d) zone
unfolding choice_by setting_of
choice-cached cache q d m zone now o n u e k =
    let hit : o ≡ get (key_of kind_ns zone) (second m.time) (cache d.store) = k ∙ ap (λ t. get (key_of kind_ns zone) t (cache d.store)) e in
    let counts : choice_by None (setting_at d m) (at cache q d) zone ≡ cached_choice (setting_at d m) zone (get (key_of kind_ns zone) (second m.time) (cache d.store)) = rw u refl in
    ap (cached_choice (setting_at d m) zone) hit ∙ (sym counts ∙ ap (λ x. choice_by x (setting_at d m) (at cache q d) zone) n)

pub cached-none : (g : Setting) (zone : Name) → None ≡ cached_choice g zone None
unfolding cached_choice
cached-none g zone = refl

pub cached-empty : (g : Setting) (zone : Name) (h : Hit) → (length h.body == 0) ≡ true → None ≡ cached_choice g zone (Some h)
unfolding cached_choice
cached-empty g zone h e = rw e refl

pub cached-some : {S : Type 0} (d : Desk S) (m : Moment) (zone : Name) (h : Hit) → (length h.body == 0) ≡ false →
    Some (choice_among zone (items_of d.zones.rule kind_ns h.body)) ≡ cached_choice (setting_at d m) zone (Some h)
unfolding cached_choice choice_among setting_of
cached-some d m zone h e = rw e refl
