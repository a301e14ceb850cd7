-- What is remembered of missing data, and told.
use Rattle.std.proofs.Common.{◌≡◌, ℕ, Bool, true, false, if◌then◌else◌, [], ◌∷◌, ◌++◌, refl, sym, ap, Option, Some, None, option_map, is_some}
use Rattle.dc_model.specs.Cache.{Cache, put}
use Rattle.dc_model.specs.Event.{line}
use Rattle.dc_model.specs.Line.{line_nodata}
use Rattle.dc_model.specs.Message.{Message}
use Rattle.dc_model.specs.Marks.{Marks, negative_ttl, answers, refers}
use Rattle.dc_model.specs.Name.{Name}
use Rattle.dc_model.specs.Rules.{Rule, one, two}
use Rattle.dc_model.specs.Puts.{key_of, all_put}
use Rattle.dc_model.specs.Transmission.{Accepted}
use Rattle.dc_machine.specs.Query.{wanted_of, name_of}
use Rattle.dc_machine.specs.Turn.{Setting, State, first, has_no_data, nothing_put, nodata_puts, nodata_lines, stats, after_puts, told_row, class_row, answers_row, refers_row}

pub some_is : {X Y : Type 0} (f : X → Y) (o : Option X) → is_some (option_map f o) ≡ is_some o
some_is f None = refl
some_is f (Some x) = refl

pub none_ttl : (rule : Rule) → 0 ≡ negative_ttl rule None
unfolding negative_ttl
none_ttl one = refl
none_ttl two = refl

-- Nothing is remembered

pub puts_no : (g : Setting) (k : Marks) (s : State) (n : ℕ) (c : Cache) → has_no_data s.query k ≡ false → c ≡ all_put (nodata_puts g k s) n c
unfolding nodata_puts all_put
puts_no g k s n c h = sym (ap (λ (b : Bool). all_put (if b then nothing_put g k (wanted_of s.query) s.query ∷ [] else []) n c) h)

pub lines_no : (g : Setting) (k : Marks) (a : Accepted) (s : State) → has_no_data s.query k ≡ false → [] ≡ nodata_lines g k a s
unfolding nodata_lines
lines_no g k a s h = sym (ap (λ (b : Bool). if b then line (line_nodata a.server (negative_ttl g.zones.rule k.soa) (wanted_of s.query) (name_of s.query)) ∷ [] else []) h)

-- Missing data is remembered

pub puts_yes : (g : Setting) (k : Marks) (s : State) (n : ℕ) (c : Cache) → has_no_data s.query k ≡ true
    → put (key_of (wanted_of s.query) (name_of s.query)) [] (negative_ttl g.zones.rule k.soa) n c ≡ all_put (nodata_puts g k s) n c
unfolding nodata_puts all_put
puts_yes g k s n c h = sym (ap (λ (b : Bool). all_put (if b then nothing_put g k (wanted_of s.query) s.query ∷ [] else []) n c) h)

pub lines_yes : (g : Setting) (k : Marks) (a : Accepted) (s : State) → has_no_data s.query k ≡ true
    → line (line_nodata a.server (negative_ttl g.zones.rule k.soa) (wanted_of s.query) (name_of s.query)) ∷ [] ≡ nodata_lines g k a s
unfolding nodata_lines
lines_yes g k a s h = sym (ap (λ (b : Bool). if b then line (line_nodata a.server (negative_ttl g.zones.rule k.soa) (wanted_of s.query) (name_of s.query)) ∷ [] else []) h)

-- The rows behind what is told

pub told_answers : (k : Marks) (m : Message) (a : Accepted) (g : Setting) (s : State) → class_row answers k m a g s
    ≡ first (nodata_puts g k s) (nodata_lines g k a s ++ stats g (after_puts (nodata_puts g k s) g s).cache ∷ []) (answers_row m s)
unfolding class_row told_row
told_answers k m a g s = refl

pub told_refers : (zone : Name) (k : Marks) (m : Message) (a : Accepted) (g : Setting) (s : State) → class_row (refers zone) k m a g s
    ≡ first (nodata_puts g k s) (nodata_lines g k a s ++ stats g (after_puts (nodata_puts g k s) g s).cache ∷ []) (refers_row zone m s)
unfolding class_row told_row
told_refers zone k m a g s = refl
