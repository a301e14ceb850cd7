-- The runs that scripts ask for keep their promises.
use Rattle.std.proofs.Common.{◌≡◌, ℕ, ◌+◌, Bool, true, false, cond, leb, bytes_eq, List, [], ◌∷◌, ◌++◌, length, codes, refl, sym, ◌∙◌, ap, arith, Option, Some, None, option_map, option_and_then, Result, Ok, Err}
use Rattle.std.specs.Prelude.{All}
use Rattle.std.proofs.lemmas.List.{length-append, length-take}
use Rattle.std.proofs.lemmas.List.Elements.{All-cons, All-nil, All-take}
use Rattle.dc_model.specs.Event.{Event, IsEvent}
use Rattle.dc_model.specs.Name.{Name, root}
use Rattle.dc_model.specs.Places.{empty_places, places_of}
use Rattle.dc_model.specs.Rules.{Zone, duplicate, zones_full, add_zone, is_zone, with_zone as more_zones, PermitRefusal, Permits, add_permit}
use Rattle.dc_model.proofs.MessageLemmas.{each-append, some_of}
use Rattle.dc_script.specs.Heading.{HeadLine, version_line, size_line, forward_line, allow_line, root_line, zone_line, seed_line, begin_line, version_word, size_word, yes_word, seed_word, servers_said, places_said, zone_word, only_word, root_said, zone_said, heading_by, heading_said, heading_of}
use Rattle.dc_script.specs.Head.{Head, no_head, Stage, at_version, at_size, at_forward, at_allows, at_zones, at_begin, HeadStep, refused, going, begun, with_permit, with_zone, step_by, step_said, head_step, HeadRead, behind, other, head_from, head_of}
use Rattle.dc_script.specs.Script.{Words, words_of, ◌>>=◌, at_end, Said, said_at_end, with_event, said_from, event_of_line, most_line, pieces_of}
use Rattle.dc_script.specs.Read.{line_event}
use Rattle.dc_script.proofs.LineBack.{line-back}
use Rattle.dc_trust.specs.Faith.{HaveSixteen}
use Rattle.dc_serving.proofs.TrustedRuns.{run_trusted}
use Rattle.dc_commands.specs.Replay.{RunsTrusted}

-- The events of a script

line_bounds : (text : List ℕ) (e : Event) → line_event text ≡ Some e → IsEvent e
line_bounds text e h = by_size (leb (length text) most_line) h where
  by_size : (b : Bool) → cond b (event_of_line text) None ≡ Some e → IsEvent e
  by_size true k = (line-back text e k).1.bounds
  by_size false k = absurd (cc)

at_end_bounds : (k : ℕ) (ws : Words) → All IsEvent (said_at_end k ws).events
at_end_bounds k [] = All-nil IsEvent
at_end_bounds k ([] ∷ []) = All-nil IsEvent
at_end_bounds k ([] ∷ w ∷ ws) = All-nil IsEvent
at_end_bounds k ((c ∷ cs) ∷ ws) = All-nil IsEvent

event_bounds : (k : ℕ) (o : Option Event) (s : Said) → ((e : Event) → o ≡ Some e → IsEvent e) → All IsEvent s.events → All IsEvent (with_event k o s).events
event_bounds k None s f h = All-nil IsEvent
event_bounds k (Some e) s f h = All-cons IsEvent e s.events (f e refl) h

said_bounds : (k : ℕ) (pieces : Words) → All IsEvent (said_from line_event k pieces).events
unfolding said_from
said_bounds k [] = All-nil IsEvent
said_bounds k (piece ∷ []) = All-nil IsEvent
said_bounds k (text ∷ piece ∷ pieces) = by_end (bytes_eq text (codes "end")) (said_bounds (k + 1) (piece ∷ pieces)) where
  by_end : (b : Bool) → All IsEvent (said_from line_event (k + 1) (piece ∷ pieces)).events →
      All IsEvent (cond b (said_at_end k (piece ∷ pieces)) (with_event k (line_event text) (said_from line_event (k + 1) (piece ∷ pieces)))).events
  by_end true h = at_end_bounds k (piece ∷ pieces)
  by_end false h = event_bounds k (line_event text) (said_from line_event (k + 1) (piece ∷ pieces)) (λ e i. line_bounds text e i) h

-- The places of a head's zones

unfoldable IsPlaced : HeadLine → Type 0
IsPlaced (version_line v) = Unit {0}
IsPlaced (size_line n) = Unit {0}
IsPlaced (forward_line b) = Unit {0}
IsPlaced (allow_line t) = Unit {0}
IsPlaced (root_line places) = length places ≡ 16
IsPlaced (zone_line n places) = length places ≡ 16
IsPlaced (seed_line s) = Unit {0}
IsPlaced begin_line = Unit {0}

unfoldable IfPlaced : Option HeadLine → Type 0
IfPlaced None = Unit {0}
IfPlaced (Some l) = IsPlaced l

sixteen_of : (addrs : List (List ℕ)) → length (places_of addrs) ≡ 16
sixteen_of addrs =
    let a = length-append addrs empty_places in
    let b = length-take 16 (addrs ++ empty_places) in
    omega (arith, a, b)

mapped : {A B : Type 0} (f : A → B) (o : Option A) (P : Option B → Type 0) → P None → ((x : A) → o ≡ Some x → P (Some (f x))) → P (option_map f o)
mapped f None P n s = n
mapped f (Some x) P n s = s x refl

bound : {A B : Type 0} (f : A → Option B) (o : Option A) (P : Option B → Type 0) → P None → ((x : A) → P (f x)) → P (option_and_then f o)
bound f None P n s = n
bound f (Some x) P n s = s x

chosen : (b : Bool) (o o' : Option HeadLine) → IfPlaced o → IfPlaced o' → IfPlaced (cond b o o')
chosen true o o' h k = h
chosen false o o' h k = k

no_line : IfPlaced None
unfolding IfPlaced
no_line = tt

places_long : (ws : Words) (places : List (List ℕ)) → places_said ws ≡ Some places → length places ≡ 16
unfolding places_said
places_long ws places h = by_count (leb (length ws) 16) h where
  long : (o : Option (List (List ℕ))) (ps : List (List ℕ)) → option_map places_of o ≡ Some ps → length ps ≡ 16
  long None ps e = absurd (cc)
  long (Some x) ps e = let s : places_of x ≡ ps = some_of (places_of x) ps e in ap (λ l. length l) (sym s) ∙ sixteen_of x

  by_count : (b : Bool) → cond b (option_map places_of (servers_said ws)) None ≡ Some places → length places ≡ 16
  by_count true e = long (servers_said ws) places e
  by_count false e = absurd (cc)

root_placed : (ws : Words) → IfPlaced (root_said ws)
unfolding IfPlaced IsPlaced
root_placed [] = tt
root_placed (w ∷ ws) = mapped root_line (places_said (w ∷ ws)) IfPlaced tt (λ places e. places_long (w ∷ ws) places e)

named_placed : (n : Name) (ws : Words) → IfPlaced (option_map (zone_line n) (places_said ws))
unfolding IfPlaced IsPlaced
named_placed n ws = mapped (zone_line n) (places_said ws) IfPlaced tt (λ places e. places_long ws places e)

zone_placed : (ws : Words) → IfPlaced (zone_said ws)
unfolding zone_said
zone_placed [] = no_line
zone_placed (w ∷ ws) = chosen (bytes_eq w (codes "@")) _ _ (root_placed ws) (bound (λ n. option_map (zone_line n) (places_said ws)) (zone_word w) IfPlaced no_line (λ n. named_placed n ws))

ended : (ws : Words) → IfPlaced (at_end ws begin_line)
unfolding at_end IfPlaced IsPlaced
ended [] = tt
ended (w ∷ ws) = tt

heading_placed : (w : List ℕ) (ws : Words) → IfPlaced (heading_by w ws)
unfolding heading_by IfPlaced IsPlaced
heading_placed w ws =
    chosen (bytes_eq w (codes "dnscache-script")) _ _ (mapped version_line (only_word ws >>= version_word) IfPlaced tt (λ x e. tt))
    (chosen (bytes_eq w (codes "cachesize")) _ _ (mapped size_line (only_word ws >>= size_word) IfPlaced tt (λ x e. tt))
    (chosen (bytes_eq w (codes "forwardonly")) _ _ (mapped forward_line (only_word ws >>= yes_word) IfPlaced tt (λ x e. tt))
    (chosen (bytes_eq w (codes "allow")) _ _ (mapped allow_line (only_word ws) IfPlaced tt (λ x e. tt))
    (chosen (bytes_eq w (codes "zone")) _ _ (zone_placed ws)
    (chosen (bytes_eq w (codes "seed")) _ _ (mapped seed_line (only_word ws >>= seed_word) IfPlaced tt (λ x e. tt))
    (chosen (bytes_eq w (codes "begin")) _ _ (ended ws) no_line))))))

line_placed : (text : List ℕ) → IfPlaced (heading_of text)
unfolding heading_of
line_placed text = by_words (words_of text) where
  by_words : (ws : Words) → IfPlaced (heading_said ws)
  by_words [] = no_line
  by_words (w ∷ ws) = heading_placed w ws

-- Heads

unfoldable StepPlaced : HeadStep → Type 0
StepPlaced refused = Unit {0}
StepPlaced (going stage h) = HaveSixteen h.config.zones
StepPlaced (begun h) = HaveSixteen h.config.zones

unfoldable ReadPlaced : HeadRead → Type 0
ReadPlaced (behind h k pieces) = HaveSixteen h.config.zones
ReadPlaced (other k) = Unit {0}

zone_added : (h : Head) (n : Name) (places : List (List ℕ)) → length places ≡ 16 → HaveSixteen h.config.zones → StepPlaced (with_zone h (add_zone n places h.config.zones))
unfolding StepPlaced
zone_added h n places l z = by_test (is_zone h.config.zones n) (leb 256 (length h.config.zones.configured)) where
  by_test : (b v : Bool) → StepPlaced (with_zone h (cond b (Err duplicate) (cond v (Err zones_full) (Ok (more_zones n places h.config.zones)))))
  by_test true v = tt
  by_test false true = tt
  by_test false false = each-append (λ (y : Zone). length y.places ≡ 16) h.config.zones.configured _ z (l, tt)

permit_added : (h : Head) (r : Result Permits PermitRefusal) → HaveSixteen h.config.zones → StepPlaced (with_permit h r)
unfolding StepPlaced
permit_added h (Ok permit) z = z
permit_added h (Err why) z = tt

step_placed : (s : Stage) (h : Head) (l : HeadLine) → IsPlaced l → HaveSixteen h.config.zones → StepPlaced (step_by s h l)
unfolding step_by StepPlaced IsPlaced
step_placed at_version h (version_line v) p z = z
step_placed at_size h (size_line n) p z = z
step_placed at_forward h (forward_line b) p z = z
step_placed at_allows h (allow_line t) p z = permit_added h (add_permit t h.config.permit) z
step_placed at_allows h (root_line places) p z = zone_added h root places p z
step_placed at_zones h (zone_line n places) p z = zone_added h n places p z
step_placed at_zones h (seed_line s) p z = z
step_placed at_begin h begin_line p z = z
step_placed s h l p z = tt

nothing_placed : StepPlaced refused
unfolding StepPlaced
nothing_placed = tt

said_placed : (s : Stage) (h : Head) (o : Option HeadLine) → IfPlaced o → HaveSixteen h.config.zones → StepPlaced (step_said s h o)
unfolding IfPlaced
said_placed s h None p z = nothing_placed
said_placed s h (Some l) p z = step_placed s h l p z

text_placed : (s : Stage) (h : Head) (text : List ℕ) → HaveSixteen h.config.zones → StepPlaced (head_step s h text)
unfolding head_step
text_placed s h text z = by_size (leb (length text) most_line) where
  by_size : (b : Bool) → StepPlaced (cond b (step_said s h (heading_of text)) refused)
  by_size true = said_placed s h (heading_of text) (line_placed text) z
  by_size false = nothing_placed

read_placed : (k : ℕ) (s : HeadStep) (pieces : Words) → StepPlaced s → ReadPlaced (head_from k s pieces)
unfolding head_from StepPlaced ReadPlaced
read_placed k refused pieces p = tt
read_placed k (begun h) pieces p = p
read_placed k (going stage h) [] p = tt
read_placed k (going stage h) (piece ∷ []) p = tt
read_placed k (going stage h) (text ∷ piece ∷ pieces) p = read_placed (k + 1) (head_step stage h text) (piece ∷ pieces) (text_placed stage h text p)

head_placed : (text : List ℕ) → ReadPlaced (head_of text)
unfolding StepPlaced
head_placed text = read_placed 0 (going at_version no_head) (pieces_of text) tt

placed_trusted : (r : HeadRead) → ReadPlaced r → RunsTrusted r
unfolding ReadPlaced RunsTrusted
placed_trusted (behind h k pieces) p = λ n. run_trusted h.config h.seed _ p (All-take IsEvent n _ (said_bounds (k + 1) pieces))
placed_trusted (other k) p = tt

-- The run that a script asks for keeps its promises.
pub script_trusted : (text : List ℕ) → RunsTrusted (head_of text)
script_trusted text = placed_trusted (head_of text) (head_placed text)
