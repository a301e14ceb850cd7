-- What serving a question tells of the word that is asked.
use Rattle.std.proofs.Common.{◌≡◌, ℕ, ◌+◌, ◌≤◌, ◌^◌, min, List, [], ◌∷◌, ◌++◌, length, refl, ap, sym, ◌∙◌, subst, arith}
use Rattle.std.specs.declared.option.Option.{Option}
use Rattle.std.proofs.lemmas.List.Elements.{All-nil}
use Rattle.dc_model.specs.Name.{Name}
use Rattle.dc_model.specs.Event.{Event, IsEvent}
use Rattle.dc_model.specs.Transmission.{Progress}
use Rattle.dc_draws.specs.Drawn.{Drawn}
use Rattle.dc_engine.specs.Automaton.{state_after}
use Rattle.dc_event.specs.History.{Exchange}
use Rattle.dc_lookup.specs.Words.{Tool}
use Rattle.dc_lookup.specs.Asking.{ask_wake, is_over}
use Rattle.dc_serve.specs.Serve.{each_passes, last_passes, passes, Ran, Ends}
use Rattle.dc_serve.specs.declared.Served.{Served}
use Rattle.dc_serve.specs.declared.Served.TheVariants as served
use Rattle.dc_stub.specs.Stub.{Stub, stub_machine}
use Rattle.dc_stub.specs.Word.{TellsBy, WordEnds, further, fresh_stub, Worded}
use Rattle.dc_stub.specs.declared.status.ToolStatus.{ToolStatus}
use Rattle.dc_stub.specs.declared.status.ToolStatus.TheVariants.{Done, Usage, NoAnswer, NoPort, Malformed, Ended, Spent, FilesFault, WriteFault, WorldFault, BadScript, NoMemory, ReadFault, LongLine}

-- Each event counts.
pub handled_is : (words : ℕ → List ℕ) (n : ℕ) (s : Stub) (es : List Event) → (state_after stub_machine words n s es).handled ≡ s.handled + length es
handled_is words n s [] = omega arith
handled_is words n s (e ∷ es) = let h = handled_is words (n + 1) (stub_machine.next s e (words n)) es in omega (arith, h)

-- No more events than the limit.
pub ends_within : (answer : Served) (finished : Rattle.std.specs.Prelude.Bool) (count limit : ℕ) → Ends answer finished count limit → count ≤ limit
ends_within served.Finished finished count limit h = h.1
ends_within served.Spent finished count limit h = omega (arith, h.1)
ends_within served.Ended finished count limit h = omega (arith, h.1)
ends_within served.Failed finished count limit h = omega (arith, h.1)
ends_within (served.Bad k) finished count limit h = omega (arith, h.1)

pub limit_is : (given left : ℕ) → given + left ≤ 2 ^ 60 → min left (2 ^ 60) ≡ left
limit_is given left h = omega (arith, h)

-- No words were given.
pub none_drawn : (d : Drawn) → d ≡ record { seed = d.seed; given = d.given + 0 }
none_drawn d = let z : d.given ≡ d.given + 0 = omega arith in ap (λ n. let x : Drawn = record { seed = d.seed; given = n } in x) z

pub none_left : (n : ℕ) → n + 0 ≡ n
none_left n = omega arith

-- What the loop counted.
pub counted : (words : ℕ → List ℕ) (first : ℕ) (limit : ℕ) (answer : Served)
    (start final : Stub) (name : Name) (events : List Event) (servers : List (List ℕ)) (kind : ℕ) → start ≡ fresh_stub servers name kind
    → Ran stub_machine words first start final limit events answer
    → (final.handled ≡ length events) × (length events ≤ limit)
counted words first limit answer start final name events servers kind fresh ran =
    let h : final.handled ≡ start.handled + length events = ap (λ (x : Stub). x.handled) ran.state ∙ handled_is words first start events in
    let z : start.handled ≡ 0 = ap (λ (x : Stub). x.handled) fresh in
    (omega (arith, h, z), ends_within answer (is_over final.asking) (length events) limit ran.ends)

-- The limit of a call is what is left.
pub ran_within : (words : ℕ → List ℕ) (first given left : ℕ) (start final : Stub) (events : List Event) (answer : Served) → given + left ≤ 2 ^ 60
    → Ran stub_machine words first start final (min left (2 ^ 60)) events answer → Ran stub_machine words first start final left events answer
ran_within words first given left start final events answer h r = subst (λ (n : ℕ). Ran stub_machine words first start final n events answer) (limit_is given left h) r

module _ {W K : Type 0} (history : W → List Exchange → W → Type 0) (used_up : W → Type 0) (broken : W → ℕ → Type 0)
    (gained : K → List ℕ → K → Type 0) (old new : W) (sink_old sink_new : K)
    (tool : Tool) (servers : List (List ℕ)) (name : Name) (kind : ℕ) (words : ℕ → List ℕ) (first limit : ℕ) where
  abbrev pub Served_so : Served → List Event → Stub → Stub → Type 0
  Served_so answer events start final = history old (passes stub_machine words first start events answer) new × Ran stub_machine words first start final limit events answer

  abbrev pub Told_so : ToolStatus → List Event → Type 0
  Told_so status events = Worded history used_up broken gained old new sink_old sink_new tool servers name kind words first limit status events

  worded : (answer : Served) (status : ToolStatus) (text : List ℕ) (events : List Event) (start final : Stub)
      → start ≡ fresh_stub servers name kind
      → Served_so answer events start final
      → gained sink_old text sink_new
      → last_passes answer (ask_wake final.asking) ≡ further status (ask_wake final.asking)
      → WordEnds status tool name kind final.asking.stands text (length events) limit (used_up new) (broken new)
      → Told_so status events
  worded answer status text events start final fresh s told wake ends =
      let t : Served_so answer events (fresh_stub servers name kind) final = subst (λ (x : Stub). Served_so answer events x final) fresh s in
      let here = each_passes stub_machine words first (fresh_stub servers name kind) events in
      let last : history old (here ++ last_passes answer (ask_wake final.asking)) new =
      subst (λ (x : Stub). history old (here ++ last_passes answer (ask_wake x.asking)) new) (sym t.1.state) t.0 in
      let told_so : history old (here ++ further status (ask_wake final.asking)) new = subst (λ (x : List Exchange). history old (here ++ x) new) wake last in
      record {
        passed = subst (λ (x : Stub). history old (here ++ further status (ask_wake x.asking)) new) t.1.state told_so;
        bounded = t.1.bounded;
        went_on = t.1.went_on;
        text = text;
        told = told;
        ends = subst (λ (x : Stub). WordEnds status tool name kind x.asking.stands text (length events) limit (used_up new) (broken new)) t.1.state ends;
      }

  -- Its transmission has ended.
  tells_wake : (status : ToolStatus) (stands : Option Progress) (text : List ℕ) (wake : Option ℕ) → TellsBy tool name kind stands text status → [] ≡ further status wake
  tells_wake Done stands text wake h = refl
  tells_wake NoAnswer stands text wake h = refl
  tells_wake NoPort stands text wake h = refl
  tells_wake Malformed stands text wake h = refl
  tells_wake WriteFault stands text wake h = refl
  tells_wake Usage stands text wake h = absurd h
  tells_wake Ended stands text wake h = absurd h
  tells_wake Spent stands text wake h = absurd h
  tells_wake FilesFault stands text wake h = absurd h
  tells_wake WorldFault stands text wake h = absurd h
  tells_wake (BadScript k) stands text wake h = absurd h
  tells_wake NoMemory stands text wake h = absurd h
  tells_wake ReadFault stands text wake h = absurd h
  tells_wake (LongLine k) stands text wake h = absurd h

  tells_ends : (status : ToolStatus) (stands : Option Progress) (text : List ℕ) (count : ℕ) (u : Type 0) (b : ℕ → Type 0)
      → TellsBy tool name kind stands text status → WordEnds status tool name kind stands text count limit u b
  tells_ends Done stands text count u b h = h
  tells_ends NoAnswer stands text count u b h = h
  tells_ends NoPort stands text count u b h = h
  tells_ends Malformed stands text count u b h = h
  tells_ends WriteFault stands text count u b h = h
  tells_ends Usage stands text count u b h = absurd h
  tells_ends Ended stands text count u b h = absurd h
  tells_ends Spent stands text count u b h = absurd h
  tells_ends FilesFault stands text count u b h = absurd h
  tells_ends WorldFault stands text count u b h = absurd h
  tells_ends (BadScript k) stands text count u b h = absurd h
  tells_ends NoMemory stands text count u b h = absurd h
  tells_ends ReadFault stands text count u b h = absurd h
  tells_ends (LongLine k) stands text count u b h = absurd h

  pub worded_over : (status : ToolStatus) (text : List ℕ) (events : List Event) (start final : Stub)
      → start ≡ fresh_stub servers name kind → Served_so served.Finished events start final
      → gained sink_old text sink_new → TellsBy tool name kind final.asking.stands text status → Told_so status events
  worded_over status text events start final fresh s told h =
      worded served.Finished status text events start final fresh s told (tells_wake status final.asking.stands text (ask_wake final.asking) h)
      (tells_ends status final.asking.stands text (length events) (used_up new) (broken new) h)

  -- The limit or the world ended it.
  pub worded_spent : (events : List Event) (start final : Stub) → start ≡ fresh_stub servers name kind
      → Served_so served.Spent events start final → gained sink_old [] sink_new → Told_so Spent events
  worded_spent events start final fresh s none = worded served.Spent Spent [] events start final fresh s none refl (s.1.ends.0, refl, s.1.ends.1)

  pub worded_ended : (events : List Event) (start final : Stub) → start ≡ fresh_stub servers name kind
      → Served_so served.Ended events start final → gained sink_old [] sink_new → used_up new → Told_so Ended events
  worded_ended events start final fresh s none used = worded served.Ended Ended [] events start final fresh s none refl (s.1.ends.0, refl, s.1.ends.1, used)

  pub worded_failed : (events : List Event) (start final : Stub) → start ≡ fresh_stub servers name kind
      → Served_so served.Failed events start final → gained sink_old [] sink_new → Told_so WorldFault events
  worded_failed events start final fresh s none = worded served.Failed WorldFault [] events start final fresh s none refl (s.1.ends.0, refl, s.1.ends.1)

  pub worded_bad : (k : ℕ) (events : List Event) (start final : Stub) → start ≡ fresh_stub servers name kind
      → Served_so (served.Bad k) events start final → gained sink_old [] sink_new → broken new k → Told_so (BadScript k) events
  worded_bad k events start final fresh s none bad = worded (served.Bad k) (BadScript k) [] events start final fresh s none refl (s.1.ends.0, refl, s.1.ends.1, bad)

  -- There was no memory.
  pub worded_none : history old [] new → gained sink_old [] sink_new → Told_so NoMemory []
  worded_none h g = record { passed = h; bounded = All-nil IsEvent; went_on = tt; text = []; told = g; ends = (refl, refl, refl) }
