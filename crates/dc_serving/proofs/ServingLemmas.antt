-- What the loop tells of the core, said of the machine's run.
use Rattle.std.proofs.Common.{◌≡◌, ℕ, ◌+◌, true, false, List, [], ◌∷◌, ◌++◌, length, flat_map, refl, ap, sym, ◌∙◌, arith, subst, Option, Some, None, Result, Ok, Err, ◌↔◌}
use Rattle.dc_model.specs.Draws.{draws_of}
use Rattle.dc_event.specs.Causes.{counted, count_by}
use Rattle.std.specs.Result.{is_ok, is_err}
use Rattle.dc_model.specs.Cache.{Cache}
use Rattle.dc_model.specs.Event.{Event, line}
use Rattle.dc_model.specs.Line.{line_starting}
use Rattle.dc_machine.specs.Machine.{Machine, wake}
use Rattle.dc_machine.specs.Run as run
use Rattle.dc_machine.specs.Run.{taken_from, last_of, opening}
use Rattle.dc_draws.specs.Drawn.{Drawn}
use Rattle.dc_engine.specs.Automaton.{state_after}
use Rattle.dc_event.specs.History.{Exchange, listened, asked, did, gave, done_all}
use Rattle.dc_rules.specs.Settings.{rules_of}
use Rattle.dc_rules.specs.declared.config.Config.{Config}
use Rattle.dc_config.specs.declared.error.ConfigError.{ConfigError}
use Rattle.dc_config.specs.declared.error.ConfigError.TheVariants as config
use Rattle.dc_config.specs.declared.error.Variable.{Variable as Named}
use Rattle.dc_serve.specs.Serve as serve
use Rattle.dc_serve.specs.Serve.{Ran, Ends, Justified, each_passes, passes}
use Rattle.dc_serve.specs.declared.Served.{Served}
use Rattle.dc_serve.specs.declared.Served.TheVariants as served
use Rattle.dc_core.specs.Running.{Running, core_machine}
use Rattle.dc_trust.specs.Faith.{HaveSixteen}
use Rattle.dc_serving.proofs.TrustedRuns.{begun_trusted}
use Rattle.dc_serving.specs.Serving.{machine_from, at_event, machine_passes, last_passes, Closes, ServingFrom, ServesFrom, status_from}
use Rattle.dc_status.specs.Refused.{refused_by}
use Rattle.dc_status.specs.declared.status.Status.{Status}
use Rattle.dc_status.specs.declared.status.Status.TheVariants.{Done, BadVariable, WorldFault}

-- The core behind one event.
abbrev then : (ℕ → List ℕ) → ℕ → Running → Event → Running
then words n s e = core_machine.next s e (words n)

-- What passes and the machine of a run, from any event on.

each_from : (words : ℕ → List ℕ) (n : ℕ) (s : Running) (es : List Event)
    → each_passes core_machine words n s es ≡ flat_map at_event (taken_from s.rules words n s.machine es)
unfolding taken_from
each_from words n s [] = refl
each_from words n s (e ∷ es) =
    let done = done_all (core_machine.actions s e (words n)) in
    ap (λ l. asked (wake s.machine) (gave e) ∷ (done ++ l)) (each_from words (n + 1) (then words n s e) es)

state_from : (words : ℕ → List ℕ) (n : ℕ) (s : Running) (es : List Event)
    → state_after core_machine words n s es
    ≡ record { rules = s.rules; machine = last_of s.machine (taken_from s.rules words n s.machine es); handled = s.handled + length es }
unfolding taken_from last_of
state_from words n s [] =
    let none : s.handled ≡ s.handled + 0 = omega arith in
    ap (λ k. record { rules = s.rules; machine = s.machine; handled = k }) none
state_from words n s (e ∷ es) =
    let next = then words n s e in
    let count : s.handled + 1 + length es ≡ s.handled + length (e ∷ es) = omega arith in
    state_from words (n + 1) next es
    ∙ ap (λ k. record { rules = s.rules; machine = last_of next.machine (taken_from s.rules words (n + 1) next.machine es); handled = k }) count

-- A core that begins with a configuration and a first cache.
abbrev pub core_opening : Config → Cache → Running
core_opening c first = record { rules = rules_of c; machine = opening first; handled = 0 }

-- The same of a whole run, with a configuration, a first cache and a seed.

run_passes : (c : Config) (first : Cache) (seed : List ℕ) (es : List Event)
    → done_all (core_machine.opening (core_opening c first)) ++ each_passes core_machine (draws_of seed) 0 (core_opening c first) es ≡ machine_passes c first seed es
unfolding run.seeded_run run.run machine_passes
run_passes c first seed es = ap (λ l. did (line line_starting) ∷ l) (each_from (draws_of seed) 0 (core_opening c first) es)

run_state : (c : Config) (first : Cache) (seed : List ℕ) (es : List Event)
    → state_after core_machine (draws_of seed) 0 (core_opening c first) es ≡ record { rules = rules_of c; machine = machine_from c first seed es; handled = length es }
unfolding run.seeded_run run.run machine_from
run_state c first seed es =
    let count : 0 + length es ≡ length es = omega arith in
    state_from (draws_of seed) 0 (core_opening c first) es
    ∙ ap (λ k. record { rules = rules_of c; machine = machine_from c first seed es; handled = k }) count

-- How serving ends

closes : (answer : Served) (count limit : ℕ) (used_up : Type 0) (broken : ℕ → Type 0)
    → Ends answer false count limit → Justified answer used_up broken → Closes (status_from answer) count limit used_up broken
closes served.Finished count limit used_up broken ends just = let never : false ≡ true = ends.0 in cc
closes served.Spent count limit used_up broken ends just = ends.1
closes served.Ended count limit used_up broken ends just = (ends.1, just)
closes served.Failed count limit used_up broken ends just = ends.1
closes (served.Bad k) count limit used_up broken ends just = (ends.1, just)

last_is : (answer : Served) (count limit : ℕ) (m : Machine) → Ends answer false count limit → serve.last_passes answer (wake m) ≡ last_passes (status_from answer) m
last_is served.Finished count limit m ends = let never : false ≡ true = ends.0 in cc
last_is served.Spent count limit m ends = refl
last_is served.Ended count limit m ends = refl
last_is served.Failed count limit m ends = refl
last_is (served.Bad k) count limit m ends = refl

-- What the loop passes is what the machine does.
serving_is : (c : Config) (first : Cache) (seed : List ℕ) (events : List Event) (answer : Served) (count limit : ℕ) → Ends answer false count limit
    → passes core_machine (draws_of seed) 0 (core_opening c first) events answer
    ≡ machine_passes c first seed events ++ last_passes (status_from answer) (machine_from c first seed events)
serving_is c first seed events answer count limit ends =
    let core = state_after core_machine (draws_of seed) 0 (core_opening c first) events in
    ap (λ l. l ++ serve.last_passes answer (wake core.machine)) (run_passes c first seed events)
    ∙ ap (λ (r : Running). machine_passes c first seed events ++ serve.last_passes answer (wake r.machine)) (run_state c first seed events)
    ∙ ap (λ l. machine_passes c first seed events ++ l) (last_is answer count limit (machine_from c first seed events) ends)

-- The core began with a configuration and a first cache, and the words are those of a seed from the first on.

passed_begun : {W : Type 0} (history : W → List Exchange → W → Type 0) (old new : W) (c : Config) (first : Cache) (seed : List ℕ) (drawn : Drawn) (start : Running)
    (answer : Served) (events : List Event) → drawn ≡ record { seed = seed; given = 0 } → start ≡ core_opening c first
    → history old (passes core_machine (draws_of drawn.seed) drawn.given start events answer) new
    → history old (passes core_machine (draws_of seed) 0 (core_opening c first) events answer) new
passed_begun history old new c first seed drawn start answer events words opened h =
    subst (λ b. history old (passes core_machine (draws_of seed) 0 b events answer) new) opened
    (subst (λ d. history old (passes core_machine (draws_of d.seed) d.given start events answer) new) words h)

ran_begun : (c : Config) (first : Cache) (seed : List ℕ) (drawn : Drawn) (start core : Running) (limit : ℕ)
    (answer : Served) (events : List Event) → drawn ≡ record { seed = seed; given = 0 } → start ≡ core_opening c first
    → Ran core_machine (draws_of drawn.seed) drawn.given start core limit events answer
    → Ran core_machine (draws_of seed) 0 (core_opening c first) core limit events answer
ran_begun c first seed drawn start core limit answer events words opened r =
    subst (λ b. Ran core_machine (draws_of seed) 0 b core limit events answer) opened
    (subst (λ d. Ran core_machine (draws_of d.seed) d.given start core limit events answer) words r)

-- One exchange, and then others.
abbrev pub Follows : {W : Type 0} → (W → List Exchange → W → Type 0) → Type 0
Follows {W} history = (a b c : W) (x : Exchange) (ys : List Exchange) → history a (x ∷ []) b → history b ys c → history a (x ∷ ys) c

-- A world listened, and a core served its events.
pub serves : {W : Type 0} (history : W → List Exchange → W → Type 0) (used_up : W → Type 0) (broken : W → ℕ → Type 0)
    (old mid new : W) (c : Config) (first : Cache) (seed : List ℕ) (drawn : Drawn) (start core : Running) (limit : ℕ) (answer : Served) (status : Status) (events : List Event)
    → Follows history → HaveSixteen c.zones → history old (listened c.ip c.ipsend true ∷ []) mid
    → drawn ≡ record { seed = seed; given = 0 } → start ≡ core_opening c first
    → history mid (passes core_machine (draws_of drawn.seed) drawn.given start events answer) new
    → Ran core_machine (draws_of drawn.seed) drawn.given start core limit events answer
    → Justified answer (used_up new) (broken new) → status ≡ status_from answer
    → ServingFrom history used_up broken old new c first seed limit status core
serves history used_up broken old mid new c first seed drawn start core limit answer status events follows places listening words opened passed ran just ended =
    let r = ran_begun c first seed drawn start core limit answer events words opened ran in
    let h = passed_begun history mid new c first seed drawn start answer events words opened passed in
    let all = follows old mid new (listened c.ip c.ipsend true) _ listening (subst (λ l. history mid l new) (serving_is c first seed events answer (length events) limit r.ends) h) in
    subst (λ a. ServingFrom history used_up broken old new c first seed limit a core) (sym ended) (record {
      events = events;
      bounded = r.bounded;
      passed = all;
      core_is = r.state ∙ run_state c first seed events;
      trust = begun_trusted c first seed events places r.bounded;
      closes = closes answer (length events) limit (used_up new) (broken new) r.ends just;
    })

-- How the world answered `listen`

pub went_well : {T E : Type 0} (r : Result T E) → is_err r ≡ false → is_ok r ≡ true
went_well (Ok x) e = refl
went_well (Err x) e = cc

pub went_wrong : {T E : Type 0} (r : Result T E) → is_err r ≡ true → is_ok r ≡ false
went_wrong (Ok x) e = cc
went_wrong (Err x) e = refl

pub count_ok : {T E : Type 0} (r : Result T E) (n : ℕ) → is_err r ≡ false → count_by r n ≡ n
count_ok (Ok x) n e = refl
count_ok (Err x) n e = cc

pub count_err : {T E : Type 0} (r : Result T E) (n : ℕ) → is_err r ≡ true → count_by r n ≡ counted n
count_err (Ok x) n e = cc
count_err (Err x) n e = refl

-- Nothing was served where the world failed to listen.
pub unserved : {W : Type 0} (history : W → List Exchange → W → Type 0) (used_up : W → Type 0) (broken : W → ℕ → Type 0) (old new : W)
    (c : Config) (first : Cache) (seed : List ℕ) (limit : ℕ) (status : Status) (core : Option Running)
    → status ≡ WorldFault → core ≡ None → history old (listened c.ip c.ipsend false ∷ []) new
    → ServesFrom history used_up broken old new c first seed limit status core
unserved history used_up broken old new c first seed limit status core fault none passed =
    subst (λ k. ServesFrom history used_up broken old new c first seed limit status k) (sym none)
    (subst (λ s. ServesFrom history used_up broken old new c first seed limit s None) (sym fault) passed)

-- Which variable is bad

abbrev pub refusal : ConfigError → Result Config ConfigError
refusal error = Err error

abbrev pub stands : Config → Result Config ConfigError
stands c = Ok c

-- The status of what `load` answers.
abbrev status_by : Result Config ConfigError → Status
status_by (Ok c) = Done
status_by (Err error) = refused_by error

named_by : (error : ConfigError) (v : Named) → refused_by error ≡ BadVariable v → error ≡ config.BadVariable v
named_by (config.BadVariable w) v e = cc
named_by (config.BadZone f) v e = cc
named_by config.NoRoot v e = cc
named_by (config.BadPermit f) v e = cc
named_by config.FilesFault v e = cc
named_by config.NoMemory v e = cc

-- A refused configuration names the variable that is bad.
pub refused_variable : (error : ConfigError) (status : Status) (bad : Option Named) → status ≡ refused_by error
    → ((v : Named) → (refusal error ≡ refusal (config.BadVariable v)) ↔ (bad ≡ Some v))
    → (v : Named) → (status ≡ BadVariable v) ↔ (bad ≡ Some v)
refused_variable error status bad is told v =
    (λ e. (told v).0 (ap refusal (named_by error v (sym is ∙ e))), λ e. is ∙ ap status_by ((told v).1 e))
