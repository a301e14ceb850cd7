-- A session of a service that records, by how far it came.
use Rattle.std.proofs.Common.{◌≡◌, inl, inr, ℕ, Bool, false, List, [], ◌∷◌, ◌++◌, ap, sym, ◌∙◌, subst, Option, Some, None, Result, Ok, Err}
use Rattle.std.proofs.lemmas.List.{append-nil}
use Rattle.dc_model.specs.Cache.{Cache}
use Rattle.dc_event.specs.Causes.{Fares, count_where}
use Rattle.dc_event.specs.Told.{GainedFront}
use Rattle.dc_event.specs.History.{Exchange, listened}
use Rattle.dc_rules.specs.declared.config.Config.{Config}
use Rattle.dc_config.specs.Environment.{Environment}
use Rattle.dc_config.specs.Tree.{Tree}
use Rattle.dc_config.specs.Conf.{conf_of}
use Rattle.dc_config.specs.Modes.{bad_recorded}
use Rattle.dc_config.specs.declared.error.Variable.{Variable as Named}
use Rattle.dc_core.specs.Running.{Running}
use Rattle.dc_play.proofs.Fine.{fares_lent}
use Rattle.dc_serving.specs.Runs.{cache_of}
use Rattle.dc_serving.specs.Serving.{IsConfigured, Unheard, ServingFrom}
use Rattle.dc_serving.proofs.BegunLemmas.{closed_cases, unheard_cases}
use Rattle.dc_status.specs.declared.status.Status.{Status}
use Rattle.dc_status.specs.declared.status.Status.TheVariants.{Done, Spent, WriteFault, BadScript, WorldFault, NoMemory}
use Rattle.dc_recording.specs.declared.ready.Ready.{Ready}
use Rattle.dc_recording.specs.Rooted.{rooted}
use Rattle.dc_recording.specs.Written.{RecordsFrom}
use Rattle.dc_recording.specs.Recording.{head_lines, Begun, Unlistened, IsSession, FitsRecorded, Recorded}
use Rattle.dc_recording.specs.Ready.{IsReady, Readies}

abbrev pub unready : Status → Result Ready Status
unready status = Err status

abbrev pub ready : Ready → Result Ready Status
ready r = Ok r

-- The status of what isn't ready.
abbrev status_read : Result Ready Status → Status
status_read (Ok r) = Done
status_read (Err status) = status

none_some : {A : Type 0} (o : Option A) (x : A) → o ≡ None → o ≡ Some x → ⊥
none_some o x e f = cc

module _ {S W K : Type 0} (took : S → List ℕ → S → Type 0) (left : S → Option (List ℕ)) (history : W → List Exchange → W → Type 0) (used_up : W → Type 0) (broken : W → ℕ → Type 0)
    (gained : K → List ℕ → K → Type 0) (env : Environment) (tree : Option Tree) (source source' : S) (limit : ℕ) where
  -- A session that ended so.
  abbrev Comes : (world world' : W) (sink sink' : K) → Status → Option Running → Type 0
  Comes world world' sink sink' status core = Recorded took left history used_up broken gained env tree source source' world world' sink sink' limit status core

  -- It is another one that ended the same way.
  came : (world world' : W) (sink sink' : K) (why status : Status) (none core : Option Running) → status ≡ why → core ≡ none → Comes world world' sink sink' why none → Comes world world' sink sink' status core
  came world world' sink sink' why status none core is same h =
      subst (λ k. Comes world world' sink sink' status k) (sym same) (subst (λ s. Comes world world' sink sink' s none) (sym is) h)

  -- Not all was ready.
  pub recorded_unready : (world : W) (sink : K) (why status : Status) (core : Option Running) → history world [] world → gained sink [] sink
      → Readies took left env tree source source' (unready why) → status ≡ why → core ≡ None → Comes world world sink sink status core
  recorded_unready world sink why status core h g s is none = came world world sink sink why status None core is none (record {
    bytes = s.bytes;
    taken = s.taken;
    session = inl (s.reads, h, g);
    conf = s.conf;
    variable = λ v e. ap status_read (s.variable v e);
  })

  -- The head wasn't written whole.
  pub recorded_headless : (world : W) (sink sink' : K) (r : Ready) (status : Status) (core : Option Running) → history world [] world → GainedFront gained sink r.head.items sink'
      → Readies took left env tree source source' (ready r) → status ≡ WriteFault → core ≡ None → Comes world world sink sink' status core
  recorded_headless world sink sink' r status core h g s is none =
      let made = s.reads.1 in
      came world world sink sink' WriteFault status None core is none (record {
        bytes = s.bytes;
        taken = s.taken;
        session = inr (made.config, made.begun, (h, subst (λ l. GainedFront gained sink l sink') made.head_is g));
        conf = s.conf;
        variable = λ v e. absurd (none_some (bad_recorded env) v s.reads.0 e);
      })

  -- The head was written, and clients were served, or not.

  records_cases : (world world' : W) (sink sink' : K) (head : List ℕ) (c : Config) (first : Cache) (seed : List ℕ) (status : Status) (core : Option Running) (P : Status → Type 0)
      → P Done → P Spent → ((k : ℕ) → P (BadScript k)) → P WorldFault → P NoMemory → P WriteFault
      → RecordsFrom history used_up broken gained world world' sink sink' head c first seed limit status core → P status
  records_cases world world' sink sink' head c first seed status None P done spent bad failed memory write h =
      unheard_cases history world world' c P (λ k. memory) (λ k. failed) status h.0
  records_cases world world' sink sink' head c first seed status (Some core) P done spent bad failed memory write (inl h) =
      closed_cases P done spent bad failed status _ limit _ _ h.serving.closes
  records_cases world world' sink sink' head c first seed status (Some core) P done spent bad failed memory write (inr h) = subst P (sym h.0) write

  records_session : (world world' : W) (sink sink' : K) (configured : Config → Type 0) (bad : Option Named) (taken : List ℕ) (rest : Option (List ℕ)) (c : Config) (status : Status) (core : Option Running)
      → Begun configured taken c → RecordsFrom history used_up broken gained world world' sink sink' (head_lines c taken) (rooted c) (cache_of (rooted c)) taken limit status core
      → IsSession history used_up broken gained world world' sink sink' configured bad taken rest limit status core
  records_session world world' sink sink' configured bad taken rest c status None begun h =
      inr (c, begun, unheard_cases history world world' (rooted c) (Unlistened history gained world world' sink sink' (head_lines c taken) c) (λ k. (k, h.1)) (λ k. (k, h.1)) status h.0)
  records_session world world' sink sink' configured bad taken rest c status (Some core) begun h = (c, begun, h)

  -- What is ready are the head, the configuration, the cache and the seed.
  as_ready : (world world' : W) (sink sink' : K) (configured : Config → Type 0) (taken : List ℕ) (r : Ready) (made : IsReady configured taken r) (status : Status) (core : Option Running)
      → RecordsFrom history used_up broken gained world world' sink sink' r.head.items r.basis.config r.first r.basis.seed limit status core
      → RecordsFrom history used_up broken gained world world' sink sink' (head_lines made.config taken) (rooted made.config) (cache_of (rooted made.config)) taken limit status core
  as_ready world world' sink sink' configured taken r made status core h =
      subst (λ l. RecordsFrom history used_up broken gained world world' sink sink' l (rooted made.config) (cache_of (rooted made.config)) taken limit status core) made.head_is
      (subst (λ c. RecordsFrom history used_up broken gained world world' sink sink' r.head.items c (cache_of (rooted made.config)) taken limit status core) made.config_is
      (subst (λ f. RecordsFrom history used_up broken gained world world' sink sink' r.head.items r.basis.config f taken limit status core) made.first_is
      (subst (λ s. RecordsFrom history used_up broken gained world world' sink sink' r.head.items r.basis.config r.first s limit status core) (sym made.seed_is) h)))

  pub recorded_ready : (world world' : W) (sink sink' : K) (r : Ready) (status : Status) (core : Option Running)
      → Readies took left env tree source source' (ready r) → RecordsFrom history used_up broken gained world world' sink sink' r.head.items r.basis.config r.first r.basis.seed limit status core
      → Comes world world' sink sink' status core
  recorded_ready world world' sink sink' r status core s h =
      let made = s.reads.1 in
      record {
        bytes = s.bytes;
        taken = s.taken;
        session = records_session world world' sink sink' (IsConfigured env tree) (bad_recorded env) s.bytes (left source') made.config status core made.begun
            (as_ready world world' sink sink' (IsConfigured env tree) s.bytes r made status core h);
        conf = λ t e good. records_cases world world' sink sink' r.head.items r.basis.config r.first r.basis.seed status core (λ a. FitsRecorded a (conf_of env t))
            (s.conf t e good) (s.conf t e good) (λ k. s.conf t e good) (s.conf t e good) tt (s.conf t e good) h;
        variable = λ v e. absurd (none_some (bad_recorded env) v s.reads.0 e);
      }

-- A world and a sink that are lent, behind a head.

module _ {W V K L : Type 0} (world_of : V → W) (sink_of : L → K) (history : W → List Exchange → W → Type 0) (used_up : W → Type 0) (broken : W → ℕ → Type 0) (gained : K → List ℕ → K → Type 0)
    (lent : V → List Exchange → V → Type 0) (put : L → List ℕ → L → Type 0)
    (through : (a b : V) (h : List Exchange) → lent a h b → history (world_of a) h (world_of b)) (down : (a b : L) (xs : List ℕ) → put a xs b → gained (sink_of a) xs (sink_of b))
    (both : (a b c : K) (xs ys : List ℕ) → gained a xs b → gained b ys c → gained a (xs ++ ys) c) where
  lent_serving : (old new : V) (c : Config) (first : Cache) (seed : List ℕ) (limit : ℕ) (status : Status) (core : Running)
      → ServingFrom lent (λ v. used_up (world_of v)) (λ v k. broken (world_of v) k) old new c first seed limit status core
      → ServingFrom history used_up broken (world_of old) (world_of new) c first seed limit status core
  lent_serving old new c first seed limit status core s = record {
    events = s.events;
    bounded = s.bounded;
    passed = through old new _ s.passed;
    core_is = s.core_is;
    trust = s.trust;
    closes = s.closes;
  }

  pub lent_records : (out : K) (head : List ℕ) (old new : V) (sink sink' : L) (c : Config) (first : Cache) (seed : List ℕ) (limit : ℕ) (status : Status) (core : Option Running)
      → gained out head (sink_of sink) → RecordsFrom lent (λ v. used_up (world_of v)) (λ v k. broken (world_of v) k) put old new sink sink' [] c first seed limit status core
      → RecordsFrom history used_up broken gained (world_of old) (world_of new) out (sink_of sink') head c first seed limit status core
  unfolding lent_serving
  lent_records out head old new sink sink' c first seed limit status None g h = (
    unheard_cases lent old new c (Unheard history (world_of old) (world_of new) c) (through old new []) (through old new (listened c.ip c.ipsend false ∷ [])) status h.0,
    subst (λ l. gained out l (sink_of sink')) (append-nil head) (both out (sink_of sink) (sink_of sink') head [] g (down sink sink' [] h.1)),
  )
  lent_records out head old new sink sink' c first seed limit status (Some core) g (inl h) = inl (record {
    serving = lent_serving old new c first seed limit status core h.serving;
    written = both out (sink_of sink) (sink_of sink') head _ g (down sink sink' _ h.written);
    octets = h.octets;
  })
  lent_records out head old new sink sink' c first seed limit status (Some core) g (inr h) = inr (
    h.0,
    record {
      events = h.1.events;
      lost = h.1.lost;
      front = h.1.front;
      bounded = h.1.bounded;
      octets = h.1.octets;
      passed = through old new _ h.1.passed;
      core_is = h.1.core_is;
      trust = h.1.trust;
      few = h.1.few;
      begins = h.1.begins;
      written = both out (sink_of sink) (sink_of sink') head _ g (down sink sink' _ h.1.written);
    },
  )

-- The whole, where the head was written before.
pub recorded_behind : {S W K : Type 0} (took : S → List ℕ → S → Type 0) (left : S → Option (List ℕ)) (history : W → List Exchange → W → Type 0) (used_up : W → Type 0) (broken : W → ℕ → Type 0)
    (gained : K → List ℕ → K → Type 0) (env : Environment) (tree : Option Tree) (source source' : S) (limit : ℕ) (both : (a b c : K) (xs ys : List ℕ) → gained a xs b → gained b ys c → gained a (xs ++ ys) c)
    (world world' : W) (out mid out' : K) (text : List ℕ) (r : Ready) (status : Status) (core : Option Running)
    → gained out text mid → text ≡ r.head.items → Readies took left env tree source source' (ready r)
    → RecordsFrom history used_up broken gained world world' mid out' [] r.basis.config r.first r.basis.seed limit status core
    → Recorded took left history used_up broken gained env tree source source' world world' out out' limit status core
recorded_behind took left history used_up broken gained env tree source source' limit both world world' out mid out' text r status core g head s h =
    recorded_ready took left history used_up broken gained env tree source source' limit world world' out out' r status core s
    (lent_records (λ v. v) (λ l. l) history used_up broken gained history gained (λ a b x p. p) (λ a b xs p. p) both out r.head.items world world' mid out' r.basis.config r.first r.basis.seed limit status core
    (subst (λ l. gained out l mid) head g) h)

-- What was served of a world and a sink that were lent.
pub records_lent : {W V K L : Type 0} (world_of : V → W) (sink_of : L → K) (history : W → List Exchange → W → Type 0) (used_up : W → Type 0) (broken : W → ℕ → Type 0) (gained : K → List ℕ → K → Type 0)
    (lent : V → List Exchange → V → Type 0) (put : L → List ℕ → L → Type 0)
    (through : (a b : V) (h : List Exchange) → lent a h b → history (world_of a) h (world_of b)) (down : (a b : L) (xs : List ℕ) → put a xs b → gained (sink_of a) xs (sink_of b))
    (none : (a : K) → gained a [] a) (both : (a b c : K) (xs ys : List ℕ) → gained a xs b → gained b ys c → gained a (xs ++ ys) c)
    (world world' : W) (out out' : K) (old new : V) (sink sink' : L) (c : Config) (first : Cache) (seed : List ℕ) (limit : ℕ) (status : Status) (core : Option Running)
    → world_of old ≡ world → world_of new ≡ world' → sink_of sink ≡ out → sink_of sink' ≡ out'
    → RecordsFrom lent (λ v. used_up (world_of v)) (λ v k. broken (world_of v) k) put old new sink sink' [] c first seed limit status core
    → RecordsFrom history used_up broken gained world world' out out' [] c first seed limit status core
records_lent world_of sink_of history used_up broken gained lent put through down none both world world' out out' old new sink sink' c first seed limit status core w w' k k' h =
    subst (λ a. RecordsFrom history used_up broken gained a world' out out' [] c first seed limit status core) w
    (subst (λ b. RecordsFrom history used_up broken gained (world_of old) b out out' [] c first seed limit status core) w'
    (subst (λ a. RecordsFrom history used_up broken gained (world_of old) (world_of new) a out' [] c first seed limit status core) k
    (subst (λ b. RecordsFrom history used_up broken gained (world_of old) (world_of new) (sink_of sink) b [] c first seed limit status core) k'
    (lent_records world_of sink_of history used_up broken gained lent put through down both (sink_of sink) [] old new sink sink' c first seed limit status core (none (sink_of sink)) h))))

-- How the sink fared.
pub sink_lent : {K L : Type 0} (sink_of : L → K) (gained : K → List ℕ → K → Type 0) (refused : K → K → Type 0) (count : K → ℕ) (put : L → List ℕ → L → Type 0) (unput : L → L → Type 0)
    (down : (a b : L) (xs : List ℕ) → put a xs b → gained (sink_of a) xs (sink_of b)) (fails : (a b : L) → unput a b → refused (sink_of a) (sink_of b)) (well : Bool) (out out' : K) (sink sink' : L)
    → sink_of sink ≡ out → sink_of sink' ≡ out' → Fares put unput (λ l. count (sink_of l)) well sink sink' → Fares gained refused count well out out'
sink_lent sink_of gained refused count put unput down fails well out out' sink sink' k k' f =
    subst (λ o. Fares gained refused count well o out') k
    (subst (λ o. Fares gained refused count well (sink_of sink) o) k' (fares_lent sink sink' sink_of gained refused count put unput down fails well f))

-- How often the world failed.
pub world_lent : {W : Type 0} (faults : W → ℕ) (well : Bool) (world world' old new : W) → old ≡ world → new ≡ world' → faults new ≡ count_where well (faults old)
    → faults world' ≡ count_where well (faults world)
world_lent faults well world world' old new w w' f = ap faults (sym w') ∙ f ∙ ap (λ a. count_where well (faults a)) w
