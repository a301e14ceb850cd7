-- Laws on recorded runs.
use Rattle.std.proofs.Common.{◌≡◌, inl, inr, ℕ, suc, ◌<◌, ◌≤◌, true, false, leb, min, max, List, [], ◌∷◌, ◌++◌, length, map, flat_map, refl, ap, sym, ◌∙◌, subst, arith, append_assoc, Option, Some, None, Result, Ok, Err}
use Rattle.std.specs.Prelude.{All}
use Rattle.std.specs.List.{AllByRecursion}
use Rattle.std.specs.Io.KnownBytes.{IsAtEnd}
use Rattle.std.proofs.lemmas.List.{append-nil}
use Rattle.std.proofs.lemmas.Bool.{lt-leb}
use Rattle.dc_model.specs.Cache.{empty}
use Rattle.dc_model.specs.Event.{Event, Action, IsEvent, line}
use Rattle.dc_model.specs.Line.{line_starting, words}
use Rattle.dc_machine.specs.Machine.{Machine}
use Rattle.dc_machine.specs.Run.{Taken, seeded_run, actions_of}
use Rattle.dc_event.specs.History.{Exchange, actions_in, done_all, actions-both, actions-done}
use Rattle.dc_rules.specs.Settings.{rules_of}
use Rattle.dc_rules.specs.declared.config.Config.{Config}
use Rattle.dc_config.specs.Environment.{Environment}
use Rattle.dc_config.specs.Tree.{Tree}
use Rattle.dc_config.specs.Conf.{conf_of}
use Rattle.dc_config.specs.Modes.{bad_recorded}
use Rattle.dc_config.specs.declared.error.ConfigError.{ConfigError}
use Rattle.dc_play.specs.Playing.{Outcome, outcome_of}
use Rattle.dc_play.specs.declared.played.Played.TheVariants.{Done as played_done}
use Rattle.dc_script.specs.Head.{script_said}
use Rattle.dc_script.specs.Read.{end_text}
use Rattle.dc_script.specs.HeadText.{IsTold, lines_onto, head_text, head_words}
use Rattle.dc_script.specs.Script.{Words}
use Rattle.dc_script.specs.Text.{text_of}
use Rattle.dc_record.specs.HeadOf.{told_of, head_of, scripted}
use Rattle.dc_record.specs.Plain.{plain}
use Rattle.dc_record.specs.Recorded.{lines_of, HasOctets}
use Rattle.dc_record.proofs.PlainLemmas.{recorded_said as events_said}
use Rattle.dc_serving.specs.Runs.{cache_of, run_with, machine_run}
use Rattle.dc_serving.specs.Serving.{at_event, machine_passes, machine_from, last_passes, session_passes, IsConfigured}
use Rattle.dc_serving.proofs.Complete.{memory_alone}
use Rattle.dc_status.specs.Faults.{fault_of, files_well, source_well, sink_well, world_well}
use Rattle.dc_status.specs.declared.status.Status.{Status}
use Rattle.dc_status.specs.declared.status.Status.TheVariants.{Done, Spent, Usage, BadVariable, NoRoot, BadZone, BadPermit, FilesFault, SeedShort, ReadFault, WriteFault, BadScript, BadImage, Unequal, WorldFault, NoMemory}
use Rattle.dc_recording.specs.Rooted.{rooted, IsSaid}
use Rattle.dc_recording.specs.Recording.{head_lines, Unready, Unlistened, Unserved, FitsRecorded, IsFaultOf}
use Rattle.dc_recording.proofs.StepLemmas.{runs_plain}

-- A head with something behind it.

lines_end_onto : (wss : List Words) (tail : List ℕ) → lines_onto wss [] ++ tail ≡ lines_onto wss tail
lines_end_onto [] tail = refl
lines_end_onto (ws ∷ wss) tail =
    append_assoc (words ws) (10 ∷ lines_onto wss []) tail ∙ ap (λ l. words ws ++ (10 ∷ l)) (lines_end_onto wss tail)

pub head_onto : (c : Config) (seed tail : List ℕ) → head_lines c seed ++ tail ≡ head_text (told_of (rooted c) seed) tail
unfolding head_text
head_onto c seed tail = lines_end_onto (head_words (told_of (rooted c) seed)) tail

-- Plain events

pub plain_run : (c : Config) (seed : List ℕ) (es : List Event) → machine_run c seed (map plain es) ≡ machine_run c seed es
unfolding machine_run
plain_run c seed es = runs_plain (rules_of c) seed (cache_of c) es

-- What is done

taken_done : (ts : List Taken) → actions_in (flat_map at_event ts) ≡ flat_map (λ t. t.stepped.actions) ts
taken_done [] = refl
taken_done (t ∷ ts) =
    actions-both (done_all t.stepped.actions) (flat_map at_event ts) ∙ (λ i. actions-done t.stepped.actions i ++ taken_done ts i)

last_done : (status : Status) (m : Machine) → actions_in (last_passes status m) ≡ []
last_done Done m = refl
last_done (BadScript k) m = refl
last_done WorldFault m = refl
last_done Spent m = refl
last_done Usage m = refl
last_done (BadVariable v) m = refl
last_done NoRoot m = refl
last_done (BadZone f) m = refl
last_done (BadPermit f) m = refl
last_done FilesFault m = refl
last_done SeedShort m = refl
last_done ReadFault m = refl
last_done WriteFault m = refl
last_done BadImage m = refl
last_done Unequal m = refl
last_done NoMemory m = refl

passes_done : (c : Config) (seed : List ℕ) (es : List Event) → actions_in (machine_passes c (cache_of c) seed es) ≡ machine_run c seed es
unfolding machine_passes machine_run actions_of
passes_done c seed es = ap (λ l. line line_starting ∷ l) (taken_done (run_with c seed es))

pub session_done : (c : Config) (seed : List ℕ) (es : List Event) (status : Status) → actions_in (session_passes c seed es status) ≡ machine_run c seed es
session_done c seed es status =
    let m = machine_from c (cache_of c) seed es in
    actions-both (machine_passes c (cache_of c) seed es) (last_passes status m) ∙ (λ i. passes_done c seed es i ++ last_done status m i) ∙ append-nil (machine_run c seed es)

-- What was recorded is read back
pub recorded_said : (c : Config) (seed : List ℕ) (es : List Event) → IsTold (told_of (rooted c) seed) (rooted c).permit (rooted c).zones → All IsEvent es → AllByRecursion HasOctets es
    → script_said ((head_lines c seed ++ lines_of es) ++ end_text) ≡ record { head = Some (head_of (rooted c) seed); said = record { events = map plain es; bad = None } }
recorded_said c seed es t w o =
    ap script_said (append_assoc (head_lines c seed) (lines_of es) end_text ∙ head_onto c seed (lines_of es ++ end_text))
    ∙ events_said (told_of (rooted c) seed) (rooted c).permit (rooted c).zones es t w o

-- Playing what was recorded

abbrev played_end : List ℕ → Outcome
played_end text = record { answer = played_done; text = text }

bounded_twice : (n : ℕ) → min (max (min (max n 100) 1000000000) 100) 1000000000 ≡ min (max n 100) 1000000000
bounded_twice n = omega arith

scripted_run : (c : Config) (seed : List ℕ) (es : List Event) → machine_run (scripted c) seed es ≡ machine_run c seed es
unfolding machine_run
scripted_run c seed es = ap (λ n. actions_of (seeded_run (rules_of c) seed (empty n) es)) (bounded_twice c.size)

map_length : (es : List Event) → length (map plain es) ≡ length es
map_length [] = refl
map_length (e ∷ es) = ap suc (map_length es)

plays : (go : List Event → List Action) (limit : ℕ) (es : List Event) → length es < limit
    → outcome_of go limit (record { events = es; bad = None }) ≡ record { answer = played_done; text = text_of (go es) }
unfolding outcome_of
plays go limit es few =
    let short : leb limit (length es) ≡ false = lt-leb limit (length es) few in
    rw short refl

pub recorded_plays : (c : Config) (seed : List ℕ) (es : List Event) (limit : ℕ) → length es < limit
    → outcome_of (machine_run (scripted (rooted c)) seed) limit (record { events = map plain es; bad = None }) ≡ record { answer = played_done; text = text_of (machine_run (rooted c) seed es) }
recorded_plays c seed es limit few =
    plays (machine_run (scripted (rooted c)) seed) limit (map plain es) (subst (λ n. n < limit) (sym (map_length es)) few)
    ∙ ap (λ a. played_end (text_of a)) (scripted_run (rooted c) seed (map plain es) ∙ plain_run (rooted c) seed es)

-- What keeps a service from being served

other_conf : (conf : Result Config ConfigError) (c : Config) (why : ConfigError) → conf ≡ Ok c → conf ≡ Err why → ⊥
other_conf conf c why e f = cc

one_conf : (conf : Result Config ConfigError) (c d : Config) → conf ≡ Ok c → conf ≡ Ok d → c ≡ d
one_conf conf c d e f = cc

ready_faults : (env : Environment) (t : Tree) (c : Config) (taken : List ℕ) (left : Option (List ℕ)) (status : Status)
    → conf_of env t ≡ Ok c → IsSaid c → (IsAtEnd left → 32 ≤ length taken)
    → FitsRecorded status (conf_of env t) → Unready (IsConfigured env (Some t)) (bad_recorded env) taken left status → IsFaultOf status
ready_faults env t c taken left FilesFault e said s f u = inl tt
ready_faults env t c taken left ReadFault e said s f u = inl tt
ready_faults env t c taken left NoMemory e said s f u = inl tt
ready_faults env t c taken left WorldFault e said s f u = inl tt
ready_faults env t c taken left (BadVariable v) e said s f u = absurd (f.2 (subst IsSaid (one_conf (conf_of env t) c f.0 e f.1) said))
ready_faults env t c taken left NoRoot e said s f u = absurd (other_conf (conf_of env t) c _ e f)
ready_faults env t c taken left (BadZone g) e said s f u = absurd (other_conf (conf_of env t) c _ e f)
ready_faults env t c taken left (BadPermit g) e said s f u = absurd (other_conf (conf_of env t) c _ e f)
ready_faults env t c taken left SeedShort e said s f u = let whole = s u.1 in let short = u.0 in absurd (omega (arith, whole, short))
ready_faults env t c taken left Done e said s f u = absurd u
ready_faults env t c taken left Spent e said s f u = absurd u
ready_faults env t c taken left Usage e said s f u = absurd u
ready_faults env t c taken left WriteFault e said s f u = absurd u
ready_faults env t c taken left (BadScript k) e said s f u = absurd u
ready_faults env t c taken left BadImage e said s f u = absurd u
ready_faults env t c taken left Unequal e said s f u = absurd u

begun_faults : {W K : Type 0} (history : W → List Exchange → W → Type 0) (gained : K → List ℕ → K → Type 0) (old new : W) (sink later : K) (head : List ℕ) (c : Config) (status : Status)
    → Unlistened history gained old new sink later head c status → IsFaultOf status
begun_faults history gained old new sink later head c NoMemory u = inl tt
begun_faults history gained old new sink later head c WorldFault u = inl tt
begun_faults history gained old new sink later head c WriteFault u = inr refl
begun_faults history gained old new sink later head c Done u = absurd u
begun_faults history gained old new sink later head c Spent u = absurd u
begun_faults history gained old new sink later head c Usage u = absurd u
begun_faults history gained old new sink later head c (BadVariable v) u = absurd u
begun_faults history gained old new sink later head c NoRoot u = absurd u
begun_faults history gained old new sink later head c (BadZone f) u = absurd u
begun_faults history gained old new sink later head c (BadPermit f) u = absurd u
begun_faults history gained old new sink later head c FilesFault u = absurd u
begun_faults history gained old new sink later head c SeedShort u = absurd u
begun_faults history gained old new sink later head c ReadFault u = absurd u
begun_faults history gained old new sink later head c (BadScript k) u = absurd u
begun_faults history gained old new sink later head c BadImage u = absurd u
begun_faults history gained old new sink later head c Unequal u = absurd u

pub only_faults : {W K : Type 0} (history : W → List Exchange → W → Type 0) (gained : K → List ℕ → K → Type 0) (old new : W) (sink later : K) (env : Environment) (t : Tree) (c : Config)
    (taken : List ℕ) (left : Option (List ℕ)) (status : Status)
    → bad_recorded env ≡ None → conf_of env t ≡ Ok c → IsSaid c → (IsAtEnd left → 32 ≤ length taken)
    → FitsRecorded status (conf_of env t) → Unserved history gained old new sink later (IsConfigured env (Some t)) (bad_recorded env) taken left status → IsFaultOf status
only_faults history gained old new sink later env t c taken left status good e said s f (inl u) = ready_faults env t c taken left status e said s f u.0
only_faults history gained old new sink later env t c taken left status good e said s f (inr u) = begun_faults history gained old new sink later _ u.0 status u.2

write_fault : (status : Status) → status ≡ WriteFault → sink_well (fault_of status) ≡ true → ⊥
write_fault status e w = let never : false ≡ true = sym (ap (λ a. sink_well (fault_of a)) e) ∙ w in cc

pub only_memory : {W K : Type 0} (history : W → List Exchange → W → Type 0) (gained : K → List ℕ → K → Type 0) (old new : W) (sink later : K) (env : Environment) (t : Tree) (c : Config)
    (taken : List ℕ) (left : Option (List ℕ)) (status : Status)
    → bad_recorded env ≡ None → conf_of env t ≡ Ok c → IsSaid c → (IsAtEnd left → 32 ≤ length taken)
    → FitsRecorded status (conf_of env t) → Unserved history gained old new sink later (IsConfigured env (Some t)) (bad_recorded env) taken left status
    → files_well (fault_of status) ≡ true → source_well (fault_of status) ≡ true → sink_well (fault_of status) ≡ true → world_well (fault_of status) ≡ true → status ≡ NoMemory
only_memory history gained old new sink later env t c taken left status good e said s f u files source well world =
    ends (only_faults history gained old new sink later env t c taken left status good e said s f u)
  where
    ends : IsFaultOf status → status ≡ NoMemory
    ends (inl h) = memory_alone status h files source world
    ends (inr h) = absurd (write_fault status h well)
