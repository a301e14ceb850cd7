-- How objects fared in a session.
use Rattle.std.proofs.Common.{◌≡◌, ℕ, true, List, refl, Option, Some, None}
use Rattle.dc_event.specs.Causes.{count_where}
use Rattle.dc_event.specs.History.{Exchange}
use Rattle.dc_rules.specs.declared.config.Config.{Config}
use Rattle.dc_serve.specs.Serve.{count_served}
use Rattle.dc_serve.specs.declared.Served.{Served}
use Rattle.dc_serve.specs.declared.Served.TheVariants as served
use Rattle.dc_core.specs.Running.{Running}
use Rattle.dc_status.specs.declared.status.Status.{Status}
use Rattle.dc_status.specs.declared.status.Status.TheVariants.{Done, Spent, Usage, BadVariable, NoRoot, BadZone, BadPermit, FilesFault, SeedShort, ReadFault, WriteFault, BadScript, BadImage, Unequal, WorldFault, NoMemory}
use Rattle.dc_status.specs.Faults.{fault_of, files_well, source_well, sink_well, world_well}
use Rattle.dc_serving.specs.Serving.{IsSession, Closes, Refused, status_from}

-- The end of the loop

pub ended_files : (a : Served) → files_well (fault_of (status_from a)) ≡ true
ended_files served.Finished = refl
ended_files served.Spent = refl
ended_files served.Ended = refl
ended_files served.Failed = refl
ended_files (served.Bad k) = refl

pub ended_source : (a : Served) → source_well (fault_of (status_from a)) ≡ true
ended_source served.Finished = refl
ended_source served.Spent = refl
ended_source served.Ended = refl
ended_source served.Failed = refl
ended_source (served.Bad k) = refl

pub ended_world : (a : Served) (before : ℕ) → count_served a before ≡ count_where (world_well (fault_of (status_from a))) before
ended_world served.Finished before = refl
ended_world served.Spent before = refl
ended_world served.Ended before = refl
ended_world served.Failed before = refl
ended_world (served.Bad k) before = refl

-- Serving writes nothing to the sink.

refused_sink : (status : Status) (taken : List ℕ) (left : Option (List ℕ)) → Refused status taken left → sink_well (fault_of status) ≡ true
refused_sink (BadVariable v) taken left h = refl
refused_sink NoRoot taken left h = refl
refused_sink (BadZone f) taken left h = refl
refused_sink (BadPermit f) taken left h = refl
refused_sink FilesFault taken left h = refl
refused_sink SeedShort taken left h = refl
refused_sink ReadFault taken left h = refl
refused_sink WorldFault taken left h = refl
refused_sink NoMemory taken left h = refl
refused_sink Done taken left h = refl
refused_sink Spent taken left h = refl
refused_sink Usage taken left h = refl
refused_sink WriteFault taken left h = absurd h
refused_sink (BadScript k) taken left h = refl
refused_sink BadImage taken left h = refl
refused_sink Unequal taken left h = refl

closed_sink : (status : Status) (count limit : ℕ) (used_up : Type 0) (broken : ℕ → Type 0) → Closes status count limit used_up broken → sink_well (fault_of status) ≡ true
closed_sink Done count limit used_up broken h = refl
closed_sink Spent count limit used_up broken h = refl
closed_sink (BadScript k) count limit used_up broken h = refl
closed_sink WorldFault count limit used_up broken h = refl
closed_sink Usage count limit used_up broken h = refl
closed_sink (BadVariable v) count limit used_up broken h = refl
closed_sink NoRoot count limit used_up broken h = refl
closed_sink (BadZone f) count limit used_up broken h = refl
closed_sink (BadPermit f) count limit used_up broken h = refl
closed_sink FilesFault count limit used_up broken h = refl
closed_sink SeedShort count limit used_up broken h = refl
closed_sink ReadFault count limit used_up broken h = refl
closed_sink WriteFault count limit used_up broken h = absurd h
closed_sink NoMemory count limit used_up broken h = refl
closed_sink BadImage count limit used_up broken h = refl
closed_sink Unequal count limit used_up broken h = refl

pub served_sink : {W : Type 0} (history : W → List Exchange → W → Type 0) (used_up : W → Type 0) (broken : W → ℕ → Type 0) (old new : W) (configured : Config → Type 0)
    (taken : List ℕ) (left : Option (List ℕ)) (limit : ℕ) (status : Status) (core : Option Running)
    → IsSession history used_up broken old new configured taken left limit status core → sink_well (fault_of status) ≡ true
served_sink history used_up broken old new configured taken left limit status None s = refused_sink status taken left s.0
served_sink history used_up broken old new configured taken left limit status (Some core) s =
    let closes = s.3.closes in
    closed_sink status _ limit _ _ closes
