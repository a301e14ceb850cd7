use Rattle.std.proofs.Common.{◌≡◌, ◌≤◌, length, take, map, ℕ, List, Option, Some}
use Rattle.dc_config.specs.Environment.{value_of}
use Rattle.dc_config.specs.Variables as defined
use Rattle.dc_program.specs.Invoked.{value_among}
use Rattle.dc_program.proofs.read.environment.Given as goal

abbrev pub invariant-loop-name : goal.invariant-loop-name
invariant-loop-name g l = record {
  few : length l.environment ≤ l.name-index;
  names : map (λ name. name.now) l.name-items ≡ defined.names;
  values : (value : List ℕ → Option (List ℕ)) → g.P.Invocation.values l.fn.process ≡ Some value → (name : List ℕ) → value_of name l.environment ≡ value_among value (take l.name-index defined.names) name;
}
