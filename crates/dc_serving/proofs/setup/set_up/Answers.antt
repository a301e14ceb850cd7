use Rattle.std.proofs.Common.{[], ap, sym, ◌∙◌, rules}
use Rattle.dc_config.specs.Asked.{well_error}
use Rattle.dc_status.specs.Faults.{fault_of, files_well}
use Rattle.dc_status.proofs.FareLemmas.{error_files, fares_as}
use Rattle.dc_serving.proofs.BegunLemmas.{refused_read, stands_read}
use Rattle.dc_serving.proofs.setup.set_up.Goals as goal

pub returns-in-Err-clause-set_up : goal.returns-in-Err-clause-set_up
returns-in-Err-clause-set_up g c = record {
  bytes = [];
  taken = search rules;
  reads = search rules;
  conf = search rules;
  variable = refused_read c.in-Err.error _ _ c.from.ensures c.in-Err.ensures.variable;
}

pub returns-in-Whole-clause-set_up : goal.returns-in-Whole-clause-set_up
returns-in-Whole-clause-set_up g c = record {
  bytes = c.in-Whole.ensures.took.0;
  taken = c.in-Whole.ensures.took.1;
  reads = (c.in-Ok.ensures.conf, c.in-Whole.ensures.took.2.0, c.in-Whole.ensures.took.2.1);
  conf = c.in-Ok.ensures.conf;
  variable = stands_read c.in-Ok.config _ _ (λ v e. cc) c.in-Ok.ensures.variable;
}

pub returns-in-Short-clause-set_up : goal.returns-in-Short-clause-set_up
returns-in-Short-clause-set_up g c = record {
  bytes = c.in-Short.ensures.took.0;
  taken = c.in-Short.ensures.took.1;
  reads = c.in-Short.ensures.took.2;
  conf = search rules;
  variable = stands_read c.in-Ok.config _ _ (λ v e. cc) c.in-Ok.ensures.variable;
}

pub returns-in-Failed-clause-set_up : goal.returns-in-Failed-clause-set_up
returns-in-Failed-clause-set_up g c = record {
  bytes = c.in-Failed.ensures.took.0;
  taken = c.in-Failed.ensures.took.1;
  reads = c.in-Failed.ensures.took.2;
  conf = search rules;
  variable = stands_read c.in-Ok.config _ _ (λ v e. cc) c.in-Ok.ensures.variable;
}

-- How the objects fared

pub returns-in-Err-clause-files_fare : goal.returns-in-Err-clause-files_fare
returns-in-Err-clause-files_fare g c =
    let files = g.F.Files in
    fares_as files.asked files.refused files.faults _ _ (well_error c.in-Err.error) _
    (error_files c.in-Err.error ∙ ap (λ s. files_well (fault_of s)) (sym c.from.ensures)) c.in-Err.ensures.fares
