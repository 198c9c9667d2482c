-- The worked rows, computed by the checker.
use Rattle.std.proofs.Common.{refl}
use Rattle.alg_fir.specs.Rows.{FilterRows, DecimatorRows, TableRows, ParameterRows, ControlRows}

pub filters : FilterRows
filters = record {
  halves = refl;
  means = refl;
  product_is_limited = refl;
  sums_are_limited = refl;
  kept_over_set = refl;
  reset_within = refl;
}

pub decimators : DecimatorRows
decimators = record {
  means = refl;
  unfinished = refl;
  phase_between = refl;
  reset_within = refl;
  phase_after_reset = refl;
}

pub tables : TableRows
tables = record {
  filter = refl;
  decimator = refl;
}

pub parameters : ParameterRows
parameters = record {
  no_coefficient = refl;
  one_coefficient = refl;
  all_coefficients = refl;
  too_many_coefficients = refl;
  no_factor = refl;
  factor_alone = refl;
  factor_0 = refl;
  factor_below_0 = refl;
  factor_1 = refl;
  factor_16 = refl;
  factor_17 = refl;
  decimator_of_64 = refl;
  decimator_of_65 = refl;
}

pub controls : ControlRows
controls = record {
  set_of_another_length = refl;
  set_of_the_length = refl;
  decimator_set = refl;
  decimator_reset = refl;
  decimator_get = refl;
  got_created = refl;
  got_set = refl;
}
