-- The worked rows, computed by the checker.
use Rattle.std.proofs.Common.{refl}
use Rattle.alg_biquad.specs.Rows.{OutputRows, ParameterRows, ControlRows}

pub outputs : OutputRows
outputs = record { fed_back = refl; below_0 = refl; other_coefficients = refl; limited = refl; samples_in_order = refl; samples_first = refl; outputs_in_order = refl; kept_over_set = refl; reset_within = refl }

pub parameters : ParameterRows
parameters = record { four = refl; five = refl; six = refl }

pub controls : ControlRows
controls = record { set_four = refl; set_five = refl; set_six = refl; reset = refl; get = refl; got_created = refl; got_set = refl }
