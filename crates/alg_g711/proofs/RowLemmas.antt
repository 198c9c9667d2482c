-- The worked rows, computed by the checker.
use Rattle.std.proofs.Common.{refl}
use Rattle.alg_g711.specs.Companding.{interval_of}
use Rattle.alg_g711.specs.Rows.{CodeRows, SampleRows, CoderRows, ParameterRows, KindRows}

pub codes : CodeRows
unfolding interval_of
codes = record { a_zero = refl; a_below_0 = refl; mu_zero = refl; mu_below_0 = refl; mu_greatest = refl; mu_least = refl }

pub samples : SampleRows
samples = record {
  a_greatest = refl;
  a_least = refl;
  a_zero = refl;
  a_below_0 = refl;
  mu_greatest = refl;
  mu_least = refl;
  mu_zero = refl;
  mu_below_0 = refl;
}

pub coders : CoderRows
unfolding interval_of
coders = record { mu_encoder = refl; a_encoder = refl; mu_decoder = refl; a_decoder = refl }

pub parameters : ParameterRows
parameters = record {
  encoder = refl;
  decoder = refl;
  law_two = refl;
  law_below_0 = refl;
  direction_two = refl;
  direction_below_0 = refl;
  one_word = refl;
  three_words = refl;
  no_set = refl;
  reset = refl;
  get = refl;
}

pub kinds : KindRows
kinds = record { a_encoder = refl; a_decoder = refl; mu_encoder = refl; mu_decoder = refl }
