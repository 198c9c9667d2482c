-- The worked rows, computed.
use Rattle.std.proofs.Common.{refl}
use Rattle.alg_tone.specs.Rows.{OutputRows, ParameterRows, ControlRows}

pub outputs : OutputRows
outputs = record {
  one_frame = refl;
  unfinished = refl;
  next_frame = refl;
  without_set = refl;
  with_set = refl;
  level_factor = refl;
  halved = refl;
  one_sample = refl;
  cut_off = refl;
  limited_in_order = refl;
  squares_first = refl;
  reset_within = refl;
}

pub parameters : ParameterRows
parameters = record {
  samples_0 = refl;
  samples_1 = refl;
  samples_1024 = refl;
  samples_1025 = refl;
  samples_below_0 = refl;
  shift_below_0 = refl;
  shift_15 = refl;
  shift_16 = refl;
  two_words = refl;
  four_words = refl;
}

pub controls : ControlRows
controls = record {
  set_none = refl;
  set_one = refl;
  set_two = refl;
  reset = refl;
  get = refl;
  got_3 = refl;
  got_full = refl;
  got_next = refl;
  got_reset = refl;
}
