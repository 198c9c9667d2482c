-- The worked rows, computed.
use Rattle.std.proofs.Common.{refl}
use Rattle.std.specs.Fmt.{digits}
use Rattle.alg_g711.specs.Companding.{interval_of}
use Rattle.voice_script.specs.Served.{held_by, order_of, refusals}
use Rattle.voice_script.specs.Computed.{line_answer, lines_answer}
use Rattle.test_runs.specs.ConsoleRows.{WorkedRows, OctetRows, OutputOrder}
use Rattle.test_runs.specs.RefusalRows.{RefusalRows}

pub octet_rows : OctetRows
unfolding digits interval_of held_by order_of refusals line_answer lines_answer
octet_rows = record { decoded = refl; encoded = refl; seven = refl; each_by_itself = refl }

pub worked_rows : WorkedRows
unfolding digits interval_of held_by order_of refusals line_answer lines_answer
worked_rows = record {
  half = refl;
  two_coefficients = refl;
  cut_feeds = refl;
  least_sample = refl;
  limited_sums = refl;
  phase = refl;
  echo = refl;
  mu_law_codes = refl;
  a_law_codes = refl;
  mu_law_samples = refl;
  a_law_samples = refl;
  frame = refl;
  turns = refl;
  no_room = refl;
  replaced = refl;
  not_replaced = refl;
  set_and_reset = refl;
  compacted = refl;
  packed = refl;
  anew = refl;
  short = refl;
  empty_script = refl;
  long_line = refl;
  refused_control = refl;
  refused_commands = refl;
  empty_block = refl;
  overlapping_moves = refl;
  no_daram = refl;
  some_left = refl;
  two_members = refl;
  shared = refl;
  not_shared = refl;
  longest_line = refl;
  long_with_return = refl;
  tabs_and_return = refl;
  two_returns = refl;
  longest_feed = refl;
}

pub refusal_rows : RefusalRows
unfolding digits held_by order_of refusals line_answer lines_answer
refusal_rows = record {
  numbers = refl;
  syntax_first = refl;
  spaces = refl;
  coefficients = refl;
  instances = refl;
  creations = refl;
  no_saram = refl;
  no_external = refl;
  controls = refl;
  settings = refl;
  deletions = refl;
  chains = refl;
  unchains = refl;
  feeds = refl;
  groups = refl;
}

pub output_order : OutputOrder
unfolding digits order_of line_answer lines_answer
output_order = record { order = refl }
