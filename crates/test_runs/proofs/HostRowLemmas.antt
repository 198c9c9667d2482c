-- The worked rows, computed.
use Rattle.std.proofs.Common.{refl}
use Rattle.test_runs.specs.VoiceRows.{VoiceRows}
use Rattle.test_runs.specs.CreationRows.{CreationRows}
use Rattle.test_runs.specs.SharingRows.{SharingRows}
use Rattle.test_runs.specs.RunRows.{RunRows}

pub voices : VoiceRows
voices = record {
  turns = λ poison. refl;
  no_room = λ poison. refl;
  replaced = λ poison. refl;
  not_replaced = λ poison. refl;
  compacted = λ poison. refl;
  packed = λ poison. refl;
  anew = λ poison. refl;
  missing = λ poison. refl;
  untouched = λ poison. refl;
  moved = λ poison. refl;
  controlled = λ poison. refl;
  phase = λ poison. refl;
  refusals = λ poison. refl;
}

pub creations : CreationRows
creations = record {
  shared = λ poison. refl;
  longer = λ poison. refl;
  aligned = λ poison. refl;
  keeps_alignment = λ poison. refl;
  first_block = λ poison. refl;
  first_beside_replaced = λ poison. refl;
  another_group = λ poison. refl;
  record_first = λ poison. refl;
  spaces_in_order = λ poison. refl;
  write_once = λ poison. refl;
  last_member = λ poison. refl;
  holes = λ poison. refl;
}

pub sharings : SharingRows
sharings = record {
  shared = λ poison. refl;
  no_room = λ poison. refl;
  taken_over = λ poison. refl;
  compacted = λ poison. refl;
  another_number = λ poison. refl;
  another_size = λ poison. refl;
  another_alignment = λ poison. refl;
  another_space = λ poison. refl;
  another_kind = λ poison. refl;
  one_of_two = λ poison. refl;
  persistent = λ poison. refl;
}

pub runs : RunRows
runs = record { given = refl; outputs = refl; statuses = refl; other_given = refl; other_outputs = refl; other_statuses = refl; later = refl }
