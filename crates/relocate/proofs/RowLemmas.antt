-- The worked rows, computed.
use Rattle.std.proofs.Common.{refl}
use Rattle.relocate.specs.Rows.{MoveRows, CompactionRows}

pub moves : MoveRows
moves = record {
  without_blocks = refl;
  one_block = refl;
  packed = refl;
  coarsest = refl;
  second = refl;
  first_of_two = refl;
  aligned = refl;
  at_the_end = refl;
}

pub compactions : CompactionRows
compactions = record { places = refl; moves = refl; count = refl; words = refl; between = refl; words_between = refl }
