-- The worked rows, computed.
use Rattle.std.proofs.Common.{refl}
use Rattle.alg_signal.specs.Tones.{next_value, opened, moved, next_tones, given, taken}
use Rattle.alg_signal.specs.Rows.{SignalRows}

pub rows : SignalRows
unfolding next_value opened moved next_tones given taken
rows = record { once = refl; cycles = refl; six = refl; eight = refl }
