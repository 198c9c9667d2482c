-- What a block ends as, where a `&mut` to its room is returned.
use Rattle.std.specs.Prelude.{ℤ, List}
use Rattle.std.specs.Borrow.{Lends, Fml, MutBor, Array, i16}
use Rattle.arrayvec.specs.ArrayVec.{ArrayVec, with_items}
use Rattle.ialg.specs.contracts.block.Block.{the_row}

-- once the borrow r ends, the samples are the first words of what r shows last, as many as before
abbrev pub lends_room : MutBor (ArrayVec ℤ) → MutBor (List ℤ) → Fml
lends_room block r = Lends the_row (Array i16 0) block r (with_items block.now)
