use Rattle.std.proofs.Common.{rules}
use Rattle.std.proofs.lemmas.Int.{ints}
use Rattle.basic_op.proofs.shift.shl.Goals as goal

pub returns : goal.returns
returns c = search (ints, rules, c.nearest_word16.ensures, c.shift_left.ensures)
