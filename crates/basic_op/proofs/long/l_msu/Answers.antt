use Rattle.std.proofs.Common.{w16, w32, refl}
use Rattle.std.proofs.lemmas.Int.{to_z-of_z}
use Rattle.basic_op.proofs.long.l_msu.Goals as goal

pub returns : goal.returns
returns c =
    rw (to_z-of_z w32 c.l_sub.result (record { sfits = c.l_sub.type_inv }), c.l_sub.ensures, to_z-of_z w32 c.args.v c.ranges.v, to_z-of_z w32 c.l_mult.result (record { sfits = c.l_mult.type_inv }), c.l_mult.ensures, to_z-of_z w16 c.args.a c.ranges.a, to_z-of_z w16 c.args.b c.ranges.b) refl
