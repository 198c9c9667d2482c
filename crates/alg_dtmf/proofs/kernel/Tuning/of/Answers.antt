use Rattle.std.proofs.Common.{w16, refl}
use Rattle.std.proofs.lemmas.Int.{to_z-of_z}
use Rattle.alg_dtmf.proofs.kernel.Tuning.of.Goals as goal

pub returns : goal.returns
returns c =
    let s = to_z-of_z w16 c.args.shift c.ranges.shift in
    let gain = to_z-of_z w16 c.shr.result (record { sfits = c.shr.type_inv }) in
    let bits = to_z-of_z w16 c.sub.result (record { sfits = c.sub.type_inv }) in
    rw (gain, bits, c.shr.ensures, c.sub.ensures, s) refl
