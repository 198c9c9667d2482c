use Rattle.std.proofs.Common.{◌≡◌, rules, refl}
use Rattle.std.proofs.lemmas.Int.{to_z-of_z}
use mir.Val.{SFits, to_z, of_z}
use mir.Syntax.{w16, w32}
use Rattle.basic_op.specs.Operators.{l_mac_of, l_msu_of, l_mult_of}
use Rattle.alg_dtmf.specs.declared.TheConstants.{ONE}
use Rattle.alg_dtmf.specs.Equation.{next_values}
use Rattle.alg_dtmf.proofs.kernel.next.Goals as goal

pub returns : goal.returns
unfolding next_values
returns c =
    let k = c.args.k in
    let ek : to_z w16 (of_z w16 k) ≡ k = to_z-of_z w16 k c.ranges.k in
    let g = c.args.gain in
    let eg : to_z w16 (of_z w16 g) ≡ g = to_z-of_z w16 g c.ranges.gain in
    let ex : to_z w16 (of_z w16 c.args.x) ≡ c.args.x = to_z-of_z w16 c.args.x c.ranges.x in
    let f0 : SFits w16 c.args.v.0 = search rules in
    let e0 : to_z w16 (of_z w16 c.args.v.0) ≡ c.args.v.0 = to_z-of_z w16 c.args.v.0 f0 in
    let f1 : SFits w16 c.args.v.1 = search rules in
    let e1 : to_z w16 (of_z w16 c.args.v.1) ≡ c.args.v.1 = to_z-of_z w16 c.args.v.1 f1 in
    let ehalf = to_z-of_z w32 c.half_mult.result (record { sfits = c.half_mult.type_inv }) in
    let eback = to_z-of_z w32 c.half_msu-fed_back.result (record { sfits = c.half_msu-fed_back.type_inv }) in
    let esum = to_z-of_z w32 c.half_mac-sum.result (record { sfits = c.half_mac-sum.type_inv }) in
    let enext = to_z-of_z w16 c.half_round_doubled.result (record { sfits = c.half_round_doubled.type_inv }) in
    let first = l_mult_of k c.args.v.0 in
    let second = l_msu_of first c.args.v.1 ONE in
    let product = rw (ek, e0) at c.half_mult.ensures.value in
    let back = rw (ehalf, e1) at c.half_msu-fed_back.ensures.value in
    let sum = rw (eback, ex, eg) at c.half_mac-sum.ensures.value in
    let next = rw esum at c.half_round_doubled.ensures in
    let value = next (l_mac_of second c.args.x g) (sum second (back first product)) in
    rw (enext, e0, value) refl
