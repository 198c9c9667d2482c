use Rattle.std.proofs.Common.{◌≡◌, ◌≤◌, ◌+◌, suc, unsigned_abs, FitsSigned, rules, w16, arith, ap, ◌∙◌}
use Rattle.std.proofs.lemmas.Int.{to_z-of_z}
use Rattle.std.specs.Int.Signed.{nat_abs-le}
use Rattle.ialg.specs.History.{word_at}
use Rattle.fir_kernel.specs.Bounded.{magnitude_sum}
use Rattle.fir_kernel.proofs.bounded.magnitude.Goals as goal

pub loop-coefficient-preserved : goal.loop-coefficient-preserved
loop-coefficient-preserved c =
    let k = c.loop-coefficient.coefficient-index in
    let x = word_at c.args.coefficients.now k in
    let f : FitsSigned w16 x = search rules in
    let more : suc k ≡ k + 1 = omega arith in
    let e : c.from-sum.result ≡ unsigned_abs x = c.from-sum.ensures ∙ (rw (to_z-of_z w16 x f) at c.unsigned_abs.ensures.value) in
    let least : unsigned_abs x ≤ 32768 = nat_abs-le x f.sfits in
    record {
      sum = rw (c.loop-coefficient.invariant.sum, e) (ap (magnitude_sum (word_at c.args.coefficients.now)) more);
      within = omega (arith, c.loop-coefficient.invariant.within, e, least);
    }
