use Rattle.std.proofs.Common.{◌≡◌, ℕ, ◌+◌, ◌-◌, ◌*◌, ◌%◌, ℤ, pos, length, FitsSigned, w16, rules, arith, ap, refl}
use Rattle.std.proofs.lemmas.Int.{to_z-of_z}
use Rattle.ialg.specs.History.{word_at}
use Rattle.fir_kernel.proofs.HalfSums.{one_more}
use Rattle.fir_kernel.proofs.HalfEights.{halved_as, halved_kept, no_sums}
use Rattle.fir_kernel.proofs.half_eights.begin.Goals as goal

pub returns : goal.returns
returns c =
    let cs = c.args.coefficients.now in
    let line = c.args.line.now in
    let first = c.args.first in
    let n = length cs in
    let x : ℕ → ℕ → ℤ = λ i k. word_at line (n - 1 + (first + i) - k) in
    let odd = c.if-coefficients-eq0.false in
    let f : FitsSigned w16 (word_at cs 0) = search rules in
    let one = rw (to_z-of_z w16 (word_at cs 0) f) at (c.add_products.ensures (λ k. pos 0) (no_sums (λ k. pos 0) (λ k b. refl))) in
    halved_kept c.add_products.result _
    (halved_as c.add_products.result _ _ (λ k b.
    let same : first + (n - 1) + k ≡ n - 1 + (first + k) - 0 = omega arith in
    one_more (word_at cs) (x k) 0 (n % 2 + 2 * 0) _ (omega (arith, odd)) (ap (word_at line) same)) one)
