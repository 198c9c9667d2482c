use Rattle.std.proofs.Common.{◌≡◌, ℕ, suc, ◌+◌, ◌-◌, ◌*◌, ◌%◌, ℤ, length, FitsSigned, w16, rules, arith, ap}
use Rattle.std.proofs.lemmas.Int.{to_z-of_z}
use Rattle.ialg.specs.History.{word_at}
use Rattle.fir_kernel.specs.HalfLanes.{taps_sum}
use Rattle.fir_kernel.proofs.HalfSums.{two_more}
use Rattle.fir_kernel.proofs.HalfEights.{halved_as, halved_kept}
use Rattle.fir_kernel.proofs.half_eights.add_pair.Goals as goal

pub add_products-half-requires-clause-within : goal.add_products-half-requires-clause-within
add_products-half-requires-clause-within c = (halved_kept c.args.halves _ c.requires.before).within

pub add_products-requires-clause-within : goal.add_products-requires-clause-within
add_products-requires-clause-within c =
    (halved_kept c.add_products-half.result _ (c.add_products-half.ensures _ (halved_kept c.args.halves _ c.requires.before))).within

pub returns : goal.returns
returns c =
    let cs = c.args.coefficients.now in
    let line = c.args.line.now in
    let first = c.args.first in
    let n = length cs in
    let tap = n % 2 + 2 * c.args.pair in
    let x : ℕ → ℕ → ℤ = λ i k. word_at line (n - 1 + (first + i) - k) in
    let f : FitsSigned w16 (word_at cs tap) = search rules in
    let g : FitsSigned w16 (word_at cs (tap + 1)) = search rules in
    let next : tap + 1 ≡ suc tap = omega arith in
    let one = rw (to_z-of_z w16 (word_at cs tap) f) at (c.add_products-half.ensures (λ k. taps_sum cs line tap (first + k)) (halved_kept c.args.halves _ c.requires.before)) in
    let two = rw (to_z-of_z w16 (word_at cs (tap + 1)) g, next) at (c.add_products.ensures _ (halved_kept c.add_products-half.result _ one)) in
    halved_kept c.add_products.result _
    (halved_as c.add_products.result _ _ (λ k b.
    let newer : first + (n - 2 - tap) + 1 + k ≡ n - 1 + (first + k) - tap = omega arith in
    let older : first + (n - 2 - tap) + k ≡ n - 1 + (first + k) - suc tap = omega arith in
    two_more (word_at cs) (x k) tap (n % 2 + 2 * (c.args.pair + 1)) _ _ (omega arith) (ap (word_at line) newer) (ap (word_at line) older)) two)
