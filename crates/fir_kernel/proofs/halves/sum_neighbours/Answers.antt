use Rattle.std.proofs.Common.{◌≡◌, ◌+◌, ◌-◌, ◌*◌, ◌∙◌, ℕ, ℤ, suc, length, FitsSigned, rules, w16, arith}
use Rattle.std.proofs.lemmas.Int.{to_z-of_z}
use Rattle.ialg.specs.History.{word_at}
use Rattle.fir_kernel.specs.Sums.{l_mac_sum}
use Rattle.fir_kernel.proofs.HalfSums.{tap_at, one_more, two_more}
use Rattle.fir_kernel.proofs.Parts.{part_length}
use Rattle.fir_kernel.proofs.SmallWords.{part_halves}
use Rattle.fir_kernel.proofs.halves.sum_neighbours.Goals as goal

pub loop-pair-preserved : goal.loop-pair-preserved
loop-pair-preserved c =
    let cs = c.args.coefficients.now in
    let line = c.args.line.now in
    let first = c.args.first in
    let n = length cs in
    let tap = 2 * c.loop-pair.pair in
    let older = first + (n - 2 - tap) in
    let count = length c.loop-pair.sums in
    let x : ℕ → ℕ → ℤ = λ i k. word_at line (n - 1 + (first + 1 * i) - k) in
    let f : FitsSigned w16 (word_at cs tap) = search rules in
    let g : FitsSigned w16 (word_at cs (tap + 1)) = search rules in
    let next : tap + 1 ≡ suc tap = omega arith in
    let added = rw (to_z-of_z w16 (word_at cs tap) f, to_z-of_z w16 (word_at cs (tap + 1)) g, next) at c.add_products.ensures.sums in
    record {
      halves = c.add_products.ensures.halves;
      sums = λ i b.
          added i (l_mac_sum (word_at cs) (x i) tap) (omega arith) (c.loop-pair.invariant.sums i (omega arith))
          ∙ two_more (word_at cs) (x i) tap (2 * (c.loop-pair.pair + 1)) _ _ (omega arith)
          (tap_at line (older + 1) (older + 1 + count) i _ (omega arith) (omega arith))
          (tap_at line older (older + count) i _ (omega arith) (omega arith));
    }

pub returns-then-count-eq1-clause-sums : goal.returns-then-count-eq1-clause-sums
returns-then-count-eq1-clause-sums c i b =
    let cs = c.args.coefficients.now in
    let line = c.args.line.now in
    let first = c.args.first in
    let n = length cs in
    let tap = 2 * c.loop-pair.pair in
    let x : ℕ → ℤ = λ k. word_at line (n - 1 + (first + 1 * i) - k) in
    let last : n - 1 ≡ tap = omega arith in
    let f : FitsSigned w16 (word_at cs (n - 1)) = search rules in
    let added = rw (to_z-of_z w16 (word_at cs (n - 1)) f, last) at c.add_product.ensures.sums in
    added i (l_mac_sum (word_at cs) x tap) (omega arith) (c.loop-pair.invariant.sums i (omega arith))
    ∙ one_more (word_at cs) x tap n _ (omega arith) (tap_at line first (first + length c.loop-pair.sums) i _ (omega arith) (omega arith))

pub add_products-requires-clause-newer_products : goal.add_products-requires-clause-newer_products
add_products-requires-clause-newer_products c =
    let f : FitsSigned w16 (word_at c.args.coefficients.now (2 * c.loop-pair.pair)) = search rules in
    part_halves c.args.coefficients.now c.args.line.now _ f c.requires.halves _ _

pub add_products-requires-clause-older_products : goal.add_products-requires-clause-older_products
add_products-requires-clause-older_products c =
    let f : FitsSigned w16 (word_at c.args.coefficients.now (2 * c.loop-pair.pair + 1)) = search rules in
    part_halves c.args.coefficients.now c.args.line.now _ f c.requires.halves _ _

pub add_product-requires-clause-products : goal.add_product-requires-clause-products
add_product-requires-clause-products c =
    let f : FitsSigned w16 (word_at c.args.coefficients.now (length c.args.coefficients.now - 1)) = search rules in
    part_halves c.args.coefficients.now c.args.line.now _ f c.requires.halves _ _

pub add_products-requires-clause-as_many_newer : goal.add_products-requires-clause-as_many_newer
add_products-requires-clause-as_many_newer c =
    let older = c.args.first + (length c.args.coefficients.now - 2 - 2 * c.loop-pair.pair) in
    part_length c.args.line.now (older + 1) (older + 1 + length c.loop-pair.sums) (omega arith) (omega arith) ∙ omega arith

pub add_products-requires-clause-as_many_older : goal.add_products-requires-clause-as_many_older
add_products-requires-clause-as_many_older c =
    let older = c.args.first + (length c.args.coefficients.now - 2 - 2 * c.loop-pair.pair) in
    part_length c.args.line.now older (older + length c.loop-pair.sums) (omega arith) (omega arith) ∙ omega arith

pub returns-else-count-eq1-clause-sums : goal.returns-else-count-eq1-clause-sums
returns-else-count-eq1-clause-sums c i b =
    let all : 2 * c.loop-pair.pair ≡ length c.args.coefficients.now = omega arith in
    rw all at (c.loop-pair.invariant.sums i (omega arith))
