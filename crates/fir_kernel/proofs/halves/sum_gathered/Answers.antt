use Rattle.std.proofs.lemmas.Grind.{common_steps}
use Rattle.std.proofs.Common.{◌≡◌, ◌+◌, ◌-◌, ◌*◌, ◌∙◌, ℕ, ℤ, suc, length, FitsSigned, rules, w16, arith, ap}
use Rattle.std.proofs.lemmas.Int.{to_z-of_z}
use Rattle.ialg.specs.History.{word_at}
use Rattle.fir_kernel.specs.Sums.{l_mac_sum}
use Rattle.fir_kernel.proofs.HalfSums.{one_more, two_more}
use Rattle.fir_kernel.proofs.SmallWords.{taken_halves}
use Rattle.fir_kernel.proofs.halves.sum_gathered.Goals as goal

pub loop-pair-preserved : goal.loop-pair-preserved
loop-pair-preserved g c =
    let cs = c.args.coefficients.now in
    let line = c.args.line.now in
    let first = c.args.first in
    let step = c.args.step in
    let n = length cs in
    let tap = 2 * c.loop-pair.pair in
    let x : ℕ → ℕ → ℤ = λ i k. word_at line (n - 1 + (first + step * i) - k) in
    let f : FitsSigned w16 (word_at cs tap) = search rules in
    let h : FitsSigned w16 (word_at cs (tap + 1)) = search rules in
    let next : tap + 1 ≡ suc tap = omega arith in
    let added = rw (to_z-of_z w16 (word_at cs tap) f, to_z-of_z w16 (word_at cs (tap + 1)) h, next) at c.add_products.ensures.sums in
    record {
      halves = c.add_products.ensures.halves;
      sums = λ i b.
          let newer : first + step * i + (n - 1 - tap) ≡ n - 1 + (first + step * i) - tap = omega arith in
          let older : first + step * i + (n - 2 - tap) ≡ n - 1 + (first + step * i) - suc tap = omega arith in
          added i (l_mac_sum (word_at cs) (x i) tap) (omega arith) (c.loop-pair.invariant.sums i (omega arith))
          ∙ two_more (word_at cs) (x i) tap (2 * (c.loop-pair.pair + 1)) _ _ (omega arith)
          (c.gather.ensures i (omega arith) ∙ ap (word_at line) newer)
          (c.gather-in-loop-pair.ensures i (omega arith) ∙ ap (word_at line) older);
    }

pub returns-then-count-eq1-clause-sums : goal.returns-then-count-eq1-clause-sums
returns-then-count-eq1-clause-sums g c i b =
    let cs = c.args.coefficients.now in
    let line = c.args.line.now in
    let first = c.args.first in
    let step = c.args.step in
    let n = length cs in
    let tap = 2 * c.loop-pair.pair in
    let x : ℕ → ℤ = λ k. word_at line (n - 1 + (first + step * i) - k) in
    let last : n - 1 ≡ tap = omega arith in
    let same : first + step * i + 0 ≡ n - 1 + (first + step * i) - tap = omega arith in
    let f : FitsSigned w16 (word_at cs (n - 1)) = search rules in
    let added = rw (to_z-of_z w16 (word_at cs (n - 1)) f, last) at c.add_product.ensures.sums in
    added i (l_mac_sum (word_at cs) x tap) (omega arith) (c.loop-pair.invariant.sums i (omega arith))
    ∙ one_more (word_at cs) x tap n _ (omega arith) (c.gather-then-count-eq1.ensures i (omega arith) ∙ ap (word_at line) same)

pub add_products-requires-clause-newer_products : goal.add_products-requires-clause-newer_products
add_products-requires-clause-newer_products g c =
    let f : FitsSigned w16 (word_at c.args.coefficients.now (2 * c.loop-pair.pair)) = search rules in
    taken_halves c.args.coefficients.now c.args.line.now _ f c.requires.halves c.gather.new.samples _ (λ i b. c.gather.ensures i (omega arith))

pub add_products-requires-clause-older_products : goal.add_products-requires-clause-older_products
add_products-requires-clause-older_products g c =
    let f : FitsSigned w16 (word_at c.args.coefficients.now (2 * c.loop-pair.pair + 1)) = search rules in
    taken_halves c.args.coefficients.now c.args.line.now _ f c.requires.halves c.gather-in-loop-pair.new.samples _ (λ i b. c.gather-in-loop-pair.ensures i (omega arith))

pub add_product-requires-clause-products : goal.add_product-requires-clause-products
add_product-requires-clause-products g c =
    let f : FitsSigned w16 (word_at c.args.coefficients.now (length c.args.coefficients.now - 1)) = search rules in
    taken_halves c.args.coefficients.now c.args.line.now _ f c.requires.halves c.gather-then-count-eq1.new.samples _ (λ i b. c.gather-then-count-eq1.ensures i (omega arith))

pub gather-requires : goal.gather-requires
gather-requires g c i b =
    let reach = c.requires.reach i (omega arith) in
    omega arith

pub gather-requires-in-loop-pair : goal.gather-requires-in-loop-pair
gather-requires-in-loop-pair g c i b =
    let reach = c.requires.reach i (omega arith) in
    omega arith

pub gather-requires-then-count-eq1 : goal.gather-requires-then-count-eq1
gather-requires-then-count-eq1 g c i b =
    let reach = c.requires.reach i (omega arith) in
    omega arith

pub returns-else-count-eq1-clause-sums : goal.returns-else-count-eq1-clause-sums
returns-else-count-eq1-clause-sums g c i b =
    let all : 2 * c.loop-pair.pair ≡ length c.args.coefficients.now = omega arith in
    rw all at (c.loop-pair.invariant.sums i (omega arith))

pub loop-pair-init : goal.loop-pair-init
loop-pair-init g c = grind (arith, common_steps)
