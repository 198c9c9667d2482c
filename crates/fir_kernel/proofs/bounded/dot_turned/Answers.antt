use Rattle.std.proofs.Common.{◌≡◌, ◌-◌, ◌∙◌, FitsSigned, rules, to_z, length, w16, w32, arith, ap}
use Rattle.std.specs.Int.{int_wrap}
use Rattle.std.proofs.lemmas.Int.{to_z-of_z}
use Rattle.ialg.specs.History.{word_at}
use Rattle.fir_kernel.specs.Bounded.{product_sum}
use Rattle.fir_kernel.proofs.Sums.{wrapped_more}
use Rattle.fir_kernel.proofs.bounded.dot_turned.Goals as goal

pub loop-k-preserved : goal.loop-k-preserved
loop-k-preserved c =
    let cs = c.args.coefficients.now in
    let r = c.add_product-sum.result in
    let f : FitsSigned w32 r = search rules in
    let a : FitsSigned w16 (word_at cs c.loop-k.k) = search rules in
    let b : FitsSigned w16 (word_at c.args.window.now (length cs - 1 - c.loop-k.k)) = search rules in
    let added = simp to_z-of_z at c.add_product-sum.ensures in
    to_z-of_z w32 r f
    ∙ wrapped_more (word_at cs) (λ j. word_at c.args.window.now (length cs - 1 - j)) c.loop-k.k (to_z w32 c.loop-k.sum-bits) r c.loop-k.invariant added

pub returns : goal.returns
returns c =
    let cs = c.args.coefficients.now in
    let e : c.loop-k.k ≡ length cs = omega arith in
    c.loop-k.invariant ∙ ap (λ n. int_wrap w32 (product_sum (word_at cs) (λ j. word_at c.args.window.now (length cs - 1 - j)) n)) e
