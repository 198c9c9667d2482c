use Rattle.std.proofs.Common.{◌≡◌, ◌∙◌, FitsSigned, rules, to_z, length, w16, w32, arith, ap}
use Rattle.std.specs.Int.{int_wrap}
use Rattle.std.proofs.lemmas.Int.{to_z-of_z}
use Rattle.ialg.specs.History.{word_at}
use Rattle.fir_kernel.specs.Bounded.{product_sum}
use Rattle.fir_kernel.proofs.Sums.{wrapped_more}
use Rattle.fir_kernel.proofs.bounded.dot_lanes.Goals as goal

pub loop-j-preserved : goal.loop-j-preserved
loop-j-preserved c =
    let r = c.add_product-sum.result in
    let f : FitsSigned w32 r = search rules in
    let a : FitsSigned w16 (word_at c.args.taps.now c.loop-j.j) = search rules in
    let b : FitsSigned w16 (word_at c.args.samples.now c.loop-j.j) = search rules in
    let added = simp to_z-of_z at c.add_product-sum.ensures in
    to_z-of_z w32 r f
    ∙ wrapped_more (word_at c.args.taps.now) (word_at c.args.samples.now) c.loop-j.j (to_z w32 c.loop-j.sum-bits) r c.loop-j.invariant added

pub returns : goal.returns
returns c =
    let e : c.loop-j.j ≡ length c.args.taps.now = omega arith in
    c.loop-j.invariant ∙ ap (λ n. int_wrap w32 (product_sum (word_at c.args.taps.now) (word_at c.args.samples.now) n)) e
