use Rattle.std.proofs.Common.{◌≡◌, ◌+◌, ◌-◌, ◌∙◌, ℕ, ℤ, suc, length, FitsSigned, rules, w16, w32, arith, ap}
use Rattle.std.proofs.lemmas.Int.{to_z-of_z}
use Rattle.basic_op.specs.Operators.{l_mac_of}
use Rattle.ialg.specs.History.{word_at}
use Rattle.fir_kernel.specs.Sums.{l_mac_sum}
use Rattle.fir_kernel.proofs.in_order.sum_in_order.Goals as goal

pub loop-k-preserved : goal.loop-k-preserved
loop-k-preserved c =
    let cs = c.args.coefficients.now in
    let k = c.loop-k.k in
    let x : ℕ → ℤ = λ j. word_at c.args.window.now (length cs - 1 - j) in
    let f : FitsSigned w16 (word_at cs k) = search rules in
    let g : FitsSigned w16 (x k) = search rules in
    let of_result : FitsSigned w32 c.l_mac-sum.result = search rules in
    let next : suc k ≡ k + 1 = omega arith in
    let added = rw (to_z-of_z w16 (word_at cs k) f, to_z-of_z w16 (x k) g) at c.l_mac-sum.ensures in
    to_z-of_z w32 c.l_mac-sum.result of_result ∙ added ∙ ap (λ v. l_mac_of v (word_at cs k) (x k)) c.loop-k.invariant ∙ ap (l_mac_sum (word_at cs) x) next
