use Rattle.std.proofs.Common.{◌≡◌, ◌<◌, ◌+◌, ◌-◌, ◌*◌, ◌∙◌, length, FitsSigned, rules, w16, w32, arith, ap}
use Rattle.std.proofs.lemmas.Int.{to_z-of_z}
use Rattle.basic_op.specs.Operators.{round_of}
use Rattle.ialg.specs.History.{word_at}
use Rattle.fir_kernel.specs.Sums.{filtered_at}
use Rattle.fir_kernel.proofs.HalfSums.{tap_at}
use Rattle.fir_kernel.proofs.Sums.{l_mac_sum-same}
use Rattle.fir_kernel.proofs.Written.{written_next}
use Rattle.fir_kernel.proofs.in_order.filter_in_order.Goals as goal

pub loop-i-preserved : goal.loop-i-preserved
loop-i-preserved c =
    let cs = c.args.coefficients.now in
    let line = c.args.line.now in
    let n = length cs in
    let i = c.loop-i.i in
    let at = c.args.first + c.args.step * i in
    let r = c.round.result in
    let of_sum : FitsSigned w32 c.sum_in_order.result = search rules in
    let of_result : FitsSigned w16 r = search rules in
    let within : i < length c.loop-i.out = omega arith in
    let rounded = rw (to_z-of_z w32 c.sum_in_order.result of_sum) at c.round.ensures in
    let sum = l_mac_sum-same (word_at cs) _ (λ k. word_at line (n - 1 + at - k)) n (λ k h. tap_at line at (at + n) (n - 1 - k) (n - 1 + at - k) (omega arith) (omega arith)) in
    let output : r ≡ filtered_at cs line at = rounded ∙ ap round_of (c.sum_in_order.ensures ∙ sum) in
    rw (to_z-of_z w16 r of_result)
    (written_next c.loop-i.out i r (λ k. filtered_at cs line (c.args.first + c.args.step * k)) within c.loop-i.invariant output)
