use Rattle.std.proofs.Common.{◌≡◌, ◌<◌, ℤ, length, FitsSigned, rules, w16, w32, arith}
use Rattle.std.proofs.lemmas.Int.{to_z-of_z}
use Rattle.basic_op.specs.Halves.{half_of}
use Rattle.basic_op.specs.Operators.{round_of}
use Rattle.ialg.specs.History.{word_at}
use Rattle.fir_kernel.proofs.Written.{written_by}
use Rattle.fir_kernel.proofs.halves.round_halves.Goals as goal

pub loop-i-preserved : goal.loop-i-preserved
loop-i-preserved c =
    let sums = c.args.sums.now in
    let out = c.loop-i.out in
    let i = c.loop-i.i in
    let r = c.half_round.result in
    let of_sum : FitsSigned w32 (word_at sums i) = search rules in
    let of_result : FitsSigned w16 r = search rules in
    let within : i < length out = omega arith in
    let rounded : (v : ℤ) → word_at sums i ≡ half_of v → r ≡ round_of v = rw (to_z-of_z w32 (word_at sums i) of_sum) at c.half_round.ensures in
    rw (to_z-of_z w16 r of_result) (written_by out sums i r (λ v k. round_of v) within c.loop-i.invariant rounded)
