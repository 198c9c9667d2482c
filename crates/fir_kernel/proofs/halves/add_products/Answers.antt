use Rattle.std.proofs.Common.{◌≡◌, ◌<◌, ◌+◌, ◌∙◌, ℤ, length, FitsSigned, rules, w16, w32, arith}
use Rattle.std.proofs.lemmas.Int.{to_z-of_z}
use Rattle.basic_op.specs.Halves.{half_of}
use Rattle.basic_op.specs.Operators.{l_mac_of}
use Rattle.ialg.specs.History.{word_at}
use Rattle.fir_kernel.proofs.Written.{written_by, halves_next, kept_behind}
use Rattle.fir_kernel.proofs.halves.add_products.Goals as goal

pub loop-i-preserved : goal.loop-i-preserved
loop-i-preserved c =
    let i = c.loop-i.i in
    let sums = c.loop-i.sums in
    let old = c.args.sums.now in
    let a = c.args.coefficients.0 in
    let b = c.args.coefficients.1 in
    let x = word_at c.args.newer.now i in
    let y = word_at c.args.older.now i in
    let half = c.half_mac-half.result in
    let r = c.half_mac.result in
    let fa : FitsSigned w16 a = search rules in
    let fb : FitsSigned w16 b = search rules in
    let fx : FitsSigned w16 x = search rules in
    let fy : FitsSigned w16 y = search rules in
    let of_sum : FitsSigned w32 (word_at sums i) = search rules in
    let of_half : FitsSigned w32 half = search rules in
    let of_result : FitsSigned w32 r = search rules in
    let within : i < length sums = omega arith in
    let one = rw (to_z-of_z w16 a fa, to_z-of_z w16 x fx, to_z-of_z w32 (word_at sums i) of_sum) at c.half_mac-half.ensures.value in
    let two = rw (to_z-of_z w16 b fb, to_z-of_z w16 y fy, to_z-of_z w32 half of_half) at c.half_mac.ensures.value in
    let whole : (v : ℤ) → word_at old i ≡ half_of v → r ≡ half_of (l_mac_of (l_mac_of v a x) b y) =
    λ v e. two (l_mac_of v a x) (one v (c.loop-i.invariant.left i (omega arith) ∙ e)) in
    rw (to_z-of_z w32 r of_result)
    (record {
      halves = halves_next sums i r c.loop-i.invariant.halves c.half_mac.ensures.within;
      done = written_by sums old i r (λ v j. half_of (l_mac_of (l_mac_of v a (word_at c.args.newer.now j)) b (word_at c.args.older.now j))) within c.loop-i.invariant.done whole;
      left = kept_behind sums old i (i + 1) r (omega arith) (λ k h. c.loop-i.invariant.left k (omega arith));
    })
