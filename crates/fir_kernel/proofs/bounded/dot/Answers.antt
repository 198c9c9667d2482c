use Rattle.std.proofs.Common.{◌≡◌, ◌<◌, ◌≤◌, ◌*◌, ◌+◌, ◌-◌, ◌∙◌, length, take, drop, to_z, FitsSigned, rules, w32, arith, ap, refl}
use Rattle.std.specs.Int.{int_wrap}
use Rattle.std.proofs.lemmas.Int.{wrapping_add_onto}
use Rattle.ialg.specs.History.{word_at}
use Rattle.fir_kernel.specs.Bounded.{product_sum}
use Rattle.fir_kernel.proofs.Parts.{part_at, part_length}
use Rattle.fir_kernel.proofs.Sums.{wrapped_run}
use Rattle.fir_kernel.proofs.bounded.dot.Goals as goal

pub loop-run-preserved : goal.loop-run-preserved
loop-run-preserved c =
    let taps = c.args.taps.now in
    let window = c.args.window.now in
    let m = 32 * c.loop-run.run in
    let lanes = c.dot_lanes-sum.result in
    let f : FitsSigned w32 lanes = search rules in
    let e : m + 32 ≡ 32 * (c.loop-run.run + 1) = omega arith in
    let size : m + 32 ≤ length taps = omega arith in
    let long : length (take (m + 32 - m) (drop m taps)) ≡ 32 = part_length taps m (m + 32) size (omega arith) ∙ (omega arith) in
    let fits : c.loop-run.sum-bits < 4294967296 = omega arith in
    let added = wrapping_add_onto w32 c.loop-run.sum-bits lanes fits f in
    added ∙ wrapped_run (word_at taps) (word_at window) (word_at (take (m + 32 - m) (drop m taps))) (word_at (take (m + 32 - m) (drop m window))) m 32
    (to_z w32 c.loop-run.sum-bits) lanes _ c.loop-run.invariant
    (c.dot_lanes-sum.ensures ∙ ap (λ n. int_wrap w32 (product_sum (word_at (take (m + 32 - m) (drop m taps))) (word_at (take (m + 32 - m) (drop m window))) n)) long)
    (λ j b. part_at taps m (m + 32) j (omega arith)) (λ j b. part_at window m (m + 32) j (omega arith)) refl
    ∙ ap (λ n. int_wrap w32 (product_sum (word_at taps) (word_at window) n)) e

pub returns : goal.returns
returns c =
    let e : 32 * c.loop-run.run ≡ length c.args.taps.now = omega arith in
    c.loop-run.invariant ∙ ap (λ n. int_wrap w32 (product_sum (word_at c.args.taps.now) (word_at c.args.window.now) n)) e
