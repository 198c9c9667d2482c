use Rattle.std.proofs.Common.{◌≡◌, ◌≢◌, ◌<◌, ◌≤◌, ◌+◌, ◌*◌, ◌-◌, ◌^◌, ◌∙◌, ℕ, ℤ, List, length, take, drop, unsigned_abs, FitsSigned, rules, w16, w32, arith, ap, refl, sym, subst, below_more, get_or-set_other, get_or-set_same}
use Rattle.std.specs.Int.{int_wrap}
use Rattle.std.proofs.lemmas.Int.{to_z-of_z}
use Rattle.std.proofs.Math.ListN.{set}
use Rattle.basic_op.specs.Halves.{half_of}
use Rattle.basic_op.specs.Operators.{round_of}
use Rattle.ialg.specs.History.{word_at}
use Rattle.fir_kernel.specs.Bounded.{product_sum}
use Rattle.fir_kernel.specs.Windows.{wrapped_sum}
use Rattle.fir_kernel.proofs.Parts.{part_at}
use Rattle.fir_kernel.proofs.Sums.{product_sum-same}
use Rattle.fir_kernel.proofs.bounded.filter_windows.Goals as goal

-- the sum of the window that begins at word `from`
of_window : (taps line : List ℤ) (from n : ℕ) (r : ℤ) → n ≡ length taps
    → r ≡ int_wrap w32 (product_sum (word_at taps) (word_at (take (from + n - from) (drop from line))) n) → r ≡ wrapped_sum taps line from
of_window taps line from n r size e =
    e ∙ ap (int_wrap w32) (product_sum-same (word_at taps) (word_at taps) (word_at (take (from + n - from) (drop from line))) (λ j. word_at line (from + j)) n
    (λ k h. refl) (λ k h. part_at line from (from + n) k (omega arith)))
    ∙ ap (λ m. int_wrap w32 (product_sum (word_at taps) (λ j. word_at line (from + j)) m)) size

-- the output at i was written: that of the window at `from i`
written : (taps line out : List ℤ) (from : ℕ → ℕ) (i : ℕ) (s r : ℤ) → i < length out
    → ((j : ℕ) (v : ℤ) → j < i → wrapped_sum taps line (from j) ≡ half_of v → word_at out j ≡ round_of v)
    → s ≡ wrapped_sum taps line (from i) → ((v : ℤ) → s ≡ half_of v → r ≡ round_of v)
    → (j : ℕ) (v : ℤ) → j < i + 1 → wrapped_sum taps line (from j) ≡ half_of v → word_at (set out i r) j ≡ round_of v
written taps line out from i s r b before e rounded j v =
    below_more (λ j. wrapped_sum taps line (from j) ≡ half_of v → word_at (set out i r) j ≡ round_of v) i
    (λ k h is. let ne : k ≢ i = omega arith in rw get_or-set_other (before k v h is))
    (λ is. rw get_or-set_same (rounded v (e ∙ is))) j

pub loop-i-init : goal.loop-i-init
loop-i-init c j v b e =
    let same : length c.filter_groups.new.out ≡ length c.args.out.now = c.filter_groups.ensures.size in
    c.filter_groups.ensures.rounded j v (omega arith) e

pub half_round-requires : goal.half_round-requires
half_round-requires c =
    let r = c.dot-sum.result in
    let f : FitsSigned w32 r = search rules in
    let b : c.loop-i.i < length c.args.out.now = omega arith in
    let sum = of_window c.args.taps.now c.args.line.now (c.args.first + c.args.step * c.loop-i.i) (length c.args.taps.now) r refl c.dot-sum.ensures in
    subst (λ z. unsigned_abs z ≤ 2 ^ 30) (sym (to_z-of_z w32 r f ∙ sum)) (c.requires.halves c.loop-i.i b)

pub loop-i-preserved : goal.loop-i-preserved
loop-i-preserved c =
    let s = c.dot-sum.result in
    let r = c.half_round.result in
    let fs : FitsSigned w32 s = search rules in
    let fr : FitsSigned w16 r = search rules in
    let b : c.loop-i.i < length c.loop-i.out = omega arith in
    let from : ℕ → ℕ = λ k. c.args.first + c.args.step * k in
    let sum = of_window c.args.taps.now c.args.line.now (from c.loop-i.i) (length c.args.taps.now) s refl c.dot-sum.ensures in
    let rounded : (v : ℤ) → s ≡ half_of v → r ≡ round_of v = rw (to_z-of_z w32 s fs) at c.half_round.ensures in
    rw (to_z-of_z w16 r fr) (written c.args.taps.now c.args.line.now c.loop-i.out from c.loop-i.i s r b c.loop-i.invariant sum rounded)

pub returns : goal.returns
returns c =
    let same : length c.filter_groups.new.out ≡ length c.args.out.now = c.filter_groups.ensures.size in
    record {
      size = omega arith;
      rounded = λ i v b e. c.loop-i.invariant i v (omega arith) e;
    }
