use Rattle.std.proofs.Common.{◌≡◌, ◌≢◌, ◌<◌, ◌+◌, ◌-◌, ◌∙◌, ℕ, ℤ, List, length, FitsSigned, rules, w16, inl, inr, arith, ap, get_or-set_other, get_or-set_same}
use Rattle.std.proofs.lemmas.Bool.{cases_lt}
use Rattle.std.proofs.lemmas.Int.{to_z-of_z}
use Rattle.std.proofs.Math.ListN.{set}
use Rattle.ialg.specs.History.{word_at}
use Rattle.fir_kernel.proofs.Written.{kept_behind}
use Rattle.fir_kernel.proofs.bounded.reverse.Goals as goal

-- word k of the coefficients was written, from the end
reversed_next : (cs taps : List ℤ) (m k : ℕ) → m + k + 1 ≡ length cs → m < length taps
    → ((i j : ℕ) → i + j + 1 ≡ length cs → j < k → word_at taps i ≡ word_at cs j)
    → (i j : ℕ) → i + j + 1 ≡ length cs → j < k + 1 → word_at (set taps m (word_at cs k)) i ≡ word_at cs j
reversed_next cs taps m k e room before i j f h = elim (cases_lt j k) [
  | inl b ↦ let ne : i ≢ m = omega arith in rw get_or-set_other (before i j f b)
  | inr b ↦
      let there : i ≡ m = omega arith in
      let last : k ≡ j = omega arith in
      let written : word_at (set taps m (word_at cs k)) m ≡ word_at cs k = rw get_or-set_same in
      ap (word_at (set taps m (word_at cs k))) there ∙ written ∙ ap (word_at cs) last
]

pub loop-k-preserved : goal.loop-k-preserved
loop-k-preserved c =
    let cs = c.args.coefficients.now in
    let k = c.loop-k.k in
    let m = length cs - 1 - k in
    let x = word_at cs k in
    let f : FitsSigned w16 x = search rules in
    let e : m + k + 1 ≡ length cs = omega arith in
    let room : m < length c.loop-k.taps = omega arith in
    rw (to_z-of_z w16 x f)
    (record {
      reversed = reversed_next cs c.loop-k.taps m k e room c.loop-k.invariant.reversed;
      rest = kept_behind c.loop-k.taps c.args.taps.now m (length cs) x (omega arith) c.loop-k.invariant.rest;
    })
