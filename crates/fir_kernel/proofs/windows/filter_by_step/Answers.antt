use Rattle.std.proofs.Common.{◌≡◌, ◌≤◌, ◌+◌, ◌-◌, ◌*◌, ◌/◌, ◌^◌, ◌∙◌, ℕ, List, ℤ, inl, inr, length, unsigned_abs, refl, sym, ap, subst, arith}
use Rattle.std.proofs.lemmas.Bool.{cases_lt}
use Rattle.ialg.specs.History.{word_at}
use Rattle.fir_kernel.specs.Windows.{wrapped_sum, AreRounded, AreRoundedFrom}
use Rattle.fir_kernel.proofs.windows.filter_by_step.Goals as goal

-- eight outputs more
eight_more : (taps line old before new : List ℤ) (first step group : ℕ) → AreRounded taps line first step (8 * group) old before
    → AreRoundedFrom taps line (first + step * (8 * group)) step (8 * group) before new → AreRounded taps line first step (8 * (group + 1)) old new
eight_more taps line old before new first step group done here = record {
  size = here.size ∙ done.size;
  rounded = λ i v b e. elim (cases_lt i (8 * group)) [
    | inl less ↦ here.before i less ∙ done.rounded i v less e
    | inr more ↦
        let q = i - 8 * group in
        let to : 8 * group + q ≡ i = omega arith in
        let from : first + step * (8 * group) + step * q ≡ first + step * (8 * group + q) = omega arith in
        ap (word_at new) (sym to) ∙ here.rounded q v (omega arith) (ap (wrapped_sum taps line) (from ∙ ap (λ j. first + step * j) to) ∙ e)
  ];
}

pub loop-group-init : goal.loop-group-init
loop-group-init g c = record { size = refl; rounded = λ i v b e. absurd (omega arith) }

pub filter_eight-requires-clause-reach : goal.filter_eight-requires-clause-reach
filter_eight-requires-clause-reach g c = omega (arith, c.requires.reach (8 * c.loop-group.group + 7) (omega arith))

pub filter_eight-requires-clause-halves : goal.filter_eight-requires-clause-halves
filter_eight-requires-clause-halves g c i b =
    let first = c.args.first in
    let step = c.args.step in
    let at = 8 * c.loop-group.group in
    let from : first + step * (at + i) ≡ first + step * at + step * i = omega arith in
    subst (λ m. unsigned_abs (wrapped_sum c.args.taps.now c.args.line.now m) ≤ 2 ^ 30) from (c.requires.halves (at + i) (omega arith))

pub loop-group-preserved : goal.loop-group-preserved
loop-group-preserved g c = eight_more c.args.taps.now c.args.line.now _ _ _ c.args.first c.args.step c.loop-group.group c.loop-group.invariant c.filter_eight.ensures

pub returns : goal.returns
returns g c =
    let all : 8 * c.loop-group.group ≡ 8 * (length c.args.out.now / 8) = omega arith in
    subst (λ n. AreRounded c.args.taps.now c.args.line.now c.args.first c.args.step n c.args.out.now c.loop-group.out) all c.loop-group.invariant
