use Rattle.std.proofs.Common.{◌≡◌, ◌+◌, ◌-◌, ◌<◌, ◌≤◌, ℕ, suc, pos, [], length, take, drop, to_z, of_z, rules, subst, ◌∙◌, arith, length-take, length-drop}
use Rattle.std.proofs.lemmas.Int.{to_z-of_z, to_z_pos}
use mir.Val.{SFits}
use mir.Syntax.{w16}
use Rattle.ialg.specs.History.{word_at, samples_in_frame}
use Rattle.ialg.proofs.Histories.{fits_more}
use Rattle.alg_tone.specs.Equation.{frame_length, tone_value}
use Rattle.alg_tone.specs.Frames.{Gives}
use Rattle.alg_tone.proofs.Steps.{gives_within, all_counted, word_of_part}
use Rattle.alg_tone.proofs.kernel.run_plain.Goals as goal

pub loop-x-init : goal.loop-x-init
loop-x-init c =
    let xs = c.args.input.now in
    let quiet = c.run_quiet-quiet.result in
    let done = quiet.count in
    let f1 : SFits w16 quiet.v1 = search rules in
    let f2 : SFits w16 quiet.v2 = search rules in
    let none : done ≡ done + 0 = omega arith in
    record {
      count = none;
      fit = subst (λ n. (k : ℕ) → k < n → SFits w16 (word_at xs k)) none c.run_quiet-quiet.ensures.fit;
      gives = λ p h tuned frame inside.
          rw (to_z-of_z w16 quiet.v1 f1, to_z-of_z w16 quiet.v2 f2)
          (subst (λ n. Gives p h (take n xs) (record { samples = pos (samples_in_frame (frame_length p) h + n); v1 = quiet.v1; v2 = quiet.v2 }) []) none
          (c.run_quiet-quiet.ensures.law p h tuned frame inside));
    }

pub loop-x-preserved : goal.loop-x-preserved
loop-x-preserved c =
    let xs = c.args.input.now in
    let done = c.run_quiet-quiet.result.count in
    let j = c.loop-x.x-index in
    let i = done + j in
    let t = c.args.tuning in
    let v1 = c.loop-x.v1 in
    let v2 = c.loop-x.v2 in
    let v = c.in-Some.v in
    let rest = length xs - done in
    let few = c.run_quiet-quiet.ensures.count in
    let count = c.loop-x.invariant.count in
    let test = simp (length-take, length-drop) at c.loop-x-test.true in
    let inside_rest : j < rest = omega (arith, test) in
    let below : i < length xs = omega (arith, inside_rest, few) in
    let same : word_at (take rest (drop done xs)) j ≡ word_at xs i = word_of_part xs done rest j inside_rest in
    let fr : SFits w16 (word_at (take rest (drop done xs)) j) = search rules in
    let fx : SFits w16 (word_at xs i) = subst (SFits w16) same fr in
    let fv : SFits w16 v = search rules in
    let ex : to_z w16 (of_z w16 (word_at (take rest (drop done xs)) j)) ≡ word_at xs i = to_z-of_z w16 (word_at (take rest (drop done xs)) j) fr ∙ same in
    let value : v ≡ tone_value t.factor t.shift (word_at xs i) v1 v2 = rw (ex, c.loop-x.v1-is, c.loop-x.v2-is) at c.in-Some.ensures in
    let more : i + 1 ≡ done + (j + 1) = omega arith in
    let next : suc i ≡ done + (j + 1) = omega arith in
    record {
      count = omega (arith, count);
      fit = subst (λ n. (k : ℕ) → k < n → SFits w16 (word_at xs k)) more (fits_more xs i c.loop-x.invariant.fit fx);
      gives = λ p h tuned frame inside.
          let before = rw (c.loop-x.v1-is, c.loop-x.v2-is) at (c.loop-x.invariant.gives p h tuned frame inside) in
          rw (to_z-of_z w16 v fv, c.loop-x.v1-is)
          (subst (λ n. Gives p h (take n xs) (record { samples = pos (samples_in_frame (frame_length p) h + n); v1 = v; v2 = v1 }) []) next
          (gives_within p h xs i t v1 v2 v below tuned inside before value));
    }

pub returns-clause-law : goal.returns-clause-law
returns-clause-law c p h tuned frame inside =
    let xs = c.args.input.now in
    let n = samples_in_frame (frame_length p) h in
    let i = c.run_quiet-quiet.result.count + c.loop-x.x-index in
    let few = tuned.few in
    let quiet = c.run_quiet-quiet.ensures.count in
    let end = simp (length-take, length-drop) at c.loop-x.auto.x-index-end in
    let inner : i ≤ length xs = omega (arith, quiet, end) in
    let fs : SFits w16 c.args.start.samples = search rules in
    let counted : c.add-samples.result ≡ pos (n + i) =
    rw (to_z-of_z w16 c.args.start.samples fs ∙ frame.samples, c.loop-x.invariant.count, to_z_pos w16 i (omega (arith, few, inner, inside))) at c.add-samples.ensures
    ∙ all_counted n i (omega (arith, few, inner, inside)) in
    rw (c.loop-x.invariant.count, to_z-of_z w16 c.add-samples.result (record { sfits = c.add-samples.type_inv }) ∙ counted)
    (c.loop-x.invariant.gives p h tuned frame inside)
