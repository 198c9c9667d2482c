use Rattle.std.proofs.Common.{◌≡◌, ◌+◌, ◌-◌, ◌/◌, ℤ, List, length, take, drop, unsigned_abs, arith, sym, ◌∙◌, ap, subst, length-drop}
use Rattle.std.proofs.Math.Seq.{take-length}
use Rattle.ialg.specs.History.{with_samples}
use Rattle.fir_kernel.specs.Rings.{IsRing}
use Rattle.alg_fir.specs.Keeps.{KeepsRing, AreOutputs}
use Rattle.alg_fir.specs.Decimation.{factor}
use Rattle.alg_fir.specs.DecimKeeps.{taps_of, coefficients_of}
use Rattle.alg_fir.proofs.DecimSteps.{is_taken, phase, block_outputs}
use Rattle.alg_fir.proofs.decimation.run.Goals as goal

-- all words but the first
behind_first : (words : List ℤ) → take (length words - 1) (drop 1 words) ≡ drop 1 words
behind_first words =
    let l : length (drop 1 words) ≡ length words - 1 = simp length-drop (omega arith) in
    ap (λ n. take n (drop 1 words)) (sym l) ∙ take-length (drop 1 words)

pub returns-then-phase-factor-clause-law : goal.returns-then-phase-factor-clause-law
returns-then-phase-factor-clause-law c p h e takes keeps ring =
    let xs = c.args.input.now in
    let words = c.args.ring.now in
    let cs = coefficients_of p in
    let taken = is_taken p takes in
    let taps : length cs ≡ taps_of p = simp length-drop (omega arith) in
    let given = behind_first c.args.constants.now ∙ ap (drop 1) e in
    let rings : KeepsRing (length cs) h words = subst (λ n. KeepsRing n h words) (sym taps) ring in
    let next : rings.place ≡ c.named_place-next.result = sym (c.named_place-next.ensures.value rings.place (omega arith) rings.last) in
    let at = subst (λ n. IsRing (length cs - 1) (length words - 1) words n h) next rings.ring in
    let ran = c.run_block.ensures.law cs h (given ∙ sym keeps.unset) (ap length given) rings.size at in
    let by : c.first_of-factor.result ≡ factor p = c.first_of-factor.ensures.value ∙ ap factor e in
    let so_far : c.first_of-phase.result ≡ phase p h = c.first_of-phase.ensures.value ∙ ap unsigned_abs keeps.counted in
    let first = c.taken_of-taken.ensures.first in
    let step : c.taken_of-taken.result.step ≡ factor p = c.taken_of-taken.ensures.step ∙ by in
    let many : length c.run_block.new.out.items ≡ (phase p h + length xs) / factor p =
    c.run_block.ensures.count ∙ c.taken_of-taken.ensures.count ∙ ap (λ n. (n + length xs) / c.first_of-factor.result) so_far ∙ ap (λ m. (phase p h + length xs) / m) by in
    let outputs = subst (λ m. AreOutputs cs h xs c.taken_of-taken.result.first m c.run_block.new.out.items) step ran.1 in
    record {
      ring = subst (λ n. KeepsRing n (with_samples h xs) c.run_block.new.ring) taps ran.0.ring;
      samples = ran.0.samples;
      outputs = block_outputs p taken h xs c.run_block.new.out.items c.taken_of-taken.result.first (omega arith) many outputs;
    }
