use Rattle.std.proofs.Common.{◌≡◌, ◌-◌, length, take, sym, subst, ap, arith, ◌∙◌, length-take}
use Rattle.fir_kernel.specs.Rings.{IsRing}
use Rattle.alg_fir.proofs.Laws.{was_run}
use Rattle.alg_fir.proofs.Steps.{every_output}
use Rattle.alg_fir.proofs.filter.FirFilter.run.Goals as goal

pub returns-then-next-ring-clause-history : goal.returns-then-next-ring-clause-history
returns-then-next-ring-clause-history c p h runs =
    let kept = c.args.kept.now in
    let words = c.args.ring.now in
    let keeps = runs.ring in
    let some = runs.coefficients.some in
    let size = runs.coefficients.size in
    let e = c.count_of-n.ensures.exact (length p) some size in
    let in_force = ap (λ n. take n kept) e ∙ runs.coefficients.coefficients in
    let taps : length (take c.count_of-n.result kept) ≡ length p = simp length-take (omega arith) in
    let next : keeps.place ≡ c.named_place-next.result = sym (c.named_place-next.ensures.value keeps.place (omega arith) keeps.last) in
    let ring = subst (λ at. IsRing (length p - 1) (length words - 1) words at h) next keeps.ring in
    was_run p h c.args.input.now kept words c.run_block.new.ring runs (c.run_block.ensures.law p h in_force taps keeps.size ring).0

pub returns-then-next-ring-clause-outputs : goal.returns-then-next-ring-clause-outputs
returns-then-next-ring-clause-outputs c p h runs =
    let kept = c.args.kept.now in
    let words = c.args.ring.now in
    let keeps = runs.ring in
    let some = runs.coefficients.some in
    let size = runs.coefficients.size in
    let e = c.count_of-n.ensures.exact (length p) some size in
    let in_force = ap (λ n. take n kept) e ∙ runs.coefficients.coefficients in
    let taps : length (take c.count_of-n.result kept) ≡ length p = simp length-take (omega arith) in
    let next : keeps.place ≡ c.named_place-next.result = sym (c.named_place-next.ensures.value keeps.place (omega arith) keeps.last) in
    let ring = subst (λ at. IsRing (length p - 1) (length words - 1) words at h) next keeps.ring in
    every_output p h c.args.input.now _ c.run_block.ensures.count (c.run_block.ensures.law p h in_force taps keeps.size ring).1
