use Rattle.std.proofs.Common.{◌≡◌, ◌≤◌, ◌+◌, ◌-◌, length, arith, sym, subst, ap, ◌∙◌}
use Rattle.fir_kernel.specs.Rings.{IsRing}
use Rattle.ialg.specs.History.{word_at}
use Rattle.alg_fir.proofs.Words.{coefficients_stay}
use Rattle.alg_fir.proofs.filter.FirFilter.save.Goals as goal

pub returns-then-next-ring : goal.returns-then-next-ring
returns-then-next-ring c p h runs =
    let kept = c.args.kept.now in
    let words = c.args.ring.now in
    let n = c.count_of-n.result in
    let coefficients = runs.coefficients in
    let keeps = runs.ring in
    let some = coefficients.some in
    let size = coefficients.size in
    let e = c.count_of-n.ensures.exact (length p) some size in
    let b : length p ≤ n = omega arith in
    let next : keeps.place ≡ c.named_place-next.result = sym (c.named_place-next.ensures.value keeps.place (omega arith) keeps.last) in
    let count : length p - 1 ≡ length kept - n = omega arith in
    let ring : IsRing (length kept - n) (length words - 1) words c.named_place-next.result h =
    subst (λ at. IsRing (length kept - n) (length words - 1) words at h) next
    (subst (λ m. IsRing m (length words - 1) words keeps.place h) count keeps.ring) in
    record {
      history = runs.history;
      coefficients = coefficients_stay p h kept c.unroll.new.line n b c.unroll.auto.line c.unroll.ensures.before coefficients;
      past = λ j k b. ap (λ m. word_at c.unroll.new.line (m + j)) (sym e) ∙ c.unroll.ensures.samples h ring j k (omega arith);
    }
