use Rattle.std.proofs.Common.{length, take, ap, ◌∙◌}
use Rattle.alg_fir.proofs.filter.FirFilter.get.Goals as goal

pub returns-then-n-le-PARAMETER_WORDS-clause-answer : goal.returns-then-n-le-PARAMETER_WORDS-clause-answer
returns-then-n-le-PARAMETER_WORDS-clause-answer c p h runs =
    let e = c.count_of-n.ensures.exact (length p) runs.coefficients.some runs.coefficients.size in
    c.copied.ensures ∙ ap (λ n. take n c.args.kept.now) e ∙ runs.coefficients.coefficients
