use Rattle.std.proofs.Common.{length, ap, ◌∙◌}
use Rattle.ialg.proofs.Loans.{taken_and_put}
use Rattle.test_doubles.proofs.clinging.cling.Goals as goal

pub returns-clause-loans : goal.returns-clause-loans
returns-clause-loans c =
    let left = c.in-Some-take.ensures.left in
    taken_and_put _ _ _ _ left.0 left.2 c.put.ensures.others c.in-Some-take.ensures.found.may
    (ap (λ b. b.ghost_name) c.put.ensures.back ∙ ap (λ b. b.ghost_name) left.1)
    (ap (λ b. length b.now) c.put.ensures.back ∙ c.exchange_first.auto.words ∙ ap (λ b. length b.now) left.1)
