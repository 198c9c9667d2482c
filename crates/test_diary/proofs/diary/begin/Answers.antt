use Rattle.std.proofs.Common.{ap, ◌∙◌, length, lit<, arith}
use Rattle.ialg.specs.Filters.{filter_records}
use Rattle.ialg.proofs.Loans.{taken_and_put}
use Rattle.ialg.proofs.Taking.{visit, persist_not_once}
use Rattle.test_diary.specs.declared.TheConstants.{DIARY_KIND}
use Rattle.test_diary.specs.Diary.{diary_memory}
use Rattle.test_diary.proofs.diary.begin.Goals as goal

pub returns-clause-begun : goal.returns-clause-begun
returns-clause-begun c named =
    let m = c.args.mem.now in
    let found = c.in-Some.ensures.named DIARY_KIND (filter_records diary_memory) named persist_not_once in
    let v = visit 1 m _ _ c.in-Some.taken _ found (lit< tt) (λ e. omega arith) c.in-Some.ensures.left c.put.ensures.others c.put.ensures.back in
    record {
      calls = λ size. rw v.written.written (c.start.ensures (ap (λ r. length r.now) v.taken ∙ size));
      object = v.written.others 0 (λ e. omega arith);
    }

pub returns-in_default-clause-begun : goal.returns-in_default-clause-begun
returns-in_default-clause-begun c named = absurd (c.in_default.ensures.named DIARY_KIND (filter_records diary_memory) named persist_not_once)

pub returns-clause-loans : goal.returns-clause-loans
returns-clause-loans c =
    let left = c.in-Some.ensures.left in
    taken_and_put _ _ _ _ left.0 left.2 c.put.ensures.others c.in-Some.ensures.found.may
    (ap (λ b. b.ghost_name) c.put.ensures.back ∙ ap (λ b. b.ghost_name) left.1)
    (ap (λ b. length b.now) c.put.ensures.back ∙ c.start.auto.words ∙ ap (λ b. length b.now) left.1)
