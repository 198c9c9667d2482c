use Rattle.std.proofs.Common.{ap, ◌∙◌}
use Rattle.ialg.specs.History.{word_at}
use Rattle.ialg.proofs.Taking.{persist_not_once}
use Rattle.alg_fir.specs.DecimMeaning.{decim_records}
use Rattle.alg_fir.specs.DecimKeeps.{decim_kind}
use Rattle.alg_fir.proofs.DecimRecords.{visited}
use Rattle.alg_fir.proofs.decimator.clear_kept.Goals as goal

pub returns-in_default-clause-cleared : goal.returns-in_default-clause-cleared
returns-in_default-clause-cleared c taps named =
    absurd (c.in_default.ensures.named decim_kind (decim_records taps) named persist_not_once)

pub returns-clause-cleared : goal.returns-clause-cleared
returns-clause-cleared c taps named =
    let m = c.args.mem.now in
    let found = c.in-Some.ensures.named decim_kind (decim_records taps) named persist_not_once in
    let v = visited 1 m _ _ c.in-Some.taken _ found c.in-Some.ensures.left c.put.ensures.others c.put.ensures.back in
    (v.but, λ k. ap (λ b. word_at b.now k) v.written ∙ c.clear.ensures k)
