use Rattle.alg_fir.specs.DecimMeaning.{decim_records}
use Rattle.alg_fir.specs.DecimKeeps.{taps_of, decim_kind}
use Rattle.alg_fir.proofs.DecimRecords.{finds}
use Rattle.alg_fir.proofs.decimator.get.Goals as goal

pub returns-in_default-clause-answer : goal.returns-in_default-clause-answer
returns-in_default-clause-answer c p h lent active =
    absurd (c.in_default.ensures.named decim_kind (decim_records (taps_of p)) (finds p c.args.mem.now active.constants lent).kept)
