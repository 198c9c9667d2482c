use Rattle.std.proofs.Common.{sym, subst}
use Rattle.alg_fir.specs.Keeps.{KeepsRing}
use Rattle.alg_fir.specs.DecimMeaning.{decim_records}
use Rattle.alg_fir.specs.DecimKeeps.{decim_kind}
use Rattle.alg_fir.proofs.decimator.save_from.Goals as goal

pub returns-in-Some-clause-past : goal.returns-in-Some-clause-past
returns-in-Some-clause-past c taps h named some size ring =
    let read = c.in-Some.ensures.named decim_kind (decim_records taps) named in
    c.save.ensures.past taps h some size (subst (KeepsRing taps h) (sym read) ring)

pub returns-in_default-clause-past : goal.returns-in_default-clause-past
returns-in_default-clause-past c taps h named some size ring = absurd (c.in_default.ensures.named decim_kind (decim_records taps) named)
