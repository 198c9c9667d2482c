use Rattle.std.proofs.Common.{◌∙◌}
use Rattle.alg_fir.specs.DecimMeaning.{decim_records}
use Rattle.alg_fir.specs.DecimKeeps.{taps_of, decim_kind}
use Rattle.alg_fir.proofs.decimator.count_with.Goals as goal

pub returns-in-Some : goal.returns-in-Some
returns-in-Some c p before takes named constants some counted =
    let read = c.in-Some.ensures.named decim_kind (decim_records (taps_of p)) named in
    c.advance.ensures p before (read ∙ constants) takes some counted

pub returns-in_default : goal.returns-in_default
returns-in_default c p before takes named constants some counted =
    absurd (c.in_default.ensures.named decim_kind (decim_records (taps_of p)) named)
