use Rattle.std.proofs.Common.{sym, subst, ◌∙◌}
use Rattle.alg_fir.specs.DecimMeaning.{decim_records}
use Rattle.alg_fir.specs.DecimKeeps.{taps_of, decim_kind, KeepsPhase}
use Rattle.alg_fir.proofs.decimator.run_with.Goals as goal

pub returns-in_default-clause-ran : goal.returns-in_default-clause-ran
returns-in_default-clause-ran c p h takes kept_named constants_named constants keeps ring =
    absurd (c.in_default.ensures.named decim_kind (decim_records (taps_of p)) constants_named)

pub returns-in_default-read_named-clause-ran : goal.returns-in_default-read_named-clause-ran
returns-in_default-read_named-clause-ran c p h takes kept_named constants_named constants keeps ring =
    absurd (c.in_default-read_named.ensures.named decim_kind (decim_records (taps_of p)) kept_named)

pub returns-clause-ran : goal.returns-clause-ran
returns-clause-ran c p h takes kept_named constants_named constants keeps ring =
    let read = c.in-Some.ensures.named decim_kind (decim_records (taps_of p)) constants_named in
    let kept = c.in-Some-read_named.ensures.named decim_kind (decim_records (taps_of p)) kept_named in
    c.run.ensures.law p h (read ∙ constants) takes (subst (KeepsPhase p h) (sym kept) keeps) ring
