use Rattle.std.proofs.Common.{length, sym, ap, subst, ◌∙◌, arith}
use Rattle.mem_rec.specs.declared.Space.TheVariants.{Daram}
use Rattle.ialg.specs.History.{word_at}
use Rattle.ialg.proofs.Taking.{persist_not_once}
use Rattle.ialg.proofs.Finding.{NamedAt-SameBut}
use Rattle.alg_fir.specs.Keeps.{KeepsPast, KeepsRing}
use Rattle.alg_fir.specs.DecimMeaning.{decim_records}
use Rattle.alg_fir.specs.DecimKeeps.{decim_kind}
use Rattle.alg_fir.proofs.DecimRecords.{visited}
use Rattle.alg_fir.proofs.decimator.save_past.Goals as goal

pub returns-in_default-clause-saved : goal.returns-in_default-clause-saved
returns-in_default-clause-saved c taps h finds some size ring =
    absurd (c.in_default.ensures.named decim_kind (decim_records taps) finds.kept persist_not_once)

pub returns-clause-saved : goal.returns-clause-saved
returns-clause-saved c taps h finds some size ring =
    let m = c.args.mem.now in
    let found = c.in-Some.ensures.named decim_kind (decim_records taps) finds.kept persist_not_once in
    let v = visited 1 m _ _ c.in-Some.taken _ found c.in-Some.ensures.left c.put.ensures.others c.put.ensures.back in
    let named = NamedAt-SameBut 1 3 m _ Daram decim_kind (decim_records taps) v.left (λ e. omega arith) (λ e. omega arith) finds.ring in
    let same = ap (λ b. b.now) (v.left.others3 (λ e. omega arith)) in
    let now = ap (λ b. b.now) v.written in
    let past = c.save_from.ensures.past taps h named some (ap (λ b. length b.now) v.taken ∙ size) (subst (KeepsRing taps h) (sym same) ring) in
    (v.but, subst (KeepsPast taps 1 h) (sym now) past, ap (λ ws. word_at ws 0) now ∙ c.save_from.ensures.phase ∙ ap (λ b. word_at b.now 0) v.taken)
