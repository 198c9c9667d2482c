use Rattle.std.proofs.Common.{length, sym, ap, subst, ◌∙◌, arith}
use Rattle.mem_rec.specs.declared.Space.TheVariants.{Saram}
use Rattle.ialg.proofs.Taking.{scratch_not_once}
use Rattle.ialg.proofs.Finding.{NamedAt-SameBut}
use Rattle.alg_fir.specs.Keeps.{KeepsPast, KeepsRing}
use Rattle.alg_fir.specs.DecimMeaning.{decim_records}
use Rattle.alg_fir.specs.DecimKeeps.{decim_kind}
use Rattle.alg_fir.proofs.DecimRecords.{visited}
use Rattle.alg_fir.proofs.decimator.restore_ring.Goals as goal

pub returns-in_default-clause-restored : goal.returns-in_default-clause-restored
returns-in_default-clause-restored c taps h finds some few size ring past =
    absurd (c.in_default.ensures.named decim_kind (decim_records taps) finds.ring scratch_not_once)

pub returns-clause-restored : goal.returns-clause-restored
returns-clause-restored c taps h finds some few size ring past =
    let m = c.args.mem.now in
    let found = c.in-Some.ensures.named decim_kind (decim_records taps) finds.ring scratch_not_once in
    let v = visited 3 m _ _ c.in-Some.taken _ found c.in-Some.ensures.left c.put.ensures.others c.put.ensures.back in
    let named = NamedAt-SameBut 3 1 m _ Saram decim_kind (decim_records taps) v.left (λ e. omega arith) (λ e. omega arith) finds.kept in
    let same = ap (λ b. b.now) (v.left.others1 (λ e. omega arith)) in
    let restored = c.restore_from.ensures taps h named some few (ap length same ∙ size) (ap (λ b. length b.now) v.taken ∙ ring)
    (subst (KeepsPast taps 1 h) (sym same) past) in
    (v.but, subst (KeepsRing taps h) (sym (ap (λ b. b.now) v.written)) restored)
