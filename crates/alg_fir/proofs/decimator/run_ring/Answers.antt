use Rattle.std.proofs.Common.{sym, ap, subst, ◌∙◌, arith}
use Rattle.mem_rec.specs.declared.Space.TheVariants.{Saram, External}
use Rattle.ialg.proofs.Taking.{scratch_not_once}
use Rattle.ialg.proofs.Finding.{NamedAt-SameBut}
use Rattle.alg_fir.specs.Keeps.{KeepsRing}
use Rattle.alg_fir.specs.DecimMeaning.{decim_records}
use Rattle.alg_fir.specs.DecimKeeps.{taps_of, decim_kind, KeepsPhase, RanDecim}
use Rattle.alg_fir.proofs.DecimRecords.{visited}
use Rattle.alg_fir.proofs.decimator.run_ring.Goals as goal

pub returns-in_default-clause-ran : goal.returns-in_default-clause-ran
returns-in_default-clause-ran c p h takes finds constants keeps ring =
    absurd (c.in_default.ensures.named decim_kind (decim_records (taps_of p)) finds.ring scratch_not_once)

pub returns-clause-ran : goal.returns-clause-ran
returns-clause-ran c p h takes finds constants keeps ring =
    let m = c.args.mem.now in
    let records = decim_records (taps_of p) in
    let found = c.in-Some.ensures.named decim_kind records finds.ring scratch_not_once in
    let v = visited 3 m _ _ c.in-Some.taken _ found c.in-Some.ensures.left c.put.ensures.others c.put.ensures.back in
    let kept_named = NamedAt-SameBut 3 1 m _ Saram decim_kind records v.left (λ e. omega arith) (λ e. omega arith) finds.kept in
    let constants_named = NamedAt-SameBut 3 2 m _ External decim_kind records v.left (λ e. omega arith) (λ e. omega arith) finds.constants in
    let kept = ap (λ b. b.now) (v.left.others1 (λ e. omega arith)) in
    let same = ap (λ b. b.now) (v.left.others2 (λ e. omega arith)) in
    let ran = c.run_with.ensures.ran p h takes kept_named constants_named (same ∙ constants) (subst (KeepsPhase p h) (sym kept) keeps)
    (subst (KeepsRing (taps_of p) h) (sym (ap (λ b. b.now) v.taken)) ring) in
    (v.but, subst (λ ws. RanDecim p h c.args.input.now ws c.run_with.new.out.items) (sym (ap (λ b. b.now) v.written)) ran)
