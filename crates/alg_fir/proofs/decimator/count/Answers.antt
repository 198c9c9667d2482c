use Rattle.std.proofs.Common.{◌≡◌, length, ap, ◌∙◌, arith}
use Rattle.mem_rec.specs.declared.Space.TheVariants.{External}
use Rattle.ialg.specs.History.{word_at}
use Rattle.ialg.proofs.Taking.{persist_not_once}
use Rattle.ialg.proofs.Finding.{NamedAt-SameBut}
use Rattle.alg_fir.specs.DecimMeaning.{decim_records}
use Rattle.alg_fir.specs.DecimKeeps.{taps_of, decim_kind}
use Rattle.alg_fir.proofs.DecimRecords.{visited}
use Rattle.alg_fir.proofs.decimator.count.Goals as goal

pub returns-in_default-clause-counted : goal.returns-in_default-clause-counted
returns-in_default-clause-counted c p before takes finds constants some counted =
    absurd (c.in_default.ensures.named decim_kind (decim_records (taps_of p)) finds.kept persist_not_once)

pub returns-clause-counted : goal.returns-clause-counted
returns-clause-counted c p before takes finds constants some counted =
    let m = c.args.mem.now in
    let records = decim_records (taps_of p) in
    let found = c.in-Some.ensures.named decim_kind records finds.kept persist_not_once in
    let v = visited 1 m _ _ c.in-Some.taken _ found c.in-Some.ensures.left c.put.ensures.others c.put.ensures.back in
    let named = NamedAt-SameBut 1 2 m _ External decim_kind records v.left (λ e. omega arith) (λ e. omega arith) finds.constants in
    let same = ap (λ b. b.now) (v.left.others2 (λ e. omega arith)) in
    let long : length c.in-Some.taken.words.now ≡ length m.r1.now = ap (λ b. length b.now) v.taken in
    let now = c.count_with.ensures p before takes named (same ∙ constants) (omega arith) (ap (λ b. word_at b.now 0) v.taken ∙ counted) in
    (v.but, ap (λ b. word_at b.now 0) v.written ∙ now)
