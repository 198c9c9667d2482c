use Rattle.std.proofs.Common.{◌≡◌, length, take, sym, ap, ◌∙◌, arith}
use Rattle.std.proofs.Math.Seq.{take-length}
use Rattle.alg_fir.specs.DecimMeaning.{decim_records}
use Rattle.alg_fir.specs.DecimKeeps.{decim_kind}
use Rattle.alg_fir.proofs.DecimRecords.{visited}
use Rattle.alg_fir.proofs.decimator.write_constants.Goals as goal

pub returns-in_default-clause-written : goal.returns-in_default-clause-written
returns-in_default-clause-written c taps named may size =
    absurd (c.in_default.ensures.named decim_kind (decim_records taps) named (λ once. may))

pub returns-clause-written : goal.returns-clause-written
returns-clause-written c taps named may size =
    let m = c.args.mem.now in
    let new = c.overwrite.new.words in
    let found = c.in-Some.ensures.named decim_kind (decim_records taps) named (λ once. may) in
    let v = visited 2 m _ _ c.in-Some.taken _ found c.in-Some.ensures.left c.put.ensures.others c.put.ensures.back in
    let old : length c.in-Some.taken.words.now ≡ length c.args.p.now = ap (λ b. length b.now) v.taken ∙ size in
    let all : length new ≡ length c.args.p.now = c.overwrite.auto.words ∙ old in
    let whole = sym (take-length new) ∙ ap (λ n. take n new) all ∙ c.overwrite.ensures.first (omega arith) in
    (v.but, ap (λ b. b.now) v.written ∙ whole)
