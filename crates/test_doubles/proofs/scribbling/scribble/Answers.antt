use Rattle.std.proofs.Common.{◌≡◌, ◌<◌, ◌⊎◌, inl, inr, length, ap, subst, sym, ◌∙◌, arith}
use Rattle.ialg.specs.Records.{AreApart}
use Rattle.ialg.proofs.Loans.{SameLoans-then}
use Rattle.test_doubles.proofs.Writing.{may_at, may_still}
use Rattle.test_doubles.proofs.scribbling.scribble.Goals as goal

pub loop-record-preserved : goal.loop-record-preserved
loop-record-preserved c =
    let before = c.loop-record.invariant in
    let start = c.args.mem.now in
    let table = ap (λ b. b.now) c.table.ensures in
    let items = c.records-record-items.ensures.value ∙ table in
    record {
      loans = SameLoans-then start c.loop-record.mem c.fill_record.new.mem before.loans c.fill_record.ensures.loans;
      written = λ apart k below may.
          let cases : (k < c.loop-record.record-index) ⊎ (k ≡ c.loop-record.record-index) = grind arith in
          elim cases [
            | inl sooner ↦ c.fill_record.ensures.kept k (before.written apart k sooner may)
            | inr here ↦ c.fill_record.ensures.filled k
                (may_at c.loop-record.mem c.records-record-items.result.now c.loop-record.record-index k (items ∙ sym (ap (λ b. b.now) before.loans.table)) here (may_still k start c.loop-record.mem before.loans may))
                (subst AreApart (sym (ap (λ b. b.now) before.loans.table)) apart)
          ];
    }

pub returns-clause-written : goal.returns-clause-written
returns-clause-written c apart k may =
    let table = ap (λ b. b.now) c.table.ensures in
    let items = c.records-record-items.ensures.value ∙ table in
    let past = c.loop-record-test.false in
    let placed = may.at.placed in
    let count = ap length items in
    c.loop-record.invariant.written apart k (omega (arith, placed, past, count)) may
