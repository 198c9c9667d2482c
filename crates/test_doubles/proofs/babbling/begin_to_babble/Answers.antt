use Rattle.std.proofs.Common.{ap, arith}
use Rattle.test_doubles.proofs.babbling.begin_to_babble.Goals as goal

pub returns-clause-begun : goal.returns-clause-begun
returns-clause-begun c apart may =
    let table = ap (λ b. b.now) c.table.ensures in
    let kept = c.in-Some.ensures in
    c.fill_record.ensures.filled 1 (rw (kept, table) may) apart

pub returns-in_default-clause-begun : goal.returns-in_default-clause-begun
returns-in_default-clause-begun c apart may =
    let table = ap (λ b. b.now) c.table.ensures in
    let past = rw table at c.in_default.ensures in
    let placed = may.at.placed in
    absurd (omega (arith, past, placed))
