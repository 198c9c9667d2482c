use Rattle.std.proofs.Common.{◌≡◌, length, ap, ◌∙◌, arith}
use Rattle.mem_rec.specs.Records.{with_base}
use Rattle.test_doubles.specs.Primed.{primed_records}
use Rattle.test_doubles.proofs.Starting.{granted}
use Rattle.test_doubles.proofs.starts.placed_table.Goals as goal

pub returns-in_err-table : goal.returns-in_err-table
returns-in_err-table c poison once e =
    let some = granted c.args.p.now.items poison once c.alg_alloc.result e c.alg_alloc.ensures.law in
    let none = c.in_err-table.was in
    absurd cc

pub returns-then-len-gt-ONCE : goal.returns-then-len-gt-ONCE
returns-then-len-gt-ONCE c poison once e =
    let some = granted c.args.p.now.items poison once c.alg_alloc.result e c.alg_alloc.ensures.law in
    let given = c.in_ok-table.was in
    let table : c.in_ok-table.table ≡ primed_records = cc in
    c.with_base.ensures ∙ ap (λ t. with_base t 1 4) table

pub returns-else-len-gt-ONCE : goal.returns-else-len-gt-ONCE
returns-else-len-gt-ONCE c poison once e =
    let some = granted c.args.p.now.items poison once c.alg_alloc.result e c.alg_alloc.ensures.law in
    let given = c.in_ok-table.was in
    let table : c.in_ok-table.table ≡ primed_records = cc in
    let few = c.if-len-gt-ONCE.false in
    let long = c.len.ensures.value ∙ ap length table in
    absurd (omega arith)
