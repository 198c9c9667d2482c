use Rattle.std.proofs.Common.{Some, refl, sym, ap, ◌∙◌}
use Rattle.test_doubles.proofs.Starting.{taken}
use Rattle.test_doubles.proofs.starts.StartStepUnit.perform.Goals as goal

pub returns-clause-done : goal.returns-clause-done
returns-clause-done c w lawful records lent writable new =
    let e = ap (λ b. b.now) c.table-table.ensures in
    (rw e at c.alg_init.ensures.law) w lawful (taken _ w lawful ∙ ap Some (sym records)) refl lent writable new
