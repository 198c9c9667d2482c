use Rattle.std.proofs.Common.{refl, ap}
use Rattle.lifecycle.proofs.steps.MoveStepUnit.perform.Goals as goal

pub returns-clause-done : goal.returns-clause-done
returns-clause-done g c =
    let e = ap (λ b. b.now) c.table-table.ensures in (
      c.alg_moved.ensures.loans.once,
      record {
        idle = λ p w h before lawful same reading lent keeps. (rw e at c.alg_moved.ensures.idle) p w h before lawful same refl reading lent keeps;
        active = λ p w h before lawful same reading lent keeps. (rw e at c.alg_moved.ensures.active) p w h before lawful same refl reading lent keeps;
      },
    )
