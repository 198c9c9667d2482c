use Rattle.ialg.specs.Loans.{SameLoans}
use Rattle.test_doubles.proofs.forging.try_base.Given as goal

abbrev pub invariant-loop-space : goal.invariant-loop-space
invariant-loop-space l = SameLoans l.fn.mem l.mem
