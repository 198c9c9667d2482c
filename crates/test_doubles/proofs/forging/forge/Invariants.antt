use Rattle.ialg.specs.Loans.{SameLoans}
use Rattle.test_doubles.proofs.forging.forge.Given as goal

abbrev pub invariant-loop-base : goal.invariant-loop-base
invariant-loop-base l = SameLoans l.fn.mem l.mem
