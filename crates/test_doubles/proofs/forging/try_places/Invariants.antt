use Rattle.ialg.specs.Loans.{SameLoans}
use Rattle.test_doubles.proofs.forging.try_places.Given as goal

abbrev pub invariant-loop-place : goal.invariant-loop-place
invariant-loop-place l = SameLoans l.fn.mem l.mem
