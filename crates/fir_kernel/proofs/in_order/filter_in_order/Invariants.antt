use Rattle.fir_kernel.specs.Sums.{AreOutputs}
use Rattle.fir_kernel.proofs.in_order.filter_in_order.Given as goal

abbrev pub invariant-loop-i : goal.invariant-loop-i
invariant-loop-i l = AreOutputs l.coefficients l.line l.first l.step l.i l.out
