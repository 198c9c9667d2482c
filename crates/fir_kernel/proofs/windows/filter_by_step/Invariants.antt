use Rattle.std.proofs.Common.{◌*◌}
use Rattle.fir_kernel.specs.Windows.{AreRounded}
use Rattle.fir_kernel.proofs.windows.filter_by_step.Given as goal

abbrev pub invariant-loop-group : goal.invariant-loop-group
invariant-loop-group g l = AreRounded l.taps l.line l.first l.step (8 * l.group) l.initial.out l.out
