use Rattle.std.proofs.Common.{◌≡◌, take, []}
use Rattle.kind_steps.specs.Steppings.{onto}
use Rattle.alg_activity.specs.Equation.{energy_of}
use Rattle.alg_activity.proofs.kernel.energy.Given as goal

abbrev pub invariant-loop-x : goal.invariant-loop-x
invariant-loop-x l = l.energy ≡ energy_of l.shift (onto (take l.x-index l.samples) [])
