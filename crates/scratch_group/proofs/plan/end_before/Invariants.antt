use Rattle.std.proofs.Common.{◌≡◌, ◌≤◌, ◌*◌}
use Rattle.scratch_group.specs.declared.plan.TheConstants.{GREATEST_STEP}
use Rattle.scratch_group.specs.Words.{scratch_end}
use Rattle.scratch_group.proofs.plan.end_before.Given as goal

abbrev pub invariant-loop-i : goal.invariant-loop-i
invariant-loop-i l = record {
  end : l.end ≡ scratch_end l.table l.i l.space;
  most : l.end ≤ GREATEST_STEP * l.i;
}
