use Rattle.std.proofs.Common.{◌≡◌, ◌<◌, ℕ, None}
use Rattle.host_table.specs.Table.{slot_at, TablesOk, ArePoisoned}
use Rattle.host_spec.specs.State.{State}
use Rattle.host_moves.specs.Standing.{AgreeWithMap}
use Rattle.host_moves.specs.Hosts.{ListsAndSpacesRefine}
use Rattle.host_instances.proofs.Closed.{IsClosing}
use Rattle.host_instances.proofs.closing.delete_all.Given as goal

abbrev pub invariant-loop-i : goal.invariant-loop-i
invariant-loop-i g l = record {
  ok : TablesOk l.tables.instances l.tables.sharing l.tables.groups;
  standing : AgreeWithMap l.tables.instances l.tables.sharing l.tables.groups l.spaces;
  poisoned : ArePoisoned l.poison l.tables.groups;
  none : (j : ℕ) → j < l.i → slot_at l.tables.instances j ≡ None;
  machine : (before : State _) → before.poison ≡ l.poison
      → ListsAndSpacesRefine g.M.Ialg.law l.fn.tables.instances l.fn.tables.sharing l.fn.tables.groups l.fn.spaces before
      → IsClosing g.M.Ialg.law l.tables.instances l.tables.sharing l.tables.groups l.spaces l.i l.poison before;
}
