use Rattle.std.proofs.Common.{◌≡◌, ◌++◌, ℕ, zero, suc, List, [], ◌∷◌, None, length-append}
use Rattle.scratch_group.specs.declared.group.Group.{Group}
use Rattle.scratch_group.specs.Blocks.{block_in}
use Rattle.host_map.specs.Activity.{never_activated}
use Rattle.host_table.specs.Table.{group_at, activity_at}
use Rattle.host_table.proofs.table_memory.empty_groups.Goals as goal

one_more : (P : Group → Type 0) (groups : List Group) (y : Group) → ((k : ℕ) → P (group_at groups k)) → P y → (k : ℕ) → P (group_at (groups ++ (y ∷ [])) k)
one_more P [] y all here zero = here
one_more P [] y all here (suc k) = all k
one_more P (x ∷ groups) y all here zero = all zero
one_more P (x ∷ groups) y all here (suc k) = one_more P groups y (λ j. all (suc j)) here k

pub loop-preserved : goal.loop-preserved
loop-preserved g c = record {
  count = rw c.push_reserved.ensures.items (rw (length-append, c.loop.invariant.count));
  room = rw c.push_reserved.ensures.capacity c.loop.invariant.room;
  blocks = λ k space.
      rw c.push_reserved.ensures.items
      (one_more (λ (y : Group). block_in y space ≡ None) _ c.new.result (λ j. c.loop.invariant.blocks j space) (c.new.ensures.blocks space) k);
  activity =
      rw c.push_reserved.ensures.items
      (one_more (λ (y : Group). activity_at (y ∷ []) 0 ≡ never_activated) c.loop.groups.items c.new.result c.loop.invariant.activity
      (rw (c.new.ensures.active, c.new.ensures.activations)));
}
