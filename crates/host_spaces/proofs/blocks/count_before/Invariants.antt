-- The blocks below `low` begin before the place, and those from `high` on don't.
use Rattle.std.proofs.Common.{ℕ, ◌<◌, ◌≤◌, ◌-◌, length, get_or}
use Rattle.host_map.specs.declared.placed.Placed.{Placed}
use Rattle.host_spaces.proofs.blocks.count_before.Given as goal

abbrev pub invariant-loop-low : goal.invariant-loop-low
invariant-loop-low l = record {
  order : l.low ≤ l.high;
  upto : l.high ≤ length l.blocks;
  before : (k : ℕ) (d : Placed) → k < l.low → (get_or l.blocks k d).place < l.place;
  behind : (k : ℕ) (d : Placed) → l.high ≤ k → k < length l.blocks → l.place ≤ (get_or l.blocks k d).place;
}

abbrev pub decreases-loop-low : goal.decreases-loop-low
decreases-loop-low l = l.high - l.low
