-- What the loop of `zeros` keeps, and why it ends.
use Rattle.std.proofs.Common.{◌-◌, ◌≡◌, ◌+◌, ◌≤◌, replicate, pos}
use Rattle.space_raw.proofs.store.zeros.Given as goal

abbrev pub invariant-loop-done : goal.invariant-loop-done
invariant-loop-done l =
    (l.done ≤ l.count) × (l.zeros.base ≡ l.base.ptr) × (l.zeros.place ≡ l.from) × (l.zeros.items ≡ replicate l.done (pos 0))
    × (l.blank.base ≡ l.base.ptr) × (l.blank.place ≡ l.from + l.done) × (l.done + l.blank.len ≡ l.fn.blank.len)

abbrev pub decreases-loop-done : goal.decreases-loop-done
decreases-loop-done l = l.count - l.done
