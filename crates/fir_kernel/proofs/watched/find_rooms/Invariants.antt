use Rattle.std.proofs.Common.{◌≡◌, ◌+◌, ◌*◌, ◌%◌, ◌<◌, ℕ, ℤ, List, length, get_or}
use Rattle.fir_kernel.specs.Bounded.{NoneLouder}
use Rattle.fir_kernel.specs.Watched.{IsRoom}
use Rattle.fir_kernel.proofs.watched.find_rooms.Given as goal

abbrev pub invariant-loop-group : goal.invariant-loop-group
invariant-loop-group l = record {
  size : length l.rooms ≡ length l.fn.rooms;
  rooms : (line : List ℤ) → NoneLouder line l.loudest → (g : ℕ) → g < l.group → IsRoom l.coefficients line (length l.coefficients % 8 + 8 * g) (get_or l.rooms g 0);
}
