use Rattle.std.proofs.Common.{◌≡◌, length, map, take}
use Rattle.test_doubles.specs.Slicer.{sliced}
use Rattle.test_doubles.proofs.slicer.slice.Given as goal

abbrev pub invariant-loop-x : goal.invariant-loop-x
invariant-loop-x l = record {
  count : length l.out.items ≡ l.x-index;
  given : l.out.items ≡ map (sliced l.low l.high) (take l.x-index l.input);
}
