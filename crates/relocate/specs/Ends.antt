-- What a private function's clause needs: where blocks end.
use Rattle.std.specs.Prelude.{ℕ, List, [], ◌∷◌}
use Rattle.relocate.specs.Places.{end_of}
use Rattle.relocate.specs.declared.packing.Spot.{Spot}
use Rattle.relocate.specs.Spots.{range_of}

-- where the last block ends, or `from` without blocks
abbrev pub end_from : ℕ → List Spot → ℕ
end_from from [] = from
end_from from (s ∷ ss) = end_from (end_of (range_of s)) ss
