-- The blocks of a space, in place order.
use Rattle.std.specs.Prelude.{◌≡◌, ℕ, ◌%◌, ◌≤◌, List, [], ◌∷◌, map}
use Rattle.relocate.specs.declared.limits.TheConstants.{SPACE_WORDS}
use Rattle.relocate.specs.Places.{Range, end_of, IsAlignment}
use Rattle.relocate.specs.declared.packing.Spot.{Spot}

-- where the block lies
abbrev pub range_of : Spot → Range
range_of s = record { place = s.place; size = s.size }

abbrev pub ranges_of : List Spot → List Range
ranges_of spots = map range_of spots

-- the block may stand there
pub record IsSpot (s : Spot) : Type 0 where
  pub align : IsAlignment s.align
  pub place : s.place % s.align ≡ 0
  pub inside : end_of (range_of s) ≤ SPACE_WORDS

-- none begins before a place, nor before the end of the one before it
abbrev pub AreSpotsFrom : ℕ → List Spot → Type 0
AreSpotsFrom from [] = Unit {0}
AreSpotsFrom from (s ∷ ss) = IsSpot s × (from ≤ s.place) × AreSpotsFrom (end_of (range_of s)) ss

abbrev pub AreSpots : List Spot → Type 0
AreSpots spots = AreSpotsFrom 0 spots
