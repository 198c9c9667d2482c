-- Ranges of a space, and where a block is placed among those that are taken.
use Rattle.std.specs.Prelude.{ℕ, ◌+◌, ◌*◌, ◌/◌, Bool, ◌&&◌, not, List, map, Option, find, fold, max, min, nat_lt, nat_le, if◌then◌else◌, ◌≡◌, ◌%◌, ◌<◌, ◌≤◌}
use Rattle.std.specs.List.{list_any, range_with_len}
use Rattle.std.specs.Int.{next_multiple_of}
use Rattle.mem_rec.specs.declared.TheConstants.{LEAST_ALIGNMENT, GREATEST_ALIGNMENT}
use Rattle.relocate.specs.declared.limits.TheConstants.{SPACE_WORDS}

-- so many words of a space, from a place on
pub record Range : Type 0 where
  pub place : ℕ
  pub size : ℕ

abbrev pub end_of : Range → ℕ
end_of r = r.place + r.size

-- whether word k is in the range
abbrev pub covers : Range → ℕ → Bool
covers r k = nat_le r.place k && nat_lt k (end_of r)

-- whether word k is in one of them
abbrev pub is_covered : List Range → ℕ → Bool
is_covered rs k = list_any (λ r. covers r k) rs

-- whether the two ranges have a word in common
abbrev pub meets : Range → Range → Bool
meets r s = nat_lt r.place (end_of s) && nat_lt s.place (end_of r)

-- the wanted size, rounded up
abbrev pub placed_size : ℕ → ℕ
placed_size size = next_multiple_of size LEAST_ALIGNMENT

-- whether the range lies within the space and meets none of those that are taken
abbrev pub is_free : ℕ → List Range → Range → Bool
is_free words taken r = nat_le (end_of r) words && not (list_any (meets r) taken)

-- the least multiple of the alignment at which so many words are free, if there is one
abbrev pub least_place : ℕ → List Range → ℕ → ℕ → Option ℕ
least_place words taken size align =
    find (λ place. is_free words taken (record { place = place; size = size })) (map (λ k. k * align) (range_with_len 0 (words / align + 1)))

-- where the free range begins that stands directly before the place
abbrev pub free_from : List Range → ℕ → ℕ
free_from taken place = fold (λ start r. if nat_le (end_of r) place then max start (end_of r) else start) 0 taken

-- the least multiple of the alignment in that free range, or the place itself
abbrev pub lower_place : List Range → ℕ → ℕ → ℕ
lower_place taken place align = min place (next_multiple_of (free_from taken place) align)

-- a space may have so many words
abbrev pub IsSpaceSize : ℕ → Type 0
IsSpaceSize words = (words ≤ SPACE_WORDS) × (words % LEAST_ALIGNMENT ≡ 0)

-- every power of two from 4 to 1,024 is one
abbrev pub IsAlignment : ℕ → Type 0
IsAlignment align = (0 < align) × (align ≤ GREATEST_ALIGNMENT) × (align % LEAST_ALIGNMENT ≡ 0)
