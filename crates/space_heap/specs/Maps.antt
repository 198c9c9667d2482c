-- A heap as contracts see it, and the blocks that are taken of it.
use Rattle.std.specs.Prelude.{◌≡◌, ◌==◌, ℕ, ◌+◌, ◌-◌, ◌^◌, ◌%◌, ◌<◌, ◌≤◌, min, Bool, false, not, List, [], ◌∷◌, ◌++◌, map, length, sum_by, Option, if◌then◌else◌}
use Rattle.std.specs.List.{list_any, range_with_len}
use Rattle.std.specs.Option.{option_map}
use Rattle.space_raw.specs.Span.{Extent, Span}
use Rattle.mem_rec.specs.declared.TheConstants.{LEAST_ALIGNMENT}
use Rattle.relocate.specs.Places.{Range, end_of, meets, is_covered, least_place, lower_place, placed_size}

-- the space; for each word of it, in order, whether it is free; and how many words were moved
pub record HeapState : Type 0 where
  pub region : Extent
  pub free : List Bool
  pub slid : ℕ

-- where a piece lies
abbrev pub range_of : Span → Range
range_of s = record { place = s.place; size = length s.words }

-- the range may be a block of a space of so many words
pub record IsBlock (words : ℕ) (r : Range) : Type 0 where
  pub some : 0 < r.size
  pub place : r.place % LEAST_ALIGNMENT ≡ 0
  pub size : r.size % LEAST_ALIGNMENT ≡ 0
  pub inside : end_of r ≤ words

-- all of them may be, and no two meet
abbrev pub AreBlocks : ℕ → List Range → Type 0
AreBlocks words [] = Unit {0}
AreBlocks words (r ∷ rs) = IsBlock words r × (list_any (meets r) rs ≡ false) × AreBlocks words rs

-- for each word, whether none of the blocks covers it
abbrev pub free_beside : ℕ → List Range → List Bool
free_beside words taken = map (λ k. not (is_covered taken k)) (range_with_len 0 words)

-- these are the blocks that were taken and not given back, in any order: the free words are those that none of them covers
pub record Holds (heap : HeapState) (taken : List Range) : Type 0 where
  pub placed : AreBlocks heap.region.size taken
  pub free : heap.free ≡ free_beside heap.region.size taken

-- the piece is at the least place that is free for so many words at this alignment, whatever blocks were taken, and there is none where no place is
abbrev pub IsAtLeastFree : Option Span → HeapState → ℕ → ℕ → Type 0
IsAtLeastFree piece heap words align = (taken : List Range) → Holds heap taken
    → option_map (λ (p : Span). p.place) piece ≡ least_place heap.region.size taken (placed_size words) align

-- the piece is one more of the blocks that were taken
abbrev pub OneMoreIsHeld : Span → HeapState → HeapState → Type 0
OneMoreIsHeld piece old new = (before after : List Range) → Holds old (before ++ after) → Holds new (before ++ range_of piece ∷ after)

-- the piece is none of the blocks any longer
abbrev pub OneFewerIsHeld : Span → HeapState → HeapState → Type 0
OneFewerIsHeld piece old new = (before after : List Range) → Holds old (before ++ range_of piece ∷ after) → Holds new (before ++ after)

-- the one piece is a block in place of the other
abbrev pub OneIsHeldAs : Span → Span → HeapState → HeapState → Type 0
OneIsHeldAs piece there old new = (before after : List Range) → Holds old (before ++ range_of piece ∷ after) → Holds new (before ++ range_of there ∷ after)

-- the one piece is where the other one can be lowered to at this alignment, whatever other blocks were taken
abbrev pub IsLoweredTo : Span → ℕ → Span → HeapState → Type 0
IsLoweredTo piece align there heap = (before after : List Range) → Holds heap (before ++ range_of piece ∷ after)
    → there.place ≡ lower_place (before ++ after) piece.place align

-- the words that were moved, once the one piece became the other
abbrev pub slid_with : HeapState → Span → Span → ℕ
slid_with heap piece there = min (heap.slid + (if there.place == piece.place then 0 else length piece.words)) (2 ^ 64 - 1)

-- beside the blocks so many words are free
abbrev pub AreLeftFree : ℕ → HeapState → Type 0
AreLeftFree count heap = (taken : List Range) → Holds heap taken → count + sum_by (λ (r : Range). r.size) taken ≡ heap.region.size
