-- Regions and their parts, as contracts see them.
use Rattle.std.specs.Prelude.{◌≡◌, ◌⊎◌, ℕ, ℤ, ◌+◌, ◌≤◌, List, Option, length, take, drop}
use denote.RawPtr.{Ptr}

-- an allocation: the pointer to it, its size in words, and the name that it was given when it was made. The name tells it from an
-- allocation that lay at the same address earlier
pub record Extent : Type 0 where
  pub base : Ptr
  pub name : ℕ
  pub size : ℕ

-- a range of its words
pub record Span : Type 0 where
  pub region : Extent
  pub place : ℕ
  pub words : List ℤ

-- the words of it that no piece holds, by place. None stands at the place of a word that is away
pub record Scattered : Type 0 where
  pub region : Extent
  pub slots : List (Option ℤ)

-- these words of the region from the place on
abbrev pub IsSpanOf : Span → Extent → ℕ → List ℤ → Type 0
IsSpanOf s region place ws = (s.region ≡ region) × (s.place ≡ place) × (s.words ≡ ws)

-- the whole region
abbrev pub IsWhole : Span → Type 0
IsWhole s = (s.place ≡ 0) × (length s.words ≡ s.region.size)

-- t is of the same region, and begins where s ends
abbrev pub Adjoins : Span → Span → Type 0
Adjoins s t = (t.region ≡ s.region) × (t.place ≡ s.place + length s.words)

-- no word is in both ranges: one has none, or ends before the other begins
abbrev pub Apart : Span → Span → Type 0
Apart s t = (length s.words ≡ 0) ⊎ ((length t.words ≡ 0) ⊎ ((s.place + length s.words ≤ t.place) ⊎ (t.place + length t.words ≤ s.place)))

-- the part has the first n words of the range
abbrev pub IsFront : ℕ → Span → Span → Type 0
IsFront n s part = (part.region ≡ s.region) × (part.place ≡ s.place) × (part.words ≡ take n s.words)

-- the part has the words behind the first n
abbrev pub IsBack : ℕ → Span → Span → Type 0
IsBack n s part = (part.region ≡ s.region) × (part.place ≡ s.place + n) × (part.words ≡ drop n s.words)
