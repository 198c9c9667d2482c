-- What the owners of words, of room and of places own. No public clause speaks of it.
use Rattle.std.specs.Prelude.{◌≡◌, ◌+◌, ◌<◌, ℕ, ℤ, Bool, List, length}
use denote.RawPtr.{Ptr}
use Rattle.space_raw.specs.Ownership.{word_limit}
use Rattle.space_raw.specs.Slots.{IsRun}
use Rattle.space_raw.specs.declared.block.Blank.{Blank}
use Rattle.space_raw.specs.declared.loose.Loose.{Loose}
use Rattle.space_raw.specs.declared.places.Places.{Places}
use Rattle.space_raw.specs.declared.words.Words.{Words}

-- the words ws of the allocation at this pointer, from the place on
abbrev pub OwnsWords : Words → Ptr → ℕ → List ℤ → Type 0
OwnsWords w base place ws = (w.base ≡ base) × (w.place ≡ place) × (w.items ≡ ws)

-- room for n words there
abbrev pub OwnsRoom : Blank → Ptr → ℕ → ℕ → Type 0
OwnsRoom b base place n = (b.base ≡ base) × (b.place ≡ place) × (b.len ≡ n)

-- the places that are marked, of the region of the other one
abbrev pub OwnsPlaces : Places → Places → List Bool → Type 0
OwnsPlaces p other marks = (p.name ≡ other.name) × (p.marks ≡ marks) × (length p.marks ≡ length other.marks)

-- just the n words of the allocation at this pointer from the place on, which can be reached
abbrev pub CanBeRead : Words → Ptr → ℕ → ℕ → Type 0
CanBeRead w base place n = (base ≡ w.base) × (place ≡ w.place) × (n ≡ length w.items) × (place + n < word_limit)

-- a run of n words there among others, which can be reached
abbrev pub RunCanBeRead : Loose → Ptr → ℕ → ℕ → Type 0
RunCanBeRead r base place n = (base ≡ r.base) × IsRun r.slots place n × (place + n < word_limit)
