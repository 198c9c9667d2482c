-- Where the filters of the tests stand. No public contract speaks of it.
use Rattle.std.specs.Prelude.{ℕ, ◌≡◌, ◌≤◌, List, length, Option, None, MatchOption}
use Rattle.space_raw.specs.Span.{Span, Extent, IsWhole}
use Rattle.mem_rec.specs.declared.TheConstants.{RECORD_WORDS}
use Rattle.mem_rec.specs.declared.MemRec.{MemRec}
use Rattle.ialg.specs.Filters.{filter_records}
use Rattle.scratch_group.specs.declared.group.Group.{Group}

-- the records of a filter of two coefficients
abbrev pub two_taps : List MemRec
two_taps = filter_records (record { kept = 3; running = 1025; align = 16 })

-- a piece of so many words, in a region that is no larger than a space
pub record IsPieceThere (n : ℕ) (s : Span) : Type 0 where
  pub words : length s.words ≡ n
  pub region : s.region.size ≤ RECORD_WORDS

-- the group has a block in `daram` that is large and aligned enough for these records, and no other
pub record IsReady (g : Group) : Type 0 where
  pub daram : MatchOption g.daram ⊥ (λ b. IsPieceThere 1028 b.piece × (b.align ≡ 16))
  pub saram : g.saram ≡ None
  pub external : g.external ≡ None

-- the one piece of that region
abbrev pub IsAllOf : Extent → Option Span → Type 0
IsAllOf region p = MatchOption p ⊥ (λ s. (s.region ≡ region) × IsWhole s)
