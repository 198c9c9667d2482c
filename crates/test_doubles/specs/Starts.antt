-- Where the records of a primed instance begin, what they hold, and that it has started or is active.
use Rattle.std.specs.Prelude.{ℤ, List, [], ◌∷◌}
use Rattle.mem_rec.specs.declared.MemRec.{MemRec}
use Rattle.mem_rec.specs.Records.{with_base}
use Rattle.ialg.specs.Records.{lasting, HoldFill}
use Rattle.test_doubles.specs.declared.TheConstants.{ONCE, ONCE_BASE}
use Rattle.test_doubles.specs.declared.starts.Held.{Held}
use Rattle.test_doubles.specs.declared.starts.Active.{Active}
use Rattle.test_doubles.specs.Primed.{primed_records, KeepsWords, KeepsActive, primed_fill}

-- the two records of `external` begin apart
abbrev pub placed_records : List MemRec
placed_records = with_base primed_records ONCE ONCE_BASE

-- the words of each record while the instance is idle
abbrev pub held_words : Held → List (List ℤ)
held_words held = held.object ∷ held.once ∷ held.primed ∷ [] ∷ []

-- the words keep the empty history of an idle instance
abbrev pub HasStarted : ℤ → ℤ → Held → Type 0
HasStarted poison once held = KeepsWords (poison ∷ once ∷ []) placed_records (lasting placed_records (held_words held)) []

-- the words of each record while it is active
abbrev pub active_words : Active → List (List ℤ)
active_words active = active.held.object ∷ active.held.once ∷ active.held.primed ∷ active.scratch ∷ []

-- the words keep the empty history of an active instance
abbrev pub IsActive : ℤ → ℤ → Active → Type 0
IsActive poison once active = KeepsActive (poison ∷ once ∷ []) placed_records (active_words active) []

-- its write-once record holds the word that it is filled with
abbrev pub HoldsFill : ℤ → ℤ → Held → Type 0
HoldsFill poison once held = HoldFill (primed_fill (poison ∷ once ∷ [])) placed_records (held_words held)
