-- What stands in a store: the words that no piece holds, of which those behind a mark were never written.
use Rattle.std.specs.Prelude.{◌≡◌, ℕ, zero, suc, ℤ, pos, ◌+◌, ◌<◌, List, [], ◌∷◌, length, Option, Some}
use denote.RawPtr.{Ptr}
use Rattle.space_raw.specs.Ownership.{word_limit}
use Rattle.space_raw.specs.declared.store.Store.{Store}

-- the slots as they are seen: from the place w on no word was written yet, and each of them is 0
abbrev pub seen : ℕ → List (Option ℤ) → List (Option ℤ)
seen w [] = []
seen zero (c ∷ cs) = Some (pos 0) ∷ seen zero cs
seen (suc w) (c ∷ cs) = c ∷ seen w cs

abbrev pub slots_of : Store → List (Option ℤ)
slots_of s = seen s.written s.loose.slots

-- the room that wasn't written begins at the mark, and ends where the slots end
abbrev pub IsStore : Store → Type 0
IsStore s = (s.blank.base ≡ s.loose.base) × (s.blank.place ≡ s.written) × (s.written + s.blank.len ≡ length s.loose.slots) × (length s.loose.slots < word_limit)

-- it is one over the allocation at this pointer
abbrev pub IsStoreAt : Store → Ptr → Type 0
IsStoreAt s base = IsStore s × (s.loose.base ≡ base)
