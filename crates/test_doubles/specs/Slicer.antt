-- A kind that gives one of two levels by the sign of a sample, and spreads them over scratch records of two spaces.
use Rattle.std.specs.Prelude.{◌≡◌, ℕ, ℤ, pos, negsuc, Bool, true, false, ◌==◌, List, [], ◌∷◌, length, Some, None, if◌then◌else◌}
use Rattle.std.specs.List.{All}
use Rattle.mem_rec.specs.declared.TheConstants.{LEAST_ALIGNMENT}
use Rattle.mem_rec.specs.declared.MemRec.{MemRec}
use Rattle.mem_rec.specs.declared.Space.TheVariants.{Daram, Saram, External}
use Rattle.mem_rec.specs.declared.Attr.TheVariants.{Scratch, WriteOnce}
use Rattle.ialg.specs.History.{History, Sample, Ctl, Set, Reset, Get, IsWordHistory, word_at}
use Rattle.ialg.specs.Meaning.{Meaning}
use Rattle.ialg.specs.Records.{words_of, HoldFill}
use Rattle.ialg.specs.Objects.{Names, object_memory}
use Rattle.test_doubles.specs.declared.TheConstants.{HIGH, HIGH_ALIGNMENT, HIGH_WORDS, LEVELS, LOW, LOW_WORDS, ONCE, SLICER_KIND}
use Rattle.test_doubles.specs.declared.slicer.Slicer.{Slicer}

-- the object, the levels, which are written once, and a scratch record for each level
abbrev pub slicer_records : List MemRec
slicer_records =
    object_memory
    ∷ record { size = LEVELS; align = LEAST_ALIGNMENT; space = External; attr = WriteOnce; base = 0 }
    ∷ record { size = LOW_WORDS; align = LEAST_ALIGNMENT; space = Daram; attr = Scratch; base = 0 }
    ∷ record { size = HIGH_WORDS; align = HIGH_ALIGNMENT; space = Saram; attr = Scratch; base = 0 }
    ∷ []

-- the parameters are written once
abbrev pub slicer_fill : List ℤ → ℕ → List ℤ
slicer_fill p k = if k == ONCE then p else []

-- the low level for a sample below 0, else the high one
abbrev pub sliced : ℤ → ℤ → ℤ → ℤ
sliced low high (pos n) = high
sliced low high (negsuc n) = low

abbrev pub slicer_gives : List ℤ → History → List ℤ
slicer_gives p (Sample x ∷ h) = sliced (word_at p 0) (word_at p 1) x ∷ []
slicer_gives p _ = []

abbrev pub slicer_accepts : Ctl → Bool
slicer_accepts (Set words) = false
slicer_accepts Reset = false
slicer_accepts Get = true

abbrev pub slicer_meaning : Meaning Slicer
slicer_meaning = record {
  same = λ a b. true;
  table = λ _ p. if length p == LEVELS then Some slicer_records else None;
  gives = λ _ p h. slicer_gives p h;
  accepts = λ _ p c. slicer_accepts c;
  got = λ _ p h. p;
  declares = λ _ p. true;
  lawful = λ _ p w. true;
}

-- the write-once record has the levels
pub record HoldsLevels (p : List ℤ) (rs : List MemRec) (wss : List (List ℤ)) (h : History) : Type 0 where
  pub two : length p ≡ LEVELS
  pub history : IsWordHistory h
  pub object : Names SLICER_KIND slicer_records rs (words_of wss 0)
  pub once : HoldFill (slicer_fill p) rs wss

-- and each scratch record has one of them, in all its words
pub record SpreadsLevels (p : List ℤ) (rs : List MemRec) (wss : List (List ℤ)) (h : History) : Type 0 where
  pub levels : HoldsLevels p rs wss h
  pub low : All (λ x. x ≡ word_at p 0) (words_of wss LOW)
  pub high : All (λ x. x ≡ word_at p 1) (words_of wss HIGH)

-- each word of record k is this one now, and every other record has what it had
pub record IsSpread (k : ℕ) (v : ℤ) (old new : List (List ℤ)) : Type 0 where
  pub all_words : All (λ x. x ≡ v) (words_of new k)
  pub others : (j : ℕ) → (k ≡ j → ⊥) → words_of new j ≡ words_of old j
