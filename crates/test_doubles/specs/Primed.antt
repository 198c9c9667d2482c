-- A kind that relies on the host's poison word in a record that lasts and in a scratch record, and keeps a word in a write-once record.
use Rattle.std.specs.Prelude.{◌≡◌, ℕ, ℤ, Bool, true, false, ◌==◌, List, [], ◌∷◌, ◌++◌, length, take, drop, Option, Some, None, if◌then◌else◌}
use Rattle.std.specs.Ordering.{int_eq}
use Rattle.mem_rec.specs.declared.TheConstants.{LEAST_ALIGNMENT}
use Rattle.mem_rec.specs.declared.MemRec.{MemRec}
use Rattle.mem_rec.specs.declared.Space.TheVariants.{Daram, Saram, External}
use Rattle.mem_rec.specs.declared.Attr.TheVariants.{Scratch, Persist, WriteOnce}
use Rattle.ialg.specs.History.{History, Ctl, Set, Reset, Get, IsWordHistory}
use Rattle.ialg.specs.Meaning.{Meaning}
use Rattle.ialg.specs.Records.{words_of, HoldFill}
use Rattle.ialg.specs.Objects.{Names, object_memory}
use Rattle.test_doubles.specs.declared.TheConstants.{ONCE, PRIMED, PRIMED_SCRATCH, PRIMED_KIND, PRIMED_PARAMETERS}
use Rattle.test_doubles.specs.declared.primed.Primed.{Primed}

-- the object, a word that is written once, a word that is never written, and a scratch word
abbrev pub primed_records : List MemRec
primed_records =
    object_memory
    ∷ record { size = 1; align = LEAST_ALIGNMENT; space = External; attr = WriteOnce; base = 0 }
    ∷ record { size = 1; align = LEAST_ALIGNMENT; space = Saram; attr = Persist; base = 0 }
    ∷ record { size = 1; align = LEAST_ALIGNMENT; space = Daram; attr = Scratch; base = 0 }
    ∷ []

-- the parameters are the host's poison word, and the write-once word
abbrev pub primed_fill : List ℤ → ℕ → List ℤ
primed_fill p k = if k == ONCE then drop 1 p else []

-- the host's poison word is the first parameter
abbrev pub is_primed : List ℤ → Option ℤ → Bool
is_primed (v ∷ x ∷ []) (Some w) = int_eq v w
is_primed _ _ = false

abbrev pub primed_accepts : Ctl → Bool
primed_accepts (Set words) = false
primed_accepts Reset = false
primed_accepts Get = true

abbrev pub primed_meaning : Meaning Primed
primed_meaning = record {
  same = λ a b. true;
  table = λ _ p. if length p == PRIMED_PARAMETERS then Some primed_records else None;
  gives = λ _ p h. [];
  accepts = λ _ p c. primed_accepts c;
  got = λ _ p h. take 1 p ++ p;
  declares = λ _ p. true;
  lawful = λ _ p w. is_primed p w;
}

-- the words that last are the parameters, whether the instance is idle or active
pub record KeepsWords (p : List ℤ) (rs : List MemRec) (wss : List (List ℤ)) (h : History) : Type 0 where
  pub two : length p ≡ PRIMED_PARAMETERS
  pub history : IsWordHistory h
  pub object : Names PRIMED_KIND primed_records rs (words_of wss 0)
  pub once : HoldFill (primed_fill p) rs wss
  pub primed : words_of wss PRIMED ≡ take 1 p

-- the scratch word of an active instance is the poison word too
pub record KeepsActive (p : List ℤ) (rs : List MemRec) (wss : List (List ℤ)) (h : History) : Type 0 where
  pub idle : KeepsWords p rs wss h
  pub scratch : words_of wss PRIMED_SCRATCH ≡ take 1 p
