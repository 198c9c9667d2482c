-- New records of a primed instance, and that its start is granted.
use Rattle.std.proofs.Common.{◌≡◌, ◌==◌, ℕ, ℤ, zero, suc, inl, inr, IsTrue, List, [], ◌∷◌, length, Option, Some, None, if◌then◌else◌, refl, arith}
use Rattle.std.proofs.lemmas.Bool.Decides.{Decides-int_eq}
use Rattle.std.proofs.lemmas.List.Elements.{All-nil, All-replicate}
use Rattle.mem_rec.specs.declared.MemRec.{MemRec}
use Rattle.ialg.specs.Records.{record_at, words_of, idle_size, AreApart, AreNew, AllLent, LastingLent, ScratchIsPoison}
use Rattle.test_doubles.specs.Primed.{is_primed, primed_fill, primed_records}
use Rattle.test_doubles.specs.Starts.{placed_records}

-- the write-once word is there, and all others are the poison word
pub filled : (v x : ℤ) → AreNew (Some v) (primed_fill (v ∷ x ∷ [])) placed_records ((v ∷ v ∷ v ∷ v ∷ []) ∷ (x ∷ []) ∷ (v ∷ []) ∷ [] ∷ [])
filled v x zero = inl (All-replicate (λ y. y ≡ v) 4 v refl)
filled v x (suc zero) = inr (refl, refl)
filled v x (suc (suc zero)) = inl (All-replicate (λ y. y ≡ v) 1 v refl)
filled v x (suc (suc (suc zero))) = inl (All-nil (λ y. y ≡ v))
filled v x (suc (suc (suc (suc k)))) = inl (All-nil (λ y. y ≡ v))

-- the poison word is that of the parameters
pub primed : (v x : ℤ) → IsTrue (is_primed (v ∷ x ∷ []) (Some v))
primed v x = (Decides-int_eq v v).1 refl

-- two parameters are granted their table
pub granted : (p : List ℤ) (v x : ℤ) (table : Option (List MemRec)) → p ≡ v ∷ x ∷ []
    → ((w : Option ℤ) → IsTrue (is_primed p w) → table ≡ (if length p == 2 then Some primed_records else None)) → table ≡ Some primed_records
granted p v x table e law = (rw e at law) (Some v) (primed v x)

-- no two of the records begin at one place
pub placed_apart : AreApart placed_records
placed_apart zero zero _ _ _ _ = refl
placed_apart zero (suc zero) _ _ _ base = cc
placed_apart zero (suc (suc zero)) _ _ space _ = cc
placed_apart zero (suc (suc (suc zero))) _ _ space _ = cc
placed_apart (suc zero) zero _ _ _ base = cc
placed_apart (suc zero) (suc zero) _ _ _ _ = refl
placed_apart (suc zero) (suc (suc zero)) _ _ space _ = cc
placed_apart (suc zero) (suc (suc (suc zero))) _ _ space _ = cc
placed_apart (suc (suc zero)) zero _ _ space _ = cc
placed_apart (suc (suc zero)) (suc zero) _ _ space _ = cc
placed_apart (suc (suc zero)) (suc (suc zero)) _ _ _ _ = refl
placed_apart (suc (suc zero)) (suc (suc (suc zero))) _ _ space _ = cc
placed_apart (suc (suc (suc zero))) zero _ _ space _ = cc
placed_apart (suc (suc (suc zero))) (suc zero) _ _ space _ = cc
placed_apart (suc (suc (suc zero))) (suc (suc zero)) _ _ space _ = cc
placed_apart (suc (suc (suc zero))) (suc (suc (suc zero))) _ _ _ _ = refl
placed_apart (suc (suc (suc (suc j)))) k few _ _ _ = absurd (omega arith)
placed_apart zero (suc (suc (suc (suc k)))) _ few _ _ = absurd (omega arith)
placed_apart (suc zero) (suc (suc (suc (suc k)))) _ few _ _ = absurd (omega arith)
placed_apart (suc (suc zero)) (suc (suc (suc (suc k)))) _ few _ _ = absurd (omega arith)
placed_apart (suc (suc (suc zero))) (suc (suc (suc (suc k)))) _ few _ _ = absurd (omega arith)

-- the records are lent, at their sizes
pub placed_lent : (object once primed : List ℤ) → length object ≡ 4 → length once ≡ 1 → length primed ≡ 1
    → LastingLent placed_records (object ∷ once ∷ primed ∷ [] ∷ [])
placed_lent object once primed four one single = record {
  sizes = λ k. sizes k;
  apart = placed_apart;
} where
  sizes : (k : ℕ) → length (words_of (object ∷ once ∷ primed ∷ [] ∷ []) k) ≡ idle_size (record_at placed_records k).attr (record_at placed_records k).size
  sizes zero = four
  sizes (suc zero) = one
  sizes (suc (suc zero)) = single
  sizes (suc (suc (suc zero))) = refl
  sizes (suc (suc (suc (suc k)))) = refl

-- and while the instance is active
pub all_lent : (object once primed scratch : List ℤ) → length object ≡ 4 → length once ≡ 1 → length primed ≡ 1 → length scratch ≡ 1
    → AllLent placed_records (object ∷ once ∷ primed ∷ scratch ∷ [])
all_lent object once primed scratch four one single last = record {
  sizes = λ k. sizes k;
  apart = placed_apart;
} where
  sizes : (k : ℕ) → length (words_of (object ∷ once ∷ primed ∷ scratch ∷ []) k) ≡ (record_at placed_records k).size
  sizes zero = four
  sizes (suc zero) = one
  sizes (suc (suc zero)) = single
  sizes (suc (suc (suc zero))) = last
  sizes (suc (suc (suc (suc k)))) = refl

-- the one scratch word is the poison word
pub scratch_poisoned : (v : ℤ) (object once primed : List ℤ)
    → ScratchIsPoison (Some v) placed_records (object ∷ once ∷ primed ∷ (v ∷ []) ∷ [])
scratch_poisoned v object once primed zero scratch = cc
scratch_poisoned v object once primed (suc zero) scratch = cc
scratch_poisoned v object once primed (suc (suc zero)) scratch = cc
scratch_poisoned v object once primed (suc (suc (suc zero))) scratch = All-replicate (λ y. y ≡ v) 1 v refl
scratch_poisoned v object once primed (suc (suc (suc (suc k)))) scratch = All-nil (λ y. y ≡ v)

-- such parameters are granted their table
pub taken : (p : List ℤ) (w : Option ℤ) → IsTrue (is_primed p w) → (if length p == 2 then Some primed_records else None) ≡ Some primed_records
taken [] w primed = cc
taken (v ∷ []) w primed = cc
taken (v ∷ x ∷ []) None primed = cc
taken (v ∷ x ∷ []) (Some w) primed = refl
taken (v ∷ x ∷ y ∷ p) w primed = cc
