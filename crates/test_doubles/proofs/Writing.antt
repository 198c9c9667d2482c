-- A record that was taken, written over and put back, and what may be written while the same loans are held.
use Rattle.std.proofs.Common.{◌≡◌, ℕ, ℤ, zero, suc, ◌<◌, inl, inr, List, subst, sym, ◌∙◌, arith}
use Rattle.std.specs.List.{All}
use Rattle.mem_rec.specs.declared.MemRec.{MemRec}
use Rattle.ialg.specs.declared.memory.Lent.{Lent}
use Rattle.ialg.specs.Loans.{lent_words, loan, WritableAt, SameLoans, SameBut}
use Rattle.ialg.specs.Records.{record_at, words_of}
use Rattle.ialg.proofs.Finding.{words_but}
use Rattle.ialg.proofs.Loans.{same_sizes}
use Rattle.ialg.proofs.Taking.{apart_or_same}
use Rattle.test_doubles.specs.Writing.{MayBeWritten}

pub loan_words : (m : Lent) (k : ℕ) → k < 4 → words_of (lent_words m) k ≡ (loan m k).now
loan_words m zero few = λ i. m.r0.now
loan_words m (suc zero) few = λ i. m.r1.now
loan_words m (suc (suc zero)) few = λ i. m.r2.now
loan_words m (suc (suc (suc zero))) few = λ i. m.r3.now
loan_words m (suc (suc (suc (suc k)))) few = absurd (omega (arith, few))

-- where record j was written over with one word, a record that had only this word has it still
pub still_filled : (word : ℤ) (j k : ℕ) (before meanwhile after : Lent) → j < 4 → SameBut j before meanwhile → SameBut j meanwhile after
    → All (λ x. x ≡ word) (words_of (lent_words after) j)
    → All (λ x. x ≡ word) (words_of (lent_words before) k) → All (λ x. x ≡ word) (words_of (lent_words after) k)
still_filled word j k before meanwhile after few out put flooded filled =
    elim (apart_or_same j k) [
      | inl same ↦ subst (λ n. All (λ x. x ≡ word) (words_of (lent_words after) n)) same flooded
      | inr apart ↦
          subst (λ xs. All (λ x. x ≡ word) xs) (sym (words_but j k meanwhile after put apart ∙ words_but j k before meanwhile out apart)) filled
    ]

pub may_still : (k : ℕ) (a b : Lent) → SameLoans a b → MayBeWritten a k → MayBeWritten b k
may_still k a b same may =
    rw same.table (record {
      at = record {
        placed = may.at.placed;
        lent = subst (λ n. 0 < n) (sym (same_sizes a b same k)) may.at.lent;
        at_space = λ i. (record_at a.table.now k).space;
        at_base = λ i. (record_at a.table.now k).base;
      };
      may = λ once. same.writable ∙ may.may once;
    })

-- the record of a table at its place
pub may_at : (m : Lent) (records : List MemRec) (i k : ℕ) → records ≡ m.table.now → k ≡ i → MayBeWritten m k
    → WritableAt m (record_at records i).space (record_at records i).base k
may_at m records i k same here may = rw (same, sym here) may
