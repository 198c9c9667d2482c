-- What the words of a primed instance keep.
use Rattle.std.proofs.Common.{◌≡◌, ℕ, ℤ, zero, suc, pos, lit<, lit≤, IsTrue, true, false, List, [], ◌∷◌, length, Option, Some, None, take, drop, refl, sym, ap, ◌∙◌, arith, append-nil}
use Rattle.std.proofs.lemmas.Bool.Decides.{Decides-int_eq}
use Rattle.std.proofs.Math.Seq.{take-length}
use Rattle.mem_rec.specs.declared.MemRec.{MemRec}
use Rattle.mem_rec.specs.declared.Space.TheVariants.{Daram, Saram, External}
use Rattle.mem_rec.specs.declared.Attr.TheVariants.{WriteOnce}
use Rattle.ialg.specs.declared.memory.Lent.{Lent}
use Rattle.ialg.specs.History.{History, Sample, Control, outputs_by}
use Rattle.ialg.specs.Records.{record_at, words_of, lasting, lasting_words, unplaced, ArePoison}
use Rattle.ialg.specs.Objects.{Names, NamedAt}
use Rattle.ialg.proofs.Tables.{attr_of, lasting_at, words_of-lasting}
use Rattle.test_doubles.specs.Primed.{primed_records, primed_fill, is_primed, KeepsWords}

pub silent : (h : History) → outputs_by (λ t. []) h ≡ []
silent [] = refl
silent (Sample x ∷ h) = append-nil (outputs_by (λ t. []) h) ∙ silent h
silent (Control c ∷ h) = silent h

-- the write-once words last
pub once_lasts : (rs : List MemRec) (wss : List (List ℤ)) (k : ℕ) → (record_at rs k).attr ≡ WriteOnce → words_of (lasting rs wss) k ≡ words_of wss k
once_lasts rs wss k once = words_of-lasting rs wss k ∙ ap (λ a. lasting_words a (words_of wss k)) once

-- what is kept of the words that last
pub without_scratch : (p : List ℤ) (rs : List MemRec) (wss : List (List ℤ)) (h : History) → KeepsWords p rs wss h → KeepsWords p rs (lasting rs wss) h
without_scratch p rs wss h keeps =
    let at = lasting_at rs primed_records keeps.object.on_table wss in
    record {
      two = keeps.two;
      history = keeps.history;
      object = rw (at 0) keeps.object;
      once = λ k once. once_lasts rs wss k once ∙ keeps.once k once;
      primed = at 2 ∙ keeps.primed;
    }

pub active : (p : List ℤ) (rs : List MemRec) (wss : List (List ℤ)) (h : History) → KeepsWords p rs (lasting rs wss) h → KeepsWords p rs wss h
active p rs wss h keeps =
    let at = lasting_at rs primed_records keeps.object.on_table wss in
    record {
      two = keeps.two;
      history = keeps.history;
      object = rw (at 0) at keeps.object;
      once = λ k once. sym (once_lasts rs wss k once) ∙ keeps.once k once;
      primed = sym (at 2) ∙ keeps.primed;
    }

-- the one write-once record is record 1
pub fill_at : (p : List ℤ) (rs : List MemRec) (wss : List (List ℤ)) → unplaced rs ≡ primed_records → words_of wss 1 ≡ drop 1 p
    → (k : ℕ) → (record_at rs k).attr ≡ WriteOnce → words_of wss k ≡ primed_fill p k
fill_at p rs wss records word zero once = let e = sym (attr_of rs primed_records records 0) ∙ once in cc
fill_at p rs wss records word (suc zero) once = word
fill_at p rs wss records word (suc (suc zero)) once = let e = sym (attr_of rs primed_records records 2) ∙ once in cc
fill_at p rs wss records word (suc (suc (suc zero))) once = let e = sym (attr_of rs primed_records records 3) ∙ once in cc
fill_at p rs wss records word (suc (suc (suc (suc k)))) once = let e = sym (attr_of rs primed_records records (suc (suc (suc (suc k))))) ∙ once in cc

-- the object was written anew, and the other words are the same
pub moved : (p : List ℤ) (before rs : List MemRec) (wss wss' : List (List ℤ)) (h : History) → unplaced before ≡ unplaced rs → KeepsWords p before wss h
    → Names (pos 9) (unplaced rs) rs (words_of wss' 0) → words_of wss' 1 ≡ words_of wss 1 → words_of wss' 2 ≡ words_of wss 2 → KeepsWords p rs wss' h
moved p before rs wss wss' h same keeps names first second =
    let records : unplaced rs ≡ primed_records = sym same ∙ keeps.object.on_table in
    record {
      two = keeps.two;
      history = keeps.history;
      object = rw records at names;
      once = λ k once. fill_at p rs wss' records (first ∙ keeps.once 1 (attr_of before primed_records keeps.object.on_table 1)) k once;
      primed = second ∙ keeps.primed;
    }

module _ (m : Lent) (names : Names (pos 9) primed_records m.table.now m.r0.now) where
  -- the records are found
  pub once_named : length m.r1.now ≡ 1 → NamedAt m External 1 (pos 9) primed_records
  once_named size = record { names = names; not_the_object = lit≤ tt; within = lit< tt; few = lit≤ tt; its_space = refl; lent = omega arith }

  pub primed_named : length m.r2.now ≡ 1 → NamedAt m Saram 2 (pos 9) primed_records
  primed_named size = record { names = names; not_the_object = lit≤ tt; within = lit< tt; few = lit≤ tt; its_space = refl; lent = omega arith }

  pub scratch_named : length m.r3.now ≡ 1 → NamedAt m Daram 3 (pos 9) primed_records
  scratch_named size = record { names = names; not_the_object = lit≤ tt; within = lit< tt; few = lit≤ tt; its_space = refl; lent = omega arith }

-- a word of the poison is the first parameter
pub primed_word : (p : List ℤ) (w : Option ℤ) (ws : List ℤ) → IsTrue (is_primed p w) → length ws ≡ 1 → ArePoison w ws → ws ≡ take 1 p
primed_word [] None ws lawful size poison = let e : false ≡ true = lawful in cc
primed_word [] (Some u) ws lawful size poison = let e : false ≡ true = lawful in cc
primed_word (v ∷ []) None ws lawful size poison = let e : false ≡ true = lawful in cc
primed_word (v ∷ []) (Some u) ws lawful size poison = let e : false ≡ true = lawful in cc
primed_word (v ∷ x ∷ y ∷ p) None ws lawful size poison = let e : false ≡ true = lawful in cc
primed_word (v ∷ x ∷ y ∷ p) (Some u) ws lawful size poison = let e : false ≡ true = lawful in cc
primed_word (v ∷ x ∷ []) None ws lawful size poison = let e : false ≡ true = lawful in cc
primed_word (v ∷ x ∷ []) (Some u) [] lawful size poison = absurd (omega arith)
primed_word (v ∷ x ∷ []) (Some u) (y ∷ z ∷ ws) lawful size poison = absurd (omega arith)
primed_word (v ∷ x ∷ []) (Some u) (y ∷ []) lawful size poison =
    let same : v ≡ u = (Decides-int_eq v u).0 lawful in
    let here : y ≡ u = poison 0 y (omega arith) in
    ap (λ z. z ∷ []) (here ∙ sym same)

-- a word that was written over
pub overwritten : (p new : List ℤ) → length new ≡ length p → take (length p) new ≡ p → new ≡ p
overwritten p new size first = sym (take-length new) ∙ ap (λ n. take n new) size ∙ first

-- the words that last go by what the records are, and not by where they stand
pub active_by : (p : List ℤ) (before rs : List MemRec) (wss : List (List ℤ)) (h : History) → unplaced before ≡ unplaced rs
    → KeepsWords p before (lasting rs wss) h → KeepsWords p before wss h
active_by p before rs wss h same keeps =
    let on_table = keeps.object.on_table in
    let records : unplaced rs ≡ primed_records = sym same ∙ on_table in
    let at = lasting_at rs primed_records records wss in
    let attr = λ (k : ℕ). attr_of rs primed_records records k ∙ sym (attr_of before primed_records on_table k) in
    record {
      two = keeps.two;
      history = keeps.history;
      object = rw (at 0) at keeps.object;
      once = λ k once. sym (once_lasts rs wss k (attr k ∙ once)) ∙ keeps.once k once;
      primed = sym (at 2) ∙ keeps.primed;
    }
