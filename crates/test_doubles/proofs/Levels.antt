-- What the words of a slicer keep.
use Rattle.std.proofs.Common.{◌≡◌, ℕ, ℤ, zero, suc, lit<, lit≤, List, [], ◌∷◌, ◌++◌, length, map, refl, sym, ◌∙◌, arith, append-nil, append_assoc}
use Rattle.mem_rec.specs.declared.MemRec.{MemRec}
use Rattle.mem_rec.specs.declared.Space.TheVariants.{Daram, Saram, External}
use Rattle.mem_rec.specs.declared.Attr.TheVariants.{WriteOnce}
use Rattle.ialg.specs.declared.memory.Lent.{Lent}
use Rattle.ialg.specs.History.{History, Sample, with_samples, word_at, outputs_by, IsWordHistory}
use Rattle.ialg.specs.Records.{record_at, words_of, lasting, unplaced}
use Rattle.ialg.specs.Objects.{Names, NamedAt}
use Rattle.ialg.proofs.Tables.{attr_of, lasting_at}
use Rattle.test_doubles.specs.declared.TheConstants.{SLICER_KIND}
use Rattle.test_doubles.proofs.Kept.{once_lasts}
use Rattle.test_doubles.specs.Slicer.{slicer_records, slicer_fill, slicer_gives, sliced, HoldsLevels, SpreadsLevels, IsSpread}

-- the levels last
pub without_scratch : (p : List ℤ) (rs : List MemRec) (wss : List (List ℤ)) (h : History) → HoldsLevels p rs wss h → HoldsLevels p rs (lasting rs wss) h
without_scratch p rs wss h keeps = record {
  two = keeps.two;
  history = keeps.history;
  object = rw (lasting_at rs slicer_records keeps.object.on_table wss 0) keeps.object;
  once = λ k once. once_lasts rs wss k once ∙ keeps.once k once;
}

-- also by a table with other bases
pub active_by : (p : List ℤ) (before rs : List MemRec) (wss : List (List ℤ)) (h : History) → unplaced before ≡ unplaced rs
    → HoldsLevels p before (lasting rs wss) h → HoldsLevels p before wss h
active_by p before rs wss h same keeps =
    let on_table = keeps.object.on_table in
    let records : unplaced rs ≡ slicer_records = sym same ∙ on_table in
    let attr = λ (k : ℕ). attr_of rs slicer_records records k ∙ sym (attr_of before slicer_records on_table k) in
    record {
      two = keeps.two;
      history = keeps.history;
      object = rw (lasting_at rs slicer_records records wss 0) at keeps.object;
      once = λ k once. sym (once_lasts rs wss k (attr k ∙ once)) ∙ keeps.once k once;
    }

-- the one write-once record is record 1
pub fill_at : (p : List ℤ) (rs : List MemRec) (wss : List (List ℤ)) → unplaced rs ≡ slicer_records → words_of wss 1 ≡ p
    → (k : ℕ) → (record_at rs k).attr ≡ WriteOnce → words_of wss k ≡ slicer_fill p k
fill_at p rs wss records word zero once = let e = sym (attr_of rs slicer_records records 0) ∙ once in cc
fill_at p rs wss records word (suc zero) once = word
fill_at p rs wss records word (suc (suc zero)) once = let e = sym (attr_of rs slicer_records records 2) ∙ once in cc
fill_at p rs wss records word (suc (suc (suc zero))) once = let e = sym (attr_of rs slicer_records records 3) ∙ once in cc
fill_at p rs wss records word (suc (suc (suc (suc k)))) once = let e = sym (attr_of rs slicer_records records (suc (suc (suc (suc k))))) ∙ once in cc

pub levels_of : (p : List ℤ) (rs : List MemRec) (wss : List (List ℤ)) (h : History) → HoldsLevels p rs wss h → words_of wss 1 ≡ p
levels_of p rs wss h keeps = keeps.once 1 (attr_of rs slicer_records keeps.object.on_table 1)

-- the object was written anew, and the levels are the same
pub moved : (p : List ℤ) (before rs : List MemRec) (wss wss' : List (List ℤ)) (h : History) → unplaced before ≡ unplaced rs → HoldsLevels p before wss h
    → Names SLICER_KIND (unplaced rs) rs (words_of wss' 0) → words_of wss' 1 ≡ words_of wss 1 → HoldsLevels p rs wss' h
moved p before rs wss wss' h same keeps names first =
    let records : unplaced rs ≡ slicer_records = sym same ∙ keeps.object.on_table in
    record {
      two = keeps.two;
      history = keeps.history;
      object = rw records at names;
      once = λ k once. fill_at p rs wss' records (first ∙ levels_of p before wss h keeps) k once;
    }

-- the same words after one more entry, or some
pub goes_on : (p : List ℤ) (rs : List MemRec) (wss : List (List ℤ)) (h after : History) → IsWordHistory after → HoldsLevels p rs wss h → HoldsLevels p rs wss after
goes_on p rs wss h after words keeps = record { two = keeps.two; history = words; object = keeps.object; once = keeps.once }

module _ (m : Lent) (names : Names SLICER_KIND slicer_records m.table.now m.r0.now) where
  -- the records are found
  pub levels_named : length m.r1.now ≡ 2 → NamedAt m External 1 SLICER_KIND slicer_records
  levels_named size = record { names = names; not_the_object = lit≤ tt; within = lit< tt; few = lit≤ tt; its_space = refl; lent = omega arith }

  pub low_named : length m.r2.now ≡ 5 → NamedAt m Daram 2 SLICER_KIND slicer_records
  low_named size = record { names = names; not_the_object = lit≤ tt; within = lit< tt; few = lit≤ tt; its_space = refl; lent = omega arith }

  pub high_named : length m.r3.now ≡ 3 → NamedAt m Saram 3 SLICER_KIND slicer_records
  high_named size = record { names = names; not_the_object = lit≤ tt; within = lit< tt; few = lit≤ tt; its_space = refl; lent = omega arith }

-- both scratch records were written
pub spread_over : (p : List ℤ) (rs : List MemRec) (old between new : List (List ℤ)) (h : History) → HoldsLevels p rs old h
    → IsSpread 2 (word_at p 0) old between → IsSpread 3 (word_at p 1) between new → SpreadsLevels p rs new h
spread_over p rs old between new h keeps low high =
    let same = λ (k : ℕ) (a : 2 ≡ k → ⊥) (b : 3 ≡ k → ⊥). high.others k b ∙ low.others k a in
    let object = same 0 (λ e. omega arith) (λ e. omega arith) in
    let levels = same 1 (λ e. omega arith) (λ e. omega arith) in
    record {
      levels = record {
        two = keeps.two;
        history = keeps.history;
        object = rw object keeps.object;
        once = λ k once. fill_at p rs new keeps.object.on_table (levels ∙ levels_of p rs old h keeps) k once;
      };
      low = rw (high.others 2 (λ e. omega arith)) low.all_words;
      high = high.all_words;
    }

-- a block gives the level of each sample
pub outputs-with_samples : (p : List ℤ) (h : History) (xs : List ℤ)
    → outputs_by (slicer_gives p) (with_samples h xs) ≡ outputs_by (slicer_gives p) h ++ map (sliced (word_at p 0) (word_at p 1)) xs
outputs-with_samples p h [] = sym (append-nil (outputs_by (slicer_gives p) h))
outputs-with_samples p h (x ∷ xs) =
    outputs-with_samples p (Sample x ∷ h) xs
    ∙ append_assoc (outputs_by (slicer_gives p) h) (sliced (word_at p 0) (word_at p 1) x ∷ []) (map (sliced (word_at p 0) (word_at p 1)) xs)
