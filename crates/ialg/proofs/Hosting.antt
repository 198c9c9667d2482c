-- A filter's instance in its records: finding them, and what is kept where one of them was written.
use Rattle.std.proofs.Common.{◌≡◌, ℕ, zero, suc, ◌∙◌, ℤ, ◌≤◌, lit<, lit≤, IsTrue, ◌&&◌, List, [], ◌∷◌, length, Option, None, Some, option_map, refl, sym, ap, subst, arith}
use Rattle.std.specs.List.{list_all}
use Rattle.std.proofs.lemmas.Bool.Decides.{nat_tests}
use Rattle.mem_rec.specs.declared.MemRec.{MemRec}
use Rattle.mem_rec.specs.declared.Space.TheVariants.{Daram, Saram}
use Rattle.mem_rec.specs.declared.Attr.TheVariants.{WriteOnce}
use Rattle.mem_rec.specs.Records.{is_table, is_record, first_is_persistent}
use Rattle.ialg.specs.declared.memory.Lent.{Lent}
use Rattle.ialg.specs.declared.filter.FilterMemory.{FilterMemory}
use Rattle.ialg.specs.Records.{record_at, words_of, unplaced, lasting, AllLent}
use Rattle.ialg.specs.Loans.{lent_words}
use Rattle.ialg.specs.Objects.{Names, NamedAt}
use Rattle.ialg.specs.Filters.{filter_records, IsPlaced, IsIdle, IsActive}
use Rattle.ialg.proofs.Tables.{attr_of, length-unplaced, lasting_at, lent_size}
use Rattle.ialg.proofs.Taking.{Rewritten}

-- a table that isn't refused
pub record IsGranted (asked : Option FilterMemory) (t : List MemRec) : Type 0 where
  pub memory : FilterMemory
  pub granted : asked ≡ Some memory
  pub records : t ≡ filter_records memory

pub table_some : (asked : Option FilterMemory) (t : List MemRec) → option_map filter_records asked ≡ Some t → IsGranted asked t
table_some None t e = cc
table_some (Some m) t e = record { memory = m; granted = refl; records = cc }

-- a table is valid with bases and without
are_records-unplaced : (rs : List MemRec) → list_all is_record (unplaced rs) ≡ list_all is_record rs
are_records-unplaced [] = refl
are_records-unplaced (r ∷ rs) = ap (λ b. is_record r && b) (are_records-unplaced rs)

first-unplaced : (rs : List MemRec) → first_is_persistent (unplaced rs) ≡ first_is_persistent rs
first-unplaced [] = refl
first-unplaced (r ∷ rs) = refl

pub is_table-unplaced : (rs : List MemRec) → IsTrue (is_table rs) → IsTrue (is_table (unplaced rs))
is_table-unplaced rs valid = rw (first-unplaced rs, length-unplaced rs, are_records-unplaced rs) valid

-- no record of a filter is write-once
filter_none_once : (f : FilterMemory) (k : ℕ) → (record_at (filter_records f) k).attr ≡ WriteOnce → ⊥
filter_none_once f zero e = cc
filter_none_once f (suc zero) e = cc
filter_none_once f (suc (suc zero)) e = cc
filter_none_once f (suc (suc (suc k))) e = cc

pub none_once : (f : FilterMemory) (rs : List MemRec) → unplaced rs ≡ filter_records f → (k : ℕ) → (record_at rs k).attr ≡ WriteOnce → ⊥
none_once f rs e k once = filter_none_once f k (sym (attr_of rs (filter_records f) e k) ∙ once)

module _ (f : FilterMemory) (valid : IsTrue (is_table (filter_records f))) where
  some_kept : 1 ≤ f.kept
  some_kept = grind (arith, nat_tests)

  some_running : 1 ≤ f.running
  some_running = grind (arith, nat_tests)

  module _ (m : Lent) (kind : ℤ) (names : Names kind (filter_records f) m.table.now m.r0.now) where
    pub kept_at : length m.r1.now ≡ f.kept → NamedAt m Saram 1 kind (filter_records f)
    kept_at size = let some = some_kept in record {
      names = names;
      not_the_object = lit≤ tt;
      within = lit< tt;
      few = lit≤ tt;
      its_space = refl;
      lent = omega arith;
    }

    pub running_at : length m.r2.now ≡ f.running → NamedAt m Daram 2 kind (filter_records f)
    running_at size = let some = some_running in record {
      names = names;
      not_the_object = lit≤ tt;
      within = lit< tt;
      few = lit≤ tt;
      its_space = refl;
      lent = omega arith;
    }

module _ (kind : ℤ) (asked : Option FilterMemory) where
  module _ (m : Lent) (placed : IsPlaced kind asked m.table.now (lent_words m))
      (lent : AllLent m.table.now (lent_words m)) where
    size_at : (k : ℕ) → length (words_of (lent_words m) k) ≡ (record_at (filter_records placed.memory) k).size
    size_at k = lent_size m.table.now (filter_records placed.memory) placed.object.on_table (lent_words m) lent k

    pub running_size : length m.r2.now ≡ placed.memory.running
    running_size = size_at 2

    -- the kept words are found
    pub kept_named : NamedAt m Saram 1 kind (filter_records placed.memory)
    kept_named = kept_at placed.memory placed.valid m kind placed.object (size_at 1)

    -- the running words are found
    pub running_named : NamedAt m Daram 2 kind (filter_records placed.memory)
    running_named = running_at placed.memory placed.valid m kind placed.object running_size

  module _ (rs : List MemRec) where
    placed_same : (wss wss' : List (List ℤ)) → IsPlaced kind asked rs wss → words_of wss' 0 ≡ words_of wss 0 → IsPlaced kind asked rs wss'
    placed_same wss wss' placed e = record { memory = placed.memory; granted = placed.granted; valid = placed.valid; object = rw e placed.object; none_once = placed.none_once }

    -- what an idle instance keeps, it keeps whatever the scratch words are
    pub with_scratch : (rests : List ℤ → Type 0) (wss : List (List ℤ)) → IsIdle kind asked rests rs (lasting rs wss) → IsIdle kind asked rests rs wss
    with_scratch rests wss idle =
        let at = lasting_at rs (filter_records idle.placed.memory) idle.placed.object.on_table wss in
        record { placed = placed_same (lasting rs wss) wss idle.placed (sym (at 0)); keeps = subst rests (at 1) idle.keeps }

    pub without_scratch : (rests : List ℤ → Type 0) (wss : List (List ℤ)) → IsIdle kind asked rests rs wss → IsIdle kind asked rests rs (lasting rs wss)
    without_scratch rests wss idle =
        let at = lasting_at rs (filter_records idle.placed.memory) idle.placed.object.on_table wss in
        record { placed = placed_same wss (lasting rs wss) idle.placed (at 0); keeps = subst rests (sym (at 1)) idle.keeps }

    module _ (words : List ℤ) (wss wss' : List (List ℤ)) (placed : IsPlaced kind asked rs wss) where
      -- the kept words were written, and the instance is idle, or active
      pub rests_now : (rests : List ℤ → Type 0) → Rewritten 1 words wss wss' → rests words → IsIdle kind asked rests rs wss'
      rests_now rests w keeps = record {
        placed = placed_same wss wss' placed (w.others 0 (λ e. omega arith));
        keeps = subst rests (sym w.written) keeps;
      }

      pub kept_now : (runs : List ℤ → List ℤ → Type 0) → Rewritten 1 words wss wss' → runs words (words_of wss 2) → IsActive kind asked runs rs wss'
      kept_now runs w keeps =
          let same : runs (words_of wss' 1) (words_of wss 2) = subst (λ ws. runs ws (words_of wss 2)) (sym w.written) keeps in
          record {
            placed = placed_same wss wss' placed (w.others 0 (λ e. omega arith));
            keeps = subst (runs (words_of wss' 1)) (sym (w.others 2 (λ e. omega arith))) same;
          }

      -- the running words were written
      pub running_now : (runs : List ℤ → List ℤ → Type 0) → Rewritten 2 words wss wss' → runs (words_of wss 1) words → IsActive kind asked runs rs wss'
      running_now runs w keeps =
          let same : runs (words_of wss 1) (words_of wss' 2) = subst (runs (words_of wss 1)) (sym w.written) keeps in
          record {
            placed = placed_same wss wss' placed (w.others 0 (λ e. omega arith));
            keeps = subst (λ ws. runs ws (words_of wss' 2)) (sym (w.others 1 (λ e. omega arith))) same;
          }
