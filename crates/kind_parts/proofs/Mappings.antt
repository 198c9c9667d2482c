-- A run over a block goes on with what each sample gives.
use Rattle.std.proofs.Common.{◌≡◌, ◌≢◌, ◌+◌, ℕ, ℤ, pos, suc, ◌<◌, ◌≤◌, Bool, ◌&&◌, nat_le, List, [], ◌∷◌, ◌++◌, length, map, Some, FitsSigned, inl, inr, refl, sym, ap, subst, ◌∙◌, append_assoc, append-nil, get_or-set_other, get_or-set_same, arith, true}
use Rattle.std.proofs.Math.ListN.{set}
use Rattle.std.proofs.lemmas.Bool.{cases_lt}
use Rattle.std.specs.List.{All}
use Rattle.std.proofs.lemmas.Bool.Decides.{nat_tests}
use Rattle.std.specs.Int.{w16}
use Rattle.mem_rec.specs.declared.TheConstants.{LEAST_ALIGNMENT}
use Rattle.ialg.specs.declared.TheConstants.{PARAMETER_WORDS}
use Rattle.ialg.specs.declared.filter.FilterMemory.{FilterMemory}
use Rattle.ialg.specs.History.{History, Sample, with_samples, word_at, words_in_force, outputs_by}
use Rattle.ialg.proofs.Tables.{chosen}
use Rattle.ialg.proofs.Histories.{words_in_force-with_samples, IsWordHistory-with_samples}
use Rattle.kind_parts.specs.declared.mapping.TheConstants.{NO_WORDS}
use Rattle.kind_parts.specs.Mappings.{gives_by_map, mapping_memory, Maps, MapsOn}

-- word k is written: what was so of each word before it is so of each up to it
pub written_more : (P : ℕ → ℤ → Type 0) (xs : List ℤ) (k : ℕ) (v : ℤ) → k < length xs → ((i : ℕ) → i < k → P i (word_at xs i)) → P k v
    → (i : ℕ) → i < k + 1 → P i (word_at (set xs k v) i)
written_more P xs k v inside before now i b = elim (cases_lt i k) [
  | inl lower ↦
      let other : i ≢ k = λ e. absurd (omega arith) in
      subst (P i) (sym (get_or-set_other xs k i v (pos 0) other)) (before i lower)
  | inr upper ↦
      let here : k ≡ i = omega arith in
      subst (λ j. P j (word_at (set xs k v) j)) here (subst (P k) (sym (get_or-set_same xs k v (pos 0) inside)) now)
]

-- words that are the values of others are their map
is_map : (f : ℤ → ℤ) (xs ys : List ℤ) → length ys ≡ length xs → ((k : ℕ) → k < length xs → word_at ys k ≡ f (word_at xs k)) → ys ≡ map f xs
is_map f [] [] e at = refl
is_map f [] (y ∷ ys) e at = absurd (omega arith)
is_map f (x ∷ xs) [] e at = absurd (omega arith)
is_map f (x ∷ xs) (y ∷ ys) e at =
    let first : y ≡ f x = at 0 (omega arith) in
    let rest = is_map f xs ys (omega arith) (λ k b. at (suc k) (omega arith)) in
    cc

module _ (value : List ℤ → ℤ → ℤ) (p kept : List ℤ) where
  -- a block gives the value of each sample, by the words in force, which samples leave as they are
  gives_all : (xs : List ℤ) (h : History) → kept ≡ words_in_force p h
      → outputs_by (gives_by_map value p) (with_samples h xs) ≡ outputs_by (gives_by_map value p) h ++ map (value kept) xs
  gives_all [] h e = sym (append-nil (outputs_by (gives_by_map value p) h))
  gives_all (x ∷ xs) h e =
      let before = outputs_by (gives_by_map value p) h in
      gives_all xs (Sample x ∷ h) e
      ∙ append_assoc before (value (words_in_force p h) x ∷ []) (map (value kept) xs)
      ∙ ap (λ ws. before ++ (value ws x ∷ map (value kept) xs)) (sym e)

-- the whole block was run
pub maps_on : (taken : List ℤ → Bool) (value : List ℤ → ℤ → ℤ) (p : List ℤ) (h : History) (kept xs ys : List ℤ) → Maps taken p h kept → length ys ≡ length xs
    → ((k : ℕ) → k < length xs → word_at ys k ≡ value kept (word_at xs k)) → All (FitsSigned w16) xs → MapsOn taken value p h kept xs ys
maps_on taken value p h kept xs ys keeps many values fit =
    let all = is_map (value kept) xs ys many values in
    record {
      keeps = record {
        history = IsWordHistory-with_samples h xs keeps.history fit;
        few = keeps.few;
        size = keeps.size;
        takes = keeps.takes;
        in_force = keeps.in_force ∙ sym (words_in_force-with_samples p h xs);
      };
      outputs = gives_all value p kept xs h keeps.in_force ∙ ap (λ zs. outputs_by (gives_by_map value p) h ++ zs) (sym all);
    }

-- which parameters are taken, and what is asked for then
pub record IsAsked (taken : List ℤ → Bool) (p : List ℤ) (m : FilterMemory) : Type 0 where
  pub few : length p ≤ PARAMETER_WORDS
  pub takes : taken p ≡ true
  pub memory : m ≡ record { kept = length p; running = NO_WORDS; align = LEAST_ALIGNMENT }
