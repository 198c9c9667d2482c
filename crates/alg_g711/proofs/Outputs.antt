-- Blocks of codes and samples.
use Rattle.std.proofs.Common.{◌≡◌, ◌≢◌, ℕ, suc, ℤ, pos, ◌+◌, ◌%◌, ◌<◌, Some, List, [], ◌∷◌, ◌++◌, length}
use Rattle.std.proofs.Common.{map, get_or, inl, inr, refl, sym, ap, subst, ◌∙◌, append_assoc, append-nil, FitsSigned, get_or-set_other, get_or-set_same, arith}
use Rattle.std.proofs.Math.ListN.{set}
use Rattle.std.proofs.lemmas.Bool.{cases_lt}
use Rattle.std.proofs.lemmas.List.{get_or_default}
use Rattle.std.specs.Int.{w16, cast_unsigned}
use Rattle.std.proofs.lemmas.List.FromFn.{length-map-range_with_len, get_or-map-range_with_len}
use Rattle.ialg.specs.History.{History, Sample, with_samples, word_at, outputs_by}
use Rattle.alg_g711.specs.declared.TheConstants.{CODES}
use Rattle.alg_g711.specs.declared.companding.Law.{Law}
use Rattle.alg_g711.specs.declared.coder.Direction.TheVariants.{Decode}
use Rattle.alg_g711.specs.declared.coder.Coder.{Coder}
use Rattle.alg_g711.specs.Companding.{decoded, samples_of_codes}
use Rattle.alg_g711.specs.Meaning.{coded, coder_named, given_by}

-- the sample of each code stands at its place
pub sample_at : (law : Law) (code : ℕ) → code < CODES → word_at (samples_of_codes law) code ≡ decoded law code
unfolding samples_of_codes
sample_at law code b = get_or-map-range_with_len (decoded law) 0 CODES code code (pos 0) b (omega arith)

pub length-samples_of_codes : (law : Law) → length (samples_of_codes law) ≡ CODES
unfolding samples_of_codes
length-samples_of_codes law = length-map-range_with_len (decoded law) 0 CODES

pub is_map : (f : ℤ → ℤ) (xs ys : List ℤ) → length ys ≡ length xs
    → ((k : ℕ) → k < length xs → word_at ys k ≡ f (word_at xs k)) → ys ≡ map f xs
is_map f [] [] e at = refl
is_map f [] (y ∷ ys) e at = absurd (omega arith)
is_map f (x ∷ xs) [] e at = absurd (omega arith)
is_map f (x ∷ xs) (y ∷ ys) e at =
    let first : y ≡ f x = at 0 (omega arith) in
    let rest = is_map f xs ys (omega arith) (λ k b. at (suc k) (omega arith)) in
    cc

-- a block gives one word for each of its samples
pub outputs-with_samples : (coder : Coder) (h : History) (xs : List ℤ)
    → outputs_by (given_by (Some coder)) (with_samples h xs)
    ≡ outputs_by (given_by (Some coder)) h ++ map (coded coder.law coder.direction) xs
outputs-with_samples coder h [] = sym (append-nil (outputs_by (given_by (Some coder)) h))
outputs-with_samples coder h (x ∷ xs) =
    let before = outputs_by (given_by (Some coder)) h in
    let y = coded coder.law coder.direction x in
    outputs-with_samples coder (Sample x ∷ h) xs ∙ append_assoc before (y ∷ []) (map (coded coder.law coder.direction) xs)

-- a sample by the samples of all codes
pub sample_by : (law : Law) (table : List ℤ) (x : ℤ) → table ≡ samples_of_codes law
    → word_at table (cast_unsigned w16 x % CODES) ≡ coded law Decode x
sample_by law table x e = ap (λ t. word_at t (cast_unsigned w16 x % CODES)) e ∙ sample_at law (cast_unsigned w16 x % CODES) (omega arith)

-- what a coder's block adds
pub outputs_of_block : (p : List ℤ) (coder : Coder) (h : History) (xs ys : List ℤ) → coder_named p ≡ Some coder
    → ys ≡ map (coded coder.law coder.direction) xs
    → outputs_by (given_by (coder_named p)) (with_samples h xs) ≡ outputs_by (given_by (coder_named p)) h ++ ys
outputs_of_block p coder h xs ys granted given = rw (granted, given) (outputs-with_samples coder h xs)

-- word k is written: what was so of each word before it is so of each up to it
pub more_written : (P : ℕ → ℤ → Type 0) (xs : List ℤ) (k : ℕ) (v : ℤ) → k < length xs → ((i : ℕ) → i < k → P i (word_at xs i)) → P k v
    → (i : ℕ) → i < k + 1 → P i (word_at (set xs k v) i)
more_written P xs k v inside before now i b = elim (cases_lt i k) [
  | inl lower ↦
      let other : i ≢ k = λ e. absurd (omega arith) in
      subst (P i) (sym (get_or-set_other xs k i v (pos 0) other)) (before i lower)
  | inr upper ↦
      let here : k ≡ i = omega arith in
      subst (λ j. P j (word_at (set xs k v) j)) here (subst (P k) (sym (get_or-set_same xs k v (pos 0) inside)) now)
]

-- word k is read
pub more_read : (xs : List ℤ) (k : ℕ) → k < length xs → FitsSigned w16 (word_at xs k) → ((i : ℕ) (d : ℤ) → i < k → FitsSigned w16 (get_or xs i d))
    → (i : ℕ) (d : ℤ) → i < k + 1 → FitsSigned w16 (get_or xs i d)
more_read xs k inside fits before i d b = elim (cases_lt i k) [
  | inl lower ↦ before i d lower
  | inr upper ↦
      let here : k ≡ i = omega arith in
      subst (λ j. FitsSigned w16 (get_or xs j d)) here (subst (FitsSigned w16) (get_or_default xs k (pos 0) d inside) fits)
]
