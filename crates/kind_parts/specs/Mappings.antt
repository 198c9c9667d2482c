-- Kinds that give one word for each sample, by the words in force alone.
use Rattle.std.specs.Prelude.{ℕ, ℤ, Bool, ◌≡◌, ◌≤◌, ◌==◌, ◌&&◌, nat_le, List, [], ◌∷◌, ◌++◌, length, Option, Some, None, IsTrue, bytes_eq, if◌then◌else◌}
use Rattle.mem_rec.specs.declared.TheConstants.{LEAST_ALIGNMENT}
use Rattle.ialg.specs.declared.TheConstants.{PARAMETER_WORDS}
use Rattle.ialg.specs.declared.filter.FilterMemory.{FilterMemory}
use Rattle.ialg.specs.History.{History, Sample, words_in_force, with_samples, outputs_by, IsWordHistory}
use Rattle.ialg.specs.Meaning.{accepts_set}
use Rattle.ialg.specs.Filters.{FilterMeaning}
use Rattle.kind_parts.specs.declared.mapping.TheConstants.{NO_WORDS}

-- what the newest sample gives: its value, by the words in force
abbrev pub gives_by_map : (List ℤ → ℤ → ℤ) → List ℤ → History → List ℤ
gives_by_map value p (Sample x ∷ h) = value (words_in_force p h) x ∷ []
gives_by_map value p _ = []

-- as many words are kept as there are parameters
abbrev pub mapping_memory : (List ℤ → Bool) → List ℤ → Option FilterMemory
mapping_memory taken p =
    if nat_le 1 (length p) && nat_le (length p) PARAMETER_WORDS && taken p
    then Some (record { kept = length p; running = NO_WORDS; align = LEAST_ALIGNMENT })
    else None

-- a `set` has as many words as there are parameters
abbrev pub mapping_filter : (List ℤ → Bool) → (List ℤ → ℤ → ℤ) → FilterMeaning
mapping_filter taken value = record {
  memory = mapping_memory taken;
  gives = gives_by_map value;
  accepts = λ p. accepts_set (λ words. length words == length p && taken words);
  got = words_in_force;
}

-- the one kind of this name
abbrev pub mapping_named : {K : Type 0} → List ℕ → K → List ℕ → Option K
mapping_named own kind name = if bytes_eq name own then Some kind else None

-- an instance, idle or active: its kept words are those in force
pub record Maps (taken : List ℤ → Bool) (p : List ℤ) (h : History) (kept : List ℤ) : Type 0 where
  pub history : IsWordHistory h
  pub few : length p ≤ PARAMETER_WORDS
  pub size : length kept ≡ length p
  pub takes : IsTrue (taken kept)
  pub in_force : kept ≡ words_in_force p h

-- a block was run
pub record MapsOn (taken : List ℤ → Bool) (value : List ℤ → ℤ → ℤ) (p : List ℤ) (h : History) (kept block ys : List ℤ) : Type 0 where
  pub keeps : Maps taken p (with_samples h block) kept
  pub outputs : outputs_by (gives_by_map value p) (with_samples h block) ≡ outputs_by (gives_by_map value p) h ++ ys
