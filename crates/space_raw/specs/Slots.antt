-- Which words of a region are there, and which are away, as a map from places to words: a slot for each place, in order.
use Rattle.std.specs.Prelude.{◌≡◌, ℕ, ℤ, ◌+◌, ◌≤◌, List, [], ◌∷◌, ◌++◌, map, length, take, drop, replicate, Option, Some, None}

-- the words that are there
abbrev pub filled : List (Option ℤ) → List ℤ
filled [] = []
filled (Some w ∷ cs) = w ∷ filled cs
filled (None ∷ cs) = filled cs

-- the n words from the place on
abbrev pub run_of : List (Option ℤ) → ℕ → ℕ → List ℤ
run_of cs place n = filled (take n (drop place cs))

-- all of them are there
abbrev pub IsRun : List (Option ℤ) → ℕ → ℕ → Type 0
IsRun cs place n = (take n (drop place cs) ≡ map Some (run_of cs place n)) × (place + n ≤ length cs)

-- none of them is there
abbrev pub IsAway : List (Option ℤ) → ℕ → ℕ → Type 0
IsAway cs place n = take n (drop place cs) ≡ replicate n None

-- n words from the place on are away
abbrev pub without : List (Option ℤ) → ℕ → ℕ → List (Option ℤ)
without cs place n = take place cs ++ (replicate n None ++ drop (place + n) cs)

-- ws stand from the place on
abbrev pub with_run : List (Option ℤ) → ℕ → List ℤ → List (Option ℤ)
with_run cs place ws = take place cs ++ (map Some ws ++ drop (place + length ws) cs)
