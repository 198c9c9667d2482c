-- Which places of a region an owner has, as a mark for each place. There is one token for each place. No public clause speaks of it.
use Rattle.std.specs.Prelude.{ℕ, zero, suc, ◌+◌, Bool, true, false, List, [], ◌∷◌, replicate, ⊤}
use base.Fml.{Fml, ftrue, fsep}
use types.Keyed.{ticket}

-- the tokens of the marked places, where k is the first place
abbrev pub marked_own : ℕ → ℕ → List Bool → Fml
marked_own name k [] = ftrue
marked_own name k (true ∷ ms) = fsep (ticket name k) (marked_own name (k + 1) ms)
marked_own name k (false ∷ ms) = marked_own name (k + 1) ms

-- of these marks those of the n places from p on
abbrev pub within : ℕ → ℕ → List Bool → List Bool
within p n [] = []
within (suc p) n (m ∷ ms) = false ∷ within p n ms
within zero (suc n) (m ∷ ms) = m ∷ within zero n ms
within zero zero (m ∷ ms) = false ∷ within zero zero ms

-- of these marks those of all other places
abbrev pub outside : ℕ → ℕ → List Bool → List Bool
outside p n [] = []
outside (suc p) n (m ∷ ms) = m ∷ outside p n ms
outside zero (suc n) (m ∷ ms) = false ∷ outside zero n ms
outside zero zero (m ∷ ms) = m ∷ ms

-- the places that are marked in one of the two
abbrev pub union : List Bool → List Bool → List Bool
union [] ns = ns
union (m ∷ ms) [] = m ∷ ms
union (true ∷ ms) (n ∷ ns) = true ∷ union ms ns
union (false ∷ ms) (n ∷ ns) = n ∷ union ms ns

-- no place is marked in both
abbrev pub Disjoint : List Bool → List Bool → Type 0
Disjoint [] ns = ⊤
Disjoint (m ∷ ms) [] = ⊤
Disjoint (true ∷ ms) (true ∷ ns) = ⊥
Disjoint (true ∷ ms) (false ∷ ns) = Disjoint ms ns
Disjoint (false ∷ ms) (n ∷ ns) = Disjoint ms ns

-- the marks of the n places from p on, in a region of that size
abbrev pub range_marks : ℕ → ℕ → ℕ → List Bool
range_marks size p n = within p n (replicate size true)
