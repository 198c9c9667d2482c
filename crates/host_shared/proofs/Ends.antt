-- What is left of a table when its last entry is taken off.
use Rattle.std.proofs.Common.{ℕ, zero, suc, List, [], ◌∷◌, ◌++◌, slice_index_or}

-- what holds of each entry holds of the last, and of each of the others
pub last_of : {A : Type 0} (d : A) (P : A → Type 0) (xs : List A) (last : A) → ((i : ℕ) → P (slice_index_or (xs ++ last ∷ []) i d)) → P last
last_of d P [] last all = all 0
last_of d P (x ∷ xs) last all = last_of d P xs last (λ i. all (suc i))

pub front_of : {A : Type 0} (d : A) (P : A → Type 0) (xs : List A) (last : A) → P d → ((i : ℕ) → P (slice_index_or (xs ++ last ∷ []) i d)) → (i : ℕ) → P (slice_index_or xs i d)
front_of d P [] last none all i = none
front_of d P (x ∷ xs) last none all zero = all 0
front_of d P (x ∷ xs) last none all (suc i) = front_of d P xs last none (λ k. all (suc k)) i

-- and with one entry more
pub one_more : {A : Type 0} (d : A) (P : A → Type 0) (xs : List A) (last : A) → P d → P last → ((i : ℕ) → P (slice_index_or xs i d)) → (i : ℕ) → P (slice_index_or (xs ++ last ∷ []) i d)
one_more d P [] last none new all zero = new
one_more d P [] last none new all (suc i) = none
one_more d P (x ∷ xs) last none new all zero = all 0
one_more d P (x ∷ xs) last none new all (suc i) = one_more d P xs last none new (λ k. all (suc k)) i
