-- What is left of a table of empty slots when its last entry is taken off.
use Rattle.std.proofs.Common.{◌≡◌, ℕ, List, [], ◌∷◌, ◌++◌, Option, None, refl}
use Rattle.host_table.specs.declared.member.Member.{Member}
use Rattle.host_table.specs.Table.{slot_at}
use Rattle.host_shared.proofs.Ends.{last_of, front_of}

pub last_empty : {M : Type 0} (xs : List (Option (Member M))) (last : Option (Member M)) → ((i : ℕ) → slot_at (xs ++ last ∷ []) i ≡ None) → last ≡ None
last_empty {M = M} xs last all = last_of None (λ (x : Option (Member M)). x ≡ None) xs last all

pub front_empty : {M : Type 0} (xs : List (Option (Member M))) (last : Option (Member M)) → ((i : ℕ) → slot_at (xs ++ last ∷ []) i ≡ None) → (i : ℕ) → slot_at xs i ≡ None
front_empty {M = M} xs last all = front_of None (λ (x : Option (Member M)). x ≡ None) xs last refl all
