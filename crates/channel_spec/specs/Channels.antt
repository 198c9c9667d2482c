-- Channels over a host: lists of instances, each of which takes the output of the one before it.
use Rattle.std.specs.Prelude.{ℕ, Bool, true, false, ◌||◌, List, [], ◌∷◌, nat_eq, slice_index_or, replicate}
use Rattle.std.specs.List.{list_any}
use Rattle.host_spec.specs.State.{State}

pub record Channels (M : Type 0) : Type 0 where
  pub host : State M
  -- the members of each channel; one that isn't chained has none
  pub chained : List (List ℕ)

-- the members of a channel
abbrev pub members_at : List (List ℕ) → ℕ → List ℕ
members_at chained c = slice_index_or chained c []

-- so many channels over a host, none of which has members
abbrev pub unchained : {M : Type 0} → State M → ℕ → Channels M
unchained host count = record { host = host; chained = replicate count [] }

abbrev pub is_chained : List ℕ → Bool
is_chained [] = false
is_chained (i ∷ is) = true

-- whether an instance is a member of a channel
abbrev pub is_in_channel : List (List ℕ) → ℕ → Bool
is_in_channel chained i = list_any (list_any (nat_eq i)) chained

-- whether an instance is named twice
abbrev pub has_repeat : List ℕ → Bool
has_repeat [] = false
has_repeat (i ∷ is) = list_any (nat_eq i) is || has_repeat is

-- whether an instance is in a list, for laws and private clauses
abbrev pub has_number : List ℕ → ℕ → Bool
has_number is i = list_any (nat_eq i) is
