-- What a host keeps, as plain values: who lives, which blocks stand where, and which member of each group is active.
use Rattle.std.specs.Prelude.{ℕ, ℤ, Bool, false, ◌&&◌, List, Option, Some, None, find, option_map, nat_lt, nat_eq}
use Rattle.std.specs.List.{list_any, range_with_len}
use Rattle.std.specs.Option.{option_eq}
use Rattle.std.specs.Cmp.Lexicographic.{pointwise}
use Rattle.std.specs.Ordering.{int_eq}
use Rattle.mem_rec.specs.declared.TheConstants.{INSTANCES, GROUPS}
use Rattle.mem_rec.specs.declared.MemRec.{MemRec}
use Rattle.ialg.specs.History.{History}
use Rattle.ialg.specs.Meaning.{Meaning}
use Rattle.ialg.specs.Records.{record_at}
use Rattle.host_map.specs.declared.parts.Sizes.{Sizes}
use Rattle.host_map.specs.MemoryMap.{MemoryMap, empty_map}
use Rattle.host_map.specs.Activity.{Activity}
use Rattle.host_map.specs.Sharers.{is_same_once}

-- an instance, as its creation named it, the memory that its kind asked for, and what it was given since then
pub record Living (M : Type 0) : Type 0 where
  pub kind : M
  pub params : List ℤ
  pub table : List MemRec
  pub group : ℕ
  pub history : History

pub record State (M : Type 0) : Type 0 where
  -- the instance of each number, none where there is none
  pub living : ℕ → Option (Living M)
  -- the blocks of each space
  pub map : MemoryMap
  -- the words of each space
  pub sizes : Sizes
  -- the poison word, if there is one
  pub poison : Option ℤ
  -- of each group the active member, and how often one was activated
  pub activity : ℕ → Activity
  -- the words that were moved, up to the greatest number
  pub copied : ℕ

-- a host without instances
abbrev pub new_state : {M : Type 0} → Sizes → Option ℤ → State M
new_state sizes poison =
    record { living = λ i. None; map = empty_map; sizes = sizes; poison = poison; activity = λ g. record { active = None; count = 0 }; copied = 0 }

abbrev pub is_instance_number : ℕ → Bool
is_instance_number i = nat_lt i INSTANCES

abbrev pub is_group_number : ℕ → Bool
is_group_number g = nat_lt g GROUPS

-- whether x shares record k with the other instance, if there is one: they are of one kind, with equal parameters, and record k of both is
-- write-once and the same
abbrev pub share : {M : Type 0} → Meaning M → ℕ → Living M → Option (Living M) → Bool
share kinds k x None = false
share kinds k x (Some y) = kinds.same x.kind y.kind && pointwise int_eq x.params y.params && is_same_once (record_at x.table k) (record_at y.table k)

-- for each record of an instance the least number of another one that shares its block
abbrev pub sharers_of : {M : Type 0} → Meaning M → (ℕ → Option (Living M)) → Living M → ℕ → Option ℕ
sharers_of kinds others x k = find (λ i. share kinds k x (others i)) (range_with_len 0 INSTANCES)

-- whether the group has a member
abbrev pub has_member : {M : Type 0} → (ℕ → Option (Living M)) → ℕ → Bool
has_member {M} living g = list_any (λ i. option_eq nat_eq (option_map (λ (x : Living M). x.group) (living i)) (Some g)) (range_with_len 0 INSTANCES)

-- ---- what laws of channels say

abbrev pub is_of_group : {M : Type 0} → ℕ → Option (Living M) → Bool
is_of_group g None = false
is_of_group g (Some x) = nat_eq x.group g
