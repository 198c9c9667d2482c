-- The end of an instance.
use Rattle.std.specs.Prelude.{◌≡◌, ◌≢◌, ℕ, ℤ, Bool, List, Option, Some, None}
use Rattle.std.specs.List.{list_any}
use Rattle.ialg.specs.History.{History}
use Rattle.ialg.specs.Laws.{Laws}
use Rattle.scratch_group.specs.declared.group.Group.{Group}
use Rattle.host_table.specs.declared.member.Member.{Member}
use Rattle.host_shared.specs.declared.locations.Locations.{Locations}
use Rattle.host_table.specs.Table.{slot_at, group_of, is_member_of, deactivated_by, TablesOk, ArePoisoned, ActivitiesAre}
use Rattle.host_map.specs.Sharers.{Asked, sharer_of}
use Rattle.host_table.specs.Sharers.{asked_by}
use Rattle.host_table.specs.Refinement.{HistoriesRefine}
use Rattle.host_table.specs.View.{View}
use Rattle.host_spaces.specs.declared.spaces.Spaces.{Spaces}
use Rattle.host_spaces.specs.MemoryMap.{copied_in, map_of, sizes_of}
use Rattle.host_map.specs.Creation.{deleted_map}
use Rattle.host_moves.specs.Standing.{AgreeWithMap, SlotIsSame}

-- whether a slot has a member of the group
abbrev pub has_members : {M : Type 0} → List (Option (Member M)) → ℕ → Bool
has_members instances g = list_any (is_member_of g) instances

-- for each record of what was asked for the least number of an instance in the slots that shares it
abbrev pub sharers_among : {M : Type 0} → (M → M → Bool) → List (Option (Member M)) → Option (Asked M) → ℕ → Option ℕ
sharers_among same instances None k = None
sharers_among same instances (Some x) k = sharer_of same (λ j. asked_by (slot_at instances j)) x k

-- each other slot has the instance that it had, in its state
abbrev pub OtherSlotsSame : {M : Type 0} → ℕ → List (Option (Member M)) → List (Option (Member M)) → Type 0
OtherSlotsSame i old new = (j : ℕ) → j ≢ i → SlotIsSame (slot_at old j) (slot_at new j)

-- instance i was ended in a host of this poison word or of none: each other instance is the same, in its state, and keeps its history
pub record HasEnded {M : Type 0} (laws : Laws M) (w : Option ℤ) (i : ℕ)
    (instances : List (Option (Member M))) (sharing : List Locations) (groups : List Group) (spaces : Spaces)
    (instances' : List (Option (Member M))) (sharing' : List Locations) (groups' : List Group) (spaces' : Spaces) : Type 0 where
  pub ok : TablesOk instances' sharing' groups'
  pub standing : AgreeWithMap instances' sharing' groups' spaces'
  pub poisoned : ArePoisoned w groups'
  pub gone : slot_at instances' i ≡ None
  pub others : OtherSlotsSame i instances instances'
  -- it is active no more, where it was
  pub activity : ActivitiesAre groups' (deactivated_by instances groups i)
  -- what it shared is its least sharer's, its other records are gone, and its group's blocks where no member is left
  pub map : let g = group_of (slot_at instances i) in
      map_of spaces' ≡ deleted_map (has_members instances' g) (map_of spaces) i g (sharers_among laws.meaning.same instances' (asked_by (slot_at instances i)))
  pub sizes : sizes_of spaces' ≡ sizes_of spaces
  pub copied : copied_in spaces' ≡ copied_in spaces
  pub keeps : (histories : ℕ → History) → HistoriesRefine laws w instances sharing groups histories
      → HistoriesRefine laws w instances' sharing' groups' histories

-- the same, of all that the tables hold
abbrev pub InstanceHasEnded : {M : Type 0} → Laws M → Option ℤ → ℕ → View M → Spaces → View M → Spaces → Type 0
InstanceHasEnded laws w i old spaces new spaces' = HasEnded laws w i old.instances old.sharing old.groups spaces new.instances new.sharing new.groups spaces'
