-- What a creation leaves is kept.
use Rattle.std.proofs.Common.{◌≡◌, ℕ, ℤ, ◌+◌, ◌-◌, ◌^◌, min, inl, inr, Bool, true, is_some, cond, IsTrue, List, [], Option, Some, None, Result, if◌then◌else◌, refl, sym, ◌∙◌, ap, subst}
use Rattle.std.proofs.lemmas.Bool.{or_left, true≢false}
use Rattle.std.proofs.lemmas.Option.{none-some}
use Rattle.std.proofs.lemmas.Bool.Decides.{eqb_tells}
use Rattle.mem_rec.specs.declared.MemRec.{MemRec}
use Rattle.mem_rec.specs.declared.Space.{Space}
use Rattle.mem_rec.specs.declared.Space.TheVariants.{Daram, Saram, External}
use Rattle.ialg.specs.Records.{unplaced}
use Rattle.ialg.specs.Meaning.{Meaning}
use Rattle.ialg.specs.History.{History}
use Rattle.ialg.specs.Laws.{Laws}
use Rattle.scratch_group.specs.declared.group.Group.{Group}
use Rattle.host_table.specs.declared.member.Member.{Member}
use Rattle.host_shared.specs.declared.locations.Locations.{Locations}
use Rattle.host_table.specs.Table.{slot_at, activity_at}
use Rattle.host_map.specs.Activity.{Activity, deactivated, with_at}
use Rattle.host_shared.specs.Locations.{shared_at}
use Rattle.host_table.specs.Refinement.{HistoriesRefine, SlotRefines, with_history}
use Rattle.host_map.specs.declared.parts.Sizes.{Sizes}
use Rattle.host_spaces.specs.declared.spaces.Spaces.{Spaces}
use Rattle.host_map.specs.Creation.{created_map, replaces}
use Rattle.host_spaces.specs.MemoryMap.{AreSameSpaces, copied_in, map_of, sizes_of, space_in}
use Rattle.host_map.specs.MemoryMap.{MemoryMap}
use Rattle.host_moves.proofs.OwnMoves.{same_sizes}
use Rattle.host_map.specs.Sharers.{asked, sharer_of}
use Rattle.host_table.specs.Sharers.{asked_by}
use Rattle.host_spec.specs.State.{Living, State, sharers_of}
use Rattle.host_moves.proofs.SharersKept.{sharers_same}
use Rattle.host_spec.specs.Choices.{MayAsk}
use Rattle.host_spec.specs.Steps.{created, newborn}
use Rattle.host_moves.specs.Refinement.{IsLiving, history_of}
use Rattle.host_moves.specs.Hosts.{ListsAndSpacesRefine}
use Rattle.host_moves.proofs.MovesKept.{still_living}
use Rattle.host_instances.specs.Growth.{activity_grown}
use Rattle.host_instances.specs.Ends.{OtherSlotsSame}
use Rattle.host_instances.specs.Started.{IsNewborn}

living_none : {M : Type 0} (slot : Option (Member M)) (x : Option (Living M)) → IsLiving slot x → slot ≡ None → x ≡ None
living_none None None is none = refl
living_none None (Some x) is none = absurd is
living_none (Some m) x is none = absurd (none-some _ (sym none))

living_some : {M : Type 0} (slot : Option (Member M)) (x : Option (Living M)) → IsLiving slot x → is_some slot ≡ true → (l : Living M) × (x ≡ Some l)
living_some None x is there = absurd (true≢false (sym there))
living_some (Some m) None is there = absurd is
living_some (Some m) (Some l) is there = (l, refl)

born : {M : Type 0} (g : ℕ) (kind : M) (p : List ℤ) (table : List MemRec) (slot : Option (Member M)) → IsNewborn g kind p table slot → IsLiving slot (Some (newborn kind g p table))
born g kind p table None is = absurd is
born g kind p table (Some m) is = record { kind = is.kind_is; params = is.params; table = is.table_is; group = is.group }

same_copied : (spaces spaces' : Spaces) → AreSameSpaces spaces spaces' → copied_in spaces' ≡ copied_in spaces
same_copied spaces spaces' same =
    ap (λ (n : ℕ). min (n + (space_in spaces' Saram).slid + (space_in spaces' External).slid) (2 ^ 64 - 1)) (same Daram).slid
    ∙ ap (λ (n : ℕ). min ((space_in spaces Daram).slid + n + (space_in spaces' External).slid) (2 ^ 64 - 1)) (same Saram).slid
    ∙ ap (λ (n : ℕ). min ((space_in spaces Daram).slid + (space_in spaces Saram).slid + n) (2 ^ 64 - 1)) (same External).slid

-- a lawful kind asked for the memory that it means
pub asks : {M : Type 0} (meaning : Meaning M) (w : Option ℤ) (kind : M) (p : List ℤ) (table : List MemRec) → MayAsk meaning w kind p (Some table)
    → (IsTrue (meaning.lawful kind p w) → unplaced table ≡ table) → IsTrue (meaning.lawful kind p w) → meaning.table kind p ≡ Some (unplaced table)
asks meaning w kind p table asked without lawful =
    sym (asked.told (or_left (meaning.lawful kind p w) (meaning.declares kind p) lawful)) ∙ ap Some (sym (without lawful))

module _ {M : Type 0} (laws : Laws M) (instances : List (Option (Member M))) (sharing : List Locations) (groups : List Group) (spaces : Spaces) (before : State M)
    (kept : ListsAndSpacesRefine laws instances sharing groups spaces before) (i g : ℕ) (kind : M) (p : List ℤ) (table : List MemRec) where
  pub is_free : slot_at instances i ≡ None → before.living i ≡ None
  is_free empty = living_none (slot_at instances i) (before.living i) (kept.tables.living i) empty

  pub is_taken : is_some (slot_at instances i) ≡ true → (l : Living M) × (before.living i ≡ Some l)
  is_taken there = living_some (slot_at instances i) (before.living i) (kept.tables.living i) there

  -- the sharers of what is asked for, among the instances in the slots
  abbrev sharers : ℕ → Option ℕ
  sharers = λ k. sharer_of laws.meaning.same (λ j. asked_by (slot_at instances j)) (asked kind p table) k

  sharers_are : sharers ≡ sharers_of laws.meaning before.living (newborn kind g p table)
  sharers_are t k = sharers_same laws.meaning instances before.living (newborn kind g p table) kept.tables.living k t

  -- the memory map is the machine's
  pub map_is : (r : Result MemoryMap Space) → created_map (sizes_of spaces) (map_of spaces) i g table sharers ≡ r
      → created_map before.sizes before.map i g table (sharers_of laws.meaning before.living (newborn kind g p table)) ≡ r
  map_is r e =
      ap (created_map before.sizes before.map i g table) (sym sharers_are)
      ∙ ap (λ (s : Sizes). created_map s before.map i g table sharers) (sym kept.sizes)
      ∙ ap (λ (q : MemoryMap). created_map (sizes_of spaces) q i g table sharers) (sym kept.map) ∙ e

  module _ (instances' : List (Option (Member M))) (sharing' : List Locations) (groups' : List Group) (spaces' : Spaces)
      (others : OtherSlotsSame i instances instances') (new : IsNewborn g kind p table (slot_at instances' i))
      (activity : (k : ℕ) → activity_at groups' k ≡ activity_grown (replaces (map_of spaces) g table) groups g k)
      (keeps : HistoriesRefine laws before.poison instances' sharing' groups' (with_history (λ j. history_of (before.living j)) i []))
      (stays : AreSameSpaces spaces spaces') where
    lives_now : (j : ℕ) → IsLiving (slot_at instances' j) (with_at before.living i (Some (newborn kind g p table)) j)
    lives_now j = elim (eqb_tells j i) [
      | inl here ↦
          subst (IsLiving (slot_at instances' j)) (sym (ap (λ (b : Bool). cond b (Some (newborn kind g p table)) (before.living j)) here.0))
          (rw here.1 (born g kind p table (slot_at instances' i) new))
      | inr apart ↦
          subst (IsLiving (slot_at instances' j)) (sym (ap (λ (b : Bool). cond b (Some (newborn kind g p table)) (before.living j)) apart.0))
          (still_living (slot_at instances j) (slot_at instances' j) (before.living j) (others j apart.1) (kept.tables.living j))
    ]

    all_activity : activity_at groups ≡ before.activity
    all_activity t k = kept.tables.activity k t

    active_now : (k : ℕ) → activity_at groups' k ≡ (if replaces before.map g table then with_at before.activity g (deactivated (before.activity g)) else before.activity) k
    active_now k =
        activity k
        ∙ ap (λ (q : MemoryMap). activity_grown (replaces q g table) groups g k) kept.map
        ∙ ap (λ (a : ℕ → Activity). cond (replaces before.map g table) (with_at a g (deactivated (a g))) a k) all_activity

    history_now : (j : ℕ) → with_history (λ l. history_of (before.living l)) i [] j ≡ history_of (with_at before.living i (Some (newborn kind g p table)) j)
    history_now j = elim (eqb_tells j i) [
      | inl here ↦
          ap (λ (b : Bool). cond b [] (history_of (before.living j))) here.0
          ∙ sym (ap (λ (b : Bool). history_of (cond b (Some (newborn kind g p table)) (before.living j))) here.0)
      | inr apart ↦
          ap (λ (b : Bool). cond b [] (history_of (before.living j))) apart.0
          ∙ sym (ap (λ (b : Bool). history_of (cond b (Some (newborn kind g p table)) (before.living j))) apart.0)
    ]

    pub created_kept : ListsAndSpacesRefine laws instances' sharing' groups' spaces' (created before i (newborn kind g p table) table (map_of spaces'))
    created_kept = record {
      tables = record {
        living = lives_now;
        activity = active_now;
        histories =
            (keeps.0, λ j. subst (λ (h : History). SlotRefines laws before.poison (slot_at instances' j) (shared_at sharing' j) groups' (record { history = h; calls = keeps.0 j })) (history_now j) (keeps.1 j));
      };
      map = refl;
      sizes = same_sizes spaces spaces' (λ space. (stays space).region) ∙ kept.sizes;
      copied = same_copied spaces spaces' stays ∙ kept.copied;
    }
