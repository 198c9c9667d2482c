-- What a deletion leaves is kept.
use Rattle.std.proofs.Common.{◌≡◌, ◌<◌, ◌+◌, ℕ, ℤ, suc, inl, inr, Bool, true, false, ◌||◌, cond, List, [], ◌∷◌, length, Option, Some, None, refl, ap, sym, ◌∙◌, subst, arith}
use Rattle.std.specs.Prelude.{nat_eq, IsSome, Ok, slice_index_or}
use Rattle.std.specs.List.{list_any, range_with_len}
use Rattle.std.proofs.lemmas.Bool.Decides.{eqb_tells}
use Rattle.mem_rec.specs.declared.TheConstants.{INSTANCES}
use Rattle.scratch_group.specs.declared.group.Group.{Group}
use Rattle.host_table.specs.declared.member.Member.{Member}
use Rattle.host_shared.specs.declared.locations.Locations.{Locations}
use Rattle.host_map.specs.Activity.{Activity, without_active, with_at}
use Rattle.host_table.specs.Table.{slot_at, group_of, is_member_of, activity_at}
use Rattle.host_shared.specs.Locations.{shared_at}
use Rattle.ialg.specs.Log.{Called}
use Rattle.host_table.specs.Refinement.{HistoriesRefine, SlotRefines}
use Rattle.host_spaces.specs.declared.spaces.Spaces.{Spaces}
use Rattle.host_map.specs.MemoryMap.{MemoryMap}
use Rattle.host_spaces.specs.MemoryMap.{map_of}
use Rattle.host_map.specs.Creation.{deleted_map}
use Rattle.host_spec.specs.State.{Living, State, has_member, sharers_of}
use Rattle.host_spec.specs.Steps.{Outcome, delete, without_instance}
use Rattle.host_spec.proofs.OutcomeLemmas.{delete_granted}
use Rattle.host_moves.specs.Refinement.{IsLiving, history_of}
use Rattle.host_moves.proofs.KeptLemmas.{Found, found}
use Rattle.host_moves.specs.Hosts.{ListsAndSpacesRefine}
use Rattle.host_moves.proofs.MovesKept.{still_living}
use Rattle.host_map.specs.Sharers.{Asked}
use Rattle.host_table.specs.Sharers.{asked_by}
use Rattle.std.specs.Option.{option_eq, option_map}
use Rattle.host_moves.proofs.SharersKept.{asked_of, asked_same, sharers_same}
use Rattle.host_instances.specs.Ends.{HasEnded, has_members, sharers_among}
use Rattle.ialg.specs.Laws.{Laws}

-- ---- whether a group has members

-- a test of the items is one of their numbers
any_numbered : {A : Type 0} (p : A → Bool) (q : ℕ → Bool) (d : A) (xs : List A) (a : ℕ) → ((j : ℕ) → j < length xs → p (slice_index_or xs j d) ≡ q (a + j))
    → list_any p xs ≡ list_any q (range_with_len a (length xs))
any_numbered p q d [] a same = refl
any_numbered p q d (x ∷ xs) a same =
    let here : a + 0 ≡ a = omega arith in
    let first : p x ≡ q a = same 0 (omega arith) ∙ ap q here in
    let rest = any_numbered p q d xs (a + 1) (λ j below.
    let less : suc j < suc (length xs) = omega (arith, below) in
    let next : a + suc j ≡ a + 1 + j = omega arith in
    same (suc j) less ∙ ap q next) in
    ap (λ b. b || list_any p xs) first ∙ ap (λ b. q a || b) rest

-- whether what lives, if anything, is of the group
abbrev is_of : {M : Type 0} → ℕ → Option (Living M) → Bool
is_of {M} g living = option_eq nat_eq (option_map (λ (x : Living M). x.group) living) (Some g)

same_group : {M : Type 0} (slot : Option (Member M)) (living : Option (Living M)) (g : ℕ) → IsLiving slot living → is_member_of g slot ≡ is_of g living
same_group None None g is = refl
same_group None (Some x) g is = absurd is
same_group (Some m) None g is = absurd is
same_group (Some m) (Some x) g is = ap (λ n. nat_eq n g) is.group

same_members : {M : Type 0} (instances : List (Option (Member M))) (living : ℕ → Option (Living M)) (g : ℕ) → length instances ≡ INSTANCES → ((j : ℕ) → IsLiving (slot_at instances j) (living j))
    → has_members instances g ≡ has_member living g
same_members instances living g count is =
    any_numbered (is_member_of g) (λ j. is_of g (living j)) None instances 0
    (λ j below. let here : j ≡ 0 + j = omega arith in same_group (slot_at instances j) (living j) g (is j) ∙ ap (λ n. is_of g (living n)) here)
    ∙ ap (λ n. list_any (λ j. is_of g (living j)) (range_with_len 0 n)) count

-- ---- the state without the instance

module _ {M : Type 0} (laws : Laws M) (i : ℕ)
    (instances instances' : List (Option (Member M))) (sharing sharing' : List Locations) (groups groups' : List Group) (spaces spaces' : Spaces) (before : State M)
    (kept : ListsAndSpacesRefine laws instances sharing groups spaces before)
    (ended : HasEnded laws before.poison i instances sharing groups spaces instances' sharing' groups' spaces')
    (its : Found (slot_at instances i) (before.living i)) where
  abbrev others : ℕ → Option (Living M)
  others = with_at before.living i None

  abbrev after : State M
  after = without_instance laws.meaning before i (Some its.instance)

  gone_at : (j : ℕ) → nat_eq j i ≡ true → others j ≡ None
  gone_at j same = ap (λ b. cond b None (before.living j)) same

  lives_at : (j : ℕ) → nat_eq j i ≡ false → others j ≡ before.living j
  lives_at j apart = ap (λ b. cond b None (before.living j)) apart

  living_after : (j : ℕ) → IsLiving (slot_at instances' j) (others j)
  living_after j =
      elim (eqb_tells j i) [
        | inl e ↦ rw (gone_at j e.0, e.1, ended.gone) tt
        | inr e ↦
            subst (IsLiving (slot_at instances' j)) (sym (lives_at j e.0))
            (still_living (slot_at instances j) (slot_at instances' j) (before.living j) (ended.others j e.1) (kept.tables.living j))
      ]

  group : group_of (slot_at instances i) ≡ its.instance.group
  group = ap group_of its.there ∙ its.is.group

  activity_after : (k : ℕ) → activity_at groups' k ≡ after.activity k
  activity_after k =
      let g = its.instance.group in
      ended.activity k
      ∙ ap (λ n. with_at (activity_at groups) n (without_active i (activity_at groups n)) k) group
      ∙ ap (λ (a : Activity). with_at (activity_at groups) g (without_active i a) k) (kept.tables.activity g)
      ∙ ap (λ (a : Activity). cond (nat_eq k g) (without_active i (before.activity g)) a) (kept.tables.activity k)

  histories_after : HistoriesRefine laws before.poison instances' sharing' groups' (λ j. history_of (others j))
  histories_after = (calls, each)
    where
      now : HistoriesRefine laws before.poison instances' sharing' groups' (λ k. history_of (before.living k))
      now = ended.keeps (λ k. history_of (before.living k)) kept.tables.histories

      calls : ℕ → List Called
      calls = now.0

      each : (j : ℕ) → SlotRefines laws before.poison (slot_at instances' j) (shared_at sharing' j) groups' (record { history = history_of (others j); calls = calls j })
      each j =
          elim (eqb_tells j i) [
            | inl e ↦
                subst (λ slot. SlotRefines laws before.poison slot (shared_at sharing' j) groups' (record { history = history_of (others j); calls = calls j }))
                (sym (ap (slot_at instances') e.1 ∙ ended.gone)) tt
            | inr e ↦
                subst (λ living. SlotRefines laws before.poison (slot_at instances' j) (shared_at sharing' j) groups' (record { history = history_of living; calls = calls j })) (sym (lives_at j e.0))
                (now.1 j)
          ]

  asked_is : asked_by (slot_at instances i) ≡ Some (asked_of its.instance)
  asked_is = asked_same (slot_at instances i) (before.living i) (kept.tables.living i) ∙ ap (option_map asked_of) its.lives

  sharers_after : sharers_among laws.meaning.same instances' (asked_by (slot_at instances i)) ≡ sharers_of laws.meaning others its.instance
  sharers_after t k = sharer_after k t
    where
      sharer_after : (k : ℕ) → sharers_among laws.meaning.same instances' (asked_by (slot_at instances i)) k ≡ sharers_of laws.meaning others its.instance k
      sharer_after k = ap (λ (x : Option (Asked M)). sharers_among laws.meaning.same instances' x k) asked_is ∙ sharers_same laws.meaning instances' others its.instance living_after k

  map_after : map_of spaces' ≡ after.map
  map_after =
      let g = its.instance.group in
      let sharers = sharers_among laws.meaning.same instances' (asked_by (slot_at instances i)) in
      ended.map
      ∙ ap (λ n. deleted_map (has_members instances' n) (map_of spaces) i n sharers) group
      ∙ ap (λ b. deleted_map b (map_of spaces) i g sharers) (same_members instances' others g ended.ok.slot_count living_after)
      ∙ ap (λ (p : MemoryMap). deleted_map (has_member others g) p i g sharers) kept.map
      ∙ ap (deleted_map (has_member others g) before.map i g) sharers_after

  kept_after : ListsAndSpacesRefine laws instances' sharing' groups' spaces' after
  kept_after = record {
    tables = record { living = living_after; activity = activity_after; histories = histories_after };
    map = map_after;
    sizes = ended.sizes ∙ kept.sizes;
    copied = ended.copied ∙ kept.copied;
  }

-- the deletion is the machine's, in a host of poison word w
pub deleted_kept : {M : Type 0} (laws : Laws M) (i : ℕ) (w : Option ℤ)
    (instances instances' : List (Option (Member M))) (sharing sharing' : List Locations) (groups groups' : List Group) (spaces spaces' : Spaces) (before : State M)
    → i < INSTANCES → IsSome (slot_at instances i) → HasEnded laws w i instances sharing groups spaces instances' sharing' groups' spaces'
    → before.poison ≡ w → ListsAndSpacesRefine laws instances sharing groups spaces before
    → (after : State M) × ◌≡◌ {A = Outcome (State M) (Unit {0})} (Ok tt, after) (delete laws.meaning before i) × ListsAndSpacesRefine laws instances' sharing' groups' spaces' after
deleted_kept laws i w instances instances' sharing sharing' groups groups' spaces spaces' before below some ended e kept =
    let its = found (slot_at instances i) (before.living i) some (kept.tables.living i) in
    let here = subst (λ v. HasEnded laws v i instances sharing groups spaces instances' sharing' groups' spaces') (sym e) ended in (
      without_instance laws.meaning before i (Some its.instance),
      sym (delete_granted before laws.meaning i its.instance below its.lives),
      kept_after laws i instances instances' sharing sharing' groups groups' spaces spaces' before kept here its,
    )
