-- The sharers of a write-once record are told one after the other.
use Rattle.std.proofs.Common.{◌≡◌, ◌≢◌, ℕ, ◌+◌, ◌<◌, ◌⊎◌, zero, suc, Bool, true, false, inl, inr, List, [], ◌∷◌, Option, Some, None, set, nat_eq, nat_lt, refl, sym, ◌∙◌, ap, if◌then◌else◌, ◌≤◌, arith}
use Rattle.std.proofs.lemmas.Bool.{true≢false, lt-ltb, le-ltb}
use Rattle.std.proofs.lemmas.Bool.Decides.{leb_tells, eqb_tells}
use Rattle.scratch_group.specs.declared.group.Group.{Group}
use Rattle.lifecycle.specs.declared.instance.Inst.{Inst}
use Rattle.lifecycle.specs.declared.instance.Inst.TheVariants.{Idling, Running}
use Rattle.lifecycle.specs.Moves.{restored}
use Rattle.mem_rec.specs.declared.TheConstants.{INSTANCES}
use Rattle.host_table.specs.declared.member.Member.{Member}
use Rattle.host_shared.specs.declared.locations.Location.{Location}
use Rattle.host_shared.specs.declared.locations.Location.TheVariants.{Here, At}
use Rattle.host_shared.specs.declared.locations.Locations.{Locations}
use Rattle.host_shared.specs.Locations.{location_at, locations_at, owner_by, owner_of}
use Rattle.host_shared.specs.Sharing.{AreLeast}
use Rattle.host_shared.specs.Owners.{IsSameLocation, SameLocations}
use Rattle.host_table.specs.Table.{slot_at, own_of, instance_of, TablesOk}
use Rattle.host_table.proofs.Changes.{slot_in}
use Rattle.host_table.proofs.Leasts.{owner_same}
use Rattle.host_moves.specs.Waiting.{inst_with, slot_with, own_set, all_but, all_from, holds_with, IsWaiting, IsWaitingBut, TablesWaiting, TablesWaitingBut}
use Rattle.host_moves.proofs.Owns.{tables_map}

-- pieces that are put where they are
inst_as_it_is : {M : Type 0} (inst : Inst M) → inst_with inst (instance_of inst).own ≡ inst
inst_as_it_is (Idling s) = refl
inst_as_it_is (Running s) = refl

slot_as_it_is : {M : Type 0} (slot : Option (Member M)) → slot_with slot (own_of slot) ≡ slot
slot_as_it_is None = refl
slot_as_it_is (Some m) = ap (λ (inst : Inst _). Some (record m { inst = inst })) (inst_as_it_is m.inst)

set_as_it_is : {M : Type 0} (instances : List (Option (Member M))) (i : ℕ) → set instances i (slot_at instances i) ≡ instances
set_as_it_is [] i = refl
set_as_it_is (x ∷ xs) zero = refl
set_as_it_is (x ∷ xs) (suc i) = ap (λ (l : List _). x ∷ l) (set_as_it_is xs i)

-- where no piece comes back, the slots are as they were
pub none_back : {M : Type 0} (instances : List (Option (Member M))) (i : ℕ) → own_set instances i (restored None (own_of (slot_at instances i))) ≡ instances
none_back instances i = ap (set instances i) (slot_as_it_is (slot_at instances i)) ∙ set_as_it_is instances i

pub holds_same : (sharing sharing' : List Locations) (i k j : ℕ) → SameLocations sharing sharing' → holds_with sharing' i k j ≡ holds_with sharing i k j
holds_same sharing sharing' i k j same = ap (λ (x : ℕ). nat_eq x i) (owner_same j (location_at (locations_at sharing j) k) (location_at (locations_at sharing' j) k) (same j k))

-- who waits
pub waits_map : {M : Type 0} (w v : ℕ → Bool) (instances : List (Option (Member M))) (sharing : List Locations) (groups : List Group) → ((j : ℕ) → w j ≡ v j)
    → TablesWaiting w instances sharing groups → TablesWaiting v instances sharing groups
waits_map w v instances sharing groups same waiting =
    tables_map (IsWaiting w) (IsWaiting v) instances sharing groups (λ j m o y h. record { told = λ e. h.told (same j ∙ e); room = λ e. h.room (same j ∙ e) }) waiting

pub ltb_tells : (a b : ℕ) → ((nat_lt a b ≡ true) × (a < b)) ⊎ ((nat_lt a b ≡ false) × (b ≤ a))
ltb_tells a b =
    elim (leb_tells b a) [
      | inl h ↦ inr (le-ltb a b h.1, h.1)
      | inr h ↦ inl (lt-ltb a b h.1, h.1)
    ]

pub not_equal : (a b : ℕ) → a ≢ b → nat_eq a b ≡ false
not_equal a b apart =
    elim (eqb_tells a b) [
      | inl h ↦ absurd (apart h.1)
      | inr h ↦ h.0
    ]

owner_by_below : (l : ℕ) (s : Location) → ((owner : ℕ) → s ≡ At owner → owner < l) → owner_by l s ≤ l
owner_by_below l (Here p) least = omega arith
owner_by_below l (At owner) least = let less = least owner refl in omega (arith, less)

-- an owner has the least number
pub owner_below : (sharing : List Locations) → AreLeast sharing → (l k : ℕ) → owner_of sharing l k ≤ l
owner_below sharing least l k = owner_by_below l (location_at (locations_at sharing l) k) (least l k)

pub from_here : (waits : ℕ → Bool) (n : ℕ) → all_from waits n n ≡ waits n
from_here waits n = rw (le-ltb n n (omega arith)) refl

from_next : (waits : ℕ → Bool) (n j : ℕ) → j ≢ n → all_from waits n j ≡ all_from waits (n + 1) j
from_next waits n j apart =
    elim (ltb_tells j n) [
      | inl e ↦ rw (e.0, lt-ltb j (n + 1) (omega (arith, e.1))) refl
      | inr e ↦ rw (e.0, le-ltb j (n + 1) (omega (arith, e.1, apart))) refl
    ]

next_of : (waits : ℕ → Bool) (n j : ℕ) → all_but (all_from waits n) n j ≡ all_from waits (n + 1) j
next_of waits n j =
    elim (eqb_tells j n) [
      | inl e ↦ rw (e.0, lt-ltb j (n + 1) (omega (arith, e.1))) refl
      | inr e ↦ rw e.0 (from_next waits n j e.1)
    ]

pub all_wait : {M : Type 0} (waits : ℕ → Bool) (instances : List (Option (Member M))) (sharing : List Locations) (groups : List Group) → TablesWaiting waits instances sharing groups → TablesWaiting (all_from waits 0) instances sharing groups
all_wait waits instances sharing groups waiting = waits_map waits (all_from waits 0) instances sharing groups (λ j. rw (le-ltb j 0 (omega arith)) refl) waiting

pub none_waits : {M : Type 0} (waits : ℕ → Bool) (instances : List (Option (Member M))) (sharing : List Locations) (groups : List Group) (n : ℕ) → INSTANCES ≤ n → TablesWaiting (all_from waits n) instances sharing groups → TablesOk instances sharing groups
none_waits waits instances sharing groups n all waiting = record {
  slot_count = waiting.slot_count;
  sharing_count = waiting.sharing_count;
  group_count = waiting.group_count;
  held = waiting.held;
  bare = waiting.bare;
  group_range = waiting.group_range;
  housed = λ j m at.
      let inside = slot_in instances j m at in
      (waiting.housed j m at).told (rw (lt-ltb j n (omega (arith, inside, waiting.slot_count, all))) refl);
  active_there = waiting.active_there;
  active_known = waiting.active_known;
}

from_past : (waits : ℕ → Bool) (n n' j : ℕ) → n ≤ n' → ((l : ℕ) → n ≤ l → l < n' → waits l ≡ false) → all_from waits n j ≡ all_from waits n' j
from_past waits n n' j behind none =
    elim (ltb_tells j n) [
      | inl e ↦ rw (e.0, lt-ltb j n' (omega (arith, e.1, behind))) refl
      | inr e ↦ elim (ltb_tells j n') [
        | inl f ↦ rw (e.0, f.0) (none j e.1 f.1)
        | inr f ↦ rw (e.0, f.0) refl
      ]
    ]

-- none of those that were passed over waits
pub passed_over : {M : Type 0} (waits : ℕ → Bool) (instances : List (Option (Member M))) (sharing : List Locations) (groups : List Group) (n n' : ℕ) → n ≤ n' → ((l : ℕ) → n ≤ l → l < n' → waits l ≡ false)
    → TablesWaiting (all_from waits n) instances sharing groups → TablesWaiting (all_from waits n') instances sharing groups
passed_over waits instances sharing groups n n' behind none waiting =
    waits_map (all_from waits n) (all_from waits n') instances sharing groups (λ j. from_past waits n n' j behind none) waiting

module _ {M : Type 0} (i k n : ℕ) (instances : List (Option (Member M))) (sharing : List Locations) (groups : List Group) where
  pub but_this : (waits : ℕ → Bool) → TablesWaiting waits instances sharing groups → TablesWaitingBut waits n instances sharing groups
  but_this waits waiting = tables_map (IsWaiting waits) (IsWaitingBut waits n) instances sharing groups (λ j m o y h apart. h) waiting

  -- the next one doesn't wait
  pub nobody_told : ((m : Member M) → slot_at instances n ≡ Some m → holds_with sharing i k n ≡ false) → TablesWaiting (all_from (holds_with sharing i k) n) instances sharing groups
      → TablesWaiting (all_from (holds_with sharing i k) (n + 1)) instances sharing groups
  nobody_told none waiting = record {
    slot_count = waiting.slot_count;
    sharing_count = waiting.sharing_count;
    group_count = waiting.group_count;
    held = waiting.held;
    bare = waiting.bare;
    group_range = waiting.group_range;
    housed = λ j m at.
        let before = waiting.housed j m at in
        elim (eqb_tells j n) [
          | inr e ↦ record { told = λ h. before.told (from_next (holds_with sharing i k) n j e.1 ∙ h); room = λ h. before.room (from_next (holds_with sharing i k) n j e.1 ∙ h) }
          | inl e ↦
              let now : all_from (holds_with sharing i k) (n + 1) j ≡ false = rw (lt-ltb j (n + 1) (omega (arith, e.1))) refl in
              record {
                told = λ h. before.told (rw e.1 (from_here (holds_with sharing i k) n ∙ none m (rw e.1 at at)));
                room = λ h. absurd (true≢false (sym h ∙ now));
              }
        ];
    active_there = waiting.active_there;
    active_known = waiting.active_known;
  }

  -- it was told
  pub next_told : (instances' : List (Option (Member M))) (sharing' : List Locations) (groups' : List Group) → SameLocations sharing sharing' → TablesWaiting (all_but (all_from (holds_with sharing i k) n) n) instances' sharing' groups'
      → TablesWaiting (all_from (holds_with sharing' i k) (n + 1)) instances' sharing' groups'
  next_told instances' sharing' groups' same waiting =
      waits_map (all_but (all_from (holds_with sharing i k) n) n) (all_from (holds_with sharing' i k) (n + 1)) instances' sharing' groups'
      (λ j. next_of (holds_with sharing i k) n j ∙ by_test (nat_lt j (n + 1)) (holds_with sharing i k j) (holds_with sharing' i k j) (sym (holds_same sharing sharing' i k j same))) waiting
    where
      by_test : (t a b : Bool) → a ≡ b → (if t then false else a) ≡ (if t then false else b)
      by_test true a b e = refl
      by_test false a b e = e
