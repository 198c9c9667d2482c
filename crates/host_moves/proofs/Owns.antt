-- The pieces of one instance change.
use Rattle.std.proofs.Common.{◌≡◌, ◌≢◌, ℕ, ◌<◌, zero, suc, inl, inr, Bool, List, [], ◌∷◌, length, Option, Some, None, set, get_or-set_other, refl, sym, ◌∙◌, ap, subst, arith}
use Rattle.std.proofs.lemmas.List.{length-set}
use Rattle.std.proofs.lemmas.Bool.Decides.{eqb_tells}
use Rattle.std.proofs.lemmas.Option.{none-some, same_Some}
use Rattle.space_raw.specs.Span.{Span}
use Rattle.mem_rec.specs.declared.Space.{Space}
use Rattle.record_loans.specs.declared.pieces.Pieces.{Pieces}
use Rattle.record_loans.specs.Pieces.{SamePieces}
use Rattle.record_loans.specs.Blocks.{IsSameBlock}
use Rattle.scratch_group.specs.declared.group.Group.{Group}
use Rattle.scratch_group.specs.Blocks.{block_in}
use Rattle.lifecycle.specs.declared.instance.Instance.{Instance}
use Rattle.lifecycle.specs.declared.instance.Inst.{Inst}
use Rattle.lifecycle.specs.declared.instance.Inst.TheVariants.{Idling, Running}
use Rattle.lifecycle.specs.Moves.{restored, HasRoom}
use Rattle.record_loans.proofs.PieceLemmas.{same_pieces}
use Rattle.lifecycle.proofs.Frames.{same_group}
use Rattle.mem_rec.specs.declared.TheConstants.{GROUPS}
use Rattle.host_table.specs.declared.member.Member.{Member}
use Rattle.host_shared.specs.declared.locations.Location.{Location}
use Rattle.host_shared.specs.declared.locations.Locations.{Locations}
use Rattle.host_shared.specs.Locations.{location_at, locations_at, shared_at}
use Rattle.host_table.specs.Table.{slot_at, group_at, instance_of, active_in, slot_active_in, activity_at, IsHoused, EachIsHoused, AreAlike, IsSharer, AreHeld, AreBare, Tables, TablesOk, TablesTold}
use Rattle.host_map.specs.Activity.{Activity}
use Rattle.lifecycle.proofs.Groups.{same_blocks}
use Rattle.host_table.proofs.Housing.{housed_stays, room_stays}
use Rattle.host_moves.specs.Waiting.{inst_with, slot_with, own_set, IsHousedBut, TablesBut, IsWaiting}

pub set_again : {A : Type 0} (xs : List A) (i : ℕ) (a b : A) → set (set xs i a) i b ≡ set xs i b
set_again [] i a b = refl
set_again (x ∷ xs) zero a b = refl
set_again (x ∷ xs) (suc i) a b = ap (λ (l : List _). x ∷ l) (set_again xs i a b)

pub active_with : {M : Type 0} (k : ℕ) (inst : Inst M) (own : Pieces) → active_in k (inst_with inst own) ≡ active_in k inst
active_with k (Idling s) own = refl
active_with k (Running s) own = refl

slot_active_with : {M : Type 0} (slot : Option (Member M)) (own : Pieces) → slot_active_in (slot_with slot own) ≡ slot_active_in slot
slot_active_with None own = refl
slot_active_with (Some m) own = active_with m.group m.inst own

pub own_set_same : {M : Type 0} (instances : List (Option (Member M))) (i : ℕ) (own : Pieces) → slot_at (own_set instances i own) i ≡ slot_with (slot_at instances i) own
own_set_same [] i own = refl
own_set_same (x ∷ xs) zero own = refl
own_set_same (x ∷ xs) (suc i) own = own_set_same xs i own

pub own_set_other : {M : Type 0} (instances : List (Option (Member M))) (i j : ℕ) (own : Pieces) → j ≢ i → slot_at (own_set instances i own) j ≡ slot_at instances j
own_set_other instances i j own apart = get_or-set_other instances i j _ None apart

active_own : {M : Type 0} (instances : List (Option (Member M))) (i : ℕ) (own : Pieces) (j : ℕ) → slot_active_in (slot_at (own_set instances i own) j) ≡ slot_active_in (slot_at instances j)
active_own instances i own j =
    elim (eqb_tells j i) [
      | inl e ↦ rw (e.1, own_set_same instances i own) (slot_active_with (slot_at instances i) own)
      | inr e ↦ ap slot_active_in (own_set_other instances i j own e.1)
    ]

-- the instance with other pieces is in the same group
group_with : {M : Type 0} (slot : Option (Member M)) (own : Pieces) (m : Member M) → slot_with slot own ≡ Some m → (n : Member M) × ((slot ≡ Some n) × (n.group ≡ m.group))
group_with None own m at = absurd (none-some _ at)
group_with (Some n) own m at = (n, (refl, ap (λ (q : Member _). q.group) (same_Some _ _ at)))

-- whatever holds of the instances, and what follows of it
pub tables_map : {M : Type 0} (H K : ℕ → Member M → Pieces → Group → Type 0) (instances : List (Option (Member M))) (sharing : List Locations) (groups : List Group)
    → ((j : ℕ) (m : Member M) (o : Pieces) (y : Group) → H j m o y → K j m o y) → Tables H instances sharing groups → Tables K instances sharing groups
tables_map H K instances sharing groups follows ok = record {
  slot_count = ok.slot_count;
  sharing_count = ok.sharing_count;
  group_count = ok.group_count;
  held = ok.held;
  bare = ok.bare;
  group_range = ok.group_range;
  housed = λ j m at. follows j m (shared_at sharing j) (group_at groups m.group) (ok.housed j m at);
  active_there = ok.active_there;
  active_known = ok.active_known;
}

pub but_all : {M : Type 0} (i : ℕ) (instances : List (Option (Member M))) (sharing : List Locations) (groups : List Group) → TablesOk instances sharing groups → TablesBut i instances sharing groups
but_all i instances sharing groups ok = tables_map EachIsHoused (IsHousedBut i) instances sharing groups (λ j m o y housed apart. housed) ok

-- whatever holds of the others
abbrev pub Beside : {M : Type 0} → (ℕ → Member M → Pieces → Group → Type 0) → ℕ → ℕ → Member M → Pieces → Group → Type 0
Beside H i j m o y = j ≢ i → H j m o y

-- an instance with other pieces holds the same records with others
like_with : {M : Type 0} (k : ℕ) (a : Inst M) (own : Pieces) (b : Instance M) → AreAlike k (instance_of a) b → AreAlike k (instance_of (inst_with a own)) b
like_with k (Idling s) own b alike = record { kind = alike.kind; params = alike.params; once = alike.once; shape = alike.shape }
like_with k (Running s) own b alike = record { kind = alike.kind; params = alike.params; once = alike.once; shape = alike.shape }

like_owner : {M : Type 0} (k : ℕ) (a : Instance M) (b : Inst M) (own : Pieces) → AreAlike k a (instance_of b) → AreAlike k a (instance_of (inst_with b own))
like_owner k a (Idling s) own alike = record { kind = alike.kind; params = alike.params; once = alike.once; shape = alike.shape }
like_owner k a (Running s) own alike = record { kind = alike.kind; params = alike.params; once = alike.once; shape = alike.shape }

sharer_with : {M : Type 0} (k : ℕ) (a b : Option (Member M)) (s : Location) (own : Pieces) → IsSharer k a b s → IsSharer k (slot_with a own) b s
sharer_with k None b s own sharer = absurd sharer
sharer_with k (Some m) None s own sharer = absurd sharer
sharer_with k (Some m) (Some n) s own sharer = (like_with k m.inst own (instance_of n.inst) sharer.0, sharer.1)

owner_with : {M : Type 0} (k : ℕ) (a b : Option (Member M)) (s : Location) (own : Pieces) → IsSharer k a b s → IsSharer k a (slot_with b own) s
owner_with k None b s own sharer = absurd sharer
owner_with k (Some m) None s own sharer = absurd sharer
owner_with k (Some m) (Some n) s own sharer = (like_owner k (instance_of m.inst) n.inst own sharer.0, sharer.1)

held_own : {M : Type 0} (i : ℕ) (own : Pieces) (instances : List (Option (Member M))) (sharing : List Locations) → AreHeld instances sharing → AreHeld (own_set instances i own) sharing
held_own i own instances sharing held j k owner is =
    let first : IsSharer k (slot_at (own_set instances i own) j) (slot_at instances owner) (location_at (locations_at sharing owner) k) =
    elim (eqb_tells j i) [
      | inl e ↦ rw (e.1, own_set_same instances i own) (sharer_with k (slot_at instances i) (slot_at instances owner) (location_at (locations_at sharing owner) k) own (rw e.1 at (held j k owner is)))
      | inr e ↦ rw (own_set_other instances i j own e.1) (held j k owner is)
    ] in
    elim (eqb_tells owner i) [
      | inl e ↦ rw (e.1, own_set_same instances i own) (owner_with k (slot_at (own_set instances i own) j) (slot_at instances i) (location_at (locations_at sharing i) k) own (rw e.1 at first))
      | inr e ↦ rw (own_set_other instances i owner own e.1) first
    ]

none_with : {M : Type 0} (slot : Option (Member M)) (own : Pieces) → slot_with slot own ≡ None → slot ≡ None
none_with None own none = refl
none_with (Some m) own none = absurd (none-some _ (sym none))

bare_own : {M : Type 0} (i : ℕ) (own : Pieces) (instances : List (Option (Member M))) (sharing : List Locations) → AreBare instances sharing → AreBare (own_set instances i own) sharing
bare_own i own instances sharing bare j none =
    elim (eqb_tells j i) [
      | inl e ↦ rw e.1 (bare i (none_with (slot_at instances i) own (sym (own_set_same instances i own) ∙ rw e.1 at none)))
      | inr e ↦ bare j (sym (own_set_other instances i j own e.1) ∙ none)
    ]

pub but_own : {M : Type 0} (H : ℕ → Member M → Pieces → Group → Type 0) (i : ℕ) (own : Pieces) (instances : List (Option (Member M))) (sharing : List Locations) (groups : List Group)
    → Tables (Beside H i) instances sharing groups → Tables (Beside H i) (own_set instances i own) sharing groups
but_own H i own instances sharing groups ok = record {
  slot_count = simp length-set ok.slot_count;
  sharing_count = ok.sharing_count;
  group_count = ok.group_count;
  held = held_own i own instances sharing ok.held;
  bare = bare_own i own instances sharing ok.bare;
  group_range = λ j m at.
      elim (eqb_tells j i) [
        | inl e ↦
            let was = group_with (slot_at instances i) own m (sym (own_set_same instances i own) ∙ rw e.1 at at) in
            subst (λ n. n < GROUPS) was.1.1 (ok.group_range i was.0 was.1.0)
        | inr e ↦ ok.group_range j m (sym (own_set_other instances i j own e.1) ∙ at)
      ];
  housed = λ j m at apart. ok.housed j m (sym (own_set_other instances i j own apart) ∙ at) apart;
  active_there = λ k j below at. active_own instances i own j ∙ ok.active_there k j below at;
  active_known = λ k j at. ok.active_known k j (sym (active_own instances i own j) ∙ at);
}

-- an instance stays housed where its write-once pieces and its group's blocks stay
pub housed_beside : {M : Type 0} (m : Member M) (o o' : Pieces) (y y' : Group) → SamePieces o o' → ((space : Space) → IsSameBlock (block_in y space) (block_in y' space))
    → IsHoused (instance_of m.inst) o y → IsHoused (instance_of m.inst) o' y'
housed_beside m o o' y y' so sb h =
    housed_stays (instance_of m.inst) (instance_of m.inst) o o' y y' (record { kind = refl; params = refl; table = refl; own = same_pieces (instance_of m.inst).own }) so sb h

-- instances that wait to be told go on doing so, and the others stay housed
pub waiting_beside : {M : Type 0} (waits : ℕ → Bool) (j : ℕ) (m : Member M) (o o' : Pieces) (y y' : Group) → SamePieces o o' → ((space : Space) → IsSameBlock (block_in y space) (block_in y' space))
    → IsWaiting waits j m o y → IsWaiting waits j m o' y'
waiting_beside waits j m o o' y y' so sb w = record {
  told = λ h. housed_beside m o o' y y' so sb (w.told h);
  room = λ h. room_stays (instance_of m.inst) o o' y y' so sb (w.room h);
}

none_below : (j : ℕ) → j < 0 → ⊥
none_below j e = omega (arith, e)

pub told_later : {M : Type 0} (g : ℕ) (instances : List (Option (Member M))) (sharing : List Locations) (groups groups' : List Group) → TablesOk instances sharing groups
    → length groups' ≡ GROUPS
    → ((k : ℕ) → activity_at groups' k ≡ activity_at groups k)
    → ((k : ℕ) (space : Space) → k ≢ g → block_in (group_at groups' k) space ≡ block_in (group_at groups k) space)
    → ((i : ℕ) (m : Member M) → slot_at instances i ≡ Some m → m.group ≡ g → HasRoom (instance_of m.inst) (shared_at sharing i) (group_at groups' g))
    → TablesTold g 0 instances sharing groups'
told_later g instances sharing groups groups' ok count activity blocks room = record {
  slot_count = ok.slot_count;
  sharing_count = ok.sharing_count;
  group_count = count;
  held = ok.held;
  bare = ok.bare;
  group_range = ok.group_range;
  housed = λ j m at. record {
    told = λ h.
        elim h [
          | inl apart ↦
              housed_beside m (shared_at sharing j) (shared_at sharing j) (group_at groups m.group) (group_at groups' m.group) (same_pieces (shared_at sharing j))
              (λ space. rw (blocks m.group space apart) (same_blocks _ _ (same_group (group_at groups m.group)) space)) (ok.housed j m at)
          | inr e ↦ absurd (none_below j e)
        ];
    waits = λ same. rw same (room j m at same);
  };
  active_there = λ k j below at. ok.active_there k j below (sym (ap (λ (a : Activity). a.active) (activity k)) ∙ at);
  active_known = λ k j at. ap (λ (a : Activity). a.active) (activity k) ∙ ok.active_known k j at;
}

-- the instance with the piece that comes back
abbrev pub member_back : {M : Type 0} → Option (ℕ × Span) → Member M → Member M
member_back back m = record m { inst = inst_with m.inst (restored back (instance_of m.inst).own) }
