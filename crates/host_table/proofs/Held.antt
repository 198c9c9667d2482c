-- Which instances hold records together, and what that says of their owners.
use Rattle.std.proofs.Common.{◌≡◌, ◌≢◌, ℕ, zero, suc, ◌<◌, List, [], ◌∷◌, length, take, Option, Some, None, set, get_or-set_same, get_or-set_other, inl, inr, refl, sym, ◌∙◌, ap, subst}
use Rattle.std.proofs.lemmas.Bool.Decides.{eqb_tells}
use Rattle.std.proofs.lemmas.Option.{none-some}
use Rattle.mem_rec.specs.declared.MemRec.{MemRec}
use Rattle.ialg.specs.Records.{record_at, unplaced}
use Rattle.lifecycle.specs.declared.instance.Instance.{Instance}
use Rattle.lifecycle.specs.declared.instance.Inst.{Inst}
use Rattle.record_loans.specs.declared.pieces.Pieces.{Pieces}
use Rattle.record_loans.specs.Pieces.{piece_at, piece_words}
use Rattle.lifecycle.specs.States.{SameInstance, SameOnce}
use Rattle.record_loans.proofs.PieceLemmas.{same_pieces}
use Rattle.host_table.specs.declared.member.Member.{Member}
use Rattle.host_shared.specs.declared.locations.Location.{Location}
use Rattle.host_shared.specs.declared.locations.Location.TheVariants.{Here, At}
use Rattle.host_shared.specs.declared.locations.Locations.{Locations}
use Rattle.host_shared.specs.Locations.{location_at, no_locations, locations_at, owner_by, owner_of}
use Rattle.host_shared.specs.Owners.{IsPieceHere, AllHaveOwners, IsSameLocation, SameLocations}
use Rattle.host_table.specs.Table.{slot_at, instance_of, unbased, AreAlike, IsSharer, AreHeld, AreBare}
use Rattle.host_table.specs.Frames.{SameMember, IsSameMember}
use Rattle.host_shared.proofs.Lent.{four_locations, no_location}

-- the same instance, that may go by other bases
pub same_member : {M : Type 0} (m : Member M) → SameMember m m
same_member m = record { group = refl; kind = refl; params = refl; table = refl; own = same_pieces (instance_of m.inst).own }

pub same_members_slot : {M : Type 0} (slot : Option (Member M)) → IsSameMember slot slot
same_members_slot None = refl
same_members_slot (Some m) = same_member m

pub member_stays : {M : Type 0} (m : Member M) (g : ℕ) (inst : Inst M) → m.group ≡ g → SameInstance (instance_of m.inst) (instance_of inst) → SameMember m (record { group = g; inst = inst })
member_stays m g inst of_group same = record { group = sym of_group; kind = same.kind; params = same.params; table = ap unplaced same.table; own = same.own }

pub in_group : {M : Type 0} (m : Member M) (g : ℕ) (inst : Inst M) → m.group ≡ g → SameMember m (record { group = m.group; inst = inst }) → SameMember m (record { group = g; inst = inst })
in_group m g inst of_group same = record { group = sym of_group; kind = same.kind; params = same.params; table = same.table; own = same.own }

pub members_beside : {M : Type 0} (instances : List (Option (Member M))) (i : ℕ) (m n : Member M) → slot_at instances i ≡ Some m → i < length instances → SameMember m n
    → (j : ℕ) → IsSameMember (slot_at instances j) (slot_at (set instances i (Some n)) j)
members_beside instances i m n at inside same j =
    elim (eqb_tells j i) [
      | inl e ↦ rw (e.1, get_or-set_same instances i (Some n) None inside, at) same
      | inr e ↦ rw (get_or-set_other instances i j (Some n) None e.1) (same_members_slot (slot_at instances j))
    ]

-- records are alike in either direction, and in turn
pub alike_back : {M : Type 0} (k : ℕ) (a b : Instance M) → AreAlike k a b → AreAlike k b a
alike_back k a b e = record {
  kind = sym e.kind;
  params = sym e.params;
  once = ap (λ (r : MemRec). r.attr) e.shape ∙ e.once;
  shape = sym e.shape;
}

pub alike_then : {M : Type 0} (k : ℕ) (a b c : Instance M) → AreAlike k a b → AreAlike k b c → AreAlike k a c
alike_then k a b c e f = record { kind = f.kind ∙ e.kind; params = f.params ∙ e.params; once = e.once; shape = f.shape ∙ e.shape }

pub record_unplaced : (rs : List MemRec) (k : ℕ) → record_at (unplaced rs) k ≡ unbased (record_at rs k)
record_unplaced [] k = refl
record_unplaced (r ∷ rs) zero = refl
record_unplaced (r ∷ rs) (suc k) = record_unplaced rs k

-- an instance that may go by other bases is alike
pub same_shape : (rs rs' : List MemRec) (k : ℕ) → unplaced rs' ≡ unplaced rs → unbased (record_at rs' k) ≡ unbased (record_at rs k)
same_shape rs rs' k same = sym (record_unplaced rs' k) ∙ ap (λ (ts : List MemRec). record_at ts k) same ∙ record_unplaced rs k

-- write-once words that stay
pub once_unplaced : (rs rs' : List MemRec) (a b : Pieces) → unplaced rs' ≡ unplaced rs → SameOnce rs' a b → SameOnce rs a b
once_unplaced rs rs' a b same sharing k attr =
    let shape = same_shape rs rs' k same in
    subst (λ n. take n (piece_words (piece_at b k)) ≡ take n (piece_words (piece_at a k))) (ap (λ (r : MemRec). r.size) shape)
    (sharing k (ap (λ (r : MemRec). r.attr) shape ∙ attr))

-- the same instance for whoever holds records with it: it may go by other bases, and have other pieces for its own records
pub record SameSharer {M : Type 0} (m n : Member M) : Type 0 where
  pub kind : (instance_of n.inst).kind ≡ (instance_of m.inst).kind
  pub params : (instance_of n.inst).params ≡ (instance_of m.inst).params
  pub table : unplaced (instance_of n.inst).table ≡ unplaced (instance_of m.inst).table

abbrev pub IsSameSharer : {M : Type 0} → Option (Member M) → Option (Member M) → Type 0
IsSameSharer None new = new ≡ None
IsSameSharer (Some m) None = ⊥
IsSameSharer (Some m) (Some n) = SameSharer m n

pub sharer_of_member : {M : Type 0} (a b : Option (Member M)) → IsSameMember a b → IsSameSharer a b
sharer_of_member None b same = same
sharer_of_member (Some m) None same = absurd same
sharer_of_member (Some m) (Some n) same = record { kind = same.kind; params = same.params; table = same.table }

pub alike_stays : {M : Type 0} (k : ℕ) (a b : Member M) (m n : Member M) → SameSharer a m → SameSharer b n → AreAlike k (instance_of a.inst) (instance_of b.inst) → AreAlike k (instance_of m.inst) (instance_of n.inst)
alike_stays k a b m n s t e =
    let first = same_shape (instance_of a.inst).table (instance_of m.inst).table k s.table in
    let second = same_shape (instance_of b.inst).table (instance_of n.inst).table k t.table in
    record {
      kind = t.kind ∙ e.kind ∙ sym s.kind;
      params = t.params ∙ e.params ∙ sym s.params;
      once = ap (λ (r : MemRec). r.attr) first ∙ e.once;
      shape = second ∙ e.shape ∙ sym first;
    }

pub sharer_stays : {M : Type 0} (k : ℕ) (a b a' b' : Option (Member M)) {s s' : Location}
    → IsSameSharer a a' → IsSameSharer b b' → (IsPieceHere s → IsPieceHere s') → IsSharer k a b s → IsSharer k a' b' s'
sharer_stays k None b a' b' e f here h = absurd h
sharer_stays k (Some a) None a' b' e f here h = absurd h
sharer_stays k (Some a) (Some b) None b' e f here h = absurd e
sharer_stays k (Some a) (Some b) (Some m) None e f here h = absurd f
sharer_stays k (Some a) (Some b) (Some m) (Some n) e f here h = (alike_stays k a b m n e f h.0, here h.1)

-- the owner of a record that is held has its piece
pub held_piece : {M : Type 0} (k : ℕ) (a b : Option (Member M)) (s : Location) → IsSharer k a b s → IsPieceHere s
held_piece k None b s h = absurd h
held_piece k (Some a) None s h = absurd h
held_piece k (Some a) (Some b) s h = h.1

pub owners_of_held : {M : Type 0} (instances : List (Option (Member M))) (sharing : List Locations) → AreHeld instances sharing → AllHaveOwners sharing
owners_of_held instances sharing held i k owner with_owner = held_piece k (slot_at instances i) (slot_at instances owner) (location_at (locations_at sharing owner) k) (held i k owner with_owner)

-- stands that stay
piece_here_stays : (s s' : Location) → IsSameLocation s s' → IsPieceHere s → IsPieceHere s'
piece_here_stays (At h) s' same here = let e : At h ≡ Here (Some here.0) = here.1 in cc
piece_here_stays (Here p) (At h) same here = absurd same
piece_here_stays (Here None) (Here q) same here = let e : Here None ≡ Here (Some here.0) = here.1 in cc
piece_here_stays (Here (Some p)) (Here None) same here = absurd same
piece_here_stays (Here (Some p)) (Here (Some q)) same here = (q, refl)

pub with_before : (s s' : Location) (owner : ℕ) → IsSameLocation s s' → s' ≡ At owner → s ≡ At owner
with_before (Here p) (Here q) owner same is = cc
with_before (Here p) (At h) owner same is = absurd same
with_before (At h) s' owner same is = sym same ∙ is

none_before : {M : Type 0} (a b : Option (Member M)) → IsSameSharer a b → b ≡ None → a ≡ None
none_before None b same none = refl
none_before (Some m) None same none = absurd same
none_before (Some m) (Some n) same none = absurd (none-some n (sym none))

none_after : (s' : Location) → IsSameLocation (Here None) s' → s' ≡ Here None
none_after (Here q) same = ap Here same
none_after (At h) same = absurd same

-- for instances that are the same for sharers
module _ {M : Type 0} (instances instances' : List (Option (Member M))) (sharing sharing' : List Locations) (same : (j : ℕ) → IsSameSharer (slot_at instances j) (slot_at instances' j)) (stands : SameLocations sharing sharing') where
  pub held_beside : AreHeld instances sharing → AreHeld instances' sharing'
  held_beside held i k owner is =
      sharer_stays k _ _ _ _ (same i) (same owner) (piece_here_stays _ _ (stands owner k)) (held i k owner (with_before _ _ owner (stands i k) is))

  pub bare_beside : AreBare instances sharing → AreBare instances' sharing'
  bare_beside bare i none =
      four_locations (locations_at sharing' i) no_locations
      (λ k. subst (λ (x : Location). x ≡ location_at no_locations k) (sym (none_after (location_at (locations_at sharing' i) k)
      (subst (λ (x : Location). IsSameLocation x (location_at (locations_at sharing' i) k)) (ap (λ (s : Locations). location_at s k) (bare i (none_before (slot_at instances i) (slot_at instances' i) (same i) none)) ∙ no_location k) (stands i k))))
      (sym (no_location k)))

-- and for those that are the same but for bases
module _ {M : Type 0} (instances instances' : List (Option (Member M))) (sharing sharing' : List Locations) (same : (j : ℕ) → IsSameMember (slot_at instances j) (slot_at instances' j)) (stands : SameLocations sharing sharing') where
  pub held_stays : AreHeld instances sharing → AreHeld instances' sharing'
  held_stays = held_beside instances instances' sharing sharing' (λ j. sharer_of_member (slot_at instances j) (slot_at instances' j) (same j)) stands

  pub bare_stays : AreBare instances sharing → AreBare instances' sharing'
  bare_stays = bare_beside instances instances' sharing sharing' (λ j. sharer_of_member (slot_at instances j) (slot_at instances' j) (same j)) stands

pub alike_both : {M : Type 0} (k : ℕ) (m n : Member M) (owner : Option (Member M)) (s : Location) → IsSharer k (Some m) owner s → IsSharer k (Some n) owner s → AreAlike k (instance_of m.inst) (instance_of n.inst)
alike_both k m n None s first second = absurd first
alike_both k m n (Some a) s first second = alike_then k (instance_of m.inst) (instance_of a.inst) (instance_of n.inst) first.0 (alike_back k (instance_of n.inst) (instance_of a.inst) second.0)

-- what a record's owner says of both
module _ {M : Type 0} (instances : List (Option (Member M))) (sharing : List Locations) (held : AreHeld instances sharing) where
  alike_by : (i j k : ℕ) (m n : Member M) (s t : Location) → slot_at instances i ≡ Some m → slot_at instances j ≡ Some n → location_at (locations_at sharing i) k ≡ s → location_at (locations_at sharing j) k ≡ t
      → j ≢ i → owner_by j t ≡ owner_by i s → AreAlike k (instance_of m.inst) (instance_of n.inst)
  alike_by i j k m n (Here p) (Here q) at_i at_j is_i is_j apart owner = absurd (apart owner)
  alike_by i j k m n (Here p) (At h) at_i at_j is_i is_j apart owner =
      let e : slot_at instances h ≡ Some m = ap (slot_at instances) owner ∙ at_i in
      let both : IsSharer k (Some n) (Some m) (location_at (locations_at sharing h) k) = rw (at_j, e) at (held j k h is_j) in
      alike_back k (instance_of n.inst) (instance_of m.inst) both.0
  alike_by i j k m n (At g) (Here q) at_i at_j is_i is_j apart owner =
      let e : slot_at instances g ≡ Some n = ap (slot_at instances) (sym owner) ∙ at_j in
      let both : IsSharer k (Some m) (Some n) (location_at (locations_at sharing g) k) = rw (at_i, e) at (held i k g is_i) in
      both.0
  alike_by i j k m n (At g) (At h) at_i at_j is_i is_j apart owner =
      let first : IsSharer k (Some m) (slot_at instances g) (location_at (locations_at sharing g) k) = rw at_i at (held i k g is_i) in
      let second : IsSharer k (Some n) (slot_at instances g) (location_at (locations_at sharing g) k) = rw (at_j, owner) at (held j k h is_j) in
      alike_both k m n (slot_at instances g) (location_at (locations_at sharing g) k) first second

  -- instances with one owner of a record are alike in it
  pub alike_at : (i j k : ℕ) (m n : Member M) → slot_at instances i ≡ Some m → slot_at instances j ≡ Some n → j ≢ i → owner_of sharing j k ≡ owner_of sharing i k → AreAlike k (instance_of m.inst) (instance_of n.inst)
  alike_at i j k m n at_i at_j apart owner = alike_by i j k m n (location_at (locations_at sharing i) k) (location_at (locations_at sharing j) k) at_i at_j refl refl apart owner
