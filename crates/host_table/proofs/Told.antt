-- Members of a group that are told of a move, one after the other.
use Rattle.std.proofs.Common.{◌≡◌, ◌≢◌, inl, inr, ℕ, ◌<◌, ◌≤◌, ◌+◌, List, length, Option, Some, None, true, false, set, get_or-set_same, get_or-set_other, refl, sym, ◌∙◌, ap, arith, nat_eq}
use Rattle.std.proofs.lemmas.Bool.Decides.{eqb_tells}
use Rattle.std.proofs.lemmas.Bool.{true≢false}
use Rattle.std.proofs.lemmas.Option.{none-some}
use Rattle.mem_rec.specs.declared.Space.{Space}
use Rattle.ialg.specs.Records.{unplaced}
use Rattle.record_loans.specs.declared.pieces.Pieces.{Pieces}
use Rattle.record_loans.specs.Pieces.{SamePieces}
use Rattle.record_loans.specs.Blocks.{IsSameBlock}
use Rattle.scratch_group.specs.declared.group.Group.{Group}
use Rattle.scratch_group.specs.Blocks.{block_in}
use Rattle.scratch_group.proofs.Tables.{unplaced-with_bases}
use Rattle.scratch_group.specs.Words.{record_place}
use Rattle.lifecycle.specs.declared.instance.Inst.{Inst}
use Rattle.lifecycle.specs.Moves.{settled}
use Rattle.lifecycle.specs.States.{SameInstance}
use Rattle.record_loans.proofs.PieceLemmas.{same_pieces}
use Rattle.lifecycle.proofs.Frames.{same_group}
use Rattle.mem_rec.specs.declared.TheConstants.{INSTANCES}
use Rattle.host_table.specs.declared.member.Member.{Member}
use Rattle.host_shared.specs.declared.locations.Locations.{Locations}
use Rattle.host_shared.specs.Owners.{with_pieces_of, HasOwners, AllHaveOwners, SameLocations}
use Rattle.host_table.specs.Table.{slot_at, group_at, no_group, instance_of, is_member_of, IsHoused, IsTold, TablesOk, TablesTold}
use Rattle.host_shared.specs.Locations.{shared_at}
use Rattle.host_table.specs.Frames.{SameMember, IsSameMember, SameMembers}
use Rattle.lifecycle.proofs.Groups.{same_blocks}
use Rattle.host_table.proofs.Housing.{room_of_housed, room_stays, housed_stays}
use Rattle.host_shared.proofs.Owners.{lent_here}
use Rattle.host_shared.proofs.Lent.{same_locations, stands_lent, owners_of_all}
use Rattle.host_table.proofs.Held.{same_members_slot}
use Rattle.host_table.proofs.Changes.{slot_in, pieces_then, locations_then, block_then, pieces_stay, blocks_stay}

-- a slot that has a member of the group
pub member_is : {M : Type 0} (slot : Option (Member M)) (g : ℕ) (m : Member M) → slot ≡ Some m → is_member_of g slot ≡ true → m.group ≡ g
member_is slot g m at member =
    elim (eqb_tells m.group g) [
      | inl e ↦ e.1
      | inr e ↦ absurd (true≢false (sym (rw at at member) ∙ e.0))
    ]

-- the members below n were told: the next one is told next
pub told_next : {M : Type 0} (g n j : ℕ) (m : Member M) (o : Pieces) (y : Group) → j ≢ n → IsTold g n j m o y → IsTold g (n + 1) j m o y
told_next g n j m o y apart t = record {
  told = λ h.
      t.told (elim h [
        | inl e ↦ inl e
        | inr e ↦ inr (omega (arith, apart, e))
      ]);
  waits = t.waits;
}

-- the member that is told
pub is_told : {M : Type 0} (g n i : ℕ) (m : Member M) (o : Pieces) (y : Group) → IsHoused (instance_of m.inst) o y → IsTold g n i m o y
is_told g n i m o y housed = record { told = λ h. housed; waits = λ h. room_of_housed (instance_of m.inst) o y housed }

-- in its slot and its group
pub told_here : {M : Type 0} (g i : ℕ) (sharing : List Locations) (groups : List Group) (o : Pieces) (y : Group) (m : Member M) → HasOwners sharing i → g < length groups
    → IsHoused (instance_of m.inst) o y → IsTold g (i + 1) i m (shared_at (with_pieces_of sharing i o) i) (group_at (set groups g y) g)
told_here g i sharing groups o y m owners group_in housed =
    rw (lent_here sharing i owners o, get_or-set_same groups g y no_group group_in) (is_told g (i + 1) i m o y housed)

-- the others stay as they are
pub told_beside : {M : Type 0} (g n j : ℕ) (m : Member M) (o o' : Pieces) (y y' : Group) → j ≢ n → SamePieces o o' → ((space : Space) → IsSameBlock (block_in y space) (block_in y' space))
    → IsTold g n j m o y → IsTold g (n + 1) j m o' y'
told_beside g n j m o o' y y' apart so sb t =
    let next = told_next g n j m o y apart t in
    record {
      told = λ h. housed_stays (instance_of m.inst) (instance_of m.inst) o o' y y' (record { kind = refl; params = refl; table = refl; own = same_pieces (instance_of m.inst).own }) so sb (next.told h);
      waits = λ h. room_stays (instance_of m.inst) o o' y y' so sb (next.waits h);
    }

equal_is : (a b : ℕ) → a ≡ b → nat_eq a b ≡ true
equal_is a b same =
    elim (eqb_tells a b) [
      | inl e ↦ e.0
      | inr e ↦ absurd (e.1 same)
    ]

-- where the slot has no member of the group, nothing is to be told
pub told_by_none : {M : Type 0} (g n : ℕ) (instances : List (Option (Member M))) (sharing : List Locations) (groups : List Group) → is_member_of g (slot_at instances n) ≡ false
    → TablesTold g n instances sharing groups → TablesTold g (n + 1) instances sharing groups
told_by_none g n instances sharing groups none ok = record {
  slot_count = ok.slot_count;
  sharing_count = ok.sharing_count;
  held = ok.held;
  bare = ok.bare;
  group_count = ok.group_count;
  group_range = ok.group_range;
  housed = λ j m at.
      elim (eqb_tells j n) [
        | inl e ↦
            let other : m.group ≢ g = λ same. true≢false (sym (sym none ∙ ap (is_member_of g) (rw e.1 at at) ∙ equal_is m.group g same)) in
            let t = ok.housed j m at in
            record { told = λ h. t.told (inl other); waits = t.waits }
        | inr e ↦ told_next g n j m _ _ e.1 (ok.housed j m at)
      ];
  active_there = ok.active_there;
  active_known = ok.active_known;
}

-- all were told
pub all_told : {M : Type 0} (g n : ℕ) (instances : List (Option (Member M))) (sharing : List Locations) (groups : List Group) → INSTANCES ≤ n → TablesTold g n instances sharing groups → TablesOk instances sharing groups
all_told g n instances sharing groups all ok = record {
  slot_count = ok.slot_count;
  sharing_count = ok.sharing_count;
  held = ok.held;
  bare = ok.bare;
  group_count = ok.group_count;
  group_range = ok.group_range;
  housed = λ j m at.
      let inside = slot_in instances j m at in
      (ok.housed j m at).told (inr (omega (arith, inside, all, ok.slot_count)));
  active_there = ok.active_there;
  active_known = ok.active_known;
}

-- the instance that was told where its records lie
pub told_member : {M : Type 0} (m : Member M) (inst : Inst M) (o : Pieces) (y : Group) → SameInstance (settled (instance_of m.inst) o y) (instance_of inst)
    → SameMember m (record { group = m.group; inst = inst })
told_member m inst o y same = record {
  group = refl;
  kind = same.kind;
  params = same.params;
  table = ap unplaced same.table ∙ unplaced-with_bases (instance_of m.inst).table (record_place (instance_of m.inst).table (instance_of m.inst).own o y);
  own = same.own;
}

member_then : {M : Type 0} (a b c : Option (Member M)) → IsSameMember a b → IsSameMember b c → IsSameMember a c
member_then None None c e f = f
member_then None (Some b) c e f = absurd (none-some _ (sym e))
member_then (Some a) None c e f = absurd e
member_then (Some a) (Some b) None e f = absurd f
member_then (Some a) (Some b) (Some c) e f = record {
  group = f.group ∙ e.group;
  kind = f.kind ∙ e.kind;
  params = f.params ∙ e.params;
  table = f.table ∙ e.table;
  own = pieces_then (instance_of a.inst).own (instance_of b.inst).own (instance_of c.inst).own e.own f.own;
}

pub members_then : {M : Type 0} {instances instances' instances'' : List (Option (Member M))} {sharing sharing' sharing'' : List Locations} {groups groups' groups'' : List Group}
    → SameMembers instances sharing groups instances' sharing' groups' → SameMembers instances' sharing' groups' instances'' sharing'' groups'' → SameMembers instances sharing groups instances'' sharing'' groups''
members_then {sharing} {sharing'} {sharing''} a b = record {
  slot = λ i. member_then _ _ _ (a.slot i) (b.slot i);
  pieces = λ i. pieces_then _ _ _ (a.pieces i) (b.pieces i);
  stands = locations_then sharing sharing' sharing'' a.stands b.stands;
  blocks = λ g space. block_then _ _ _ (a.blocks g space) (b.blocks g space);
}

pub same_members : {M : Type 0} (instances : List (Option (Member M))) (sharing : List Locations) (groups : List Group) → SameMembers instances sharing groups instances sharing groups
same_members instances sharing groups = record {
  slot = λ i. same_members_slot (slot_at instances i);
  pieces = λ i. same_pieces (shared_at sharing i);
  stands = same_locations sharing;
  blocks = λ g space. same_blocks _ _ (same_group (group_at groups g)) space;
}

-- with what each instance sees of write-once records afterwards

pub members_after_sight : {M : Type 0} (instances : List (Option (Member M))) (sharing : List Locations) (groups : List Group) (i g : ℕ) (m n : Member M) (sharing' : List Locations) (y : Group)
    → i < length instances → g < length groups → slot_at instances i ≡ Some m → SameMember m n → ((j : ℕ) → SamePieces (shared_at sharing j) (shared_at sharing' j)) → SameLocations sharing sharing'
    → ((space : Space) → IsSameBlock (block_in (group_at groups g) space) (block_in y space))
    → SameMembers instances sharing groups (set instances i (Some n)) sharing' (set groups g y)
members_after_sight instances sharing groups i g m n sharing' y slot_in group_in at same pieces stands blocks = record {
  slot = λ j.
      elim (eqb_tells j i) [
        | inl e ↦ rw (e.1, get_or-set_same instances i (Some n) None slot_in, at) same
        | inr e ↦ rw (get_or-set_other instances i j (Some n) None e.1) (same_members_slot (slot_at instances j))
      ];
  pieces = pieces;
  stands = stands;
  blocks = blocks_stay groups g y group_in blocks;
}

pub members_after_still : {M : Type 0} (instances : List (Option (Member M))) (sharing : List Locations) (groups : List Group) (i : ℕ) (m n : Member M) (sharing' : List Locations)
    → i < length instances → slot_at instances i ≡ Some m → SameMember m n → ((j : ℕ) → SamePieces (shared_at sharing j) (shared_at sharing' j)) → SameLocations sharing sharing'
    → SameMembers instances sharing groups (set instances i (Some n)) sharing' groups
members_after_still instances sharing groups i m n sharing' slot_in at same pieces stands = record {
  slot = λ j.
      elim (eqb_tells j i) [
        | inl e ↦ rw (e.1, get_or-set_same instances i (Some n) None slot_in, at) same
        | inr e ↦ rw (get_or-set_other instances i j (Some n) None e.1) (same_members_slot (slot_at instances j))
      ];
  pieces = pieces;
  stands = stands;
  blocks = λ g space. same_blocks _ _ (same_group (group_at groups g)) space;
}

-- where its pieces were put back at their owners

pub members_after : {M : Type 0} (instances : List (Option (Member M))) (sharing : List Locations) (groups : List Group) (i g : ℕ) (m n : Member M) (o : Pieces) (y : Group)
    → i < length instances → i < length sharing → AllHaveOwners sharing → g < length groups → slot_at instances i ≡ Some m → SameMember m n → SamePieces (shared_at sharing i) o
    → ((space : Space) → IsSameBlock (block_in (group_at groups g) space) (block_in y space))
    → SameMembers instances sharing groups (set instances i (Some n)) (with_pieces_of sharing i o) (set groups g y)
members_after instances sharing groups i g m n o y slot_in once_in owners group_in at same pieces blocks =
    members_after_sight instances sharing groups i g m n (with_pieces_of sharing i o) y slot_in group_in at same (pieces_stay sharing i o once_in owners pieces)
    (stands_lent sharing i (owners_of_all sharing i owners once_in) o pieces) blocks

pub members_after_quiet : {M : Type 0} (instances : List (Option (Member M))) (sharing : List Locations) (groups : List Group) (i : ℕ) (m n : Member M) (o : Pieces)
    → i < length instances → i < length sharing → AllHaveOwners sharing → slot_at instances i ≡ Some m → SameMember m n → SamePieces (shared_at sharing i) o
    → SameMembers instances sharing groups (set instances i (Some n)) (with_pieces_of sharing i o) groups
members_after_quiet instances sharing groups i m n o slot_in once_in owners at same pieces =
    members_after_still instances sharing groups i m n (with_pieces_of sharing i o) slot_in at same (pieces_stay sharing i o once_in owners pieces)
    (stands_lent sharing i (owners_of_all sharing i owners once_in) o pieces)
