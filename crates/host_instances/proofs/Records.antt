-- The records of an instance go.
use Rattle.std.proofs.Common.{◌≡◌, ◌≢◌, ℕ, inl, inr, Bool, true, false, List, [], ◌∷◌, Option, Some, None, refl, sym, ◌∙◌, ap, subst}
use Rattle.std.proofs.lemmas.Option.{none-some}
use Rattle.std.proofs.lemmas.Bool.{eq-eqb, true≢false}
use Rattle.std.proofs.lemmas.Bool.Decides.{eqb_tells}
use Rattle.mem_rec.specs.declared.MemRec.{MemRec}
use Rattle.mem_rec.specs.declared.Space.{Space}
use Rattle.mem_rec.specs.declared.Space.TheVariants.{Daram, Saram, External}
use Rattle.mem_rec.specs.Records.{is_persistent}
use Rattle.relocate.specs.Places.{placed_size}
use Rattle.relocate.proofs.RangeTests.{true_or_false}
use Rattle.ialg.specs.Records.{unplaced}
use Rattle.ialg.proofs.Tables.{record_at-unplaced}
use Rattle.record_loans.specs.declared.pieces.Pieces.{Pieces}
use Rattle.record_loans.specs.Pieces.{piece_at, SamePieces, no_pieces}
use Rattle.scratch_group.specs.declared.group.Group.{Group}
use Rattle.scratch_group.specs.Blocks.{block_in}
use Rattle.lifecycle.specs.Rooms.{lasting_piece}
use Rattle.host_map.specs.declared.placed.Owner.{Owner}
use Rattle.host_map.specs.declared.placed.Owner.TheVariants.{Record, Scratch as GroupScratch}
use Rattle.host_map.specs.declared.placed.Placed.{Placed}
use Rattle.host_map.specs.Blocks.{owned, renamed_blocks}
use Rattle.host_spaces.proofs.Owners.{not_same}
use Rattle.host_spaces.specs.declared.spaces.Spaces.{Spaces}
use Rattle.host_spaces.proofs.Leaving.{blocks_without}
use Rattle.host_map.specs.MemoryMap.{MemoryMap, blocks_in, is_instance's, without_owners}
use Rattle.host_spaces.specs.MemoryMap.{AreSameSpaces, map_of, space_in}
use Rattle.host_spaces.specs.Pieces.{HasRecords, ArePlacedPieces, IsPieceOf, is_placed_once, record_block}
use Rattle.host_table.specs.declared.member.Member.{Member}
use Rattle.host_shared.specs.declared.locations.Locations.{Locations}
use Rattle.host_shared.specs.Locations.{location_at, locations_at, owner_of, shared_at}
use Rattle.host_shared.specs.Owners.{IsSameLocation}
use Rattle.host_shared.specs.Sharing.{next_sharer, left_with, location_without, AreLeast}
use Rattle.host_table.specs.Table.{slot_at, AreHeld, group_at, group_of, own_of, instance_of, is_member_of}
use Rattle.host_table.specs.Sharers.{AreTogether}
use Rattle.host_table.specs.Frames.{IsSameMember, OthersSame}
use Rattle.host_moves.specs.Standing.{IsPieceThere, AgreeWithMap, SlotIsSame, table_of}
use Rattle.host_moves.proofs.Owners.{alike_same, owner_stays, slot_of_same, slot_same, before, none_before, member_before, pieces_none, is_of_same, none_same, align_same}
use Rattle.host_instances.specs.Leaving.{AgreeWithMapBut}
use Rattle.host_instances.proofs.Belonging.{not_of}
use Rattle.host_instances.proofs.Handed.{missing, records_left, pieces_left, owner_then, gone_then, group_then}

-- ---- the blocks of an owner that is gone

pub blocks_left : (gone : Owner → Bool) (map : MemoryMap) (space : Space) → blocks_in (without_owners gone map) space ≡ blocks_without gone (blocks_in map space)
blocks_left gone map Daram = refl
blocks_left gone map Saram = refl
blocks_left gone map External = refl

owned_without : (gone : Owner → Bool) (o : Owner) (bs : List Placed) → gone o ≡ true → owned o (blocks_without gone bs) ≡ []
owned_without gone o [] is = refl
owned_without gone o (b ∷ bs) is =
    elim (true_or_false (gone b.owner)) [
      | inl mine ↦ rw mine (owned_without gone o bs is)
      | inr other ↦
          let apart : o ≢ b.owner = λ e. true≢false (sym is ∙ ap gone e ∙ other) in
          rw (other, not_same o b.owner apart) (owned_without gone o bs is)
    ]

pub owned_gone : (gone : Owner → Bool) (o : Owner) (spaces spaces' : Spaces) (space : Space) → gone o ≡ true → map_of spaces' ≡ without_owners gone (map_of spaces)
    → owned o (blocks_in (map_of spaces') space) ≡ []
owned_gone gone o spaces spaces' space is map =
    ap (λ p. owned o (blocks_in p space)) map ∙ ap (owned o) (blocks_left gone (map_of spaces) space) ∙ owned_without gone o (blocks_in (map_of spaces) space) is

-- ---- the pieces that go back

module _ (spaces : Spaces) (i : ℕ) (rs : List MemRec) (own shared : Pieces) where
  pub records_by_table : HasRecords (map_of spaces) i (unplaced rs) own shared → HasRecords (map_of spaces) i rs own shared
  records_by_table has k space =
      subst (λ (r : MemRec). owned (Record i k) (blocks_in (map_of spaces) space) ≡ record_block i k r space (lasting_piece r.attr (piece_at own k) (piece_at shared k)))
      (record_at-unplaced rs k) (has k space)

  pub pieces_by_table : (sharers : ℕ → Option ℕ) → ArePlacedPieces spaces (unplaced rs) sharers own shared → ArePlacedPieces spaces rs sharers own shared
  pieces_by_table sharers are = record {
    persistent = λ k.
        subst (λ (r : MemRec). IsPieceOf (space_in spaces r.space).region (placed_size r.size) (is_persistent r.attr) (piece_at own k)) (record_at-unplaced rs k) (are.persistent k);
    write_once = λ k.
        subst (λ (r : MemRec). IsPieceOf (space_in spaces r.space).region (placed_size r.size) (is_placed_once (sharers k) r.attr) (piece_at shared k)) (record_at-unplaced rs k) (are.write_once k);
  }

-- an instance that goes, and what becomes of its blocks
pub record Going {M : Type 0} (i : ℕ) (instances : List (Option (Member M))) (sharing : List Locations) (groups : List Group) (spaces mid : Spaces) : Type 0 where
  pub next : ℕ → Option ℕ
  pub standing : AgreeWithMap instances sharing groups spaces
  pub held : AreHeld instances sharing
  pub is_next : (k : ℕ) → next k ≡ next_sharer sharing i k
  pub others : (o : Owner) (space : Space) → ((k h : ℕ) → next k ≡ Some h → (o ≢ Record i k) × (o ≢ Record h k))
      → owned o (blocks_in (map_of mid) space) ≡ owned o (blocks_in (map_of spaces) space)
  pub handed : (k h : ℕ) (space : Space) → next k ≡ Some h → owned (Record h k) (blocks_in (map_of spaces) space) ≡ []
      → owned (Record h k) (blocks_in (map_of mid) space) ≡ renamed_blocks (λ o. Record h k) (owned (Record i k) (blocks_in (map_of spaces) space))
  pub left : (k h : ℕ) (space : Space) → next k ≡ Some h → h ≢ i → owned (Record i k) (blocks_in (map_of mid) space) ≡ []
  pub stays : AreSameSpaces spaces mid

module _ {M : Type 0} (i : ℕ) (instances : List (Option (Member M))) (sharing : List Locations) (groups : List Group) (spaces mid : Spaces) (own shared : Pieces) (rs : List MemRec)
    (going : Going i instances sharing groups spaces mid) (same_own : SamePieces (own_of (slot_at instances i)) own) (same_shared : SamePieces (left_with sharing i) shared)
    (table : (m : Member M) → slot_at instances i ≡ Some m → rs ≡ (instance_of m.inst).table) (m : Member M) (at : slot_at instances i ≡ Some m) where
  its_own : SamePieces (instance_of m.inst).own own
  its_own = subst (λ (slot : Option (Member M)). SamePieces (own_of slot) own) at same_own

  -- the pieces that come back are those of the records that no other instance holds
  pub records_back : HasRecords (map_of mid) i rs own shared
  records_back =
      subst (λ (ts : List MemRec). HasRecords (map_of mid) i ts own shared) (sym (table m at))
      (records_by_table mid i (instance_of m.inst).table own shared
      (records_left i instances sharing groups spaces mid going.next going.standing going.held going.is_next going.others m at own shared its_own same_shared going.left (λ space. (going.stays space).region)))

  pub pieces_back : (sharers : ℕ → Option ℕ) × ArePlacedPieces mid rs sharers own shared
  pieces_back = (
    (λ k. missing (piece_at shared k)),
    subst (λ (ts : List MemRec). ArePlacedPieces mid ts (λ k. missing (piece_at shared k)) own shared) (sym (table m at))
        (pieces_by_table mid i (instance_of m.inst).table own shared (λ k. missing (piece_at shared k))
        (pieces_left i instances sharing groups spaces mid going.next going.standing going.held going.is_next going.others m at own shared its_own same_shared going.left (λ space. (going.stays space).region))),
  )

-- ---- those that stay

module _ {M : Type 0} (i : ℕ) {instances instances' : List (Option (Member M))} {sharing sharing' : List Locations} {groups groups' : List Group}
    {spaces mid : Spaces} (spaces' : Spaces)
    (going : Going i instances sharing groups spaces mid) (others : OthersSame i instances sharing groups instances' sharing' groups')
    (left : slot_at instances' i ≡ None) (nothing : shared_at sharing' i ≡ no_pieces) (handed : (j k : ℕ) → IsSameLocation (location_without sharing i k j) (location_at (locations_at sharing' j) k))
    (least : AreLeast sharing') (together : AreTogether instances' sharing')
    (map : map_of spaces' ≡ without_owners (is_instance's i) (map_of mid))
    (taken : (o : Owner) (space : Space) → ((k : ℕ) → o ≢ Record i k) → owned o (blocks_in (map_of spaces') space) ≡ owned o (blocks_in (map_of mid) space))
    (stay : AreSameSpaces mid spaces') where
  region_then : (space : Space) → (space_in spaces' space).region ≡ (space_in spaces space).region
  region_then space = (stay space).region ∙ (going.stays space).region

  other_there : (j : ℕ) (n : Member M) → slot_at instances' j ≡ Some n → j ≢ i
  other_there j n at e = none-some _ (sym left ∙ ap (slot_at instances') (sym e) ∙ at)

  owner_beside : (j : ℕ) (n : Member M) → slot_at instances' j ≡ Some n → IsPieceThere spaces' j (owner_of sharing' j) (table_of n) (instance_of n.inst).own (shared_at sharing' j) (group_at groups' n.group)
  owner_beside j n at =
      let apart = other_there j n at in
      let was = before (slot_at instances j) n (subst (λ x. IsSameMember (slot_at instances j) x) at (slot_of_same _ _ (others.slot j apart))) in
      let m = was.0 in
      subst (λ (g : ℕ). IsPieceThere spaces' j (owner_of sharing' j) (table_of n) (instance_of n.inst).own (shared_at sharing' j) (group_at groups' g)) (sym was.1.1.group)
      (subst (λ (rs : List MemRec). IsPieceThere spaces' j (owner_of sharing' j) rs (instance_of n.inst).own (shared_at sharing' j) (group_at groups' m.group)) (sym was.1.1.table)
      (owner_stays spaces' j (owner_of sharing' j) (table_of m) (instance_of m.inst).own (instance_of n.inst).own (shared_at sharing j) (shared_at sharing' j) (group_at groups m.group) (group_at groups' m.group)
      was.1.1.own (others.pieces j apart) (λ space. alike_same _ _ (others.blocks m.group space))
      (owner_then i instances sharing groups spaces mid going.next going.standing going.held going.is_next going.others sharing' spaces' handed going.handed taken region_then j m was.1.0 apart)))

  none_was : (j : ℕ) → j ≢ i → slot_at instances' j ≡ None → slot_at instances j ≡ None
  none_was j apart none = none_before _ _ (slot_of_same _ _ (others.slot j apart)) none

  free_beside : (j : ℕ) → slot_at instances' j ≡ None → shared_at sharing' j ≡ no_pieces
  free_beside j none =
      elim (eqb_tells j i) [
        | inl e ↦ ap (shared_at sharing') e.1 ∙ nothing
        | inr e ↦ pieces_none (shared_at sharing' j) (subst (λ (p : Pieces). SamePieces p (shared_at sharing' j)) (going.standing.free j (none_was j e.1 none)) (others.pieces j e.1))
      ]

  gone_beside : (j k : ℕ) (space : Space) → slot_at instances' j ≡ None → owned (Record j k) (blocks_in (map_of spaces') space) ≡ []
  gone_beside j k space none =
      elim (eqb_tells j i) [
        | inl e ↦ owned_gone (is_instance's i) (Record j k) mid spaces' space (eq-eqb i j (sym e.1)) map
        | inr e ↦
            gone_then i instances sharing groups spaces mid going.next going.standing going.held going.is_next going.others sharing' spaces' handed going.handed taken region_then j k space e.1 (none_was j e.1 none)
      ]

  member_was : (k j : ℕ) → k ≢ group_of (slot_at instances i) → is_member_of k (slot_at instances' j) ≡ false → is_member_of k (slot_at instances j) ≡ false
  member_was k j apart none =
      elim (eqb_tells j i) [
        | inl e ↦ ap (λ n. is_member_of k (slot_at instances n)) e.1 ∙ not_of (slot_at instances i) k apart
        | inr e ↦ member_before k (slot_at instances j) (slot_at instances' j) (slot_of_same _ _ (others.slot j e.1)) ∙ none
      ]

  pub location_beside : AgreeWithMapBut (group_of (slot_at instances i)) instances' sharing' groups' spaces'
  location_beside = record {
    owners = owner_beside;
    least = least;
    together = together;
    free = free_beside;
    gone = gone_beside;
    blocks = λ k space.
        group_then i instances sharing groups spaces mid going.next going.standing going.held going.is_next going.others sharing' spaces' handed going.handed taken region_then k space
        ∙ going.standing.blocks k space
        ∙ sym (align_same (block_in (group_at groups k) space) (block_in (group_at groups' k) space) (GroupScratch k) (others.blocks k space));
    regions = λ k space. rw (region_then space) (is_of_same _ _ _ (others.blocks k space).0 (going.standing.regions k space));
    unused = λ k space apart none. none_same _ _ (others.blocks k space) (going.standing.unused k space (λ j. member_was k j apart (none j)));
  }

-- the other instances are the same
pub same_beside : {M : Type 0} (i : ℕ) {instances instances' : List (Option (Member M))} {sharing sharing' : List Locations} {groups groups' : List Group}
    → OthersSame i instances sharing groups instances' sharing' groups' → (j : ℕ) → j ≢ i → SlotIsSame (slot_at instances j) (slot_at instances' j)
same_beside i others j apart = slot_same _ _ (slot_of_same _ _ (others.slot j apart))
