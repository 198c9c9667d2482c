-- What stands where a group has grown.
use Rattle.std.proofs.Common.{◌≡◌, ◌≢◌, ℕ, inl, inr, List, Option, Some, None, refl, sym, ◌∙◌, ap, subst, arith}
use Rattle.std.proofs.lemmas.Option.{none-some}
use Rattle.std.proofs.lemmas.Bool.Decides.{eqb_tells}
use Rattle.mem_rec.specs.declared.MemRec.{MemRec}
use Rattle.mem_rec.specs.declared.Space.{Space}
use Rattle.mem_rec.specs.declared.Space.TheVariants.{Daram, Saram, External}
use Rattle.mem_rec.specs.Layout.{scratch_need, scratch_align}
use Rattle.space_raw.specs.Span.{Extent, Span}
use Rattle.record_loans.specs.declared.pieces.Pieces.{Pieces}
use Rattle.record_loans.specs.declared.block.ScratchBlock.{ScratchBlock}
use Rattle.record_loans.specs.Pieces.{SamePieces}
use Rattle.record_loans.specs.Blocks.{block_align, block_piece, IsSameBlock}
use Rattle.scratch_group.specs.declared.group.Group.{Group}
use Rattle.scratch_group.specs.Blocks.{block_in}
use Rattle.lifecycle.specs.Moves.{HasRoom}
use Rattle.lifecycle.specs.Rooms.{NoNeed}
use Rattle.lifecycle.specs.States.{Fits}
use Rattle.lifecycle.proofs.Frames.{placed-unplaced}
use Rattle.host_map.specs.declared.placed.Owner.{Owner}
use Rattle.host_map.specs.declared.placed.Owner.TheVariants.{Record, Scratch}
use Rattle.host_spaces.specs.Blocks.{block_of_piece, without_piece}
use Rattle.host_map.specs.Blocks.{owned}
use Rattle.host_spaces.proofs.Inserts.{sorted}
use Rattle.host_spaces.specs.declared.pieces.NewBlocks.{NewBlocks}
use Rattle.host_spaces.specs.declared.pieces.OldBlocks.{OldBlocks}
use Rattle.host_spaces.specs.declared.spaces.Spaces.{Spaces}
use Rattle.host_map.specs.MemoryMap.{MemoryMap, blocks_in}
use Rattle.host_spaces.specs.MemoryMap.{map_of, space_in}
use Rattle.host_spaces.specs.Pieces.{HasBlocks, IsNeeded, new_block, old_piece, with_new, without_pieces}
use Rattle.host_spaces.specs.Wants.{block_need}
use Rattle.host_table.specs.declared.member.Member.{Member}
use Rattle.host_shared.specs.declared.locations.Locations.{Locations}
use Rattle.host_shared.specs.Locations.{location_at, locations_at, owner_of, shared_at}
use Rattle.host_table.specs.Table.{slot_at, group_at, instance_of, AreHeld}
use Rattle.host_table.proofs.Leasts.{least_stays, together_members}
use Rattle.host_table.proofs.Together.{owner_lives}
use Rattle.host_table.proofs.Leasts.{owner_same}
use Rattle.host_table.specs.Frames.{IsSameMember, SameMembers}
use Rattle.host_moves.specs.Standing.{IsPieceThere, IsOf, AreOrdered, table_of}
use Rattle.host_moves.proofs.Owners.{owner_by_same, alike_same, owner_elsewhere, owner_stays, before, none_before, member_before, pieces_none, is_of_same, none_same, align_same, standing_stays}
use Rattle.host_moves.proofs.Rooms.{room_at_owner}
use Rattle.host_moves.proofs.Instances.{not_a_group, other_group}
use Rattle.host_instances.specs.Blocks.{newer, no_blocks, replaced_piece, replaced_pieces}
use Rattle.host_instances.specs.Growth.{IsLarger, ArePlaced, AreGrown}
use Rattle.host_instances.proofs.Replaced.{block_left}
use Rattle.host_instances.proofs.Needed.{larger_serves, needed_serves}

owner_of_new : (owner : Extent) (new old : Option ScratchBlock) → IsOf owner (block_piece new) → IsOf owner (block_piece old) → IsOf owner (block_piece (newer new old))
owner_of_new owner None old is was = was
owner_of_new owner (Some b) old is was = is

-- the blocks of a memory map without some
pub without_in : (map : MemoryMap) (pieces : OldBlocks) (space : Space) → blocks_in (without_pieces map pieces) space ≡ without_piece (old_piece pieces space) (blocks_in map space)
without_in map pieces Daram = refl
without_in map pieces Saram = refl
without_in map pieces External = refl

-- an instance whose group has other blocks
pub owner_in : (spaces : Spaces) (i : ℕ) (at : ℕ → ℕ) (rs : List MemRec) (own shared : Pieces) (y y' : Group) → NoNeed rs y' → IsPieceThere spaces i at rs own shared y → IsPieceThere spaces i at rs own shared y'
owner_in spaces i at rs own shared y y' need owner = record { valid = owner.valid; need = need; records = owner.records; away = owner.away; pieces = owner.pieces }

module _ {M : Type 0} (g : ℕ) (blocks : NewBlocks) (instances : List (Option (Member M))) (sharing : List Locations) (groups groups' : List Group) (spaces spaces' : Spaces) (old : OldBlocks)
    (placed : ArePlaced g blocks instances sharing groups spaces) (ordered : AreOrdered spaces)
    (is_old : (space : Space) → old_piece old space ≡ replaced_piece (new_block blocks space) (block_in (group_at groups g) space))
    (is_new : (space : Space) → block_in (group_at groups' g) space ≡ newer (new_block blocks space) (block_in (group_at groups g) space))
    (same : (h : ℕ) (space : Space) → h ≢ g → block_in (group_at groups' h) space ≡ block_in (group_at groups h) space)
    (map : map_of spaces' ≡ without_pieces (map_of spaces) old)
    (others : (o : Owner) (space : Space) → o ≢ Scratch g → owned o (blocks_in (map_of spaces') space) ≡ owned o (blocks_in (map_of spaces) space))
    (regions : (space : Space) → (space_in spaces' space).region ≡ (space_in spaces space).region) where
  blocks_now : (space : Space) → owned (Scratch g) (blocks_in (map_of spaces') space)
      ≡ block_of_piece (Scratch g) (block_align (block_in (group_at groups' g) space)) (block_piece (block_in (group_at groups' g) space))
  blocks_now space =
      ap (λ (p : MemoryMap). owned (Scratch g) (blocks_in p space)) map
      ∙ ap (owned (Scratch g)) (without_in (map_of spaces) old space)
      ∙ ap (λ (p : Option Span). owned (Scratch g) (without_piece p (blocks_in (map_of spaces) space))) (is_old space)
      ∙ block_left 0 (blocks_in (map_of spaces) space) g (new_block blocks space) (block_in (group_at groups g) space)
      (sorted (space_in spaces space).region.size 0 (blocks_in (map_of spaces) space) (ordered space).order (ordered space).apart)
      (placed.placed space ∙ ap (with_new g (new_block blocks space)) (placed.standing.blocks g space))
      ∙ ap (λ (b : Option ScratchBlock). block_of_piece (Scratch g) (block_align b) (block_piece b)) (sym (is_new space))

  all_blocks : (h : ℕ) → HasBlocks (map_of spaces') h (group_at groups' h)
  all_blocks h space = elim (eqb_tells h g) [
    | inl e ↦ rw e.1 (blocks_now space)
    | inr e ↦
        others (Scratch h) space (other_group g h e.1) ∙ placed.others h space e.1 ∙ placed.standing.blocks h space
        ∙ ap (λ (b : Option ScratchBlock). block_of_piece (Scratch h) (block_align b) (block_piece b)) (sym (same h space e.1))
  ]

  all_regions : (h : ℕ) (space : Space) → IsOf (space_in spaces' space).region (block_piece (block_in (group_at groups' h) space))
  all_regions h space =
      rw (regions space) (elim (eqb_tells h g) [
        | inl e ↦ rw (e.1, is_new space) (owner_of_new (space_in spaces space).region (new_block blocks space) (block_in (group_at groups g) space) (placed.owner space) (rw (placed.regions space) (placed.standing.regions g space)))
        | inr e ↦ rw (same h space e.1, placed.regions space) (placed.standing.regions h space)
      ])

  -- whom the group's blocks served, they serve still
  pub need_now : (rs : List MemRec) (h : ℕ) → NoNeed rs (group_at groups h) → NoNeed rs (group_at groups' h)
  need_now rs h need space = elim (eqb_tells h g) [
    | inl e ↦ rw (e.1, is_new space) (larger_serves (block_in (group_at groups g) space) (new_block blocks space) (scratch_need rs space) (scratch_align rs space) (placed.larger space) (rw e.1 at (need space)))
    | inr e ↦ rw (same h space e.1) (need space)
  ]

  pub grown_now : AreHeld instances sharing → AreGrown g instances sharing groups' spaces'
  grown_now held = record {
    owners = λ i m at.
        owner_in spaces' i (owner_of sharing i) (table_of m) (instance_of m.inst).own (shared_at sharing i) (group_at groups m.group) (group_at groups' m.group)
        (need_now (table_of m) m.group (placed.standing.owners i m at).need)
        (owner_elsewhere placed.before spaces' i (owner_of sharing i) (table_of m) (instance_of m.inst).own (shared_at sharing i) (group_at groups m.group)
        (λ k space.
        let owner = owner_lives instances sharing i k m held at in
        others (Record (owner_of sharing i k) k) space (not_a_group (owner_of sharing i k) k g) ∙ placed.records (owner_of sharing i k) k owner.0 space owner.1)
        (λ k space apart. others (Record i k) space (not_a_group i k g) ∙ placed.records i k m space at)
        (λ space. regions space ∙ placed.regions space)
        (placed.standing.owners i m at));
    least = placed.standing.least;
    together = placed.standing.together;
    free = placed.standing.free;
    blocks = all_blocks;
    regions = all_regions;
    unused = λ h space apart none. same h space apart ∙ placed.standing.unused h space none;
  }

-- ---- no new block

none_old : (y : Group) (space : Space) → old_piece (replaced_pieces no_blocks y) space ≡ replaced_piece (new_block no_blocks space) (block_in y space)
none_old y Daram = refl
none_old y Saram = refl
none_old y External = refl

none_new : (y : Group) (space : Space) → block_in y space ≡ newer (new_block no_blocks space) (block_in y space)
none_new y Daram = refl
none_new y Saram = refl
none_new y External = refl

-- the group stands as it stood
pub grown_still : {M : Type 0} (g : ℕ) (instances : List (Option (Member M))) (sharing : List Locations) (groups : List Group) (spaces : Spaces)
    → ArePlaced g no_blocks instances sharing groups spaces → AreOrdered spaces → AreHeld instances sharing → AreGrown g instances sharing groups spaces
grown_still g instances sharing groups spaces placed ordered held =
    grown_now g no_blocks instances sharing groups groups spaces spaces (replaced_pieces no_blocks (group_at groups g)) placed ordered
    (none_old (group_at groups g)) (none_new (group_at groups g)) (λ h space apart. refl) refl (λ o space apart. refl) (λ space. refl) held

-- it has all that is needed
pub need_still : (rs : List MemRec) (y : Group) (owners : Space → Extent) → ((space : Space) → IsNeeded (owners space) (block_need rs y space) (new_block no_blocks space)) → NoNeed rs y
need_still rs y owners needed Daram = needed_serves (owners Daram) (block_in y Daram) None (scratch_need rs Daram) (scratch_align rs Daram) (needed Daram)
need_still rs y owners needed Saram = needed_serves (owners Saram) (block_in y Saram) None (scratch_need rs Saram) (scratch_align rs Saram) (needed Saram)
need_still rs y owners needed External = needed_serves (owners External) (block_in y External) None (scratch_need rs External) (scratch_align rs External) (needed External)

-- each instance has room
pub room_of_grown : {M : Type 0} (g : ℕ) (instances : List (Option (Member M))) (sharing : List Locations) (groups : List Group) (spaces : Spaces) → AreOrdered spaces → AreGrown g instances sharing groups spaces
    → (i : ℕ) (m : Member M) → slot_at instances i ≡ Some m → HasRoom (instance_of m.inst) (shared_at sharing i) (group_at groups m.group)
room_of_grown g instances sharing groups spaces ordered grown i m at =
    subst (λ (rs : List MemRec). Fits rs (instance_of m.inst).own (shared_at sharing i) (group_at groups m.group))
    (placed-unplaced (instance_of m.inst).table (instance_of m.inst).own (shared_at sharing i) (group_at groups m.group))
    (room_at_owner spaces i (owner_of sharing i) m.group (table_of m) (instance_of m.inst).own (shared_at sharing i) (group_at groups m.group) ordered (grown.owners i m at) (grown.blocks m.group) (grown.regions m.group))

-- ---- only words and bases differ

larger_same : (b c new : Option ScratchBlock) → IsSameBlock b c → IsLarger b new → IsLarger c new
larger_same b c None same larger = tt
larger_same None None (Some n) same larger = larger
larger_same None (Some c) (Some n) same larger = absurd (none-some _ (sym same.0))
larger_same (Some b) None (Some n) same larger = absurd same.0
larger_same (Some b) (Some c) (Some n) same larger =
    (let long = larger.0 in let e = same.0.2 in omega (arith, long, e), let fine = larger.1 in let e = same.1 in omega (arith, fine, e))

pub placed_stays : {M : Type 0} {instances instances' : List (Option (Member M))} {sharing sharing' : List Locations} {groups groups' : List Group} (g : ℕ) (blocks : NewBlocks) (spaces : Spaces)
    → SameMembers instances sharing groups instances' sharing' groups' → ArePlaced g blocks instances sharing groups spaces → ArePlaced g blocks instances' sharing' groups' spaces
placed_stays {M} {instances} {instances'} {sharing} {sharing'} {groups} {groups'} g blocks spaces same placed = record {
  before = placed.before;
  standing = standing_stays same placed.standing;
  records = λ i k n space at.
      let was = before (slot_at instances i) n (subst (λ x. IsSameMember (slot_at instances i) x) at (same.slot i)) in
      placed.records i k was.0 space was.1.0;
  others = placed.others;
  placed = placed.placed;
  regions = placed.regions;
  owner = placed.owner;
  larger = λ space. larger_same _ _ (new_block blocks space) (same.blocks g space) (placed.larger space);
}

pub grown_stays : {M : Type 0} {instances instances' : List (Option (Member M))} {sharing sharing' : List Locations} {groups groups' : List Group} (g : ℕ) (spaces : Spaces)
    → SameMembers instances sharing groups instances' sharing' groups' → AreGrown g instances sharing groups spaces → AreGrown g instances' sharing' groups' spaces
grown_stays {M} {instances} {instances'} {sharing} {sharing'} {groups} {groups'} g spaces same grown = record {
  owners = λ i n at.
      let was = before (slot_at instances i) n (subst (λ x. IsSameMember (slot_at instances i) x) at (same.slot i)) in
      let m = was.0 in
      subst (λ (h : ℕ). IsPieceThere spaces i (owner_of sharing' i) (table_of n) (instance_of n.inst).own (shared_at sharing' i) (group_at groups' h)) (sym was.1.1.group)
      (subst (λ (rs : List MemRec). IsPieceThere spaces i (owner_of sharing' i) rs (instance_of n.inst).own (shared_at sharing' i) (group_at groups' m.group)) (sym was.1.1.table)
      (owner_by_same spaces i (owner_of sharing i) (owner_of sharing' i) (table_of m) (instance_of n.inst).own (shared_at sharing' i) (group_at groups' m.group) (λ k. owner_same i (location_at (locations_at sharing i) k) (location_at (locations_at sharing' i) k) (same.stands i k))
      (owner_stays spaces i (owner_of sharing i) (table_of m) (instance_of m.inst).own (instance_of n.inst).own (shared_at sharing i) (shared_at sharing' i) (group_at groups m.group) (group_at groups' m.group)
      was.1.1.own (same.pieces i) (λ space. alike_same _ _ (same.blocks m.group space)) (grown.owners i m was.1.0))));
  least = least_stays sharing sharing' same.stands grown.least;
  together = together_members instances instances' sharing sharing' same.slot same.stands grown.together;
  free = λ i none. pieces_none (shared_at sharing' i) (subst (λ (p : Pieces). SamePieces p (shared_at sharing' i)) (grown.free i (none_before _ _ (same.slot i) none)) (same.pieces i));
  blocks = λ h space. grown.blocks h space ∙ sym (align_same (block_in (group_at groups h) space) (block_in (group_at groups' h) space) (Scratch h) (same.blocks h space));
  regions = λ h space. is_of_same _ _ _ (same.blocks h space).0 (grown.regions h space);
  unused = λ h space apart none. none_same _ _ (same.blocks h space) (grown.unused h space apart (λ i. member_before h (slot_at instances i) (slot_at instances' i) (same.slot i) ∙ none i));
}
