-- Instances that stay where the memory map shows them.
use Rattle.std.proofs.Common.{◌≡◌, ◌≢◌, ◌⊎◌, inl, inr, ℕ, Bool, true, false, List, [], ◌∷◌, length, Option, Some, None, refl, sym, ◌∙◌, ap, subst, if◌then◌else◌}
use Rattle.std.proofs.lemmas.Bool.Decides.{eqb_tells}
use Rattle.std.proofs.lemmas.Option.{none-some}
use Rattle.space_raw.specs.Span.{Extent, Span}
use Rattle.mem_rec.specs.declared.MemRec.{MemRec}
use Rattle.mem_rec.specs.declared.Space.{Space}
use Rattle.mem_rec.specs.declared.Attr.{Attr}
use Rattle.mem_rec.specs.declared.Attr.TheVariants.{Scratch, Persist, WriteOnce}
use Rattle.mem_rec.specs.Records.{same_space}
use Rattle.mem_rec.specs.Layout.{scratch_need, scratch_align}
use Rattle.ialg.specs.Records.{record_at, unplaced}
use Rattle.record_loans.specs.declared.pieces.Pieces.{Pieces}
use Rattle.record_loans.specs.declared.block.ScratchBlock.{ScratchBlock}
use Rattle.record_loans.specs.Pieces.{piece_at, IsSamePiece, SamePieces, no_pieces}
use Rattle.record_loans.specs.Blocks.{block_piece, block_align, IsSameBlock}
use Rattle.scratch_group.specs.declared.group.Group.{Group}
use Rattle.scratch_group.specs.Blocks.{block_in, block_needed}
use Rattle.lifecycle.specs.Rooms.{NoNeed, lasting_piece, piece_of_record}
use Rattle.record_loans.proofs.PieceLemmas.{piece_same}
use Rattle.host_map.specs.declared.placed.Owner.{Owner}
use Rattle.host_map.specs.declared.placed.Owner.TheVariants.{Record, Scratch as GroupScratch}
use Rattle.host_map.specs.declared.placed.Placed.{Placed}
use Rattle.host_spaces.specs.Blocks.{block_of, block_of_piece}
use Rattle.host_map.specs.Blocks.{owned, renamed_blocks}
use Rattle.host_spaces.specs.declared.spaces.Spaces.{Spaces}
use Rattle.host_map.specs.MemoryMap.{blocks_in}
use Rattle.host_spaces.specs.MemoryMap.{map_of, space_in}
use Rattle.host_spaces.specs.Pieces.{IsPieceOf, record_block}
use Rattle.host_table.specs.declared.member.Member.{Member}
use Rattle.host_shared.specs.declared.locations.Locations.{Locations}
use Rattle.host_shared.specs.Locations.{location_at, locations_at, owner_of, shared_at}
use Rattle.host_table.specs.Table.{slot_at, group_at, instance_of, is_member_of}
use Rattle.host_table.specs.Frames.{SameSlot, SameMember, IsSameMember, SameMembers, SameTables}
use Rattle.host_table.proofs.Leasts.{least_stays, together_members}
use Rattle.host_table.proofs.Leasts.{owner_same}
use Rattle.host_moves.specs.Standing.{IsPieceThere, IsOf, AgreeWithMap, table_of, SlotIsSame}

-- a block of the same size and alignment, wherever it lies
abbrev pub IsAlike : Option ScratchBlock → Option ScratchBlock → Type 0
IsAlike None new = new ≡ None
IsAlike (Some b) None = ⊥
IsAlike (Some b) (Some c) = (length c.piece.words ≡ length b.piece.words) × (c.align ≡ b.align)

pub alike_same : (b c : Option ScratchBlock) → IsSameBlock b c → IsAlike b c
alike_same None None e = refl
alike_same None (Some c) e = absurd (none-some _ (sym e.0))
alike_same (Some b) None e = absurd e.0
alike_same (Some b) (Some c) e = (e.0.2, e.1)

pub needed_alike : (b c : Option ScratchBlock) (need align : ℕ) → IsAlike b c → block_needed b need align ≡ None → block_needed c need align ≡ None
needed_alike None c need align e none = rw e none
needed_alike (Some b) None need align e none = absurd e
needed_alike (Some b) (Some c) need align e none = rw (e.0, e.1) none

pub need_alike : (rs : List MemRec) (y y' : Group) → ((space : Space) → IsAlike (block_in y space) (block_in y' space)) → NoNeed rs y → NoNeed rs y'
need_alike rs y y' alike need space = needed_alike (block_in y space) (block_in y' space) (scratch_need rs space) (scratch_align rs space) (alike space) (need space)

-- the same block of the memory map
pub block_alike : (o : Owner) (al : ℕ) (p q : Option Span) → IsSamePiece p q → block_of_piece o al q ≡ block_of_piece o al p
block_alike o al None q e = rw e refl
block_alike o al (Some p) None e = absurd e
block_alike o al (Some p) (Some q) e =
    let b : block_of o al q ≡ block_of o al p = rw (e.1, e.2) refl in
    ap (λ (x : Placed). x ∷ []) b

pub lasting_alike : (a : Attr) (o o' s s' : Option Span) → IsSamePiece o o' → IsSamePiece s s' → IsSamePiece (lasting_piece a o s) (lasting_piece a o' s')
lasting_alike Scratch o o' s s' eo es = refl
lasting_alike Persist o o' s s' eo es = eo
lasting_alike WriteOnce o o' s s' eo es = es

pub record_alike : (i k : ℕ) (r : MemRec) (space : Space) (p q : Option Span) → IsSamePiece p q → record_block i k r space q ≡ record_block i k r space p
record_alike i k r space p q e = ap (λ (bs : List Placed). if same_space r.space space then bs else []) (block_alike (Record i k) r.align p q e)

pub piece_alike : (owner : Extent) (size : ℕ) (wanted : Bool) (p q : Option Span) → IsSamePiece p q → IsPieceOf owner size wanted p → IsPieceOf owner size wanted q
piece_alike owner size wanted None q e is = rw e is
piece_alike owner size wanted (Some p) None e is = absurd e
piece_alike owner size wanted (Some p) (Some q) e is = (is.0, e.0 ∙ is.1, e.2 ∙ is.2)

-- a record's block under another owner's name
renamed_piece : (i h k : ℕ) (r : MemRec) (space : Space) (t : Bool) (p : Option Span) → same_space r.space space ≡ t
    → renamed_blocks (λ o. Record h k) (record_block i k r space p) ≡ record_block h k r space p
renamed_piece i h k r space false p is = rw is refl
renamed_piece i h k r space true None is = rw is refl
renamed_piece i h k r space true (Some p) is = rw is refl

pub renamed_record : (i h k : ℕ) (r : MemRec) (space : Space) (p : Option Span) → renamed_blocks (λ o. Record h k) (record_block i k r space p) ≡ record_block h k r space p
renamed_record i h k r space p = renamed_piece i h k r space (same_space r.space space) p refl

-- a record without a piece has no block
none_if : (t : Bool) → (if t then [] else []) ≡ (let bs : List Placed = [] in bs)
none_if true = refl
none_if false = refl

pub no_record : (i k : ℕ) (r : MemRec) (space : Space) → record_block i k r space None ≡ []
no_record i k r space = none_if (same_space r.space space)

-- only words differ
pub owner_stays : (spaces : Spaces) (i : ℕ) (at : ℕ → ℕ) (rs : List MemRec) (own own' shared shared' : Pieces) (y y' : Group) → SamePieces own own' → SamePieces shared shared'
    → ((space : Space) → IsAlike (block_in y space) (block_in y' space)) → IsPieceThere spaces i at rs own shared y → IsPieceThere spaces i at rs own' shared' y'
owner_stays spaces i at rs own own' shared shared' y y' so ss alike owner = record {
  valid = owner.valid;
  need = need_alike rs y y' alike owner.need;
  away = owner.away;
  records = λ k space. owner.records k space
      ∙ sym (record_alike (at k) k (record_at rs k) space (piece_of_record rs own shared k) (piece_of_record rs own' shared' k)
      (lasting_alike (record_at rs k).attr _ _ _ _ (piece_same own own' k so) (piece_same shared shared' k ss)));
  pieces = record {
    persistent = λ k. piece_alike _ _ _ (piece_at own k) (piece_at own' k) (piece_same own own' k so) (owner.pieces.persistent k);
    write_once = λ k. piece_alike _ _ _ (piece_at shared k) (piece_at shared' k) (piece_same shared shared' k ss) (owner.pieces.write_once k);
  };
}

-- the memory map has the same blocks of the instance
pub owner_elsewhere : (spaces spaces' : Spaces) (i : ℕ) (at : ℕ → ℕ) (rs : List MemRec) (own shared : Pieces) (y : Group)
    → ((k : ℕ) (space : Space) → owned (Record (at k) k) (blocks_in (map_of spaces') space) ≡ owned (Record (at k) k) (blocks_in (map_of spaces) space))
    → ((k : ℕ) (space : Space) → at k ≢ i → owned (Record i k) (blocks_in (map_of spaces') space) ≡ owned (Record i k) (blocks_in (map_of spaces) space))
    → ((space : Space) → (space_in spaces' space).region ≡ (space_in spaces space).region)
    → IsPieceThere spaces i at rs own shared y → IsPieceThere spaces' i at rs own shared y
owner_elsewhere spaces spaces' i at rs own shared y blocks away regions owner = record {
  valid = owner.valid;
  need = owner.need;
  records = λ k space. blocks k space ∙ owner.records k space;
  away = λ k space apart. away k space apart ∙ owner.away k space apart;
  pieces = record {
    persistent = λ k. rw (regions (record_at rs k).space) (owner.pieces.persistent k);
    write_once = λ k. rw (regions (record_at rs k).space) (owner.pieces.write_once k);
  };
}

-- with the same owners
pub owner_by_same : (spaces : Spaces) (i : ℕ) (at at' : ℕ → ℕ) (rs : List MemRec) (own shared : Pieces) (y : Group) → ((k : ℕ) → at' k ≡ at k) → IsPieceThere spaces i at rs own shared y → IsPieceThere spaces i at' rs own shared y
owner_by_same spaces i at at' rs own shared y same owner = record {
  valid = owner.valid;
  need = owner.need;
  records = λ k space. subst (λ (h : ℕ). owned (Record h k) (blocks_in (map_of spaces) space) ≡ record_block h k (record_at rs k) space (piece_of_record rs own shared k)) (sym (same k)) (owner.records k space);
  away = λ k space apart. owner.away k space (λ e. apart (same k ∙ e));
  pieces = owner.pieces;
}

-- a block that is the instance's own
pub own_owner : (spaces : Spaces) (i : ℕ) (at : ℕ → ℕ) (rs : List MemRec) (own shared : Pieces) (y : Group) → IsPieceThere spaces i at rs own shared y → (k : ℕ) (space : Space)
    → (at k ≡ i) ⊎ (owned (Record i k) (blocks_in (map_of spaces) space) ≡ [])
own_owner spaces i at rs own shared y owner k space =
    elim (eqb_tells (at k) i) [
      | inl e ↦ inl e.1
      | inr e ↦ inr (owner.away k space e.1)
    ]

pub owner_record : (spaces : Spaces) (i : ℕ) (at : ℕ → ℕ) (rs : List MemRec) (own shared : Pieces) (y : Group) → IsPieceThere spaces i at rs own shared y → (k : ℕ) (space : Space) (h : ℕ) → at k ≡ h
    → owned (Record h k) (blocks_in (map_of spaces) space) ≡ record_block h k (record_at rs k) space (piece_of_record rs own shared k)
owner_record spaces i at rs own shared y owner k space h here =
    subst (λ (h : ℕ). owned (Record h k) (blocks_in (map_of spaces) space) ≡ record_block h k (record_at rs k) space (piece_of_record rs own shared k)) here (owner.records k space)

-- ---- the same instances and blocks

pub slot_of_same : {M : Type 0} (a b : Option (Member M)) → SameSlot a b → IsSameMember a b
slot_of_same None b e = e
slot_of_same (Some m) None e = absurd e
slot_of_same (Some m) (Some n) e = record { group = e.0; kind = e.1.kind; params = e.1.params; table = ap unplaced e.1.table; own = e.1.own }

pub members_of_same : {M : Type 0} {instances instances' : List (Option (Member M))} {sharing sharing' : List Locations} {groups groups' : List Group}
    → SameTables instances sharing groups instances' sharing' groups' → SameMembers instances sharing groups instances' sharing' groups'
members_of_same {instances} {instances'} same = record {
  slot = λ i. slot_of_same (slot_at instances i) (slot_at instances' i) (same.slot i);
  pieces = same.pieces;
  stands = same.stands;
  blocks = same.blocks;
}

-- the member that stands there was there before
pub before : {M : Type 0} (a : Option (Member M)) (n : Member M) → IsSameMember a (Some n) → (m : Member M) × ((a ≡ Some m) × SameMember m n)
before None n e = absurd (none-some _ (sym e))
before (Some m) n e = (m, (refl, e))

pub none_before : {M : Type 0} (a b : Option (Member M)) → IsSameMember a b → b ≡ None → a ≡ None
none_before None b e none = refl
none_before (Some m) b e none = absurd (subst (λ x. IsSameMember (Some m) x) none e)

pub member_before : {M : Type 0} (g : ℕ) (a b : Option (Member M)) → IsSameMember a b → is_member_of g a ≡ is_member_of g b
member_before g None b e = rw e refl
member_before g (Some m) None e = absurd e
member_before g (Some m) (Some n) e = rw e.group refl

pub pieces_none : (shared : Pieces) → SamePieces no_pieces shared → shared ≡ no_pieces
pieces_none shared same =
    ap (λ (p : Option Span). let r : Pieces = record { p0 = p; p1 = shared.p1; p2 = shared.p2; p3 = shared.p3 } in r) same.p0
    ∙ ap (λ (p : Option Span). let r : Pieces = record { p0 = None; p1 = p; p2 = shared.p2; p3 = shared.p3 } in r) same.p1
    ∙ ap (λ (p : Option Span). let r : Pieces = record { p0 = None; p1 = None; p2 = p; p3 = shared.p3 } in r) same.p2
    ∙ ap (λ (p : Option Span). let r : Pieces = record { p0 = None; p1 = None; p2 = None; p3 = p } in r) same.p3

pub is_of_same : (owner : Extent) (p q : Option Span) → IsSamePiece p q → IsOf owner p → IsOf owner q
is_of_same owner None q e is = rw e tt
is_of_same owner (Some p) None e is = absurd e
is_of_same owner (Some p) (Some q) e is = e.0 ∙ is

pub none_same : (b c : Option ScratchBlock) → IsSameBlock b c → b ≡ None → c ≡ None
none_same None None e none = refl
none_same None (Some c) e none = absurd (none-some _ (sym e.0))
none_same (Some b) c e none = absurd (none-some _ (sym none))

pub align_same : (b c : Option ScratchBlock) (o : Owner) → IsSameBlock b c → block_of_piece o (block_align c) (block_piece c) ≡ block_of_piece o (block_align b) (block_piece b)
align_same b c o e = ap (λ n. block_of_piece o n (block_piece c)) e.1 ∙ block_alike o (block_align b) (block_piece b) (block_piece c) e.0

pub standing_stays : {M : Type 0} {instances instances' : List (Option (Member M))} {sharing sharing' : List Locations} {groups groups' : List Group} {spaces : Spaces}
    → SameMembers instances sharing groups instances' sharing' groups' → AgreeWithMap instances sharing groups spaces → AgreeWithMap instances' sharing' groups' spaces
standing_stays {instances} {instances'} {sharing} {sharing'} {groups} {groups'} {spaces} same standing = record {
  owners = λ i n at.
      let was = before (slot_at instances i) n (subst (λ x. IsSameMember (slot_at instances i) x) at (same.slot i)) in
      let m = was.0 in
      let owner = standing.owners i m was.1.0 in
      subst (λ (g : ℕ). IsPieceThere spaces i (owner_of sharing' i) (table_of n) (instance_of n.inst).own (shared_at sharing' i) (group_at groups' g)) (sym was.1.1.group)
      (subst (λ (rs : List MemRec). IsPieceThere spaces i (owner_of sharing' i) rs (instance_of n.inst).own (shared_at sharing' i) (group_at groups' m.group)) (sym was.1.1.table)
      (owner_by_same spaces i (owner_of sharing i) (owner_of sharing' i) (table_of m) (instance_of n.inst).own (shared_at sharing' i) (group_at groups' m.group) (λ k. owner_same i (location_at (locations_at sharing i) k) (location_at (locations_at sharing' i) k) (same.stands i k))
      (owner_stays spaces i (owner_of sharing i) (table_of m) (instance_of m.inst).own (instance_of n.inst).own (shared_at sharing i) (shared_at sharing' i) (group_at groups m.group) (group_at groups' m.group)
      was.1.1.own (same.pieces i) (λ space. alike_same _ _ (same.blocks m.group space)) owner)));
  least = least_stays sharing sharing' same.stands standing.least;
  together = together_members instances instances' sharing sharing' same.slot same.stands standing.together;
  free = λ i none. pieces_none (shared_at sharing' i) (subst (λ (p : Pieces). SamePieces p (shared_at sharing' i)) (standing.free i (none_before _ _ (same.slot i) none)) (same.pieces i));
  gone = λ i k space none. standing.gone i k space (none_before _ _ (same.slot i) none);
  blocks = λ g space. standing.blocks g space ∙ sym (align_same (block_in (group_at groups g) space) (block_in (group_at groups' g) space) (GroupScratch g) (same.blocks g space));
  regions = λ g space. is_of_same _ _ _ (same.blocks g space).0 (standing.regions g space);
  unused = λ g space none. none_same _ _ (same.blocks g space) (standing.unused g space (λ i. member_before g (slot_at instances i) (slot_at instances' i) (same.slot i) ∙ none i));
}

pub slot_same : {M : Type 0} (a b : Option (Member M)) → IsSameMember a b → SlotIsSame a b
slot_same None b e = e
slot_same (Some m) None e = absurd e
slot_same (Some m) (Some n) e = record { group = e.group; kind = e.kind; params = e.params; table = e.table }
