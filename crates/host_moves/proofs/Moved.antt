-- A record of an instance lies elsewhere.
use Rattle.std.proofs.Common.{◌≡◌, ◌≢◌, ℕ, ◌<◌, inl, inr, Bool, List, [], ◌∷◌, length, Option, Some, None, refl, sym, ◌∙◌, ap, subst, if◌then◌else◌}
use Rattle.std.proofs.lemmas.Option.{none-some, same_Some}
use Rattle.std.proofs.lemmas.Bool.Decides.{eqb_tells}
use Rattle.space_raw.specs.Span.{Extent, Span}
use Rattle.mem_rec.specs.declared.MemRec.{MemRec}
use Rattle.mem_rec.specs.declared.Space.{Space}
use Rattle.mem_rec.specs.declared.Space.TheVariants.{Daram, Saram, External}
use Rattle.host_spaces.specs.Spaces.{SpaceState}
use Rattle.mem_rec.specs.declared.Attr.TheVariants.{Persist, WriteOnce}
use Rattle.mem_rec.specs.Records.{same_space, is_persistent}
use Rattle.ialg.specs.Records.{record_at, unplaced}
use Rattle.lifecycle.specs.declared.instance.Instance.{Instance}
use Rattle.record_loans.specs.declared.pieces.Pieces.{Pieces}
use Rattle.record_loans.specs.Pieces.{piece_at, with_piece}
use Rattle.record_loans.specs.Blocks.{block_piece}
use Rattle.scratch_group.specs.declared.group.Group.{Group}
use Rattle.scratch_group.specs.Blocks.{block_in}
use Rattle.lifecycle.specs.Rooms.{piece_of_record}
use Rattle.host_map.specs.declared.placed.Placed.{Placed}
use Rattle.host_map.specs.declared.placed.Owner.{Owner}
use Rattle.host_map.specs.declared.placed.Owner.TheVariants.{Record, Scratch as GroupScratch}
use Rattle.host_spaces.specs.Blocks.{block_of}
use Rattle.host_map.specs.Blocks.{owned}
use Rattle.host_spaces.specs.declared.spaces.Spaces.{Spaces}
use Rattle.host_map.specs.MemoryMap.{blocks_in}
use Rattle.host_spaces.specs.MemoryMap.{map_of, space_in}
use Rattle.host_spaces.specs.Pieces.{HasBlocks, IsPieceOf, is_write_once, record_block}
use Rattle.host_table.specs.declared.member.Member.{Member}
use Rattle.host_shared.specs.declared.locations.Locations.{Locations}
use Rattle.host_shared.specs.declared.locations.Location.TheVariants.{Here}
use Rattle.host_shared.specs.Locations.{location_at, piece_here, locations_at, owner_by, owner_of, shared_at}
use Rattle.host_shared.specs.Owners.{AllHaveOwners}
use Rattle.host_table.specs.Table.{slot_at, group_at, AreBare, instance_of, is_member_of}
use Rattle.host_shared.proofs.Stands.{piece_with_same, piece_with_other}
use Rattle.host_shared.proofs.Lent.{no_location, seen_at}
use Rattle.host_table.proofs.Held.{IsSameSharer}
use Rattle.host_table.proofs.Together.{together_by_owners}
use Rattle.host_moves.specs.Waiting.{inst_with, slot_with, own_set, holds_with, slid_to}
use Rattle.host_moves.proofs.Owns.{own_set_same, own_set_other}
use Rattle.host_moves.proofs.Sharing.{not_equal}
use Rattle.host_moves.proofs.Slides.{owner_slid, seen_slid, with_still}
use Rattle.host_moves.specs.Standing.{IsPieceThere, IsOf, AgreeWithMap, table_of}
use Rattle.host_moves.proofs.Rooms.{either, space_itself}
use Rattle.host_moves.proofs.Owners.{owner_by_same, owner_record, owner_elsewhere}
use Rattle.host_moves.proofs.Nexts.{IsIn, in_space}
use Rattle.host_moves.proofs.Instances.{piece_there, one_space, other_space, persists, written_once, other_instance, other_record, not_a_group, inst_is}

-- an instance that has other pieces holds the same records
sharer_itself : {M : Type 0} (slot : Option (Member M)) → IsSameSharer slot slot
sharer_itself None = refl
sharer_itself (Some m) = record { kind = refl; params = refl; table = refl }

sharer_with : {M : Type 0} (slot : Option (Member M)) (own : Pieces) → IsSameSharer slot (slot_with slot own)
sharer_with None own = refl
sharer_with (Some m) own = record {
  kind = ap (λ (s : Instance _). s.kind) (inst_is m.inst own);
  params = ap (λ (s : Instance _). s.params) (inst_is m.inst own);
  table = ap (λ (s : Instance _). unplaced s.table) (inst_is m.inst own);
}

sharer_own : {M : Type 0} (instances : List (Option (Member M))) (i : ℕ) (own : Pieces) (j : ℕ) → IsSameSharer (slot_at instances j) (slot_at (own_set instances i own) j)
sharer_own instances i own j =
    elim (eqb_tells j i) [
      | inl e ↦ rw (e.1, own_set_same instances i own) (sharer_with (slot_at instances i) own)
      | inr e ↦ rw (own_set_other instances i j own e.1) (sharer_itself (slot_at instances j))
    ]

-- what a move of the block of an owner in a space does to the memory map
pub record OneMoves (space : Space) (owner : Owner) (p q : Span) (spaces spaces' : Spaces) : Type 0 where
  pub here : (align : ℕ) → owned owner (blocks_in (map_of spaces) space) ≡ block_of owner align p ∷ [] → owned owner (blocks_in (map_of spaces') space) ≡ block_of owner align q ∷ []
  pub others : (o : Owner) → o ≢ owner → owned o (blocks_in (map_of spaces') space) ≡ owned o (blocks_in (map_of spaces) space)
  pub elsewhere : (other : Space) → other ≢ space → space_in spaces' other ≡ space_in spaces other
  pub regions : (any : Space) → (space_in spaces' any).region ≡ (space_in spaces any).region
  pub words : q.words ≡ p.words
  pub region : q.region ≡ p.region

-- the same blocks, in every space
pub blocks_elsewhere : (spaces spaces' : Spaces) (other : Space) → space_in spaces' other ≡ space_in spaces other → blocks_in (map_of spaces') other ≡ blocks_in (map_of spaces) other
blocks_elsewhere spaces spaces' other same = by_space other same
  where
    by_space : (s : Space) → space_in spaces' s ≡ space_in spaces s → blocks_in (map_of spaces') s ≡ blocks_in (map_of spaces) s
    by_space Daram e = ap (λ (x : SpaceState). x.blocks) e
    by_space Saram e = ap (λ (x : SpaceState). x.blocks) e
    by_space External e = ap (λ (x : SpaceState). x.blocks) e

pub other_owned : (space : Space) (owner : Owner) (p q : Span) (spaces spaces' : Spaces) → OneMoves space owner p q spaces spaces' → (o : Owner) → o ≢ owner → (s : Space)
    → owned o (blocks_in (map_of spaces') s) ≡ owned o (blocks_in (map_of spaces) s)
other_owned space owner p q spaces spaces' moves o apart s =
    elim (either (same_space space s)) [
      | inl same ↦ subst (λ (t : Space). owned o (blocks_in (map_of spaces') t) ≡ owned o (blocks_in (map_of spaces) t)) (one_space space s same) (moves.others o apart)
      | inr other ↦ ap (owned o) (blocks_elsewhere spaces spaces' s (moves.elsewhere s (other_space space s other)))
    ]

-- the record's own block
pub own_owned : (space : Space) (owner : Owner) (p q : Span) (spaces spaces' : Spaces) → OneMoves space owner p q spaces spaces' → (align : ℕ) (s : Space)
    → owned owner (blocks_in (map_of spaces) s) ≡ (if same_space space s then block_of owner align p ∷ [] else [])
    → owned owner (blocks_in (map_of spaces') s) ≡ (if same_space space s then block_of owner align q ∷ [] else [])
own_owned space owner p q spaces spaces' moves align s was =
    elim (either (same_space space s)) [
      | inl same ↦
          let before : owned owner (blocks_in (map_of spaces) s) ≡ block_of owner align p ∷ [] = rw same at was in
          let e = one_space space s same in
          rw same (subst (λ (t : Space). owned owner (blocks_in (map_of spaces') t) ≡ block_of owner align q ∷ []) e
          (moves.here align (subst (λ (t : Space). owned owner (blocks_in (map_of spaces) t) ≡ block_of owner align p ∷ []) (sym e) before)))
      | inr other ↦
          let before : owned owner (blocks_in (map_of spaces) s) ≡ [] = rw other at was in
          rw other (ap (owned owner) (blocks_elsewhere spaces spaces' s (moves.elsewhere s (other_space space s other))) ∙ before)
    ]

moved_piece : (owner : Extent) (size : ℕ) (wanted : Bool) (p q : Span) → q.words ≡ p.words → q.region ≡ p.region → IsPieceOf owner size wanted (Some p) → IsPieceOf owner size wanted (Some q)
moved_piece owner size wanted p q words region is = (is.0, region ∙ is.1, ap length words ∙ is.2)

-- an own record moves
module _ (space : Space) (i k : ℕ) (at : ℕ → ℕ) (rs : List MemRec) (own shared : Pieces) (y : Group) (p q : Span) (spaces spaces' : Spaces) (moves : OneMoves space (Record i k) p q spaces spaces')
    (owner : IsPieceThere spaces i at rs own shared y) (here : at k ≡ i) (there : piece_at own k ≡ Some p) (of_space : (record_at rs k).space ≡ space) where
  attr_is : (record_at rs k).attr ≡ Persist
  attr_is =
      let is : IsPieceOf _ _ (is_persistent (record_at rs k).attr) (Some p) = rw there at (owner.pieces.persistent k) in
      persists (record_at rs k).attr is.0

  records_moved : (j : ℕ) (s : Space) → owned (Record (at j) j) (blocks_in (map_of spaces') s) ≡ record_block (at j) j (record_at rs j) s (piece_of_record rs (with_piece own k (Some q)) shared j)
  records_moved j s =
      elim (eqb_tells j k) [
        | inl e ↦
            rw (e.1, here, attr_is, piece_with_same own k (Some q) (piece_there own k p there), of_space)
            (own_owned space (Record i k) p q spaces spaces' moves (record_at rs k).align s (rw (here, attr_is, there, of_space) at (owner.records k s)))
        | inr e ↦
            rw (piece_with_other own k j (Some q) e.1)
            (other_owned space (Record i k) p q spaces spaces' moves (Record (at j) j) (other_record i (at j) k j e.1) s ∙ owner.records j s)
      ]

  pub owner_moved : IsPieceThere spaces' i at rs (with_piece own k (Some q)) shared y
  owner_moved = record {
    valid = owner.valid;
    need = owner.need;
    records = records_moved;
    away = λ j s apart.
        let other : j ≢ k = λ e. apart (ap at e ∙ here) in
        other_owned space (Record i k) p q spaces spaces' moves (Record i j) (other_record i i k j other) s ∙ owner.away j s apart;
    pieces = record {
      persistent = λ j.
          elim (eqb_tells j k) [
            | inl e ↦
                rw (e.1, piece_with_same own k (Some q) (piece_there own k p there), moves.regions (record_at rs k).space)
                (moved_piece _ _ _ p q moves.words moves.region (rw there at (owner.pieces.persistent k)))
            | inr e ↦ rw (piece_with_other own k j (Some q) e.1, moves.regions (record_at rs j).space) (owner.pieces.persistent j)
          ];
      write_once = λ j. rw (moves.regions (record_at rs j).space) (owner.pieces.write_once j);
    };
  }

-- a write-once record moves, with which record k of instance j stands
module _ (space : Space) (i k j : ℕ) (at : ℕ → ℕ) (rs : List MemRec) (own shared : Pieces) (y : Group) (p q : Span) (spaces spaces' : Spaces) (moves : OneMoves space (Record i k) p q spaces spaces')
    (owner : IsPieceThere spaces j at rs own shared y) (here : at k ≡ i) (there : piece_at shared k ≡ Some p) (of_space : (record_at rs k).space ≡ space)
    (others : (l : ℕ) → at l ≢ j → Record j l ≢ Record i k) where
  once_attr : (record_at rs k).attr ≡ WriteOnce
  once_attr =
      let is : IsPieceOf _ _ (is_write_once (record_at rs k).attr) (Some p) = rw there at (owner.pieces.write_once k) in
      written_once (record_at rs k).attr is.0

  once_records : (l : ℕ) (s : Space) → owned (Record (at l) l) (blocks_in (map_of spaces') s) ≡ record_block (at l) l (record_at rs l) s (piece_of_record rs own (with_piece shared k (Some q)) l)
  once_records l s =
      elim (eqb_tells l k) [
        | inl e ↦
            rw (e.1, here, once_attr, piece_with_same shared k (Some q) (piece_there shared k p there), of_space)
            (own_owned space (Record i k) p q spaces spaces' moves (record_at rs k).align s (rw (here, once_attr, there, of_space) at (owner.records k s)))
        | inr e ↦
            rw (piece_with_other shared k l (Some q) e.1)
            (other_owned space (Record i k) p q spaces spaces' moves (Record (at l) l) (other_record i (at l) k l e.1) s ∙ owner.records l s)
      ]

  pub once_moved : IsPieceThere spaces' j at rs own (with_piece shared k (Some q)) y
  once_moved = record {
    valid = owner.valid;
    need = owner.need;
    records = once_records;
    away = λ l s apart. other_owned space (Record i k) p q spaces spaces' moves (Record j l) (others l apart) s ∙ owner.away l s apart;
    pieces = record {
      persistent = λ l. rw (moves.regions (record_at rs l).space) (owner.pieces.persistent l);
      write_once = λ l.
          elim (eqb_tells l k) [
            | inl e ↦
                rw (e.1, piece_with_same shared k (Some q) (piece_there shared k p there), moves.regions (record_at rs k).space)
                (moved_piece _ _ _ p q moves.words moves.region (rw there at (owner.pieces.write_once k)))
            | inr e ↦ rw (piece_with_other shared k l (Some q) e.1, moves.regions (record_at rs l).space) (owner.pieces.write_once l)
          ];
    };
  }

-- ---- of all instances

module _ {M : Type 0} (space : Space) (i k : ℕ) (p q : Span) (instances : List (Option (Member M))) (sharing : List Locations) (groups : List Group) (spaces spaces' : Spaces)
    (moves : OneMoves space (Record i k) p q spaces spaces') (standing : AgreeWithMap instances sharing groups spaces) (m : Member M) (at : slot_at instances i ≡ Some m)
    (of_space : (record_at (table_of m) k).space ≡ space) (here : owner_of sharing i k ≡ i) where
  -- no block that stands with another instance is the one that moves
  not_own : (j l : ℕ) → owner_of sharing j l ≢ j → Record j l ≢ Record i k
  not_own j l apart =
      elim (eqb_tells l k) [
        | inr e ↦ other_record i j k l e.1
        | inl e ↦ elim (eqb_tells j i) [
          | inr f ↦ other_instance i j k l f.1
          | inl f ↦ absurd (apart (rw (e.1, f.1) here))
        ]
      ]

  not_its : (j : ℕ) → owner_of sharing j k ≢ i → (l : ℕ) → Record (owner_of sharing j l) l ≢ Record i k
  not_its j other l =
      elim (eqb_tells l k) [
        | inr e ↦ other_record i (owner_of sharing j l) k l e.1
        | inl e ↦ rw e.1 (other_instance i (owner_of sharing j k) k k other)
      ]

  -- an instance that doesn't hold the record
  owner_of_other : (j : ℕ) (n : Member M) → owner_of sharing j k ≢ i → slot_at instances j ≡ Some n → IsPieceThere spaces' j (owner_of sharing j) (table_of n) (instance_of n.inst).own (shared_at sharing j) (group_at groups n.group)
  owner_of_other j n other there =
      owner_elsewhere spaces spaces' j (owner_of sharing j) (table_of n) (instance_of n.inst).own (shared_at sharing j) (group_at groups n.group)
      (λ l s. other_owned space (Record i k) p q spaces spaces' moves (Record (owner_of sharing j l) l) (not_its j other l) s)
      (λ l s apart. other_owned space (Record i k) p q spaces spaces' moves (Record j l) (not_own j l apart) s) moves.regions (standing.owners j n there)

  not_gone : (j : ℕ) → slot_at instances j ≡ None → j ≢ i
  not_gone j none same = none-some _ (sym none ∙ ap (slot_at instances) same ∙ at)

  gone_still : (j l : ℕ) (s : Space) → slot_at instances j ≡ None → owned (Record j l) (blocks_in (map_of spaces') s) ≡ []
  gone_still j l s none =
      other_owned space (Record i k) p q spaces spaces' moves (Record j l) (other_instance i j k l (not_gone j none)) s ∙ standing.gone j l s none

  blocks_still : (g : ℕ) → HasBlocks (map_of spaces') g (group_at groups g)
  blocks_still g s =
      other_owned space (Record i k) p q spaces spaces' moves (GroupScratch g) (λ e. not_a_group i k g (sym e)) s ∙ standing.blocks g s

  regions_still : (g : ℕ) (s : Space) → IsOf (space_in spaces' s).region (block_piece (block_in (group_at groups g) s))
  regions_still g s = rw (moves.regions s) (standing.regions g s)

  module _ (there : piece_at (instance_of m.inst).own k ≡ Some p) (alone : (j : ℕ) → j ≢ i → owner_of sharing j k ≢ i) where
    abbrev own_now : Pieces
    own_now = with_piece (instance_of m.inst).own k (Some q)

    in_slot : slot_at (own_set instances i own_now) i ≡ Some (record m { inst = inst_with m.inst own_now })
    in_slot = own_set_same instances i own_now ∙ rw at refl

    pub owner_of_moved : IsPieceThere spaces' i (owner_of sharing i) (table_of m) own_now (shared_at sharing i) (group_at groups m.group)
    owner_of_moved = owner_moved space i k (owner_of sharing i) (table_of m) (instance_of m.inst).own (shared_at sharing i) (group_at groups m.group) p q spaces spaces' moves (standing.owners i m at) here there of_space

    was_member : (j g : ℕ) → is_member_of g (slot_at (own_set instances i own_now) j) ≡ is_member_of g (slot_at instances j)
    was_member j g =
        elim (eqb_tells j i) [
          | inl e ↦ rw (e.1, in_slot, at) refl
          | inr e ↦ ap (is_member_of g) (own_set_other instances i j own_now e.1)
        ]

    none_then : (j : ℕ) → slot_at (own_set instances i own_now) j ≡ None → slot_at instances j ≡ None
    none_then j none =
        elim (eqb_tells j i) [
          | inl e ↦ absurd (none-some _ (sym (rw e.1 at none) ∙ in_slot))
          | inr e ↦ sym (own_set_other instances i j own_now e.1) ∙ none
        ]

    pub standing_moved : AgreeWithMap (own_set instances i own_now) sharing groups spaces'
    standing_moved = record {
      owners = λ j n there'.
          elim (eqb_tells j i) [
            | inl e ↦
                let is : record m { inst = inst_with m.inst own_now } ≡ n = same_Some _ _ (sym in_slot ∙ rw e.1 at there') in
                rw e.1 (subst (λ (x : Member M). IsPieceThere spaces' i (owner_of sharing i) (table_of x) (instance_of x.inst).own (shared_at sharing i) (group_at groups x.group)) is
                (rw (inst_is m.inst own_now) owner_of_moved))
            | inr e ↦ owner_of_other j n (alone j e.1) (sym (own_set_other instances i j own_now e.1) ∙ there')
          ];
      least = standing.least;
      together = together_by_owners instances (own_set instances i own_now) sharing sharing (sharer_own instances i own_now) (λ j l. refl) standing.together;
      free = λ j none. standing.free j (none_then j none);
      gone = λ j l s none. gone_still j l s (none_then j none);
      blocks = blocks_still;
      regions = regions_still;
      unused = λ g s none. standing.unused g s (λ j. sym (was_member j g) ∙ none j);
    }

  module _ (below : k < 4) (all : AllHaveOwners sharing) (there : location_at (locations_at sharing i) k ≡ Here (Some p)) where
    abbrev once_now : List Locations
    once_now = slid_to sharing i k q

    -- each sharer sees it
    pub seen_there : (j : ℕ) → owner_of sharing j k ≡ i → piece_at (shared_at sharing j) k ≡ Some p
    seen_there j owner = seen_at sharing j k below ∙ ap (λ (x : ℕ). piece_here (location_at (locations_at sharing x) k)) owner ∙ ap piece_here there

    its_attr : (record_at (table_of m) k).attr ≡ WriteOnce
    its_attr =
        let is : IsPieceOf _ _ (is_write_once (record_at (table_of m) k).attr) (Some p) = rw (seen_there i here) at ((standing.owners i m at).pieces.write_once k) in
        written_once (record_at (table_of m) k).attr is.0

    block_is : owned (Record i k) (blocks_in (map_of spaces) space) ≡ block_of (Record i k) (record_at (table_of m) k).align p ∷ []
    block_is = rw (here, its_attr, seen_there i here, of_space, space_itself space) at ((standing.owners i m at).records k space)

    sharer_space : (j : ℕ) (n : Member M) → slot_at instances j ≡ Some n → owner_of sharing j k ≡ i → (record_at (table_of n) k).space ≡ space
    sharer_space j n there' owner =
        let records = owner_record spaces j (owner_of sharing j) (table_of n) (instance_of n.inst).own (shared_at sharing j) (group_at groups n.group) (standing.owners j n there') k space i owner in
        (in_space i k (record_at (table_of n) k) space (piece_of_record (table_of n) (instance_of n.inst).own (shared_at sharing j) k) (block_of (Record i k) (record_at (table_of m) k).align p)
        (subst (λ (xs : List Placed). IsIn (block_of (Record i k) (record_at (table_of m) k).align p) xs) (sym block_is ∙ records) (inl refl))).0

    owner_of_sharer : (j : ℕ) (n : Member M) → slot_at instances j ≡ Some n → owner_of sharing j k ≡ i
        → IsPieceThere spaces' j (owner_of sharing j) (table_of n) (instance_of n.inst).own (with_piece (shared_at sharing j) k (Some q)) (group_at groups n.group)
    owner_of_sharer j n there' owner =
        once_moved space i k j (owner_of sharing j) (table_of n) (instance_of n.inst).own (shared_at sharing j) (group_at groups n.group) p q spaces spaces' moves (standing.owners j n there') owner
        (seen_there j owner) (sharer_space j n there' owner) (not_own j)

    owner_of_each : (j : ℕ) (n : Member M) → slot_at instances j ≡ Some n
        → IsPieceThere spaces' j (owner_of sharing j) (table_of n) (instance_of n.inst).own (if holds_with sharing i k j then with_piece (shared_at sharing j) k (Some q) else shared_at sharing j) (group_at groups n.group)
    owner_of_each j n there' =
        elim (eqb_tells (owner_of sharing j k) i) [
          | inl e ↦ rw e.0 (owner_of_sharer j n there' e.1)
          | inr e ↦ rw e.0 (owner_of_other j n e.1 there')
        ]

    pub standing_once : AreBare instances sharing → AgreeWithMap instances once_now groups spaces'
    standing_once bare = record {
      owners = λ j n there'.
          owner_by_same spaces' j (owner_of sharing j) (owner_of once_now j) (table_of n) (instance_of n.inst).own (shared_at once_now j) (group_at groups n.group) (λ l. owner_slid sharing all i k p q below there j l)
          (subst (λ (o : Pieces). IsPieceThere spaces' j (owner_of sharing j) (table_of n) (instance_of n.inst).own o (group_at groups n.group)) (sym (seen_slid sharing all i k p q below there j)) (owner_of_each j n there'));
      least = λ j l owner with_owner. standing.least j l owner (with_still sharing all i k p q below there j l owner with_owner);
      together =
          together_by_owners instances instances sharing once_now (λ j. sharer_itself (slot_at instances j)) (λ j l. owner_slid sharing all i k p q below there j l) standing.together;
      free = λ j none.
          let own : owner_of sharing j k ≡ j = ap (λ (s : Locations). owner_by j (location_at s k)) (bare j none) ∙ ap (owner_by j) (no_location k) in
          let other : owner_of sharing j k ≢ i = λ e. not_gone j none (sym own ∙ e) in
          seen_slid sharing all i k p q below there j ∙ rw (not_equal (owner_of sharing j k) i other) (standing.free j none);
      gone = gone_still;
      blocks = blocks_still;
      regions = regions_still;
      unused = standing.unused;
    }
