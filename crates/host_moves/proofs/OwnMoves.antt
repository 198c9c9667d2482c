-- An instance's own record moves.
use Rattle.std.proofs.Common.{◌≡◌, ◌≢◌, ℕ, zero, suc, ◌+◌, ◌-◌, ◌^◌, ◌<◌, min, inl, inr, true, is_some, List, [], ◌∷◌, length, Option, Some, None, set, refl, sym, ◌∙◌, ap, subst}
use Rattle.std.specs.Option.{option_map}
use Rattle.std.specs.List.{Contains}
use Rattle.std.proofs.lemmas.Option.{none-some, same_Some}
use Rattle.std.proofs.lemmas.Bool.Decides.{eqb_tells}
use Rattle.space_raw.specs.Span.{Extent, Span}
use Rattle.mem_rec.specs.declared.MemRec.{MemRec}
use Rattle.mem_rec.specs.declared.Attr.{Attr}
use Rattle.mem_rec.specs.declared.Attr.TheVariants.{Persist, WriteOnce}
use Rattle.mem_rec.specs.declared.Space.{Space}
use Rattle.mem_rec.specs.declared.Space.TheVariants.{Daram, Saram, External}
use Rattle.mem_rec.specs.Records.{is_persistent, same_space}
use Rattle.space_heap.specs.Maps.{range_of}
use Rattle.ialg.specs.Records.{record_at, unplaced}
use Rattle.record_loans.specs.declared.pieces.Pieces.{Pieces}
use Rattle.record_loans.specs.Pieces.{piece_at, piece_words, with_piece}
use Rattle.scratch_group.specs.declared.group.Group.{Group}
use Rattle.lifecycle.specs.declared.instance.Inst.{Inst}
use Rattle.lifecycle.specs.declared.instance.Inst.TheVariants.{Idling, Running}
use Rattle.lifecycle.specs.declared.instance.Instance.{Instance}
use Rattle.lifecycle.specs.Moves.{restored, with_back, HasRoom}
use Rattle.host_map.specs.declared.placed.Owner.{Owner}
use Rattle.host_map.specs.declared.placed.Owner.TheVariants.{Record}
use Rattle.host_map.specs.declared.placed.Placed.{Placed}
use Rattle.host_spaces.specs.Blocks.{Owns, block_of}
use Rattle.host_map.specs.Blocks.{block_range, owned}
use Rattle.host_map.specs.Moves.{next_block}
use Rattle.host_spaces.specs.declared.spaces.Spaces.{Spaces}
use Rattle.host_map.specs.declared.parts.Sizes.{Sizes}
use Rattle.host_map.specs.MemoryMap.{blocks_in}
use Rattle.host_spaces.specs.MemoryMap.{map_of, sizes_of, space_in}
use Rattle.host_spaces.specs.Pieces.{IsPieceOf}
use Rattle.host_table.specs.declared.member.Member.{Member}
use Rattle.host_shared.specs.declared.locations.Locations.{Locations}
use Rattle.host_shared.specs.declared.locations.Location.{Location}
use Rattle.host_shared.specs.declared.locations.Location.TheVariants.{Here, At}
use Rattle.host_shared.specs.Locations.{location_at, locations_at, owner_by, owner_of, shared_at}
use Rattle.host_table.specs.Table.{slot_at, group_at, instance_of, own_of, IsSharer, AreHeld, EachIsHoused, TablesOk}
use Rattle.host_table.specs.Frames.{SameMembers}
use Rattle.host_shared.proofs.Stands.{piece_with_same, piece_with_other}
use Rattle.host_moves.specs.Waiting.{inst_with, slot_with, own_set, IsThere, IsHousedBut, TablesThere, TablesBut, MemberStays, SlotStays, SameWords, WordsStay}
use Rattle.host_moves.proofs.Owns.{tables_map, set_again, active_with, own_set_same, own_set_other, but_all, but_own}
use Rattle.host_moves.specs.Standing.{IsPieceThere, AreOrdered, AgreeWithMap, table_of, IsSameKind, SlotIsSame, SameInstances}
use Rattle.host_moves.specs.Moves.{IsNextOf}
use Rattle.host_moves.proofs.Owners.{owner_record, slot_same}
use Rattle.host_moves.proofs.Moved.{OneMoves, standing_moved}
use Rattle.host_moves.proofs.MovedBlocks.{room_of_standing, block_stays_itself}
use Rattle.host_moves.proofs.Nexts.{IsNextRecord, next_record}
use Rattle.host_moves.proofs.Instances.{only_one, persists, piece_there, piece_again, inst_is}

-- ---- one slot

pub kept_slot : {M : Type 0} (slot : Option (Member M)) → SlotStays slot slot
kept_slot None = refl
kept_slot (Some m) = record { group = refl; state = refl; kind = refl; params = refl; table = refl; own = λ k. refl }

-- the same instance with other pieces
kind_with : {M : Type 0} (m : Member M) (own : Pieces) → IsSameKind m (record m { inst = inst_with m.inst own })
kind_with m own = record {
  group = refl;
  kind = ap (λ (s : Instance _). s.kind) (inst_is m.inst own);
  params = ap (λ (s : Instance _). s.params) (inst_is m.inst own);
  table = ap (λ (s : Instance _). unplaced s.table) (inst_is m.inst own);
}

stays_with : {M : Type 0} (m : Member M) (own : Pieces) → SameWords (instance_of m.inst).own own → MemberStays m (record m { inst = inst_with m.inst own })
stays_with m own words = record {
  group = refl;
  state = active_with m.group m.inst own;
  kind = ap (λ (s : Instance _). s.kind) (inst_is m.inst own);
  params = ap (λ (s : Instance _). s.params) (inst_is m.inst own);
  table = ap (λ (s : Instance _). s.table) (inst_is m.inst own);
  own = λ k. ap (λ (s : Instance _). piece_words (piece_at s.own k)) (inst_is m.inst own) ∙ words k;
}

pub kind_itself : {M : Type 0} (slot : Option (Member M)) → SlotIsSame slot slot
kind_itself None = refl
kind_itself (Some m) = record { group = refl; kind = refl; params = refl; table = refl }

kind_then : {M : Type 0} (a b c : Option (Member M)) → SlotIsSame a b → SlotIsSame b c → SlotIsSame a c
kind_then None None c e f = f
kind_then None (Some b) c e f = absurd (none-some _ (sym e))
kind_then (Some a) None c e f = absurd e
kind_then (Some a) (Some b) None e f = absurd f
kind_then (Some a) (Some b) (Some c) e f = record {
  group = f.group ∙ e.group;
  kind = f.kind ∙ e.kind;
  params = f.params ∙ e.params;
  table = f.table ∙ e.table;
}

pub then_same : {M : Type 0} (instances : List (Option (Member M))) {instances' instances'' : List (Option (Member M))}
    {sharing sharing' : List Locations} {groups groups' : List Group} → SameInstances instances instances'
    → SameMembers instances' sharing groups instances'' sharing' groups' → SameInstances instances instances''
then_same instances {instances'} {instances''} kinds same i =
    kind_then (slot_at instances i) (slot_at instances' i) (slot_at instances'' i) (kinds i) (slot_same (slot_at instances' i) (slot_at instances'' i) (same.slot i))

pub same_sizes : (spaces spaces' : Spaces) → ((any : Space) → (space_in spaces' any).region ≡ (space_in spaces any).region) → sizes_of spaces' ≡ sizes_of spaces
same_sizes spaces spaces' regions =
    ap (λ (n : ℕ). let s : Sizes = record { daram = n; saram = (space_in spaces' Saram).region.size; external = (space_in spaces' External).region.size } in s) (ap (λ (r : Extent). r.size) (regions Daram))
    ∙ ap (λ (n : ℕ). let s : Sizes = record { daram = (space_in spaces Daram).region.size; saram = n; external = (space_in spaces' External).region.size } in s) (ap (λ (r : Extent). r.size) (regions Saram))
    ∙ ap (λ (n : ℕ). let s : Sizes = record { daram = (space_in spaces Daram).region.size; saram = (space_in spaces Saram).region.size; external = n } in s) (ap (λ (r : Extent). r.size) (regions External))

-- as many words as the block has
pub words_copied : (bs : List Placed) (o : Owner) (al n m : ℕ) (p : Span) → next_block bs ≡ Some (block_of o al p) → n ≡ min (m + length p.words) (2 ^ 64 - 1)
    → (b : Placed) → next_block bs ≡ Some b → n ≡ min (m + b.size) (2 ^ 64 - 1)
words_copied bs o al n m p next copied b e =
    let is : block_of o al p ≡ b = same_Some _ _ (sym next ∙ e) in
    subst (λ (x : Placed). n ≡ min (m + x.size) (2 ^ 64 - 1)) is copied

own_with : {M : Type 0} (slot : Option (Member M)) (m : Member M) (a : Pieces) → slot ≡ Some m → own_of (slot_with slot a) ≡ a
own_with slot m a e = rw e (ap (λ (s : Instance _). s.own) (inst_is m.inst a))

inst_twice : {M : Type 0} (inst : Inst M) (a b : Pieces) → inst_with (inst_with inst a) b ≡ inst_with inst b
inst_twice (Idling s) a b = refl
inst_twice (Running s) a b = refl

slot_twice : {M : Type 0} (slot : Option (Member M)) (a b : Pieces) → slot_with (slot_with slot a) b ≡ slot_with slot b
slot_twice None a b = refl
slot_twice (Some m) a b = ap (λ (inst : Inst _). Some (record m { inst = inst })) (inst_twice m.inst a b)

pub set_twice : {M : Type 0} (instances : List (Option (Member M))) (i : ℕ) (a b : Pieces) → own_set (own_set instances i a) i b ≡ own_set instances i b
set_twice instances i a b =
    ap (λ (x : Option (Member _)). set (own_set instances i a) i x) (ap (λ (s : Option (Member _)). slot_with s b) (own_set_same instances i a) ∙ slot_twice (slot_at instances i) a b)
    ∙ set_again instances i (slot_with (slot_at instances i) a) (slot_with (slot_at instances i) b)

-- ---- the move

persist_once : (a : Attr) → a ≡ Persist → a ≡ WriteOnce → ⊥
persist_once a own once = let no : Persist ≡ WriteOnce = sym own ∙ once in cc

unplaced_attr : (rs : List MemRec) (k : ℕ) → (record_at rs k).attr ≡ WriteOnce → (record_at (unplaced rs) k).attr ≡ WriteOnce
unplaced_attr [] k once = once
unplaced_attr (r ∷ rs) zero once = once
unplaced_attr (r ∷ rs) (suc k) once = unplaced_attr rs k once

-- a record with which another one stands is write-once
held_once : {M : Type 0} (instances : List (Option (Member M))) (sharing : List Locations) → AreHeld instances sharing → (i j k : ℕ) (m : Member M) → slot_at instances i ≡ Some m → j ≢ i → owner_of sharing j k ≡ i
    → (record_at (instance_of m.inst).table k).attr ≡ WriteOnce
held_once instances sharing held i j k m at apart owner = by_location (location_at (locations_at sharing j) k) refl
  where
    by_sharer : (slot : Option (Member _)) (s : Location) → IsSharer k slot (Some m) s → (record_at (instance_of m.inst).table k).attr ≡ WriteOnce
    by_sharer None s h = absurd h
    by_sharer (Some n) s h = ap (λ (r : MemRec). r.attr) h.0.shape ∙ h.0.once

    by_location : (s : Location) → location_at (locations_at sharing j) k ≡ s → (record_at (instance_of m.inst).table k).attr ≡ WriteOnce
    by_location (Here p) is = absurd (apart (sym (ap (owner_by j) is) ∙ owner))
    by_location (At h) is =
        let same : h ≡ i = sym (ap (owner_by j) is) ∙ owner in
        let sharer = held j k i (is ∙ ap At same) in
        by_sharer (slot_at instances j) (location_at (locations_at sharing i) k) (rw at at sharer)

module _ {M : Type 0} (instances : List (Option (Member M))) (sharing : List Locations) (groups : List Group) (spaces : Spaces) (space : Space) (i k : ℕ) (p : Span)
    (ok : TablesOk instances sharing groups) (standing : AgreeWithMap instances sharing groups spaces) (next : IsNextOf spaces space (Record i k))
    (taken : piece_at (own_of (slot_at instances i)) k ≡ Some p) where
  pub its : IsNextRecord instances sharing spaces space i k
  its = next_record instances sharing groups spaces space i k standing next

  own_piece : piece_at (instance_of its.member.inst).own k ≡ Some p
  own_piece = rw its.there at taken

  owner : IsPieceThere spaces i (owner_of sharing i) (table_of its.member) (instance_of its.member.inst).own (shared_at sharing i) (group_at groups its.member.group)
  owner = standing.owners i its.member its.there

  is_its : its.piece ≡ p
  is_its =
      let kept : IsPieceOf _ _ (is_persistent (record_at (table_of its.member) k).attr) (Some p) = rw own_piece at (owner.pieces.persistent k) in
      let attr = persists (record_at (table_of its.member) k).attr kept.0 in
      let piece : piece_at (instance_of its.member.inst).own k ≡ Some its.piece = rw attr at its.its in
      same_Some _ _ (sym piece ∙ own_piece)

  pub next_is : next_block (blocks_in (map_of spaces) space) ≡ Some (block_of (Record i k) (record_at (table_of its.member) k).align p)
  next_is = its.next ∙ ap (λ (s : Span). Some (block_of (Record i k) (record_at (table_of its.member) k).align s)) is_its

  pub region_is : p.region ≡ (space_in spaces space).region
  region_is =
      let kept : IsPieceOf (space_in spaces (record_at (table_of its.member) k).space).region _ _ (Some p) = rw own_piece at (owner.pieces.persistent k) in
      subst (λ (s : Space). p.region ≡ (space_in spaces s).region) its.of_space kept.1

  pub range_is : option_map block_range (next_block (blocks_in (map_of spaces) space)) ≡ Some (range_of p)
  range_is = rw next_is refl

  owned_is : owned (Record i k) (blocks_in (map_of spaces) space) ≡ block_of (Record i k) (record_at (table_of its.member) k).align p ∷ []
  owned_is =
      let kept : IsPieceOf _ _ (is_persistent (record_at (table_of its.member) k).attr) (Some p) = rw own_piece at (owner.pieces.persistent k) in
      let attr = persists (record_at (table_of its.member) k).attr kept.0 in
      let same : same_space space space ≡ true = same_itself space in
      rw (attr, own_piece, its.of_space, same) at (owner_record spaces i (owner_of sharing i) (table_of its.member) (instance_of its.member.inst).own (shared_at sharing i) (group_at groups its.member.group) owner k space i its.here)
    where
      same_itself : (s : Space) → same_space s s ≡ true
      same_itself Daram = refl
      same_itself Saram = refl
      same_itself External = refl

  -- it is a record of its own, with which no other one stands
  own_attr : (record_at (table_of its.member) k).attr ≡ Persist
  own_attr =
      let kept : IsPieceOf _ _ (is_persistent (record_at (table_of its.member) k).attr) (Some p) = rw own_piece at (owner.pieces.persistent k) in
      persists (record_at (table_of its.member) k).attr kept.0

  nobody_else : (j : ℕ) → j ≢ i → owner_of sharing j k ≢ i
  nobody_else j apart at_i =
      let shared = held_once instances sharing ok.held i j k its.member its.there apart at_i in
      persist_once (record_at (table_of its.member) k).attr own_attr (unplaced_attr (instance_of its.member.inst).table k shared)

  owns : Owns (blocks_in (map_of spaces) space) (Record i k) p
  owns = (
    (record_at (table_of its.member) k).align,
    subst (λ (bs : List Placed). Contains bs (block_of (Record i k) (record_at (table_of its.member) k).align p)) (sym owned_is) (only_one (block_of (Record i k) (record_at (table_of its.member) k).align p)),
  )

  abbrev away : Pieces
  away = with_piece (own_of (slot_at instances i)) k None

  pub told_others : TablesBut i (own_set instances i away) sharing groups
  told_others = but_own EachIsHoused i away instances sharing groups (but_all i instances sharing groups ok)

  pub tables_away : TablesThere (own_set instances i away) sharing groups
  tables_away = tables_map (IsHousedBut i) IsThere (own_set instances i away) sharing groups (λ j m o y h. tt) told_others

  own_is : own_of (slot_at instances i) ≡ (instance_of its.member.inst).own
  own_is = rw its.there refl

  -- without the piece the instance lives on, and there is room for the piece
  pub living_away : is_some (slot_at (own_set instances i away) i) ≡ true
  living_away = ap is_some (own_set_same instances i away) ∙ ap (λ (s : Option (Member M)). is_some (slot_with s away)) its.there

  pub can_come_back : (k < 4) × (piece_at (own_of (slot_at (own_set instances i away) i)) k ≡ None)
  can_come_back =
      let below = piece_there (own_of (slot_at instances i)) k p taken in (
        below,
        ap (λ (s : Option (Member M)). piece_at (own_of s) k) (own_set_same instances i away)
            ∙ ap (λ (o : Pieces). piece_at o k) (own_with (slot_at instances i) its.member away its.there)
            ∙ piece_with_same (own_of (slot_at instances i)) k None below,
      )

  module _ (q : Span) (spaces' : Spaces)
      (here : (owner : Owner) (align : ℕ) → owned owner (blocks_in (map_of spaces) space) ≡ block_of owner align p ∷ [] → owned owner (blocks_in (map_of spaces') space) ≡ block_of owner align q ∷ [])
      (others : (owner o : Owner) → Owns (blocks_in (map_of spaces) space) owner p → o ≢ owner → owned o (blocks_in (map_of spaces') space) ≡ owned o (blocks_in (map_of spaces) space))
      (elsewhere : (other : Space) → other ≢ space → space_in spaces' other ≡ space_in spaces other)
      (regions : (any : Space) → (space_in spaces' any).region ≡ (space_in spaces any).region) (words : q.words ≡ p.words) (region : q.region ≡ p.region) where
    moves : OneMoves space (Record i k) p q spaces spaces'
    moves = record { here = here (Record i k); others = λ o apart. others (Record i k) o owns apart; elsewhere = elsewhere; regions = regions; words = words; region = region }

    abbrev now : Pieces
    now = with_piece (instance_of its.member.inst).own k (Some q)

    stands : AgreeWithMap (own_set instances i now) sharing groups spaces'
    stands = standing_moved space i k p q instances sharing groups spaces spaces' moves standing its.member its.there its.of_space its.here own_piece nobody_else

    room_now : AreOrdered spaces' → HasRoom (record (instance_of its.member.inst) { own = now }) (shared_at sharing i) (group_at groups its.member.group)
    room_now ordered =
        subst (λ (s : Instance M). HasRoom s (shared_at sharing i) (group_at groups its.member.group)) (inst_is its.member.inst now)
        (room_of_standing (own_set instances i now) sharing groups spaces' ordered stands i (record its.member { inst = inst_with its.member.inst now }) (own_set_same instances i now ∙ rw its.there refl))

    -- there is room for the instance when the piece comes back
    pub room_back : AreOrdered spaces' → (n : Member M) → slot_at (own_set instances i away) i ≡ Some n
        → HasRoom (with_back (instance_of n.inst) (Some (k, q))) (shared_at sharing i) (group_at groups n.group)
    room_back ordered n at =
        let is : record its.member { inst = inst_with its.member.inst away } ≡ n = same_Some _ _ (sym (own_set_same instances i away ∙ rw its.there refl) ∙ at) in
        subst (λ (x : Member M). HasRoom (with_back (instance_of x.inst) (Some (k, q))) (shared_at sharing i) (group_at groups x.group)) is
        (rw (inst_is its.member.inst away, piece_again (own_of (slot_at instances i)) k None (Some q), own_is) (room_now ordered))

    pub back_is : own_set (own_set instances i away) i (restored (Some (k, q)) (own_of (slot_at (own_set instances i away) i))) ≡ own_set instances i now
    back_is =
        ap (own_set (own_set instances i away) i)
        (ap (λ (o : Pieces). with_piece o k (Some q)) (ap own_of (own_set_same instances i away) ∙ own_with (slot_at instances i) its.member away its.there)
        ∙ piece_again (own_of (slot_at instances i)) k None (Some q) ∙ ap (λ (o : Pieces). with_piece o k (Some q)) own_is)
        ∙ set_twice instances i away now

    pub stands_back : AgreeWithMap (own_set (own_set instances i away) i (restored (Some (k, q)) (own_of (slot_at (own_set instances i away) i)))) sharing groups spaces'
    stands_back = subst (λ (l : List (Option (Member M))). AgreeWithMap l sharing groups spaces') (sym back_is) stands

    same_words : SameWords (instance_of its.member.inst).own now
    same_words j =
        elim (eqb_tells j k) [
          | inl e ↦ rw (e.1, piece_with_same (instance_of its.member.inst).own k (Some q) (piece_there (instance_of its.member.inst).own k p own_piece), own_piece) words
          | inr e ↦ ap piece_words (piece_with_other (instance_of its.member.inst).own k j (Some q) e.1)
        ]

    slot_now : slot_at (own_set instances i now) i ≡ Some (record its.member { inst = inst_with its.member.inst now })
    slot_now = own_set_same instances i now ∙ rw its.there refl

    kinds_now : SameInstances instances (own_set instances i now)
    kinds_now j =
        elim (eqb_tells j i) [
          | inl e ↦ rw (e.1, slot_now, its.there) (kind_with its.member now)
          | inr e ↦ rw (own_set_other instances i j now e.1) (kind_itself (slot_at instances j))
        ]

    pub kinds_back : SameInstances instances (own_set (own_set instances i away) i (restored (Some (k, q)) (own_of (slot_at (own_set instances i away) i))))
    kinds_back = subst (λ (l : List (Option (Member M))). SameInstances instances l) (sym back_is) kinds_now

    words_now : WordsStay instances sharing groups (own_set instances i now) sharing groups
    words_now = record {
      slot = λ j.
          elim (eqb_tells j i) [
            | inl e ↦ rw (e.1, slot_now, its.there) (stays_with its.member now same_words)
            | inr e ↦ rw (own_set_other instances i j now e.1) (kept_slot (slot_at instances j))
          ];
      pieces = λ j l. refl;
      blocks = λ g j s active. block_stays_itself _;
    }

    pub words_back : WordsStay instances sharing groups (own_set (own_set instances i away) i (restored (Some (k, q)) (own_of (slot_at (own_set instances i away) i)))) sharing groups
    words_back = subst (λ (l : List (Option (Member M))). WordsStay instances sharing groups l sharing groups) (sym back_is) words_now
