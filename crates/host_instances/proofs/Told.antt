-- The members of a group that grows.
use Rattle.std.proofs.Common.{◌≡◌, ◌≢◌, ℕ, ℤ, ◌<◌, ◌⊎◌, ◌||◌, inl, inr, Bool, true, false, List, [], ◌∷◌, length, Contains, Option, Some, None, IfSome, is_some, refl, sym, ◌∙◌, ap, subst, arith}
use Rattle.std.proofs.lemmas.Option.{none-some}
use Rattle.std.proofs.lemmas.Bool.{cases_lt, true≢false}
use Rattle.std.proofs.lemmas.Bool.Decides.{eqb_tells}
use Rattle.mem_rec.specs.declared.MemRec.{MemRec}
use Rattle.mem_rec.specs.declared.Space.{Space}
use Rattle.mem_rec.specs.declared.Space.TheVariants.{Daram, Saram, External}
use Rattle.mem_rec.specs.Layout.{scratch_need, scratch_align}
use Rattle.ialg.specs.Records.{ArePoison}
use Rattle.space_raw.specs.Span.{Extent, Span}
use Rattle.record_loans.specs.declared.block.ScratchBlock.{ScratchBlock}
use Rattle.record_loans.specs.Blocks.{block_align, block_piece, block_words, IsSameBlock}
use Rattle.scratch_group.specs.declared.group.Group.{Group}
use Rattle.scratch_group.specs.declared.group.Need.{Need}
use Rattle.scratch_group.specs.Blocks.{block_in, block_needed}
use Rattle.scratch_group.specs.Words.{placed}
use Rattle.lifecycle.specs.Moves.{HasRoom}
use Rattle.lifecycle.specs.Rooms.{NoNeed}
use Rattle.lifecycle.specs.States.{Fits}
use Rattle.lifecycle.proofs.Frames.{placed-unplaced}
use Rattle.record_loans.proofs.PieceLemmas.{same_pieces}
use Rattle.host_map.specs.declared.placed.Owner.{Owner}
use Rattle.host_map.specs.declared.placed.Owner.TheVariants.{Scratch}
use Rattle.host_map.specs.declared.placed.Placed.{Placed}
use Rattle.host_spaces.specs.Blocks.{Owns, block_of, block_of_piece, without_piece}
use Rattle.host_map.specs.Blocks.{owned, with_block}
use Rattle.host_spaces.proofs.Orders.{before, behind}
use Rattle.host_spaces.specs.declared.pieces.NewBlocks.{NewBlocks}
use Rattle.host_spaces.specs.declared.pieces.OldBlocks.{OldBlocks}
use Rattle.host_spaces.specs.declared.spaces.Spaces.{Spaces}
use Rattle.host_spaces.specs.MemoryMap.{AreSameSpaces, map_of}
use Rattle.host_map.specs.MemoryMap.{MemoryMap, blocks_in, each_space}
use Rattle.host_spaces.specs.Pieces.{IsNeeded, new_block, old_piece, with_new, without_pieces}
use Rattle.host_spaces.specs.Wants.{block_need}
use Rattle.mem_rec.specs.declared.TheConstants.{GROUPS}
use Rattle.host_table.specs.declared.member.Member.{Member}
use Rattle.host_shared.specs.declared.locations.Locations.{Locations}
use Rattle.host_shared.specs.Locations.{owner_of, shared_at}
use Rattle.host_table.specs.Table.{slot_at, group_at, instance_of, activity_at, IsHoused, TablesOk, TablesTold, ArePoisoned}
use Rattle.host_map.specs.Activity.{Activity}
use Rattle.host_table.specs.Frames.{IsSameMember}
use Rattle.host_moves.specs.Waiting.{BlockStays, WordsStay}
use Rattle.host_moves.proofs.Owns.{told_later}
use Rattle.host_moves.specs.Standing.{AreOrdered, IsPieceThere, IsOf, table_of}
use Rattle.host_moves.proofs.MovedBlocks.{block_stays_itself, member_stays_itself}
use Rattle.host_instances.specs.Blocks.{newer, replaced_piece, replaced_pieces, replaced_in}
use Rattle.host_instances.specs.Growth.{ArePlaced, AreGrown}
use Rattle.host_instances.proofs.Replaced.{newer_poison, replaced_same, without_same}
use Rattle.host_instances.proofs.Needed.{IsSameOrFirst, needed_serves, placed_first}
use Rattle.host_instances.proofs.Grown.{grown_now, room_of_grown}

-- ---- nothing happened

same_member : {M : Type 0} (slot : Option (Member M)) → IsSameMember slot slot
same_member None = refl
same_member (Some m) = record { group = refl; kind = refl; params = refl; table = refl; own = same_pieces (instance_of m.inst).own }

-- ---- one space after the other

module _ (blocks : NewBlocks) (groups groups1 groups2 : List Group) (g : ℕ) where
  pub each_old : (old : OldBlocks) → old.daram ≡ replaced_piece blocks.daram (block_in (group_at groups g) Daram) → old.saram ≡ replaced_piece blocks.saram (block_in (group_at groups1 g) Saram)
      → old.external ≡ replaced_piece blocks.external (block_in (group_at groups2 g) External)
      → ((k : ℕ) (other : Space) → (k ≢ g) ⊎ (other ≢ Daram) → block_in (group_at groups1 k) other ≡ block_in (group_at groups k) other)
      → ((k : ℕ) (other : Space) → (k ≢ g) ⊎ (other ≢ Saram) → block_in (group_at groups2 k) other ≡ block_in (group_at groups1 k) other)
      → (space : Space) → old_piece old space ≡ replaced_piece (new_block blocks space) (block_in (group_at groups g) space)
  each_old old d s e first second Daram = d
  each_old old d s e first second Saram = s ∙ ap (replaced_piece blocks.saram) (first g Saram (inr (λ h. cc)))
  each_old old d s e first second External = e ∙ ap (replaced_piece blocks.external) (second g External (inr (λ h. cc)) ∙ first g External (inr (λ h. cc)))

  module _ (groups3 : List Group) where
    pub each_new : block_in (group_at groups1 g) Daram ≡ newer blocks.daram (block_in (group_at groups g) Daram)
        → block_in (group_at groups2 g) Saram ≡ newer blocks.saram (block_in (group_at groups1 g) Saram)
        → block_in (group_at groups3 g) External ≡ newer blocks.external (block_in (group_at groups2 g) External)
        → ((k : ℕ) (other : Space) → (k ≢ g) ⊎ (other ≢ Daram) → block_in (group_at groups1 k) other ≡ block_in (group_at groups k) other)
        → ((k : ℕ) (other : Space) → (k ≢ g) ⊎ (other ≢ Saram) → block_in (group_at groups2 k) other ≡ block_in (group_at groups1 k) other)
        → ((k : ℕ) (other : Space) → (k ≢ g) ⊎ (other ≢ External) → block_in (group_at groups3 k) other ≡ block_in (group_at groups2 k) other)
        → (space : Space) → block_in (group_at groups3 g) space ≡ newer (new_block blocks space) (block_in (group_at groups g) space)
    each_new d s e first second third Daram = third g Daram (inr (λ h. cc)) ∙ second g Daram (inr (λ h. cc)) ∙ d
    each_new d s e first second third Saram = third g Saram (inr (λ h. cc)) ∙ s ∙ ap (newer blocks.saram) (first g Saram (inr (λ h. cc)))
    each_new d s e first second third External = e ∙ ap (newer blocks.external) (second g External (inr (λ h. cc)) ∙ first g External (inr (λ h. cc)))

-- ---- whether a block is replaced

abbrev any_of : Bool → Bool → Bool → Bool
any_of a b c = a || (b || (c || false))

none_of : (a b c : Bool) → any_of a b c ≡ false → (a ≡ false) × (b ≡ false) × (c ≡ false)
none_of true b c e = absurd (true≢false e)
none_of false true c e = absurd (true≢false e)
none_of false false true e = absurd (true≢false e)
none_of false false false e = (refl, refl, refl)

abbrev is_replaced : NewBlocks → Group → Space → Bool
is_replaced blocks y space = is_some (replaced_piece (new_block blocks space) (block_in y space))

not_replaced : (blocks : NewBlocks) (y : Group) → replaced_in blocks y ≡ false → (space : Space) → is_some (replaced_piece (new_block blocks space) (block_in y space)) ≡ false
not_replaced blocks y none Daram = (none_of (is_replaced blocks y Daram) (is_replaced blocks y Saram) (is_replaced blocks y External) none).0
not_replaced blocks y none Saram = (none_of (is_replaced blocks y Daram) (is_replaced blocks y Saram) (is_replaced blocks y External) none).1
not_replaced blocks y none External = (none_of (is_replaced blocks y Daram) (is_replaced blocks y Saram) (is_replaced blocks y External) none).2

pub replaced_at : (blocks : NewBlocks) (y y' : Group) → ((space : Space) → IsSameBlock (block_in y space) (block_in y' space)) → replaced_in blocks y' ≡ replaced_in blocks y
replaced_at blocks y y' same =
    ap (λ (t : Bool). any_of t (is_replaced blocks y' Saram) (is_replaced blocks y' External)) (replaced_same (new_block blocks Daram) (block_in y Daram) (block_in y' Daram) (same Daram))
    ∙ ap (λ (t : Bool). any_of (is_replaced blocks y Daram) t (is_replaced blocks y' External)) (replaced_same (new_block blocks Saram) (block_in y Saram) (block_in y' Saram) (same Saram))
    ∙ ap (λ (t : Bool). any_of (is_replaced blocks y Daram) (is_replaced blocks y Saram) t) (replaced_same (new_block blocks External) (block_in y External) (block_in y' External) (same External))

first_of : (new old : Option ScratchBlock) → is_some (replaced_piece new old) ≡ false → (newer new old ≡ old) ⊎ (old ≡ None)
first_of None old none = inl refl
first_of (Some b) None none = inr refl
first_of (Some b) (Some o) none = absurd (true≢false none)

block_kept : (new old : Option ScratchBlock) → is_some (replaced_piece new old) ≡ false → BlockStays old (newer new old)
block_kept None old none = block_stays_itself old
block_kept (Some b) None none = tt
block_kept (Some b) (Some o) none = absurd (true≢false none)

-- ---- the pieces that are taken out

pub region_of : (owner : Extent) (new old : Option ScratchBlock) (p : Option Span) → p ≡ replaced_piece new old → IsOf owner (block_piece old) → IfSome p (λ q. q.region ≡ owner)
region_of owner None old p e is = rw e tt
region_of owner (Some b) None p e is = rw e tt
region_of owner (Some b) (Some o) p e is = rw e is

among : (b o : Placed) → Contains (with_block b (o ∷ [])) o
among b o = elim (cases_lt o.place b.place) [
  | inl lt ↦ subst (λ (xs : List Placed). Contains xs o) (sym (behind b o [] lt)) (0, (let some : 0 < length (o ∷ b ∷ []) = omega arith in some), refl)
  | inr ge ↦ subst (λ (xs : List Placed). Contains xs o) (sym (before b o [] ge)) (1, (let some : 1 < length (b ∷ o ∷ []) = omega arith in some), refl)
]

pub replaced_owner : (g : ℕ) (bs : List Placed) (new old : Option ScratchBlock) (p : Option Span) → p ≡ replaced_piece new old
    → owned (Scratch g) bs ≡ with_new g new (block_of_piece (Scratch g) (block_align old) (block_piece old)) → IfSome p (Owns bs (Scratch g))
replaced_owner g bs None old p e is = rw e tt
replaced_owner g bs (Some b) None p e is = rw e tt
replaced_owner g bs (Some b) (Some o) p e is =
    rw e (o.align, subst (λ (xs : List Placed). Contains xs (block_of (Scratch g) o.align o.piece)) (sym is) (among (block_of (Scratch g) b.align b.piece) (block_of (Scratch g) o.align o.piece)))

each_same : (f h : Space → List Placed) → f Daram ≡ h Daram → f Saram ≡ h Saram → f External ≡ h External → each_space f ≡ each_space h
each_same f h d s e =
    ap (λ (xs : List Placed). let p : MemoryMap = record { daram = xs; saram = f Saram; external = f External } in p) d
    ∙ ap (λ (xs : List Placed). let p : MemoryMap = record { daram = h Daram; saram = xs; external = f External } in p) s
    ∙ ap (λ (xs : List Placed). let p : MemoryMap = record { daram = h Daram; saram = h Saram; external = xs } in p) e

-- whatever their words are
pub without_replaced_pieces : (map : MemoryMap) (blocks : NewBlocks) (y y' : Group) (old : OldBlocks) → ((space : Space) → IsSameBlock (block_in y space) (block_in y' space))
    → ((space : Space) → old_piece old space ≡ replaced_piece (new_block blocks space) (block_in y' space)) → without_pieces map old ≡ without_pieces map (replaced_pieces blocks y)
without_replaced_pieces map blocks y y' old same is =
    each_same (λ space. without_piece (old_piece old space) (blocks_in map space)) (λ space. without_piece (old_piece (replaced_pieces blocks y) space) (blocks_in map space))
    (at Daram) (at Saram) (at External)
  where
    at : (space : Space) → without_piece (old_piece old space) (blocks_in map space) ≡ without_piece (replaced_piece (new_block blocks space) (block_in y space)) (blocks_in map space)
    at space =
        ap (λ (p : Option Span). without_piece p (blocks_in map space)) (is space)
        ∙ without_same (new_block blocks space) (block_in y space) (block_in y' space) (blocks_in map space) (same space)

-- ---- the group with its new blocks

pub record Renewed {M : Type 0} (g : ℕ) (blocks : NewBlocks) (instances : List (Option (Member M))) (sharing : List Locations) (groups groups' : List Group) (spaces spaces' : Spaces) : Type 0 where
  pub old : OldBlocks
  pub placed : ArePlaced g blocks instances sharing groups spaces
  pub ordered : AreOrdered spaces
  pub ordered_now : AreOrdered spaces'
  pub is_old : (space : Space) → old_piece old space ≡ replaced_piece (new_block blocks space) (block_in (group_at groups g) space)
  pub is_new : (space : Space) → block_in (group_at groups' g) space ≡ newer (new_block blocks space) (block_in (group_at groups g) space)
  pub same : (h : ℕ) (space : Space) → h ≢ g → block_in (group_at groups' h) space ≡ block_in (group_at groups h) space
  pub activity : (k : ℕ) → activity_at groups' k ≡ activity_at groups k
  pub count : length groups' ≡ length groups
  pub map : map_of spaces' ≡ without_pieces (map_of spaces) old
  pub others : (o : Owner) (space : Space) → o ≢ Scratch g → owned o (blocks_in (map_of spaces') space) ≡ owned o (blocks_in (map_of spaces) space)
  pub regions : AreSameSpaces spaces spaces'

module _ {M : Type 0} (g : ℕ) (blocks : NewBlocks) (instances : List (Option (Member M))) (sharing : List Locations) (groups groups' : List Group) (spaces spaces' : Spaces)
    (r : Renewed g blocks instances sharing groups groups' spaces spaces') (ok : TablesOk instances sharing groups) where
  pub stands : AreGrown g instances sharing groups' spaces'
  stands = grown_now g blocks instances sharing groups groups' spaces spaces' r.old r.placed r.ordered r.is_old r.is_new r.same r.map r.others (λ space. (r.regions space).region) ok.held

  counted : length groups' ≡ GROUPS
  counted = r.count ∙ ok.group_count

  room : (i : ℕ) (m : Member M) → slot_at instances i ≡ Some m → HasRoom (instance_of m.inst) (shared_at sharing i) (group_at groups' m.group)
  room = room_of_grown g instances sharing groups' spaces' r.ordered_now stands

  pub told_now : TablesTold g 0 instances sharing groups'
  told_now =
      told_later g instances sharing groups groups' ok counted r.activity (λ k space apart. r.same k space apart)
      (λ i m at of. subst (λ (h : ℕ). HasRoom (instance_of m.inst) (shared_at sharing i) (group_at groups' h)) of (room i m at))

  same_active : (k : ℕ) → (group_at groups' k).active ≡ (group_at groups k).active
  same_active k = ap (λ (a : Activity). a.active) (r.activity k)

  module _ (none : replaced_in blocks (group_at groups g) ≡ false) where
    first_now : (h : ℕ) → IsSameOrFirst (group_at groups h) (group_at groups' h)
    first_now h space = elim (eqb_tells h g) [
      | inl e ↦ rw (e.1, r.is_new space) (first_of (new_block blocks space) (block_in (group_at groups g) space) (not_replaced blocks (group_at groups g) none space))
      | inr e ↦ inl (r.same h space e.1)
    ]

    module _ (i : ℕ) (m : Member M) (at : slot_at instances i ≡ Some m) where
      owner : IsPieceThere r.placed.before i (owner_of sharing i) (table_of m) (instance_of m.inst).own (shared_at sharing i) (group_at groups m.group)
      owner = r.placed.standing.owners i m at

      same_bases : placed (instance_of m.inst).table (instance_of m.inst).own (shared_at sharing i) (group_at groups' m.group)
          ≡ placed (instance_of m.inst).table (instance_of m.inst).own (shared_at sharing i) (group_at groups m.group)
      same_bases =
          sym (placed-unplaced (instance_of m.inst).table (instance_of m.inst).own (shared_at sharing i) (group_at groups' m.group))
          ∙ placed_first (table_of m) (instance_of m.inst).own (shared_at sharing i) (group_at groups m.group) (group_at groups' m.group) owner.valid owner.need (first_now m.group)
          ∙ placed-unplaced (instance_of m.inst).table (instance_of m.inst).own (shared_at sharing i) (group_at groups m.group)

      settled_now : (instance_of m.inst).table ≡ placed (instance_of m.inst).table (instance_of m.inst).own (shared_at sharing i) (group_at groups' m.group)
      settled_now = (ok.housed i m at).settled ∙ sym same_bases

      housed_now : IsHoused (instance_of m.inst) (shared_at sharing i) (group_at groups' m.group)
      housed_now = record {
        fits = subst (λ (rs : List MemRec). Fits rs (instance_of m.inst).own (shared_at sharing i) (group_at groups' m.group)) (sym settled_now) (room i m at);
        settled = settled_now;
      }

    -- where a group only gets first blocks nobody goes by other bases
    pub ok_now : TablesOk instances sharing groups'
    ok_now = record {
      slot_count = ok.slot_count;
      sharing_count = ok.sharing_count;
      group_count = counted;
      held = ok.held;
      bare = ok.bare;
      group_range = ok.group_range;
      housed = housed_now;
      active_there = λ k i below active. ok.active_there k i below (sym (same_active k) ∙ active);
      active_known = λ k i active. same_active k ∙ ok.active_known k i active;
    }

  -- no member of the group sees the change
  pub words_now : (replaced_in blocks (group_at groups g) ≡ false) ⊎ ((group_at groups g).active ≡ None) → WordsStay instances sharing groups instances sharing groups'
  words_now unseen = record {
    slot = λ i. member_stays_itself (slot_at instances i);
    pieces = λ i k. refl;
    blocks = λ k i space active. elim (eqb_tells k g) [
      | inl e ↦ elim unseen [
        | inl none ↦ rw (e.1, r.is_new space) (block_kept (new_block blocks space) (block_in (group_at groups g) space) (not_replaced blocks (group_at groups g) none space))
        | inr idle ↦ absurd (none-some _ (sym idle ∙ rw e.1 at (ok.active_known k i active)))
      ]
      | inr e ↦ rw (r.same k space e.1) (block_stays_itself (block_in (group_at groups k) space))
    ];
  }

  pub poisoned_now : (w : Option ℤ) → ((space : Space) → ArePoison w (block_words (new_block blocks space))) → ArePoisoned w groups → ArePoisoned w groups'
  poisoned_now w new poison k below none space = elim (eqb_tells k g) [
    | inl e ↦ rw (e.1, r.is_new space)
        (newer_poison w (new_block blocks space) (block_in (group_at groups g) space) (new space)
        (poison g (rw e.1 at below) (rw e.1 at (sym (same_active k) ∙ none)) space))
    | inr e ↦ rw (r.same k space e.1) (poison k below (sym (same_active k) ∙ none) space)
  ]

-- ---- for the new member

needed_same : (b c : Option ScratchBlock) (need align : ℕ) → IsSameBlock b c → block_needed c need align ≡ block_needed b need align
needed_same None None need align same = refl
needed_same None (Some c) need align same = absurd (none-some _ (sym same.0))
needed_same (Some b) None need align same = absurd same.0
needed_same (Some b) (Some c) need align same = rw (same.0.2, same.1) refl

pub need_new : (rs : List MemRec) (blocks : NewBlocks) (y y1 y2 : Group) (owners : Space → Extent) → ((space : Space) → IsSameBlock (block_in y space) (block_in y1 space))
    → ((space : Space) → block_in y2 space ≡ newer (new_block blocks space) (block_in y1 space))
    → ((space : Space) → IsNeeded (owners space) (block_need rs y space) (new_block blocks space)) → NoNeed rs y2
need_new rs blocks y y1 y2 owners same is needed space =
    rw (is space)
    (needed_serves (owners space) (block_in y1 space) (new_block blocks space) (scratch_need rs space) (scratch_align rs space)
    (subst (λ (n : Option Need). IsNeeded (owners space) n (new_block blocks space)) (sym (needed_same (block_in y space) (block_in y1 space) (scratch_need rs space) (scratch_align rs space) (same space))) (needed space)))
