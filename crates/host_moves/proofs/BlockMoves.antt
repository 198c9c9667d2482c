-- The block of a group moves.
use Rattle.std.proofs.Common.{◌≡◌, ◌≢◌, ℕ, zero, suc, ◌<◌, ◌≤◌, ◌⊎◌, inl, inr, true, false, List, [], ◌∷◌, length, Option, Some, None, IsSome, is_some, refl, sym, ◌∙◌, ap, subst, arith}
use Rattle.std.specs.Option.{option_map}
use Rattle.std.specs.List.{Contains}
use Rattle.std.proofs.lemmas.Option.{none-some, same_Some}
use Rattle.std.proofs.lemmas.Bool.{true≢false}
use Rattle.space_raw.specs.Span.{Span}
use Rattle.mem_rec.specs.declared.Space.{Space}
use Rattle.mem_rec.specs.declared.Space.TheVariants.{Daram, Saram, External}
use Rattle.mem_rec.specs.declared.Attr.{Attr}
use Rattle.mem_rec.specs.declared.Attr.TheVariants.{Scratch, Persist, WriteOnce}
use Rattle.space_heap.specs.Maps.{range_of}
use Rattle.ialg.specs.Records.{record_at}
use Rattle.record_loans.specs.declared.pieces.Pieces.{Pieces}
use Rattle.record_loans.specs.declared.block.ScratchBlock.{ScratchBlock}
use Rattle.record_loans.specs.Pieces.{piece_at}
use Rattle.record_loans.specs.Blocks.{block_piece, block_align, block_words}
use Rattle.scratch_group.specs.declared.group.Group.{Group}
use Rattle.scratch_group.specs.Blocks.{block_in}
use Rattle.lifecycle.specs.Rooms.{lasting_piece}
use Rattle.host_map.specs.declared.placed.Owner.{Owner}
use Rattle.host_map.specs.declared.placed.Owner.TheVariants.{Scratch as GroupScratch}
use Rattle.host_map.specs.declared.placed.Placed.{Placed}
use Rattle.host_spaces.specs.Blocks.{Owns, block_of, block_of_piece}
use Rattle.host_map.specs.Blocks.{block_range, owned}
use Rattle.host_map.specs.Moves.{next_block}
use Rattle.host_spaces.specs.declared.spaces.Spaces.{Spaces}
use Rattle.host_map.specs.MemoryMap.{blocks_in}
use Rattle.host_spaces.specs.MemoryMap.{map_of, space_in}
use Rattle.mem_rec.specs.declared.TheConstants.{GROUPS}
use Rattle.host_table.specs.declared.member.Member.{Member}
use Rattle.host_shared.specs.declared.locations.Locations.{Locations}
use Rattle.host_table.specs.Table.{slot_at, group_at, no_group, instance_of, own_of, activity_at, TablesOk, TablesTold}
use Rattle.host_map.specs.Activity.{Activity}
use Rattle.host_table.specs.Frames.{InactiveGroupsStay}
use Rattle.host_shared.specs.Locations.{shared_at}
use Rattle.host_moves.specs.Waiting.{WordsStay}
use Rattle.host_moves.proofs.Owns.{told_later}
use Rattle.lifecycle.specs.Moves.{HasRoom}
use Rattle.host_moves.specs.Standing.{IsOf, AreOrdered, AgreeWithMap, table_of}
use Rattle.host_moves.specs.Moves.{InactiveWordsStay, IsNextOf}
use Rattle.host_moves.proofs.Moved.{OneMoves}
use Rattle.host_moves.proofs.Rooms.{compare}
use Rattle.host_moves.proofs.MovedBlocks.{room_of_standing, standing_block, words_of_block, same_words_of_blocks}
use Rattle.host_moves.proofs.Nexts.{IsIn, IsNextRecord, next_owned, only_block}
use Rattle.host_moves.proofs.Instances.{only_one, piece_there}

pub with_align : (b : Option ScratchBlock) (p : Span) → block_piece b ≡ Some p → b ≡ Some (record { piece = p; align = block_align b })
with_align None p e = absurd (none-some _ e)
with_align (Some b) p e = ap (λ (s : Span). let c : ScratchBlock = record { piece = s; align = b.align } in Some c) (same_Some b.piece p e)

module _ {M : Type 0} (instances : List (Option (Member M))) (sharing : List Locations) (groups : List Group) (spaces : Spaces) (space : Space) (g al : ℕ)
    (ok : TablesOk instances sharing groups) (standing : AgreeWithMap instances sharing groups spaces) (next : IsNextOf spaces space (GroupScratch g))
    (fine : (b : Placed) → next_block (blocks_in (map_of spaces) space) ≡ Some b → b.align ≡ al) where
  among : IsIn next.0 (block_of_piece (GroupScratch g) (block_align (block_in (group_at groups g) space)) (block_piece (block_in (group_at groups g) space)))
  among = subst (λ (xs : List Placed). IsIn next.0 xs) (standing.blocks g space) (next_owned (blocks_in (map_of spaces) space) (GroupScratch g) next.0 next.1.0 next.1.1)

  -- the group has a block there
  pub block_there : block_piece (block_in (group_at groups g) space) ≡ None → ⊥
  block_there none =
      let nothing : IsIn next.0 [] = rw none at among in
      nothing

  module _ (p : Span) (taken : block_piece (block_in (group_at groups g) space) ≡ Some p) where
    next_at : next.0 ≡ block_of (GroupScratch g) (block_align (block_in (group_at groups g) space)) p
    next_at = only_block next.0 (block_of (GroupScratch g) (block_align (block_in (group_at groups g) space)) p) (rw taken at among)

    same_align : block_align (block_in (group_at groups g) space) ≡ al
    same_align = ap (λ (b : Placed). b.align) (sym next_at) ∙ fine next.0 next.1.0

    pub next_is : next_block (blocks_in (map_of spaces) space) ≡ Some (block_of (GroupScratch g) al p)
    next_is = next.1.0 ∙ ap Some next_at ∙ ap (λ n. Some (block_of (GroupScratch g) n p)) same_align

    pub range_is : option_map block_range (next_block (blocks_in (map_of spaces) space)) ≡ Some (range_of p)
    range_is = rw next_is refl

    pub region_is : p.region ≡ (space_in spaces space).region
    region_is =
        let its : IsOf (space_in spaces space).region (Some p) = rw taken at (standing.regions g space) in
        its

    owned_is : owned (GroupScratch g) (blocks_in (map_of spaces) space) ≡ block_of (GroupScratch g) al p ∷ []
    owned_is = rw (taken, same_align) at (standing.blocks g space)

    owns : Owns (blocks_in (map_of spaces) space) (GroupScratch g) p
    owns = (al, subst (λ (bs : List Placed). Contains bs (block_of (GroupScratch g) al p)) (sym owned_is) (only_one (block_of (GroupScratch g) al p)))

    was : block_in (group_at groups g) space ≡ Some (record { piece = p; align = al })
    was = with_align (block_in (group_at groups g) space) p taken ∙ ap (λ (n : ℕ). let c : ScratchBlock = record { piece = p; align = n } in Some c) same_align

    module _ (q : Span) (groups1 groups2 : List Group) (spaces' : Spaces)
        (here : (owner : Owner) (align : ℕ) → owned owner (blocks_in (map_of spaces) space) ≡ block_of owner align p ∷ [] → owned owner (blocks_in (map_of spaces') space) ≡ block_of owner align q ∷ [])
        (others : (owner o : Owner) → Owns (blocks_in (map_of spaces) space) owner p → o ≢ owner → owned o (blocks_in (map_of spaces') space) ≡ owned o (blocks_in (map_of spaces) space))
        (elsewhere : (other : Space) → other ≢ space → space_in spaces' other ≡ space_in spaces other)
        (regions : (any : Space) → (space_in spaces' any).region ≡ (space_in spaces any).region) (words : q.words ≡ p.words) (region : q.region ≡ p.region)
        (first : (k : ℕ) (s : Space) → (k ≢ g) ⊎ (s ≢ space) → block_in (group_at groups1 k) s ≡ block_in (group_at groups k) s)
        (second : (k : ℕ) (s : Space) → (k ≢ g) ⊎ (s ≢ space) → block_in (group_at groups2 k) s ≡ block_in (group_at groups1 k) s)
        (is : block_in (group_at groups2 g) space ≡ Some (record { piece = q; align = al })) where
      moves : OneMoves space (GroupScratch g) p q spaces spaces'
      moves = record { here = here (GroupScratch g); others = λ o apart. others (GroupScratch g) o owns apart; elsewhere = elsewhere; regions = regions; words = words; region = region }

      same : (k : ℕ) (s : Space) → (k ≢ g) ⊎ (s ≢ space) → block_in (group_at groups2 k) s ≡ block_in (group_at groups k) s
      same k s apart = second k s apart ∙ first k s apart

      pub stands : AgreeWithMap instances sharing groups2 spaces'
      stands = standing_block space g al p q instances sharing groups groups2 spaces spaces' moves same was is standing

      pub words_now : WordsStay instances sharing groups instances sharing groups2
      words_now = words_of_block space g al p q instances sharing groups groups2 spaces spaces' moves same was is

      -- the words of a group without an active member stay, whoever is told afterwards
      pub inactive_words : (groups3 : List Group) → ((k : ℕ) → activity_at groups2 k ≡ activity_at groups k) → InactiveGroupsStay groups2 groups3 → InactiveWordsStay groups groups3
      inactive_words groups3 activity stay k s none =
          ap (λ (y : Group). block_words (block_in y s)) (stay k (ap (λ (a : Activity). a.active) (activity k) ∙ none))
          ∙ same_words_of_blocks space g al p q instances sharing groups groups2 spaces spaces' moves same was is k s

      pub told_now : AreOrdered spaces' → length groups2 ≡ GROUPS → ((k : ℕ) → activity_at groups2 k ≡ activity_at groups k) → TablesTold g 0 instances sharing groups2
      told_now ordered count activity =
          told_later g instances sharing groups groups2 ok count activity (λ k s apart. same k s (inl apart))
          (λ i m at of. subst (λ (l : ℕ). HasRoom (instance_of m.inst) (shared_at sharing i) (group_at groups2 l)) of (room_of_standing instances sharing groups2 spaces' ordered stands i m at))

-- ---- whether the record that moves is an own or a write-once one

pub few : (a : Attr) (own shared : Pieces) (k : ℕ) (p : Span) → lasting_piece a (piece_at own k) (piece_at shared k) ≡ Some p → k < 4
few Scratch own shared k p e = absurd (none-some _ e)
few Persist own shared k p e = piece_there own k p e
few WriteOnce own shared k p e = piece_there shared k p e

own_or : (a : Attr) (o s : Option Span) (p : Span) → lasting_piece a o s ≡ Some p → is_some s ≡ false → IsSome o
own_or Scratch o s p e none = absurd (none-some _ e)
own_or Persist o s p e none = rw e refl
own_or WriteOnce o s p e none = absurd (true≢false (let some : is_some s ≡ true = rw e refl in sym some ∙ none))

module _ {M : Type 0} (instances : List (Option (Member M))) (sharing : List Locations) (spaces : Spaces) (space : Space) (i k : ℕ) (its : IsNextRecord instances sharing spaces space i k) where
  pub record_number : k < 4
  record_number = few (record_at (table_of its.member) k).attr (instance_of its.member.inst).own (shared_at sharing i) k its.piece its.its

  pub own_there : is_some (piece_at (shared_at sharing i) k) ≡ false → IsSome (piece_at (own_of (slot_at instances i)) k)
  own_there none =
      rw its.there (own_or (record_at (table_of its.member) k).attr (piece_at (instance_of its.member.inst).own k) (piece_at (shared_at sharing i) k) its.piece its.its none)

-- ---- whose number it is

pub past : (groups : List Group) (g : ℕ) → length groups ≤ g → group_at groups g ≡ no_group
past [] g h = refl
past (y ∷ ys) zero h = absurd (none_less h)
  where
    none_less : suc (length ys) ≤ 0 → ⊥
    none_less e = omega (arith, e)
past (y ∷ ys) (suc g) h = past ys g (let less : length ys ≤ g = omega (arith, h) in less)

pub no_block : (space : Space) → block_piece (block_in no_group space) ≡ None
no_block Daram = refl
no_block Saram = refl
no_block External = refl

pub group_number : {M : Type 0} (instances : List (Option (Member M))) (sharing : List Locations) (groups : List Group) (spaces : Spaces) (space : Space) (g al : ℕ)
    → TablesOk instances sharing groups → AgreeWithMap instances sharing groups spaces → IsNextOf spaces space (GroupScratch g)
    → ((b : Placed) → next_block (blocks_in (map_of spaces) space) ≡ Some b → b.align ≡ al) → g < GROUPS
group_number instances sharing groups spaces space g al ok standing next fine =
    elim (compare g (length groups)) [
      | inl h ↦ omega (arith, h, ok.group_count)
      | inr h ↦ absurd (block_there instances sharing groups spaces space g al ok standing next fine (ap (λ (y : Group). block_piece (block_in y space)) (past groups g h) ∙ no_block space))
    ]
