-- A group's block lies elsewhere.
use Rattle.std.proofs.Common.{◌≡◌, ◌≢◌, ℕ, ◌⊎◌, inl, inr, List, length, Option, Some, None, refl, sym, ◌∙◌, ap, subst}
use Rattle.std.proofs.lemmas.Option.{none-some}
use Rattle.std.proofs.lemmas.Bool.Decides.{eqb_tells}
use Rattle.space_raw.specs.Span.{Span}
use Rattle.mem_rec.specs.declared.MemRec.{MemRec}
use Rattle.mem_rec.specs.declared.Space.{Space}
use Rattle.mem_rec.specs.Records.{same_space}
use Rattle.record_loans.specs.declared.block.ScratchBlock.{ScratchBlock}
use Rattle.record_loans.specs.Blocks.{block_piece, block_align, block_words}
use Rattle.scratch_group.specs.declared.group.Group.{Group}
use Rattle.scratch_group.specs.Blocks.{block_in}
use Rattle.lifecycle.specs.Moves.{HasRoom}
use Rattle.lifecycle.specs.States.{Fits}
use Rattle.record_loans.proofs.PieceLemmas.{same_pieces}
use Rattle.lifecycle.proofs.Frames.{placed-unplaced}
use Rattle.host_map.specs.declared.placed.Owner.TheVariants.{Record, Scratch as GroupScratch}
use Rattle.host_spaces.specs.Blocks.{block_of_piece}
use Rattle.host_map.specs.Blocks.{owned}
use Rattle.host_spaces.specs.declared.spaces.Spaces.{Spaces}
use Rattle.host_map.specs.MemoryMap.{blocks_in}
use Rattle.host_spaces.specs.MemoryMap.{map_of, space_in}
use Rattle.host_spaces.specs.Pieces.{HasBlocks}
use Rattle.host_table.specs.declared.member.Member.{Member}
use Rattle.host_shared.specs.declared.locations.Locations.{Locations}
use Rattle.host_shared.specs.Locations.{owner_of, shared_at}
use Rattle.host_table.specs.Table.{slot_at, group_at, instance_of}
use Rattle.host_moves.specs.Waiting.{BlockStays, SlotStays, WordsStay}
use Rattle.host_moves.specs.Standing.{IsOf, AgreeWithMap, AreOrdered, table_of}
use Rattle.host_moves.proofs.Rooms.{either, room_at_owner}
use Rattle.host_moves.proofs.Owners.{IsAlike, owner_stays, owner_elsewhere}
use Rattle.host_moves.proofs.Instances.{one_space, other_space, not_a_group, other_group}
use Rattle.host_moves.proofs.Moved.{OneMoves, other_owned, blocks_elsewhere}

-- each instance that stands in the memory map has room
pub room_of_standing : {M : Type 0} (instances : List (Option (Member M))) (sharing : List Locations) (groups : List Group) (spaces : Spaces) → AreOrdered spaces → AgreeWithMap instances sharing groups spaces
    → (i : ℕ) (m : Member M) → slot_at instances i ≡ Some m → HasRoom (instance_of m.inst) (shared_at sharing i) (group_at groups m.group)
room_of_standing instances sharing groups spaces ordered standing i m at =
    subst (λ (rs : List MemRec). Fits rs (instance_of m.inst).own (shared_at sharing i) (group_at groups m.group))
    (placed-unplaced (instance_of m.inst).table (instance_of m.inst).own (shared_at sharing i) (group_at groups m.group))
    (room_at_owner spaces i (owner_of sharing i) m.group (table_of m) (instance_of m.inst).own (shared_at sharing i) (group_at groups m.group) ordered (standing.owners i m at) (standing.blocks m.group) (standing.regions m.group))

pub alike_itself : (b : Option ScratchBlock) → IsAlike b b
alike_itself None = refl
alike_itself (Some b) = (refl, refl)

pub block_stays_itself : (b : Option ScratchBlock) → BlockStays b b
block_stays_itself None = tt
block_stays_itself (Some b) = refl

pub member_stays_itself : {M : Type 0} (slot : Option (Member M)) → SlotStays slot slot
member_stays_itself None = refl
member_stays_itself (Some m) = record { group = refl; state = refl; kind = refl; params = refl; table = refl; own = λ k. refl }

module _ {M : Type 0} (space : Space) (g al : ℕ) (p q : Span) (instances : List (Option (Member M))) (sharing : List Locations) (groups groups' : List Group) (spaces spaces' : Spaces)
    (moves : OneMoves space (GroupScratch g) p q spaces spaces')
    (same : (k : ℕ) (s : Space) → (k ≢ g) ⊎ (s ≢ space) → block_in (group_at groups' k) s ≡ block_in (group_at groups k) s)
    (was : block_in (group_at groups g) space ≡ Some (record { piece = p; align = al })) (is : block_in (group_at groups' g) space ≡ Some (record { piece = q; align = al })) where
  -- what holds of the block that moves and of each other one
  by_block : (P : ℕ → Space → Type 0) → P g space → ((k : ℕ) (s : Space) → (k ≢ g) ⊎ (s ≢ space) → P k s) → (k : ℕ) (s : Space) → P k s
  by_block P here there k s =
      elim (eqb_tells k g) [
        | inr e ↦ there k s (inl e.1)
        | inl e ↦ elim (either (same_space space s)) [
          | inr other ↦ there k s (inr (other_space space s other))
          | inl yes_same ↦ rw e.1 (subst (P g) (one_space space s yes_same) here)
        ]
      ]

  alike_now : (k : ℕ) (s : Space) → IsAlike (block_in (group_at groups k) s) (block_in (group_at groups' k) s)
  alike_now =
      by_block (λ k s. IsAlike (block_in (group_at groups k) s) (block_in (group_at groups' k) s)) (rw (was, is) (ap length moves.words, refl))
      (λ k s apart. rw (same k s apart) (alike_itself (block_in (group_at groups k) s)))

  has_now : (k : ℕ) → HasBlocks (map_of spaces) k (group_at groups k) → HasBlocks (map_of spaces') k (group_at groups' k)
  has_now k before s =
      by_block
      (λ l t. owned (GroupScratch l) (blocks_in (map_of spaces) t) ≡ block_of_piece (GroupScratch l) (block_align (block_in (group_at groups l) t)) (block_piece (block_in (group_at groups l) t))
      → owned (GroupScratch l) (blocks_in (map_of spaces') t) ≡ block_of_piece (GroupScratch l) (block_align (block_in (group_at groups' l) t)) (block_piece (block_in (group_at groups' l) t)))
      (λ e. rw is (moves.here al (rw was at e)))
      (λ l t apart e. rw (same l t apart)
      (elim apart [
        | inl other ↦ other_owned space (GroupScratch g) p q spaces spaces' moves (GroupScratch l) (other_group g l other) t ∙ e
        | inr other ↦ ap (owned (GroupScratch l)) (blocks_elsewhere spaces spaces' t (moves.elsewhere t other)) ∙ e
      ]))
      k s (before s)

  pub standing_block : AgreeWithMap instances sharing groups spaces → AgreeWithMap instances sharing groups' spaces'
  standing_block standing = record {
    owners = λ i m at.
        owner_stays spaces' i (owner_of sharing i) (table_of m) (instance_of m.inst).own (instance_of m.inst).own (shared_at sharing i) (shared_at sharing i) (group_at groups m.group) (group_at groups' m.group)
        (same_pieces (instance_of m.inst).own) (same_pieces (shared_at sharing i)) (alike_now m.group)
        (owner_elsewhere spaces spaces' i (owner_of sharing i) (table_of m) (instance_of m.inst).own (shared_at sharing i) (group_at groups m.group)
        (λ l s. other_owned space (GroupScratch g) p q spaces spaces' moves (Record (owner_of sharing i l) l) (not_a_group (owner_of sharing i l) l g) s)
        (λ l s apart. other_owned space (GroupScratch g) p q spaces spaces' moves (Record i l) (not_a_group i l g) s) moves.regions (standing.owners i m at));
    least = standing.least;
    together = standing.together;
    free = standing.free;
    gone = λ i k s none. other_owned space (GroupScratch g) p q spaces spaces' moves (Record i k) (not_a_group i k g) s ∙ standing.gone i k s none;
    blocks = λ k. has_now k (standing.blocks k);
    regions = λ k s.
        rw (moves.regions s)
        (by_block (λ l t. IsOf (space_in spaces t).region (block_piece (block_in (group_at groups l) t)) → IsOf (space_in spaces t).region (block_piece (block_in (group_at groups' l) t)))
        (λ before. rw is (moves.region ∙ rw was at before)) (λ l t apart before. rw (same l t apart) before) k s (standing.regions k s));
    unused = λ k s none.
        by_block (λ l t. block_in (group_at groups l) t ≡ None → block_in (group_at groups' l) t ≡ None)
        (λ before. absurd (none-some _ (sym before ∙ was))) (λ l t apart before. same l t apart ∙ before) k s (standing.unused k s none);
  }

  pub words_of_block : WordsStay instances sharing groups instances sharing groups'
  words_of_block = record {
    slot = λ i. member_stays_itself (slot_at instances i);
    pieces = λ i k. refl;
    blocks = λ k i s active.
        by_block (λ l t. BlockStays (block_in (group_at groups l) t) (block_in (group_at groups' l) t)) (rw (was, is) moves.words)
        (λ l t apart. rw (same l t apart) (block_stays_itself (block_in (group_at groups l) t))) k s;
  }

  -- the blocks have the same words
  pub same_words_of_blocks : (k : ℕ) (s : Space) → block_words (block_in (group_at groups' k) s) ≡ block_words (block_in (group_at groups k) s)
  same_words_of_blocks =
      by_block (λ l t. block_words (block_in (group_at groups' l) t) ≡ block_words (block_in (group_at groups l) t)) (rw (was, is) moves.words)
      (λ l t apart. ap block_words (same l t apart))
