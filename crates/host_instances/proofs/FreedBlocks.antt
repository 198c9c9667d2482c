-- The blocks of a group without members go.
use Rattle.std.proofs.Common.{◌≡◌, ◌≢◌, ℕ, ℤ, inl, inr, false, List, length, Option, Some, None, IfSome, refl, sym, ◌∙◌, ap, subst}
use Rattle.std.proofs.lemmas.Bool.{eq-eqb}
use Rattle.std.proofs.lemmas.Bool.Decides.{eqb_tells}
use Rattle.std.proofs.lemmas.List.Elements.{All-nil}
use Rattle.space_raw.specs.Span.{Span}
use Rattle.mem_rec.specs.declared.Space.{Space}
use Rattle.ialg.specs.History.{History}
use Rattle.ialg.specs.Records.{ArePoison}
use Rattle.ialg.specs.Laws.{Laws}
use Rattle.record_loans.specs.declared.block.ScratchBlock.{ScratchBlock}
use Rattle.record_loans.specs.Blocks.{block_piece, block_align, block_words}
use Rattle.scratch_group.specs.declared.group.Group.{Group}
use Rattle.scratch_group.specs.Blocks.{block_in}
use Rattle.record_loans.proofs.PieceLemmas.{same_pieces}
use Rattle.host_map.specs.declared.placed.Owner.{Owner}
use Rattle.host_map.specs.declared.placed.Owner.TheVariants.{Record, Scratch as GroupScratch}
use Rattle.host_map.specs.declared.placed.Placed.{Placed}
use Rattle.host_spaces.specs.Blocks.{Owns, block_of_piece}
use Rattle.host_map.specs.Blocks.{owned}
use Rattle.host_spaces.proofs.Owners.{owns_one}
use Rattle.host_spaces.specs.declared.spaces.Spaces.{Spaces}
use Rattle.host_spaces.specs.declared.pieces.OldBlocks.{OldBlocks}
use Rattle.host_spaces.specs.MemoryMap.{AreSameSpaces, map_of}
use Rattle.host_map.specs.MemoryMap.{blocks_in, is_group's, without_owners}
use Rattle.host_spaces.specs.Pieces.{old_piece}
use Rattle.host_table.specs.declared.member.Member.{Member}
use Rattle.host_shared.specs.declared.locations.Locations.{Locations}
use Rattle.host_shared.specs.Locations.{owner_of, shared_at}
use Rattle.host_map.specs.Activity.{Activity}
use Rattle.host_table.specs.Table.{slot_at, group_at, instance_of, is_member_of, activity_at, TablesOk, ArePoisoned}
use Rattle.host_table.specs.Refinement.{HistoriesRefine}
use Rattle.host_moves.specs.Waiting.{BlockStays, WordsStay}
use Rattle.host_moves.proofs.Owns.{told_later}
use Rattle.host_moves.proofs.Seen.{histories_seen}
use Rattle.host_moves.specs.Standing.{IsPieceThere, AgreeWithMap, table_of}
use Rattle.host_moves.proofs.Instances.{not_a_group, other_group}
use Rattle.host_moves.proofs.Owners.{IsAlike, owner_stays, owner_elsewhere}
use Rattle.host_moves.proofs.MovedBlocks.{alike_itself, block_stays_itself, member_stays_itself}
use Rattle.host_instances.specs.Leaving.{AgreeWithMapBut}
use Rattle.host_instances.proofs.Belonging.{other_member, none_active}
use Rattle.host_instances.proofs.Records.{owned_gone}

owns_there : (bs : List Placed) (o : Owner) (al : ℕ) (p : Option Span) → owned o bs ≡ block_of_piece o al p → IfSome p (Owns bs o)
owns_there bs o al None e = tt
owns_there bs o al (Some p) e = owns_one bs o al p e

poison_none : (w : Option ℤ) → ArePoison w (block_words None)
poison_none None = tt
poison_none (Some v) = All-nil (λ x. x ≡ v)

module _ {M : Type 0} (g : ℕ) (instances : List (Option (Member M))) (sharing : List Locations) (groups groups' : List Group) (spaces spaces' : Spaces) (pieces : OldBlocks)
    (none : (j : ℕ) → is_member_of g (slot_at instances j) ≡ false) (ok : TablesOk instances sharing groups) (standing : AgreeWithMapBut g instances sharing groups spaces)
    (old : (space : Space) → old_piece pieces space ≡ block_piece (block_in (group_at groups g) space))
    (empty : (space : Space) → block_in (group_at groups' g) space ≡ None)
    (same : (k : ℕ) (space : Space) → k ≢ g → block_in (group_at groups' k) space ≡ block_in (group_at groups k) space)
    (activity : (k : ℕ) → activity_at groups' k ≡ activity_at groups k) (count : length groups' ≡ length groups) where
  abbrev align_of : Space → ℕ
  align_of space = block_align (block_in (group_at groups g) space)

  pub owned_old : (space : Space) → owned (GroupScratch g) (blocks_in (map_of spaces) space) ≡ block_of_piece (GroupScratch g) (align_of space) (old_piece pieces space)
  owned_old space = standing.blocks g space ∙ ap (block_of_piece (GroupScratch g) (align_of space)) (sym (old space))

  pub owns_old : (space : Space) → IfSome (old_piece pieces space) (Owns (blocks_in (map_of spaces) space) (GroupScratch g))
  owns_old space = owns_there (blocks_in (map_of spaces) space) (GroupScratch g) (align_of space) (old_piece pieces space) (owned_old space)

  of_others : (i : ℕ) (m : Member M) → slot_at instances i ≡ Some m → m.group ≢ g
  of_others i m at = other_member (slot_at instances i) g m at (none i)

  pub ok_without : TablesOk instances sharing groups'
  ok_without =
      let told = told_later g instances sharing groups groups' ok (count ∙ ok.group_count) activity (λ k space apart. same k space apart) (λ i m at of. absurd (of_others i m at of)) in
      record {
        slot_count = told.slot_count;
        sharing_count = told.sharing_count;
        group_count = told.group_count;
        held = told.held;
        bare = told.bare;
        group_range = told.group_range;
        housed = λ i m at. (told.housed i m at).told (inl (of_others i m at));
        active_there = told.active_there;
        active_known = told.active_known;
      }

  pub poisoned_without : (w : Option ℤ) → ArePoisoned w groups → ArePoisoned w groups'
  poisoned_without w before k below rests space =
      elim (eqb_tells k g) [
        | inl e ↦ subst (λ (b : Option ScratchBlock). ArePoison w (block_words b)) (sym (ap (λ n. block_in (group_at groups' n) space) e.1 ∙ empty space)) (poison_none w)
        | inr e ↦
            subst (λ (b : Option ScratchBlock). ArePoison w (block_words b)) (sym (same k space e.1))
            (before k below (sym (ap (λ (a : Activity). a.active) (activity k)) ∙ rests) space)
      ]

  words_without : WordsStay instances sharing groups instances sharing groups'
  words_without = record {
    slot = λ i. member_stays_itself (slot_at instances i);
    pieces = λ i k. refl;
    blocks = λ k i space active.
        elim (eqb_tells k g) [
          | inl e ↦ absurd (none_active (slot_at instances i) g (none i) (active ∙ ap Some e.1))
          | inr e ↦ subst (BlockStays (block_in (group_at groups k) space)) (sym (same k space e.1)) (block_stays_itself (block_in (group_at groups k) space))
        ];
  }

  pub keeps_without : (laws : Laws M) (w : Option ℤ) (histories : ℕ → History)
      → HistoriesRefine laws w instances sharing groups histories → HistoriesRefine laws w instances sharing groups' histories
  keeps_without laws w histories keeps = histories_seen laws w histories ok words_without keeps

  module _ (map : map_of spaces' ≡ without_owners (is_group's g) (map_of spaces))
      (beside : (o : Owner) (space : Space) → o ≢ GroupScratch g → owned o (blocks_in (map_of spaces') space) ≡ owned o (blocks_in (map_of spaces) space))
      (stay : AreSameSpaces spaces spaces') where
    owner_without : (i : ℕ) (m : Member M) → slot_at instances i ≡ Some m → IsPieceThere spaces' i (owner_of sharing i) (table_of m) (instance_of m.inst).own (shared_at sharing i) (group_at groups' m.group)
    owner_without i m at =
        owner_stays spaces' i (owner_of sharing i) (table_of m) (instance_of m.inst).own (instance_of m.inst).own (shared_at sharing i) (shared_at sharing i) (group_at groups m.group) (group_at groups' m.group)
        (same_pieces (instance_of m.inst).own) (same_pieces (shared_at sharing i))
        (λ space. subst (IsAlike (block_in (group_at groups m.group) space)) (sym (same m.group space (of_others i m at))) (alike_itself (block_in (group_at groups m.group) space)))
        (owner_elsewhere spaces spaces' i (owner_of sharing i) (table_of m) (instance_of m.inst).own (shared_at sharing i) (group_at groups m.group)
        (λ k space. beside (Record (owner_of sharing i k) k) space (not_a_group (owner_of sharing i k) k g)) (λ k space apart. beside (Record i k) space (not_a_group i k g)) (λ space. (stay space).region) (standing.owners i m at))

    pub location_without : AgreeWithMap instances sharing groups' spaces'
    location_without = record {
      owners = owner_without;
      least = standing.least;
      together = standing.together;
      free = standing.free;
      gone = λ i k space nobody. beside (Record i k) space (not_a_group i k g) ∙ standing.gone i k space nobody;
      blocks = λ k space.
          elim (eqb_tells k g) [
            | inl e ↦
                rw (e.1, empty space) (owned_gone (is_group's g) (GroupScratch g) spaces spaces' space (eq-eqb g g refl) map)
            | inr e ↦
                beside (GroupScratch k) space (other_group g k e.1) ∙ standing.blocks k space
                ∙ ap (λ (b : Option ScratchBlock). block_of_piece (GroupScratch k) (block_align b) (block_piece b)) (sym (same k space e.1))
          ];
      regions = λ k space.
          elim (eqb_tells k g) [
            | inl e ↦ rw (e.1, empty space) tt
            | inr e ↦ rw ((stay space).region, same k space e.1) (standing.regions k space)
          ];
      unused = λ k space nobody.
          elim (eqb_tells k g) [
            | inl e ↦ rw e.1 (empty space)
            | inr e ↦ same k space e.1 ∙ standing.unused k space e.1 nobody
          ];
    }

-- where the group has a member, none of its blocks is unused
pub location_all : {M : Type 0} (g : ℕ) (instances : List (Option (Member M))) (sharing : List Locations) (groups : List Group) (spaces : Spaces)
    → (((j : ℕ) → is_member_of g (slot_at instances j) ≡ false) → ⊥) → AgreeWithMapBut g instances sharing groups spaces → AgreeWithMap instances sharing groups spaces
location_all g instances sharing groups spaces some standing = record {
  owners = standing.owners;
  least = standing.least;
  together = standing.together;
  free = standing.free;
  gone = standing.gone;
  blocks = standing.blocks;
  regions = standing.regions;
  unused = λ k space none.
      elim (eqb_tells k g) [
        | inl e ↦ absurd (some (λ j. ap (λ n. is_member_of n (slot_at instances j)) (sym e.1) ∙ none j))
        | inr e ↦ standing.unused k space e.1 none
      ];
}
