-- What was placed for a new instance.
use Rattle.std.proofs.Common.{◌≡◌, ◌≢◌, ℕ, IsTrue, List, Option, Some, None, refl, sym, ◌∙◌, ap}
use Rattle.std.proofs.lemmas.Option.{none-some}
use Rattle.space_raw.specs.Span.{Extent}
use Rattle.mem_rec.specs.declared.MemRec.{MemRec}
use Rattle.mem_rec.specs.declared.Space.{Space}
use Rattle.mem_rec.specs.Records.{is_table}
use Rattle.mem_rec.specs.Layout.{scratch_align, scratch_need}
use Rattle.ialg.specs.Records.{record_at}
use Rattle.record_loans.specs.declared.pieces.Pieces.{Pieces}
use Rattle.record_loans.specs.declared.block.ScratchBlock.{ScratchBlock}
use Rattle.record_loans.specs.Blocks.{block_piece}
use Rattle.scratch_group.specs.declared.group.Group.{Group}
use Rattle.scratch_group.specs.declared.group.Need.{Need}
use Rattle.scratch_group.specs.Blocks.{block_in}
use Rattle.lifecycle.specs.Rooms.{NoNeed}
use Rattle.host_table.specs.declared.member.Member.{Member}
use Rattle.host_shared.specs.declared.locations.Locations.{Locations}
use Rattle.host_table.specs.Table.{slot_at, group_at}
use Rattle.host_map.specs.declared.placed.Owner.{Owner}
use Rattle.host_map.specs.declared.placed.Owner.TheVariants.{Record, Scratch}
use Rattle.host_map.specs.Blocks.{owned}
use Rattle.host_spaces.specs.declared.pieces.NewBlocks.{NewBlocks}
use Rattle.host_spaces.specs.declared.spaces.Spaces.{Spaces}
use Rattle.host_spaces.specs.MemoryMap.{AreSameSpaces, map_of, space_in}
use Rattle.host_map.specs.MemoryMap.{blocks_in}
use Rattle.host_spaces.specs.Pieces.{ArePlacedPieces, HasRecords, IsNeeded, new_block, with_new}
use Rattle.host_spaces.specs.Wants.{block_need}
use Rattle.host_moves.specs.Standing.{AgreeWithMap, IsOf, SlotIsSame}
use Rattle.host_moves.proofs.Instances.{not_a_group, other_group, other_instance}
use Rattle.host_instances.specs.Growth.{ArePlaced}
use Rattle.host_instances.proofs.Needed.{larger_needed}
use Rattle.host_instances.specs.Started.{IsPlaced}

owner_of : (owner : Extent) (n : Option Need) (new : Option ScratchBlock) → IsNeeded owner n new → IsOf owner (block_piece new)
owner_of owner n None is = tt
owner_of owner None (Some b) is = absurd is
owner_of owner (Some n) (Some b) is = is.0

-- where nobody lives, nobody did
pub none_before : {M : Type 0} (a b : Option (Member M)) → SlotIsSame a b → b ≡ None → a ≡ None
none_before None b same none = refl
none_before (Some m) None same none = absurd same
none_before (Some m) (Some n) same none = absurd (none-some _ (sym none))

module _ {M : Type 0} (i g : ℕ) (table : List MemRec) (blocks : NewBlocks) (instances : List (Option (Member M))) (sharing : List Locations) (groups : List Group) (before spaces : Spaces)
    (empty : slot_at instances i ≡ None) (standing : AgreeWithMap instances sharing groups before)
    (needed : (space : Space) → IsNeeded (space_in before space).region (block_need table (group_at groups g) space) (new_block blocks space))
    (placed : (space : Space) → owned (Scratch g) (blocks_in (map_of spaces) space) ≡ with_new g (new_block blocks space) (owned (Scratch g) (blocks_in (map_of before) space)))
    (others : (o : Owner) (space : Space) → o ≢ Scratch g → ((k : ℕ) → o ≢ Record i k) → owned o (blocks_in (map_of spaces) space) ≡ owned o (blocks_in (map_of before) space))
    (stays : AreSameSpaces before spaces) where
  not_new : (j : ℕ) (m : Member M) → slot_at instances j ≡ Some m → j ≢ i
  not_new j m at e = none-some _ (sym empty ∙ ap (slot_at instances) (sym e) ∙ at)

  pub are_placed : ArePlaced g blocks instances sharing groups spaces
  are_placed = record {
    before = before;
    standing = standing;
    records = λ j k m space at. others (Record j k) space (not_a_group j k g) (λ l. other_instance i j l k (not_new j m at));
    others = λ h space apart. others (Scratch h) space (other_group g h apart) (λ k e. not_a_group i k h (sym e));
    placed = placed;
    regions = λ space. (stays space).region;
    owner = λ space. rw ((stays space).region) (owner_of (space_in before space).region (block_need table (group_at groups g) space) (new_block blocks space) (needed space));
    larger = λ space.
        larger_needed (space_in before space).region (block_in (group_at groups g) space) (new_block blocks space) (scratch_need table space) (scratch_align table space) (needed space);
  }

  -- and so they are where the group has grown
  module _ (sharers : ℕ → Option ℕ) (own shared : Pieces) (y : Group) (spaces' : Spaces) (valid : IsTrue (is_table table))
      (records : HasRecords (map_of spaces) i table own shared) (pieces : ArePlacedPieces before table sharers own shared)
      (need : ((space : Space) → IsNeeded (space_in spaces space).region (block_need table (group_at groups g) space) (new_block blocks space)) → NoNeed table y)
      (then_others : (o : Owner) (space : Space) → o ≢ Scratch g → owned o (blocks_in (map_of spaces') space) ≡ owned o (blocks_in (map_of spaces) space))
      (then_stays : AreSameSpaces spaces spaces') where
    region_then : (space : Space) → (space_in spaces' space).region ≡ (space_in before space).region
    region_then space = (then_stays space).region ∙ (stays space).region

    pub is_placed : IsPlaced spaces' i sharers table own shared y
    is_placed = record {
      valid = valid;
      need = need (λ space. rw ((stays space).region) (needed space));
      records = λ k space. then_others (Record i k) space (not_a_group i k g) ∙ records k space;
      pieces = record {
        persistent = λ k. rw (region_then (record_at table k).space) (pieces.persistent k);
        write_once = λ k. rw (region_then (record_at table k).space) (pieces.write_once k);
      };
    }
