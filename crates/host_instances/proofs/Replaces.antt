-- The blocks that a creation replaces are those that the group gives up.
use Rattle.std.proofs.Common.{◌≡◌, ℕ, ◌||◌, Bool, false, List, Option, Some, None, is_some, refl, sym, ◌∙◌, ap, if◌then◌else◌}
use Rattle.std.specs.Prelude.{slice_get}
use Rattle.std.specs.Option.{option_map}
use Rattle.space_raw.specs.Span.{Extent, Span}
use Rattle.mem_rec.specs.declared.MemRec.{MemRec}
use Rattle.mem_rec.specs.declared.Space.{Space}
use Rattle.mem_rec.specs.declared.Space.TheVariants.{Daram, Saram, External}
use Rattle.record_loans.specs.declared.block.ScratchBlock.{ScratchBlock}
use Rattle.record_loans.specs.Blocks.{block_align, block_piece}
use Rattle.scratch_group.specs.declared.group.Group.{Group}
use Rattle.scratch_group.specs.declared.group.Need.{Need}
use Rattle.scratch_group.specs.Blocks.{block_in}
use Rattle.host_map.specs.declared.placed.Owner.TheVariants.{Scratch}
use Rattle.host_map.specs.declared.placed.Placed.{Placed}
use Rattle.host_spaces.specs.Blocks.{block_of_piece}
use Rattle.host_spaces.specs.declared.pieces.NewBlocks.{NewBlocks}
use Rattle.host_map.specs.declared.parts.Wanted.{Wanted}
use Rattle.host_map.specs.Creation.{replaced_block, replaces}
use Rattle.host_map.specs.MemoryMap.{MemoryMap, blocks_in, group_block}
use Rattle.host_map.proofs.BlockLemmas.{group_block_is}
use Rattle.host_spaces.specs.Pieces.{HasBlocks, IsNeeded, new_block, old_piece}
use Rattle.host_spaces.specs.Wants.{block_need, need_wanted}
use Rattle.host_spaces.proofs.Steps.{scratch_is}
use Rattle.host_instances.specs.Blocks.{replaced_in, replaced_piece, replaced_pieces}

by_need : (g : ℕ) (space : Space) (n : Option Need) (owner : Extent) (new old : Option ScratchBlock) (b : Option Placed) → IsNeeded owner n new
    → b ≡ slice_get (block_of_piece (Scratch g) (block_align old) (block_piece old)) 0
    → option_map (λ (p : Span). p.place) (replaced_piece new old) ≡ option_map (λ (x : Placed). x.place) (if is_some (need_wanted g space n) then b else None)
by_need g space None owner None old b is e = refl
by_need g space None owner (Some c) old b is e = absurd is
by_need g space (Some n) owner None old b is e = absurd is
by_need g space (Some n) owner (Some c) None b is e = rw e refl
by_need g space (Some n) owner (Some c) (Some o) b is e = rw e refl

some_of : {A B : Type 0} (f : A → B) (x : Option A) → is_some (option_map f x) ≡ is_some x
some_of f None = refl
some_of f (Some a) = refl

module _ (map : MemoryMap) (g : ℕ) (table : List MemRec) (y : Group) (owners : Space → Extent) (blocks : NewBlocks) (has : HasBlocks map g y)
    (needed : (space : Space) → IsNeeded (owners space) (block_need table y space) (new_block blocks space)) where
  place_is : (space : Space) → option_map (λ (p : Span). p.place) (replaced_piece (new_block blocks space) (block_in y space)) ≡ option_map (λ (x : Placed). x.place) (replaced_block map g table space)
  place_is space =
      by_need g space (block_need table y space) (owners space) (new_block blocks space) (block_in y space) (group_block map g space) (needed space) (group_block_is g (blocks_in map space) ∙ ap (λ bs. slice_get bs 0) (has space))
      ∙ ap (λ (w : Option Wanted). option_map (λ (x : Placed). x.place) (if is_some w then group_block map g space else None)) (sym (scratch_is map g table y has space))

  pub places_are : (space : Space) → option_map (λ (p : Span). p.place) (old_piece (replaced_pieces blocks y) space) ≡ option_map (λ (x : Placed). x.place) (replaced_block map g table space)
  places_are Daram = place_is Daram
  places_are Saram = place_is Saram
  places_are External = place_is External

  some_is : (space : Space) → is_some (replaced_block map g table space) ≡ is_some (replaced_piece (new_block blocks space) (block_in y space))
  some_is space =
      sym (some_of (λ (x : Placed). x.place) (replaced_block map g table space)) ∙ sym (ap is_some (place_is space))
      ∙ some_of (λ (p : Span). p.place) (replaced_piece (new_block blocks space) (block_in y space))

  pub replaces_is : replaces map g table ≡ replaced_in blocks y
  replaces_is =
      let old : Space → Bool = λ space. is_some (replaced_block map g table space) in
      let new : Space → Bool = λ space. is_some (replaced_piece (new_block blocks space) (block_in y space)) in
      ap (λ (t : Bool). t || (old Saram || (old External || false))) (some_is Daram)
      ∙ ap (λ (t : Bool). new Daram || (t || (old External || false))) (some_is Saram)
      ∙ ap (λ (t : Bool). new Daram || (new Saram || (t || false))) (some_is External)
