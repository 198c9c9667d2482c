-- The blocks of a group, one per space, and its active member.
use Rattle.std.specs.Prelude.{ℕ, ℤ, ◌≡◌, ◌≢◌, Bool, false, ◌&&◌, ◌||◌, nat_le, nat_eq, max, List, length, replicate, Option, Some, None, if◌then◌else◌}
use Rattle.mem_rec.specs.declared.MemRec.{MemRec}
use Rattle.mem_rec.specs.declared.Space.{Space}
use Rattle.mem_rec.specs.declared.Space.TheVariants.{Daram, Saram, External}
use Rattle.record_loans.specs.declared.block.ScratchBlock.{ScratchBlock}
use Rattle.scratch_group.specs.declared.group.Need.{Need}
use Rattle.scratch_group.specs.declared.group.Group.{Group}
use Rattle.mem_rec.specs.Layout.{scratch_need, scratch_align}
use Rattle.ialg.specs.Records.{ArePoison}
use Rattle.record_loans.specs.Blocks.{block_words, block_align, IsSameBlock}

-- the group's block of a space
abbrev pub block_in : Group → Space → Option ScratchBlock
block_in g Daram = g.daram
block_in g Saram = g.saram
block_in g External = g.external

-- the place, the size and the alignment of a block
abbrev pub block_spot : Option ScratchBlock → Option (ℕ × ℕ × ℕ)
block_spot None = None
block_spot (Some b) = Some (b.piece.place, length b.piece.words, b.align)

-- a block serves where it has so many words at such an alignment
abbrev pub serves : Option ScratchBlock → ℕ → ℕ → Bool
serves None need align = false
serves (Some b) need align = nat_le need (length b.piece.words) && nat_le align b.align

-- the block to be placed for a table in a space: none where there is no need, or the block that stands there serves
abbrev pub block_needed : Option ScratchBlock → ℕ → ℕ → Option Need
block_needed b need align = if nat_eq need 0 || serves b need align then None
    else Some (record { size = max (length (block_words b)) need; align = max (block_align b) align })

-- the block that a group has to be given in a space for a table
abbrev pub block_to_place : Group → List MemRec → Space → Option Need
block_to_place g rs space = block_needed (block_in g space) (scratch_need rs space) (scratch_align rs space)

-- a block with each word this one
abbrev pub filled : ℤ → Option ScratchBlock → Option ScratchBlock
filled v None = None
filled v (Some b) = Some (record { piece = record { region = b.piece.region; place = b.piece.place; words = replicate (length b.piece.words) v }; align = b.align })

-- the words of all blocks are the poison word, where there is one
abbrev pub BlocksArePoison : Option ℤ → Group → Type 0
BlocksArePoison w g = (space : Space) → ArePoison w (block_words (block_in g space))

-- the same blocks, active member and count, but in one space
pub record SameBut (space : Space) (old new : Group) : Type 0 where
  pub others : (other : Space) → other ≢ space → block_in new other ≡ block_in old other
  pub active : new.active ≡ old.active
  pub activations : new.activations ≡ old.activations

-- the same group, but for the words of its blocks
pub record SameGroup (old new : Group) : Type 0 where
  pub daram : IsSameBlock old.daram new.daram
  pub saram : IsSameBlock old.saram new.saram
  pub external : IsSameBlock old.external new.external
  pub active : new.active ≡ old.active
  pub activations : new.activations ≡ old.activations
