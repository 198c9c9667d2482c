-- The blocks of samples that the tests feed.
use Rattle.std.specs.Prelude.{ℤ, ◌≤◌, List, length}
use Rattle.ialg.specs.declared.TheConstants.{BLOCK_SAMPLES}
use Rattle.mem_rec.specs.declared.Space.{Space}
use Rattle.record_loans.specs.Blocks.{IsSameBlock}
use Rattle.scratch_group.specs.declared.group.Group.{Group}
use Rattle.scratch_group.specs.Blocks.{block_in}

-- none of the three has more samples than a block may have
abbrev pub AreBlocks : List ℤ → List ℤ → List ℤ → Type 0
AreBlocks a b c = (length a ≤ BLOCK_SAMPLES) × (length b ≤ BLOCK_SAMPLES) × (length c ≤ BLOCK_SAMPLES)

-- the blocks stand where they did, and are as large as they were
abbrev pub SameBlocks : Group → Group → Type 0
SameBlocks g g' = (space : Space) → IsSameBlock (block_in g space) (block_in g' space)
