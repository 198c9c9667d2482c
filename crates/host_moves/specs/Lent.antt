-- What is lent to an instance in a call, space by space.
use Rattle.std.specs.Prelude.{ℕ, List, Option, Some, None, if◌then◌else◌}
use Rattle.space_raw.specs.Span.{Span}
use Rattle.mem_rec.specs.declared.Space.{Space}
use Rattle.mem_rec.specs.Records.{same_space}
use Rattle.ialg.specs.Records.{record_at}
use Rattle.record_loans.specs.declared.block.ScratchBlock.{ScratchBlock}
use Rattle.record_loans.specs.declared.pieces.Pieces.{Pieces}
use Rattle.record_loans.specs.Blocks.{block_piece}
use Rattle.scratch_group.specs.declared.group.Group.{Group}
use Rattle.scratch_group.specs.Blocks.{block_in}
use Rattle.lifecycle.specs.Rooms.{piece_of_record}
use Rattle.host_table.specs.declared.member.Member.{Member}
use Rattle.host_shared.specs.declared.locations.Locations.{Locations}
use Rattle.host_table.specs.Table.{slot_at, group_at, instance_of, AreAlike}
use Rattle.host_shared.specs.Locations.{shared_at}
use Rattle.host_moves.specs.Standing.{table_of}

-- the piece of record k of what stands in a slot, which sees these pieces for its write-once records, if it is of this space
abbrev pub record_in : {M : Type 0} → Option (Member M) → Pieces → ℕ → Space → Option Span
record_in None seen k space = None
record_in (Some m) seen k space =
    if same_space (record_at (table_of m) k).space space then piece_of_record (table_of m) (instance_of m.inst).own seen k else None

-- the piece of record k that is lent to instance i in this space
abbrev pub lent_record : {M : Type 0} → List (Option (Member M)) → List Locations → ℕ → ℕ → Space → Option Span
lent_record instances sharing i k space = record_in (slot_at instances i) (shared_at sharing i) k space

-- the block of group g in this space
abbrev pub scratch_block : List Group → ℕ → Space → Option ScratchBlock
scratch_block groups g space = block_in (group_at groups g) space

-- its piece
abbrev pub lent_block : List Group → ℕ → Space → Option Span
lent_block groups g space = block_piece (scratch_block groups g space)

-- both slots have instances, which are alike in write-once record k
abbrev pub AreSharers : {M : Type 0} → ℕ → Option (Member M) → Option (Member M) → Type 0
AreSharers k None other = ⊥
AreSharers k (Some m) None = ⊥
AreSharers k (Some m) (Some n) = AreAlike k (instance_of m.inst) (instance_of n.inst)
