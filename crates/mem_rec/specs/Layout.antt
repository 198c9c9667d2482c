-- Where a table's scratch records stand in the block of their group.
use Rattle.std.specs.Prelude.{ℕ, ◌+◌, max, ◌&&◌, List, [], ◌∷◌, filter, fold}
use Rattle.std.specs.Int.{next_multiple_of}
use Rattle.mem_rec.specs.declared.TheConstants.{LEAST_ALIGNMENT}
use Rattle.mem_rec.specs.declared.MemRec.{MemRec}
use Rattle.mem_rec.specs.declared.Space.{Space}
use Rattle.mem_rec.specs.Records.{same_space, is_scratch}

abbrev pub scratch_records : List MemRec → Space → List MemRec
scratch_records table space = filter (λ r. is_scratch r.attr && same_space r.space space) table

-- each at the least multiple of its alignment not below the end of the one before
abbrev pub offsets_from : ℕ → List MemRec → List ℕ
offsets_from before [] = []
offsets_from before (r ∷ rs) = let offset = next_multiple_of before r.align in offset ∷ offsets_from (offset + r.size) rs

-- the end of the last
abbrev pub end_from : ℕ → List MemRec → ℕ
end_from before [] = before
end_from before (r ∷ rs) = end_from (next_multiple_of before r.align + r.size) rs

-- the greatest of these alignments and `least`
abbrev pub align_from : ℕ → List MemRec → ℕ
align_from least rs = fold (λ a r. max a r.align) least rs

-- the first record at 0
abbrev pub scratch_offsets : List MemRec → Space → List ℕ
scratch_offsets table space = offsets_from 0 (scratch_records table space)

-- 0 where there are no such records
abbrev pub scratch_need : List MemRec → Space → ℕ
scratch_need table space = next_multiple_of (end_from 0 (scratch_records table space)) LEAST_ALIGNMENT

-- the greatest of their alignments, and no less than 4
abbrev pub scratch_align : List MemRec → Space → ℕ
scratch_align table space = fold (λ a r. max a r.align) LEAST_ALIGNMENT (scratch_records table space)
