use Rattle.std.proofs.Common.{◌≡◌, ◌≤◌, ◌*◌, ◌++◌, ◌-◌, length, drop}
use Rattle.mem_rec.specs.Layout.{offsets_from, end_from, align_from, scratch_offsets, scratch_records}
use Rattle.mem_rec.proofs.layout.scratch_layout.Given as goal

-- a record takes 65,536 words at most, and up to 1,024 before it to come to its alignment
abbrev pub invariant-loop-r : goal.invariant-loop-r
invariant-loop-r l = record {
  offsets : l.offsets.items ++ offsets_from l.end (scratch_records (drop l.r-index l.table) l.space) ≡ scratch_offsets l.table l.space;
  end : end_from l.end (scratch_records (drop l.r-index l.table) l.space) ≡ end_from 0 (scratch_records l.table l.space);
  align : align_from l.align (scratch_records (drop l.r-index l.table) l.space) ≡ align_from 4 (scratch_records l.table l.space);
  few : length l.offsets.items ≤ l.r-index - 1;
  low : l.end ≤ 66560 * l.r-index;
}
