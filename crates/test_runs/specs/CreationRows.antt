-- Worked rows: which blocks a creation places and replaces, for kinds that ask for any memory.
use Rattle.std.specs.Prelude.{ℕ, Bool, true, false, ◌==◌, ◌&&◌, pos, List, [], ◌∷◌, Some}
use Rattle.mem_rec.specs.declared.MemRec.{MemRec}
use Rattle.mem_rec.specs.declared.Space.{Space}
use Rattle.mem_rec.specs.declared.Space.TheVariants.{Daram, Saram, External}
use Rattle.mem_rec.specs.declared.Attr.{Attr}
use Rattle.mem_rec.specs.declared.Attr.TheVariants.{Scratch, Persist, WriteOnce}
use Rattle.mem_rec.specs.Records.{same_space}
use Rattle.ialg.specs.declared.refusal.Refusal.TheVariants.{Room}
use Rattle.ialg.specs.History.{word_at, samples_since_reset}
use Rattle.ialg.specs.Meaning.{Meaning}
use Rattle.ialg.specs.Objects.{object_memory}
use Rattle.host_spec.specs.Calls.{Call}
use Rattle.host_spec.specs.Calls.Call.{Create, Process, Delete, Step, Compact, Stat, Map, Copied}
use Rattle.test_runs.specs.Calls.{full, done, refused, active, resting, record_block, group_block, Answers}

-- such a kind is the memory that it asks for, and gives its samples
abbrev pub Shape : Type 0
Shape = List MemRec

abbrev pub same_attr : Attr → Attr → Bool
same_attr Scratch Scratch = true
same_attr Persist Persist = true
same_attr WriteOnce WriteOnce = true
same_attr _ _ = false

abbrev pub same_record : MemRec → MemRec → Bool
same_record r s = r.size == s.size && r.align == s.align && same_space r.space s.space && same_attr r.attr s.attr && r.base == s.base

abbrev pub same_shape : Shape → Shape → Bool
same_shape [] [] = true
same_shape (r ∷ rs) (s ∷ ss) = same_record r s && same_shape rs ss
same_shape _ _ = false

abbrev pub shapes : Meaning Shape
shapes = record {
  same = same_shape;
  table = λ shape p. Some shape;
  gives = λ shape p h. word_at (samples_since_reset h) 0 ∷ [];
  accepts = λ shape p c. true;
  got = λ shape p h. [];
  declares = λ shape p. true;
  lawful = λ shape p w. true;
}

abbrev pub scratch : Space → ℕ → ℕ → MemRec
scratch space size align = record { size = size; align = align; space = space; attr = Scratch; base = 0 }

abbrev pub kept : Space → ℕ → ℕ → MemRec
kept space size align = record { size = size; align = align; space = space; attr = Persist; base = 0 }

abbrev pub constant : Space → ℕ → ℕ → MemRec
constant space size align = record { size = size; align = align; space = space; attr = WriteOnce; base = 0 }

-- an object, and scratch records
abbrev pub needing : List MemRec → Shape
needing records = object_memory ∷ records

-- instance i of group 0
abbrev pub create : ℕ → List MemRec → Call Shape
create i records = Create i (needing records) 0 [] done

-- instance 0 has 16 words of scratch and is active
abbrev pub first : List (Call Shape) → List (Call Shape)
first more = create 0 (scratch Daram 16 4 ∷ []) ∷ Process 0 (pos 5 ∷ []) (pos 5 ∷ []) ∷ more

pub record CreationRows : Type 0 where
  -- a block that is large enough and aligned is shared, and the member stays active
  pub shared : Answers shapes full (first (
      create 1 (scratch Daram 13 4 ∷ []) ∷ Map Daram (group_block 0 0 16 4 ∷ []) ∷ Stat 0 (active 0 1) ∷ []))
  -- one that is too short is replaced
  pub longer : Answers shapes full (first (
      create 1 (scratch Daram 17 4 ∷ []) ∷ Map Daram (group_block 0 16 20 4 ∷ []) ∷ Stat 0 (resting 1) ∷ []))
  -- for its alignment alone too, and keeps its size
  pub aligned : Answers shapes full (first (
      create 1 (scratch Daram 8 64 ∷ []) ∷ Map Daram (group_block 0 64 16 64 ∷ []) ∷ Stat 0 (resting 1) ∷ []))
  -- a longer one keeps the alignment
  pub keeps_alignment : Answers shapes full (
      create 0 (scratch Daram 8 64 ∷ []) ∷ create 1 (scratch Daram 80 4 ∷ []) ∷ Map Daram (group_block 0 64 80 64 ∷ []) ∷ [])
  -- a first block in another space leaves the member active
  pub first_block : Answers shapes full (first (
      create 1 (scratch Saram 8 4 ∷ []) ∷ Map Daram (group_block 0 0 16 4 ∷ []) ∷ Map Saram (group_block 0 0 8 4 ∷ []) ∷ Stat 0 (active 0 1) ∷ []))
  -- but not beside a replaced one
  pub first_beside_replaced : Answers shapes full (first (
      create 1 (scratch Daram 32 4 ∷ scratch Saram 8 4 ∷ []) ∷ Map Daram (group_block 0 16 32 4 ∷ []) ∷ Map Saram (group_block 0 0 8 4 ∷ [])
      ∷ Stat 0 (resting 1) ∷ []))
  -- a member of another group replaces nothing
  pub another_group : Answers shapes full (first (
      Create 1 (needing (scratch Daram 32 4 ∷ [])) 1 [] done ∷ Map Daram (group_block 0 0 16 4 ∷ group_block 1 16 32 4 ∷ [])
      ∷ Stat 0 (active 0 1) ∷ Stat 1 (resting 0) ∷ []))
  -- the space of the first block that has no place: records come before the group's blocks
  pub record_first : Answers shapes (record { daram = 0; saram = 8; external = 8 }) (
      Create 0 (needing (scratch Daram 8 4 ∷ kept Saram 12 4 ∷ [])) 0 [] (refused (Room Saram)) ∷ Map External [] ∷ [])
  -- and these in the order of the spaces, whatever the order of the records
  pub spaces_in_order : Answers shapes (record { daram = 8; saram = 8; external = 8 }) (
      Create 0 (needing (scratch External 12 4 ∷ scratch Saram 12 4 ∷ scratch Daram 4 4 ∷ [])) 0 [] (refused (Room Saram))
      ∷ Map Daram [] ∷ Map External [] ∷ [])
  -- a write-once record stands in a block of its own
  pub write_once : Answers shapes full (
      create 0 (constant External 3 4 ∷ kept External 5 8 ∷ [])
      ∷ Map External (record_block 0 0 0 4 4 ∷ record_block 0 1 4 4 4 ∷ record_block 0 2 8 8 8 ∷ []) ∷ [])
  -- the block goes with the last member, and the count stays
  pub last_member : Answers shapes full (first (
      create 1 (scratch Daram 16 4 ∷ []) ∷ Delete 1 done ∷ Map Daram (group_block 0 0 16 4 ∷ []) ∷ Stat 0 (active 0 1) ∷ Delete 0 done
      ∷ Map Daram [] ∷ Stat 0 (resting 1) ∷ Map External [] ∷ []))
  -- the lowest place that is free, not the best fit, and moves one at a time
  pub holes : Answers shapes full (
      create 0 [] ∷ create 1 (kept External 12 4 ∷ []) ∷ create 2 [] ∷ create 3 [] ∷ Delete 1 done ∷ Delete 2 done ∷ create 4 []
      ∷ Map External (record_block 0 0 0 4 4 ∷ record_block 4 0 4 4 4 ∷ record_block 3 0 24 4 4 ∷ []) ∷ create 5 (kept External 12 16 ∷ [])
      ∷ Map External (record_block 0 0 0 4 4 ∷ record_block 4 0 4 4 4 ∷ record_block 5 0 8 4 4 ∷ record_block 3 0 24 4 4 ∷ record_block 5 1 32 12 16 ∷ [])
      ∷ Step External true ∷ Map External (record_block 0 0 0 4 4 ∷ record_block 4 0 4 4 4 ∷ record_block 5 0 8 4 4 ∷ record_block 3 0 12 4 4 ∷ record_block 5 1 32 12 16 ∷ [])
      ∷ Copied 4 ∷ Compact External 1 ∷ Compact External 0 ∷ Step External false ∷ Copied 16
      ∷ Map External (record_block 0 0 0 4 4 ∷ record_block 4 0 4 4 4 ∷ record_block 5 0 8 4 4 ∷ record_block 3 0 12 4 4 ∷ record_block 5 1 16 12 16 ∷ []) ∷ [])
