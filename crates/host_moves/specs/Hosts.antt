-- When tables and spaces refine a state of the machine.
use Rattle.std.specs.Prelude.{◌≡◌, ◌+◌, ℕ, Bool, true, List, length, Option}
use Rattle.mem_rec.specs.declared.Space.{Space}
use Rattle.host_map.specs.MemoryMap.{blocks_in}
use Rattle.host_map.specs.Moves.{unpacked_behind}
use Rattle.scratch_group.specs.declared.group.Group.{Group}
use Rattle.host_table.specs.declared.member.Member.{Member}
use Rattle.host_shared.specs.declared.locations.Locations.{Locations}
use Rattle.host_spaces.specs.declared.spaces.Spaces.{Spaces}
use Rattle.host_spaces.specs.MemoryMap.{copied_in, map_of, sizes_of}
use Rattle.host_spec.specs.State.{State}
use Rattle.host_spec.specs.Steps as steps
use Rattle.host_table.specs.View.{View}
use Rattle.host_moves.specs.Refinement.{ListsRefine}
use Rattle.ialg.specs.Laws.{Laws}

-- the tables refine the state, and the spaces have the blocks of its memory map, its sizes and its count of moved words
pub record ListsAndSpacesRefine {M : Type 0} (laws : Laws M)
    (instances : List (Option (Member M))) (sharing : List Locations) (groups : List Group) (spaces : Spaces) (state : State M) : Type 0 where
  pub tables : ListsRefine laws instances sharing groups state
  pub map : map_of spaces ≡ state.map
  pub sizes : sizes_of spaces ≡ state.sizes
  pub copied : copied_in spaces ≡ state.copied

-- the same, of all that the tables hold
abbrev pub TablesAndSpacesRefine : {M : Type 0} → Laws M → View M → Spaces → State M → Type 0
TablesAndSpacesRefine laws t spaces state = ListsAndSpacesRefine laws t.instances t.sharing t.groups spaces state

-- one step of a compaction of the space, as the machine's: its answer says whether a block moved, and one block fewer has its move before it then
pub record Stepped {M : Type 0} (laws : Laws M) (space : Space) (moved : Bool) (old : View M) (spaces : Spaces) (new : View M) (spaces' : Spaces) : Type 0 where
  pub fewer : moved ≡ true → length (unpacked_behind 0 (blocks_in (map_of spaces') space)) + 1 ≡ length (unpacked_behind 0 (blocks_in (map_of spaces) space))
  pub machine : (before : State M) → TablesAndSpacesRefine laws old spaces before
      → ((moved, (steps.step before space).1) ≡ steps.step before space) × TablesAndSpacesRefine laws new spaces' (steps.step before space).1

-- a whole compaction of the space, as the machine's: its answer says how many blocks moved
abbrev pub Compacted : {M : Type 0} → Laws M → Space → ℕ → View M → Spaces → View M → Spaces → Type 0
Compacted {M = M} laws space count old spaces new spaces' = (before : State M) → TablesAndSpacesRefine laws old spaces before
    → ((count, (steps.compact before space).1) ≡ steps.compact before space) × TablesAndSpacesRefine laws new spaces' (steps.compact before space).1
