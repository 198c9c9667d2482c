-- A creation, a deletion and the end of all instances, as the machine's.
use Rattle.std.specs.Prelude.{ℤ, ◌≡◌, Option}
use Rattle.ialg.specs.Laws.{Laws}
use Rattle.host_spaces.specs.declared.spaces.Spaces.{Spaces}
use Rattle.host_spec.specs.Calls.{Call, Does}
use Rattle.host_spec.specs.State.{State}
use Rattle.host_spec.specs.Steps.{closed}
use Rattle.host_table.specs.View.{View}
use Rattle.host_moves.specs.Hosts.{TablesAndSpacesRefine}

-- the machine makes this call too, in a host of this poison word or of none: from each state that tables and spaces refine before it, it leads
-- to one that they refine after it
abbrev pub MachineDoes : {M : Type 0} → Laws M → Option ℤ → Call M → View M → Spaces → View M → Spaces → Type 0
MachineDoes {M} laws w call old spaces new spaces' = (before : State M) → before.poison ≡ w
    → TablesAndSpacesRefine laws old spaces before
    → (after : State M) × Does laws.meaning before call after
    × TablesAndSpacesRefine laws new spaces' after

-- the machine deletes all instances too, in a host of this poison word or of none
abbrev pub MachineCloses : {M : Type 0} → Laws M → Option ℤ → View M → Spaces → View M → Spaces → Type 0
MachineCloses {M} laws w old spaces new spaces' = (before : State M) → before.poison ≡ w
    → TablesAndSpacesRefine laws old spaces before
    → TablesAndSpacesRefine laws new spaces' (closed laws.meaning before)
