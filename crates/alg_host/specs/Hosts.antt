-- What a host is, and when it refines a state of the specification.
use Rattle.std.specs.Prelude.{ℕ, ℤ, ◌≡◌, Bool, is_some, Option}
use Rattle.ialg.specs.Laws.{Laws}
use Rattle.host_table.specs.Table.{slot_at}
use Rattle.host_table.specs.View.{View}
use Rattle.host_spaces.specs.declared.spaces.Spaces.{Spaces}
use Rattle.host_spec.specs.State.{State}
use Rattle.host_spec.specs.Calls.{Call, Does}
use Rattle.host_moves.specs.Standing.{AreSound}
use Rattle.host_moves.specs.Hosts.{TablesAndSpacesRefine}
pub use Rattle.host_moves.specs.Refinement.{stat_told}

-- the tables, the three spaces, and the poison word, if there is one
pub record HostState (M : Type 0) : Type 0 where
  pub tables : View M
  pub spaces : Spaces
  pub poison : Option ℤ

-- what holds of every host
abbrev pub IsHost : {M : Type 0} → HostState M → Type 0
IsHost host = AreSound host.poison host.tables host.spaces

-- an instance lives under the number
abbrev pub lives : {M : Type 0} → HostState M → ℕ → Bool
lives host i = is_some (slot_at host.tables.instances i)

-- the host refines a state: it has its instances, its memory map, its active members and its counts, and each lawful instance refines its history
pub record HostRefines {M : Type 0} (laws : Laws M) (host : HostState M) (state : State M) : Type 0 where
  pub kept : TablesAndSpacesRefine laws host.tables host.spaces state
  pub poison : state.poison ≡ host.poison

-- whatever state the host refined, the call was answered as the machine may answer it there, and the host refines a state that comes after it
abbrev pub HostCallRefines : {M : Type 0} → Laws M → Call M → HostState M → HostState M → Type 0
HostCallRefines {M} laws call old new = (before : State M) → HostRefines laws old before
    → (after : State M) × Does laws.meaning before call after × HostRefines laws new after
