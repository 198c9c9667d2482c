-- What a contract sees of the tables of a host.
use Rattle.std.specs.Prelude.{List, Option}
use Rattle.scratch_group.specs.declared.group.Group.{Group}
use Rattle.host_shared.specs.declared.locations.Locations.{Locations}
use Rattle.host_table.specs.declared.member.Member.{Member}

-- the instances by their numbers, where their write-once records are, and the groups
pub record View (M : Type 0) : Type 0 where
  pub instances : List (Option (Member M))
  pub sharing : List Locations
  pub groups : List Group
