-- A block that begins at another place.
use Rattle.std.specs.Prelude.{ℕ, ◌==◌, List, map, if◌then◌else◌}
use Rattle.host_map.specs.declared.placed.Placed.{Placed}

-- a block that begins at one place begins at another from now on
abbrev pub block_from : ℕ → ℕ → Placed → Placed
block_from from to b = if b.place == from then record b { place = to } else b

abbrev pub with_place : ℕ → ℕ → List Placed → List Placed
with_place from to blocks = map (block_from from to) blocks
