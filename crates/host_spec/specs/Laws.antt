-- What a call leaves as it was.
use Rattle.std.specs.Prelude.{◌≡◌, ◌≢◌, ℕ, ◌+◌, true, false, Option, Some, map}
use Rattle.mem_rec.specs.declared.Space.{Space}
use Rattle.host_map.specs.declared.placed.Placed.{Placed}
use Rattle.host_map.specs.MemoryMap.{blocks_in}
use Rattle.host_spec.specs.State.{State}
use Rattle.host_spec.specs.Steps.{step, compact}
use Rattle.host_spec.specs.Calls.{Call}
use Rattle.host_spec.specs.Calls.Call.{Create}

-- all instances but the one with this number, if there is one, are as they were
abbrev pub OthersLive : {M : Type 0} → Option ℕ → State M → State M → Type 0
OthersLive subject before after = (j : ℕ) → subject ≢ Some j → after.living j ≡ before.living j

-- what a host was made with
pub record SameHost {M : Type 0} (before after : State M) : Type 0 where
  pub sizes : after.sizes ≡ before.sizes
  pub poison : after.poison ≡ before.poison

-- a block without its place
abbrev pub unplaced_block : Placed → Placed
unplaced_block b = record b { place = 0 }

-- blocks may stand elsewhere, in the same order, and words may have been copied; nothing else differs
pub record OnlyMoves {M : Type 0} (before after : State M) : Type 0 where
  pub living : after.living ≡ before.living
  pub activity : after.activity ≡ before.activity
  pub blocks : (space : Space) → map unplaced_block (blocks_in after.map space) ≡ map unplaced_block (blocks_in before.map space)

abbrev pub IsCreation : {M : Type 0} → Call M → Type 0
IsCreation (Create i kind g p answer) = Unit {0}
IsCreation _ = ⊥

-- a compaction is steps, one after the other, until no block moves
pub record IsSteps {M : Type 0} (before : State M) (space : Space) : Type 0 where
  pub last : (step before space).0 ≡ false → compact before space ≡ (0, before)
  pub more : (step before space).0 ≡ true → compact before space ≡ (let rest = compact (step before space).1 space in (rest.0 + 1, rest.1))
