-- Moves change the places of blocks alone.
use Rattle.std.proofs.Common.{◌≡◌, ℕ, ◌+◌, ◌==◌, Bool, true, false, List, [], ◌∷◌, map, Option, Some, None, refl, ap, if◌then◌else◌}
use Rattle.std.specs.Int.{next_multiple_of}
use Rattle.mem_rec.specs.declared.Space.{Space}
use Rattle.mem_rec.specs.declared.Space.TheVariants.{Daram, Saram, External}
use Rattle.host_map.specs.declared.placed.Placed.{Placed}
use Rattle.host_map.specs.Moves.{next_block, moved_behind, packed_behind}
use Rattle.host_map.specs.MemoryMap.{MemoryMap, blocks_in, with_blocks}
use Rattle.host_spec.specs.State.{State}
use Rattle.host_spec.specs.Steps.{moving, step, compact}
use Rattle.host_spec.specs.Laws.{unplaced_block, OnlyMoves}

-- the blocks without their places
abbrev unplaced_blocks : List Placed → List Placed
unplaced_blocks blocks = map unplaced_block blocks

same_if : (t : Bool) (b : Placed) (place : ℕ) (cs bs : List Placed) → unplaced_blocks cs ≡ unplaced_blocks bs
    → unplaced_blocks (if t then b ∷ cs else record b { place = place } ∷ bs) ≡ unplaced_blocks (b ∷ bs)
same_if true b place cs bs e = ap (λ others. unplaced_block b ∷ others) e
same_if false b place cs bs e = refl

same_moved : (end : ℕ) (bs : List Placed) → unplaced_blocks (moved_behind end bs) ≡ unplaced_blocks bs
same_moved end [] = refl
same_moved end (b ∷ bs) =
    let place = next_multiple_of end b.align in
    same_if (b.place == place) b place (moved_behind (place + b.size) bs) bs (same_moved (place + b.size) bs)

same_packed : (end : ℕ) (bs : List Placed) → unplaced_blocks (packed_behind end bs) ≡ unplaced_blocks bs
same_packed end [] = refl
same_packed end (b ∷ bs) = ap (λ others. unplaced_block b ∷ others) (same_packed (next_multiple_of end b.align + b.size) bs)

same_map : (map : MemoryMap) (space : Space) (blocks : List Placed) → unplaced_blocks blocks ≡ unplaced_blocks (blocks_in map space)
    → (other : Space) → unplaced_blocks (blocks_in (with_blocks map space blocks) other) ≡ unplaced_blocks (blocks_in map other)
same_map map Daram blocks e Daram = e
same_map map Daram blocks e Saram = refl
same_map map Daram blocks e External = refl
same_map map Saram blocks e Daram = refl
same_map map Saram blocks e Saram = e
same_map map Saram blocks e External = refl
same_map map External blocks e Daram = refl
same_map map External blocks e Saram = refl
same_map map External blocks e External = e

module _ {M : Type 0} (before : State M) (space : Space) where
  moving_moves : (next : Option Placed) → OnlyMoves before (moving before space next).1
  moving_moves None = record { living = refl; activity = refl; blocks = λ other. refl }
  moving_moves (Some b) = record {
    living = refl;
    activity = refl;
    blocks =
        let blocks = blocks_in before.map space in
        same_map before.map space (moved_behind 0 blocks) (same_moved 0 blocks);
  }

  pub step_moves : OnlyMoves before (step before space).1
  step_moves = moving_moves (next_block (blocks_in before.map space))

  pub compact_moves : OnlyMoves before (compact before space).1
  compact_moves = record {
    living = refl;
    activity = refl;
    blocks =
        let blocks = blocks_in before.map space in
        same_map before.map space (packed_behind 0 blocks) (same_packed 0 blocks);
  }
