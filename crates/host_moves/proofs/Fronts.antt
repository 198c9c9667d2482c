-- The first blocks of a space are at their packed places once a move is made.
use Rattle.std.proofs.Common.{◌≡◌, ℕ, refl, subst, sym, ◌∙◌, ap}
use Rattle.mem_rec.specs.declared.Space.{Space}
use Rattle.mem_rec.specs.declared.Space.TheVariants.{Daram, Saram, External}
use Rattle.host_map.specs.Moves.{moved}
use Rattle.host_map.specs.MemoryMap.{MemoryMap, blocks_in, moved_in}
use Rattle.host_spaces.specs.declared.spaces.Spaces.{Spaces}
use Rattle.host_spaces.specs.MemoryMap.{map_of}
use Rattle.host_spaces.specs.Spaces.{HasFront}

blocks_moved : (map : MemoryMap) (space : Space) → blocks_in (moved_in map space) space ≡ moved (blocks_in map space)
blocks_moved map Daram = refl
blocks_moved map Saram = refl
blocks_moved map External = refl

pub front_stands : (spaces spaces' : Spaces) (space : Space) (n : ℕ) → map_of spaces' ≡ moved_in (map_of spaces) space
    → HasFront n (moved (blocks_in (map_of spaces) space)) → HasFront n (blocks_in (map_of spaces') space)
front_stands spaces spaces' space n is front =
    subst (λ bs. HasFront n bs) (sym (blocks_moved (map_of spaces) space) ∙ ap (λ m. blocks_in m space) (sym is)) front
