-- The worked rows of room.
use Rattle.std.proofs.Common.{◌≡◌, ◌+◌, ◌*◌, ℕ, suc, zero, false, [], ◌∷◌, refl, ap, sym, arith}
use Rattle.std.specs.Prelude.{◌&&◌, not}
use Rattle.std.specs.List.{list_any}
use Rattle.std.proofs.lemmas.Bool.{lt-leb}
use Rattle.relocate.specs.Places.{is_free, meets}
use Rattle.mem_rec.specs.declared.Space.{Space}
use Rattle.mem_rec.specs.declared.Space.TheVariants.{Daram, External}
use Rattle.host_map.specs.declared.placed.Owner.TheVariants.{Record}
use Rattle.host_map.specs.MemoryMap.{MemoryMap, empty_map, put_block}
use Rattle.console_spec.specs.Room.{FallsShort}
use Rattle.console_spec.proofs.RoomLemmas.{err_same, ok_is_no_err, unplaced}
use Rattle.test_runs.specs.Rooms.{RoomRows, small, wanted_in}

-- eight words have no place in eight of which four are taken
no_eight : (k : ℕ) → is_free 8 (record { place = 0; size = 4 } ∷ []) (record { place = k * 4; size = 8 }) ≡ false
no_eight zero = refl
no_eight (suc k) =
    ap (λ b. b && not (list_any (meets (record { place = suc k * 4; size = 8 })) (record { place = 0; size = 4 } ∷ []))) (lt-leb (suc k * 4 + 8) 8 (omega arith))

-- the memory map with the first block, with the second one, and with a third of four words
abbrev one_block : MemoryMap
one_block = put_block empty_map Daram (record { owner = Record 0 0; place = 0; size = 4; align = 4 })

abbrev two_blocks : MemoryMap
two_blocks = put_block one_block External (record { owner = Record 0 1; place = 0; size = 4; align = 4 })

abbrev three_blocks : MemoryMap
three_blocks = put_block two_blocks Daram (record { owner = Record 0 2; place = 4; size = 4; align = 4 })

enough : (space : Space) → FallsShort small empty_map (wanted_in Daram 0 4 ∷ wanted_in External 1 4 ∷ wanted_in Daram 2 4 ∷ []) space → ⊥
enough space e = ok_is_no_err three_blocks space (unplaced small space (wanted_in Daram 0 4 ∷ wanted_in External 1 4 ∷ wanted_in Daram 2 4 ∷ []) empty_map e)

first : (space : Space) → FallsShort small empty_map (wanted_in External 0 8 ∷ wanted_in Daram 1 16 ∷ []) space → space ≡ External
first space e = sym (err_same {A = MemoryMap} External space (unplaced small space (wanted_in External 0 8 ∷ wanted_in Daram 1 16 ∷ []) empty_map e))

pub rows : RoomRows
rows = record { short = (wanted_in Daram 0 4 ∷ wanted_in External 1 4 ∷ [], [], wanted_in Daram 2 8, two_blocks, refl, refl, no_eight, refl); enough = enough; first = first }
