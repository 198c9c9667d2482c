-- Next moves come to the packed blocks: by how the blocks stand, and by their owners.
use Rattle.std.proofs.Common.{◌≡◌, ℕ, zero, suc, ◌+◌, List, [], ◌∷◌, map, length, refl, sym, ap, subst, ◌∙◌}
use Rattle.std.specs.Int.{next_multiple_of}
use Rattle.relocate.specs.declared.packing.Spot.{Spot}
use Rattle.relocate.specs.declared.packing.Move.{Move}
use Rattle.relocate.specs.Packing.{packed_from, at_places as spots_at}
use Rattle.relocate.specs.Compaction.{IsCompaction}
use Rattle.relocate.proofs.CompactionLemmas.{packs_once}
use Rattle.host_map.specs.declared.placed.Owner.{Owner}
use Rattle.host_map.specs.declared.placed.Placed.{Placed}
use Rattle.host_map.specs.Moves.{IsPacking, moved_to, packed, packed_behind, spot_of, spots_of, unpacked_behind}
use Rattle.host_map.proofs.MoveLemmas.{count_is}
use Rattle.host_spaces.proofs.Moving.{spots_moved}

abbrev owners : List Placed → List Owner
owners bs = map (λ b. b.owner) bs

owners_moved : (bs : List Placed) (k to : ℕ) → owners (moved_to bs k to) ≡ owners bs
owners_moved [] k to = refl
owners_moved (b ∷ bs) zero to = refl
owners_moved (b ∷ bs) (suc k) to = ap (λ os. b.owner ∷ os) (owners_moved bs k to)

spots_packed : (bs : List Placed) (end : ℕ) → spots_of (packed_behind end bs) ≡ spots_at (spots_of bs) (packed_from end (spots_of bs))
spots_packed [] end = refl
spots_packed (b ∷ bs) end = ap (λ ss. record (spot_of b) { place = next_multiple_of end b.align } ∷ ss) (spots_packed bs (next_multiple_of end b.align + b.size))

owners_packed : (bs : List Placed) (end : ℕ) → owners (packed_behind end bs) ≡ owners bs
owners_packed [] end = refl
owners_packed (b ∷ bs) end = ap (λ os. b.owner ∷ os) (owners_packed bs (next_multiple_of end b.align + b.size))

-- blocks are told by their owners and by how they stand
same_block : (a b : Placed) → a.owner ≡ b.owner → spot_of a ≡ spot_of b → a ≡ b
same_block a b owner spot =
    ap (λ o. let c : Placed = record { owner = o; place = a.place; size = a.size; align = a.align } in c) owner
    ∙ ap (λ (s : Spot). let c : Placed = record { owner = b.owner; place = s.place; size = s.size; align = s.align } in c) spot

same_blocks : (xs bs : List Placed) → owners xs ≡ owners bs → spots_of xs ≡ spots_of bs → xs ≡ bs
same_blocks [] [] owner spot = refl
same_blocks [] (b ∷ bs) owner spot = let bad : [] ≡ spot_of b ∷ spots_of bs = spot in cc
same_blocks (a ∷ xs) [] owner spot = let bad : spot_of a ∷ spots_of xs ≡ [] = spot in cc
same_blocks (a ∷ xs) (b ∷ bs) owner spot =
    let o : a.owner ∷ owners xs ≡ b.owner ∷ owners bs = owner in let s : spot_of a ∷ spots_of xs ≡ spot_of b ∷ spots_of bs = spot in
    let first : a.owner ≡ b.owner = cc in let rest : owners xs ≡ owners bs = cc in let one : spot_of a ≡ spot_of b = cc in let others : spots_of xs ≡ spots_of bs = cc in
    ap (λ x. x ∷ xs) (same_block a b first one) ∙ ap (λ ys. b ∷ ys) (same_blocks xs bs rest others)

-- the moves, by how the blocks stand
pub record IsByMoves (bs : List Placed) (n : ℕ) (after : List Placed) : Type 0 where
  pub moves : List Move
  pub count : length moves ≡ n
  pub made : IsCompaction (spots_of bs) moves (spots_of after)
  pub kept : owners after ≡ owners bs

by_moves : (bs : List Placed) (n : ℕ) (after : List Placed) → IsPacking bs n after → IsByMoves bs n after
by_moves bs zero after it = record { moves = []; count = refl; made = (it.0, ap spots_of it.1); kept = ap owners it.1 }
by_moves bs (suc n) after it =
    let m = it.0 in let rest = by_moves (moved_to bs m.index m.to) n after it.2 in
    record {
      moves = m ∷ rest.moves;
      count = ap suc rest.count;
      made = (it.1, subst (λ ss. IsCompaction ss rest.moves (spots_of after)) (spots_moved bs m.index m.to) rest.made);
      kept = rest.kept ∙ owners_moved bs m.index m.to;
    }

pub packing : (bs : List Placed) (n : ℕ) (after : List Placed) → IsPacking bs n after → (after ≡ packed bs) × (n ≡ length (unpacked_behind 0 bs))
packing bs n after it =
    let by = by_moves bs n after it in let once = packs_once (spots_of bs) by.moves (spots_of after) by.made in
    (same_blocks after (packed bs) (by.kept ∙ sym (owners_packed bs 0)) (once.places ∙ sym (spots_packed bs 0)), sym by.count ∙ once.count ∙ sym (count_is bs))
