-- Where records begin depends on no other shared pieces than those of write-once records.
use Rattle.std.proofs.Common.{◌≡◌, ◌+◌, ℕ, zero, suc, List, refl, ap}
use Rattle.mem_rec.specs.declared.MemRec.{MemRec}
use Rattle.mem_rec.specs.declared.Attr.{Attr}
use Rattle.mem_rec.specs.declared.Attr.TheVariants.{Scratch, Persist, WriteOnce}
use Rattle.ialg.specs.Records.{record_at}
use Rattle.record_loans.specs.declared.pieces.Pieces.{Pieces}
use Rattle.record_loans.specs.Pieces.{no_pieces, only_third, piece_at, piece_place, IsInSpace}
use Rattle.record_loans.specs.Blocks.{block_piece}
use Rattle.scratch_group.specs.declared.group.Group.{Group}
use Rattle.scratch_group.specs.Blocks.{block_in}
use Rattle.scratch_group.specs.Words.{place_by, placed, scratch_offset, with_bases, InSpaces}

place_by_alike : (a : Attr) (o s s' b : ℕ) → (a ≡ WriteOnce → s ≡ s') → place_by a o s b ≡ place_by a o s' b
place_by_alike Scratch o s s' b alike = refl
place_by_alike Persist o s s' b alike = refl
place_by_alike WriteOnce o s s' b alike = alike refl

module _ (rs : List MemRec) (own a b : Pieces) (g : Group) where
  placed_alike : ((k : ℕ) → (record_at rs k).attr ≡ WriteOnce → piece_place (piece_at a k) ≡ piece_place (piece_at b k)) → placed rs own a g ≡ placed rs own b g
  placed_alike alike =
      ap (with_bases rs) (λ i k. place_by_alike (record_at rs k).attr (piece_place (piece_at own k)) (piece_place (piece_at a k)) (piece_place (piece_at b k))
      (piece_place (block_piece (block_in g (record_at rs k).space)) + scratch_offset rs k) (alike k) i)

-- of a table without a write-once record
pub placed_without : (rs : List MemRec) (own a b : Pieces) (g : Group) → ((k : ℕ) → (record_at rs k).attr ≡ WriteOnce → ⊥) → placed rs own a g ≡ placed rs own b g
placed_without rs own a b g none = placed_alike rs own a b g (λ k attr. absurd (none k attr))

-- of one whose third record alone is write-once
pub placed_third : (rs : List MemRec) (own a : Pieces) (g : Group) → ((k : ℕ) → (record_at rs k).attr ≡ WriteOnce → k ≡ 2) → placed rs own (only_third a.p2) g ≡ placed rs own a g
placed_third rs own a g third = placed_alike rs own (only_third a.p2) a g (λ k attr. rw (third k attr) refl)

none_in_space : (k : ℕ) → IsInSpace (piece_at no_pieces k)
none_in_space zero = tt
none_in_space (suc zero) = tt
none_in_space (suc (suc zero)) = tt
none_in_space (suc (suc (suc zero))) = tt
none_in_space (suc (suc (suc (suc k)))) = tt

third_in_space : (a : Pieces) → ((k : ℕ) → IsInSpace (piece_at a k)) → (k : ℕ) → IsInSpace (piece_at (only_third a.p2) k)
third_in_space a all zero = tt
third_in_space a all (suc zero) = tt
third_in_space a all (suc (suc zero)) = all 2
third_in_space a all (suc (suc (suc zero))) = tt
third_in_space a all (suc (suc (suc (suc k)))) = tt

pub without_in_spaces : (own a : Pieces) (g : Group) → InSpaces own a g → InSpaces own no_pieces g
without_in_spaces own a g spaces = record { own_space = spaces.own_space; shared_space = none_in_space; block_space = spaces.block_space }

pub third_in_spaces : (own a : Pieces) (g : Group) → InSpaces own a g → InSpaces own (only_third a.p2) g
third_in_spaces own a g spaces = record { own_space = spaces.own_space; shared_space = third_in_space a spaces.shared_space; block_space = spaces.block_space }
