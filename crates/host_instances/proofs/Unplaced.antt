-- Bases don't matter to where an instance is at owner.
use Rattle.std.proofs.Common.{◌≡◌, ℕ, ◌+◌, ◌&&◌, max, cond, Bool, true, false, List, [], ◌∷◌, refl, sym, ◌∙◌, ap, subst}
use Rattle.std.specs.Int.{next_multiple_of}
use Rattle.mem_rec.specs.declared.MemRec.{MemRec}
use Rattle.mem_rec.specs.declared.Space.{Space}
use Rattle.mem_rec.specs.Records.{is_scratch, is_persistent, same_space}
use Rattle.mem_rec.specs.Layout.{align_from, end_from, scratch_align, scratch_need, scratch_records}
use Rattle.relocate.specs.Places.{placed_size}
use Rattle.ialg.specs.Records.{unplaced}
use Rattle.ialg.proofs.Tables.{record_at-unplaced}
use Rattle.ialg.proofs.Hosting.{is_table-unplaced}
use Rattle.record_loans.specs.declared.pieces.Pieces.{Pieces}
use Rattle.record_loans.specs.Pieces.{piece_at}
use Rattle.scratch_group.specs.declared.group.Group.{Group}
use Rattle.scratch_group.specs.Blocks.{block_in, block_needed}
use Rattle.lifecycle.specs.Rooms.{NoNeed, lasting_piece}
use Rattle.host_map.specs.declared.placed.Owner.TheVariants.{Record}
use Rattle.host_map.specs.Blocks.{owned}
use Rattle.host_spaces.specs.declared.spaces.Spaces.{Spaces}
use Rattle.host_map.specs.MemoryMap.{blocks_in}
use Rattle.host_spaces.specs.MemoryMap.{map_of, space_in}
use Rattle.host_spaces.specs.Pieces.{IsPieceOf, is_write_once, record_block}
use Rattle.host_moves.specs.Standing.{IsPieceThere}

end_step : (t : Bool) (r : MemRec) (b : ℕ) (xs ys : List MemRec) → ((c : ℕ) → end_from c ys ≡ end_from c xs) → end_from b (cond t (record r { base = 0 } ∷ ys) ys) ≡ end_from b (cond t (r ∷ xs) xs)
end_step true r b xs ys same = same (next_multiple_of b r.align + r.size)
end_step false r b xs ys same = same b

end_same : (rs : List MemRec) (space : Space) (b : ℕ) → end_from b (scratch_records (unplaced rs) space) ≡ end_from b (scratch_records rs space)
end_same [] space b = refl
end_same (r ∷ rs) space b = end_step (is_scratch r.attr && same_space r.space space) r b (scratch_records rs space) (scratch_records (unplaced rs) space) (end_same rs space)

align_step : (t : Bool) (r : MemRec) (b : ℕ) (xs ys : List MemRec) → ((c : ℕ) → align_from c ys ≡ align_from c xs) → align_from b (cond t (record r { base = 0 } ∷ ys) ys) ≡ align_from b (cond t (r ∷ xs) xs)
align_step true r b xs ys same = same (max b r.align)
align_step false r b xs ys same = same b

align_same : (rs : List MemRec) (space : Space) (b : ℕ) → align_from b (scratch_records (unplaced rs) space) ≡ align_from b (scratch_records rs space)
align_same [] space b = refl
align_same (r ∷ rs) space b = align_step (is_scratch r.attr && same_space r.space space) r b (scratch_records rs space) (scratch_records (unplaced rs) space) (align_same rs space)

need_unplaced : (rs : List MemRec) (y : Group) → NoNeed rs y → NoNeed (unplaced rs) y
need_unplaced rs y need space =
    ap (λ (n : ℕ). block_needed (block_in y space) (next_multiple_of n 4) (scratch_align (unplaced rs) space)) (end_same rs space 0)
    ∙ ap (λ (n : ℕ). block_needed (block_in y space) (scratch_need rs space) n) (align_same rs space 4)
    ∙ need space

pub owner_unplaced : (spaces : Spaces) (i : ℕ) (at : ℕ → ℕ) (rs : List MemRec) (own shared : Pieces) (y : Group) → IsPieceThere spaces i at rs own shared y → IsPieceThere spaces i at (unplaced rs) own shared y
owner_unplaced spaces i at rs own shared y owner = record {
  valid = is_table-unplaced rs owner.valid;
  need = need_unplaced rs y owner.need;
  records = λ k space.
      subst (λ (r : MemRec). owned (Record (at k) k) (blocks_in (map_of spaces) space) ≡ record_block (at k) k r space (lasting_piece r.attr (piece_at own k) (piece_at shared k)))
      (sym (record_at-unplaced rs k)) (owner.records k space);
  away = owner.away;
  pieces = record {
    persistent = λ k. subst (λ (r : MemRec). IsPieceOf (space_in spaces r.space).region (placed_size r.size) (is_persistent r.attr) (piece_at own k)) (sym (record_at-unplaced rs k)) (owner.pieces.persistent k);
    write_once = λ k. subst (λ (r : MemRec). IsPieceOf (space_in spaces r.space).region (placed_size r.size) (is_write_once r.attr) (piece_at shared k)) (sym (record_at-unplaced rs k)) (owner.pieces.write_once k);
  };
}
