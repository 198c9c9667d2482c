-- What a slicer's records are, while it lives.
use Rattle.std.proofs.Common.{◌≡◌, ℤ, List, [], length, take, map, Some, None, ap, sym, ◌∙◌, true, arith}
use Rattle.std.proofs.lemmas.Bool.Decides.{nat_tests}
use Rattle.std.specs.Prelude.{◌==◌, ◌++◌, if◌then◌else◌}
use Rattle.mem_rec.specs.declared.MemRec.{MemRec}
use Rattle.ialg.specs.History.{History, with_samples, word_at, outputs_by}
use Rattle.ialg.specs.Records.{record_at, unplaced}
use Rattle.ialg.proofs.Tables.{attr_of, size_of}
use Rattle.record_loans.specs.declared.pieces.Pieces.{Pieces}
use Rattle.record_loans.specs.Pieces.{piece_words}
use Rattle.scratch_group.specs.Words.{idle_words, lasting_words_by}
use Rattle.test_doubles.specs.Slicer.{slicer_records, slicer_gives, sliced, HoldsLevels}
use Rattle.test_doubles.proofs.Levels.{levels_of, outputs-with_samples}

-- two levels are granted their records
pub granted : (p : List ℤ) (rs : List MemRec) → length p ≡ 2 → unplaced rs ≡ slicer_records → (if length p == 2 then Some slicer_records else None) ≡ Some (unplaced rs)
granted p rs two table =
    let test : (length p == 2) ≡ true = grind (arith, nat_tests) in
    rw test (ap Some (sym table))

-- the lent piece has the levels
pub levels_kept : (p : List ℤ) (rs : List MemRec) (own shared : Pieces) (h : History) → HoldsLevels p rs (idle_words rs own shared) h → take 2 (piece_words shared.p1) ≡ p
levels_kept p rs own shared h keeps =
    let attr = attr_of rs slicer_records keeps.object.on_table 1 in
    let size = size_of rs slicer_records keeps.object.on_table 1 in
    sym (ap (λ a. lasting_words_by a (record_at rs 1).size (piece_words own.p1) (piece_words shared.p1)) attr ∙ ap (λ n. take n (piece_words shared.p1)) size)
    ∙ levels_of p rs (idle_words rs own shared) h keeps

-- what a first block gives
pub first_outputs : (p q : List ℤ) (xs ys : List ℤ) → p ≡ q
    → outputs_by (slicer_gives p) (with_samples [] xs) ≡ [] ++ ys → ys ≡ map (sliced (word_at q 0) (word_at q 1)) xs
first_outputs p q xs ys e given = sym given ∙ outputs-with_samples p [] xs ∙ ap (λ l. map (sliced (word_at l 0) (word_at l 1)) xs) e
