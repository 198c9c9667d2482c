-- The words of an instance whose write-once words stay.
use Rattle.std.proofs.Common.{◌≡◌, ℕ, ℤ, List, [], ◌∷◌, take, drop, refl, ap, ◌∙◌}
use Rattle.mem_rec.specs.declared.MemRec.{MemRec}
use Rattle.mem_rec.specs.declared.Attr.{Attr}
use Rattle.mem_rec.specs.declared.Attr.TheVariants.{Scratch, Persist, WriteOnce}
use Rattle.ialg.specs.Records.{record_at}
use Rattle.record_loans.specs.declared.pieces.Pieces.{Pieces}
use Rattle.record_loans.specs.Pieces.{piece_at, piece_words}
use Rattle.record_loans.specs.Blocks.{block_words}
use Rattle.scratch_group.specs.declared.group.Group.{Group}
use Rattle.scratch_group.specs.Blocks.{block_in}
use Rattle.scratch_group.specs.Words.{words_by, record_words, active_words, lasting_words_by, idle_record_words, idle_words, scratch_offset}
use Rattle.lifecycle.specs.States.{SameOnce}

lasting_written : (a : Attr) (n : ℕ) (own s s' : List ℤ) → (a ≡ WriteOnce → take n s' ≡ take n s) → lasting_words_by a n own s' ≡ lasting_words_by a n own s
lasting_written Scratch n own s s' same = refl
lasting_written Persist n own s s' same = refl
lasting_written WriteOnce n own s s' same = same refl

words_written : (a : Attr) (n : ℕ) (own s s' block : List ℤ) → (a ≡ WriteOnce → take n s' ≡ take n s) → words_by a n own s' block ≡ words_by a n own s block
words_written Scratch n own s s' block same = refl
words_written Persist n own s s' block same = refl
words_written WriteOnce n own s s' block same = same refl

idle_record_written : (rs : List MemRec) (own shared shared' : Pieces) → SameOnce rs shared shared' → (k : ℕ) → idle_record_words rs own shared' k ≡ idle_record_words rs own shared k
idle_record_written rs own shared shared' same k =
    lasting_written (record_at rs k).attr (record_at rs k).size (piece_words (piece_at own k)) (piece_words (piece_at shared k)) (piece_words (piece_at shared' k)) (same k)

record_written : (rs : List MemRec) (own shared shared' : Pieces) (g : Group) → SameOnce rs shared shared' → (k : ℕ) → record_words rs own shared' g k ≡ record_words rs own shared g k
record_written rs own shared shared' g same k =
    words_written (record_at rs k).attr (record_at rs k).size (piece_words (piece_at own k)) (piece_words (piece_at shared k)) (piece_words (piece_at shared' k))
    (drop (scratch_offset rs k) (block_words (block_in g (record_at rs k).space))) (same k)

-- four lists of words, each of which is the same
four_same : (old new : ℕ → List ℤ) → ((k : ℕ) → new k ≡ old k) → new 0 ∷ new 1 ∷ new 2 ∷ new 3 ∷ [] ≡ old 0 ∷ old 1 ∷ old 2 ∷ old 3 ∷ []
four_same old new same =
    ap (λ (ws : List ℤ). ws ∷ new 1 ∷ new 2 ∷ new 3 ∷ []) (same 0)
    ∙ ap (λ (ws : List ℤ). old 0 ∷ ws ∷ new 2 ∷ new 3 ∷ []) (same 1)
    ∙ ap (λ (ws : List ℤ). old 0 ∷ old 1 ∷ ws ∷ new 3 ∷ []) (same 2)
    ∙ ap (λ (ws : List ℤ). old 0 ∷ old 1 ∷ old 2 ∷ ws ∷ []) (same 3)

pub idle_written : (rs : List MemRec) (own shared shared' : Pieces) → SameOnce rs shared shared' → idle_words rs own shared' ≡ idle_words rs own shared
idle_written rs own shared shared' same = four_same (idle_record_words rs own shared) (idle_record_words rs own shared') (idle_record_written rs own shared shared' same)

pub active_written : (rs : List MemRec) (own shared shared' : Pieces) (g : Group) → SameOnce rs shared shared' → active_words rs own shared' g ≡ active_words rs own shared g
active_written rs own shared shared' g same = four_same (record_words rs own shared g) (record_words rs own shared' g) (record_written rs own shared shared' g same)
