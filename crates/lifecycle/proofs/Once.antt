-- The words of write-once records stay over each call but the first.
use Rattle.std.proofs.Common.{◌≡◌, ◌∙◌, ℕ, ℤ, zero, suc, false, List, take, drop, refl, ap, sym}
use Rattle.mem_rec.specs.declared.MemRec.{MemRec}
use Rattle.mem_rec.specs.declared.Attr.{Attr}
use Rattle.mem_rec.specs.declared.Attr.TheVariants.{Scratch, Persist, WriteOnce}
use Rattle.ialg.specs.Records.{record_at}
use Rattle.scratch_group.specs.declared.group.Group.{Group}
use Rattle.record_loans.specs.declared.pieces.Pieces.{Pieces}
use Rattle.record_loans.specs.Blocks.{block_words}
use Rattle.record_loans.specs.Pieces.{piece_at, piece_words}
use Rattle.scratch_group.specs.Blocks.{block_in}
use Rattle.scratch_group.specs.Words.{words_by, record_words, active_words, lasting_words_by, idle_words, scratch_offset}
use Rattle.lifecycle.specs.Laws.{StaysOnce}
use Rattle.lifecycle.specs.States.{SameOnce}

-- of a write-once record, the words of the shared piece are lent
once_words : (rs : List MemRec) (own shared : Pieces) (g : Group) (k : ℕ) → (record_at rs k).attr ≡ WriteOnce
    → record_words rs own shared g k ≡ take (record_at rs k).size (piece_words (piece_at shared k))
once_words rs own shared g k e =
    let r = record_at rs k in
    ap (λ a. words_by a r.size (piece_words (piece_at own k)) (piece_words (piece_at shared k)) (drop (scratch_offset rs k) (block_words (block_in g r.space)))) e

shared_stays : (rs : List MemRec) (own own' shared shared' : Pieces) (g g' : Group) (k : ℕ) → (record_at rs k).attr ≡ WriteOnce
    → record_words rs own' shared' g' k ≡ record_words rs own shared g k
    → take (record_at rs k).size (piece_words (piece_at shared' k)) ≡ take (record_at rs k).size (piece_words (piece_at shared k))
shared_stays rs own own' shared shared' g g' k e same = sym (once_words rs own' shared' g' k e) ∙ same ∙ once_words rs own shared g k e

pub once_active : (rs : List MemRec) (own own' shared shared' : Pieces) (g g' : Group) → StaysOnce rs false (active_words rs own shared g) (active_words rs own' shared' g')
    → SameOnce rs shared shared'
once_active rs own own' shared shared' g g' stays zero e = shared_stays rs own own' shared shared' g g' 0 e (stays 0 e refl)
once_active rs own own' shared shared' g g' stays (suc zero) e = shared_stays rs own own' shared shared' g g' 1 e (stays 1 e refl)
once_active rs own own' shared shared' g g' stays (suc (suc zero)) e = shared_stays rs own own' shared shared' g g' 2 e (stays 2 e refl)
once_active rs own own' shared shared' g g' stays (suc (suc (suc zero))) e = shared_stays rs own own' shared shared' g g' 3 e (stays 3 e refl)
once_active rs own own' shared shared' g g' stays (suc (suc (suc (suc k)))) e = refl

lasting_stays : (a : Attr) (n : ℕ) (o o' s s' : List ℤ) → a ≡ WriteOnce → lasting_words_by a n o' s' ≡ lasting_words_by a n o s → take n s' ≡ take n s
lasting_stays Scratch n o o' s s' e same = cc
lasting_stays Persist n o o' s s' e same = cc
lasting_stays WriteOnce n o o' s s' e same = same

pub once_idle : (rs : List MemRec) (own own' shared shared' : Pieces) → StaysOnce rs false (idle_words rs own shared) (idle_words rs own' shared')
    → SameOnce rs shared shared'
once_idle rs own own' shared shared' stays zero e = lasting_stays (record_at rs 0).attr (record_at rs 0).size _ _ _ _ e (stays 0 e refl)
once_idle rs own own' shared shared' stays (suc zero) e = lasting_stays (record_at rs 1).attr (record_at rs 1).size _ _ _ _ e (stays 1 e refl)
once_idle rs own own' shared shared' stays (suc (suc zero)) e = lasting_stays (record_at rs 2).attr (record_at rs 2).size _ _ _ _ e (stays 2 e refl)
once_idle rs own own' shared shared' stays (suc (suc (suc zero))) e = lasting_stays (record_at rs 3).attr (record_at rs 3).size _ _ _ _ e (stays 3 e refl)
once_idle rs own own' shared shared' stays (suc (suc (suc (suc k)))) e = refl
