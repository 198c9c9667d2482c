-- Where no block must be placed and each record that lasts has its piece, the records have room.
use Rattle.std.proofs.Common.{◌≡◌, ℕ, ℤ, zero, suc, ◌+◌, ◌≤◌, Bool, true, false, List, [], ◌∷◌, length, drop, take, Option, Some, None, refl, ap, sym, ◌∙◌, arith, length-take, length-drop}
use Rattle.std.specs.Prelude.{if◌then◌else◌, ◌||◌, ◌&&◌, nat_eq}
use Rattle.std.proofs.lemmas.Bool.Decides.{nat_tests}
use Rattle.std.specs.Int.{next_multiple_of}
use Rattle.mem_rec.specs.declared.MemRec.{MemRec}
use Rattle.mem_rec.specs.declared.Space.{Space}
use Rattle.mem_rec.specs.declared.Space.TheVariants.{Daram, Saram, External}
use Rattle.mem_rec.specs.declared.Attr.{Attr}
use Rattle.mem_rec.specs.declared.Attr.TheVariants.{Scratch, Persist, WriteOnce}
use Rattle.mem_rec.specs.Records.{is_scratch, same_space}
use Rattle.mem_rec.specs.Layout.{end_from, scratch_records}
use Rattle.ialg.specs.Records.{record_at, words_of, idle_size}
use Rattle.scratch_group.specs.declared.group.Need.{Need}
use Rattle.record_loans.specs.declared.block.ScratchBlock.{ScratchBlock}
use Rattle.scratch_group.specs.declared.group.Group.{Group}
use Rattle.record_loans.specs.declared.pieces.Pieces.{Pieces}
use Rattle.record_loans.specs.Blocks.{block_words}
use Rattle.scratch_group.specs.Blocks.{block_in, block_needed, serves}
use Rattle.record_loans.specs.Pieces.{piece_at, piece_words}
use Rattle.scratch_group.specs.Words.{words_by, record_words, active_words, lasting_words_by, scratch_end, scratch_offset, HasPieces}
use Rattle.scratch_group.proofs.Ends.{next_end, scratch_end-suc, one_more, blank_at}
use Rattle.lifecycle.specs.Rooms.{NoNeed}

-- the ends only grow

end_from-least : (b : ℕ) (rs : List MemRec) → b ≤ end_from b rs
end_from-least b [] = omega arith
end_from-least b (r ∷ rs) = let h = end_from-least (next_multiple_of b r.align + r.size) rs in omega (arith, h)

more_records : (rs : List MemRec) (k b : ℕ) (space : Space) → end_from b (scratch_records (take k rs) space) ≤ end_from b (scratch_records rs space)
more_records [] zero b space = omega arith
more_records [] (suc k) b space = omega arith
more_records (r ∷ rs) zero b space = end_from-least b (scratch_records (r ∷ rs) space)
more_records (r ∷ rs) (suc k) b space =
    let t = is_scratch r.attr && same_space r.space space in
    let h = more_records rs k (if t then next_multiple_of b r.align + r.size else b) space in
    rw (one_more t b r (scratch_records (take k rs) space), one_more t b r (scratch_records rs space)) h

pub test_true : (t : Bool) (x : Need) → (if t then None else Some x) ≡ None → t ≡ true
test_true true x h = refl
test_true false x h = cc

served : (b : Option ScratchBlock) (need align : ℕ) → (nat_eq need 0 || serves b need align) ≡ true → need ≤ length (block_words b)
served None need align h = grind (arith, nat_tests)
served (Some b) need align h = grind (arith, nat_tests)

block_long : (b : Option ScratchBlock) (need align : ℕ) → block_needed b need align ≡ None → need ≤ length (block_words b)
block_long b need align h = served b need align (test_true _ _ h)

rounded : (end size : ℕ) → next_multiple_of end 4 ≤ size → end ≤ size
rounded end size h = omega arith

-- a scratch record ends within its block

own_end : (a : Attr) (sp : Space) (n al e : ℕ) → a ≡ Scratch → next_end a sp n al sp e ≡ next_multiple_of e al + n
own_end Scratch Daram n al e h = refl
own_end Scratch Saram n al e h = refl
own_end Scratch External n al e h = refl
own_end Persist sp n al e h = cc
own_end WriteOnce sp n al e h = cc

pub scratch_stop : (rs : List MemRec) (k : ℕ) → (record_at rs k).attr ≡ Scratch
    → scratch_end rs (suc k) (record_at rs k).space ≡ scratch_offset rs k + (record_at rs k).size
scratch_stop rs k e = scratch_end-suc rs k (record_at rs k).space
    ∙ own_end (record_at rs k).attr (record_at rs k).space (record_at rs k).size (record_at rs k).align (scratch_end rs k (record_at rs k).space) e

pub scratch_inside : (rs : List MemRec) (g : Group) (k : ℕ) → NoNeed rs g → (record_at rs k).attr ≡ Scratch
    → scratch_offset rs k + (record_at rs k).size ≤ length (block_words (block_in g (record_at rs k).space))
scratch_inside rs g k need e =
    let sp = (record_at rs k).space in
    let stop = scratch_stop rs k e in
    let all = more_records rs (suc k) 0 sp in
    let long = rounded (end_from 0 (scratch_records rs sp)) (length (block_words (block_in g sp))) (block_long (block_in g sp) _ _ (need sp)) in
    omega (arith, stop, all, long)

cut_long : (n at : ℕ) (xs : List ℤ) → at + n ≤ length xs → length (take n (drop at xs)) ≡ n
cut_long n at xs h = omega (arith, length-take n (drop at xs), length-drop at xs)

size_by : (a : Attr) (n at : ℕ) (o s b : List ℤ) → (a ≡ Scratch → at + n ≤ length b) → length (lasting_words_by a n o s) ≡ idle_size a n
    → length (words_by a n o s (drop at b)) ≡ n
size_by Scratch n at o s b inside lasts = cut_long n at b (inside refl)
size_by Persist n at o s b inside lasts = lasts
size_by WriteOnce n at o s b inside lasts = lasts

record_size : (rs : List MemRec) (own shared : Pieces) (g : Group) (k : ℕ) → NoNeed rs g
    → length (lasting_words_by (record_at rs k).attr (record_at rs k).size (piece_words (piece_at own k)) (piece_words (piece_at shared k))) ≡ idle_size (record_at rs k).attr (record_at rs k).size
    → length (record_words rs own shared g k) ≡ (record_at rs k).size
record_size rs own shared g k need lasts =
    size_by (record_at rs k).attr (record_at rs k).size (scratch_offset rs k) (piece_words (piece_at own k)) (piece_words (piece_at shared k)) (block_words (block_in g (record_at rs k).space))
    (λ e. scratch_inside rs g k need e) lasts

pub sizes_of_need : (rs : List MemRec) (own shared : Pieces) (g : Group) → length rs ≤ 4 → NoNeed rs g → HasPieces rs own shared
    → (k : ℕ) → length (words_of (active_words rs own shared g) k) ≡ (record_at rs k).size
sizes_of_need rs own shared g few need has zero = record_size rs own shared g 0 need (has 0)
sizes_of_need rs own shared g few need has (suc zero) = record_size rs own shared g 1 need (has 1)
sizes_of_need rs own shared g few need has (suc (suc zero)) = record_size rs own shared g 2 need (has 2)
sizes_of_need rs own shared g few need has (suc (suc (suc zero))) = record_size rs own shared g 3 need (has 3)
sizes_of_need rs own shared g few need has (suc (suc (suc (suc k)))) = sym (ap (λ r. r.size) (blank_at rs (suc (suc (suc (suc k)))) (omega (arith, few))))
