-- No two records begin at one place of a space.
use Rattle.std.proofs.Common.{◌≡◌, ℕ, ℤ, zero, suc, ◌+◌, ◌<◌, ◌≤◌, ◌⊎◌, inl, inr, Bool, true, false, IsTrue, List, [], length, drop, take, Option, Some, None, refl, ap, sym, ◌∙◌, subst, arith, length-take, length-drop}
use Rattle.std.specs.Prelude.{if◌then◌else◌, ◌&&◌}
use Rattle.std.specs.Int.{next_multiple_of}
use Rattle.space_raw.specs.Span.{Span, Apart}
use Rattle.mem_rec.specs.declared.MemRec.{MemRec}
use Rattle.mem_rec.specs.declared.Space.{Space}
use Rattle.mem_rec.specs.declared.Attr.{Attr}
use Rattle.mem_rec.specs.declared.Attr.TheVariants.{Scratch, Persist, WriteOnce}
use Rattle.mem_rec.specs.Records.{is_table, is_scratch, same_space}
use Rattle.mem_rec.proofs.Valid.{within_limits, bounded_at}
use Rattle.ialg.specs.Records.{record_at, words_of, AreApart}
use Rattle.scratch_group.specs.declared.group.Group.{Group}
use Rattle.record_loans.specs.declared.pieces.Pieces.{Pieces}
use Rattle.record_loans.specs.Blocks.{block_piece}
use Rattle.scratch_group.specs.Blocks.{block_in}
use Rattle.record_loans.specs.Pieces.{piece_at, piece_words, piece_place}
use Rattle.scratch_group.specs.Words.{words_by, record_words, active_words, scratch_end, scratch_offset, place_by, record_place, with_bases, placed, HasPieces, InSpaces}
use Rattle.scratch_group.proofs.Ends.{scratch_end-suc, any_default}
use Rattle.scratch_group.proofs.Tables.{unplaced-with_bases, length-with_bases, record_at-with_bases}
use Rattle.lifecycle.specs.Rooms.{NoNeed, Separate, AreSeparate, lasting_piece, piece_of_record}
use Rattle.lifecycle.specs.States.{Fits}
use Rattle.lifecycle.proofs.Words.{active_words-same, size-same}
use Rattle.lifecycle.proofs.Needs.{scratch_stop, sizes_of_need}

either : (a b : ℕ) → (a < b) ⊎ (b ≤ a)
either a zero = inr (omega arith)
either zero (suc b) = inl (omega arith)
either (suc a) (suc b) = elim (either a b) [ inl h ↦ inl (omega (arith, h)) | inr h ↦ inr (omega (arith, h)) ]

long_enough : (n : ℕ) (xs : List ℤ) → length (take n xs) ≡ n → n ≤ length xs
long_enough n xs h = omega (arith, length-take n xs)

inside : (n at : ℕ) (xs : List ℤ) → 1 ≤ n → length (take n (drop at xs)) ≡ n → at + n ≤ length xs
inside n at xs some h = omega (arith, length-take n (drop at xs), length-drop at xs)

apart_spans : (s t : Span) → Apart s t → 1 ≤ length s.words → 1 ≤ length t.words → (s.place + length s.words ≤ t.place) ⊎ (t.place + length t.words ≤ s.place)
apart_spans s t (inl none) hs ht = absurd (omega arith)
apart_spans s t (inr (inl none)) hs ht = absurd (omega arith)
apart_spans s t (inr (inr apart)) hs ht = apart

two_pieces : (p q : Option Span) (n m : ℕ) → 1 ≤ n → 1 ≤ m → length (take n (piece_words p)) ≡ n → length (take m (piece_words q)) ≡ m
    → AreSeparate p q → piece_place p ≡ piece_place q → ⊥
two_pieces None q n m sn sm ln lm apart e = let long = long_enough n [] ln in omega (arith, long)
two_pieces (Some s) None n m sn sm ln lm apart e = let long = long_enough m [] lm in omega (arith, long)
two_pieces (Some s) (Some t) n m sn sm ln lm apart e =
    let ls = long_enough n s.words ln in
    let lt = long_enough m t.words lm in
    elim (apart_spans s t apart (omega (arith, ls)) (omega (arith, lt))) [ inl h ↦ omega (arith, h, ls, e) | inr h ↦ omega (arith, h, lt, e) ]

piece_and_block : (p b : Option Span) (n m at : ℕ) → 1 ≤ n → 1 ≤ m → length (take n (piece_words p)) ≡ n → length (take m (drop at (piece_words b))) ≡ m
    → AreSeparate p b → piece_place p ≡ piece_place b + at → ⊥
piece_and_block None b n m at sn sm ln lm apart e = let long = long_enough n [] ln in omega (arith, long)
piece_and_block (Some s) None n m at sn sm ln lm apart e = let long = inside m at [] sm lm in omega (arith, long)
piece_and_block (Some s) (Some t) n m at sn sm ln lm apart e =
    let ls = long_enough n s.words ln in
    let lt = inside m at t.words sm lm in
    elim (apart_spans s t apart (omega (arith, ls)) (omega (arith, lt))) [ inl h ↦ omega (arith, h, ls, e) | inr h ↦ omega (arith, h, lt, e) ]

two_places : (aj ak : Attr) (pj qj pk qk b : Option Span) (nj nk atj atk : ℕ) → 1 ≤ nj → 1 ≤ nk
    → length (words_by aj nj (piece_words pj) (piece_words qj) (drop atj (piece_words b))) ≡ nj
    → length (words_by ak nk (piece_words pk) (piece_words qk) (drop atk (piece_words b))) ≡ nk
    → (aj ≡ Scratch → ak ≡ Scratch → atj + nj ≤ atk)
    → AreSeparate (lasting_piece aj pj qj) (lasting_piece ak pk qk) → AreSeparate (lasting_piece aj pj qj) b → AreSeparate (lasting_piece ak pk qk) b
    → place_by aj (piece_place pj) (piece_place qj) (piece_place b + atj) ≡ place_by ak (piece_place pk) (piece_place qk) (piece_place b + atk) → ⊥
two_places Scratch Scratch pj qj pk qk b nj nk atj atk sj sk lj lk order apart bj bk e = let h = order refl refl in omega (arith, h, e)
two_places Scratch Persist pj qj pk qk b nj nk atj atk sj sk lj lk order apart bj bk e = piece_and_block pk b nk nj atj sk sj lk lj bk (sym e)
two_places Scratch WriteOnce pj qj pk qk b nj nk atj atk sj sk lj lk order apart bj bk e = piece_and_block qk b nk nj atj sk sj lk lj bk (sym e)
two_places Persist Scratch pj qj pk qk b nj nk atj atk sj sk lj lk order apart bj bk e = piece_and_block pj b nj nk atk sj sk lj lk bj e
two_places WriteOnce Scratch pj qj pk qk b nj nk atj atk sj sk lj lk order apart bj bk e = piece_and_block qj b nj nk atk sj sk lj lk bj e
two_places Persist Persist pj qj pk qk b nj nk atj atk sj sk lj lk order apart bj bk e = two_pieces pj pk nj nk sj sk lj lk apart e
two_places Persist WriteOnce pj qj pk qk b nj nk atj atk sj sk lj lk order apart bj bk e = two_pieces pj qk nj nk sj sk lj lk apart e
two_places WriteOnce Persist pj qj pk qk b nj nk atj atk sj sk lj lk order apart bj bk e = two_pieces qj pk nj nk sj sk lj lk apart e
two_places WriteOnce WriteOnce pj qj pk qk b nj nk atj atk sj sk lj lk order apart bj bk e = two_pieces qj qk nj nk sj sk lj lk apart e

-- scratch records of a space stand one behind the other

no_less : (t : Bool) (n al e : ℕ) → e ≤ (if t then next_multiple_of e al + n else e)
no_less true n al e = omega arith
no_less false n al e = omega arith

grows : (rs : List MemRec) (k : ℕ) (space : Space) → scratch_end rs k space ≤ scratch_end rs (suc k) space
grows rs k space = rw (scratch_end-suc rs k space)
    (no_less (is_scratch (record_at rs k).attr && same_space (record_at rs k).space space) (record_at rs k).size (record_at rs k).align (scratch_end rs k space))

later : (rs : List MemRec) (j k : ℕ) (space : Space) → j ≤ k → scratch_end rs j space ≤ scratch_end rs k space
later rs j zero space h = let e : j ≡ 0 = omega (arith, h) in rw e (omega arith)
later rs j (suc k) space h = elim (either k j) [
  | inl above ↦ let e : j ≡ suc k = omega (arith, h, above) in rw e (omega arith)
  | inr below ↦ let i = later rs j k space below in let s = grows rs k space in omega (arith, i, s)
]

behind : (rs : List MemRec) (j k : ℕ) → j < k → (record_at rs j).space ≡ (record_at rs k).space → (record_at rs j).attr ≡ Scratch
    → scratch_offset rs j + (record_at rs j).size ≤ scratch_offset rs k
behind rs j k h same scratch =
    let stop = ap (λ space. scratch_end rs (suc j) space) (sym same) ∙ scratch_stop rs j scratch in
    let more = later rs (suc j) k (record_at rs k).space (omega (arith, h)) in
    omega (arith, stop, more)

pub some_words : (rs : List MemRec) (k : ℕ) → IsTrue (is_table rs) → k < length rs → 1 ≤ (record_at rs k).size
some_words rs k t h = (bounded_at rs k (record_at rs k) (record_at rs k) (within_limits rs t).valid h (sym (any_default rs k (record_at rs k) h))).some

other_places : (rs : List MemRec) (own shared : Pieces) (g : Group) (j k : ℕ) → IsTrue (is_table rs) → Separate rs own shared g
    → length (record_words rs own shared g j) ≡ (record_at rs j).size → length (record_words rs own shared g k) ≡ (record_at rs k).size
    → j < k → k < length rs → (record_at rs j).space ≡ (record_at rs k).space → record_place rs own shared g j ≡ record_place rs own shared g k → ⊥
other_places rs own shared g j k t apart size_j size_k less there same e =
    let rj = record_at rs j in
    let rk = record_at rs k in
    two_places rj.attr rk.attr (piece_at own j) (piece_at shared j) (piece_at own k) (piece_at shared k) (block_piece (block_in g rk.space)) rj.size rk.size (scratch_offset rs j) (scratch_offset rs k)
    (some_words rs j t (omega (arith, less, there))) (some_words rs k t there)
    (subst (λ (space : Space). length (words_by rj.attr rj.size (piece_words (piece_at own j)) (piece_words (piece_at shared j)) (drop (scratch_offset rs j) (piece_words (block_piece (block_in g space))))) ≡ rj.size) same size_j)
    size_k (λ sj sk. behind rs j k less same sj) (apart.pieces j k less there same)
    (subst (λ (space : Space). AreSeparate (piece_of_record rs own shared j) (block_piece (block_in g space))) same (apart.block j (omega (arith, less, there))))
    (apart.block k there)
    (subst (λ (space : Space). place_by rj.attr (piece_place (piece_at own j)) (piece_place (piece_at shared j)) (piece_place (block_piece (block_in g space)) + scratch_offset rs j) ≡ record_place rs own shared g k) same e)

at_record : (rs : List MemRec) (own shared : Pieces) (g : Group) (k : ℕ) → k < 4 → words_of (active_words rs own shared g) k ≡ record_words rs own shared g k
at_record rs own shared g zero h = refl
at_record rs own shared g (suc zero) h = refl
at_record rs own shared g (suc (suc zero)) h = refl
at_record rs own shared g (suc (suc (suc zero))) h = refl
at_record rs own shared g (suc (suc (suc (suc k)))) h = absurd (omega (arith, h))

one_place : (rs : List MemRec) (own shared : Pieces) (g : Group) → IsTrue (is_table rs) → Separate rs own shared g
    → ((k : ℕ) → length (words_of (active_words rs own shared g) k) ≡ (record_at rs k).size)
    → (j k : ℕ) → j < length rs → k < length rs → (record_at rs j).space ≡ (record_at rs k).space
    → record_place rs own shared g j ≡ record_place rs own shared g k → j ≡ k
one_place rs own shared g t apart sizes j k hj hk same e =
    let few = (within_limits rs t).few in
    let size_j = sym (ap length (at_record rs own shared g j (omega (arith, few, hj)))) ∙ sizes j in
    let size_k = sym (ap length (at_record rs own shared g k (omega (arith, few, hk)))) ∙ sizes k in
    elim (either j k) [
      | inl less ↦ absurd (other_places rs own shared g j k t apart size_j size_k less hk same e)
      | inr not_less ↦ elim (either k j) [
        | inl more ↦ absurd (other_places rs own shared g k j t apart size_k size_j more hj (sym same) (sym e))
        | inr not_more ↦ omega (arith, not_less, not_more)
      ]
    ]

-- the table with bases

pub placed_apart : (rs : List MemRec) (base : ℕ → ℕ)
    → ((j k : ℕ) → j < length rs → k < length rs → (record_at rs j).space ≡ (record_at rs k).space → base j ≡ base k → j ≡ k)
    → AreApart (with_bases rs base)
placed_apart rs base one j k hj hk same e =
    let lj : j < length rs = rw (← length-with_bases rs base) hj in
    let lk : k < length rs = rw (← length-with_bases rs base) hk in
    let rj = record_at-with_bases rs base j lj in
    let rk = record_at-with_bases rs base k lk in
    one j k lj lk (sym (ap (λ r. r.space) rj) ∙ same ∙ ap (λ r. r.space) rk) (sym (ap (λ r. r.base) rj) ∙ e ∙ ap (λ r. r.base) rk)

pub there_is_room : (rs : List MemRec) (own shared : Pieces) (g : Group) → IsTrue (is_table rs) → NoNeed rs g → HasPieces rs own shared → Separate rs own shared g → InSpaces own shared g
    → Fits (placed rs own shared g) own shared g
there_is_room rs own shared g t need has apart spaces =
    let base = record_place rs own shared g in
    let sizes = sizes_of_need rs own shared g (within_limits rs t).few need has in
    let same = unplaced-with_bases rs base in
    record {
      lent = record {
        sizes = λ k. ap (λ wss. length (words_of wss k)) (active_words-same rs (with_bases rs base) own shared g same) ∙ sizes k ∙ sym (size-same rs (with_bases rs base) k same);
        apart = placed_apart rs base (one_place rs own shared g t apart sizes);
      };
      spaces = spaces;
    }
