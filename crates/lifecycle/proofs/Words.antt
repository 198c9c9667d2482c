-- The words of records, by what stays of them.
use Rattle.std.proofs.Common.{rules, ◌≡◌, ℕ, ℤ, zero, suc, ◌+◌, ◌⊎◌, inl, inr, List, [], ◌∷◌, length, take, drop, Option, Some, None, refl, ap, sym, ◌∙◌, subst}
use Rattle.std.proofs.lemmas.List.Elements.{All-take, All-drop}
use Rattle.std.specs.Int.{next_multiple_of}
use Rattle.mem_rec.specs.declared.MemRec.{MemRec}
use Rattle.mem_rec.specs.declared.Space.{Space}
use Rattle.mem_rec.specs.declared.Attr.{Attr}
use Rattle.mem_rec.specs.declared.Attr.TheVariants.{Scratch, Persist, WriteOnce}
use Rattle.ialg.specs.Records.{record_at, words_of, idle_size, lasting, lasting_words, unplaced, AllLent, LastingLent, ArePoison, AreNew, ScratchIsPoison}
use Rattle.std.specs.Prelude.{if◌then◌else◌, ◌&&◌}
use Rattle.mem_rec.specs.Records.{is_scratch, same_space}
use Rattle.mem_rec.specs.Layout.{end_from, scratch_records}
use Rattle.scratch_group.proofs.Ends.{one_more}
use Rattle.ialg.proofs.Tables.{words_of-lasting, record_at-unplaced}
use Rattle.scratch_group.specs.declared.group.Group.{Group}
use Rattle.record_loans.specs.declared.pieces.Pieces.{Pieces}
use Rattle.record_loans.specs.Blocks.{block_words}
use Rattle.scratch_group.specs.Blocks.{block_in, BlocksArePoison}
use Rattle.record_loans.specs.Pieces.{piece_at, piece_words}
use Rattle.scratch_group.specs.Words.{words_by, record_words, active_words, lasting_words_by, idle_record_words, idle_words, scratch_end, scratch_offset}

four : {a a' b b' c c' d d' : List ℤ} → a ≡ a' → b ≡ b' → c ≡ c' → d ≡ d' → a ∷ b ∷ c ∷ d ∷ [] ≡ a' ∷ b' ∷ c' ∷ d' ∷ []
four ea eb ec ed = cc

-- the words that last are those of the idle instance

lasts : (a : Attr) (n : ℕ) (own shared block : List ℤ) → lasting_words a (words_by a n own shared block) ≡ lasting_words_by a n own shared
lasts Scratch n own shared block = refl
lasts Persist n own shared block = refl
lasts WriteOnce n own shared block = refl

last_already : (a : Attr) (n : ℕ) (own shared : List ℤ) → lasting_words a (lasting_words_by a n own shared) ≡ lasting_words_by a n own shared
last_already Scratch n own shared = refl
last_already Persist n own shared = refl
last_already WriteOnce n own shared = refl

-- four lists of words, of which those that last are kept
lasting_four : (rs : List MemRec) (a b c d : List ℤ) → lasting rs (a ∷ b ∷ c ∷ d ∷ [])
    ≡ lasting_words (record_at rs 0).attr a ∷ lasting_words (record_at rs 1).attr b ∷ lasting_words (record_at rs 2).attr c ∷ lasting_words (record_at rs 3).attr d ∷ []
lasting_four [] a b c d = refl
lasting_four (r0 ∷ []) a b c d = refl
lasting_four (r0 ∷ r1 ∷ []) a b c d = refl
lasting_four (r0 ∷ r1 ∷ r2 ∷ []) a b c d = refl
lasting_four (r0 ∷ r1 ∷ r2 ∷ r3 ∷ rs) a b c d = refl

record_lasts : (rs : List MemRec) (own shared : Pieces) (g : Group) (k : ℕ) → lasting_words (record_at rs k).attr (record_words rs own shared g k) ≡ idle_record_words rs own shared k
record_lasts rs own shared g k = lasts (record_at rs k).attr (record_at rs k).size (piece_words (piece_at own k)) (piece_words (piece_at shared k)) (drop (scratch_offset rs k) (block_words (block_in g (record_at rs k).space)))

pub lasting_active : (rs : List MemRec) (own shared : Pieces) (g : Group) → lasting rs (active_words rs own shared g) ≡ idle_words rs own shared
lasting_active rs own shared g =
    lasting_four rs (record_words rs own shared g 0) (record_words rs own shared g 1) (record_words rs own shared g 2) (record_words rs own shared g 3)
    ∙ four (record_lasts rs own shared g 0) (record_lasts rs own shared g 1) (record_lasts rs own shared g 2) (record_lasts rs own shared g 3)

idle_record_lasts : (rs : List MemRec) (own shared : Pieces) (k : ℕ) → lasting_words (record_at rs k).attr (idle_record_words rs own shared k) ≡ idle_record_words rs own shared k
idle_record_lasts rs own shared k = last_already (record_at rs k).attr (record_at rs k).size (piece_words (piece_at own k)) (piece_words (piece_at shared k))

pub lasting_idle : (rs : List MemRec) (own shared : Pieces) → lasting rs (idle_words rs own shared) ≡ idle_words rs own shared
lasting_idle rs own shared =
    lasting_four rs (idle_record_words rs own shared 0) (idle_record_words rs own shared 1) (idle_record_words rs own shared 2) (idle_record_words rs own shared 3)
    ∙ four (idle_record_lasts rs own shared 0) (idle_record_lasts rs own shared 1) (idle_record_lasts rs own shared 2) (idle_record_lasts rs own shared 3)

-- the records that last are lent to an idle instance

idle_length : (a : Attr) (ws : List ℤ) (n : ℕ) → length ws ≡ n → length (lasting_words a ws) ≡ idle_size a n
idle_length Scratch ws n e = refl
idle_length Persist ws n e = e
idle_length WriteOnce ws n e = e

pub lasting_lent : (rs : List MemRec) (own shared : Pieces) (g : Group) → AllLent rs (active_words rs own shared g) → LastingLent rs (idle_words rs own shared)
lasting_lent rs own shared g lent = record {
  sizes = λ k. ap (λ wss. length (words_of wss k)) (sym (lasting_active rs own shared g))
      ∙ ap length (words_of-lasting rs (active_words rs own shared g) k)
      ∙ idle_length (record_at rs k).attr (words_of (active_words rs own shared g) k) (record_at rs k).size (lent.sizes k);
  apart = lent.apart;
}

-- the poison word

poison_take : (w : Option ℤ) (n : ℕ) (xs : List ℤ) → ArePoison w xs → ArePoison w (take n xs)
poison_take None n xs h = tt
poison_take (Some v) n xs h = All-take (λ x. x ≡ v) n xs h

poison_drop : (w : Option ℤ) (n : ℕ) (xs : List ℤ) → ArePoison w xs → ArePoison w (drop n xs)
poison_drop None n xs h = tt
poison_drop (Some v) n xs h = All-drop (λ x. x ≡ v) n xs h

poison_none : (w : Option ℤ) → ArePoison w []
poison_none None = tt
poison_none (Some v) = search rules

scratch_by : (w : Option ℤ) (a : Attr) (n : ℕ) (own shared block : List ℤ) → a ≡ Scratch → ArePoison w block → ArePoison w (words_by a n own shared block)
scratch_by w a n own shared block e h = subst (λ (b : Attr). ArePoison w (words_by b n own shared block)) (sym e) (poison_take w n block h)

record_poison : (w : Option ℤ) (rs : List MemRec) (own shared : Pieces) (g : Group) (k : ℕ) → BlocksArePoison w g → (record_at rs k).attr ≡ Scratch → ArePoison w (record_words rs own shared g k)
record_poison w rs own shared g k h e =
    scratch_by w (record_at rs k).attr (record_at rs k).size (piece_words (piece_at own k)) (piece_words (piece_at shared k)) (drop (scratch_offset rs k) (block_words (block_in g (record_at rs k).space))) e
    (poison_drop w (scratch_offset rs k) (block_words (block_in g (record_at rs k).space)) (h (record_at rs k).space))

pub scratch_is_poison : (w : Option ℤ) (rs : List MemRec) (own shared : Pieces) (g : Group) → BlocksArePoison w g → ScratchIsPoison w rs (active_words rs own shared g)
scratch_is_poison w rs own shared g h zero e = record_poison w rs own shared g 0 h e
scratch_is_poison w rs own shared g h (suc zero) e = record_poison w rs own shared g 1 h e
scratch_is_poison w rs own shared g h (suc (suc zero)) e = record_poison w rs own shared g 2 h e
scratch_is_poison w rs own shared g h (suc (suc (suc zero))) e = record_poison w rs own shared g 3 h e
scratch_is_poison w rs own shared g h (suc (suc (suc (suc k)))) e = poison_none w

lasting_by : (w : Option ℤ) (a : Attr) (n : ℕ) (own shared : List ℤ) → ArePoison w own → ArePoison w shared → ArePoison w (lasting_words_by a n own shared)
lasting_by w Scratch n own shared ho hs = poison_none w
lasting_by w Persist n own shared ho hs = poison_take w n own ho
lasting_by w WriteOnce n own shared ho hs = poison_take w n shared hs

idle_poison : (w : Option ℤ) (rs : List MemRec) (own shared : Pieces) (k : ℕ) → ArePoison w (piece_words (piece_at own k)) → ArePoison w (piece_words (piece_at shared k)) → ArePoison w (idle_record_words rs own shared k)
idle_poison w rs own shared k ho hs = lasting_by w (record_at rs k).attr (record_at rs k).size (piece_words (piece_at own k)) (piece_words (piece_at shared k)) ho hs

words_are_poison : (w : Option ℤ) (rs : List MemRec) (own shared : Pieces) (k : ℕ) → ArePoison w (piece_words (piece_at own k)) → ArePoison w (piece_words (piece_at shared k)) → ArePoison w (words_of (idle_words rs own shared) k)
words_are_poison w rs own shared zero ho hs = idle_poison w rs own shared 0 ho hs
words_are_poison w rs own shared (suc zero) ho hs = idle_poison w rs own shared 1 ho hs
words_are_poison w rs own shared (suc (suc zero)) ho hs = idle_poison w rs own shared 2 ho hs
words_are_poison w rs own shared (suc (suc (suc zero))) ho hs = idle_poison w rs own shared 3 ho hs
words_are_poison w rs own shared (suc (suc (suc (suc k)))) ho hs = poison_none w

-- for owners: new pieces were filled with the poison word, or hold the fill of a write-once record already
pub are_new : (w : Option ℤ) (fill : ℕ → List ℤ) (rs : List MemRec) (own shared : Pieces) → ((k : ℕ) → ArePoison w (piece_words (piece_at own k)))
    → ((k : ℕ) → ArePoison w (piece_words (piece_at shared k)) ⊎ (((record_at rs k).attr ≡ WriteOnce) × (words_of (idle_words rs own shared) k ≡ fill k)))
    → AreNew w fill rs (idle_words rs own shared)
are_new w fill rs own shared ho hs k = elim (hs k) [ inl poison ↦ inl (words_are_poison w rs own shared k (ho k) poison) | inr filled ↦ inr filled ]

-- bases don't matter

pub ends-unplaced : (rs : List MemRec) (k b : ℕ) (space : Space) → end_from b (scratch_records (take k (unplaced rs)) space) ≡ end_from b (scratch_records (take k rs) space)
ends-unplaced [] k b space = refl
ends-unplaced (r ∷ rs) zero b space = refl
ends-unplaced (r ∷ rs) (suc k) b space =
    let t = is_scratch r.attr && same_space r.space space in
    one_more t b (record r { base = 0 }) (scratch_records (take k (unplaced rs)) space)
    ∙ ends-unplaced rs k (if t then next_multiple_of b r.align + r.size else b) space
    ∙ sym (one_more t b r (scratch_records (take k rs) space))

record_words-unplaced : (rs : List MemRec) (own shared : Pieces) (g : Group) (k : ℕ) → record_words (unplaced rs) own shared g k ≡ record_words rs own shared g k
record_words-unplaced rs own shared g k =
    let o = piece_words (piece_at own k) in
    let s = piece_words (piece_at shared k) in
    ap (λ (r : MemRec). words_by r.attr r.size o s (drop (next_multiple_of (scratch_end (unplaced rs) k r.space) r.align) (block_words (block_in g r.space)))) (record_at-unplaced rs k)
    ∙ ap (λ n. words_by (record_at rs k).attr (record_at rs k).size o s (drop (next_multiple_of n (record_at rs k).align) (block_words (block_in g (record_at rs k).space)))) (ends-unplaced rs k 0 (record_at rs k).space)

active_words-unplaced : (rs : List MemRec) (own shared : Pieces) (g : Group) → active_words (unplaced rs) own shared g ≡ active_words rs own shared g
active_words-unplaced rs own shared g =
    four (record_words-unplaced rs own shared g 0) (record_words-unplaced rs own shared g 1) (record_words-unplaced rs own shared g 2) (record_words-unplaced rs own shared g 3)

pub active_words-same : (rs rs' : List MemRec) (own shared : Pieces) (g : Group) → unplaced rs' ≡ unplaced rs → active_words rs' own shared g ≡ active_words rs own shared g
active_words-same rs rs' own shared g e = sym (active_words-unplaced rs' own shared g) ∙ ap (λ ts. active_words ts own shared g) e ∙ active_words-unplaced rs own shared g

idle_words-unplaced : (rs : List MemRec) (own shared : Pieces) → idle_words (unplaced rs) own shared ≡ idle_words rs own shared
idle_words-unplaced [] own shared = refl
idle_words-unplaced (r0 ∷ []) own shared = refl
idle_words-unplaced (r0 ∷ r1 ∷ []) own shared = refl
idle_words-unplaced (r0 ∷ r1 ∷ r2 ∷ []) own shared = refl
idle_words-unplaced (r0 ∷ r1 ∷ r2 ∷ r3 ∷ rs) own shared = refl

pub idle_words-same : (rs rs' : List MemRec) (own shared : Pieces) → unplaced rs' ≡ unplaced rs → idle_words rs' own shared ≡ idle_words rs own shared
idle_words-same rs rs' own shared e = sym (idle_words-unplaced rs' own shared) ∙ ap (λ ts. idle_words ts own shared) e ∙ idle_words-unplaced rs own shared

pub size-same : (rs rs' : List MemRec) (k : ℕ) → unplaced rs' ≡ unplaced rs → (record_at rs' k).size ≡ (record_at rs k).size
size-same rs rs' k e = sym (ap (λ r. r.size) (record_at-unplaced rs' k)) ∙ ap (λ ts. (record_at ts k).size) e ∙ ap (λ r. r.size) (record_at-unplaced rs k)

attr-same : (rs rs' : List MemRec) (k : ℕ) → unplaced rs' ≡ unplaced rs → (record_at rs' k).attr ≡ (record_at rs k).attr
attr-same rs rs' k e = sym (ap (λ r. r.attr) (record_at-unplaced rs' k)) ∙ ap (λ ts. (record_at ts k).attr) e ∙ ap (λ r. r.attr) (record_at-unplaced rs k)

pub are_new-same : (w : Option ℤ) (fill : ℕ → List ℤ) (rs rs' : List MemRec) (own shared : Pieces) → unplaced rs' ≡ unplaced rs
    → AreNew w fill rs (idle_words rs own shared) → AreNew w fill rs' (idle_words rs' own shared)
are_new-same w fill rs rs' own shared e new k =
    subst (λ (wss : List (List ℤ)). ArePoison w (words_of wss k) ⊎ (((record_at rs' k).attr ≡ WriteOnce) × (words_of wss k ≡ fill k))) (sym (idle_words-same rs rs' own shared e))
    (subst (λ (a : Attr). ArePoison w (words_of (idle_words rs own shared) k) ⊎ ((a ≡ WriteOnce) × (words_of (idle_words rs own shared) k ≡ fill k))) (sym (attr-same rs rs' k e)) (new k))
