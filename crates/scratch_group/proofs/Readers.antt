-- What is lent to a reader is each record's words.
use Rattle.std.proofs.Common.{◌≡◌, ℕ, zero, suc, inl, inr, IsTrue, List, [], length, take, drop, refl, ap, sym, ◌∙◌, arith}
use Rattle.mem_rec.specs.declared.MemRec.{MemRec}
use Rattle.mem_rec.specs.declared.Attr.TheVariants.{WriteOnce}
use Rattle.mem_rec.specs.Records.{is_table}
use Rattle.ialg.specs.Records.{idle_size, record_at}
use Rattle.record_loans.specs.declared.plan.ReaderSizes.{ReaderSizes}
use Rattle.record_loans.specs.Cuts.{reader_words}
use Rattle.record_loans.specs.Loans.{ReaderFits}
use Rattle.record_loans.specs.declared.pieces.Pieces.{Pieces}
use Rattle.record_loans.specs.Pieces.{piece_words}
use Rattle.record_loans.specs.Blocks.{block_words}
use Rattle.scratch_group.specs.declared.group.Group.{Group}
use Rattle.scratch_group.specs.Blocks.{block_in}
use Rattle.scratch_group.specs.Words.{HasPieces, scratch_offset, words_by, record_words, active_words, lasting_words_by, idle_record_words, idle_words, HasWords}
use Rattle.scratch_group.specs.Readers.{IsOfReader}
use Rattle.scratch_group.proofs.Ends.{blank_at, persistent_once, blank_once}
use Rattle.ialg.proofs.Tables.{object_attr}
use Rattle.scratch_group.proofs.Cutting.{either, object_words, take_fits}

module _ (rs : List MemRec) (n : ReaderSizes) (t : IsTrue (is_table rs)) (f : IsOfReader rs n) (own shared : Pieces) (g : Group) where
  object_is : record_words rs own shared g 0 ≡ take n.object (piece_words own.p0)
  object_is = sym (object_words rs own shared g t) ∙ ap (λ k. take k (piece_words own.p0)) f.object

  once_is : record_words rs own shared g 1 ≡ take n.once (piece_words shared.p1)
  once_is = elim (either 1 (length rs)) [
    | inl there ↦
        ap (λ a. words_by a (record_at rs 1).size (piece_words own.p1) (piece_words shared.p1) (drop (scratch_offset rs 1) (block_words (block_in g (record_at rs 1).space)))) (f.second there)
        ∙ ap (λ k. take k (piece_words shared.p1)) f.once
    | inr past ↦
        let none : n.once ≡ 0 = sym f.once ∙ ap (λ (r : MemRec). r.size) (blank_at rs 1 past) in
        rw (blank_at rs 1 past, none) refl
  ]

  third_is : record_words rs own shared g 2 ≡ []
  third_is = rw (blank_at rs 2 (let e = f.few in omega (arith, e))) refl

  last_is : record_words rs own shared g 3 ≡ []
  last_is = rw (blank_at rs 3 (let e = f.few in omega (arith, e))) refl

  pub reader_lent : active_words rs own shared g ≡ reader_words n (piece_words own.p0) (piece_words shared.p1)
  reader_lent = rw (object_is, once_is, third_is, last_is) refl

  -- where each record has its words, they stand in the pieces
  pub reader_fits : HasWords rs own shared g → ReaderFits n own shared.p1
  reader_fits has = record {
    object = take_fits n.object (piece_words own.p0) (ap length (sym object_is) ∙ has 0 ∙ f.object);
    once = take_fits n.once (piece_words shared.p1) (ap length (sym once_is) ∙ has 1 ∙ f.once);
  }

module _ (rs : List MemRec) (n : ReaderSizes) (t : IsTrue (is_table rs)) (f : IsOfReader rs n) (own shared : Pieces) where
  object_at_rest : idle_record_words rs own shared 0 ≡ take n.object (piece_words own.p0)
  object_at_rest = rw (object_attr rs t, f.object) refl

  once_at_rest : idle_record_words rs own shared 1 ≡ take n.once (piece_words shared.p1)
  once_at_rest = elim (either 1 (length rs)) [
    | inl there ↦
        ap (λ a. lasting_words_by a (record_at rs 1).size (piece_words own.p1) (piece_words shared.p1)) (f.second there)
        ∙ ap (λ k. take k (piece_words shared.p1)) f.once
    | inr past ↦
        let none : n.once ≡ 0 = sym f.once ∙ ap (λ (r : MemRec). r.size) (blank_at rs 1 past) in
        rw (blank_at rs 1 past, none) refl
  ]

  third_at_rest : idle_record_words rs own shared 2 ≡ []
  third_at_rest = rw (blank_at rs 2 (let e = f.few in omega (arith, e))) refl

  last_at_rest : idle_record_words rs own shared 3 ≡ []
  last_at_rest = rw (blank_at rs 3 (let e = f.few in omega (arith, e))) refl

  -- an idle reader is lent what an active one is
  pub reader_at_rest : idle_words rs own shared ≡ reader_words n (piece_words own.p0) (piece_words shared.p1)
  reader_at_rest = rw (object_at_rest, once_at_rest, third_at_rest, last_at_rest) refl

  once_size : idle_size (record_at rs 1).attr (record_at rs 1).size ≡ n.once
  once_size = elim (either 1 (length rs)) [
    | inl there ↦ rw (f.second there) f.once
    | inr past ↦
        let none : n.once ≡ 0 = sym f.once ∙ ap (λ (r : MemRec). r.size) (blank_at rs 1 past) in
        rw (blank_at rs 1 past, none) refl
  ]

  -- where each record that lasts has its words, they stand in the pieces
  pub reader_fits_at_rest : HasPieces rs own shared → ReaderFits n own shared.p1
  reader_fits_at_rest has = record {
    object = take_fits n.object (piece_words own.p0) (ap length (sym object_at_rest) ∙ has 0 ∙ rw (object_attr rs t) f.object);
    once = take_fits n.once (piece_words shared.p1) (ap length (sym once_at_rest) ∙ has 1 ∙ once_size);
  }

-- no other record than the second is write-once
pub once_second : (rs : List MemRec) (n : ReaderSizes) → IsTrue (is_table rs) → IsOfReader rs n → (k : ℕ) → (record_at rs k).attr ≡ WriteOnce → k ≡ 1
once_second rs n t f zero attr = absurd (persistent_once (sym (object_attr rs t) ∙ attr))
once_second rs n t f (suc zero) attr = refl
once_second rs n t f (suc (suc k)) attr = absurd (blank_once rs (suc (suc k)) (let e = f.few in omega (arith, e)) attr)
