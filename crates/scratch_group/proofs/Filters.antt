-- What is lent to a filter is each record's words.
use Rattle.std.proofs.Common.{◌≡◌, ◌+◌, ◌<◌, ◌≤◌, ℕ, ℤ, zero, suc, IsTrue, List, [], ◌∷◌, length, take, refl, ap, sym, ◌∙◌, arith, length-take}
use Rattle.std.proofs.lemmas.Grind.{common_steps}
use Rattle.std.specs.Int.{next_multiple_of}
use Rattle.mem_rec.specs.declared.MemRec.{MemRec}
use Rattle.mem_rec.specs.declared.Space.TheVariants.{Daram}
use Rattle.mem_rec.specs.declared.Attr.TheVariants.{WriteOnce}
use Rattle.mem_rec.specs.Records.{is_table}
use Rattle.ialg.specs.Records.{record_at}
use Rattle.record_loans.specs.declared.plan.FilterSizes.{FilterSizes}
use Rattle.record_loans.specs.Cuts.{filter_words}
use Rattle.record_loans.specs.declared.pieces.Pieces.{Pieces}
use Rattle.record_loans.specs.Pieces.{piece_words, piece_place}
use Rattle.record_loans.specs.Blocks.{block_piece, block_words}
use Rattle.record_loans.specs.Loans.{FilterFits}
use Rattle.scratch_group.specs.declared.group.Group.{Group}
use Rattle.scratch_group.specs.Words.{HasPieces, scratch_end, scratch_offset, record_words, active_words, idle_record_words, idle_words}
use Rattle.scratch_group.specs.Words.{record_place, with_bases, HasWords}
use Rattle.scratch_group.specs.Filters.{filter_sizes_in, IsOfFilter}
use Rattle.scratch_group.proofs.Ends.{next_end, scratch_end-suc, blank_at, persistent_once, scratch_once, blank_once}
use Rattle.scratch_group.proofs.Tables.{length-with_bases, record_at-with_bases}
use Rattle.scratch_group.proofs.Cutting.{take_fits, first_end, object_words}
use Rattle.ialg.proofs.Tables.{object_attr}

pub some_there : (n size : ℕ) (ws lent : List ℤ) → lent ≡ take n ws → length lent ≡ size → size ≡ n → 1 ≤ n → 1 ≤ length ws
some_there n size ws lent is has same some = omega (arith, length-take n ws, ap length is)

pub none_at_0 : (al : ℕ) → next_multiple_of 0 al ≡ 0
none_at_0 al = grind (arith, common_steps)

module _ (rs : List MemRec) (n : FilterSizes) (t : IsTrue (is_table rs)) (f : IsOfFilter rs n) (own shared : Pieces) (g : Group) where
  second_end : scratch_end rs 2 Daram ≡ 0
  second_end =
      scratch_end-suc rs 1 Daram
      ∙ ap (λ a. next_end a (record_at rs 1).space (record_at rs 1).size (record_at rs 1).align Daram (scratch_end rs 1 Daram)) f.persistent
      ∙ first_end rs Daram t

  at_start : scratch_offset rs 2 ≡ 0
  at_start = ap (λ space. next_multiple_of (scratch_end rs 2 space) (record_at rs 2).align) f.space
      ∙ ap (λ e. next_multiple_of e (record_at rs 2).align) second_end ∙ none_at_0 (record_at rs 2).align

  object_is : record_words rs own shared g 0 ≡ take n.object (piece_words own.p0)
  object_is = sym (object_words rs own shared g t) ∙ ap (λ k. take k (piece_words own.p0)) f.object

  kept_is : record_words rs own shared g 1 ≡ take n.kept (piece_words own.p1)
  kept_is = rw (f.persistent, f.kept) refl

  running_is : record_words rs own shared g 2 ≡ take n.running (block_words g.daram)
  running_is = rw (f.scratch, at_start, f.space, f.running) refl

  none_is : record_words rs own shared g 3 ≡ []
  none_is = rw (blank_at rs 3 (let e = f.three in omega arith)) refl

  pub filter_lent : active_words rs own shared g ≡ filter_words n (piece_words own.p0) (piece_words own.p1) (block_words g.daram)
  filter_lent = rw (object_is, kept_is, running_is, none_is) refl

  -- where each record has its words, they stand in the pieces and in the block
  pub filter_fits : HasWords rs own shared g → FilterFits n own g.daram
  filter_fits has = record {
    object = take_fits n.object (piece_words own.p0) (ap length (sym object_is) ∙ has 0 ∙ f.object);
    kept = take_fits n.kept (piece_words own.p1) (ap length (sym kept_is) ∙ has 1 ∙ f.kept);
    running = take_fits n.running (block_words g.daram) (ap length (sym running_is) ∙ has 2 ∙ f.running);
  }

  -- where each record begins

  pub object_begins : record_place rs own shared g 0 ≡ piece_place own.p0
  object_begins = rw (object_attr rs t) refl

  pub kept_begins : record_place rs own shared g 1 ≡ piece_place own.p1
  kept_begins = rw f.persistent refl

  pub running_begins : record_place rs own shared g 2 ≡ piece_place (block_piece g.daram) + 0
  running_begins = rw (f.scratch, at_start, f.space) refl

  -- where each record has its words, there are some in its piece and in the block

  pub some_kept : HasWords rs own shared g → 1 ≤ length (piece_words own.p1)
  some_kept has =
      some_there n.kept (record_at rs 1).size (piece_words own.p1) (record_words rs own shared g 1)
      kept_is (has 1) f.kept f.some.1

  pub some_running : HasWords rs own shared g → 1 ≤ length (block_words g.daram)
  some_running has =
      some_there n.running (record_at rs 2).size (block_words g.daram) (record_words rs own shared g 2)
      running_is (has 2) f.running f.some.2

module _ (rs : List MemRec) (n : FilterSizes) (t : IsTrue (is_table rs)) (f : IsOfFilter rs n) (own shared : Pieces) where
  object_at_rest : idle_record_words rs own shared 0 ≡ take n.object (piece_words own.p0)
  object_at_rest = rw (object_attr rs t, f.object) refl

  kept_at_rest : idle_record_words rs own shared 1 ≡ take n.kept (piece_words own.p1)
  kept_at_rest = rw (f.persistent, f.kept) refl

  running_at_rest : idle_record_words rs own shared 2 ≡ []
  running_at_rest = rw f.scratch refl

  none_at_rest : idle_record_words rs own shared 3 ≡ []
  none_at_rest = rw (blank_at rs 3 (let e = f.three in omega arith)) refl

  -- the scratch record isn't lent to an idle one
  pub filter_at_rest : idle_words rs own shared ≡ take n.object (piece_words own.p0) ∷ take n.kept (piece_words own.p1) ∷ [] ∷ [] ∷ []
  filter_at_rest = rw (object_at_rest, kept_at_rest, running_at_rest, none_at_rest) refl

  -- where each record that lasts has its words, they stand in the pieces
  pub filter_fits_at_rest : HasPieces rs own shared → (n.object ≤ length (piece_words own.p0)) × (n.kept ≤ length (piece_words own.p1))
  filter_fits_at_rest has = (
    take_fits n.object (piece_words own.p0) (ap length (sym object_at_rest) ∙ has 0 ∙ rw (object_attr rs t) f.object),
    take_fits n.kept (piece_words own.p1) (ap length (sym kept_at_rest) ∙ has 1 ∙ rw f.persistent f.kept),
  )

-- its sizes are those of its records
pub filter_sizes_of : (rs : List MemRec) (n : FilterSizes) → IsOfFilter rs n → IsOfFilter rs (filter_sizes_in rs)
filter_sizes_of rs n f = record {
  three = f.three;
  some = rw (f.object, f.kept, f.running) f.some;
  object = refl;
  persistent = f.persistent;
  kept = refl;
  scratch = f.scratch;
  space = f.space;
  running = refl;
}

-- and it stays a filter's table wherever its records are placed
module _ (rs : List MemRec) (n : FilterSizes) (f : IsOfFilter rs n) (base : ℕ → ℕ) where
  at_base : (k : ℕ) → k < 3 → record_at (with_bases rs base) k ≡ record (record_at rs k) { base = base k }
  at_base k h = record_at-with_bases rs base k (let e = f.three in omega (arith, h, e))

  size_at_base : (k : ℕ) → k < 3 → (record_at (with_bases rs base) k).size ≡ (record_at rs k).size
  size_at_base k h = ap (λ (r : MemRec). r.size) (at_base k h)

  attr_at_base : (k : ℕ) → k < 3 → (record_at (with_bases rs base) k).attr ≡ (record_at rs k).attr
  attr_at_base k h = ap (λ (r : MemRec). r.attr) (at_base k h)

  at_bases : IsOfFilter (with_bases rs base) n
  at_bases = record {
    three = length-with_bases rs base ∙ f.three;
    some = f.some;
    object = size_at_base 0 (omega arith) ∙ f.object;
    persistent = attr_at_base 1 (omega arith) ∙ f.persistent;
    kept = size_at_base 1 (omega arith) ∙ f.kept;
    scratch = attr_at_base 2 (omega arith) ∙ f.scratch;
    space = ap (λ (r : MemRec). r.space) (at_base 2 (omega arith)) ∙ f.space;
    running = size_at_base 2 (omega arith) ∙ f.running;
  }

pub filter_at_bases : (rs ts : List MemRec) (n : FilterSizes) (base : ℕ → ℕ) → ts ≡ with_bases rs base → IsOfFilter rs n → IsOfFilter ts n
filter_at_bases rs ts n base e f = rw e (at_bases rs n f base)

-- no record of it is write-once
pub none_once_of : (rs : List MemRec) (n : FilterSizes) → IsTrue (is_table rs) → IsOfFilter rs n → (k : ℕ) → (record_at rs k).attr ≡ WriteOnce → ⊥
none_once_of rs n t f zero attr = persistent_once (sym (object_attr rs t) ∙ attr)
none_once_of rs n t f (suc zero) attr = persistent_once (sym f.persistent ∙ attr)
none_once_of rs n t f (suc (suc zero)) attr = scratch_once (sym f.scratch ∙ attr)
none_once_of rs n t f (suc (suc (suc k))) attr = blank_once rs (suc (suc (suc k))) (let e = f.three in omega (arith, e)) attr
