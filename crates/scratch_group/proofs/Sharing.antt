-- What is lent to a filter that shares its constants is each record's words.
use Rattle.std.proofs.Common.{◌≡◌, ℕ, ◌+◌, ◌<◌, ◌≤◌, IsTrue, List, [], ◌∷◌, length, take, refl, ap, sym, ◌∙◌, arith}
use Rattle.std.specs.Int.{next_multiple_of}
use Rattle.mem_rec.specs.declared.MemRec.{MemRec}
use Rattle.mem_rec.specs.declared.Space.TheVariants.{Daram}
use Rattle.mem_rec.specs.Records.{is_table}
use Rattle.ialg.specs.Records.{record_at}
use Rattle.ialg.proofs.Tables.{object_attr}
use Rattle.record_loans.specs.declared.plan.SharingSizes.{SharingSizes}
use Rattle.record_loans.specs.Cuts.{sharing_words}
use Rattle.record_loans.specs.declared.pieces.Pieces.{Pieces}
use Rattle.record_loans.specs.Pieces.{piece_words, piece_place}
use Rattle.record_loans.specs.Blocks.{block_piece, block_words}
use Rattle.record_loans.specs.Loans.{SharingFits}
use Rattle.scratch_group.specs.declared.group.Group.{Group}
use Rattle.scratch_group.specs.Words.{HasPieces, scratch_end, scratch_offset, record_words, active_words, idle_record_words, idle_words}
use Rattle.scratch_group.specs.Words.{record_place, with_bases, HasWords}
use Rattle.scratch_group.specs.Sharing.{sharing_sizes_in, IsOfSharingFilter}
use Rattle.scratch_group.proofs.Ends.{next_end, scratch_end-suc}
use Rattle.scratch_group.proofs.Cutting.{take_fits, first_end, object_words}
use Rattle.scratch_group.proofs.Filters.{none_at_0, some_there}
use Rattle.scratch_group.proofs.Tables.{length-with_bases, record_at-with_bases}

module _ (rs : List MemRec) (n : SharingSizes) (t : IsTrue (is_table rs)) (f : IsOfSharingFilter rs n) (own shared : Pieces) (g : Group) where
  second_end : scratch_end rs 2 Daram ≡ 0
  second_end =
      scratch_end-suc rs 1 Daram
      ∙ ap (λ a. next_end a (record_at rs 1).space (record_at rs 1).size (record_at rs 1).align Daram (scratch_end rs 1 Daram)) f.persistent
      ∙ first_end rs Daram t

  third_end : scratch_end rs 3 Daram ≡ 0
  third_end =
      scratch_end-suc rs 2 Daram
      ∙ ap (λ a. next_end a (record_at rs 2).space (record_at rs 2).size (record_at rs 2).align Daram (scratch_end rs 2 Daram)) f.shared
      ∙ second_end

  at_start : scratch_offset rs 3 ≡ 0
  at_start = ap (λ space. next_multiple_of (scratch_end rs 3 space) (record_at rs 3).align) f.space
      ∙ ap (λ e. next_multiple_of e (record_at rs 3).align) third_end ∙ none_at_0 (record_at rs 3).align

  object_is : record_words rs own shared g 0 ≡ take n.object (piece_words own.p0)
  object_is = sym (object_words rs own shared g t) ∙ ap (λ k. take k (piece_words own.p0)) f.object

  kept_is : record_words rs own shared g 1 ≡ take n.kept (piece_words own.p1)
  kept_is = rw (f.persistent, f.kept) refl

  constants_is : record_words rs own shared g 2 ≡ take n.constants (piece_words shared.p2)
  constants_is = rw (f.shared, f.constants) refl

  running_is : record_words rs own shared g 3 ≡ take n.running (block_words g.daram)
  running_is = rw (f.scratch, at_start, f.space, f.running) refl

  pub sharing_lent : active_words rs own shared g ≡ sharing_words n (piece_words own.p0) (piece_words own.p1) (piece_words shared.p2) (block_words g.daram)
  sharing_lent = rw (object_is, kept_is, constants_is, running_is) refl

  -- where each record has its words, they stand in the pieces and in the block
  pub sharing_fits : HasWords rs own shared g → SharingFits n own shared.p2 g.daram
  sharing_fits has = record {
    object = take_fits n.object (piece_words own.p0) (ap length (sym object_is) ∙ has 0 ∙ f.object);
    kept = take_fits n.kept (piece_words own.p1) (ap length (sym kept_is) ∙ has 1 ∙ f.kept);
    constants = take_fits n.constants (piece_words shared.p2) (ap length (sym constants_is) ∙ has 2 ∙ f.constants);
    running = take_fits n.running (block_words g.daram) (ap length (sym running_is) ∙ has 3 ∙ f.running);
  }

  -- where each record begins

  pub object_begins : record_place rs own shared g 0 ≡ piece_place own.p0
  object_begins = rw (object_attr rs t) refl

  pub kept_begins : record_place rs own shared g 1 ≡ piece_place own.p1
  kept_begins = rw f.persistent refl

  pub constants_begin : record_place rs own shared g 2 ≡ piece_place shared.p2
  constants_begin = rw f.shared refl

  pub running_begins : record_place rs own shared g 3 ≡ piece_place (block_piece g.daram) + 0
  running_begins = rw (f.scratch, at_start, f.space) refl

  -- where each record has its words, there are some in each piece and in the block

  pub some_kept : HasWords rs own shared g → 1 ≤ length (piece_words own.p1)
  some_kept has =
      some_there n.kept (record_at rs 1).size (piece_words own.p1) (record_words rs own shared g 1)
      kept_is (has 1) f.kept f.some.1

  pub some_constants : HasWords rs own shared g → 1 ≤ length (piece_words shared.p2)
  some_constants has =
      some_there n.constants (record_at rs 2).size (piece_words shared.p2) (record_words rs own shared g 2)
      constants_is (has 2) f.constants f.some.2

  pub some_running : HasWords rs own shared g → 1 ≤ length (block_words g.daram)
  some_running has =
      some_there n.running (record_at rs 3).size (block_words g.daram) (record_words rs own shared g 3)
      running_is (has 3) f.running f.some.3

module _ (rs : List MemRec) (n : SharingSizes) (t : IsTrue (is_table rs)) (f : IsOfSharingFilter rs n) (own shared : Pieces) where
  object_at_rest : idle_record_words rs own shared 0 ≡ take n.object (piece_words own.p0)
  object_at_rest = rw (object_attr rs t, f.object) refl

  kept_at_rest : idle_record_words rs own shared 1 ≡ take n.kept (piece_words own.p1)
  kept_at_rest = rw (f.persistent, f.kept) refl

  constants_at_rest : idle_record_words rs own shared 2 ≡ take n.constants (piece_words shared.p2)
  constants_at_rest = rw (f.shared, f.constants) refl

  running_at_rest : idle_record_words rs own shared 3 ≡ []
  running_at_rest = rw f.scratch refl

  -- the scratch record isn't lent to an idle one
  pub sharing_at_rest : idle_words rs own shared
      ≡ take n.object (piece_words own.p0) ∷ take n.kept (piece_words own.p1) ∷ take n.constants (piece_words shared.p2) ∷ [] ∷ []
  sharing_at_rest = rw (object_at_rest, kept_at_rest, constants_at_rest, running_at_rest) refl

  -- where each record that lasts has its words, they stand in the pieces
  pub sharing_fits_at_rest : HasPieces rs own shared
      → (n.object ≤ length (piece_words own.p0)) × (n.kept ≤ length (piece_words own.p1)) × (n.constants ≤ length (piece_words shared.p2))
  sharing_fits_at_rest has = (
    take_fits n.object (piece_words own.p0) (ap length (sym object_at_rest) ∙ has 0 ∙ rw (object_attr rs t) f.object),
    take_fits n.kept (piece_words own.p1) (ap length (sym kept_at_rest) ∙ has 1 ∙ rw f.persistent f.kept),
    take_fits n.constants (piece_words shared.p2) (ap length (sym constants_at_rest) ∙ has 2 ∙ rw f.shared f.constants),
  )

-- its sizes are those of its records
pub sizes_of : (rs : List MemRec) (n : SharingSizes) → IsOfSharingFilter rs n → IsOfSharingFilter rs (sharing_sizes_in rs)
sizes_of rs n f = record {
  four = f.four;
  some = rw (f.object, f.kept, f.constants, f.running) f.some;
  object = refl;
  persistent = f.persistent;
  kept = refl;
  shared = f.shared;
  constants = refl;
  scratch = f.scratch;
  space = f.space;
  running = refl;
}

-- and it stays such a filter's table wherever its records are placed
module _ (rs : List MemRec) (n : SharingSizes) (f : IsOfSharingFilter rs n) (base : ℕ → ℕ) where
  at_base : (k : ℕ) → k < 4 → record_at (with_bases rs base) k ≡ record (record_at rs k) { base = base k }
  at_base k h = record_at-with_bases rs base k (let e = f.four in omega (arith, h, e))

  size_at_base : (k : ℕ) → k < 4 → (record_at (with_bases rs base) k).size ≡ (record_at rs k).size
  size_at_base k h = ap (λ (r : MemRec). r.size) (at_base k h)

  attr_at_base : (k : ℕ) → k < 4 → (record_at (with_bases rs base) k).attr ≡ (record_at rs k).attr
  attr_at_base k h = ap (λ (r : MemRec). r.attr) (at_base k h)

  at_bases : IsOfSharingFilter (with_bases rs base) n
  at_bases = record {
    four = length-with_bases rs base ∙ f.four;
    some = f.some;
    object = size_at_base 0 (omega arith) ∙ f.object;
    persistent = attr_at_base 1 (omega arith) ∙ f.persistent;
    kept = size_at_base 1 (omega arith) ∙ f.kept;
    shared = attr_at_base 2 (omega arith) ∙ f.shared;
    constants = size_at_base 2 (omega arith) ∙ f.constants;
    scratch = attr_at_base 3 (omega arith) ∙ f.scratch;
    space = ap (λ (r : MemRec). r.space) (at_base 3 (omega arith)) ∙ f.space;
    running = size_at_base 3 (omega arith) ∙ f.running;
  }

pub sharing_at_bases : (rs ts : List MemRec) (n : SharingSizes) (base : ℕ → ℕ) → ts ≡ with_bases rs base → IsOfSharingFilter rs n → IsOfSharingFilter ts n
sharing_at_bases rs ts n base e f = rw e (at_bases rs n f base)
