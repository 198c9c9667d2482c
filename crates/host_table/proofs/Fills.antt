-- Lawful instances that share a record have the same words in it: those that their kind and parameters determine.
use Rattle.std.proofs.Common.{◌≡◌, ℕ, zero, suc, ℤ, ◌<◌, List, take, drop, Option, refl, sym, ◌∙◌, arith}
use Rattle.mem_rec.specs.declared.MemRec.{MemRec}
use Rattle.mem_rec.specs.declared.Attr.{Attr}
use Rattle.mem_rec.specs.declared.Attr.TheVariants.{WriteOnce}
use Rattle.ialg.specs.Log.{Log}
use Rattle.ialg.specs.Records.{record_at, words_of, HoldFill}
use Rattle.ialg.specs.Laws.{Laws, Relation}
use Rattle.record_loans.specs.declared.pieces.Pieces.{Pieces}
use Rattle.record_loans.specs.Pieces.{piece_at, piece_words}
use Rattle.record_loans.specs.Blocks.{block_words}
use Rattle.scratch_group.specs.declared.group.Group.{Group}
use Rattle.scratch_group.specs.Blocks.{block_in}
use Rattle.scratch_group.specs.Words.{words_by, active_words, lasting_words_by, idle_record_words, idle_words, scratch_offset}
use Rattle.lifecycle.specs.declared.instance.Inst.{Inst}
use Rattle.lifecycle.specs.declared.instance.Inst.TheVariants.{Idling, Running}
use Rattle.lifecycle.specs.States.{IsLawful}
use Rattle.host_table.specs.Table.{instance_of}
use Rattle.host_table.specs.Refinement.{InstRefines}
use Rattle.host_table.proofs.Shared.{words_at}

pub idle_words_at : (rs : List MemRec) (own shared : Pieces) (k : ℕ) → k < 4 → words_of (idle_words rs own shared) k ≡ idle_record_words rs own shared k
idle_words_at rs own shared zero h = refl
idle_words_at rs own shared (suc zero) h = refl
idle_words_at rs own shared (suc (suc zero)) h = refl
idle_words_at rs own shared (suc (suc (suc zero))) h = refl
idle_words_at rs own shared (suc (suc (suc (suc k)))) h = absurd (omega (arith, h))

lasting_once : (a : Attr) (n : ℕ) (own shared : List ℤ) → a ≡ WriteOnce → lasting_words_by a n own shared ≡ take n shared
lasting_once a n own shared attr = rw attr refl

words_once : (a : Attr) (n : ℕ) (own shared block : List ℤ) → a ≡ WriteOnce → words_by a n own shared block ≡ take n shared
words_once a n own shared block attr = rw attr refl

pub idle_once : (rs : List MemRec) (own shared : Pieces) (k : ℕ) → k < 4 → (record_at rs k).attr ≡ WriteOnce → words_of (idle_words rs own shared) k ≡ take (record_at rs k).size (piece_words (piece_at shared k))
idle_once rs own shared k below attr = idle_words_at rs own shared k below ∙ lasting_once (record_at rs k).attr (record_at rs k).size (piece_words (piece_at own k)) (piece_words (piece_at shared k)) attr

active_once : (rs : List MemRec) (own shared : Pieces) (g : Group) (k : ℕ) → k < 4 → (record_at rs k).attr ≡ WriteOnce
    → words_of (active_words rs own shared g) k ≡ take (record_at rs k).size (piece_words (piece_at shared k))
active_once rs own shared g k below attr =
    words_at rs own shared g k below
    ∙ words_once (record_at rs k).attr (record_at rs k).size (piece_words (piece_at own k)) (piece_words (piece_at shared k)) (drop (scratch_offset rs k) (block_words (block_in g (record_at rs k).space))) attr

-- what each instance that keeps a history has in its write-once records
abbrev pub Fills : {M : Type 0} → (M → List ℤ → ℕ → List ℤ) → Relation M → Type 0
Fills {M = M} fill keeps = (kind : M) (p : List ℤ) (rs : List MemRec) (wss : List (List ℤ)) (h : Log) → keeps kind p rs wss h → HoldFill (fill kind p) rs wss

module _ {M : Type 0} (laws : Laws M) (idle_fill : Fills laws.fill laws.idle_refines) (active_fill : Fills laws.fill laws.active_refines) (w : Option ℤ) where
  pub fill_seen : (inst : Inst M) (shared : Pieces) (g : Group) (h : Log) → InstRefines laws w inst shared g h → IsLawful laws.meaning (instance_of inst) w
      → (k : ℕ) → k < 4 → (record_at (instance_of inst).table k).attr ≡ WriteOnce
      → take (record_at (instance_of inst).table k).size (piece_words (piece_at shared k)) ≡ laws.fill (instance_of inst).kind (instance_of inst).params.items k
  fill_seen (Idling s) shared g h keeps lawful k below attr =
      let i = s.instance in
      sym (idle_once i.table i.own shared k below attr) ∙ idle_fill i.kind i.params.items i.table (idle_words i.table i.own shared) h (keeps lawful) k attr
  fill_seen (Running s) shared g h keeps lawful k below attr =
      let i = s.instance in
      sym (active_once i.table i.own shared g k below attr) ∙ active_fill i.kind i.params.items i.table (active_words i.table i.own shared g) h (keeps lawful) k attr
