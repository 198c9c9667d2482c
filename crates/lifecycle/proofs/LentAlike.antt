-- An instance is lent the same words by the pieces that its table has to do with as by all that it shares.
use Rattle.std.proofs.Common.{◌≡◌, ℤ, List, length, Option, refl, sym, subst}
use Rattle.space_raw.specs.Span.{Span}
use Rattle.mem_rec.specs.declared.MemRec.{MemRec}
use Rattle.ialg.specs.Records.{idle_size, record_at, words_of}
use Rattle.record_loans.specs.declared.pieces.Pieces.{Pieces}
use Rattle.record_loans.specs.Pieces.{only_second, only_third}
use Rattle.record_loans.specs.declared.plan.FilterSizes.{FilterSizes}
use Rattle.record_loans.specs.declared.plan.ReaderSizes.{ReaderSizes}
use Rattle.record_loans.specs.declared.plan.SharingSizes.{SharingSizes}
use Rattle.scratch_group.specs.declared.group.Group.{Group}
use Rattle.scratch_group.specs.Filters.{IsFilter}
use Rattle.scratch_group.specs.Readers.{IsReader}
use Rattle.scratch_group.specs.Sharing.{IsSharingFilter}
use Rattle.scratch_group.specs.Words.{active_words, idle_words, HasPieces, HasWords}
use Rattle.scratch_group.proofs.Filters.{none_once_of}
use Rattle.scratch_group.proofs.Readers.{once_second}
use Rattle.scratch_group.proofs.Thirds.{once_third}
use Rattle.lifecycle.specs.States.{SameOnce}
use Rattle.lifecycle.proofs.Written.{active_written, idle_written}

-- a filter has no write-once record
pub filter_alike : (rs : List MemRec) (n : FilterSizes) → IsFilter rs n → (a b : Pieces) → SameOnce rs a b
filter_alike rs n is a b k attr = absurd (none_once_of rs n is.table is.sizes k attr)

-- a reader has at most the second one
pub reader_alike : (rs : List MemRec) (n : ReaderSizes) → IsReader rs n → (a : Pieces) (once : Option Span) → once ≡ a.p1 → SameOnce rs a (only_second once)
reader_alike rs n is a once same k attr = rw (once_second rs n is.table is.sizes k attr, same) refl

-- a filter that shares its constants has the third one alone
pub sharing_alike : (rs : List MemRec) (n : SharingSizes) → IsSharingFilter rs n → (a : Pieces) (once : Option Span) → once ≡ a.p2 → SameOnce rs a (only_third once)
sharing_alike rs n is a once same k attr = rw (once_third rs n is.table is.sizes k attr, same) refl

pub planned_alike : (rs : List MemRec) (a b : Pieces) → b ≡ a → SameOnce rs a b
planned_alike rs a b same k attr = rw same refl

-- `ts` is the table, as it was read
module _ (rs ts : List MemRec) (read : ts ≡ rs) where
  pub words_alike : (own a b : Pieces) (g : Group) → SameOnce rs a b → HasWords rs own a g → HasWords ts own b g
  words_alike own a b g same has =
      subst (λ (xs : List MemRec). HasWords xs own b g) (sym read)
      (λ k. subst (λ (wss : List (List ℤ)). length (words_of wss k) ≡ (record_at rs k).size) (sym (active_written rs own a b g same)) (has k))

  pub pieces_alike : (own a b : Pieces) → SameOnce rs a b → HasPieces rs own a → HasPieces ts own b
  pieces_alike own a b same has =
      subst (λ (xs : List MemRec). HasPieces xs own b) (sym read)
      (λ k. subst (λ (wss : List (List ℤ)). length (words_of wss k) ≡ idle_size (record_at rs k).attr (record_at rs k).size) (sym (idle_written rs own a b same)) (has k))

  -- what a step did by these pieces, it did by all
  pub active_done : (did : List MemRec → List (List ℤ) → List (List ℤ) → Type 0) (own own' a a' b b' : Pieces) (g g' : Group) → SameOnce rs a b → SameOnce rs a' b'
      → did ts (active_words ts own b g) (active_words ts own' b' g') → did rs (active_words rs own a g) (active_words rs own' a' g')
  active_done did own own' a a' b b' g g' before after done =
      subst (λ (wss : List (List ℤ)). did rs wss (active_words rs own' a' g')) (active_written rs own a b g before)
      (subst (λ (wss : List (List ℤ)). did rs (active_words rs own b g) wss) (active_written rs own' a' b' g' after)
      (subst (λ (xs : List MemRec). did xs (active_words xs own b g) (active_words xs own' b' g')) read done))

  pub idle_done : (did : List MemRec → List (List ℤ) → List (List ℤ) → Type 0) (own own' a a' b b' : Pieces) → SameOnce rs a b → SameOnce rs a' b'
      → did ts (idle_words ts own b) (idle_words ts own' b') → did rs (idle_words rs own a) (idle_words rs own' a')
  idle_done did own own' a a' b b' before after done =
      subst (λ (wss : List (List ℤ)). did rs wss (idle_words rs own' a')) (idle_written rs own a b before)
      (subst (λ (wss : List (List ℤ)). did rs (idle_words rs own b) wss) (idle_written rs own' a' b' after)
      (subst (λ (xs : List MemRec). did xs (idle_words xs own b) (idle_words xs own' b')) read done))
