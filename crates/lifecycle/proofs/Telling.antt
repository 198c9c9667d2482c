-- What an instance gives for a sample, told by the words of its records alone.
use Rattle.std.proofs.Common.{◌≡◌, ℤ, List, [], ◌∷◌, take, Option, Some, None, sym, subst}
use Rattle.std.specs.Prelude.{IfSome}
use Rattle.space_raw.specs.Span.{Span}
use Rattle.ialg.specs.Calls.{TellsOutput as TheKindTells}
use Rattle.ialg.specs.Log.{Log, fed}
use Rattle.ialg.specs.Laws.{Laws}
use Rattle.ialg.specs.Records.{AllLent}
use Rattle.record_loans.specs.declared.plan.ReaderSizes.{ReaderSizes}
use Rattle.record_loans.specs.Pieces.{only_second, piece_words}
use Rattle.scratch_group.specs.declared.group.Group.{Group}
use Rattle.scratch_group.specs.Readers.{IsReader}
use Rattle.scratch_group.specs.Words.{active_words}
use Rattle.scratch_group.proofs.Readers.{reader_lent}
use Rattle.lifecycle.specs.declared.instance.Instance.{Instance}
use Rattle.lifecycle.specs.Keeping.{TellsOutput}
use Rattle.lifecycle.specs.States.{FitsIn, IsLawful, ActiveRefines}

module _ {M : Type 0} (laws : Laws M) (s : Instance M) (n : ReaderSizes) (reader : IsReader s.table n) (once : Option Span) (object words : List ℤ)
    (is_object : object ≡ take n.object (piece_words s.own.p0)) (is_words : words ≡ take n.once (piece_words once)) where
  lent : (g : Group) → active_words s.table s.own (only_second once) g ≡ object ∷ words ∷ [] ∷ [] ∷ []
  lent g = rw (is_object, is_words) (reader_lent s.table n reader.table reader.sizes s.own (only_second once) g)

  all_lent : (g : Group) → FitsIn s (only_second once) g → AllLent s.table (object ∷ words ∷ [] ∷ [] ∷ [])
  all_lent g fits = subst (AllLent s.table) (lent g) fits.lent

  kept : (g : Group) (w : Option ℤ) (l : Log) → IsLawful laws.meaning s w → ActiveRefines laws s w (only_second once) g l
      → laws.active_refines s.kind s.params.items s.table (object ∷ words ∷ [] ∷ [] ∷ []) l
  kept g w l lawful before = subst (λ (wss : List (List ℤ)). laws.active_refines s.kind s.params.items s.table wss l) (lent g) (before lawful)

  -- what the kind tells by these words, the instance gives
  pub told_by_words : (x : ℤ) (told : Option ℤ) → IfSome told (TheKindTells laws s.kind (object ∷ words ∷ [] ∷ [] ∷ []) x)
      → IfSome told (TellsOutput laws s (only_second once) x)
  told_by_words x None law = tt
  told_by_words x (Some y) law = record {
    keeps = λ g fits w l before lawful.
        subst (λ (wss : List (List ℤ)). laws.active_refines s.kind s.params.items s.table wss (fed l (x ∷ []))) (sym (lent g))
        (law s.params.items w l s.table lawful (all_lent g fits) (kept g w l lawful before)).0;
    output = λ g fits w l lawful before. (law s.params.items w l s.table lawful (all_lent g fits) (kept g w l lawful before)).1;
  }
