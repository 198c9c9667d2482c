-- What is kept from one state to the next.
use Rattle.std.proofs.Common.{◌≡◌, ℤ, true, false, IsTrue, refl, List, [], ◌++◌, Option, Some, sym, subst, ◌∙◌}
use Rattle.mem_rec.specs.declared.MemRec.{MemRec}
use Rattle.ialg.specs.History.{with_samples}
use Rattle.ialg.specs.Log.{Log, begun, called, fed, Activate, Deactivate}
use Rattle.ialg.specs.Log as log
use Rattle.ialg.specs.Meaning.{outputs_of}
use Rattle.ialg.specs.Records.{unplaced, AreNew}
use Rattle.ialg.specs.Laws.{Laws}
use Rattle.scratch_group.specs.declared.group.Group.{Group}
use Rattle.record_loans.specs.declared.pieces.Pieces.{Pieces}
use Rattle.scratch_group.specs.Blocks.{BlocksArePoison}
use Rattle.scratch_group.specs.Words.{active_words, idle_words}
use Rattle.lifecycle.specs.Laws.{Started, Activated, ActivatedAndRan, Deactivated, Moved, Freed}
use Rattle.lifecycle.specs.States.{Fits}
use Rattle.lifecycle.proofs.Words.{lasting_active, lasting_idle, lasting_lent, scratch_is_poison, active_words-same, idle_words-same}

module _ {M : Type 0} (laws : Laws M) (kind : M) (rs : List MemRec) where
  pub started : (own own' shared shared' : Pieces) (g : Group) (p : List ℤ) → Fits rs own shared g
      → Started laws kind p rs true (idle_words rs own shared) (idle_words rs own' shared')
      → (w : Option ℤ) → IsTrue (laws.meaning.lawful kind p w) → laws.meaning.table kind p ≡ Some (unplaced rs) → AreNew w (laws.fill kind p) rs (idle_words rs own shared)
      → laws.idle_refines kind p rs (idle_words rs own' shared') begun
  started own own' shared shared' g p f done w lawful is new =
      subst (λ (wss : List (List ℤ)). laws.idle_refines kind p rs wss begun) (lasting_idle rs own' shared')
      (done w lawful is (lasting_lent rs own shared g f.lent) refl new)

  pub activated_keeps : (own own' shared shared' : Pieces) (g g' : Group) → Fits rs own shared g
      → Activated laws kind rs false (active_words rs own shared g) (active_words rs own' shared' g')
      → (p : List ℤ) (w : Option ℤ) (l : Log) → IsTrue (laws.meaning.lawful kind p w) → BlocksArePoison w g
      → laws.idle_refines kind p rs (idle_words rs own shared) l → laws.active_refines kind p rs (active_words rs own' shared' g') (called Activate l)
  activated_keeps own own' shared shared' g g' f done p w l lawful poison keeps =
      done p w l lawful refl f.lent (scratch_is_poison w rs own shared g poison)
      (subst (λ (wss : List (List ℤ)). laws.idle_refines kind p rs wss l) (sym (lasting_active rs own shared g)) keeps)

  pub activated_and_ran_keeps : (own own' shared shared' : Pieces) (g g' : Group) (input out : List ℤ) → Fits rs own shared g
      → ActivatedAndRan laws kind input rs false (active_words rs own shared g) (active_words rs own' shared' g') out
      → (p : List ℤ) (w : Option ℤ) (l : Log) → IsTrue (laws.meaning.lawful kind p w) → BlocksArePoison w g
      → laws.idle_refines kind p rs (idle_words rs own shared) l
      → laws.active_refines kind p rs (active_words rs own' shared' g') (fed (called Activate l) input) × (outputs_of laws.meaning kind p (with_samples l.history input) ≡ outputs_of laws.meaning kind p l.history ++ out)
  activated_and_ran_keeps own own' shared shared' g g' input out f done p w l lawful poison keeps =
      done p w l lawful refl f.lent (scratch_is_poison w rs own shared g poison)
      (subst (λ (wss : List (List ℤ)). laws.idle_refines kind p rs wss l) (sym (lasting_active rs own shared g)) keeps)

  pub deactivated_keeps : (own own' shared shared' : Pieces) (g g' : Group) → Fits rs own shared g
      → Deactivated laws kind rs false (active_words rs own shared g) (active_words rs own' shared' g')
      → (p : List ℤ) (w : Option ℤ) (l : Log) → IsTrue (laws.meaning.lawful kind p w)
      → laws.active_refines kind p rs (active_words rs own shared g) l → laws.idle_refines kind p rs (idle_words rs own' shared') (called Deactivate l)
  deactivated_keeps own own' shared shared' g g' f done p w l lawful keeps =
      subst (λ (wss : List (List ℤ)). laws.idle_refines kind p rs wss (called Deactivate l)) (lasting_active rs own' shared' g') (done p w l lawful refl f.lent keeps)

  pub idle_moved : (before : List MemRec) (own own' shared shared' : Pieces) (g : Group) → unplaced before ≡ unplaced rs → Fits rs own shared g
      → Moved laws kind rs false (idle_words rs own shared) (idle_words rs own' shared')
      → (p : List ℤ) (w : Option ℤ) (l : Log) → IsTrue (laws.meaning.lawful kind p w)
      → laws.idle_refines kind p before (idle_words before own shared) l → laws.idle_refines kind p rs (idle_words rs own' shared') (called log.Moved l)
  idle_moved before own own' shared shared' g same f done p w l lawful keeps =
      subst (λ (wss : List (List ℤ)). laws.idle_refines kind p rs wss (called log.Moved l)) (lasting_idle rs own' shared')
      (done.idle p w l before lawful same refl (lasting_lent rs own shared g f.lent)
      (subst (λ (wss : List (List ℤ)). laws.idle_refines kind p before wss l) (idle_words-same rs before own shared same ∙ sym (lasting_idle rs own shared)) keeps))

  pub active_moved : (before : List MemRec) (own own' shared shared' : Pieces) (g g' : Group) → unplaced before ≡ unplaced rs → Fits rs own shared g
      → Moved laws kind rs false (active_words rs own shared g) (active_words rs own' shared' g')
      → (p : List ℤ) (w : Option ℤ) (l : Log) → IsTrue (laws.meaning.lawful kind p w)
      → laws.active_refines kind p before (active_words before own shared g) l → laws.active_refines kind p rs (active_words rs own' shared' g') (called log.Moved l)
  active_moved before own own' shared shared' g g' same f done p w l lawful keeps =
      done.active p w l before lawful same refl f.lent
      (subst (λ (wss : List (List ℤ)). laws.active_refines kind p before wss l) (active_words-same rs before own shared g same) keeps)

  pub freed : (own shared : Pieces) (g : Group) (answer : List MemRec) → Fits rs own shared g
      → Freed laws kind rs false (idle_words rs own shared) answer
      → (p : List ℤ) (w : Option ℤ) (l : Log) → IsTrue (laws.meaning.lawful kind p w)
      → laws.idle_refines kind p rs (idle_words rs own shared) l → answer ≡ rs
  freed own shared g answer f done p w l lawful keeps =
      done p w l lawful refl (lasting_lent rs own shared g f.lent)
      (subst (λ (wss : List (List ℤ)). laws.idle_refines kind p rs wss l) (sym (lasting_idle rs own shared)) keeps)
