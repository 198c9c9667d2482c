-- What each call of a kind does where the kind is lawful (SPRU360, IALG): in a host of the poison word w, or of none, and for every log l.
use Rattle.std.specs.Prelude.{ℕ, ℤ, ◌≡◌, ◌≤◌, Bool, true, false, IsTrue, List, [], ◌∷◌, ◌++◌, length, Option, Some, IfSome}
use Rattle.mem_rec.specs.declared.MemRec.{MemRec}
use Rattle.ialg.specs.declared.control.Ctl.{Ctl}
use Rattle.ialg.specs.declared.control.Status.{Status}
use Rattle.ialg.specs.declared.control.Entry.{Entry}
use Rattle.ialg.specs.declared.memory.Lent.{Lent}
use Rattle.ialg.specs.History.{with_samples}
use Rattle.ialg.specs.Log.{Log, begun, called, fed, commanded, given_entry, Activate, Deactivate, Moved}
use Rattle.ialg.specs.Meaning.{Meaning, outputs_of, status_of, takes, reply_of}
use Rattle.ialg.specs.Views.{control_of, answer_of, entry_of}
use Rattle.ialg.specs.Laws.{Laws}
use Rattle.ialg.specs.Records.{AllLent, LastingLent, lasting, unplaced, AreNew, ScratchIsPoison}
use Rattle.ialg.specs.Loans.{lent_words}

-- ---- what a kind says of an instance with the parameters p, before there is one

module _ {M : Type 0} (laws : Laws M) (kind : M) where
  -- algNumAlloc: it tells the most records that a table of the kind has
  abbrev pub TellsItsBound : ℕ → Type 0
  TellsItsBound told = (p : List ℤ) (w : Option ℤ) → IsTrue (laws.meaning.lawful kind p w) → told ≡ laws.bound kind

  -- algAlloc: it asks for no more records than algNumAlloc tells
  abbrev pub AsksWithinItsBound : List ℤ → Option (List MemRec) → Type 0
  AsksWithinItsBound p asked = (w : Option ℤ) → IsTrue (laws.meaning.lawful kind p w) → IfSome asked (λ t. length t ≤ laws.bound kind)

module _ {M : Type 0} (kinds : Meaning M) (kind : M) where
  -- algAlloc: it asks for the table of its meaning, or refuses the parameters as its meaning says
  abbrev pub AsksForItsTable : List ℤ → Option (List MemRec) → Type 0
  AsksForItsTable p asked = (w : Option ℤ) → IsTrue (kinds.lawful kind p w) → asked ≡ kinds.table kind p

  -- algAlloc: for a table without bases
  abbrev pub AsksWithoutBases : List ℤ → Option (List MemRec) → Type 0
  AsksWithoutBases p asked = (w : Option ℤ) → IsTrue (kinds.lawful kind p w) → IfSome asked (λ t. unplaced t ≡ t)

  -- algAlloc: where it declares its table it asks for it, be it lawful or not
  abbrev pub AsksAsDeclared : List ℤ → Option (List MemRec) → Type 0
  AsksAsDeclared p asked = IsTrue (kinds.declares kind p) → asked ≡ kinds.table kind p

  -- it accepts the controls that its meaning accepts
  abbrev pub AcceptsItsControls : List ℤ → Ctl → Bool → Type 0
  AcceptsItsControls p c told = (w : Option ℤ) → IsTrue (kinds.lawful kind p w) → told ≡ kinds.accepts kind p (control_of c)

-- ---- what a call does to the records that are lent for it, as they are before and after

module _ {M : Type 0} (laws : Laws M) (kind : M) where
  -- algInit: where the records that last are lent by a table that the kind asks for, new and for writing, they keep the empty history
  -- of an idle instance afterwards
  abbrev pub StartsAnInstance : List MemRec → List ℤ → (old new : Lent) → Type 0
  StartsAnInstance tab p old new = (w : Option ℤ) → IsTrue (laws.meaning.lawful kind p w)
      → laws.meaning.table kind p ≡ Some (unplaced tab)
      → old.table.now ≡ tab
      → LastingLent tab (lent_words old)
      → old.writable ≡ true
      → AreNew w (laws.fill kind p) tab (lent_words old)
      → laws.idle_refines kind p tab (lasting tab (lent_words new)) begun

  -- algActivate: what an idle instance keeps in the records that last, an active one keeps in all of them afterwards. The scratch words that it
  -- finds are the poison word, or any words where the host has none
  abbrev pub PreparesScratch : (old new : Lent) → Type 0
  PreparesScratch old new = (p : List ℤ) (w : Option ℤ) (l : Log) → IsTrue (laws.meaning.lawful kind p w)
      → old.writable ≡ false
      → AllLent old.table.now (lent_words old)
      → ScratchIsPoison w old.table.now (lent_words old)
      → laws.idle_refines kind p old.table.now (lasting old.table.now (lent_words old)) l
      → laws.active_refines kind p old.table.now (lent_words new) (called Activate l)

  -- process: an active instance keeps the samples behind what it kept, and gives out what they give by its meaning
  abbrev pub ProcessesBlock : (input out : List ℤ) → (old new : Lent) → Type 0
  ProcessesBlock input out old new = (p : List ℤ) (w : Option ℤ) (l : Log) → IsTrue (laws.meaning.lawful kind p w)
      → old.writable ≡ false
      → AllLent old.table.now (lent_words old)
      → laws.active_refines kind p old.table.now (lent_words old) l
      → laws.active_refines kind p old.table.now (lent_words new) (fed l input)
      × (outputs_of laws.meaning kind p (with_samples l.history input) ≡ outputs_of laws.meaning kind p l.history ++ out)

  -- algActivate and process: what an idle instance keeps, an active one keeps with the samples behind it, and gives out what they give by its
  -- meaning. The scratch words that it finds are the poison word, or any words where the host has none
  abbrev pub ActivatesAndProcesses : (input out : List ℤ) → (old new : Lent) → Type 0
  ActivatesAndProcesses input out old new = (p : List ℤ) (w : Option ℤ) (l : Log) → IsTrue (laws.meaning.lawful kind p w)
      → old.writable ≡ false
      → AllLent old.table.now (lent_words old)
      → ScratchIsPoison w old.table.now (lent_words old)
      → laws.idle_refines kind p old.table.now (lasting old.table.now (lent_words old)) l
      → laws.active_refines kind p old.table.now (lent_words new) (fed (called Activate l) input)
      × (outputs_of laws.meaning kind p (with_samples l.history input) ≡ outputs_of laws.meaning kind p l.history ++ out)

  -- process, told by reading alone: an active instance whose records have these words keeps the sample behind what it kept, in the same words,
  -- and gives out what was told by its meaning
  abbrev pub TellsOutput : List (List ℤ) → (x told : ℤ) → Type 0
  TellsOutput words x told = (p : List ℤ) (w : Option ℤ) (l : Log) (rs : List MemRec) → IsTrue (laws.meaning.lawful kind p w)
      → AllLent rs words
      → laws.active_refines kind p rs words l
      → laws.active_refines kind p rs words (fed l (x ∷ []))
      × (outputs_of laws.meaning kind p (with_samples l.history (x ∷ [])) ≡ outputs_of laws.meaning kind p l.history ++ (told ∷ []))

  -- algDeactivate: what an active instance keeps in all its records, an idle one keeps in those that last afterwards
  abbrev pub SavesScratch : (old new : Lent) → Type 0
  SavesScratch old new = (p : List ℤ) (w : Option ℤ) (l : Log) → IsTrue (laws.meaning.lawful kind p w)
      → old.writable ≡ false
      → AllLent old.table.now (lent_words old)
      → laws.active_refines kind p old.table.now (lent_words old) l
      → laws.idle_refines kind p old.table.now (lasting old.table.now (lent_words new)) (called Deactivate l)

  -- algMoved: what an idle instance kept by a table with other bases, it keeps by the table with the new ones afterwards
  abbrev pub FollowsMoveIdle : List MemRec → (old new : Lent) → Type 0
  FollowsMoveIdle tab old new = (p : List ℤ) (w : Option ℤ) (l : Log) (before : List MemRec)
      → IsTrue (laws.meaning.lawful kind p w)
      → unplaced before ≡ unplaced tab
      → old.table.now ≡ tab
      → old.writable ≡ false
      → LastingLent tab (lent_words old)
      → laws.idle_refines kind p before (lasting tab (lent_words old)) l
      → laws.idle_refines kind p tab (lasting tab (lent_words new)) (called Moved l)

  -- algMoved: so does an active one
  abbrev pub FollowsMoveActive : List MemRec → (old new : Lent) → Type 0
  FollowsMoveActive tab old new = (p : List ℤ) (w : Option ℤ) (l : Log) (before : List MemRec)
      → IsTrue (laws.meaning.lawful kind p w)
      → unplaced before ≡ unplaced tab
      → old.table.now ≡ tab
      → old.writable ≡ false
      → AllLent tab (lent_words old)
      → laws.active_refines kind p before (lent_words old) l
      → laws.active_refines kind p tab (lent_words new) (called Moved l)

  -- algControl: an active instance keeps a control that it accepts behind what it kept, and answers what its meaning answers
  abbrev pub DoesControl : Ctl → Status → (old new : Lent) → Type 0
  DoesControl c answer old new = (p : List ℤ) (w : Option ℤ) (l : Log) → IsTrue (laws.meaning.lawful kind p w)
      → IsTrue (laws.meaning.accepts kind p (control_of c))
      → old.writable ≡ false
      → AllLent old.table.now (lent_words old)
      → laws.active_refines kind p old.table.now (lent_words old) l
      → laws.active_refines kind p old.table.now (lent_words new) (commanded l (control_of c))
      × (answer_of answer ≡ status_of laws.meaning kind p l.history (control_of c))

  -- algFree: an idle instance tells the table by which its records are lent
  abbrev pub TellsItsRecords : Lent → List MemRec → Type 0
  TellsItsRecords m told = (p : List ℤ) (w : Option ℤ) (l : Log) → IsTrue (laws.meaning.lawful kind p w)
      → m.writable ≡ false
      → LastingLent m.table.now (lent_words m)
      → laws.idle_refines kind p m.table.now (lasting m.table.now (lent_words m)) l
      → told ≡ m.table.now

  -- a sample or a control at a time: an active instance keeps what it takes behind what it kept, gives out what it gives, and answers
  -- what its meaning answers
  abbrev pub TakesEntry : Entry → List ℤ → Status → (old new : Lent) → Type 0
  TakesEntry entry out answer old new = (p : List ℤ) (w : Option ℤ) (l : Log) → IsTrue (laws.meaning.lawful kind p w)
      → IsTrue (takes laws.meaning kind p (entry_of entry))
      → old.writable ≡ false
      → AllLent old.table.now (lent_words old)
      → laws.active_refines kind p old.table.now (lent_words old) l
      → laws.active_refines kind p old.table.now (lent_words new) (given_entry l (entry_of entry))
      × (outputs_of laws.meaning kind p (entry_of entry ∷ l.history) ≡ outputs_of laws.meaning kind p l.history ++ out)
      × (answer_of answer ≡ reply_of laws.meaning kind p l.history (entry_of entry))
