-- What each call of an algorithm does to the words of its records, by the laws of its kind. No public contract speaks of it.
use Rattle.std.specs.Prelude.{ℕ, ℤ, ◌≡◌, Bool, true, false, IsTrue, List, [], ◌∷◌, ◌++◌, Option, Some}
use Rattle.mem_rec.specs.declared.MemRec.{MemRec}
use Rattle.mem_rec.specs.declared.Attr.TheVariants.{WriteOnce}
use Rattle.ialg.specs.History.{Ctl, with_samples}
use Rattle.ialg.specs.Log.{Log, begun, called, fed, commanded, Activate, Deactivate}
use Rattle.ialg.specs.Log as log
use Rattle.ialg.specs.Meaning.{Status, outputs_of, status_of}
use Rattle.ialg.specs.Records.{record_at, words_of, AllLent, LastingLent, lasting, unplaced, AreNew, ScratchIsPoison}
use Rattle.ialg.specs.Laws.{Laws}

-- of any kind: the words of the write-once records, where these aren't lent for writing
abbrev pub StaysOnce : List MemRec → Bool → List (List ℤ) → List (List ℤ) → Type 0
StaysOnce rs writable old new = (k : ℕ) → (record_at rs k).attr ≡ WriteOnce → writable ≡ false → words_of new k ≡ words_of old k

-- the start
abbrev pub Started : {M : Type 0} → Laws M → M → List ℤ → List MemRec → Bool → List (List ℤ) → List (List ℤ) → Type 0
Started laws kind p rs writable old new = (w : Option ℤ) → IsTrue (laws.meaning.lawful kind p w)
    → laws.meaning.table kind p ≡ Some (unplaced rs) → LastingLent rs old → writable ≡ true → AreNew w (laws.fill kind p) rs old
    → laws.idle_refines kind p rs (lasting rs new) begun

-- the activation
abbrev pub Activated : {M : Type 0} → Laws M → M → List MemRec → Bool → List (List ℤ) → List (List ℤ) → Type 0
Activated laws kind rs writable old new = (p : List ℤ) (w : Option ℤ) (l : Log) → IsTrue (laws.meaning.lawful kind p w)
    → writable ≡ false → AllLent rs old → ScratchIsPoison w rs old
    → laws.idle_refines kind p rs (lasting rs old) l → laws.active_refines kind p rs new (called Activate l)

-- a block of samples, and what it gave
abbrev pub HasRun : {M : Type 0} → Laws M → M → List ℤ → List MemRec → Bool → List (List ℤ) → List (List ℤ) → List ℤ → Type 0
HasRun laws kind input rs writable old new out = (p : List ℤ) (w : Option ℤ) (l : Log) → IsTrue (laws.meaning.lawful kind p w)
    → writable ≡ false → AllLent rs old → laws.active_refines kind p rs old l
    → laws.active_refines kind p rs new (fed l input)
    × (outputs_of laws.meaning kind p (with_samples l.history input) ≡ outputs_of laws.meaning kind p l.history ++ out)

-- the activation, and then a block of samples, and what it gave
abbrev pub ActivatedAndRan : {M : Type 0} → Laws M → M → List ℤ → List MemRec → Bool → List (List ℤ) → List (List ℤ) → List ℤ → Type 0
ActivatedAndRan laws kind input rs writable old new out = (p : List ℤ) (w : Option ℤ) (l : Log) → IsTrue (laws.meaning.lawful kind p w)
    → writable ≡ false → AllLent rs old → ScratchIsPoison w rs old
    → laws.idle_refines kind p rs (lasting rs old) l
    → laws.active_refines kind p rs new (fed (called Activate l) input)
    × (outputs_of laws.meaning kind p (with_samples l.history input) ≡ outputs_of laws.meaning kind p l.history ++ out)

-- a control, and its answer
abbrev pub Controlled : {M : Type 0} → Laws M → M → Ctl → List MemRec → Bool → List (List ℤ) → List (List ℤ) → Status → Type 0
Controlled laws kind c rs writable old new answer = (p : List ℤ) (w : Option ℤ) (l : Log) → IsTrue (laws.meaning.lawful kind p w)
    → IsTrue (laws.meaning.accepts kind p c) → writable ≡ false → AllLent rs old → laws.active_refines kind p rs old l
    → laws.active_refines kind p rs new (commanded l c) × (answer ≡ status_of laws.meaning kind p l.history c)

-- the deactivation
abbrev pub Deactivated : {M : Type 0} → Laws M → M → List MemRec → Bool → List (List ℤ) → List (List ℤ) → Type 0
Deactivated laws kind rs writable old new = (p : List ℤ) (w : Option ℤ) (l : Log) → IsTrue (laws.meaning.lawful kind p w)
    → writable ≡ false → AllLent rs old → laws.active_refines kind p rs old l → laws.idle_refines kind p rs (lasting rs new) (called Deactivate l)

-- a move, idle and active, where `before` is the table with the old bases
pub record Moved {M : Type 0} (laws : Laws M) (kind : M) (rs : List MemRec) (writable : Bool) (old new : List (List ℤ)) : Type 0 where
  pub idle : (p : List ℤ) (w : Option ℤ) (l : Log) (before : List MemRec) → IsTrue (laws.meaning.lawful kind p w)
      → unplaced before ≡ unplaced rs → writable ≡ false → LastingLent rs old
      → laws.idle_refines kind p before (lasting rs old) l → laws.idle_refines kind p rs (lasting rs new) (called log.Moved l)
  pub active : (p : List ℤ) (w : Option ℤ) (l : Log) (before : List MemRec) → IsTrue (laws.meaning.lawful kind p w)
      → unplaced before ≡ unplaced rs → writable ≡ false → AllLent rs old
      → laws.active_refines kind p before old l → laws.active_refines kind p rs new (called log.Moved l)

-- the records that the kind answers at the end
abbrev pub Freed : {M : Type 0} → Laws M → M → List MemRec → Bool → List (List ℤ) → List MemRec → Type 0
Freed laws kind rs writable words answer = (p : List ℤ) (w : Option ℤ) (l : Log) → IsTrue (laws.meaning.lawful kind p w)
    → writable ≡ false → LastingLent rs words → laws.idle_refines kind p rs (lasting rs words) l → answer ≡ rs
