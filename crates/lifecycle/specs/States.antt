-- When an instance refines a log.
use Rattle.std.specs.Prelude.{ℕ, ℤ, ◌≡◌, IsTrue, List, take, Option, Bool}
use Rattle.mem_rec.specs.declared.MemRec.{MemRec}
use Rattle.mem_rec.specs.declared.Attr.TheVariants.{WriteOnce}
use Rattle.ialg.specs.History.{History, Ctl}
use Rattle.ialg.specs.Log.{Log}
use Rattle.ialg.specs.Meaning.{Meaning, Status, outputs_of, status_of}
use Rattle.ialg.specs.Records.{record_at, AllLent}
use Rattle.ialg.specs.Laws.{Laws}
use Rattle.scratch_group.specs.declared.group.Group.{Group}
use Rattle.record_loans.specs.declared.pieces.Pieces.{Pieces}
use Rattle.record_loans.specs.Pieces.{piece_at, piece_words, SamePieces}
use Rattle.scratch_group.specs.Words.{active_words, idle_words, InSpaces}
use Rattle.lifecycle.specs.declared.instance.Instance.{Instance}

-- the records have their words in these pieces and blocks, and no two begin at one place
pub record Fits (rs : List MemRec) (own shared : Pieces) (g : Group) : Type 0 where
  pub lent : AllLent rs (active_words rs own shared g)
  pub spaces : InSpaces own shared g

-- the instance fits with these shared pieces and this group
abbrev pub FitsIn : {M : Type 0} → Instance M → Pieces → Group → Type 0
FitsIn s shared g = Fits s.table s.own shared g

-- the same instance, whose words may differ
pub record SameInstance {M : Type 0} (old new : Instance M) : Type 0 where
  pub kind : new.kind ≡ old.kind
  pub params : new.params ≡ old.params
  pub table : new.table ≡ old.table
  pub own : SamePieces old.own new.own

-- each write-once record has the same words
abbrev pub SameOnce : List MemRec → Pieces → Pieces → Type 0
SameOnce rs old new = (k : ℕ) → (record_at rs k).attr ≡ WriteOnce
    → take (record_at rs k).size (piece_words (piece_at new k)) ≡ take (record_at rs k).size (piece_words (piece_at old k))

-- the instance is lawful in a host of this poison word, or of none
abbrev pub IsLawful : {M : Type 0} → Meaning M → Instance M → Option ℤ → Type 0
IsLawful meaning s w = IsTrue (meaning.lawful s.kind s.params.items w)

-- the instance takes the control
abbrev pub Accepts : {M : Type 0} → Meaning M → Instance M → Ctl → Type 0
Accepts meaning s c = IsTrue (meaning.accepts s.kind s.params.items c)

-- the answer is whether the instance, where it is lawful, takes the control
abbrev pub SaysWhetherAccepted : {M : Type 0} → Meaning M → Instance M → Ctl → Bool → Type 0
SaysWhetherAccepted meaning s c answer = (w : Option ℤ) → IsLawful meaning s w → answer ≡ meaning.accepts s.kind s.params.items c

-- all that the instance gives out on a history
abbrev pub all_outputs : {M : Type 0} → Meaning M → Instance M → History → List ℤ
all_outputs meaning s h = outputs_of meaning s.kind s.params.items h

-- what it answers to a control after a history
abbrev pub status_after : {M : Type 0} → Meaning M → Instance M → History → Ctl → Status
status_after meaning s h c = status_of meaning s.kind s.params.items h c

-- an idle instance refines a log by its own pieces and those of its write-once records. An unlawful one owes nothing
abbrev pub IdleRefines : {M : Type 0} → Laws M → Instance M → Option ℤ → Pieces → Log → Type 0
IdleRefines laws s w shared l = IsLawful laws.meaning s w
    → laws.idle_refines s.kind s.params.items s.table (idle_words s.table s.own shared) l

-- an active one by these and its group's blocks
abbrev pub ActiveRefines : {M : Type 0} → Laws M → Instance M → Option ℤ → Pieces → Group → Log → Type 0
ActiveRefines laws s w shared g l = IsLawful laws.meaning s w
    → laws.active_refines s.kind s.params.items s.table (active_words s.table s.own shared g) l
