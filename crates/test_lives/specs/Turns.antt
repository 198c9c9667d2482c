-- What instances that take turns keep and give.
use Rattle.std.specs.Prelude.{◌≡◌, ◌++◌, ℕ, ℤ, List, Option, None, Some}
use Rattle.ialg.specs.History.{with_samples}
use Rattle.ialg.specs.Log.{Log, called, fed, Activate, Deactivate}
use Rattle.ialg.specs.Laws.{Laws}
use Rattle.record_loans.specs.declared.pieces.Pieces.{Pieces}
use Rattle.scratch_group.specs.declared.group.Group.{Group}
use Rattle.scratch_group.specs.Blocks.{BlocksArePoison}
use Rattle.lifecycle.specs.declared.instance.Instance.{Instance}
use Rattle.lifecycle.specs.States.{IsLawful, IdleRefines, all_outputs}
use Rattle.host_table.specs.declared.member.Member.{Member}
use Rattle.host_table.specs.declared.tables.Tables.{Tables}
use Rattle.host_table.specs.Table.{slot_at, instance_of}
use Rattle.host_table.specs.Steps.{AreKept}

-- an idle instance, whose group's blocks hold the poison word, is idle again and keeps these samples behind what it kept, and that it was activated and deactivated
abbrev pub TakesBlock : {M : Type 0} → Laws M → Instance M → Pieces → Group → List ℤ → Instance M → Pieces → Type 0
TakesBlock laws s shared g samples s' shared' = (w : Option ℤ) (l : Log) → BlocksArePoison w g
    → IdleRefines laws s w shared l
    → IdleRefines laws s' w shared' (called Deactivate (fed (called Activate l) samples))

-- a lawful idle instance, in a host of no poison word, gives this out for these samples
abbrev pub GivesBlock : {M : Type 0} → Laws M → Instance M → Pieces → List ℤ → List ℤ → Type 0
GivesBlock laws s shared samples out = (l : Log) → IsLawful laws.meaning s None
    → IdleRefines laws s None shared l
    → all_outputs laws.meaning s (with_samples l.history samples)
    ≡ all_outputs laws.meaning s l.history ++ out

-- and these two blocks for two blocks of samples
abbrev pub GivesBoth : {M : Type 0} → Laws M → Instance M → Pieces → (before after : List ℤ) → (out more : List ℤ) → Type 0
GivesBoth laws s shared before after out more = (l : Log) → IsLawful laws.meaning s None
    → IdleRefines laws s None shared l
    → all_outputs laws.meaning s (with_samples (with_samples l.history before) after)
    ≡ (all_outputs laws.meaning s l.history ++ out) ++ more

-- a lawful instance of these tables gives these two blocks for two blocks of samples
abbrev pub GivesBothIn : {M : Type 0} → Laws M → Option ℤ → Tables M → ℕ → (before after : List ℤ) → (out more : List ℤ) → Type 0
GivesBothIn {M} laws poison tables i before after out more = (logs : ℕ → Log) (m : Member M)
    → AreKept laws poison tables logs
    → slot_at tables.instances i ≡ Some m → IsLawful laws.meaning (instance_of m.inst) poison
    → all_outputs laws.meaning (instance_of m.inst) (with_samples (with_samples (logs i).history before) after)
    ≡ (all_outputs laws.meaning (instance_of m.inst) (logs i).history ++ out) ++ more
