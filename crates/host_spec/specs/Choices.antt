-- What a kind may answer when it is called: a lawful one what it means, any other what it likes.
use Rattle.std.specs.Prelude.{ℤ, ◌≡◌, ◌≤◌, Bool, ◌||◌, IsTrue, List, ◌++◌, length, Option, IfSome}
use Rattle.mem_rec.specs.declared.MemRec.{MemRec}
use Rattle.mem_rec.specs.Records.{is_table}
use Rattle.ialg.specs.History.{Ctl, with_samples}
use Rattle.ialg.specs.Meaning.{Meaning, Status, outputs_of, status_of}
use Rattle.host_spec.specs.State.{Living}

-- in a host of this poison word, or of none
module _ {M : Type 0} (kinds : Meaning M) (poison : Option ℤ) where
  abbrev pub IsLawful : Living M → Type 0
  IsLawful x = IsTrue (kinds.lawful x.kind x.params poison)

  -- whether it is known what memory a kind asks for: a lawful one asks for what it means, and so does one that declares it
  abbrev pub tells_memory : M → List ℤ → Bool
  tells_memory kind p = kinds.lawful kind p poison || kinds.declares kind p

  -- the memory that a kind asks for with these parameters, none where it refuses them
  pub record MayAsk (kind : M) (p : List ℤ) (table : Option (List MemRec)) : Type 0 where
    pub told : IsTrue (tells_memory kind p) → table ≡ kinds.table kind p
    pub valid : IfSome table (λ records. IsTrue (is_table records))

  -- whether an instance takes a control, and what it answers
  pub record MayAnswer (x : Living M) (c : Ctl) (taken : Bool) (status : Status) : Type 0 where
    pub acceptance : IsLawful x → taken ≡ kinds.accepts x.kind x.params c
    pub answer : IsLawful x → status ≡ status_of kinds x.kind x.params x.history c

  -- what an instance gives for a block of samples: a lawful one what its outputs are longer by
  pub record MayGive (x : Living M) (block out : List ℤ) : Type 0 where
    pub lawful : IsLawful x → outputs_of kinds x.kind x.params (with_samples x.history block) ≡ outputs_of kinds x.kind x.params x.history ++ out
    pub bounded : length out ≤ length block
