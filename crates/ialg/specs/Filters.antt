-- Filters: kinds whose instances have one persistent record and one scratch record beside the object.
use Rattle.std.specs.Prelude.{◌≡◌, ℕ, ℤ, Bool, true, List, [], ◌∷◌, Option, Some, option_map, IsTrue}
use Rattle.mem_rec.specs.declared.TheConstants.{LEAST_ALIGNMENT}
use Rattle.mem_rec.specs.declared.MemRec.{MemRec}
use Rattle.mem_rec.specs.declared.Space.TheVariants.{Daram, Saram}
use Rattle.mem_rec.specs.declared.Attr.TheVariants.{Scratch, Persist, WriteOnce}
use Rattle.mem_rec.specs.Records.{is_table}
use Rattle.ialg.specs.declared.TheConstants.{FILTER_RECORDS}
use Rattle.ialg.specs.declared.filter.FilterMemory.{FilterMemory}
use Rattle.ialg.specs.History.{History, Ctl}
use Rattle.ialg.specs.Meaning.{Meaning}
use Rattle.ialg.specs.Laws.{Laws}
use Rattle.ialg.specs.Records.{record_at, words_of}
use Rattle.ialg.specs.Objects.{Names, object_memory}

-- what a filter means, without its code and its memory: as `Meaning`, but for a kind of one value
pub record FilterMeaning : Type 0 where
  -- the memory for these parameters, and none where they are refused
  pub memory : List ℤ → Option FilterMemory
  -- the values at the newest sample
  pub gives : List ℤ → History → List ℤ
  pub accepts : List ℤ → Ctl → Bool
  -- the answer to `get`
  pub got : List ℤ → History → List ℤ

-- the object, the kept words and the running words
abbrev pub filter_records : FilterMemory → List MemRec
filter_records m =
    object_memory
    ∷ record { size = m.kept; align = LEAST_ALIGNMENT; space = Saram; attr = Persist; base = 0 }
    ∷ record { size = m.running; align = m.align; space = Daram; attr = Scratch; base = 0 } ∷ []

-- a filter is lawful for all parameters
abbrev pub meaning_of : {M : Type 0} → FilterMeaning → Meaning M
meaning_of filter = record {
  same = λ a b. true;
  table = λ _ p. option_map filter_records (filter.memory p);
  gives = λ _. filter.gives;
  accepts = λ _. filter.accepts;
  got = λ _. filter.got;
  declares = λ _ p. true;
  lawful = λ _ p w. true;
}

-- the table is valid and that of the memory asked for, and the object names its records, of which none is write-once
pub record IsPlaced (kind : ℤ) (asked : Option FilterMemory) (rs : List MemRec) (wss : List (List ℤ)) : Type 0 where
  pub memory : FilterMemory
  pub granted : asked ≡ Some memory
  pub valid : IsTrue (is_table (filter_records memory))
  pub object : Names kind (filter_records memory) rs (words_of wss 0)
  pub none_once : (k : ℕ) → (record_at rs k).attr ≡ WriteOnce → ⊥

-- an idle instance: its kept words keep its history
pub record IsIdle (kind : ℤ) (asked : Option FilterMemory) (rests : List ℤ → Type 0) (rs : List MemRec) (wss : List (List ℤ)) : Type 0 where
  pub placed : IsPlaced kind asked rs wss
  pub keeps : rests (words_of wss 1)

-- an active instance: its kept and its running words keep its history
pub record IsActive (kind : ℤ) (asked : Option FilterMemory) (runs : List ℤ → List ℤ → Type 0) (rs : List MemRec) (wss : List (List ℤ)) : Type 0 where
  pub placed : IsPlaced kind asked rs wss
  pub keeps : runs (words_of wss 1) (words_of wss 2)

-- whether kept words keep a history, by the parameters
abbrev pub KeptRelation : Type 1
KeptRelation = List ℤ → History → List ℤ → Type 0

-- whether kept and running words keep a history, by the parameters
abbrev pub RunningRelation : Type 1
RunningRelation = List ℤ → History → List ℤ → List ℤ → Type 0

-- the laws of a filter whose objects have this kind word: `rests` says which words keep a history of an idle instance, and `runs` of an
-- active one. Nothing is kept of the calls
abbrev pub filter_laws : {M : Type 0} → ℤ → FilterMeaning → KeptRelation → RunningRelation → Laws M
filter_laws kind filter rests runs = record {
  meaning = meaning_of filter;
  bound = λ _. FILTER_RECORDS;
  fill = λ _ p k. [];
  idle_refines = λ _ p rs wss l. IsIdle kind (filter.memory p) (rests p l.history) rs wss;
  active_refines = λ _ p rs wss l. IsActive kind (filter.memory p) (runs p l.history) rs wss;
}
