-- A kind with the memory of the diary of `test_hosts`, and the calls that an instance of it gets in a run.
use Rattle.std.specs.Prelude.{ℕ, ℤ, pos, true, List, [], ◌∷◌, ◌++◌, Option, Some, None, Ok, ◌==◌, if◌then◌else◌}
use Rattle.mem_rec.specs.declared.MemRec.{MemRec}
use Rattle.mem_rec.specs.declared.TheConstants.{LEAST_ALIGNMENT}
use Rattle.mem_rec.specs.declared.Space.{Space}
use Rattle.mem_rec.specs.declared.Space.TheVariants.{Daram, Saram, External}
use Rattle.mem_rec.specs.declared.Attr.{Attr}
use Rattle.mem_rec.specs.declared.Attr.TheVariants.{Scratch, Persist, WriteOnce}
use Rattle.ialg.specs.History as history
use Rattle.ialg.specs.Log.{Called}
use Rattle.ialg.specs.Meaning.{Meaning, Done}
use Rattle.ialg.specs.Objects.{object_memory}
use Rattle.host_spec.specs.State.{State, new_state}
use Rattle.host_spec.specs.Calls.{Call}
use Rattle.host_spec.specs.Calls.Call.{Create, Control, Process, Delete, Release, Step, Compact}
use Rattle.host_spec.specs.Answers.{answered}
use Rattle.host_protocol.specs.Protocol.{calls_made}

-- a record of so many words, none of 0
abbrev pub some_record : ℕ → Space → Attr → List MemRec
some_record n space attr = if n == 0 then [] else record { size = n; align = LEAST_ALIGNMENT; space = space; attr = attr; base = 0 } ∷ []

-- the object, the diary, scratch records in `daram` and `saram`, and a write-once record, by three parameters
abbrev pub asked : List ℤ → Option (List MemRec)
asked (pos n ∷ pos s ∷ pos o ∷ []) =
    Some (object_memory ∷ some_record 72 Saram Persist ++ some_record n Daram Scratch ++ some_record s Saram Scratch ++ some_record o External WriteOnce)
asked _ = None

abbrev pub kinds : Meaning (Unit {0})
kinds = record {
  same = λ a b. true;
  table = λ _ p. asked p;
  gives = λ _ p h. [];
  accepts = λ _ p c. true;
  got = λ _ p h. [];
  declares = λ _ p. true;
  lawful = λ _ p w. true;
}

abbrev pub ample : State (Unit {0})
ample = new_state (record { daram = 4096; saram = 4096; external = 4096 }) None

-- the calls of instance j in a run, the newest first
abbrev pub diary_from : ℕ → State (Unit {0}) → List Called → List (Call (Unit {0})) → List Called
diary_from j state calls [] = calls
diary_from j state calls (c ∷ cs) =
    let next = answered kinds state c in
    diary_from j next.1 (calls_made kinds state next.0 next.1 j ++ calls) cs

abbrev pub diary : ℕ → List (Call (Unit {0})) → List Called
diary j cs = diary_from j ample [] cs

-- ---- the calls of the host; their answers are computed

abbrev pub birth_by : ℕ → ℕ → ℕ → ℕ → ℕ → Call (Unit {0})
birth_by i g n s o = Create i tt g (pos n ∷ pos s ∷ pos o ∷ []) (Ok tt)

abbrev pub birth : ℕ → ℕ → ℕ → Call (Unit {0})
birth i g n = birth_by i g n 0 0

abbrev pub block : ℕ → Call (Unit {0})
block i = Process i (pos 7 ∷ []) []

abbrev pub get : ℕ → Call (Unit {0})
get i = Control i history.Get (Ok Done)

abbrev pub rest : ℕ → Call (Unit {0})
rest g = Release g (Ok true)

abbrev pub death : ℕ → Call (Unit {0})
death i = Delete i (Ok tt)

abbrev pub step : Space → Call (Unit {0})
step space = Step space true

abbrev pub compact : Space → Call (Unit {0})
compact space = Compact space 0
