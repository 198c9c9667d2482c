-- A kind that keeps its newest calls.
use Rattle.std.specs.Prelude.{ℕ, ℤ, zero, suc, pos, ◌≡◌, ◌<◌, ◌≤◌, ◌+◌, Bool, true, false, List, [], ◌∷◌, length, Some}
use Rattle.mem_rec.specs.declared.TheConstants.{LEAST_ALIGNMENT}
use Rattle.mem_rec.specs.declared.MemRec.{MemRec}
use Rattle.mem_rec.specs.declared.Space.TheVariants.{Saram}
use Rattle.ialg.specs.declared.TheConstants.{FILTER_RECORDS}
use Rattle.ialg.specs.declared.filter.FilterMemory.{FilterMemory}
use Rattle.ialg.specs.declared.memory.Lent.{Lent}
use Rattle.ialg.specs.History.{Ctl, Set, Reset, Get, IsWordHistory, word_at}
use Rattle.ialg.specs.Log.{Log, Called, Init, Activate, Process, Command, Deactivate, Moved}
use Rattle.ialg.specs.Meaning.{Meaning}
use Rattle.ialg.specs.Laws.{Laws}
use Rattle.ialg.specs.Records.{words_of}
use Rattle.ialg.specs.Objects.{Names, NamedAt}
use Rattle.ialg.specs.Filters.{filter_records}
use Rattle.test_diary.specs.declared.TheConstants.{DIARY_WORDS, DIARY_SCRATCH, DIARY_KIND, INIT, ACTIVATE, PROCESS, COMMAND, DEACTIVATE, MOVED}
use Rattle.test_diary.specs.declared.diary.Diary.{Diary}

-- the word by which a diary names a call
abbrev pub word_of : Called → ℤ
word_of Init = INIT
word_of Activate = ACTIVATE
word_of Process = PROCESS
word_of Command = COMMAND
word_of Deactivate = DEACTIVATE
word_of Moved = MOVED

-- that of the call that came k before the newest, 0 before the first
abbrev pub word_before : List Called → ℕ → ℤ
word_before [] k = pos 0
word_before (c ∷ cs) zero = word_of c
word_before (c ∷ cs) (suc k) = word_before cs k

-- the words have the newest calls, the newest first
abbrev pub HasCalls : List ℤ → List Called → Type 0
HasCalls words cs = (k : ℕ) → k < DIARY_WORDS → word_at words k ≡ word_before cs k

pub record Notes (words : List ℤ) (l : Log) : Type 0 where
  pub history : IsWordHistory l.history
  pub calls : HasCalls words l.calls

abbrev pub diary_memory : FilterMemory
diary_memory = record { kept = DIARY_WORDS; running = DIARY_SCRATCH; align = LEAST_ALIGNMENT }

-- an instance, idle or active: the object names its records, and the diary has its calls
pub record Keeps (rs : List MemRec) (wss : List (List ℤ)) (l : Log) : Type 0 where
  pub object : Names DIARY_KIND (filter_records diary_memory) rs (words_of wss 0)
  pub notes : Notes (words_of wss 1) l

abbrev pub diary_accepts : Ctl → Bool
diary_accepts (Set words) = false
diary_accepts Reset = true
diary_accepts Get = true

abbrev pub diary_meaning : Meaning Diary
diary_meaning = record {
  same = λ a b. true;
  table = λ _ p. Some (filter_records diary_memory);
  gives = λ _ p h. [];
  accepts = λ _ p c. diary_accepts c;
  got = λ _ p h. [];
  declares = λ _ p. true;
  lawful = λ _ p w. true;
}

abbrev pub diary_laws : Laws Diary
diary_laws = record {
  meaning = diary_meaning;
  bound = λ _. FILTER_RECORDS;
  fill = λ _ p k. [];
  idle_refines = λ _ p rs wss l. Keeps rs wss l;
  active_refines = λ _ p rs wss l. Keeps rs wss l;
}

-- ---- what its functions do

-- the call was written down before the words that were there
pub record Noted (call : ℤ) (old new : List ℤ) : Type 0 where
  pub newest : 1 ≤ length old → word_at new 0 ≡ call
  pub before : (k : ℕ) → k + 1 < length old → word_at new (k + 1) ≡ word_at old k

-- one call was written down in words that have no other
abbrev pub Started : (old new : List ℤ) → Type 0
Started old new = length old ≡ DIARY_WORDS → HasCalls new (Init ∷ [])

-- where the diary is lent, the call was written down, and no other record changed
pub record HasNoted (call : ℤ) (old new : Lent) : Type 0 where
  pub noted : Noted call old.r1.now new.r1.now
  pub object : new.r0.now ≡ old.r0.now
  pub scratch : new.r2.now ≡ old.r2.now
  pub fourth : new.r3.now ≡ old.r3.now

abbrev pub NotesCall : ℤ → (old new : Lent) → Type 0
NotesCall call old new = NamedAt old Saram 1 DIARY_KIND (filter_records diary_memory) → HasNoted call old new

pub record HasBegun (old new : Lent) : Type 0 where
  pub calls : length old.r1.now ≡ DIARY_WORDS → HasCalls new.r1.now (Init ∷ [])
  pub object : new.r0.now ≡ old.r0.now

abbrev pub BeginsDiary : (old new : Lent) → Type 0
BeginsDiary old new = NamedAt old Saram 1 DIARY_KIND (filter_records diary_memory) → HasBegun old new
