-- What each function of a filter does, by the words that keep a history of an instance: the kept words of an idle one, the kept and the
-- running words of an active one.
use Rattle.std.specs.Prelude.{ℤ, ◌≡◌, IsTrue, List, [], ◌∷◌, ◌++◌, length, Some}
use Rattle.ialg.specs.declared.filter.FilterMemory.{FilterMemory}
use Rattle.ialg.specs.History.{History, Control, Set, Reset, Get, with_samples, outputs_by}
use Rattle.ialg.specs.Filters.{FilterMeaning, KeptRelation, RunningRelation}

-- start: kept words of the length that was asked for keep the empty history afterwards, whatever they were
abbrev pub StartsKept : FilterMeaning → KeptRelation → List ℤ → (old new : List ℤ) → Type 0
StartsKept filter rests p old new = (m : FilterMemory) → filter.memory p ≡ Some m → length old ≡ m.kept → rests p [] new

-- restore: with running words of the length that was asked for an active instance keeps what the kept words keep, whatever they were
abbrev pub RestoresRunning : FilterMeaning → KeptRelation → RunningRelation → (kept old new : List ℤ) → Type 0
RestoresRunning filter rests runs kept old new = (p : List ℤ) (h : History) (m : FilterMemory) → filter.memory p ≡ Some m
    → length old ≡ m.running → rests p h kept → runs p h kept new

-- run: the samples are kept behind what was kept
abbrev pub KeepsSamples : RunningRelation → (kept old input new : List ℤ) → Type 0
KeepsSamples runs kept old input new = (p : List ℤ) (h : History) → runs p h kept old → runs p (with_samples h input) kept new

-- run: what the samples give is given out
abbrev pub GivesForSamples : FilterMeaning → RunningRelation → (kept running input out : List ℤ) → Type 0
GivesForSamples filter runs kept running input out = (p : List ℤ) (h : History) → runs p h kept running
    → outputs_by (filter.gives p) (with_samples h input) ≡ outputs_by (filter.gives p) h ++ out

-- save: the kept words of an idle instance keep what those of the active one kept with the running words
abbrev pub SavesRunning : KeptRelation → RunningRelation → (running old new : List ℤ) → Type 0
SavesRunning rests runs running old new = (p : List ℤ) (h : History) → runs p h old running → rests p h new

-- set: words that are accepted are kept behind what was kept, whatever the running words are
abbrev pub KeepsSet : FilterMeaning → RunningRelation → (words old new : List ℤ) → Type 0
KeepsSet filter runs words old new = (p : List ℤ) (h : History) (running : List ℤ) → IsTrue (filter.accepts p (Set words))
    → runs p h old running → runs p (Control (Set words) ∷ h) new running

-- reset: it is kept behind what was kept, whatever the kept words are
abbrev pub KeepsReset : RunningRelation → (old new : List ℤ) → Type 0
KeepsReset runs old new = (p : List ℤ) (h : History) (kept : List ℤ) → runs p h kept old → runs p (Control Reset ∷ h) kept new

-- get: the answer is that of the meaning
abbrev pub AnswersGet : FilterMeaning → RunningRelation → (kept running answer : List ℤ) → Type 0
AnswersGet filter runs kept running answer = (p : List ℤ) (h : History) → runs p h kept running → answer ≡ filter.got p h

-- get: the same words keep it behind what they kept
abbrev pub KeepsGet : RunningRelation → (kept running : List ℤ) → Type 0
KeepsGet runs kept running = (p : List ℤ) (h : History) → runs p h kept running → runs p (Control Get ∷ h) kept running
