-- What the calls of a decimator do with its words and with the records that are lent. Of private clauses.
use Rattle.std.specs.Prelude.{ℕ, ℤ, pos, ◌≡◌, ◌≤◌, ◌+◌, ◌-◌, ◌%◌, true, IsTrue, List, [], ◌∷◌, length}
use Rattle.mem_rec.specs.declared.Space.TheVariants.{Daram, Saram, External}
use Rattle.ialg.specs.declared.TheConstants.{BLOCK_SAMPLES}
use Rattle.ialg.specs.declared.memory.Lent.{Lent}
use Rattle.ialg.specs.History.{History, Control, Reset, Get, samples_in_frame, word_at}
use Rattle.ialg.specs.Records.{AllLent}
use Rattle.ialg.specs.Loans.{lent_words, SameBut}
use Rattle.ialg.specs.Objects.{NamedAt}
use Rattle.fir_kernel.specs.declared.TheConstants.{MOST_COEFFICIENTS}
use Rattle.alg_fir.specs.Keeps.{KeepsPast, KeepsRing}
use Rattle.alg_fir.specs.Decimation.{factor}
use Rattle.alg_fir.specs.DecimMeaning.{decim_records, decim_takes}
use Rattle.alg_fir.specs.DecimKeeps.{taps_of, decim_kind, Finds, IsActiveDecim, KeepsPhase, RanDecim}

-- ---- over plain words

-- afterwards a ring of the right length keeps the past samples that stand behind the phase, whatever it was
abbrev pub RestoresPast : (kept old new : List ℤ) → Type 0
RestoresPast kept old new = (taps : ℕ) (h : History) → 1 ≤ taps → taps ≤ MOST_COEFFICIENTS → length kept ≡ taps
    → length old ≡ taps - 1 + BLOCK_SAMPLES → KeepsPast taps 1 h kept → KeepsRing taps h new

-- afterwards the past samples of the ring stand behind the phase
abbrev pub SavesPast : (ring old new : List ℤ) → Type 0
SavesPast ring old new = (taps : ℕ) (h : History) → 1 ≤ taps → length old ≡ taps → KeepsRing taps h ring → KeepsPast taps 1 h new

-- a block is run with these constants and this phase: the ring keeps the longer history, and the outputs are what the block gives
abbrev pub RunsBlock : (constants kept old input new out : List ℤ) → Type 0
RunsBlock constants kept old input new out = (p : List ℤ) (h : History) → constants ≡ p → IsTrue (decim_takes p) → KeepsPhase p h kept
    → KeepsRing (taps_of p) h old → RanDecim p h input new out

-- so many samples are counted on in the phase, by the factor of these constants
abbrev pub CountsOn : List ℤ → ℕ → (old new : List ℤ) → Type 0
CountsOn constants samples old new = (p : List ℤ) (before : ℕ) → constants ≡ p → IsTrue (decim_takes p) → 1 ≤ length old
    → word_at old 0 ≡ pos before → word_at new 0 ≡ pos ((before + samples) % factor p)

-- ---- over a record that was taken out, with what is lent beside it

-- the ring, with the kept words that are lent
abbrev pub RestoresPastLent : Lent → (old new : List ℤ) → Type 0
RestoresPastLent mem old new = (taps : ℕ) (h : History) → NamedAt mem Saram 1 decim_kind (decim_records taps) → 1 ≤ taps
    → taps ≤ MOST_COEFFICIENTS → length mem.r1.now ≡ taps → length old ≡ taps - 1 + BLOCK_SAMPLES
    → KeepsPast taps 1 h mem.r1.now → KeepsRing taps h new

-- the kept words, with the ring that is lent
abbrev pub SavesPastLent : Lent → (old new : List ℤ) → Type 0
SavesPastLent mem old new = (taps : ℕ) (h : History) → NamedAt mem Daram 3 decim_kind (decim_records taps) → 1 ≤ taps
    → length old ≡ taps → KeepsRing taps h mem.r3.now → KeepsPast taps 1 h new

-- the ring, with the constants and the kept words that are lent
abbrev pub RunsBlockLent : Lent → (old input new out : List ℤ) → Type 0
RunsBlockLent mem old input new out = (p : List ℤ) (h : History) → IsTrue (decim_takes p)
    → NamedAt mem Saram 1 decim_kind (decim_records (taps_of p))
    → NamedAt mem External 2 decim_kind (decim_records (taps_of p)) → mem.r2.now ≡ p
    → KeepsPhase p h mem.r1.now → KeepsRing (taps_of p) h old → RanDecim p h input new out

-- the kept words, with the constants that are lent
abbrev pub CountsOnLent : Lent → ℕ → (old new : List ℤ) → Type 0
CountsOnLent mem samples old new = (p : List ℤ) (before : ℕ) → IsTrue (decim_takes p)
    → NamedAt mem External 2 decim_kind (decim_records (taps_of p)) → mem.r2.now ≡ p → 1 ≤ length old
    → word_at old 0 ≡ pos before → word_at new 0 ≡ pos ((before + samples) % factor p)

-- ---- over the records that are lent, of which one is written and the others stay

-- the write-once record has the parameters afterwards, where it is lent for writing
abbrev pub WritesConstants : List ℤ → (old new : Lent) → Type 0
WritesConstants p old new = (taps : ℕ) → NamedAt old External 2 decim_kind (decim_records taps) → old.writable ≡ true
    → length old.r2.now ≡ length p → SameBut 2 old new × (new.r2.now ≡ p)

-- all kept words are 0 afterwards
abbrev pub ClearsKept : (old new : Lent) → Type 0
ClearsKept old new = (taps : ℕ) → NamedAt old Saram 1 decim_kind (decim_records taps)
    → SameBut 1 old new × ((k : ℕ) → word_at new.r1.now k ≡ pos 0)

-- all words of the ring are 0 afterwards
abbrev pub ClearsRing : (old new : Lent) → Type 0
ClearsRing old new = (taps : ℕ) → Finds old taps → SameBut 3 old new × ((k : ℕ) → word_at new.r3.now k ≡ pos 0)

-- afterwards the ring keeps what the kept words keep
abbrev pub FillsRing : (old new : Lent) → Type 0
FillsRing old new = (taps : ℕ) (h : History) → Finds old taps → 1 ≤ taps → taps ≤ MOST_COEFFICIENTS
    → length old.r1.now ≡ taps → length old.r3.now ≡ taps - 1 + BLOCK_SAMPLES → KeepsPast taps 1 h old.r1.now
    → SameBut 3 old new × KeepsRing taps h new.r3.now

-- afterwards the kept words keep what the ring keeps, and the phase stays
abbrev pub FillsKept : (old new : Lent) → Type 0
FillsKept old new = (taps : ℕ) (h : History) → Finds old taps → 1 ≤ taps → length old.r1.now ≡ taps
    → KeepsRing taps h old.r3.now
    → SameBut 1 old new × KeepsPast taps 1 h new.r1.now
    × (word_at new.r1.now 0 ≡ word_at old.r1.now 0)

-- a block is run: the ring keeps the longer history afterwards, and the phase is that before the block
abbrev pub RunsRing : (input out : List ℤ) → (old new : Lent) → Type 0
RunsRing input out old new = (p : List ℤ) (h : History) → IsTrue (decim_takes p) → Finds old (taps_of p) → old.r2.now ≡ p
    → KeepsPhase p h old.r1.now → KeepsRing (taps_of p) h old.r3.now
    → SameBut 3 old new × RanDecim p h input new.r3.now out

-- so many samples are counted in the phase
abbrev pub CountsPhase : ℕ → (old new : Lent) → Type 0
CountsPhase samples old new = (p : List ℤ) (before : ℕ) → IsTrue (decim_takes p) → Finds old (taps_of p) → old.r2.now ≡ p
    → 1 ≤ length old.r1.now → word_at old.r1.now 0 ≡ pos before
    → SameBut 1 old new × (word_at new.r1.now 0 ≡ pos ((before + samples) % factor p))

-- ---- the controls of an active decimator

-- it keeps a reset behind what it kept
abbrev pub ResetsDecim : (old new : Lent) → Type 0
ResetsDecim old new = (p : List ℤ) (h : History) → AllLent old.table.now (lent_words old)
    → IsActiveDecim p old.table.now (lent_words old) h
    → IsActiveDecim p old.table.now (lent_words new) (Control Reset ∷ h)

-- it answers its phase to `get`
abbrev pub AnswersPhase : Lent → List ℤ → Type 0
AnswersPhase mem answer = (p : List ℤ) (h : History) → AllLent mem.table.now (lent_words mem)
    → IsActiveDecim p mem.table.now (lent_words mem) h → answer ≡ pos (samples_in_frame (factor p) h) ∷ []

-- it keeps a `get` behind what it kept
abbrev pub GetsDecim : Lent → Type 0
GetsDecim mem = (p : List ℤ) (h : History) → IsActiveDecim p mem.table.now (lent_words mem) h
    → IsActiveDecim p mem.table.now (lent_words mem) (Control Get ∷ h)
