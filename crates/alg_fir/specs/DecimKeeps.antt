-- How the words of a decimator keep its history.
use Rattle.std.specs.Prelude.{ℕ, ℤ, pos, ◌≡◌, List, ◌-◌, ◌++◌, length, drop, FitsSigned, IsTrue}
use Rattle.std.specs.List.{All}
use Rattle.std.specs.Int.{w16}
use Rattle.mem_rec.specs.declared.MemRec.{MemRec}
use Rattle.mem_rec.specs.declared.Space.TheVariants.{Daram, Saram, External}
use Rattle.ialg.specs.History.{History, samples_in_frame, word_at, words_in_force, with_samples, outputs_by, IsWordHistory}
use Rattle.ialg.specs.Records.{words_of, HoldFill}
use Rattle.ialg.specs.Objects.{Names, NamedAt}
use Rattle.ialg.specs.declared.memory.Lent.{Lent}
use Rattle.alg_fir.specs.Keeps.{KeepsPast, KeepsRing}
use Rattle.alg_fir.specs.Decimation.{factor, decim_gives}
use Rattle.alg_fir.specs.DecimMeaning.{decim_takes, decim_records}

-- the coefficients
abbrev pub coefficients_of : List ℤ → List ℤ
coefficients_of p = drop 1 p

-- how many there are
abbrev pub taps_of : List ℤ → ℕ
taps_of p = length p - 1

-- the kind word of a decimator's object
abbrev pub decim_kind : ℤ
decim_kind = pos 2

-- the parameters are taken, the object names the records, and the write-once record has the parameters
pub record HasConstants (p : List ℤ) (rs : List MemRec) (wss : List (List ℤ)) : Type 0 where
  pub taken : IsTrue (decim_takes p)
  pub object : Names decim_kind (decim_records (taps_of p)) rs (words_of wss 0)
  pub constants : HoldFill (λ k. p) rs wss

-- the first of the kept words is the phase: how many samples there are since the last output, the last reset or the start. No `set` came
pub record KeepsPhase (p : List ℤ) (h : History) (kept : List ℤ) : Type 0 where
  pub history : IsWordHistory h
  pub unset : words_in_force (coefficients_of p) h ≡ coefficients_of p
  pub size : length kept ≡ taps_of p
  pub counted : word_at kept 0 ≡ pos (samples_in_frame (factor p) h)

-- an idle decimator keeps its past samples behind the phase
pub record IsIdleDecim (p : List ℤ) (rs : List MemRec) (wss : List (List ℤ)) (h : History) : Type 0 where
  pub constants : HasConstants p rs wss
  pub keeps : KeepsPhase p h (words_of wss 1)
  pub past : KeepsPast (taps_of p) 1 h (words_of wss 1)

-- an active one keeps them in its ring
pub record IsActiveDecim (p : List ℤ) (rs : List MemRec) (wss : List (List ℤ)) (h : History) : Type 0 where
  pub constants : HasConstants p rs wss
  pub keeps : KeepsPhase p h (words_of wss 1)
  pub ring : KeepsRing (taps_of p) h (words_of wss 3)

-- a block of 16-bit samples was run: the ring keeps the longer history, and the outputs are those of the longer history less
-- those before
pub record RanDecim (p : List ℤ) (h : History) (block new ys : List ℤ) : Type 0 where
  pub ring : KeepsRing (taps_of p) (with_samples h block) new
  pub samples : All (FitsSigned w16) block
  pub outputs : outputs_by (decim_gives p) (with_samples h block) ≡ outputs_by (decim_gives p) h ++ ys

-- the object names the three other records, and these are lent
pub record Finds (m : Lent) (taps : ℕ) : Type 0 where
  pub kept : NamedAt m Saram 1 decim_kind (decim_records taps)
  pub constants : NamedAt m External 2 decim_kind (decim_records taps)
  pub ring : NamedAt m Daram 3 decim_kind (decim_records taps)
