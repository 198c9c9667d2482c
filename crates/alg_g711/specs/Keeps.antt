-- How the words of an instance keep its history: private clauses alone need this.
use Rattle.std.specs.Prelude.{◌≡◌, ℕ, zero, suc, ℤ, List, [], Option, Some, None}
use Rattle.mem_rec.specs.declared.MemRec.{MemRec}
use Rattle.ialg.specs.History.{History, IsWordHistory}
use Rattle.ialg.specs.Records.{words_of, HoldFill}
use Rattle.ialg.specs.Objects.{Names}
use Rattle.alg_g711.specs.declared.companding.Law.{Law}
use Rattle.alg_g711.specs.declared.coder.Direction.{Direction}
use Rattle.alg_g711.specs.declared.coder.Direction.TheVariants.{Decode}
use Rattle.alg_g711.specs.declared.coder.Coder.{Coder}
use Rattle.alg_g711.specs.Companding.{samples_of_codes}
use Rattle.alg_g711.specs.Meaning.{coder_named, kind_word, records_of}

-- the words of record k, where it is write-once
abbrev pub fill_by : Law → Direction → ℕ → List ℤ
fill_by law Decode (suc zero) = samples_of_codes law
fill_by _ _ _ = []

abbrev pub fill_of : Option Coder → ℕ → List ℤ
fill_of None k = []
fill_of (Some coder) k = fill_by coder.law coder.direction k

-- the object names the coder and its records, and a decoder has the samples of the codes; idle or active is the same, since
-- nothing depends on the past
pub record Keeps (p : List ℤ) (rs : List MemRec) (wss : List (List ℤ)) (h : History) : Type 0 where
  pub coder : Coder
  pub granted : coder_named p ≡ Some coder
  pub object : Names (kind_word coder.law coder.direction) (records_of coder.direction) rs (words_of wss 0)
  pub samples : HoldFill (fill_of (coder_named p)) rs wss
  pub history : IsWordHistory h
