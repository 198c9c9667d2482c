-- What is said of an algorithm type that keeps no law: no words refine a history of it, and its write-once records hold nothing.
use Rattle.std.specs.Prelude.{ℤ, List, []}
use Rattle.mem_rec.specs.declared.MemRec.{MemRec}
use Rattle.ialg.specs.History.{IsWordHistory}
use Rattle.ialg.specs.Log.{Log}
use Rattle.ialg.specs.Laws.{Laws}
use Rattle.ialg.specs.Meaning.{Meaning}
use Rattle.ialg.specs.Records.{HoldFill}

abbrev pub lawless : {K : Type 0} → Meaning K → Laws K
lawless meaning = record {
  meaning = meaning;
  bound = λ _. 0;
  fill = λ _ p k. [];
  idle_refines = λ _ p rs wss l. ⊥;
  active_refines = λ _ p rs wss l. ⊥;
}

-- what IALG asks of the words that refine a history
pub is_word_history : {K : Type 0} (kind : K) (p : List ℤ) (rs : List MemRec) (wss : List (List ℤ)) (l : Log) → ⊥ → IsWordHistory l.history
is_word_history kind p rs wss l keeps = absurd keeps

pub holds_fill : {K : Type 0} (kind : K) (p : List ℤ) (rs : List MemRec) (wss : List (List ℤ)) (l : Log) → ⊥ → HoldFill (λ k. []) rs wss
holds_fill kind p rs wss l keeps = absurd keeps
