-- The hosted kinds and the scribbler as one kind: each means what it means in its set.
use Rattle.std.specs.Prelude.{ℤ, List, []}
use Rattle.mem_rec.specs.declared.MemRec.{MemRec}
use Rattle.ialg.specs.History.{IsWordHistory}
use Rattle.ialg.specs.Log.{Log}
use Rattle.ialg.specs.Laws.{Laws}
use Rattle.ialg.specs.Records.{HoldFill}
use Rattle.voice_set.specs.declared.voice.Voice.{Voice}
use Rattle.voice_set.specs.Keeps as voices
use Rattle.voice_set.specs.Kept as kept
use Rattle.kind_parts.specs.declared.either.Or.{Or}
use Rattle.kind_parts.specs.declared.either.Or.TheVariants.{First, Second}
use Rattle.kind_parts.specs.Either.{told, either_refines}
use Rattle.test_doubles.specs.declared.scribbler.Scribbler.{Scribbler}
use Rattle.test_doubles.specs.declared.trial.Trial.{Trial}

abbrev pub trial_laws : Laws (Or Voice Scribbler) → Laws Trial
trial_laws laws = record {
  meaning = record {
    same = λ a b. laws.meaning.same a.kind b.kind;
    table = λ t. laws.meaning.table t.kind;
    gives = λ t. laws.meaning.gives t.kind;
    accepts = λ t. laws.meaning.accepts t.kind;
    got = λ t. laws.meaning.got t.kind;
    declares = λ t. laws.meaning.declares t.kind;
    lawful = λ t. laws.meaning.lawful t.kind;
  };
  bound = λ t. laws.bound t.kind;
  fill = λ t. laws.fill t.kind;
  idle_refines = λ t. laws.idle_refines t.kind;
  active_refines = λ t. laws.active_refines t.kind;
}

-- what IALG asks of the words that refine a history: those of a scribbler refine none
pub idle_words : (kind : Or Voice Scribbler) (p : List ℤ) (rs : List MemRec) (wss : List (List ℤ)) (l : Log)
    → either_refines voices.IsIdle (λ _ p rs wss l. ⊥) kind p rs wss l → IsWordHistory l.history
idle_words (First voice) p rs wss l keeps = kept.idle_words voice p rs wss l keeps
idle_words (Second scribbler) p rs wss l keeps = absurd keeps

pub active_words : (kind : Or Voice Scribbler) (p : List ℤ) (rs : List MemRec) (wss : List (List ℤ)) (l : Log)
    → either_refines voices.IsActive (λ _ p rs wss l. ⊥) kind p rs wss l → IsWordHistory l.history
active_words (First voice) p rs wss l keeps = kept.active_words voice p rs wss l keeps
active_words (Second scribbler) p rs wss l keeps = absurd keeps

pub idle_fill : (kind : Or Voice Scribbler) (p : List ℤ) (rs : List MemRec) (wss : List (List ℤ)) (l : Log)
    → either_refines voices.IsIdle (λ _ p rs wss l. ⊥) kind p rs wss l → HoldFill (told voices.voice_fill (λ _ p k. []) kind p) rs wss
idle_fill (First voice) p rs wss l keeps = kept.idle_fill voice p rs wss l keeps
idle_fill (Second scribbler) p rs wss l keeps = absurd keeps

pub active_fill : (kind : Or Voice Scribbler) (p : List ℤ) (rs : List MemRec) (wss : List (List ℤ)) (l : Log)
    → either_refines voices.IsActive (λ _ p rs wss l. ⊥) kind p rs wss l → HoldFill (told voices.voice_fill (λ _ p k. []) kind p) rs wss
active_fill (First voice) p rs wss l keeps = kept.active_fill voice p rs wss l keeps
active_fill (Second scribbler) p rs wss l keeps = absurd keeps
