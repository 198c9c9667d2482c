-- For private members alone: what a kind keeps is a history of 16-bit words, and its write-once records have what its set says.
use Rattle.std.specs.Prelude.{ℤ, List}
use Rattle.mem_rec.specs.declared.MemRec.{MemRec}
use Rattle.ialg.specs.History.{IsWordHistory}
use Rattle.ialg.specs.Log.{Log}
use Rattle.ialg.specs.Records.{HoldFill}
use Rattle.kind_parts.specs.declared.either.Or.TheVariants.{First, Second}
use Rattle.voice_set.specs.Kept as voice
use Rattle.gateway_kinds.specs.Kinds.{Sets, in_gateway}
use Rattle.gateway_kinds.specs.Keeps.{IsIdle, IsActive, kind_laws}

pub idle_words : (k : Sets) (p : List ℤ) (rs : List MemRec) (wss : List (List ℤ)) (l : Log) → IsIdle (in_gateway k) p rs wss l → IsWordHistory l.history
idle_words (First v) p rs wss l keeps = voice.idle_words v p rs wss l keeps
idle_words (Second (First g)) p rs wss l keeps = keeps.keeps.history
idle_words (Second (Second (First m))) p rs wss l keeps = keeps.keeps.history
idle_words (Second (Second (Second (First d)))) p rs wss l keeps = keeps.keeps.history
idle_words (Second (Second (Second (Second (First e))))) p rs wss l keeps = keeps.keeps.history
idle_words (Second (Second (Second (Second (Second (First c)))))) p rs wss l keeps = keeps.keeps.history
idle_words (Second (Second (Second (Second (Second (Second (First g))))))) p rs wss l keeps = keeps.keeps.history
idle_words (Second (Second (Second (Second (Second (Second (Second d))))))) p rs wss l keeps = keeps.keeps.history

pub active_words : (k : Sets) (p : List ℤ) (rs : List MemRec) (wss : List (List ℤ)) (l : Log) → IsActive (in_gateway k) p rs wss l → IsWordHistory l.history
active_words (First v) p rs wss l keeps = voice.active_words v p rs wss l keeps
active_words (Second (First g)) p rs wss l keeps = keeps.keeps.history
active_words (Second (Second (First m))) p rs wss l keeps = keeps.keeps.history
active_words (Second (Second (Second (First d)))) p rs wss l keeps = keeps.keeps.history
active_words (Second (Second (Second (Second (First e))))) p rs wss l keeps = keeps.keeps.history
active_words (Second (Second (Second (Second (Second (First c)))))) p rs wss l keeps = keeps.keeps.history
active_words (Second (Second (Second (Second (Second (Second (First g))))))) p rs wss l keeps = keeps.keeps.history
active_words (Second (Second (Second (Second (Second (Second (Second d))))))) p rs wss l keeps = keeps.keeps.history

pub idle_fill : (k : Sets) (p : List ℤ) (rs : List MemRec) (wss : List (List ℤ)) (l : Log)
    → IsIdle (in_gateway k) p rs wss l → HoldFill (kind_laws.fill (in_gateway k) p) rs wss
idle_fill (First v) p rs wss l keeps k once = voice.idle_fill v p rs wss l keeps k once
idle_fill (Second (First g)) p rs wss l keeps k once = absurd (keeps.placed.none_once k once)
idle_fill (Second (Second (First m))) p rs wss l keeps k once = absurd (keeps.placed.none_once k once)
idle_fill (Second (Second (Second (First d)))) p rs wss l keeps k once = absurd (keeps.placed.none_once k once)
idle_fill (Second (Second (Second (Second (First e))))) p rs wss l keeps k once = absurd (keeps.placed.none_once k once)
idle_fill (Second (Second (Second (Second (Second (First c)))))) p rs wss l keeps k once = absurd (keeps.placed.none_once k once)
idle_fill (Second (Second (Second (Second (Second (Second (First g))))))) p rs wss l keeps k once = absurd (keeps.placed.none_once k once)
idle_fill (Second (Second (Second (Second (Second (Second (Second d))))))) p rs wss l keeps k once = absurd (keeps.placed.none_once k once)

pub active_fill : (k : Sets) (p : List ℤ) (rs : List MemRec) (wss : List (List ℤ)) (l : Log)
    → IsActive (in_gateway k) p rs wss l → HoldFill (kind_laws.fill (in_gateway k) p) rs wss
active_fill (First v) p rs wss l keeps k once = voice.active_fill v p rs wss l keeps k once
active_fill (Second (First g)) p rs wss l keeps k once = absurd (keeps.placed.none_once k once)
active_fill (Second (Second (First m))) p rs wss l keeps k once = absurd (keeps.placed.none_once k once)
active_fill (Second (Second (Second (First d)))) p rs wss l keeps k once = absurd (keeps.placed.none_once k once)
active_fill (Second (Second (Second (Second (First e))))) p rs wss l keeps k once = absurd (keeps.placed.none_once k once)
active_fill (Second (Second (Second (Second (Second (First c)))))) p rs wss l keeps k once = absurd (keeps.placed.none_once k once)
active_fill (Second (Second (Second (Second (Second (Second (First g))))))) p rs wss l keeps k once = absurd (keeps.placed.none_once k once)
active_fill (Second (Second (Second (Second (Second (Second (Second d))))))) p rs wss l keeps k once = absurd (keeps.placed.none_once k once)
