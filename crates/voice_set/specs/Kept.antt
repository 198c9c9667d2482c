-- For private members alone: what a voice keeps is a history of 16-bit words, and its write-once records have what its kind says.
use Rattle.std.specs.Prelude.{ℤ, List}
use Rattle.mem_rec.specs.declared.MemRec.{MemRec}
use Rattle.ialg.specs.History.{IsWordHistory}
use Rattle.ialg.specs.Log.{Log}
use Rattle.ialg.specs.Records.{HoldFill}
use Rattle.voice_set.specs.declared.voice.Voice.{Voice}
use Rattle.voice_set.specs.declared.voice.Voice.TheVariants.{Fir, Decim, Biquad, Tone, G711}
use Rattle.voice_set.specs.Keeps.{voice_fill, IsIdle, IsActive}

pub idle_words : (voice : Voice) (p : List ℤ) (rs : List MemRec) (wss : List (List ℤ)) (l : Log)
    → IsIdle voice p rs wss l → IsWordHistory l.history
idle_words Fir p rs wss l keeps = keeps.keeps.history
idle_words Decim p rs wss l keeps = keeps.keeps.history
idle_words Biquad p rs wss l keeps = keeps.keeps.history
idle_words Tone p rs wss l keeps = keeps.keeps.history
idle_words G711 p rs wss l keeps = keeps.history

pub active_words : (voice : Voice) (p : List ℤ) (rs : List MemRec) (wss : List (List ℤ)) (l : Log)
    → IsActive voice p rs wss l → IsWordHistory l.history
active_words Fir p rs wss l keeps = keeps.keeps.history
active_words Decim p rs wss l keeps = keeps.keeps.history
active_words Biquad p rs wss l keeps = keeps.keeps.history
active_words Tone p rs wss l keeps = keeps.keeps.history
active_words G711 p rs wss l keeps = keeps.history

pub idle_fill : (voice : Voice) (p : List ℤ) (rs : List MemRec) (wss : List (List ℤ)) (l : Log)
    → IsIdle voice p rs wss l → HoldFill (voice_fill voice p) rs wss
idle_fill Fir p rs wss l keeps k once = absurd (keeps.placed.none_once k once)
idle_fill Decim p rs wss l keeps k once = keeps.constants.constants k once
idle_fill Biquad p rs wss l keeps k once = absurd (keeps.placed.none_once k once)
idle_fill Tone p rs wss l keeps k once = absurd (keeps.placed.none_once k once)
idle_fill G711 p rs wss l keeps k once = keeps.samples k once

pub active_fill : (voice : Voice) (p : List ℤ) (rs : List MemRec) (wss : List (List ℤ)) (l : Log)
    → IsActive voice p rs wss l → HoldFill (voice_fill voice p) rs wss
active_fill Fir p rs wss l keeps k once = absurd (keeps.placed.none_once k once)
active_fill Decim p rs wss l keeps k once = keeps.constants.constants k once
active_fill Biquad p rs wss l keeps k once = absurd (keeps.placed.none_once k once)
active_fill Tone p rs wss l keeps k once = absurd (keeps.placed.none_once k once)
active_fill G711 p rs wss l keeps k once = keeps.samples k once
