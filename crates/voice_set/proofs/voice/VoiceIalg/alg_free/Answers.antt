use Rattle.voice_set.proofs.voice.VoiceIalg.alg_free.Goals as goal

pub returns-in-Fir : goal.returns-in-Fir
returns-in-Fir c = rw c.in-Fir.is c.alg_free.ensures

pub returns-in-Decim : goal.returns-in-Decim
returns-in-Decim c = rw c.in-Decim.is c.alg_free-in-Decim.ensures

pub returns-in-Biquad : goal.returns-in-Biquad
returns-in-Biquad c = rw c.in-Biquad.is c.alg_free-in-Biquad.ensures

pub returns-in-Tone : goal.returns-in-Tone
returns-in-Tone c = rw c.in-Tone.is c.alg_free-in-Tone.ensures

pub returns-in-G711 : goal.returns-in-G711
returns-in-G711 c = rw c.in-G711.is c.alg_free-in-G711.ensures
