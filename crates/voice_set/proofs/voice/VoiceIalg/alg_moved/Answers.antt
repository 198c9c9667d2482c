use Rattle.voice_set.proofs.voice.VoiceIalg.alg_moved.Goals as goal

pub returns-in-Fir-clause-idle : goal.returns-in-Fir-clause-idle
returns-in-Fir-clause-idle c = rw c.in-Fir.is c.alg_moved.ensures.idle

pub returns-in-Fir-clause-active : goal.returns-in-Fir-clause-active
returns-in-Fir-clause-active c = rw c.in-Fir.is c.alg_moved.ensures.active

pub returns-in-Decim-clause-idle : goal.returns-in-Decim-clause-idle
returns-in-Decim-clause-idle c = rw c.in-Decim.is c.alg_moved-in-Decim.ensures.idle

pub returns-in-Decim-clause-active : goal.returns-in-Decim-clause-active
returns-in-Decim-clause-active c = rw c.in-Decim.is c.alg_moved-in-Decim.ensures.active

pub returns-in-Biquad-clause-idle : goal.returns-in-Biquad-clause-idle
returns-in-Biquad-clause-idle c = rw c.in-Biquad.is c.alg_moved-in-Biquad.ensures.idle

pub returns-in-Biquad-clause-active : goal.returns-in-Biquad-clause-active
returns-in-Biquad-clause-active c = rw c.in-Biquad.is c.alg_moved-in-Biquad.ensures.active

pub returns-in-Tone-clause-idle : goal.returns-in-Tone-clause-idle
returns-in-Tone-clause-idle c = rw c.in-Tone.is c.alg_moved-in-Tone.ensures.idle

pub returns-in-Tone-clause-active : goal.returns-in-Tone-clause-active
returns-in-Tone-clause-active c = rw c.in-Tone.is c.alg_moved-in-Tone.ensures.active

pub returns-in-G711-clause-idle : goal.returns-in-G711-clause-idle
returns-in-G711-clause-idle c = rw c.in-G711.is c.alg_moved-in-G711.ensures.idle

pub returns-in-G711-clause-active : goal.returns-in-G711-clause-active
returns-in-G711-clause-active c = rw c.in-G711.is c.alg_moved-in-G711.ensures.active
