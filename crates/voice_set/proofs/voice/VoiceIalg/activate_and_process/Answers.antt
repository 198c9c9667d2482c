use Rattle.voice_set.proofs.voice.VoiceIalg.activate_and_process.Goals as goal

pub returns-in-Fir-clause-law : goal.returns-in-Fir-clause-law
returns-in-Fir-clause-law c = rw c.in-Fir.is c.activate_and_process.ensures.law

pub returns-in-Decim-clause-law : goal.returns-in-Decim-clause-law
returns-in-Decim-clause-law c = rw c.in-Decim.is c.activate_and_process-in-Decim.ensures.law

pub returns-in-Biquad-clause-law : goal.returns-in-Biquad-clause-law
returns-in-Biquad-clause-law c = rw c.in-Biquad.is c.activate_and_process-in-Biquad.ensures.law

pub returns-in-Tone-clause-law : goal.returns-in-Tone-clause-law
returns-in-Tone-clause-law c = rw c.in-Tone.is c.activate_and_process-in-Tone.ensures.law

pub returns-in-G711-clause-law : goal.returns-in-G711-clause-law
returns-in-G711-clause-law c = rw c.in-G711.is c.activate_and_process-in-G711.ensures.law
