use Rattle.voice_set.proofs.voice.VoiceIalg.alg_alloc.Goals as goal

pub returns-in-Fir-clause-law : goal.returns-in-Fir-clause-law
returns-in-Fir-clause-law c = rw c.in-Fir.is c.alg_alloc.ensures.law

pub returns-in-Fir-clause-bounded : goal.returns-in-Fir-clause-bounded
returns-in-Fir-clause-bounded c = rw c.in-Fir.is c.alg_alloc.ensures.bounded

pub returns-in-Fir-clause-unplaced : goal.returns-in-Fir-clause-unplaced
returns-in-Fir-clause-unplaced c = rw c.in-Fir.is c.alg_alloc.ensures.unplaced

pub returns-in-Decim-clause-law : goal.returns-in-Decim-clause-law
returns-in-Decim-clause-law c = rw c.in-Decim.is c.alg_alloc-in-Decim.ensures.law

pub returns-in-Decim-clause-unplaced : goal.returns-in-Decim-clause-unplaced
returns-in-Decim-clause-unplaced c = rw c.in-Decim.is c.alg_alloc-in-Decim.ensures.unplaced

pub returns-in-Biquad-clause-law : goal.returns-in-Biquad-clause-law
returns-in-Biquad-clause-law c = rw c.in-Biquad.is c.alg_alloc-in-Biquad.ensures.law

pub returns-in-Biquad-clause-bounded : goal.returns-in-Biquad-clause-bounded
returns-in-Biquad-clause-bounded c = rw c.in-Biquad.is c.alg_alloc-in-Biquad.ensures.bounded

pub returns-in-Biquad-clause-unplaced : goal.returns-in-Biquad-clause-unplaced
returns-in-Biquad-clause-unplaced c = rw c.in-Biquad.is c.alg_alloc-in-Biquad.ensures.unplaced

pub returns-in-Tone-clause-law : goal.returns-in-Tone-clause-law
returns-in-Tone-clause-law c = rw c.in-Tone.is c.alg_alloc-in-Tone.ensures.law

pub returns-in-Tone-clause-bounded : goal.returns-in-Tone-clause-bounded
returns-in-Tone-clause-bounded c = rw c.in-Tone.is c.alg_alloc-in-Tone.ensures.bounded

pub returns-in-Tone-clause-unplaced : goal.returns-in-Tone-clause-unplaced
returns-in-Tone-clause-unplaced c = rw c.in-Tone.is c.alg_alloc-in-Tone.ensures.unplaced

pub returns-in-G711-clause-law : goal.returns-in-G711-clause-law
returns-in-G711-clause-law c = rw c.in-G711.is c.alg_alloc-in-G711.ensures.law

pub returns-in-G711-clause-bounded : goal.returns-in-G711-clause-bounded
returns-in-G711-clause-bounded c = rw c.in-G711.is c.alg_alloc-in-G711.ensures.bounded

pub returns-in-G711-clause-unplaced : goal.returns-in-G711-clause-unplaced
returns-in-G711-clause-unplaced c = rw c.in-G711.is c.alg_alloc-in-G711.ensures.unplaced
