use Rattle.dsp_console.proofs.samples.write_words.Goals as goal

pub returns : goal.returns
returns c = c.write_i16_into.ensures
