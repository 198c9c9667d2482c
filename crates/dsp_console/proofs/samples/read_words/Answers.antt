use Rattle.std.proofs.Common.{◌∙◌, ◌*◌, ap, sym}
use Rattle.voice_script.specs.declared.octets.TheConstants.{WORD_OCTETS}
use Rattle.dsp_console.proofs.SampleLemmas.{read-samples}
use Rattle.dsp_console.proofs.samples.read_words.Goals as goal

pub returns : goal.returns
returns c =
    read-samples c.args.octets.now c.read_i16_into.new.dst (c.requires ∙ ap (λ n. WORD_OCTETS * n) (sym c.read_i16_into.auto.dst)) c.read_i16_into.ensures
