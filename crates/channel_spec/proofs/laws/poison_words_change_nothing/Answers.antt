use Rattle.channel_spec.proofs.PoisonLemmas.{channels_same}
use Rattle.channel_spec.proofs.laws.poison_words_change_nothing.Goals as goal

pub returns : goal.returns
returns g c = λ kinds poison before call. channels_same poison before kinds call
