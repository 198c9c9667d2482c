use Rattle.std.proofs.Common.{Ok, ◌∙◌, ap, sym}
use Rattle.host_spec.specs.Steps.{unless}
use Rattle.voice_channel.proofs.channels.Channels.ready.Goals as goal

pub returns-clause-machine : goal.returns-clause-machine
returns-clause-machine g c = λ before keeps. (
  before,
  c.answered.ensures.answer before ∙ ap (λ r. unless r before (Ok tt, before)) (sym (c.refusal.ensures.refusal before keeps.chained)),
  keeps,
)
