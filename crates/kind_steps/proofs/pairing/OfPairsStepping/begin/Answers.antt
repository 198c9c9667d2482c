use Rattle.std.proofs.Common.{[], ◌∙◌}
use Rattle.kind_steps.proofs.Pairings.{zero_state}
use Rattle.kind_steps.proofs.pairing.OfPairsStepping.begin.Goals as goal

pub returns : goal.returns
returns g c =
    let F = g.K.Pairing in
    let p = c.args._p.now in
    zero_state (F.words p) (F.state_of p []) c.clear.new.words (g.met.K.Pairing.begins p c.requires.takes) (c.clear.auto.words ∙ c.requires.size) c.clear.ensures
