use Rattle.alg_dtmf.specs.Equation.{code_by}
use Rattle.alg_dtmf.proofs.decision.code_of_tones.Goals as goal

pub returns-in-Some-None : goal.returns-in-Some-None
unfolding code_by
returns-in-Some-None c = cc
