use Rattle.std.proofs.Common.{◌∙◌, ap, Some}
use Rattle.alg_g711.proofs.Coders.{same_parameters, same_coder}
use Rattle.alg_g711.proofs.kind.get.Goals as goal

pub returns-in-Some : goal.returns-in-Some
returns-in-Some c p h keeps =
    let e = same_coder c.coder_of.result c.in-Some.coder keeps.coder c.in-Some.is ((rw c.object.ensures at c.coder_of.ensures) keeps.coder _ _ keeps.object) in
    c.copied.ensures ∙ same_parameters p c.parameters.result keeps.coder keeps.granted (c.parameters.ensures ∙ ap Some e)

pub returns-in-None : goal.returns-in-None
returns-in-None c p h keeps = let e = (rw c.object.ensures at c.coder_of.ensures) keeps.coder _ _ keeps.object in cc
