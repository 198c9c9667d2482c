use Rattle.std.proofs.Common.{rules}
use Rattle.std.proofs.lemmas.Int.{to_z-of_z}
use mir.Val.{SFits}
use mir.Syntax.{w16}
use Rattle.alg_biquad.proofs.Steps.{four_written}
use Rattle.alg_biquad.proofs.kernel.State.write.Goals as goal

pub returns : goal.returns
returns c =
    let s = c.args.self in
    let f1 : SFits w16 s.x1 = search rules in
    let f2 : SFits w16 s.x2 = search rules in
    let f3 : SFits w16 s.y1 = search rules in
    let f4 : SFits w16 s.y2 = search rules in
    rw (to_z-of_z w16 s.x1 f1, to_z-of_z w16 s.x2 f2, to_z-of_z w16 s.y1 f3, to_z-of_z w16 s.y2 f4)
    (four_written c.args.words.now s.x1 s.x2 s.y1 s.y2 c.requires)
