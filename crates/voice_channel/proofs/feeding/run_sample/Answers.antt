use Rattle.std.proofs.Common.{rules, ◌∷◌, [], lit≤, SFits, w16}
use Rattle.std.proofs.Math.Facts.{to_z-of_z}
use Rattle.voice_channel.proofs.Fed.{ran}
use Rattle.voice_channel.proofs.feeding.run_sample.Goals as goal

pub returns-in-Some-clause-told : goal.returns-in-Some-clause-told
returns-in-Some-clause-told g c =
    let fits : SFits w16 c.in-Some.told = search rules in
    rw (to_z-of_z {w = w16} fits)
    (ran g.M.Ialg.law c.args.member (c.args.x ∷ []) (c.in-Some.told ∷ []) c.args.host.now c.args.host.now (lit≤ tt)
    (rw (to_z-of_z {w = w16} c.ranges.x) at c.in-Some.ensures.machine))

pub returns-in-None-clause-passes : goal.returns-in-None-clause-passes
returns-in-None-clause-passes g c = rw (to_z-of_z {w = w16} c.ranges.x) at c.run.ensures.passes
