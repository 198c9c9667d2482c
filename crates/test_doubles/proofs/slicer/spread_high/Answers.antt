use Rattle.std.proofs.Common.{◌≡◌, rules, to_z, of_z}
use Rattle.std.proofs.lemmas.Int.{to_z-of_z}
use mir.Val.{SFits}
use mir.Syntax.{w16}
use Rattle.test_doubles.proofs.slicer.spread_high.Goals as goal

pub returns-clause-spread : goal.returns-clause-spread
returns-clause-spread c kind records named scratch =
    let fits : SFits w16 c.args.word = search rules in
    let same : to_z w16 (of_z w16 c.args.word) ≡ c.args.word = to_z-of_z w16 c.args.word fits in
    rw same at (c.spread.ensures.spread kind records named scratch)
