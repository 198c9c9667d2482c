use Rattle.std.proofs.Common.{◌≡◌, [], ◌∷◌, refl, ◌∙◌, lit<, rules}
use Rattle.std.proofs.lemmas.Int.{to_z-of_z}
use mir.Val.{SFits}
use mir.Syntax.{w16}
use Rattle.alg_biquad.specs.Keeps.{Gives, IsNewest}
use Rattle.alg_biquad.proofs.Steps.{newest_of, gives_none, gives_more, ran}
use Rattle.alg_biquad.proofs.kernel.run_one.Goals as goal

pub returns-clause-law : goal.returns-clause-law
returns-clause-law c p h in_force state =
    let xs = c.args.x ∷ [] in
    let s = c.read-after.result in
    let read = c.read-after.ensures in
    let y = c.output_alone-y.result in
    let fy : SFits w16 y = search rules in
    let ex = to_z-of_z w16 c.args.x c.ranges.x in
    let ey = to_z-of_z w16 y fy in
    let after = c.shift.ensures in
    let value = rw (ex, ← read.x1, ← read.x2, ← read.y1, ← read.y2) at c.output_alone-y.ensures in
    let newest : IsNewest p h s = newest_of p h c.args.state.now s read.x1 read.x2 read.y1 read.y2 state in
    let gives : Gives p h xs c.shift.new.self (y ∷ []) =
    gives_more p h c.args.coefficients.now xs [] 0 s c.shift.new.self y (lit< tt) in_force (gives_none p h xs s newest)
    value (after.x1 ∙ ex) after.x2 (after.y1 ∙ ey) after.y2 in
    let pushed : c.push.new.self.items ≡ y ∷ [] = rw (ey, c.requires.empty) at c.push.ensures.items in
    ran p h xs c.write.new.words c.push.new.self.items 1 c.shift.new.self refl (search rules) (rw pushed gives) c.write.ensures
