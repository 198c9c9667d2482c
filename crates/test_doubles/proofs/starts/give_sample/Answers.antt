use Rattle.std.proofs.Common.{[], ◌≡◌, ◌++◌, ◌∷◌, refl, rules, to_z, of_z, sym, ap, ◌∙◌}
use Rattle.std.proofs.lemmas.Int.{to_z-of_z}
use mir.Val.{SFits}
use mir.Syntax.{w16}
use Rattle.ialg.specs.History.{Sample}
use Rattle.test_doubles.proofs.Kept.{silent}
use Rattle.test_doubles.proofs.starts.give_sample.Goals as goal

pub returns-clause-law : goal.returns-clause-law
returns-clause-law c p w h lawful closed lent active =
    let x = c.args.sample in
    let fits : SFits w16 x = search rules in
    let same : to_z w16 (of_z w16 x) ≡ x = to_z-of_z w16 x fits in
    let given = rw same at (c.give.ensures.law p w (record { history = h; calls = [] }) lawful refl closed lent active) in
    let out = c.give.new.out.items in
    (given.0, sym (ap (λ o. o ++ out) (silent h)) ∙ sym given.1 ∙ silent (Sample x ∷ h), given.2)
