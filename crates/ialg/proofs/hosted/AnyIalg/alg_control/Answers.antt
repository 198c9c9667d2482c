use Rattle.std.proofs.Common.{◌≡◌, ap, refl, sym, ◌∙◌}
use Rattle.ialg.specs.History.{Set, Reset}
use Rattle.ialg.specs.Views.{control_of}
use Rattle.ialg.proofs.hosted.AnyIalg.alg_control.Goals as goal

pub returns-in-Set-clause-law : goal.returns-in-Set-clause-law
returns-in-Set-clause-law g c p w l lawful accepts writable lent active =
    let h = l.history in
    let e : control_of c.args.c.now ≡ Set c.as_slice.result.now = ap control_of c.in-Set.is ∙ ap Set (sym c.as_slice.ensures.value) in
    rw e (c.set.ensures.law p h lent (rw e at accepts) active, refl)

pub returns-in-Reset-clause-law : goal.returns-in-Reset-clause-law
returns-in-Reset-clause-law g c p w l lawful accepts writable lent active =
    let h = l.history in
    let e : control_of c.args.c.now ≡ Reset = ap control_of c.in-Reset.is in
    rw e (c.reset.ensures.law p h lent active, refl)
