use Rattle.std.proofs.Common.{ap, ◌∷◌}
use Rattle.ialg.specs.History.{Control, Get}
use Rattle.ialg.specs.Meaning.{Words}
use Rattle.ialg.specs.Loans.{lent_words}
use Rattle.alg_g711.proofs.Keeping.{goes_on}
use Rattle.alg_g711.proofs.kind.G711Ialg.alg_control.Goals as goal

pub returns-in-Get-clause-law : goal.returns-in-Get-clause-law
returns-in-Get-clause-law c p w l lawful accepted closed lent keeps =
    let h = l.history in
    let m = c.args.mem.now in
    let after = goes_on p m.table.now (lent_words m) h (Control Get ∷ h) (tt, keeps.history) keeps in
    rw c.in-Get.is (after, ap Words (c.get.ensures p h keeps))
