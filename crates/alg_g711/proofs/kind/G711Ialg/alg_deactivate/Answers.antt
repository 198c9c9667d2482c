use Rattle.ialg.specs.Loans.{lent_words}
use Rattle.alg_g711.proofs.Keeping.{without_scratch}
use Rattle.alg_g711.proofs.kind.G711Ialg.alg_deactivate.Goals as goal

pub returns-clause-law : goal.returns-clause-law
returns-clause-law c p w l begun closed lent keeps =
    let h = l.history in
    without_scratch p c.args._mem.now.table.now (lent_words c.args._mem.now) h keeps
