use Rattle.std.proofs.Common.{refl, None, []}
use Rattle.ialg.specs.Log.{called, fed, Activate, Deactivate}
use Rattle.ialg.specs.Loans.{lent_words}
use Rattle.test_diary.proofs.Notes.{when_lent}
use Rattle.test_diary.proofs.turns.take_diary_turn.Goals as goal

pub returns-clause-diary : goal.returns-clause-diary
returns-clause-diary c l closed lent keeps =
    let rs = c.args.mem.now.table.now in
    let after = c.take_turn.ensures.law [] None l refl closed lent (λ k scratch. tt) keeps in
    (when_lent rs (lent_words c.take_turn.new.mem) (called Deactivate (fed (called Activate l) c.args.input.now)) rs refl after).notes.calls
