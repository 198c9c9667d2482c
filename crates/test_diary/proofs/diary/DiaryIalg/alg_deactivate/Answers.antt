use Rattle.std.proofs.Common.{refl}
use Rattle.ialg.specs.Loans.{lent_words}
use Rattle.ialg.specs.Log.{called, Deactivate}
use Rattle.test_diary.proofs.Notes.{diary_named, lent_diary, when_idle, with_note}
use Rattle.test_diary.proofs.diary.DiaryIalg.alg_deactivate.Goals as goal

pub returns-clause-law : goal.returns-clause-law
returns-clause-law c p w l lawful closed lent keeps =
    let m = c.args.mem.now in
    let rs = m.table.now in
    let size = lent_diary rs (lent_words m) keeps.object.on_table lent in
    when_idle rs (lent_words c.note_in.new.mem) (called Deactivate l)
    (with_note rs Deactivate m c.note_in.new.mem l (called Deactivate l) keeps.notes.history refl keeps size (c.note_in.ensures.noted (diary_named m keeps.object size)))
