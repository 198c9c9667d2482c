use Rattle.std.proofs.Common.{refl}
use Rattle.ialg.specs.Loans.{lent_words}
use Rattle.ialg.specs.Log.{called, Activate}
use Rattle.test_diary.proofs.Notes.{diary_named, lent_diary, when_lent, with_note}
use Rattle.test_diary.proofs.diary.DiaryIalg.alg_activate.Goals as goal

pub returns-clause-law : goal.returns-clause-law
returns-clause-law c p w l lawful closed lent poison idle =
    let m = c.args.mem.now in
    let rs = m.table.now in
    let keeps = when_lent rs (lent_words m) l rs refl idle in
    let size = lent_diary rs (lent_words m) keeps.object.on_table lent in
    with_note rs Activate m c.note_in.new.mem l (called Activate l) keeps.notes.history refl keeps size (c.note_in.ensures.noted (diary_named m keeps.object size))
