use Rattle.std.proofs.Common.{◌≡◌, ap, refl}
use Rattle.ialg.specs.History.{Reset, Get}
use Rattle.ialg.specs.Meaning.{Words}
use Rattle.ialg.specs.Views.{control_of}
use Rattle.ialg.specs.Loans.{lent_words}
use Rattle.ialg.specs.Log.{commanded, Command}
use Rattle.test_diary.proofs.Notes.{diary_named, lent_diary, with_note}
use Rattle.test_diary.proofs.diary.DiaryIalg.alg_control.Goals as goal

pub returns-in-Get-clause-law : goal.returns-in-Get-clause-law
returns-in-Get-clause-law c p w l lawful accepts closed lent keeps =
    let m = c.args.mem.now in
    let rs = m.table.now in
    let e : control_of c.args.c.now ≡ Get = ap control_of c.in-Get.is in
    let size = lent_diary rs (lent_words m) keeps.object.on_table lent in
    let noted = with_note rs Command m c.note_in.new.mem l (commanded l Get) (tt, keeps.notes.history) refl keeps size (c.note_in.ensures.noted (diary_named m keeps.object size)) in
    rw e (noted, ap Words c.new.ensures)

pub returns-in-Reset-clause-law : goal.returns-in-Reset-clause-law
returns-in-Reset-clause-law c p w l lawful accepts closed lent keeps =
    let m = c.args.mem.now in
    let rs = m.table.now in
    let e : control_of c.args.c.now ≡ Reset = ap control_of c.in-Reset.is in
    let size = lent_diary rs (lent_words m) keeps.object.on_table lent in
    let noted = with_note rs Command m c.note_in.new.mem l (commanded l Reset) (tt, keeps.notes.history) refl keeps size (c.note_in.ensures.noted (diary_named m keeps.object size)) in
    rw e (noted, refl)
