use Rattle.std.proofs.Common.{◌++◌, [], refl, sym, ◌∙◌, ap}
use Rattle.ialg.specs.History.{with_samples}
use Rattle.ialg.specs.Loans.{lent_words}
use Rattle.ialg.specs.Log.{fed, Process}
use Rattle.ialg.proofs.Histories.{IsWordHistory-with_samples}
use Rattle.test_diary.proofs.Notes.{diary_named, lent_diary, nothing_given, with_note}
use Rattle.test_diary.proofs.diary.DiaryIalg.process.Goals as goal

pub returns-clause-law : goal.returns-clause-law
returns-clause-law c p w l lawful closed lent keeps =
    let m = c.args.mem.now in
    let rs = m.table.now in
    let xs = c.args.input.now in
    let size = lent_diary rs (lent_words m) keeps.object.on_table lent in
    let words = IsWordHistory-with_samples l.history xs keeps.notes.history c.read.ensures in (
      with_note rs Process m c.note_in.new.mem l (fed l xs) words refl keeps size (c.note_in.ensures.noted (diary_named m keeps.object size)),
      rw (nothing_given (with_samples l.history xs), nothing_given l.history, c.requires.empty) refl,
    )
