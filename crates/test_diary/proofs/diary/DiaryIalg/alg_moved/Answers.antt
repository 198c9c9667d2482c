use Rattle.std.proofs.Common.{◌≡◌, length, refl, sym, ap, ◌∙◌, arith}
use Rattle.ialg.specs.Records.{unplaced}
use Rattle.ialg.specs.Loans.{lent_words}
use Rattle.ialg.specs.Log.{called, Moved}
use Rattle.ialg.specs.Filters.{filter_records}
use Rattle.ialg.proofs.Tables.{idle_lent_size}
use Rattle.ialg.proofs.Loans.{SameLoans-then}
use Rattle.test_diary.specs.Diary.{diary_memory, Keeps}
use Rattle.test_diary.proofs.Notes.{diary_named, lent_diary, lasting_diary, when_idle, when_lent, with_note}
use Rattle.test_diary.proofs.diary.DiaryIalg.alg_moved.Goals as goal

pub returns-clause-active : goal.returns-clause-active
returns-clause-active c p w l before lawful moved table closed lent keeps =
    let tab = c.args.tab.now in
    let m = c.name_records.new.self in
    let others = c.name_records.ensures.others in
    let records : unplaced tab ≡ filter_records diary_memory = sym moved ∙ keeps.object.on_table in
    let names = rw records at (c.name_records.ensures.names keeps.object.long) in
    let first = others.others1 (λ e. omega arith) in
    let size = ap (λ r. length r.now) first ∙ lent_diary tab (lent_words c.args.mem.now) records lent in
    let same = ap (λ b. b.now) others.table ∙ table in
    let now : Keeps tab (lent_words m) l = record { object = names; notes = rw first keeps.notes } in
    with_note tab Moved m c.note_in.new.mem l (called Moved l) keeps.notes.history refl now size (c.note_in.ensures.noted (diary_named m (rw same names) size))

pub returns-clause-idle : goal.returns-clause-idle
returns-clause-idle c p w l before lawful moved table closed lent idle =
    let tab = c.args.tab.now in
    let old = lent_words c.args.mem.now in
    let m = c.name_records.new.self in
    let keeps = when_lent tab old l before moved idle in
    let others = c.name_records.ensures.others in
    let records : unplaced tab ≡ filter_records diary_memory = sym moved ∙ keeps.object.on_table in
    let names = rw records at (c.name_records.ensures.names keeps.object.long) in
    let first = others.others1 (λ e. omega arith) in
    let size = ap (λ r. length r.now) first ∙ lasting_diary tab old records lent in
    let same = ap (λ b. b.now) others.table ∙ table in
    let now : Keeps tab (lent_words m) l = record { object = names; notes = rw first keeps.notes } in
    when_idle tab (lent_words c.note_in.new.mem) (called Moved l)
    (with_note tab Moved m c.note_in.new.mem l (called Moved l) keeps.notes.history refl now size (c.note_in.ensures.noted (diary_named m (rw same names) size)))

pub returns-clause-loans : goal.returns-clause-loans
returns-clause-loans c = SameLoans-then _ _ _ c.name_records.ensures.loans c.note_in.ensures.loans
