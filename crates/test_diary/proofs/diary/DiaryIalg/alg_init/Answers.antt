use Rattle.std.proofs.Common.{◌≡◌, length, sym, ap, ◌∙◌, arith}
use Rattle.std.proofs.lemmas.Option.{same_Some}
use Rattle.ialg.specs.Records.{unplaced}
use Rattle.ialg.specs.Loans.{lent_words}
use Rattle.ialg.specs.Log.{begun}
use Rattle.ialg.specs.Filters.{filter_records}
use Rattle.ialg.proofs.Tables.{idle_lent_size}
use Rattle.test_diary.specs.Diary.{diary_memory, Keeps}
use Rattle.test_diary.proofs.Notes.{diary_named, lasting_diary, when_idle}
use Rattle.test_diary.proofs.diary.DiaryIalg.alg_init.Goals as goal

pub returns-clause-law : goal.returns-clause-law
returns-clause-law c w lawful taken table lent writable new =
    let tab = c.args.tab.now in
    let old = lent_words c.args.mem.now in
    let m = c.name_records.new.self in
    let after = lent_words c.begin.new.mem in
    let records : unplaced tab ≡ filter_records diary_memory = sym (same_Some _ _ taken) in
    let others = c.name_records.ensures.others in
    let names = rw records at (c.name_records.ensures.names (idle_lent_size tab (filter_records diary_memory) records old lent 0)) in
    let size = ap (λ r. length r.now) (others.others1 (λ e. omega arith)) ∙ lasting_diary tab old records lent in
    let same = ap (λ b. b.now) others.table ∙ table in
    let done = c.begin.ensures.begun (diary_named m (rw same names) size) in
    let keeps : Keeps tab after begun = record { object = rw done.object names; notes = record { history = tt; calls = done.calls size } } in
    when_idle tab after begun keeps
