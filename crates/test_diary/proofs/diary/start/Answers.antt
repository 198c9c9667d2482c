use Rattle.std.proofs.Common.{◌∙◌, []}
use Rattle.ialg.specs.Log.{Init}
use Rattle.test_diary.proofs.Notes.{one_more}
use Rattle.test_diary.proofs.diary.start.Goals as goal

pub returns : goal.returns
returns c size = one_more Init c.clear.new.words c.note.new.words [] (c.clear.auto.words ∙ size) (λ k b. c.clear.ensures k) c.note.ensures
