use Rattle.std.proofs.Common.{FitsSigned, rules, arith, w16}
use Rattle.std.proofs.lemmas.Grind.{common_steps}
use Rattle.ialg.specs.History.{word_at}
use Rattle.test_diary.proofs.diary.read.Goals as goal

pub loop-k-preserved : goal.loop-k-preserved
loop-k-preserved c =
    let fits : FitsSigned w16 (word_at c.args.words.now c.loop-k.k) = search rules in
    λ j d h. grind (arith, common_steps, c.loop-k.invariant)
