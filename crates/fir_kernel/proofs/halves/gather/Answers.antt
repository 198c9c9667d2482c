use Rattle.std.proofs.Common.{◌<◌, ◌+◌, ◌*◌, length, FitsSigned, rules, w16, arith, refl}
use Rattle.std.proofs.lemmas.Int.{to_z-of_z}
use Rattle.ialg.specs.History.{word_at}
use Rattle.fir_kernel.proofs.Written.{written_next}
use Rattle.fir_kernel.proofs.halves.gather.Goals as goal

pub loop-i-preserved : goal.loop-i-preserved
loop-i-preserved c =
    let x = word_at c.args.line.now (c.args.first + c.args.step * c.loop-i.i + c.args.on) in
    let f : FitsSigned w16 x = search rules in
    let b : c.loop-i.i < length c.loop-i.samples = omega arith in
    rw (to_z-of_z w16 x f)
    (written_next c.loop-i.samples c.loop-i.i x (λ k. word_at c.args.line.now (c.args.first + c.args.step * k + c.args.on)) b c.loop-i.invariant refl)
