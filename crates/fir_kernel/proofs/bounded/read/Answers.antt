use Rattle.std.proofs.Common.{pos, length, FitsSigned, rules, w16, inl, inr, arith, below_more}
use Rattle.std.specs.Int.Signed.{nat_abs-le}
use Rattle.std.proofs.lemmas.Bool.{cases_lt}
use Rattle.std.proofs.lemmas.List.{get_or_past}
use Rattle.ialg.specs.History.{word_at}
use Rattle.fir_kernel.proofs.bounded.read.Goals as goal

pub loop-sample-preserved : goal.loop-sample-preserved
loop-sample-preserved c =
    let x = word_at c.args.samples.now c.loop-sample.sample-index in
    let f : FitsSigned w16 x = search rules in
    below_more _ _ c.loop-sample.invariant (nat_abs-le x f.sfits)

pub returns : goal.returns
returns c k =
    let xs = c.args.samples.now in
    elim (cases_lt k (length xs)) [
      | inl b ↦ c.loop-sample.invariant k (omega arith)
      | inr b ↦ rw (get_or_past xs k (pos 0) b) (omega arith)
    ]
