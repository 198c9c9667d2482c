use Rattle.std.proofs.Common.{◌<◌, length, sym, ◌∙◌}
use Rattle.std.proofs.lemmas.Bool.{false≢true}
use Rattle.octet_ports.specs.Passing.{PassesOn, TakesAll}
use Rattle.octet_ports.proofs.EachLemmas.{none_yet, one_more, each_did}
use Rattle.octet_ports.proofs.waiting.pass_outputs.Goals as goal
use Rattle.octet_ports.proofs.waiting.pass_outputs.Goals.{then-is_err, else-is_err}

pub loop-output-init : goal.loop-output-init
loop-output-init g c = record { passes = none_yet _; all = λ _. none_yet _ }

pub loop-output-preserved : goal.loop-output-preserved
loop-output-preserved g c =
    let inside : c.loop-output.output-index < length c.loop-output.output-items = rw c.loop-output.auto.output-items c.loop-output-test.true in
    record {
      passes = one_more (PassesOn g.W.Write.contents) _ _ _ _ c.pass_on.new.self c.loop-output.invariant.passes inside c.pass_on.ensures.passes;
      all = elim c.if-is_err.branch [
        | then-is_err w ↦ λ all. absurd (false≢true (sym w.all-is ∙ all))
        | else-is_err w ↦ λ all. one_more TakesAll _ _ _ _ c.pass_on.new.self (c.loop-output.invariant.all (sym w.all-is ∙ all)) inside (c.pass_on.ensures.all w.if-is_err.ensures.negation)
      ];
    }

pub returns-clause-passes : goal.returns-clause-passes
returns-clause-passes g c =
    let read = c.deref_mut-output-items.ensures in
    each_did (PassesOn g.W.Write.contents) _ _ _ _ _ c.loop-output.invariant.passes read.value read.len c.loop-output-test.false

pub returns-clause-all : goal.returns-clause-all
returns-clause-all g c = λ all.
    let read = c.deref_mut-output-items.ensures in
    each_did TakesAll _ _ _ _ _ (c.loop-output.invariant.all all) read.value read.len c.loop-output-test.false
