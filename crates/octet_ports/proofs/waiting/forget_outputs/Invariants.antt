use Rattle.octet_ports.specs.Passing.{HasNothing, HoldsStill}
use Rattle.octet_ports.proofs.EachLemmas.{EachSoFar}
use Rattle.octet_ports.proofs.waiting.forget_outputs.Given as goal

abbrev pub invariant-loop-output : goal.invariant-loop-output
invariant-loop-output g l = record {
  nothing : EachSoFar (λ _ new. HasNothing new) l.initial.output-items l.output-items l.output-index;
  stays : EachSoFar HoldsStill l.initial.output-items l.output-items l.output-index;
}
