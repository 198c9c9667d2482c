use Rattle.std.proofs.Common.{◌≡◌, true}
use Rattle.octet_ports.specs.Passing.{PassesOn, TakesAll}
use Rattle.octet_ports.proofs.EachLemmas.{EachSoFar}
use Rattle.octet_ports.proofs.waiting.pass_outputs.Given as goal

abbrev pub invariant-loop-output : goal.invariant-loop-output
invariant-loop-output g l = record {
  passes : EachSoFar (PassesOn g.W.Write.contents) l.initial.output-items l.output-items l.output-index;
  all : l.all ≡ true → EachSoFar TakesAll l.initial.output-items l.output-items l.output-index;
}
