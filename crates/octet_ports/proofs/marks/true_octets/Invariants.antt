use Rattle.octet_ports.specs.Marks.{IsTaken}
use Rattle.octet_ports.proofs.MarkLemmas.{LeastLost}
use Rattle.octet_ports.proofs.marks.true_octets.Given as goal

abbrev pub invariant-loop-mark : goal.invariant-loop-mark
invariant-loop-mark g l = LeastLost (λ mark. mark.before) (IsTaken l.outputs.items) l.marks l.mark-index l.replies l.count
