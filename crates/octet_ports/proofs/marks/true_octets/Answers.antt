use Rattle.std.proofs.Common.{refl}
use Rattle.std.proofs.lemmas.Bool.{false≢true}
use Rattle.octet_ports.proofs.MarkLemmas.{taken_next, lost_next}
use Rattle.octet_ports.proofs.marks.true_octets.Goals as goal
use Rattle.octet_ports.proofs.marks.true_octets.Goals.{then-not-is_taken, else-not-is_taken}

pub loop-mark-preserved : goal.loop-mark-preserved
loop-mark-preserved g c = elim c.if-not-is_taken.branch [
  | then-not-is_taken w ↦ rw (w.count-is, w.min-count.ensures) (lost_next c.loop-mark.invariant _ c.loop-mark-test.true (λ taken. false≢true (w.if-not-is_taken.ensures.1 taken)))
  | else-not-is_taken w ↦ rw w.count-is (taken_next c.loop-mark.invariant _ c.loop-mark-test.true (w.if-not-is_taken.ensures.0 refl))
]
