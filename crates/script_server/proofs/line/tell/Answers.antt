use Rattle.std.proofs.Common.{sym, ◌∙◌}
use Rattle.script_server.proofs.line.tell.Goals as goal

pub returns-clause-ok : goal.returns-clause-ok
returns-clause-ok g c = λ ok. rw c.line_of.ensures at (c.write_octets.ensures.ok c.if-is_err.ensures.negation)

pub returns-clause-failed : goal.returns-clause-failed
returns-clause-failed g c = c.write_octets.ensures.failed ∙ sym c.is_err.ensures.value ∙ c.if-is_err.false

pub returns-then-is_err-clause-fault : goal.returns-then-is_err-clause-fault
returns-then-is_err-clause-fault g c = λ is. rw c.line_of.ensures at (c.write_octets.ensures.fault (sym c.is_err.ensures.value ∙ c.if-is_err.true))

pub returns-then-is_err-clause-failed : goal.returns-then-is_err-clause-failed
returns-then-is_err-clause-failed g c = c.write_octets.ensures.failed ∙ sym c.is_err.ensures.value ∙ c.if-is_err.true
