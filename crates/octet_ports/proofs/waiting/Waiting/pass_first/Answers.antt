use Rattle.std.proofs.Common.{length-take, arith}
use Rattle.octet_ports.proofs.PassLemmas.{passes_first}
use Rattle.octet_ports.proofs.waiting.Waiting.pass_first.Goals as goal

pub returns-clause-passes : goal.returns-clause-passes
returns-clause-passes g c =
    let wrote = c.write_some-written.ensures in
    passes_first g.W.Write.contents _ _ _ _ c.args.self.now _ _ wrote.within c.as_slice.ensures.value wrote.appends c.flush.ensures.bytes (omega arith)

pub returns-clause-all : goal.returns-clause-all
returns-clause-all g c = λ _.
    let within = c.write_some-written.ensures.within in
    let most = length-take c.args.count c.as_slice.result.now in
    let enough = c.if-written-count.false in
    omega (arith, within, most, enough)

pub returns-then-written-count-clause-passes : goal.returns-then-written-count-clause-passes
returns-then-written-count-clause-passes g c =
    let wrote = c.write_some-written.ensures in
    passes_first g.W.Write.contents _ _ _ _ c.args.self.now _ _ wrote.within c.as_slice.ensures.value wrote.appends c.flush.ensures.bytes (omega arith)

pub returns-then-is_err-clause-passes : goal.returns-then-is_err-clause-passes
returns-then-is_err-clause-passes g c =
    let wrote = c.write_some-written.ensures in
    passes_first g.W.Write.contents _ _ _ _ c.args.self.now _ _ wrote.within c.as_slice.ensures.value wrote.appends c.flush.ensures.bytes (omega arith)
