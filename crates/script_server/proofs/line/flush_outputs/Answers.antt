use Rattle.std.proofs.Common.{arith, ◌<◌, ◌≤◌, length, map, refl, sym, ◌∙◌}
use Rattle.std.proofs.lemmas.List.{length-map, take_all}
use Rattle.std.proofs.lemmas.List.Elements.{All-nil}
use Rattle.script_server.specs.Runs.{no_sink}
use Rattle.octet_ports.specs.Ports.{HasPassedAll}
use Rattle.script_server.proofs.Faults.{is_no_ok}
use Rattle.script_server.proofs.Steps.{first_after, before_stays, other_stays}
use Rattle.script_server.proofs.Writes.{writes_none, writes_more, writes_output, in_order}
use Rattle.script_server.proofs.line.flush_outputs.Goals as goal

pub loop-channel-init : goal.loop-channel-init
loop-channel-init g c = record { count = refl; ready = c.requires.ready; passed = All-nil HasPassedAll; later = λ k at. refl; holds = λ replies. writes_none _ replies }

pub returns-then-is_err-clause-holds : goal.returns-then-is_err-clause-holds
returns-then-is_err-clause-holds g c = λ replies.
    let there : c.loop-channel.channel < length (map g.O.PortOut.sink c.loop-channel.outputs.items) = simp length-map (omega (arith, c.loop-channel.invariant.count)) in
    writes_more (c.loop-channel.invariant.holds replies) (writes_output replies there c.flush_at.ensures.holds)

pub loop-channel-preserved : goal.loop-channel-preserved
loop-channel-preserved g c =
    let there : c.loop-channel.channel < length (map g.O.PortOut.sink c.loop-channel.outputs.items) = simp length-map (omega (arith, c.loop-channel.invariant.count)) in
    record {
      count = c.flush_at.ensures.count ∙ c.loop-channel.invariant.count;
      ready = c.flush_at.ensures.ready c.if-is_err.ensures.negation;
      passed = first_after HasPassedAll no_sink there c.loop-channel.invariant.passed (c.flush_at.ensures.passed c.if-is_err.ensures.negation);
      later = λ k at. other_stays c.flush_at.ensures.holds (omega arith) ∙ c.loop-channel.invariant.later k (omega arith);
      holds = λ replies. writes_more (c.loop-channel.invariant.holds replies) (writes_output replies there c.flush_at.ensures.holds);
    }

pub returns-then-is_err-clause-order : goal.returns-then-is_err-clause-order
returns-then-is_err-clause-order g c =
    let there : c.loop-channel.channel < length (map g.O.PortOut.sink c.loop-channel.outputs.items) = simp length-map (omega (arith, c.loop-channel.invariant.count)) in
    let steps = c.flush_at.ensures.holds in
    let both = writes_more (c.loop-channel.invariant.holds no_sink) (writes_output no_sink there steps) in
    in_order _ _ _ both.count (rw (before_stays steps) c.loop-channel.invariant.passed)
    (λ k above. other_stays steps above ∙ c.loop-channel.invariant.later k (omega arith))

pub returns-clause-order : goal.returns-clause-order
returns-clause-order g c =
    in_order _ _ _ (c.loop-channel.invariant.holds no_sink).count c.loop-channel.invariant.passed
    (λ k above. c.loop-channel.invariant.later k (omega arith))

pub returns-clause-passed : goal.returns-clause-passed
returns-clause-passed g c = λ ok.
    let all = map g.O.PortOut.sink c.loop-channel.outputs.items in
    let whole : length all ≤ c.loop-channel.channel = simp length-map (omega (arith, c.loop-channel.invariant.count)) in
    rw (take_all c.loop-channel.channel all whole) at c.loop-channel.invariant.passed

pub returns-then-is_err-clause-passed : goal.returns-then-is_err-clause-passed
returns-then-is_err-clause-passed g c = is_no_ok

pub returns-then-is_err-clause-ready : goal.returns-then-is_err-clause-ready
returns-then-is_err-clause-ready g c = is_no_ok

pub returns-then-is_err-clause-failed : goal.returns-then-is_err-clause-failed
returns-then-is_err-clause-failed g c = λ is. c.flush_at.ensures.failed (sym c.is_err.ensures.value ∙ c.if-is_err.true)

pub returns-clause-holds : goal.returns-clause-holds
returns-clause-holds g c = c.loop-channel.invariant.holds

pub returns-clause-ready : goal.returns-clause-ready
returns-clause-ready g c = λ ok. c.loop-channel.invariant.ready

pub returns-clause-failed : goal.returns-clause-failed
returns-clause-failed g c = is_no_ok
