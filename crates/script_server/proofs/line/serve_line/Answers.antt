use Rattle.std.proofs.Common.{refl, sym, ◌∙◌, inr}
use Rattle.std.proofs.lemmas.Result.{IfOk-weaker}
use Rattle.script_server.proofs.Faults.{is_no_ok, is_no_fault, is_but_write}
use Rattle.script_server.proofs.LineAnswers.{served_long, cut_long, served_asked, cut_asked, served_reply, cut_reply, served_nothing, unfed}
use Rattle.script_server.proofs.Writes.{wait_none, wait_reply}
use Rattle.script_server.proofs.line.serve_line.Goals as goal

pub returns-in-Ok-clause-served : goal.returns-in-Ok-clause-served
returns-in-Ok-clause-served g c = λ octets s honest line k h.
    served_long (g.T.LineMachine.machine (g.T.LineMachine.widths c.args.machine.now)) honest (g.T.LineMachine.refines c.args.machine.now) s _ _ (rw c.if-long.true at line) k h (c.in-Ok.ensures.ok refl)

pub returns-in-Err-clause-cut : goal.returns-in-Err-clause-cut
returns-in-Err-clause-cut g c = λ is octets s honest line k h.
    cut_long (g.T.LineMachine.machine (g.T.LineMachine.widths c.args.machine.now)) honest s _ _ (rw c.if-long.true at line) (c.in-Err.ensures.fault refl)

pub returns-in-Nothing-clause-served : goal.returns-in-Nothing-clause-served
returns-in-Nothing-clause-served g c = λ octets s honest line k h.
    let asks = c.in-Nothing.ensures.asks s k in
    served_asked (g.T.LineMachine.machine (g.T.LineMachine.widths c.args.machine.now)) honest (g.T.LineMachine.refines c.ask.new.self) s _ (rw c.if-long.false at line) asks.1
    (served_nothing (g.T.LineMachine.machine (g.T.LineMachine.widths c.args.machine.now)) honest (g.T.LineMachine.refines c.ask.new.self) _ _ _ _ asks.2 h)

pub returns-in-Ok-tell-clause-served : goal.returns-in-Ok-tell-clause-served
returns-in-Ok-tell-clause-served g c = λ octets s honest line k h.
    let asks = c.in-Tell.ensures.asks s k in
    served_asked (g.T.LineMachine.machine (g.T.LineMachine.widths c.args.machine.now)) honest (g.T.LineMachine.refines c.ask.new.self) s _ (rw c.if-long.false at line) asks.1
    (rw c.is_refusal-refused.ensures (served_reply (g.T.LineMachine.machine (g.T.LineMachine.widths c.args.machine.now)) honest (g.T.LineMachine.refines c.ask.new.self) _ _ _ _ asks.2 h (c.in-Ok-tell.ensures.ok refl)))

pub returns-in-Err-tell-clause-cut : goal.returns-in-Err-tell-clause-cut
returns-in-Err-tell-clause-cut g c = λ is octets s honest line k h.
    let asks = c.in-Tell.ensures.asks s k in
    cut_asked (g.T.LineMachine.machine (g.T.LineMachine.widths c.args.machine.now)) honest s _ (rw c.if-long.false at line) asks.1
    (cut_reply (g.T.LineMachine.machine (g.T.LineMachine.widths c.args.machine.now)) honest _ _ _ _ (c.in-Err-tell.ensures.fault refl))

pub returns-in-Feed-clause-served : goal.returns-in-Feed-clause-served
returns-in-Feed-clause-served g c = IfOk-weaker c.serve_feed.result _ _ (λ refused fed octets s honest line k h.
    let asks = c.in-Feed.ensures.asks s k in
    served_asked (g.T.LineMachine.machine (g.T.LineMachine.widths c.args.machine.now)) honest (g.T.LineMachine.refines c.serve_feed.new.machine) s _ (rw c.if-long.false at line) asks.1
    (rw c.in-Feed.ensures.widths at (fed asks.0 honest asks.2 h))) c.serve_feed.ensures.served

pub returns-in-Feed-clause-cut : goal.returns-in-Feed-clause-cut
returns-in-Feed-clause-cut g c = λ is octets s honest line k h.
    let asks = c.in-Feed.ensures.asks s k in
    cut_asked (g.T.LineMachine.machine (g.T.LineMachine.widths c.args.machine.now)) honest s _ (rw c.if-long.false at line) asks.1
    (rw c.in-Feed.ensures.widths at (c.serve_feed.ensures.cut is asks.0 honest asks.2 h))

pub returns-in-Feed-clause-unfed : goal.returns-in-Feed-clause-unfed
returns-in-Feed-clause-unfed g c = λ is octets s line k.
    let asks = c.in-Feed.ensures.asks s k in
    unfed (g.T.LineMachine.machine (g.T.LineMachine.widths c.args.machine.now)) s (rw c.if-long.false at line) asks.1
    (rw c.in-Feed.ensures.widths at (c.serve_feed.ensures.unread is)) (c.serve_feed.ensures.unfed is)

-- ---- nothing is passed on

pub returns-in-Ok-clause-waits : goal.returns-in-Ok-clause-waits
returns-in-Ok-clause-waits g c = wait_reply _ (c.in-Ok.ensures.ok refl).waits

pub returns-in-Err-clause-waits : goal.returns-in-Err-clause-waits
returns-in-Err-clause-waits g c = wait_reply _ (c.in-Err.ensures.fault refl).first.waits

pub returns-in-Nothing-clause-waits : goal.returns-in-Nothing-clause-waits
returns-in-Nothing-clause-waits g c = wait_none _ _

pub returns-in-Ok-tell-clause-waits : goal.returns-in-Ok-tell-clause-waits
returns-in-Ok-tell-clause-waits g c = wait_reply _ (c.in-Ok-tell.ensures.ok refl).waits

pub returns-in-Err-tell-clause-waits : goal.returns-in-Err-tell-clause-waits
returns-in-Err-tell-clause-waits g c = wait_reply _ (c.in-Err-tell.ensures.fault refl).first.waits

pub returns-in-Feed-clause-waits : goal.returns-in-Feed-clause-waits
returns-in-Feed-clause-waits g c = c.serve_feed.ensures.waits

-- ---- the ports, and which of them failed

pub returns-in-Ok-clause-widths : goal.returns-in-Ok-clause-widths
returns-in-Ok-clause-widths g c = refl

pub returns-in-Ok-clause-inputs : goal.returns-in-Ok-clause-inputs
returns-in-Ok-clause-inputs g c = λ ok. c.requires.one

pub returns-in-Ok-clause-outputs : goal.returns-in-Ok-clause-outputs
returns-in-Ok-clause-outputs g c = λ ok. c.requires.pairs

pub returns-in-Ok-clause-ready : goal.returns-in-Ok-clause-ready
returns-in-Ok-clause-ready g c = λ ok. record { inputs = c.requires.ready.inputs; outs = c.requires.ready.outs; reply = c.in-Ok.ensures.failed }

pub returns-in-Ok-clause-read : goal.returns-in-Ok-clause-read
returns-in-Ok-clause-read g c = is_no_fault

pub returns-in-Ok-clause-write : goal.returns-in-Ok-clause-write
returns-in-Ok-clause-write g c = is_no_fault

pub returns-in-Ok-clause-cut : goal.returns-in-Ok-clause-cut
returns-in-Ok-clause-cut g c = is_no_fault

pub returns-in-Ok-clause-unfed : goal.returns-in-Ok-clause-unfed
returns-in-Ok-clause-unfed g c = is_no_fault

pub returns-in-Err-clause-widths : goal.returns-in-Err-clause-widths
returns-in-Err-clause-widths g c = refl

pub returns-in-Err-clause-inputs : goal.returns-in-Err-clause-inputs
returns-in-Err-clause-inputs g c = is_no_ok

pub returns-in-Err-clause-outputs : goal.returns-in-Err-clause-outputs
returns-in-Err-clause-outputs g c = is_no_ok

pub returns-in-Err-clause-ready : goal.returns-in-Err-clause-ready
returns-in-Err-clause-ready g c = is_no_ok

pub returns-in-Err-clause-write : goal.returns-in-Err-clause-write
returns-in-Err-clause-write g c = λ is. inr c.in-Err.ensures.failed

pub returns-in-Err-clause-read : goal.returns-in-Err-clause-read
returns-in-Err-clause-read g c = is_but_write (c.in-Err.ensures.write refl)

pub returns-in-Err-clause-unfed : goal.returns-in-Err-clause-unfed
returns-in-Err-clause-unfed g c = is_but_write (c.in-Err.ensures.write refl)

pub returns-in-Nothing-clause-widths : goal.returns-in-Nothing-clause-widths
returns-in-Nothing-clause-widths g c = c.in-Nothing.ensures.widths

pub returns-in-Nothing-clause-inputs : goal.returns-in-Nothing-clause-inputs
returns-in-Nothing-clause-inputs g c = λ ok. c.requires.one ∙ sym c.in-Nothing.ensures.channels

pub returns-in-Nothing-clause-outputs : goal.returns-in-Nothing-clause-outputs
returns-in-Nothing-clause-outputs g c = λ ok. c.requires.pairs ∙ sym c.in-Nothing.ensures.channels

pub returns-in-Nothing-clause-ready : goal.returns-in-Nothing-clause-ready
returns-in-Nothing-clause-ready g c = λ ok. c.requires.ready

pub returns-in-Nothing-clause-read : goal.returns-in-Nothing-clause-read
returns-in-Nothing-clause-read g c = is_no_fault

pub returns-in-Nothing-clause-write : goal.returns-in-Nothing-clause-write
returns-in-Nothing-clause-write g c = is_no_fault

pub returns-in-Nothing-clause-cut : goal.returns-in-Nothing-clause-cut
returns-in-Nothing-clause-cut g c = is_no_fault

pub returns-in-Nothing-clause-unfed : goal.returns-in-Nothing-clause-unfed
returns-in-Nothing-clause-unfed g c = is_no_fault

pub returns-in-Ok-tell-clause-widths : goal.returns-in-Ok-tell-clause-widths
returns-in-Ok-tell-clause-widths g c = c.in-Tell.ensures.widths

pub returns-in-Ok-tell-clause-inputs : goal.returns-in-Ok-tell-clause-inputs
returns-in-Ok-tell-clause-inputs g c = λ ok. c.requires.one ∙ sym c.in-Tell.ensures.channels

pub returns-in-Ok-tell-clause-outputs : goal.returns-in-Ok-tell-clause-outputs
returns-in-Ok-tell-clause-outputs g c = λ ok. c.requires.pairs ∙ sym c.in-Tell.ensures.channels

pub returns-in-Ok-tell-clause-ready : goal.returns-in-Ok-tell-clause-ready
returns-in-Ok-tell-clause-ready g c = λ ok. record { inputs = c.requires.ready.inputs; outs = c.requires.ready.outs; reply = c.in-Ok-tell.ensures.failed }

pub returns-in-Ok-tell-clause-read : goal.returns-in-Ok-tell-clause-read
returns-in-Ok-tell-clause-read g c = is_no_fault

pub returns-in-Ok-tell-clause-write : goal.returns-in-Ok-tell-clause-write
returns-in-Ok-tell-clause-write g c = is_no_fault

pub returns-in-Ok-tell-clause-cut : goal.returns-in-Ok-tell-clause-cut
returns-in-Ok-tell-clause-cut g c = is_no_fault

pub returns-in-Ok-tell-clause-unfed : goal.returns-in-Ok-tell-clause-unfed
returns-in-Ok-tell-clause-unfed g c = is_no_fault

pub returns-in-Err-tell-clause-widths : goal.returns-in-Err-tell-clause-widths
returns-in-Err-tell-clause-widths g c = c.in-Tell.ensures.widths

pub returns-in-Err-tell-clause-inputs : goal.returns-in-Err-tell-clause-inputs
returns-in-Err-tell-clause-inputs g c = is_no_ok

pub returns-in-Err-tell-clause-outputs : goal.returns-in-Err-tell-clause-outputs
returns-in-Err-tell-clause-outputs g c = is_no_ok

pub returns-in-Err-tell-clause-ready : goal.returns-in-Err-tell-clause-ready
returns-in-Err-tell-clause-ready g c = is_no_ok

pub returns-in-Err-tell-clause-write : goal.returns-in-Err-tell-clause-write
returns-in-Err-tell-clause-write g c = λ is. inr c.in-Err-tell.ensures.failed

pub returns-in-Err-tell-clause-read : goal.returns-in-Err-tell-clause-read
returns-in-Err-tell-clause-read g c = is_but_write (c.in-Err-tell.ensures.write refl)

pub returns-in-Err-tell-clause-unfed : goal.returns-in-Err-tell-clause-unfed
returns-in-Err-tell-clause-unfed g c = is_but_write (c.in-Err-tell.ensures.write refl)

pub returns-in-Feed-clause-widths : goal.returns-in-Feed-clause-widths
returns-in-Feed-clause-widths g c = c.serve_feed.ensures.widths ∙ c.in-Feed.ensures.widths

pub returns-in-Feed-clause-inputs : goal.returns-in-Feed-clause-inputs
returns-in-Feed-clause-inputs g c = c.serve_feed.ensures.inputs

pub returns-in-Feed-clause-outputs : goal.returns-in-Feed-clause-outputs
returns-in-Feed-clause-outputs g c = c.serve_feed.ensures.outputs

pub returns-in-Feed-clause-ready : goal.returns-in-Feed-clause-ready
returns-in-Feed-clause-ready g c = c.serve_feed.ensures.ready

pub returns-in-Feed-clause-read : goal.returns-in-Feed-clause-read
returns-in-Feed-clause-read g c = c.serve_feed.ensures.read

pub returns-in-Feed-clause-write : goal.returns-in-Feed-clause-write
returns-in-Feed-clause-write g c = c.serve_feed.ensures.write

-- ---- a feed

pub serve_feed-requires-clause-channel : goal.serve_feed-requires-clause-channel
serve_feed-requires-clause-channel g c = c.in-Feed.ensures.ready

pub serve_feed-requires-clause-one : goal.serve_feed-requires-clause-one
serve_feed-requires-clause-one g c = c.requires.one ∙ sym c.in-Feed.ensures.channels

pub serve_feed-requires-clause-pairs : goal.serve_feed-requires-clause-pairs
serve_feed-requires-clause-pairs g c = c.requires.pairs ∙ sym c.in-Feed.ensures.channels

pub serve_feed-requires-clause-ready : goal.serve_feed-requires-clause-ready
serve_feed-requires-clause-ready g c = c.requires.ready
