use Rattle.std.proofs.Common.{◌≡◌, ◌<◌, length, true, false, arith, ◌∙◌, Ok, refl, ap, sym, subst, inl, inr}
use Rattle.voice_script.specs.Widths.{octet_count}
use Rattle.script_server.proofs.Faults.{is_no_ok, is_no_fault, is_no_read, is_no_write, is_but_write}
use Rattle.script_server.proofs.Steps.{there_in, same_length}
use Rattle.script_server.proofs.Writes.{writes_none, wait_none, wait_more, wait_reply, wait_took, wait_took_first}
use Rattle.script_server.proofs.Feeds.{given_first, served_short, cut_short, served_whole, cut_output, cut_told}
use Rattle.script_server.proofs.line.serve_feed.Given.{Over}
use Rattle.script_server.proofs.line.serve_feed.Goals.{After-read_from}
use Rattle.script_server.proofs.line.serve_feed.Goals as goal

-- as many octets were asked for as the samples take
whole_length : (g : Over) (c : After-read_from g) → length c.read_from.new.octets ≡ octet_count ((g.T.LineMachine.widths c.args.machine.now).input c.args.channel) c.args.samples.number
whole_length g c =
    let long : length c.read_from.new.octets ≡ c.octets_of-octets.result = omega (arith, c.read_from.auto.octets) in
    long ∙ rw (c.input_width.ensures, c.from.ensures, c.number.ensures.value) at c.octets_of-octets.ensures.count

pub returns-in-Err-clause-unfed : goal.returns-in-Err-clause-unfed
returns-in-Err-clause-unfed g c = λ is. writes_none _ _

pub returns-in-Ok-tell-clause-served : goal.returns-in-Ok-tell-clause-served
returns-in-Ok-tell-clause-served g c = λ s honest k h.
    let number = c.from-c.ensures in
    let there = there_in g.I.PortIn.source c.args.inputs.now.items c.requires.one c.requires.channel.there in
    let answer : c.read_from.result ≡ Ok false = c.in-Ok.is ∙ ap Ok c.if-not-whole.true in
    let count = whole_length g (goal.at.returns-in-Ok-tell-clause-served g c).After-read_from in
    let same = c.read_from.auto.octets in
    served_short (g.T.LineMachine.machine (g.T.LineMachine.widths c.args.machine.now)) honest s (g.T.LineMachine.refines c.args.machine.now) _ k there h
    (rw (number, sym same ∙ count) at (c.read_from.ensures.short answer)) (c.in-Ok-tell.ensures.ok refl)

pub returns-in-Err-tell-clause-cut : goal.returns-in-Err-tell-clause-cut
returns-in-Err-tell-clause-cut g c = λ is s honest k h.
    let number = c.from-c.ensures in
    let there = there_in g.I.PortIn.source c.args.inputs.now.items c.requires.one c.requires.channel.there in
    let answer : c.read_from.result ≡ Ok false = c.in-Ok.is ∙ ap Ok c.if-not-whole.true in
    let count = whole_length g (goal.at.returns-in-Err-tell-clause-cut g c).After-read_from in
    let same = c.read_from.auto.octets in
    cut_short (g.T.LineMachine.machine (g.T.LineMachine.widths c.args.machine.now)) honest s _ there h (rw (number, sym same ∙ count) at (c.read_from.ensures.short answer)) (c.in-Err-tell.ensures.fault refl)

pub returns-then-is_err-clause-cut : goal.returns-then-is_err-clause-cut
returns-then-is_err-clause-cut g c = λ is s honest k h.
    let number = c.from-c.ensures in
    let there = there_in g.I.PortIn.source c.args.inputs.now.items c.requires.one c.requires.channel.there in
    let pairs = same_length g.O.PortOut.sink g.I.PortIn.source c.args.outputs.now.items c.args.inputs.now.items c.requires.pairs c.requires.one in
    let answer : c.read_from.result ≡ Ok true = c.in-Ok.is ∙ ap Ok c.if-not-whole.false in
    let count = whole_length g (goal.at.returns-then-is_err-clause-cut g c).After-read_from in
    let taken : c.octets_of.result ≡ octet_count ((g.T.LineMachine.widths c.args.machine.now).output c.args.channel) c.feed-count.result = rw c.output_width-output_width.ensures at c.octets_of.ensures.count in
    let given = c.feed-count.ensures.gives s k in
    cut_output (g.T.LineMachine.machine (g.T.LineMachine.widths c.args.machine.now)) honest s _ there pairs h count (rw number at (c.read_from.ensures.filled answer)) (given_first (g.T.LineMachine.machine (g.T.LineMachine.widths c.args.machine.now)) s _ count given.1)
    (rw (number, taken) at (c.write_to.ensures.fault (sym c.is_err.ensures.value ∙ c.if-is_err.true)))

pub returns-in-Ok-told-clause-served : goal.returns-in-Ok-told-clause-served
returns-in-Ok-told-clause-served g c = λ s honest k h.
    let number = c.from-c.ensures in
    let there = there_in g.I.PortIn.source c.args.inputs.now.items c.requires.one c.requires.channel.there in
    let pairs = same_length g.O.PortOut.sink g.I.PortIn.source c.args.outputs.now.items c.args.inputs.now.items c.requires.pairs c.requires.one in
    let answer : c.read_from.result ≡ Ok true = c.in-Ok.is ∙ ap Ok c.if-not-whole.false in
    let count = whole_length g (goal.at.returns-in-Ok-told-clause-served g c).After-read_from in
    let taken : c.octets_of.result ≡ octet_count ((g.T.LineMachine.widths c.args.machine.now).output c.args.channel) c.feed-count.result = rw c.output_width-output_width.ensures at c.octets_of.ensures.count in
    let given = c.feed-count.ensures.gives s k in
    served_whole (g.T.LineMachine.machine (g.T.LineMachine.widths c.args.machine.now)) honest s (g.T.LineMachine.refines c.feed-count.new.self) given.2 there pairs h count
    (rw number at (c.read_from.ensures.filled answer)) (given_first (g.T.LineMachine.machine (g.T.LineMachine.widths c.args.machine.now)) s _ count given.1)
    (rw (number, taken) at (c.write_to.ensures.ok c.if-is_err.ensures.negation)) (c.in-Ok-told.ensures.ok refl)

pub returns-in-Err-told-clause-cut : goal.returns-in-Err-told-clause-cut
returns-in-Err-told-clause-cut g c = λ is s honest k h.
    let number = c.from-c.ensures in
    let there = there_in g.I.PortIn.source c.args.inputs.now.items c.requires.one c.requires.channel.there in
    let pairs = same_length g.O.PortOut.sink g.I.PortIn.source c.args.outputs.now.items c.args.inputs.now.items c.requires.pairs c.requires.one in
    let answer : c.read_from.result ≡ Ok true = c.in-Ok.is ∙ ap Ok c.if-not-whole.false in
    let count = whole_length g (goal.at.returns-in-Err-told-clause-cut g c).After-read_from in
    let taken : c.octets_of.result ≡ octet_count ((g.T.LineMachine.widths c.args.machine.now).output c.args.channel) c.feed-count.result = rw c.output_width-output_width.ensures at c.octets_of.ensures.count in
    let given = c.feed-count.ensures.gives s k in
    cut_told (g.T.LineMachine.machine (g.T.LineMachine.widths c.args.machine.now)) honest s there pairs h count (rw number at (c.read_from.ensures.filled answer)) (given_first (g.T.LineMachine.machine (g.T.LineMachine.widths c.args.machine.now)) s _ count given.1) (rw (number, taken) at (c.write_to.ensures.ok c.if-is_err.ensures.negation)) (c.in-Err-told.ensures.fault refl)

pub returns-in-Err-clause-unread : goal.returns-in-Err-clause-unread
returns-in-Err-clause-unread g c = λ is.
    let count = whole_length g (goal.at.returns-in-Err-clause-unread g c).After-read_from in
    rw (c.from-c.ensures, sym c.read_from.auto.octets ∙ count) at (c.in-Err.ensures.fault refl)

-- ---- nothing is passed on

pub returns-in-Err-clause-waits : goal.returns-in-Err-clause-waits
returns-in-Err-clause-waits g c = wait_none _ _

pub returns-in-Ok-tell-clause-waits : goal.returns-in-Ok-tell-clause-waits
returns-in-Ok-tell-clause-waits g c = wait_reply _ (c.in-Ok-tell.ensures.ok refl).waits

pub returns-in-Err-tell-clause-waits : goal.returns-in-Err-tell-clause-waits
returns-in-Err-tell-clause-waits g c = wait_reply _ (c.in-Err-tell.ensures.fault refl).first.waits

pub returns-then-is_err-clause-waits : goal.returns-then-is_err-clause-waits
returns-then-is_err-clause-waits g c =
    let there = there_in g.O.PortOut.sink c.args.outputs.now.items c.requires.pairs (subst (λ n. n < g.T.LineMachine.channels c.args.machine.now) (sym c.from-c.ensures) c.requires.channel.there) in
    wait_took_first _ there (c.write_to.ensures.fault (sym c.is_err.ensures.value ∙ c.if-is_err.true))

pub returns-in-Ok-told-clause-waits : goal.returns-in-Ok-told-clause-waits
returns-in-Ok-told-clause-waits g c =
    let there = there_in g.O.PortOut.sink c.args.outputs.now.items c.requires.pairs (subst (λ n. n < g.T.LineMachine.channels c.args.machine.now) (sym c.from-c.ensures) c.requires.channel.there) in
    wait_more (wait_took _ there (c.write_to.ensures.ok c.if-is_err.ensures.negation)) (wait_reply _ (c.in-Ok-told.ensures.ok refl).waits)

pub returns-in-Err-told-clause-waits : goal.returns-in-Err-told-clause-waits
returns-in-Err-told-clause-waits g c =
    let there = there_in g.O.PortOut.sink c.args.outputs.now.items c.requires.pairs (subst (λ n. n < g.T.LineMachine.channels c.args.machine.now) (sym c.from-c.ensures) c.requires.channel.there) in
    wait_more (wait_took _ there (c.write_to.ensures.ok c.if-is_err.ensures.negation)) (wait_reply _ (c.in-Err-told.ensures.fault refl).first.waits)

-- ---- the ports, and which of them failed

pub returns-in-Err-clause-widths : goal.returns-in-Err-clause-widths
returns-in-Err-clause-widths g c = refl

pub returns-in-Err-clause-inputs : goal.returns-in-Err-clause-inputs
returns-in-Err-clause-inputs g c = is_no_ok

pub returns-in-Err-clause-outputs : goal.returns-in-Err-clause-outputs
returns-in-Err-clause-outputs g c = is_no_ok

pub returns-in-Err-clause-ready : goal.returns-in-Err-clause-ready
returns-in-Err-clause-ready g c = is_no_ok

pub returns-in-Err-clause-read : goal.returns-in-Err-clause-read
returns-in-Err-clause-read g c = λ is. c.in-Err.ensures.failed refl

pub returns-in-Err-clause-write : goal.returns-in-Err-clause-write
returns-in-Err-clause-write g c = is_no_write

pub returns-in-Err-clause-cut : goal.returns-in-Err-clause-cut
returns-in-Err-clause-cut g c = is_no_write

pub returns-in-Ok-tell-clause-widths : goal.returns-in-Ok-tell-clause-widths
returns-in-Ok-tell-clause-widths g c = refl

pub returns-in-Ok-tell-clause-inputs : goal.returns-in-Ok-tell-clause-inputs
returns-in-Ok-tell-clause-inputs g c = λ ok. c.read_from.ensures.count ∙ c.requires.one

pub returns-in-Ok-tell-clause-outputs : goal.returns-in-Ok-tell-clause-outputs
returns-in-Ok-tell-clause-outputs g c = λ ok. c.requires.pairs

pub returns-in-Ok-tell-clause-ready : goal.returns-in-Ok-tell-clause-ready
returns-in-Ok-tell-clause-ready g c = λ ok. record { inputs = c.in-Ok.ensures.ready refl; outs = c.requires.ready.outs; reply = c.in-Ok-tell.ensures.failed }

pub returns-in-Ok-tell-clause-read : goal.returns-in-Ok-tell-clause-read
returns-in-Ok-tell-clause-read g c = is_no_fault

pub returns-in-Ok-tell-clause-write : goal.returns-in-Ok-tell-clause-write
returns-in-Ok-tell-clause-write g c = is_no_fault

pub returns-in-Ok-tell-clause-cut : goal.returns-in-Ok-tell-clause-cut
returns-in-Ok-tell-clause-cut g c = is_no_fault

pub returns-in-Ok-tell-clause-unread : goal.returns-in-Ok-tell-clause-unread
returns-in-Ok-tell-clause-unread g c = is_no_fault

pub returns-in-Ok-tell-clause-unfed : goal.returns-in-Ok-tell-clause-unfed
returns-in-Ok-tell-clause-unfed g c = is_no_fault

pub returns-in-Err-tell-clause-widths : goal.returns-in-Err-tell-clause-widths
returns-in-Err-tell-clause-widths g c = refl

pub returns-in-Err-tell-clause-inputs : goal.returns-in-Err-tell-clause-inputs
returns-in-Err-tell-clause-inputs g c = is_no_ok

pub returns-in-Err-tell-clause-outputs : goal.returns-in-Err-tell-clause-outputs
returns-in-Err-tell-clause-outputs g c = is_no_ok

pub returns-in-Err-tell-clause-ready : goal.returns-in-Err-tell-clause-ready
returns-in-Err-tell-clause-ready g c = is_no_ok

pub returns-in-Err-tell-clause-write : goal.returns-in-Err-tell-clause-write
returns-in-Err-tell-clause-write g c = λ is. inr c.in-Err-tell.ensures.failed

pub returns-in-Err-tell-clause-read : goal.returns-in-Err-tell-clause-read
returns-in-Err-tell-clause-read g c = is_but_write (c.in-Err-tell.ensures.write refl)

pub returns-in-Err-tell-clause-unread : goal.returns-in-Err-tell-clause-unread
returns-in-Err-tell-clause-unread g c = is_but_write (c.in-Err-tell.ensures.write refl)

pub returns-in-Err-tell-clause-unfed : goal.returns-in-Err-tell-clause-unfed
returns-in-Err-tell-clause-unfed g c = is_but_write (c.in-Err-tell.ensures.write refl)

pub returns-then-is_err-clause-widths : goal.returns-then-is_err-clause-widths
returns-then-is_err-clause-widths g c = c.feed-count.ensures.widths

pub returns-then-is_err-clause-inputs : goal.returns-then-is_err-clause-inputs
returns-then-is_err-clause-inputs g c = is_no_ok

pub returns-then-is_err-clause-outputs : goal.returns-then-is_err-clause-outputs
returns-then-is_err-clause-outputs g c = is_no_ok

pub returns-then-is_err-clause-ready : goal.returns-then-is_err-clause-ready
returns-then-is_err-clause-ready g c = is_no_ok

pub returns-then-is_err-clause-write : goal.returns-then-is_err-clause-write
returns-then-is_err-clause-write g c = λ is. inl (c.write_to.ensures.failed (sym c.is_err.ensures.value ∙ c.if-is_err.true))

pub returns-then-is_err-clause-read : goal.returns-then-is_err-clause-read
returns-then-is_err-clause-read g c = is_no_read

pub returns-then-is_err-clause-unread : goal.returns-then-is_err-clause-unread
returns-then-is_err-clause-unread g c = is_no_read

pub returns-then-is_err-clause-unfed : goal.returns-then-is_err-clause-unfed
returns-then-is_err-clause-unfed g c = is_no_read

pub returns-in-Ok-told-clause-widths : goal.returns-in-Ok-told-clause-widths
returns-in-Ok-told-clause-widths g c = c.feed-count.ensures.widths

pub returns-in-Ok-told-clause-inputs : goal.returns-in-Ok-told-clause-inputs
returns-in-Ok-told-clause-inputs g c = λ ok. c.read_from.ensures.count ∙ c.requires.one ∙ sym c.feed-count.ensures.channels

pub returns-in-Ok-told-clause-outputs : goal.returns-in-Ok-told-clause-outputs
returns-in-Ok-told-clause-outputs g c = λ ok. c.write_to.ensures.count ∙ c.requires.pairs ∙ sym c.feed-count.ensures.channels

pub returns-in-Ok-told-clause-ready : goal.returns-in-Ok-told-clause-ready
returns-in-Ok-told-clause-ready g c = λ ok. record { inputs = c.in-Ok.ensures.ready refl; outs = c.write_to.ensures.ready c.if-is_err.ensures.negation; reply = c.in-Ok-told.ensures.failed }

pub returns-in-Ok-told-clause-read : goal.returns-in-Ok-told-clause-read
returns-in-Ok-told-clause-read g c = is_no_fault

pub returns-in-Ok-told-clause-write : goal.returns-in-Ok-told-clause-write
returns-in-Ok-told-clause-write g c = is_no_fault

pub returns-in-Ok-told-clause-cut : goal.returns-in-Ok-told-clause-cut
returns-in-Ok-told-clause-cut g c = is_no_fault

pub returns-in-Ok-told-clause-unread : goal.returns-in-Ok-told-clause-unread
returns-in-Ok-told-clause-unread g c = is_no_fault

pub returns-in-Ok-told-clause-unfed : goal.returns-in-Ok-told-clause-unfed
returns-in-Ok-told-clause-unfed g c = is_no_fault

pub returns-in-Err-told-clause-widths : goal.returns-in-Err-told-clause-widths
returns-in-Err-told-clause-widths g c = c.feed-count.ensures.widths

pub returns-in-Err-told-clause-inputs : goal.returns-in-Err-told-clause-inputs
returns-in-Err-told-clause-inputs g c = is_no_ok

pub returns-in-Err-told-clause-outputs : goal.returns-in-Err-told-clause-outputs
returns-in-Err-told-clause-outputs g c = is_no_ok

pub returns-in-Err-told-clause-ready : goal.returns-in-Err-told-clause-ready
returns-in-Err-told-clause-ready g c = is_no_ok

pub returns-in-Err-told-clause-write : goal.returns-in-Err-told-clause-write
returns-in-Err-told-clause-write g c = λ is. inr c.in-Err-told.ensures.failed

pub returns-in-Err-told-clause-read : goal.returns-in-Err-told-clause-read
returns-in-Err-told-clause-read g c = is_but_write (c.in-Err-told.ensures.write refl)

pub returns-in-Err-told-clause-unread : goal.returns-in-Err-told-clause-unread
returns-in-Err-told-clause-unread g c = is_but_write (c.in-Err-told.ensures.write refl)

pub returns-in-Err-told-clause-unfed : goal.returns-in-Err-told-clause-unfed
returns-in-Err-told-clause-unfed g c = is_but_write (c.in-Err-told.ensures.write refl)
