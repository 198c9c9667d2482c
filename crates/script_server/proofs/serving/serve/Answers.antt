use Rattle.std.proofs.Common.{◌≡◌, map, ◌∙◌, sym, inl, inr}
use Rattle.voice_script.specs.Served.{Machine, Run}
use Rattle.script_server.specs.Runs.{Devices, EndsByRead, EndsByWrite, run_of}
use Rattle.script_server.specs.LineRuns.{EndsBy}
use Rattle.script_server.specs.declared.serving.PortsFault.{PortsFault}
use Rattle.script_server.specs.declared.serving.PortsFault.TheVariants.{Read, Write}
use Rattle.script_server.proofs.Faults.{is_no_fault, is_no_read}
use Rattle.script_server.proofs.Writes.{writes_more, writes_reply, order_after}
use Rattle.script_server.proofs.Ends.{all_passed_on, all_is_first}
use Rattle.script_server.proofs.serving.serve.Goals as goal

-- a line's fault ended the run
by_read : {S : Type 0} (machine : Machine S) (start : Run S) (fault : PortsFault) (old new : Devices) → fault ≡ Read → EndsBy machine start fault old new → EndsByRead machine start old new
by_read machine start Read old new is ended = ended
by_read machine start Write old new is ended = cc

by_write : {S : Type 0} (machine : Machine S) (start : Run S) (fault : PortsFault) (old new : Devices) → fault ≡ Write → EndsBy machine start fault old new → EndsByWrite machine start old new
by_write machine start Write old new is ended = ended
by_write machine start Read old new is ended = cc

pub returns-in-Err-clause-read : goal.returns-in-Err-clause-read
returns-in-Err-clause-read g c = λ is. let e : c.in-Err.fault ≡ Read = cc in by_read _ _ c.in-Err.fault _ _ e c.in-Err.ensures.fault

pub returns-in-Err-clause-write : goal.returns-in-Err-clause-write
returns-in-Err-clause-write g c = λ is. let e : c.in-Err.fault ≡ Write = cc in by_write _ _ c.in-Err.fault _ _ e c.in-Err.ensures.fault

-- an output's flush failed
pub returns-then-is_err-clause-write : goal.returns-then-is_err-clause-write
returns-then-is_err-clause-write g c = λ is.
    let m = g.T.LineMachine.machine (g.T.LineMachine.widths c.args.machine.now) in
    let start = run_of g.state (map g.I.PortIn.source c.args.inputs.now.items) in
    let outputs_hold = c.flush_outputs.ensures.holds _ in
    let ordered = order_after _ c.serve_script.ensures.waits c.flush_outputs.ensures.order in
    record {
      failed = inl (c.flush_outputs.ensures.failed (sym c.is_err.ensures.value ∙ c.if-is_err.true));
      passed = inl c.serve_script.ensures.waits.reply;
      order = ordered;
      served = λ honest. all_is_first m start (all_passed_on m start (c.in-Ok.ensures.ok.served honest) outputs_hold);
    }

-- the replies' flush failed
pub returns-then-replies_fail-clause-write : goal.returns-then-replies_fail-clause-write
returns-then-replies_fail-clause-write g c = λ is.
    let m = g.T.LineMachine.machine (g.T.LineMachine.widths c.args.machine.now) in
    let start = run_of g.state (map g.I.PortIn.source c.args.inputs.now.items) in
    let all_hold = writes_more (c.flush_outputs.ensures.holds _) (writes_reply _ c.flush.ensures.octets) in
    record {
      failed = inr (c.flush.ensures.failed ∙ sym c.is_err-replies_fail.ensures.value ∙ c.if-replies_fail.true);
      passed = inr (c.flush_outputs.ensures.passed c.if-is_err.ensures.negation);
      order = order_after _ c.serve_script.ensures.waits c.flush_outputs.ensures.order;
      served = λ honest. all_is_first m start (all_passed_on m start (c.in-Ok.ensures.ok.served honest) all_hold);
    }

pub returns-clause-ok : goal.returns-clause-ok
returns-clause-ok g c =
    let m = g.T.LineMachine.machine (g.T.LineMachine.widths c.args.machine.now) in
    let start = run_of g.state (map g.I.PortIn.source c.args.inputs.now.items) in
    let serves = c.in-Ok.ensures.ok in
    let both_hold = writes_more (c.flush_outputs.ensures.holds _) (writes_reply _ c.flush.ensures.octets) in
    let outputs_passed_on = c.if-is_err.ensures.negation in
    let replies_passed_on = c.if-replies_fail.ensures.negation in
    record {
      serves = record {
        script = serves.script;
        ready = record {
          inputs = serves.ready.inputs;
          outs = c.flush_outputs.ensures.ready outputs_passed_on;
          reply = c.flush.ensures.failed ∙ sym c.is_err-replies_fail.ensures.value ∙ c.if-replies_fail.false;
        };
        served = λ honest. all_passed_on m start (serves.served honest) both_hold;
      };
      outputs_passed = c.flush_outputs.ensures.passed outputs_passed_on;
      replies_passed = c.flush.ensures.all replies_passed_on;
    }

pub returns-in-Err-clause-few : goal.returns-in-Err-clause-few
returns-in-Err-clause-few g c = c.serve_script.ensures.few

pub returns-then-is_err-clause-few : goal.returns-then-is_err-clause-few
returns-then-is_err-clause-few g c = c.serve_script.ensures.few

pub returns-then-is_err-clause-read : goal.returns-then-is_err-clause-read
returns-then-is_err-clause-read g c = is_no_read

pub returns-then-replies_fail-clause-few : goal.returns-then-replies_fail-clause-few
returns-then-replies_fail-clause-few g c = c.serve_script.ensures.few

pub returns-then-replies_fail-clause-read : goal.returns-then-replies_fail-clause-read
returns-then-replies_fail-clause-read g c = is_no_read

pub returns-clause-few : goal.returns-clause-few
returns-clause-few g c = c.serve_script.ensures.few

pub returns-clause-read : goal.returns-clause-read
returns-clause-read g c = is_no_fault

pub returns-clause-write : goal.returns-clause-write
returns-clause-write g c = is_no_fault

pub flush_outputs-requires : goal.flush_outputs-requires
flush_outputs-requires g c = record { ready = c.in-Ok.ensures.ok.ready.outs }

pub flush-requires : goal.flush-requires
flush-requires g c = c.in-Ok.ensures.ok.ready.reply
