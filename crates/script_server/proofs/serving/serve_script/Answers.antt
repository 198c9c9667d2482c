use Rattle.std.proofs.Common.{rules, ◌≡◌, arith, ◌+◌, ◌∙◌, refl, ap, Err, ◌≤◌, length, length-append, ◌++◌, ◌∷◌, [], map, if◌then◌else◌, inl, inr}
use Rattle.octet_ports.proofs.Ports.{gives_none}
use Rattle.script_server.proofs.Scripts.{served_none, consumes_more}
use Rattle.script_server.proofs.Honest.{honest_first}
use Rattle.script_server.proofs.Writes.{wait_none, wait_more, order_waits}
use Rattle.script_server.proofs.Ends.{served_more, served_all, script_cut, stops_in_script, stops_in_feed, why_failed, consumes_within, consumes_then}
use Rattle.voice_script.specs.Served.{Machine, Run}
use Rattle.script_server.specs.Runs.{Devices, EndsByRead, EndsByWrite, honest_at}
use Rattle.script_server.specs.LineRuns.{EndsBy}
use Rattle.script_server.specs.declared.serving.PortsFault.{PortsFault}
use Rattle.script_server.specs.declared.serving.PortsFault.TheVariants.{Read, Write}
use Rattle.script_server.proofs.serving.serve_script.Goals as goal
use Rattle.script_server.proofs.serving.serve_script.Goals.{then-is_refused, else-is_refused}

pub lines-init : goal.lines-init
lines-init g c = record {
  script = search rules;
  widths = refl;
  one = search rules;
  pairs = search rules;
  ready = search rules;
  few = omega (arith, c.new-reader.ensures.left);
  came = rw (c.new-reader.ensures.none, c.new-reader.ensures.left) (record { octets = []; gives = gives_none (g.S.PortIn.source c.args.script.now); used = refl });
  waits = wait_none _ _;
  served = rw (c.new-reader.ensures.none, c.new-reader.ensures.left)
      (served_none (g.T.LineMachine.machine (g.T.LineMachine.widths c.args.machine.now)) (g.T.LineMachine.refines c.args.machine.now) (honest_at (map g.I.PortIn.source c.args.inputs.now.items)) g.state _ _ _ _
      (search rules) (honest_first (map g.I.PortIn.source c.args.inputs.now.items)));
}

-- by either fault
ends_by : {S : Type 0} (machine : Machine S) (start : Run S) (fault : PortsFault) (old new : Devices) → (fault ≡ Read → EndsByRead machine start old new)
    → (fault ≡ Write → EndsByWrite machine start old new) → EndsBy machine start fault old new
ends_by machine start Read old new by_read by_write = by_read refl
ends_by machine start Write old new by_read by_write = by_write refl

pub returns-in-Err-clause-fault : goal.returns-in-Err-clause-fault
returns-in-Err-clause-fault g c = record {
  failed = why_failed _ c.in-Err._fault c.lines.invariant.came c.in-Err.ensures.err;
  passed = c.lines.invariant.waits;
  served = stops_in_script (g.T.LineMachine.machine (g.T.LineMachine.widths c.args.machine.now)) _ _ _ c.lines.invariant.served c.in-Err._fault c.in-Err.ensures.err;
}

pub returns-in-Err-serve_line-clause-fault : goal.returns-in-Err-serve_line-clause-fault
returns-in-Err-serve_line-clause-fault g c =
    let came = c.in-Ok.ensures.ok in
    ends_by _ _ c.in-Err-serve_line.fault _ _ (λ e. record {
      failed = inr (inl (c.in-Err-serve_line.ensures.read (ap Err e)));
      passed = wait_more c.lines.invariant.waits c.in-Err-serve_line.ensures.waits;
      served = let served = c.lines.invariant.served in
          stops_in_feed (g.T.LineMachine.machine (g.T.LineMachine.widths c.args.machine.now)) _ _ _ c.read_line.new.self.octets served came c.in-Ok.ensures.last c.in-Ok.ensures.few
          (rw c.lines.invariant.widths at (c.in-Err-serve_line.ensures.unfed (ap Err e) came.octets _ (rw (c.as_slice.ensures.value) came.line) served.kept));
    }) (λ e. record {
      failed = c.in-Err-serve_line.ensures.write (ap Err e);
      passed = inl (wait_more c.lines.invariant.waits c.in-Err-serve_line.ensures.waits).reply;
      order = order_waits (wait_more c.lines.invariant.waits c.in-Err-serve_line.ensures.waits);
      served = λ honest. let served = c.lines.invariant.served in
          script_cut (g.T.LineMachine.machine (g.T.LineMachine.widths c.args.machine.now)) _ _ _ honest served came
          (rw c.lines.invariant.widths at (c.in-Err-serve_line.ensures.cut (ap Err e) came.octets _ _ (rw (c.as_slice.ensures.value) came.line) served.kept served.still));
    })

pub returns-then-line-clause-ok : goal.returns-then-line-clause-ok
returns-then-line-clause-ok g c =
    let came = rw (c.if-line.true, c.in-Ok.ensures.last c.if-line.true) at c.in-Ok.ensures.ok in
    let count : c.if-is_refused.refused ≡ c.lines.refused + (if c.in-Ok-serve_line.is_refused then 1 else 0) =
    elim c.if-is_refused.branch [ then-is_refused w ↦ rw w.if-is_refused.true w.refused-is | else-is_refused w ↦ rw w.if-is_refused.false (omega (arith, w.refused-is)) ] in
    record {
      script = c.in-Ok.ensures.ready refl;
      ready = c.in-Ok-serve_line.ensures.ready refl;
      served = λ honest. let served = c.lines.invariant.served in
          served_all (g.T.LineMachine.machine (g.T.LineMachine.widths c.args.machine.now)) _ _ _ honest served came
          (rw c.lines.invariant.widths at (c.in-Ok-serve_line.ensures.served came.octets _ _ (rw (c.as_slice.ensures.value) came.line) served.kept served.still)) count;
    }

pub lines-preserved : goal.lines-preserved
lines-preserved g c =
    let came = rw c.if-line.false at c.in-Ok.ensures.ok in
    let count : c.if-is_refused.refused ≡ c.lines.refused + (if c.in-Ok-serve_line.is_refused then 1 else 0) =
    elim c.if-is_refused.branch [ then-is_refused w ↦ rw w.if-is_refused.true w.refused-is | else-is_refused w ↦ rw w.if-is_refused.false (omega (arith, w.refused-is)) ] in
    let one : c.if-is_refused.refused ≤ c.lines.refused + 1 =
    elim c.if-is_refused.branch [ then-is_refused w ↦ omega arith | else-is_refused w ↦ omega arith ] in
    let used : c.lines.reader.left ≡ length (came.octets ++ 10 ∷ []) + c.read_line.new.self.left = came.used in
    record {
      script = c.in-Ok.ensures.ready refl;
      widths = c.in-Ok-serve_line.ensures.widths ∙ c.lines.invariant.widths;
      one = c.in-Ok-serve_line.ensures.inputs refl;
      pairs = c.in-Ok-serve_line.ensures.outputs refl;
      ready = c.in-Ok-serve_line.ensures.ready refl;
      few = let long = length-append came.octets (10 ∷ []) in omega (arith, c.lines.invariant.few, one, used, long);
      came = consumes_more c.lines.invariant.came came;
      waits = wait_more c.lines.invariant.waits c.in-Ok-serve_line.ensures.waits;
      served = let served = c.lines.invariant.served in
          served_more (g.T.LineMachine.machine (g.T.LineMachine.widths c.args.machine.now)) _ served came
          (rw c.lines.invariant.widths at (c.in-Ok-serve_line.ensures.served came.octets _ _ (rw (c.as_slice.ensures.value) came.line) served.kept served.still)) count;
    }

pub returns-in-Err-clause-few : goal.returns-in-Err-clause-few
returns-in-Err-clause-few g c = consumes_then c.in-Err._fault c.lines.invariant.came c.in-Err.ensures.err

pub returns-in-Err-serve_line-clause-few : goal.returns-in-Err-serve_line-clause-few
returns-in-Err-serve_line-clause-few g c = consumes_within c.read_line.new.self.octets (g.S.PortIn.source c.read_line.new.script) (consumes_more c.lines.invariant.came c.in-Ok.ensures.ok) c.in-Ok.ensures.within

pub returns-then-line-clause-few : goal.returns-then-line-clause-few
returns-then-line-clause-few g c = consumes_within c.read_line.new.self.octets (g.S.PortIn.source c.read_line.new.script) (consumes_more c.lines.invariant.came c.in-Ok.ensures.ok) c.in-Ok.ensures.within

pub lines-smaller : goal.lines-smaller
lines-smaller g c =
    let came = rw c.if-line.false at c.in-Ok.ensures.ok in
    let long = length-append came.octets (10 ∷ []) in
    omega (arith, came.used, long)

pub returns-in-Err-clause-waits : goal.returns-in-Err-clause-waits
returns-in-Err-clause-waits g c = c.lines.invariant.waits

pub returns-in-Err-serve_line-clause-waits : goal.returns-in-Err-serve_line-clause-waits
returns-in-Err-serve_line-clause-waits g c = wait_more c.lines.invariant.waits c.in-Err-serve_line.ensures.waits

pub returns-then-line-clause-waits : goal.returns-then-line-clause-waits
returns-then-line-clause-waits g c = wait_more c.lines.invariant.waits c.in-Ok-serve_line.ensures.waits
