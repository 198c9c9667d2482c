use Rattle.std.proofs.Common.{◌≡◌, ◌∙◌, take, drop, pos, length, unsigned_abs, ap, ap₂, sym, rules, w16, to_z, of_z, arith, get_or-take}
use Rattle.std.proofs.lemmas.Int.{to_z-of_z}
use mir.Val.{SFits}
use Rattle.ialg.specs.History.{word_at, samples_since_reset, with_samples}
use Rattle.kind_steps.specs.declared.stepping.TheConstants.{HEAD}
use Rattle.kind_steps.specs.Steppings.{IsBehind, IsHeld}
use Rattle.kind_steps.proofs.Steppings.{kind_takes, opened_fresh, opened_begun, closed, waiting_few}
use Rattle.kind_steps.proofs.stepping.run_words.Goals as goal
use Rattle.kind_steps.proofs.stepping.run_words.Goals.{then-head-eq0, else-head-eq0}

pub returns-then-waiting-n-clause-law : goal.returns-then-waiting-n-clause-law
returns-then-waiting-n-clause-law g c h =
    let S = g.K.Stepping in
    let p = c.args.p.now in
    let n = S.frame p in
    let ws = c.args.words.now in
    let xs = samples_since_reset h in
    let head = c.split_at_mut-head.result.0.now in
    let en : c.frame-n.result ≡ n = c.frame-n.ensures in
    let front = c.split_at_mut-head.ensures.front in
    let back = c.split_at_mut-head.ensures.back in
    let held : c.split_at_mut-held.result.0.now ≡ take n (drop HEAD ws) = c.split_at_mut-held.ensures.front ∙ ap₂ take en back in
    let rest : c.split_at_mut-held.result.1.now ≡ drop n (drop HEAD ws) = c.split_at_mut-held.ensures.back ∙ ap₂ drop en back in
    let first : word_at head 0 ≡ word_at ws 0 = ap (λ l. word_at l 0) front ∙ get_or-take HEAD ws 0 (pos 0) (omega arith) in
    let second : word_at head 1 ≡ word_at ws 1 = ap (λ l. word_at l 1) front ∙ get_or-take HEAD ws 1 (pos 0) (omega arith) in
    let count : c.waiting-waiting.result ≡ unsigned_abs (word_at ws 1) = c.waiting-waiting.ensures ∙ ap unsigned_abs second in
    let fits : SFits w16 (word_at head 0) = search rules in
    let opened : IsBehind n (S.state_of p) xs ws → IsHeld n (S.state_of p) xs c.waiting-waiting.result c.split_at_mut-held.result.0.now c.if-head-eq0.state =
    λ is. elim c.if-head-eq0.branch [
      | then-head-eq0 w ↦ opened_fresh n (S.state_of p) xs ws is c.waiting-waiting.result c.split_at_mut-held.result.0.now c.if-head-eq0.state count
          (
          let zero : word_at head 0 ≡ pos 0 = sym (to_z-of_z w16 (word_at head 0) fits) ∙ ap (to_z w16) w.if-head-eq0.true in sym first ∙ zero
          ) (w.state-is ∙ w.begin.ensures)
      | else-head-eq0 w ↦ opened_begun n (S.state_of p) xs ws is c.waiting-waiting.result c.split_at_mut-held.result.0.now c.if-head-eq0.state count
          (λ e. w.if-head-eq0.false (ap (of_z w16) (first ∙ e))) held (w.state-is ∙ rest)
    ] in
    let on = c.run_block-now.ensures.law h in
    let size : length c.run_block-now.new.held ≡ n = c.run_block-now.auto.held ∙ c.split_at_mut-held.ensures.front_len ∙ en in
    record {
      samples = λ is. on.samples;
      state = λ is. rw c.write_head.ensures (closed n (S.state_of p) (samples_since_reset (with_samples h c.args.input.now)) c.run_block-now.result
          c.run_block-now.new.held c.run_block-now.new.state size (on.state (opened is)));
      outputs = λ is. on.outputs (opened is);
    }

pub returns-else-waiting-n-clause-law : goal.returns-else-waiting-n-clause-law
returns-else-waiting-n-clause-law g c h =
    let S = g.K.Stepping in
    let p = c.args.p.now in
    let ws = c.args.words.now in
    let en = c.frame-n.ensures in
    let some = g.met.K.Stepping.some p (kind_takes S.taken p c.requires.takes) in
    let second : word_at c.split_at_mut-head.result.0.now 1 ≡ word_at ws 1 =
    ap (λ l. word_at l 1) c.split_at_mut-head.ensures.front ∙ get_or-take HEAD ws 1 (pos 0) (omega arith) in
    let count : c.waiting-waiting.result ≡ unsigned_abs (word_at ws 1) = c.waiting-waiting.ensures ∙ ap unsigned_abs second in
    let none : (IsBehind (S.frame p) (S.state_of p) (samples_since_reset h) ws → ⊥) =
    λ is.
    let few = waiting_few (S.frame p) (S.state_of p) (samples_since_reset h) ws is c.waiting-waiting.result some count in
    let many = c.if-waiting-n.false in
    omega arith in
    record { samples = λ is. absurd (none is); state = λ is. absurd (none is); outputs = λ is. absurd (none is) }
