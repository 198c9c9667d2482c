use Rattle.std.proofs.Common.{◌≡◌, rules, w16, to_z, of_z, arith}
use Rattle.std.proofs.lemmas.Int.{to_z-of_z}
use Rattle.std.proofs.lemmas.List.{length-set}
use mir.Val.{SFits}
use Rattle.kind_steps.proofs.Steppings.{sample_waits, frame_ends}
use Rattle.kind_steps.proofs.stepping.take_sample.Goals as goal

pub returns-then-waiting-held-clause-law : goal.returns-then-waiting-held-clause-law
returns-then-waiting-held-clause-law g c xs is =
    let S = g.K.Stepping in
    let p = c.args.p.now in
    let k = c.args.waiting in
    let x = c.args.x in
    let size = c.requires.frame in
    let all = length-set c.args.held.now k (to_z w16 (of_z w16 x)) in
    let less = c.if-waiting-held.true in
    let ex : to_z w16 (of_z w16 x) ≡ x = to_z-of_z w16 x c.ranges.x in
    rw ex (sample_waits (S.frame p) (S.state_of p) (S.told p) xs k c.args.held.now c.args.state.now x size c.requires.few is c.args.out.now.items (omega arith))

pub returns-else-waiting-held-clause-law : goal.returns-else-waiting-held-clause-law
returns-else-waiting-held-clause-law g c xs is =
    let S = g.K.Stepping in
    let p = c.args.p.now in
    let k = c.args.waiting in
    let x = c.args.x in
    let size = c.requires.frame in
    let all = length-set c.args.held.now k (to_z w16 (of_z w16 x)) in
    let few = c.requires.few in
    let last = c.if-waiting-held.false in
    let y = c.step.result in
    let ex : to_z w16 (of_z w16 x) ≡ x = to_z-of_z w16 x c.ranges.x in
    let fy : SFits w16 y = search rules in
    let ey : to_z w16 (of_z w16 y) ≡ y = to_z-of_z w16 y fy in
    let pushed = rw ey at c.push.ensures.items in
    let steps = rw ex at c.step.ensures.state in
    let tells = rw ex at c.step.ensures.told in
    rw ex (frame_ends (S.frame p) (S.state_of p) (S.told p) xs k c.args.held.now c.args.state.now x size few is c.step.new.state y
    c.args.out.now.items c.push.new.self.items (omega arith) steps tells pushed)
