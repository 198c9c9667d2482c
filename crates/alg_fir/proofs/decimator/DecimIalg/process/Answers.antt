use Rattle.std.proofs.Common.{◌≡◌, length, sym, ap, subst, ◌∙◌, pos, arith}
use Rattle.ialg.specs.Loans.{lent_words}
use Rattle.alg_fir.specs.Keeps.{KeepsRing}
use Rattle.alg_fir.specs.DecimKeeps.{taps_of, coefficients_of}
use Rattle.alg_fir.proofs.DecimRecords.{constants_are, constants_same, finds, lent_still}
use Rattle.alg_fir.proofs.DecimSteps.{is_taken, phase, phase_after}
use Rattle.ialg.specs.History.{word_at, with_samples}
use Rattle.ialg.proofs.Histories.{IsWordHistory-with_samples, words_in_force-with_samples}
use Rattle.alg_fir.proofs.decimator.DecimIalg.process.Goals as goal

pub returns-clause-law : goal.returns-clause-law
returns-clause-law c p w l lawful closed lent active =
    let h = l.history in
    let m = c.args.mem.now in
    let xs = c.args.input.now in
    let new = c.run_ring.new.mem in
    let last = c.count.new.mem in
    let has = active.constants in
    let keeps = active.keeps in
    let t = is_taken p has.taken in
    let some = t.some in
    let r = c.run_ring.ensures.ran p h has.taken (finds p m has lent) (constants_are p m.table.now (lent_words m) has) keeps active.ring in
    let kept = ap (λ b. b.now) (r.0.others1 (λ e. omega arith)) in
    let table = ap (λ b. b.now) r.0.table in
    let constants = constants_same p m.table.now (lent_words m) (lent_words new) has
    (ap (λ b. b.now) (r.0.others0 (λ e. omega arith))) (ap (λ b. b.now) (r.0.others2 (λ e. omega arith))) in
    let still = lent_still m new m.table.now c.run_ring.ensures.loans lent in
    let long : length new.r1.now ≡ taps_of p = ap length kept ∙ keeps.size in
    let q = c.count.ensures.counted p (phase p h) has.taken (finds p new (rw table constants) (rw table still))
    (constants_are p m.table.now (lent_words new) constants) (omega arith) (ap (λ ws. word_at ws 0) kept ∙ keeps.counted) in (
      record {
        constants = constants_same p m.table.now (lent_words new) (lent_words last) constants
            (ap (λ b. b.now) (q.0.others0 (λ e. omega arith))) (ap (λ b. b.now) (q.0.others2 (λ e. omega arith)));
        keeps = record {
          history = IsWordHistory-with_samples h xs keeps.history r.1.samples;
          unset = words_in_force-with_samples (coefficients_of p) h xs ∙ keeps.unset;
          size = c.count.ensures.loans.len1 ∙ long;
          counted = q.1 ∙ ap pos (sym (phase_after p t h xs));
        };
        ring = subst (KeepsRing (taps_of p) (with_samples h xs)) (sym (ap (λ b. b.now) (q.0.others3 (λ e. omega arith)))) r.1.ring;
      },
      r.1.outputs,
    )
