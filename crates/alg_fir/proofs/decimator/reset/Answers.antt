use Rattle.std.proofs.Common.{◌≡◌, ◌+◌, ◌-◌, length, sym, ap, ◌∙◌, pos, arith}
use Rattle.ialg.specs.Loans.{lent_words}
use Rattle.alg_fir.specs.Decimation.{factor}
use Rattle.alg_fir.specs.DecimKeeps.{taps_of}
use Rattle.alg_fir.proofs.DecimRecords.{constants_same, ring_size, finds, lent_still}
use Rattle.alg_fir.proofs.DecimSteps.{is_taken}
use Rattle.ialg.specs.History.{word_at}
use Rattle.ialg.specs.declared.TheConstants.{BLOCK_SAMPLES}
use Rattle.std.proofs.Math.Nat.{zero-mod}
use Rattle.alg_fir.proofs.Rings.{silent_ring}
use Rattle.alg_fir.proofs.decimator.reset.Goals as goal

pub returns-clause-law : goal.returns-clause-law
returns-clause-law c p h lent active =
    let m = c.args.mem.now in
    let new = c.clear_kept.new.mem in
    let last = c.clear_ring.new.mem in
    let has = active.constants in
    let keeps = active.keeps in
    let t = is_taken p has.taken in
    let r = c.clear_kept.ensures.cleared (taps_of p) (finds p m has lent).kept in
    let table = ap (λ b. b.now) r.0.table in
    let constants = constants_same p m.table.now (lent_words m) (lent_words new) has
    (ap (λ b. b.now) (r.0.others0 (λ e. omega arith))) (ap (λ b. b.now) (r.0.others2 (λ e. omega arith))) in
    let still = lent_still m new m.table.now c.clear_kept.ensures.loans lent in
    let q = c.clear_ring.ensures.cleared (taps_of p) (finds p new (rw table constants) (rw table still)) in
    let kept = ap (λ b. b.now) (q.0.others1 (λ e. omega arith)) in
    let size : length last.r3.now ≡ taps_of p - 1 + BLOCK_SAMPLES =
    c.clear_ring.ensures.loans.len3 ∙ c.clear_kept.ensures.loans.len3 ∙ ring_size p m has lent in
    record {
      constants = constants_same p m.table.now (lent_words new) (lent_words last) constants
          (ap (λ b. b.now) (q.0.others0 (λ e. omega arith))) (ap (λ b. b.now) (q.0.others2 (λ e. omega arith)));
      keeps = record {
        history = (tt, keeps.history);
        unset = keeps.unset;
        size = c.clear_ring.ensures.loans.len1 ∙ c.clear_kept.ensures.loans.len1 ∙ keeps.size;
        counted = ap (λ ws. word_at ws 0) kept ∙ r.1 0 ∙ ap pos (sym (zero-mod (factor p)));
      };
      ring = silent_ring (taps_of p) h last.r3.now size q.1;
    }
