use Rattle.std.proofs.Common.{sym, ap, subst, arith}
use Rattle.ialg.specs.Loans.{lent_words}
use Rattle.alg_fir.specs.DecimKeeps.{taps_of, KeepsPhase}
use Rattle.alg_fir.proofs.DecimRecords.{constants_same, with_scratch, kept_size, ring_size, finds}
use Rattle.alg_fir.proofs.DecimSteps.{is_taken}
use Rattle.alg_fir.proofs.decimator.DecimIalg.alg_activate.Goals as goal

pub returns-clause-law : goal.returns-clause-law
returns-clause-law c p w l lawful closed lent poison idle =
    let h = l.history in
    let m = c.args.mem.now in
    let new = c.restore_ring.new.mem in
    let rests = with_scratch p m.table.now (lent_words m) h idle in
    let t = is_taken p rests.constants.taken in
    let r = c.restore_ring.ensures.restored (taps_of p) h (finds p m rests.constants lent) t.some t.few (kept_size p m rests.constants lent)
    (ring_size p m rests.constants lent) rests.past in
    let constants = constants_same p m.table.now (lent_words m) (lent_words new) rests.constants
    (ap (λ b. b.now) (r.0.others0 (λ e. omega arith))) (ap (λ b. b.now) (r.0.others2 (λ e. omega arith))) in
    record {
      constants = constants;
      keeps = subst (KeepsPhase p h) (sym (ap (λ b. b.now) (r.0.others1 (λ e. omega arith)))) rests.keeps;
      ring = r.1;
    }
