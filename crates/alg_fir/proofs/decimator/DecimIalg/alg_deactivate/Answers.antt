use Rattle.std.proofs.Common.{ap, ◌∙◌, arith}
use Rattle.ialg.specs.Loans.{lent_words}
use Rattle.alg_fir.specs.DecimKeeps.{taps_of}
use Rattle.alg_fir.proofs.DecimRecords.{constants_same, without_scratch, finds}
use Rattle.alg_fir.proofs.DecimSteps.{is_taken}
use Rattle.alg_fir.proofs.decimator.DecimIalg.alg_deactivate.Goals as goal

pub returns-clause-law : goal.returns-clause-law
returns-clause-law c p w l lawful closed lent active =
    let h = l.history in
    let m = c.args.mem.now in
    let new = c.save_past.new.mem in
    let t = is_taken p active.constants.taken in
    let r = c.save_past.ensures.saved (taps_of p) h (finds p m active.constants lent) t.some active.keeps.size active.ring in
    let constants = constants_same p m.table.now (lent_words m) (lent_words new) active.constants
    (ap (λ b. b.now) (r.0.others0 (λ e. omega arith))) (ap (λ b. b.now) (r.0.others2 (λ e. omega arith))) in
    without_scratch p m.table.now (lent_words new) h (record {
      constants = constants;
      keeps = record {
        history = active.keeps.history;
        unset = active.keeps.unset;
        size = c.save_past.ensures.loans.len1 ∙ active.keeps.size;
        counted = r.2 ∙ active.keeps.counted;
      };
      past = r.1;
    })
