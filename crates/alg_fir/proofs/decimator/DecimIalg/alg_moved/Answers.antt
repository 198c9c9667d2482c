use Rattle.std.proofs.Common.{◌≡◌, length, sym, ap, subst, ◌∙◌, arith}
use Rattle.ialg.specs.Loans.{lent_words}
use Rattle.ialg.specs.Records.{lasting, unplaced}
use Rattle.alg_fir.specs.Keeps.{KeepsPast, KeepsRing}
use Rattle.alg_fir.specs.DecimMeaning.{decim_records}
use Rattle.alg_fir.specs.DecimKeeps.{taps_of, KeepsPhase}
use Rattle.alg_fir.proofs.DecimRecords.{has_constants, constants_are, without_scratch}
use Rattle.ialg.proofs.Tables.{lasting_at}
use Rattle.alg_fir.proofs.decimator.DecimIalg.alg_moved.Goals as goal

pub returns-clause-idle : goal.returns-clause-idle
returns-clause-idle c p w l before lawful moved table closed lent idle =
    let h = l.history in
    let m = c.name_records.new.self in
    let old = c.args.mem.now in
    let tab = c.args.tab.now in
    let wss = lasting tab (lent_words old) in
    let records : unplaced tab ≡ decim_records (taps_of p) = sym moved ∙ idle.constants.object.on_table in
    let at = lasting_at tab (decim_records (taps_of p)) records (lent_words old) in
    let names = rw records at (c.name_records.ensures.names (ap length (sym (at 0)) ∙ idle.constants.object.long)) in
    let kept = at 1 ∙ sym (ap (λ b. b.now) (c.name_records.ensures.others.others1 (λ e. omega arith))) in
    let constants = ap (λ b. b.now) (c.name_records.ensures.others.others2 (λ e. omega arith)) ∙ sym (at 2) ∙ constants_are p before wss idle.constants in
    without_scratch p tab (lent_words m) h (record {
      constants = has_constants p tab (lent_words m) idle.constants.taken names constants;
      keeps = subst (KeepsPhase p h) kept idle.keeps;
      past = subst (KeepsPast (taps_of p) 1 h) kept idle.past;
    })

pub returns-clause-active : goal.returns-clause-active
returns-clause-active c p w l before lawful moved table closed lent active =
    let h = l.history in
    let m = c.name_records.new.self in
    let old = c.args.mem.now in
    let tab = c.args.tab.now in
    let records : unplaced tab ≡ decim_records (taps_of p) = sym moved ∙ active.constants.object.on_table in
    let names = rw records at (c.name_records.ensures.names active.constants.object.long) in
    let kept = sym (ap (λ b. b.now) (c.name_records.ensures.others.others1 (λ e. omega arith))) in
    let ring = sym (ap (λ b. b.now) (c.name_records.ensures.others.others3 (λ e. omega arith))) in
    let constants = ap (λ b. b.now) (c.name_records.ensures.others.others2 (λ e. omega arith)) ∙ constants_are p before (lent_words old) active.constants in
    record {
      constants = has_constants p tab (lent_words m) active.constants.taken names constants;
      keeps = subst (KeepsPhase p h) kept active.keeps;
      ring = subst (KeepsRing (taps_of p) h) ring active.ring;
    }
