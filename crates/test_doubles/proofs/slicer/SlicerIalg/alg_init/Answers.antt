use Rattle.std.proofs.Common.{◌≡◌, ◌==◌, [], length, sym, ap, lit<, arith, ◌∙◌}
use Rattle.std.proofs.lemmas.Bool.Decides.{nat_tests}
use Rattle.ialg.specs.Records.{unplaced}
use Rattle.ialg.specs.Loans.{lent_words}
use Rattle.ialg.proofs.Tables.{chosen, idle_lent_size}
use Rattle.ialg.proofs.Taking.{visit}
use Rattle.ialg.proofs.Loans.{SameLoans-then, taken_and_put}
use Rattle.test_doubles.specs.Slicer.{slicer_records, HoldsLevels}
use Rattle.test_doubles.proofs.Kept.{overwritten}
use Rattle.test_doubles.proofs.Levels.{without_scratch, fill_at, levels_named}
use Rattle.test_doubles.proofs.slicer.SlicerIalg.alg_init.Goals as goal

pub returns-clause-law : goal.returns-clause-law
returns-clause-law c w lawful taken table lent writable new =
    let p = c.args.p.now.items in
    let tab = c.args.tab.now in
    let old = lent_words c.args.mem.now in
    let m = c.name_records.new.self in
    let after = lent_words c.put.new.self in
    let asked = chosen (length p == 2) slicer_records (unplaced tab) taken in
    let test = asked.0 in
    let two : length p ≡ 2 = grind (arith, nat_tests, test) in
    let sizes = idle_lent_size tab slicer_records asked.1 old lent in
    let others = c.name_records.ensures.others in
    let same = ap (λ b. b.now) others.table ∙ table in
    let names = rw asked.1 at (c.name_records.ensures.names (sizes 0)) in
    let size = ap (λ r. length r.now) (others.others1 (λ e. omega arith)) ∙ sizes 1 in
    let named = levels_named m (rw same names) size in
    let found = c.in-Some.ensures.named _ slicer_records named (λ once. c.name_records.ensures.loans.writable ∙ writable) in
    let v = visit 1 m _ _ c.in-Some.taken _ found (lit< tt) (λ e. omega arith) c.in-Some.ensures.left c.put.ensures.others c.put.ensures.back in
    let long = c.overwrite.auto.words ∙ ap (λ r. length r.now) v.taken ∙ size in
    let written : c.overwrite.new.words ≡ p = overwritten p c.overwrite.new.words (long ∙ sym two) (rw c.as_slice.ensures.value at (c.overwrite.ensures.first) (omega arith)) in
    let object = v.written.others 0 (λ e. omega arith) in
    let keeps : HoldsLevels p tab after [] = record {
      two = two;
      history = tt;
      object = rw object names;
      once = fill_at p tab after asked.1 (v.written.written ∙ written);
    } in
    without_scratch p tab after [] keeps

pub returns-in_default-clause-law : goal.returns-in_default-clause-law
returns-in_default-clause-law c w lawful taken table lent writable new =
    let p = c.args.p.now.items in
    let tab = c.args.tab.now in
    let old = lent_words c.args.mem.now in
    let m = c.name_records.new.self in
    let asked = chosen (length p == 2) slicer_records (unplaced tab) taken in
    let sizes = idle_lent_size tab slicer_records asked.1 old lent in
    let others = c.name_records.ensures.others in
    let same = ap (λ b. b.now) others.table ∙ table in
    let names = rw asked.1 at (c.name_records.ensures.names (sizes 0)) in
    let size = ap (λ r. length r.now) (others.others1 (λ e. omega arith)) ∙ sizes 1 in
    let named = levels_named m (rw same names) size in
    absurd (c.in_default.ensures.named _ slicer_records named (λ once. c.name_records.ensures.loans.writable ∙ writable))

pub returns-clause-loans : goal.returns-clause-loans
returns-clause-loans c =
    let left = c.in-Some.ensures.left in
    let back = c.put.ensures.back in
    let later = taken_and_put _ _ _ _ left.0 left.2 c.put.ensures.others c.in-Some.ensures.found.may
    (ap (λ r. r.ghost_name) back ∙ ap (λ r. r.ghost_name) left.1)
    (ap (λ r. length r.now) back ∙ c.overwrite.auto.words ∙ ap (λ r. length r.now) left.1) in
    SameLoans-then _ _ _ c.name_records.ensures.loans later
