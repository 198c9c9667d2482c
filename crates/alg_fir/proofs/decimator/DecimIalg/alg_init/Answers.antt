use Rattle.std.proofs.Common.{◌≡◌, refl, ◌+◌, length, sym, ap, ◌∙◌, pos, [], arith}
use Rattle.mem_rec.specs.declared.Space.TheVariants.{Saram}
use Rattle.ialg.specs.Loans.{lent_words}
use Rattle.ialg.specs.Records.{unplaced}
use Rattle.alg_fir.specs.Decimation.{factor}
use Rattle.alg_fir.specs.DecimMeaning.{decim_takes, decim_records}
use Rattle.alg_fir.specs.DecimKeeps.{taps_of, decim_kind}
use Rattle.alg_fir.proofs.DecimRecords.{has_constants, without_scratch, kept_at, constants_at}
use Rattle.alg_fir.proofs.DecimSteps.{is_taken}
use Rattle.ialg.proofs.Finding.{NamedAt-SameBut}
use Rattle.std.proofs.Math.Nat.{zero-mod}
use Rattle.ialg.proofs.Tables.{chosen, idle_lent_size}
use Rattle.alg_fir.proofs.decimator.DecimIalg.alg_init.Goals as goal

pub returns-clause-law : goal.returns-clause-law
returns-clause-law c w lawful granted table lent writable fresh =
    let p = c.args.p.now.items in
    let tab = c.args.tab.now in
    let m1 = c.name_records.new.self in
    let m2 = c.write_constants.new.mem in
    let m3 = c.clear_kept.new.mem in
    let chose = chosen (decim_takes p) (decim_records (taps_of p)) (unplaced tab) granted in
    let t = is_taken p chose.0 in
    let some = t.some in
    let sizes = idle_lent_size tab (decim_records (taps_of p)) chose.1 (lent_words c.args.mem.now) lent in
    let same = ap (λ b. b.now) c.name_records.ensures.others.table ∙ table in
    let names = rw chose.1 at (c.name_records.ensures.names (sizes 0)) in
    let kept_long : length m1.r1.now ≡ taps_of p = c.name_records.ensures.loans.len1 ∙ sizes 1 in
    let long : length m1.r2.now ≡ taps_of p + 1 = c.name_records.ensures.loans.len2 ∙ sizes 2 in
    let kept_named = kept_at m1 (taps_of p) (rw same names) (omega arith) in
    let constants_named = constants_at m1 (taps_of p) (rw same names) (omega arith) in
    let given = c.as_slice.ensures.value in
    let written = c.write_constants.ensures.written (taps_of p) constants_named (c.name_records.ensures.others.writable ∙ writable)
    (long ∙ sym t.size ∙ sym (ap length given)) in
    let cleared = c.clear_kept.ensures.cleared (taps_of p)
    (NamedAt-SameBut 2 1 m1 m2 Saram decim_kind (decim_records (taps_of p)) written.0 (λ e. omega arith) (λ e. omega arith) kept_named) in
    let object = ap (λ b. b.now) (cleared.0.others0 (λ e. omega arith)) ∙ ap (λ b. b.now) (written.0.others0 (λ e. omega arith)) in
    let constants = ap (λ b. b.now) (cleared.0.others2 (λ e. omega arith)) ∙ written.1 ∙ given in
    without_scratch p tab (lent_words m3) [] (record {
      constants = has_constants p tab (lent_words m3) chose.0 (rw object names) constants;
      keeps = record {
        history = tt;
        unset = refl;
        size = c.clear_kept.ensures.loans.len1 ∙ c.write_constants.ensures.loans.len1 ∙ kept_long;
        counted = cleared.1 0 ∙ ap pos (sym (zero-mod (factor p)));
      };
      past = λ j k e. cleared.1 (1 + j);
    })
