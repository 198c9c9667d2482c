use Rattle.std.proofs.Common.{ap, is_some, sym, ◌∙◌, arith}
use Rattle.std.proofs.lemmas.Bool.Decides.{nat_tests}
use Rattle.mem_rec.proofs.Valid.{no_table, told_of_error, too_many}
use Rattle.mem_rec.proofs.MemTab.make.Goals as goal

pub returns-then-ne-clause-exact : goal.returns-then-ne-clause-exact
returns-then-ne-clause-exact c = grind (arith, nat_tests)

pub returns-then-not-are_valid-clause-exact : goal.returns-then-not-are_valid-clause-exact
returns-then-not-are_valid-clause-exact c = grind (arith, nat_tests)

pub returns-clause-exact : goal.returns-clause-exact
returns-clause-exact c = grind (arith, nat_tests)

pub returns-in_default-clause-exact : goal.returns-in_default-clause-exact
returns-in_default-clause-exact c = no_table c.args.records.now c.in_default.len_below

pub returns-in_err-kept-clause-exact : goal.returns-in_err-kept-clause-exact
returns-in_err-kept-clause-exact c =
    let many = told_of_error _ c.try_from.result (sym c.ok.ensures.variant ∙ ap is_some c.in_err-kept.was) c.try_from.ensures in
    ap is_some c.from_residual.ensures ∙ too_many c.args.records.now many
