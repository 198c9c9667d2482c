use Rattle.std.proofs.Common.{◌∙◌, refl, sym}
use Rattle.std.specs.Prelude.{None}
use Rattle.std.proofs.lemmas.Option.{same_Some}
use Rattle.test_lives.proofs.Housing.{memory_of_two}
use Rattle.test_lives.proofs.neighbour_tests.table.Goals as goal

pub returns : goal.returns
returns g c = same_Some _ _ (sym c.expect.ensures ∙ c.alg_alloc.ensures.law None refl ∙ memory_of_two c.args.p.now.items c.requires)
