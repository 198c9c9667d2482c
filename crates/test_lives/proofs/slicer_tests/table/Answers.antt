use Rattle.std.proofs.Common.{None, refl, sym, ◌∙◌}
use Rattle.test_lives.proofs.Rooms.{records_granted}
use Rattle.test_lives.proofs.slicer_tests.table.Goals as goal

pub returns : goal.returns
returns g c = records_granted c.args.levels.now.items c.expect.result c.requires (sym c.expect.ensures ∙ c.alg_alloc.ensures.law None refl)
