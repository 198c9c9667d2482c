use Rattle.std.proofs.Common.{to_z, of_z}
use mir.Syntax.{w16}
use Rattle.test_doubles.proofs.Starting.{filled}
use Rattle.test_doubles.proofs.starts.start_with_fill.Goals as goal

pub started-requires : goal.started-requires
started-requires c = filled (to_z w16 (of_z w16 c.args.poison)) (to_z w16 (of_z w16 c.args.once))
