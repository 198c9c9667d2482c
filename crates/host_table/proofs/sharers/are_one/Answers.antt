use Rattle.std.proofs.Common.{◌∙◌}
use Rattle.host_table.proofs.sharers.are_one.Goals as goal

pub returns : goal.returns
returns g c = c.eq.ensures ∙ g.met.M.Ialg.compared c.args.a c.args.b
