use Rattle.std.proofs.Common.{sym, subst}
use Rattle.alg_fir.specs.declared.Fir.{Fir}
use Rattle.host_shared.specs.Locations.{shared_at}
use Rattle.lifecycle.specs.declared.instance.Instance.{Instance}
use Rattle.lifecycle.specs.Moves.{HasRoom}
use Rattle.test_lives.proofs.Housing.{filter_fits}
use Rattle.test_lives.proofs.neighbour_tests.filter.Goals as goal

pub start-requires : goal.start-requires
start-requires g c =
    let seen = shared_at c.args.sharing.now.items 0 in
    let fits = filter_fits c.table-table.result seen c.args.object c.args.kept c.args.group.now
    c.table-table.ensures c.requires.none c.requires.object c.requires.kept c.requires.ready in
    record { number = c.requires.number; owners = c.requires.owners; room = subst (λ (s : Instance Fir). HasRoom s seen c.args.group.now) (sym c.new-member.ensures) fits }
