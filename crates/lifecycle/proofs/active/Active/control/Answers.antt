use Rattle.std.proofs.Common.{refl}
use Rattle.host_shared.specs.Locations.{shared_at}
use Rattle.lifecycle.proofs.LentAgain.{lent_again}
use Rattle.lifecycle.proofs.Groups.{same_blocks}
use Rattle.lifecycle.proofs.Once.{once_active}
use Rattle.lifecycle.proofs.active.Active.control.Goals as goal

pub returns-clause-did : goal.returns-clause-did
returns-clause-did g c =
    let old = c.args.self.now.instance in
    let before = shared_at c.args.sharing.now.items c.args.i in
    let after = shared_at c.perform.new.sharing.items c.args.i in
    let done = c.perform.ensures.done in
    record {
      same = record { kind = refl; params = refl; table = refl; own = c.perform.ensures.own };
      pieces = c.perform.ensures.shared;
      written = once_active old.table old.own c.perform.new.own before after c.args.group.now c.perform.new.group done.0;
      group = c.perform.ensures.group;
      keeps = λ w h takes keeps lawful. (done.1 old.params.items w h lawful takes refl c.requires.lent.fits.lent (keeps lawful)).0;
      status = λ w h lawful takes keeps. (done.1 old.params.items w h lawful takes refl c.requires.lent.fits.lent (keeps lawful)).1;
    }

pub perform-requires-clause-sizes : goal.perform-requires-clause-sizes
perform-requires-clause-sizes g c = c.requires.lent.fits.lent.sizes

pub returns-clause-lent : goal.returns-clause-lent
returns-clause-lent g c =
    let did = returns-clause-did g c in
    lent_again c.args.self.now.instance (record c.args.self.now.instance { own = c.perform.new.own }) c.args.i c.args.sharing.now.items c.perform.new.sharing.items c.args.group.now c.perform.new.group did.same c.perform.ensures.seen did.pieces (same_blocks c.args.group.now c.perform.new.group did.group) c.requires.lent
