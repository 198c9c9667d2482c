use Rattle.std.proofs.Common.{refl, ap, ◌∙◌, Some}
use Rattle.host_map.specs.Activity.{count_after}
use Rattle.host_shared.specs.Locations.{shared_at}
use Rattle.lifecycle.proofs.LentAgain.{lent_again}
use Rattle.lifecycle.proofs.Groups.{same_blocks, active_words_at}
use Rattle.lifecycle.proofs.Keeps.{activated_keeps}
use Rattle.lifecycle.proofs.Once.{once_active}
use Rattle.lifecycle.proofs.idle.Idle.activate.Goals as goal

pub returns-clause-did : goal.returns-clause-did
returns-clause-did g c =
    let old = c.args.self.now.instance in
    let before = shared_at c.args.sharing.now.items c.args.i in
    let after = shared_at c.perform.new.sharing.items c.args.i in
    let done = c.perform.ensures.done in
    record {
      same = record { kind = refl; params = refl; table = refl; own = c.perform.ensures.own };
      pieces = c.perform.ensures.shared;
      written = once_active old.table old.own c.perform.new.own before after c.args.group.now c.perform.new.group done.0;
      blocks = λ space. rw (c.set_active.ensures.blocks space) (same_blocks _ _ c.perform.ensures.group space);
      active = c.set_active.ensures.active;
      activations = c.set_active.ensures.activations ∙ ap (λ n. count_after n (Some c.args.i)) c.perform.ensures.group.activations;
      keeps = λ w h poison keeps lawful.
          rw (active_words_at old.table c.perform.new.own after c.perform.new.group c.set_active.new.self c.set_active.ensures.blocks)
          (activated_keeps g.M.Ialg.law old.kind old.table old.own c.perform.new.own before after c.args.group.now c.perform.new.group
          c.requires.lent.fits done.1 old.params.items w h lawful poison (keeps lawful));
    }

pub perform-requires-clause-sizes : goal.perform-requires-clause-sizes
perform-requires-clause-sizes g c = c.requires.lent.fits.lent.sizes

pub returns-clause-lent : goal.returns-clause-lent
returns-clause-lent g c =
    let did = returns-clause-did g c in
    lent_again c.args.self.now.instance (record c.args.self.now.instance { own = c.perform.new.own }) c.args.i c.args.sharing.now.items c.perform.new.sharing.items c.args.group.now c.set_active.new.self did.same c.perform.ensures.seen did.pieces did.blocks c.requires.lent
