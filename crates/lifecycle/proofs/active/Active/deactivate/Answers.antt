use Rattle.std.proofs.Common.{FitsSigned, rules, refl, w16, ◌∙◌}
use Rattle.std.proofs.lemmas.Int.{to_z-of_z}
use Rattle.lifecycle.proofs.LentAgain.{lent_again}
use Rattle.lifecycle.proofs.Keeps.{deactivated_keeps}
use Rattle.lifecycle.proofs.Once.{once_active}
use Rattle.host_shared.specs.Locations.{shared_at}
use Rattle.lifecycle.proofs.Groups.{same_blocks, same_filled}
use Rattle.lifecycle.proofs.active.Active.deactivate.Goals as goal

pub returns-in-Some-clause-did : goal.returns-in-Some-clause-did
returns-in-Some-clause-did g c =
    let old = c.args.self.now.instance in
    let before = shared_at c.args.sharing.now.items c.args.i in
    let after = shared_at c.perform.new.sharing.items c.args.i in
    let done = c.perform.ensures.done in
    let fits : FitsSigned w16 c.in-Some.word = search rules in
    record {
      same = record { kind = refl; params = refl; table = refl; own = c.perform.ensures.own };
      pieces = c.perform.ensures.shared;
      written = once_active old.table old.own c.perform.new.own before after c.args.group.now c.perform.new.group done.0;
      blocks = λ space. rw (c.fill.ensures.blocks space, c.set_active.ensures.blocks space) (same_filled _ _ _ (same_blocks _ _ c.perform.ensures.group space));
      active = c.fill.ensures.same.active ∙ c.set_active.ensures.active;
      activations = c.fill.ensures.same.activations ∙ c.set_active.ensures.activations ∙ c.perform.ensures.group.activations;
      poisoned = rw c.in-Some.is (rw (to_z-of_z w16 c.in-Some.word fits) at c.fill.ensures.poison);
      keeps = λ w h keeps lawful. deactivated_keeps g.M.Ialg.law old.kind old.table old.own c.perform.new.own before after c.args.group.now c.perform.new.group
          c.requires.lent.fits done.1 old.params.items w h lawful (keeps lawful);
    }

pub returns-in_default-clause-did : goal.returns-in_default-clause-did
returns-in_default-clause-did g c =
    let old = c.args.self.now.instance in
    let before = shared_at c.args.sharing.now.items c.args.i in
    let after = shared_at c.perform.new.sharing.items c.args.i in
    let done = c.perform.ensures.done in
    record {
      same = record { kind = refl; params = refl; table = refl; own = c.perform.ensures.own };
      pieces = c.perform.ensures.shared;
      written = once_active old.table old.own c.perform.new.own before after c.args.group.now c.perform.new.group done.0;
      blocks = λ space. rw (c.set_active.ensures.blocks space) (same_blocks _ _ c.perform.ensures.group space);
      active = c.set_active.ensures.active;
      activations = c.set_active.ensures.activations ∙ c.perform.ensures.group.activations;
      poisoned = rw c.in_default.is (λ space. tt);
      keeps = λ w h keeps lawful. deactivated_keeps g.M.Ialg.law old.kind old.table old.own c.perform.new.own before after c.args.group.now c.perform.new.group
          c.requires.lent.fits done.1 old.params.items w h lawful (keeps lawful);
    }

pub perform-requires-clause-sizes : goal.perform-requires-clause-sizes
perform-requires-clause-sizes g c = c.requires.lent.fits.lent.sizes

pub returns-in-Some-clause-lent : goal.returns-in-Some-clause-lent
returns-in-Some-clause-lent g c =
    let did = returns-in-Some-clause-did g c in
    lent_again c.args.self.now.instance (record c.args.self.now.instance { own = c.perform.new.own }) c.args.i c.args.sharing.now.items c.perform.new.sharing.items c.args.group.now c.fill.new.self did.same c.perform.ensures.seen did.pieces did.blocks c.requires.lent

pub returns-in_default-clause-lent : goal.returns-in_default-clause-lent
returns-in_default-clause-lent g c =
    let did = returns-in_default-clause-did g c in
    lent_again c.args.self.now.instance (record c.args.self.now.instance { own = c.perform.new.own }) c.args.i c.args.sharing.now.items c.perform.new.sharing.items c.args.group.now c.set_active.new.self did.same c.perform.ensures.seen did.pieces did.blocks c.requires.lent
