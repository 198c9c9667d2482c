use Rattle.std.proofs.Common.{◌≡◌, length, List, refl, ap, subst, sym, ◌∙◌}
use Rattle.record_loans.specs.declared.pieces.Pieces.{Pieces}
use Rattle.scratch_group.specs.Words.{idle_words, placed}
use Rattle.host_shared.specs.declared.locations.Locations.{Locations}
use Rattle.host_shared.specs.Locations.{shared_at}
use Rattle.host_shared.specs.Owners.{with_pieces_of, HasOwners}
use Rattle.lifecycle.specs.Turns.{Follows}
use Rattle.lifecycle.proofs.LentAgain.{lent_where_fits}
use Rattle.lifecycle.proofs.Frames.{fits_stay, same_group, sizes_restored, unplaced-placed}
use Rattle.lifecycle.proofs.Settled.{settled_based, settled_fits}
use Rattle.lifecycle.proofs.Keeps.{idle_moved}
use Rattle.lifecycle.proofs.Once.{once_idle}
use Rattle.lifecycle.proofs.Words.{lasting_lent}
use Rattle.lifecycle.proofs.idle.Idle.moved.Goals as goal

pub settle-requires-clause-sizes : goal.settle-requires-clause-sizes
settle-requires-clause-sizes g c =
    sizes_restored c.args.self.now.instance.table c.restore.new.own _ (shared_at c.args.sharing.now.items c.args.i) c.args.group.now c.restore.ensures c.requires.lent.room

pub settle-requires-clause-spaces : goal.settle-requires-clause-spaces
settle-requires-clause-spaces g c = rw c.restore.ensures c.requires.lent.room.spaces

pub perform_at_rest-requires-clause-number : goal.perform_at_rest-requires-clause-number
perform_at_rest-requires-clause-number g c = rw (ap length c.settle.ensures.sharing) c.requires.lent.number

pub perform_at_rest-requires-clause-owners : goal.perform_at_rest-requires-clause-owners
perform_at_rest-requires-clause-owners g c = subst (λ (xs : List Locations). HasOwners xs c.args.i) (sym c.settle.ensures.sharing) c.requires.lent.owners

pub perform_at_rest-requires-clause-sizes : goal.perform_at_rest-requires-clause-sizes
perform_at_rest-requires-clause-sizes g c = (lasting_lent c.settle.new.table c.restore.new.own (shared_at c.settle.new.sharing.items c.args.i) c.args.group.now (settled_fits c.args.i c.args.sharing.now.items c.settle.new.sharing.items c.settle.ensures.sharing c.args.self.now.instance.table c.settle.new.table c.restore.new.own _ c.args.group.now c.restore.ensures c.settle.ensures.table c.requires.lent.room).lent).sizes

pub returns-clause-seen : goal.returns-clause-seen
returns-clause-seen g c =
    let now = c.perform_at_rest.new.sharing.items in
    subst (λ (xs : List Locations). now ≡ with_pieces_of xs c.args.i (shared_at now c.args.i)) c.settle.ensures.sharing c.perform_at_rest.ensures.seen

pub returns-clause-did : goal.returns-clause-did
returns-clause-did g c =
    let law = g.M.Ialg.law in
    let old = c.args.self.now.instance in
    let rs = c.settle.new.table in
    let own = c.restore.new.own in
    let own' = c.perform_at_rest.new.own in
    let before = (shared_at c.settle.new.sharing.items c.args.i) in
    let after : Pieces = shared_at c.perform_at_rest.new.sharing.items c.args.i in
    let did = c.perform_at_rest.ensures in
    let based = settled_based c.args.i c.args.sharing.now.items c.settle.new.sharing.items c.settle.ensures.sharing c.args.self.now.instance.table c.settle.new.table c.restore.new.own _ c.args.group.now c.restore.ensures c.settle.ensures.table c.requires.lent.room in
    let fits = settled_fits c.args.i c.args.sharing.now.items c.settle.new.sharing.items c.settle.ensures.sharing c.args.self.now.instance.table c.settle.new.table c.restore.new.own _ c.args.group.now c.restore.ensures c.settle.ensures.table c.requires.lent.room in
    let same = unplaced-placed old.table rs own before c.args.group.now based in
    subst (λ (xs : List Locations). Follows law c.args.back old (record old { table = rs; own = own' }) (shared_at xs c.args.i) after c.args.group.now) c.settle.ensures.sharing
    (record {
      same = record { kind = refl; params = refl; table = based ∙ ap (λ (o : Pieces). placed old.table o before c.args.group.now) c.restore.ensures; own = rw (← c.restore.ensures) did.own };
      pieces = did.shared;
      written = once_idle rs own own' before after did.done.0;
      fits = fits_stay did.own did.shared (same_group c.args.group.now) fits;
      keeps = λ w h keeps lawful.
          idle_moved law old.kind rs old.table own own' before after c.args.group.now same fits did.done.1 old.params.items w h lawful
          (subst (λ (o : Pieces). law.idle_refines old.kind old.params.items old.table (idle_words old.table o before) h) (sym c.restore.ensures) (keeps lawful));
    })

pub returns-clause-lent : goal.returns-clause-lent
returns-clause-lent g c =
    let old = c.args.self.now.instance in
    lent_where_fits old (record old { table = c.settle.new.table; own = c.perform_at_rest.new.own }) c.args.i c.args.sharing.now.items c.perform_at_rest.new.sharing.items c.args.group.now c.requires.lent.number c.requires.lent.owners
    (returns-clause-seen g c) (returns-clause-did g c).fits
