use Rattle.std.proofs.Common.{◌≡◌, length, List, refl, ap, subst, sym, ◌∙◌}
use Rattle.std.specs.Prelude.{Some}
use Rattle.record_loans.specs.declared.pieces.Pieces.{Pieces}
use Rattle.host_shared.specs.declared.locations.Locations.{Locations}
use Rattle.host_shared.specs.Locations.{shared_at}
use Rattle.host_shared.specs.Owners.{with_pieces_of, HasOwners}
use Rattle.lifecycle.specs.Turns.{HasBegun}
use Rattle.lifecycle.proofs.LentAgain.{lent_where_fits}
use Rattle.lifecycle.proofs.Frames.{fits_stay, same_group, sizes_restored, unplaced-placed}
use Rattle.lifecycle.proofs.Settled.{settled_based, settled_fits}
use Rattle.lifecycle.proofs.Keeps.{started}
use Rattle.lifecycle.proofs.Words.{lasting_lent, are_new-same}
use Rattle.lifecycle.proofs.idle.Idle.start.Goals as goal

pub settle-requires-clause-sizes : goal.settle-requires-clause-sizes
settle-requires-clause-sizes g c =
    let old = c.args.self.now.instance in
    sizes_restored old.table old.own old.own (shared_at c.args.sharing.now.items c.args.i) c.args.group.now refl c.requires.room

pub settle-requires-clause-spaces : goal.settle-requires-clause-spaces
settle-requires-clause-spaces g c = c.requires.room.spaces

pub perform_at_rest-requires-clause-number : goal.perform_at_rest-requires-clause-number
perform_at_rest-requires-clause-number g c = rw (ap length c.settle.ensures.sharing) c.requires.number

pub perform_at_rest-requires-clause-owners : goal.perform_at_rest-requires-clause-owners
perform_at_rest-requires-clause-owners g c = subst (λ (xs : List Locations). HasOwners xs c.args.i) (sym c.settle.ensures.sharing) c.requires.owners

pub perform_at_rest-requires-clause-sizes : goal.perform_at_rest-requires-clause-sizes
perform_at_rest-requires-clause-sizes g c = (lasting_lent c.settle.new.table c.args.self.now.instance.own (shared_at c.settle.new.sharing.items c.args.i) c.args.group.now (settled_fits c.args.i c.args.sharing.now.items c.settle.new.sharing.items c.settle.ensures.sharing c.args.self.now.instance.table c.settle.new.table c.args.self.now.instance.own _ c.args.group.now refl c.settle.ensures.table c.requires.room).lent).sizes

pub returns-clause-started : goal.returns-clause-started
returns-clause-started g c =
    let law = g.M.Ialg.law in
    let old = c.args.self.now.instance in
    let rs = c.settle.new.table in
    let own' = c.perform_at_rest.new.own in
    let before = (shared_at c.settle.new.sharing.items c.args.i) in
    let now = c.perform_at_rest.new.sharing.items in
    let after : Pieces = shared_at now c.args.i in
    let did = c.perform_at_rest.ensures in
    let based = settled_based c.args.i c.args.sharing.now.items c.settle.new.sharing.items c.settle.ensures.sharing c.args.self.now.instance.table c.settle.new.table c.args.self.now.instance.own _ c.args.group.now refl c.settle.ensures.table c.requires.room in
    let fits = settled_fits c.args.i c.args.sharing.now.items c.settle.new.sharing.items c.settle.ensures.sharing c.args.self.now.instance.table c.settle.new.table c.args.self.now.instance.own _ c.args.group.now refl c.settle.ensures.table c.requires.room in
    let same = unplaced-placed old.table rs old.own before c.args.group.now based in
    record {
      seen = subst (λ (xs : List Locations). now ≡ with_pieces_of xs c.args.i (shared_at now c.args.i)) c.settle.ensures.sharing did.seen;
      begun = subst (λ (xs : List Locations). HasBegun law old (record old { table = rs; own = own' }) (shared_at xs c.args.i) after c.args.group.now) c.settle.ensures.sharing
          (record {
            same = record { kind = refl; params = refl; table = based; own = did.own };
            pieces = did.shared;
            fits = fits_stay did.own did.shared (same_group c.args.group.now) fits;
            keeps = λ w is new lawful.
                started law old.kind rs old.own own' before after c.args.group.now old.params.items
                fits did.done w lawful (is ∙ ap Some same)
                (are_new-same w (law.fill old.kind old.params.items) old.table rs old.own before (sym same) new);
          });
    }

pub returns-clause-lent : goal.returns-clause-lent
returns-clause-lent g c =
    let old = c.args.self.now.instance in
    let started = returns-clause-started g c in
    lent_where_fits old (record old { table = c.settle.new.table; own = c.perform_at_rest.new.own }) c.args.i c.args.sharing.now.items c.perform_at_rest.new.sharing.items c.args.group.now c.requires.number c.requires.owners
    started.seen started.begun.fits
