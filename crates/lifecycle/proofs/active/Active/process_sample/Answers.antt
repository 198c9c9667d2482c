use Rattle.std.proofs.Common.{◌≡◌, rules, refl, subst, w16, Option}
use Rattle.std.specs.Prelude.{IfSome}
use Rattle.std.proofs.Math.Facts.{to_z-of_z}
use Rattle.space_raw.specs.Span.{Span}
use Rattle.record_loans.specs.Pieces.{only_second}
use Rattle.scratch_group.specs.Readers.{IsReader}
use Rattle.scratch_group.proofs.Readers.{once_second, reader_fits}
use Rattle.host_shared.specs.Locations.{piece_seen, shared_at}
use Rattle.host_shared.proofs.AtOwners.{seen_there, not_elsewhere}
use Rattle.lifecycle.specs.Keeping.{TellsOutput}
use Rattle.lifecycle.proofs.Seconds.{told_second}
use Rattle.lifecycle.proofs.active.Active.process_sample.Goals as goal

pub index-requires : goal.index-requires
index-requires g c = let inside = (c.requires.lent.1.owners 1).inside in rw c.owner-at_owner.ensures (search (inside, rules))

pub tell-requires-clause-reader : goal.tell-requires-clause-reader
tell-requires-clause-reader g c = rw c.in-Reader.is at c.loan.ensures

pub tell-requires-clause-fit : goal.tell-requires-clause-fit
tell-requires-clause-fit g c =
    let sharing = c.args.sharing.now.items in
    let lent = c.requires.lent.1 in
    let s = c.args.self.now.instance in
    let is : IsReader s.table c.in-Reader.sizes = rw c.in-Reader.is at c.loan.ensures in
    rw (seen_there sharing c.args.i 1 c.owner-at_owner.result lent.owners c.owner-at_owner.ensures c.index.result.now c.index.ensures c.in-Here.once c.in-Here.is)
    (reader_fits s.table c.in-Reader.sizes is.table is.sizes s.own (shared_at sharing c.args.i) c.requires.lent.0 lent.fits.lent.sizes)

pub unreachable-requires : goal.unreachable-requires
unreachable-requires g c =
    let lent = c.requires.lent.1 in
    not_elsewhere c.args.sharing.now.items c.args.i 1 c.owner-at_owner.result lent.owners c.owner-at_owner.ensures c.index.result.now c.index.ensures c.in-At._owner c.in-At.is

pub returns : goal.returns
returns g c = record {
  told =
      let s = c.args.self.now.instance in
      let sharing = c.args.sharing.now.items in
      let told = c.tell.result in
      let is : IsReader s.table c.in-Reader.sizes = rw c.in-Reader.is at c.loan.ensures in
      let was : c.in-Here.once ≡ piece_seen sharing c.args.i 1 =
      seen_there sharing c.args.i 1 c.owner-at_owner.result c.requires.lent.1.owners c.owner-at_owner.ensures c.index.result.now c.index.ensures c.in-Here.once c.in-Here.is in
      told_second s.table (once_second s.table c.in-Reader.sizes is.table is.sizes) g.M.Ialg.law s (shared_at sharing c.args.i) c.args.x told refl
      (subst (λ (p : Option Span). IfSome told (TellsOutput g.M.Ialg.law s (only_second p) c.args.x)) was
      (rw (to_z-of_z {w = w16} c.ranges.x) at c.tell.ensures.told));
}
