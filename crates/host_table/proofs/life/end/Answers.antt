use Rattle.std.proofs.Common.{◌≡◌, ◌<◌, None, length, set, sym, subst, ◌∙◌, ap, refl, arith}
use Rattle.std.proofs.lemmas.Option.{none-some}
use Rattle.record_loans.specs.Pieces.{SamePieces, no_pieces}
use Rattle.lifecycle.specs.States.{SameOnce}
use Rattle.mem_rec.specs.declared.TheConstants.{GROUPS, INSTANCES}
use Rattle.host_shared.specs.Owners.{AllHaveOwners, SameLocations}
use Rattle.host_shared.specs.Sharing.{left_with}
use Rattle.host_table.specs.Table.{slot_at, group_at, group_of, instance_of, AreHeld, AreBare}
use Rattle.host_shared.specs.Locations.{shared_at}
use Rattle.host_table.specs.Steps.{active_beside, rested_if}
use Rattle.host_table.proofs.Changes.{slot_in, owners_of_slot, read_ok_group, fits_in_slot, own_stays, pieces_then, locations_then}
use Rattle.host_table.proofs.Stepping.{steps_in, there_in}
use Rattle.host_table.proofs.Sights.{Views, Sees, views_of}
use Rattle.host_table.proofs.Idles.{ok_after_still, keeps_by_end}
use Rattle.host_shared.proofs.Handing.{left_stays, sharer_stays, without_stays}
use Rattle.host_table.specs.Sharers.{asked_by}
use Rattle.host_table.proofs.Leasts.{least_stays, least_handed, together_same, together_handed, asked_same}
use Rattle.host_table.proofs.Shared.{next_is_sharer}
use Rattle.host_table.proofs.Goings.{stands_put, count_put, owners_put, left_put, held_gone, bare_gone, sees_gone}
use Rattle.host_table.proofs.life.end.Goals as goal
use Rattle.host_table.proofs.life.end.Goals.{After-hand_on}
use Rattle.host_table.proofs.life.end.Given.{Over}

pub end_idle-own-requires-clause-living : goal.end_idle-own-requires-clause-living
end_idle-own-requires-clause-living g c = let there = (there_in c.tables.view_is c.deactivate.ensures.step c.args.i c.requires.living) in rw there.1 refl

pub end_idle-own-requires-clause-idle : goal.end_idle-own-requires-clause-idle
end_idle-own-requires-clause-idle g c = rw (← c.tables.view_is) at c.deactivate.ensures.idle

pub end_idle-own-requires-clause-lent : goal.end_idle-own-requires-clause-lent
end_idle-own-requires-clause-lent g c m at =
    let ok = (steps_in c.tables.view_is c.deactivate.ensures.step).ok in let i_in = slot_in c.tables.inside.instances.items c.args.i m at in (
      group_at c.tables.inside.groups.items m.group,
      record {
        number = omega (arith, i_in, ok.slot_count, ok.sharing_count);
        owners = owners_of_slot _ _ _ ok _ m at;
        fits = fits_in_slot _ ok at refl refl refl refl;
      },
    )

pub hand_on-requires-clause-count : goal.hand_on-requires-clause-count
hand_on-requires-clause-count g c =
    let at = (there_in c.tables.view_is c.deactivate.ensures.step c.args.i c.requires.living).1 in
    let i_in = slot_in c.tables.inside.instances.items c.args.i (there_in c.tables.view_is c.deactivate.ensures.step c.args.i c.requires.living).0 at in
    let inside : c.args.i < length c.tables.inside.sharing.items = omega (arith, i_in, (steps_in c.tables.view_is c.deactivate.ensures.step).ok.slot_count, (steps_in c.tables.view_is c.deactivate.ensures.step).ok.sharing_count) in
    count_put c.tables.inside.instances.items c.tables.inside.sharing.items c.args.i (there_in c.tables.view_is c.deactivate.ensures.step c.args.i c.requires.living).0 (shared_at c.end_idle-own.new.sharing.items c.args.i) c.end_idle-own.new.sharing.items (steps_in c.tables.view_is c.deactivate.ensures.step).ok.held inside at c.end_idle-own.ensures.shared c.end_idle-own.ensures.seen
    ∙ (steps_in c.tables.view_is c.deactivate.ensures.step).ok.sharing_count

pub hand_on-requires-clause-owners : goal.hand_on-requires-clause-owners
hand_on-requires-clause-owners g c =
    let at = (there_in c.tables.view_is c.deactivate.ensures.step c.args.i c.requires.living).1 in
    let i_in = slot_in c.tables.inside.instances.items c.args.i (there_in c.tables.view_is c.deactivate.ensures.step c.args.i c.requires.living).0 at in
    let inside : c.args.i < length c.tables.inside.sharing.items = omega (arith, i_in, (steps_in c.tables.view_is c.deactivate.ensures.step).ok.slot_count, (steps_in c.tables.view_is c.deactivate.ensures.step).ok.sharing_count) in
    owners_put c.tables.inside.instances.items c.tables.inside.sharing.items c.args.i (there_in c.tables.view_is c.deactivate.ensures.step c.args.i c.requires.living).0 (shared_at c.end_idle-own.new.sharing.items c.args.i) c.end_idle-own.new.sharing.items (steps_in c.tables.view_is c.deactivate.ensures.step).ok.held inside at c.end_idle-own.ensures.shared c.end_idle-own.ensures.seen

pub hand_on-requires-clause-next : goal.hand_on-requires-clause-next
hand_on-requires-clause-next g c k =
    let ok = (steps_in c.tables.view_is c.deactivate.ensures.step).ok in let at = (there_in c.tables.view_is c.deactivate.ensures.step c.args.i c.requires.living).1 in
    let i_in = slot_in c.tables.inside.instances.items c.args.i (there_in c.tables.view_is c.deactivate.ensures.step c.args.i c.requires.living).0 at in
    let inside : c.args.i < length c.tables.inside.sharing.items = omega (arith, i_in, ok.slot_count, ok.sharing_count) in
    let count = count_put c.tables.inside.instances.items c.tables.inside.sharing.items c.args.i (there_in c.tables.view_is c.deactivate.ensures.step c.args.i c.requires.living).0 (shared_at c.end_idle-own.new.sharing.items c.args.i) c.end_idle-own.new.sharing.items ok.held inside at c.end_idle-own.ensures.shared c.end_idle-own.ensures.seen in
    let stands : SameLocations c.args.tables.now.sharing c.end_idle-own.new.sharing.items =
    locations_then c.args.tables.now.sharing c.tables.inside.sharing.items c.end_idle-own.new.sharing.items (steps_in c.tables.view_is c.deactivate.ensures.step).same.stands
    (stands_put c.tables.inside.instances.items c.tables.inside.sharing.items c.args.i (there_in c.tables.view_is c.deactivate.ensures.step c.args.i c.requires.living).0 (shared_at c.end_idle-own.new.sharing.items c.args.i) c.end_idle-own.new.sharing.items ok.held inside at c.end_idle-own.ensures.shared c.end_idle-own.ensures.seen) in
    c.requires.next k ∙ sharer_stays c.args.tables.now.sharing c.end_idle-own.new.sharing.items c.args.i k (c.requires.ready.ok.sharing_count ∙ sym (count ∙ ok.sharing_count)) stands

-- the instance has been deactivated, and its pieces were put back before they were handed on
module _ (g : Over) (c : After-hand_on g) where
  inside : c.args.i < INSTANCES
  inside =
      let i_in = slot_in c.tables.inside.instances.items c.args.i (there_in c.tables.view_is c.deactivate.ensures.step c.args.i c.requires.living).0 (there_in c.tables.view_is c.deactivate.ensures.step c.args.i c.requires.living).1 in
      omega (arith, i_in, (steps_in c.tables.view_is c.deactivate.ensures.step).ok.slot_count)

  once_inside : c.args.i < length c.tables.inside.sharing.items
  once_inside = omega (arith, inside, (steps_in c.tables.view_is c.deactivate.ensures.step).ok.sharing_count)

  written : SameOnce (instance_of (there_in c.tables.view_is c.deactivate.ensures.step c.args.i c.requires.living).0.inst).table (shared_at c.tables.inside.sharing.items c.args.i) (shared_at c.end_idle-own.new.sharing.items c.args.i)
  written = c.end_idle-own.ensures.once (there_in c.tables.view_is c.deactivate.ensures.step c.args.i c.requires.living).0 (there_in c.tables.view_is c.deactivate.ensures.step c.args.i c.requires.living).1

  count : length c.end_idle-own.new.sharing.items ≡ INSTANCES
  count =
      count_put c.tables.inside.instances.items c.tables.inside.sharing.items c.args.i (there_in c.tables.view_is c.deactivate.ensures.step c.args.i c.requires.living).0 (shared_at c.end_idle-own.new.sharing.items c.args.i) c.end_idle-own.new.sharing.items (steps_in c.tables.view_is c.deactivate.ensures.step).ok.held once_inside (there_in c.tables.view_is c.deactivate.ensures.step c.args.i c.requires.living).1 c.end_idle-own.ensures.shared c.end_idle-own.ensures.seen
      ∙ (steps_in c.tables.view_is c.deactivate.ensures.step).ok.sharing_count

  sees : Sees c.tables.inside.instances.items c.tables.inside.sharing.items c.args.i no_pieces c.hand_on.new.sharing.items
  sees =
      sees_gone c.tables.inside.instances.items c.tables.inside.sharing.items c.args.i (there_in c.tables.view_is c.deactivate.ensures.step c.args.i c.requires.living).0 (shared_at c.end_idle-own.new.sharing.items c.args.i) c.end_idle-own.new.sharing.items (steps_in c.tables.view_is c.deactivate.ensures.step).ok.held once_inside (there_in c.tables.view_is c.deactivate.ensures.step c.args.i c.requires.living).1 c.end_idle-own.ensures.shared c.end_idle-own.ensures.seen
      c.hand_on.new.sharing.items (c.hand_on.ensures.count ∙ sym count) c.hand_on.ensures.gone c.hand_on.ensures.handed written

  views : Views c.tables.inside.sharing.items c.args.i no_pieces c.hand_on.new.sharing.items
  views = views_of c.tables.inside.instances.items c.tables.inside.sharing.items c.args.i no_pieces c.hand_on.new.sharing.items sees

  held : AreHeld (set c.tables.inside.instances.items c.args.i None) c.hand_on.new.sharing.items
  held =
      held_gone c.tables.inside.instances.items c.tables.inside.sharing.items c.args.i (there_in c.tables.view_is c.deactivate.ensures.step c.args.i c.requires.living).0 (shared_at c.end_idle-own.new.sharing.items c.args.i) c.end_idle-own.new.sharing.items (steps_in c.tables.view_is c.deactivate.ensures.step).ok.held once_inside (there_in c.tables.view_is c.deactivate.ensures.step c.args.i c.requires.living).1 c.end_idle-own.ensures.shared c.end_idle-own.ensures.seen
      c.hand_on.new.sharing.items (c.hand_on.ensures.count ∙ sym count) c.hand_on.ensures.gone c.hand_on.ensures.handed

  bare : AreBare (set c.tables.inside.instances.items c.args.i None) c.hand_on.new.sharing.items
  bare =
      bare_gone c.tables.inside.instances.items c.tables.inside.sharing.items c.args.i (there_in c.tables.view_is c.deactivate.ensures.step c.args.i c.requires.living).0 (shared_at c.end_idle-own.new.sharing.items c.args.i) c.end_idle-own.new.sharing.items (steps_in c.tables.view_is c.deactivate.ensures.step).ok.held once_inside (there_in c.tables.view_is c.deactivate.ensures.step c.args.i c.requires.living).1 c.end_idle-own.ensures.shared c.end_idle-own.ensures.seen
      c.hand_on.new.sharing.items (c.hand_on.ensures.count ∙ sym count) c.hand_on.ensures.gone c.hand_on.ensures.handed (steps_in c.tables.view_is c.deactivate.ensures.step).ok.bare

pub returns-clause-ready : goal.returns-clause-ready
returns-clause-ready g c = record {
  ok =
      rw c.end_idle-own.ensures.emptied
      (ok_after_still _ _ _ c.args.i None no_pieces c.hand_on.new.sharing.items (views g c) (held g c) (bare g c) (steps_in c.tables.view_is c.deactivate.ensures.step).ok (inside g c) (rw (← c.tables.view_is) at c.deactivate.ensures.idle) refl (λ m at. absurd (none-some m at)));
  poisoned = (steps_in c.tables.view_is c.deactivate.ensures.step).poisoned;
}

pub returns-clause-gone : goal.returns-clause-gone
returns-clause-gone g c = c.end_idle-own.ensures.gone

pub returns-clause-none : goal.returns-clause-none
returns-clause-none g c = (sees g c).here

pub returns-clause-own : goal.returns-clause-own
returns-clause-own g c =
    let ended = c.end_idle-own.ensures.own in
    pieces_then _ _ _ (own_stays _ _ ((steps_in c.tables.view_is c.deactivate.ensures.step).same.slot c.args.i)) ended

pub returns-clause-shared : goal.returns-clause-shared
returns-clause-shared g c =
    let rested : SamePieces (left_with c.args.tables.now.sharing c.args.i) (left_with c.tables.inside.sharing.items c.args.i) =
    left_stays c.args.tables.now.sharing c.tables.inside.sharing.items c.args.i (c.requires.ready.ok.sharing_count ∙ sym (steps_in c.tables.view_is c.deactivate.ensures.step).ok.sharing_count) (steps_in c.tables.view_is c.deactivate.ensures.step).same.stands in
    let ended : SamePieces (left_with c.tables.inside.sharing.items c.args.i) (left_with c.end_idle-own.new.sharing.items c.args.i) =
    left_put c.tables.inside.instances.items c.tables.inside.sharing.items c.args.i (there_in c.tables.view_is c.deactivate.ensures.step c.args.i c.requires.living).0 (shared_at c.end_idle-own.new.sharing.items c.args.i) c.end_idle-own.new.sharing.items (steps_in c.tables.view_is c.deactivate.ensures.step).ok.held (once_inside g c) (there_in c.tables.view_is c.deactivate.ensures.step c.args.i c.requires.living).1 c.end_idle-own.ensures.shared c.end_idle-own.ensures.seen in
    rw c.hand_on.ensures.left (pieces_then _ _ _ rested ended)

pub returns-clause-others : goal.returns-clause-others
returns-clause-others g c = record {
  slot = λ j apart. rw (c.end_idle-own.ensures.others j apart) ((steps_in c.tables.view_is c.deactivate.ensures.step).same.slot j);
  pieces = λ j apart. pieces_then _ _ _ ((steps_in c.tables.view_is c.deactivate.ensures.step).same.pieces j) ((sees g c).others j apart);
  blocks = (steps_in c.tables.view_is c.deactivate.ensures.step).same.blocks;
}

pub returns-clause-handed : goal.returns-clause-handed
returns-clause-handed g c j k =
    let ended : SameLocations c.tables.inside.sharing.items c.end_idle-own.new.sharing.items =
    stands_put c.tables.inside.instances.items c.tables.inside.sharing.items c.args.i (there_in c.tables.view_is c.deactivate.ensures.step c.args.i c.requires.living).0 (shared_at c.end_idle-own.new.sharing.items c.args.i) c.end_idle-own.new.sharing.items (steps_in c.tables.view_is c.deactivate.ensures.step).ok.held (once_inside g c) (there_in c.tables.view_is c.deactivate.ensures.step c.args.i c.requires.living).1 c.end_idle-own.ensures.shared c.end_idle-own.ensures.seen in
    rw (c.hand_on.ensures.handed j k)
    (without_stays c.args.tables.now.sharing c.end_idle-own.new.sharing.items c.args.i k j (c.requires.ready.ok.sharing_count ∙ sym (count g c))
    (locations_then c.args.tables.now.sharing c.tables.inside.sharing.items c.end_idle-own.new.sharing.items (steps_in c.tables.view_is c.deactivate.ensures.step).same.stands ended))

-- each piece stood where it stood before it was handed on
module _ (g : Over) (c : After-hand_on g) where
  stands : SameLocations c.args.tables.now.sharing c.end_idle-own.new.sharing.items
  stands =
      locations_then c.args.tables.now.sharing c.tables.inside.sharing.items c.end_idle-own.new.sharing.items (steps_in c.tables.view_is c.deactivate.ensures.step).same.stands
      (stands_put c.tables.inside.instances.items c.tables.inside.sharing.items c.args.i (there_in c.tables.view_is c.deactivate.ensures.step c.args.i c.requires.living).0 (shared_at c.end_idle-own.new.sharing.items c.args.i) c.end_idle-own.new.sharing.items (steps_in c.tables.view_is c.deactivate.ensures.step).ok.held (once_inside g c) (there_in c.tables.view_is c.deactivate.ensures.step c.args.i c.requires.living).1 c.end_idle-own.ensures.shared c.end_idle-own.ensures.seen)

  owners : AllHaveOwners c.end_idle-own.new.sharing.items
  owners = owners_put c.tables.inside.instances.items c.tables.inside.sharing.items c.args.i (there_in c.tables.view_is c.deactivate.ensures.step c.args.i c.requires.living).0 (shared_at c.end_idle-own.new.sharing.items c.args.i) c.end_idle-own.new.sharing.items (steps_in c.tables.view_is c.deactivate.ensures.step).ok.held (once_inside g c) (there_in c.tables.view_is c.deactivate.ensures.step c.args.i c.requires.living).1 c.end_idle-own.ensures.shared c.end_idle-own.ensures.seen

pub returns-clause-least : goal.returns-clause-least
returns-clause-least g c least =
    least_handed c.end_idle-own.new.sharing.items c.hand_on.new.sharing.items c.args.i (owners g c) c.hand_on.ensures.handed (least_stays c.args.tables.now.sharing c.end_idle-own.new.sharing.items (stands g c) least)

pub returns-clause-together : goal.returns-clause-together
returns-clause-together g c together =
    rw c.end_idle-own.ensures.emptied
    (together_handed c.end_idle-own.new.sharing.items c.hand_on.new.sharing.items c.args.i (owners g c) c.hand_on.ensures.handed c.tables.inside.instances.items (slot_in c.tables.inside.instances.items c.args.i (there_in c.tables.view_is c.deactivate.ensures.step c.args.i c.requires.living).0 (there_in c.tables.view_is c.deactivate.ensures.step c.args.i c.requires.living).1)
    (together_same c.args.tables.now.instances c.tables.inside.instances.items c.args.tables.now.sharing c.end_idle-own.new.sharing.items (steps_in c.tables.view_is c.deactivate.ensures.step).same.slot (stands g c) together))

pub returns-clause-next : goal.returns-clause-next
returns-clause-next g c least together k m at owner =
    next_is_sharer g.M.Ialg.law.meaning.same (λ a b told. g.met.M.Ialg.same a b (g.met.M.Ialg.compared a b ∙ told)) (λ a. sym (g.met.M.Ialg.compared a a) ∙ g.met.M.Eq.laws.refl a)
    c.args.tables.now.instances c.requires.ready.ok.slot_count c.args.tables.now.sharing c.requires.ready.ok.held least c.requires.ready.ok.bare together c.args.i k m at owner
    (λ j. asked_by (slot_at c.end_idle-own.new.instances.items j)) (ap asked_by c.end_idle-own.ensures.gone)
    (λ j apart. ap asked_by (c.end_idle-own.ensures.others j apart) ∙ asked_same (slot_at c.args.tables.now.instances j) (slot_at c.tables.inside.instances.items j) ((steps_in c.tables.view_is c.deactivate.ensures.step).same.slot j))
    c.requires.ready.ok.sharing_count

pub returns-clause-keeps : goal.returns-clause-keeps
returns-clause-keeps g c histories keeps =
    rw c.end_idle-own.ensures.emptied
    (keeps_by_end _ _ _ _ c.args.i None no_pieces (steps_in c.tables.view_is c.deactivate.ensures.step).ok (inside g c) (rw (← c.tables.view_is) at c.deactivate.ensures.idle) refl c.hand_on.new.sharing.items (views g c)
    g.M.Ialg.law c.args.poison (rested_if c.args.i (active_beside c.args.tables.now c.args.i) histories) (sees g c).written tt ((steps_in c.tables.view_is c.deactivate.ensures.step).keeps histories keeps))

pub returns-clause-activity : goal.returns-clause-activity
returns-clause-activity g c = (steps_in c.tables.view_is c.deactivate.ensures.step).activity
