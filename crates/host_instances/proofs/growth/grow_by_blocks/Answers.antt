use Rattle.std.proofs.Common.{rules, ◌≡◌, ◌⊎◌, Bool, inl, inr, false, None, sym, ap, ◌∙◌}
use Rattle.host_map.specs.MemoryMap.{blocks_in}
use Rattle.host_spaces.specs.MemoryMap.{map_of, space_in}
use Rattle.host_spaces.specs.Pieces.{new_block, with_new}
use Rattle.host_table.specs.Table.{group_at}
use Rattle.scratch_group.specs.Blocks.{block_in}
use Rattle.host_moves.proofs.Seen.{histories_seen}
use Rattle.host_moves.proofs.Owners.{alike_same, need_alike}
use Rattle.host_moves.proofs.Rooms.{either}
use Rattle.host_instances.specs.Blocks.{replaced_in}
use Rattle.host_instances.specs.Growth.{activity_grown}
use Rattle.host_instances.proofs.Grown.{grown_stays, placed_stays}
use Rattle.host_table.proofs.Activities.{poisoned_stays}
use Rattle.host_instances.proofs.Told.{Renewed, need_new, ok_now, poisoned_now, region_of, replaced_at, replaced_owner, stands, told_now, without_replaced_pieces, words_now}
use Rattle.host_instances.proofs.growth.grow_by_blocks.Goals as goal

pub give_back_old-requires-clause-regions : goal.give_back_old-requires-clause-regions
give_back_old-requires-clause-regions g c space =
    let placed = placed_stays c.args.g c.args.blocks c.args.spaces.now (rw (← c.tables.view_is) at c.rest_where.ensures.same) c.requires.placed in
    region_of (space_in c.args.spaces.now space).region (new_block c.args.blocks space) (block_in (group_at c.tables.inside.groups.items c.args.g) space) _
    (c.put_new_blocks-old.ensures.old space) (rw (placed.regions space) (placed.standing.regions c.args.g space))

pub give_back_old-requires-clause-owner : goal.give_back_old-requires-clause-owner
give_back_old-requires-clause-owner g c space =
    let placed = placed_stays c.args.g c.args.blocks c.args.spaces.now (rw (← c.tables.view_is) at c.rest_where.ensures.same) c.requires.placed in
    replaced_owner c.args.g (blocks_in (map_of c.args.spaces.now) space) (new_block c.args.blocks space) (block_in (group_at c.tables.inside.groups.items c.args.g) space) _
    (c.put_new_blocks-old.ensures.old space) (placed.placed space ∙ ap (with_new c.args.g (new_block c.args.blocks space)) (placed.standing.blocks c.args.g space))

pub tell_where-requires-clause-told : goal.tell_where-requires-clause-told
tell_where-requires-clause-told g c replaced =
    let renewed : Renewed c.args.g c.args.blocks c.tables.inside.instances.items c.tables.inside.sharing.items c.tables.inside.groups.items c.put_new_blocks-old.new.groups.items c.args.spaces.now c.give_back_old.new.spaces = record {
      old = c.put_new_blocks-old.result;
      placed = placed_stays c.args.g c.args.blocks c.args.spaces.now (rw (← c.tables.view_is) at c.rest_where.ensures.same) c.requires.placed;
      ordered = c.in_order.ensures;
      ordered_now = c.give_back_old.ensures.ordered;
      is_old = c.put_new_blocks-old.ensures.old;
      is_new = c.put_new_blocks-old.ensures.new;
      same = c.put_new_blocks-old.ensures.others;
      activity = c.put_new_blocks-old.ensures.activity;
      count = c.put_new_blocks-old.ensures.length;
      map = c.give_back_old.ensures.map;
      others = c.give_back_old.ensures.others;
      regions = c.give_back_old.ensures.stays;
    } in
    told_now c.args.g c.args.blocks _ _ _ _ c.args.spaces.now c.give_back_old.new.spaces renewed (rw (← c.tables.view_is) at c.rest_where.ensures.ok)

pub tell_where-requires-clause-ok : goal.tell_where-requires-clause-ok
tell_where-requires-clause-ok g c none =
    let renewed : Renewed c.args.g c.args.blocks c.tables.inside.instances.items c.tables.inside.sharing.items c.tables.inside.groups.items c.put_new_blocks-old.new.groups.items c.args.spaces.now c.give_back_old.new.spaces = record {
      old = c.put_new_blocks-old.result;
      placed = placed_stays c.args.g c.args.blocks c.args.spaces.now (rw (← c.tables.view_is) at c.rest_where.ensures.same) c.requires.placed;
      ordered = c.in_order.ensures;
      ordered_now = c.give_back_old.ensures.ordered;
      is_old = c.put_new_blocks-old.ensures.old;
      is_new = c.put_new_blocks-old.ensures.new;
      same = c.put_new_blocks-old.ensures.others;
      activity = c.put_new_blocks-old.ensures.activity;
      count = c.put_new_blocks-old.ensures.length;
      map = c.give_back_old.ensures.map;
      others = c.give_back_old.ensures.others;
      regions = c.give_back_old.ensures.stays;
    } in
    ok_now c.args.g c.args.blocks _ _ _ _ c.args.spaces.now c.give_back_old.new.spaces renewed (rw (← c.tables.view_is) at c.rest_where.ensures.ok)
    (replaced_at c.args.blocks (group_at c.args.tables.now.groups c.args.g) (group_at c.tables.inside.groups.items c.args.g) ((rw (← c.tables.view_is) at c.rest_where.ensures.same).blocks c.args.g) ∙ sym c.replaces_in-replaced.ensures ∙ none)

pub returns : goal.returns
returns g c =
    let renewed : Renewed c.args.g c.args.blocks c.tables.inside.instances.items c.tables.inside.sharing.items c.tables.inside.groups.items c.put_new_blocks-old.new.groups.items c.args.spaces.now c.give_back_old.new.spaces = record {
      old = c.put_new_blocks-old.result;
      placed = placed_stays c.args.g c.args.blocks c.args.spaces.now (rw (← c.tables.view_is) at c.rest_where.ensures.same) c.requires.placed;
      ordered = c.in_order.ensures;
      ordered_now = c.give_back_old.ensures.ordered;
      is_old = c.put_new_blocks-old.ensures.old;
      is_new = c.put_new_blocks-old.ensures.new;
      same = c.put_new_blocks-old.ensures.others;
      activity = c.put_new_blocks-old.ensures.activity;
      count = c.put_new_blocks-old.ensures.length;
      map = c.give_back_old.ensures.map;
      others = c.give_back_old.ensures.others;
      regions = c.give_back_old.ensures.stays;
    } in
    record {
      ok = c.tell_where.ensures.ok;
      same = search rules;
      poisoned = poisoned_stays c.args.poison _ _ c.tell_where.ensures.inactive c.tell_where.ensures.activity (poisoned_now c.args.g c.args.blocks _ _ _ _ c.args.spaces.now c.give_back_old.new.spaces renewed (rw (← c.tables.view_is) at c.rest_where.ensures.ok) c.args.poison c.requires.words (rw (← c.tables.view_is) at c.rest_where.ensures.poisoned));
      grown = grown_stays c.args.g c.give_back_old.new.spaces c.tell_where.ensures.same (stands c.args.g c.args.blocks _ _ _ _ c.args.spaces.now c.give_back_old.new.spaces renewed (rw (← c.tables.view_is) at c.rest_where.ensures.ok));
      need = λ rs needed.
          need_alike rs (group_at c.put_new_blocks-old.new.groups.items c.args.g) (group_at c.tell_where.new.tables.groups c.args.g) (λ space. alike_same _ _ (c.tell_where.ensures.same.blocks c.args.g space))
          (need_new rs c.args.blocks (group_at c.args.tables.now.groups c.args.g) (group_at c.tables.inside.groups.items c.args.g) (group_at c.put_new_blocks-old.new.groups.items c.args.g)
          (λ space. (space_in c.args.spaces.now space).region) ((rw (← c.tables.view_is) at c.rest_where.ensures.same).blocks c.args.g) c.put_new_blocks-old.ensures.new needed);
      activity = λ k.
          c.tell_where.ensures.activity k ∙ c.put_new_blocks-old.ensures.activity k ∙ (rw (← c.tables.view_is) at c.rest_where.ensures.activity) k
          ∙ ap (λ (t : Bool). activity_grown t c.args.tables.now.groups c.args.g k) c.replaces_in-replaced.ensures;
      others = c.give_back_old.ensures.others;
      stays = c.give_back_old.ensures.stays;
      map =
          c.give_back_old.ensures.map
          ∙ without_replaced_pieces (map_of c.args.spaces.now) c.args.blocks (group_at c.args.tables.now.groups c.args.g) (group_at c.tables.inside.groups.items c.args.g)
          c.put_new_blocks-old.result ((rw (← c.tables.view_is) at c.rest_where.ensures.same).blocks c.args.g) c.put_new_blocks-old.ensures.old;
      keeps = λ histories before.
          let unseen : (replaced_in c.args.blocks (group_at c.tables.inside.groups.items c.args.g) ≡ false) ⊎ ((group_at c.tables.inside.groups.items c.args.g).active ≡ None) =
          elim (either c.replaces_in-replaced.result) [
            | inl some ↦ inr ((rw (← c.tables.view_is) at c.rest_where.ensures.idle) some)
            | inr none ↦ inl (replaced_at c.args.blocks (group_at c.args.tables.now.groups c.args.g) (group_at c.tables.inside.groups.items c.args.g) ((rw (← c.tables.view_is) at c.rest_where.ensures.same).blocks c.args.g) ∙ sym c.replaces_in-replaced.ensures ∙ none)
          ] in
          c.tell_where.ensures.keeps c.args.poison histories
          (histories_seen g.M.Ialg.law c.args.poison histories (rw (← c.tables.view_is) at c.rest_where.ensures.ok)
          (words_now c.args.g c.args.blocks _ _ _ _ c.args.spaces.now c.give_back_old.new.spaces renewed (rw (← c.tables.view_is) at c.rest_where.ensures.ok) unseen) ((rw (← c.tables.view_is) at c.rest_where.ensures.keeps) histories before));
    }
