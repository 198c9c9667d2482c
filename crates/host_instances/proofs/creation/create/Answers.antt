use Rattle.std.proofs.Common.{◌≡◌, ◌<◌, ℤ, [], Option, Some, None, true, is_some, rules, sym, subst, arith}
use Rattle.host_spaces.specs.MemoryMap.{map_of}
use Rattle.host_table.specs.Table.{slot_at}
use Rattle.host_table.specs.Refinement.{HistoriesRefine, with_history}
use Rattle.host_spec.specs.Steps.{created, newborn}
use Rattle.host_moves.specs.Refinement.{history_of}
use Rattle.host_instances.proofs.CreationsKept.{asks, created_kept, is_free, is_taken, map_is}
use Rattle.host_instances.proofs.creation.create.Goals as goal

pub returns-then-lives-clause-machine : goal.returns-then-lives-clause-machine
returns-then-lives-clause-machine g c =
    let below : c.args.i < 64 = omega arith in
    let small : c.args.group < 8 = omega arith in
    let there : is_some (slot_at c.args.tables.now.instances c.args.i) ≡ true = search rules in
    λ before e kept.
    let living = is_taken g.M.Ialg.law _ _ _ c.args.spaces.now before kept c.args.i c.args.group c.args.kind c.args.p.now.items [] there in (
      before,
      record {
        table = c.asked_for-asked.result;
        asked = c.asked_for-asked.ensures.allowed before.poison;
        outcome = sym (c.creations_answer_in_order.ensures.taken g.M.Ialg.law.meaning before c.args.i c.args.group c.args.kind c.args.p.now.items c.asked_for-asked.result living.0 below small living.1);
      },
      kept,
    )

pub returns-in_default-clause-machine : goal.returns-in_default-clause-machine
returns-in_default-clause-machine g c =
    let below : c.args.i < 64 = omega arith in
    let small : c.args.group < 8 = omega arith in
    let empty : slot_at c.args.tables.now.instances c.args.i ≡ None = search rules in
    λ before e kept. (
      before,
      record {
        table = None;
        asked = c.in_default.ensures.allowed before.poison;
        outcome = sym (c.creations_answer_in_order.ensures.params g.M.Ialg.law.meaning before c.args.i c.args.group c.args.kind c.args.p.now.items below small
            (is_free g.M.Ialg.law _ _ _ c.args.spaces.now before kept c.args.i c.args.group c.args.kind c.args.p.now.items [] empty));
      },
      kept,
    )

pub returns-in-Ok-clause-machine : goal.returns-in-Ok-clause-machine
returns-in-Ok-clause-machine g c =
    let below : c.args.i < 64 = omega arith in
    let small : c.args.group < 8 = omega arith in
    let empty : slot_at c.args.tables.now.instances c.args.i ≡ None = search rules in
    λ before e kept. (
      created before c.args.i (newborn c.args.kind c.args.group c.args.p.now.items c.in-Some.table) c.in-Some.table (map_of c.start_in_spaces.new.spaces),
      record {
        table = Some c.in-Some.table;
        asked = c.in-Some.ensures.allowed before.poison;
        outcome = sym (c.creations_answer_in_order.ensures.granted g.M.Ialg.law.meaning before c.args.i c.args.group c.args.kind c.args.p.now.items c.in-Some.table (map_of c.start_in_spaces.new.spaces) below small
            (is_free g.M.Ialg.law _ _ _ c.args.spaces.now before kept c.args.i c.args.group c.args.kind c.args.p.now.items c.in-Some.table empty)
            (map_is g.M.Ialg.law _ _ _ c.args.spaces.now before kept c.args.i c.args.group c.args.kind c.args.p.now.items c.in-Some.table _
            c.in-Ok.ensures.exact));
      },
      created_kept g.M.Ialg.law _ _ _ c.args.spaces.now before kept c.args.i c.args.group c.args.kind c.args.p.now.items c.in-Some.table
          _ _ _ c.start_in_spaces.new.spaces c.in-Ok.ensures.others
          c.in-Ok.ensures.newborn
          c.in-Ok.ensures.activity
          (subst (λ (w : Option ℤ). HistoriesRefine g.M.Ialg.law w c.start_in_spaces.new.tables.instances c.start_in_spaces.new.tables.sharing c.start_in_spaces.new.tables.groups (with_history (λ j. history_of (before.living j)) c.args.i [])) (sym e)
          (c.in-Ok.ensures.keeps (λ j. history_of (before.living j))
          (asks g.M.Ialg.law.meaning c.args.poison c.args.kind c.args.p.now.items c.in-Some.table (c.in-Some.ensures.allowed c.args.poison) (c.in-Some.ensures.unplaced c.args.poison))
          (subst (λ (w : Option ℤ). HistoriesRefine g.M.Ialg.law w c.args.tables.now.instances c.args.tables.now.sharing c.args.tables.now.groups (λ j. history_of (before.living j))) e kept.tables.histories)))
          c.start_in_spaces.ensures.stays,
    )

pub returns-in-Err-clause-machine : goal.returns-in-Err-clause-machine
returns-in-Err-clause-machine g c =
    let below : c.args.i < 64 = omega arith in
    let small : c.args.group < 8 = omega arith in
    let empty : slot_at c.args.tables.now.instances c.args.i ≡ None = search rules in
    let still = c.in-Err.ensures.refused in
    λ before e kept. (
      before,
      record {
        table = Some c.in-Some.table;
        asked = c.in-Some.ensures.allowed before.poison;
        outcome = sym (c.creations_answer_in_order.ensures.room g.M.Ialg.law.meaning before c.args.i c.args.group c.args.kind c.args.p.now.items c.in-Some.table c.in-Err.space below small
            (is_free g.M.Ialg.law _ _ _ c.args.spaces.now before kept c.args.i c.args.group c.args.kind c.args.p.now.items c.in-Some.table empty)
            (map_is g.M.Ialg.law _ _ _ c.args.spaces.now before kept c.args.i c.args.group c.args.kind c.args.p.now.items c.in-Some.table _
            c.in-Err.ensures.exact));
      },
      rw (still.0, still.1) kept,
    )
