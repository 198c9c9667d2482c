use Rattle.std.proofs.Common.{◌∙◌, ℕ, ◌≡◌, refl, arith, subst}
use Rattle.ialg.specs.Log.{Log}
use Rattle.host_table.specs.Table.{slot_at}
use Rattle.host_shared.specs.Locations.{shared_at}
use Rattle.host_table.specs.Refinement.{SlotRefines}
use Rattle.host_table.specs.Steps.{told_below, AllLogsGo}
use Rattle.host_table.proofs.Histories.{told_none, told_more}
use Rattle.host_table.proofs.Activities.{inactive_then}
use Rattle.host_table.proofs.Told.{all_told, members_then, same_members}
use Rattle.host_table.proofs.moves.call_moved_in_group.Goals as goal

pub loop-i-init : goal.loop-i-init
loop-i-init g c = record {
  told = c.requires.told;
  inactive = λ k none. refl;
  same = same_members _ _ _;
  activity = λ k. refl;
  keeps = λ w histories h j. subst (λ (l : Log). SlotRefines g.M.Ialg.law w (slot_at c.args.tables.now.instances j) (shared_at c.args.tables.now.sharing j) c.args.tables.now.groups l) (told_none c.args.g c.args.tables.now c.args.tables.now histories j) (h j);
}

pub loop-i-preserved : goal.loop-i-preserved
loop-i-preserved g c = record {
  told = c.call_moved_in_slot.ensures.told;
  inactive = inactive_then _ _ _ c.loop-i.invariant.inactive c.call_moved_in_slot.ensures.inactive;
  same = members_then c.loop-i.invariant.same c.call_moved_in_slot.ensures.same;
  activity = λ k. c.call_moved_in_slot.ensures.activity k ∙ c.loop-i.invariant.activity k;
  keeps = λ w histories h j.
      subst (λ (l : Log). SlotRefines g.M.Ialg.law w (slot_at c.call_moved_in_slot.new.tables.instances j) (shared_at c.call_moved_in_slot.new.tables.sharing j) c.call_moved_in_slot.new.tables.groups l) (told_more c.args.g c.args.tables.now c.loop-i.tables histories c.loop-i.invariant.same.slot c.loop-i.i j)
      (c.call_moved_in_slot.ensures.keeps w (told_below c.args.g c.loop-i.i c.args.tables.now histories) (c.loop-i.invariant.keeps w histories h) j);
}

pub returns-clause-ok : goal.returns-clause-ok
returns-clause-ok g c = all_told c.args.g c.loop-i.i _ _ _ (omega arith) c.loop-i.invariant.told

pub returns-clause-keeps : goal.returns-clause-keeps
returns-clause-keeps g c =
    let all : c.loop-i.i ≡ 64 = omega arith in
    subst (λ n. AllLogsGo g.M.Ialg.law c.args.tables.now c.loop-i.tables (told_below c.args.g n c.args.tables.now)) all c.loop-i.invariant.keeps
