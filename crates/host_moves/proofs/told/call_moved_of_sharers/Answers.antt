use Rattle.std.proofs.Common.{◌+◌, sym, ◌∙◌, arith}
use Rattle.std.proofs.lemmas.Bool.{eq-eqb}
use Rattle.ialg.specs.Log.{Moved}
use Rattle.host_table.specs.Steps.{called_at}
use Rattle.host_table.proofs.Activities.{inactive_then}
use Rattle.host_table.proofs.Told.{members_then}
use Rattle.host_moves.specs.Moves.{told_until}
use Rattle.host_moves.specs.Waiting.{holds_with}
use Rattle.host_moves.proofs.Logs.{relogged, until_all, until_none, until_one, until_past}
use Rattle.host_moves.proofs.Sharing.{all_wait, holds_same, none_waits, not_equal, owner_below, passed_over}
use Rattle.host_moves.proofs.told.call_moved_of_sharers.Goals as goal

pub call_moved_of_sharer-requires-clause-waiting : goal.call_moved_of_sharer-requires-clause-waiting
call_moved_of_sharer-requires-clause-waiting g c =
    passed_over (holds_with c.args.tables.now.sharing c.args.i c.args.k) _ _ _ 0 c.args.i (omega arith)
    (λ l from before.
    let least = owner_below _ c.requires.least l c.args.k in
    not_equal _ c.args.i (λ e. omega (arith, e, least, before)))
    (all_wait (holds_with c.args.tables.now.sharing c.args.i c.args.k) _ _ _ c.requires.waiting)

pub loop-j-init : goal.loop-j-init
loop-j-init g c = record {
  behind = let from = c.next_with_owner-j.ensures.within.0 in omega (arith, from);
  within = c.next_with_owner-j.ensures.within.1;
  found = rw (← c.tables.view_is) c.next_with_owner-j.ensures.found;
  waiting =
      passed_over (holds_with c.call_moved_of_sharer.new.tables.sharing c.args.i c.args.k) _ _ _ (c.args.i + 1) c.next_with_owner-j.result c.next_with_owner-j.ensures.within.0
      (λ l from before. rw (← c.tables.view_is) (not_equal _ c.args.i (c.next_with_owner-j.ensures.passed l from before)))
      c.call_moved_of_sharer.ensures.waiting;
  inactive = c.call_moved_of_sharer.ensures.inactive;
  same = c.call_moved_of_sharer.ensures.same;
  activity = c.call_moved_of_sharer.ensures.activity;
  keeps = λ w logs kept.
      let who = holds_with c.args.tables.now.sharing c.args.i c.args.k in
      let first = told_until who c.args.i logs in
      relogged g.M.Ialg.law w c.call_moved_of_sharer.new.tables (called_at c.args.i Moved first) (told_until who c.next_with_owner-j.result logs)
      (λ l.
      until_one who logs c.args.i l (eq-eqb _ c.args.i c.requires.owner)
      ∙ until_past who logs (c.args.i + 1) c.next_with_owner-j.result l c.next_with_owner-j.ensures.within.0
      (λ n from before.
      sym (holds_same c.args.tables.now.sharing c.call_moved_of_sharer.new.tables.sharing c.args.i c.args.k n c.call_moved_of_sharer.ensures.same.stands)
      ∙ rw (← c.tables.view_is) (not_equal _ c.args.i (c.next_with_owner-j.ensures.passed n from before))))
      (c.call_moved_of_sharer.ensures.keeps w first
      (relogged g.M.Ialg.law w c.args.tables.now logs first
      (λ l.
      until_none who logs l
      ∙ until_past who logs 0 c.args.i l (omega arith)
      (λ n from before. let least = owner_below _ c.requires.least n c.args.k in not_equal _ c.args.i (λ e. omega (arith, e, least, before))))
      kept));
}

pub loop-j-preserved : goal.loop-j-preserved
loop-j-preserved g c = record {
  behind = let above = c.loop-j.invariant.behind in let from = c.next_with_owner-j-in-loop-j.ensures.within.0 in omega (arith, above, from);
  within = c.next_with_owner-j-in-loop-j.ensures.within.1;
  found = rw (← c.tables-in-loop-j.view_is) c.next_with_owner-j-in-loop-j.ensures.found;
  waiting =
      passed_over (holds_with c.call_moved_of_sharer-in-loop-j.new.tables.sharing c.args.i c.args.k) _ _ _ (c.loop-j.j + 1) c.next_with_owner-j-in-loop-j.result c.next_with_owner-j-in-loop-j.ensures.within.0
      (λ l from before. rw (← c.tables-in-loop-j.view_is) (not_equal _ c.args.i (c.next_with_owner-j-in-loop-j.ensures.passed l from before)))
      c.call_moved_of_sharer-in-loop-j.ensures.waiting;
  inactive = inactive_then _ _ _ c.loop-j.invariant.inactive c.call_moved_of_sharer-in-loop-j.ensures.inactive;
  same = members_then c.loop-j.invariant.same c.call_moved_of_sharer-in-loop-j.ensures.same;
  activity = λ k. c.call_moved_of_sharer-in-loop-j.ensures.activity k ∙ c.loop-j.invariant.activity k;
  keeps = λ w logs kept.
      let who = holds_with c.args.tables.now.sharing c.args.i c.args.k in
      let so_far = told_until who c.loop-j.j logs in
      let stands = members_then c.loop-j.invariant.same c.call_moved_of_sharer-in-loop-j.ensures.same in
      relogged g.M.Ialg.law w c.call_moved_of_sharer-in-loop-j.new.tables (called_at c.loop-j.j Moved so_far) (told_until who c.next_with_owner-j-in-loop-j.result logs)
      (λ l.
      until_one who logs c.loop-j.j l
      (sym (holds_same c.args.tables.now.sharing c.loop-j.tables.sharing c.args.i c.args.k c.loop-j.j c.loop-j.invariant.same.stands) ∙ eq-eqb _ c.args.i (c.loop-j.invariant.found c.loop-j-test.true))
      ∙ until_past who logs (c.loop-j.j + 1) c.next_with_owner-j-in-loop-j.result l c.next_with_owner-j-in-loop-j.ensures.within.0
      (λ n from before.
      sym (holds_same c.args.tables.now.sharing c.call_moved_of_sharer-in-loop-j.new.tables.sharing c.args.i c.args.k n stands.stands)
      ∙ rw (← c.tables-in-loop-j.view_is) (not_equal _ c.args.i (c.next_with_owner-j-in-loop-j.ensures.passed n from before))))
      (c.call_moved_of_sharer-in-loop-j.ensures.keeps w so_far (c.loop-j.invariant.keeps w logs kept));
}

pub returns-clause-ok : goal.returns-clause-ok
returns-clause-ok g c = none_waits (holds_with c.loop-j.tables.sharing c.args.i c.args.k) _ _ _ c.loop-j.j (omega (arith, c.loop-j-test.false)) c.loop-j.invariant.waiting

pub returns-clause-keeps : goal.returns-clause-keeps
returns-clause-keeps g c w logs kept =
    let all = c.loop-j-test.false in
    let count = c.loop-j.invariant.waiting.slot_count in
    until_all g.M.Ialg.law w c.loop-j.tables (holds_with c.args.tables.now.sharing c.args.i c.args.k) c.loop-j.j logs (omega (arith, all, count)) (c.loop-j.invariant.keeps w logs kept)
