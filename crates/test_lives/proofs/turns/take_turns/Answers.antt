use Rattle.std.proofs.Common.{◌≡◌, ◌++◌, ◌∙◌, ℤ, List, ap}
use Rattle.ialg.specs.History.{History, with_samples}
use Rattle.ialg.specs.Log.{Log, fed}
use Rattle.host_table.specs.Steps.{active_beside, given, turned}
use Rattle.host_table.proofs.Changes.{tables_then, later_member}
use Rattle.host_table.proofs.Housing.{lawful_after}
use Rattle.host_table.proofs.Histories.{given_turned, history_here, history_there}
use Rattle.test_lives.proofs.turns.take_turns.Goals as goal

pub returns-clause-stays : goal.returns-clause-stays
returns-clause-stays g c = record {
  ok = c.turn-first_more.ensures.step.ok;
  poisoned = c.turn-first_more.ensures.step.poisoned;
  same = tables_then (tables_then c.turn-first_out.ensures.step.same c.turn-second_out.ensures.step.same) c.turn-first_more.ensures.step.same;
}

pub returns-clause-output : goal.returns-clause-output
returns-clause-output g c histories m keeps at lawful =
    let first = c.args.first in
    let second = c.args.second in
    let to_first = turned first (active_beside c.args.tables.now first) histories in
    let once = given first c.args.before.now to_first in
    let to_second = turned second (active_beside c.turn-first_out.new.tables second) once in
    let twice = given second c.args.between.now to_second in
    let kept = c.turn-second_out.ensures.step.keeps once (c.turn-first_out.ensures.step.keeps histories keeps) in
    let meanwhile = tables_then c.turn-first_out.ensures.step.same c.turn-second_out.ensures.step.same in
    let later = later_member _ _ m at (meanwhile.slot c.args.first) in
    let same = later.1.1 in
    let still : (twice first).history ≡ with_samples (histories first).history c.args.before.now =
    ap (λ (l : Log). l.history) (history_there to_second second first (fed (to_second second) c.args.between.now) c.requires.apart)
    ∙ given_turned second (active_beside c.turn-first_out.new.tables second) once first
    ∙ ap (λ (l : Log). l.history) (history_here to_first first (fed (to_first first) c.args.before.now))
    ∙ ap (λ (h : History). with_samples h c.args.before.now) (given_turned first (active_beside c.args.tables.now first) histories first) in
    let last = c.turn-first_more.ensures.output twice kept later.0 later.1.0 (lawful_after g.M.Ialg.law.meaning _ _ c.args.poison same lawful) in
    (rw (same.kind, same.params, still) at last) ∙ ap (λ (xs : List ℤ). xs ++ c.turn-first_more.result.items) (c.turn-first_out.ensures.output histories keeps m at lawful)
