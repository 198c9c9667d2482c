use Rattle.std.proofs.Common.{[], ◌++◌, sym, ap, ◌∙◌}
use Rattle.ialg.specs.History.{with_samples}
use Rattle.ialg.proofs.Histories.{IsWordHistory-with_samples}
use Rattle.test_doubles.proofs.Kept.{silent}
use Rattle.test_doubles.proofs.primed.PrimedIalg.process.Goals as goal

pub returns-clause-law : goal.returns-clause-law
returns-clause-law c p w l lawful closed lent keeps =
    let h = l.history in
    let xs = c.args.input.now in (
      record {
        idle = record {
          two = keeps.idle.two;
          history = IsWordHistory-with_samples h xs keeps.idle.history c.read.ensures;
          object = keeps.idle.object;
          once = keeps.idle.once;
          primed = keeps.idle.primed;
        };
        scratch = keeps.scratch;
      },
      silent (with_samples h xs) ∙ sym (ap (λ o. o ++ c.args._out.now.items) (silent h) ∙ ap (λ o. [] ++ o) c.requires.empty),
    )
