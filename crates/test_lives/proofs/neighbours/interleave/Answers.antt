use Rattle.std.proofs.Common.{ap, ◌∙◌, ◌++◌, List, ℤ}
use Rattle.std.specs.Prelude.{None}
use Rattle.ialg.specs.Log.{called, fed, Activate, Deactivate}
use Rattle.test_lives.proofs.Housing.{lent_beside}
use Rattle.test_lives.proofs.neighbours.interleave.Goals as goal

pub feed-second-requires-clause-lent : goal.feed-second-requires-clause-lent
feed-second-requires-clause-lent g c = lent_beside c.requires.second c.feed-waiting.ensures.blocks

pub feed-first-requires-clause-lent : goal.feed-first-requires-clause-lent
feed-first-requires-clause-lent g c = lent_beside c.feed-waiting.ensures.lent c.feed-second.ensures.blocks

pub returns : goal.returns
returns g c = record {
  output = λ l lawful keeps.
      let same = c.feed-waiting.ensures.same in
      let first = c.feed-waiting.ensures.output None l lawful (λ space. tt) keeps in
      let kept = c.feed-waiting.ensures.keeps None l (λ space. tt) keeps in
      let second = c.feed-first.ensures.output None (called Deactivate (fed (called Activate l) c.args.before.now)) (rw (same.kind, same.params) lawful) (λ space. tt) kept in
      let both = rw (same.kind, same.params) at second in
      both ∙ ap (λ (ys : List ℤ). ys ++ c.feed-first.new.out.items) first;
  output_between = λ l lawful keeps. c.feed-second.ensures.output None l lawful (λ space. tt) keeps;
}
