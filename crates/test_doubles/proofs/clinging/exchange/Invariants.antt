use Rattle.std.proofs.Common.{◌≡◌, ◌∷◌, take}
use Rattle.ialg.specs.History.{word_at}
use Rattle.test_doubles.proofs.clinging.exchange.Given as goal

abbrev pub invariant-loop-sample : goal.invariant-loop-sample
invariant-loop-sample l = record {
  given : l.out.items ≡ take l.sample-index (l.fn.place ∷ l.fn.input);
  left : l.place ≡ word_at (l.fn.place ∷ l.fn.input) l.sample-index;
}
