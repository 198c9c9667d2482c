use Rattle.std.proofs.Common.{ℕ, ◌≡◌, ◌<◌}
use Rattle.std.specs.List.{All}
use Rattle.ialg.specs.Loans.{SameLoans, lent_words}
use Rattle.ialg.specs.Records.{AreApart, words_of}
use Rattle.test_doubles.specs.declared.scribbling.TheConstants.{SCRIBBLE}
use Rattle.test_doubles.specs.Writing.{MayBeWritten}
use Rattle.test_doubles.proofs.scribbling.scribble.Given as goal

abbrev pub invariant-loop-record : goal.invariant-loop-record
invariant-loop-record l = record {
  loans : SameLoans l.fn.mem l.mem;
  written : AreApart l.fn.mem.table.now → (k : ℕ) → k < l.record-index → MayBeWritten l.fn.mem k → All (λ x. x ≡ SCRIBBLE) (words_of (lent_words l.mem) k);
}
