use Rattle.std.proofs.Common.{◌≡◌, ◌<◌, ◌≤◌, ◌+◌, ◌%◌, ℕ, ℤ, length, take, FitsSigned, slice_index_or}
use Rattle.std.specs.Int.{w16}
use Rattle.ialg.specs.History.{History, with_samples, word_at}
use Rattle.fir_kernel.specs.Rings.{IsNoPlace, IsRing}
use Rattle.fir_kernel.proofs.ring.enter_each.Given as goal

abbrev pub invariant-loop-sample : goal.invariant-loop-sample
invariant-loop-sample l = record {
  within : l.at < l.size;
  turned : (l.fn.next + l.sample-index) % l.size ≡ l.at;
  stays : (j : ℕ) → IsNoPlace l.size l.fn.next l.sample-index j → word_at l.words j ≡ word_at l.fn.words j;
  ring : (count : ℕ) (h : History) → count ≤ l.size → IsRing count l.size l.fn.words l.fn.next h
      → IsRing count l.size l.words l.at (with_samples h (take l.sample-index l.samples));
  straight : l.fn.next + length l.samples ≤ l.size → l.sample-index < length l.samples → l.at ≡ l.fn.next + l.sample-index;
  row : l.fn.next + length l.samples ≤ l.size → (k : ℕ) → k < l.sample-index → word_at l.words (l.fn.next + k) ≡ word_at l.samples k;
  before : l.fn.next + length l.samples ≤ l.size → (k : ℕ) → k < l.fn.next → word_at l.words k ≡ word_at l.fn.words k;
  read : (k : ℕ) (d : ℤ) → k < l.sample-index → FitsSigned w16 (slice_index_or l.samples k d);
}
