-- The ring of a filter, and the place that is written behind it.
use Rattle.std.proofs.Common.{◌≡◌, ◌≢◌, ℕ, ℤ, pos, ◌+◌, ◌-◌, ◌%◌, ◌<◌, List, ◌∷◌, length, inl, inr, sym, ap, subst, ◌∙◌, arith, get_or-set_other, get_or-set_same}
use Rattle.std.proofs.Math.ListN.{set, length-set}
use Rattle.std.proofs.Math.Nat.{mod-eq_of_lt}
use Rattle.ialg.specs.declared.TheConstants.{BLOCK_SAMPLES}
use Rattle.ialg.specs.History.{History, Control, Reset, past, word_at}
use Rattle.fir_kernel.specs.Rings.{IsRing}
use Rattle.fir_kernel.proofs.RingLemmas.{by_mod}
use Rattle.alg_fir.specs.Keeps.{KeepsPast, KeepsRing}

-- a ring that begins with the past samples, where `place` is their number
pub ring_of_past : (taps place : ℕ) (h : History) (past_words words : List ℤ) → place + 1 ≡ taps → length words ≡ taps - 1 + BLOCK_SAMPLES
    → KeepsPast taps 0 h past_words → ((k : ℕ) → k < place → word_at words k ≡ word_at past_words k) → IsRing (taps - 1) (length words - 1) words place h
ring_of_past taps place h past_words words e long past copied = record {
  within = omega arith;
  samples = λ j k c b m.
      let near : j + k + 1 ≡ place =
      elim (by_mod (j + k + 1) (length words - 1) place (omega arith) m) [ inl a ↦ a | inr a ↦ absurd (omega arith) ] in
      let z : j ≡ 0 + j = omega arith in
      copied j (omega arith) ∙ ap (word_at past_words) z ∙ past j k (omega arith);
}

-- a past sample that stands before the next place, with no turn of the ring between
pub straight_at : (count size next : ℕ) (words : List ℤ) (h : History) → IsRing count size words next h
    → (i k : ℕ) → k < count → i + k + 1 ≡ next → word_at words i ≡ past h k
straight_at count size next words h ring i k b e =
    let here : next < size = ring.within in
    ring.samples i k b (omega arith) (ap (λ n. n % size) e ∙ mod-eq_of_lt here)

-- the place is written behind the ring
pub placed : (taps : ℕ) (h : History) (words : List ℤ) (next : ℕ) (v : ℤ) → v ≡ pos next → length words ≡ taps - 1 + BLOCK_SAMPLES
    → IsRing (taps - 1) (length words - 1) words next h → KeepsRing taps h (set words (length words - 1) v)
placed taps h words next v e long ring =
    let last = length words - 1 in
    let inside : last < length words = omega arith in
    let same : length (set words last v) ≡ length words = length-set words last v in
    let apart : (j : ℕ) → j < last → j ≢ last = λ j b q. absurd (omega arith) in
    record {
      size = same ∙ long;
      place = next;
      last = ap (λ n. word_at (set words last v) (n - 1)) same ∙ get_or-set_same words last v (pos 0) inside ∙ e;
      ring = subst (λ n. IsRing (taps - 1) (n - 1) (set words last v) next h) (sym same) (record {
        within = ring.within;
        samples = λ j k c b m. get_or-set_other words last j v (pos 0) (apart j b) ∙ ring.samples j k c b m;
      });
    }

pub placed_at : (taps : ℕ) (h : History) (words : List ℤ) (next last : ℕ) (v : ℤ) → last ≡ length words - 1 → v ≡ pos next
    → length words ≡ taps - 1 + BLOCK_SAMPLES → IsRing (taps - 1) (length words - 1) words next h → KeepsRing taps h (set words last v)
placed_at taps h words next last v at e long ring = subst (λ n. KeepsRing taps h (set words n v)) (sym at) (placed taps h words next v e long ring)

-- a ring of zeros, after a reset
pub silent_ring : (taps : ℕ) (h : History) (words : List ℤ) → length words ≡ taps - 1 + BLOCK_SAMPLES
    → ((k : ℕ) → word_at words k ≡ pos 0) → KeepsRing taps (Control Reset ∷ h) words
silent_ring taps h words size silent = record {
  size = size;
  place = 0;
  last = silent (length words - 1);
  ring = record { within = omega arith; samples = λ j k c b e. silent j };
}
