-- Words written in order.
use Rattle.std.proofs.Common.{◌≡◌, ◌≢◌, ◌<◌, ◌≤◌, ◌+◌, ◌^◌, ℕ, zero, suc, ℤ, unsigned_abs, List, [], ◌∷◌, length, arith, below_more, get_or-set_other, get_or-set_same}
use Rattle.std.proofs.Math.ListN.{set}
use Rattle.basic_op.specs.Halves.{half_of}
use Rattle.ialg.specs.History.{word_at}
use Rattle.fir_kernel.specs.Halves.{AreHalves}

-- word i was written, behind those before it
pub written_next : (words : List ℤ) (i : ℕ) (r : ℤ) (wanted : ℕ → ℤ) → i < length words → ((k : ℕ) → k < i → word_at words k ≡ wanted k) → r ≡ wanted i
    → (k : ℕ) → k < i + 1 → word_at (set words i r) k ≡ wanted k
written_next words i r wanted b before e =
    below_more _ _ (λ k h. let ne : k ≢ i = omega arith in rw get_or-set_other (before k h)) (rw get_or-set_same e)

-- those from n on, behind it, are as they were
pub kept_behind : (words old : List ℤ) (i n : ℕ) (r : ℤ) → i < n → ((k : ℕ) → n ≤ k → word_at words k ≡ word_at old k)
    → (k : ℕ) → n ≤ k → word_at (set words i r) k ≡ word_at old k
kept_behind words old i n r b left k h = let ne : k ≢ i = omega arith in rw get_or-set_other (left k h)

-- word i was written, each by what word i of another list is half of
pub written_by : (words halves : List ℤ) (i : ℕ) (r : ℤ) (wanted : ℤ → ℕ → ℤ) → i < length words
    → ((k : ℕ) (v : ℤ) → k < i → word_at halves k ≡ half_of v → word_at words k ≡ wanted v k)
    → ((v : ℤ) → word_at halves i ≡ half_of v → r ≡ wanted v i)
    → (k : ℕ) (v : ℤ) → k < i + 1 → word_at halves k ≡ half_of v → word_at (set words i r) k ≡ wanted v k
written_by words halves i r wanted b before here k v h =
    below_more (λ j. word_at halves j ≡ half_of v → word_at (set words i r) j ≡ wanted v j) _
    (λ j g e. let ne : j ≢ i = omega arith in rw get_or-set_other (before j v g e)) (λ e. rw get_or-set_same (here v e)) k h

pub halves_next : (words : List ℤ) (i : ℕ) (r : ℤ) → AreHalves words → unsigned_abs r ≤ 2 ^ 30 → AreHalves (set words i r)
halves_next [] i r small one k = small k
halves_next (w ∷ ws) zero r small one zero = one
halves_next (w ∷ ws) zero r small one (suc k) = small (suc k)
halves_next (w ∷ ws) (suc i) r small one zero = small zero
halves_next (w ∷ ws) (suc i) r small one (suc k) = halves_next ws i r (λ j. small (suc j)) one k
