-- A run over a block goes on with the difference equation.
use Rattle.std.proofs.Common.{◌≡◌, ℕ, ℤ, zero, suc, pos, ◌+◌, ◌-◌, ◌*◌, ◌<◌, ◌≤◌, List, [], ◌∷◌, ◌++◌, length, take, FitsSigned, refl, sym, ap, ◌∙◌, arith, append_assoc, append-nil}
use Rattle.std.specs.List.{All}
use Rattle.std.specs.Int.{w16}
use Rattle.std.proofs.Math.Seq.{take-suc, take-length}
use Rattle.basic_op.specs.Operators.{round_of}
use Rattle.ialg.specs.History.{History, with_samples, word_at, past, words_in_force}
use Rattle.ialg.proofs.Histories.{with_samples-take, with_samples-whole}
use Rattle.fir_kernel.specs.Sums.{l_mac_sum, filtered_at}
use Rattle.alg_fir.specs.Equation.{fir_output, fir_outputs}
use Rattle.alg_fir.specs.Keeps.{KeepsRing, Ran, AreOutputs}

mac_sum_same : (c c' x x' : ℕ → ℤ) (n : ℕ) → ((k : ℕ) → k < n → c k ≡ c' k) → ((k : ℕ) → k < n → x k ≡ x' k)
    → l_mac_sum c x n ≡ l_mac_sum c' x' n
mac_sum_same c c' x x' zero e f = refl
mac_sum_same c c' x x' (suc k) e f =
    let s = mac_sum_same c c' x x' k (λ j h. e j (omega arith)) (λ j h. f j (omega arith)) in
    rw (s, e k (omega arith), f k (omega arith))

-- the history up to the first i samples of xs
abbrev upto : History → List ℤ → ℕ → History
upto h xs i = with_samples h (take i xs)

-- the line has d past samples, the newest last, and behind them the block xs
module _ (p : List ℤ) (h : History) (xs cs line : List ℤ) (d : ℕ)
    (size : length p ≡ d + 1) (taps : length cs ≡ d + 1) (in_force : cs ≡ words_in_force p h)
    (before : (j k : ℕ) → j + k + 1 ≡ d → word_at line j ≡ past h k)
    (block : (k : ℕ) → k < length xs → word_at line (d + k) ≡ word_at xs k) where
  in_force_at : (i : ℕ) → i ≤ length xs → words_in_force p (upto h xs i) ≡ words_in_force p h
  in_force_at zero b = refl
  in_force_at (suc i) b = rw (with_samples-take h xs i (omega arith)) (in_force_at i (omega arith))

  -- the past samples, the newest last, before sample i
  past_at : (i : ℕ) → i ≤ length xs → (j k : ℕ) → j + k + 1 ≡ d + i → k < d → word_at line j ≡ past (upto h xs i) k
  past_at zero b j k e s = before j k (omega arith)
  past_at (suc i) b j zero e s = rw (with_samples-take h xs i (omega arith)) (ap (word_at line) (omega arith) ∙ block i (omega arith))
  past_at (suc i) b j (suc k) e s = rw (with_samples-take h xs i (omega arith)) (past_at i (omega arith) j k (omega arith) (omega arith))

  -- with sample i itself, which the last place has
  reach_at : (i : ℕ) → i < length xs → (k : ℕ) → k < d + 1 → word_at line (d + i - k) ≡ past (upto h xs (suc i)) k
  reach_at i b zero s = rw (with_samples-take h xs i b) (ap (word_at line) (omega arith) ∙ block i b)
  reach_at i b (suc k) s = rw (with_samples-take h xs i b) (past_at i (omega arith) (d + i - suc k) k (omega arith) (omega arith))

  value_is : (i : ℕ) → i < length xs → fir_output p (upto h xs (suc i)) ≡ filtered_at cs line i
  value_is i b =
      let c : (k : ℕ) → k < d + 1 → word_at (words_in_force p (upto h xs (suc i))) k ≡ word_at cs k =
      λ k s. ap (λ t. word_at t k) (in_force_at (suc i) (omega arith) ∙ sym in_force) in
      let x : (k : ℕ) → k < d + 1 → past (upto h xs (suc i)) k ≡ word_at line (length cs - 1 + i - k) =
      λ k s. sym (ap (word_at line) (omega arith) ∙ reach_at i b k s) in
      ap (λ n. round_of (l_mac_sum (word_at (words_in_force p (upto h xs (suc i)))) (past (upto h xs (suc i))) n)) size
      ∙ ap round_of (mac_sum_same _ _ _ _ (d + 1) c x)
      ∙ ap (λ n. round_of (l_mac_sum (word_at cs) (λ k. word_at line (length cs - 1 + i - k)) n)) (sym taps)

  -- what a kernel gives for samples of the block are the outputs there
  pub outputs_are : (ys : List ℤ) (first step : ℕ) → ((i : ℕ) → i < length ys → first + step * i < length xs)
      → ((i : ℕ) → i < length ys → word_at ys i ≡ filtered_at cs line (first + step * i)) → AreOutputs p h xs first step ys
  outputs_are ys first step reach values i b = values i b ∙ sym (value_is (first + step * i) (reach i b))

  pub ran : (new : List ℤ) → All (FitsSigned w16) xs → KeepsRing (length p) (with_samples h xs) new → Ran p h xs new
  ran new fit keeps = record {
    samples = fit;
    ring = keeps;
    coefficients = ap (words_in_force p) (sym (with_samples-whole h xs)) ∙ in_force_at (length xs) (omega arith);
  }

-- with an output at each sample, these are all that the block gives
module _ (p : List ℤ) (h : History) (xs ys : List ℤ) (many : length ys ≡ length xs) (outputs : AreOutputs p h xs 0 1 ys) where
  outputs_at : (i : ℕ) → i ≤ length xs → fir_outputs p (upto h xs i) ≡ fir_outputs p h ++ take i ys
  outputs_at zero b = sym (append-nil (fir_outputs p h))
  outputs_at (suc i) b =
      let e = with_samples-take h xs i (omega arith) in
      let at : suc (0 + 1 * i) ≡ suc i = omega arith in
      let v : fir_output p (upto h xs (suc i)) ≡ word_at ys i = sym (outputs i (omega arith) ∙ ap (λ n. fir_output p (upto h xs n)) at) in
      let w = rw e at v in
      let t : take (suc i) ys ≡ take i ys ++ word_at ys i ∷ [] = take-suc ys i (pos 0) (omega arith) in
      rw (e, outputs_at i (omega arith), w, t, append_assoc)

  pub every_output : fir_outputs p (with_samples h xs) ≡ fir_outputs p h ++ ys
  every_output =
      let all : take (length xs) ys ≡ ys = rw (← many) (take-length ys) in
      ap (fir_outputs p) (sym (with_samples-whole h xs)) ∙ outputs_at (length xs) (omega arith) ∙ ap (λ t. fir_outputs p h ++ t) all
