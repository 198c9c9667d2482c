-- Lines of taps: their lengths, their words, and the line before the first pair.
use Rattle.std.proofs.Common.{◌≡◌, ℕ, ℤ, zero, suc, pos, negsuc, ◌+◌, ◌-◌, ◌*◌, ◌%◌, ◌-ℤ◌, if◌then◌else◌, ◌<◌, ◌≤◌, ◌==◌, int_lt, IsTrue, List, [], ◌∷◌, ◌++◌, length, map, replicate, refl, sym, ap, ap₂, ◌∙◌, arith}
use Rattle.std.proofs.lemmas.Bool.{and_parts}
use Rattle.std.proofs.lemmas.List.{length-map}
use Rattle.ialg.specs.History.{word_at}
use Rattle.ialg.specs.Meaning.{is_between}
use Rattle.ialg.proofs.Histories.{same_by_words}
use Rattle.basic_op.specs.Operators.{extract_h_of, extract_l_of, l_deposit_h_of}
use Rattle.kind_parts.specs.Words.{joined}
use Rattle.kind_parts.proofs.Joining.{joined_parts}
use Rattle.kind_parts.proofs.Parameters.{count_is}
use Rattle.echo_kernel.specs.Equation.{taps, moved, all_moved, is_canceller}
use Rattle.echo_kernel.specs.Keeps.{state_words, words_of}

pub word_at-map : (f : ℤ → ℤ) (ws : List ℤ) (k : ℕ) → k < length ws → word_at (map f ws) k ≡ f (word_at ws k)
word_at-map f [] k b = absurd (omega arith)
word_at-map f (w ∷ ws) zero b = refl
word_at-map f (w ∷ ws) (suc k) b = word_at-map f ws k (omega arith)

pub length-moved : (a s : ℤ) (ws xs : List ℤ) → length ws ≡ length xs → length (all_moved a s ws xs) ≡ length xs
length-moved a s [] [] e = refl
length-moved a s [] (x ∷ xs) e = absurd (omega arith)
length-moved a s (w ∷ ws) [] e = absurd (omega arith)
length-moved a s (w ∷ ws) (x ∷ xs) e = ap suc (length-moved a s ws xs (omega arith))

moved_at : (a s : ℤ) (ws xs : List ℤ) (k : ℕ) → k < length xs → length ws ≡ length xs
    → word_at (all_moved a s ws xs) k ≡ moved a s (word_at ws k) (word_at xs k)
moved_at a s [] xs k b e = absurd (omega arith)
moved_at a s (w ∷ ws) [] k b e = absurd (omega arith)
moved_at a s (w ∷ ws) (x ∷ xs) zero b e = refl
moved_at a s (w ∷ ws) (x ∷ xs) (suc k) b e = moved_at a s ws xs k (omega arith) (omega arith)

-- one half of each coefficient that moved
pub half_moved : (f : ℤ → ℤ) (a s : ℤ) (ws xs high low new : List ℤ) → high ≡ map extract_h_of ws → low ≡ map extract_l_of ws
    → length high ≡ length xs → length new ≡ length xs
    → ((k : ℕ) → k < length xs → word_at new k ≡ f (moved a s (joined (word_at high k) (word_at low k)) (word_at xs k)))
    → new ≡ map f (all_moved a s ws xs)
half_moved f a s ws xs high low new eh el size long at =
    let count : length ws ≡ length xs = sym (length-map ws extract_h_of) ∙ sym (ap length eh) ∙ size in
    let all = all_moved a s ws xs in
    let n : length (map f all) ≡ length xs = length-map all f ∙ length-moved a s ws xs count in
    let m : length all ≡ length xs = length-moved a s ws xs count in
    same_by_words new (map f all) (long ∙ sym n)
    (λ k b.
    let c : k < length xs = omega arith in
    let d : k < length ws = omega arith in
    let g : k < length all = omega arith in
    let h : word_at high k ≡ extract_h_of (word_at ws k) = ap (λ t. word_at t k) eh ∙ word_at-map extract_h_of ws k d in
    let l : word_at low k ≡ extract_l_of (word_at ws k) = ap (λ t. word_at t k) el ∙ word_at-map extract_l_of ws k d in
    let w : joined (word_at high k) (word_at low k) ≡ word_at ws k = ap₂ joined h l ∙ joined_parts (word_at ws k) in
    at k c ∙ ap (λ v. f (moved a s v (word_at xs k))) w ∙ ap f (sym (moved_at a s ws xs k c count)) ∙ sym (word_at-map f all k g))

-- ---- coefficients that are given up

deposited_high : (a : ℤ) → extract_h_of (l_deposit_h_of a) ≡ a
deposited_high (pos n) = ap pos (omega arith)
deposited_high (negsuc n) =
    let e : suc n * 65536 ≡ suc (n * 65536 + 65535) = omega arith in
    rw e (ap negsuc (omega arith))

-- the word of these lower bits
abbrev word_of_bits : ℕ → ℤ
word_of_bits rest = if int_lt (pos rest) (pos 32768) then pos rest else pos rest -ℤ pos 65536

deposited_low : (a : ℤ) → extract_l_of (l_deposit_h_of a) ≡ pos 0
deposited_low (pos n) =
    let e : n * 65536 % 65536 ≡ 0 = omega arith in
    ap word_of_bits e
deposited_low (negsuc n) =
    let e : suc n * 65536 ≡ suc (n * 65536 + 65535) = omega arith in
    let r : 65536 - 1 - (n * 65536 + 65535) % 65536 ≡ 0 = omega arith in
    rw e (ap word_of_bits r)

pub high_words : (us : List ℤ) → us ≡ map extract_h_of (map l_deposit_h_of us)
high_words [] = refl
high_words (u ∷ us) = ap₂ ◌∷◌ (sym (deposited_high u)) (high_words us)

pub low_words : (us low : List ℤ) → length low ≡ length us → ((k : ℕ) → word_at low k ≡ pos 0) → low ≡ map extract_l_of (map l_deposit_h_of us)
low_words [] [] e z = refl
low_words [] (l ∷ low) e z = absurd (omega arith)
low_words (u ∷ us) [] e z = absurd (omega arith)
low_words (u ∷ us) (l ∷ low) e z = ap₂ ◌∷◌ (z 0 ∙ sym (deposited_low u)) (low_words us low (omega arith) (λ k. z (suc k)))

-- ---- the line before the first pair

zeros_append : (a b : ℕ) → replicate a (pos 0) ++ replicate b (pos 0) ≡ replicate (a + b) (pos 0)
zeros_append zero b = ap (λ n. replicate n (pos 0)) (omega arith)
zeros_append (suc a) b =
    let e : suc (a + b) ≡ suc a + b = omega arith in
    ap (λ t. pos 0 ∷ t) (zeros_append a b) ∙ ap (λ n. replicate n (pos 0)) e

zeros_map : (f : ℤ → ℤ) (n : ℕ) → f (pos 0) ≡ pos 0 → map f (replicate n (pos 0)) ≡ replicate n (pos 0)
zeros_map f zero e = refl
zeros_map f (suc n) e = ap₂ ◌∷◌ e (zeros_map f n e)

pub begins : (p : List ℤ) → IsTrue (is_canceller p) → words_of p [] ≡ replicate (state_words p) (pos 0)
begins p e =
    let n = taps p in
    let zeros = replicate n (pos 0) in
    let halves : map extract_h_of zeros ++ map extract_l_of zeros ≡ replicate (n + n) (pos 0) = ap₂ ◌++◌ (zeros_map extract_h_of n refl) (zeros_map extract_l_of n refl) ∙ zeros_append n n in
    let three : zeros ++ (map extract_h_of zeros ++ map extract_l_of zeros) ≡ replicate (n + (n + n)) (pos 0) = ap (λ t. zeros ++ t) halves ∙ zeros_append n (n + n) in
    let four : zeros ++ (zeros ++ (map extract_h_of zeros ++ map extract_l_of zeros)) ≡ replicate (n + (n + (n + n))) (pos 0) = ap (λ t. zeros ++ t) three ∙ zeros_append n (n + (n + n)) in
    let size : suc (suc (suc (suc (suc (suc (suc (suc (suc (n + (n + (n + n))))))))))) ≡ state_words p = omega arith in
    ap (λ t. pos 0 ∷ pos 0 ∷ pos 0 ∷ pos 0 ∷ pos 0 ∷ pos 0 ∷ pos 0 ∷ pos 0 ∷ pos 0 ∷ t) four ∙ ap (λ k. replicate k (pos 0)) size

pub some_taps : (p : List ℤ) → IsTrue (is_canceller p) → 1 ≤ taps p
some_taps p e = (count_is 256 (word_at p 0) (and_parts (length p == 4) (is_between (pos 1) (pos 256) (word_at p 0)) e).1).some

pub few : (p : List ℤ) → IsTrue (is_canceller p) → state_words p ≤ 8192
few p e =
    let most = (count_is 256 (word_at p 0) (and_parts (length p == 4) (is_between (pos 1) (pos 256) (word_at p 0)) e).1).few in
    omega arith
