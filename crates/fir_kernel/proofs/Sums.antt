-- Sums of products: in parts, from the last product on, and within 32 bits.
use Rattle.std.proofs.Common.{◌≡◌, ℕ, zero, suc, ◌+◌, ◌*◌, ◌^◌, ◌<◌, ◌≤◌, ℤ, pos, negsuc, ◌+ℤ◌, ◌*ℤ◌, unsigned_abs, FitsSigned, w32, refl, sym, ap, ◌∙◌, arith}
use Rattle.std.specs.Int.{int_wrap, saturate_to_bits}
use Rattle.std.proofs.lemmas.Int.{ints, unsigned_abs-mul, fits_signed_from_abs, int_wrap_fits, int_wrap-add_left, int_wrap-add_right}
use Rattle.std.proofs.lemmas.Nat.{mul-le}
use Rattle.basic_op.specs.Halves.{half_of}
use Rattle.basic_op.specs.Operators.{l_add_of, l_mult_of, l_mac_of}
use Rattle.fir_kernel.specs.Sums.{l_mac_sum}
use Rattle.fir_kernel.specs.Bounded.{product_sum, magnitude_sum}

pub product_sum-same : (c c' x x' : ℕ → ℤ) (n : ℕ) → ((k : ℕ) → k < n → c k ≡ c' k) → ((k : ℕ) → k < n → x k ≡ x' k)
    → product_sum c x n ≡ product_sum c' x' n
product_sum-same c c' x x' zero e f = refl
product_sum-same c c' x x' (suc k) e f =
    let s = product_sum-same c c' x x' k (λ j h. e j (omega arith)) (λ j h. f j (omega arith)) in
    rw (s, e k (omega arith), f k (omega arith))

pub l_mac_sum-same : (c x x' : ℕ → ℤ) (n : ℕ) → ((k : ℕ) → k < n → x k ≡ x' k) → l_mac_sum c x n ≡ l_mac_sum c x' n
l_mac_sum-same c x x' zero e = refl
l_mac_sum-same c x x' (suc k) e =
    let before = l_mac_sum-same c x x' k (λ j h. e j (omega arith)) in
    ap (λ z. l_mac_of (l_mac_sum c x k) (c k) z) (e k (omega arith)) ∙ ap (λ v. l_mac_of v (c k) (x' k)) before

add_zero : (a : ℤ) → a +ℤ pos 0 ≡ a
add_zero a = omega (arith, ints)

-- the products from m on, added to those before
pub product_sum-add : (c x : ℕ → ℤ) (m n : ℕ) → product_sum c x m +ℤ product_sum (λ j. c (m + j)) (λ j. x (m + j)) n ≡ product_sum c x (m + n)
product_sum-add c x m zero =
    let e : m ≡ m + zero = omega arith in
    add_zero (product_sum c x m) ∙ ap (product_sum c x) e
product_sum-add c x m (suc n) =
    let e : suc (m + n) ≡ m + suc n = omega arith in
    let h = product_sum-add c x m n in
    let all : product_sum c x m +ℤ (product_sum (λ j. c (m + j)) (λ j. x (m + j)) n +ℤ (c (m + n) *ℤ x (m + n))) ≡ product_sum c x (m + n) +ℤ (c (m + n) *ℤ x (m + n)) = omega (arith, ints) in
    all ∙ ap (product_sum c x) e

-- products of 0 at the end
pub product_sum-silent : (c x : ℕ → ℤ) (n d : ℕ) → ((j : ℕ) → n ≤ j → c j ≡ pos 0) → product_sum c x (n + d) ≡ product_sum c x n
product_sum-silent c x n zero silent =
    let e : n + zero ≡ n = omega arith in
    ap (product_sum c x) e
product_sum-silent c x n (suc d) silent =
    let e : n + suc d ≡ suc (n + d) = omega arith in
    let z : c (n + d) ≡ pos 0 = silent (n + d) (omega arith) in
    let none : pos 0 *ℤ x (n + d) ≡ pos 0 = omega (arith, ints) in
    ap (product_sum c x) e ∙ ap (λ a. product_sum c x (n + d) +ℤ (a *ℤ x (n + d))) z ∙ ap (λ a. product_sum c x (n + d) +ℤ a) none
    ∙ add_zero (product_sum c x (n + d)) ∙ product_sum-silent c x n d silent

-- the first j products of the turned order are the last j
module _ (c x c' x' : ℕ → ℤ) (n : ℕ) (cs : (j k : ℕ) → j + k + 1 ≡ n → c' j ≡ c k) (xs : (j k : ℕ) → j + k + 1 ≡ n → x' j ≡ x k) where
  turned_from : (j r : ℕ) → j + r ≡ n → product_sum c' x' j +ℤ product_sum c x r ≡ product_sum c x n
  turned_from zero r e =
      let same : pos 0 +ℤ product_sum c x r ≡ product_sum c x r = omega (arith, ints) in
      let all : r ≡ n = omega arith in
      same ∙ ap (product_sum c x) all
  turned_from (suc j) r e =
      let h : product_sum c' x' j +ℤ (product_sum c x r +ℤ (c r *ℤ x r)) ≡ product_sum c x n = turned_from j (suc r) (omega arith) in
      let a : c' j ≡ c r = cs j r (omega arith) in
      let b : x' j ≡ x r = xs j r (omega arith) in
      rw (a, b) (omega (arith, ints))

  pub product_sum-turned : product_sum c' x' n ≡ product_sum c x n
  product_sum-turned = sym (add_zero (product_sum c' x' n)) ∙ turned_from n zero (omega arith)

-- one more product, and a run of them, onto a sum that was wrapped
pub wrapped_more : (c x : ℕ → ℤ) (k : ℕ) (s r : ℤ) → s ≡ int_wrap w32 (product_sum c x k) → r ≡ int_wrap w32 (s +ℤ (c k *ℤ x k))
    → r ≡ int_wrap w32 (product_sum c x (k + 1))
wrapped_more c x k s r e f =
    let next : suc k ≡ k + 1 = omega arith in
    f ∙ ap (λ z. int_wrap w32 (z +ℤ (c k *ℤ x k))) e ∙ int_wrap-add_left w32 (product_sum c x k) (c k *ℤ x k)
    ∙ ap (λ n. int_wrap w32 (product_sum c x n)) next

pub wrapped_run : (c x c' x' : ℕ → ℤ) (m n : ℕ) (s t r : ℤ) → s ≡ int_wrap w32 (product_sum c x m) → t ≡ int_wrap w32 (product_sum c' x' n)
    → ((j : ℕ) → j < n → c' j ≡ c (m + j)) → ((j : ℕ) → j < n → x' j ≡ x (m + j)) → r ≡ int_wrap w32 (s +ℤ t)
    → r ≡ int_wrap w32 (product_sum c x (m + n))
wrapped_run c x c' x' m n s t r e g cs xs f =
    let run = product_sum c x m in
    let same = product_sum-same c' (λ j. c (m + j)) x' (λ j. x (m + j)) n cs xs in
    f ∙ ap (λ z. int_wrap w32 (z +ℤ t)) e ∙ int_wrap-add_left w32 (product_sum c x m) t
    ∙ ap (λ z. int_wrap w32 (product_sum c x m +ℤ z)) (g ∙ ap (int_wrap w32) same)
    ∙ int_wrap-add_right w32 (product_sum c x m) (product_sum (λ j. c (m + j)) (λ j. x (m + j)) n)
    ∙ ap (int_wrap w32) (product_sum-add c x m n)

half_of_twice : (z : ℤ) → half_of (z +ℤ z) ≡ z
half_of_twice (pos n) = grind (arith, ints)
half_of_twice (negsuc n) = grind (arith, ints)

pub abs_add : (a b : ℤ) → unsigned_abs (a +ℤ b) ≤ unsigned_abs a + unsigned_abs b
abs_add a b = omega (arith, ints)

doubled : (z : ℤ) → unsigned_abs z < 2 ^ 30 → saturate_to_bits 31 (z +ℤ z) ≡ z +ℤ z
doubled z h = grind arith

twice : (z : ℤ) → pos 2 *ℤ z ≡ z +ℤ z
twice z = omega (arith, ints)

-- a product of factors of which one isn't -32768
pub small_product : (a b : ℤ) → unsigned_abs a ≤ 32767 → unsigned_abs b ≤ 32768 → unsigned_abs (a *ℤ b) < 2 ^ 30
small_product a b p q =
    let h : unsigned_abs a * unsigned_abs b ≤ 32767 * 32768 = mul-le (unsigned_abs a) (unsigned_abs b) 32767 32768 p q in
    let s : unsigned_abs (a *ℤ b) ≡ unsigned_abs a * unsigned_abs b = unsigned_abs-mul a b in
    omega arith

pub l_mult_small : (a b z : ℤ) → unsigned_abs a ≤ 32767 → unsigned_abs b ≤ 32768 → z ≡ a *ℤ b → z +ℤ z ≡ l_mult_of a b
l_mult_small a b z p q e =
    ap (λ y. y +ℤ y) e ∙ sym (doubled (a *ℤ b) (small_product a b p q)) ∙ sym (ap (saturate_to_bits 31) (twice (a *ℤ b)))

-- no sample is louder than l
module _ (c x : ℕ → ℤ) (l : ℕ) where
  pub product_within : (k : ℕ) → unsigned_abs (x k) ≤ l → unsigned_abs (c k *ℤ x k) ≤ unsigned_abs (c k) * l
  product_within k quiet = rw unsigned_abs-mul (mul-le (unsigned_abs (c k)) (unsigned_abs (x k)) (unsigned_abs (c k)) l (omega arith) quiet)

  pub product_sum_within : (n : ℕ) → ((k : ℕ) → k < n → unsigned_abs (x k) ≤ l) → unsigned_abs (product_sum c x n) ≤ magnitude_sum c n * l
  product_sum_within zero quiet = omega arith
  product_sum_within (suc n) quiet =
      let h : unsigned_abs (product_sum c x n) ≤ magnitude_sum c n * l = product_sum_within n (λ k b. quiet k (omega arith)) in
      let p : unsigned_abs (c n *ℤ x n) ≤ unsigned_abs (c n) * l = product_within n (quiet n (omega arith)) in
      let s = abs_add (product_sum c x n) (c n *ℤ x n) in
      omega arith

  -- in order, each sum is twice the plain one
  pub l_mac_sum_plain : (n : ℕ) → ((k : ℕ) → k < n → unsigned_abs (x k) ≤ l) → magnitude_sum c n * l < 2 ^ 30
      → l_mac_sum c x n ≡ product_sum c x n +ℤ product_sum c x n
  l_mac_sum_plain zero quiet bound = refl
  l_mac_sum_plain (suc n) quiet bound =
      let before : magnitude_sum c n * l < 2 ^ 30 = omega arith in
      let h = l_mac_sum_plain n (λ k b. quiet k (omega arith)) before in
      let p : unsigned_abs (c n *ℤ x n) ≤ unsigned_abs (c n) * l = product_within n (quiet n (omega arith)) in
      let small : unsigned_abs (c n *ℤ x n) < 2 ^ 30 = omega arith in
      let all : unsigned_abs (product_sum c x n +ℤ (c n *ℤ x n)) ≤ magnitude_sum c (suc n) * l = product_sum_within (suc n) quiet in
      let whole : unsigned_abs (product_sum c x n +ℤ (c n *ℤ x n)) < 2 ^ 30 = omega arith in
      let last : l_mult_of (c n) (x n) ≡ (c n *ℤ x n) +ℤ (c n *ℤ x n) = ap (saturate_to_bits 31) (twice (c n *ℤ x n)) ∙ doubled (c n *ℤ x n) small in
      let regroup : (product_sum c x n +ℤ product_sum c x n) +ℤ ((c n *ℤ x n) +ℤ (c n *ℤ x n)) ≡ (product_sum c x n +ℤ (c n *ℤ x n)) +ℤ (product_sum c x n +ℤ (c n *ℤ x n)) = omega (arith, ints) in
      ap (λ v. l_mac_of v (c n) (x n)) h ∙ ap (λ m. l_add_of (product_sum c x n +ℤ product_sum c x n) m) last
      ∙ ap (saturate_to_bits 31) regroup ∙ doubled (product_sum c x n +ℤ (c n *ℤ x n)) whole

  -- the wrapped sum is half of the sum in order
  pub wrapped_sum_is : (n : ℕ) (s : ℤ) → ((k : ℕ) → k < n → unsigned_abs (x k) ≤ l) → magnitude_sum c n * l < 2 ^ 30
      → s ≡ int_wrap w32 (product_sum c x n) → (unsigned_abs s < 2 ^ 30) × (s ≡ half_of (l_mac_sum c x n))
  wrapped_sum_is n s quiet bound e =
      let within = product_sum_within n quiet in
      let small : unsigned_abs (product_sum c x n) < 2 ^ 30 = omega arith in
      let fits : FitsSigned w32 (product_sum c x n) = fits_signed_from_abs w32 (product_sum c x n) (omega arith) in
      let plain : s ≡ product_sum c x n = e ∙ int_wrap_fits w32 (product_sum c x n) fits in
      (rw plain small, plain ∙ sym (half_of_twice (product_sum c x n)) ∙ sym (ap half_of (l_mac_sum_plain n quiet bound)))
