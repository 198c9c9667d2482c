-- Groups of taps that are added together, and lanes for every other output.
use Rattle.std.proofs.Common.{◌≡◌, ℕ, zero, suc, ◌+◌, ◌-◌, ◌*◌, ◌%◌, ◌^◌, cond, Bool, true, false, nat_eq, ◌-ℤ◌, ◌<◌, ◌≤◌, inl, inr, take, drop, ℤ, pos, ◌+ℤ◌, ◌*ℤ◌, negsuc, List, [], ◌∷◌, ◌++◌, length, map, get_or, to_z, of_z, FitsSigned, unsigned_abs, w16, w32, refl, sym, ap, subst, ◌∙◌, arith, get_or-take, length-take, length-drop}
use Rattle.std.specs.Int.{int_wrap, saturate_to_bits}
use Rattle.std.proofs.lemmas.Int.{ints, to_z-of_z, fits_signed_from_abs, int_wrap_fits, int_wrap-add_left, wrapping_sub-bits}
use Rattle.std.proofs.lemmas.Bool.Decides.{nat_tests}
use Rattle.std.specs.Int.Signed.{lt_z}
use Rattle.std.proofs.lemmas.Bool.{cases_lt, false≢true}
use Rattle.std.proofs.lemmas.List.{get_or_past}
use Rattle.ialg.specs.History.{word_at}
use lib.Lanes.{zip2, top, sel_l, mask_l}
use borrow.Rule.Simd.Lanes.{act1, act2}
use borrow.Table.Row.{s_int}
use mir.Syntax.{cast, signed, wrap_add, wrap_mul, wrap_sub}
use Rattle.basic_op.specs.Halves.{half_of}
use Rattle.basic_op.specs.Operators.{l_mac_of}
use Rattle.basic_op.proofs.HalfLemmas.{half_add}
use Rattle.fir_kernel.specs.Bounded.{magnitude_sum, product_sum, NoneLouder}
use Rattle.fir_kernel.specs.Sums.{l_mac_sum}
use Rattle.fir_kernel.specs.Halves.{AreHalves, HasHalves}
use Rattle.fir_kernel.specs.HalfLanes.{taps_sum, HaveTaps, IsHalved}
use Rattle.fir_kernel.specs.Watched.{AreBelow, AreWrapped, HaveEvery, IsRoom, StayWithin}
use Rattle.fir_kernel.proofs.Sums.{abs_add, product_within, product_sum_within, product_sum-same}
use Rattle.fir_kernel.proofs.HalfSums.{one_more}
use Rattle.fir_kernel.proofs.Parts.{part_at}
use Rattle.fir_kernel.proofs.Lanes.{four, eight, lane, lane_of, onto, four_fit, fits_as, word_bits, take_fits, drop_fits, kept_lanes}
use Rattle.fir_kernel.proofs.HalfLanes.{AreOnto, ontos, ontos_are, one_more_each, halved_as, halved_kept, halves_fit, compared, compared_is, chosen, masks}

-- ---- products that can't take a half sum beyond the limits

limit_same : (z : ℤ) → unsigned_abs z < 2 ^ 30 → saturate_to_bits 30 z ≡ z
limit_same z h = grind arith

pub magnitude_sum-same : (c c' : ℕ → ℤ) (n : ℕ) → ((k : ℕ) → k < n → c k ≡ c' k) → magnitude_sum c n ≡ magnitude_sum c' n
magnitude_sum-same c c' zero e = refl
magnitude_sum-same c c' (suc k) e = rw (magnitude_sum-same c c' k (λ j h. e j (omega arith)), e k (omega arith)) refl

module _ (c x : ℕ → ℤ) (l k : ℕ) (s : ℤ) (is : s ≡ half_of (l_mac_sum c x k)) where
  abbrev c' : ℕ → ℤ
  c' j = c (k + j)

  abbrev x' : ℕ → ℤ
  x' j = x (k + j)

  small : (n : ℕ) → ((j : ℕ) → j < n → unsigned_abs (x' j) ≤ l) → unsigned_abs s + magnitude_sum c' n * l < 2 ^ 30 → unsigned_abs (s +ℤ product_sum c' x' n) < 2 ^ 30
  small n quiet room =
      let p : unsigned_abs (product_sum c' x' n) ≤ magnitude_sum c' n * l = product_sum_within c' x' l n quiet in
      let a = abs_add s (product_sum c' x' n) in
      omega arith

  -- n products more: their plain sum goes onto the half of the sum in order
  pub half_run : (n : ℕ) → ((j : ℕ) → j < n → unsigned_abs (x' j) ≤ l) → unsigned_abs s + magnitude_sum c' n * l < 2 ^ 30
      → s +ℤ product_sum c' x' n ≡ half_of (l_mac_sum c x (k + n))
  half_run zero quiet room =
      let same : s +ℤ pos 0 ≡ s = omega (arith, ints) in
      let all : k ≡ k + zero = omega arith in
      same ∙ is ∙ ap (λ n. half_of (l_mac_sum c x n)) all
  half_run (suc n) quiet room =
      let v = l_mac_sum c x (k + n) in
      let p = c (k + n) *ℤ x (k + n) in
      let q : unsigned_abs p ≤ unsigned_abs (c (k + n)) * l = product_within c' x' l n (quiet n (omega arith)) in
      let before = half_run n (λ j h. quiet j (omega arith)) (omega arith) in
      let one : unsigned_abs p < 2 ^ 30 = omega arith in
      let regroup : s +ℤ (product_sum c' x' n +ℤ p) ≡ (s +ℤ product_sum c' x' n) +ℤ p = omega (arith, ints) in
      let whole : unsigned_abs ((s +ℤ product_sum c' x' n) +ℤ p) < 2 ^ 30 = subst (λ z. unsigned_abs z < 2 ^ 30) regroup (small (suc n) quiet room) in
      let next : suc (k + n) ≡ k + suc n = omega arith in
      regroup ∙ sym (limit_same _ whole) ∙ ap (λ h. saturate_to_bits 30 (h +ℤ p)) before ∙ half_add v p one ∙ ap (λ n. half_of (l_mac_sum c x n)) next

-- ---- lanes to 32 bits

pub wrapped_as : (lanes : List ℤ) (s t : ℕ → ℤ) → ((k : ℕ) → k < 4 → s k ≡ t k) → AreWrapped lanes s → AreWrapped lanes t
wrapped_as lanes s t e is = record { four = is.four; fit = is.fit; wrapped = λ k b. is.wrapped k b ∙ ap (int_wrap w32) (e k b) }

pub wrapped_kept : (lanes : List ℤ) (s : ℕ → ℤ) → AreWrapped lanes s → AreWrapped (map (to_z w32) (map (of_z w32) lanes)) s
wrapped_kept lanes s is = rw (kept_lanes lanes is.fit) is

pub halves_wrapped : (lanes : List ℤ) → length lanes ≡ 4 → AreHalves lanes → AreWrapped lanes (word_at lanes)
halves_wrapped lanes e small = record {
  four = e;
  fit = halves_fit lanes small;
  wrapped = λ k b. let f = halves_fit lanes small k in sym (int_wrap_fits w32 (word_at lanes k) f);
}

onto_wrapped : (s t v r : ℤ) → s ≡ int_wrap w32 v → r ≡ int_wrap w32 (s +ℤ t) → r ≡ int_wrap w32 (v +ℤ t)
onto_wrapped s t v r e f = f ∙ ap (λ z. int_wrap w32 (z +ℤ t)) e ∙ int_wrap-add_left w32 v t

four_are : (P : ℕ → ℤ) (q r s t : ℤ) → q ≡ P 0 → r ≡ P 1 → s ≡ P 2 → t ≡ P 3 → (k : ℕ) → k < 4 → word_at (q ∷ r ∷ s ∷ t ∷ []) k ≡ P k
four_are P q r s t a b c d zero h = a
four_are P q r s t a b c d (suc zero) h = b
four_are P q r s t a b c d (suc (suc zero)) h = c
four_are P q r s t a b c d (suc (suc (suc zero))) h = d
four_are P q r s t a b c d (suc (suc (suc (suc k)))) h = absurd (omega arith)

-- two products more in each
abbrev pub with_pairs : List ℤ → List ℤ → (ℕ → ℤ) → ℕ → ℤ
with_pairs a b s k = s k +ℤ ((word_at a (2 * k) *ℤ word_at b (2 * k)) +ℤ (word_at a (2 * k + 1) *ℤ word_at b (2 * k + 1)))

lanes_paired : (s : ℕ → ℤ) (s0 s1 s2 s3 a b c d e f g h i j k l m n o p q r t u : ℤ) → AreWrapped (s0 ∷ s1 ∷ s2 ∷ s3 ∷ []) s
    → q ≡ int_wrap w32 (s0 +ℤ ((a *ℤ i) +ℤ (b *ℤ j))) → r ≡ int_wrap w32 (s1 +ℤ ((c *ℤ k) +ℤ (d *ℤ l)))
    → t ≡ int_wrap w32 (s2 +ℤ ((e *ℤ m) +ℤ (f *ℤ n))) → u ≡ int_wrap w32 (s3 +ℤ ((g *ℤ o) +ℤ (h *ℤ p)))
    → AreWrapped (q ∷ r ∷ t ∷ u ∷ []) (with_pairs (a ∷ b ∷ c ∷ d ∷ e ∷ f ∷ g ∷ h ∷ []) (i ∷ j ∷ k ∷ l ∷ m ∷ n ∷ o ∷ p ∷ []) s)
lanes_paired s s0 s1 s2 s3 a b c d e f g h i j k l m n o p q r t u is one two three last = record {
  four = refl;
  fit = four_fit q r t u (fits_as q _ one) (fits_as r _ two) (fits_as t _ three) (fits_as u _ last);
  wrapped = four_are (λ y. int_wrap w32 (with_pairs (a ∷ b ∷ c ∷ d ∷ e ∷ f ∷ g ∷ h ∷ []) (i ∷ j ∷ k ∷ l ∷ m ∷ n ∷ o ∷ p ∷ []) s y)) q r t u
      (onto_wrapped s0 ((a *ℤ i) +ℤ (b *ℤ j)) (s 0) q (is.wrapped 0 (omega arith)) one) (onto_wrapped s1 ((c *ℤ k) +ℤ (d *ℤ l)) (s 1) r (is.wrapped 1 (omega arith)) two)
      (onto_wrapped s2 ((e *ℤ m) +ℤ (f *ℤ n)) (s 2) t (is.wrapped 2 (omega arith)) three) (onto_wrapped s3 ((g *ℤ o) +ℤ (h *ℤ p)) (s 3) u (is.wrapped 3 (omega arith)) last);
}

abbrev pub AllFit : List ℤ → Type 0
AllFit xs = (k : ℕ) → FitsSigned w16 (word_at xs k)

pub paired : (s a b : List ℤ) (sums : ℕ → ℤ) → AreWrapped s sums → length a ≡ 8 → length b ≡ 8 → AllFit a → AllFit b → AreWrapped (onto s a b) (with_pairs a b sums)
paired s a b sums is la lb fa fb =
    four s is.four (λ s. AreWrapped s sums → AreWrapped (onto s a b) (with_pairs a b sums))
    (λ s0 s1 s2 s3. eight a la (λ a. AllFit a → AreWrapped (s0 ∷ s1 ∷ s2 ∷ s3 ∷ []) sums → AreWrapped (onto (s0 ∷ s1 ∷ s2 ∷ s3 ∷ []) a b) (with_pairs a b sums))
    (λ a0 a1 a2 a3 a4 a5 a6 a7. eight b lb (λ b. AllFit b → AllFit (a0 ∷ a1 ∷ a2 ∷ a3 ∷ a4 ∷ a5 ∷ a6 ∷ a7 ∷ []) → AreWrapped (s0 ∷ s1 ∷ s2 ∷ s3 ∷ []) sums
    → AreWrapped (onto (s0 ∷ s1 ∷ s2 ∷ s3 ∷ []) (a0 ∷ a1 ∷ a2 ∷ a3 ∷ a4 ∷ a5 ∷ a6 ∷ a7 ∷ []) b) (with_pairs (a0 ∷ a1 ∷ a2 ∷ a3 ∷ a4 ∷ a5 ∷ a6 ∷ a7 ∷ []) b sums))
    (λ b0 b1 b2 b3 b4 b5 b6 b7 gb ga is'.
    lanes_paired sums s0 s1 s2 s3 a0 a1 a2 a3 a4 a5 a6 a7 b0 b1 b2 b3 b4 b5 b6 b7
    (lane_of s0 a0 b0 a1 b1) (lane_of s1 a2 b2 a3 b3) (lane_of s2 a4 b4 a5 b5) (lane_of s3 a6 b6 a7 b7) is'
    (lane s0 a0 b0 a1 b1 (is'.fit 0) (ga 0) (gb 0) (ga 1) (gb 1)) (lane s1 a2 b2 a3 b3 (is'.fit 1) (ga 2) (gb 2) (ga 3) (gb 3))
    (lane s2 a4 b4 a5 b5 (is'.fit 2) (ga 4) (gb 4) (ga 5) (gb 5)) (lane s3 a6 b6 a7 b7 (is'.fit 3) (ga 6) (gb 6) (ga 7) (gb 7))) fb)
    fa) is

-- ---- eight words of the line

abbrev pub words_of : List ℤ → ℕ → List ℤ
words_of line at = take 8 (take (at + 8 - at) (drop at line))

pub words_length : (line : List ℤ) (at : ℕ) → at + 8 ≤ length line → length (words_of line at) ≡ 8
words_length line at reach = simp (length-take, length-drop) (omega arith)

pub words_at : (line : List ℤ) (at k : ℕ) → k < 8 → word_at (words_of line at) k ≡ word_at line (at + k)
words_at line at k b = get_or-take 8 (take (at + 8 - at) (drop at line)) k (pos 0) b ∙ part_at line at (at + 8) k (omega arith)

pub words_fit : (line : List ℤ) (at : ℕ) → AllFit line → AllFit (words_of line at)
words_fit line at f = take_fits 8 _ (take_fits (at + 8 - at) (drop at line) (drop_fits at line f))

pub paired_line : (s pair line : List ℤ) (at : ℕ) (sums : ℕ → ℤ) → AreWrapped s sums → length pair ≡ 8 → at + 8 ≤ length line → AllFit pair → AllFit line
    → AreWrapped (onto s pair (words_of line at)) (λ k. sums k +ℤ ((word_at pair (2 * k) *ℤ word_at line (at + 2 * k)) +ℤ (word_at pair (2 * k + 1) *ℤ word_at line (at + 2 * k + 1))))
paired_line s pair line at sums is lp reach fp fl =
    wrapped_as _ (with_pairs pair (words_of line at) sums) _ (λ k b.
    let to : at + (2 * k + 1) ≡ at + 2 * k + 1 = omega arith in
    let even = words_at line at (2 * k) (omega arith) in
    let odd : word_at (words_of line at) (2 * k + 1) ≡ word_at line (at + 2 * k + 1) = words_at line at (2 * k + 1) (omega arith) ∙ ap (word_at line) to in
    rw (even, odd) refl)
    (paired s pair (words_of line at) sums is lp (words_length line at reach) fp (words_fit line at fl))

-- ---- every other word of eight

abbrev pub every_other : List ℤ → ℕ → List ℤ
every_other xs j = word_at xs j ∷ word_at xs (j + 2) ∷ word_at xs (j + 4) ∷ word_at xs (j + 6) ∷ []

abbrev pub picked : List ℕ → ℕ → List ℕ
picked w j = get_or (w ++ w) j 0 ∷ get_or (w ++ w) (j + 2) 0 ∷ get_or (w ++ w) (j + 4) 0 ∷ get_or (w ++ w) (j + 6) 0 ∷ []

pub odd_picked : (xs : List ℤ) → length xs ≡ 8 → picked (map (of_z w16) xs) 1 ≡ map (of_z w16) (every_other xs 1)
odd_picked xs e = eight xs e (λ xs. picked (map (of_z w16) xs) 1 ≡ map (of_z w16) (every_other xs 1)) (λ a b c d e f g h. refl)

pub even_picked : (xs : List ℤ) → length xs ≡ 8 → picked (map (of_z w16) xs) 0 ≡ map (of_z w16) (every_other xs 0)
even_picked xs e = eight xs e (λ xs. picked (map (of_z w16) xs) 0 ≡ map (of_z w16) (every_other xs 0)) (λ a b c d e f g h. refl)

abbrev pub ontos_bits : List ℤ → ℤ → List ℕ → List ℤ
ontos_bits hs c bits =
    map (to_z w32) (zip2 (act2 wrap_add (s_int w32) (s_int w32) (s_int w32)) (map (of_z w32) hs)
    (zip2 (act2 wrap_mul (s_int w32) (s_int w32) (s_int w32)) (of_z w32 c ∷ of_z w32 c ∷ of_z w32 c ∷ of_z w32 c ∷ [])
    (map (act1 (cast signed signed w32) (s_int w16) (s_int w32)) bits)))

abbrev pub others : List ℤ → ℕ → ℕ → List ℤ
others line at j = every_other (words_of line at) j

pub other_at : (line : List ℤ) (at j k : ℕ) → j < 2 → k < 4 → word_at (others line at j) k ≡ word_at line (at + j + 2 * k)
other_at line at j k two =
    four_are (λ k. word_at line (at + j + 2 * k)) _ _ _ _
    (at_word j 0 (omega arith) (omega arith)) (at_word (j + 2) 1 (omega arith) (omega arith)) (at_word (j + 4) 2 (omega arith) (omega arith)) (at_word (j + 6) 3 (omega arith) (omega arith)) k
  where
    at_word : (m k : ℕ) → m < 8 → at + m ≡ at + j + 2 * k → word_at (words_of line at) m ≡ word_at line (at + j + 2 * k)
    at_word m k b e = words_at line at m b ∙ ap (word_at line) e

four_words : (a b c d : ℤ) → FitsSigned w16 a → FitsSigned w16 b → FitsSigned w16 c → FitsSigned w16 d → AllFit (a ∷ b ∷ c ∷ d ∷ [])
four_words a b c d e f g h zero = e
four_words a b c d e f g h (suc zero) = f
four_words a b c d e f g h (suc (suc zero)) = g
four_words a b c d e f g h (suc (suc (suc zero))) = h
four_words a b c d e f g h (suc (suc (suc (suc k)))) = record { sfits = omega arith }

past_four : (a b c d : ℤ) (k : ℕ) → 4 ≤ k → word_at (a ∷ b ∷ c ∷ d ∷ []) k ≡ pos 0
past_four a b c d k h = get_or_past (a ∷ b ∷ c ∷ d ∷ []) k (pos 0) h

pub others_fit : (line : List ℤ) (at j : ℕ) → AllFit line → AllFit (others line at j)
others_fit line at j f = four_words _ _ _ _ (words_fit line at f j) (words_fit line at f (j + 2)) (words_fit line at f (j + 4)) (words_fit line at f (j + 6))

pub others_halves : (c : ℤ) (line : List ℤ) (at j : ℕ) → j < 2 → HasHalves c line → HasHalves c (others line at j)
others_halves c line at j two factors k = elim (cases_lt k 4) [
  | inl b ↦ rw (other_at line at j k two b) (factors (at + j + 2 * k))
  | inr b ↦ rw (past_four _ _ _ _ k b) (inr (omega arith))
]

pub others_onto : (hs : List ℤ) (c f : ℤ) (line : List ℤ) (at j : ℕ) → j < 2 → length hs ≡ 4 → f ≡ c → FitsSigned w16 c → AllFit line → HasHalves c line → AreHalves hs
    → AreOnto hs c (others line at j) (ontos hs f (others line at j))
others_onto hs c f line at j two lh same fc fl factors small =
    subst (λ f. AreOnto hs c (others line at j) (ontos hs f (others line at j))) (sym same)
    (ontos_are hs c (others line at j) lh refl fc (others_fit line at j fl) (others_halves c line at j two factors) small)

-- a tap more, with every other word
pub other_tap : (hs r : List ℤ) (c f : ℤ) (line : List ℤ) (at j m : ℕ) (sums : ℕ → ℤ) → j < 2 → at + j ≡ m → length r ≡ 4
    → ((k : ℕ) → word_at r k ≡ saturate_to_bits 30 (word_at (ontos hs f (others line at j)) k)) → f ≡ c → FitsSigned w16 c → AllFit line → HasHalves c line → AreHalves hs
    → IsHalved hs sums → IsHalved (map (to_z w32) (map (of_z w32) r)) (λ k. l_mac_of (sums k) c (word_at line (m + 2 * k)))
other_tap hs r c f line at j m sums two to lr limited same fc fl factors small is =
    let xs = others line at j in
    let are = others_onto hs c f line at j two is.four same fc fl factors small in
    halved_kept r _ (halved_as r _ _ (λ k b. ap (λ x. half_of (l_mac_of (sums k) c x)) (other_at line at j k two b ∙ ap (λ m. word_at line (m + 2 * k)) to))
    (one_more_each hs xs (ontos hs f xs) r c sums are lr limited fc (others_fit line at j fl) (others_halves c line at j two factors) is))

-- ---- lanes of two registers by turns

four_halved : (P : ℕ → ℤ) (a b c d : ℤ) → unsigned_abs a ≤ 2 ^ 30 → unsigned_abs b ≤ 2 ^ 30 → unsigned_abs c ≤ 2 ^ 30 → unsigned_abs d ≤ 2 ^ 30
    → a ≡ half_of (P 0) → b ≡ half_of (P 1) → c ≡ half_of (P 2) → d ≡ half_of (P 3) → IsHalved (a ∷ b ∷ c ∷ d ∷ []) P
four_halved P a b c d sa sb sc sd e f g h = record { four = refl; within = within; halves = four_are (λ k. half_of (P k)) a b c d e f g h } where
  within : AreHalves (a ∷ b ∷ c ∷ d ∷ [])
  within zero = sa
  within (suc zero) = sb
  within (suc (suc zero)) = sc
  within (suc (suc (suc zero))) = sd
  within (suc (suc (suc (suc k)))) = omega arith

abbrev pub both_bits : List ℤ → List ℤ → List ℕ
both_bits e o = map (of_z w32) e ++ map (of_z w32) o

abbrev pub turned : List ℕ → ℕ → ℕ → ℕ → ℕ → List ℤ
turned w i j k l = to_z w32 (get_or w i 0) ∷ to_z w32 (get_or w j 0) ∷ to_z w32 (get_or w k 0) ∷ to_z w32 (get_or w l 0) ∷ []

module _ (even odd : List ℤ) (sums : ℕ → ℤ) (of_even : IsHalved even (λ k. sums (2 * k))) (of_odd : IsHalved odd (λ k. sums (2 * k + 1))) where
  pub low_turned : IsHalved (turned (both_bits even odd) 0 4 1 5) sums
  low_turned =
      four even of_even.four (λ e. IsHalved e (λ k. sums (2 * k)) → IsHalved (turned (both_bits e odd) 0 4 1 5) sums)
      (λ a b c d ie. four odd of_odd.four (λ o. IsHalved o (λ k. sums (2 * k + 1)) → IsHalved (turned (both_bits (a ∷ b ∷ c ∷ d ∷ []) o) 0 4 1 5) sums)
      (λ e f g h io.
      let fa = halves_fit (a ∷ b ∷ c ∷ d ∷ []) ie.within 0 in
      let fb = halves_fit (a ∷ b ∷ c ∷ d ∷ []) ie.within 1 in
      let fe = halves_fit (e ∷ f ∷ g ∷ h ∷ []) io.within 0 in
      let ff = halves_fit (e ∷ f ∷ g ∷ h ∷ []) io.within 1 in
      rw (to_z-of_z w32 a fa, to_z-of_z w32 e fe, to_z-of_z w32 b fb, to_z-of_z w32 f ff)
      (four_halved sums a e b f (ie.within 0) (io.within 0) (ie.within 1) (io.within 1)
      (ie.halves 0 (omega arith)) (io.halves 0 (omega arith)) (ie.halves 1 (omega arith)) (io.halves 1 (omega arith)))) of_odd) of_even

  pub high_turned : IsHalved (turned (both_bits even odd) 2 6 3 7) (λ k. sums (4 + k))
  high_turned =
      four even of_even.four (λ e. IsHalved e (λ k. sums (2 * k)) → IsHalved (turned (both_bits e odd) 2 6 3 7) (λ k. sums (4 + k)))
      (λ a b c d ie. four odd of_odd.four (λ o. IsHalved o (λ k. sums (2 * k + 1)) → IsHalved (turned (both_bits (a ∷ b ∷ c ∷ d ∷ []) o) 2 6 3 7) (λ k. sums (4 + k)))
      (λ e f g h io.
      let fc = halves_fit (a ∷ b ∷ c ∷ d ∷ []) ie.within 2 in
      let fd = halves_fit (a ∷ b ∷ c ∷ d ∷ []) ie.within 3 in
      let fg = halves_fit (e ∷ f ∷ g ∷ h ∷ []) io.within 2 in
      let fh = halves_fit (e ∷ f ∷ g ∷ h ∷ []) io.within 3 in
      rw (to_z-of_z w32 c fc, to_z-of_z w32 g fg, to_z-of_z w32 d fd, to_z-of_z w32 h fh)
      (four_halved (λ k. sums (4 + k)) c g d h (ie.within 2) (io.within 2) (ie.within 3) (io.within 3)
      (ie.halves 2 (omega arith)) (io.halves 2 (omega arith)) (ie.halves 3 (omega arith)) (io.halves 3 (omega arith)))) of_odd) of_even

-- ---- a group of taps

-- added together, where the sums stay within the limits
pub group_together : (cs line halves r taps : List ℤ) (first tap oldest : ℕ) → tap + 8 ≤ length cs → oldest ≡ first + (length cs - 8 - tap)
    → ((j : ℕ) → j < 8 → word_at taps j ≡ word_at cs (tap + j)) → HaveEvery cs line first tap halves → StayWithin cs line tap halves
    → AreWrapped r (λ k. word_at halves k +ℤ product_sum (word_at taps) (λ j. word_at line (oldest + 7 + 2 * k - j)) 8) → HaveEvery cs line first (tap + 8) r
group_together cs line halves r taps first tap oldest some from same have stay are = record {
  four = are.four;
  within = λ k. elim (cases_lt k 4) [
    | inl b ↦ let s = (exact k b).1 in subst (λ z. unsigned_abs z ≤ 2 ^ 30) (sym (exact k b).0) (omega arith)
    | inr b ↦ let four = are.four in rw (get_or_past r k (pos 0) (omega arith)) (omega arith)
  ];
  halves = λ k b. (exact k b).0 ∙ (exact k b).2;
} where
  x : ℕ → ℕ → ℤ
  x k j = word_at line (length cs - 1 + (first + 2 * k) - j)

  total : ℕ → ℤ
  total k = word_at halves k +ℤ product_sum (λ j. word_at cs (tap + j)) (λ j. x k (tap + j)) 8

  exact : (k : ℕ) → k < 4 → (word_at r k ≡ total k) × (unsigned_abs (total k) < 2 ^ 30) × (total k ≡ half_of (taps_sum cs line (tap + 8) (first + 2 * k)))
  exact k b =
      let l = stay.0 in
      let quiet : (j : ℕ) → j < 8 → unsigned_abs (x k (tap + j)) ≤ l = λ j h. stay.1 (length cs - 1 + (first + 2 * k) - (tap + j)) in
      let room = stay.2 k b in
      let less : unsigned_abs (total k) < 2 ^ 30 = small (word_at cs) (x k) l tap (word_at halves k) (have.halves k b) 8 quiet room in
      let fits : FitsSigned w32 (total k) = fits_signed_from_abs w32 (total k) (omega arith) in
      let products : product_sum (word_at taps) (λ j. word_at line (oldest + 7 + 2 * k - j)) 8 ≡ product_sum (λ j. word_at cs (tap + j)) (λ j. x k (tap + j)) 8 =
      product_sum-same _ _ _ _ 8 same (λ j h. let to : oldest + 7 + 2 * k - j ≡ length cs - 1 + (first + 2 * k) - (tap + j) = omega arith in ap (word_at line) to) in (
        are.wrapped k b ∙ ap (λ p. int_wrap w32 (word_at halves k +ℤ p)) products ∙ int_wrap_fits w32 (total k) fits,
        less,
        half_run (word_at cs) (x k) l tap (word_at halves k) (have.halves k b) 8 quiet room,
      )

-- the same, of the part of the coefficients that has the eight taps
pub added_together : (cs line halves r : List ℤ) (first tap oldest : ℕ) → tap + 8 ≤ length cs → oldest ≡ first + (length cs - 8 - tap)
    → HaveEvery cs line first tap halves → StayWithin cs line tap halves
    → ((s : ℕ → ℤ) → AreWrapped halves s
    → AreWrapped r (λ k. s k +ℤ product_sum (word_at (take (tap + 8 - tap) (drop tap cs))) (λ j. word_at line (oldest + 7 + 2 * k - j)) 8))
    → HaveEvery cs line first (tap + 8) (map (to_z w32) (map (of_z w32) r))
added_together cs line halves r first tap oldest some from have stay adds =
    halved_kept r _
    (group_together cs line halves r (take (tap + 8 - tap) (drop tap cs)) first tap oldest some from (λ j b. part_at cs tap (tap + 8) j (omega arith)) have stay
    (adds _ (halves_wrapped halves have.four have.within)))

pub stay_within : (cs line lanes : List ℤ) (tap room : ℕ) → IsRoom cs line tap room → AreBelow room lanes → StayWithin cs line tap lanes
stay_within cs line lanes tap room r below = (r.0, r.1, λ k b. r.2 (unsigned_abs (word_at lanes k)) (below k b))

-- the newest taps, one by one
pub newer_tap : (cs line r : List ℤ) (first tap at : ℕ) → tap + 2 ≤ length cs → at ≡ first + (length cs - 2 - tap)
    → IsHalved r (λ k. l_mac_of (taps_sum cs line tap (first + 2 * k)) (word_at cs tap) (word_at line (at + 1 + 2 * k)))
    → HaveEvery cs line first (tap + 1) (map (to_z w32) (map (of_z w32) r))
newer_tap cs line r first tap at some from is =
    halved_kept r _ (halved_as r _ _ (λ k b.
    let x : ℕ → ℤ = λ j. word_at line (length cs - 1 + (first + 2 * k) - j) in
    let to : at + 1 + 2 * k ≡ length cs - 1 + (first + 2 * k) - tap = omega arith in
    one_more (word_at cs) x tap (tap + 1) _ (omega arith) (ap (word_at line) to)) is)

-- ---- two taps in each lane

abbrev pub pair_of : List ℕ → ℕ → ℕ → List ℤ
pair_of w i j =
    to_z w16 (get_or w i 0) ∷ to_z w16 (get_or w j 0) ∷ to_z w16 (get_or w i 0) ∷ to_z w16 (get_or w j 0)
    ∷ to_z w16 (get_or w i 0) ∷ to_z w16 (get_or w j 0) ∷ to_z w16 (get_or w i 0) ∷ to_z w16 (get_or w j 0) ∷ []

abbrev pub twice_bits : List ℤ → List ℕ
twice_bits xs = map (of_z w16) xs ++ map (of_z w16) xs

bits_at : (xs : List ℤ) → length xs ≡ 8 → AllFit xs → (i : ℕ) → i < 8 → to_z w16 (get_or (twice_bits xs) i 0) ≡ word_at xs i
bits_at xs e = eight xs e (λ xs. AllFit xs → (i : ℕ) → i < 8 → to_z w16 (get_or (twice_bits xs) i 0) ≡ word_at xs i) (λ a b c d e f g h fits i b'. at a b c d e f g h fits i b')
  where
    at : (a b c d e f g h : ℤ) → AllFit (a ∷ b ∷ c ∷ d ∷ e ∷ f ∷ g ∷ h ∷ []) → (i : ℕ) → i < 8
        → to_z w16 (get_or (twice_bits (a ∷ b ∷ c ∷ d ∷ e ∷ f ∷ g ∷ h ∷ [])) i 0) ≡ word_at (a ∷ b ∷ c ∷ d ∷ e ∷ f ∷ g ∷ h ∷ []) i
    at a b c d e f g h fits zero m = to_z-of_z w16 a (fits 0)
    at a b c d e f g h fits (suc zero) m = to_z-of_z w16 b (fits 1)
    at a b c d e f g h fits (suc (suc zero)) m = to_z-of_z w16 c (fits 2)
    at a b c d e f g h fits (suc (suc (suc zero))) m = to_z-of_z w16 d (fits 3)
    at a b c d e f g h fits (suc (suc (suc (suc zero)))) m = to_z-of_z w16 e (fits 4)
    at a b c d e f g h fits (suc (suc (suc (suc (suc zero))))) m = to_z-of_z w16 f (fits 5)
    at a b c d e f g h fits (suc (suc (suc (suc (suc (suc zero)))))) m = to_z-of_z w16 g (fits 6)
    at a b c d e f g h fits (suc (suc (suc (suc (suc (suc (suc zero))))))) m = to_z-of_z w16 h (fits 7)
    at a b c d e f g h fits (suc (suc (suc (suc (suc (suc (suc (suc i)))))))) m = absurd (omega arith)

module _ (taps : List ℤ) (long : length taps ≡ 8) (fits : AllFit taps) (i j : ℕ) (small_i : i < 8) (small_j : j < 8) where
  even_word : (k : ℕ) → k < 4 → word_at (pair_of (twice_bits taps) i j) (2 * k) ≡ word_at taps i
  even_word zero b = bits_at taps long fits i small_i
  even_word (suc zero) b = bits_at taps long fits i small_i
  even_word (suc (suc zero)) b = bits_at taps long fits i small_i
  even_word (suc (suc (suc zero))) b = bits_at taps long fits i small_i
  even_word (suc (suc (suc (suc k)))) b = absurd (omega arith)

  odd_word : (k : ℕ) → k < 4 → word_at (pair_of (twice_bits taps) i j) (2 * k + 1) ≡ word_at taps j
  odd_word zero b = bits_at taps long fits j small_j
  odd_word (suc zero) b = bits_at taps long fits j small_j
  odd_word (suc (suc zero)) b = bits_at taps long fits j small_j
  odd_word (suc (suc (suc zero))) b = bits_at taps long fits j small_j
  odd_word (suc (suc (suc (suc k)))) b = absurd (omega arith)

  pub pair_fits : AllFit (pair_of (twice_bits taps) i j)
  pair_fits =
      let fi : FitsSigned w16 (to_z w16 (get_or (twice_bits taps) i 0)) = subst (FitsSigned w16) (sym (bits_at taps long fits i small_i)) (fits i) in
      let fj : FitsSigned w16 (to_z w16 (get_or (twice_bits taps) j 0)) = subst (FitsSigned w16) (sym (bits_at taps long fits j small_j)) (fits j) in
      all fi fj
    where
      all : FitsSigned w16 (to_z w16 (get_or (twice_bits taps) i 0)) → FitsSigned w16 (to_z w16 (get_or (twice_bits taps) j 0)) → AllFit (pair_of (twice_bits taps) i j)
      all fi fj zero = fi
      all fi fj (suc zero) = fj
      all fi fj (suc (suc zero)) = fi
      all fi fj (suc (suc (suc zero))) = fj
      all fi fj (suc (suc (suc (suc zero)))) = fi
      all fi fj (suc (suc (suc (suc (suc zero))))) = fj
      all fi fj (suc (suc (suc (suc (suc (suc zero)))))) = fi
      all fi fj (suc (suc (suc (suc (suc (suc (suc zero))))))) = fj
      all fi fj (suc (suc (suc (suc (suc (suc (suc (suc k)))))))) = record { sfits = omega arith }

-- the products of two taps with the words from m on
abbrev pub pair_products : List ℤ → List ℤ → ℕ → ℕ → ℤ
pair_products pair line m k = (word_at pair (2 * k) *ℤ word_at line (m + 2 * k)) +ℤ (word_at pair (2 * k + 1) *ℤ word_at line (m + 2 * k + 1))

regrouped : (t y : ℕ → ℤ) (s : ℤ)
    → (((s +ℤ ((t 1 *ℤ y 1) +ℤ (t 0 *ℤ y 0))) +ℤ ((t 3 *ℤ y 3) +ℤ (t 2 *ℤ y 2))) +ℤ ((t 5 *ℤ y 5) +ℤ (t 4 *ℤ y 4))) +ℤ ((t 7 *ℤ y 7) +ℤ (t 6 *ℤ y 6)) ≡ s +ℤ product_sum t y 8
regrouped t y s = omega (arith, ints)

pub four_pairs : (taps line : List ℤ) (oldest : ℕ) (s : ℕ → ℤ) → length taps ≡ 8 → AllFit taps → (k : ℕ) → k < 4
    → (((s k +ℤ pair_products (pair_of (twice_bits taps) 1 0) line (oldest + 6) k) +ℤ pair_products (pair_of (twice_bits taps) 3 2) line (oldest + 4) k)
    +ℤ pair_products (pair_of (twice_bits taps) 5 4) line (oldest + 2) k) +ℤ pair_products (pair_of (twice_bits taps) 7 6) line oldest k
    ≡ s k +ℤ product_sum (word_at taps) (λ j. word_at line (oldest + 7 + 2 * k - j)) 8
four_pairs taps line oldest s long fits k b =
    let y : ℕ → ℤ = λ j. word_at line (oldest + 7 + 2 * k - j) in
    let one = of_pair 1 0 (oldest + 6) (omega arith) (omega arith) (omega arith) (omega arith) in
    let two = of_pair 3 2 (oldest + 4) (omega arith) (omega arith) (omega arith) (omega arith) in
    let three = of_pair 5 4 (oldest + 2) (omega arith) (omega arith) (omega arith) (omega arith) in
    let last = of_pair 7 6 oldest (omega arith) (omega arith) (omega arith) (omega arith) in
    rw (one, two, three, last) (regrouped (word_at taps) y (s k))
  where
    of_pair : (i j m : ℕ) → i < 8 → j < 8 → m + 2 * k ≡ oldest + 7 + 2 * k - i → m + 2 * k + 1 ≡ oldest + 7 + 2 * k - j
        → pair_products (pair_of (twice_bits taps) i j) line m k
        ≡ (word_at taps i *ℤ word_at line (oldest + 7 + 2 * k - i)) +ℤ (word_at taps j *ℤ word_at line (oldest + 7 + 2 * k - j))
    of_pair i j m bi bj ei ej =
        let we = even_word taps long fits i j bi bj k b in
        let wo = odd_word taps long fits i j bi bj k b in
        ap (λ t. (t *ℤ word_at line (m + 2 * k)) +ℤ (word_at (pair_of (twice_bits taps) i j) (2 * k + 1) *ℤ word_at line (m + 2 * k + 1))) we
        ∙ ap (λ t. (word_at taps i *ℤ word_at line (m + 2 * k)) +ℤ (t *ℤ word_at line (m + 2 * k + 1))) wo
        ∙ ap (λ n. (word_at taps i *ℤ word_at line n) +ℤ (word_at taps j *ℤ word_at line (m + 2 * k + 1))) ei
        ∙ ap (λ n. (word_at taps i *ℤ word_at line (oldest + 7 + 2 * k - i)) +ℤ (word_at taps j *ℤ word_at line n)) ej

pub eight_taps : (taps : List ℤ) → length taps ≡ 8 → length (take 8 taps) ≡ 8
eight_taps taps e = simp length-take (omega arith)

-- ---- magnitudes below a room

abbrev negated : ℕ → ℕ
negated n = act2 wrap_sub (s_int w32) (s_int w32) (s_int w32) 0 n

abbrev greater : ℕ → ℕ → ℕ
greater m n = cond (top 31 (compared m n)) n m

abbrev loud : ℕ → ℕ
loud n = greater n (negated n)

abbrev max_of : ℕ → ℕ → ℕ
max_of m n = m + (n - m)

loud_value : (z : ℤ) → cond (lt_z z (pos 0 -ℤ z)) (pos 0 -ℤ z) z ≡ pos (unsigned_abs z)
loud_value (pos n) = grind (arith, ints)
loud_value (negsuc n) = grind (arith, ints)

loud_is : (z : ℤ) → unsigned_abs z ≤ 2 ^ 30 → to_z w32 (loud (of_z w32 z)) ≡ pos (unsigned_abs z)
loud_is z h =
    let fz : FitsSigned w32 z = fits_signed_from_abs w32 z (omega arith) in
    let fn : FitsSigned w32 (pos 0 -ℤ z) = fits_signed_from_abs w32 (pos 0 -ℤ z) (omega (arith, ints)) in
    let kept : to_z w32 (of_z w32 z) ≡ z = to_z-of_z w32 z fz in
    let minus : to_z w32 (negated (of_z w32 z)) ≡ pos 0 -ℤ z = wrapping_sub-bits w32 0 (of_z w32 z) (omega arith) (word_bits z fz) ∙ rw kept (int_wrap_fits w32 (pos 0 -ℤ z) fn) in
    chosen (top 31 (compared (of_z w32 z) (negated (of_z w32 z)))) (negated (of_z w32 z)) (of_z w32 z)
    ∙ ap (λ t. cond t (to_z w32 (negated (of_z w32 z))) (to_z w32 (of_z w32 z))) (compared_is (of_z w32 z) (negated (of_z w32 z)))
    ∙ rw (minus, kept) (loud_value z)

greater_value : (p q : ℕ) → cond (lt_z (pos p) (pos q)) (pos q) (pos p) ≡ pos (max_of p q)
greater_value p q = grind (arith, ints)

greater_is : (m n p q : ℕ) → to_z w32 m ≡ pos p → to_z w32 n ≡ pos q → to_z w32 (greater m n) ≡ pos (max_of p q)
greater_is m n p q e f =
    chosen (top 31 (compared m n)) n m ∙ ap (λ t. cond t (to_z w32 n) (to_z w32 m)) (compared_is m n) ∙ rw (e, f) (greater_value p q)

less_than : (p q : ℕ) → lt_z (pos p) (pos q) ≡ true → p < q
less_than p q e = grind (arith, ints, nat_tests, e)

all_true : (a b c d : Bool) → nat_eq (mask_l (a ∷ b ∷ c ∷ d ∷ []) % 18446744073709551616) 15 ≡ true → (a ≡ true) × (b ≡ true) × (c ≡ true) × (d ≡ true)
all_true true true true true e = (refl, refl, refl, refl)
all_true true true true false e = absurd (false≢true e)
all_true true true false true e = absurd (false≢true e)
all_true true true false false e = absurd (false≢true e)
all_true true false true true e = absurd (false≢true e)
all_true true false true false e = absurd (false≢true e)
all_true true false false true e = absurd (false≢true e)
all_true true false false false e = absurd (false≢true e)
all_true false true true true e = absurd (false≢true e)
all_true false true true false e = absurd (false≢true e)
all_true false true false true e = absurd (false≢true e)
all_true false true false false e = absurd (false≢true e)
all_true false false true true e = absurd (false≢true e)
all_true false false true false e = absurd (false≢true e)
all_true false false false true e = absurd (false≢true e)
all_true false false false false e = absurd (false≢true e)

abbrev loudest_of : ℤ → ℤ → ℤ → ℤ → ℕ
loudest_of a b c d = greater (greater (loud (of_z w32 a)) (loud (of_z w32 b))) (greater (loud (of_z w32 c)) (loud (of_z w32 d)))

-- one lane of each register
lane_below : (a b c d : ℤ) (room : ℕ) → room ≤ 2 ^ 30 → unsigned_abs a ≤ 2 ^ 30 → unsigned_abs b ≤ 2 ^ 30 → unsigned_abs c ≤ 2 ^ 30 → unsigned_abs d ≤ 2 ^ 30
    → top 31 (compared (loudest_of a b c d) room) ≡ true → (unsigned_abs a < room) × (unsigned_abs b < room) × (unsigned_abs c < room) × (unsigned_abs d < room)
lane_below a b c d room small ha hb hc hd t =
    let ab = greater_is (loud (of_z w32 a)) (loud (of_z w32 b)) _ _ (loud_is a ha) (loud_is b hb) in
    let cd = greater_is (loud (of_z w32 c)) (loud (of_z w32 d)) _ _ (loud_is c hc) (loud_is d hd) in
    let all = greater_is (greater (loud (of_z w32 a)) (loud (of_z w32 b))) (greater (loud (of_z w32 c)) (loud (of_z w32 d))) _ _ ab cd in
    let fr : FitsSigned w32 (pos room) = fits_signed_from_abs w32 (pos room) (omega arith) in
    let limit : to_z w32 room ≡ pos room = to_z-of_z w32 (pos room) fr in
    let less : lt_z (pos (max_of (max_of (unsigned_abs a) (unsigned_abs b)) (max_of (unsigned_abs c) (unsigned_abs d)))) (pos room) ≡ true =
    sym (ap (λ z. lt_z z (pos room)) all) ∙ sym (ap (λ z. lt_z (to_z w32 (loudest_of a b c d)) z) limit) ∙ sym (compared_is (loudest_of a b c d) room) ∙ t in
    let below = less_than _ room less in
    (omega arith, omega arith, omega arith, omega arith)

abbrev abs_bits : List ℤ → List ℕ
abs_bits xs =
    let n = zip2 (act2 wrap_sub (s_int w32) (s_int w32) (s_int w32)) (0 ∷ 0 ∷ 0 ∷ 0 ∷ []) (map (of_z w32) xs) in
    sel_l (masks (map (of_z w32) xs) n) n (map (of_z w32) xs)

abbrev max_bits : List ℕ → List ℕ → List ℕ
max_bits xs ys = sel_l (masks xs ys) ys xs

abbrev pub all_less : List ℤ → List ℤ → List ℤ → List ℤ → ℕ → Bool
all_less a b c d room =
    nat_eq (mask_l (masks (max_bits (max_bits (abs_bits a) (abs_bits b)) (max_bits (abs_bits c) (abs_bits d))) (room ∷ room ∷ room ∷ room ∷ [])) % 18446744073709551616) 15

four_below : (a b c d : ℤ) (room : ℕ) → unsigned_abs a < room → unsigned_abs b < room → unsigned_abs c < room → unsigned_abs d < room → AreBelow room (a ∷ b ∷ c ∷ d ∷ [])
four_below a b c d room e f g h zero l = e
four_below a b c d room e f g h (suc zero) l = f
four_below a b c d room e f g h (suc (suc zero)) l = g
four_below a b c d room e f g h (suc (suc (suc zero))) l = h
four_below a b c d room e f g h (suc (suc (suc (suc k)))) l = absurd (omega arith)

abbrev pub AllBelow : ℕ → List ℤ → List ℤ → List ℤ → List ℤ → Type 0
AllBelow room a b c d = AreBelow room a × AreBelow room b × AreBelow room c × AreBelow room d

pub all_below : (a b c d : List ℤ) (room : ℕ) → room ≤ 2 ^ 30 → length a ≡ 4 → length b ≡ 4 → length c ≡ 4 → length d ≡ 4
    → AreHalves a → AreHalves b → AreHalves c → AreHalves d → all_less a b c d room ≡ true → AllBelow room a b c d
all_below a b c d room small la lb lc ld =
    four a la (λ a. AreHalves a → AreHalves b → AreHalves c → AreHalves d → all_less a b c d room ≡ true → AllBelow room a b c d) (λ a0 a1 a2 a3.
    four b lb (λ b. AreHalves (a0 ∷ a1 ∷ a2 ∷ a3 ∷ []) → AreHalves b → AreHalves c → AreHalves d → all_less (a0 ∷ a1 ∷ a2 ∷ a3 ∷ []) b c d room ≡ true → AllBelow room (a0 ∷ a1 ∷ a2 ∷ a3 ∷ []) b c d) (λ b0 b1 b2 b3.
    four c lc (λ c. AreHalves (a0 ∷ a1 ∷ a2 ∷ a3 ∷ []) → AreHalves (b0 ∷ b1 ∷ b2 ∷ b3 ∷ []) → AreHalves c → AreHalves d
    → all_less (a0 ∷ a1 ∷ a2 ∷ a3 ∷ []) (b0 ∷ b1 ∷ b2 ∷ b3 ∷ []) c d room ≡ true → AllBelow room (a0 ∷ a1 ∷ a2 ∷ a3 ∷ []) (b0 ∷ b1 ∷ b2 ∷ b3 ∷ []) c d) (λ c0 c1 c2 c3.
    four d ld (λ d. AreHalves (a0 ∷ a1 ∷ a2 ∷ a3 ∷ []) → AreHalves (b0 ∷ b1 ∷ b2 ∷ b3 ∷ []) → AreHalves (c0 ∷ c1 ∷ c2 ∷ c3 ∷ []) → AreHalves d
    → all_less (a0 ∷ a1 ∷ a2 ∷ a3 ∷ []) (b0 ∷ b1 ∷ b2 ∷ b3 ∷ []) (c0 ∷ c1 ∷ c2 ∷ c3 ∷ []) d room ≡ true → AllBelow room (a0 ∷ a1 ∷ a2 ∷ a3 ∷ []) (b0 ∷ b1 ∷ b2 ∷ b3 ∷ []) (c0 ∷ c1 ∷ c2 ∷ c3 ∷ []) d) (λ d0 d1 d2 d3 ha hb hc hd e.
    let t = all_true (top 31 (compared (loudest_of a0 b0 c0 d0) room)) (top 31 (compared (loudest_of a1 b1 c1 d1) room)) (top 31 (compared (loudest_of a2 b2 c2 d2) room)) (top 31 (compared (loudest_of a3 b3 c3 d3) room)) e in
    let one = lane_below a0 b0 c0 d0 room small (ha 0) (hb 0) (hc 0) (hd 0) t.0 in
    let two = lane_below a1 b1 c1 d1 room small (ha 1) (hb 1) (hc 1) (hd 1) t.1 in
    let three = lane_below a2 b2 c2 d2 room small (ha 2) (hb 2) (hc 2) (hd 2) t.2 in
    let last = lane_below a3 b3 c3 d3 room small (ha 3) (hb 3) (hc 3) (hd 3) t.3 in (
      four_below a0 a1 a2 a3 room one.0 two.0 three.0 last.0,
      four_below b0 b1 b2 b3 room one.1 two.1 three.1 last.1,
      four_below c0 c1 c2 c3 room one.2 two.2 three.2 last.2,
      four_below d0 d1 d2 d3 room one.3 two.3 three.3 last.3,
    )))))

-- ---- rooms, and the blocks

pub room_small : (cs line : List ℤ) (tap room : ℕ) → IsRoom cs line tap room → room ≤ 2 ^ 30
room_small cs line tap room r = elim (cases_lt (2 ^ 30) room) [
  | inl b ↦ let over = r.2 (2 ^ 30) b in absurd (omega arith)
  | inr b ↦ b
]

pub group_room : (cs line : List ℤ) (tap room loudest : ℕ) → NoneLouder line loudest
    → ((n : ℕ) → n < room → n + magnitude_sum (word_at (take (tap + 8 - tap) (drop tap cs))) 8 * loudest < 2 ^ 30) → IsRoom cs line tap room
group_room cs line tap room loudest quiet f =
    let same : magnitude_sum (word_at (take (tap + 8 - tap) (drop tap cs))) 8 ≡ magnitude_sum (λ j. word_at cs (tap + j)) 8 =
    magnitude_sum-same _ _ 8 (λ j h. part_at cs tap (tap + 8) j (omega arith)) in
    (loudest, quiet, λ n h. subst (λ m. n + m * loudest < 2 ^ 30) same (f n h))

pub between : (cs line odd : List ℤ) (first other taps : ℕ) → other ≡ first + 1 → HaveEvery cs line other taps odd
    → IsHalved odd (λ k. taps_sum cs line taps (first + (2 * k + 1)))
between cs line odd first other taps e is =
    halved_as odd _ _ (λ k b. let to : other + 2 * k ≡ first + (2 * k + 1) = omega arith in ap (λ m. half_of (taps_sum cs line taps m)) to) is

pub ahead : (cs line r : List ℤ) (first other taps : ℕ) → other ≡ first + 4 → IsHalved r (λ k. taps_sum cs line taps (first + (4 + k))) → HaveTaps cs line other taps r
ahead cs line r first other taps e is =
    halved_as r _ _ (λ k b. let to : first + (4 + k) ≡ other + k = omega arith in ap (λ m. half_of (taps_sum cs line taps m)) to) is
