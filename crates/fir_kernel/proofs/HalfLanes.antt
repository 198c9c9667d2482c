-- Half sums in lanes.
use Rattle.std.proofs.Common.{◌≡◌, ℕ, zero, suc, ◌+◌, ◌-◌, ◌*◌, ◌%◌, ◌^◌, ◌<◌, ◌≤◌, cond, Bool, true, false, inl, inr, take, drop, ℤ, pos, negsuc, ◌+ℤ◌, ◌*ℤ◌, List, [], ◌∷◌, length, map, to_z, of_z, FitsSigned, unsigned_abs, w16, w32, refl, sym, ap, subst, ◌∙◌, arith, get_or-take, length-take, length-drop}
use Rattle.std.specs.Int.{saturate_to_bits}
use Rattle.std.specs.Int.Signed.{lt_z}
use Rattle.std.proofs.lemmas.Int.{ints, to_z-of_z}
use Rattle.ialg.specs.History.{word_at}
use lib.Lanes.{zip2, top, sel_l}
use borrow.Rule.Simd.Lanes.{act1, act2}
use borrow.Table.Row.{s_int}
use mir.Syntax.{cast, signed, wrap_add, wrap_mul, mask, lt}
use Rattle.std.proofs.Common.{◌⊎◌}
use Rattle.std.proofs.lemmas.Int.{fits_signed_from_abs, int_wrap_fits}
use Rattle.std.proofs.lemmas.Bool.{cases_lt}
use Rattle.std.proofs.lemmas.Simd.{length-put_chunk, get_or-put_chunk_below, get_or-put_chunk_at, get_or-put_chunk_above}
use Rattle.std.specs.Int.Signed.{nat_abs-le}
use lib.Lanes.{put_chunk}
use Rattle.basic_op.specs.Halves.{half_of}
use Rattle.basic_op.specs.Operators.{l_mac_of}
use Rattle.basic_op.proofs.HalfLemmas.{product_small, half_add}
use Rattle.fir_kernel.specs.Halves.{AreHalfSums, AreHalves, HasHalves}
use Rattle.fir_kernel.specs.HalfLanes.{taps_sum, AreWritten, BeginWithSums, HasHalfSums, HaveTaps, IsHalved}
use Rattle.std.proofs.lemmas.List.{get_or_past}
use Rattle.fir_kernel.proofs.Parts.{part_at}
use Rattle.fir_kernel.proofs.Lanes.{take_fits, drop_fits, four, widened, product, added_bits, bits_below, word_bits, four_fit, kept_lanes}

abbrev pub compared : ℕ → ℕ → ℕ
compared a b = act2 (mask (lt signed)) (s_int w32) (s_int w32) (s_int w32) a b

test_is : (t : Bool) → top 31 (cond t 4294967295 0) ≡ t
test_is true = refl
test_is false = refl

pub compared_is : (a b : ℕ) → top 31 (compared a b) ≡ lt_z (to_z w32 a) (to_z w32 b)
compared_is a b = test_is (lt_z (to_z w32 a) (to_z w32 b))

pub chosen : (t : Bool) (m n : ℕ) → to_z w32 (cond t m n) ≡ cond t (to_z w32 m) (to_z w32 n)
chosen true m n = refl
chosen false m n = refl

abbrev least : ℤ
least = negsuc 1073741823

abbrev most : ℤ
most = pos 1073741823

-- the greater of the two, and then the lesser
above : (n : ℕ) (z : ℤ) → to_z w32 n ≡ z → to_z w32 (cond (top 31 (compared n 3221225472)) 3221225472 n) ≡ cond (lt_z z least) least z
above n z e =
    chosen (top 31 (compared n 3221225472)) 3221225472 n ∙ ap (λ t. cond t least (to_z w32 n)) (compared_is n 3221225472)
    ∙ ap (λ z. cond (lt_z z least) least z) e

below : (n : ℕ) (z : ℤ) → to_z w32 n ≡ z → to_z w32 (cond (top 31 (compared n 1073741823)) n 1073741823) ≡ cond (lt_z z most) z most
below n z e =
    chosen (top 31 (compared n 1073741823)) n 1073741823 ∙ ap (λ t. cond t (to_z w32 n) most) (compared_is n 1073741823)
    ∙ ap (λ z. cond (lt_z z most) z most) e

abbrev between : ℤ → ℤ
between z = let low = cond (lt_z z least) least z in cond (lt_z low most) low most

between_is : (z : ℤ) → between z ≡ saturate_to_bits 30 z
between_is (pos n) = grind (arith, ints)
between_is (negsuc n) = grind (arith, ints)

abbrev pub limit : ℕ → ℕ
limit n =
    let low = cond (top 31 (compared n 3221225472)) 3221225472 n in
    cond (top 31 (compared low 1073741823)) low 1073741823

pub limit_is : (z : ℤ) → FitsSigned w32 z → to_z w32 (limit (of_z w32 z)) ≡ saturate_to_bits 30 z
limit_is z f = below _ _ (above (of_z w32 z) z (to_z-of_z w32 z f)) ∙ between_is z

-- four lanes, limited
abbrev least_lanes : List ℕ
least_lanes = 3221225472 ∷ 3221225472 ∷ 3221225472 ∷ 3221225472 ∷ []

abbrev most_lanes : List ℕ
most_lanes = 1073741823 ∷ 1073741823 ∷ 1073741823 ∷ 1073741823 ∷ []

abbrev pub masks : List ℕ → List ℕ → List Bool
masks a b = map (top 31) (zip2 (act2 (mask (lt signed)) (s_int w32) (s_int w32) (s_int w32)) a b)

abbrev raised : List ℕ → List ℕ
raised xs = sel_l (masks xs least_lanes) least_lanes xs

abbrev limits : List ℤ → List ℤ
limits xs = map (to_z w32) (sel_l (masks (raised (map (of_z w32) xs)) most_lanes) (raised (map (of_z w32) xs)) most_lanes)

pub limits_four : (xs : List ℤ) → length xs ≡ 4 → length (limits xs) ≡ 4
limits_four xs e = four xs e (λ l. length (limits l) ≡ 4) (λ a b c d. refl)

pub limits_are : (xs : List ℤ) → length xs ≡ 4 → ((k : ℕ) → FitsSigned w32 (word_at xs k)) → (k : ℕ) → word_at (limits xs) k ≡ saturate_to_bits 30 (word_at xs k)
limits_are xs e =
    four xs e (λ l. ((k : ℕ) → FitsSigned w32 (word_at l k)) → (k : ℕ) → word_at (limits l) k ≡ saturate_to_bits 30 (word_at l k))
    (λ a b c d f k. lanes_are a b c d f k)
  where
    lanes_are : (a b c d : ℤ) → ((k : ℕ) → FitsSigned w32 (word_at (a ∷ b ∷ c ∷ d ∷ []) k)) → (k : ℕ) → word_at (limits (a ∷ b ∷ c ∷ d ∷ [])) k ≡ saturate_to_bits 30 (word_at (a ∷ b ∷ c ∷ d ∷ []) k)
    lanes_are a b c d f zero = limit_is a (f 0)
    lanes_are a b c d f (suc zero) = limit_is b (f 1)
    lanes_are a b c d f (suc (suc zero)) = limit_is c (f 2)
    lanes_are a b c d f (suc (suc (suc zero))) = limit_is d (f 3)
    lanes_are a b c d f (suc (suc (suc (suc k)))) = refl

-- ---- a product goes onto each lane

abbrev pub onto : ℤ → ℤ → ℤ → ℤ
onto h c x = to_z w32 ((of_z w32 h + of_z w32 c * of_z w32 (to_z w16 (of_z w16 x)) % 4294967296) % 4294967296)

module _ (h c x : ℤ) (fc : FitsSigned w16 c) (fx : FitsSigned w16 x) (factors : (unsigned_abs c ≤ 32767) ⊎ (unsigned_abs x ≤ 32767)) (small : unsigned_abs h ≤ 2 ^ 30) where
  within : unsigned_abs (c *ℤ x) < 2 ^ 30
  within = product_small c x (nat_abs-le c fc.sfits) (nat_abs-le x fx.sfits) factors

  fits : FitsSigned w32 (h +ℤ (c *ℤ x))
  fits = fits_signed_from_abs w32 (h +ℤ (c *ℤ x)) (omega (arith, ints, within))

  pub onto_is : onto h c x ≡ h +ℤ (c *ℤ x)
  onto_is =
      let fh : FitsSigned w32 h = fits_signed_from_abs w32 h (omega arith) in
      let fp : FitsSigned w32 (c *ℤ x) = fits_signed_from_abs w32 (c *ℤ x) (omega (arith, within)) in
      let p : to_z w32 (of_z w32 c * of_z w32 x % 4294967296) ≡ c *ℤ x =
      product c x (widened c fc) (widened x fx) ∙ int_wrap_fits w32 (c *ℤ x) fp in
      rw (to_z-of_z w16 x fx)
      (added_bits (of_z w32 h) (of_z w32 c * of_z w32 x % 4294967296) (word_bits h fh) (bits_below _)
      ∙ rw (to_z-of_z w32 h fh, p) (int_wrap_fits w32 (h +ℤ (c *ℤ x)) fits))

  pub onto_fits : FitsSigned w32 (onto h c x)
  onto_fits = subst (FitsSigned w32) (sym onto_is) fits

-- four lanes
abbrev pub ontos : List ℤ → ℤ → List ℤ → List ℤ
ontos hs c xs =
    map (to_z w32) (zip2 (act2 wrap_add (s_int w32) (s_int w32) (s_int w32)) (map (of_z w32) hs)
    (zip2 (act2 wrap_mul (s_int w32) (s_int w32) (s_int w32)) (of_z w32 c ∷ of_z w32 c ∷ of_z w32 c ∷ of_z w32 c ∷ [])
    (map (act1 (cast signed signed w32) (s_int w16) (s_int w32)) (map (of_z w16) xs))))

pub record AreOnto (hs : List ℤ) (c : ℤ) (xs lanes : List ℤ) : Type 0 where
  pub size : length lanes ≡ 4
  pub fit : (k : ℕ) → FitsSigned w32 (word_at lanes k)
  pub values : (k : ℕ) → k < 4 → word_at lanes k ≡ word_at hs k +ℤ (c *ℤ word_at xs k)

pub ontos_are : (hs : List ℤ) (c : ℤ) (xs : List ℤ) → length hs ≡ 4 → length xs ≡ 4 → FitsSigned w16 c → ((k : ℕ) → FitsSigned w16 (word_at xs k))
    → HasHalves c xs → AreHalves hs → AreOnto hs c xs (ontos hs c xs)
ontos_are hs c xs lh lx fc fx factors small =
    four hs lh (λ hs. AreHalves hs → AreOnto hs c xs (ontos hs c xs))
    (λ h0 h1 h2 h3. four xs lx (λ xs. ((k : ℕ) → FitsSigned w16 (word_at xs k)) → HasHalves c xs → AreHalves (h0 ∷ h1 ∷ h2 ∷ h3 ∷ []) → AreOnto (h0 ∷ h1 ∷ h2 ∷ h3 ∷ []) c xs (ontos (h0 ∷ h1 ∷ h2 ∷ h3 ∷ []) c xs))
    (λ x0 x1 x2 x3 f p s. record {
      size = refl;
      fit = four_fit _ _ _ _ (onto_fits h0 c x0 fc (f 0) (p 0) (s 0)) (onto_fits h1 c x1 fc (f 1) (p 1) (s 1)) (onto_fits h2 c x2 fc (f 2) (p 2) (s 2)) (onto_fits h3 c x3 fc (f 3) (p 3) (s 3));
      values = four_are (h0 ∷ h1 ∷ h2 ∷ h3 ∷ []) c (x0 ∷ x1 ∷ x2 ∷ x3 ∷ []) _ _ _ _
          (onto_is h0 c x0 fc (f 0) (p 0) (s 0)) (onto_is h1 c x1 fc (f 1) (p 1) (s 1)) (onto_is h2 c x2 fc (f 2) (p 2) (s 2)) (onto_is h3 c x3 fc (f 3) (p 3) (s 3));
    }) fx factors) small
  where
    four_are : (hs : List ℤ) (c : ℤ) (xs : List ℤ) (r s t u : ℤ) → r ≡ word_at hs 0 +ℤ (c *ℤ word_at xs 0) → s ≡ word_at hs 1 +ℤ (c *ℤ word_at xs 1)
        → t ≡ word_at hs 2 +ℤ (c *ℤ word_at xs 2) → u ≡ word_at hs 3 +ℤ (c *ℤ word_at xs 3)
        → (k : ℕ) → k < 4 → word_at (r ∷ s ∷ t ∷ u ∷ []) k ≡ word_at hs k +ℤ (c *ℤ word_at xs k)
    four_are hs c xs r s t u one two three last zero b = one
    four_are hs c xs r s t u one two three last (suc zero) b = two
    four_are hs c xs r s t u one two three last (suc (suc zero)) b = three
    four_are hs c xs r s t u one two three last (suc (suc (suc zero))) b = last
    four_are hs c xs r s t u one two three last (suc (suc (suc (suc k)))) b = absurd (omega arith)

pub limit_small : (z : ℤ) → unsigned_abs (saturate_to_bits 30 z) ≤ 2 ^ 30
limit_small (pos n) = grind (arith, ints)
limit_small (negsuc n) = grind (arith, ints)

pub halves_fit : (xs : List ℤ) → AreHalves xs → (k : ℕ) → FitsSigned w32 (word_at xs k)
halves_fit xs s k = let few = s k in fits_signed_from_abs w32 (word_at xs k) (omega (arith, few))

-- one product more
pub one_more_each : (hs xs wide r : List ℤ) (c : ℤ) (sums : ℕ → ℤ) → AreOnto hs c xs wide → length r ≡ 4 → ((k : ℕ) → word_at r k ≡ saturate_to_bits 30 (word_at wide k))
    → FitsSigned w16 c → ((k : ℕ) → FitsSigned w16 (word_at xs k)) → HasHalves c xs
    → IsHalved hs sums → IsHalved r (λ k. l_mac_of (sums k) c (word_at xs k))
one_more_each hs xs wide r c sums are lr limited fc fx factors is = record {
  four = lr;
  within = λ k. subst (λ z. unsigned_abs z ≤ 2 ^ 30) (sym (limited k)) (limit_small (word_at wide k));
  halves = λ k b.
      let x = word_at xs k in
      let p = product_small c x (nat_abs-le c fc.sfits) (nat_abs-le x ((fx k).sfits)) (factors k) in
      limited k ∙ ap (saturate_to_bits 30) (are.values k b ∙ ap (λ h. h +ℤ (c *ℤ x)) (is.halves k b)) ∙ half_add (sums k) (c *ℤ x) p;
}

pub halved_as : (lanes : List ℤ) (sums sums' : ℕ → ℤ) → ((k : ℕ) → k < 4 → half_of (sums k) ≡ half_of (sums' k)) → IsHalved lanes sums → IsHalved lanes sums'
halved_as lanes sums sums' e is = record { four = is.four; within = is.within; halves = λ k b. is.halves k b ∙ e k b }

pub halved_kept : (lanes : List ℤ) (sums : ℕ → ℤ) → IsHalved lanes sums → IsHalved (map (to_z w32) (map (of_z w32) lanes)) sums
halved_kept lanes sums is = rw (kept_lanes lanes (halves_fit lanes is.within)) is

pub no_sums : (sums : ℕ → ℤ) → ((k : ℕ) → k < 4 → half_of (sums k) ≡ pos 0) → IsHalved (pos 0 ∷ pos 0 ∷ pos 0 ∷ pos 0 ∷ []) sums
no_sums sums e = record {
  four = refl;
  within = zero_small;
  halves = λ k b. is_zero k ∙ sym (e k b);
} where
  is_zero : (k : ℕ) → word_at (pos 0 ∷ pos 0 ∷ pos 0 ∷ pos 0 ∷ []) k ≡ pos 0
  is_zero zero = refl
  is_zero (suc zero) = refl
  is_zero (suc (suc zero)) = refl
  is_zero (suc (suc (suc zero))) = refl
  is_zero (suc (suc (suc (suc k)))) = refl

  zero_small : (k : ℕ) → unsigned_abs (word_at (pos 0 ∷ pos 0 ∷ pos 0 ∷ pos 0 ∷ []) k) ≤ 2 ^ 30
  zero_small k = subst (λ z. unsigned_abs z ≤ 2 ^ 30) (sym (is_zero k)) (omega arith)

-- ---- lanes are written

pub put_lanes : (lanes words : List ℤ) (at : ℕ) → length lanes ≡ 4 → at + 4 ≤ length words → AreWritten lanes at words (put_chunk at words lanes)
put_lanes lanes words at e room = record {
  size = length-put_chunk at words lanes;
  before = λ k b. get_or-put_chunk_below at words lanes k (pos 0) b;
  written = λ k b. get_or-put_chunk_at at words lanes k (pos 0) (omega arith) (omega arith);
  halves = λ small old k. elim (cases_lt k at) [
    | inl b ↦ subst (λ z. unsigned_abs z ≤ 2 ^ 30) (sym (get_or-put_chunk_below at words lanes k (pos 0) b)) (old k)
    | inr b ↦ elim (cases_lt k (at + 4)) [
      | inl in_lanes ↦
          let j = k - at in
          let to : at + j ≡ k = omega arith in
          subst (λ m. unsigned_abs (word_at (put_chunk at words lanes) m) ≤ 2 ^ 30) to
          (subst (λ z. unsigned_abs z ≤ 2 ^ 30) (sym (get_or-put_chunk_at at words lanes j (pos 0) (omega arith) (omega arith))) (small j))
      | inr after ↦ subst (λ z. unsigned_abs z ≤ 2 ^ 30) (sym (get_or-put_chunk_above at words lanes k (pos 0) (omega arith))) (old k)
    ]
  ];
}

pub none_written : (cs line words : List ℤ) (first at : ℕ) → AreHalves words → HasHalfSums cs line first at 0 words words
none_written cs line words first at small = record { size = refl; before = λ k b. refl; halves = small; sums = λ q b. absurd (omega arith) }

pub four_written : (cs line old words new lanes : List ℤ) (first at n taps p f : ℕ) → taps ≡ length cs → p ≡ at + n → f ≡ first + n
    → HasHalfSums cs line first at n old words → AreWritten lanes p words new → HaveTaps cs line f taps lanes → HasHalfSums cs line first at (n + 4) old new
four_written cs line old words new lanes first at n taps p f all place sample so_far w have = record {
  size = w.size ∙ so_far.size;
  before = λ k b. w.before k (omega arith) ∙ so_far.before k b;
  halves = w.halves have.within so_far.halves;
  sums = λ q b. elim (cases_lt q n) [
    | inl less ↦ w.before (at + q) (omega arith) ∙ so_far.sums q less
    | inr more ↦
        let r = q - n in
        let to : at + q ≡ p + r = omega arith in
        let from : f + r ≡ first + q = omega arith in
        ap (word_at new) to ∙ w.written r (omega arith) ∙ have.halves r (omega arith)
        ∙ ap (λ m. half_of (taps_sum cs line m (f + r))) all ∙ ap (λ m. half_of (taps_sum cs line (length cs) m)) from
  ];
}

-- ---- the samples of a line

-- four of them
abbrev pub samples_of : List ℤ → ℕ → List ℤ
samples_of line at = take 4 (take (at + 4 - at) (drop at line))

pub sample_at : (line : List ℤ) (at k : ℕ) → k < 4 → word_at (samples_of line at) k ≡ word_at line (at + k)
sample_at line at k b = get_or-take 4 (take (at + 4 - at) (drop at line)) k (pos 0) b ∙ part_at line at (at + 4) k (omega arith)

samples_fit : (line : List ℤ) (at : ℕ) → ((k : ℕ) → FitsSigned w16 (word_at line k)) → (k : ℕ) → FitsSigned w16 (word_at (samples_of line at) k)
samples_fit line at f = take_fits 4 _ (take_fits (at + 4 - at) (drop at line) (drop_fits at line f))

samples_halves : (c : ℤ) (line : List ℤ) (at : ℕ) → HasHalves c line → at + 4 ≤ length line → HasHalves c (samples_of line at)
samples_halves c line at factors reach k = elim (cases_lt k 4) [
  | inl b ↦ rw (sample_at line at k b) (factors (at + k))
  | inr b ↦
      let short : length (samples_of line at) ≤ k = simp (length-take, length-drop) (omega arith) in
      rw (get_or_past (samples_of line at) k (pos 0) short) (inr (omega arith))
]

pub onto_line : (hs : List ℤ) (c f : ℤ) (line : List ℤ) (at : ℕ) → f ≡ c → length hs ≡ 4 → FitsSigned w16 c → ((k : ℕ) → FitsSigned w16 (word_at line k))
    → HasHalves c line → AreHalves hs → at + 4 ≤ length line → AreOnto hs c (samples_of line at) (ontos hs f (samples_of line at))
onto_line hs c f line at same lh fc fl factors small reach =
    let lx : length (samples_of line at) ≡ 4 = simp (length-take, length-drop) (omega arith) in
    subst (λ f. AreOnto hs c (samples_of line at) (ontos hs f (samples_of line at))) (sym same)
    (ontos_are hs c (samples_of line at) lh lx fc (samples_fit line at fl) (samples_halves c line at factors reach) small)

pub one_tap_each : (hs wide r : List ℤ) (c : ℤ) (line : List ℤ) (at : ℕ) (sums : ℕ → ℤ) → AreOnto hs c (samples_of line at) wide → length r ≡ 4
    → ((k : ℕ) → word_at r k ≡ saturate_to_bits 30 (word_at wide k)) → FitsSigned w16 c → ((k : ℕ) → FitsSigned w16 (word_at line k)) → HasHalves c line → at + 4 ≤ length line
    → IsHalved hs sums → IsHalved (map (to_z w32) (map (of_z w32) r)) (λ k. l_mac_of (sums k) c (word_at line (at + k)))
one_tap_each hs wide r c line at sums are lr limited fc fl factors reach is =
    halved_kept r _
    (halved_as r _ _ (λ k b. ap (λ x. half_of (l_mac_of (sums k) c x)) (sample_at line at k b))
    (one_more_each hs (samples_of line at) wide r c sums are lr limited fc (samples_fit line at fl) (samples_halves c line at factors reach) is))

-- ---- the sums of a row

-- m sums more, from place `at` on, behind those before or over the last of them
pub more_sums : (cs line sums new : List ℤ) (first n m at e f : ℕ) → at ≤ n → f ≡ first + at → e ≡ at + m → BeginWithSums cs line first n sums
    → HasHalfSums cs line f at m sums new → BeginWithSums cs line first e new
more_sums cs line sums new first n m at e f behind sample size before here i b = elim (cases_lt i at) [
  | inl less ↦ here.before i less ∙ before i (omega arith)
  | inr more ↦
      let q = i - at in
      let to : at + q ≡ i = omega arith in
      let from : f + q ≡ first + (at + q) = omega arith in
      subst (λ m. word_at new m ≡ half_of (taps_sum cs line (length cs) (first + m))) to
      (here.sums q (omega arith) ∙ ap (λ m. half_of (taps_sum cs line (length cs) m)) from)
]

pub as_row : (cs line sums : List ℤ) (first n : ℕ) → BeginWithSums cs line first n sums → AreHalfSums cs line first 1 (length cs) n sums
as_row cs line sums first n all i b =
    let one : first + i ≡ first + 1 * i = omega arith in
    all i b ∙ ap (λ m. half_of (taps_sum cs line (length cs) m)) one
