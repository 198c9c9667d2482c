-- Half sums in eight lanes.
use Rattle.std.proofs.Common.{◌≡◌, ℕ, zero, suc, ◌+◌, ◌-◌, ◌*◌, ◌%◌, ◌^◌, ◌<◌, ◌≤◌, cond, Bool, true, false, inl, inr, take, drop, ℤ, pos, negsuc, ◌+ℤ◌, ◌*ℤ◌, List, [], ◌∷◌, length, map, to_z, of_z, FitsSigned, unsigned_abs, w16, w32, refl, sym, ap, subst, ◌∙◌, arith, get_or-take, length-take, length-drop}
use Rattle.std.specs.Int.{saturate_to_bits}
use Rattle.std.specs.Int.Signed.{lt_z}
use Rattle.std.proofs.lemmas.Int.{ints, to_z-of_z}
use Rattle.ialg.specs.History.{word_at}
use lib.Lanes.{zip2, top, sel_l}
use borrow.Rule.Simd.Lanes.{act1, act2}
use borrow.Table.Row.{s_int}
use mir.Syntax.{cast, signed, wrap_add, wrap_mul, mask, lt}
use Rattle.std.proofs.Common.{◌⊎◌}
use Rattle.std.proofs.lemmas.Int.{fits_signed_from_abs, int_wrap_fits}
use Rattle.std.proofs.lemmas.Bool.{cases_lt}
use Rattle.std.proofs.lemmas.Simd.{length-put_chunk, get_or-put_chunk_below, get_or-put_chunk_at, get_or-put_chunk_above}
use Rattle.std.specs.Int.Signed.{nat_abs-le}
use lib.Lanes.{put_chunk}
use Rattle.basic_op.specs.Halves.{half_of}
use Rattle.basic_op.specs.Operators.{l_mac_of}
use Rattle.basic_op.proofs.HalfLemmas.{product_small, half_add}
use Rattle.fir_kernel.specs.Halves.{AreHalfSums, AreHalves, HasHalves}
use Rattle.fir_kernel.specs.HalfLanes.{taps_sum, HasHalfSums}
use Rattle.fir_kernel.specs.HalfEights.{AreWritten, HaveTaps, IsHalved}
use Rattle.std.proofs.lemmas.List.{get_or_past}
use Rattle.fir_kernel.proofs.Parts.{part_at}
use Rattle.fir_kernel.proofs.Lanes.{take_fits, drop_fits, eight, eight_fit, kept_lanes}
use Rattle.fir_kernel.proofs.HalfLanes.{masks, limit, limit_is, limit_small, onto, onto_is, onto_fits, halves_fit}

-- eight lanes, limited
abbrev least_lanes : List ℕ
least_lanes = 3221225472 ∷ 3221225472 ∷ 3221225472 ∷ 3221225472 ∷ 3221225472 ∷ 3221225472 ∷ 3221225472 ∷ 3221225472 ∷ []

abbrev most_lanes : List ℕ
most_lanes = 1073741823 ∷ 1073741823 ∷ 1073741823 ∷ 1073741823 ∷ 1073741823 ∷ 1073741823 ∷ 1073741823 ∷ 1073741823 ∷ []

abbrev raised : List ℕ → List ℕ
raised xs = sel_l (masks xs least_lanes) least_lanes xs

abbrev limits : List ℤ → List ℤ
limits xs = map (to_z w32) (sel_l (masks (raised (map (of_z w32) xs)) most_lanes) (raised (map (of_z w32) xs)) most_lanes)

pub limits_eight : (xs : List ℤ) → length xs ≡ 8 → length (limits xs) ≡ 8
limits_eight xs e = eight xs e (λ l. length (limits l) ≡ 8) (λ a b c d e f g h. refl)

pub limits_are : (xs : List ℤ) → length xs ≡ 8 → ((k : ℕ) → FitsSigned w32 (word_at xs k)) → (k : ℕ) → word_at (limits xs) k ≡ saturate_to_bits 30 (word_at xs k)
limits_are xs e =
    eight xs e (λ l. ((k : ℕ) → FitsSigned w32 (word_at l k)) → (k : ℕ) → word_at (limits l) k ≡ saturate_to_bits 30 (word_at l k))
    (λ a b c d e f g h fit k. lanes_are a b c d e f g h fit k)
  where
    lanes_are : (a b c d e f g h : ℤ) → ((k : ℕ) → FitsSigned w32 (word_at (a ∷ b ∷ c ∷ d ∷ e ∷ f ∷ g ∷ h ∷ []) k)) → (k : ℕ) → word_at (limits (a ∷ b ∷ c ∷ d ∷ e ∷ f ∷ g ∷ h ∷ [])) k ≡ saturate_to_bits 30 (word_at (a ∷ b ∷ c ∷ d ∷ e ∷ f ∷ g ∷ h ∷ []) k)
    lanes_are a b c d e f g h fit zero = limit_is a (fit 0)
    lanes_are a b c d e f g h fit (suc zero) = limit_is b (fit 1)
    lanes_are a b c d e f g h fit (suc (suc zero)) = limit_is c (fit 2)
    lanes_are a b c d e f g h fit (suc (suc (suc zero))) = limit_is d (fit 3)
    lanes_are a b c d e f g h fit (suc (suc (suc (suc zero)))) = limit_is e (fit 4)
    lanes_are a b c d e f g h fit (suc (suc (suc (suc (suc zero))))) = limit_is f (fit 5)
    lanes_are a b c d e f g h fit (suc (suc (suc (suc (suc (suc zero)))))) = limit_is g (fit 6)
    lanes_are a b c d e f g h fit (suc (suc (suc (suc (suc (suc (suc zero))))))) = limit_is h (fit 7)
    lanes_are a b c d e f g h fit (suc (suc (suc (suc (suc (suc (suc (suc k)))))))) = refl

-- eight lanes
abbrev pub ontos : List ℤ → ℤ → List ℤ → List ℤ
ontos hs c xs =
    map (to_z w32) (zip2 (act2 wrap_add (s_int w32) (s_int w32) (s_int w32)) (map (of_z w32) hs)
    (zip2 (act2 wrap_mul (s_int w32) (s_int w32) (s_int w32)) (of_z w32 c ∷ of_z w32 c ∷ of_z w32 c ∷ of_z w32 c ∷ of_z w32 c ∷ of_z w32 c ∷ of_z w32 c ∷ of_z w32 c ∷ [])
    (map (act1 (cast signed signed w32) (s_int w16) (s_int w32)) (map (of_z w16) xs))))

pub record AreOnto (hs : List ℤ) (c : ℤ) (xs lanes : List ℤ) : Type 0 where
  pub size : length lanes ≡ 8
  pub fit : (k : ℕ) → FitsSigned w32 (word_at lanes k)
  pub values : (k : ℕ) → k < 8 → word_at lanes k ≡ word_at hs k +ℤ (c *ℤ word_at xs k)

eight_are : (hs : List ℤ) (c : ℤ) (xs : List ℤ) (r0 r1 r2 r3 r4 r5 r6 r7 : ℤ)
    → r0 ≡ word_at hs 0 +ℤ (c *ℤ word_at xs 0)
    → r1 ≡ word_at hs 1 +ℤ (c *ℤ word_at xs 1)
    → r2 ≡ word_at hs 2 +ℤ (c *ℤ word_at xs 2)
    → r3 ≡ word_at hs 3 +ℤ (c *ℤ word_at xs 3)
    → r4 ≡ word_at hs 4 +ℤ (c *ℤ word_at xs 4)
    → r5 ≡ word_at hs 5 +ℤ (c *ℤ word_at xs 5)
    → r6 ≡ word_at hs 6 +ℤ (c *ℤ word_at xs 6)
    → r7 ≡ word_at hs 7 +ℤ (c *ℤ word_at xs 7)
    → (k : ℕ) → k < 8 → word_at (r0 ∷ r1 ∷ r2 ∷ r3 ∷ r4 ∷ r5 ∷ r6 ∷ r7 ∷ []) k ≡ word_at hs k +ℤ (c *ℤ word_at xs k)
eight_are hs c xs r0 r1 r2 r3 r4 r5 r6 r7 e0 e1 e2 e3 e4 e5 e6 e7 zero b = e0
eight_are hs c xs r0 r1 r2 r3 r4 r5 r6 r7 e0 e1 e2 e3 e4 e5 e6 e7 (suc zero) b = e1
eight_are hs c xs r0 r1 r2 r3 r4 r5 r6 r7 e0 e1 e2 e3 e4 e5 e6 e7 (suc (suc zero)) b = e2
eight_are hs c xs r0 r1 r2 r3 r4 r5 r6 r7 e0 e1 e2 e3 e4 e5 e6 e7 (suc (suc (suc zero))) b = e3
eight_are hs c xs r0 r1 r2 r3 r4 r5 r6 r7 e0 e1 e2 e3 e4 e5 e6 e7 (suc (suc (suc (suc zero)))) b = e4
eight_are hs c xs r0 r1 r2 r3 r4 r5 r6 r7 e0 e1 e2 e3 e4 e5 e6 e7 (suc (suc (suc (suc (suc zero))))) b = e5
eight_are hs c xs r0 r1 r2 r3 r4 r5 r6 r7 e0 e1 e2 e3 e4 e5 e6 e7 (suc (suc (suc (suc (suc (suc zero)))))) b = e6
eight_are hs c xs r0 r1 r2 r3 r4 r5 r6 r7 e0 e1 e2 e3 e4 e5 e6 e7 (suc (suc (suc (suc (suc (suc (suc zero))))))) b = e7
eight_are hs c xs r0 r1 r2 r3 r4 r5 r6 r7 e0 e1 e2 e3 e4 e5 e6 e7 (suc (suc (suc (suc (suc (suc (suc (suc k)))))))) b = absurd (omega arith)

pub ontos_are : (hs : List ℤ) (c : ℤ) (xs : List ℤ) → length hs ≡ 8 → length xs ≡ 8 → FitsSigned w16 c → ((k : ℕ) → FitsSigned w16 (word_at xs k))
    → HasHalves c xs → AreHalves hs → AreOnto hs c xs (ontos hs c xs)
ontos_are hs c xs lh lx fc fx factors small =
    eight hs lh (λ hs. AreHalves hs → AreOnto hs c xs (ontos hs c xs))
    (λ h0 h1 h2 h3 h4 h5 h6 h7. eight xs lx (λ xs. ((k : ℕ) → FitsSigned w16 (word_at xs k)) → HasHalves c xs → AreHalves (h0 ∷ h1 ∷ h2 ∷ h3 ∷ h4 ∷ h5 ∷ h6 ∷ h7 ∷ []) → AreOnto (h0 ∷ h1 ∷ h2 ∷ h3 ∷ h4 ∷ h5 ∷ h6 ∷ h7 ∷ []) c xs (ontos (h0 ∷ h1 ∷ h2 ∷ h3 ∷ h4 ∷ h5 ∷ h6 ∷ h7 ∷ []) c xs))
    (λ x0 x1 x2 x3 x4 x5 x6 x7 f p s. record {
      size = refl;
      fit = eight_fit _ _ _ _ _ _ _ _ (onto_fits h0 c x0 fc (f 0) (p 0) (s 0)) (onto_fits h1 c x1 fc (f 1) (p 1) (s 1)) (onto_fits h2 c x2 fc (f 2) (p 2) (s 2)) (onto_fits h3 c x3 fc (f 3) (p 3) (s 3)) (onto_fits h4 c x4 fc (f 4) (p 4) (s 4)) (onto_fits h5 c x5 fc (f 5) (p 5) (s 5)) (onto_fits h6 c x6 fc (f 6) (p 6) (s 6)) (onto_fits h7 c x7 fc (f 7) (p 7) (s 7));
      values = eight_are (h0 ∷ h1 ∷ h2 ∷ h3 ∷ h4 ∷ h5 ∷ h6 ∷ h7 ∷ []) c (x0 ∷ x1 ∷ x2 ∷ x3 ∷ x4 ∷ x5 ∷ x6 ∷ x7 ∷ []) _ _ _ _ _ _ _ _
          (onto_is h0 c x0 fc (f 0) (p 0) (s 0)) (onto_is h1 c x1 fc (f 1) (p 1) (s 1)) (onto_is h2 c x2 fc (f 2) (p 2) (s 2)) (onto_is h3 c x3 fc (f 3) (p 3) (s 3)) (onto_is h4 c x4 fc (f 4) (p 4) (s 4)) (onto_is h5 c x5 fc (f 5) (p 5) (s 5)) (onto_is h6 c x6 fc (f 6) (p 6) (s 6)) (onto_is h7 c x7 fc (f 7) (p 7) (s 7));
    }) fx factors) small

-- one product more
pub one_more_each : (hs xs wide r : List ℤ) (c : ℤ) (sums : ℕ → ℤ) → AreOnto hs c xs wide → length r ≡ 8 → ((k : ℕ) → word_at r k ≡ saturate_to_bits 30 (word_at wide k))
    → FitsSigned w16 c → ((k : ℕ) → FitsSigned w16 (word_at xs k)) → HasHalves c xs
    → IsHalved hs sums → IsHalved r (λ k. l_mac_of (sums k) c (word_at xs k))
one_more_each hs xs wide r c sums are lr limited fc fx factors is = record {
  eight = lr;
  within = λ k. subst (λ z. unsigned_abs z ≤ 2 ^ 30) (sym (limited k)) (limit_small (word_at wide k));
  halves = λ k b.
      let x = word_at xs k in
      let p = product_small c x (nat_abs-le c fc.sfits) (nat_abs-le x ((fx k).sfits)) (factors k) in
      limited k ∙ ap (saturate_to_bits 30) (are.values k b ∙ ap (λ h. h +ℤ (c *ℤ x)) (is.halves k b)) ∙ half_add (sums k) (c *ℤ x) p;
}

pub halved_as : (lanes : List ℤ) (sums sums' : ℕ → ℤ) → ((k : ℕ) → k < 8 → half_of (sums k) ≡ half_of (sums' k)) → IsHalved lanes sums → IsHalved lanes sums'
halved_as lanes sums sums' e is = record { eight = is.eight; within = is.within; halves = λ k b. is.halves k b ∙ e k b }

pub halved_kept : (lanes : List ℤ) (sums : ℕ → ℤ) → IsHalved lanes sums → IsHalved (map (to_z w32) (map (of_z w32) lanes)) sums
halved_kept lanes sums is = rw (kept_lanes lanes (halves_fit lanes is.within)) is

pub no_sums : (sums : ℕ → ℤ) → ((k : ℕ) → k < 8 → half_of (sums k) ≡ pos 0) → IsHalved (pos 0 ∷ pos 0 ∷ pos 0 ∷ pos 0 ∷ pos 0 ∷ pos 0 ∷ pos 0 ∷ pos 0 ∷ []) sums
no_sums sums e = record {
  eight = refl;
  within = zero_small;
  halves = λ k b. is_zero k ∙ sym (e k b);
} where
  is_zero : (k : ℕ) → word_at (pos 0 ∷ pos 0 ∷ pos 0 ∷ pos 0 ∷ pos 0 ∷ pos 0 ∷ pos 0 ∷ pos 0 ∷ []) k ≡ pos 0
  is_zero zero = refl
  is_zero (suc zero) = refl
  is_zero (suc (suc zero)) = refl
  is_zero (suc (suc (suc zero))) = refl
  is_zero (suc (suc (suc (suc zero)))) = refl
  is_zero (suc (suc (suc (suc (suc zero))))) = refl
  is_zero (suc (suc (suc (suc (suc (suc zero)))))) = refl
  is_zero (suc (suc (suc (suc (suc (suc (suc zero))))))) = refl
  is_zero (suc (suc (suc (suc (suc (suc (suc (suc k)))))))) = refl

  zero_small : (k : ℕ) → unsigned_abs (word_at (pos 0 ∷ pos 0 ∷ pos 0 ∷ pos 0 ∷ pos 0 ∷ pos 0 ∷ pos 0 ∷ pos 0 ∷ []) k) ≤ 2 ^ 30
  zero_small k = subst (λ z. unsigned_abs z ≤ 2 ^ 30) (sym (is_zero k)) (omega arith)

-- ---- lanes are written

pub put_lanes : (lanes words : List ℤ) (at : ℕ) → length lanes ≡ 8 → at + 8 ≤ length words → AreWritten lanes at words (put_chunk at words lanes)
put_lanes lanes words at e room = record {
  size = length-put_chunk at words lanes;
  before = λ k b. get_or-put_chunk_below at words lanes k (pos 0) b;
  written = λ k b. get_or-put_chunk_at at words lanes k (pos 0) (omega arith) (omega arith);
  halves = λ small old k. elim (cases_lt k at) [
    | inl b ↦ subst (λ z. unsigned_abs z ≤ 2 ^ 30) (sym (get_or-put_chunk_below at words lanes k (pos 0) b)) (old k)
    | inr b ↦ elim (cases_lt k (at + 8)) [
      | inl in_lanes ↦
          let j = k - at in
          let to : at + j ≡ k = omega arith in
          subst (λ m. unsigned_abs (word_at (put_chunk at words lanes) m) ≤ 2 ^ 30) to
          (subst (λ z. unsigned_abs z ≤ 2 ^ 30) (sym (get_or-put_chunk_at at words lanes j (pos 0) (omega arith) (omega arith))) (small j))
      | inr after ↦ subst (λ z. unsigned_abs z ≤ 2 ^ 30) (sym (get_or-put_chunk_above at words lanes k (pos 0) (omega arith))) (old k)
    ]
  ];
}

pub eight_written : (cs line old words new lanes : List ℤ) (first at n taps p f : ℕ) → taps ≡ length cs → p ≡ at + n → f ≡ first + n
    → HasHalfSums cs line first at n old words → AreWritten lanes p words new → HaveTaps cs line f taps lanes → HasHalfSums cs line first at (n + 8) old new
eight_written cs line old words new lanes first at n taps p f all place sample so_far w have = record {
  size = w.size ∙ so_far.size;
  before = λ k b. w.before k (omega arith) ∙ so_far.before k b;
  halves = w.halves have.within so_far.halves;
  sums = λ q b. elim (cases_lt q n) [
    | inl less ↦ w.before (at + q) (omega arith) ∙ so_far.sums q less
    | inr more ↦
        let r = q - n in
        let to : at + q ≡ p + r = omega arith in
        let from : f + r ≡ first + q = omega arith in
        ap (word_at new) to ∙ w.written r (omega arith) ∙ have.halves r (omega arith)
        ∙ ap (λ m. half_of (taps_sum cs line m (f + r))) all ∙ ap (λ m. half_of (taps_sum cs line (length cs) m)) from
  ];
}

-- ---- the samples of a line

-- eight of them
abbrev pub samples_of : List ℤ → ℕ → List ℤ
samples_of line at = take 8 (take (at + 8 - at) (drop at line))

pub sample_at : (line : List ℤ) (at k : ℕ) → k < 8 → word_at (samples_of line at) k ≡ word_at line (at + k)
sample_at line at k b = get_or-take 8 (take (at + 8 - at) (drop at line)) k (pos 0) b ∙ part_at line at (at + 8) k (omega arith)

samples_fit : (line : List ℤ) (at : ℕ) → ((k : ℕ) → FitsSigned w16 (word_at line k)) → (k : ℕ) → FitsSigned w16 (word_at (samples_of line at) k)
samples_fit line at f = take_fits 8 _ (take_fits (at + 8 - at) (drop at line) (drop_fits at line f))

samples_halves : (c : ℤ) (line : List ℤ) (at : ℕ) → HasHalves c line → at + 8 ≤ length line → HasHalves c (samples_of line at)
samples_halves c line at factors reach k = elim (cases_lt k 8) [
  | inl b ↦ rw (sample_at line at k b) (factors (at + k))
  | inr b ↦
      let short : length (samples_of line at) ≤ k = simp (length-take, length-drop) (omega arith) in
      rw (get_or_past (samples_of line at) k (pos 0) short) (inr (omega arith))
]

pub onto_line : (hs : List ℤ) (c f : ℤ) (line : List ℤ) (at : ℕ) → f ≡ c → length hs ≡ 8 → FitsSigned w16 c → ((k : ℕ) → FitsSigned w16 (word_at line k))
    → HasHalves c line → AreHalves hs → at + 8 ≤ length line → AreOnto hs c (samples_of line at) (ontos hs f (samples_of line at))
onto_line hs c f line at same lh fc fl factors small reach =
    let lx : length (samples_of line at) ≡ 8 = simp (length-take, length-drop) (omega arith) in
    subst (λ f. AreOnto hs c (samples_of line at) (ontos hs f (samples_of line at))) (sym same)
    (ontos_are hs c (samples_of line at) lh lx fc (samples_fit line at fl) (samples_halves c line at factors reach) small)

pub one_tap_each : (hs wide r : List ℤ) (c : ℤ) (line : List ℤ) (at : ℕ) (sums : ℕ → ℤ) → AreOnto hs c (samples_of line at) wide → length r ≡ 8
    → ((k : ℕ) → word_at r k ≡ saturate_to_bits 30 (word_at wide k)) → FitsSigned w16 c → ((k : ℕ) → FitsSigned w16 (word_at line k)) → HasHalves c line → at + 8 ≤ length line
    → IsHalved hs sums → IsHalved (map (to_z w32) (map (of_z w32) r)) (λ k. l_mac_of (sums k) c (word_at line (at + k)))
one_tap_each hs wide r c line at sums are lr limited fc fl factors reach is =
    halved_kept r _
    (halved_as r _ _ (λ k b. ap (λ x. half_of (l_mac_of (sums k) c x)) (sample_at line at k b))
    (one_more_each hs (samples_of line at) wide r c sums are lr limited fc (samples_fit line at fl) (samples_halves c line at factors reach) is))
