-- Half sums in lanes, rounded.
use Rattle.std.proofs.Common.{◌≡◌, ℕ, zero, suc, ◌+◌, ◌-◌, ◌%◌, ◌^◌, ◌<◌, ◌≤◌, cond, inl, inr, ℤ, pos, negsuc, ◌+ℤ◌, List, [], ◌∷◌, ◌++◌, length, map, get_or, to_z, of_z, FitsSigned, unsigned_abs, w16, w32, refl, sym, ap, subst, ◌∙◌, arith}
use Rattle.std.specs.Int.Signed.{lt_z}
use Rattle.std.proofs.lemmas.Int.{ints, to_z-of_z, fits_signed_from_abs, int_wrap_fits}
use Rattle.std.specs.Int.{int_wrap}
use Rattle.std.proofs.lemmas.Bool.{cases_lt}
use Rattle.std.proofs.lemmas.Simd.{get_or-put_chunk_at}
use lib.Lanes.{put_chunk, top}
use lib.Signed.{shr_z}
use Rattle.basic_op.specs.Halves.{half_of}
use Rattle.basic_op.specs.Operators.{round_of, saturate16}
use Rattle.ialg.specs.History.{word_at}
use Rattle.fir_kernel.specs.Halves.{AreHalves}
use Rattle.fir_kernel.specs.Windows.{IsSplit}
use Rattle.fir_kernel.proofs.HalfLanes.{compared, compared_is, chosen}
use Rattle.fir_kernel.proofs.Lanes.{four, added_bits, word_bits, kept_sums, one_of_four}

-- a lane within the words: the greater of it and the least word, and then the lesser of that and the greatest
abbrev raised : ℕ → ℕ
raised n = cond (top 31 (compared n 4294934528)) 4294934528 n

abbrev limited : ℕ → ℕ
limited n = cond (top 31 (compared (raised n) 32767)) (raised n) 32767

abbrev between : ℤ → ℤ
between z = let low = cond (lt_z z (negsuc 32767)) (negsuc 32767) z in cond (lt_z low (pos 32767)) low (pos 32767)

between_is : (z : ℤ) → between z ≡ saturate16 z
between_is (pos n) = grind (arith, ints)
between_is (negsuc n) = grind (arith, ints)

between_fits : (z : ℤ) → FitsSigned w16 (between z)
between_fits (pos n) = record { sfits = grind (arith, ints) }
between_fits (negsuc n) = record { sfits = grind (arith, ints) }

raised_is : (n : ℕ) (z : ℤ) → to_z w32 n ≡ z → to_z w32 (raised n) ≡ cond (lt_z z (negsuc 32767)) (negsuc 32767) z
raised_is n z e =
    chosen (top 31 (compared n 4294934528)) 4294934528 n ∙ ap (λ t. cond t (negsuc 32767) (to_z w32 n)) (compared_is n 4294934528)
    ∙ ap (λ z. cond (lt_z z (negsuc 32767)) (negsuc 32767) z) e

limited_is : (n : ℕ) (z : ℤ) → to_z w32 n ≡ z → to_z w32 (limited n) ≡ between z
limited_is n z e =
    chosen (top 31 (compared (raised n) 32767)) (raised n) 32767 ∙ ap (λ t. cond t (to_z w32 (raised n)) (pos 32767)) (compared_is (raised n) 32767)
    ∙ ap (λ z. cond (lt_z z (pos 32767)) z (pos 32767)) (raised_is n z e)

-- a lane, rounded
abbrev pub nearest : ℕ → ℤ
nearest n = to_z w32 (limited (of_z w32 (shr_z (to_z w32 ((n + 16384) % 4294967296)) 32768)))

-- it fits, whatever the step is that is added before the cut
pub nearest_fits : (n step : ℕ) → FitsSigned w16 (to_z w32 (limited (of_z w32 (shr_z (to_z w32 ((n + step) % 4294967296)) 32768))))
nearest_fits n step =
    let m = of_z w32 (shr_z (to_z w32 ((n + step) % 4294967296)) 32768) in
    subst (FitsSigned w16) (sym (limited_is m (to_z w32 m) refl)) (between_fits (to_z w32 m))

rounded_half : (z v : ℤ) → z ≡ half_of v → saturate16 (shr_z (z +ℤ pos 16384) 32768) ≡ round_of v
rounded_half z (pos n) e = rw e (grind (arith, ints))
rounded_half z (negsuc n) e = rw e (grind (arith, ints))

shifted_fits : (z : ℤ) → unsigned_abs z ≤ 2 ^ 30 → FitsSigned w32 (shr_z (z +ℤ pos 16384) 32768)
shifted_fits (pos n) h = record { sfits = grind (arith, ints) }
shifted_fits (negsuc n) h = record { sfits = grind (arith, ints) }

abbrev pub kept : ℕ → ℤ
kept n = to_z w16 (of_z w16 (nearest n))

kept_is : (z v : ℤ) → unsigned_abs z ≤ 2 ^ 30 → z ≡ half_of v → kept (of_z w32 z) ≡ round_of v
kept_is z v h e =
    let fz : FitsSigned w32 z = fits_signed_from_abs w32 z (omega arith) in
    let fs : FitsSigned w32 (z +ℤ pos 16384) = fits_signed_from_abs w32 (z +ℤ pos 16384) (omega (arith, ints)) in
    let sum : to_z w32 ((of_z w32 z + 16384) % 4294967296) ≡ z +ℤ pos 16384 =
    added_bits (of_z w32 z) 16384 (word_bits z fz) (omega arith) ∙ rw (to_z-of_z w32 z fz) (int_wrap_fits w32 (z +ℤ pos 16384) fs) in
    let shifted : to_z w32 (of_z w32 (shr_z (to_z w32 ((of_z w32 z + 16384) % 4294967296)) 32768)) ≡ shr_z (z +ℤ pos 16384) 32768 =
    ap (λ s. to_z w32 (of_z w32 (shr_z s 32768))) sum ∙ to_z-of_z w32 (shr_z (z +ℤ pos 16384) 32768) (shifted_fits z h) in
    to_z-of_z w16 (nearest (of_z w32 z)) (nearest_fits (of_z w32 z) 16384)
    ∙ limited_is _ _ shifted ∙ between_is (shr_z (z +ℤ pos 16384) 32768) ∙ rounded_half z v e

-- eight lanes
abbrev pub of_both : List ℤ → List ℤ → ℕ → ℕ
of_both l h i = get_or (map (of_z w32) l ++ map (of_z w32) h) i 0

abbrev pub rounded_lanes : List ℤ → List ℤ → List ℤ
rounded_lanes l h =
    kept (of_both l h 0) ∷ kept (of_both l h 1) ∷ kept (of_both l h 2) ∷ kept (of_both l h 3)
    ∷ kept (of_both l h 4) ∷ kept (of_both l h 5) ∷ kept (of_both l h 6) ∷ kept (of_both l h 7) ∷ []

pub low_rounded : (l h : List ℤ) → length l ≡ 4 → AreHalves l → (k : ℕ) (v : ℤ) → k < 4 → word_at l k ≡ half_of v → word_at (rounded_lanes l h) k ≡ round_of v
low_rounded l h e =
    four l e (λ l. AreHalves l → (k : ℕ) (v : ℤ) → k < 4 → word_at l k ≡ half_of v → word_at (rounded_lanes l h) k ≡ round_of v)
    (λ a b c d f k v m is. lanes a b c d f k v m is)
  where
    lanes : (a b c d : ℤ) → AreHalves (a ∷ b ∷ c ∷ d ∷ []) → (k : ℕ) (v : ℤ) → k < 4 → word_at (a ∷ b ∷ c ∷ d ∷ []) k ≡ half_of v
        → word_at (rounded_lanes (a ∷ b ∷ c ∷ d ∷ []) h) k ≡ round_of v
    lanes a b c d f zero v m is = kept_is a v (f 0) is
    lanes a b c d f (suc zero) v m is = kept_is b v (f 1) is
    lanes a b c d f (suc (suc zero)) v m is = kept_is c v (f 2) is
    lanes a b c d f (suc (suc (suc zero))) v m is = kept_is d v (f 3) is
    lanes a b c d f (suc (suc (suc (suc k)))) v m is = absurd (omega arith)

pub high_rounded : (l h : List ℤ) → length l ≡ 4 → length h ≡ 4 → AreHalves h → (k : ℕ) (v : ℤ) → k < 4 → word_at h k ≡ half_of v → word_at (rounded_lanes l h) (4 + k) ≡ round_of v
high_rounded l h el eh =
    four l el (λ l. AreHalves h → (k : ℕ) (v : ℤ) → k < 4 → word_at h k ≡ half_of v → word_at (rounded_lanes l h) (4 + k) ≡ round_of v)
    (λ p q r s. four h eh (λ h. AreHalves h → (k : ℕ) (v : ℤ) → k < 4 → word_at h k ≡ half_of v → word_at (rounded_lanes (p ∷ q ∷ r ∷ s ∷ []) h) (4 + k) ≡ round_of v)
    (λ a b c d f k v m is. lanes p q r s a b c d f k v m is))
  where
    lanes : (p q r s a b c d : ℤ) → AreHalves (a ∷ b ∷ c ∷ d ∷ []) → (k : ℕ) (v : ℤ) → k < 4 → word_at (a ∷ b ∷ c ∷ d ∷ []) k ≡ half_of v
        → word_at (rounded_lanes (p ∷ q ∷ r ∷ s ∷ []) (a ∷ b ∷ c ∷ d ∷ [])) (4 + k) ≡ round_of v
    lanes p q r s a b c d f zero v m is = kept_is a v (f 0) is
    lanes p q r s a b c d f (suc zero) v m is = kept_is b v (f 1) is
    lanes p q r s a b c d f (suc (suc zero)) v m is = kept_is c v (f 2) is
    lanes p q r s a b c d f (suc (suc (suc zero))) v m is = kept_is d v (f 3) is
    lanes p q r s a b c d f (suc (suc (suc (suc k)))) v m is = absurd (omega arith)

-- ---- eight lanes that are kept as bits, and written

pub round_fits : (v : ℤ) → FitsSigned w16 (round_of v)
round_fits v =
    let x = shr_z (half_of v +ℤ pos 16384) 32768 in
    subst (FitsSigned w16) (between_is x ∙ rounded_half (half_of v) v refl) (between_fits x)

kept_length : (xs : List ℤ) → length (map (to_z w16) (map (of_z w16) xs)) ≡ length xs
kept_length [] = refl
kept_length (x ∷ xs) = ap suc (kept_length xs)

kept_at : (xs : List ℤ) (q : ℕ) → q < length xs → word_at (map (to_z w16) (map (of_z w16) xs)) q ≡ to_z w16 (of_z w16 (word_at xs q))
kept_at [] q b = absurd (omega arith)
kept_at (x ∷ xs) zero b = refl
kept_at (x ∷ xs) (suc q) b = kept_at xs q (omega arith)

kept_word : (xs : List ℤ) (q : ℕ) (r : ℤ) → q < length xs → FitsSigned w16 r → word_at xs q ≡ r → word_at (map (to_z w16) (map (of_z w16) xs)) q ≡ r
kept_word xs q r b f e = kept_at xs q b ∙ ap (λ z. to_z w16 (of_z w16 z)) e ∙ to_z-of_z w16 r f

-- the sums of four windows, as they are kept
pub four_summed : (w : ℕ → ℤ) (a b c d r : List ℤ) → IsSplit a (w 0) → IsSplit b (w 1) → IsSplit c (w 2) → IsSplit d (w 3)
    → ((s t u v : ℤ) → IsSplit a s → IsSplit b t → IsSplit c u → IsSplit d v → r ≡ int_wrap w32 s ∷ int_wrap w32 t ∷ int_wrap w32 u ∷ int_wrap w32 v ∷ [])
    → map (to_z w32) (map (of_z w32) r) ≡ int_wrap w32 (w 0) ∷ int_wrap w32 (w 1) ∷ int_wrap w32 (w 2) ∷ int_wrap w32 (w 3) ∷ []
four_summed w a b c d r ia ib ic id f = kept_sums (w 0) (w 1) (w 2) (w 3) r (f (w 0) (w 1) (w 2) (w 3) ia ib ic id)

pub four_halves : (w : ℕ → ℤ) (r : List ℤ) → r ≡ w 0 ∷ w 1 ∷ w 2 ∷ w 3 ∷ [] → ((q : ℕ) → q < 4 → unsigned_abs (w q) ≤ 2 ^ 30) → AreHalves r
four_halves w r e f = subst AreHalves (sym e) (λ k. small k)
  where
    small : (k : ℕ) → unsigned_abs (word_at (w 0 ∷ w 1 ∷ w 2 ∷ w 3 ∷ []) k) ≤ 2 ^ 30
    small zero = f 0 (omega arith)
    small (suc zero) = f 1 (omega arith)
    small (suc (suc zero)) = f 2 (omega arith)
    small (suc (suc (suc zero))) = f 3 (omega arith)
    small (suc (suc (suc (suc k)))) = omega arith

-- what is written is each of the eight sums, rounded
pub eight_rounded : (out r low high : List ℤ) (at : ℕ) (w : ℕ → ℤ) → at + 8 ≤ length out → length r ≡ 8
    → low ≡ w 0 ∷ w 1 ∷ w 2 ∷ w 3 ∷ [] → high ≡ w 4 ∷ w 5 ∷ w 6 ∷ w 7 ∷ []
    → ((k : ℕ) (v : ℤ) → k < 4 → word_at low k ≡ half_of v → word_at r k ≡ round_of v)
    → ((k : ℕ) (v : ℤ) → k < 4 → word_at high k ≡ half_of v → word_at r (4 + k) ≡ round_of v)
    → (q : ℕ) (v : ℤ) → q < 8 → w q ≡ half_of v → word_at (put_chunk at out (map (to_z w16) (map (of_z w16) r))) (at + q) ≡ round_of v
eight_rounded out r low high at w room long is_low is_high of_low of_high q v b e =
    let same : length (map (to_z w16) (map (of_z w16) r)) ≡ 8 = kept_length r ∙ long in
    let word : word_at r q ≡ round_of v =
    elim (cases_lt q 4) [
      | inl l ↦ of_low q v l (ap (λ l. word_at l q) is_low ∙ one_of_four w q l ∙ e)
      | inr h ↦
          let k = q - 4 in
          let up : 4 + k ≡ q = omega arith in
          ap (word_at r) (sym up) ∙ of_high k v (omega arith) (ap (λ l. word_at l k) is_high ∙ one_of_four (λ j. w (4 + j)) k (omega arith) ∙ ap w up ∙ e)
    ] in
    get_or-put_chunk_at at out (map (to_z w16) (map (of_z w16) r)) q (pos 0) (omega arith) (omega arith) ∙ kept_word r q (round_of v) (omega arith) (round_fits v) word
