-- Lanes of vectors.
use Rattle.std.proofs.Common.{◌≡◌, ℕ, zero, suc, ◌+◌, ◌-◌, ◌*◌, ◌%◌, ◌<◌, ◌≤◌, inl, inr, take, drop, ℤ, pos, ◌+ℤ◌, ◌*ℤ◌, List, [], ◌∷◌, ◌++◌, length, map, get_or, to_z, of_z, FitsSigned, w16, w32, refl, sym, ap, subst, ◌∙◌, arith, rules, get_or-take, get_or-drop, length-take, length-drop}
use Rattle.std.specs.Int.{int_wrap}
use Rattle.std.proofs.lemmas.Int.{ints, wraps, to_z-of_z, wrapping_add-bits, int_wrap_fits, int_wrap-add_same, SFits-int_wrap}
use Rattle.std.proofs.lemmas.Bool.{cases_lt}
use Rattle.std.proofs.lemmas.List.{get_or_past}
use lib.Lanes.{zip2, Each1}
use borrow.Rule.Simd.Lanes.{Asks1, act1, act2}
use borrow.Table.Row.{s_int}
use mir.Syntax.{cast, signed, wrap_add, wrap_mul}
use Rattle.ialg.specs.History.{word_at}
use Rattle.fir_kernel.specs.Bounded.{product_sum}
use Rattle.fir_kernel.specs.Windows.{IsSplit, IsSpread, window_sum}
use Rattle.fir_kernel.proofs.Parts.{part_at}
use Rattle.fir_kernel.proofs.Sums.{product_sum-same, product_sum-add}

-- ---- lists of a length that is known

first : (xs : List ℤ) (n : ℕ) → length xs ≡ suc n → (P : List ℤ → Type 0) → ((x : ℤ) (ys : List ℤ) → length ys ≡ n → P (x ∷ ys)) → P xs
first [] n e P f = absurd (omega arith)
first (x ∷ ys) n e P f = f x ys (omega arith)

none : (xs : List ℤ) → length xs ≡ 0 → (P : List ℤ → Type 0) → P [] → P xs
none [] e P f = f
none (x ∷ ys) e P f = absurd (omega arith)

pub four : (xs : List ℤ) → length xs ≡ 4 → (P : List ℤ → Type 0) → ((a b c d : ℤ) → P (a ∷ b ∷ c ∷ d ∷ [])) → P xs
four xs e P f =
    first xs 3 e P (λ a l3 e3. first l3 2 e3 (λ l. P (a ∷ l)) (λ b l2 e2. first l2 1 e2 (λ l. P (a ∷ b ∷ l))
    (λ c l1 e1. first l1 0 e1 (λ l. P (a ∷ b ∷ c ∷ l)) (λ d l0 e0. none l0 e0 (λ l. P (a ∷ b ∷ c ∷ d ∷ l)) (f a b c d)))))

pub eight : (xs : List ℤ) → length xs ≡ 8 → (P : List ℤ → Type 0) → ((a b c d e f g h : ℤ) → P (a ∷ b ∷ c ∷ d ∷ e ∷ f ∷ g ∷ h ∷ [])) → P xs
eight xs q P k =
    first xs 7 q P (λ a l7 e7. first l7 6 e7 (λ l. P (a ∷ l)) (λ b l6 e6. first l6 5 e6 (λ l. P (a ∷ b ∷ l))
    (λ c l5 e5. first l5 4 e5 (λ l. P (a ∷ b ∷ c ∷ l)) (λ d l4 e4. four l4 e4 (λ l. P (a ∷ b ∷ c ∷ d ∷ l)) (λ e f g h. k a b c d e f g h)))))

pub sixteen : (xs : List ℤ) → length xs ≡ 16 → (P : List ℤ → Type 0)
    → ((a b c d e f g h i j k l m n o p : ℤ) → P (a ∷ b ∷ c ∷ d ∷ e ∷ f ∷ g ∷ h ∷ i ∷ j ∷ k ∷ l ∷ m ∷ n ∷ o ∷ p ∷ [])) → P xs
sixteen xs q P z =
    first xs 15 q P (λ a l15 e15. first l15 14 e15 (λ l. P (a ∷ l)) (λ b l14 e14. first l14 13 e14 (λ l. P (a ∷ b ∷ l))
    (λ c l13 e13. first l13 12 e13 (λ l. P (a ∷ b ∷ c ∷ l)) (λ d l12 e12. first l12 11 e12 (λ l. P (a ∷ b ∷ c ∷ d ∷ l))
    (λ e l11 e11. first l11 10 e11 (λ l. P (a ∷ b ∷ c ∷ d ∷ e ∷ l)) (λ f l10 e10. first l10 9 e10 (λ l. P (a ∷ b ∷ c ∷ d ∷ e ∷ f ∷ l))
    (λ g l9 e9. first l9 8 e9 (λ l. P (a ∷ b ∷ c ∷ d ∷ e ∷ f ∷ g ∷ l)) (λ h l8 e8. eight l8 e8 (λ l. P (a ∷ b ∷ c ∷ d ∷ e ∷ f ∷ g ∷ h ∷ l))
    (λ i j k l m n o p. z a b c d e f g h i j k l m n o p)))))))))

-- ---- a lane

pub widened : (x : ℤ) → FitsSigned w16 x → FitsSigned w32 x
widened x f = record { sfits = omega (arith, f.sfits) }

pub all_widened : (xs : List ℤ) → ((k : ℕ) → FitsSigned w16 (word_at xs k)) → Each1 (Asks1 (cast signed signed w32) (s_int w16)) (map (of_z w16) xs)
all_widened [] f = tt
all_widened (x ∷ xs) f =
    let here : FitsSigned w16 x = f 0 in
    (rw (to_z-of_z w16 x here) (widened x here), all_widened xs (λ k. f (suc k)))

-- a product of two lanes, in bits
abbrev pub times : ℤ → ℤ → ℕ
times a b = of_z w32 (to_z w16 (of_z w16 a)) * of_z w32 (to_z w16 (of_z w16 b)) % 4294967296

pub product : (a b : ℤ) → FitsSigned w32 a → FitsSigned w32 b → to_z w32 (of_z w32 a * of_z w32 b % 4294967296) ≡ int_wrap w32 (a *ℤ b)
product a b f g = search (rules, wraps)

times_is : (a b : ℤ) → FitsSigned w16 a → FitsSigned w16 b → to_z w32 (times a b) ≡ int_wrap w32 (a *ℤ b)
times_is a b f g = rw (to_z-of_z w16 a f, to_z-of_z w16 b g) (product a b (widened a f) (widened b g))

pub added_bits : (m n : ℕ) → m < 4294967296 → n < 4294967296 → to_z w32 ((m + n) % 4294967296) ≡ int_wrap w32 (to_z w32 m +ℤ to_z w32 n)
added_bits m n p q = wrapping_add-bits w32 m n p q

-- sums of what was wrapped
wrapped_both : (a b x y : ℤ) → int_wrap w32 a ≡ int_wrap w32 x → int_wrap w32 b ≡ int_wrap w32 y → int_wrap w32 (a +ℤ b) ≡ int_wrap w32 (x +ℤ y)
wrapped_both a b x y e f =
    let turn : x +ℤ b ≡ b +ℤ x = omega (arith, ints) in
    let back : y +ℤ x ≡ x +ℤ y = omega (arith, ints) in
    int_wrap-add_same w32 a x b e ∙ ap (int_wrap w32) turn ∙ int_wrap-add_same w32 b y x f ∙ ap (int_wrap w32) back

again : (l x : ℤ) → l ≡ int_wrap w32 x → int_wrap w32 l ≡ int_wrap w32 x
again l x e = ap (int_wrap w32) e ∙ int_wrap_fits w32 (int_wrap w32 x) (SFits-int_wrap w32 x)

pub bits_below : (m : ℕ) → m % 4294967296 < 4294967296
bits_below m = omega arith

pub word_bits : (z : ℤ) → FitsSigned w32 z → of_z w32 z < 4294967296
word_bits z f = omega (arith, ints, f.sfits)

-- one lane of the four: two products go onto it
abbrev pub lane_of : ℤ → ℤ → ℤ → ℤ → ℤ → ℤ
lane_of s a b c d = to_z w32 ((of_z w32 s + (times a b + times c d) % 4294967296) % 4294967296)

pub lane : (s a b c d : ℤ) → FitsSigned w32 s → FitsSigned w16 a → FitsSigned w16 b → FitsSigned w16 c → FitsSigned w16 d
    → lane_of s a b c d ≡ int_wrap w32 (s +ℤ ((a *ℤ b) +ℤ (c *ℤ d)))
lane s a b c d fs fa fb fc fd =
    let p = times a b in
    let q = times c d in
    let pair : to_z w32 ((p + q) % 4294967296) ≡ int_wrap w32 (to_z w32 p +ℤ to_z w32 q) = added_bits p q (bits_below _) (bits_below _) in
    let products : int_wrap w32 (to_z w32 p +ℤ to_z w32 q) ≡ int_wrap w32 ((a *ℤ b) +ℤ (c *ℤ d)) =
    wrapped_both (to_z w32 p) (to_z w32 q) (a *ℤ b) (c *ℤ d) (again _ _ (times_is a b fa fb)) (again _ _ (times_is c d fc fd)) in
    added_bits (of_z w32 s) ((p + q) % 4294967296) (word_bits s fs) (bits_below _)
    ∙ wrapped_both (to_z w32 (of_z w32 s)) (to_z w32 ((p + q) % 4294967296)) s ((a *ℤ b) +ℤ (c *ℤ d)) (ap (int_wrap w32) (to_z-of_z w32 s fs))
    (again _ _ (pair ∙ products))

pub four_fit : (a b c d : ℤ) → FitsSigned w32 a → FitsSigned w32 b → FitsSigned w32 c → FitsSigned w32 d
    → (k : ℕ) → FitsSigned w32 (word_at (a ∷ b ∷ c ∷ d ∷ []) k)
four_fit a b c d e f g h zero = e
four_fit a b c d e f g h (suc zero) = f
four_fit a b c d e f g h (suc (suc zero)) = g
four_fit a b c d e f g h (suc (suc (suc zero))) = h
four_fit a b c d e f g h (suc (suc (suc (suc k)))) = record { sfits = omega arith }

pub fits_as : (l x : ℤ) → l ≡ int_wrap w32 x → FitsSigned w32 l
fits_as l x e = subst (FitsSigned w32) (sym e) (SFits-int_wrap w32 x)

-- four lanes
lanes_added : (s t u v a b c d e f g h i j k l m n o p q r w x sum : ℤ) → int_wrap w32 (((s +ℤ t) +ℤ u) +ℤ v) ≡ int_wrap w32 sum
    → q ≡ int_wrap w32 (s +ℤ ((a *ℤ i) +ℤ (b *ℤ j))) → r ≡ int_wrap w32 (t +ℤ ((c *ℤ k) +ℤ (d *ℤ l)))
    → w ≡ int_wrap w32 (u +ℤ ((e *ℤ m) +ℤ (f *ℤ n))) → x ≡ int_wrap w32 (v +ℤ ((g *ℤ o) +ℤ (h *ℤ p)))
    → IsSplit (q ∷ r ∷ w ∷ x ∷ []) (sum +ℤ ((((((((pos 0 +ℤ (a *ℤ i)) +ℤ (b *ℤ j)) +ℤ (c *ℤ k)) +ℤ (d *ℤ l)) +ℤ (e *ℤ m)) +ℤ (f *ℤ n)) +ℤ (g *ℤ o)) +ℤ (h *ℤ p)))
lanes_added s t u v a b c d e f g h i j k l m n o p q r w x sum before one two three last =
    let x1 = s +ℤ ((a *ℤ i) +ℤ (b *ℤ j)) in
    let x2 = t +ℤ ((c *ℤ k) +ℤ (d *ℤ l)) in
    let x3 = u +ℤ ((e *ℤ m) +ℤ (f *ℤ n)) in
    let x4 = v +ℤ ((g *ℤ o) +ℤ (h *ℤ p)) in
    let products = (((((((pos 0 +ℤ (a *ℤ i)) +ℤ (b *ℤ j)) +ℤ (c *ℤ k)) +ℤ (d *ℤ l)) +ℤ (e *ℤ m)) +ℤ (f *ℤ n)) +ℤ (g *ℤ o)) +ℤ (h *ℤ p) in
    let regroup : ((x1 +ℤ x2) +ℤ x3) +ℤ x4 ≡ (((s +ℤ t) +ℤ u) +ℤ v) +ℤ products = omega (arith, ints) in
    record {
      four = refl;
      fit = four_fit q r w x (fits_as q x1 one) (fits_as r x2 two) (fits_as w x3 three) (fits_as x x4 last);
      total = wrapped_both ((q +ℤ r) +ℤ w) x ((x1 +ℤ x2) +ℤ x3) x4 (wrapped_both (q +ℤ r) w (x1 +ℤ x2) x3 (wrapped_both q r x1 x2 (again _ _ one) (again _ _ two)) (again _ _ three)) (again _ _ last)
          ∙ ap (int_wrap w32) regroup ∙ int_wrap-add_same w32 (((s +ℤ t) +ℤ u) +ℤ v) sum products before;
    }

abbrev pub wide : List ℤ → List ℕ
wide xs = map (act1 (cast signed signed w32) (s_int w16) (s_int w32)) (map (of_z w16) xs)

abbrev pub products_of : List ℤ → List ℤ → List ℕ
products_of a b = zip2 (act2 wrap_mul (s_int w32) (s_int w32) (s_int w32)) (wide a) (wide b)

abbrev pub pair_at : List ℕ → ℕ → ℕ → ℕ
pair_at p i j = (get_or (p ++ p) i 0 + get_or (p ++ p) j 0) % 4294967296

abbrev pub pairs : List ℕ → List ℕ
pairs p = pair_at p 0 1 ∷ pair_at p 2 3 ∷ pair_at p 4 5 ∷ pair_at p 6 7 ∷ []

abbrev pub onto : List ℤ → List ℤ → List ℤ → List ℤ
onto s a b = map (to_z w32) (zip2 (act2 wrap_add (s_int w32) (s_int w32) (s_int w32)) (map (of_z w32) s) (pairs (products_of a b)))

pub added : (s a b : List ℤ) (sum : ℤ) → IsSplit s sum → length a ≡ 8 → length b ≡ 8
    → ((k : ℕ) → FitsSigned w16 (word_at a k)) → ((k : ℕ) → FitsSigned w16 (word_at b k))
    → IsSplit (onto s a b) (sum +ℤ product_sum (word_at a) (word_at b) 8)
added s a b sum is la lb fa fb =
    four s is.four (λ s. IsSplit s sum → IsSplit (onto s a b) (sum +ℤ product_sum (word_at a) (word_at b) 8))
    (λ s0 s1 s2 s3. eight a la (λ a. ((k : ℕ) → FitsSigned w16 (word_at a k)) → IsSplit (s0 ∷ s1 ∷ s2 ∷ s3 ∷ []) sum → IsSplit (onto (s0 ∷ s1 ∷ s2 ∷ s3 ∷ []) a b) (sum +ℤ product_sum (word_at a) (word_at b) 8))
    (λ a0 a1 a2 a3 a4 a5 a6 a7. eight b lb (λ b. ((k : ℕ) → FitsSigned w16 (word_at b k)) → ((k : ℕ) → FitsSigned w16 (word_at (a0 ∷ a1 ∷ a2 ∷ a3 ∷ a4 ∷ a5 ∷ a6 ∷ a7 ∷ []) k)) → IsSplit (s0 ∷ s1 ∷ s2 ∷ s3 ∷ []) sum
    → IsSplit (onto (s0 ∷ s1 ∷ s2 ∷ s3 ∷ []) (a0 ∷ a1 ∷ a2 ∷ a3 ∷ a4 ∷ a5 ∷ a6 ∷ a7 ∷ []) b) (sum +ℤ product_sum (word_at (a0 ∷ a1 ∷ a2 ∷ a3 ∷ a4 ∷ a5 ∷ a6 ∷ a7 ∷ [])) (word_at b) 8))
    (λ b0 b1 b2 b3 b4 b5 b6 b7 gb ga is'.
    lanes_added s0 s1 s2 s3 a0 a1 a2 a3 a4 a5 a6 a7 b0 b1 b2 b3 b4 b5 b6 b7
    (lane_of s0 a0 b0 a1 b1) (lane_of s1 a2 b2 a3 b3) (lane_of s2 a4 b4 a5 b5) (lane_of s3 a6 b6 a7 b7) sum is'.total
    (lane s0 a0 b0 a1 b1 (is'.fit 0) (ga 0) (gb 0) (ga 1) (gb 1)) (lane s1 a2 b2 a3 b3 (is'.fit 1) (ga 2) (gb 2) (ga 3) (gb 3))
    (lane s2 a4 b4 a5 b5 (is'.fit 2) (ga 4) (gb 4) (ga 5) (gb 5)) (lane s3 a6 b6 a7 b7 (is'.fit 3) (ga 6) (gb 6) (ga 7) (gb 7))) fb)
    fa) is

-- ---- eight lanes

pub eight_fit : (a b c d e f g h : ℤ) → FitsSigned w32 a → FitsSigned w32 b → FitsSigned w32 c → FitsSigned w32 d → FitsSigned w32 e → FitsSigned w32 f → FitsSigned w32 g → FitsSigned w32 h
    → (k : ℕ) → FitsSigned w32 (word_at (a ∷ b ∷ c ∷ d ∷ e ∷ f ∷ g ∷ h ∷ []) k)
eight_fit a b c d e f g h fa fb fc fd fe ff fg fh zero = fa
eight_fit a b c d e f g h fa fb fc fd fe ff fg fh (suc zero) = fb
eight_fit a b c d e f g h fa fb fc fd fe ff fg fh (suc (suc zero)) = fc
eight_fit a b c d e f g h fa fb fc fd fe ff fg fh (suc (suc (suc zero))) = fd
eight_fit a b c d e f g h fa fb fc fd fe ff fg fh (suc (suc (suc (suc k)))) = four_fit e f g h fe ff fg fh k

-- two fours, each with its products
both_added : (q0 q1 q2 q3 q4 q5 q6 q7 s t p q r sum : ℤ) → IsSplit (q0 ∷ q1 ∷ q2 ∷ q3 ∷ []) (s +ℤ p) → IsSplit (q4 ∷ q5 ∷ q6 ∷ q7 ∷ []) (t +ℤ q)
    → int_wrap w32 (s +ℤ t) ≡ int_wrap w32 sum → p +ℤ q ≡ r → IsSpread (q0 ∷ q1 ∷ q2 ∷ q3 ∷ q4 ∷ q5 ∷ q6 ∷ q7 ∷ []) (sum +ℤ r)
both_added q0 q1 q2 q3 q4 q5 q6 q7 s t p q r sum front back before all =
    let regroup : (s +ℤ p) +ℤ (t +ℤ q) ≡ (s +ℤ t) +ℤ r = omega (arith, ints) in
    record {
      eight = refl;
      fit = eight_fit q0 q1 q2 q3 q4 q5 q6 q7 (front.fit 0) (front.fit 1) (front.fit 2) (front.fit 3) (back.fit 0) (back.fit 1) (back.fit 2) (back.fit 3);
      total = wrapped_both (((q0 +ℤ q1) +ℤ q2) +ℤ q3) (((q4 +ℤ q5) +ℤ q6) +ℤ q7) (s +ℤ p) (t +ℤ q) front.total back.total
          ∙ ap (int_wrap w32) regroup ∙ int_wrap-add_same w32 (s +ℤ t) sum r before;
    }

abbrev pub eight_pairs : List ℕ → List ℕ
eight_pairs p = pair_at p 0 1 ∷ pair_at p 2 3 ∷ pair_at p 4 5 ∷ pair_at p 6 7 ∷ pair_at p 8 9 ∷ pair_at p 10 11 ∷ pair_at p 12 13 ∷ pair_at p 14 15 ∷ []

abbrev pub onto_eight : List ℤ → List ℤ → List ℤ → List ℤ
onto_eight s a b = map (to_z w32) (zip2 (act2 wrap_add (s_int w32) (s_int w32) (s_int w32)) (map (of_z w32) s) (eight_pairs (products_of a b)))

split_products : (x y : ℕ → ℤ) → product_sum x y 8 +ℤ product_sum (λ k. x (8 + k)) (λ k. y (8 + k)) 8 ≡ product_sum x y 16
split_products x y = product_sum-add x y 8 8

pub spread_added : (s a b : List ℤ) (sum : ℤ) → IsSpread s sum → length a ≡ 16 → length b ≡ 16
    → ((k : ℕ) → FitsSigned w16 (word_at a k)) → ((k : ℕ) → FitsSigned w16 (word_at b k))
    → IsSpread (onto_eight s a b) (sum +ℤ product_sum (word_at a) (word_at b) 16)
spread_added s a b sum is la lb fa fb =
    eight s is.eight (λ s. IsSpread s sum → IsSpread (onto_eight s a b) (sum +ℤ product_sum (word_at a) (word_at b) 16))
    (λ s0 s1 s2 s3 s4 s5 s6 s7. sixteen a la (λ a. ((k : ℕ) → FitsSigned w16 (word_at a k)) → IsSpread (s0 ∷ s1 ∷ s2 ∷ s3 ∷ s4 ∷ s5 ∷ s6 ∷ s7 ∷ []) sum
    → IsSpread (onto_eight (s0 ∷ s1 ∷ s2 ∷ s3 ∷ s4 ∷ s5 ∷ s6 ∷ s7 ∷ []) a b) (sum +ℤ product_sum (word_at a) (word_at b) 16))
    (λ a0 a1 a2 a3 a4 a5 a6 a7 a8 a9 aa ab ac ad ae af. sixteen b lb (λ b. ((k : ℕ) → FitsSigned w16 (word_at b k))
    → ((k : ℕ) → FitsSigned w16 (word_at (a0 ∷ a1 ∷ a2 ∷ a3 ∷ a4 ∷ a5 ∷ a6 ∷ a7 ∷ a8 ∷ a9 ∷ aa ∷ ab ∷ ac ∷ ad ∷ ae ∷ af ∷ []) k)) → IsSpread (s0 ∷ s1 ∷ s2 ∷ s3 ∷ s4 ∷ s5 ∷ s6 ∷ s7 ∷ []) sum
    → IsSpread (onto_eight (s0 ∷ s1 ∷ s2 ∷ s3 ∷ s4 ∷ s5 ∷ s6 ∷ s7 ∷ []) (a0 ∷ a1 ∷ a2 ∷ a3 ∷ a4 ∷ a5 ∷ a6 ∷ a7 ∷ a8 ∷ a9 ∷ aa ∷ ab ∷ ac ∷ ad ∷ ae ∷ af ∷ []) b)
    (sum +ℤ product_sum (word_at (a0 ∷ a1 ∷ a2 ∷ a3 ∷ a4 ∷ a5 ∷ a6 ∷ a7 ∷ a8 ∷ a9 ∷ aa ∷ ab ∷ ac ∷ ad ∷ ae ∷ af ∷ [])) (word_at b) 16))
    (λ b0 b1 b2 b3 b4 b5 b6 b7 b8 b9 ba bb bc bd be bf gb ga is'.
    both_added
    (lane_of s0 a0 b0 a1 b1) (lane_of s1 a2 b2 a3 b3) (lane_of s2 a4 b4 a5 b5) (lane_of s3 a6 b6 a7 b7)
    (lane_of s4 a8 b8 a9 b9) (lane_of s5 aa ba ab bb) (lane_of s6 ac bc ad bd) (lane_of s7 ae be af bf)
    (((s0 +ℤ s1) +ℤ s2) +ℤ s3) (((s4 +ℤ s5) +ℤ s6) +ℤ s7) _ _ _ sum
    (lanes_added s0 s1 s2 s3 a0 a1 a2 a3 a4 a5 a6 a7 b0 b1 b2 b3 b4 b5 b6 b7
    (lane_of s0 a0 b0 a1 b1) (lane_of s1 a2 b2 a3 b3) (lane_of s2 a4 b4 a5 b5) (lane_of s3 a6 b6 a7 b7) (((s0 +ℤ s1) +ℤ s2) +ℤ s3) refl
    (lane s0 a0 b0 a1 b1 (is'.fit 0) (ga 0) (gb 0) (ga 1) (gb 1)) (lane s1 a2 b2 a3 b3 (is'.fit 1) (ga 2) (gb 2) (ga 3) (gb 3))
    (lane s2 a4 b4 a5 b5 (is'.fit 2) (ga 4) (gb 4) (ga 5) (gb 5)) (lane s3 a6 b6 a7 b7 (is'.fit 3) (ga 6) (gb 6) (ga 7) (gb 7)))
    (lanes_added s4 s5 s6 s7 a8 a9 aa ab ac ad ae af b8 b9 ba bb bc bd be bf
    (lane_of s4 a8 b8 a9 b9) (lane_of s5 aa ba ab bb) (lane_of s6 ac bc ad bd) (lane_of s7 ae be af bf) (((s4 +ℤ s5) +ℤ s6) +ℤ s7) refl
    (lane s4 a8 b8 a9 b9 (is'.fit 4) (ga 8) (gb 8) (ga 9) (gb 9)) (lane s5 aa ba ab bb (is'.fit 5) (ga 10) (gb 10) (ga 11) (gb 11))
    (lane s6 ac bc ad bd (is'.fit 6) (ga 12) (gb 12) (ga 13) (gb 13)) (lane s7 ae be af bf (is'.fit 7) (ga 14) (gb 14) (ga 15) (gb 15)))
    is'.total
    (split_products (word_at (a0 ∷ a1 ∷ a2 ∷ a3 ∷ a4 ∷ a5 ∷ a6 ∷ a7 ∷ a8 ∷ a9 ∷ aa ∷ ab ∷ ac ∷ ad ∷ ae ∷ af ∷ [])) (word_at (b0 ∷ b1 ∷ b2 ∷ b3 ∷ b4 ∷ b5 ∷ b6 ∷ b7 ∷ b8 ∷ b9 ∷ ba ∷ bb ∷ bc ∷ bd ∷ be ∷ bf ∷ [])))) fb)
    fa) is

-- eight lanes are folded to four
abbrev halved_at : List ℕ → ℕ → ℕ → ℤ
halved_at p i j = to_z w32 ((get_or (p ++ p) i 0 + get_or (p ++ p) j 0) % 4294967296)

abbrev pub folded : List ℤ → List ℤ
folded s = let p = map (of_z w32) s in halved_at p 0 4 ∷ halved_at p 1 5 ∷ halved_at p 2 6 ∷ halved_at p 3 7 ∷ []

two_lanes : (a b : ℤ) → FitsSigned w32 a → FitsSigned w32 b → to_z w32 ((of_z w32 a + of_z w32 b) % 4294967296) ≡ int_wrap w32 (a +ℤ b)
two_lanes a b fa fb = search (rules, wraps)

pub folded_is : (s : List ℤ) (sum : ℤ) → IsSpread s sum → IsSplit (folded s) sum
folded_is s sum is =
    eight s is.eight (λ s. IsSpread s sum → IsSplit (folded s) sum)
    (λ a b c d e f g h is'.
    let q = to_z w32 ((of_z w32 a + of_z w32 e) % 4294967296) in
    let r = to_z w32 ((of_z w32 b + of_z w32 f) % 4294967296) in
    let t = to_z w32 ((of_z w32 c + of_z w32 g) % 4294967296) in
    let u = to_z w32 ((of_z w32 d + of_z w32 h) % 4294967296) in
    let one : q ≡ int_wrap w32 (a +ℤ e) = two_lanes a e (is'.fit 0) (is'.fit 4) in
    let two : r ≡ int_wrap w32 (b +ℤ f) = two_lanes b f (is'.fit 1) (is'.fit 5) in
    let three : t ≡ int_wrap w32 (c +ℤ g) = two_lanes c g (is'.fit 2) (is'.fit 6) in
    let last : u ≡ int_wrap w32 (d +ℤ h) = two_lanes d h (is'.fit 3) (is'.fit 7) in
    let regroup : (((a +ℤ e) +ℤ (b +ℤ f)) +ℤ (c +ℤ g)) +ℤ (d +ℤ h) ≡ (((a +ℤ b) +ℤ c) +ℤ d) +ℤ (((e +ℤ f) +ℤ g) +ℤ h) = omega (arith, ints) in
    record {
      four = refl;
      fit = four_fit q r t u (fits_as q _ one) (fits_as r _ two) (fits_as t _ three) (fits_as u _ last);
      total = wrapped_both ((q +ℤ r) +ℤ t) u (((a +ℤ e) +ℤ (b +ℤ f)) +ℤ (c +ℤ g)) (d +ℤ h)
          (wrapped_both (q +ℤ r) t ((a +ℤ e) +ℤ (b +ℤ f)) (c +ℤ g) (wrapped_both q r (a +ℤ e) (b +ℤ f) (again _ _ one) (again _ _ two)) (again _ _ three)) (again _ _ last)
          ∙ ap (int_wrap w32) regroup ∙ is'.total;
    }) is

-- ---- the sums of the lanes of four vectors

abbrev sum_at : List ℕ → ℕ → ℕ → ℕ → ℕ → ℤ
sum_at p i j k l = to_z w32 (((get_or p i 0 + get_or p j 0) % 4294967296 + (get_or p k 0 + get_or p l 0) % 4294967296) % 4294967296)

lanes_sum : (a b c d sum : ℤ) → FitsSigned w32 a → FitsSigned w32 b → FitsSigned w32 c → FitsSigned w32 d → int_wrap w32 (((a +ℤ b) +ℤ c) +ℤ d) ≡ int_wrap w32 sum
    → to_z w32 (((of_z w32 a + of_z w32 b) % 4294967296 + (of_z w32 c + of_z w32 d) % 4294967296) % 4294967296) ≡ int_wrap w32 sum
lanes_sum a b c d sum fa fb fc fd e =
    let ab : to_z w32 ((of_z w32 a + of_z w32 b) % 4294967296) ≡ int_wrap w32 (a +ℤ b) = search (rules, wraps) in
    let cd : to_z w32 ((of_z w32 c + of_z w32 d) % 4294967296) ≡ int_wrap w32 (c +ℤ d) = search (rules, wraps) in
    let regroup : (a +ℤ b) +ℤ (c +ℤ d) ≡ ((a +ℤ b) +ℤ c) +ℤ d = omega (arith, ints) in
    added_bits ((of_z w32 a + of_z w32 b) % 4294967296) ((of_z w32 c + of_z w32 d) % 4294967296) (bits_below _) (bits_below _)
    ∙ wrapped_both _ _ (a +ℤ b) (c +ℤ d) (again _ _ ab) (again _ _ cd) ∙ ap (int_wrap w32) regroup ∙ e

abbrev summed : List ℤ → List ℤ → List ℤ → List ℤ → List ℤ
summed a b c d =
    sum_at (map (of_z w32) a ++ map (of_z w32) b) 0 1 2 3 ∷ sum_at (map (of_z w32) a ++ map (of_z w32) b) 4 5 6 7
    ∷ sum_at (map (of_z w32) c ++ map (of_z w32) d) 0 1 2 3 ∷ sum_at (map (of_z w32) c ++ map (of_z w32) d) 4 5 6 7 ∷ []

two_sums : (a b : List ℤ) (s t : ℤ) → IsSplit a s → IsSplit b t
    → (sum_at (map (of_z w32) a ++ map (of_z w32) b) 0 1 2 3 ≡ int_wrap w32 s) × (sum_at (map (of_z w32) a ++ map (of_z w32) b) 4 5 6 7 ≡ int_wrap w32 t)
two_sums a b s t ia ib =
    four a ia.four (λ a. IsSplit a s → (sum_at (map (of_z w32) a ++ map (of_z w32) b) 0 1 2 3 ≡ int_wrap w32 s) × (sum_at (map (of_z w32) a ++ map (of_z w32) b) 4 5 6 7 ≡ int_wrap w32 t))
    (λ a0 a1 a2 a3 ia'. four b ib.four (λ b. IsSplit b t → (sum_at (map (of_z w32) (a0 ∷ a1 ∷ a2 ∷ a3 ∷ []) ++ map (of_z w32) b) 0 1 2 3 ≡ int_wrap w32 s) × (sum_at (map (of_z w32) (a0 ∷ a1 ∷ a2 ∷ a3 ∷ []) ++ map (of_z w32) b) 4 5 6 7 ≡ int_wrap w32 t))
    (λ b0 b1 b2 b3 ib'. (
      lanes_sum a0 a1 a2 a3 s (ia'.fit 0) (ia'.fit 1) (ia'.fit 2) (ia'.fit 3) ia'.total,
      lanes_sum b0 b1 b2 b3 t (ib'.fit 0) (ib'.fit 1) (ib'.fit 2) (ib'.fit 3) ib'.total,
    )) ib) ia

pub summed_is : (a b c d : List ℤ) (s t u v : ℤ) → IsSplit a s → IsSplit b t → IsSplit c u → IsSplit d v
    → summed a b c d ≡ int_wrap w32 s ∷ int_wrap w32 t ∷ int_wrap w32 u ∷ int_wrap w32 v ∷ []
summed_is a b c d s t u v ia ib ic id =
    let front = two_sums a b s t ia ib in
    let back = two_sums c d u v ic id in
    rw (front.0, front.1, back.0, back.1)

none_fits : FitsSigned w32 (pos 0)
none_fits = record { sfits = omega arith }

-- ---- loads and stores

-- behind a list there are words of 0
pub all_fit : (xs : List ℤ) → ((k : ℕ) → k < length xs → FitsSigned w16 (word_at xs k)) → (k : ℕ) → FitsSigned w16 (word_at xs k)
all_fit xs f k = elim (cases_lt k (length xs)) [
  | inl b ↦ f k b
  | inr b ↦ rw (get_or_past xs k (pos 0) b) (record { sfits = omega arith })
]

-- lanes that were kept as bits
pub kept : (lanes : List ℤ) (sum : ℤ) → IsSplit lanes sum → IsSplit (map (to_z w32) (map (of_z w32) lanes)) sum
kept lanes sum is =
    four lanes is.four (λ l. IsSplit l sum → IsSplit (map (to_z w32) (map (of_z w32) l)) sum)
    (λ a b c d is'.
    let fa : FitsSigned w32 a = is'.fit 0 in
    let fb : FitsSigned w32 b = is'.fit 1 in
    let fc : FitsSigned w32 c = is'.fit 2 in
    let fd : FitsSigned w32 d = is'.fit 3 in
    rw (to_z-of_z w32 a fa, to_z-of_z w32 b fb, to_z-of_z w32 c fc, to_z-of_z w32 d fd) is') is

-- lanes of 32 bits that were kept as bits
pub kept_lanes : (xs : List ℤ) → ((k : ℕ) → FitsSigned w32 (word_at xs k)) → map (to_z w32) (map (of_z w32) xs) ≡ xs
kept_lanes [] f = refl
kept_lanes (x ∷ xs) f = rw (to_z-of_z w32 x (f 0), kept_lanes xs (λ k. f (suc k))) refl

pub kept_spread : (lanes : List ℤ) (sum : ℤ) → IsSpread lanes sum → IsSpread (map (to_z w32) (map (of_z w32) lanes)) sum
kept_spread lanes sum is = rw (kept_lanes lanes is.fit) is

-- eight lanes of 0
pub no_lanes : (taps line : List ℤ) (from : ℕ) → IsSpread (pos 0 ∷ pos 0 ∷ pos 0 ∷ pos 0 ∷ pos 0 ∷ pos 0 ∷ pos 0 ∷ pos 0 ∷ []) (window_sum taps line from 0)
no_lanes taps line from = record {
  eight = refl;
  fit = eight_fit (pos 0) (pos 0) (pos 0) (pos 0) (pos 0) (pos 0) (pos 0) (pos 0) none_fits none_fits none_fits none_fits none_fits none_fits none_fits none_fits;
  total = ap (int_wrap w32) (omega (arith, ints));
}

pub take_fits : (n : ℕ) (xs : List ℤ) → ((k : ℕ) → FitsSigned w16 (word_at xs k)) → (k : ℕ) → FitsSigned w16 (word_at (take n xs) k)
take_fits n xs f k = elim (cases_lt k n) [
  | inl b ↦ rw (get_or-take n xs k (pos 0) b) (f k)
  | inr b ↦
      let short : length (take n xs) ≤ k = simp length-take (omega arith) in
      rw (get_or_past (take n xs) k (pos 0) short) (record { sfits = omega arith })
]

pub drop_fits : (n : ℕ) (xs : List ℤ) → ((k : ℕ) → FitsSigned w16 (word_at xs k)) → (k : ℕ) → FitsSigned w16 (word_at (drop n xs) k)
drop_fits n xs f k = rw (get_or-drop n xs k (pos 0)) (f (n + k))

pub part_fits : (m n : ℕ) (xs : List ℤ) → ((k : ℕ) → FitsSigned w16 (word_at xs k)) → (k : ℕ) → FitsSigned w16 (word_at (take n (drop m xs)) k)
part_fits m n xs f = take_fits n (drop m xs) (drop_fits m xs f)

-- the products of 16 taps with 16 samples of the line
pub added_window : (s taps line : List ℤ) (at : ℕ) (sum : ℤ) → IsSpread s sum → length taps ≡ 16 → at + 16 ≤ length line
    → ((k : ℕ) → FitsSigned w16 (word_at taps k)) → ((k : ℕ) → FitsSigned w16 (word_at line k))
    → IsSpread (onto_eight s (take 16 taps) (take 16 (take (at + 16 - at) (drop at line)))) (sum +ℤ window_sum taps line at 16)
added_window s taps line at sum is all reach ft fl =
    let part = take (at + 16 - at) (drop at line) in
    let lt : length (take 16 taps) ≡ 16 = simp length-take (omega arith) in
    let ll : length (take 16 part) ≡ 16 = simp (length-take, length-drop) (omega arith) in
    let same : product_sum (word_at (take 16 taps)) (word_at (take 16 part)) 16 ≡ window_sum taps line at 16 =
    product_sum-same (word_at (take 16 taps)) (word_at taps) (word_at (take 16 part)) (λ k. word_at line (at + k)) 16
    (λ k h. get_or-take 16 taps k (pos 0) h)
    (λ k h. get_or-take 16 part k (pos 0) h ∙ part_at line at (at + 16) k (omega arith)) in
    subst (λ p. IsSpread (onto_eight s (take 16 taps) (take 16 part)) (sum +ℤ p)) same
    (spread_added s (take 16 taps) (take 16 part) sum is lt ll (take_fits 16 taps ft) (take_fits 16 part (take_fits (at + 16 - at) (drop at line) (drop_fits at line fl))))

-- one run of 16 taps more
pub run_more : (taps line lanes : List ℤ) (from run at : ℕ) → 16 * run + 16 ≤ length taps → at ≡ from + 16 * run
    → IsSpread lanes (window_sum taps line from (16 * run) +ℤ window_sum (take (16 * run + 16 - 16 * run) (drop (16 * run) taps)) line at 16)
    → IsSpread lanes (window_sum taps line from (16 * (run + 1)))
run_more taps line lanes from run at fits e is =
    let m = 16 * run in
    let part = take (m + 16 - m) (drop m taps) in
    let next : m + 16 ≡ 16 * (run + 1) = omega arith in
    let same : window_sum part line at 16 ≡ product_sum (λ j. word_at taps (m + j)) (λ j. word_at line (from + (m + j))) 16 =
    product_sum-same (word_at part) (λ j. word_at taps (m + j)) (λ j. word_at line (at + j)) (λ j. word_at line (from + (m + j))) 16
    (λ j h. part_at taps m (m + 16) j (omega arith)) (λ j h. let to : at + j ≡ from + (m + j) = omega arith in ap (word_at line) to) in
    subst (IsSpread lanes)
    (ap (λ p. window_sum taps line from m +ℤ p) same ∙ product_sum-add (word_at taps) (λ j. word_at line (from + j)) m 16 ∙ ap (window_sum taps line from) next) is

-- sums that were kept as bits
pub kept_sums : (s t u v : ℤ) (r : List ℤ) → r ≡ int_wrap w32 s ∷ int_wrap w32 t ∷ int_wrap w32 u ∷ int_wrap w32 v ∷ []
    → map (to_z w32) (map (of_z w32) r) ≡ int_wrap w32 s ∷ int_wrap w32 t ∷ int_wrap w32 u ∷ int_wrap w32 v ∷ []
kept_sums s t u v r e =
    let fs : FitsSigned w32 (int_wrap w32 s) = SFits-int_wrap w32 s in
    let ft : FitsSigned w32 (int_wrap w32 t) = SFits-int_wrap w32 t in
    let fu : FitsSigned w32 (int_wrap w32 u) = SFits-int_wrap w32 u in
    let fv : FitsSigned w32 (int_wrap w32 v) = SFits-int_wrap w32 v in
    ap (λ l. map (to_z w32) (map (of_z w32) l)) e
    ∙ rw (to_z-of_z w32 (int_wrap w32 s) fs, to_z-of_z w32 (int_wrap w32 t) ft, to_z-of_z w32 (int_wrap w32 u) fu, to_z-of_z w32 (int_wrap w32 v) fv)

pub one_of_four : (wanted : ℕ → ℤ) (q : ℕ) → q < 4 → word_at (wanted 0 ∷ wanted 1 ∷ wanted 2 ∷ wanted 3 ∷ []) q ≡ wanted q
one_of_four wanted zero b = refl
one_of_four wanted (suc zero) b = refl
one_of_four wanted (suc (suc zero)) b = refl
one_of_four wanted (suc (suc (suc zero))) b = refl
one_of_four wanted (suc (suc (suc (suc q)))) b = absurd (omega arith)

-- one window's lanes, as they are kept, where its first word is written otherwise
pub kept_window : (taps line lanes : List ℤ) (m from n : ℕ) → m ≡ from → IsSplit lanes (window_sum taps line m n)
    → IsSplit (map (to_z w32) (map (of_z w32) lanes)) (window_sum taps line from n)
kept_window taps line lanes m from n e is = kept lanes _ (subst (λ m. IsSplit lanes (window_sum taps line m n)) e is)
