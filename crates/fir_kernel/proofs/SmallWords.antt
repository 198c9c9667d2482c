-- Words above the least, and products with them.
use Rattle.std.proofs.Common.{◌≡◌, ◌<◌, ◌≤◌, ◌+◌, ◌∙◌, sym, subst, inl, inr, ℕ, ℤ, pos}
use Rattle.std.proofs.Common.{unsigned_abs, List, length, take, drop, FitsSigned, to_z, of_z, w16, arith, get_or-take, get_or-drop, length-take}
use Rattle.std.proofs.lemmas.Bool.{cases_lt}
use Rattle.std.proofs.lemmas.Int.{to_z-of_z}
use Rattle.std.proofs.lemmas.List.{get_or_past}
use Rattle.ialg.specs.History.{word_at}
use Rattle.fir_kernel.specs.Halves.{AreAboveLeast, HasHalves, HaveHalves}

-- words of a line stay above the least
pub taken_small : (line xs : List ℤ) (at : ℕ → ℕ) → AreAboveLeast line → ((i : ℕ) → i < length xs → word_at xs i ≡ word_at line (at i)) → AreAboveLeast xs
taken_small line xs at small same k = elim (cases_lt k (length xs)) [
  | inl b ↦ subst (λ z. unsigned_abs z ≤ 32767) (sym (same k b)) (small (at k))
  | inr b ↦ subst (λ z. unsigned_abs z ≤ 32767) (sym (get_or_past xs k (pos 0) b)) (omega arith)
]

-- so do those of a part
pub part_small : (line : List ℤ) (m n : ℕ) → AreAboveLeast line → AreAboveLeast (take n (drop m line))
part_small line m n small =
    taken_small line (take n (drop m line)) (λ k. m + k) small (λ i b.
    let h = simp length-take at b in
    let within : i < n = omega arith in
    get_or-take n (drop m line) i (pos 0) within ∙ get_or-drop m line i (pos 0))

module _ (cs line : List ℤ) (i : ℕ) (fits : FitsSigned w16 (word_at cs i)) (halves : HaveHalves cs line) where
  -- the products of a coefficient with words of the line
  pub taken_halves : (xs : List ℤ) (at : ℕ → ℕ) → ((k : ℕ) → k < length xs → word_at xs k ≡ word_at line (at k)) → HasHalves (to_z w16 (of_z w16 (word_at cs i))) xs
  taken_halves xs at same k = elim halves [
    | inl small ↦ inl (rw (to_z-of_z w16 (word_at cs i) fits) (small i))
    | inr small ↦ inr (taken_small line xs at small same k)
  ]

  -- and with a part of it
  pub part_halves : (m n : ℕ) → HasHalves (to_z w16 (of_z w16 (word_at cs i))) (take n (drop m line))
  part_halves m n k = elim halves [
    | inl small ↦ inl (rw (to_z-of_z w16 (word_at cs i) fits) (small i))
    | inr small ↦ inr (part_small line m n small k)
  ]

  -- and with all of it
  pub coefficient_halves : HasHalves (to_z w16 (of_z w16 (word_at cs i))) line
  coefficient_halves k = elim halves [
    | inl small ↦ inl (rw (to_z-of_z w16 (word_at cs i) fits) (small i))
    | inr small ↦ inr (small k)
  ]
