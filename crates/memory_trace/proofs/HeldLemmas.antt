-- A list of blocks from which one is taken out, or into which one is put.
use Rattle.std.proofs.Common.{◌≡◌, ℕ, suc, ◌<◌, ◌≤◌, List, [], ◌∷◌, ◌++◌, map, length, get_or, take, drop, refl, sym, ◌∙◌, ap, subst, arith}
use Rattle.std.proofs.lemmas.List.{take-append-drop, length-take-le}
use Rattle.std.proofs.Math.Seq.{take-append_seam, drop-append_seam, drop-cons}
use Rattle.space_raw.specs.Span.{Extent, Span}
use Rattle.relocate.specs.Places.{Range}
use Rattle.space_heap.specs.Maps.{HeapState, Holds, IsBlock, range_of}
use Rattle.space_heap.proofs.MapLemmas.{block_out}
use Rattle.memory_trace.specs.Held.{AreOf}

abbrev pub ranges : List Span → List Range
ranges xs = map range_of xs

pub ranges_around : (xs : List Span) (p : Span) (ys : List Span) → ranges (xs ++ p ∷ ys) ≡ ranges xs ++ range_of p ∷ ranges ys
ranges_around [] p ys = refl
ranges_around (x ∷ xs) p ys = ap (λ rs. range_of x ∷ rs) (ranges_around xs p ys)

pub ranges_beside : (xs ys : List Span) → ranges (xs ++ ys) ≡ ranges xs ++ ranges ys
ranges_beside [] ys = refl
ranges_beside (x ∷ xs) ys = ap (λ rs. range_of x ∷ rs) (ranges_beside xs ys)

pub of_around : (g : Extent) (xs : List Span) (p : Span) (ys : List Span) → AreOf g (xs ++ p ∷ ys) → (p.region ≡ g) × AreOf g (xs ++ ys)
of_around g [] p ys all = all
of_around g (x ∷ xs) p ys all = let rest = of_around g xs p ys all.1 in (rest.0, (all.0, rest.1))

pub of_with : (g : Extent) (xs : List Span) (p : Span) (ys : List Span) → p.region ≡ g → AreOf g (xs ++ ys) → AreOf g (xs ++ p ∷ ys)
of_with g [] p ys one all = (one, all)
of_with g (x ∷ xs) p ys one all = (all.0, of_with g xs p ys one all.1)

-- the list around its i-th element
pub around : (xs : List Span) (i : ℕ) (p : Span) → i < length xs → p ≡ get_or xs i p → xs ≡ take i xs ++ p ∷ drop (suc i) xs
around xs i p lt is = sym (take-append-drop i xs) ∙ ap (λ ys. take i xs ++ ys) (drop-cons xs i p lt ∙ ap (λ q. q ∷ drop (suc i) xs) (sym is))

pub put_back_in : (xs ys : List Span) (i : ℕ) (q : Span) → i < length xs → ys ≡ take i xs ++ drop (suc i) xs → take i ys ++ q ∷ drop i ys ≡ take i xs ++ q ∷ drop (suc i) xs
put_back_in xs ys i q lt e =
    let le : i ≤ length xs = omega arith in let long = length-take-le i xs le in
    let front : take i ys ≡ take i xs = ap (take i) e ∙ ap (λ n. take n (take i xs ++ drop (suc i) xs)) (sym long) ∙ take-append_seam (take i xs) (drop (suc i) xs) in
    let back : drop i ys ≡ drop (suc i) xs = ap (drop i) e ∙ ap (λ n. drop n (take i xs ++ drop (suc i) xs)) (sym long) ∙ drop-append_seam (take i xs) (drop (suc i) xs) in
    ap (λ l. l ++ q ∷ drop i ys) front ∙ ap (λ r. take i xs ++ q ∷ r) back

-- what a held block is
module _ (heap : HeapState) (xs : List Span) (i : ℕ) (p : Span) (lt : i < length xs) (is : p ≡ get_or xs i p) (holds : Holds heap (ranges xs)) where
  pub as_held : Holds heap (ranges (take i xs) ++ range_of p ∷ ranges (drop (suc i) xs))
  as_held = subst (λ rs. Holds heap rs) (ap ranges (around xs i p lt is) ∙ ranges_around (take i xs) p (drop (suc i) xs)) holds

  pub is_block : IsBlock heap.region.size (range_of p)
  is_block = (block_out heap.region.size (ranges (take i xs)) (range_of p) (ranges (drop (suc i) xs)) as_held.placed).0
