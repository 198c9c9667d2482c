-- What is heard goes on by whole frames.
use Rattle.std.proofs.Common.{◌≡◌, ℤ, suc, ◌+◌, ◌/◌, ◌≤◌, List, [], ◌∷◌, ◌++◌, length, take, drop, refl, sym, ap, ap₂, ◌∙◌, arith}
use Rattle.std.proofs.Math.Nat.{add-div_left, zero-div}
use Rattle.std.proofs.Math.Seq.{take-append_seam, drop-append_seam}
use Rattle.ialg.specs.History.{word_at}
use Rattle.kind_steps.specs.Steppings.{onto}
use Rattle.alg_activity.specs.Equation.{frame_length, energy_of, next, heard_of, heard, unheard}

-- samples put onto others stand before them
onto_append : (ys xs zs : List ℤ) → onto ys (xs ++ zs) ≡ onto ys xs ++ zs
onto_append [] xs zs = refl
onto_append (y ∷ ys) xs zs = onto_append ys (y ∷ xs) zs

length-onto : (ys xs : List ℤ) → length (onto ys xs) ≡ length ys + length xs
length-onto [] xs = omega arith
length-onto (y ∷ ys) xs =
    let more = length-onto ys (y ∷ xs) in
    omega arith

-- before the first frame
pub heard_none : (p : List ℤ) → heard p [] ≡ unheard
heard_none p = ap (λ k. heard_of p k []) (zero-div (frame_length p))

-- one frame more
pub heard_more : (p ys xs : List ℤ) → 1 ≤ frame_length p → length ys ≡ frame_length p
    → heard p (onto ys xs) ≡ next p (energy_of (word_at p 1) (onto ys [])) (heard p xs)
heard_more p ys xs some size =
    let n = frame_length p in
    let whole : onto ys xs ≡ onto ys [] ++ xs = onto_append ys [] xs in
    let long : length (onto ys []) ≡ n = (let l = length-onto ys [] in omega arith) in
    let all : length (onto ys xs) ≡ n + length xs = length-onto ys xs ∙ ap (λ k. k + length xs) size in
    let count : length (onto ys xs) / n ≡ suc (length xs / n) = ap (λ k. k / n) all ∙ add-div_left (length xs) some ∙ (omega arith) in
    let front : take n (onto ys xs) ≡ onto ys [] = ap₂ take (sym long) whole ∙ take-append_seam (onto ys []) xs in
    let back : drop n (onto ys xs) ≡ xs = ap₂ drop (sym long) whole ∙ drop-append_seam (onto ys []) xs in
    ap (λ k. heard_of p k (onto ys xs)) count
    ∙ ap₂ (λ f b. next p (energy_of (word_at p 1) f) (heard_of p (length xs / n) b)) front back
