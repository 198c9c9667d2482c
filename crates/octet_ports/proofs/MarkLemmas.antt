-- The first mark of samples that were lost.
use Rattle.std.proofs.Common.{◌≡◌, ◌<◌, ◌≤◌, ⊎_elim, ℕ, ◌+◌, min, List, length, sym, ap, ◌∙◌, arith, subst, get_or, below_more}
use Rattle.std.proofs.lemmas.Bool.{cases_lt}
use Rattle.std.proofs.lemmas.List.{get_or_default}

-- below a place, the least of the places where what was lost begins, and where there is none, the greatest that there may be
pub record LeastLost {X : Type 0} (before : X → ℕ) (IsTaken : X → Type 0) (xs : List X) (place most count : ℕ) : Type 0 where
  pub within : count ≤ most
  pub sure : (k : ℕ) → k < place → (d : X) → k < length xs → before (get_or xs k d) < count → IsTaken (get_or xs k d)
  pub lost : count < most → (k : ℕ) × (x : X) × (k < place) × (get_or xs k x ≡ x) × ((before x ≡ count) × (IsTaken x → ⊥))

module _ {X : Type 0} {before : X → ℕ} {IsTaken : X → Type 0} {xs : List X} {place most count : ℕ} (so_far : LeastLost before IsTaken xs place most count)
    (e : X) (inside : place < length xs) where
  pub taken_next : IsTaken (get_or xs place e) → LeastLost before IsTaken xs (place + 1) most count
  taken_next taken = record {
    within = so_far.within;
    sure = below_more _ place so_far.sure (λ d _ _. subst IsTaken (get_or_default xs place e d inside) taken);
    lost = λ few. let l = so_far.lost few in (l.0, l.1, omega (arith, l.2), l.3, l.4);
  }

  pub lost_next : (IsTaken (get_or xs place e) → ⊥) → LeastLost before IsTaken xs (place + 1) most (min count (before (get_or xs place e)))
  lost_next lost =
      let x = get_or xs place e in
      record {
        within = let w = so_far.within in omega (arith, w);
        sure = below_more _ place (λ k below d there few. so_far.sure k below d there (omega (arith, few)))
            (λ d _ few. let same : before (get_or xs place d) ≡ before x = ap before (get_or_default xs place d e inside) in absurd (omega (arith, few, same)));
        lost = λ few. ⊎_elim
            (λ below. let least : min count (before x) ≡ count = omega (arith, below) in
            let l = so_far.lost (omega (arith, few, least)) in
            (l.0, l.1, omega (arith, l.2), l.3, (l.4.0 ∙ sym least, l.4.1)))
            (λ above. (place, x, omega arith, get_or_default xs place x e inside, (omega (arith, above), lost)))
            (cases_lt count (before x));
      }
