-- What an instance sees of the locations, where its pieces stand with it.
use Rattle.std.proofs.Common.{◌≡◌, ◌≢◌, ◌<◌, ◌≤◌, ◌+◌, ℕ, zero, suc, inl, inr, List, Option, None, set, get_or-set_other, refl, ◌∙◌, ap, arith}
use Rattle.std.proofs.lemmas.Bool.Decides.{eqb_tells}
use Rattle.space_raw.specs.Span.{Span}
use Rattle.record_loans.specs.declared.pieces.Pieces.{Pieces}
use Rattle.record_loans.specs.Pieces.{no_pieces, piece_at, with_piece}
use Rattle.host_shared.specs.declared.locations.Location.{Location}
use Rattle.host_shared.specs.declared.locations.Location.TheVariants.{Here, At}
use Rattle.host_shared.specs.declared.locations.Locations.{Locations}
use Rattle.host_shared.specs.Locations.{location_at, piece_here, locations_of, no_locations, locations_at, owner_by, piece_seen, shared_at, IsUnshared}

-- a piece that stands with its instance is seen by it
pub seen_here : (sharing : List Locations) (i k : ℕ) (p : Option Span) → location_at (locations_at sharing i) k ≡ Here p → piece_seen sharing i k ≡ p
seen_here sharing i k p here =
    ap (λ (s : Location). piece_here (location_at (locations_at sharing (owner_by i s)) k)) here
    ∙ ap piece_here here

-- one that stands with another instance is the one that stands there
pub seen_with : (sharing : List Locations) (i k h : ℕ) → location_at (locations_at sharing i) k ≡ At h → piece_seen sharing i k ≡ piece_here (location_at (locations_at sharing h) k)
seen_with sharing i k h is = ap (λ (s : Location). piece_here (location_at (locations_at sharing (owner_by i s)) k)) is

pub four_pieces : (a b : Pieces) → a.p0 ≡ b.p0 → a.p1 ≡ b.p1 → a.p2 ≡ b.p2 → a.p3 ≡ b.p3 → a ≡ b
four_pieces a b e0 e1 e2 e3 =
    ap (λ (p : Option Span). let r : Pieces = record { p0 = p; p1 = a.p1; p2 = a.p2; p3 = a.p3 } in r) e0
    ∙ ap (λ (p : Option Span). let r : Pieces = record { p0 = b.p0; p1 = p; p2 = a.p2; p3 = a.p3 } in r) e1
    ∙ ap (λ (p : Option Span). let r : Pieces = record { p0 = b.p0; p1 = b.p1; p2 = p; p3 = a.p3 } in r) e2
    ∙ ap (λ (p : Option Span). let r : Pieces = record { p0 = b.p0; p1 = b.p1; p2 = b.p2; p3 = p } in r) e3

pub seen_of : (sharing : List Locations) (i : ℕ) (o : Pieces) → locations_at sharing i ≡ locations_of o → shared_at sharing i ≡ o
seen_of sharing i o is =
    four_pieces (shared_at sharing i) o
    (seen_here sharing i 0 o.p0 (ap (λ (s : Locations). s.s0) is)) (seen_here sharing i 1 o.p1 (ap (λ (s : Locations). s.s1) is))
    (seen_here sharing i 2 o.p2 (ap (λ (s : Locations). s.s2) is)) (seen_here sharing i 3 o.p3 (ap (λ (s : Locations). s.s3) is))

pub set_there : (sharing : List Locations) (i j : ℕ) (s : Locations) → IsUnshared sharing j → j ≢ i → shared_at (set sharing i s) j ≡ shared_at sharing j
set_there sharing i j s unshared apart = seen_of (set sharing i s) j (shared_at sharing j) (get_or-set_other sharing i j s no_locations apart ∙ unshared)

-- pieces with another one for record k
pub piece_with_same : (ps : Pieces) (k : ℕ) (x : Option Span) → k < 4 → piece_at (with_piece ps k x) k ≡ x
piece_with_same ps zero x h = refl
piece_with_same ps (suc zero) x h = refl
piece_with_same ps (suc (suc zero)) x h = refl
piece_with_same ps (suc (suc (suc zero))) x h = refl
piece_with_same ps (suc (suc (suc (suc k)))) x h = absurd (omega (arith, h))

pub piece_with_other : (ps : Pieces) (k j : ℕ) (x : Option Span) → j ≢ k → piece_at (with_piece ps k x) j ≡ piece_at ps j
piece_with_other ps zero zero x h = absurd (h refl)
piece_with_other ps zero (suc j) x h = later j
  where
    later : (n : ℕ) → piece_at (with_piece ps zero x) (suc n) ≡ piece_at ps (suc n)
    later zero = refl
    later (suc zero) = refl
    later (suc (suc zero)) = refl
    later (suc (suc (suc n))) = refl
piece_with_other ps (suc zero) zero x h = refl
piece_with_other ps (suc zero) (suc zero) x h = absurd (h refl)
piece_with_other ps (suc zero) (suc (suc zero)) x h = refl
piece_with_other ps (suc zero) (suc (suc (suc zero))) x h = refl
piece_with_other ps (suc zero) (suc (suc (suc (suc j)))) x h = refl
piece_with_other ps (suc (suc zero)) zero x h = refl
piece_with_other ps (suc (suc zero)) (suc zero) x h = refl
piece_with_other ps (suc (suc zero)) (suc (suc zero)) x h = absurd (h refl)
piece_with_other ps (suc (suc zero)) (suc (suc (suc zero))) x h = refl
piece_with_other ps (suc (suc zero)) (suc (suc (suc (suc j)))) x h = refl
piece_with_other ps (suc (suc (suc zero))) zero x h = refl
piece_with_other ps (suc (suc (suc zero))) (suc zero) x h = refl
piece_with_other ps (suc (suc (suc zero))) (suc (suc zero)) x h = refl
piece_with_other ps (suc (suc (suc zero))) (suc (suc (suc zero))) x h = absurd (h refl)
piece_with_other ps (suc (suc (suc zero))) (suc (suc (suc (suc j)))) x h = refl
piece_with_other ps (suc (suc (suc (suc k)))) j x h = refl

-- the piece of record k is taken out, after those before it
module _ (left left' : Pieces) (k : ℕ) (below : k < 4) (is : left' ≡ with_piece left k None) where
  pub rest_after : (pieces : Pieces) → ((n : ℕ) → k ≤ n → piece_at left n ≡ piece_at pieces n) → (n : ℕ) → k + 1 ≤ n → piece_at left' n ≡ piece_at pieces n
  rest_after pieces rest n behind = rw is (piece_with_other left k n None (omega (arith, behind)) ∙ rest n (omega (arith, behind)))

  pub taken_after : ((n : ℕ) → n < k → piece_at left n ≡ None) → (n : ℕ) → n < k + 1 → piece_at left' n ≡ None
  taken_after taken n before =
      rw is
      (elim (eqb_tells n k) [
        | inl e ↦ rw e.1 (piece_with_same left k None below)
        | inr e ↦ piece_with_other left k n None e.1 ∙ taken n (omega (arith, before, e.1))
      ])

pub all_taken : (left : Pieces) → ((n : ℕ) → n < 4 → piece_at left n ≡ None) → left ≡ no_pieces
all_taken left taken = four_pieces left no_pieces (taken 0 (omega arith)) (taken 1 (omega arith)) (taken 2 (omega arith)) (taken 3 (omega arith))
