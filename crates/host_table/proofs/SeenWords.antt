-- The words that an instance sees, where those of another one were put back.
use Rattle.std.proofs.Common.{◌≡◌, ℕ, zero, suc, ◌<◌, inl, inr, List, take, Option, refl, sym, ◌∙◌, ap, subst, arith}
use Rattle.std.proofs.lemmas.Bool.Decides.{eqb_tells}
use Rattle.space_raw.specs.Span.{Span}
use Rattle.mem_rec.specs.declared.MemRec.{MemRec}
use Rattle.mem_rec.specs.declared.Attr.TheVariants.{WriteOnce}
use Rattle.ialg.specs.Records.{record_at}
use Rattle.record_loans.specs.declared.pieces.Pieces.{Pieces}
use Rattle.record_loans.specs.Pieces.{piece_at, piece_words}
use Rattle.lifecycle.specs.States.{SameOnce}
use Rattle.host_shared.specs.declared.locations.Locations.{Locations}
use Rattle.host_shared.specs.Locations.{location_at, piece_here, locations_at, owner_of, piece_seen, shared_at}
use Rattle.host_shared.specs.Owners.{with_pieces_of, HasOwners}
use Rattle.host_shared.proofs.Owners.{seen_shared, seen_apart}

-- records that have one owner are write-once and of one size: no words of them change
module _ (sharing : List Locations) (i : ℕ) (owners : HasOwners sharing i) (o : Pieces) (j : ℕ) (rs rs' : List MemRec) (same : SameOnce rs (shared_at sharing i) o)
    (alike : (k : ℕ) → owner_of sharing j k ≡ owner_of sharing i k → ((record_at rs k).attr ≡ WriteOnce) × ((record_at rs k).size ≡ (record_at rs' k).size)) where
  words_seen : (k : ℕ) (p : Option Span) → k < 4 → p ≡ piece_at o k
      → ((record_at rs k).attr ≡ WriteOnce → take (record_at rs k).size (piece_words p) ≡ take (record_at rs k).size (piece_words (piece_seen sharing i k)))
      → take (record_at rs' k).size (piece_words (piece_seen (with_pieces_of sharing i o) j k)) ≡ take (record_at rs' k).size (piece_words (piece_seen sharing j k))
  words_seen k p below put words =
      elim (eqb_tells (owner_of sharing j k) (owner_of sharing i k)) [
        | inl e ↦
            let is = alike k e.1 in
            ap (λ (x : Option Span). take (record_at rs' k).size (piece_words x)) (seen_shared sharing i owners o k below j e.1 ∙ sym put)
            ∙ subst (λ n. take n (piece_words p) ≡ take n (piece_words (piece_seen sharing i k))) is.1 (words is.0)
            ∙ ap (λ (x : ℕ). take (record_at rs' k).size (piece_words (piece_here (location_at (locations_at sharing x) k)))) (sym e.1)
        | inr e ↦ ap (λ (x : Option Span). take (record_at rs' k).size (piece_words x)) (seen_apart sharing i owners o k below j e.1)
      ]

  pub words_lent : SameOnce rs' (shared_at sharing j) (shared_at (with_pieces_of sharing i o) j)
  words_lent zero attr = words_seen 0 o.p0 (omega arith) refl (same 0)
  words_lent (suc zero) attr = words_seen 1 o.p1 (omega arith) refl (same 1)
  words_lent (suc (suc zero)) attr = words_seen 2 o.p2 (omega arith) refl (same 2)
  words_lent (suc (suc (suc zero))) attr = words_seen 3 o.p3 (omega arith) refl (same 3)
  words_lent (suc (suc (suc (suc k)))) attr = refl
