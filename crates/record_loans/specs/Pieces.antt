-- The pieces of an instance's records.
use Rattle.std.specs.Prelude.{ℕ, zero, suc, ℤ, ◌≡◌, ◌≤◌, List, [], length, Option, Some, None, MatchOption}
use Rattle.space_raw.specs.Span.{Span}
use Rattle.mem_rec.specs.declared.TheConstants.{RECORD_WORDS}
use Rattle.record_loans.specs.declared.pieces.Pieces.{Pieces}

-- the piece of record k
abbrev pub piece_at : Pieces → ℕ → Option Span
piece_at ps zero = ps.p0
piece_at ps (suc zero) = ps.p1
piece_at ps (suc (suc zero)) = ps.p2
piece_at ps (suc (suc (suc zero))) = ps.p3
piece_at ps (suc (suc (suc (suc k)))) = None

-- these pieces, with another one at k
abbrev pub with_piece : Pieces → ℕ → Option Span → Pieces
with_piece ps zero p = record ps { p0 = p }
with_piece ps (suc zero) p = record ps { p1 = p }
with_piece ps (suc (suc zero)) p = record ps { p2 = p }
with_piece ps (suc (suc (suc zero))) p = record ps { p3 = p }
with_piece ps (suc (suc (suc (suc k)))) p = ps

-- no piece
abbrev pub no_pieces : Pieces
no_pieces = record { p0 = None; p1 = None; p2 = None; p3 = None }

-- this piece as that of record 1, and no other
abbrev pub only_second : Option Span → Pieces
only_second p = record { p0 = None; p1 = p; p2 = None; p3 = None }

-- this piece as that of record 2, and no other
abbrev pub only_third : Option Span → Pieces
only_third p = record { p0 = None; p1 = None; p2 = p; p3 = None }

-- the words of a piece, none where there is none
abbrev pub piece_words : Option Span → List ℤ
piece_words None = []
piece_words (Some p) = p.words

-- where a piece begins
abbrev pub piece_place : Option Span → ℕ
piece_place None = 0
piece_place (Some p) = p.place

-- its region is no larger than a space, which is as large as the greatest record
abbrev pub IsInSpace : Option Span → Type 0
IsInSpace p = MatchOption p (Unit {0}) (λ s. s.region.size ≤ RECORD_WORDS)

-- the same piece, whose words may differ
abbrev pub IsSamePiece : Option Span → Option Span → Type 0
IsSamePiece None new = new ≡ None
IsSamePiece (Some p) None = ⊥
IsSamePiece (Some p) (Some n) = (n.region ≡ p.region) × (n.place ≡ p.place) × (length n.words ≡ length p.words)

-- the same pieces, whose words may differ
pub record SamePieces (old new : Pieces) : Type 0 where
  pub p0 : IsSamePiece old.p0 new.p0
  pub p1 : IsSamePiece old.p1 new.p1
  pub p2 : IsSamePiece old.p2 new.p2
  pub p3 : IsSamePiece old.p3 new.p3
