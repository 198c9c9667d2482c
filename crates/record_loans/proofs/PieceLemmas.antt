-- Pieces that are the same but for their words.
use Rattle.std.proofs.Common.{ℕ, zero, suc, Option, Some, None, refl}
use Rattle.space_raw.specs.Span.{Span}
use Rattle.record_loans.specs.declared.pieces.Pieces.{Pieces}
use Rattle.record_loans.specs.Pieces.{piece_at, IsSamePiece, SamePieces}

pub piece_same : (a b : Pieces) (k : ℕ) → SamePieces a b → IsSamePiece (piece_at a k) (piece_at b k)
piece_same a b zero s = s.p0
piece_same a b (suc zero) s = s.p1
piece_same a b (suc (suc zero)) s = s.p2
piece_same a b (suc (suc (suc zero))) s = s.p3
piece_same a b (suc (suc (suc (suc k)))) s = refl

pub reflexive : (p : Option Span) → IsSamePiece p p
reflexive None = refl
reflexive (Some p) = (refl, refl, refl)

pub same_pieces : (ps : Pieces) → SamePieces ps ps
same_pieces ps = record { p0 = reflexive ps.p0; p1 = reflexive ps.p1; p2 = reflexive ps.p2; p3 = reflexive ps.p3 }
