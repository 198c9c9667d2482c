-- Pieces that are taken out and come back, and the bases by their places.
use Rattle.std.specs.Prelude.{ℕ, ◌<◌, ◌≡◌, Option, Some, None}
use Rattle.space_raw.specs.Span.{Span}
use Rattle.scratch_group.specs.declared.group.Group.{Group}
use Rattle.record_loans.specs.declared.pieces.Pieces.{Pieces}
use Rattle.record_loans.specs.Pieces.{piece_at, with_piece}
use Rattle.scratch_group.specs.Words.{placed}
use Rattle.lifecycle.specs.declared.instance.Instance.{Instance}
use Rattle.lifecycle.specs.States.{Fits, SameInstance}

-- these pieces, with the one that comes back
abbrev pub restored : Option (ℕ × Span) → Pieces → Pieces
restored None own = own
restored (Some (k, p)) own = with_piece own k (Some p)

-- there is room for the piece that comes back
abbrev pub CanRestore : Option (ℕ × Span) → Pieces → Type 0
CanRestore None own = Unit {0}
CanRestore (Some (k, p)) own = (k < 4) × (piece_at own k ≡ None)

-- the instance with the piece that comes back
abbrev pub with_back : {M : Type 0} → Instance M → Option (ℕ × Span) → Instance M
with_back s back = record s { own = restored back s.own }

-- the instance without its own piece of record k
abbrev pub without_piece : {M : Type 0} → Instance M → ℕ → Instance M
without_piece s k = record s { own = with_piece s.own k None }

-- the instance with its places for bases
abbrev pub settled : {M : Type 0} → Instance M → Pieces → Group → Instance M
settled s shared g = record s { table = placed s.table s.own shared g }

-- the instance fits at its places
abbrev pub HasRoom : {M : Type 0} → Instance M → Pieces → Group → Type 0
HasRoom s shared g = Fits (placed s.table s.own shared g) s.own shared g

-- the instance with the piece that comes back, and with its places for bases, whose words may differ
abbrev pub ComesBack : {M : Type 0} → Instance M → Option (ℕ × Span) → Pieces → Group → Instance M → Type 0
ComesBack s back shared g s' = SameInstance (settled (with_back s back) shared g) s'
