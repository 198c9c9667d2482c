-- What the owner of the words that no piece holds owns and lends. None stands where a piece has the word. No public clause speaks of it.
use Rattle.std.specs.Prelude.{ℕ, ℤ, ◌+◌, List, [], ◌∷◌, Option, Some, None}
use base.Fraction.{full_share}
use base.Fml.{Lft, Fml, ftrue, ffalse, fsep}
use denote.Builtin.{i16}
use denote.Memory.{part_at, shared_of}
use denote.Sharing.{nothing, said, beside}
use denote.RawPtr.{Ptr, block_ptr, null_ptr}

abbrev pub slot : ℕ → ℕ → Option ℤ → Fml
slot b o (Some w) = part_at i16 full_share w b o
slot b o None = ftrue

-- words side by side, from o on
abbrev pub slots : ℕ → ℕ → List (Option ℤ) → Fml
slots b o [] = ftrue
slots b o (c ∷ cs) = fsep (slot b o c) (slots b (o + 2) cs)

abbrev pub slot_lent : ℕ → ℕ → Option ℤ → Lft → Fml
slot_lent b o (Some w) = shared_of i16 w b o
slot_lent b o None = nothing

abbrev pub slots_lent : ℕ → ℕ → List (Option ℤ) → Lft → Fml
slots_lent b o [] = nothing
slots_lent b o (c ∷ cs) = beside (slot_lent b o c) (slots_lent b (o + 2) cs)

abbrev pub loose_owns : Ptr → List (Option ℤ) → Fml
loose_owns (block_ptr b o) cs = slots b o cs
loose_owns null_ptr cs = ffalse

abbrev pub loose_lent : Ptr → List (Option ℤ) → Lft → Fml
loose_lent (block_ptr b o) cs = slots_lent b o cs
loose_lent null_ptr cs = said ffalse
