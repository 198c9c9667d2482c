-- What the owner of words owns and lends. No public clause speaks of it.
use Rattle.std.specs.Prelude.{ℕ, ℤ, ◌*◌, ◌^◌, List, length}
use base.Fraction.{full_share}
use base.Fml.{Lft, Fml}
use mir.Syntax.{Ty, w16, ty_int, ty_array}
use denote.RawPtr.{Ptr, lies_at, room_for, ◌+ₚ◌}
use denote.Array.{Array}
use denote.Builtin.{i16}
use denote.Struct.Lending.{lent_at}

-- where the word at this place of the allocation lies
abbrev pub word_ptr : Ptr → ℕ → Ptr
word_ptr base place = base +ₚ (place * 2)

-- the words ws from that place on are owned
abbrev pub words_own : Ptr → ℕ → List ℤ → Fml
words_own base place ws = lies_at (Array i16 (length ws)) full_share (word_ptr base place) ws

-- they are lent for κ
abbrev pub words_lent : Ptr → ℕ → List ℤ → Lft → Fml
words_lent base place ws = lent_at (Array i16 (length ws)) (word_ptr base place) ws

-- n words
abbrev pub words_type : ℕ → Ty
words_type n = ty_array (ty_int w16) n

-- room for n words from that place on is owned
abbrev pub blank_owns : Ptr → ℕ → ℕ → Fml
blank_owns base place n = room_for (words_type n) (word_ptr base place)

-- the allocator's token for a block of n words
abbrev pub deed_owns : (Ty → Ptr → Fml) → Ptr → ℕ → Fml
deed_owns token base n = token (words_type n) base

-- places and lengths are of 32 bits
abbrev pub word_limit : ℕ
word_limit = 2 ^ 32
