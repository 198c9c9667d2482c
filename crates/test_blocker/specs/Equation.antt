-- A DC blocker: y(n) = x(n) - x(n-1) + r y(n-1). The parameter is r in Q15.
use Rattle.std.specs.Prelude.{ℤ, pos, List, [], ◌∷◌, Option, Some, None}
use Rattle.basic_op.specs.Operators.{add_of, sub_of, mult_r_of}
use Rattle.test_blocker.specs.declared.Past.{Past}

-- what the parameters name: r
abbrev pub ratio_named : List ℤ → Option ℤ
ratio_named (r ∷ []) = Some r
ratio_named _ = None

-- before the first sample
abbrev pub nothing : Past
nothing = record { x1 = pos 0; y1 = pos 0 }

-- what a sample gives
unfoldable pub blocked : ℤ → ℤ → Past → ℤ
blocked r x s = add_of (sub_of x s.x1) (mult_r_of r s.y1)

-- the state behind a sample, and what is given for it
unfoldable pub taken : ℤ → ℤ → Past → Past × ℤ
taken r x s = let y = blocked r x s in (record { x1 = x; y1 = y }, y)

-- a state as words
abbrev pub words_of : Past → List ℤ
words_of s = s.x1 ∷ s.y1 ∷ []
