-- One or two tones with a cadence, for one sample.
use Rattle.std.specs.Prelude.{ℤ, pos, Bool, ◌&&◌, int_lt, int_le, List, [], ◌∷◌, Option, Some, None, if◌then◌else◌}
use Rattle.basic_op.specs.Operators.{add_of, negate_of, round_of, l_shl_of, l_msu_of, l_mult_of}
use Rattle.alg_signal.specs.declared.tones.Cadence.{Cadence}
use Rattle.alg_signal.specs.declared.tones.Tones.{Tones}

-- 1.0 in Q14
abbrev pub one : ℤ
one = pos 16384

-- the parameters are k1 s1 k2 s2 on off count
abbrev pub cadence_named : List ℤ → Option Cadence
cadence_named (k1 ∷ s1 ∷ k2 ∷ s2 ∷ on ∷ off ∷ count ∷ []) = Some (record { k1 = k1; s1 = s1; k2 = k2; s2 = s2; on = on; off = off; count = count })
cadence_named _ = None

-- v(n) = k v(n-1) - v(n-2), summed in Q30 and rounded once
unfoldable pub next_value : ℤ → ℤ → ℤ → ℤ
next_value k v1 v2 = round_of (l_shl_of (l_msu_of (l_mult_of k v1) v2 one) (pos 1))

-- all cycles were run
abbrev pub is_over : Cadence → Tones → Bool
is_over p t = int_lt (pos 0) p.count && int_le p.count t.done

-- a cycle begins with 0 and the second samples
unfoldable pub opened : Cadence → Tones → Tones
opened p t =
    if int_lt (pos 0) t.place then t
    else record { a1 = pos 0; a2 = negate_of p.s1; b1 = pos 0; b2 = negate_of p.s2; place = t.place; done = t.done }

unfoldable pub moved : Cadence → Tones → Tones
moved p t = record { a1 = next_value p.k1 t.a1 t.a2; a2 = t.a1; b1 = next_value p.k2 t.b1 t.b2; b2 = t.b1; place = add_of t.place (pos 1); done = t.done }

-- the next cycle begins behind the samples that sound and those that don't
unfoldable pub next_tones : Cadence → Tones → Tones
next_tones p t =
    if is_over p t then t
    else (let next = moved p t in
    if int_lt next.place (add_of p.on p.off) then next
    else record { a1 = pos 0; a2 = pos 0; b1 = pos 0; b2 = pos 0; place = pos 0; done = add_of t.done (pos 1) })

-- the tones while they sound, and the sample itself while they don't
unfoldable pub given : Cadence → Tones → ℤ → ℤ
given p t x = if is_over p t then x else (if int_lt t.place p.on then add_of t.a1 t.b1 else x)

abbrev pub initial_tones : Tones
initial_tones = record { a1 = pos 0; a2 = pos 0; b1 = pos 0; b2 = pos 0; place = pos 0; done = pos 0 }

unfoldable pub taken : Cadence → ℤ → Tones → Tones × ℤ
taken p x t = let now = opened p t in (next_tones p now, given p now x)

-- a state as words
abbrev pub words_of : Tones → List ℤ
words_of t = t.a1 ∷ t.a2 ∷ t.b1 ∷ t.b2 ∷ t.place ∷ t.done ∷ []
