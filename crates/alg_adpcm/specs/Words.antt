-- A coder's state as words.
use Rattle.std.specs.Prelude.{ℤ, List, [], ◌∷◌, ◌++◌}
use Rattle.basic_op.specs.Operators.{extract_h_of, extract_l_of}
use Rattle.adpcm_kernel.specs.declared.zeros.Zeros.{Zeros}
use Rattle.adpcm_kernel.specs.declared.poles.Poles.{Poles}
use Rattle.adpcm_kernel.specs.declared.scale.Scale.{Scale}
use Rattle.adpcm_kernel.specs.declared.state.State.{State}

abbrev pub zero_words : Zeros → List ℤ
zero_words z = z.b1 ∷ z.b2 ∷ z.b3 ∷ z.b4 ∷ z.b5 ∷ z.b6 ∷ z.dq1 ∷ z.dq2 ∷ z.dq3 ∷ z.dq4 ∷ z.dq5 ∷ z.dq6 ∷ []

abbrev pub pole_words : Poles → List ℤ
pole_words p = p.a1 ∷ p.a2 ∷ p.sr1 ∷ p.sr2 ∷ p.pk1 ∷ p.pk2 ∷ p.td ∷ []

abbrev pub scale_words : Scale → List ℤ
scale_words s = s.yu ∷ extract_h_of s.yl ∷ extract_l_of s.yl ∷ s.dms ∷ s.dml ∷ s.ap ∷ []

abbrev pub words_of : State → List ℤ
words_of s = zero_words s.zeros ++ (pole_words s.poles ++ scale_words s.scale)
