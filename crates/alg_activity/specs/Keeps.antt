-- How words keep what is heard.
use Rattle.std.specs.Prelude.{ℕ, ℤ, List, ◌∷◌}
use Rattle.kind_parts.specs.Words.{sum_words}
use Rattle.alg_activity.specs.declared.kernel.Heard.{Heard}
use Rattle.alg_activity.specs.declared.TheConstants.{STATE_WORDS}
use Rattle.alg_activity.specs.Equation.{heard}

abbrev pub heard_words : Heard → List ℤ
heard_words s = s.left ∷ sum_words s.floor

abbrev pub words_of : List ℤ → List ℤ → List ℤ
words_of p xs = heard_words (heard p xs)

abbrev pub state_words : List ℤ → ℕ
state_words p = STATE_WORDS
