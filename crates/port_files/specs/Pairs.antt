-- How words are pairs of ports.
use Rattle.std.specs.Prelude.{ℕ, ◌*◌, ◌%◌, Bool, ◌&&◌, nat_le, ◌==◌, List, [], ◌∷◌}
use Rattle.port_files.specs.declared.pairing.TheConstants.{PORT_PAIRS}

-- 1 to 16 pairs
abbrev pub is_pairs : ℕ → Bool
is_pairs words = nat_le 1 words && (words % 2 == 0) && nat_le words (2 * PORT_PAIRS)

-- the two words of a pair
abbrev pub both : {A : Type 0} → A × A → List A
both pair = pair.0 ∷ pair.1 ∷ []
