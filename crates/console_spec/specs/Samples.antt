-- Samples as octets: of a port of words two each, the low one first, in two's complement; of a port of octets one each.
use Rattle.std.specs.Prelude.{ℕ, ◌+◌, ◌*◌, ◌/◌, ◌%◌, List, [], ◌∷◌, map, ℤ, pos}
use Rattle.std.specs.Int.{w16, cast_signed, cast_unsigned}
use Rattle.std.specs.List.{flat_map}
use Rattle.voice_script.specs.declared.width.Width.{Width}
use Rattle.voice_script.specs.declared.width.Width.TheVariants.{Word, Octet}

-- by the width of the port that they go to: of each sample's 16 bits the low octet and the high one, or the low octet alone
abbrev pub octets_at : Width → List ℤ → List ℕ
octets_at Word xs = flat_map (λ x. cast_unsigned w16 x % 256 ∷ cast_unsigned w16 x / 256 % 256 ∷ []) xs
octets_at Octet xs = map (λ x. cast_unsigned w16 x % 256) xs

-- by the width of the port that they come from: an octet is a sample, 0 to 255. Of words an odd last octet is no sample
abbrev pub samples_at : Width → List ℕ → List ℤ
samples_at Octet octets = map pos octets
samples_at Word (low ∷ high ∷ octets) = cast_signed w16 (low + 256 * high) ∷ samples_at Word octets
samples_at Word _ = []

-- ---- ports of words, for private clauses

abbrev pub octets_of : List ℤ → List ℕ
octets_of xs = octets_at Word xs

abbrev pub samples_of : List ℕ → List ℤ
samples_of octets = samples_at Word octets
