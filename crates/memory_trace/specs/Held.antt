-- The blocks that are held. No public clause speaks of it.
use Rattle.std.specs.Prelude.{◌≡◌, List, [], ◌∷◌}
use Rattle.space_raw.specs.Span.{Extent, Span}

-- all pieces are of the region
abbrev pub AreOf : Extent → List Span → Type 0
AreOf region [] = Unit {0}
AreOf region (p ∷ ps) = (p.region ≡ region) × AreOf region ps
