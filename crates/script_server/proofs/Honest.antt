-- Which inputs are honest.
use Rattle.std.proofs.Common.{◌≡◌, ℕ, zero, suc, true, List, [], ◌∷◌, All, refl, sym, ◌∙◌, arith}
use Rattle.std.proofs.lemmas.List.{get_or-map}
use Rattle.octet_ports.specs.Ports.{Source}
use Rattle.script_server.specs.Runs.{IsHonest, honest_at, no_source}
use Rattle.script_server.specs.LineRuns.{AreHonest}

-- those that are said to be honest are
pub honest_first : (sources : List Source) → AreHonest (honest_at sources) sources
honest_first sources channel there is = sym (get_or-map (λ s. s.honest) sources channel no_source true there) ∙ is

-- where all are, none is said not to be
pub all_honest : (sources : List Source) → All IsHonest sources → (channel : ℕ) → honest_at sources channel ≡ true
all_honest [] all channel = refl
all_honest (source ∷ sources) all zero = all 0 no_source (omega arith)
all_honest (source ∷ sources) all (suc channel) = all_honest sources (λ k none there. all (suc k) none (omega (arith, there))) channel
