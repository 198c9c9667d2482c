-- What is known of ports.
use Rattle.std.specs.Prelude.{◌≡◌, ℕ, ◌-◌, ◌<◌, ◌≤◌, Bool, true, List, [], ◌++◌, length, take, Option, Some, None, is_some, unwrap_or, if◌then◌else◌}

-- an input: whether it is honest, the octets still to come, and whether it has failed
pub record Source : Type 0 where
  pub honest : Bool
  pub coming : List ℕ
  pub failed : Bool

-- an output: whether it is honest, the octets that it holds, how many of them it has passed on, and whether it has failed
pub record Sink : Type 0 where
  pub honest : Bool
  pub held : List ℕ
  pub passed : ℕ
  pub failed : Bool

-- an input over a reader, by the octets that the reader has left: it is honest where these are known
abbrev pub source_of : Option (List ℕ) → Bool → Source
source_of left failed = record { honest = is_some left; coming = unwrap_or left []; failed = failed }

-- an output over a writer, by the octets that the writer holds, of which so many haven't been passed on: it is honest where
-- these are known
abbrev pub sink_of : Option (List ℕ) → ℕ → Bool → Sink
sink_of held waiting failed =
    record { honest = is_some held; held = unwrap_or held []; passed = length (unwrap_or held []) - waiting; failed = failed }

-- the octets that an output is known to hold
abbrev pub known_to_hold : Sink → Option (List ℕ)
known_to_hold sink = if sink.honest then Some sink.held else None

-- the input gave these octets: an honest one stays honest
pub record Gives (octets : List ℕ) (old new : Source) : Type 0 where
  pub stays : old.honest ≡ true → new.honest ≡ true
  pub given : old.honest ≡ true → old.coming ≡ octets ++ new.coming

-- the output holds these octets more: an honest one stays honest
pub record Holds (octets : List ℕ) (old new : Sink) : Type 0 where
  pub stays : old.honest ≡ true → new.honest ≡ true
  pub taken : old.honest ≡ true → new.held ≡ old.held ++ octets

-- the output passed nothing on: an honest one stays honest
pub record Waits (old new : Sink) : Type 0 where
  pub stays : old.honest ≡ true → new.honest ≡ true
  pub passed : old.honest ≡ true → new.passed ≡ old.passed

-- the output took these octets, and passed nothing on
pub record Takes (octets : List ℕ) (old new : Sink) : Type 0 where
  pub holds : Holds octets old new
  pub waits : Waits old new

-- the output took some of these octets, from the first on
pub record TakesFirst (octets : List ℕ) (old new : Sink) : Type 0 where
  pub count : ℕ
  pub within : count ≤ length octets
  pub first : Takes (take count octets) old new

-- an honest output has passed on all that it holds
abbrev pub HasPassedAll : Sink → Type 0
HasPassedAll sink = sink.honest ≡ true → sink.passed ≡ length sink.held

-- an honest output has passed on what it had before, and perhaps more of what it holds
pub record HasPassedSome (old new : Sink) : Type 0 where
  pub least : old.honest ≡ true → old.passed ≤ new.passed
  pub most : old.honest ≡ true → new.passed ≤ length new.held

-- an honest input has nothing left
abbrev pub IsAtEnd : Source → Type 0
IsAtEnd source = source.honest ≡ true → source.coming ≡ []

-- the input gave so many octets at most
pub record GivesWithin (most : ℕ) (old new : Source) : Type 0 where
  pub octets : List ℕ
  pub few : length octets ≤ most
  pub gives : Gives octets old new

-- the input gave these octets, fewer than so many, and then an honest one was at its end
pub record EndsWithin (count : ℕ) (old new : Source) : Type 0 where
  pub octets : List ℕ
  pub few : length octets < count
  pub gives : Gives octets old new
  pub at_end : IsAtEnd new
