-- For private clauses alone: a line or an octet of what is ahead, and what ends it.
use Rattle.std.specs.Prelude.{◌≡◌, ℕ, ◌+◌, ◌≤◌, ◌⊎◌, true, false, List, [], ◌∷◌, ◌++◌, length, All}
use Rattle.octet_ports.specs.Ports.{Source, Gives, IsAtEnd}
use Rattle.octet_ports.specs.declared.TheConstants.{LINE_FEED}
use Rattle.octet_ports.specs.Lines.{Ahead, IsNoFeed, behind}
use Rattle.octet_ports.specs.declared.reader.LineFault.{LineFault}
use Rattle.octet_ports.specs.declared.reader.LineFault.TheVariants.{Port, Limit}

-- the octets begin with this line and its line feed
pub record BeginsWith (line octets : List ℕ) : Type 0 where
  pub no_feed : All IsNoFeed line
  pub after : List ℕ
  pub parts : octets ≡ line ++ LINE_FEED ∷ after

-- this line was taken with its line feed, from the front of what was ahead
pub record LineTaken (most : ℕ) (line : List ℕ) (old new : Ahead) : Type 0 where
  pub no_feed : All IsNoFeed line
  pub room : length line ≤ most
  pub front : old.octets ≡ line ++ LINE_FEED ∷ new.octets
  pub used : old.left ≡ length line + 1 + new.left

-- the next octet was taken
pub record OctetCame (octet : ℕ) (old new : Ahead) (source new_source : Source) : Type 0 where
  pub gives : Gives (octet ∷ []) (behind old.octets source) (behind new.octets new_source)
  pub used : old.left ≡ new.left + 1
  -- from the front of what was ahead, if anything was
  pub front : (old.octets ≡ []) ⊎ (old.octets ≡ octet ∷ new.octets)

-- nothing was ahead, and nothing came
pub record EndCame (old new : Ahead) (source new_source : Source) : Type 0 where
  pub before : old.octets ≡ []
  pub none : new.octets ≡ []
  pub left : new.left ≡ old.left
  pub gives : Gives [] source new_source
  pub at_end : IsAtEnd new_source

-- the input failed, or goes on where no octet may be taken by a line any more
abbrev pub RefusesFor : LineFault → ℕ → Source → Source → Type 0
RefusesFor Port left source new_source = (new_source.failed ≡ true) × Gives [] source new_source
RefusesFor Limit left source new_source = (new_source.failed ≡ false) × ((next : ℕ) × Gives (next ∷ []) source new_source × (left ≡ 0))

-- nothing was ahead, and the input failed, or went on after the limit
pub record IsRefused (fault : LineFault) (old new : Ahead) (source new_source : Source) : Type 0 where
  pub before : old.octets ≡ []
  pub none : new.octets ≡ []
  pub why : RefusesFor fault old.left source new_source

-- the same of a script, by what is known of its port
abbrev pub RefusesOctet : {S : Type 0} → (S → Source) → LineFault → (old new : Ahead) → (script new_script : S) → Type 0
RefusesOctet source fault old new script new_script = IsRefused fault old new (source script) (source new_script)
