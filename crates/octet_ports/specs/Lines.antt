-- What comes from an input: its lines.
use Rattle.std.specs.Prelude.{◌≡◌, ◌≢◌, ℕ, ◌+◌, ◌≤◌, Bool, true, false, nat_lt, List, [], ◌∷◌, ◌++◌, length, take, drop, All, Result, IfOk, IfErr}
use Rattle.octet_ports.specs.Ports.{Source, Gives, IsAtEnd}
use Rattle.octet_ports.specs.declared.TheConstants.{LINE_FEED}
use Rattle.octet_ports.specs.declared.reader.TheConstants.{BUFFER_OCTETS}
use Rattle.octet_ports.specs.declared.reader.ReadLine.{ReadLine}
use Rattle.octet_ports.specs.declared.reader.LineFault.{LineFault}
use Rattle.octet_ports.specs.declared.reader.LineFault.TheVariants.{Port, Limit}

-- what ends a line: nothing ends the last one
abbrev pub ending : Bool → List ℕ
ending true = []
ending false = LINE_FEED ∷ []

abbrev pub IsNoFeed : ℕ → Type 0
IsNoFeed b = b ≢ LINE_FEED

abbrev pub ended : List ℕ → List ℕ
ended line = line ++ LINE_FEED ∷ []

-- what was read of an input and is still to be taken by lines, and how many octets, these among them, lines may still have
pub record Ahead : Type 0 where
  pub octets : List ℕ
  pub left : ℕ

-- the octets of a buffer from one place to another, where lines may still have so many
abbrev pub ahead_of : List ℕ → ℕ → ℕ → ℕ → Ahead
ahead_of buffer at end left = record { octets = drop at (take end buffer); left = left }

pub record IsWindow (at end left : ℕ) : Type 0 where
  pub order : at ≤ end
  pub within : end ≤ BUFFER_OCTETS
  pub few : end ≤ at + left

-- an input, seen with octets of it that were read already in front of what it has to come
abbrev pub behind : List ℕ → Source → Source
behind ahead source = record { honest = source.honest; coming = ahead ++ source.coming; failed = source.failed }

-- a line's octets as they are kept: the text, where it isn't long
pub record IsLine (most : ℕ) (text : List ℕ) (long : Bool) (octets : List ℕ) : Type 0 where
  pub no_feed : All IsNoFeed octets
  pub is_long : long ≡ nat_lt most (length octets)
  pub is_text : long ≡ false → text ≡ octets

-- a line came with its ending, of so many octets that might
pub record LineCame (most : ℕ) (text : List ℕ) (long last : Bool) (limit left : ℕ) (old new : Source) : Type 0 where
  pub octets : List ℕ
  pub line : IsLine most text long octets
  pub gives : Gives (octets ++ ending last) old new
  pub used : limit ≡ length (octets ++ ending last) + left
  pub at_end : last ≡ true → IsAtEnd new

-- the input gave out within a line, of so many octets that might come
pub record BreaksOff (octets : List ℕ) (limit : ℕ) (old new : Source) : Type 0 where
  pub no_feed : All IsNoFeed octets
  pub gives : Gives octets old new
  pub few : length octets ≤ limit

-- why no line came: the input failed, or goes on after the limit
abbrev pub LineFails : LineFault → ℕ → Source → Source → Type 0
LineFails Port limit old new = (new.failed ≡ true) × ((octets : List ℕ) × BreaksOff octets limit old new)
LineFails Limit limit old new =
    (new.failed ≡ false) × ((octets : List ℕ) × (next : ℕ) × All IsNoFeed octets × Gives (octets ++ next ∷ []) old new × (limit ≡ length octets))

-- of a script, by what is known of its port, with what is ahead of it before and after
module _ {S : Type 0} (source : S → Source) where
  -- if a line was read, it came with its ending
  abbrev pub ReadsLine : (most : ℕ) → Result ReadLine LineFault → (text : List ℕ) → (ahead new_ahead : Ahead) → (script new_script : S) → Type 0
  ReadsLine most result text ahead new_ahead script new_script = IfOk result (λ line. LineCame most text line.long line.last ahead.left new_ahead.left
      (behind ahead.octets (source script)) (behind new_ahead.octets (source new_script)))

  -- if none was read, the script failed within a line, or goes on after the limit
  abbrev pub FailsToRead : Result ReadLine LineFault → (ahead : Ahead) → (script new_script : S) → Type 0
  FailsToRead result ahead script new_script = IfErr result (λ e. LineFails e ahead.left (behind ahead.octets (source script)) (source new_script))
