-- Lines of a console as calls of channels.
use Rattle.std.specs.Prelude.{ℕ, ℤ, ◌≡◌, ◌⊎◌, ◌<◌, ◌==◌, Bool, true, List, [], ◌∷◌, ◌++◌, length, drop, take, Option, Some, Result, Ok, Err, slice_index_or, nat_lt, if◌then◌else◌}
use Rattle.std.specs.List.{flat_map}
use Rattle.ialg.specs.declared.refusal.Refusal.{Refusal}
use Rattle.ialg.specs.declared.refusal.Refusal.TheVariants.{Long}
use Rattle.ialg.specs.Meaning.{Meaning}
use Rattle.channel_spec.specs.Channels.{Channels}
use Rattle.channel_spec.specs.Calls as calls
use Rattle.channel_spec.specs.Calls.{Call}
use Rattle.voice_script.specs.Script as script
use Rattle.voice_script.specs.Script.{Command, parsed}
use Rattle.voice_script.specs.declared.limits.TheConstants.{LINE_OCTETS}
use Rattle.voice_script.specs.Served.{Answer, Run, held_by, order_of}
use Rattle.voice_script.specs.Widths.{Widths}
use Rattle.console_spec.specs.Samples.{octets_at, samples_at}
use Rattle.console_spec.specs.Console.{call_of}
use Rattle.console_spec.specs.HostRuns.{Leads}

-- ---- samples

-- the samples that are left on each channel's input
abbrev pub Left : Type 0
Left = ℕ → List ℤ

-- the same samples are left on each honest input
abbrev pub IsSame : (ℕ → Bool) → Left → Left → Type 0
IsSame honest left after = (c : ℕ) → honest c ≡ true → after c ≡ left c

-- the samples of these octets of the inputs, by the widths of their ports
abbrev pub samples_on : Widths → List (List ℕ) → Left
samples_on widths inputs c = samples_at (widths.input c) (slice_index_or inputs c [])

-- the samples that are left on the inputs of a run
abbrev pub samples_left : {M : Type 0} → Widths → Run (Channels M) → Left
samples_left widths run = samples_on widths run.inputs

module _ {M : Type 0} (c : ℕ) where
  -- what channel c gives in the call
  abbrev pub output_in : Call M → List ℤ
  output_in (calls.Feed d block out) = if c == d then out else []
  output_in _ = []

  -- all that its feeds gave
  abbrev pub fed_out : List (Call M) → List ℤ
  fed_out made = flat_map output_in made

-- ---- commands

-- where these inputs are honest
module _ {M : Type 0} (honest : ℕ → Bool) where
  -- one call was made, and got some answer. No sample was taken
  abbrev pub Makes : {A : Type 0} → (A → Call M) → Left → List (Call M) → Left → Type 0
  Makes {A} call left made after = (answer : A) × (made ≡ call answer ∷ []) × IsSame honest left after

  -- a feed is short: its channel is ready, but fewer samples are left on an honest input than it asks for, and none afterwards
  abbrev pub IsShort : (c n : ℕ) → Left → List (Call M) → Left → Type 0
  IsShort c n left made after =
      (honest c ≡ true → length (left c) < n) × IsSame honest (λ d. if d == c then [] else left d) after × (made ≡ calls.Ready c (Ok tt) ∷ [])

  -- a feed is fed: its channel is ready, and its block has as many samples as it asks for: of an honest input the first that are left, and
  -- the others are left
  abbrev pub IsFed : (c n : ℕ) → Left → List (Call M) → Left → Type 0
  IsFed c n left made after =
      (block out : List ℤ) × (length block ≡ n) × (honest c ≡ true → take n (left c) ≡ block)
      × IsSame honest (λ d. if d == c then drop n (left c) else left d) after × (made ≡ calls.Ready c (Ok tt) ∷ calls.Feed c block out ∷ [])

  -- a feed is refused, short or fed. Every other command makes its one call
  abbrev pub CommandMakes : Command M → Left → List (Call M) → Left → Type 0
  CommandMakes (script.Feed c n) = λ left made after.
      Makes (λ (refusal : Refusal). calls.Ready c (Err refusal)) left made after ⊎ (IsShort c n left made after ⊎ IsFed c n left made after)
  CommandMakes command = Makes (call_of command).call

  -- no call
  abbrev pub MakesNone : Left → List (Call M) → Left → Type 0
  MakesNone left made after = (made ≡ []) × IsSame honest left after

  -- a line that is blank or refused makes no call
  abbrev pub LineMakes : Result (Option (Command M)) Refusal → Left → List (Call M) → Left → Type 0
  LineMakes (Ok (Some command)) = CommandMakes command
  LineMakes _ = MakesNone

  -- the lines, one after the other. A long one is refused
  abbrev pub LinesMake : (List ℕ → Option M) → List (List ℕ) → Left → List (Call M) → Left → Type 0
  LinesMake named [] left made after = MakesNone left made after
  LinesMake named (line ∷ lines) left made after =
      (between : Left) × (first rest : List (Call M))
      × LineMakes (if nat_lt LINE_OCTETS (length line) then Err Long else parsed named line) left first between
      × LinesMake named lines between rest after × (made ≡ first ++ rest)

-- the same samples are left on each honest input, but these on input c
abbrev pub IsSameBut : (ℕ → Bool) → ℕ → List ℤ → Left → Left → Type 0
IsSameBut honest c rest left after = IsSame honest (λ d. if d == c then rest else left d) after

-- these calls were made for the lines: what a channel's feeds were given was taken from its input, where that is honest, and what they gave was
-- written on it
pub record AreCalls {M : Type 0} (kinds : Meaning M) (named : List ℕ → Option M) (widths : Widths) (honest : ℕ → Bool) (run : Run (Channels M)) (lines : List (List ℕ)) (answer : Answer (Channels M)) (made : List (Call M)) : Type 0 where
  pub lead : Leads kinds run.state made answer.run.state
  pub commands : LinesMake honest named lines (samples_left widths run) made (samples_left widths answer.run)
  pub outputs : (c : ℕ) → held_by (Some c) (order_of answer.written) ≡ octets_at (widths.output c) (fed_out c made)
