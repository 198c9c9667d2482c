-- What is served where the machine is a function.
use Rattle.std.specs.Prelude.{◌≡◌, ℕ, List, [], ◌∷◌, ◌++◌, length, drop, take, nat_lt, slice_index_or, if◌then◌else◌}
use Rattle.ialg.specs.declared.refusal.Refusal.TheVariants.{Long, Short}
use Rattle.voice_script.specs.declared.limits.TheConstants.{LINE_OCTETS}
use Rattle.voice_script.specs.Replies.{Reply, Count}
use Rattle.voice_script.specs.Served.{Asked, Nothing, Tell, Feed, Machine, Run, Answer, Written, Output, Replied, refuses, with_left}

-- what a machine does with lines, by its state
pub record Computed (S : Type 0) : Type 0 where
  pub asked : S → (line : List ℕ) → Asked
  -- the state after a line
  pub after : S → (line : List ℕ) → S
  -- to the octets that a line asked for: what the channel gives, of how many samples, and the state after them
  pub output : S → (channel : ℕ) → (octets : List ℕ) → List ℕ
  pub samples : S → (channel : ℕ) → (octets : List ℕ) → ℕ
  pub fed : S → (channel : ℕ) → (octets : List ℕ) → S

-- ---- what is answered

module _ {S : Type 0} where
  abbrev pub replies : Run S → Reply → Answer S
  replies run reply = record { run = run; written = Replied reply ∷ [] }

  abbrev pub at_state : Run S → S → Run S
  at_state run state = record run { state = state }

  abbrev pub octets_left : Run S → ℕ → List ℕ
  octets_left run channel = slice_index_or run.inputs channel []

  abbrev pub then_answer : List Written → Answer S → Answer S
  then_answer written answer = record { run = answer.run; written = written ++ answer.written }

-- what is read is gone
abbrev pub after_reading : {S : Type 0} → Run S → ℕ → ℕ → Run S
after_reading run channel count = with_left run channel (drop count (octets_left run channel))

module _ {S : Type 0} (machine : Computed S) where
  abbrev pub fed_answer : Run S → ℕ → List ℕ → Answer S
  fed_answer run channel octets = record {
    run = at_state run (machine.fed run.state channel octets);
    written = Output channel (machine.output run.state channel octets) ∷ Replied (Count (machine.samples run.state channel octets)) ∷ [];
  }

  -- too few octets are used up
  abbrev pub feed_answer : Run S → ℕ → ℕ → Answer S
  feed_answer run channel count =
      if nat_lt (length (octets_left run channel)) count
      then refuses (after_reading run channel count) Short
      else fed_answer (after_reading run channel count) channel (take count (octets_left run channel))

  abbrev pub asked_answer : Run S → Asked → Answer S
  asked_answer run Nothing = record { run = run; written = [] }
  asked_answer run (Tell reply) = replies run reply
  asked_answer run (Feed channel count) = feed_answer run channel count

  -- a long line asks for nothing
  unfoldable pub line_answer : Run S → List ℕ → Answer S
  line_answer run line =
      if nat_lt LINE_OCTETS (length line) then refuses run Long
      else asked_answer (at_state run (machine.after run.state line)) (machine.asked run.state line)

  -- the lines, one after the other
  unfoldable pub lines_answer : Run S → List (List ℕ) → Answer S
  lines_answer run [] = record { run = run; written = [] }
  lines_answer run (line ∷ lines) =
      then_answer (line_answer run line).written (lines_answer (line_answer run line).run lines)

-- the machine that does this and nothing else
abbrev pub machine_of : {S : Type 0} → Computed S → Machine S
machine_of computed = record {
  Asks = λ before line asked after. (asked ≡ computed.asked before line) × (after ≡ computed.after before line);
  Gives = λ before channel octets output samples after.
      (output ≡ computed.output before channel octets) × (samples ≡ computed.samples before channel octets) × (after ≡ computed.fed before channel octets);
}

-- in the states that stand for those of the computed machine, the machine does no more than that one does
pub record IsComputed {S T : Type 0} (machine : Machine S) (computed : Computed T) (standing : T → S) : Type 0 where
  pub asks : (state : T) (line : List ℕ) (asked : Asked) (after : S) → machine.Asks (standing state) line asked after
      → (asked ≡ computed.asked state line) × (after ≡ standing (computed.after state line))
  pub gives : (state : T) (channel : ℕ) (octets output : List ℕ) (samples : ℕ) (after : S) → machine.Gives (standing state) channel octets output samples after
      → (output ≡ computed.output state channel octets) × (samples ≡ computed.samples state channel octets)
      × (after ≡ standing (computed.fed state channel octets))
