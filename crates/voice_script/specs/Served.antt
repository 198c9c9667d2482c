-- What may be served for a script's lines and the octets of the inputs, by what a machine may do with a line.
use Rattle.std.specs.Prelude.{ℕ, ◌≡◌, ◌≤◌, ◌<◌, ◌-◌, Bool, true, false, List, [], ◌∷◌, ◌++◌, map, filter, length, take, Option, Some, None, nat_eq, slice_index_or, slice_set}
use Rattle.std.specs.List.{flat_map, count_by}
use Rattle.std.specs.Option.{option_eq}
use Rattle.ialg.specs.declared.refusal.Refusal.{Refusal}
use Rattle.ialg.specs.declared.refusal.Refusal.TheVariants.{Long, Short}
use Rattle.voice_script.specs.declared.limits.TheConstants.{LINE_OCTETS}
use Rattle.voice_script.specs.Script.{lines_of}
use Rattle.voice_script.specs.Replies.{Reply, Count, No, reply_text}

-- what a line asks: nothing, a reply, or so many octets of a channel's input
pub data Asked : Type 0 where
  Nothing : Asked
  Tell : (reply : Reply) → Asked
  Feed : (channel count : ℕ) → Asked

-- what a machine may do with lines, by its state
pub record Machine (S : Type 0) : Type 1 where
  -- a line may ask this, and lead to this state
  pub Asks : S → (line : List ℕ) → Asked → S → Type 0
  -- to the octets that a line asked for, the channel may give this output, of so many samples, and lead to this state
  pub Gives : S → (channel : ℕ) → (octets output : List ℕ) → (samples : ℕ) → S → Type 0

-- what is written for a line, in order
pub data Written : Type 0 where
  Output : (channel : ℕ) (octets : List ℕ) → Written
  Replied : (reply : Reply) → Written

-- the machine's state, and the octets left on each input
pub record Run (S : Type 0) : Type 0 where
  pub state : S
  pub inputs : List (List ℕ)

pub record Answer (S : Type 0) : Type 0 where
  pub run : Run S
  pub written : List Written

module _ {S : Type 0} where
  abbrev pub refuses : Run S → Refusal → Answer S
  refuses run refusal = record { run = run; written = Replied (No refusal) ∷ [] }

  abbrev pub with_left : Run S → ℕ → List ℕ → Run S
  with_left run channel left = record run { inputs = slice_set run.inputs channel left }

module _ {S : Type 0} (machine : Machine S) where
  -- the channel took the octets
  abbrev pub FedAnswer : Run S → ℕ → List ℕ → Answer S → Type 0
  FedAnswer run channel octets answer =
      (output : List ℕ) × (samples : ℕ) × (state : S) × machine.Gives run.state channel octets output samples state
      × (answer ≡ record { run = record run { state = state }; written = Output channel output ∷ Replied (Count samples) ∷ [] })

-- where these inputs are honest: of the others nothing is known
module _ {S : Type 0} (machine : Machine S) (honest : ℕ → Bool) where
  -- for a feed an input gives octets, an honest one those that are left from the first on, and has others left. Too few are used up
  pub record FeedAnswer (run : Run S) (channel count : ℕ) (answer : Answer S) : Type 0 where
    pub octets : List ℕ
    pub left : List ℕ
    pub first : honest channel ≡ true → slice_index_or run.inputs channel [] ≡ octets ++ left
    pub short : length octets < count → (honest channel ≡ true → left ≡ []) × (answer ≡ refuses (with_left run channel left) Short)
    pub whole : count ≤ length octets → (length octets ≡ count) × FedAnswer machine (with_left run channel left) channel octets answer

  abbrev pub AskedAnswer : Run S → Asked → Answer S → Type 0
  AskedAnswer run Nothing answer = answer ≡ record { run = run; written = [] }
  AskedAnswer run (Tell reply) answer = answer ≡ record { run = run; written = Replied reply ∷ [] }
  AskedAnswer run (Feed channel count) answer = FeedAnswer run channel count answer

  -- the line asked something, and that was answered
  abbrev pub ServedAnswer : Run S → List ℕ → Answer S → Type 0
  ServedAnswer run line answer = (asked : Asked) × (next : S) × machine.Asks run.state line asked next × AskedAnswer (record run { state = next }) asked answer

  -- a long line asks for nothing
  pub record LineAnswer (run : Run S) (line : List ℕ) (answer : Answer S) : Type 0 where
    pub long : LINE_OCTETS < length line → answer ≡ refuses run Long
    pub fits : length line ≤ LINE_OCTETS → ServedAnswer run line answer

  -- the lines, one after the other
  abbrev pub LinesAnswer : Run S → List (List ℕ) → Answer S → Type 0
  LinesAnswer run [] answer = answer ≡ record { run = run; written = [] }
  LinesAnswer run (line ∷ lines) answer =
      (first : Answer S) × LineAnswer run line first × (rest : Answer S) × LinesAnswer first.run lines rest
      × (answer ≡ record { run = rest.run; written = first.written ++ rest.written })

-- ---- the script

-- the lines that a line feed ended
abbrev pub ended_lines : List ℕ → List (List ℕ)
ended_lines script = take (length (lines_of script) - 1) (lines_of script)

-- ---- the octets

-- an octet, and the output that it goes to: none is the replies
abbrev pub Octet : Type 0
Octet = Option ℕ × ℕ

abbrev pub octets_written : Written → List Octet
octets_written (Output channel octets) = map (λ b. (Some channel, b)) octets
octets_written (Replied reply) = map (λ b. (None, b)) (reply_text reply)

-- what one port holds of octets in their order
unfoldable pub held_by : Option ℕ → List Octet → List ℕ
held_by port octets = map (λ o. o.1) (filter (λ o. option_eq nat_eq port o.0) octets)

unfoldable pub order_of : List Written → List Octet
order_of written = flat_map octets_written written

abbrev pub is_refused : Written → Bool
is_refused (Replied (No refusal)) = true
is_refused _ = false

unfoldable pub refusals : List Written → ℕ
refusals written = count_by is_refused written
