-- How a run of the engine ended: what it did to its ports.
use Rattle.std.specs.Prelude.{◌≡◌, ◌⊎◌, ℕ, ◌<◌, ◌≤◌, Bool, true, false, List, [], ◌∷◌, ◌++◌, map, length, Some, None, slice_index_or, slice_set, All, Any, IfOk, IsErrOf, Result}
use Rattle.std.specs.List.{flat_map}
use Rattle.std.specs.declared.vec.Vec.{Vec}
use Rattle.octet_ports.specs.Ports.{Source, Sink, Gives, GivesWithin, Holds, Waits, IsAtEnd, HasPassedAll}
use Rattle.octet_ports.specs.Lines.{IsNoFeed, ending, ended}
use Rattle.octet_ports.specs.declared.reader.TheConstants.{BUFFER_OCTETS}
use Rattle.voice_script.specs.Served.{Machine, Run, Answer, Octet, held_by, order_of, refusals, LineAnswer, LinesAnswer, ended_lines, Feed}
use Rattle.voice_script.specs.Script.{lines_of}
use Rattle.voice_script.specs.declared.limits.TheConstants.{LINE_OCTETS}
use Rattle.script_server.specs.declared.limits.TheConstants.{SCRIPT_OCTETS}
use Rattle.script_server.specs.declared.serving.PortsFault.{PortsFault}
use Rattle.script_server.specs.declared.serving.PortsFault.TheVariants.{Read, Write}

-- ---- one port

abbrev pub no_source : Source
no_source = record { honest = false; coming = []; failed = false }

abbrev pub no_sink : Sink
no_sink = record { honest = false; held = []; passed = 0; failed = false }

abbrev pub IsHonest : Source → Type 0
IsHonest source = source.honest ≡ true

abbrev pub IsReadyIn : Source → Type 0
IsReadyIn source = source.failed ≡ false

abbrev pub IsReadyOut : Sink → Type 0
IsReadyOut sink = sink.failed ≡ false

abbrev pub HasFailedIn : Source → Type 0
HasFailedIn source = source.failed ≡ true

abbrev pub HasFailedOut : Sink → Type 0
HasFailedOut sink = sink.failed ≡ true

-- the input failed within so many octets
pub record FailsWithin (most : ℕ) (old new : Source) : Type 0 where
  pub failed : HasFailedIn new
  pub gives : GivesWithin most old new

-- ---- several

-- the port of this number went a step, and the others stayed
pub record StepsAt {A : Type 0} (Step : A → A → Type 0) (number : ℕ) (none : A) (old new : List A) : Type 0 where
  pub after : A
  pub others : new ≡ slice_set old number after
  pub step : Step (slice_index_or old number none) after

-- no port has failed
pub record AreReady (sources : List Source) (outputs : List Sink) (replies : Sink) : Type 0 where
  pub inputs : All IsReadyIn sources
  pub outs : All IsReadyOut outputs
  pub reply : IsReadyOut replies

-- no port has failed, by what is known of each
abbrev pub Ready : {I O P X Y : Type 0} → (I → Source) → (O → Sink) → (P → Sink) → Vec I X → Vec O Y → P → Type 0
Ready source_of_input sink_of_output sink_of_replies inputs outputs replies =
    AreReady (map source_of_input inputs.items) (map sink_of_output outputs.items) (sink_of_replies replies)

-- an output or the replies failed
abbrev pub OneFailed : {O P Y : Type 0} → (O → Sink) → (P → Sink) → Vec O Y → P → Type 0
OneFailed sink_of_output sink_of_replies outputs replies = Any HasFailedOut (map sink_of_output outputs.items) ⊎ HasFailedOut (sink_of_replies replies)

-- each port holds its octets of these more
pub record Writes (order : List Octet) (outputs new_outputs : List Sink) (replies new_replies : Sink) : Type 0 where
  pub count : length new_outputs ≡ length outputs
  pub output : (channel : ℕ) → channel < length outputs
      → Holds (held_by (Some channel) order) (slice_index_or outputs channel no_sink) (slice_index_or new_outputs channel no_sink)
  pub reply : Holds (held_by None order) replies new_replies

-- no port passed anything on
pub record AllWait (outputs new_outputs : List Sink) (replies new_replies : Sink) : Type 0 where
  pub count : length new_outputs ≡ length outputs
  pub output : (channel : ℕ) → channel < length outputs → Waits (slice_index_or outputs channel no_sink) (slice_index_or new_outputs channel no_sink)
  pub reply : Waits replies new_replies

-- neither an output nor the replies passed anything on
abbrev pub NothingPassed : {O P Y : Type 0} → (O → Sink) → (P → Sink) → (outputs new_outputs : Vec O Y) → (replies new_replies : P) → Type 0
NothingPassed sink_of_output sink_of_replies outputs new_outputs replies new_replies =
    AllWait (map sink_of_output outputs.items) (map sink_of_output new_outputs.items) (sink_of_replies replies) (sink_of_replies new_replies)

-- an output passed something on only after each of a lower number had passed all on, if it is honest
abbrev pub InAscendingOrder : List Sink → List Sink → Type 0
InAscendingOrder outputs new_outputs = (lower higher : ℕ) → lower < higher → higher < length outputs
    → Waits (slice_index_or outputs higher no_sink) (slice_index_or new_outputs higher no_sink) ⊎ HasPassedAll (slice_index_or new_outputs lower no_sink)

abbrev pub octets_to_come : List Source → List (List ℕ)
octets_to_come sources = map (λ s. s.coming) sources

-- whether the input of this number is honest. Of one that isn't there all is known: nothing comes
abbrev pub honest_at : List Source → ℕ → Bool
honest_at sources channel = slice_index_or (map (λ s. s.honest) sources) channel true

-- a machine in this state, with what these inputs have to come
abbrev pub run_of : {S : Type 0} → S → List Source → Run S
run_of state sources = record { state = state; inputs = octets_to_come sources }

-- what is known of all the ports of a run
pub record Devices : Type 0 where
  pub script : Source
  pub inputs : List Source
  pub outputs : List Sink
  pub replies : Sink

-- by the ports, of what kinds ever
abbrev pub known_of : {S I O P : Type 0} → (S → Source) → (I → Source) → (O → Sink) → (P → Sink) → S → List I → List O → P → Devices
known_of s i o p script inputs outputs replies = record { script = s script; inputs = map i inputs; outputs = map o outputs; replies = p replies }

-- this came to pass, by what was known of the ports before and what is known of them now
abbrev pub Over : {S I O P X Y : Type 0} → (S → Source) → (I → Source) → (O → Sink) → (P → Sink) → (Devices → Devices → Type 0) → (old new : S) → (was is : Vec I X) → (had has : Vec O Y) → (before after : P) → Type 0
Over s i o p Happens old new was is had has before after = Happens (known_of s i o p old was.items had.items before) (known_of s i o p new is.items has.items after)

-- no port was used
pub record IsUnused {S I O P : Type 0} (old_script new_script : S) (old_inputs new_inputs : I) (old_outputs new_outputs : O) (old_replies new_replies : P) : Type 0 where
  pub script : new_script ≡ old_script
  pub inputs : new_inputs ≡ old_inputs
  pub outputs : new_outputs ≡ old_outputs
  pub replies : new_replies ≡ old_replies

-- the script, if it is honest, goes on after the limit
abbrev pub GoesOn : Source → Type 0
GoesOn script = IsHonest script → SCRIPT_OCTETS < length script.coming

-- ---- how a run ended

module _ {S : Type 0} (machine : Machine S) (start : Run S) where
  -- all of an honest script was served: by an answer that the machine may give, to what honest inputs had to come and others gave
  pub record ServedAll (refused : ℕ) (old new : Devices) : Type 0 where
    pub at_end : new.script.coming ≡ []
    pub answer : Answer S
    pub is_answer : LinesAnswer machine (honest_at old.inputs) start (lines_of old.script.coming) answer
    pub inputs : answer.run.inputs ≡ octets_to_come new.inputs
    pub writes : Writes (order_of answer.written) old.outputs new.outputs old.replies new.replies
    pub counted : refusals answer.written ≡ refused

  pub record ServesAll (refused : ℕ) (old new : Devices) : Type 0 where
    pub script : IsReadyIn new.script
    pub ready : AreReady new.inputs new.outputs new.replies
    pub served : IsHonest old.script → ServedAll refused old new

  -- all was served, no port has failed, and each honest one has passed all on
  pub record EndsWell (refused : ℕ) (old new : Devices) : Type 0 where
    pub serves : ServesAll refused old new
    pub outputs_passed : All HasPassedAll new.outputs
    pub replies_passed : HasPassedAll new.replies

  -- the first lines of an honest script were served: whole, but for a last part of the last one's answer
  pub record ServedFirst (old new : Devices) : Type 0 where
    pub whole : List (List ℕ)
    pub last : List ℕ
    pub more : List (List ℕ)
    pub are_first : lines_of old.script.coming ≡ whole ++ last ∷ more
    pub answer : Answer S
    pub is_answer : LinesAnswer machine (honest_at old.inputs) start whole answer
    pub cut : Answer S
    pub is_cut : LineAnswer machine (honest_at old.inputs) answer.run last cut
    pub inputs : cut.run.inputs ≡ octets_to_come new.inputs
    pub first : List Octet
    pub later : List Octet
    pub is_first : order_of cut.written ≡ first ++ later
    pub writes : Writes (order_of answer.written ++ first) old.outputs new.outputs old.replies new.replies

  -- an output or the replies failed; what was passed on was passed on by the outputs in ascending number, and then by the replies
  pub record EndsByWrite (old new : Devices) : Type 0 where
    pub failed : Any HasFailedOut new.outputs ⊎ HasFailedOut new.replies
    pub passed : Waits old.replies new.replies ⊎ All HasPassedAll new.outputs
    pub order : InAscendingOrder old.outputs new.outputs
    pub served : IsHonest old.script → ServedFirst old new

  -- why no more lines were read than these, which led to this state, and what was read of the inputs
  pub data Stops (script new_script : Source) (lines : List (List ℕ)) (state : S) (sources new_sources : List Source) : Type 0 where
    -- the script failed within a line
    InScript : (rest : List ℕ) → All IsNoFeed rest → Gives (flat_map ended lines ++ rest) script new_script → HasFailedIn new_script
        → new_sources ≡ sources → Stops script new_script lines state sources new_sources
    -- the script goes on after so many octets
    AtLimit : (rest : List ℕ) (next : ℕ) → All IsNoFeed rest → length (flat_map ended lines ++ rest) ≡ SCRIPT_OCTETS
        → Gives ((flat_map ended lines ++ rest) ++ next ∷ []) script new_script
        → new_sources ≡ sources → Stops script new_script lines state sources new_sources
    -- the input of the next line's feed failed; a buffer of the script may have been read ahead
    InFeed : (line : List ℕ) (last : Bool) (ahead : List ℕ) (channel count : ℕ) (after : S) → All IsNoFeed line → length line ≤ LINE_OCTETS
        → machine.Asks state line (Feed channel count) after
        → Gives ((flat_map ended lines ++ (line ++ ending last)) ++ ahead) script new_script → length ahead ≤ BUFFER_OCTETS → (last ≡ true → (ahead ≡ []) × IsAtEnd new_script)
        → StepsAt (FailsWithin count) channel no_source sources new_sources → Stops script new_script lines state sources new_sources

  -- exactly these lines were served
  pub record ServedUpTo (old new : Devices) : Type 0 where
    pub lines : List (List ℕ)
    pub no_feeds : All (λ line. All IsNoFeed line) lines
    -- with any part of a line that may follow them, they are the lines that ended
    pub are_ended : (rest : List ℕ) → All IsNoFeed rest → ended_lines (flat_map ended lines ++ rest) ≡ lines
    pub answer : Answer S
    pub is_answer : LinesAnswer machine (honest_at old.inputs) start lines answer
    -- the inputs after these lines
    pub sources : List Source
    pub inputs : answer.run.inputs ≡ octets_to_come sources
    pub stops : Stops old.script new.script lines answer.run.state sources new.inputs
    pub writes : Writes (order_of answer.written) old.outputs new.outputs old.replies new.replies

  -- the script or an input failed, or the script goes on after the limit; nothing was passed on
  pub record EndsByRead (old new : Devices) : Type 0 where
    pub failed : HasFailedIn new.script ⊎ (Any HasFailedIn new.inputs ⊎ GoesOn old.script)
    pub passed : AllWait old.outputs new.outputs old.replies new.replies
    pub served : ServedUpTo old new

-- ---- what a call that serves a script answers

module _ {S : Type 0} (machine : Machine S) (state : S) (result : Result ℕ PortsFault) (old new : Devices) where
  -- where it answers so many refused lines, all was served, and passed on
  abbrev pub AllIsServed : Type 0
  AllIsServed = IfOk result (λ refused. EndsWell machine (run_of state old.inputs) refused old new)

  -- where a script or an input failed, exactly some lines were served
  abbrev pub IsStoppedByRead : Type 0
  IsStoppedByRead = IsErrOf result Read → EndsByRead machine (run_of state old.inputs) old new

  -- where an output or the replies failed, the first lines were served
  abbrev pub IsStoppedByWrite : Type 0
  IsStoppedByWrite = IsErrOf result Write → EndsByWrite machine (run_of state old.inputs) old new
