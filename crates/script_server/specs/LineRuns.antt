-- For private clauses alone: what a line did to the ports, and what a fault ended.
use Rattle.std.specs.Prelude.{◌≡◌, ℕ, ◌<◌, ◌≤◌, Bool, true, List, [], ◌++◌, map, length, slice_index_or, All, Any, IfErr, IfOk, IsErrOf, Result, if◌then◌else◌}
use Rattle.std.specs.declared.vec.Vec.{Vec}
use Rattle.octet_ports.specs.Ports.{Source, Sink}
use Rattle.octet_ports.specs.Lines.{IsLine}
use Rattle.voice_script.specs.Served.{Machine, Run, Answer, Octet, order_of, refusals, Feed, FeedAnswer, LineAnswer}
use Rattle.voice_script.specs.Widths.{Widths, octet_count}
use Rattle.script_server.specs.Runs.{IsHonest, IsReadyIn, IsReadyOut, HasFailedIn, HasFailedOut, Writes, StepsAt, FailsWithin, Devices, EndsByRead, EndsByWrite, ServesAll, no_sink, no_source, run_of}
use Rattle.script_server.specs.declared.serving.PortsFault.{PortsFault}
use Rattle.script_server.specs.declared.serving.PortsFault.TheVariants.{Read, Write}
use Rattle.voice_script.specs.declared.limits.TheConstants.{LINE_OCTETS}

-- those of the inputs that are said to be honest are
abbrev pub AreHonest : (ℕ → Bool) → List Source → Type 0
AreHonest honest sources = (channel : ℕ) → channel < length sources → honest channel ≡ true → IsHonest (slice_index_or sources channel no_source)

-- the ports together hold the first of these more, in their one order
pub record WritesFirst (order : List Octet) (outputs new_outputs : List Sink) (replies new_replies : Sink) : Type 0 where
  pub first : List Octet
  pub later : List Octet
  pub is_first : order ≡ first ++ later
  pub writes : Writes first outputs new_outputs replies new_replies

-- such an answer was given whole
pub record IsServed {S : Type 0} (keeps : S → Type 0) (honest : ℕ → Bool) (MayAnswer : Answer S → Type 0) (refused : Bool)
    (sources : List Source) (outputs new_outputs : List Sink) (replies new_replies : Sink) : Type 0 where
  pub answer : Answer S
  pub is_answer : MayAnswer answer
  pub kept : keeps answer.run.state
  pub still : AreHonest honest sources
  pub inputs : answer.run.inputs ≡ map (λ s. s.coming) sources
  pub writes : Writes (order_of answer.written) outputs new_outputs replies new_replies
  pub counted : refusals answer.written ≡ (if refused then 1 else 0)

-- such an answer was cut: its input was read, and the first of what it has was written
pub record IsCut {S : Type 0} (MayAnswer : Answer S → Type 0) (sources : List Source) (outputs new_outputs : List Sink) (replies new_replies : Sink) : Type 0 where
  pub answer : Answer S
  pub is_answer : MayAnswer answer
  pub inputs : answer.run.inputs ≡ map (λ s. s.coming) sources
  pub writes : WritesFirst (order_of answer.written) outputs new_outputs replies new_replies

-- a line's feed was not given, since its channel's input failed, and nothing was written
pub record IsUnfed {S : Type 0} (machine : Machine S) (state : S) (line : List ℕ) (sources new_sources : List Source)
    (outputs new_outputs : List Sink) (replies new_replies : Sink) : Type 0 where
  pub fits : length line ≤ LINE_OCTETS
  pub channel : ℕ
  pub count : ℕ
  pub after : S
  pub asks : machine.Asks state line (Feed channel count) after
  pub input : StepsAt (FailsWithin count) channel no_source sources new_sources
  pub writes : Writes [] outputs new_outputs replies new_replies

-- a run ended by this fault
abbrev pub EndsBy : {S : Type 0} → Machine S → Run S → PortsFault → Devices → Devices → Type 0
EndsBy machine start Read old new = EndsByRead machine start old new
EndsBy machine start Write old new = EndsByWrite machine start old new

-- ---- several inputs or outputs of one kind

module _ {I X : Type 0} (source : I → Source) where
  abbrev pub AllReadyIn : Vec I X → Type 0
  AllReadyIn inputs = All IsReadyIn (map source inputs.items)

  abbrev pub AnyFailedIn : Vec I X → Type 0
  AnyFailedIn inputs = Any HasFailedIn (map source inputs.items)

  -- the input of this number went a step, and the others stayed
  abbrev pub InputSteps : (Source → Source → Type 0) → ℕ → (inputs new_inputs : Vec I X) → Type 0
  InputSteps Step channel inputs new_inputs = StepsAt Step channel no_source (map source inputs.items) (map source new_inputs.items)

module _ {O Y : Type 0} (sink : O → Sink) where
  abbrev pub AllReadyOut : Vec O Y → Type 0
  AllReadyOut outputs = All IsReadyOut (map sink outputs.items)

  abbrev pub AnyFailedOut : Vec O Y → Type 0
  AnyFailedOut outputs = Any HasFailedOut (map sink outputs.items)

  -- the output of this number went a step, and the others stayed
  abbrev pub OutputSteps : (Sink → Sink → Type 0) → ℕ → (outputs new_outputs : Vec O Y) → Type 0
  OutputSteps Step channel outputs new_outputs = StepsAt Step channel no_sink (map sink outputs.items) (map sink new_outputs.items)

-- ---- what a call that serves a line answers

-- what is known of the ports that a line may use
pub record LinePorts : Type 0 where
  pub inputs : List Source
  pub outputs : List Sink
  pub replies : Sink

-- this came to pass, by what was known of the ports before and what is known of them now
abbrev pub OverLine : {I O P X Y : Type 0} → (I → Source) → (O → Sink) → (P → Sink) → (LinePorts → LinePorts → Type 0) → (was is : Vec I X) → (had has : Vec O Y) → (before after : P) → Type 0
OverLine i o p Happens was is had has before after =
    Happens (record { inputs = map i was.items; outputs = map o had.items; replies = p before }) (record { inputs = map i is.items; outputs = map o has.items; replies = p after })

-- nothing was written
abbrev pub NothingWritten : LinePorts → LinePorts → Type 0
NothingWritten old new = Writes [] old.outputs new.outputs old.replies new.replies

-- by a machine with ports of these widths that kept this state
module _ {S : Type 0} (machine : Widths → Machine S) (widths : Widths) (kept : S → Type 0) where
  -- a feed of so many samples may be answered so
  abbrev pub FeedMayAnswer : (ℕ → Bool) → S → List Source → (channel samples : ℕ) → Answer S → Type 0
  FeedMayAnswer honest s sources channel samples = FeedAnswer (machine widths) honest (run_of s sources) channel (octet_count (widths.input channel) samples)

  -- the feed was served whole, where the call answers whether it was refused
  abbrev pub FeedIsServed : (keeps : S → Type 0) → (channel samples : ℕ) → Result Bool PortsFault → LinePorts → LinePorts → Type 0
  FeedIsServed keeps channel samples result old new =
      IfOk result (λ refused. (s : S) (honest : ℕ → Bool) → kept s → AreHonest honest old.inputs
      → IsServed keeps honest (FeedMayAnswer honest s old.inputs channel samples) refused new.inputs old.outputs new.outputs old.replies new.replies)

  -- the feed's answer was cut, where an output or the replies failed
  abbrev pub FeedIsCut : (channel samples : ℕ) → Result Bool PortsFault → LinePorts → LinePorts → Type 0
  FeedIsCut channel samples result old new =
      IsErrOf result Write → (s : S) (honest : ℕ → Bool) → kept s → AreHonest honest old.inputs
      → IsCut (FeedMayAnswer honest s old.inputs channel samples) new.inputs old.outputs new.outputs old.replies new.replies

  -- the line was served whole, where the call answers whether it was refused
  abbrev pub LineIsServed : (keeps : S → Type 0) → (line : List ℕ) (long : Bool) → Result Bool PortsFault → LinePorts → LinePorts → Type 0
  LineIsServed keeps line long result old new =
      IfOk result (λ refused. (octets : List ℕ) (s : S) (honest : ℕ → Bool) → IsLine LINE_OCTETS line long octets → kept s → AreHonest honest old.inputs
      → IsServed keeps honest (LineAnswer (machine widths) honest (run_of s old.inputs) octets) refused new.inputs old.outputs new.outputs old.replies new.replies)

  -- the line's answer was cut, where an output or the replies failed
  abbrev pub LineIsCut : (line : List ℕ) (long : Bool) → Result Bool PortsFault → LinePorts → LinePorts → Type 0
  LineIsCut line long result old new =
      IsErrOf result Write → (octets : List ℕ) (s : S) (honest : ℕ → Bool) → IsLine LINE_OCTETS line long octets → kept s → AreHonest honest old.inputs
      → IsCut (LineAnswer (machine widths) honest (run_of s old.inputs) octets) new.inputs old.outputs new.outputs old.replies new.replies

  -- the line's feed was not given, where an input failed
  abbrev pub LineIsUnfed : (line : List ℕ) (long : Bool) → Result Bool PortsFault → LinePorts → LinePorts → Type 0
  LineIsUnfed line long result old new =
      IsErrOf result Read → (octets : List ℕ) (s : S) → IsLine LINE_OCTETS line long octets → kept s
      → IsUnfed (machine widths) s octets old.inputs new.inputs old.outputs new.outputs old.replies new.replies

-- ---- what a call that serves the lines of a script answers, before the ports are flushed

module _ {S : Type 0} (machine : Machine S) (state : S) (result : Result ℕ PortsFault) (old new : Devices) where
  -- where it answers so many refused lines, all was served
  abbrev pub AllLinesAreServed : Type 0
  AllLinesAreServed = IfOk result (λ refused. ServesAll machine (run_of state old.inputs) refused old new)

  -- and else a fault ended the run
  abbrev pub IsStopped : Type 0
  IsStopped = IfErr result (λ fault. EndsBy machine (run_of state old.inputs) fault old new)
