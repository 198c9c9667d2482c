-- What a call does with the machine behind an open handle.
use Rattle.std.specs.Prelude.{ℕ, ℤ, Bool, ◌≡◌, ◌≢◌, ◌≤◌, true, Some, None, is_some, Result, Err, IfOk, List, [], length, take, drop}
use Rattle.ialg.specs.declared.TheConstants.{BLOCK_SAMPLES, PARAMETER_WORDS}
use Rattle.ialg.specs.declared.refusal.Refusal.{Refusal}
use Rattle.ialg.specs.Meaning.{Status}
use Rattle.ialg.specs.Meaning.Status.{Done, Words}
use Rattle.ialg.specs.History.Ctl.{Get, Set}
use Rattle.mem_rec.specs.declared.Space.{Space}
use Rattle.host_map.specs.Activity.{Activity}
use Rattle.host_map.specs.declared.TheConstants.{MAP_BLOCKS}
use Rattle.host_map.specs.declared.placed.Placed.{Placed}
use Rattle.dsp_library.specs.declared.spaces.BlockShown.{BlockShown}
use Rattle.gateway_kinds.specs.Kinds.{Kind}
use Rattle.gateway_kinds.specs.Keeps.{kind_laws}
use Rattle.channel_spec.specs.Calls.{Call}
use Rattle.channel_spec.specs.Calls.Call.{Chain, Ready, Feed, OfHost}
use Rattle.host_spec.specs.Calls.Call.{Create, Control, Step, Compact, Copied, Map, Release, Stat}
use Rattle.channel_spec.specs.Channels.{Channels}
use Rattle.voice_channel.specs.Channels.{ChannelsState, ChannelsRefine, ChannelsCallRefines}
use Rattle.voice_channel.specs.declared.TheConstants.{MEMBERS}
use Rattle.dsp_library.specs.declared.machine.Machine.{Machine}
use Rattle.dsp_library.specs.declared.handle.Handle.{Handle}
use Rattle.dsp_library.specs.declared.handle.Options.{Options}
use Rattle.dsp_library.specs.declared.TheConstants.{DONE, CLOSED, BAD_LENGTH, BAD_KIND, BAD_SPACE, MARK}
use Rattle.dsp_library.specs.Codes.{kind_numbered, space_numbered, opened_state, code_of, full_after, flag_code, active_code, AreShown, StayBehind}

-- a handle that these functions made, or that was never opened: an open one has a machine, and a closed one has none
pub record IsHandle (handle : Handle) : Type 0 where
  pub opened : handle.mark ≡ MARK → is_some handle.held.machine ≡ true
  pub shut : handle.mark ≢ MARK → handle.held.machine ≡ None

-- the channels behind a handle refine a state of the machine
abbrev pub LibraryRefines : ChannelsState Kind → Channels Kind → Type 0
LibraryRefines = ChannelsRefine kind_laws

-- whatever state the channels refined, the call was answered as the machine may answer it there, and they refine a state that comes after it
abbrev pub LibraryCallRefines : Call Kind → Machine → Machine → Type 0
LibraryCallRefines call old new = ChannelsCallRefines kind_laws call old.channels new.channels

-- the machine takes a call whose answer has this code, and the handle has it as it is then
pub record Answers {A : Type 0} (call : Result A Refusal → Call Kind) (old : Machine) (new : Handle) (code : ℤ) : Type 0 where
  pub answer : Result A Refusal
  pub after : Machine
  pub coded : code ≡ code_of answer
  pub kept : new.held.machine ≡ Some after
  pub refines : LibraryCallRefines (call answer) old after

-- the machine creates an instance or refuses to, and tells which space has no room
pub record Creates (i : ℕ) (kind : Kind) (g : ℕ) (parameters : List ℤ) (old : Machine) (new : Handle) (code : ℤ) (before full : ℕ) : Type 0 where
  pub answer : Result (Unit {0}) Refusal
  pub after : Machine
  pub coded : code ≡ code_of answer
  pub told : full ≡ full_after answer before
  pub kept : new.held.machine ≡ Some after
  pub refines : LibraryCallRefines (OfHost (Create i kind g parameters answer)) old after

-- the channel isn't ready, and nothing is written; or the block passes through it, and what it gave stands in the first places
pub data FeedEnds (channel : ℕ) (block : List ℤ) (old after : Machine) (code : ℤ) (room out : List ℤ) (count : ℕ) : Type 0 where
  Refused : (refusal : Refusal) → code ≡ code_of {A = Unit {0}} (Err refusal) → LibraryCallRefines (Ready channel (Err refusal)) old after → FeedEnds channel block old after code room out count
  Given : (given : List ℤ) → code ≡ DONE → count ≡ length given → take (length given) out ≡ given → drop (length given) out ≡ drop (length given) room
      → LibraryCallRefines (Feed channel block given) old after → FeedEnds channel block old after code room out count

pub record Feeds (channel : ℕ) (block : List ℤ) (old : Machine) (new : Handle) (code : ℤ) (room out : List ℤ) (count : ℕ) : Type 0 where
  pub after : Machine
  pub kept : new.held.machine ≡ Some after
  pub ends : FeedEnds channel block old after code room out count

-- the words of a status, none where it tells none
abbrev pub words_told : Status → List ℤ
words_told Done = []
words_told (Words words) = words

-- the words of a status stand in the first places, this is their count, and behind them all is as it was
abbrev pub AreTold : Status → (room words : List ℤ) → ℕ → Type 0
AreTold status room words count =
    (count ≡ length (words_told status)) × (take (length (words_told status)) words ≡ words_told status)
    × (drop (length (words_told status)) words ≡ drop (length (words_told status)) room)

-- the machine takes `get`, and the words of its answer stand in the first places
pub record Gets (i : ℕ) (old : Machine) (new : Handle) (code : ℤ) (room words : List ℤ) (count : ℕ) : Type 0 where
  pub answer : Result Status Refusal
  pub after : Machine
  pub coded : code ≡ code_of answer
  pub kept : new.held.machine ≡ Some after
  pub refines : LibraryCallRefines (OfHost (Control i Get answer)) old after
  pub told : IfOk answer (λ status. AreTold status room words count)

-- the calls that are never refused: their answer, and the handle as it is then
pub record Steps (space : Space) (old : Machine) (new : Handle) (moved : ℕ) : Type 0 where
  pub answer : Bool
  pub after : Machine
  pub told : moved ≡ flag_code answer
  pub kept : new.held.machine ≡ Some after
  pub refines : LibraryCallRefines (OfHost (Step space answer)) old after

pub record Compacts (space : Space) (old : Machine) (new : Handle) (moved : ℕ) : Type 0 where
  pub after : Machine
  pub kept : new.held.machine ≡ Some after
  pub refines : LibraryCallRefines (OfHost (Compact space moved)) old after

pub record Copies (old : Machine) (new : Handle) (words : ℕ) : Type 0 where
  pub kept : new.held.machine ≡ Some old
  pub refines : LibraryCallRefines (OfHost (Copied words)) old old

pub record Maps (space : Space) (old : Machine) (new : Handle) (room blocks : List BlockShown) (count : ℕ) : Type 0 where
  pub answer : List Placed
  pub kept : new.held.machine ≡ Some old
  pub counted : count ≡ length answer
  pub shown : AreShown answer blocks
  pub rest : StayBehind count room blocks
  pub refines : LibraryCallRefines (OfHost (Map space answer)) old old

-- those of a group
pub record Releases (g : ℕ) (old : Machine) (new : Handle) (code : ℤ) (released : ℕ) : Type 0 where
  pub answer : Result Bool Refusal
  pub after : Machine
  pub coded : code ≡ code_of answer
  pub told : IfOk answer (λ active. released ≡ flag_code active)
  pub kept : new.held.machine ≡ Some after
  pub refines : LibraryCallRefines (OfHost (Release g answer)) old after

pub record Stats (g : ℕ) (old : Machine) (new : Handle) (code active : ℤ) (activations : ℕ) : Type 0 where
  pub answer : Result Activity Refusal
  pub coded : code ≡ code_of answer
  pub told : IfOk answer (λ activity. (active ≡ active_code activity.active) × (activations ≡ activity.count))
  pub kept : new.held.machine ≡ Some old
  pub refines : LibraryCallRefines (OfHost (Stat g answer)) old old

-- ---- what a call can be given

-- no more words than parameters may have
abbrev pub FitsParameters : List ℤ → Type 0
FitsParameters words = length words ≤ PARAMETER_WORDS

-- room for all the words that parameters may have
abbrev pub HoldsParameters : List ℤ → Type 0
HoldsParameters words = PARAMETER_WORDS ≤ length words

-- one number at least, and no more than a channel may have members
abbrev pub FitsChannel : List ℕ → Type 0
FitsChannel members = (1 ≤ length members) × (length members ≤ MEMBERS)

-- one sample at least, no more than a block may have, and room for as many
abbrev pub CanBeFed : List ℤ → List ℤ → Type 0
CanBeFed input out = (1 ≤ length input) × (length input ≤ BLOCK_SAMPLES) × (length input ≤ length out)

-- ---- what a call answers, by how its handle was, and how it leaves the handle

-- where the handle is open and no space has the number, the answer is BAD_SPACE
abbrev pub RefusesSpace : Handle → ℕ → ℤ → Type 0
RefusesSpace old space code = old.mark ≡ MARK → space_numbered space ≡ None → code ≡ BAD_SPACE

-- where it is open, a space has the number, and the blocks of a map may not fit, the answer is BAD_LENGTH
abbrev pub RefusesMap : Handle → ℕ → List BlockShown → ℤ → Type 0
RefusesMap old space blocks code = old.mark ≡ MARK → space_numbered space ≢ None → ¬ (MAP_BLOCKS ≤ length blocks) → code ≡ BAD_LENGTH

-- the handle is open, and its channels refine the state that these options open
abbrev pub IsOpenedWith : Options → Handle → Type 0
IsOpenedWith options new = (new.mark ≡ MARK) × ((m : Machine) × (new.held.machine ≡ Some m) × LibraryRefines m.channels (opened_state options))

-- the handle is closed, and has no machine
abbrev pub IsShut : Handle → Type 0
IsShut new = (new.mark ≢ MARK) × (new.held.machine ≡ None)

-- the handle before and after the call, and the code of the answer
module _ (old new : Handle) (code : ℤ) where
  -- where it is closed, the answer is CLOSED, and it stays as it was
  abbrev pub RefusesClosed : Type 0
  RefusesClosed = old.mark ≢ MARK → (code ≡ CLOSED) × (new ≡ old)

  -- where it is open and no kind has the number, the answer is BAD_KIND, and it stays as it was
  abbrev pub RefusesKind : ℕ → Type 0
  RefusesKind kind = old.mark ≡ MARK → kind_numbered kind ≡ None → (code ≡ BAD_KIND) × (new ≡ old)

  -- where it is open, a kind has the number, and there are too many parameters, the answer is BAD_LENGTH, and it stays as it was
  abbrev pub RefusesParameters : ℕ → List ℤ → Type 0
  RefusesParameters kind parameters = old.mark ≡ MARK → kind_numbered kind ≢ None → ¬ (length parameters ≤ PARAMETER_WORDS)
      → (code ≡ BAD_LENGTH) × (new ≡ old)

  -- where it is open and the lengths don't fit, the answer is BAD_LENGTH, and it stays as it was
  abbrev pub RefusesUnless : Type 0 → Type 0
  RefusesUnless Fits = old.mark ≡ MARK → ¬ Fits → (code ≡ BAD_LENGTH) × (new ≡ old)

  -- where it is open, its machine takes the call
  abbrev pub Takes : {A : Type 0} → (Result A Refusal → Call Kind) → Type 0
  Takes call = (m : Machine) → old.mark ≡ MARK → old.held.machine ≡ Some m → Answers call m new code

  -- where it is open, a kind has the number, and there are no more parameters than may be, its machine creates an instance or refuses to
  abbrev pub TakesCreation : ℕ → ℕ → ℕ → List ℤ → ℕ → ℕ → Type 0
  TakesCreation i kind g parameters before full = (m : Machine) (k : Kind) → old.mark ≡ MARK → old.held.machine ≡ Some m
      → kind_numbered kind ≡ Some k → length parameters ≤ PARAMETER_WORDS
      → Creates i k g parameters m new code before full

  -- where it is open and there are 1 to MEMBERS members, its machine chains them or refuses to
  abbrev pub TakesChain : ℕ → List ℕ → Type 0
  TakesChain channel members = (m : Machine) → old.mark ≡ MARK → old.held.machine ≡ Some m
      → 1 ≤ length members → length members ≤ MEMBERS
      → Answers (λ answer. Chain channel members answer) m new code

  -- where it is open and there are no more words than may be, its machine takes `set`
  abbrev pub TakesSet : ℕ → List ℤ → Type 0
  TakesSet i words = (m : Machine) → old.mark ≡ MARK → old.held.machine ≡ Some m → length words ≤ PARAMETER_WORDS
      → Answers (λ answer. OfHost (Control i (Set words) answer)) m new code

  -- where it is open and there is room for the words, its machine takes `get`
  abbrev pub TakesGet : ℕ → (room words : List ℤ) → ℕ → Type 0
  TakesGet i room words count = (m : Machine) → old.mark ≡ MARK → old.held.machine ≡ Some m → PARAMETER_WORDS ≤ length room
      → Gets i m new code room words count

  -- where it is open, and there is a block and room for as many samples, its machine passes the block through the channel or refuses it
  abbrev pub TakesFeed : ℕ → (input room out : List ℤ) → ℕ → Type 0
  TakesFeed channel input room out count = (m : Machine) → old.mark ≡ MARK → old.held.machine ≡ Some m
      → 1 ≤ length input → length input ≤ BLOCK_SAMPLES → length input ≤ length room
      → Feeds channel input m new code room out count

  -- where it is open and a space has the number, its machine makes a step there
  abbrev pub TakesStep : ℕ → ℕ → Type 0
  TakesStep space moved = (m : Machine) (s : Space) → old.mark ≡ MARK → old.held.machine ≡ Some m → space_numbered space ≡ Some s
      → (code ≡ DONE) × Steps s m new moved

  -- where it is open and a space has the number, its machine compacts it
  abbrev pub TakesCompaction : ℕ → ℕ → Type 0
  TakesCompaction space moved = (m : Machine) (s : Space) → old.mark ≡ MARK → old.held.machine ≡ Some m → space_numbered space ≡ Some s
      → (code ≡ DONE) × Compacts s m new moved

  -- where it is open, its machine tells the words that moves have copied
  abbrev pub TellsCopied : ℕ → Type 0
  TellsCopied words = (m : Machine) → old.mark ≡ MARK → old.held.machine ≡ Some m → (code ≡ DONE) × Copies m new words

  -- where it is open, a space has the number, and the blocks of a map fit, its machine tells them
  abbrev pub TellsMap : ℕ → (room blocks : List BlockShown) → ℕ → Type 0
  TellsMap space room blocks count = (m : Machine) (s : Space) → old.mark ≡ MARK → old.held.machine ≡ Some m → space_numbered space ≡ Some s
      → MAP_BLOCKS ≤ length room → (code ≡ DONE) × Maps s m new room blocks count

  -- where it is open, its machine releases the group or refuses to
  abbrev pub TakesRelease : ℕ → ℕ → Type 0
  TakesRelease g released = (m : Machine) → old.mark ≡ MARK → old.held.machine ≡ Some m → Releases g m new code released

  -- where it is open, its machine tells of the group or refuses to
  abbrev pub TellsStat : ℕ → ℤ → ℕ → Type 0
  TellsStat g active activations = (m : Machine) → old.mark ≡ MARK → old.held.machine ≡ Some m → Stats g m new code active activations
