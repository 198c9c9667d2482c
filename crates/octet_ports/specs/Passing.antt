-- What is passed on to devices.
use Rattle.std.specs.Prelude.{◌≡◌, ◌≢◌, ◌<◌, ◌≤◌, ℕ, List, [], ◌∷◌, ◌++◌, length, take, Option, slice_index_or}
use Rattle.octet_ports.specs.declared.TheConstants.{LINE_FEED}
use Rattle.std.specs.Io.KnownBytes.{Appends, append_known}
use Rattle.octet_ports.specs.declared.waiting.TheConstants.{JOURNAL_OCTETS}
use Rattle.octet_ports.specs.declared.waiting.Waiting.{Waiting}
use Rattle.octet_ports.specs.declared.journal.Journal.{Journal}

-- each value of a list does this, in its place
pub record EachDoes {X : Type 0} (Does : X → X → Type 0) (olds news : List X) : Type 0 where
  pub count : length news ≡ length olds
  pub each : (k : ℕ) (d : X) → k < length olds → Does (slice_index_or olds k d) (slice_index_or news k d)

-- the last octet ends a line
abbrev pub EndsLine : List ℕ → Type 0
EndsLine octets = (front : List ℕ) × (octets ≡ front ++ LINE_FEED ∷ [])

module _ {W : Type 0} where
  -- the device was given the first octets of what waited, so many at most, and surely has the first of these
  pub record PassesFirst (contents : W → Option (List ℕ)) (most : ℕ) (old new : Waiting W) : Type 0 where
    pub count : ℕ
    pub within : count ≤ most
    pub gives : Appends (contents old.writer) (contents new.writer) (take count old.octets.items)
    pub sure : new.taken ≤ count

  -- the device was given a first part of what waited
  abbrev pub PassesOn : (W → Option (List ℕ)) → Waiting W → Waiting W → Type 0
  PassesOn contents old new = PassesFirst contents (length old.octets.items) old new

  -- the device has all that waited
  abbrev pub TakesAll : Waiting W → Waiting W → Type 0
  TakesAll old new = new.taken ≡ length old.octets.items

  -- nothing waits for the device
  abbrev pub HasNothing : Waiting W → Type 0
  HasNothing waiting = waiting.octets.items ≡ []

  -- there is room for an octet more
  abbrev pub HasRoom : Waiting W → Type 0
  HasRoom waiting = length waiting.octets.items < JOURNAL_OCTETS

  abbrev pub HasRoomAt : ℕ → List (Waiting W) → Type 0
  HasRoomAt number outputs = (d : Waiting W) → HasRoom (slice_index_or outputs number d)

  -- these octets wait, behind all others
  abbrev pub WaitsLast : List ℕ → Waiting W → Type 0
  WaitsLast octets waiting = (front : List ℕ) × (waiting.octets.items ≡ front ++ octets)

  abbrev pub WaitsLastAt : ℕ → List ℕ → List (Waiting W) → Type 0
  WaitsLastAt number octets outputs = (d : Waiting W) → WaitsLast octets (slice_index_or outputs number d)

  -- what the device holds, where that is known, and then what waits for it
  abbrev pub held_then_waiting : (W → Option (List ℕ)) → Waiting W → Option (List ℕ)
  held_then_waiting contents waiting = append_known (contents waiting.writer) waiting.octets.items

  -- these octets came behind all that the device held and all that waited for it, and nothing of that was lost
  abbrev pub Gets : (W → Option (List ℕ)) → List ℕ → Waiting W → Waiting W → Type 0
  Gets contents octets old new = Appends (held_then_waiting contents old) (held_then_waiting contents new) octets

  abbrev pub LosesNothing : (W → Option (List ℕ)) → Waiting W → Waiting W → Type 0
  LosesNothing contents old new = Gets contents [] old new

  -- the output of this number got these octets, and none lost anything
  pub record GetsAt (contents : W → Option (List ℕ)) (number : ℕ) (octets : List ℕ) (olds news : List (Waiting W)) : Type 0 where
    pub count : length news ≡ length olds
    pub there : (d : Waiting W) → number < length olds → Gets contents octets (slice_index_or olds number d) (slice_index_or news number d)
    pub others : (k : ℕ) (d : Waiting W) → k < length olds → k ≢ number → LosesNothing contents (slice_index_or olds k d) (slice_index_or news k d)

  -- the device holds what it held, and took what it took
  pub record HoldsStill (old new : Waiting W) : Type 0 where
    pub writer : new.writer ≡ old.writer
    pub taken : new.taken ≡ old.taken

-- what the devices held and what waited for them, the replies' among them, they hold or it waits
abbrev pub NothingIsLost : {W R : Type 0} → (W → Option (List ℕ)) → (R → Option (List ℕ)) → Journal W R → Journal W R → Type 0
NothingIsLost contents contents_of_replies old new =
    EachDoes (LosesNothing contents) old.outputs.items new.outputs.items × LosesNothing contents_of_replies old.replies new.replies
