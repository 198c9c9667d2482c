-- What a call of one instance does, with its own pieces, those that it shares at their owners, and its group.
use Rattle.std.specs.Prelude.{ℕ, ℤ, ◌≡◌, ◌++◌, ◌<◌, ◌≤◌, List, [], length, Option, Some, None}
use Rattle.space_raw.specs.Span.{Span}
use Rattle.mem_rec.specs.declared.Space.{Space}
use Rattle.ialg.specs.History.{Ctl, with_samples}
use Rattle.ialg.specs.Log.{Log, begun, called, fed, Activate, Deactivate, Moved}
use Rattle.ialg.specs.Meaning.{Status}
use Rattle.ialg.specs.Laws.{Laws}
use Rattle.ialg.specs.Records.{unplaced, AreNew}
use Rattle.record_loans.specs.declared.pieces.Pieces.{Pieces}
use Rattle.record_loans.specs.Pieces.{SamePieces}
use Rattle.record_loans.specs.Blocks.{IsSameBlock}
use Rattle.scratch_group.specs.declared.group.Group.{Group}
use Rattle.scratch_group.specs.Blocks.{block_in, BlocksArePoison, SameGroup}
use Rattle.scratch_group.specs.Words.{idle_words}
use Rattle.host_map.specs.Activity.{count_after}
use Rattle.host_shared.specs.declared.locations.Locations.{Locations}
use Rattle.host_shared.specs.Locations.{shared_at}
use Rattle.host_shared.specs.Owners.{HasOwners, with_pieces_of}
use Rattle.lifecycle.specs.declared.instance.Instance.{Instance}
use Rattle.lifecycle.specs.declared.active.Active.{Active}
use Rattle.lifecycle.specs.declared.idle.Idle.{Idle}
use Rattle.lifecycle.specs.Keeping.{Answers, Obeys}
use Rattle.lifecycle.specs.Moves.{with_back, HasRoom, settled}
use Rattle.lifecycle.specs.States.{Fits, SameInstance, SameOnce, IsLawful, IdleRefines, ActiveRefines, all_outputs}

-- the instance of this number has locations and owners for its records, which fit
pub record CanBeLent {M : Type 0} (s : Instance M) (sharing : List Locations) (i : ℕ) (g : Group) : Type 0 where
  pub number : i < length sharing
  pub owners : HasOwners sharing i
  pub fits : Fits s.table s.own (shared_at sharing i) g

-- the same, of some group: reading its words takes no scratch
abbrev pub CanBeRead : {M : Type 0} → Instance M → List Locations → ℕ → Type 0
CanBeRead s sharing i = (g : Group) × CanBeLent s sharing i g

-- the new instance of this number has locations and owners for its records, which have their places
pub record CanBegin {M : Type 0} (s : Instance M) (sharing : List Locations) (i : ℕ) (g : Group) : Type 0 where
  pub number : i < length sharing
  pub owners : HasOwners sharing i
  pub room : HasRoom s (shared_at sharing i) g

-- the instance of this number, with the piece that comes back, has locations and owners for its records, which have their places
abbrev pub CanBeLentAgain : {M : Type 0} → Instance M → Option (ℕ × Span) → List Locations → ℕ → Group → Type 0
CanBeLentAgain s back sharing i g = CanBegin (with_back s back) sharing i g

-- an idle instance was started: where the table is the one that its kind asks for, and its records are new ones, it begins its log
pub record HasBegun {M : Type 0} (laws : Laws M) (old new : Instance M) (shared shared' : Pieces) (g : Group) : Type 0 where
  pub same : SameInstance (settled old shared g) new
  pub pieces : SamePieces shared shared'
  pub fits : Fits new.table new.own shared' g
  pub keeps : (w : Option ℤ) → laws.meaning.table old.kind old.params.items ≡ Some (unplaced old.table)
      → AreNew w (laws.fill old.kind old.params.items) old.table (idle_words old.table old.own shared)
      → IdleRefines laws new w shared' begun

-- the idle instance of this number was started, and its pieces are at their owners
pub record WasStarted {M : Type 0} (laws : Laws M) (i : ℕ) (old new : Idle M) (sharing sharing' : List Locations) (g : Group) : Type 0 where
  pub seen : sharing' ≡ with_pieces_of sharing i (shared_at sharing' i)
  pub begun : HasBegun laws old.instance new.instance (shared_at sharing i) (shared_at sharing' i) g

-- an active instance was deactivated
pub record Deactivated {M : Type 0} (laws : Laws M) (poison : Option ℤ) (old new : Instance M) (shared shared' : Pieces) (g g' : Group) : Type 0 where
  pub same : SameInstance old new
  pub pieces : SamePieces shared shared'
  pub written : SameOnce old.table shared shared'
  pub blocks : (space : Space) → IsSameBlock (block_in g space) (block_in g' space)
  pub active : g'.active ≡ None
  pub activations : g'.activations ≡ g.activations
  pub poisoned : BlocksArePoison poison g'
  pub keeps : (w : Option ℤ) (l : Log) → ActiveRefines laws old w shared g l → IdleRefines laws new w shared' (called Deactivate l)

-- an idle one was activated
pub record Activated {M : Type 0} (laws : Laws M) (i : ℕ) (old new : Instance M) (shared shared' : Pieces) (g g' : Group) : Type 0 where
  pub same : SameInstance old new
  pub pieces : SamePieces shared shared'
  pub written : SameOnce old.table shared shared'
  pub blocks : (space : Space) → IsSameBlock (block_in g space) (block_in g' space)
  pub active : g'.active ≡ Some i
  pub activations : g'.activations ≡ count_after g.activations (Some i)
  pub keeps : (w : Option ℤ) (l : Log) → BlocksArePoison w g → IdleRefines laws old w shared l
      → ActiveRefines laws new w shared' g' (called Activate l)

-- an idle one was activated, and was given samples
pub record ActivatedAndRan {M : Type 0} (laws : Laws M) (i : ℕ) (input out : List ℤ) (old new : Instance M) (shared shared' : Pieces) (g g' : Group) : Type 0 where
  pub same : SameInstance old new
  pub pieces : SamePieces shared shared'
  pub written : SameOnce old.table shared shared'
  pub blocks : (space : Space) → IsSameBlock (block_in g space) (block_in g' space)
  pub active : g'.active ≡ Some i
  pub activations : g'.activations ≡ count_after g.activations (Some i)
  pub bounded : length out ≤ length input
  pub keeps : (w : Option ℤ) (l : Log) → BlocksArePoison w g → IdleRefines laws old w shared l
      → ActiveRefines laws new w shared' g' (fed (called Activate l) input)
  pub output : (w : Option ℤ) (l : Log) → IsLawful laws.meaning old w → BlocksArePoison w g → IdleRefines laws old w shared l
      → all_outputs laws.meaning old (with_samples l.history input) ≡ all_outputs laws.meaning old l.history ++ out

-- an active one was given samples
pub record Ran {M : Type 0} (laws : Laws M) (input out : List ℤ) (old new : Instance M) (shared shared' : Pieces) (g g' : Group) : Type 0 where
  pub same : SameInstance old new
  pub pieces : SamePieces shared shared'
  pub written : SameOnce old.table shared shared'
  pub group : SameGroup g g'
  pub bounded : length out ≤ length input
  pub keeps : (w : Option ℤ) (l : Log) → ActiveRefines laws old w shared g l → ActiveRefines laws new w shared' g' (fed l input)
  pub output : (w : Option ℤ) (l : Log) → IsLawful laws.meaning old w → ActiveRefines laws old w shared g l
      → all_outputs laws.meaning old (with_samples l.history input) ≡ all_outputs laws.meaning old l.history ++ out

-- an active one was given a control
pub record Controlled {M : Type 0} (laws : Laws M) (c : Ctl) (answer : Status) (old new : Instance M) (shared shared' : Pieces) (g g' : Group) : Type 0 where
  pub same : SameInstance old new
  pub pieces : SamePieces shared shared'
  pub written : SameOnce old.table shared shared'
  pub group : SameGroup g g'
  pub keeps : Obeys laws old shared g c new shared' g'
  pub status : Answers laws old shared g c answer

-- an idle instance was told that it ends
pub record Freed {M : Type 0} (old new : Instance M) (shared shared' : Pieces) : Type 0 where
  pub same : SameInstance old new
  pub pieces : SamePieces shared shared'
  pub written : SameOnce old.table shared shared'

-- an idle instance was told where its records lie now, with the piece that comes back
pub record Follows {M : Type 0} (laws : Laws M) (back : Option (ℕ × Span)) (old new : Instance M) (shared shared' : Pieces) (g : Group) : Type 0 where
  pub same : SameInstance (settled (with_back old back) shared g) new
  pub pieces : SamePieces shared shared'
  pub written : SameOnce new.table shared shared'
  pub fits : Fits new.table new.own shared' g
  pub keeps : (w : Option ℤ) (l : Log) → IdleRefines laws (with_back old back) w shared l → IdleRefines laws new w shared' (called Moved l)

-- an active instance was told, with the piece that comes back: it works in the same scratch memory
pub record ActiveFollows {M : Type 0} (laws : Laws M) (back : Option (ℕ × Span)) (old new : Instance M) (shared shared' : Pieces) (g g' : Group) : Type 0 where
  pub same : SameInstance (settled (with_back old back) shared g) new
  pub pieces : SamePieces shared shared'
  pub written : SameOnce new.table shared shared'
  pub group : SameGroup g g'
  pub fits : Fits new.table new.own shared' g'
  pub keeps : (w : Option ℤ) (l : Log) → ActiveRefines laws (with_back old back) w shared g l
      → ActiveRefines laws new w shared' g' (called Moved l)

-- each of these of instance i, whose write-once records are at their owners

abbrev pub DeactivatedSharing : {M : Type 0} → Laws M → Option ℤ → ℕ → Active M → Active M → List Locations → List Locations → Group → Group → Type 0
DeactivatedSharing laws poison i old new sharing sharing' g g' =
    Deactivated laws poison old.instance new.instance (shared_at sharing i) (shared_at sharing' i) g g'

abbrev pub ActivatedSharing : {M : Type 0} → Laws M → ℕ → Idle M → Idle M → List Locations → List Locations → Group → Group → Type 0
ActivatedSharing laws i old new sharing sharing' g g' =
    Activated laws i old.instance new.instance (shared_at sharing i) (shared_at sharing' i) g g'

abbrev pub ActivatedAndRanSharing : {M : Type 0} → Laws M → ℕ → List ℤ → List ℤ → Idle M → Idle M → List Locations → List Locations → Group → Group → Type 0
ActivatedAndRanSharing laws i input out old new sharing sharing' g g' =
    ActivatedAndRan laws i input out old.instance new.instance (shared_at sharing i) (shared_at sharing' i) g g'

abbrev pub RanSharing : {M : Type 0} → Laws M → ℕ → List ℤ → List ℤ → Active M → Active M → List Locations → List Locations → Group → Group → Type 0
RanSharing laws i input out old new sharing sharing' g g' =
    Ran laws input out old.instance new.instance (shared_at sharing i) (shared_at sharing' i) g g'

abbrev pub ControlledSharing : {M : Type 0} → Laws M → ℕ → Ctl → Status → Active M → Active M → List Locations → List Locations → Group → Group → Type 0
ControlledSharing laws i c answer old new sharing sharing' g g' =
    Controlled laws c answer old.instance new.instance (shared_at sharing i) (shared_at sharing' i) g g'

abbrev pub FreedSharing : {M : Type 0} → ℕ → Idle M → Idle M → List Locations → List Locations → Type 0
FreedSharing i old new sharing sharing' = Freed old.instance new.instance (shared_at sharing i) (shared_at sharing' i)

abbrev pub IdleFollows : {M : Type 0} → Laws M → Option (ℕ × Span) → ℕ → Idle M → List Locations → Idle M → List Locations → Group → Type 0
IdleFollows laws back i old sharing new sharing' g =
    Follows laws back old.instance new.instance (shared_at sharing i) (shared_at sharing' i) g

abbrev pub ActiveFollowsSharing : {M : Type 0} → Laws M → Option (ℕ × Span) → ℕ → Active M → List Locations → Active M → List Locations → Group → Group → Type 0
ActiveFollowsSharing laws back i old sharing new sharing' g g' =
    ActiveFollows laws back old.instance new.instance (shared_at sharing i) (shared_at sharing' i) g g'
