-- Which samples a reply tells of.
use Rattle.std.specs.Prelude.{◌≡◌, ◌≢◌, ◌⊎◌, ◌<◌, ◌≤◌, ◌++◌, ℕ, List, [], ◌∷◌, Option, length, take, All, Any, IsSomeAnd, slice_get, slice_index_or}
use Rattle.std.specs.Io.KnownBytes.{Appends}
use Rattle.octet_ports.specs.declared.waiting.Waiting.{Waiting}
use Rattle.octet_ports.specs.declared.journal.Journal.{Journal}
use Rattle.octet_ports.specs.declared.marks.Mark.{Mark}
use Rattle.octet_ports.specs.Passing.{HasNothing}

-- the mark's output took the mark's samples when it was last passed on
abbrev pub IsTaken : {W : Type 0} → List (Waiting W) → Mark → Type 0
IsTaken outputs mark = IsSomeAnd (slice_get outputs mark.output) (λ output. mark.least ≤ output.taken)

-- the device was given the first octets of the replies that waited: all samples that these tell of were taken
pub record TellsTruth {W R : Type 0} (contents : R → Option (List ℕ)) (marks : List Mark) (outputs : List (Waiting W)) (old new : Waiting R) : Type 0 where
  pub count : ℕ
  pub within : count ≤ length old.octets.items
  pub gives : Appends (contents old.writer) (contents new.writer) (take count old.octets.items)
  pub sure : new.taken ≤ count
  pub truth : All (λ mark. mark.before < count → IsTaken outputs mark) marks

-- a mark is of all that waits for this output, behind all the replies that wait
abbrev pub IsMarked : {W R : Type 0} → ℕ → List (Waiting W) → Waiting R → List Mark → Type 0
IsMarked number outputs replies marks =
    Any (λ mark. (mark.output ≡ number) × (mark.before ≡ length replies.octets.items) × IsSomeAnd (slice_get outputs number) (λ output. mark.least ≡ length output.octets.items)) marks

-- the marks stand, or no sample waits that one could be of
abbrev pub KeepsMarks : {W : Type 0} → List Mark → List Mark → List (Waiting W) → Type 0
KeepsMarks old new outputs = (new ≡ old) ⊎ ((new ≡ []) × All HasNothing outputs)

-- a journal's marks stand, or no sample waits that one could be of
abbrev pub Remembers : {W R : Type 0} → Journal W R → Journal W R → Type 0
Remembers old new = KeepsMarks old.marks.items new.marks.items new.outputs.items

-- the marks stand and one more behind them, or there is that one alone, and no sample waits but for its output
abbrev pub MarksOneMore : {W : Type 0} → ℕ → List Mark → List Mark → List (Waiting W) → Type 0
MarksOneMore {W} number old new outputs = (mark : Mark) × ((new ≡ old ++ mark ∷ [])
    ⊎ ((new ≡ mark ∷ []) × ((k : ℕ) (d : Waiting W) → k < length outputs → k ≢ number → HasNothing (slice_index_or outputs k d))))
