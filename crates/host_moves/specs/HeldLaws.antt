-- What the laws of what moves leave say.
use Rattle.std.specs.Prelude.{◌≡◌, ◌≢◌, ◌⊎◌, ◌<◌, ℕ, ℤ, true, List, length, Option, Some, nat_eq, if◌then◌else◌}
use Rattle.space_raw.specs.Span.{Span}
use Rattle.mem_rec.specs.declared.TheConstants.{TABLE_RECORDS, GROUPS}
use Rattle.mem_rec.specs.declared.Space.{Space}
use Rattle.ialg.specs.Log.{Log}
use Rattle.ialg.specs.Laws.{Laws}
use Rattle.ialg.specs.Records.{ArePoison}
use Rattle.record_loans.specs.declared.pieces.Pieces.{Pieces}
use Rattle.record_loans.specs.Pieces.{with_piece}
use Rattle.record_loans.specs.Blocks.{block_words}
use Rattle.scratch_group.specs.declared.group.Group.{Group}
use Rattle.scratch_group.specs.Blocks.{block_in}
use Rattle.lifecycle.specs.Moves.{HasRoom}
use Rattle.host_table.specs.declared.member.Member.{Member}
use Rattle.host_shared.specs.declared.locations.Locations.{Locations}
use Rattle.host_shared.specs.declared.locations.Location.TheVariants.{Here}
use Rattle.host_shared.specs.Locations.{location_at, locations_at, pieces_here, shared_at}
use Rattle.host_shared.specs.Owners.{AllHaveOwners}
use Rattle.host_table.specs.Table.{slot_at, group_at, instance_of, activity_at, TablesOk, TablesTold, ArePoisoned}
use Rattle.host_table.specs.Refinement.{SlotsRefine}
use Rattle.host_moves.specs.Waiting.{own_set, slid_to, holds_with, TablesBut, TablesWaiting, WordsStay}

-- where words stay, wherever they lie, each instance keeps its log
abbrev pub WordsKeepLogs : {M : Type 0} → Laws M → Type 0
WordsKeepLogs {M = M} laws =
    (w : Option ℤ) (logs : ℕ → Log) (instances instances' : List (Option (Member M))) (sharing sharing' : List Locations) (groups groups' : List Group)
    → TablesOk instances sharing groups → WordsStay instances sharing groups instances' sharing' groups'
    → SlotsRefine laws w instances sharing groups logs
    → SlotsRefine laws w instances' sharing' groups' logs

-- where the tables are consistent, all instances but any one are housed
abbrev pub AllButOneAreHoused : Type 0 → Type 0
AllButOneAreHoused M =
    (i : ℕ) (instances : List (Option (Member M))) (sharing : List Locations) (groups : List Group)
    → TablesOk instances sharing groups → TablesBut i instances sharing groups

-- and they stay so, whatever pieces that one has for its own
abbrev pub OwnPiecesConcernNoOther : Type 0 → Type 0
OwnPiecesConcernNoOther M =
    (i : ℕ) (own : Pieces) (instances : List (Option (Member M))) (sharing : List Locations) (groups : List Group)
    → TablesBut i instances sharing groups → TablesBut i (own_set instances i own) sharing groups

-- after a write-once piece was slid to where its sharers have room, these wait to be told, and no other instance does
abbrev pub SharersWaitAfterASlide : Type 0 → Type 0
SharersWaitAfterASlide M =
    (i k : ℕ) (p q : Span) (instances : List (Option (Member M))) (sharing : List Locations) (groups : List Group)
    → TablesOk instances sharing groups
    → k < TABLE_RECORDS → location_at (locations_at sharing i) k ≡ Here (Some p)
    → ((j : ℕ) (m : Member M) → slot_at instances j ≡ Some m → holds_with sharing i k j ≡ true
    → HasRoom (instance_of m.inst) (shared_at (slid_to sharing i k q) j) (group_at groups m.group))
    → TablesWaiting (holds_with (slid_to sharing i k q) i k) instances (slid_to sharing i k q) groups

-- whoever shares it sees it where it lies now, and all other pieces are seen as before
abbrev pub SharersSeeTheSlidPiece : Type 0
SharersSeeTheSlidPiece =
    (i k : ℕ) (p q : Span) (sharing : List Locations) → AllHaveOwners sharing → k < TABLE_RECORDS → location_at (locations_at sharing i) k ≡ Here (Some p)
    → (j : ℕ) → shared_at (slid_to sharing i k q) j ≡ (if holds_with sharing i k j then with_piece (shared_at sharing j) k (Some q) else shared_at sharing j)

-- it stands with its owner, and all other pieces stand where they did
abbrev pub TheOwnerHasTheSlidPiece : Type 0
TheOwnerHasTheSlidPiece =
    (i k : ℕ) (p q : Span) (sharing : List Locations) → AllHaveOwners sharing → k < TABLE_RECORDS → location_at (locations_at sharing i) k ≡ Here (Some p)
    → (j : ℕ) → pieces_here (locations_at (slid_to sharing i k q) j)
    ≡ (if nat_eq j i then with_piece (pieces_here (locations_at sharing j)) k (Some q) else pieces_here (locations_at sharing j))

-- after blocks of one group alone changed, in which its members have room, these wait to be told, and no other instance does
abbrev pub MembersWaitAfterAChange : Type 0 → Type 0
MembersWaitAfterAChange M =
    (g : ℕ) (instances : List (Option (Member M))) (sharing : List Locations) (groups groups' : List Group)
    → TablesOk instances sharing groups
    → length groups' ≡ GROUPS
    → ((k : ℕ) → activity_at groups' k ≡ activity_at groups k)
    → ((k : ℕ) (space : Space) → k ≢ g → block_in (group_at groups' k) space ≡ block_in (group_at groups k) space)
    → ((i : ℕ) (m : Member M) → slot_at instances i ≡ Some m → m.group ≡ g → HasRoom (instance_of m.inst) (shared_at sharing i) (group_at groups' g))
    → TablesTold g 0 instances sharing groups'

-- where no member is active the blocks hold the poison word still, if each that changes holds it
abbrev pub PoisonStaysWhereChangesHoldIt : Type 0
PoisonStaysWhereChangesHoldIt =
    (w : Option ℤ) (groups groups' : List Group) → ArePoisoned w groups
    → ((k : ℕ) → activity_at groups' k ≡ activity_at groups k)
    → ((k : ℕ) (space : Space) → (block_words (block_in (group_at groups' k) space) ≡ block_words (block_in (group_at groups k) space))
    ⊎ ArePoison w (block_words (block_in (group_at groups' k) space)))
    → ArePoisoned w groups'
