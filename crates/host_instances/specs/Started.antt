-- A new instance among the others.
use Rattle.std.specs.Prelude.{ℕ, ℤ, ◌≡◌, ◌≢◌, IsTrue, List, [], Option, Some, None, Result}
use Rattle.std.specs.Result.{result_map_both}
use Rattle.mem_rec.specs.declared.Space.{Space}
use Rattle.mem_rec.specs.declared.MemRec.{MemRec}
use Rattle.mem_rec.specs.Records.{is_table}
use Rattle.ialg.specs.History.{History}
use Rattle.ialg.specs.Laws.{Laws}
use Rattle.ialg.specs.Records.{unplaced}
use Rattle.record_loans.specs.declared.pieces.Pieces.{Pieces}
use Rattle.scratch_group.specs.declared.group.Group.{Group}
use Rattle.lifecycle.specs.Rooms.{NoNeed}
use Rattle.host_shared.specs.declared.joining.Sharers.{Sharers}
use Rattle.host_shared.specs.Joining.{sharer_at}
use Rattle.host_map.specs.declared.placed.Owner.TheVariants.{Record}
use Rattle.host_map.specs.Blocks.{owned}
use Rattle.host_map.specs.Creation.{created_map, replaces, taken_over}
use Rattle.host_map.specs.MemoryMap.{blocks_in, renamed}
use Rattle.host_spaces.specs.declared.spaces.Spaces.{Spaces}
use Rattle.host_spaces.specs.MemoryMap.{map_of, sizes_of}
use Rattle.host_spaces.specs.Pieces.{ArePlacedPieces, HasRecords}
use Rattle.host_table.specs.declared.member.Member.{Member}
use Rattle.host_table.specs.declared.life.NewInstance.{NewInstance}
use Rattle.host_table.specs.Table.{slot_at, group_at, activity_at, instance_of, slot_active_in}
use Rattle.host_table.specs.Refinement.{with_history}
use Rattle.host_table.specs.Sharers.{sharer_in}
use Rattle.host_table.specs.Starts.{asked_for}
use Rattle.host_table.specs.Steps.{HistoriesAreKept}
use Rattle.host_table.specs.View.{View}
use Rattle.host_moves.specs.Standing.{table_of}
use Rattle.host_instances.specs.Growth.{activity_grown}

-- an idle instance of group g, of this kind, with these parameters and this table
pub record IsOfKind {M : Type 0} (g : ℕ) (kind : M) (p : List ℤ) (table : List MemRec) (m : Member M) : Type 0 where
  pub group : m.group ≡ g
  pub kind_is : (instance_of m.inst).kind ≡ kind
  pub params : (instance_of m.inst).params.items ≡ p
  pub table_is : table_of m ≡ unplaced table
  pub idle : slot_active_in (Some m) ≡ None

abbrev pub IsNewborn : {M : Type 0} → ℕ → M → List ℤ → List MemRec → Option (Member M) → Type 0
IsNewborn g kind p table None = ⊥
IsNewborn g kind p table (Some m) = IsOfKind g kind p table m

-- what a new instance with this table needs is placed: the records that have no sharer
pub record IsPlaced (spaces : Spaces) (i : ℕ) (sharers : ℕ → Option ℕ) (table : List MemRec) (own shared : Pieces) (y : Group) : Type 0 where
  pub valid : IsTrue (is_table table)
  pub need : NoNeed table y
  pub records : HasRecords (map_of spaces) i table own shared
  pub pieces : ArePlacedPieces spaces table sharers own shared

-- the new instance is in its slot, idle in its group
abbrev pub HasNewborn : {M : Type 0} → NewInstance M → View M → Type 0
HasNewborn n t = IsNewborn n.group n.kind n.params.now.items n.table (slot_at t.instances n.number)

-- what the new instance needs is placed: the records that have no sharer
abbrev pub IsPlacedFor : {M : Type 0} → NewInstance M → Pieces → Pieces → Sharers → View M → Spaces → Type 0
IsPlacedFor n own shared sharers t spaces = IsPlaced spaces n.number (sharer_at sharers) n.table own shared (group_at t.groups n.group)

-- no empty slot but this one has blocks of records
abbrev pub EmptySlotsHaveNone : {M : Type 0} → ℕ → View M → Spaces → Type 0
EmptySlotsHaveNone i t spaces = (j k : ℕ) (space : Space) → slot_at t.instances j ≡ None → j ≢ i → owned (Record j k) (blocks_in (map_of spaces) space) ≡ []

-- the instance takes over the blocks that it shares from each sharer with a greater number
abbrev pub TakesOver : ℕ → Sharers → Spaces → Spaces → Type 0
TakesOver i sharers spaces spaces' = map_of spaces' ≡ renamed (taken_over (sharer_at sharers) i) (map_of spaces)

-- the memory map is the one after the creation; or the answer is the space of the first block that has no place
abbrev pub MapIsCreated : {M A : Type 0} → Laws M → NewInstance M → View M → Spaces → Spaces → Result A Space → Type 0
MapIsCreated laws n t spaces spaces' answer = created_map (sizes_of spaces) (map_of spaces) n.number n.group n.table (sharer_in laws t.instances (asked_for n))
    ≡ result_map_both (λ _. map_of spaces') (λ space. space) answer

-- where a block of its group is replaced, no member of it is active; but for that each group has the activity that it had
abbrev pub ActivityIsGrown : {M : Type 0} → NewInstance M → View M → Spaces → View M → Type 0
ActivityIsGrown n old spaces new = (k : ℕ) → activity_at new.groups k ≡ activity_grown (replaces (map_of spaces) n.group n.table) old.groups n.group k

-- in a host of this poison word or of none: where the table is the one that its kind asks for, a new instance begins its history, and each other
-- instance keeps the history that it kept
abbrev pub BeginsHistoryIn : {M : Type 0} → Laws M → Option ℤ → NewInstance M → View M → View M → Type 0
BeginsHistoryIn laws w n old new = (histories : ℕ → History)
    → (IsTrue (laws.meaning.lawful n.kind n.params.now.items w) → laws.meaning.table n.kind n.params.now.items ≡ Some (unplaced n.table))
    → HistoriesAreKept laws w old histories
    → HistoriesAreKept laws w new (with_history histories n.number [])
