-- What a creation places, as a list with an entry for each record and for each space.
use Rattle.std.specs.Prelude.{◌≡◌, ◌≢◌, ℕ, zero, suc, ℤ, ◌+◌, ◌%◌, ◌<◌, ◌≤◌, List, [], ◌∷◌, length, Option, Some, None, slice_index_or, if◌then◌else◌}
use Rattle.std.specs.List.{cons_option}
use Rattle.mem_rec.specs.declared.MemRec.{MemRec}
use Rattle.mem_rec.specs.declared.Space.{Space}
use Rattle.mem_rec.specs.declared.Space.TheVariants.{Daram, Saram, External}
use Rattle.mem_rec.specs.declared.TheConstants.{LEAST_ALIGNMENT}
use Rattle.mem_rec.specs.Records.{same_space}
use Rattle.mem_rec.specs.Layout.{scratch_align, scratch_need}
use Rattle.space_raw.specs.Span.{Span}
use Rattle.relocate.specs.declared.limits.TheConstants.{GREATEST_NEED}
use Rattle.relocate.specs.Places.{IsAlignment}
use Rattle.ialg.specs.Records.{ArePoison, record_at}
use Rattle.record_loans.specs.Pieces.{piece_words}
use Rattle.scratch_group.specs.declared.group.Group.{Group}
use Rattle.scratch_group.specs.declared.group.Need.{Need}
use Rattle.scratch_group.specs.Blocks.{block_in, block_needed}
use Rattle.host_map.specs.declared.placed.Owner.{Owner}
use Rattle.host_map.specs.declared.placed.Owner.TheVariants.{Scratch}
use Rattle.host_spaces.specs.Blocks.{block_of}
use Rattle.host_map.specs.Blocks.{owned, with_block}
use Rattle.host_spaces.specs.declared.spaces.Spaces.{Spaces}
use Rattle.host_map.specs.declared.parts.Wanted.{Wanted}
use Rattle.host_spaces.specs.declared.granted.Granted.{Granted}
use Rattle.host_spaces.specs.MemoryMap.{space_in}
use Rattle.host_map.specs.Creation.{record_wanted}

-- a block that can be asked for
pub record IsWithinLimits (w : Wanted) : Type 0 where
  pub some : 0 < w.size
  pub most : w.size ≤ GREATEST_NEED
  pub unit : w.size % LEAST_ALIGNMENT ≡ 0
  pub aligned : IsAlignment w.align

-- what a group needs in a space, by size and alignment
abbrev pub need_wanted : ℕ → Space → Option Need → Option Wanted
need_wanted g space None = None
need_wanted g space (Some n) = Some (record { space = space; owner = Scratch g; size = n.size; align = n.align })

-- the block that a group needs in a space for a member with this table
abbrev pub block_need : List MemRec → Group → Space → Option Need
block_need table group space = block_needed (block_in group space) (scratch_need table space) (scratch_align table space)

-- what each of the four records needs, and the group in each space
abbrev pub wants_of : (ℕ → Option ℕ) → ℕ → ℕ → List MemRec → Group → List (Option Wanted)
wants_of sharers i g table group =
    record_wanted sharers i 0 (record_at table 0) ∷ record_wanted sharers i 1 (record_at table 1) ∷ record_wanted sharers i 2 (record_at table 2) ∷ record_wanted sharers i 3 (record_at table 3)
    ∷ need_wanted g Daram (block_need table group Daram) ∷ need_wanted g Saram (block_need table group Saram) ∷ need_wanted g External (block_need table group External) ∷ []

-- those that need something
abbrev pub somes : List (Option Wanted) → List Wanted
somes [] = []
somes (w ∷ ws) = cons_option w (somes ws)

abbrev pub want_at : List (Option Wanted) → ℕ → Option Wanted
want_at wants j = slice_index_or wants j None

-- how many of them need something in the space
abbrev pub one_in : Space → Option Wanted → ℕ
one_in space None = 0
one_in space (Some w) = if same_space w.space space then 1 else 0

abbrev pub count_in : Space → List (Option Wanted) → ℕ
count_in space [] = 0
count_in space (w ∷ ws) = one_in space w + count_in space ws

-- no two of them are for one owner in one space
abbrev pub AreApartWants : List (Option Wanted) → Type 0
AreApartWants wants = (j l : ℕ) (v u : Wanted) → j < l → want_at wants j ≡ Some v → want_at wants l ≡ Some u → v.space ≡ u.space → v.owner ≢ u.owner

-- no pieces
abbrev pub none_granted : Granted
none_granted = record { p0 = None; p1 = None; p2 = None; p3 = None; p4 = None; p5 = None; p6 = None }

-- the piece that was placed for entry j
abbrev pub slot_at : Granted → ℕ → Option Span
slot_at made zero = made.p0
slot_at made (suc zero) = made.p1
slot_at made (suc (suc zero)) = made.p2
slot_at made (suc (suc (suc zero))) = made.p3
slot_at made (suc (suc (suc (suc zero)))) = made.p4
slot_at made (suc (suc (suc (suc (suc zero))))) = made.p5
slot_at made (suc (suc (suc (suc (suc (suc zero)))))) = made.p6
slot_at made (suc (suc (suc (suc (suc (suc (suc j))))))) = None

abbrev pub with_slot : Granted → ℕ → Option Span → Granted
with_slot made zero p = record made { p0 = p }
with_slot made (suc zero) p = record made { p1 = p }
with_slot made (suc (suc zero)) p = record made { p2 = p }
with_slot made (suc (suc (suc zero))) p = record made { p3 = p }
with_slot made (suc (suc (suc (suc zero)))) p = record made { p4 = p }
with_slot made (suc (suc (suc (suc (suc zero))))) p = record made { p5 = p }
with_slot made (suc (suc (suc (suc (suc (suc zero)))))) p = record made { p6 = p }
with_slot made (suc (suc (suc (suc (suc (suc (suc j))))))) p = made

-- a piece of its space and its size where one is wanted, and none elsewhere
abbrev pub IsFor : Spaces → Option Wanted → Option Span → Type 0
IsFor spaces None None = Unit {0}
IsFor spaces None (Some p) = ⊥
IsFor spaces (Some w) None = ⊥
IsFor spaces (Some w) (Some p) = (p.region ≡ (space_in spaces w.space).region) × (length p.words ≡ w.size)

-- all that is wanted from entry k on was placed
pub record IsGranted (old new : Spaces) (word : Option ℤ) (k : ℕ) (wants : List (Option Wanted)) (made : Granted) : Type 0 where
  pub before : (j : ℕ) → j < k → slot_at made j ≡ None
  pub slots : (j : ℕ) → k ≤ j → IsFor old (want_at wants j) (slot_at made j)
  pub poison : (j : ℕ) → ArePoison word (piece_words (slot_at made j))
  pub blocks : (j : ℕ) (w : Wanted) (p : Span) → k ≤ j → want_at wants j ≡ Some w → slot_at made j ≡ Some p
      → owned w.owner (space_in new w.space).blocks ≡ with_block (block_of w.owner w.align p) (owned w.owner (space_in old w.space).blocks)
  pub others : (o : Owner) (space : Space) → ((j : ℕ) (w : Wanted) → k ≤ j → want_at wants j ≡ Some w → w.space ≡ space → o ≢ w.owner)
      → owned o (space_in new space).blocks ≡ owned o (space_in old space).blocks

-- all that is wanted is within the limits
abbrev pub AllAreWithinLimits : List (Option Wanted) → Type 0
AllAreWithinLimits wants = (j : ℕ) (want : Wanted) → want_at wants j ≡ Some want → IsWithinLimits want
