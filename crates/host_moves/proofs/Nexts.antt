-- Whose block moves next.
use Rattle.std.proofs.Common.{◌≡◌, ◌≢◌, ◌≤◌, ◌+◌, ◌-◌, ℕ, zero, suc, ◌⊎◌, inl, inr, Bool, true, false, List, [], ◌∷◌, Option, Some, None, refl, ◌∙◌, ap, subst, if◌then◌else◌, arith}
use Rattle.std.specs.Option.{option_map}
use Rattle.std.proofs.lemmas.Bool.Decides.{eqb_tells}
use Rattle.std.proofs.lemmas.Option.{none-some, same_Some}
use Rattle.space_raw.specs.Span.{Span}
use Rattle.mem_rec.specs.declared.MemRec.{MemRec}
use Rattle.mem_rec.specs.declared.Space.{Space}
use Rattle.mem_rec.specs.Records.{same_space}
use Rattle.ialg.specs.Records.{record_at}
use Rattle.scratch_group.specs.declared.group.Group.{Group}
use Rattle.lifecycle.specs.Rooms.{piece_of_record}
use Rattle.relocate.specs.declared.packing.Move.{Move}
use Rattle.host_map.specs.declared.placed.Owner.{Owner}
use Rattle.host_map.specs.declared.placed.Owner.TheVariants.{Record}
use Rattle.host_map.specs.declared.placed.Placed.{Placed}
use Rattle.host_spaces.specs.Blocks.{block_of, block_of_piece}
use Rattle.host_map.specs.Blocks.{owned, same_owner}
use Rattle.host_map.specs.Moves.{block_at, block_to_move, next_block, next_in}
use Rattle.host_map.proofs.MoveLemmas.{next_is}
use Rattle.host_spaces.proofs.Owners.{itself}
use Rattle.host_spaces.specs.declared.spaces.Spaces.{Spaces}
use Rattle.host_map.specs.MemoryMap.{blocks_in}
use Rattle.host_spaces.specs.MemoryMap.{map_of}
use Rattle.host_spaces.specs.Pieces.{record_block}
use Rattle.host_table.specs.declared.member.Member.{Member}
use Rattle.host_shared.specs.declared.locations.Locations.{Locations}
use Rattle.host_shared.specs.Locations.{owner_of, shared_at}
use Rattle.host_table.specs.Table.{slot_at, group_at, instance_of}
use Rattle.host_moves.specs.Standing.{AgreeWithMap, table_of}
use Rattle.host_moves.specs.Moves.{IsNextOf}
use Rattle.host_moves.proofs.Rooms.{either}
use Rattle.host_moves.proofs.Owners.{owner_record}
use Rattle.host_moves.proofs.Instances.{one_space}

abbrev pub IsIn : Placed → List Placed → Type 0
IsIn b [] = ⊥
IsIn b (c ∷ cs) = (b ≡ c) ⊎ IsIn b cs

pub later_or : (t : Bool) (b c : Placed) (cs : List Placed) → IsIn b cs → IsIn b (if t then c ∷ cs else cs)
later_or true b c cs h = inr h
later_or false b c cs h = h

pub at_owned : (bs : List Placed) (n : ℕ) (b : Placed) → block_at bs n ≡ Some b → IsIn b (owned b.owner bs)
at_owned [] n b e = absurd (none-some _ e)
at_owned (d ∷ ds) zero b e =
    let same : d ≡ b = same_Some d b e in
    subst (λ (x : Placed). IsIn x (owned x.owner (d ∷ ds))) same (rw (itself d.owner) (inl refl))
at_owned (d ∷ ds) (suc n) b e = later_or (same_owner b.owner d.owner) b d (owned b.owner ds) (at_owned ds n b e)

moves_owned : (move : Option Move) (bs : List Placed) (b : Placed) → block_to_move move bs ≡ Some b → IsIn b (owned b.owner bs)
moves_owned None bs b e = absurd (none-some _ e)
moves_owned (Some m) bs b e = at_owned bs m.index b e

pub next_owned : (bs : List Placed) (o : Owner) (b : Placed) → next_block bs ≡ Some b → b.owner ≡ o → IsIn b (owned o bs)
next_owned bs o b e own = subst (λ (q : Owner). IsIn b (owned q bs)) own (moves_owned (next_in bs) bs b (next_is bs ∙ e))

pub only_block : (b c : Placed) → IsIn b (c ∷ []) → b ≡ c
only_block b c (inl e) = e
only_block b c (inr e) = absurd e

-- the piece of an owner whose block moves next
pub next_piece : (b : Placed) (o : Owner) (al : ℕ) (p : Option Span) → IsIn b (block_of_piece o al p) → (s : Span) × ((p ≡ Some s) × (b ≡ block_of o al s))
next_piece b o al None h = absurd h
next_piece b o al (Some s) h = (s, (refl, only_block b (block_of o al s) h))

-- the record whose block moves next
pub record IsNextRecord {M : Type 0} (instances : List (Option (Member M))) (sharing : List Locations) (spaces : Spaces) (space : Space) (i k : ℕ) : Type 0 where
  pub member : Member M
  pub there : slot_at instances i ≡ Some member
  pub of_space : (record_at (table_of member) k).space ≡ space
  pub piece : Span
  pub here : owner_of sharing i k ≡ i
  pub its : piece_of_record (table_of member) (instance_of member.inst).own (shared_at sharing i) k ≡ Some piece
  pub next : next_block (blocks_in (map_of spaces) space) ≡ Some (block_of (Record i k) (record_at (table_of member) k).align piece)

pub in_space : (i k : ℕ) (r : MemRec) (space : Space) (p : Option Span) (b : Placed) → IsIn b (record_block i k r space p) → (r.space ≡ space) × IsIn b (block_of_piece (Record i k) r.align p)
in_space i k r space p b h =
    elim (either (same_space r.space space)) [
      | inl same ↦ (one_space r.space space same, rw same at h)
      | inr other ↦ absurd (let none : IsIn b [] = rw other at h in none)
    ]

pub slot_of : {M : Type 0} (slot : Option (Member M)) → (slot ≡ None → ⊥) → (m : Member M) × (slot ≡ Some m)
slot_of None none = absurd (none refl)
slot_of (Some m) none = (m, refl)

-- an instance that has a block for a record is the record's owner
pub owner_among : (i k : ℕ) (b : Placed) (owner : ℕ) (bs : List Placed) → (owner ≢ i → owned (Record i k) bs ≡ []) → IsIn b (owned (Record i k) bs) → owner ≡ i
owner_among i k b owner bs away among =
    elim (eqb_tells owner i) [
      | inl e ↦ e.1
      | inr e ↦ absurd (let none : IsIn b [] = subst (λ (xs : List Placed). IsIn b xs) (away e.1) among in none)
    ]

pub next_record : {M : Type 0} (instances : List (Option (Member M))) (sharing : List Locations) (groups : List Group) (spaces : Spaces) (space : Space) (i k : ℕ) → AgreeWithMap instances sharing groups spaces
    → IsNextOf spaces space (Record i k) → IsNextRecord instances sharing spaces space i k
next_record instances sharing groups spaces space i k standing next =
    let b = next.0 in
    let among : IsIn b (owned (Record i k) (blocks_in (map_of spaces) space)) = next_owned (blocks_in (map_of spaces) space) (Record i k) b next.1.0 next.1.1 in
    let slot = slot_of (slot_at instances i) (λ none. subst (λ (xs : List Placed). IsIn b xs) (standing.gone i k space none) among) in
    let m = slot.0 in
    let owner = standing.owners i m slot.1 in
    let here = owner_among i k b (owner_of sharing i k) (blocks_in (map_of spaces) space) (owner.away k space) among in
    let block = in_space i k (record_at (table_of m) k) space (piece_of_record (table_of m) (instance_of m.inst).own (shared_at sharing i) k) b
    (subst (λ (xs : List Placed). IsIn b xs) (owner_record spaces i (owner_of sharing i) (table_of m) (instance_of m.inst).own (shared_at sharing i) (group_at groups m.group) owner k space i here) among) in
    let piece = next_piece b (Record i k) (record_at (table_of m) k).align (piece_of_record (table_of m) (instance_of m.inst).own (shared_at sharing i) k) block.1 in
    record { member = m; there = slot.1; of_space = block.0; here = here; piece = piece.0; its = piece.1.0; next = next.1.0 ∙ ap Some piece.1.1 }

-- a count of one more than the next move's index tells the index
pub some_before : (o : Option Move) (n : ℕ) → option_map (λ (m : Move). m.index + 1) o ≡ Some n → 1 ≤ n
some_before None n is = absurd (none-some _ is)
some_before (Some m) n is = let e : m.index + 1 ≡ n = same_Some _ _ is in omega (arith, e)

pub index_before : (o : Option Move) (n : ℕ) → option_map (λ (m : Move). m.index + 1) o ≡ Some n → option_map (λ (m : Move). m.index) o ≡ Some (n - 1)
index_before None n is = absurd (none-some _ is)
index_before (Some m) n is = let e : m.index + 1 ≡ n = same_Some _ _ is in ap Some (let less : m.index ≡ n - 1 = omega (arith, e) in less)
