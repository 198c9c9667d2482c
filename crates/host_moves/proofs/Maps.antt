-- How many blocks a space has.
use Rattle.std.proofs.Common.{◌≡◌, ℕ, zero, suc, ◌<◌, ◌≤◌, inl, inr, List, [], ◌∷◌, length, Option, Some, None, refl, sym, ◌∙◌, ap, subst, arith, get_or}
use Rattle.std.proofs.lemmas.List.{get_or_past}
use Rattle.std.proofs.lemmas.Option.{none-some}
use Rattle.space_raw.specs.Span.{Span}
use Rattle.mem_rec.specs.declared.MemRec.{MemRec}
use Rattle.mem_rec.specs.declared.Space.{Space}
use Rattle.mem_rec.specs.declared.Space.TheVariants.{Daram, Saram, External}
use Rattle.mem_rec.specs.declared.Attr.{Attr}
use Rattle.mem_rec.specs.declared.Attr.TheVariants.{Scratch, Persist, WriteOnce}
use Rattle.mem_rec.specs.Records.{same_space}
use Rattle.ialg.specs.Records.{record_at}
use Rattle.record_loans.specs.declared.pieces.Pieces.{Pieces}
use Rattle.record_loans.specs.Pieces.{piece_at, no_pieces}
use Rattle.record_loans.specs.Blocks.{block_align, block_piece}
use Rattle.scratch_group.specs.declared.group.Group.{Group}
use Rattle.scratch_group.specs.Blocks.{block_in}
use Rattle.lifecycle.specs.Rooms.{lasting_piece, piece_of_record}
use Rattle.host_map.specs.declared.placed.Owner.{Owner}
use Rattle.host_map.specs.declared.placed.Owner.TheVariants.{Record, Scratch as GroupScratch}
use Rattle.host_map.specs.declared.placed.Placed.{Placed}
use Rattle.host_map.specs.Blocks.{AreSingle, IsOwner, owned, same_owner}
use Rattle.host_spaces.specs.Blocks.{block_of_piece}
use Rattle.host_spaces.proofs.Owners.{itself}
use Rattle.host_spaces.specs.declared.spaces.Spaces.{Spaces}
use Rattle.host_map.specs.MemoryMap.{MemoryMap, blocks_in, empty_map}
use Rattle.host_spaces.specs.MemoryMap.{map_of}
use Rattle.host_spaces.specs.Pieces.{record_block}
use Rattle.host_table.specs.declared.member.Member.{Member}
use Rattle.host_shared.specs.declared.locations.Locations.{Locations}
use Rattle.host_shared.specs.declared.locations.Location.TheVariants.{Here, At}
use Rattle.host_shared.specs.Locations.{location_at, no_locations, locations_at, owner_of, shared_at}
use Rattle.host_table.specs.Table.{TablesOk, slot_at, group_at, no_group, instance_of}
use Rattle.host_shared.proofs.Stands.{seen_of}
use Rattle.host_shared.proofs.Lent.{no_location}
use Rattle.host_moves.specs.Standing.{AgreeWithMap, table_of}
use Rattle.host_moves.proofs.Rooms.{compare, either}
use Rattle.host_moves.proofs.Owners.{own_owner, owner_record}
use Rattle.host_moves.proofs.Nexts.{IsIn, owner_among, in_space, later_or, next_piece, slot_of}
use Rattle.host_moves.proofs.Instances.{piece_there}
use Rattle.host_table.proofs.Changes.{slot_in}

listed : (bs : List Placed) (b : Placed) (k : ℕ) → k < length bs → get_or bs k b ≡ b → IsIn b (owned b.owner bs)
listed [] b k lt e = absurd (omega arith)
listed (c ∷ cs) b zero lt e = subst (λ (x : Placed). IsIn x (owned x.owner (c ∷ cs))) e (rw (itself c.owner) (inl refl))
listed (c ∷ cs) b (suc k) lt e = later_or (same_owner b.owner c.owner) b c (owned b.owner cs) (listed cs b k (omega arith) e)

one_piece : (o : Owner) (al : ℕ) (p : Option Span) → length (block_of_piece o al p) ≤ 1
one_piece o al None = omega arith
one_piece o al (Some p) = omega arith

one_record : (i k : ℕ) (r : MemRec) (space : Space) (p : Option Span) → length (record_block i k r space p) ≤ 1
one_record i k r space p = elim (either (same_space r.space space)) [
  | inl same ↦ rw same (one_piece (Record i k) r.align p)
  | inr other ↦ rw other (omega arith)
]

lasting_there : (a : Attr) (own shared : Pieces) (k : ℕ) (s : Span) → lasting_piece a (piece_at own k) (piece_at shared k) ≡ Some s → k < 4
lasting_there Scratch own shared k s e = absurd (none-some _ e)
lasting_there Persist own shared k s e = piece_there own k s e
lasting_there WriteOnce own shared k s e = piece_there shared k s e

group_there : (groups : List Group) (g : ℕ) (space : Space) (s : Span) → block_piece (block_in (group_at groups g) space) ≡ Some s → g < length groups
group_there groups g space s at = elim (compare g (length groups)) [
  | inl lt ↦ lt
  | inr past ↦ absurd (none-some _ (sym (none_in space) ∙ sym (ap (λ (y : Group). block_piece (block_in y space)) (get_or_past groups g no_group past)) ∙ at))
]
  where
    none_in : (any : Space) → block_piece (block_in no_group any) ≡ None
    none_in Daram = refl
    none_in Saram = refl
    none_in External = refl

module _ {M : Type 0} (instances : List (Option (Member M))) (sharing : List Locations) (groups : List Group) (spaces : Spaces) (space : Space)
    (ok : TablesOk instances sharing groups) (standing : AgreeWithMap instances sharing groups spaces) where
  abbrev all_blocks : List Placed
  all_blocks = blocks_in (map_of spaces) space

  is_owner : (o : Owner) (b : Placed) → IsIn b (owned o all_blocks) → IsOwner o
  is_owner (Record i k) b among =
      let slot = slot_of (slot_at instances i) (λ none. subst (λ (xs : List Placed). IsIn b xs) (standing.gone i k space none) among) in
      let m = slot.0 in
      let owner = standing.owners i m slot.1 in
      let p = piece_of_record (table_of m) (instance_of m.inst).own (shared_at sharing i) k in
      let here = owner_among i k b (owner_of sharing i k) (blocks_in (map_of spaces) space) (owner.away k space) among in
      let block = in_space i k (record_at (table_of m) k) space p b
      (subst (λ (xs : List Placed). IsIn b xs) (owner_record spaces i (owner_of sharing i) (table_of m) (instance_of m.inst).own (shared_at sharing i) (group_at groups m.group) owner k space i here) among) in
      let piece = next_piece b (Record i k) (record_at (table_of m) k).align p block.1 in
      let lt = slot_in instances i m slot.1 in
      let count = ok.slot_count in
      ((omega arith), lasting_there (record_at (table_of m) k).attr (instance_of m.inst).own (shared_at sharing i) k piece.0 piece.1.0)
  is_owner (GroupScratch g) b among =
      let y = block_in (group_at groups g) space in
      let piece = next_piece b (GroupScratch g) (block_align y) (block_piece y) (subst (λ (xs : List Placed). IsIn b xs) (standing.blocks g space) among) in
      let lt = group_there groups g space piece.0 piece.1.0 in
      let count = ok.group_count in
      omega arith

  at_most_one : (o : Owner) → length (owned o all_blocks) ≤ 1
  at_most_one (Record i k) = of_slot (slot_at instances i) refl
    where
      of_slot : (slot : Option (Member M)) → slot_at instances i ≡ slot → length (owned (Record i k) all_blocks) ≤ 1
      of_slot None at = rw (standing.gone i k space at) (omega arith)
      of_slot (Some m) at =
          let owner = standing.owners i m at in
          elim (own_owner spaces i (owner_of sharing i) (table_of m) (instance_of m.inst).own (shared_at sharing i) (group_at groups m.group) owner k space) [
            | inl here ↦
                rw (owner_record spaces i (owner_of sharing i) (table_of m) (instance_of m.inst).own (shared_at sharing i) (group_at groups m.group) owner k space i here)
                (one_record i k (record_at (table_of m) k) space (piece_of_record (table_of m) (instance_of m.inst).own (shared_at sharing i) k))
            | inr none ↦ rw none (omega arith)
          ]
  at_most_one (GroupScratch g) = rw (standing.blocks g space) (one_piece (GroupScratch g) _ _)

  -- no owner has two blocks of a space
  pub single_blocks : AreSingle all_blocks
  single_blocks = record {
    owners = λ b there. is_owner b.owner b (listed all_blocks b there.0 there.1 there.2);
    single = at_most_one;
  }

module _ {M : Type 0} (instances : List (Option (Member M))) (sharing : List Locations) (groups : List Group) (spaces : Spaces)
    (nobody : (i : ℕ) → slot_at instances i ≡ None) (standing : AgreeWithMap instances sharing groups spaces) where
  pub no_block : (g : ℕ) (space : Space) → block_in (group_at groups g) space ≡ None
  no_block g space = standing.unused g space (λ i. rw (nobody i) refl)

  none_owned : (o : Owner) (space : Space) → owned o (blocks_in (map_of spaces) space) ≡ []
  none_owned (Record i k) space = standing.gone i k space (nobody i)
  none_owned (GroupScratch g) space = standing.blocks g space ∙ ap (λ y. block_of_piece (GroupScratch g) (block_align y) (block_piece y)) (no_block g space)

  no_blocks : (bs : List Placed) → ((o : Owner) → owned o bs ≡ []) → bs ≡ []
  no_blocks [] none = refl
  no_blocks (b ∷ bs) none =
      let among : IsIn b (owned b.owner (b ∷ bs)) = listed (b ∷ bs) b 0 (let n : 0 < suc (length bs) = omega arith in n) refl in
      absurd (subst (λ (xs : List Placed). IsIn b xs) (none b.owner) among)

  pub empty : map_of spaces ≡ empty_map
  empty =
      let d = no_blocks (blocks_in (map_of spaces) Daram) (λ o. none_owned o Daram) in
      let s = no_blocks (blocks_in (map_of spaces) Saram) (λ o. none_owned o Saram) in
      let e = no_blocks (blocks_in (map_of spaces) External) (λ o. none_owned o External) in
      map_alike d s e
    where
      map_alike : {a b c : List Placed} → a ≡ [] → b ≡ [] → c ≡ [] → (let p : MemoryMap = record { daram = a; saram = b; external = c } in p) ≡ empty_map
      map_alike d s e = rw (d, s, e) refl

none_shown : (space : Space) → blocks_in empty_map space ≡ []
none_shown Daram = refl
none_shown Saram = refl
none_shown External = refl

-- where nobody lives, and where no group has a block, all stands as an empty memory map shows it
pub standing_start : {M : Type 0} (instances : List (Option (Member M))) (sharing : List Locations) (groups : List Group) (spaces : Spaces)
    → ((i : ℕ) → slot_at instances i ≡ None) → ((i : ℕ) → locations_at sharing i ≡ no_locations) → ((g : ℕ) (space : Space) → block_in (group_at groups g) space ≡ None)
    → map_of spaces ≡ empty_map → AgreeWithMap instances sharing groups spaces
standing_start instances sharing groups spaces nobody bare none shown =
    let nothing : (o : Owner) (space : Space) → owned o (blocks_in (map_of spaces) space) ≡ [] =
    λ o space. ap (λ (p : MemoryMap). owned o (blocks_in p space)) shown ∙ ap (owned o) (none_shown space) in
    record {
      owners = λ i m at. absurd (none-some _ (sym (nobody i) ∙ at));
      least = λ i k owner is. let no : Here None ≡ At owner = sym (ap (λ (s : Locations). location_at s k) (bare i) ∙ no_location k) ∙ is in cc;
      together = λ i j k m n at. absurd (none-some _ (sym (nobody i) ∙ at));
      free = λ i gone. seen_of sharing i no_pieces (bare i);
      gone = λ i k space gone. nothing (Record i k) space;
      blocks = λ g space. nothing (GroupScratch g) space ∙ sym (ap (λ y. block_of_piece (GroupScratch g) (block_align y) (block_piece y)) (none g space));
      regions = λ g space. rw (none g space) tt;
      unused = λ g space nobody_there. none g space;
    }
