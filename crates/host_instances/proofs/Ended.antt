-- The spaces after an end.
use Rattle.std.proofs.Common.{◌≡◌, ◌⊎◌, inl, inr, ℕ, Bool, true, false, List, [], ◌∷◌, Option, Some, refl, sym, ◌∙◌, ap, subst, if◌then◌else◌}
use Rattle.std.specs.Prelude.{unwrap_or}
use Rattle.std.proofs.lemmas.Bool.Decides.{eqb_tells}
use Rattle.mem_rec.specs.declared.Space.{Space}
use Rattle.mem_rec.specs.declared.Space.TheVariants.{Daram, Saram, External}
use Rattle.scratch_group.specs.declared.group.Group.{Group}
use Rattle.host_map.specs.declared.placed.Owner.{Owner}
use Rattle.host_map.specs.declared.placed.Owner.TheVariants.{Record, Scratch as GroupScratch}
use Rattle.host_map.specs.declared.placed.Placed.{Placed}
use Rattle.host_map.specs.Blocks.{owned, renamed_blocks, same_owner}
use Rattle.host_spaces.proofs.Owners.{itself}
use Rattle.host_spaces.specs.declared.spaces.Spaces.{Spaces}
use Rattle.host_map.specs.MemoryMap.{MemoryMap, blocks_in, is_group's, is_instance's, renamed, without_owners}
use Rattle.host_spaces.specs.MemoryMap.{AreSameSpaces, copied_in, map_of, sizes_of}
use Rattle.host_map.specs.Creation.{deleted_map, handed_on}
use Rattle.host_spaces.proofs.Maps.{maps_equal}
use Rattle.host_table.specs.declared.member.Member.{Member}
use Rattle.host_shared.specs.declared.locations.Locations.{Locations}
use Rattle.host_shared.specs.Locations.{owner_of, shared_at}
use Rattle.host_shared.specs.Sharing.{next_sharer}
use Rattle.host_table.specs.Table.{slot_at, group_at, instance_of}
use Rattle.host_table.specs.Sharers.{asked_by}
use Rattle.host_moves.specs.Standing.{AgreeWithMap, table_of}
use Rattle.host_moves.proofs.Owners.{own_owner}
use Rattle.host_moves.proofs.OwnMoves.{same_sizes}
use Rattle.host_instances.specs.Ends.{has_members, sharers_among}

pub stay_then : (a b c : Spaces) → AreSameSpaces a b → AreSameSpaces b c → AreSameSpaces a c
stay_then a b c first second space = record { region = (second space).region ∙ (first space).region; slid = (second space).slid ∙ (first space).slid }

module _ (a b : Spaces) (stay : AreSameSpaces a b) where
  pub sizes_stay : sizes_of b ≡ sizes_of a
  sizes_stay = same_sizes a b (λ space. (stay space).region)

  pub copied_stay : copied_in b ≡ copied_in a
  copied_stay =
      let d : b.daram.slid ≡ a.daram.slid = (stay Daram).slid in
      let s : b.saram.slid ≡ a.saram.slid = (stay Saram).slid in
      let e : b.external.slid ≡ a.external.slid = (stay External).slid in
      rw (d, s, e) refl

-- ---- who gets the blocks that were shared

renamed_agree : (f g : Owner → Owner) (bs : List Placed) → ((o : Owner) → (f o ≡ g o) ⊎ (owned o bs ≡ [])) → renamed_blocks f bs ≡ renamed_blocks g bs
renamed_agree f g [] agree = refl
renamed_agree f g (b ∷ bs) agree =
    elim (agree b.owner) [
      | inr none ↦
          let first : b ∷ owned b.owner bs ≡ [] = rw (itself b.owner) at none in
          let no : ⊥ = cc in
          absurd no
      | inl same ↦
          ap (λ (q : Owner). let c : Placed = record b { owner = q } in c ∷ renamed_blocks f bs) same
          ∙ ap (λ (cs : List Placed). let c : Placed = record b { owner = g b.owner } in c ∷ cs) (renamed_agree f g bs (λ o. rest o (agree o)))
    ]
  where
    behind : (o : Owner) (t : Bool) → (if t then b ∷ owned o bs else owned o bs) ≡ [] → owned o bs ≡ []
    behind o true none = (let no : ⊥ = cc in absurd no)
    behind o false none = none

    rest : (o : Owner) → (f o ≡ g o) ⊎ (owned o (b ∷ bs) ≡ []) → (f o ≡ g o) ⊎ (owned o bs ≡ [])
    rest o (inl same) = inl same
    rest o (inr none) = inr (behind o (same_owner o b.owner) none)

maps_agree : (f g : Owner → Owner) (map : MemoryMap) → ((o : Owner) (space : Space) → (f o ≡ g o) ⊎ (owned o (blocks_in map space) ≡ [])) → renamed f map ≡ renamed g map
maps_agree f g map agree =
    maps_equal (renamed f map) (renamed g map) (renamed_agree f g (blocks_in map Daram) (λ o. agree o Daram)) (renamed_agree f g (blocks_in map Saram) (λ o. agree o Saram))
    (renamed_agree f g (blocks_in map External) (λ o. agree o External))

module _ {M : Type 0} (same : M → M → Bool) (i : ℕ) (instances instances' : List (Option (Member M))) (sharing : List Locations) (groups : List Group) (spaces : Spaces) (standing : AgreeWithMap instances sharing groups spaces)
    (m : Member M) (at : slot_at instances i ≡ Some m) (least_sharer : (k : ℕ) → owner_of sharing i k ≡ i → next_sharer sharing i k ≡ sharers_among same instances' (asked_by (Some m)) k) where
  sharer_is : (k : ℕ) → owner_of sharing i k ≡ i → next_sharer sharing i k ≡ sharers_among same instances' (asked_by (slot_at instances i)) k
  sharer_is k owner = least_sharer k owner ∙ sym (ap (λ (a : Option (Member M)). sharers_among same instances' (asked_by a) k) at)

  same_owners : (o : Owner) (space : Space) → (handed_on (next_sharer sharing i) i o ≡ handed_on (sharers_among same instances' (asked_by (slot_at instances i))) i o) ⊎ (owned o (blocks_in (map_of spaces) space) ≡ [])
  same_owners (GroupScratch g) space = inl refl
  same_owners (Record a k) space =
      elim (eqb_tells a i) [
        | inr e ↦ inl (rw e.0 refl)
        | inl e ↦ elim (own_owner spaces i (owner_of sharing i) (table_of m) (instance_of m.inst).own (shared_at sharing i) (group_at groups m.group) (standing.owners i m at) k space) [
          | inl owner ↦ inl (rw e.0 (ap (λ (sharer : Option ℕ). Record (unwrap_or sharer i) k) (sharer_is k owner)))
          | inr none ↦ inr (ap (λ (x : ℕ). owned (Record x k) (blocks_in (map_of spaces) space)) e.1 ∙ none)
        ]
      ]

  -- the next sharer of a record is the least sharer that is left
  pub handed_same : renamed (handed_on (next_sharer sharing i) i) (map_of spaces) ≡ renamed (handed_on (sharers_among same instances' (asked_by (slot_at instances i))) i) (map_of spaces)
  handed_same = maps_agree (handed_on (next_sharer sharing i) i) (handed_on (sharers_among same instances' (asked_by (slot_at instances i))) i) (map_of spaces) same_owners

module _ {M : Type 0} (instances : List (Option (Member M))) (map records new : MemoryMap) (sharers : ℕ → Option ℕ) (i g h : ℕ) (same : g ≡ h) where
  -- the memory map where a member is left, and where none is
  pub map_with : has_members instances g ≡ true → new ≡ without_owners (is_instance's i) (renamed (handed_on sharers i) map) → new ≡ deleted_map (has_members instances h) map i h sharers
  map_with is e = subst (λ n. new ≡ deleted_map (has_members instances n) map i n sharers) same (rw is e)

  pub map_without : has_members instances g ≡ false → records ≡ without_owners (is_instance's i) (renamed (handed_on sharers i) map) → new ≡ without_owners (is_group's g) records
      → new ≡ deleted_map (has_members instances h) map i h sharers
  map_without is first second =
      subst (λ n. new ≡ deleted_map (has_members instances n) map i n sharers) same (rw is (second ∙ ap (without_owners (is_group's g)) first))
