-- A new instance stands among the others.
use Rattle.std.proofs.Common.{◌≡◌, ◌≢◌, ℕ, ℤ, ◌<◌, inl, inr, Bool, true, false, List, [], Option, Some, None, IsSome, refl, sym, ◌∙◌, ap, subst}
use Rattle.std.proofs.lemmas.Option.{none-some, same_Some}
use Rattle.std.proofs.lemmas.Bool.{eq-eqb, true≢false, false≢true}
use Rattle.std.proofs.lemmas.Bool.Decides.{eqb_tells}
use Rattle.mem_rec.specs.declared.MemRec.{MemRec}
use Rattle.mem_rec.specs.declared.Space.{Space}
use Rattle.ialg.specs.Records.{unplaced}
use Rattle.record_loans.specs.declared.pieces.Pieces.{Pieces}
use Rattle.record_loans.specs.Pieces.{piece_at, SamePieces, no_pieces}
use Rattle.record_loans.specs.Blocks.{block_piece}
use Rattle.scratch_group.specs.declared.group.Group.{Group}
use Rattle.scratch_group.specs.Blocks.{block_in}
use Rattle.scratch_group.specs.Words.{placed, record_place}
use Rattle.scratch_group.proofs.Tables.{unplaced-with_bases}
use Rattle.lifecycle.specs.declared.instance.Instance.{Instance}
use Rattle.lifecycle.specs.declared.instance.Inst.{Inst}
use Rattle.lifecycle.specs.declared.instance.Inst.TheVariants.{Idling, Running}
use Rattle.lifecycle.specs.Moves.{settled}
use Rattle.lifecycle.specs.States.{Fits, SameInstance}
use Rattle.record_loans.proofs.PieceLemmas.{same_pieces}
use Rattle.host_table.specs.declared.member.Member.{Member}
use Rattle.host_shared.specs.declared.locations.Locations.{Locations}
use Rattle.host_shared.specs.declared.joining.Sharers.{Sharers}
use Rattle.host_shared.specs.Locations.{location_at, locations_at, owner_of, shared_at}
use Rattle.host_shared.specs.Owners.{IsSameLocation}
use Rattle.host_table.specs.Table.{slot_at, group_at, instance_of, active_in, is_member_of, AreHeld, TablesOk}
use Rattle.host_map.specs.Sharers.{Asked, asked, sharer_of}
use Rattle.host_table.specs.Sharers.{asked_by, AreLeastSharers, AreTogether}
use Rattle.host_shared.specs.Joining.{sharer_at, pieces_joined, location_joined}
use Rattle.host_shared.specs.Sharing.{AreLeast}
use Rattle.host_table.specs.Frames.{IsIdle, IsStarted, OthersStay}
use Rattle.host_table.proofs.Sharing.{IsLeastSharer}
use Rattle.host_table.proofs.Shared.{tells_sharer, sharer_at_owner}
use Rattle.host_map.specs.declared.placed.Owner.{Owner}
use Rattle.host_map.specs.declared.placed.Owner.TheVariants.{Record}
use Rattle.host_map.specs.Blocks.{owned, renamed_blocks}
use Rattle.host_spaces.specs.declared.spaces.Spaces.{Spaces}
use Rattle.host_spaces.specs.MemoryMap.{AreSameSpaces, map_of, space_in}
use Rattle.host_map.specs.MemoryMap.{blocks_in}
use Rattle.host_spaces.specs.Pieces.{AreSharable, HasBlocks, is_write_once}
use Rattle.host_moves.specs.Standing.{AreOrdered, AgreeWithMap, IsPieceThere, IsOf, SameInstances, SlotIsSame, table_of}
use Rattle.host_moves.proofs.Owners.{owner_by_same, owner_stays, pieces_none}
use Rattle.host_moves.proofs.MovedBlocks.{alike_itself}
use Rattle.host_moves.proofs.Rooms.{room_at_owner}
use Rattle.host_instances.specs.Growth.{AreGrown}
use Rattle.host_instances.specs.Started.{IsNewborn, IsPlaced}
use Rattle.host_instances.proofs.Joined.{owner_joined, seen_none, seen_sharer, nothing_placed, owner_new, group_stays, gone_stays, owner_of_new, owner_of_other}
use Rattle.host_instances.proofs.Unplaced.{owner_unplaced}

same_of : {M : Type 0} (s : Instance M) (inst : Inst M) → IsIdle s inst → SameInstance s (instance_of inst)
same_of s (Idling x) is = is
same_of s (Running x) is = absurd is

started_as : {M : Type 0} (g : ℕ) (s : Instance M) (slot : Option (Member M)) → IsStarted g s slot → (m : Member M) × ((slot ≡ Some m) × ((m.group ≡ g) × SameInstance s (instance_of m.inst)))
started_as g s None is = absurd is
started_as g s (Some m) is = (m, (refl, (is.0, same_of s m.inst is.1)))

-- a new instance joins its sharers, whose blocks it takes over where it has the lower number
pub record Joins {M : Type 0} (i g : ℕ) (instances : List (Option (Member M))) (sharing : List Locations) (groups : List Group) (spaces mid : Spaces) (s : Instance M) (shared : Pieces) (sharers : Sharers) : Type 0 where
  pub empty : slot_at instances i ≡ None
  pub held : AreHeld instances sharing
  pub grown : AreGrown g instances sharing groups spaces
  pub tells : (k t : ℕ) → sharer_at sharers k ≡ Some t → IsLeastSharer instances k s t
  pub at_owner : (k t : ℕ) → sharer_at sharers k ≡ Some t → owner_of sharing t k ≡ t
  pub placed : IsPlaced spaces i (sharer_at sharers) s.table s.own shared (group_at groups g)
  pub taken : (k t : ℕ) (space : Space) → sharer_at sharers k ≡ Some t → i < t → owned (Record i k) (blocks_in (map_of spaces) space) ≡ []
      → owned (Record i k) (blocks_in (map_of mid) space) ≡ renamed_blocks (λ o. Record i k) (owned (Record t k) (blocks_in (map_of spaces) space))
  pub left : (k t : ℕ) (space : Space) → sharer_at sharers k ≡ Some t → i < t → owned (Record t k) (blocks_in (map_of mid) space) ≡ []
  pub others : (o : Owner) (space : Space) → ((k t : ℕ) → sharer_at sharers k ≡ Some t → i < t → (o ≢ Record i k) × (o ≢ Record t k))
      → owned o (blocks_in (map_of mid) space) ≡ owned o (blocks_in (map_of spaces) space)
  pub stays : AreSameSpaces spaces mid

-- the sharers that are listed
module _ {M : Type 0} (same : M → M → Bool) (one : (a b : M) → same a b ≡ true → a ≡ b) (itself : (a : M) → same a a ≡ true) (instances : List (Option (Member M))) (sharing : List Locations) (groups : List Group)
    (ok : TablesOk instances sharing groups) (s : Instance M) (sharers : Sharers) (are : AreLeastSharers same instances (asked s.kind s.params.items s.table) sharers) where
  pub sharer_tells : (k t : ℕ) → sharer_at sharers k ≡ Some t → IsLeastSharer instances k s t
  sharer_tells k t is = tells_sharer same one itself instances ok.slot_count s k (Some t) (sym is ∙ are k)

  pub sharers_owner : AreLeast sharing → (k t : ℕ) → sharer_at sharers k ≡ Some t → owner_of sharing t k ≡ t
  sharers_owner least k t is = sharer_at_owner same one itself instances ok.slot_count sharing ok.held least s k t (sym (are k) ∙ is)

  pub sharable : AreSharable s.table (sharer_at sharers)
  sharable k t is = ap is_write_once (sharer_tells k t is).alike.once

module _ {M : Type 0} (same : M → M → Bool) (one : (a b : M) → same a b ≡ true → a ≡ b) (itself : (a : M) → same a a ≡ true)
    (i g : ℕ) (instances : List (Option (Member M))) (sharing : List Locations) (groups : List Group) (spaces mid : Spaces) (s : Instance M) (shared : Pieces) (sharers : Sharers) (list : ℕ → Option ℕ)
    (is_list : (k : ℕ) → list k ≡ sharer_at sharers k) (ok : TablesOk instances sharing groups) (empty : slot_at instances i ≡ None) (grown : AreGrown g instances sharing groups spaces)
    (are : AreLeastSharers same instances (asked s.kind s.params.items s.table) sharers) (placed : IsPlaced spaces i (sharer_at sharers) s.table s.own shared (group_at groups g))
    (taken : (k t : ℕ) (space : Space) → list k ≡ Some t → i < t → owned (Record i k) (blocks_in (map_of spaces) space) ≡ []
    → owned (Record i k) (blocks_in (map_of mid) space) ≡ renamed_blocks (λ o. Record i k) (owned (Record t k) (blocks_in (map_of spaces) space)))
    (left : (k t : ℕ) (space : Space) → list k ≡ Some t → i < t → owned (Record t k) (blocks_in (map_of mid) space) ≡ [])
    (others : (o : Owner) (space : Space) → ((k t : ℕ) → list k ≡ Some t → i < t → (o ≢ Record i k) × (o ≢ Record t k))
    → owned o (blocks_in (map_of mid) space) ≡ owned o (blocks_in (map_of spaces) space))
    (stays : AreSameSpaces spaces mid) where
  pub joining : Joins i g instances sharing groups spaces mid s shared sharers
  joining = record {
    empty = empty;
    held = ok.held;
    grown = grown;
    tells = sharer_tells same one itself instances sharing groups ok s sharers are;
    at_owner = sharers_owner same one itself instances sharing groups ok s sharers are grown.least;
    placed = placed;
    taken = λ k t space is. taken k t space (is_list k ∙ is);
    left = λ k t space is. left k t space (is_list k ∙ is);
    others = λ o space apart. others o space (λ k t is. apart k t (sym (is_list k) ∙ is));
    stays = stays;
  }

some_of : (o : Option ℕ) → IsSome o → (t : ℕ) × (o ≡ Some t)
some_of None some = absurd (false≢true some)
some_of (Some t) some = (t, refl)

module _ {M : Type 0} (i g : ℕ) (instances : List (Option (Member M))) (sharing : List Locations) (groups : List Group) (spaces mid : Spaces) (s : Instance M) (shared : Pieces) (sharers : Sharers)
    (joins : Joins i g instances sharing groups spaces mid s shared sharers) where
  abbrev seen : Pieces
  seen = pieces_joined sharing sharers shared

  -- a record with a sharer has no piece of its own
  pub none_placed : (k : ℕ) → IsSome (sharer_at sharers k) → piece_at shared k ≡ None
  none_placed k some =
      let sharer = some_of (sharer_at sharers k) some in
      nothing_placed i g instances sharing groups spaces mid s shared seen (sharer_at sharers) joins.empty joins.held joins.grown joins.tells joins.at_owner joins.placed
      (seen_none sharing sharers shared) (seen_sharer sharing sharers shared) joins.taken joins.left joins.others joins.stays k sharer.0 sharer.1

  joined_owner : IsPieceThere mid i (λ k. owner_joined i (sharer_at sharers k)) s.table s.own seen (group_at groups g)
  joined_owner =
      owner_new i g instances sharing groups spaces mid s shared seen (sharer_at sharers) joins.empty joins.held joins.grown joins.tells joins.at_owner joins.placed
      (seen_none sharing sharers shared) (seen_sharer sharing sharers shared) joins.taken joins.left joins.others joins.stays

  joined_blocks : (h : ℕ) → HasBlocks (map_of mid) h (group_at groups h)
  joined_blocks h space =
      group_stays i g instances sharing groups spaces mid s shared seen (sharer_at sharers) joins.empty joins.held joins.grown joins.tells joins.at_owner joins.placed
      (seen_none sharing sharers shared) (seen_sharer sharing sharers shared) joins.taken joins.left joins.others joins.stays h space
      ∙ joins.grown.blocks h space

  joined_regions : (h : ℕ) (space : Space) → IsOf (space_in mid space).region (block_piece (block_in (group_at groups h) space))
  joined_regions h space = rw ((joins.stays space).region) (joins.grown.regions h space)

  -- there is room for it
  pub room_joined : AreOrdered mid → Fits (placed s.table s.own seen (group_at groups g)) s.own seen (group_at groups g)
  room_joined ordered =
      room_at_owner mid i (λ k. owner_joined i (sharer_at sharers k)) g s.table s.own seen (group_at groups g) ordered joined_owner (joined_blocks g) (joined_regions g)

  module _ (instances' : List (Option (Member M))) (sharing' : List Locations)
      (gone : (j k : ℕ) (space : Space) → slot_at instances j ≡ None → j ≢ i → owned (Record j k) (blocks_in (map_of spaces) space) ≡ [])
      (others : OthersStay i instances sharing instances' sharing') (started : IsStarted g (settled s seen (group_at groups g)) (slot_at instances' i)) (pieces : SamePieces seen (shared_at sharing' i))
      (stands : (j k : ℕ) → IsSameLocation (location_joined sharing i k (sharer_at sharers k) (piece_at shared k) j) (location_at (locations_at sharing' j) k))
      (least : AreLeast sharing') (together : AreTogether instances' sharing') where
    new : (m : Member M) × ((slot_at instances' i ≡ Some m) × ((m.group ≡ g) × SameInstance (settled s seen (group_at groups g)) (instance_of m.inst)))
    new = started_as g (settled s seen (group_at groups g)) (slot_at instances' i) started

    same_table : table_of new.0 ≡ unplaced s.table
    same_table = ap unplaced new.1.1.1.table ∙ unplaced-with_bases s.table (record_place s.table s.own seen (group_at groups g))

    its_owners : (k : ℕ) → owner_of sharing' i k ≡ owner_joined i (sharer_at sharers k)
    its_owners =
        owner_of_new i g instances sharing groups spaces mid s shared seen (sharer_at sharers) joins.empty joins.held joins.grown joins.tells joins.at_owner joins.placed
        (seen_none sharing sharers shared) (seen_sharer sharing sharers shared) joins.taken joins.left joins.others joins.stays sharing' stands

    owner_of_it : IsPieceThere mid i (owner_of sharing' i) (table_of new.0) (instance_of new.0.inst).own (shared_at sharing' i) (group_at groups new.0.group)
    owner_of_it =
        subst (λ (h : ℕ). IsPieceThere mid i (owner_of sharing' i) (table_of new.0) (instance_of new.0.inst).own (shared_at sharing' i) (group_at groups h)) (sym new.1.1.0)
        (subst (λ (rs : List MemRec). IsPieceThere mid i (owner_of sharing' i) rs (instance_of new.0.inst).own (shared_at sharing' i) (group_at groups g)) (sym same_table)
        (owner_by_same mid i (λ k. owner_joined i (sharer_at sharers k)) (owner_of sharing' i) (unplaced s.table) (instance_of new.0.inst).own (shared_at sharing' i) (group_at groups g) its_owners
        (owner_stays mid i (λ k. owner_joined i (sharer_at sharers k)) (unplaced s.table) s.own (instance_of new.0.inst).own seen (shared_at sharing' i) (group_at groups g) (group_at groups g)
        new.1.1.1.own pieces (λ space. alike_itself (block_in (group_at groups g) space)) (owner_unplaced mid i (λ k. owner_joined i (sharer_at sharers k)) s.table s.own seen (group_at groups g) joined_owner))))

    owner_of_another : (j : ℕ) (n : Member M) → j ≢ i → slot_at instances j ≡ Some n → IsPieceThere mid j (owner_of sharing' j) (table_of n) (instance_of n.inst).own (shared_at sharing' j) (group_at groups n.group)
    owner_of_another j n apart at =
        owner_stays mid j (owner_of sharing' j) (table_of n) (instance_of n.inst).own (instance_of n.inst).own (shared_at sharing j) (shared_at sharing' j) (group_at groups n.group) (group_at groups n.group)
        (same_pieces (instance_of n.inst).own) (others.pieces j apart) (λ space. alike_itself (block_in (group_at groups n.group) space))
        (owner_of_other i g instances sharing groups spaces mid s shared seen (sharer_at sharers) joins.empty joins.held joins.grown joins.tells joins.at_owner joins.placed
        (seen_none sharing sharers shared) (seen_sharer sharing sharers shared) joins.taken joins.left joins.others joins.stays sharing' stands j n at apart)

    not_new : (j : ℕ) → slot_at instances' j ≡ None → j ≢ i
    not_new j none e = none-some _ (sym none ∙ ap (slot_at instances') e ∙ new.1.0)

    member_is : is_member_of g (slot_at instances' i) ≡ true
    member_is = ap (is_member_of g) new.1.0 ∙ eq-eqb new.0.group g new.1.1.0

    was_none : (h j : ℕ) → is_member_of h (slot_at instances' j) ≡ false → is_member_of h (slot_at instances j) ≡ false
    was_none h j none = elim (eqb_tells j i) [
      | inl e ↦ rw (e.1, joins.empty) refl
      | inr e ↦ ap (is_member_of h) (sym (others.slot j e.1)) ∙ none
    ]

    pub joined_stands : AgreeWithMap instances' sharing' groups mid
    joined_stands = record {
      owners = λ j n at. elim (eqb_tells j i) [
        | inl e ↦
            let is : new.0 ≡ n = same_Some _ _ (sym new.1.0 ∙ rw e.1 at at) in
            rw e.1 (subst (λ (x : Member M). IsPieceThere mid i (owner_of sharing' i) (table_of x) (instance_of x.inst).own (shared_at sharing' i) (group_at groups x.group)) is owner_of_it)
        | inr e ↦ owner_of_another j n e.1 (sym (others.slot j e.1) ∙ at)
      ];
      least = least;
      together = together;
      free = λ j none.
          let apart = not_new j none in
          let was : shared_at sharing j ≡ no_pieces = joins.grown.free j (sym (others.slot j apart) ∙ none) in
          pieces_none (shared_at sharing' j) (subst (λ (p : Pieces). SamePieces p (shared_at sharing' j)) was (others.pieces j apart));
      gone = λ j k space none.
          let apart = not_new j none in
          let was : slot_at instances j ≡ None = sym (others.slot j apart) ∙ none in
          gone_stays i g instances sharing groups spaces mid s shared seen (sharer_at sharers) joins.empty joins.held joins.grown joins.tells joins.at_owner joins.placed
          (seen_none sharing sharers shared) (seen_sharer sharing sharers shared) joins.taken joins.left joins.others joins.stays j k space apart was (gone j k space was apart);
      blocks = joined_blocks;
      regions = joined_regions;
      unused = λ h space none. elim (eqb_tells h g) [
        | inl e ↦ absurd (true≢false (sym member_is ∙ rw e.1 at (none i)))
        | inr e ↦ joins.grown.unused h space e.1 (λ j. was_none h j (none j))
      ];
    }

    -- an idle instance of this kind, with these parameters and this table
    idle_one : (slot : Option (Member M)) → IsStarted g (settled s seen (group_at groups g)) slot → IsNewborn g s.kind s.params.items s.table slot
    idle_one None is = absurd is
    idle_one (Some m) is =
        let its = same_of (settled s seen (group_at groups g)) m.inst is.1 in
        record {
          group = is.0;
          kind_is = its.kind;
          params = ap (λ p. p.items) its.params;
          table_is = ap unplaced its.table ∙ unplaced-with_bases s.table (record_place s.table s.own seen (group_at groups g));
          idle = idle_of m.group m.inst is.1;
        }
      where
        idle_of : (h : ℕ) (inst : Inst M) → IsIdle (settled s seen (group_at groups g)) inst → active_in h inst ≡ None
        idle_of h (Idling x) idle = refl
        idle_of h (Running x) idle = absurd idle

    pub newborn : IsNewborn g s.kind s.params.items s.table (slot_at instances' i)
    newborn = idle_one (slot_at instances' i) started

-- ---- the same instances have the same sharers

asked_stays : {M : Type 0} (a b : Option (Member M)) → SlotIsSame a b → asked_by b ≡ asked_by a
asked_stays None b same = ap asked_by same
asked_stays (Some m) None same = absurd same
asked_stays (Some m) (Some n) same =
    ap Some (alike_asked (instance_of n.inst).kind (instance_of m.inst).kind (instance_of n.inst).params.items (instance_of m.inst).params.items (table_of n) (table_of m)
    same.kind (ap (λ p. p.items) same.params) same.table)
  where
    alike_asked : {M : Type 0} (a b : M) (p q : List ℤ) (rs ts : List MemRec) → a ≡ b → p ≡ q → rs ≡ ts
        → (let x : Asked M = record { kind = a; params = p; table = rs } in x) ≡ (let y : Asked M = record { kind = b; params = q; table = ts } in y)
    alike_asked a b p q rs ts e f h = rw (e, f, h) refl

pub sharers_stay : {M : Type 0} (same : M → M → Bool) (instances instances' : List (Option (Member M))) (x : Asked M) (sharers : Sharers) → SameInstances instances instances' → AreLeastSharers same instances x sharers → AreLeastSharers same instances' x sharers
sharers_stay {M} same instances instances' x sharers stay are k =
    are k ∙ sym (ap (λ (others : ℕ → Option (Asked M)). sharer_of same others x k) (λ t j. asked_stays (slot_at instances j) (slot_at instances' j) (stay j) t))
