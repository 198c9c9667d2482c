-- A new instance shares records with its sharers: the blocks of all, once those are the least holders'.
use Rattle.std.proofs.Common.{◌≡◌, ◌≢◌, ◌⊎◌, inl, inr, ℕ, zero, suc, ◌<◌, ◌≤◌, false, nat_lt, List, [], Option, Some, None, refl, sym, ◌∙◌, ap, subst, arith, if◌then◌else◌}
use Rattle.std.proofs.lemmas.Bool.Decides.{eqb_tells}
use Rattle.std.proofs.lemmas.Bool.{false≢true}
use Rattle.std.proofs.lemmas.Option.{none-some}
use Rattle.space_raw.specs.Span.{Extent, Span}
use Rattle.mem_rec.specs.declared.MemRec.{MemRec}
use Rattle.mem_rec.specs.declared.Space.{Space}
use Rattle.mem_rec.specs.declared.Attr.{Attr}
use Rattle.mem_rec.specs.declared.Attr.TheVariants.{WriteOnce}
use Rattle.relocate.specs.Places.{placed_size}
use Rattle.ialg.specs.Records.{record_at}
use Rattle.ialg.proofs.Tables.{record_at-unplaced}
use Rattle.record_loans.specs.declared.pieces.Pieces.{Pieces}
use Rattle.record_loans.specs.Pieces.{piece_at}
use Rattle.scratch_group.specs.declared.group.Group.{Group}
use Rattle.lifecycle.specs.declared.instance.Instance.{Instance}
use Rattle.lifecycle.specs.Rooms.{lasting_piece, piece_of_record}
use Rattle.host_map.specs.declared.placed.Owner.{Owner}
use Rattle.host_map.specs.declared.placed.Owner.TheVariants.{Record, Scratch as GroupScratch}
use Rattle.host_map.specs.Blocks.{owned, renamed_blocks}
use Rattle.host_spaces.specs.declared.spaces.Spaces.{Spaces}
use Rattle.host_spaces.specs.MemoryMap.{AreSameSpaces, map_of, space_in}
use Rattle.host_map.specs.MemoryMap.{blocks_in}
use Rattle.host_spaces.specs.Pieces.{IsPieceOf, is_placed_once, is_write_once, record_block}
use Rattle.host_table.specs.declared.member.Member.{Member}
use Rattle.host_shared.specs.declared.joining.Sharers.{Sharers}
use Rattle.host_shared.specs.declared.locations.Location.{Location}
use Rattle.host_shared.specs.declared.locations.Location.TheVariants.{Here, At}
use Rattle.host_shared.specs.declared.locations.Locations.{Locations}
use Rattle.host_shared.specs.Locations.{location_at, locations_at, owner_by, owner_of, shared_at}
use Rattle.host_shared.specs.Owners.{IsSameLocation}
use Rattle.host_table.specs.Table.{slot_at, group_at, instance_of, unbased, AreHeld}
use Rattle.host_shared.specs.Joining.{sharer_at, piece_joined, pieces_joined, location_joined}
use Rattle.host_table.proofs.Held.{owners_of_held}
use Rattle.host_table.proofs.Sharing.{IsLeastSharer}
use Rattle.host_table.proofs.Together.{owner_lives}
use Rattle.host_table.proofs.Leasts.{owner_same}
use Rattle.host_moves.proofs.Sharing.{ltb_tells, not_equal}
use Rattle.host_moves.specs.Standing.{IsPieceThere, table_of}
use Rattle.host_moves.proofs.Owners.{owner_record, no_record, renamed_record}
use Rattle.host_moves.proofs.Instances.{other_instance, not_a_group}
use Rattle.host_instances.specs.Growth.{AreGrown}
use Rattle.host_instances.specs.Started.{IsPlaced}

-- a record's piece that isn't wanted isn't there
no_piece : (owner : Extent) (size : ℕ) (p : Option Span) → IsPieceOf owner size false p → p ≡ None
no_piece owner size None is = refl
no_piece owner size (Some p) is = absurd (false≢true is.0)

-- what the new instance sees
pub seen_none : (sharing : List Locations) (sharers : Sharers) (placed : Pieces) (k : ℕ) → sharer_at sharers k ≡ None → piece_at (pieces_joined sharing sharers placed) k ≡ piece_at placed k
seen_none sharing sharers placed zero is = ap (λ (o : Option ℕ). piece_joined sharing 0 o placed.p0) is
seen_none sharing sharers placed (suc zero) is = ap (λ (o : Option ℕ). piece_joined sharing 1 o placed.p1) is
seen_none sharing sharers placed (suc (suc zero)) is = ap (λ (o : Option ℕ). piece_joined sharing 2 o placed.p2) is
seen_none sharing sharers placed (suc (suc (suc zero))) is = ap (λ (o : Option ℕ). piece_joined sharing 3 o placed.p3) is
seen_none sharing sharers placed (suc (suc (suc (suc k)))) is = refl

pub seen_sharer : (sharing : List Locations) (sharers : Sharers) (placed : Pieces) (k t : ℕ) → sharer_at sharers k ≡ Some t → piece_at (pieces_joined sharing sharers placed) k ≡ piece_at (shared_at sharing t) k
seen_sharer sharing sharers placed zero t is = ap (λ (o : Option ℕ). piece_joined sharing 0 o placed.p0) is
seen_sharer sharing sharers placed (suc zero) t is = ap (λ (o : Option ℕ). piece_joined sharing 1 o placed.p1) is
seen_sharer sharing sharers placed (suc (suc zero)) t is = ap (λ (o : Option ℕ). piece_joined sharing 2 o placed.p2) is
seen_sharer sharing sharers placed (suc (suc (suc zero))) t is = ap (λ (o : Option ℕ). piece_joined sharing 3 o placed.p3) is
seen_sharer sharing sharers placed (suc (suc (suc (suc k)))) t is = absurd (none-some t is)

-- the owner of a record of the new instance: the lower number of the new instance's and its sharer's
abbrev pub owner_joined : ℕ → Option ℕ → ℕ
owner_joined i None = i
owner_joined i (Some t) = if nat_lt t i then t else i

module _ {M : Type 0} (i g : ℕ) (instances : List (Option (Member M))) (sharing : List Locations) (groups : List Group) (spaces mid : Spaces) (a : Instance M) (shared seen : Pieces) (sharers : ℕ → Option ℕ)
    (empty : slot_at instances i ≡ None) (held : AreHeld instances sharing) (grown : AreGrown g instances sharing groups spaces)
    (tells : (k t : ℕ) → sharers k ≡ Some t → IsLeastSharer instances k a t) (at_owner : (k t : ℕ) → sharers k ≡ Some t → owner_of sharing t k ≡ t)
    (placed : IsPlaced spaces i sharers a.table a.own shared (group_at groups g))
    (sees_none : (k : ℕ) → sharers k ≡ None → piece_at seen k ≡ piece_at shared k) (sees_sharer : (k t : ℕ) → sharers k ≡ Some t → piece_at seen k ≡ piece_at (shared_at sharing t) k)
    (taken : (k t : ℕ) (space : Space) → sharers k ≡ Some t → i < t → owned (Record i k) (blocks_in (map_of spaces) space) ≡ []
    → owned (Record i k) (blocks_in (map_of mid) space) ≡ renamed_blocks (λ o. Record i k) (owned (Record t k) (blocks_in (map_of spaces) space)))
    (left : (k t : ℕ) (space : Space) → sharers k ≡ Some t → i < t → owned (Record t k) (blocks_in (map_of mid) space) ≡ [])
    (others : (o : Owner) (space : Space) → ((k t : ℕ) → sharers k ≡ Some t → i < t → (o ≢ Record i k) × (o ≢ Record t k))
    → owned o (blocks_in (map_of mid) space) ≡ owned o (blocks_in (map_of spaces) space))
    (stays : AreSameSpaces spaces mid) where
  one_sharer : (k t u : ℕ) → sharers k ≡ Some t → sharers k ≡ Some u → u ≡ t
  one_sharer k t u first second = let both : Some u ≡ Some t = sym second ∙ first in cc

  sharer_apart : (k t : ℕ) → sharers k ≡ Some t → t ≢ i
  sharer_apart k t is same = none-some (tells k t is).member (sym empty ∙ ap (slot_at instances) (sym same) ∙ (tells k t is).at)

  once_attr : (k t : ℕ) → sharers k ≡ Some t → (record_at a.table k).attr ≡ WriteOnce
  once_attr k t is = (tells k t is).alike.once

  -- the sharer's record is the same but for its base
  sharer_record : (k t : ℕ) (is : sharers k ≡ Some t) → record_at (table_of (tells k t is).member) k ≡ unbased (record_at a.table k)
  sharer_record k t is = record_at-unplaced (instance_of (tells k t is).member.inst).table k ∙ (tells k t is).alike.shape

  pub nothing_placed : (k t : ℕ) → sharers k ≡ Some t → piece_at shared k ≡ None
  nothing_placed k t is =
      no_piece (space_in spaces (record_at a.table k).space).region (placed_size (record_at a.table k).size) (piece_at shared k)
      (subst (λ (o : Option ℕ). IsPieceOf (space_in spaces (record_at a.table k).space).region (placed_size (record_at a.table k).size) (is_placed_once o (record_at a.table k).attr) (piece_at shared k)) is
      (placed.pieces.write_once k))

  not_yet : (k t : ℕ) (space : Space) → sharers k ≡ Some t → owned (Record i k) (blocks_in (map_of spaces) space) ≡ []
  not_yet k t space is =
      placed.records k space
      ∙ ap (record_block i k (record_at a.table k) space)
      (ap (λ (b : Attr). lasting_piece b (piece_at a.own k) (piece_at shared k)) (once_attr k t is) ∙ nothing_placed k t is)
      ∙ no_record i k (record_at a.table k) space

  -- the sharer's block is the record's
  sharer_block : (k t : ℕ) (space : Space) → sharers k ≡ Some t
      → owned (Record t k) (blocks_in (map_of spaces) space) ≡ record_block t k (record_at a.table k) space (piece_of_record a.table a.own seen k)
  sharer_block k t space is =
      let m = (tells k t is).member in
      let r = record_at a.table k in
      let theirs = piece_at (instance_of m.inst).own k in
      let mine = piece_at a.own k in
      let lent = piece_at (shared_at sharing t) k in
      owner_record spaces t (owner_of sharing t) (table_of m) (instance_of m.inst).own (shared_at sharing t) (group_at groups m.group) (grown.owners t m (tells k t is).at) k space t (at_owner k t is)
      ∙ ap (λ (s : MemRec). record_block t k s space (lasting_piece s.attr theirs lent)) (sharer_record k t is)
      ∙ ap (λ (b : Attr). record_block t k r space (lasting_piece b theirs lent)) (once_attr k t is)
      ∙ ap (record_block t k r space) (sym (sees_sharer k t is))
      ∙ ap (λ (b : Attr). record_block t k r space (lasting_piece b mine (piece_at seen k))) (sym (once_attr k t is))

  -- ---- the new instance

  abbrev IsBlock : ℕ → ℕ → Space → Type 0
  IsBlock h k space = owned (Record h k) (blocks_in (map_of mid) space) ≡ record_block h k (record_at a.table k) space (piece_of_record a.table a.own seen k)

  own_block : (k : ℕ) (space : Space) → sharers k ≡ None → IsBlock i k space
  own_block k space none =
      others (Record i k) space
      (λ l t is less. (
        (λ e. let number : k ≡ l = cc in none-some t (sym none ∙ ap sharers number ∙ is)),
        (λ e. let instance : t ≡ i = cc in sharer_apart l t is instance),
      ))
      ∙ placed.records k space
      ∙ ap (λ (p : Option Span). record_block i k (record_at a.table k) space (lasting_piece (record_at a.table k).attr (piece_at a.own k) p)) (sym (sees_none k none))

  -- where the sharer has the lower number it keeps the block
  kept_block : (k t : ℕ) (space : Space) → sharers k ≡ Some t → t < i → IsBlock t k space
  kept_block k t space is lower =
      others (Record t k) space
      (λ l u its less. (
        other_instance i t l k (sharer_apart k t is),
        (λ e.
            let instance : t ≡ u = cc in
            omega (arith, instance, less, lower)),
      ))
      ∙ sharer_block k t space is

  taken_block : (k t : ℕ) (space : Space) → sharers k ≡ Some t → i < t → IsBlock i k space
  taken_block k t space is less =
      taken k t space is less (not_yet k t space is)
      ∙ ap (renamed_blocks (λ o. Record i k)) (sharer_block k t space is)
      ∙ renamed_record t i k (record_at a.table k) space (piece_of_record a.table a.own seen k)

  above : (k t : ℕ) → sharers k ≡ Some t → i ≤ t → i < t
  above k t is least = let apart = sharer_apart k t is in omega (arith, least, apart)

  block_at : (k : ℕ) (space : Space) (o : Option ℕ) → sharers k ≡ o → IsBlock (owner_joined i o) k space
  block_at k space None is = own_block k space is
  block_at k space (Some t) is =
      elim (ltb_tells t i) [
        | inl e ↦ rw e.0 (kept_block k t space is e.1)
        | inr e ↦ rw e.0 (taken_block k t space is (above k t is e.1))
      ]

  away_at : (k : ℕ) (space : Space) (o : Option ℕ) → sharers k ≡ o → owner_joined i o ≢ i → owned (Record i k) (blocks_in (map_of mid) space) ≡ []
  away_at k space None is apart = absurd (apart refl)
  away_at k space (Some t) is apart =
      elim (ltb_tells t i) [
        | inr e ↦ absurd (apart (rw e.0 refl))
        | inl e ↦
            others (Record i k) space
            (λ l u its less. (
              (λ f.
                  let number : k ≡ l = cc in
                  let same : u ≡ t = one_sharer k t u is (ap sharers number ∙ its) in
                  let lower = e.1 in
                  omega (arith, same, less, lower)),
              (λ f. let instance : u ≡ i = cc in sharer_apart l u its instance),
            ))
            ∙ not_yet k t space is
      ]

  piece_there : (k : ℕ) (o : Option ℕ) → sharers k ≡ o
      → IsPieceOf (space_in spaces (record_at a.table k).space).region (placed_size (record_at a.table k).size) (is_write_once (record_at a.table k).attr) (piece_at seen k)
  piece_there k None is =
      rw (sees_none k is)
      (subst (λ (o : Option ℕ). IsPieceOf (space_in spaces (record_at a.table k).space).region (placed_size (record_at a.table k).size) (is_placed_once o (record_at a.table k).attr) (piece_at shared k)) is
      (placed.pieces.write_once k))
  piece_there k (Some t) is =
      let m = (tells k t is).member in
      rw (sees_sharer k t is)
      (subst (λ (r : MemRec). IsPieceOf (space_in spaces r.space).region (placed_size r.size) (is_write_once r.attr) (piece_at (shared_at sharing t) k)) (sharer_record k t is)
      ((grown.owners t m (tells k t is).at).pieces.write_once k))

  pub owner_new : IsPieceThere mid i (λ k. owner_joined i (sharers k)) a.table a.own seen (group_at groups g)
  owner_new = record {
    valid = placed.valid;
    need = placed.need;
    records = λ k space. block_at k space (sharers k) refl;
    away = λ k space apart. away_at k space (sharers k) refl apart;
    pieces = record {
      persistent = λ k. rw ((stays (record_at a.table k).space).region) (placed.pieces.persistent k);
      write_once = λ k. rw ((stays (record_at a.table k).space).region) (piece_there k (sharers k) refl);
    };
  }

  -- ---- the others

  pub group_stays : (h : ℕ) (space : Space) → owned (GroupScratch h) (blocks_in (map_of mid) space) ≡ owned (GroupScratch h) (blocks_in (map_of spaces) space)
  group_stays h space = others (GroupScratch h) space (λ k t is less. ((λ e. not_a_group i k h (sym e)), (λ e. not_a_group t k h (sym e))))

  pub gone_stays : (j k : ℕ) (space : Space) → j ≢ i → slot_at instances j ≡ None → owned (Record j k) (blocks_in (map_of spaces) space) ≡ [] → owned (Record j k) (blocks_in (map_of mid) space) ≡ []
  gone_stays j k space apart none before =
      others (Record j k) space
      (λ l t is less. (
        other_instance i j l k apart,
        (λ e. let instance : t ≡ j = cc in none-some (tells l t is).member (sym none ∙ ap (slot_at instances) (sym instance) ∙ (tells l t is).at)),
      ))
      ∙ before

  module _ (sharing' : List Locations) (stands : (j k : ℕ) → IsSameLocation (location_joined sharing i k (sharers k) (piece_at shared k) j) (location_at (locations_at sharing' j) k)) where
    owner_then : (j k : ℕ) → owner_of sharing' j k ≡ owner_by j (location_joined sharing i k (sharers k) (piece_at shared k) j)
    owner_then j k = owner_same j (location_joined sharing i k (sharers k) (piece_at shared k) j) (location_at (locations_at sharing' j) k) (stands j k)

    -- the sharer's piece stands with it
    here_at : (k t : ℕ) (s : Location) → location_at (locations_at sharing t) k ≡ s → owner_by t s ≡ t → owner_by i s ≡ i
    here_at k t (Here p) is owner = refl
    here_at k t (At h) is owner =
        let here = owners_of_held instances sharing held t k h is in
        let both : At h ≡ Here (Some here.0) = sym is ∙ ap (λ (x : ℕ). location_at (locations_at sharing x) k) (sym owner) ∙ here.1 in
        let no : ⊥ = cc in
        absurd no

    new_by : (k : ℕ) (o : Option ℕ) → sharers k ≡ o → owner_by i (location_joined sharing i k o (piece_at shared k) i) ≡ owner_joined i o
    new_by k None is =
        elim (eqb_tells i i) [
          | inl e ↦ rw e.0 refl
          | inr e ↦ absurd (e.1 refl)
        ]
    new_by k (Some t) is =
        elim (eqb_tells i i) [
          | inr e ↦ absurd (e.1 refl)
          | inl e ↦ elim (ltb_tells t i) [
            | inl f ↦ rw (f.0, e.0) refl
            | inr f ↦ rw (f.0, e.0) (here_at k t (location_at (locations_at sharing t) k) refl (at_owner k t is))
          ]
        ]

    pub owner_of_new : (k : ℕ) → owner_of sharing' i k ≡ owner_joined i (sharers k)
    owner_of_new k = owner_then i k ∙ new_by k (sharers k) refl

    -- what a record of another instance stands with: as before, or with the new instance
    record Stays (j k : ℕ) : Type 0 where
      owner : owner_of sharing' j k ≡ owner_of sharing j k
      beside : (t : ℕ) → sharers k ≡ Some t → i < t → owner_of sharing j k ≢ t

    record Moves (j k : ℕ) : Type 0 where
      sharer : ℕ
      is : sharers k ≡ Some sharer
      less : i < sharer
      was : owner_of sharing j k ≡ sharer
      owner : owner_of sharing' j k ≡ i

    either_way : (j k : ℕ) (o : Option ℕ) → j ≢ i → sharers k ≡ o → owner_of sharing' j k ≡ owner_by j (location_joined sharing i k o (piece_at shared k) j) → Stays j k ⊎ Moves j k
    either_way j k None apart is now = inl (record { owner = now ∙ rw (not_equal j i apart) refl; beside = λ t its. absurd (none-some t (sym is ∙ its)) })
    either_way j k (Some t) apart is now =
        elim (ltb_tells t i) [
          | inl e ↦
              inl (record {
                owner = now ∙ rw (e.0, not_equal j i apart) refl;
                beside = λ u its less. let same = one_sharer k t u is its in let lower = e.1 in absurd (omega (arith, same, less, lower));
              })
          | inr e ↦ elim (eqb_tells (owner_of sharing j k) t) [
            | inl f ↦ inr (record { sharer = t; is = is; less = above k t is e.1; was = f.1; owner = now ∙ rw (e.0, not_equal j i apart, f.0) refl })
            | inr f ↦ inl (record { owner = now ∙ rw (e.0, not_equal j i apart, f.0) refl; beside = λ u its less. λ h. f.1 (h ∙ one_sharer k t u is its) })
          ]
        ]

    module _ (j : ℕ) (m : Member M) (at : slot_at instances j ≡ Some m) (apart : j ≢ i) where
      was : IsPieceThere spaces j (owner_of sharing j) (table_of m) (instance_of m.inst).own (shared_at sharing j) (group_at groups m.group)
      was = grown.owners j m at

      abbrev IsTheirs : ℕ → ℕ → Space → Type 0
      IsTheirs h k space = owned (Record h k) (blocks_in (map_of mid) space) ≡ record_block h k (record_at (table_of m) k) space (piece_of_record (table_of m) (instance_of m.inst).own (shared_at sharing j) k)

      not_new : (k : ℕ) → owner_of sharing j k ≢ i
      not_new k e = let owner = owner_lives instances sharing j k m held at in none-some owner.0 (sym empty ∙ ap (slot_at instances) (sym e) ∙ owner.1)

      record_then : (k : ℕ) (space : Space) → IsTheirs (owner_of sharing' j k) k space
      record_then k space =
          elim (either_way j k (sharers k) apart refl (owner_then j k)) [
            | inl same ↦
                let h = owner_of sharing j k in
                subst (λ (x : ℕ). IsTheirs x k space) (sym same.owner)
                (others (Record h k) space
                (λ l t is less. (
                  other_instance i h l k (not_new k),
                  (λ e.
                      let instance : h ≡ t = cc in
                      let number : k ≡ l = cc in
                      same.beside t (ap sharers number ∙ is) less instance),
                ))
                ∙ was.records k space)
            | inr moved ↦
                subst (λ (x : ℕ). IsTheirs x k space) (sym moved.owner)
                (taken k moved.sharer space moved.is moved.less (not_yet k moved.sharer space moved.is)
                ∙ ap (renamed_blocks (λ o. Record i k))
                (owner_record spaces j (owner_of sharing j) (table_of m) (instance_of m.inst).own (shared_at sharing j) (group_at groups m.group) was k space moved.sharer moved.was)
                ∙ renamed_record moved.sharer i k (record_at (table_of m) k) space (piece_of_record (table_of m) (instance_of m.inst).own (shared_at sharing j) k))
          ]

      away_then : (k : ℕ) (space : Space) → owner_of sharing' j k ≢ j → owned (Record j k) (blocks_in (map_of mid) space) ≡ []
      away_then k space away =
          elim (either_way j k (sharers k) apart refl (owner_then j k)) [
            | inl same ↦
                others (Record j k) space
                (λ l t is less. (
                  other_instance i j l k apart,
                  (λ e.
                      let instance : j ≡ t = cc in
                      let number : k ≡ l = cc in
                      let its : sharers k ≡ Some t = ap sharers number ∙ is in
                      away (same.owner ∙ ap (λ (x : ℕ). owner_of sharing x k) instance ∙ at_owner k t its ∙ sym instance)),
                ))
                ∙ was.away k space (λ e. away (same.owner ∙ e))
            | inr moved ↦ elim (eqb_tells j moved.sharer) [
              | inl e ↦ ap (λ (x : ℕ). owned (Record x k) (blocks_in (map_of mid) space)) e.1 ∙ left k moved.sharer space moved.is moved.less
              | inr e ↦
                  others (Record j k) space
                  (λ l t is less. (
                    other_instance i j l k apart,
                    (λ f.
                        let instance : j ≡ t = cc in
                        let number : k ≡ l = cc in
                        e.1 (instance ∙ one_sharer k moved.sharer t moved.is (ap sharers number ∙ is))),
                  ))
                  ∙ was.away k space (λ f. e.1 (sym f ∙ moved.was))
            ]
          ]

      pub owner_of_other : IsPieceThere mid j (owner_of sharing' j) (table_of m) (instance_of m.inst).own (shared_at sharing j) (group_at groups m.group)
      owner_of_other = record {
        valid = was.valid;
        need = was.need;
        records = record_then;
        away = away_then;
        pieces = record {
          persistent = λ k. rw ((stays (record_at (table_of m) k).space).region) (was.pieces.persistent k);
          write_once = λ k. rw ((stays (record_at (table_of m) k).space).region) (was.pieces.write_once k);
        };
      }
