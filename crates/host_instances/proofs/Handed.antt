-- What an instance shared is the next holders' once it goes.
use Rattle.std.proofs.Common.{◌≡◌, ◌≢◌, ◌⊎◌, inl, inr, ℕ, zero, suc, List, [], Option, Some, None, refl, sym, ◌∙◌, ap, subst}
use Rattle.std.proofs.lemmas.Bool.Decides.{eqb_tells}
use Rattle.std.proofs.lemmas.Option.{none-some}
use Rattle.space_raw.specs.Span.{Extent, Span}
use Rattle.mem_rec.specs.declared.MemRec.{MemRec}
use Rattle.mem_rec.specs.declared.Space.{Space}
use Rattle.mem_rec.specs.declared.Attr.{Attr}
use Rattle.mem_rec.specs.declared.Attr.TheVariants.{WriteOnce}
use Rattle.ialg.specs.Records.{record_at}
use Rattle.ialg.proofs.Tables.{record_at-unplaced}
use Rattle.record_loans.specs.declared.pieces.Pieces.{Pieces}
use Rattle.record_loans.specs.Pieces.{piece_at, IsSamePiece, SamePieces}
use Rattle.scratch_group.specs.declared.group.Group.{Group}
use Rattle.lifecycle.specs.Rooms.{lasting_piece, piece_of_record}
use Rattle.record_loans.proofs.PieceLemmas.{piece_same}
use Rattle.host_map.specs.declared.placed.Owner.{Owner}
use Rattle.host_map.specs.declared.placed.Owner.TheVariants.{Record, Scratch as GroupScratch}
use Rattle.host_map.specs.Blocks.{owned, renamed_blocks}
use Rattle.host_spaces.specs.declared.spaces.Spaces.{Spaces}
use Rattle.host_map.specs.MemoryMap.{blocks_in}
use Rattle.host_spaces.specs.MemoryMap.{map_of, space_in}
use Rattle.host_spaces.specs.Pieces.{ArePlacedPieces, IsPieceOf, is_placed_once, is_write_once, record_block}
use Rattle.host_table.specs.declared.member.Member.{Member}
use Rattle.host_shared.specs.declared.locations.Location.{Location}
use Rattle.host_shared.specs.declared.locations.Location.TheVariants.{Here, At}
use Rattle.host_shared.specs.declared.locations.Locations.{Locations}
use Rattle.host_shared.specs.Locations.{location_at, locations_at, owner_by, owner_of, shared_at}
use Rattle.host_shared.specs.Owners.{IsSameLocation}
use Rattle.host_shared.specs.Sharing.{next_sharer, piece_left, left_with, location_without}
use Rattle.host_table.specs.Table.{slot_at, group_at, instance_of, AreHeld}
use Rattle.host_shared.proofs.Stands.{seen_here}
use Rattle.host_table.proofs.Held.{owners_of_held, alike_back}
use Rattle.host_shared.proofs.Handing.{next_of, next_is, without_apart, without_held, next_here, next_there}
use Rattle.host_table.proofs.Together.{sharers}
use Rattle.host_table.proofs.Leasts.{owner_same}
use Rattle.host_moves.specs.Standing.{IsPieceThere, AgreeWithMap, table_of}
use Rattle.host_moves.proofs.Owners.{owner_record, lasting_alike, no_record, piece_alike, record_alike, renamed_record}
use Rattle.host_moves.proofs.Instances.{other_instance, not_a_group}

with_or_not : (i : ℕ) (s : Location) → (s ≡ At i) ⊎ (s ≢ At i)
with_or_not i (Here p) = inr (λ e. let both : Here p ≡ At i = e in cc)
with_or_not i (At h) =
    elim (eqb_tells h i) [
      | inl e ↦ inl (ap At e.1)
      | inr e ↦ inr (λ f. e.1 (let both : At h ≡ At i = f in cc))
    ]

-- ---- the pieces that are left

left_none : (sharing : List Locations) (i k h : ℕ) → next_sharer sharing i k ≡ Some h → piece_at (left_with sharing i) k ≡ None
left_none sharing i zero h is = ap (λ (o : Option ℕ). piece_left o (location_at (locations_at sharing i) 0)) is
left_none sharing i (suc zero) h is = ap (λ (o : Option ℕ). piece_left o (location_at (locations_at sharing i) 1)) is
left_none sharing i (suc (suc zero)) h is = ap (λ (o : Option ℕ). piece_left o (location_at (locations_at sharing i) 2)) is
left_none sharing i (suc (suc (suc zero))) h is = ap (λ (o : Option ℕ). piece_left o (location_at (locations_at sharing i) 3)) is
left_none sharing i (suc (suc (suc (suc k)))) h is = refl

none_with : (o : Option ℕ) (s : Location) (x : ℕ) → s ≡ At x → piece_left o s ≡ None
none_with None s x is = rw is refl
none_with (Some h) s x is = refl

left_with_none : (sharing : List Locations) (i k x : ℕ) → location_at (locations_at sharing i) k ≡ At x → piece_at (left_with sharing i) k ≡ None
left_with_none sharing i zero x is = none_with (next_sharer sharing i 0) (location_at (locations_at sharing i) 0) x is
left_with_none sharing i (suc zero) x is = none_with (next_sharer sharing i 1) (location_at (locations_at sharing i) 1) x is
left_with_none sharing i (suc (suc zero)) x is = none_with (next_sharer sharing i 2) (location_at (locations_at sharing i) 2) x is
left_with_none sharing i (suc (suc (suc zero))) x is = none_with (next_sharer sharing i 3) (location_at (locations_at sharing i) 3) x is
left_with_none sharing i (suc (suc (suc (suc k)))) x is = refl

all_of : (o : Option ℕ) (s : Location) (p : Option Span) → o ≡ None → s ≡ Here p → piece_left o s ≡ p
all_of o s p none here = rw (none, here) refl

left_all : (sharing : List Locations) (i k : ℕ) (p : Option Span) → next_sharer sharing i k ≡ None → location_at (locations_at sharing i) k ≡ Here p → piece_at (left_with sharing i) k ≡ piece_at (shared_at sharing i) k
left_all sharing i zero p none here = all_of (next_sharer sharing i 0) (location_at (locations_at sharing i) 0) p none here ∙ sym (seen_here sharing i 0 p here)
left_all sharing i (suc zero) p none here = all_of (next_sharer sharing i 1) (location_at (locations_at sharing i) 1) p none here ∙ sym (seen_here sharing i 1 p here)
left_all sharing i (suc (suc zero)) p none here = all_of (next_sharer sharing i 2) (location_at (locations_at sharing i) 2) p none here ∙ sym (seen_here sharing i 2 p here)
left_all sharing i (suc (suc (suc zero))) p none here = all_of (next_sharer sharing i 3) (location_at (locations_at sharing i) 3) p none here ∙ sym (seen_here sharing i 3 p here)
left_all sharing i (suc (suc (suc (suc k)))) p none here = refl

-- a record without a piece counts as one that another instance shares
abbrev pub missing : Option Span → Option ℕ
missing None = Some 0
missing (Some p) = None

placed_there : (owner : Extent) (size : ℕ) (a : Attr) (p : Option Span) → IsPieceOf owner size (is_write_once a) p → IsPieceOf owner size (is_placed_once (missing p) a) p
placed_there owner size a None is = refl
placed_there owner size a (Some p) is = is

placed_none : (owner : Extent) (size : ℕ) (a : Attr) (p : Option Span) → p ≡ None → IsPieceOf owner size (is_placed_once (missing p) a) p
placed_none owner size a None is = refl
placed_none owner size a (Some p) is = absurd (none-some p (sym is))

-- ---- instance i goes, and the next sharers have its blocks

module _ {M : Type 0} (i : ℕ) (instances : List (Option (Member M))) (sharing : List Locations) (groups : List Group) (spaces mid : Spaces) (next : ℕ → Option ℕ)
    (standing : AgreeWithMap instances sharing groups spaces) (held : AreHeld instances sharing) (is_next : (k : ℕ) → next k ≡ next_sharer sharing i k)
    (others : (o : Owner) (space : Space) → ((k h : ℕ) → next k ≡ Some h → (o ≢ Record i k) × (o ≢ Record h k))
    → owned o (blocks_in (map_of mid) space) ≡ owned o (blocks_in (map_of spaces) space)) where
  next_stands : (k h : ℕ) → next k ≡ Some h → location_at (locations_at sharing h) k ≡ At i
  next_stands k h is = next_is sharing i k h (sym (is_next k) ∙ is)

  next_apart : (h k : ℕ) → location_at (locations_at sharing h) k ≡ At i → h ≢ i
  next_apart h k is same =
      let here = owners_of_held instances sharing held h k i is in
      let both : At i ≡ Here (Some here.0) = sym is ∙ ap (λ (x : ℕ). location_at (locations_at sharing x) k) same ∙ here.1 in
      cc

  -- a block that is neither the instance's nor a next sharer's
  block_stays : (o : Owner) (space : Space) → ((k : ℕ) → o ≢ Record i k) → ((k h : ℕ) → location_at (locations_at sharing h) k ≡ At i → o ≢ Record h k)
      → owned o (blocks_in (map_of mid) space) ≡ owned o (blocks_in (map_of spaces) space)
  block_stays o space apart unheld = others o space (λ k h is. (apart k, unheld k h (next_stands k h is)))

  pub group_stays : (g : ℕ) (space : Space) → owned (GroupScratch g) (blocks_in (map_of mid) space) ≡ owned (GroupScratch g) (blocks_in (map_of spaces) space)
  group_stays g space = block_stays (GroupScratch g) space (λ k e. not_a_group i k g (sym e)) (λ k h is e. not_a_group h k g (sym e))

  pub record_stays : (j k : ℕ) (space : Space) → j ≢ i → location_at (locations_at sharing j) k ≢ At i
      → owned (Record j k) (blocks_in (map_of mid) space) ≡ owned (Record j k) (blocks_in (map_of spaces) space)
  record_stays j k space apart other =
      block_stays (Record j k) space (λ l. other_instance i j l k apart)
      (λ l h is e. other
      (let instance : j ≡ h = cc in let number : k ≡ l = cc in
      ap (λ (x : ℕ). location_at (locations_at sharing x) k) instance ∙ ap (λ (x : ℕ). location_at (locations_at sharing h) x) number ∙ is))

  -- the pieces that come back are those of the records that nobody else holds
  module _ (m : Member M) (at : slot_at instances i ≡ Some m) (own shared : Pieces) (same_own : SamePieces (instance_of m.inst).own own) (same_shared : SamePieces (left_with sharing i) shared)
      (left : (k h : ℕ) (space : Space) → next k ≡ Some h → h ≢ i → owned (Record i k) (blocks_in (map_of mid) space) ≡ [])
      (regions : (space : Space) → (space_in mid space).region ≡ (space_in spaces space).region) where
    owner : IsPieceThere spaces i (owner_of sharing i) (table_of m) (instance_of m.inst).own (shared_at sharing i) (group_at groups m.group)
    owner = standing.owners i m at

    none_then : (k : ℕ) → piece_at (left_with sharing i) k ≡ None → piece_at shared k ≡ None
    none_then k none = subst (λ (p : Option Span). IsSamePiece p (piece_at shared k)) none (piece_same (left_with sharing i) shared k same_shared)

    -- nobody else holds it, or it is write-once and nothing comes back
    record IsAlone (k : ℕ) : Type 0 where
      next_none : next k ≡ None
      at_owner : owner_of sharing i k ≡ i
      same : IsSamePiece (piece_at (shared_at sharing i) k) (piece_at shared k)

    record IsShared (k : ℕ) : Type 0 where
      attr : (record_at (table_of m) k).attr ≡ WriteOnce
      no_piece : piece_at shared k ≡ None
      no_block : (space : Space) → owned (Record i k) (blocks_in (map_of mid) space) ≡ []

    its_attr : (k : ℕ) → (record_at (instance_of m.inst).table k).attr ≡ WriteOnce → (record_at (table_of m) k).attr ≡ WriteOnce
    its_attr k once = ap (λ (r : MemRec). r.attr) (record_at-unplaced (instance_of m.inst).table k) ∙ once

    unnamed : (k : ℕ) (space : Space) → next k ≡ None → owned (Record i k) (blocks_in (map_of mid) space) ≡ owned (Record i k) (blocks_in (map_of spaces) space)
    unnamed k space none =
        others (Record i k) space
        (λ l h is. (
          (λ e. let number : k ≡ l = cc in none-some h (sym none ∙ ap next number ∙ is)),
          (λ e. next_apart h l (next_stands l h is) (let instance : h ≡ i = cc in instance)),
        ))

    when_next : (k h : ℕ) → next k ≡ Some h → IsShared k
    when_next k h is =
        let stands = next_stands k h is in
        let its = sharers k (slot_at instances h) (slot_at instances i) (location_at (locations_at sharing i) k) (held h k i stands) in
        let same : its.1 ≡ m = let both : Some its.1 ≡ Some m = sym its.3 ∙ at in cc in
        let back = alike_back k (instance_of its.0.inst) (instance_of its.1.inst) its.4 in
        record {
          attr = its_attr k (subst (λ (x : Member M). (record_at (instance_of x.inst).table k).attr ≡ WriteOnce) same back.once);
          no_piece = none_then k (left_none sharing i k h (sym (is_next k) ∙ is));
          no_block = λ space. left k h space is (next_apart h k stands);
        }

    by_location : (k : ℕ) (s : Location) → next k ≡ None → location_at (locations_at sharing i) k ≡ s → IsAlone k ⊎ IsShared k
    by_location k (Here p) none here =
        inl (record {
          next_none = none;
          at_owner = ap (owner_by i) here;
          same = subst (λ (q : Option Span). IsSamePiece q (piece_at shared k)) (left_all sharing i k p (sym (is_next k) ∙ none) here) (piece_same (left_with sharing i) shared k same_shared);
        })
    by_location k (At x) none there =
        let its = sharers k (slot_at instances i) (slot_at instances x) (location_at (locations_at sharing x) k) (held i k x there) in
        let same : its.0 ≡ m = let both : Some its.0 ≡ Some m = sym its.2 ∙ at in cc in
        let apart : owner_of sharing i k ≢ i = λ e. next_apart i k (there ∙ ap At (sym (ap (owner_by i) there) ∙ e)) refl in
        inr (record {
          attr = its_attr k (subst (λ (y : Member M). (record_at (instance_of y.inst).table k).attr ≡ WriteOnce) same its.4.once);
          no_piece = none_then k (left_with_none sharing i k x there);
          no_block = λ space. unnamed k space none ∙ owner.away k space apart;
        })

    by_next : (k : ℕ) (o : Option ℕ) → next k ≡ o → IsAlone k ⊎ IsShared k
    by_next k None is = by_location k (location_at (locations_at sharing i) k) is refl
    by_next k (Some h) is = inr (when_next k h is)

    pub records_left : (k : ℕ) (space : Space) → owned (Record i k) (blocks_in (map_of mid) space) ≡ record_block i k (record_at (table_of m) k) space (piece_of_record (table_of m) own shared k)
    records_left k space =
        elim (by_next k (next k) refl) [
          | inl alone ↦
              unnamed k space alone.next_none
              ∙ owner_record spaces i (owner_of sharing i) (table_of m) (instance_of m.inst).own (shared_at sharing i) (group_at groups m.group) owner k space i alone.at_owner
              ∙ sym (record_alike i k (record_at (table_of m) k) space (piece_of_record (table_of m) (instance_of m.inst).own (shared_at sharing i) k) (piece_of_record (table_of m) own shared k)
              (lasting_alike (record_at (table_of m) k).attr _ _ _ _ (piece_same (instance_of m.inst).own own k same_own) alone.same))
          | inr held_too ↦
              held_too.no_block space
              ∙ sym (no_record i k (record_at (table_of m) k) space)
              ∙ ap (record_block i k (record_at (table_of m) k) space)
              (sym (ap (λ (a : Attr). lasting_piece a (piece_at own k) (piece_at shared k)) held_too.attr ∙ held_too.no_piece))
        ]

    pub pieces_left : ArePlacedPieces mid (table_of m) (λ k. missing (piece_at shared k)) own shared
    pieces_left = record {
      persistent = λ k. rw (regions (record_at (table_of m) k).space) (piece_alike _ _ _ (piece_at (instance_of m.inst).own k) (piece_at own k) (piece_same (instance_of m.inst).own own k same_own) (owner.pieces.persistent k));
      write_once = λ k.
          rw (regions (record_at (table_of m) k).space)
          (elim (by_next k (next k) refl) [
            | inl alone ↦ placed_there _ _ _ (piece_at shared k) (piece_alike _ _ _ (piece_at (shared_at sharing i) k) (piece_at shared k) alone.same (owner.pieces.write_once k))
            | inr held_too ↦ placed_none _ _ _ (piece_at shared k) held_too.no_piece
          ]);
    }

  -- ---- those that stay

  module _ (sharing' : List Locations) (spaces' : Spaces) (stands : (j k : ℕ) → IsSameLocation (location_without sharing i k j) (location_at (locations_at sharing' j) k))
      (handed : (k h : ℕ) (space : Space) → next k ≡ Some h → owned (Record h k) (blocks_in (map_of spaces) space) ≡ []
      → owned (Record h k) (blocks_in (map_of mid) space) ≡ renamed_blocks (λ o. Record h k) (owned (Record i k) (blocks_in (map_of spaces) space)))
      (taken : (o : Owner) (space : Space) → ((k : ℕ) → o ≢ Record i k) → owned o (blocks_in (map_of spaces') space) ≡ owned o (blocks_in (map_of mid) space))
      (regions : (space : Space) → (space_in spaces' space).region ≡ (space_in spaces space).region) where
    owner_without : (j k : ℕ) → owner_of sharing' j k ≡ owner_by j (location_without sharing i k j)
    owner_without j k = owner_same j (location_without sharing i k j) (location_at (locations_at sharing' j) k) (stands j k)

    -- what stood with the instance stands with the next sharer
    owner_next : (j k h : ℕ) → j ≢ i → location_at (locations_at sharing j) k ≡ At i → next_sharer sharing i k ≡ Some h → owner_of sharing' j k ≡ h
    owner_next j k h apart is next_one =
        let here = owners_of_held instances sharing held j k i is in
        owner_without j k ∙ ap (owner_by j) (without_held sharing i k j h apart is next_one)
        ∙ elim (eqb_tells j h) [
          | inl e ↦ ap (owner_by j) (next_here h (location_at (locations_at sharing i) k) j e.1 ∙ here.1) ∙ e.1
          | inr e ↦ ap (owner_by j) (next_there h (location_at (locations_at sharing i) k) j e.1)
        ]

    owner_stays : (j k : ℕ) → j ≢ i → location_at (locations_at sharing j) k ≢ At i → owner_of sharing' j k ≡ owner_of sharing j k
    owner_stays j k apart other = owner_without j k ∙ ap (owner_by j) (without_apart sharing i k j apart other)

    owner_apart : (j k : ℕ) (s : Location) → location_at (locations_at sharing j) k ≡ s → j ≢ i → s ≢ At i → owner_by j s ≢ i
    owner_apart j k (Here p) is apart other = apart
    owner_apart j k (At x) is apart other = λ e. other (ap At e)

    owner_unheld : (j k : ℕ) (s : Location) → location_at (locations_at sharing j) k ≡ s → s ≢ At i → location_at (locations_at sharing (owner_by j s)) k ≢ At i
    owner_unheld j k (Here p) is other = λ e. other (sym is ∙ e)
    owner_unheld j k (At x) is other = λ e.
        let here = owners_of_held instances sharing held j k x is in
        let both : Here (Some here.0) ≡ At i = sym here.1 ∙ e in
        cc

    -- the next sharer has the block of the one that went
    next_block : (k h : ℕ) (space : Space) → next_sharer sharing i k ≡ Some h → location_at (locations_at sharing h) k ≡ At i
        → owned (Record h k) (blocks_in (map_of spaces') space) ≡ renamed_blocks (λ o. Record h k) (owned (Record i k) (blocks_in (map_of spaces) space))
    next_block k h space next_one is =
        let its = sharers k (slot_at instances h) (slot_at instances i) (location_at (locations_at sharing i) k) (held h k i is) in
        let apart : owner_of sharing h k ≢ h = λ e. next_apart h k is (sym e ∙ ap (owner_by h) is) in
        taken (Record h k) space (λ l. other_instance i h l k (next_apart h k is))
        ∙ handed k h space (is_next k ∙ next_one) ((standing.owners h its.0 its.2).away k space apart)

    module _ (j : ℕ) (m : Member M) (at : slot_at instances j ≡ Some m) (apart : j ≢ i) where
      abbrev IsBlock : ℕ → ℕ → Space → Type 0
      IsBlock h k space = owned (Record h k) (blocks_in (map_of spaces') space) ≡ record_block h k (record_at (table_of m) k) space (piece_of_record (table_of m) (instance_of m.inst).own (shared_at sharing j) k)

      was : IsPieceThere spaces j (owner_of sharing j) (table_of m) (instance_of m.inst).own (shared_at sharing j) (group_at groups m.group)
      was = standing.owners j m at

      record_then : (k : ℕ) (space : Space) → IsBlock (owner_of sharing' j k) k space
      record_then k space =
          elim (with_or_not i (location_at (locations_at sharing j) k)) [
            | inl is ↦
                let new = next_of sharing i k j is in
                subst (λ (h : ℕ). IsBlock h k space) (sym (owner_next j k new.0 apart is new.1))
                (next_block k new.0 space new.1 new.2
                ∙ ap (renamed_blocks (λ o. Record new.0 k))
                (owner_record spaces j (owner_of sharing j) (table_of m) (instance_of m.inst).own (shared_at sharing j) (group_at groups m.group) was k space i (ap (owner_by j) is))
                ∙ renamed_record i new.0 k (record_at (table_of m) k) space (piece_of_record (table_of m) (instance_of m.inst).own (shared_at sharing j) k))
            | inr other ↦
                let h = owner_of sharing j k in
                let elsewhere : h ≢ i = owner_apart j k (location_at (locations_at sharing j) k) refl apart other in
                subst (λ (x : ℕ). IsBlock x k space) (sym (owner_stays j k apart other))
                (taken (Record h k) space (λ l. other_instance i h l k elsewhere)
                ∙ record_stays h k space elsewhere (owner_unheld j k (location_at (locations_at sharing j) k) refl other)
                ∙ was.records k space)
          ]

      away_then : (k : ℕ) (space : Space) → owner_of sharing' j k ≢ j → owned (Record j k) (blocks_in (map_of spaces') space) ≡ []
      away_then k space away =
          taken (Record j k) space (λ l. other_instance i j l k apart)
          ∙ elim (with_or_not i (location_at (locations_at sharing j) k)) [
            | inl is ↦
                let new = next_of sharing i k j is in
                let not_next : j ≢ new.0 = λ e. away (owner_next j k new.0 apart is new.1 ∙ sym e) in
                others (Record j k) space
                (λ l h named. (
                  other_instance i j l k apart,
                  (λ e.
                      let instance : j ≡ h = cc in
                      let number : k ≡ l = cc in
                      let both : Some new.0 ≡ Some h = sym new.1 ∙ sym (is_next k) ∙ ap next number ∙ named in
                      not_next (let same : new.0 ≡ h = cc in instance ∙ sym same)),
                ))
                ∙ was.away k space (λ e. apart (sym e ∙ ap (owner_by j) is))
            | inr other ↦ record_stays j k space apart other ∙ was.away k space (λ e. away (owner_stays j k apart other ∙ e))
          ]

      pub owner_then : IsPieceThere spaces' j (owner_of sharing' j) (table_of m) (instance_of m.inst).own (shared_at sharing j) (group_at groups m.group)
      owner_then = record {
        valid = was.valid;
        need = was.need;
        records = record_then;
        away = away_then;
        pieces = record {
          persistent = λ k. rw (regions (record_at (table_of m) k).space) (was.pieces.persistent k);
          write_once = λ k. rw (regions (record_at (table_of m) k).space) (was.pieces.write_once k);
        };
      }

    pub gone_then : (j k : ℕ) (space : Space) → j ≢ i → slot_at instances j ≡ None → owned (Record j k) (blocks_in (map_of spaces') space) ≡ []
    gone_then j k space apart none =
        let unheld : location_at (locations_at sharing j) k ≢ At i = λ is.
        (let its = sharers k (slot_at instances j) (slot_at instances i) (location_at (locations_at sharing i) k) (held j k i is) in none-some its.0 (sym none ∙ its.2)) in
        taken (Record j k) space (λ l. other_instance i j l k apart) ∙ record_stays j k space apart unheld ∙ standing.gone j k space none

    pub group_then : (g : ℕ) (space : Space) → owned (GroupScratch g) (blocks_in (map_of spaces') space) ≡ owned (GroupScratch g) (blocks_in (map_of spaces) space)
    group_then g space = taken (GroupScratch g) space (λ l e. not_a_group i l g (sym e)) ∙ group_stays g space
