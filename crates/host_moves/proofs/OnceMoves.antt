-- A write-once record of an instance moves.
use Rattle.std.proofs.Common.{◌≡◌, ◌≢◌, ℕ, ◌<◌, inl, inr, List, [], ◌∷◌, length, Option, Some, None, refl, sym, ◌∙◌, ap, subst}
use Rattle.std.specs.Option.{option_map}
use Rattle.std.specs.List.{Contains}
use Rattle.std.proofs.lemmas.Option.{none-some, same_Some}
use Rattle.std.proofs.lemmas.Bool.Decides.{eqb_tells}
use Rattle.space_raw.specs.Span.{Span}
use Rattle.mem_rec.specs.declared.Space.{Space}
use Rattle.space_heap.specs.Maps.{range_of}
use Rattle.relocate.specs.Places.{placed_size}
use Rattle.ialg.specs.Records.{record_at}
use Rattle.record_loans.specs.declared.pieces.Pieces.{Pieces}
use Rattle.record_loans.specs.Pieces.{piece_at, piece_words, with_piece}
use Rattle.scratch_group.specs.declared.group.Group.{Group}
use Rattle.host_map.specs.declared.placed.Owner.{Owner}
use Rattle.host_map.specs.declared.placed.Owner.TheVariants.{Record}
use Rattle.host_map.specs.declared.placed.Placed.{Placed}
use Rattle.host_spaces.specs.Blocks.{Owns, block_of}
use Rattle.host_map.specs.Blocks.{block_range, owned}
use Rattle.host_map.specs.Moves.{next_block}
use Rattle.host_spaces.specs.declared.spaces.Spaces.{Spaces}
use Rattle.host_map.specs.MemoryMap.{blocks_in}
use Rattle.host_spaces.specs.MemoryMap.{map_of, space_in}
use Rattle.host_spaces.specs.Pieces.{IsPieceOf, is_write_once}
use Rattle.host_table.specs.declared.member.Member.{Member}
use Rattle.host_shared.specs.declared.locations.Locations.{Locations}
use Rattle.host_shared.specs.declared.locations.Location.{Location}
use Rattle.host_shared.specs.declared.locations.Location.TheVariants.{Here, At}
use Rattle.host_shared.specs.Locations.{location_at, piece_here, locations_at, owner_of, shared_at}
use Rattle.host_shared.specs.Owners.{HasOwners, AllHaveOwners, with_pieces_of}
use Rattle.host_shared.specs.Sharing.{AreLeast}
use Rattle.host_table.specs.Table.{slot_at, group_at, instance_of, TablesOk}
use Rattle.host_shared.proofs.Stands.{piece_with_same, piece_with_other}
use Rattle.host_shared.proofs.Owners.{lent_here, count_seen}
use Rattle.host_shared.proofs.Lent.{owners_of_all, lent_last, seen_at}
use Rattle.host_table.proofs.Held.{owners_of_held}
use Rattle.host_moves.specs.Waiting.{holds_with, slid_to, SameWords, TablesWaiting, WordsStay}
use Rattle.host_moves.proofs.Slides.{holds_slid, seen_slid, waiting_slid, with_still}
use Rattle.host_moves.specs.Standing.{IsPieceThere, AreOrdered, AgreeWithMap, table_of}
use Rattle.host_moves.specs.Moves.{IsNextOf}
use Rattle.host_moves.proofs.Rooms.{space_itself}
use Rattle.host_moves.proofs.Owners.{owner_record}
use Rattle.host_moves.proofs.Moved.{OneMoves, seen_there, standing_once}
use Rattle.host_moves.proofs.MovedBlocks.{room_of_standing, block_stays_itself}
use Rattle.host_moves.proofs.Nexts.{IsNextRecord, next_record}
use Rattle.host_moves.proofs.OwnMoves.{kept_slot}
use Rattle.host_moves.proofs.Instances.{only_one, written_once, piece_there, piece_again}

here_of : (s : Location) (p : Span) → piece_here s ≡ Some p → s ≡ Here (Some p)
here_of (Here x) p e = ap Here e
here_of (At h) p e = absurd (none-some _ e)

module _ {M : Type 0} (instances : List (Option (Member M))) (sharing : List Locations) (groups : List Group) (spaces : Spaces) (space : Space) (i k : ℕ) (p : Span)
    (ok : TablesOk instances sharing groups) (standing : AgreeWithMap instances sharing groups spaces) (next : IsNextOf spaces space (Record i k))
    (inside : i < length sharing) (taken : piece_at (shared_at sharing i) k ≡ Some p) where
  pub its : IsNextRecord instances sharing spaces space i k
  its = next_record instances sharing groups spaces space i k standing next

  owner : IsPieceThere spaces i (owner_of sharing i) (table_of its.member) (instance_of its.member.inst).own (shared_at sharing i) (group_at groups its.member.group)
  owner = standing.owners i its.member its.there

  kept : IsPieceOf (space_in spaces (record_at (table_of its.member) k).space).region (placed_size (record_at (table_of its.member) k).size) (is_write_once (record_at (table_of its.member) k).attr) (Some p)
  kept = rw taken at (owner.pieces.write_once k)

  is_its : its.piece ≡ p
  is_its =
      let attr = written_once (record_at (table_of its.member) k).attr kept.0 in
      let piece : piece_at (shared_at sharing i) k ≡ Some its.piece = rw attr at its.its in
      same_Some _ _ (sym piece ∙ taken)

  pub next_is : next_block (blocks_in (map_of spaces) space) ≡ Some (block_of (Record i k) (record_at (table_of its.member) k).align p)
  next_is = its.next ∙ ap (λ (s : Span). Some (block_of (Record i k) (record_at (table_of its.member) k).align s)) is_its

  pub region_is : p.region ≡ (space_in spaces space).region
  region_is = subst (λ (s : Space). p.region ≡ (space_in spaces s).region) its.of_space kept.1

  pub range_is : option_map block_range (next_block (blocks_in (map_of spaces) space)) ≡ Some (range_of p)
  range_is = rw next_is refl

  owned_is : owned (Record i k) (blocks_in (map_of spaces) space) ≡ block_of (Record i k) (record_at (table_of its.member) k).align p ∷ []
  owned_is =
      let attr = written_once (record_at (table_of its.member) k).attr kept.0 in
      rw (attr, taken, its.of_space, space_itself space) at (owner_record spaces i (owner_of sharing i) (table_of its.member) (instance_of its.member.inst).own (shared_at sharing i) (group_at groups its.member.group) owner k space i its.here)

  owns : Owns (blocks_in (map_of spaces) space) (Record i k) p
  owns = (
    (record_at (table_of its.member) k).align,
    subst (λ (bs : List Placed). Contains bs (block_of (Record i k) (record_at (table_of its.member) k).align p)) (sym owned_is) (only_one (block_of (Record i k) (record_at (table_of its.member) k).align p)),
  )

  pub below : k < 4
  below = piece_there (shared_at sharing i) k p taken

  all_owners : AllHaveOwners sharing
  all_owners = owners_of_held instances sharing ok.held

  pub its_owners : HasOwners sharing i
  its_owners = owners_of_all sharing i all_owners inside

  stands_here : location_at (locations_at sharing i) k ≡ Here (Some p)
  stands_here =
      here_of (location_at (locations_at sharing i) k) p
      (ap (λ (x : ℕ). piece_here (location_at (locations_at sharing x) k)) (sym its.here) ∙ sym (seen_at sharing i k below) ∙ taken)

  -- each instance has the owner that it had
  pub holds_now : (q : Span) (j : ℕ) → holds_with (slid_to sharing i k q) i k j ≡ holds_with sharing i k j
  holds_now q j = holds_slid sharing all_owners i k p q below stands_here j

  pub least_now : (q : Span) → AreLeast (slid_to sharing i k q)
  least_now q j l owner is = standing.least j l owner (with_still sharing all_owners i k p q below stands_here j l owner is)

  abbrev away : List Locations
  away = with_pieces_of sharing i (with_piece (shared_at sharing i) k None)

  away_at : shared_at away i ≡ with_piece (shared_at sharing i) k None
  away_at = lent_here sharing i its_owners (with_piece (shared_at sharing i) k None)

  pub inside_away : i < length away
  inside_away = subst (λ n. i < n) (sym (count_seen sharing i its_owners (with_piece (shared_at sharing i) k None))) inside

  pub empty_there : piece_at (shared_at away i) k ≡ None
  empty_there = ap (λ (o : Pieces). piece_at o k) away_at ∙ piece_with_same (shared_at sharing i) k None below

  module _ (q : Span) where
    abbrev now : List Locations
    now = slid_to sharing i k q

    -- the piece that is put back
    pub back_is : with_pieces_of away i (with_piece (shared_at away i) k (Some q)) ≡ now
    back_is =
        ap (λ (o : Pieces). with_pieces_of away i (with_piece o k (Some q))) away_at
        ∙ ap (λ (o : Pieces). with_pieces_of away i o) (piece_again (shared_at sharing i) k None (Some q))
        ∙ lent_last sharing i its_owners (with_piece (shared_at sharing i) k None) (with_piece (shared_at sharing i) k (Some q))

    module _ (spaces' : Spaces)
        (here : (owner : Owner) (align : ℕ) → owned owner (blocks_in (map_of spaces) space) ≡ block_of owner align p ∷ [] → owned owner (blocks_in (map_of spaces') space) ≡ block_of owner align q ∷ [])
        (others : (owner o : Owner) → Owns (blocks_in (map_of spaces) space) owner p → o ≢ owner → owned o (blocks_in (map_of spaces') space) ≡ owned o (blocks_in (map_of spaces) space))
        (elsewhere : (other : Space) → other ≢ space → space_in spaces' other ≡ space_in spaces other)
        (regions : (any : Space) → (space_in spaces' any).region ≡ (space_in spaces any).region) (words : q.words ≡ p.words) (region : q.region ≡ p.region) where
      moves : OneMoves space (Record i k) p q spaces spaces'
      moves = record { here = here (Record i k); others = λ o apart. others (Record i k) o owns apart; elsewhere = elsewhere; regions = regions; words = words; region = region }

      pub stands : AgreeWithMap instances now groups spaces'
      stands = standing_once space i k p q instances sharing groups spaces spaces' moves standing its.member its.there its.of_space its.here below all_owners stands_here ok.bare

      -- each sharer has room, and waits to be told
      pub waiting_now : AreOrdered spaces' → TablesWaiting (holds_with now i k) instances now groups
      waiting_now ordered =
          waiting_slid sharing all_owners i k p q below stands_here instances groups ok (λ j m at holds. room_of_standing instances now groups spaces' ordered stands j m at)

      same_words : (j : ℕ) → SameWords (shared_at sharing j) (shared_at now j)
      same_words j l =
          ap (λ (o : Pieces). piece_words (piece_at o l)) (seen_slid sharing all_owners i k p q below stands_here j)
          ∙ elim (eqb_tells (owner_of sharing j k) i) [
            | inr e ↦ rw e.0 refl
            | inl e ↦
                let seen = seen_there space i k p q instances sharing groups spaces spaces' moves standing its.member its.there its.of_space its.here below all_owners stands_here j e.1 in
                rw e.0
                (elim (eqb_tells l k) [
                  | inl f ↦ rw (f.1, piece_with_same (shared_at sharing j) k (Some q) below, seen) words
                  | inr f ↦ ap piece_words (piece_with_other (shared_at sharing j) k l (Some q) f.1)
                ])
          ]

      pub words_now : WordsStay instances sharing groups instances now groups
      words_now = record {
        slot = λ j. kept_slot (slot_at instances j);
        pieces = same_words;
        blocks = λ g j s active. block_stays_itself _;
      }
