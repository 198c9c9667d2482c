-- The piece of a write-once record lies elsewhere.
use Rattle.std.proofs.Common.{◌≡◌, ◌≢◌, ℕ, zero, suc, ◌<◌, true, false, inl, inr, List, length, Option, Some, None, nat_eq, refl, sym, ◌∙◌, ap, subst, if◌then◌else◌, arith}
use Rattle.std.proofs.lemmas.Bool.Decides.{eqb_tells}
use Rattle.space_raw.specs.Span.{Span}
use Rattle.record_loans.specs.declared.pieces.Pieces.{Pieces}
use Rattle.record_loans.specs.Pieces.{piece_at, with_piece}
use Rattle.scratch_group.specs.declared.group.Group.{Group}
use Rattle.lifecycle.specs.Moves.{HasRoom}
use Rattle.host_table.specs.declared.member.Member.{Member}
use Rattle.host_shared.specs.declared.locations.Location.{Location}
use Rattle.host_shared.specs.declared.locations.Location.TheVariants.{Here, At}
use Rattle.host_shared.specs.declared.locations.Locations.{Locations}
use Rattle.host_shared.specs.Locations.{location_at, piece_here, pieces_here, no_locations, locations_at, owner_by, owner_of, piece_seen, shared_at}
use Rattle.host_shared.specs.Owners.{HasOwners, IsPieceHere, AllHaveOwners}
use Rattle.host_table.specs.Table.{slot_at, group_at, instance_of, IsSharer, AreHeld, AreBare, EachIsHoused, TablesOk}
use Rattle.host_shared.proofs.Stands.{four_pieces, piece_with_same, piece_with_other}
use Rattle.host_shared.proofs.Owners.{lent_at, lent_apart, location_seen, count_seen}
use Rattle.host_shared.proofs.Lent.{four_locations, no_location, owners_of_all, piece_inside, seen_at}
use Rattle.host_moves.specs.Waiting.{holds_with, slid_to, TablesWaiting}

module _ (sharing : List Locations) (owners : AllHaveOwners sharing) (i k : ℕ) (p q : Span) (below : k < 4) (there : location_at (locations_at sharing i) k ≡ Here (Some p)) where
  abbrev slid : List Locations
  slid = slid_to sharing i k q

  inside : i < length sharing
  inside = piece_inside sharing i k p there

  its : HasOwners sharing i
  its = owners_of_all sharing i owners inside

  at_owner : owner_of sharing i k ≡ i
  at_owner = ap (owner_by i) there

  pub count_slid : length slid ≡ length sharing
  count_slid = count_seen sharing i its (with_piece (shared_at sharing i) k (Some q))

  -- the record itself
  pub slid_here : location_at (locations_at slid i) k ≡ Here (Some q)
  slid_here =
      location_seen sharing i its (with_piece (shared_at sharing i) k (Some q)) k i below
      ∙ lent_at (owner_of sharing i k) (piece_at (with_piece (shared_at sharing i) k (Some q)) k) i (location_at (locations_at sharing i) k) (sym at_owner)
      ∙ ap Here (piece_with_same (shared_at sharing i) k (Some q) below)

  -- the same record of another instance
  slid_there : (j : ℕ) → j ≢ i → location_at (locations_at slid j) k ≡ location_at (locations_at sharing j) k
  slid_there j apart =
      location_seen sharing i its (with_piece (shared_at sharing i) k (Some q)) k j below
      ∙ lent_apart (owner_of sharing i k) (piece_at (with_piece (shared_at sharing i) k (Some q)) k) j (location_at (locations_at sharing j) k) (λ e. apart (e ∙ at_owner))

  -- another record
  slid_beside : (l j : ℕ) → l < 4 → l ≢ k → location_at (locations_at slid j) l ≡ location_at (locations_at sharing j) l
  slid_beside l j small apart =
      let o = with_piece (shared_at sharing i) k (Some q) in
      let seen : piece_at o l ≡ piece_seen sharing i l = piece_with_other (shared_at sharing i) k l (Some q) apart ∙ seen_at sharing i l small in
      location_seen sharing i its o l j small
      ∙ elim (eqb_tells j (owner_of sharing i l)) [
        | inl e ↦
            lent_at (owner_of sharing i l) (piece_at o l) j (location_at (locations_at sharing j) l) e.1
            ∙ ap Here seen
            ∙ ap (λ (s : Location). Here (piece_here s)) ((its l).settled.1)
            ∙ sym ((its l).settled.1)
            ∙ ap (λ (x : ℕ). location_at (locations_at sharing x) l) (sym e.1)
        | inr e ↦ lent_apart (owner_of sharing i l) (piece_at o l) j (location_at (locations_at sharing j) l) e.1
      ]

  any_beside : (l j : ℕ) → l ≢ k → location_at (locations_at slid j) l ≡ location_at (locations_at sharing j) l
  any_beside zero j apart = slid_beside 0 j (omega arith) apart
  any_beside (suc zero) j apart = slid_beside 1 j (omega arith) apart
  any_beside (suc (suc zero)) j apart = slid_beside 2 j (omega arith) apart
  any_beside (suc (suc (suc zero))) j apart = slid_beside 3 j (omega arith) apart
  any_beside (suc (suc (suc (suc l)))) j apart = refl

  -- nobody has another owner
  pub owner_slid : (j l : ℕ) → owner_of slid j l ≡ owner_of sharing j l
  owner_slid j l =
      elim (eqb_tells l k) [
        | inr e ↦ ap (owner_by j) (any_beside l j e.1)
        | inl e ↦
            rw e.1
            (elim (eqb_tells j i) [
              | inr f ↦ ap (owner_by j) (slid_there j f.1)
              | inl f ↦ rw f.1 (ap (owner_by i) slid_here ∙ sym at_owner)
            ])
      ]

  pub holds_slid : (j : ℕ) → holds_with slid i k j ≡ holds_with sharing i k j
  holds_slid j = ap (λ (x : ℕ). nat_eq x i) (owner_slid j k)

  -- each sees the piece that it saw, or the new one
  seen_beside : (j l : ℕ) → l ≢ k → piece_seen slid j l ≡ piece_seen sharing j l
  seen_beside j l apart =
      ap (λ (x : ℕ). piece_here (location_at (locations_at slid x) l)) (owner_slid j l) ∙ ap piece_here (any_beside l (owner_of sharing j l) apart)

  seen_new : (j : ℕ) → owner_of sharing j k ≡ i → piece_seen slid j k ≡ Some q
  seen_new j owner = ap (λ (x : ℕ). piece_here (location_at (locations_at slid x) k)) (owner_slid j k ∙ owner) ∙ ap piece_here slid_here

  seen_old : (j : ℕ) → owner_of sharing j k ≢ i → piece_seen slid j k ≡ piece_seen sharing j k
  seen_old j owner =
      ap (λ (x : ℕ). piece_here (location_at (locations_at slid x) k)) (owner_slid j k) ∙ ap piece_here (slid_there (owner_of sharing j k) owner)

  piece_slid : (j l : ℕ) → l < 4 → piece_seen slid j l ≡ piece_at (if holds_with sharing i k j then with_piece (shared_at sharing j) k (Some q) else shared_at sharing j) l
  piece_slid j l small =
      elim (eqb_tells (owner_of sharing j k) i) [
        | inl h ↦
            rw h.0
            (elim (eqb_tells l k) [
              | inl e ↦ rw e.1 (seen_new j h.1 ∙ sym (piece_with_same (shared_at sharing j) k (Some q) below))
              | inr e ↦ seen_beside j l e.1 ∙ sym (seen_at sharing j l small) ∙ sym (piece_with_other (shared_at sharing j) k l (Some q) e.1)
            ])
        | inr h ↦
            rw h.0
            (elim (eqb_tells l k) [
              | inl e ↦ rw e.1 (seen_old j h.1 ∙ sym (seen_at sharing j k below))
              | inr e ↦ seen_beside j l e.1 ∙ sym (seen_at sharing j l small)
            ])
      ]

  pub seen_slid : (j : ℕ) → shared_at slid j ≡ (if holds_with sharing i k j then with_piece (shared_at sharing j) k (Some q) else shared_at sharing j)
  seen_slid j =
      let after = if holds_with sharing i k j then with_piece (shared_at sharing j) k (Some q) else shared_at sharing j in
      four_pieces (shared_at slid j) after
      (piece_slid j 0 (omega arith)) (piece_slid j 1 (omega arith)) (piece_slid j 2 (omega arith)) (piece_slid j 3 (omega arith))

  here_piece : (s : Locations) (l : ℕ) → l < 4 → piece_at (pieces_here s) l ≡ piece_here (location_at s l)
  here_piece s zero small = refl
  here_piece s (suc zero) small = refl
  here_piece s (suc (suc zero)) small = refl
  here_piece s (suc (suc (suc zero))) small = refl
  here_piece s (suc (suc (suc (suc l)))) small = absurd (omega (arith, small))

  stands_slid : (j l : ℕ) → l < 4 → piece_here (location_at (locations_at slid j) l) ≡ piece_at (if nat_eq j i then with_piece (pieces_here (locations_at sharing j)) k (Some q) else pieces_here (locations_at sharing j)) l
  stands_slid j l small =
      elim (eqb_tells j i) [
        | inl f ↦
            rw f.0
            (elim (eqb_tells l k) [
              | inl e ↦ rw (e.1, f.1) (ap piece_here slid_here ∙ sym (piece_with_same (pieces_here (locations_at sharing i)) k (Some q) below))
              | inr e ↦ ap piece_here (any_beside l j e.1) ∙ sym (here_piece (locations_at sharing j) l small) ∙ sym (piece_with_other (pieces_here (locations_at sharing j)) k l (Some q) e.1)
            ])
        | inr f ↦
            rw f.0
            (elim (eqb_tells l k) [
              | inl e ↦ rw e.1 (ap piece_here (slid_there j f.1) ∙ sym (here_piece (locations_at sharing j) k below))
              | inr e ↦ ap piece_here (any_beside l j e.1) ∙ sym (here_piece (locations_at sharing j) l small)
            ])
      ]

  pub here_slid : (j : ℕ) → pieces_here (locations_at slid j) ≡ (if nat_eq j i then with_piece (pieces_here (locations_at sharing j)) k (Some q) else pieces_here (locations_at sharing j))
  here_slid j =
      let after = if nat_eq j i then with_piece (pieces_here (locations_at sharing j)) k (Some q) else pieces_here (locations_at sharing j) in
      four_pieces (pieces_here (locations_at slid j)) after
      (stands_slid j 0 (omega arith)) (stands_slid j 1 (omega arith)) (stands_slid j 2 (omega arith)) (stands_slid j 3 (omega arith))

  -- what stood with another instance does so, and there is a piece there
  piece_still : (h l : ℕ) → IsPieceHere (location_at (locations_at sharing h) l) → IsPieceHere (location_at (locations_at slid h) l)
  piece_still h l here =
      elim (eqb_tells l k) [
        | inr e ↦ (here.0, any_beside l h e.1 ∙ here.1)
        | inl e ↦
            rw e.1
            (elim (eqb_tells h i) [
              | inr f ↦ (here.0, slid_there h f.1 ∙ rw e.1 at here.1)
              | inl f ↦ (q, rw f.1 slid_here)
            ])
      ]

  pub with_still : (j l owner : ℕ) → location_at (locations_at slid j) l ≡ At owner → location_at (locations_at sharing j) l ≡ At owner
  with_still j l owner is =
      elim (eqb_tells l k) [
        | inr e ↦ sym (any_beside l j e.1) ∙ is
        | inl e ↦
            elim (eqb_tells j i) [
              | inr f ↦ rw e.1 (sym (slid_there j f.1) ∙ rw e.1 at is)
              | inl f ↦ let no : Here (Some q) ≡ At owner = sym slid_here ∙ rw (e.1, f.1) at is in cc
            ]
      ]

  module _ {M : Type 0} (instances : List (Option (Member M))) (groups : List Group) (ok : TablesOk instances sharing groups) where
    sharer_still : (a b : Option (Member M)) (l : ℕ) (s s' : Location) → (IsPieceHere s → IsPieceHere s') → IsSharer l a b s → IsSharer l a b s'
    sharer_still None b l s s' here h = absurd h
    sharer_still (Some m) None l s s' here h = absurd h
    sharer_still (Some m) (Some n) l s s' here h = (h.0, here h.1)

    held_slid : AreHeld instances slid
    held_slid j l owner is =
        sharer_still (slot_at instances j) (slot_at instances owner) l (location_at (locations_at sharing owner) l) (location_at (locations_at slid owner) l) (piece_still owner l) (ok.held j l owner (with_still j l owner is))

    -- the instance lives
    bare_slid : AreBare instances slid
    bare_slid j none =
        let bare = ok.bare j none in
        let apart : j ≢ i = λ e. let no : Here None ≡ Here (Some p) = sym (no_location k) ∙ ap (λ (s : Locations). location_at s k) (sym bare) ∙ rw (sym e) at there in cc in
        four_locations (locations_at slid j) no_locations
        (λ l. elim (eqb_tells l k) [
          | inr e ↦ any_beside l j e.1 ∙ ap (λ (s : Locations). location_at s l) bare
          | inl e ↦ rw e.1 (slid_there j apart ∙ ap (λ (s : Locations). location_at s k) bare)
        ])

    pub waiting_slid : ((j : ℕ) (m : Member M) → slot_at instances j ≡ Some m → holds_with sharing i k j ≡ true → HasRoom (instance_of m.inst) (shared_at slid j) (group_at groups m.group))
        → TablesWaiting (holds_with slid i k) instances slid groups
    waiting_slid room = record {
      slot_count = ok.slot_count;
      sharing_count = count_slid ∙ ok.sharing_count;
      group_count = ok.group_count;
      held = held_slid;
      bare = bare_slid;
      group_range = ok.group_range;
      housed = λ j m at. record {
        told = λ other.
            let none : holds_with sharing i k j ≡ false = sym (holds_slid j) ∙ other in
            subst (λ (o : Pieces). EachIsHoused j m o (group_at groups m.group)) (sym (rw none at (seen_slid j))) (ok.housed j m at);
        room = λ waits. room j m at (sym (holds_slid j) ∙ waits);
      };
      active_there = ok.active_there;
      active_known = ok.active_known;
    }
