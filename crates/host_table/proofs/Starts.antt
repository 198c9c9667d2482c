-- An instance is started in an empty slot: it joins its sharers, and the others see what they saw.
use Rattle.std.proofs.Common.{◌≡◌, ◌≢◌, ◌⊎◌, ℕ, zero, suc, ℤ, ◌<◌, inl, inr, List, length, slice_index_or, take, Option, Some, None, set, get_or-set_same, get_or-set_other, refl, sym, ◌∙◌, ap, subst, arith}
use Rattle.std.proofs.lemmas.Bool.Decides.{eqb_tells}
use Rattle.std.proofs.lemmas.Option.{none-some, same_Some}
use Rattle.space_raw.specs.Span.{Span}
use Rattle.arrayvec.specs.ArrayVec.{ArrayVec}
use Rattle.mem_rec.specs.declared.MemRec.{MemRec}
use Rattle.mem_rec.specs.declared.Attr.TheVariants.{WriteOnce}
use Rattle.ialg.specs.Log.{Log}
use Rattle.ialg.specs.Records.{record_at, words_of, unplaced, AreNew, ArePoison}
use Rattle.ialg.specs.Laws.{Laws}
use Rattle.record_loans.specs.declared.pieces.Pieces.{Pieces}
use Rattle.record_loans.specs.Pieces.{piece_at, piece_words, SamePieces}
use Rattle.scratch_group.specs.declared.group.Group.{Group}
use Rattle.scratch_group.specs.Words.{idle_words, lasting_words_by}
use Rattle.lifecycle.specs.declared.instance.Instance.{Instance}
use Rattle.lifecycle.specs.States.{SameOnce, IsLawful, IdleRefines}
use Rattle.mem_rec.specs.declared.TheConstants.{INSTANCES}
use Rattle.host_table.specs.declared.member.Member.{Member}
use Rattle.host_shared.specs.declared.locations.Locations.{Locations}
use Rattle.host_shared.specs.declared.locations.Location.{Location}
use Rattle.host_shared.specs.declared.joining.Sharers.{Sharers}
use Rattle.host_shared.specs.Locations.{location_at, no_locations, locations_at, owner_of, piece_seen, shared_at}
use Rattle.host_shared.specs.Owners.{with_pieces_of, HasOwners, AllHaveOwners, IsSameLocation, SameLocations}
use Rattle.host_table.specs.Table.{slot_at, group_at, instance_of, AreAlike, AreHeld, AreBare, TablesOk}
use Rattle.host_table.specs.Refinement.{InstRefines, SlotRefines, SlotsRefine}
use Rattle.host_shared.specs.Joining.{sharer_at, location_joined, piece_joined, pieces_joined, CanJoin}
use Rattle.host_shared.specs.Sharing.{AreLeast}
use Rattle.host_table.specs.Sharers.{AreTogether}
use Rattle.host_shared.proofs.Owners.{count_seen, lent_here, seen_shared, seen_apart}
use Rattle.host_shared.proofs.Lent.{four_locations, no_location, seen_at, stands_lent, pieces_lent, owners_of_all}
use Rattle.lifecycle.specs.declared.instance.Inst.{Inst}
use Rattle.lifecycle.specs.declared.instance.Inst.TheVariants.{Idling}
use Rattle.lifecycle.specs.Turns.{HasBegun}
use Rattle.host_table.proofs.Changes.{read_there}
use Rattle.host_table.proofs.Held.{same_shape, same_members_slot, sharer_of_member, owners_of_held, held_stays, bare_stays, alike_at}
use Rattle.host_table.proofs.Sights.{Views}
use Rattle.host_shared.proofs.Joined.{bare_at, others_all, owners_all, least_all}
use Rattle.host_table.proofs.Sharing.{IsLeastSharer, TellsSharer, Shares, column_shares}
use Rattle.host_table.proofs.Leasts.{least_stays, together_stays}
use Rattle.host_table.proofs.Fills.{Fills, idle_words_at, idle_once, fill_seen}
use Rattle.lifecycle.specs.Moves.{HasRoom}

-- what an instance keeps, by its slot
pub keeps_slot : {M : Type 0} (groups : List Group) (laws : Laws M) (w : Option ℤ) (slot : Option (Member M)) (m : Member M) (o : Pieces) (h : Log)
    → slot ≡ Some m → SlotRefines laws w slot o groups h → InstRefines laws w m.inst o (group_at groups m.group) h
keeps_slot groups laws w slot m o h is kept = rw is at kept

-- what is said of a start of the instance in the slot, of the instance that was put there
pub begun_at : {M : Type 0} (laws : Laws M) (s a n : Instance M) (o o' p : Pieces) (y y' : Group) → s ≡ a → o ≡ o' → y ≡ y' → HasBegun laws s n o p y → HasBegun laws a n o' p y'
begun_at {M = M} laws s a n o o' p y y' is pieces group begun =
    subst (λ (x : Instance M). HasBegun laws x n o' p y') is
    (subst (λ (x : Pieces). HasBegun laws s n x p y') pieces (subst (λ (x : Group). HasBegun laws s n o p x) group begun))

pub put_there : {M : Type 0} (instances instances' : List (Option (Member M))) (i : ℕ) (m n : Member M) (r : Option (Member M)) → i < length instances → instances' ≡ set instances i (Some n)
    → r ≡ slice_index_or instances' i r → r ≡ Some m → m ≡ n
put_there {M = M} instances instances' i m n r inside put read is =
    let at : slot_at instances' i ≡ Some n = ap (λ (l : List (Option (Member M))). slot_at l i) put ∙ get_or-set_same instances i (Some n) None inside in
    same_Some _ _ (sym (read_there instances' i n at r read ∙ is) ∙ at)

pub room_at : {M : Type 0} (s a : Instance M) (o o' : Pieces) (y y' : Group) → s ≡ a → o ≡ o' → y ≡ y' → HasRoom s o y → HasRoom a o' y'
room_at {M = M} s a o o' y y' is pieces group room =
    subst (λ (x : Instance M). HasRoom x o' y') is (subst (λ (x : Pieces). HasRoom s x y') pieces (subst (λ (x : Group). HasRoom s o x) group room))

pub idle_inst : {M : Type 0} (laws : Laws M) (w : Option ℤ) (inst : Inst M) (o : Pieces) (y : Group) (h : Log) → inst ≡ Idling (record { instance = instance_of inst })
    → IdleRefines laws (instance_of inst) w o h → InstRefines laws w inst o y h
idle_inst {M = M} laws w inst o y h idle kept = subst (λ (x : Inst M). InstRefines laws w x o y h) (sym idle) kept

-- a new instance n has joined its sharers, with the pieces that were placed for it
pub record Begins {M : Type 0} (instances : List (Option (Member M))) (sharing : List Locations) (groups : List Group) (i : ℕ) (n : Member M) (sharers : Sharers) (placed : Pieces) (sharing1 : List Locations) : Type 0 where
  pub ok : TablesOk instances sharing groups
  pub inside : i < INSTANCES
  pub empty : slot_at instances i ≡ None
  pub tells : (k : ℕ) → TellsSharer instances k (instance_of n.inst) (sharer_at sharers k)
  pub can : (k : ℕ) → CanJoin sharing k (sharer_at sharers k) (piece_at placed k)
  pub count : length sharing1 ≡ INSTANCES
  pub joined : (j k : ℕ) → location_at (locations_at sharing1 j) k ≡ location_joined sharing i k (sharer_at sharers k) (piece_at placed k) j

-- then, with what the kind left in its pieces
module _ {M : Type 0} {instances : List (Option (Member M))} {sharing : List Locations} {groups : List Group} {i : ℕ} {n : Member M} {sharers : Sharers} {placed : Pieces} {sharing1 : List Locations}
    (b : Begins instances sharing groups i n sharers placed sharing1) where
  abbrev instances' : List (Option (Member M))
  instances' = set instances i (Some n)

  owners : AllHaveOwners sharing
  owners = owners_of_held instances sharing b.ok.held

  bare_i : locations_at sharing i ≡ no_locations
  bare_i = b.ok.bare i b.empty

  filled : slot_at instances' i ≡ Some n
  filled = let i_in : i < length instances = omega (arith, b.inside, b.ok.slot_count) in get_or-set_same instances i (Some n) None i_in

  beside : (j : ℕ) → j ≢ i → slot_at instances' j ≡ slot_at instances j
  beside j apart = get_or-set_other instances i j (Some n) None apart

  shares : (k : ℕ) → Shares instances instances' sharing sharing1 i k
  shares k =
      column_shares instances instances' sharing i k n owners (bare_at sharing sharing1 i sharers placed owners bare_i b.can b.joined k) filled beside (λ j h. b.ok.held j k h) sharing1 (sharer_at sharers k) (piece_at placed k) (b.tells k) (b.can k) (λ j. b.joined j k)

  held1 : AreHeld instances' sharing1
  held1 j k h is = (shares k).held j h is

  owners1 : AllHaveOwners sharing1
  owners1 = owners_all sharing sharing1 i sharers placed owners bare_i b.can b.joined

  bare1 : AreBare instances' sharing1
  bare1 j none =
      elim (eqb_tells j i) [
        | inl e ↦ absurd (none-some n (sym none ∙ ap (slot_at instances') e.1 ∙ filled))
        | inr e ↦
            let was : slot_at instances j ≡ None = sym (beside j e.1) ∙ none in
            four_locations (locations_at sharing1 j) no_locations
            (λ k. (shares k).bare j e.1 was (ap (λ (s : Locations). location_at s k) (b.ok.bare j was) ∙ no_location k) ∙ sym (no_location k))
      ]

  module _ (o : Pieces) (pieces : SamePieces (shared_at sharing1 i) o) (sharing' : List Locations) (put : sharing' ≡ with_pieces_of sharing1 i o) where
    has_owners : HasOwners sharing1 i
    has_owners = let i_in : i < length sharing1 = omega (arith, b.inside, b.count) in owners_of_all sharing1 i owners1 i_in

    pub stands_start : SameLocations sharing1 sharing'
    stands_start = rw put (stands_lent sharing1 i has_owners o pieces)

    pub stands_joined : (j k : ℕ) → IsSameLocation (location_joined sharing i k (sharer_at sharers k) (piece_at placed k) j) (location_at (locations_at sharing' j) k)
    stands_joined j k = subst (λ (x : Location). IsSameLocation x (location_at (locations_at sharing' j) k)) (b.joined j k) (stands_start j k)

    pub held_start : AreHeld instances' sharing'
    held_start = held_stays instances' instances' sharing1 sharing' (λ j. same_members_slot (slot_at instances' j)) stands_start held1

    pub bare_start : AreBare instances' sharing'
    bare_start = bare_stays instances' instances' sharing1 sharing' (λ j. same_members_slot (slot_at instances' j)) stands_start bare1

    pub least_start : AreLeast sharing → AreLeast sharing'
    least_start least = least_stays sharing1 sharing' stands_start (least_all sharing sharing1 i sharers placed owners bare_i b.can b.joined least)

    pub together_start : AreTogether instances sharing → AreTogether instances' sharing'
    together_start together =
        together_stays instances' instances' sharing1 sharing' (λ j. sharer_of_member (slot_at instances' j) (slot_at instances' j) (same_members_slot (slot_at instances' j))) stands_start
        (λ a b k. (shares k).together (λ c d. together c d k) a b)

    pub views_start : Views sharing i o sharing'
    views_start = record {
      count = rw put (count_seen sharing1 i has_owners o ∙ b.count ∙ sym b.ok.sharing_count);
      here = rw put (lent_here sharing1 i has_owners o);
      others = λ j apart. subst (λ (x : Pieces). SamePieces x (shared_at sharing' j)) (others_all sharing sharing1 i sharers placed owners bare_i b.can b.joined j apart) (rw put (pieces_lent sharing1 i has_owners o pieces j));
    }

    -- where the new instance is lawful, those that share a record with it have the same words in it as before
    module _ (laws : Laws M) (idle_fill : Fills laws.fill laws.idle_refines) (active_fill : Fills laws.fill laws.active_refines) (w : Option ℤ)
        (g : Group) (h : Log) (new : InstRefines laws w n.inst o g h) where
      lawful_too : (k : ℕ) (m : Member M) → AreAlike k (instance_of n.inst) (instance_of m.inst) → IsLawful laws.meaning (instance_of m.inst) w → IsLawful laws.meaning (instance_of n.inst) w
      lawful_too k m alike lawful = rw (alike.kind, alike.params) at lawful

      same_words : (j k : ℕ) (m : Member M) (g' : Group) (h' : Log) → k < 4 → j ≢ i → slot_at instances j ≡ Some m → IsLawful laws.meaning (instance_of m.inst) w
          → InstRefines laws w m.inst (shared_at sharing j) g' h' → (record_at (instance_of m.inst).table k).attr ≡ WriteOnce
          → owner_of sharing1 j k ≡ owner_of sharing1 i k
          → take (record_at (instance_of m.inst).table k).size (piece_words (piece_seen sharing' j k)) ≡ take (record_at (instance_of m.inst).table k).size (piece_words (piece_at (shared_at sharing j) k))
      same_words j k m g' h' below apart at lawful keeps attr owner =
          let alike = alike_at instances' sharing1 held1 i j k n m filled (beside j apart ∙ at) apart owner in
          let size : (record_at (instance_of m.inst).table k).size ≡ (record_at (instance_of n.inst).table k).size = ap (λ (r : MemRec). r.size) alike.shape in
          let now : piece_seen sharing' j k ≡ piece_at o k = ap (λ (l : List Locations). piece_seen l j k) put ∙ seen_shared sharing1 i has_owners o k below j owner in
          ap (λ (x : Option Span). take (record_at (instance_of m.inst).table k).size (piece_words x)) now
          ∙ ap (λ (x : ℕ). take x (piece_words (piece_at o k))) size
          ∙ fill_seen laws idle_fill active_fill w n.inst o g h new (lawful_too k m alike lawful) k below alike.once
          ∙ sym (ap (λ (x : M). laws.fill x (instance_of n.inst).params.items k) alike.kind)
          ∙ sym (ap (λ (x : ArrayVec ℤ). laws.fill (instance_of m.inst).kind x.items k) alike.params)
          ∙ sym (fill_seen laws idle_fill active_fill w m.inst (shared_at sharing j) g' h' keeps lawful k below attr)

      words_by_owner : (j k : ℕ) (m : Member M) (g' : Group) (h' : Log) → k < 4 → j ≢ i → slot_at instances j ≡ Some m → IsLawful laws.meaning (instance_of m.inst) w
          → InstRefines laws w m.inst (shared_at sharing j) g' h' → (record_at (instance_of m.inst).table k).attr ≡ WriteOnce
          → take (record_at (instance_of m.inst).table k).size (piece_words (piece_seen sharing' j k)) ≡ take (record_at (instance_of m.inst).table k).size (piece_words (piece_at (shared_at sharing j) k))
      words_by_owner j k m g' h' below apart at lawful keeps attr =
          elim (eqb_tells (owner_of sharing1 j k) (owner_of sharing1 i k)) [
            | inl e ↦ same_words j k m g' h' below apart at lawful keeps attr e.1
            | inr e ↦
                ap (λ (x : Option Span). take (record_at (instance_of m.inst).table k).size (piece_words x))
                (ap (λ (l : List Locations). piece_seen l j k) put ∙ seen_apart sharing1 i has_owners o k below j e.1 ∙ sym (seen_at sharing1 j k below)
                ∙ ap (λ (x : Pieces). piece_at x k) (others_all sharing sharing1 i sharers placed owners bare_i b.can b.joined j apart))
          ]

      pub written_start : (j : ℕ) (m : Member M) (g' : Group) (h' : Log) → j ≢ i → slot_at instances j ≡ Some m → IsLawful laws.meaning (instance_of m.inst) w
          → InstRefines laws w m.inst (shared_at sharing j) g' h' → SameOnce (instance_of m.inst).table (shared_at sharing j) (shared_at sharing' j)
      written_start j m g' h' apart at lawful keeps zero attr = words_by_owner j 0 m g' h' (omega arith) apart at lawful keeps attr
      written_start j m g' h' apart at lawful keeps (suc zero) attr = words_by_owner j 1 m g' h' (omega arith) apart at lawful keeps attr
      written_start j m g' h' apart at lawful keeps (suc (suc zero)) attr = words_by_owner j 2 m g' h' (omega arith) apart at lawful keeps attr
      written_start j m g' h' apart at lawful keeps (suc (suc (suc zero))) attr = words_by_owner j 3 m g' h' (omega arith) apart at lawful keeps attr
      written_start j m g' h' apart at lawful keeps (suc (suc (suc (suc k)))) attr = refl

  -- the words that the new instance finds: those of what was placed, and those that its sharers keep
  module _ (laws : Laws M) (idle_fill : Fills laws.fill laws.idle_refines) (active_fill : Fills laws.fill laws.active_refines) (w : Option ℤ)
      (histories : ℕ → Log) (keeps : SlotsRefine laws w instances sharing groups histories) (a : Instance M)
      (kind : (instance_of n.inst).kind ≡ a.kind) (params : (instance_of n.inst).params ≡ a.params) (table : unplaced (instance_of n.inst).table ≡ unplaced a.table)
      (lawful : IsLawful laws.meaning a w) where
    joined_at : (k : ℕ) → k < 4 → piece_at (pieces_joined sharing sharers placed) k ≡ piece_joined sharing k (sharer_at sharers k) (piece_at placed k)
    joined_at zero below = refl
    joined_at (suc zero) below = refl
    joined_at (suc (suc zero)) below = refl
    joined_at (suc (suc (suc zero))) below = refl
    joined_at (suc (suc (suc (suc k)))) below = absurd (omega (arith, below))

    abbrev IsNewAt : Pieces → ℕ → Type 0
    IsNewAt shared k =
        ArePoison w (words_of (idle_words a.table a.own shared) k)
        ⊎ (((record_at a.table k).attr ≡ WriteOnce) × (words_of (idle_words a.table a.own shared) k ≡ laws.fill a.kind a.params.items k))

    -- a record that is shared has the words that its sharer keeps
    sharer_words : (k t : ℕ) → k < 4 → sharer_at sharers k ≡ Some t → IsLeastSharer instances k (instance_of n.inst) t → IsNewAt (pieces_joined sharing sharers placed) k
    sharer_words k t below sharer_is sharer =
        let m = sharer.member in
        let own_shape = same_shape a.table (instance_of n.inst).table k table in
        let attr : (record_at a.table k).attr ≡ WriteOnce = sym (ap (λ (r : MemRec). r.attr) own_shape) ∙ sharer.alike.once in
        let attr_m : (record_at (instance_of m.inst).table k).attr ≡ WriteOnce = ap (λ (r : MemRec). r.attr) sharer.alike.shape ∙ sharer.alike.once in
        let size : (record_at a.table k).size ≡ (record_at (instance_of m.inst).table k).size = sym (ap (λ (r : MemRec). r.size) (sharer.alike.shape ∙ own_shape)) in
        let kinds : (instance_of m.inst).kind ≡ a.kind = sharer.alike.kind ∙ kind in
        let all_params : (instance_of m.inst).params ≡ a.params = sharer.alike.params ∙ params in
        let lawful_m : IsLawful laws.meaning (instance_of m.inst) w = rw (kinds, all_params) lawful in
        let kept = keeps_slot groups laws w (slot_at instances t) m (shared_at sharing t) (histories t) sharer.at (keeps t) in
        let seen : piece_at (pieces_joined sharing sharers placed) k ≡ piece_at (shared_at sharing t) k =
        joined_at k below ∙ ap (λ (x : Option ℕ). piece_joined sharing k x (piece_at placed k)) sharer_is ∙ sym (seen_at sharing t k below) in
        inr (
          attr,
          idle_once a.table a.own (pieces_joined sharing sharers placed) k below attr
              ∙ ap (λ (x : Option Span). take (record_at a.table k).size (piece_words x)) seen
              ∙ ap (λ (x : ℕ). take x (piece_words (piece_at (shared_at sharing t) k))) size
              ∙ fill_seen laws idle_fill active_fill w m.inst (shared_at sharing t) (group_at groups m.group) (histories t) kept lawful_m k below attr_m
              ∙ ap (λ (x : M). laws.fill x (instance_of m.inst).params.items k) kinds
              ∙ ap (λ (x : ArrayVec ℤ). laws.fill a.kind x.items k) all_params,
        )

    placed_words : (k : ℕ) → k < 4 → sharer_at sharers k ≡ None → IsNewAt placed k → IsNewAt (pieces_joined sharing sharers placed) k
    placed_words k below sharer_is new =
        let seen : piece_at (pieces_joined sharing sharers placed) k ≡ piece_at placed k = joined_at k below ∙ ap (λ (x : Option ℕ). piece_joined sharing k x (piece_at placed k)) sharer_is in
        let words : words_of (idle_words a.table a.own (pieces_joined sharing sharers placed)) k ≡ words_of (idle_words a.table a.own placed) k =
        idle_words_at a.table a.own (pieces_joined sharing sharers placed) k below
        ∙ ap (λ (x : Option Span). lasting_words_by (record_at a.table k).attr (record_at a.table k).size (piece_words (piece_at a.own k)) (piece_words x)) seen
        ∙ sym (idle_words_at a.table a.own placed k below) in
        subst (λ (ws : List ℤ). ArePoison w ws ⊎ (((record_at a.table k).attr ≡ WriteOnce) × (ws ≡ laws.fill a.kind a.params.items k))) (sym words) new

    new_by : (k : ℕ) (t : Option ℕ) → k < 4 → sharer_at sharers k ≡ t → TellsSharer instances k (instance_of n.inst) t → IsNewAt placed k → IsNewAt (pieces_joined sharing sharers placed) k
    new_by k None below sharer_is sharer new = placed_words k below sharer_is new
    new_by k (Some t) below sharer_is sharer new = sharer_words k t below sharer_is sharer

    pub new_start : AreNew w (laws.fill a.kind a.params.items) a.table (idle_words a.table a.own placed) → AreNew w (laws.fill a.kind a.params.items) a.table (idle_words a.table a.own (pieces_joined sharing sharers placed))
    new_start new zero = new_by 0 (sharer_at sharers 0) (omega arith) refl (b.tells 0) (new 0)
    new_start new (suc zero) = new_by 1 (sharer_at sharers 1) (omega arith) refl (b.tells 1) (new 1)
    new_start new (suc (suc zero)) = new_by 2 (sharer_at sharers 2) (omega arith) refl (b.tells 2) (new 2)
    new_start new (suc (suc (suc zero))) = new_by 3 (sharer_at sharers 3) (omega arith) refl (b.tells 3) (new 3)
    new_start new (suc (suc (suc (suc k)))) = new (suc (suc (suc (suc k))))
