-- One instance and its group change.
use Rattle.std.proofs.Common.{◌≡◌, ◌≢◌, ℕ, ℤ, ◌<◌, inl, inr, List, [], ◌∷◌, zero, suc, length, Option, IsSome, slice_index_or, Some, None, set, get_or-set_same, get_or-set_other, set-set, refl, sym, ◌∙◌, ap, subst, arith}
use Rattle.std.proofs.lemmas.List.{length-set, get_or_read}
use Rattle.std.proofs.lemmas.Bool.Decides.{eqb_tells}
use Rattle.std.proofs.lemmas.Bool.{true≢false}
use Rattle.std.proofs.lemmas.Option.{none-some, same_Some}
use Rattle.mem_rec.specs.declared.MemRec.{MemRec}
use Rattle.mem_rec.specs.declared.Space.{Space}
use Rattle.ialg.specs.Log.{Log}
use Rattle.ialg.specs.Laws.{Laws}
use Rattle.record_loans.specs.declared.pieces.Pieces.{Pieces}
use Rattle.space_raw.specs.Span.{Span}
use Rattle.record_loans.specs.Pieces.{IsSamePiece, SamePieces, no_pieces}
use Rattle.record_loans.specs.declared.block.ScratchBlock.{ScratchBlock}
use Rattle.record_loans.specs.Blocks.{IsSameBlock}
use Rattle.scratch_group.specs.declared.group.Group.{Group}
use Rattle.scratch_group.specs.Blocks.{block_in, BlocksArePoison}
use Rattle.lifecycle.specs.declared.instance.Inst.{Inst}
use Rattle.lifecycle.specs.declared.instance.Inst.TheVariants.{Idling, Running}
use Rattle.lifecycle.specs.States.{Fits, SameInstance, SameOnce}
use Rattle.record_loans.proofs.PieceLemmas.{reflexive, same_pieces}
use Rattle.lifecycle.proofs.Frames.{same_group}
use Rattle.mem_rec.specs.declared.TheConstants.{INSTANCES, GROUPS}
use Rattle.host_table.specs.declared.member.Member.{Member}
use Rattle.host_shared.specs.declared.locations.Locations.{Locations}
use Rattle.host_shared.specs.declared.locations.Location.{Location}
use Rattle.host_shared.specs.declared.locations.Location.TheVariants.{Here, At}
use Rattle.host_shared.specs.Locations.{location_at, locations_at, shared_at}
use Rattle.host_shared.specs.Owners.{with_pieces_of, HasOwners, AllHaveOwners, IsSameLocation, SameLocations}
use Rattle.host_table.specs.Table.{slot_at, group_at, AreHeld, AreBare, no_group, instance_of, own_of, group_of, active_in, slot_active_in, IsHoused, EachIsHoused, Tables, TablesOk, ArePoisoned, activity_at}
use Rattle.host_map.specs.Activity.{with_at}
use Rattle.host_table.specs.Refinement.{InstRefines, SlotRefines, SlotsRefine, with_log}
use Rattle.host_table.specs.Frames.{SameSlot, SameTables, SameMember}
use Rattle.lifecycle.proofs.Groups.{same_blocks}
use Rattle.host_table.proofs.Housing.{housed_stays}
use Rattle.host_shared.proofs.Lent.{stands_lent, pieces_lent, owners_of_all}
use Rattle.host_table.proofs.Held.{member_stays, members_beside, owners_of_held, held_stays, bare_stays}
use Rattle.host_table.proofs.Sights.{Sees, sees_lent, slot_sees}

-- an active instance is active in its own group
active_in_own : {M : Type 0} (k g : ℕ) (inst : Inst M) → active_in k inst ≡ Some g → k ≡ g
active_in_own k g (Idling s) e = absurd (none-some _ e)
active_in_own k g (Running s) e = same_Some _ _ e

active_in_any : {M : Type 0} (k g l : ℕ) (inst : Inst M) → active_in k inst ≡ Some g → active_in l inst ≡ Some l
active_in_any k g l (Idling s) e = absurd (none-some _ e)
active_in_any k g l (Running s) e = refl

-- an instance that can't be active isn't
pub never_active : {M : Type 0} (k : ℕ) (inst : Inst M) → (active_in k inst ≡ Some k → ⊥) → active_in k inst ≡ None
never_active k (Idling s) never = refl
never_active k (Running s) never = absurd (never refl)

-- a slot with an instance is in the table
pub slot_in : {M : Type 0} (instances : List (Option (Member M))) (i : ℕ) (m : Member M) → slot_at instances i ≡ Some m → i < length instances
slot_in [] i m at = absurd (none-some _ at)
slot_in (s ∷ instances) zero m at = omega arith
slot_in (s ∷ instances) (suc i) m at = let less : i < length instances = slot_in instances i m at in omega arith

-- an instance that isn't active in group g doesn't see which words its blocks have
inst_keeps_other : {M : Type 0} (laws : Laws M) (w : Option ℤ) (groups : List Group) (g k : ℕ) (y : Group) (inst : Inst M) (shared : Pieces) (h : Log)
    → (active_in k inst ≡ Some g → ⊥) → InstRefines laws w inst shared (group_at groups k) h → InstRefines laws w inst shared (group_at (set groups g y) k) h
inst_keeps_other laws w groups g k y (Idling s) shared h apart keeps = keeps
inst_keeps_other laws w groups g k y (Running s) shared h apart keeps =
    let other : k ≢ g = λ e. apart (ap Some e) in
    subst (λ (q : Group). InstRefines laws w (Running s) shared q h) (sym (get_or-set_other groups g k y no_group other)) keeps

slot_keeps_other : {M : Type 0} (laws : Laws M) (w : Option ℤ) (groups : List Group) (g : ℕ) (y : Group) (slot : Option (Member M)) (shared : Pieces) (h : Log)
    → (slot_active_in slot ≡ Some g → ⊥) → SlotRefines laws w slot shared groups h → SlotRefines laws w slot shared (set groups g y) h
slot_keeps_other laws w groups g y None shared h apart keeps = tt
slot_keeps_other laws w groups g y (Some m) shared h apart keeps = inst_keeps_other laws w groups g m.group y m.inst shared h apart keeps

same_slot : {M : Type 0} (slot : Option (Member M)) → SameSlot slot slot
same_slot None = refl
same_slot (Some m) = (refl, record { kind = refl; params = refl; table = refl; own = same_pieces (instance_of m.inst).own })

pub own_stays : {M : Type 0} (a b : Option (Member M)) → SameSlot a b → SamePieces (own_of a) (own_of b)
own_stays None b same = rw same (same_pieces no_pieces)
own_stays (Some m) None same = absurd same
own_stays (Some m) (Some n) same = same.1.own

piece_then : (a b c : Option Span) → IsSamePiece a b → IsSamePiece b c → IsSamePiece a c
piece_then None None c e f = f
piece_then None (Some b) c e f = absurd (none-some _ (sym e))
piece_then (Some a) None c e f = absurd e
piece_then (Some a) (Some b) None e f = absurd f
piece_then (Some a) (Some b) (Some c) e f = (f.0 ∙ e.0, f.1 ∙ e.1, f.2 ∙ e.2)

pub pieces_then : (a b c : Pieces) → SamePieces a b → SamePieces b c → SamePieces a c
pieces_then a b c e f = record {
  p0 = piece_then a.p0 b.p0 c.p0 e.p0 f.p0;
  p1 = piece_then a.p1 b.p1 c.p1 e.p1 f.p1;
  p2 = piece_then a.p2 b.p2 c.p2 e.p2 f.p2;
  p3 = piece_then a.p3 b.p3 c.p3 e.p3 f.p3;
}

pub block_then : (a b c : Option ScratchBlock) → IsSameBlock a b → IsSameBlock b c → IsSameBlock a c
block_then a b c e f = (piece_then _ _ _ e.0 f.0, f.1 ∙ e.1)

slot_then : {M : Type 0} (a b c : Option (Member M)) → SameSlot a b → SameSlot b c → SameSlot a c
slot_then None None c e f = f
slot_then None (Some b) c e f = absurd (none-some _ (sym e))
slot_then (Some a) None c e f = absurd e
slot_then (Some a) (Some b) None e f = absurd f
slot_then (Some a) (Some b) (Some c) e f = (
  f.0 ∙ e.0,
  record {
    kind = f.1.kind ∙ e.1.kind;
    params = f.1.params ∙ e.1.params;
    table = f.1.table ∙ e.1.table;
    own = pieces_then (instance_of a.inst).own (instance_of b.inst).own (instance_of c.inst).own e.1.own f.1.own;
  },
)

location_then : (a b c : Location) → IsSameLocation a b → IsSameLocation b c → IsSameLocation a c
location_then (Here p) (Here q) (Here r) e f = piece_then p q r e f
location_then (Here p) (Here q) (At h) e f = f
location_then (Here p) (At h) c e f = absurd e
location_then (At h) b c e f = subst (λ (x : Location). IsSameLocation x c) e f

pub locations_then : (a b c : List Locations) → SameLocations a b → SameLocations b c → SameLocations a c
locations_then a b c e f i k = location_then (location_at (locations_at a i) k) (location_at (locations_at b i) k) (location_at (locations_at c i) k) (e i k) (f i k)

-- the blocks after group g was changed
pub blocks_stay : (groups : List Group) (g : ℕ) (y : Group) → g < length groups → ((space : Space) → IsSameBlock (block_in (group_at groups g) space) (block_in y space))
    → (k : ℕ) (space : Space) → IsSameBlock (block_in (group_at groups k) space) (block_in (group_at (set groups g y) k) space)
blocks_stay groups g y inside blocks k space =
    elim (eqb_tells k g) [
      | inl e ↦ rw (e.1, get_or-set_same groups g y no_group inside) (blocks space)
      | inr e ↦ rw (get_or-set_other groups g k y no_group e.1) (same_blocks _ _ (same_group (group_at groups k)) space)
    ]

pub pieces_stay : (sharing : List Locations) (i : ℕ) (o : Pieces) → i < length sharing → AllHaveOwners sharing → SamePieces (shared_at sharing i) o → (j : ℕ) → SamePieces (shared_at sharing j) (shared_at (with_pieces_of sharing i o) j)
pieces_stay sharing i o inside owners pieces = pieces_lent sharing i (owners_of_all sharing i owners inside) o pieces

-- the pieces that each instance sees afterwards
pub pieces_seen : {M : Type 0} (instances : List (Option (Member M))) (sharing : List Locations) (i : ℕ) (o : Pieces) (sharing' : List Locations) → Sees instances sharing i o sharing' → SamePieces (shared_at sharing i) o
    → (j : ℕ) → SamePieces (shared_at sharing j) (shared_at sharing' j)
pieces_seen instances sharing i o sharing' sees pieces j =
    elim (eqb_tells j i) [
      | inl e ↦ rw (e.1, sees.here) pieces
      | inr e ↦ sees.others j e.1
    ]

-- for whatever holds of the instances
module _ {M : Type 0} (H : ℕ → Member M → Pieces → Group → Type 0) (instances : List (Option (Member M))) (sharing : List Locations) (groups : List Group) (i g : ℕ) (m : Member M) (inst : Inst M) (o : Pieces) (y : Group)
    (ok : Tables H instances sharing groups) (in_slot : slot_at instances i ≡ Some m) (of_group : m.group ≡ g) (alone : (j : ℕ) → (group_at groups g).active ≡ Some j → j ≡ i) (now : y.active ≡ active_in i inst) where
  i_in : i < length instances
  i_in = slot_in instances i m in_slot

  i_in_once : i < length sharing
  i_in_once = omega (arith, i_in, ok.slot_count, ok.sharing_count)

  g_in : g < length groups
  g_in =
      let below : m.group < GROUPS = ok.group_range i m in_slot in
      omega (arith, ok.group_count, of_group, below)

  group_same : group_at (set groups g y) g ≡ y
  group_same = get_or-set_same groups g y no_group g_in

  group_other : (k : ℕ) → k ≢ g → group_at (set groups g y) k ≡ group_at groups k
  group_other k apart = get_or-set_other groups g k y no_group apart

  slot_same : slot_at (set instances i (Some (record { group = g; inst = inst }))) i ≡ Some (record { group = g; inst = inst })
  slot_same = get_or-set_same instances i _ None i_in

  slot_other : (j : ℕ) → j ≢ i → slot_at (set instances i (Some (record { group = g; inst = inst }))) j ≡ slot_at instances j
  slot_other j apart = get_or-set_other instances i j _ None apart

  there_after : (k j : ℕ) → k < GROUPS → (group_at (set groups g y) k).active ≡ Some j → slot_active_in (slot_at (set instances i (Some (record { group = g; inst = inst }))) j) ≡ Some k
  there_after k j below at =
      elim (eqb_tells k g) [
        | inl e ↦
            let mine : active_in i inst ≡ Some j = sym now ∙ ap (λ (q : Group). q.active) (sym group_same) ∙ rw e.1 at at in
            let here : i ≡ j = active_in_own i j inst mine in
            rw (e.1, ← here) (ap slot_active_in slot_same ∙ active_in_any i j g inst mine)
        | inr e ↦
            let there : slot_active_in (slot_at instances j) ≡ Some k = ok.active_there k j below (ap (λ (q : Group). q.active) (sym (group_other k e.1)) ∙ at) in
            elim (eqb_tells j i) [
              | inl f ↦ absurd (e.1 (sym (active_in_own m.group k m.inst (ap slot_active_in (sym in_slot) ∙ rw f.1 at there)) ∙ of_group))
              | inr f ↦ ap slot_active_in (slot_other j f.1) ∙ there
            ]
      ]

  known_after : (k j : ℕ) → slot_active_in (slot_at (set instances i (Some (record { group = g; inst = inst }))) j) ≡ Some k → (group_at (set groups g y) k).active ≡ Some j
  known_after k j at =
      elim (eqb_tells j i) [
        | inl f ↦
            let here : active_in g inst ≡ Some k = ap slot_active_in (sym slot_same) ∙ rw f.1 at at in
            let equal : g ≡ k = active_in_own g k inst here in
            rw (f.1, ← equal) (ap (λ (q : Group). q.active) group_same ∙ now ∙ active_in_any g k i inst here)
        | inr f ↦
            let known : (group_at groups k).active ≡ Some j = ok.active_known k j (ap slot_active_in (sym (slot_other j f.1)) ∙ at) in
            elim (eqb_tells k g) [
              | inl e ↦ absurd (f.1 (alone j (rw e.1 at known)))
              | inr e ↦ ap (λ (q : Group). q.active) (group_other k e.1) ∙ known
            ]
      ]

  pub poisoned_after_change : (w : Option ℤ) → ArePoisoned w groups → (y.active ≡ None → BlocksArePoison w y) → ArePoisoned w (set groups g y)
  poisoned_after_change w before here k below none =
      elim (eqb_tells k g) [
        | inl e ↦ rw (e.1, group_same) (here (ap (λ (q : Group). q.active) (sym group_same) ∙ rw e.1 at none))
        | inr e ↦ rw (group_other k e.1) (before k below (ap (λ (q : Group). q.active) (sym (group_other k e.1)) ∙ none))
      ]

  pub activity_after_change : (k : ℕ) → activity_at (set groups g y) k ≡ with_at (activity_at groups) g (record { active = y.active; count = y.activations }) k
  activity_after_change k =
      elim (eqb_tells k g) [
        | inl e ↦
            let equal : activity_at (set groups g y) g ≡ record { active = y.active; count = y.activations } = ap (λ (q : Group). record { active = q.active; count = q.activations }) group_same in
            rw (e.0, e.1) equal
        | inr e ↦ rw e.0 (ap (λ (q : Group). record { active = q.active; count = q.activations }) (group_other k e.1))
      ]

  -- what the instance in the slot kept
  kept_here : (laws : Laws M) (w : Option ℤ) (histories : ℕ → Log) → SlotsRefine laws w instances sharing groups histories → InstRefines laws w m.inst (shared_at sharing i) (group_at groups g) (histories i)
  kept_here laws w histories keeps =
      let here : SlotRefines laws w (Some m) (shared_at sharing i) groups (histories i) = rw in_slot at (keeps i) in
      subst (λ (k : ℕ). InstRefines laws w m.inst (shared_at sharing i) (group_at groups k) (histories i)) of_group here

  -- with what each instance sees of write-once records afterwards
  module _ (sharing' : List Locations) (sees : Sees instances sharing i o sharing') where
    pub tables_by_sight : (K : ℕ → Member M → Pieces → Group → Type 0)
        → AreHeld (set instances i (Some (record { group = g; inst = inst }))) sharing' → AreBare (set instances i (Some (record { group = g; inst = inst }))) sharing'
        → K i (record { group = g; inst = inst }) (shared_at sharing' i) (group_at (set groups g y) g)
        → ((j : ℕ) (n : Member M) → j ≢ i → slot_at instances j ≡ Some n → H j n (shared_at sharing j) (group_at groups n.group) → K j n (shared_at sharing' j) (group_at (set groups g y) n.group))
        → Tables K (set instances i (Some (record { group = g; inst = inst }))) sharing' (set groups g y)
    tables_by_sight K held bare here there = record {
      slot_count = simp length-set ok.slot_count;
      sharing_count = sees.count ∙ ok.sharing_count;
      held = held;
      bare = bare;
      group_count = simp length-set ok.group_count;
      group_range = λ j n at.
          elim (eqb_tells j i) [
            | inl e ↦
                let is : record { group = g; inst = inst } ≡ n = same_Some _ _ (sym slot_same ∙ rw e.1 at at) in
                subst (λ (q : Member M). q.group < GROUPS) is (rw of_group at (ok.group_range i m in_slot))
            | inr e ↦ ok.group_range j n (sym (slot_other j e.1) ∙ at)
          ];
      housed = λ j n at.
          elim (eqb_tells j i) [
            | inl e ↦
                let is : record { group = g; inst = inst } ≡ n = same_Some _ _ (sym slot_same ∙ rw e.1 at at) in
                rw e.1 (subst (λ (q : Member M). K i q (shared_at sharing' i) (group_at (set groups g y) q.group)) is here)
            | inr e ↦
                let before = sym (slot_other j e.1) ∙ at in
                there j n e.1 before (ok.housed j n before)
          ];
      active_there = there_after;
      active_known = known_after;
    }

    -- what the instance keeps in its slot afterwards
    keeps_here : (laws : Laws M) (w : Option ℤ) (h : Log) → InstRefines laws w inst o y h
        → SlotRefines laws w (slot_at (set instances i (Some (record { group = g; inst = inst }))) i) (shared_at sharing' i) (set groups g y) h
    keeps_here laws w h here =
        rw (slot_same, sees.here) (subst (λ (q : Group). InstRefines laws w inst o q h) (sym group_same) here)

    -- what each other instance keeps in its slot afterwards
    keeps_there : (laws : Laws M) (w : Option ℤ) (j : ℕ) → j ≢ i → (h : Log) → SlotRefines laws w (slot_at instances j) (shared_at sharing j) groups h
        → SlotRefines laws w (slot_at (set instances i (Some (record { group = g; inst = inst }))) j) (shared_at sharing' j) (set groups g y) h
    keeps_there laws w j apart h keeps =
        let beside = slot_keeps_other laws w groups g y (slot_at instances j) (shared_at sharing j) h (λ a. apart (alone j (ok.active_known g j a))) keeps in
        rw (slot_other j apart) (slot_sees laws w (shared_at sharing j) (shared_at sharing' j) h (slot_at instances j) (set groups g y) (λ n at lawful. sees.written j n apart at) beside)

    -- the instance went on by one step from its history to h
    pub keeps_by_step : (laws : Laws M) (w : Option ℤ) (histories : ℕ → Log) (h : Log)
        → (InstRefines laws w m.inst (shared_at sharing i) (group_at groups g) (histories i) → InstRefines laws w inst o y h)
        → SlotsRefine laws w instances sharing groups histories
        → SlotsRefine laws w (set instances i (Some (record { group = g; inst = inst }))) sharing' (set groups g y) (with_log histories i h)
    keeps_by_step laws w histories h step keeps j =
        elim (eqb_tells j i) [
          | inl e ↦ rw (e.0, e.1) (keeps_here laws w h (step (kept_here laws w histories keeps)))
          | inr e ↦ rw e.0 (keeps_there laws w j e.1 (histories j) (keeps j))
        ]

    -- the instance changed its state alone
    pub keeps_by_change : (laws : Laws M) (w : Option ℤ) (histories : ℕ → Log)
        → (InstRefines laws w m.inst (shared_at sharing i) (group_at groups g) (histories i) → InstRefines laws w inst o y (histories i))
        → SlotsRefine laws w instances sharing groups histories
        → SlotsRefine laws w (set instances i (Some (record { group = g; inst = inst }))) sharing' (set groups g y) histories
    keeps_by_change laws w histories step keeps j =
        elim (eqb_tells j i) [
          | inl e ↦ rw e.1 (keeps_here laws w (histories i) (step (kept_here laws w histories keeps)))
          | inr e ↦ keeps_there laws w j e.1 (histories j) (keeps j)
        ]

  -- where its pieces were put back at their owners, with the same words of its write-once records
  module _ (pieces : SamePieces (shared_at sharing i) o) (written : SameOnce (instance_of m.inst).table (shared_at sharing i) o) where
    own_sight : Sees instances sharing i o (with_pieces_of sharing i o)
    own_sight = sees_lent instances sharing i m o ok.held i_in_once in_slot pieces written

    own_stands : SameLocations sharing (with_pieces_of sharing i o)
    own_stands = stands_lent sharing i (owners_of_all sharing i (owners_of_held instances sharing ok.held) i_in_once) o pieces

    pub tables_by_change : (K : ℕ → Member M → Pieces → Group → Type 0) → SameMember m (record { group = g; inst = inst })
        → K i (record { group = g; inst = inst }) (shared_at (with_pieces_of sharing i o) i) (group_at (set groups g y) g)
        → ((j : ℕ) (n : Member M) → j ≢ i → slot_at instances j ≡ Some n → H j n (shared_at sharing j) (group_at groups n.group) → K j n (shared_at (with_pieces_of sharing i o) j) (group_at (set groups g y) n.group))
        → Tables K (set instances i (Some (record { group = g; inst = inst }))) (with_pieces_of sharing i o) (set groups g y)
    tables_by_change K same here there =
        let members = members_beside instances i m (record { group = g; inst = inst }) in_slot i_in same in
        tables_by_sight (with_pieces_of sharing i o) own_sight K
        (held_stays instances (set instances i (Some (record { group = g; inst = inst }))) sharing (with_pieces_of sharing i o) members own_stands ok.held)
        (bare_stays instances (set instances i (Some (record { group = g; inst = inst }))) sharing (with_pieces_of sharing i o) members own_stands ok.bare)
        here there

    pub keeps_after_step : (laws : Laws M) (w : Option ℤ) (histories : ℕ → Log) (h : Log)
        → (InstRefines laws w m.inst (shared_at sharing i) (group_at groups g) (histories i) → InstRefines laws w inst o y h)
        → SlotsRefine laws w instances sharing groups histories
        → SlotsRefine laws w (set instances i (Some (record { group = g; inst = inst }))) (with_pieces_of sharing i o) (set groups g y) (with_log histories i h)
    keeps_after_step laws w histories h step keeps = keeps_by_step (with_pieces_of sharing i o) own_sight laws w histories h step keeps

    pub keeps_after_change : (laws : Laws M) (w : Option ℤ) (histories : ℕ → Log)
        → (InstRefines laws w m.inst (shared_at sharing i) (group_at groups g) (histories i) → InstRefines laws w inst o y (histories i))
        → SlotsRefine laws w instances sharing groups histories
        → SlotsRefine laws w (set instances i (Some (record { group = g; inst = inst }))) (with_pieces_of sharing i o) (set groups g y) histories
    keeps_after_change laws w histories step keeps = keeps_by_change (with_pieces_of sharing i o) own_sight laws w histories step keeps

-- for an instance that stays where it is, with what each instance sees of write-once records afterwards
module _ {M : Type 0} (instances : List (Option (Member M))) (sharing : List Locations) (groups : List Group) (i g : ℕ) (m : Member M) (inst : Inst M) (o : Pieces) (y : Group) (sharing' : List Locations) (sees : Sees instances sharing i o sharing')
    (stands : SameLocations sharing sharing') (ok : TablesOk instances sharing groups) (in_slot : slot_at instances i ≡ Some m) (of_group : m.group ≡ g) (alone : (j : ℕ) → (group_at groups g).active ≡ Some j → j ≡ i) (now : y.active ≡ active_in i inst)
    (same : SameInstance (instance_of m.inst) (instance_of inst)) (pieces : SamePieces (shared_at sharing i) o) (written : SameOnce (instance_of m.inst).table (shared_at sharing i) o)
    (blocks : (space : Space) → IsSameBlock (block_in (group_at groups g) space) (block_in y space)) where
  blocks_after : (k : ℕ) (space : Space) → IsSameBlock (block_in (group_at groups k) space) (block_in (group_at (set groups g y) k) space)
  blocks_after = blocks_stay groups g y (g_in EachIsHoused instances sharing groups i g m inst o y ok in_slot of_group alone now) blocks

  pieces_after : (j : ℕ) → SamePieces (shared_at sharing j) (shared_at sharing' j)
  pieces_after = pieces_seen instances sharing i o sharing' sees pieces

  instances_after : (j : ℕ) → SameSlot (slot_at instances j) (slot_at (set instances i (Some (record { group = g; inst = inst }))) j)
  instances_after j =
      elim (eqb_tells j i) [
        | inl e ↦ rw (e.1, slot_same EachIsHoused instances sharing groups i g m inst o y ok in_slot of_group alone now, in_slot) (sym of_group, same)
        | inr e ↦ rw (slot_other EachIsHoused instances sharing groups i g m inst o y ok in_slot of_group alone now j e.1) (same_slot (slot_at instances j))
      ]

  written_after : (j : ℕ) (n : Member M) → slot_at instances j ≡ Some n → SameOnce (instance_of n.inst).table (shared_at sharing j) (shared_at sharing' j)
  written_after j n at k attr =
      elim (eqb_tells j i) [
        | inl e ↦
            let is : m ≡ n = same_Some _ _ (sym in_slot ∙ rw e.1 at at) in
            rw (e.1, sees.here)
            (subst (λ (q : Member M). SameOnce (instance_of q.inst).table (shared_at sharing i) o) is written k attr)
        | inr e ↦ sees.written j n e.1 at k attr
      ]

  pub tables_after_sight : SameTables instances sharing groups (set instances i (Some (record { group = g; inst = inst }))) sharing' (set groups g y)
  tables_after_sight = record { slot = instances_after; pieces = pieces_after; stands = stands; written = written_after; blocks = blocks_after }

  pub ok_after_sight : TablesOk (set instances i (Some (record { group = g; inst = inst }))) sharing' (set groups g y)
  ok_after_sight =
      let members = members_beside instances i m (record { group = g; inst = inst }) in_slot (i_in EachIsHoused instances sharing groups i g m inst o y ok in_slot of_group alone now) (member_stays m g inst of_group same) in
      tables_by_sight EachIsHoused instances sharing groups i g m inst o y ok in_slot of_group alone now sharing' sees EachIsHoused
      (held_stays instances (set instances i (Some (record { group = g; inst = inst }))) sharing sharing' members stands ok.held)
      (bare_stays instances (set instances i (Some (record { group = g; inst = inst }))) sharing sharing' members stands ok.bare)
      (let before : IsHoused (instance_of m.inst) (shared_at sharing i) (group_at groups g) = rw of_group at (ok.housed i m in_slot) in
      housed_stays (instance_of m.inst) (instance_of inst) _ _ _ _ same (pieces_after i) (blocks_after g) before)
      (λ j n apart at before.
      housed_stays (instance_of n.inst) (instance_of n.inst) _ _ _ _
      (record { kind = refl; params = refl; table = refl; own = same_pieces (instance_of n.inst).own }) (pieces_after j) (blocks_after n.group) before)

-- where its pieces were put back at their owners
module _ {M : Type 0} (instances : List (Option (Member M))) (sharing : List Locations) (groups : List Group) (i g : ℕ) (m : Member M) (inst : Inst M) (o : Pieces) (y : Group)
    (ok : TablesOk instances sharing groups) (in_slot : slot_at instances i ≡ Some m) (of_group : m.group ≡ g) (alone : (j : ℕ) → (group_at groups g).active ≡ Some j → j ≡ i) (now : y.active ≡ active_in i inst)
    (same : SameInstance (instance_of m.inst) (instance_of inst)) (pieces : SamePieces (shared_at sharing i) o) (written : SameOnce (instance_of m.inst).table (shared_at sharing i) o)
    (blocks : (space : Space) → IsSameBlock (block_in (group_at groups g) space) (block_in y space)) where
  sight : Sees instances sharing i o (with_pieces_of sharing i o)
  sight = own_sight EachIsHoused instances sharing groups i g m inst o y ok in_slot of_group alone now pieces written

  stands : SameLocations sharing (with_pieces_of sharing i o)
  stands = own_stands EachIsHoused instances sharing groups i g m inst o y ok in_slot of_group alone now pieces written

  pub tables_after_change : SameTables instances sharing groups (set instances i (Some (record { group = g; inst = inst }))) (with_pieces_of sharing i o) (set groups g y)
  tables_after_change = tables_after_sight instances sharing groups i g m inst o y (with_pieces_of sharing i o) sight stands ok in_slot of_group alone now same pieces written blocks

  pub ok_after_change : TablesOk (set instances i (Some (record { group = g; inst = inst }))) (with_pieces_of sharing i o) (set groups g y)
  ok_after_change = ok_after_sight instances sharing groups i g m inst o y (with_pieces_of sharing i o) sight stands ok in_slot of_group alone now same pieces written blocks

-- each of its records has an owner
pub owners_in : {M : Type 0} {H : ℕ → Member M → Pieces → Group → Type 0} (instances : List (Option (Member M))) (sharing : List Locations) (groups : List Group) → Tables H instances sharing groups → (i : ℕ) → i < INSTANCES → HasOwners sharing i
owners_in instances sharing groups ok i inside = owners_of_all sharing i (owners_of_held instances sharing ok.held) (omega (arith, ok.sharing_count))

pub owners_of_slot : {M : Type 0} {H : ℕ → Member M → Pieces → Group → Type 0} (instances : List (Option (Member M))) (sharing : List Locations) (groups : List Group) → Tables H instances sharing groups → (i : ℕ) (m : Member M) → slot_at instances i ≡ Some m → HasOwners sharing i
owners_of_slot instances sharing groups ok i m at =
    let inside = slot_in instances i m at in
    owners_in instances sharing groups ok i (omega (arith, inside, ok.slot_count))

-- what the code read
pub read_group : (groups : List Group) (g : ℕ) (r : Group) → g < length groups → r ≡ slice_index_or groups g r → group_at groups g ≡ r
read_group groups g r inside read = sym (get_or_read groups g r inside read no_group)

-- the instance that was taken out of its slot fits there
pub fits_in_slot : {M : Type 0} {instances : List (Option (Member M))} {sharing : List Locations} {groups : List Group}
    (i : ℕ) {g : ℕ} {m : Member M} {inst : Inst M} {o : Pieces} {y : Group}
    → TablesOk instances sharing groups → slot_at instances i ≡ Some m → m.inst ≡ inst → m.group ≡ g → shared_at sharing i ≡ o → group_at groups g ≡ y
    → Fits (instance_of inst).table (instance_of inst).own o y
fits_in_slot i {m} ok at is of_group once_is group_is =
    rw (is, of_group, once_is, group_is) at (ok.housed i m at).fits

pub group_inside : {M : Type 0} {H : ℕ → Member M → Pieces → Group → Type 0} (instances : List (Option (Member M))) (sharing : List Locations) (groups : List Group) → Tables H instances sharing groups → (g : ℕ) → g < GROUPS → g < length groups
group_inside instances sharing groups ok g below = omega (arith, ok.group_count)

pub read_ok_group : {M : Type 0} {H : ℕ → Member M → Pieces → Group → Type 0} (instances : List (Option (Member M))) (sharing : List Locations) (groups : List Group) → Tables H instances sharing groups → (g : ℕ) → g < GROUPS
    → (r : Group) → r ≡ slice_index_or groups g r → group_at groups g ≡ r
read_ok_group instances sharing groups ok g below r read = read_group groups g r (group_inside instances sharing groups ok g below) read

-- an instance in its slot has its locations
pub once_inside : {M : Type 0} {H : ℕ → Member M → Pieces → Group → Type 0} (instances : List (Option (Member M))) (sharing : List Locations) (groups : List Group) → Tables H instances sharing groups → (i : ℕ) (m : Member M) → slot_at instances i ≡ Some m
    → i < length sharing
once_inside instances sharing groups ok i m at =
    let inside = slot_in instances i m at in
    omega (arith, inside, ok.slot_count, ok.sharing_count)

pub read_ok_slot : {M : Type 0} {H : ℕ → Member M → Pieces → Group → Type 0} (instances : List (Option (Member M))) (sharing : List Locations) (groups : List Group) → Tables H instances sharing groups → (i : ℕ) → i < INSTANCES
    → (r : Option (Member M)) → r ≡ slice_index_or instances i r → slot_at instances i ≡ r
read_ok_slot instances sharing groups ok i below r read = sym (get_or_read instances i r (omega (arith, ok.slot_count)) read None)

-- the active member that the code read stands in its slot, and is active there
pub read_active : {M : Type 0} (instances : List (Option (Member M))) (sharing : List Locations) (groups : List Group) → TablesOk instances sharing groups → (g i : ℕ) → g < GROUPS
    → (r : Group) → r ≡ slice_index_or groups g r → r.active ≡ Some i → slot_active_in (slot_at instances i) ≡ Some g
read_active instances sharing groups ok g i below r read active =
    ok.active_there g i below (ap (λ (q : Group). q.active) (read_ok_group instances sharing groups ok g below r read) ∙ active)

-- and no other member is
pub read_alone : {M : Type 0} (instances : List (Option (Member M))) (sharing : List Locations) (groups : List Group) → TablesOk instances sharing groups → (g i : ℕ) → g < GROUPS
    → (r : Group) → r ≡ slice_index_or groups g r → r.active ≡ Some i → (j : ℕ) → (group_at groups g).active ≡ Some j → j ≡ i
read_alone instances sharing groups ok g i below r read active j other =
    same_Some j i (sym other ∙ ap (λ (q : Group). q.active) (read_ok_group instances sharing groups ok g below r read) ∙ active)

-- the same instance later
pub later_member : {M : Type 0} (a b : Option (Member M)) (m : Member M) → a ≡ Some m → SameSlot a b
    → (n : Member M) × ((b ≡ Some n) × SameInstance (instance_of m.inst) (instance_of n.inst))
later_member {M = M} a None m at s = absurd (subst (λ (x : Option (Member M)). SameSlot x None) at s)
later_member {M = M} a (Some n) m at s = (n, (refl, (subst (λ (x : Option (Member M)). SameSlot x (Some n)) at s).1))

-- write-once words that stay
once_then : (rs : List MemRec) (a b c : Pieces) → SameOnce rs a b → SameOnce rs b c → SameOnce rs a c
once_then rs a b c e f k attr = f k attr ∙ e k attr

same_location : (a : Location) → IsSameLocation a a
same_location (Here p) = reflexive p
same_location (At owner) = refl

-- tables that did not change
pub same_tables : {M : Type 0} (instances : List (Option (Member M))) (sharing : List Locations) (groups : List Group) → SameTables instances sharing groups instances sharing groups
same_tables instances sharing groups = record {
  slot = λ i. same_slot (slot_at instances i);
  pieces = λ i. same_pieces (shared_at sharing i);
  stands = λ i k. same_location (location_at (locations_at sharing i) k);
  written = λ i m at k attr. refl;
  blocks = λ g space. same_blocks (group_at groups g) (group_at groups g) (same_group (group_at groups g)) space;
}

-- two steps in turn
pub tables_then : {M : Type 0} {instances instances' instances'' : List (Option (Member M))} {sharing sharing' sharing'' : List Locations} {groups groups' groups'' : List Group}
    → SameTables instances sharing groups instances' sharing' groups' → SameTables instances' sharing' groups' instances'' sharing'' groups'' → SameTables instances sharing groups instances'' sharing'' groups''
tables_then {M} {instances} {instances'} {instances''} {sharing} {sharing'} {sharing''} {groups} {groups'} {groups''} a b = record {
  slot = λ i. slot_then _ _ _ (a.slot i) (b.slot i);
  pieces = λ i. pieces_then _ _ _ (a.pieces i) (b.pieces i);
  stands = locations_then sharing sharing' sharing'' a.stands b.stands;
  written = λ i m at.
      let later = later_member _ _ m at (a.slot i) in
      once_then _ _ _ _ (a.written i m at) (subst (λ (rs : List MemRec). SameOnce rs (shared_at sharing' i) (shared_at sharing'' i)) later.1.1.table (b.written i later.0 later.1.0));
  blocks = λ g space. block_then _ _ _ (a.blocks g space) (b.blocks g space);
}

-- the slot that the code read
pub read_slot : {M : Type 0} (instances : List (Option (Member M))) (i g : ℕ) → slot_active_in (slot_at instances i) ≡ Some g → (r : Option (Member M)) → r ≡ slice_index_or instances i r → slot_at instances i ≡ r
read_slot [] i g active r read = absurd (none-some _ active)
read_slot (s ∷ instances) zero g active r read = sym read
read_slot (s ∷ instances) (suc i) g active r read = read_slot instances i g active r read

-- an active instance is its group's active member
pub known_active : {M : Type 0} (instances : List (Option (Member M))) (sharing : List Locations) (groups : List Group) → TablesOk instances sharing groups → (i : ℕ) (m : Member M) → slot_at instances i ≡ Some m
    → slot_active_in (slot_at instances i) ≡ Some (group_of (slot_at instances i)) → (group_at groups m.group).active ≡ Some i
known_active instances sharing groups ok i m at active = ok.active_known m.group i (active ∙ ap Some (ap group_of at))

-- what the instance in a slot keeps
pub kept_in_slot : {M : Type 0} (instances : List (Option (Member M))) (sharing : List Locations) (groups : List Group)
    (i : ℕ) {m : Member M} {inst : Inst M} {o : Pieces} {y : Group}
    → slot_at instances i ≡ Some m → m.inst ≡ inst → shared_at sharing i ≡ o → group_at groups m.group ≡ y
    → (laws : Laws M) (w : Option ℤ) (histories : ℕ → Log)
    → SlotsRefine laws w instances sharing groups histories → InstRefines laws w inst o y (histories i)
kept_in_slot instances sharing groups i {m} at is once_is group_is laws w histories keeps =
    let here : SlotRefines laws w (Some m) (shared_at sharing i) groups (histories i) = rw at at (keeps i) in
    rw (is, once_is, group_is) at here

pub member_of : {M : Type 0} (slot : Option (Member M)) → IsSome slot → (m : Member M) × (slot ≡ Some m)
member_of None e = absurd (true≢false (sym e))
member_of (Some m) e = (m, refl)

-- an active instance stands in its slot
active_stands : {M : Type 0} (instances : List (Option (Member M))) (i g : ℕ) (o : Option (Member M)) → slot_at instances i ≡ o → slot_active_in o ≡ Some g → (m : Member M) × (slot_at instances i ≡ Some m)
active_stands instances i g None is active = absurd (none-some _ active)
active_stands instances i g (Some m) is active = (m, is)

pub active_inside : {M : Type 0} (instances : List (Option (Member M))) (i g : ℕ) → slot_active_in (slot_at instances i) ≡ Some g → i < length instances
active_inside instances i g active =
    let stands = active_stands instances i g (slot_at instances i) refl active in
    slot_in instances i stands.0 stands.1

-- what was put into a slot, and then turned there
pub turned : {M : Type 0} (instances : List (Option (Member M))) (i : ℕ) (m : Member M) (f : Member M → Member M) (new : List (Option (Member M))) → i < length instances
    → ((q : Member M) → slot_at (set instances i (Some m)) i ≡ Some q → new ≡ set (set instances i (Some m)) i (Some (f q)))
    → new ≡ set instances i (Some (f m))
turned instances i m f new inside turns = rw (turns m (get_or-set_same instances i (Some m) None inside), set-set) refl

-- an instance that lived in a slot before a call stands there still
pub read_there : {M : Type 0} (instances : List (Option (Member M))) (i : ℕ) (m : Member M) → slot_at instances i ≡ Some m
    → (r : Option (Member M)) → r ≡ slice_index_or instances i r → slot_at instances i ≡ r
read_there instances i m at r read = sym (get_or_read instances i r (slot_in instances i m at) read None)

pub read_later : {M : Type 0} (a b : List (Option (Member M))) (i : ℕ) → IsSome (slot_at a i) → SameSlot (slot_at a i) (slot_at b i)
    → (r : Option (Member M)) → r ≡ slice_index_or b i r → slot_at b i ≡ r
read_later a b i living same r read =
    let m = member_of (slot_at a i) living in
    let later = later_member (slot_at a i) (slot_at b i) m.0 m.1 same in
    read_there b i later.0 later.1.0 r read
