-- What deletions of all instances leave.
use Rattle.std.proofs.Common.{◌≡◌, ◌≢◌, ◌<◌, ◌≤◌, ◌+◌, ◌++◌, ℕ, ℤ, zero, suc, inl, inr, List, [], ◌∷◌, length, Option, Some, None, Result, fold, refl, ap, sym, ◌∙◌, subst, arith}
use Rattle.std.specs.List.{range_with_len}
use Rattle.std.proofs.lemmas.Bool.Decides.{eqb_tells}
use Rattle.std.proofs.lemmas.List.Sums.{fold-append}
use Rattle.std.proofs.lemmas.Option.{none-some}
use Rattle.mem_rec.specs.declared.Space.{Space}
use Rattle.mem_rec.specs.declared.Space.TheVariants.{Daram, Saram, External}
use Rattle.ialg.specs.Meaning.{Meaning}
use Rattle.ialg.specs.declared.refusal.Refusal.{Refusal}
use Rattle.ialg.specs.Laws.{Laws}
use Rattle.record_loans.specs.declared.block.ScratchBlock.{ScratchBlock}
use Rattle.record_loans.specs.Blocks.{block_align, block_piece}
use Rattle.scratch_group.specs.declared.group.Group.{Group}
use Rattle.host_table.specs.declared.member.Member.{Member}
use Rattle.host_shared.specs.declared.locations.Locations.{Locations}
use Rattle.host_table.specs.Table.{slot_at, is_member_of}
use Rattle.mem_rec.specs.declared.TheConstants.{INSTANCES}
use Rattle.host_map.specs.declared.placed.Owner.{Owner}
use Rattle.host_map.specs.declared.placed.Owner.TheVariants.{Record, Scratch}
use Rattle.host_map.specs.declared.placed.Placed.{Placed}
use Rattle.host_spaces.specs.Blocks.{block_of_piece}
use Rattle.host_map.specs.Blocks.{owned}
use Rattle.host_spaces.proofs.Owners.{itself}
use Rattle.host_spaces.specs.declared.spaces.Spaces.{Spaces}
use Rattle.host_map.specs.MemoryMap.{blocks_in, empty_map}
use Rattle.host_spaces.specs.MemoryMap.{map_of}
use Rattle.host_spaces.proofs.Maps.{maps_equal}
use Rattle.host_spec.specs.State.{State}
use Rattle.host_spec.specs.Steps.{Outcome, closed, delete}
use Rattle.host_spec.proofs.CallLemmas.{delete_keeps}
use Rattle.host_moves.specs.Standing.{AgreeWithMap, SlotIsSame}
use Rattle.host_moves.proofs.Rooms.{compare}
use Rattle.host_moves.specs.Hosts.{ListsAndSpacesRefine}

-- ---- the state in which the first n instances are deleted

abbrev pub without_first : {M : Type 0} → Meaning M → State M → ℕ → State M
without_first kinds before n = fold (λ left i. (delete kinds left i).1) before (range_with_len 0 n)

range_more : (a n : ℕ) → range_with_len a (suc n) ≡ range_with_len a n ++ (a + n) ∷ []
range_more a zero = let here : a ≡ a + 0 = omega arith in ap (λ j. j ∷ []) here
range_more a (suc n) =
    let last : a + 1 + n ≡ a + suc n = omega arith in
    ap (λ (ns : List ℕ). a ∷ ns) (range_more (a + 1) n ∙ ap (λ j. range_with_len (a + 1) n ++ j ∷ []) last)

without_next : {M : Type 0} (kinds : Meaning M) (before : State M) (n : ℕ) → without_first kinds before (n + 1) ≡ (delete kinds (without_first kinds before n) n).1
without_next kinds before n =
    let one : n + 1 ≡ suc n = omega arith in
    let last : 0 + n ≡ n = omega arith in
    ap (without_first kinds before) one
    ∙ ap (fold (λ left i. (delete kinds left i).1) before) (range_more 0 n ∙ ap (λ j. range_with_len 0 n ++ j ∷ []) last)
    ∙ fold-append (λ left i. (delete kinds left i).1) before (range_with_len 0 n) (n ∷ [])

-- the host keeps it
pub record IsClosing {M : Type 0} (laws : Laws M) (instances : List (Option (Member M))) (sharing : List Locations) (groups : List Group) (spaces : Spaces)
    (n : ℕ) (w : Option ℤ) (before : State M) : Type 0 where
  pub poison : (without_first laws.meaning before n).poison ≡ w
  pub kept : ListsAndSpacesRefine laws instances sharing groups spaces (without_first laws.meaning before n)

module _ {M : Type 0} (laws : Laws M) (instances : List (Option (Member M))) (sharing : List Locations) (groups : List Group) (spaces : Spaces)
    (w : Option ℤ) (before : State M) where
  pub closing_next : (n : ℕ) (answer : Result (Unit {0}) Refusal) (after : State M) → (without_first laws.meaning before n).poison ≡ w
      → ◌≡◌ {A = Outcome (State M) (Unit {0})} (answer, after) (delete laws.meaning (without_first laws.meaning before n) n)
      → ListsAndSpacesRefine laws instances sharing groups spaces after
      → IsClosing laws instances sharing groups spaces (n + 1) w before
  closing_next n answer after poison does kept =
      let now = without_first laws.meaning before n in
      let is : after ≡ without_first laws.meaning before (n + 1) = ap (λ (o : Outcome (State M) (Unit {0})). o.1) does ∙ sym (without_next laws.meaning before n) in
      record {
        poison = ap (λ (s : State M). s.poison) (without_next laws.meaning before n) ∙ (delete_keeps n now laws.meaning).host.poison ∙ poison;
        kept = subst (ListsAndSpacesRefine laws instances sharing groups spaces) is kept;
      }

  pub closing_end : (n : ℕ) → n ≡ INSTANCES → IsClosing laws instances sharing groups spaces n w before
      → ListsAndSpacesRefine laws instances sharing groups spaces (closed laws.meaning before)
  closing_end n all closing = subst (λ k. ListsAndSpacesRefine laws instances sharing groups spaces (without_first laws.meaning before k)) all closing.kept

-- ---- nothing is left

still_none : {M : Type 0} (a b : Option (Member M)) → SlotIsSame a b → a ≡ None → b ≡ None
still_none None b same none = same
still_none (Some m) b same none = absurd (none-some _ (sym none))

-- one instance more is deleted
pub none_next : {M : Type 0} (instances instances' : List (Option (Member M))) (n : ℕ) → ((j : ℕ) → j ≢ n → SlotIsSame (slot_at instances j) (slot_at instances' j)) → slot_at instances' n ≡ None
    → ((j : ℕ) → j < n → slot_at instances j ≡ None) → (j : ℕ) → j < n + 1 → slot_at instances' j ≡ None
none_next instances instances' n others gone none j below =
    elim (eqb_tells j n) [
      | inl e ↦ ap (slot_at instances') e.1 ∙ gone
      | inr e ↦ let less : j < n = omega (arith, below, e.1) in still_none (slot_at instances j) (slot_at instances' j) (others j e.1) (none j less)
    ]

slot_past : {M : Type 0} (instances : List (Option (Member M))) (i : ℕ) → length instances ≤ i → slot_at instances i ≡ None
slot_past [] i h = refl
slot_past (s ∷ instances) zero h = absurd (none_less h)
  where
    none_less : suc (length instances) ≤ 0 → ⊥
    none_less e = omega (arith, e)
slot_past (s ∷ instances) (suc i) h = slot_past instances i (let less : length instances ≤ i = omega (arith, h) in less)

pub none_in : {M : Type 0} (instances : List (Option (Member M))) (n : ℕ) → length instances ≤ n → ((j : ℕ) → j < n → slot_at instances j ≡ None) → (i : ℕ) → slot_at instances i ≡ None
none_in instances n count none i =
    elim (compare i n) [
      | inl h ↦ none i h
      | inr h ↦ slot_past instances i (let past : length instances ≤ i = omega (arith, h, count) in past)
    ]

no_head : (b : Placed) (bs : List Placed) → b ∷ bs ≡ [] → ⊥
no_head b bs e = cc

nothing_owned : (bs : List Placed) → ((o : Owner) → owned o bs ≡ []) → bs ≡ []
nothing_owned [] none = refl
nothing_owned (b ∷ bs) none =
    let first : b ∷ owned b.owner bs ≡ [] = rw (itself b.owner) at (none b.owner) in
    absurd (no_head b (owned b.owner bs) first)

module _ {M : Type 0} (instances : List (Option (Member M))) (sharing : List Locations) (groups : List Group) (spaces : Spaces) (standing : AgreeWithMap instances sharing groups spaces)
    (none : (i : ℕ) → slot_at instances i ≡ None) where
  none_owned : (space : Space) (o : Owner) → owned o (blocks_in (map_of spaces) space) ≡ []
  none_owned space (Record i k) = standing.gone i k space (none i)
  none_owned space (Scratch g) =
      standing.blocks g space
      ∙ ap (λ (b : Option ScratchBlock). block_of_piece (Scratch g) (block_align b) (block_piece b)) (standing.unused g space (λ i. ap (is_member_of g) (none i)))

  pub empty_left : map_of spaces ≡ empty_map
  empty_left =
      maps_equal (map_of spaces) empty_map (nothing_owned _ (none_owned Daram)) (nothing_owned _ (none_owned Saram)) (nothing_owned _ (none_owned External))
