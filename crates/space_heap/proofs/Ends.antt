-- What lies before a place and behind it: a hole that touches it, or holes that don't.
use Rattle.std.proofs.Common.{◌≡◌, ℕ, ◌+◌, ◌-◌, ◌%◌, ◌<◌, ◌≤◌, true, false, List, [], ◌∷◌, ◌++◌, length, refl, ap, sym, ◌∙◌, subst, arith, Option, Some, None, append_assoc, append-nil}
use Rattle.std.proofs.Math.Dec.{eqb}
use Rattle.std.proofs.lemmas.Bool.{cases_lt, eqb-true, eq-eqb}
use Rattle.std.specs.Option.{option_eq}
use Rattle.std.specs.Prelude.{ℤ}
use Rattle.space_heap.specs.declared.find.Fit.{Fit}
use Rattle.space_heap.specs.declared.find.Found.{Found}
use Rattle.relocate.specs.Places.{Range, covers, end_of, is_covered}
use Rattle.space_heap.specs.Maps.{IsBlock}
use Rattle.space_heap.specs.Holes.{AreHoles, Chain, HasHoles, IsBack, IsCarved, IsFound, IsFreeFrom, IsFromOn, IsFront, IsLink, between, first_place, hole_end, hole_range, in_rest, last_place}
use Rattle.relocate.proofs.RangeTests.{either, clash, when_not, left_true, right_true, is_in, in_range}
use Rattle.space_heap.proofs.Chains.{around, between_chain, chain_append, chain_parts, covered_append, none_between, or_false_right, to_higher}
use Rattle.space_heap.proofs.Finds.{chain_from, hole_before, nothing_before}
use Rattle.space_heap.proofs.Links.{last_append}

abbrev Slots : Type 0
Slots = List (Option ℤ)

-- no word of it is in a range without words
pub none_in : (at k : ℕ) → covers (record { place = at; size = at - at }) k ≡ false
none_in at k = when_not (covers (record { place = at; size = at - at }) k) (λ has. let both = is_in (record { place = at; size = at - at }) k has in let low = both.0 in let to = both.1 in omega arith)

-- the words from one place up to another are those of the range
pub same_range : (from to : ℕ) (h : Range) → from ≡ h.place → to ≡ end_of h → (k : ℕ) → covers (record { place = from; size = to - from }) k ≡ is_covered (h ∷ []) k
same_range from to h e f k =
    let size : to - from ≡ h.size = omega arith in
    ap (λ p. covers (record { place = p; size = to - from }) k) e ∙ ap (λ n. covers (record { place = h.place; size = n }) k) size ∙ sym (or_false_right (covers h k))

-- the first of the holes, where there is one at the place
pub record IsHead (right : List Range) (at : ℕ) : Type 0 where
  pub hole : Range
  pub others : List Range
  pub is : right ≡ hole ∷ others
  pub here : hole.place ≡ at

pub head_of : (right : List Range) (at : ℕ) → first_place right None ≡ Some at → IsHead right at
head_of [] at e = cc
head_of (h ∷ hs) at e = record { hole = h; others = hs; is = refl; here = cc }

pub is_link : (size low : ℕ) (hs : List Range) (high : ℕ) → size ≤ 65536 → Chain size low hs high → IsLink (first_place hs None)
is_link size low [] high most c = tt
is_link size low (h ∷ hs) high most c = let some = c.0.some in let inside = c.0.inside in (c.0.place, omega arith)

pub later : (place : ℕ) (next : Option ℕ) → IsFromOn place next → (next ≡ Some place → ⊥) → IsFromOn (place + 1) next
later place None late ne = tt
later place (Some p) late ne = either (cases_lt place p) (λ lt. omega arith) (λ le. let same : p ≡ place = (let from : place ≤ p = late in omega arith) in absurd (ne (ap (λ q. Some q) same)))

-- the first of a chain begins from its low end on
first_from : (size low : ℕ) (hs : List Range) (high : ℕ) → Chain size low hs high → IsFromOn low (first_place hs None)
first_from size low [] high c = tt
first_from size low (h ∷ hs) high c = c.1

earlier : (place end : ℕ) (next : Option ℕ) → place ≤ end → IsFromOn end next → IsFromOn place next
earlier place end None le late = tt
earlier place end (Some p) le late = let from : end ≤ p = late in omega arith

-- the first hole from a place on begins behind words that are in none
pub beyond : (words : Slots) (first : Option ℕ) (left right : List Range) (place end : ℕ) → AreHoles words first (left ++ right) → IsFromOn place (first_place right None)
    → ((k : ℕ) → place ≤ k → k < end → in_rest words k ≡ false) → IsFromOn end (first_place right None)
beyond words first left [] place end holes late away = tt
beyond words first left (h ∷ hs) place end holes late away =
    let parts = around (length words) 0 left h hs (length words + 1) holes.chain in let some = parts.1.some in let from : place ≤ h.place = late in
    either (cases_lt h.place end)
    (λ lt. clash (in_rest words h.place)
    (holes.all h.place ∙ covered_append left (h ∷ hs) h.place ∙ right_true (is_covered left h.place) (is_covered (h ∷ hs) h.place) (left_true (covers h h.place) (is_covered hs h.place) (in_range h h.place (omega arith) (omega arith))))
    (away h.place from lt))
    (λ ge. omega arith)

module _ (words : Slots) (first : Option ℕ) (left right : List Range) (holes : AreHoles words first (left ++ right)) (end : ℕ) where
  abbrev size : ℕ
  size = length words

  pub back_touching : (head : IsHead right end) → IsBack words right end (record { to = end_of head.hole; behind = first_place head.others None })
  back_touching head =
      let h = head.hole in let whole = subst (λ hs. AreHoles words first (left ++ hs)) head.is holes in
      let parts = around size 0 left h head.others (size + 1) whole.chain in let block = parts.1 in let at = block.place in let long = block.size in let here = head.here in record {
        mid = h ∷ [];
        others = head.others;
        holes = head.is;
        behind = refl;
        chain = parts.2;
        high = omega arith;
        inside = block.inside;
        unit = omega arith;
        all = same_range end (end_of h) h (sym here) refl;
      }

  pub back_apart : (next : Option ℕ) → next ≡ first_place right None → IsFromOn end next → (next ≡ Some end → ⊥) → end % 4 ≡ 0 → end ≤ size → IsBack words right end (record { to = end; behind = next })
  back_apart next e late ne unit inside =
      let chains = chain_parts size 0 left right (size + 1) holes.chain in record {
        mid = [];
        others = right;
        holes = refl;
        behind = e;
        chain = chain_from size chains.0 right (size + 1) (end + 1) chains.2 (omega arith) (subst (IsFromOn (end + 1)) e (later end next late ne));
        high = omega arith;
        inside = inside;
        unit = unit;
        all = none_in end;
      }

module _ (words : Slots) (first : Option ℕ) (f : Found) (found : IsFound words first f) where
  abbrev size₁ : ℕ
  size₁ = length words

  abbrev h : Range
  h = hole_range f.hole

  pub found_chains : Chain size₁ 0 found.left f.hole.place × IsBlock size₁ h × Chain size₁ (hole_end f.hole + 1) found.right (size₁ + 1)
  found_chains = around size₁ 0 found.left h found.right (size₁ + 1) found.holes.chain

  abbrev seen : List Range
  seen = found.left ++ h ∷ []

  seen_holes : AreHoles words first (seen ++ found.right)
  seen_holes = subst (AreHoles words first) (sym (append_assoc found.left (h ∷ []) found.right)) found.holes

  -- it ends before a place that is in no hole, unless it touches it
  ends_before : (place : ℕ) → f.hole.place < place → in_rest words place ≡ false → (hole_end f.hole ≡ place → ⊥) → hole_end f.hole < place
  ends_before place lt away ne =
      either (cases_lt place (hole_end f.hole))
      (λ over. clash (in_rest words place)
      (found.holes.all place ∙ covered_append found.left (h ∷ found.right) place
      ∙ right_true (is_covered found.left place) (is_covered (h ∷ found.right) place) (left_true (covers h place) (is_covered found.right place) (in_range h place (omega arith) over)))
      away)
      (λ le. either (cases_lt (hole_end f.hole) place) (λ less. less) (λ ge. absurd (ne (omega arith))))

  seen_chain : (place : ℕ) → hole_end f.hole < place → Chain size₁ 0 seen place
  seen_chain place lt = let parts = found_chains in chain_append size₁ 0 found.left f.hole.place (h ∷ []) place parts.0 (parts.1, omega arith, omega arith)

  pub front_touching : (place : ℕ) → hole_end f.hole ≡ place → IsFromOn place f.hole.next → IsFront words first place (record { before = f.before; from = f.hole.place; next = f.hole.next })
  front_touching place e late = record {
    left = found.left;
    mid = h ∷ [];
    right = found.right;
    holes = found.holes;
    before = found.before;
    next = found.next;
    chain = found_chains.0;
    low = omega arith;
    unit = found_chains.1.place;
    behind = late;
    all = same_range f.hole.place place h refl (sym e);
  }

  pub front_apart : (place : ℕ) → f.hole.place < place → in_rest words place ≡ false → (hole_end f.hole ≡ place → ⊥) → place % 4 ≡ 0 → IsFromOn place f.hole.next
      → IsFront words first place (record { before = Some f.hole.place; from = place; next = f.hole.next })
  front_apart place lt away ne unit late = record {
    left = seen;
    mid = [];
    right = found.right;
    holes = seen_holes;
    before = sym (last_append None found.left (h ∷ []));
    next = found.next;
    chain = seen_chain place (ends_before place lt away ne);
    low = omega arith;
    unit = unit;
    behind = late;
    all = none_in place;
  }

  -- the next hole begins behind words that are taken
  pub next_behind : (place end : ℕ) → place ≤ end → hole_end f.hole ≤ end → ((k : ℕ) → hole_end f.hole ≤ k → k < end → in_rest words k ≡ false) → IsFromOn place f.hole.next
  next_behind place end le after taken =
      let last = hole_end f.hole in
      subst (IsFromOn place) (sym found.next)
      (earlier place end (first_place found.right None) le
      (beyond words first seen found.right last end seen_holes (earlier last (last + 1) (first_place found.right None) (omega arith) (first_from size₁ (last + 1) found.right (size₁ + 1) found_chains.2)) taken))

  pub free_before : (place : ℕ) → hole_end f.hole ≡ place → IsFreeFrom (in_rest words) place f.hole.place
  free_before place e = subst (λ p. IsFreeFrom (in_rest words) p f.hole.place) e (hole_before words first found.left h found.right found.holes)

  pub taken_before : (place : ℕ) → f.hole.place < place → place ≤ size₁ → in_rest words place ≡ false → (hole_end f.hole ≡ place → ⊥) → IsFromOn place f.hole.next
      → IsFreeFrom (in_rest words) place place
  taken_before place lt inside away ne late =
      nothing_before words first seen found.right seen_holes place (seen_chain place (ends_before place lt away ne))
      (chain_from size₁ (hole_end f.hole + 1) found.right (size₁ + 1) place found_chains.2 (omega arith) (subst (IsFromOn place) found.next late))

module _ (words : Slots) (first : Option ℕ) (has : HasHoles words first) (place : ℕ) (late : IsFromOn place first) where
  abbrev size₂ : ℕ
  size₂ = length words

  pub front_first : place % 4 ≡ 0 → IsFront words first place (record { before = None; from = place; next = first })
  front_first unit = record {
    left = [];
    mid = [];
    right = has.0;
    holes = has.1;
    before = refl;
    next = has.1.start;
    chain = omega arith;
    low = omega arith;
    unit = unit;
    behind = late;
    all = none_in place;
  }

  pub taken_before_all : place ≤ size₂ → IsFreeFrom (in_rest words) place place
  taken_before_all inside =
      nothing_before words first [] has.0 has.1 place (omega arith)
      (chain_from size₂ 0 has.0 (size₂ + 1) place has.1.chain (omega arith) (subst (IsFromOn place) has.1.start late))

-- behind a block that was taken out of the end of a hole
module _ (words : Slots) (first : Option ℕ) (len : ℕ) (fit : Fit) (is : IsCarved words first len fit) (low : fit.found.hole.place ≤ fit.place) (end : fit.place + len ≡ hole_end fit.found.hole)
    (unit : fit.found.hole.place % 4 ≡ 0) (at : fit.place % 4 ≡ 0) (inside : fit.place ≤ length words) where
  abbrev begin : ℕ
  begin = fit.found.hole.place

  abbrev mid : List Range
  mid = between begin fit.place

  carved : AreHoles words first ((is.left ++ mid) ++ is.right)
  carved =
      subst (AreHoles words first) (sym (append_assoc is.left mid is.right))
      (subst (λ hs. AreHoles words first (is.left ++ (hs ++ is.right))) (append-nil mid)
      (subst (λ hs. AreHoles words first (is.left ++ ((mid ++ hs) ++ is.right))) (none_between (fit.place + len) (hole_end fit.found.hole) (omega arith)) is.holes))

  pub front_behind : (place : ℕ) → fit.place < place → place % 4 ≡ 0 → IsFromOn place fit.found.hole.next
      → IsFront words first place (record { before = last_place fit.found.before mid; from = place; next = fit.found.hole.next })
  front_behind place lt multiple late = record {
    left = is.left ++ mid;
    mid = [];
    right = is.right;
    holes = carved;
    before = ap (λ last. last_place last mid) is.before ∙ sym (last_append None is.left mid);
    next = is.next;
    chain = to_higher (length words) 0 (is.left ++ mid) (fit.place + 1) place (omega arith)
        (chain_append (length words) 0 is.left begin mid (fit.place + 1) is.chain (between_chain (length words) begin fit.place low unit at inside));
    low = omega arith;
    unit = multiple;
    behind = late;
    all = none_in place;
  }

-- whether the next hole is at the place
pub is_next : (next : Option ℕ) (place : ℕ) → option_eq eqb next (Some place) ≡ true → next ≡ Some place
is_next None place e = cc
is_next (Some p) place e = ap (λ q. Some q) (eqb-true p place e)

pub is_not_next : (next : Option ℕ) (place : ℕ) → option_eq eqb next (Some place) ≡ false → next ≡ Some place → ⊥
is_not_next next place e same =
    let equal : option_eq eqb (Some place) (Some place) ≡ true = eq-eqb place place refl in
    clash (option_eq eqb (Some place) (Some place)) equal (subst (λ n. option_eq eqb n (Some place) ≡ false) same e)
