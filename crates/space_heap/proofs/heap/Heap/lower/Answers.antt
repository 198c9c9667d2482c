-- The block goes to the start of the free range before it, and the words that it leaves are free.
use Rattle.std.proofs.Common.{◌≡◌, ◌^◌, min, ℕ, ◌<◌, ◌-◌, ◌+◌, ◌%◌, ◌≤◌, ◌++◌, ◌∷◌, List, length, Bool, false, Option, sym, subst, refl, ap, arith, ◌∙◌}
use Rattle.space_raw.specs.Span.{Scattered, Span}
use Rattle.std.specs.Prelude.{ℤ, if◌then◌else◌, ◌==◌}
use Rattle.std.proofs.lemmas.Grind.{common_steps}
use Rattle.std.proofs.lemmas.Bool.{cases_lt}
use Rattle.relocate.specs.Places.{Range, covers, end_of}
use Rattle.relocate.proofs.RangeTests.{either, both_false, in_range}
use Rattle.mem_rec.specs.declared.TheConstants.{LEAST_ALIGNMENT}
use Rattle.space_heap.specs.Maps.{HeapState, Holds, IsBlock, range_of}
use Rattle.space_heap.specs.declared.find.Fit.{Fit}
use Rattle.space_heap.specs.declared.holes.Front.{Front}
use Rattle.space_heap.specs.Holes.{AreParts, IsCarved, IsFit, IsFront, IsTaken, between, hole_end, in_rest, last_place}
use Rattle.space_heap.proofs.Ends.{found_chains, front_behind, next_behind}
use Rattle.space_heap.proofs.Counts.{there, there_less}
use Rattle.space_heap.proofs.MapLemmas.{agree, same_marks, moved_blocks, moved_agrees}
use Rattle.space_heap.proofs.PlaceLemmas.{lowered, not_lowered}
use Rattle.space_heap.proofs.heap.Heap.lower.Given.{Over}
use Rattle.space_heap.proofs.heap.Heap.lower.Goals.{After-put_behind}
use Rattle.space_heap.proofs.heap.Heap.lower.Goals as goal

pub returns-in-None-clause-place : goal.returns-in-None-clause-place
returns-in-None-clause-place g c =
    let heap = c.self.inside in let slots = heap.rest.slots in let words = heap.region.size in let r = range_of c.args.piece in
    λ before after holds.
    let map = subst (λ (v : HeapState). Holds v (before ++ r ∷ after)) (sym c.self.view_is) holds in
    let same = agree words slots (before ++ r ∷ after) c.self.invariant.long map.free in
    let place = c.in-None.ensures.place in
    ap (λ (s : Span). s.place) c.gap_before.ensures.same.1 ∙ not_lowered words before after r (in_rest slots) place.0 map.placed same place.1 c.args.align place.2

-- the words that the block leaves come behind it, and it behind what is left of the hole
module _ (old new : List (Option ℤ)) (first first' : Option ℕ) (r : Range) (fit : Fit) (n : ℕ) (block : IsBlock (length old) r) (taken : IsTaken old r)
    (lt : fit.place < r.place) (activating : hole_end fit.found.hole ≡ r.place) (is : IsFit old first (r.place - fit.place) fit)
    (long : length new ≡ length old) (wide : fit.place + n ≡ r.place) (carved : IsCarved new first' n fit) where
  abbrev front_from : ℕ → Front
  front_from place = record { before = last_place fit.found.before (between fit.found.hole.place fit.place); from = place; next = fit.found.hole.next }

  left_front : (place from : ℕ) (front : Front) → place ≡ fit.place + r.size → from ≡ place → front ≡ front_from from → IsFront new first' place front
  left_front place from front at same is_from =
      let hole = (found_chains old first fit.found is.found).1 in let low = is.low in let unit = is.unit in let size = block.size in let some = block.some in let inside = block.inside in
      subst (IsFront new first' place) (sym (is_from ∙ ap front_from same))
      (front_behind new first' n fit carved low (omega arith) hole.place unit (omega arith) place (omega arith) (omega arith)
      (next_behind old first fit.found is.found place (end_of r) (omega arith) (omega arith) (λ k low to. taken k (omega arith) to)))

pub put_behind-requires-clause-front : goal.put_behind-requires-clause-front
put_behind-requires-clause-front g c =
    let r = range_of c.args.piece in let fit = c.in-Some.fit in let told = c.in-Some.ensures.found in let same = c.gap_before.ensures.same in let moved = c.slide-block.ensures in
    let block = subst (λ n. IsBlock n r) (sym (c.self.invariant.long ∙ ap (λ (v : HeapState). v.region.size) c.self.view_is)) c.requires.block in
    let long = c.carve-gap.ensures.rest.1 ∙ ap (λ (t : Scattered). length t.slots) same.0 in
    let at : c.place.result ≡ r.place = c.place.ensures.value ∙ ap (λ (t : Span). t.place) same.1 in let lt = told.0 in
    let words : length c.slide-block.result.0.words ≡ r.size = ap length moved.block.2 ∙ ap (λ (t : Span). length t.words) same.1 in
    let gap = c.carve-gap.ensures.block.1 in let hole = moved.hole.1 in let as_long = ap (λ (t : Span). length t.words) same.1 in
    left_front c.self.inside.rest.slots c.carve-gap.new.rest.slots c.self.inside.first c.carve-gap.new.first r fit (c.place.result - fit.place)
    block c.gap_before.ensures.taken told.0 told.1 told.2 long (omega arith) c.carve-gap.ensures.holes
    c.slide-block.result.1.place c.place-end.result c.behind-front.result (omega arith) c.place-end.ensures.value c.behind-front.ensures

-- the words between the hole's place and the block are some, and a multiple of 4
gap_words : {words place from at : ℕ} → place < from → words ≡ at - place → at ≡ from → from % LEAST_ALIGNMENT ≡ 0 → place % LEAST_ALIGNMENT ≡ 0 → (0 < words) × (words % LEAST_ALIGNMENT ≡ 0)
gap_words low is same at from = (omega arith, omega arith)

pub carve-gap-requires-clause-words : goal.carve-gap-requires-clause-words
carve-gap-requires-clause-words g c =
    let found = c.in-Some.ensures.found in let same = ap (λ (s : Span). s.place) c.gap_before.ensures.same.1 in
    gap_words found.0 refl (c.place.ensures.value ∙ same) c.requires.block.place found.2.unit

pub put_behind-requires-clause-region : goal.put_behind-requires-clause-region
put_behind-requires-clause-region g c = c.slide-block.ensures.hole.0 ∙ c.carve-gap.ensures.block.0 ∙ sym c.carve-gap.ensures.rest.0

-- no word of what the block leaves is free: it lay in the gap or in the block
taken_behind : (old rest : ℕ → Bool) (gap r : Range) → AreParts old gap rest → ((k : ℕ) → r.place ≤ k → k < end_of r → old k ≡ false) → end_of gap ≡ r.place
    → (k : ℕ) → gap.place ≤ k → k < end_of r → rest k ≡ false
taken_behind old rest gap r parts taken meet k low high =
    either (cases_lt k r.place)
    (λ below. parts.apart k (in_range gap k low (omega arith)))
    (λ above. (both_false (covers gap k) (rest k) (sym (parts.all k) ∙ taken k above high)).1)

pub put_behind-requires-clause-taken : goal.put_behind-requires-clause-taken
put_behind-requires-clause-taken g c =
    let r = range_of c.args.piece in let same = c.gap_before.ensures.same in let gap = c.carve-gap.ensures.block in let moved = c.slide-block.ensures in
    let old = c.gap_before.new.rest.slots in let rest = c.carve-gap.new.rest.slots in
    let at = ap (λ (s : Span). s.place) same.1 in let asked = c.place.ensures.value in let less = c.in-Some.ensures.found.0 in
    let long = ap (λ (s : Span). length s.words) same.1 in let words = ap length moved.block.2 in let start = moved.hole.1 in let left = moved.hole.2 in let from = gap.1 in let size = gap.2 in
    let taken : (k : ℕ) → r.place ≤ k → k < end_of r → in_rest old k ≡ false = λ k low high. ap (λ (t : Scattered). in_rest t.slots k) same.0 ∙ c.gap_before.ensures.taken k low high in
    λ k low high. taken_behind (in_rest old) (in_rest rest) (range_of c.carve-gap.result) r c.carve-gap.ensures.parts taken (omega arith) k (omega arith) (omega arith)

-- the gap that is taken out, the block in its place, and what is behind it
module _ (g : Over) (c : After-put_behind g) where
  abbrev old : List (Option ℤ)
  old = c.self.inside.rest.slots

  abbrev rest : List (Option ℤ)
  rest = c.carve-gap.new.rest.slots

  abbrev new : List (Option ℤ)
  new = c.put_behind.new.rest.slots

  abbrev gap : Range
  gap = range_of c.carve-gap.result

  abbrev r : Range
  r = range_of c.args.piece

  abbrev s : Range
  s = range_of c.slide-block.result.0

  abbrev behind : Range
  behind = range_of c.slide-block.result.1

  kept : c.gap_before.new.rest.slots ≡ old
  kept = ap (λ (t : Scattered). t.slots) c.gap_before.ensures.same.0

  here : c.gap_before.new.piece.place ≡ r.place
  here = ap (λ (t : Span). t.place) c.gap_before.ensures.same.1

  as_long : length c.gap_before.new.piece.words ≡ r.size
  as_long = ap (λ (t : Span). length t.words) c.gap_before.ensures.same.1

  start : gap.place ≡ s.place
  start = sym c.slide-block.ensures.block.1

  meeting : gap.place + gap.size ≡ r.place
  meeting = let at = c.carve-gap.ensures.block.1 in let long = c.carve-gap.ensures.block.2 in let asked = c.place.ensures.value in let same = here in let less = c.in-Some.ensures.found.0 in omega arith

  size : s.size ≡ r.size
  size = ap length c.slide-block.ensures.block.2 ∙ as_long

  next : behind.place ≡ s.place + s.size
  next = let at = c.slide-block.ensures.hole.1 in let same = as_long in let long = size in let from = start in omega arith

  left : behind.size ≡ gap.size
  left = c.slide-block.ensures.hole.2

  end : behind.place + behind.size ≡ r.place + r.size
  end = let from = start in let meet = meeting in let long = size in let at = next in let same = left in omega arith

  out : AreParts (in_rest old) gap (in_rest rest)
  out = subst (λ (ws : List (Option ℤ)). AreParts (in_rest ws) gap (in_rest rest)) kept c.carve-gap.ensures.parts

  back : AreParts (in_rest new) behind (in_rest rest)
  back = c.put_behind.ensures.parts

  inside : r.place + r.size ≤ length old
  inside = let last = c.requires.block.inside in let long = c.self.invariant.long in let owner = ap (λ (v : HeapState). v.region.size) c.self.view_is in omega arith

  rest_long : length rest ≡ length old
  rest_long = c.carve-gap.ensures.rest.1 ∙ ap length kept

  new_long : length new ≡ length old
  new_long = c.put_behind.ensures.rest.1 ∙ rest_long

  as_many : there new ≡ there old
  as_many =
      let last = inside in let meet = meeting in let stop = end in let long = new_long in let same = left in let short = rest_long in let some = c.requires.block.some in
      let without_gap = there_less old rest gap rest_long (omega arith) out in
      let with_behind = there_less new rest behind (rest_long ∙ sym new_long) (omega arith) back in omega arith

  is_block : IsBlock (length old) s
  is_block = let block = c.requires.block in let some = block.some in let long = size in let last = inside in let from = start in let meet = meeting in record {
    some = omega arith;
    place = ap (λ n. n % 4) (sym start ∙ c.carve-gap.ensures.block.1) ∙ c.in-Some.ensures.found.2.unit;
    size = ap (λ n. n % 4) size ∙ block.size;
    inside = omega arith;
  }

pub invariant_of-self : goal.invariant_of-self
invariant_of-self g c = let d = (goal.at.invariant_of-self g c).After-put_behind in record {
  owner = c.put_behind.ensures.rest.0 ∙ c.carve-gap.ensures.rest.0 ∙ ap (λ (t : Scattered). t.region) c.gap_before.ensures.same.0 ∙ c.self.invariant.owner;
  same_size = c.self.invariant.same_size;
  long = new_long g d ∙ c.self.invariant.long;
  holes = c.put_behind.ensures.holes;
  counted = c.self.invariant.counted ∙ sym (as_many g d);
}

pub returns-in-Some-clause-place : goal.returns-in-Some-clause-place
returns-in-Some-clause-place g c =
    let heap = c.self.inside in let slots = heap.rest.slots in let words = heap.region.size in let r = range_of c.args.piece in
    λ before after holds.
    let map = subst (λ (v : HeapState). Holds v (before ++ r ∷ after)) (sym c.self.view_is) holds in
    let same = agree words slots (before ++ r ∷ after) c.self.invariant.long map.free in
    let place = c.in-Some.ensures.place in let found = c.in-Some.ensures.found in
    c.slide-block.ensures.block.1 ∙ c.carve-gap.ensures.block.1
    ∙ lowered words before after r (in_rest slots) place.0 map.placed same place.1 c.args.align c.in-Some.fit.place place.2 found.0

pub returns-in-Some-clause-taken : goal.returns-in-Some-clause-taken
returns-in-Some-clause-taken g c =
    let d = (goal.at.returns-in-Some-clause-taken g c).After-put_behind in
    let words = c.self.inside.region.size in let long = c.self.invariant.long in
    let block = subst (λ n. IsBlock n (s g d)) long (is_block g d) in
    λ before after holds.
    let map = subst (λ (v : HeapState). Holds v (before ++ r g d ∷ after)) (sym c.self.view_is) holds in
    let same = agree words (old g d) (before ++ r g d ∷ after) long map.free in
    record {
      placed = moved_blocks words before after (in_rest (old g d)) (in_rest (rest g d)) (in_rest (new g d)) (gap g d) (behind g d) (r g d) (s g d) (out g d) (back g d) (start g d) (meeting g d) (size g d) (next g d) (end g d) map.placed same block;
      free = same_marks words (new g d) (before ++ s g d ∷ after) (new_long g d ∙ long)
          (moved_agrees words before after (in_rest (old g d)) (in_rest (rest g d)) (in_rest (new g d)) (gap g d) (behind g d) (r g d) (s g d) (out g d) (back g d) (start g d) (meeting g d) (size g d) (next g d) (end g d) map.placed same block);
    }

-- what was moved is counted once
moved_words : {result was old len words place from : ℕ} → result ≡ min (was + len) (2 ^ 64 - 1) → was ≡ old → len ≡ words → place < from
    → result ≡ min (old + (if place == from then 0 else words)) (2 ^ 64 - 1)
moved_words sum same long low = grind (arith, common_steps)

pub returns-in-Some-clause-slid : goal.returns-in-Some-clause-slid
returns-in-Some-clause-slid g c =
    let was = ap (λ (v : HeapState). v.slid) c.self.view_is in
    let long : c.from.result ≡ length c.args.piece.words = c.from.ensures ∙ c.len-len.ensures.value ∙ as_long g (goal.at.returns-in-Some-clause-slid g c).After-put_behind in
    let low : c.slide-block.result.0.place < c.args.piece.place =
    let at = c.slide-block.ensures.block.1 ∙ c.carve-gap.ensures.block.1 in let less = c.in-Some.ensures.found.0 in omega arith in
    moved_words c.saturating_add-self-inside.ensures was long low
