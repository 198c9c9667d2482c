-- A block that leaves a hole or becomes one, with the holes around it.
use Rattle.std.proofs.Common.{◌≡◌, ℕ, ◌+◌, ◌-◌, ◌%◌, ◌<◌, ◌≤◌, ◌⊎◌, Bool, true, false, ◌||◌, cond, List, [], ◌∷◌, ◌++◌, length, inl, inr, refl, ap, sym, ◌∙◌, subst, arith, Option, Some, None}
use Rattle.std.proofs.lemmas.Bool.{cases_lt, ltb-true}
use Rattle.std.specs.Prelude.{ℤ, is_some, IfSome, nat_lt}
use Rattle.space_raw.specs.Slots.{IsRun, without}
use Rattle.space_raw.proofs.Slots.{without_long}
use Rattle.space_heap.specs.declared.hole.Hole.{Hole}
use Rattle.space_heap.specs.declared.find.Fit.{Fit}
use Rattle.relocate.specs.Places.{Range, covers, end_of, is_covered, IsSpaceSize}
use Rattle.space_heap.specs.Maps.{IsBlock}
use Rattle.space_heap.specs.Holes.{AreParts, AreWritten, Chain, IsCarved, IsFit, IsLink, IsRelinked, Rewrites, between, first_place, hole_end, hole_range, in_rest, last_place, free_word}
use Rattle.relocate.proofs.RangeTests.{either, true_or_false, clash, when_not, one_true, left_true, right_true, or_false, false_left, same_test, is_in, in_range}
use Rattle.space_heap.proofs.Words.{carved_outside, carved_within, is_run}
use Rattle.space_heap.proofs.Chains.{chain_append, chain_low, covered_append, none_above, none_below, between_chain, between_covers, from_lower}
use Rattle.space_heap.proofs.Ends.{found_chains, is_link}
use Rattle.space_heap.proofs.Links.{first_append, four_words, last_inside, relinked_there, replaced_chain, replaced_first, replaced_written, some_last, written_append, written_parts, written_stays}

abbrev Slots : Type 0
Slots = List (Option ℤ)

-- the tag of the last hole before a place lies in it
last_covered : (size low : ℕ) (hs : List Range) (high q p : ℕ) → Chain size low hs high → last_place (Some q) hs ≡ Some p → (q ≡ p) ⊎ ((k : ℕ) → p ≤ k → k < p + 2 → is_covered hs k ≡ true)
last_covered size low [] high q p c e = let same : q ≡ p = cc in inl same
last_covered size low (h ∷ hs) high q p c e =
    let four = four_words size h c.0 in
    inr (either (last_covered size (end_of h + 1) hs high h.place p c.2 e)
    (λ at k from to. left_true (covers h k) (is_covered hs k) (in_range h k (omega arith) (omega arith)))
    (λ rest k from to. right_true (covers h k) (is_covered hs k) (rest k from to)))

-- the holes up to a place, where the last one's tag is there
pub tag_there : (size : ℕ) (left : List Range) (high : ℕ) (words : Slots) → Chain size 0 left high → high ≤ length words → ((k : ℕ) → is_covered left k ≡ true → in_rest words k ≡ true)
    → IfSome (last_place None left) (λ p. IsRun words p 2)
tag_there size [] high words c inside there = tt
tag_there size (h ∷ hs) high words c inside there =
    let four = four_words size h c.0 in let end : end_of h + 1 ≤ high = chain_low size (end_of h + 1) hs high c.2 in
    let last = some_last size h.place hs in let p = last.0 in
    let low : p + 3 < high = last_inside size h.place (end_of h + 1) hs high p (omega arith) c.2 last.1 in
    let covered : (k : ℕ) → p ≤ k → k < p + 2 → is_covered (h ∷ hs) k ≡ true = either (last_covered size (end_of h + 1) hs high h.place p c.2 last.1)
    (λ at k from to. left_true (covers h k) (is_covered hs k) (in_range h k (omega arith) (omega arith)))
    (λ rest k from to. right_true (covers h k) (is_covered hs k) (rest k from to)) in
    subst (λ before. IfSome before (λ p. IsRun words p 2)) (sym last.1) (is_run words p 2 (omega arith) (λ k from to. there k (covered k from to)))

-- a hole between two places, or what comes behind it
pub between_link : (size from to : ℕ) (next : Option ℕ) → size ≤ 65536 → from ≤ to → to ≤ size → from % 4 ≡ 0 → IsLink next → IsLink (first_place (between from to) next)
between_link size from to next most le inside unit link = by_test (nat_lt from to) refl
  where
    by_test : (b : Bool) → nat_lt from to ≡ b → IsLink (first_place (cond b (record { place = from; size = to - from } ∷ []) []) next)
    by_test true e = let lt = ltb-true from to e in (unit, omega arith)
    by_test false e = link

-- words are taken out of a hole
module _ (words : Slots) (first : Option ℕ) (len : ℕ) (fit : Fit) (is : IsFit words first len fit) (some : 0 < len) (unit : len % 4 ≡ 0) where
  abbrev place : ℕ
  place = fit.place

  abbrev hole : Hole
  hole = fit.found.hole

  abbrev h : Range
  h = hole_range hole

  abbrev left : List Range
  left = is.found.left

  abbrev right : List Range
  right = is.found.right

  abbrev size : ℕ
  size = length words

  abbrev end : ℕ
  end = place + len

  abbrev block : Range
  block = record { place = place; size = len }

  chains : Chain size 0 left hole.place × IsBlock size h × Chain size (hole_end hole + 1) right (size + 1)
  chains = found_chains words first fit.found is.found

  pub inside : hole_end hole ≤ size
  inside = chains.1.inside

  pub most : IsSpaceSize size
  most = is.found.holes.size

  pub free_there : (k : ℕ) → hole.place ≤ k → k < hole_end hole → in_rest words k ≡ true
  free_there k low high =
      is.found.holes.all k ∙ covered_append left (h ∷ right) k
      ∙ right_true (is_covered left k) (is_covered (h ∷ right) k) (left_true (covers h k) (is_covered right k) (in_range h k low high))

  pub can_carve : IsRun words place len
  can_carve = let in_size = inside in let low = is.low in let high = is.high in
      is_run words place len (omega arith) (λ k from to. free_there k (omega arith) (omega arith))

  pub units : (place % 4 ≡ 0) × (end % 4 ≡ 0) × (hole.place % 4 ≡ 0) × (hole_end hole % 4 ≡ 0)
  units = let at = is.unit in let start = chains.1.place in let long = chains.1.size in (at, omega arith, start, omega arith)

  pub next_link : IsLink hole.next
  next_link = subst IsLink (sym is.found.next) (is_link size (hole_end hole + 1) right (size + 1) most.0 chains.2)

  module _ (cut : Slots) (carved : cut ≡ without words place len) where
    fits : place + len ≤ length words
    fits = can_carve.1

    pub cut_long : length cut ≡ size
    cut_long = ap length carved ∙ without_long words place len fits

    cut_outside : (k : ℕ) → (k < place) ⊎ (end ≤ k) → free_word cut k ≡ free_word words k
    cut_outside k apart = ap (λ (ws : Slots). free_word ws k) carved ∙ carved_outside words place len fits k apart

    cut_within : (k : ℕ) → place ≤ k → k < end → in_rest cut k ≡ false
    cut_within k low high = ap (λ (ws : Slots). in_rest ws k) carved ∙ carved_within words place len fits k low high

    pub still_free : (k : ℕ) → hole.place ≤ k → k < hole_end hole → (k < place) ⊎ (end ≤ k) → in_rest cut k ≡ true
    still_free k low high apart = ap is_some (cut_outside k apart) ∙ free_there k low high

    module _ (to : ℕ) (ends : to ≡ hole_end hole) (two : Slots) (behind : Option ℕ) (rewrites : Rewrites cut end (to - end) two) (written : AreWritten two (between end to) hole.next)
        (starts : behind ≡ first_place (between end to) hole.next) where
      back : Rewrites cut end (hole_end hole - end) two
      back = subst (λ n. Rewrites cut end (n - end) two) ends rewrites

      back_written : AreWritten two (between end (hole_end hole)) hole.next
      back_written = subst (λ n. AreWritten two (between end n) hole.next) ends written

      back_start : behind ≡ first_place (between end (hole_end hole)) hole.next
      back_start = subst (λ n. behind ≡ first_place (between end n) hole.next) ends starts

      pub two_long : length two ≡ size
      two_long = back.long ∙ cut_long

      pub behind_link : IsLink behind
      behind_link = let high = is.high in
          subst IsLink (sym back_start) (between_link size end (hole_end hole) hole.next most.0 high inside units.1 next_link)

      pub two_free : (k : ℕ) → hole.place ≤ k → k < place → in_rest two k ≡ true
      two_free k low lt = let high = is.high in back.there k ∙ still_free k low (omega arith) (inl lt)

      module _ (three : Slots) (start : Option ℕ) (front : Rewrites two hole.place (place - hole.place) three) (front_written : AreWritten three (between hole.place place) behind)
          (front_start : start ≡ first_place (between hole.place place) behind) where
        pub three_long : length three ≡ size
        three_long = front.long ∙ two_long

        three_there : (k : ℕ) → in_rest three k ≡ in_rest cut k
        three_there k = front.there k ∙ back.there k

        pub start_link : IsLink start
        start_link = let low = is.low in let high = is.high in let in_size = inside in
            subst IsLink (sym front_start) (between_link size hole.place place behind most.0 low (omega arith) units.2 behind_link)

        others : (k : ℕ) → (k < hole.place) ⊎ (hole_end hole ≤ k) → free_word three k ≡ free_word words k
        others k apart = let low = is.low in let high = is.high in
            front.others k (either apart (λ lt. inl lt) (λ ge. inr (omega arith)))
            ∙ back.others k (either apart (λ lt. inl (omega arith)) (λ ge. inr (omega arith)))
            ∙ cut_outside k (either apart (λ lt. inl (omega arith)) (λ ge. inr (omega arith)))

        pub before_there : IfSome fit.found.before (λ p. IsRun three p 2)
        before_there =
            subst (λ before. IfSome before (λ p. IsRun three p 2)) (sym is.found.before)
            (let long = three_long in let in_size = inside in
            tag_there size left hole.place three chains.0 (omega arith) (λ k has. ap is_some (others k (inl (below k has)))
            ∙ is.found.holes.all k ∙ covered_append left (h ∷ right) k ∙ left_true (is_covered left k) (is_covered (h ∷ right) k) has))
          where
            below : (k : ℕ) → is_covered left k ≡ true → k < hole.place
            below k has = either (cases_lt k hole.place) (λ lt. lt) (λ ge. clash (is_covered left k) has (none_above size 0 left hole.place chains.0 k (omega arith)))

        abbrev mid : List Range
        mid = between hole.place place ++ between end (hole_end hole)

        mid_chain : Chain size hole.place mid (hole_end hole + 1)
        mid_chain = let low = is.low in let high = is.high in let in_size = inside in
            chain_append size hole.place (between hole.place place) (place + 1) (between end (hole_end hole)) (hole_end hole + 1)
            (between_chain size hole.place place low units.2 units.0 (omega arith))
            (from_lower size (place + 1) end (between end (hole_end hole)) (hole_end hole + 1) (omega arith)
            (between_chain size end (hole_end hole) high units.1 units.3 in_size))

        mid_written : AreWritten three mid (first_place right None)
        mid_written = let low = is.low in let high = is.high in let in_size = inside in
            subst (AreWritten three mid) is.found.next
            (written_append three (between hole.place place) (between end (hole_end hole)) hole.next
            (subst (AreWritten three (between hole.place place)) back_start front_written)
            (written_stays size end (between end (hole_end hole)) (hole_end hole + 1) hole.next two three hole.place (place - hole.place)
            (between_chain size end (hole_end hole) high units.1 units.3 in_size) back_written front.others (inr (omega arith))))

        mid_start : start ≡ first_place mid (first_place right None)
        mid_start =
            front_start ∙ ap (first_place (between hole.place place)) (back_start ∙ ap (first_place (between end (hole_end hole))) is.found.next)
            ∙ sym (first_append (between hole.place place) (between end (hole_end hole)) (first_place right None))

        module _ (new : Slots) (first' : Option ℕ) (linked : IsRelinked three first fit.found.before start new first') where
          relinked : IsRelinked three first (last_place None left) (first_place mid (first_place right None)) new first'
          relinked = subst (λ before. IsRelinked three first before (first_place mid (first_place right None)) new first') is.found.before
              (subst (λ to. IsRelinked three first fit.found.before to new first') mid_start linked)

          new_there : (length new ≡ length three) × ((k : ℕ) → in_rest new k ≡ in_rest three k)
          new_there = relinked_there size left (first_place mid (first_place right None)) three new first first' relinked

          pub new_long : length new ≡ size
          new_long = new_there.0 ∙ three_long

          there : (k : ℕ) → in_rest new k ≡ in_rest cut k
          there k = new_there.1 k ∙ three_there k

          old_written : AreWritten words left (first_place (h ∷ right) None) × AreWritten words (h ∷ right) None
          old_written = written_parts words left (h ∷ right) None is.found.holes.written

          old_first : first ≡ first_place left (first_place (h ∷ right) None)
          old_first = is.found.holes.start ∙ first_append left (h ∷ right) None

          pub block_parts : AreParts (in_rest words) block (in_rest new)
          block_parts = record {
            all = λ k. either (true_or_false (covers block k))
                (λ has. let both = is_in block k has in let from = both.0 in let to = both.1 in let low = is.low in let high = is.high in
                free_there k (omega arith) (omega arith) ∙ sym (left_true (covers block k) (in_rest new k) has))
                (λ hasnt. ap is_some (sym (cut_outside k (apart k hasnt))) ∙ sym (there k) ∙ sym (false_left (covers block k) (in_rest new k) hasnt));
            apart = λ k has. let both = is_in block k has in there k ∙ cut_within k both.0 both.1;
          }
            where
              apart : (k : ℕ) → covers block k ≡ false → (k < place) ⊎ (end ≤ k)
              apart k hasnt = either (cases_lt k place) (λ lt. inl lt) (λ ge. either (cases_lt k end) (λ lt. clash (covers block k) (in_range block k ge lt) hasnt) (λ past. inr past))

          abbrev holes : List Range
          holes = left ++ (mid ++ right)

          abbrev front_range : Range
          front_range = record { place = hole.place; size = place - hole.place }

          abbrev back_range : Range
          back_range = record { place = end; size = hole_end hole - end }

          front_covers : (k : ℕ) → is_covered (between hole.place place) k ≡ covers front_range k
          front_covers k = between_covers hole.place place k is.low

          back_covers : (k : ℕ) → is_covered (between end (hole_end hole)) k ≡ covers back_range k
          back_covers k = between_covers end (hole_end hole) k is.high

          mid_covers : (k : ℕ) → is_covered mid k ≡ (covers front_range k || covers back_range k)
          mid_covers k =
              covered_append (between hole.place place) (between end (hole_end hole)) k
              ∙ ap (λ b. b || is_covered (between end (hole_end hole)) k) (front_covers k) ∙ ap (λ b. covers front_range k || b) (back_covers k)

          holes_cover : (k : ℕ) → is_covered holes k ≡ (is_covered left k || (is_covered mid k || is_covered right k))
          holes_cover k = covered_append left (mid ++ right) k ∙ ap (λ b. is_covered left k || b) (covered_append mid right k)

          no_hole : (k : ℕ) → covers block k ≡ true → is_covered holes k ≡ false
          no_hole k has =
              let both = is_in block k has in let from = both.0 in let to = both.1 in let low = is.low in let high = is.high in
              holes_cover k ∙ or_false (is_covered left k) (is_covered mid k || is_covered right k)
              (none_above size 0 left hole.place chains.0 k (omega arith))
              (or_false (is_covered mid k) (is_covered right k)
              (mid_covers k ∙ or_false (covers front_range k) (covers back_range k)
              (when_not (covers front_range k) (λ f. let to = (is_in front_range k f).1 in omega arith))
              (when_not (covers back_range k) (λ b. let from = (is_in back_range k b).0 in omega arith)))
              (none_below size (hole_end hole + 1) right (size + 1) chains.2 k (omega arith)))

          hole_left : (k : ℕ) → (k < place) ⊎ (end ≤ k) → covers h k ≡ is_covered mid k
          hole_left k apart =
              let low = is.low in let high = is.high in
              same_test (covers h k) (covers front_range k || covers back_range k)
              (λ has. let both = is_in h k has in let from = both.0 in let to = both.1 in
              either apart
              (λ lt. left_true (covers front_range k) (covers back_range k) (in_range front_range k from (omega arith)))
              (λ ge. right_true (covers front_range k) (covers back_range k) (in_range back_range k ge (omega arith))))
              (λ one. either (one_true (covers front_range k) (covers back_range k) one)
              (λ f. let both = is_in front_range k f in let from = both.0 in let to = both.1 in in_range h k from (omega arith))
              (λ b. let both = is_in back_range k b in let from = both.0 in let to = both.1 in in_range h k (omega arith) (omega arith)))
              ∙ sym (mid_covers k)

          still_covered : (k : ℕ) → (k < place) ⊎ (end ≤ k) → in_rest new k ≡ is_covered holes k
          still_covered k apart =
              there k ∙ ap is_some (cut_outside k apart) ∙ is.found.holes.all k ∙ covered_append left (h ∷ right) k
              ∙ ap (λ b. is_covered left k || (b || is_covered right k)) (hole_left k apart) ∙ sym (holes_cover k)

          covered : (k : ℕ) → in_rest new k ≡ is_covered holes k
          covered k =
              either (cases_lt k place) (λ lt. still_covered k (inl lt))
              (λ ge. either (cases_lt k end)
              (λ lt. there k ∙ cut_within k ge lt ∙ sym (no_hole k (in_range block k ge lt)))
              (λ past. still_covered k (inr past)))

          pub carved_holes : IsCarved new first' len fit
          carved_holes = record {
            left = left;
            right = right;
            holes = record {
              size = subst IsSpaceSize (sym new_long) most;
              chain = subst (λ n. Chain n 0 holes (n + 1)) (sym new_long)
                  (replaced_chain size left mid right hole.place (hole_end hole) (first_place (h ∷ right) None) words three new first first' chains.0 mid_chain chains.2 old_written.0 old_written.1.1 old_first others mid_written relinked);
              all = covered;
              start = replaced_first size left mid right hole.place (hole_end hole) (first_place (h ∷ right) None) words three new first first' chains.0 mid_chain chains.2 old_written.0 old_written.1.1 old_first others mid_written relinked;
              written = replaced_written size left mid right hole.place (hole_end hole) (first_place (h ∷ right) None) words three new first first' chains.0 mid_chain chains.2 old_written.0 old_written.1.1 old_first others mid_written relinked;
            };
            before = is.found.before;
            next = is.found.next;
            chain = subst (λ n. Chain n 0 left hole.place) (sym new_long) chains.0;
          }
