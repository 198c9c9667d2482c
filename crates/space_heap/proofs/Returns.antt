-- A block that comes back is one hole with the holes that it touches.
use Rattle.std.proofs.Common.{◌≡◌, ℕ, ◌+◌, ◌-◌, ◌<◌, ◌≤◌, ◌⊎◌, Bool, true, false, ◌||◌, List, ◌++◌, length, inl, inr, ap, sym, ◌∙◌, subst, arith, Option, None, append_assoc}
use Rattle.std.proofs.lemmas.Bool.{cases_lt}
use Rattle.std.specs.Prelude.{ℤ, is_some, IfSome}
use Rattle.space_raw.specs.Slots.{IsRun, with_run}
use Rattle.space_raw.proofs.Slots.{with_long}
use Rattle.space_heap.specs.declared.holes.Front.{Front}
use Rattle.space_heap.specs.declared.holes.Back.{Back}
use Rattle.relocate.specs.Places.{Range, covers, end_of, is_covered, IsSpaceSize}
use Rattle.space_heap.specs.Maps.{IsBlock}
use Rattle.space_heap.specs.Holes.{AreHoles, AreParts, AreWritten, Chain, HasHoles, IsBack, IsFromOn, IsFront, IsLink, IsRelinked, IsTaken, LeadsTo, Rewrites, between, first_place, in_rest, last_place, free_word}
use Rattle.relocate.proofs.RangeTests.{either, true_or_false, clash, one_true, left_true, right_true, false_left, same_test, is_in, in_range}
use Rattle.space_heap.proofs.Words.{in_length, written_outside, written_there}
use Rattle.space_heap.proofs.Chains.{between_chain, between_covers, covered_append, none_above}
use Rattle.space_heap.proofs.Ends.{beyond, is_link}
use Rattle.space_heap.proofs.Links.{first_append, relinked_there, replaced_chain, replaced_first, replaced_written, written_parts}
use Rattle.space_heap.proofs.Mends.{between_link, tag_there}

abbrev Slots : Type 0
Slots = List (Option ℤ)

module _ (words : Slots) (first : Option ℕ) (b : Range) (block : IsBlock (length words) b) (away : IsTaken words b)
    (front : Front) (before : IsFront words first b.place front) where
  abbrev size : ℕ
  size = length words

  abbrev end : ℕ
  end = end_of b

  seen : AreHoles words first ((before.left ++ before.mid) ++ before.right)
  seen = subst (AreHoles words first) (sym (append_assoc before.left before.mid before.right)) before.holes

  -- the holes from the block's end on are those behind the ones that it touches
  pub leads : LeadsTo words front.next before.right
  leads = (first, before.left ++ before.mid, seen, before.next)

  pub from_end : IsFromOn end front.next
  from_end =
      subst (IsFromOn end) (sym before.next)
      (beyond words first (before.left ++ before.mid) before.right b.place end seen (subst (IsFromOn b.place) before.next before.behind) away)

  module _ (back : Back) (behind : IsBack words before.right end back) where
    abbrev from : ℕ
    from = front.from

    abbrev to : ℕ
    to = back.to

    abbrev left : List Range
    left = before.left

    abbrev others : List Range
    others = behind.others

    abbrev touched : List Range
    touched = before.mid ++ (behind.mid ++ others)

    holes : AreHoles words first (left ++ touched)
    holes = subst (λ hs. AreHoles words first (left ++ (before.mid ++ hs))) behind.holes before.holes

    abbrev whole : Range
    whole = record { place = from; size = to - from }

    abbrev front_range : Range
    front_range = record { place = from; size = b.place - from }

    abbrev back_range : Range
    back_range = record { place = end; size = to - end }

    pub order : from < to
    order = let some = block.some in let low = before.low in let high = behind.high in omega arith

    old_cover : (k : ℕ) → in_rest words k ≡ (is_covered left k || (covers front_range k || (covers back_range k || is_covered others k)))
    old_cover k =
        holes.all k ∙ covered_append left touched k
        ∙ ap (λ c. is_covered left k || c) (covered_append before.mid (behind.mid ++ others) k
        ∙ ap (λ c. is_covered before.mid k || c) (covered_append behind.mid others k)
        ∙ ap (λ c. c || (is_covered behind.mid k || is_covered others k)) (sym (before.all k))
        ∙ ap (λ c. covers front_range k || (c || is_covered others k)) (sym (behind.all k)))

    pub next_link : IsLink back.behind
    next_link = subst IsLink (sym behind.behind) (is_link size (to + 1) others (size + 1) holes.size.0 behind.chain)

    module _ (joined : Slots) (ws : List ℤ) (absorbed : joined ≡ with_run words b.place ws) (long : length ws ≡ b.size) where
      fits : b.place + length ws ≤ size
      fits = let inside = block.inside in omega arith

      pub joined_long : length joined ≡ size
      joined_long = ap length absorbed ∙ with_long words b.place ws fits

      joined_outside : (k : ℕ) → (k < b.place) ⊎ (end ≤ k) → free_word joined k ≡ free_word words k
      joined_outside k apart = ap (λ (xs : Slots). free_word xs k) absorbed ∙ written_outside words b.place ws fits k (either apart (λ lt. inl lt) (λ ge. inr (omega arith)))

      joined_within : (k : ℕ) → b.place ≤ k → k < end → in_rest joined k ≡ true
      joined_within k low high = ap (λ (xs : Slots). in_rest xs k) absorbed ∙ written_there words b.place ws fits k low (omega arith)

      pub order_joined : (from ≤ to) × (to ≤ length joined) × IsSpaceSize (length joined)
      order_joined = let lt = order in let inside = behind.inside in let same = joined_long in (omega arith, omega arith, subst IsSpaceSize (sym same) holes.size)

      pub joined_there : (k : ℕ) → from ≤ k → k < to → in_rest joined k ≡ true
      joined_there k low high =
          either (cases_lt k b.place)
          (λ lt. ap is_some (joined_outside k (inl lt)) ∙ old_cover k
          ∙ right_true (is_covered left k) (covers front_range k || (covers back_range k || is_covered others k))
          (left_true (covers front_range k) (covers back_range k || is_covered others k) (in_range front_range k low (omega arith))))
          (λ ge. either (cases_lt k end)
          (λ lt. joined_within k ge lt)
          (λ past. ap is_some (joined_outside k (inr past)) ∙ old_cover k
          ∙ right_true (is_covered left k) (covers front_range k || (covers back_range k || is_covered others k))
          (right_true (covers front_range k) (covers back_range k || is_covered others k)
          (left_true (covers back_range k) (is_covered others k) (in_range back_range k past (omega arith))))))

      module _ (cut : Slots) (start : Option ℕ) (rewrites : Rewrites joined from (to - from) cut) (written : AreWritten cut (between from to) back.behind)
          (starts : start ≡ first_place (between from to) back.behind) where
        there : (k : ℕ) → in_rest cut k ≡ in_rest joined k
        there k = rewrites.there k

        untouched : (k : ℕ) → (k < from) ⊎ (to ≤ k) → free_word cut k ≡ free_word words k
        untouched k apart = let low = before.low in let high = behind.high in
            rewrites.others k (either apart (λ lt. inl lt) (λ ge. inr (omega arith)))
            ∙ joined_outside k (either apart (λ lt. inl (omega arith)) (λ ge. inr (omega arith)))

        pub start_link : IsLink start
        start_link = let lt = order in
            subst IsLink (sym starts) (between_link size from to back.behind holes.size.0 (omega arith) behind.inside before.unit next_link)

        pub before_there : IfSome front.before (λ p. IsRun cut p 2)
        before_there =
            subst (λ last. IfSome last (λ p. IsRun cut p 2)) (sym before.before)
            (let long = rewrites.long in let same = joined_long in let low = before.low in let inside = block.inside in
            tag_there size left from cut before.chain (omega arith) (λ k has. ap is_some (untouched k (inl (below k has)))
            ∙ old_cover k ∙ left_true (is_covered left k) (covers front_range k || (covers back_range k || is_covered others k)) has))
          where
            below : (k : ℕ) → is_covered left k ≡ true → k < from
            below k has = either (cases_lt k from) (λ lt. lt) (λ ge. clash (is_covered left k) has (none_above size 0 left from before.chain k (omega arith)))

        abbrev mid : List Range
        mid = between from to

        mid_chain : Chain size from mid (to + 1)
        mid_chain = let lt = order in between_chain size from to (omega arith) before.unit behind.unit behind.inside

        mid_written : AreWritten cut mid (first_place others None)
        mid_written = subst (AreWritten cut mid) behind.behind written

        mid_start : start ≡ first_place mid (first_place others None)
        mid_start = starts ∙ ap (first_place mid) behind.behind

        left_written : AreWritten words left (first_place touched None) × AreWritten words touched None
        left_written = written_parts words left touched None holes.written

        others_written : AreWritten words others None
        others_written = (written_parts words behind.mid others None (written_parts words before.mid (behind.mid ++ others) None left_written.1).1).1

        left_start : first ≡ first_place left (first_place touched None)
        left_start = holes.start ∙ first_append left touched None

        module _ (new : Slots) (first' : Option ℕ) (linked : IsRelinked cut first front.before start new first') where
          relinked : IsRelinked cut first (last_place None left) (first_place mid (first_place others None)) new first'
          relinked = subst (λ last. IsRelinked cut first last (first_place mid (first_place others None)) new first') before.before
              (subst (λ next. IsRelinked cut first front.before next new first') mid_start linked)

          new_there : (length new ≡ length cut) × ((k : ℕ) → in_rest new k ≡ in_rest cut k)
          new_there = relinked_there size left (first_place mid (first_place others None)) cut new first first' relinked

          pub new_long : length new ≡ size
          new_long = new_there.0 ∙ rewrites.long ∙ joined_long

          in_new : (k : ℕ) → in_rest new k ≡ in_rest joined k
          in_new k = new_there.1 k ∙ there k

          apart : (k : ℕ) → covers b k ≡ false → (k < b.place) ⊎ (end ≤ k)
          apart k hasnt = either (cases_lt k b.place) (λ lt. inl lt) (λ ge. either (cases_lt k end) (λ lt. clash (covers b k) (in_range b k ge lt) hasnt) (λ past. inr past))

          pub block_parts : AreParts (in_rest new) b (in_rest words)
          block_parts = record {
            all = λ k. either (true_or_false (covers b k))
                (λ has. let both = is_in b k has in in_new k ∙ joined_within k both.0 both.1 ∙ sym (left_true (covers b k) (in_rest words k) has))
                (λ hasnt. in_new k ∙ ap is_some (joined_outside k (apart k hasnt)) ∙ sym (false_left (covers b k) (in_rest words k) hasnt));
            apart = λ k has. let both = is_in b k has in away k both.0 both.1;
          }

          abbrev hs : List Range
          hs = left ++ (mid ++ others)

          new_cover : (k : ℕ) → is_covered hs k ≡ (is_covered left k || (covers whole k || is_covered others k))
          new_cover k = let lt = order in
              covered_append left (mid ++ others) k
              ∙ ap (λ c. is_covered left k || c) (covered_append mid others k ∙ ap (λ c. c || is_covered others k) (between_covers from to k (omega arith)))

          -- outside the block the one hole has what the holes had that it touched
          grouped : (a c d e : Bool) → a ≡ (c || d) → (a || e) ≡ (c || (d || e))
          grouped a true d e same = ap (λ x. x || e) same
          grouped a false d e same = ap (λ x. x || e) same

          in_whole : (k : ℕ) → (k < b.place) ⊎ (end ≤ k) → covers whole k ≡ (covers front_range k || covers back_range k)
          in_whole k away = let low = before.low in let high = behind.high in
              same_test (covers whole k) (covers front_range k || covers back_range k)
              (λ has. let both = is_in whole k has in let start = both.0 in let stop = both.1 in
              either away
              (λ lt. left_true (covers front_range k) (covers back_range k) (in_range front_range k start (omega arith)))
              (λ ge. right_true (covers front_range k) (covers back_range k) (in_range back_range k ge (omega arith))))
              (λ one. either (one_true (covers front_range k) (covers back_range k) one)
              (λ f. let both = is_in front_range k f in let start = both.0 in let stop = both.1 in in_range whole k start (omega arith))
              (λ g. let both = is_in back_range k g in let start = both.0 in let stop = both.1 in in_range whole k (omega arith) (omega arith)))

          covered : (k : ℕ) → in_rest new k ≡ is_covered hs k
          covered k =
              either (true_or_false (covers b k))
              (λ has. let both = is_in b k has in let start = both.0 in let stop = both.1 in let low = before.low in let high = behind.high in
              in_new k ∙ joined_within k start stop
              ∙ sym (new_cover k ∙ right_true (is_covered left k) (covers whole k || is_covered others k)
              (left_true (covers whole k) (is_covered others k) (in_range whole k (omega arith) (omega arith)))))
              (λ hasnt. in_new k ∙ ap is_some (joined_outside k (apart k hasnt)) ∙ old_cover k
              ∙ ap (λ c. is_covered left k || c) (sym (grouped (covers whole k) (covers front_range k) (covers back_range k) (is_covered others k) (in_whole k (apart k hasnt))))
              ∙ sym (new_cover k))

          pub given_holes : HasHoles new first'
          given_holes = let lt = order in let behind_end : from ≤ to + 1 = omega arith in (
            hs,
            record {
              size = subst IsSpaceSize (sym new_long) holes.size;
              chain = subst (λ n. Chain n 0 hs (n + 1)) (sym new_long)
                  (replaced_chain size left mid others from to (first_place touched None) words cut new first first' before.chain mid_chain behind.chain left_written.0 others_written left_start untouched mid_written relinked);
              all = covered;
              start = replaced_first size left mid others from to (first_place touched None) words cut new first first' before.chain mid_chain behind.chain left_written.0 others_written left_start untouched mid_written relinked;
              written = replaced_written size left mid others from to (first_place touched None) words cut new first first' before.chain mid_chain behind.chain left_written.0 others_written left_start untouched mid_written relinked;
            },
          )

-- a space of free words is one hole
pub one_hole : (rest : Slots) (size : ℕ) (first : Option ℕ) → length rest ≡ size → IsSpaceSize size → ((k : ℕ) → k < size → in_rest rest k ≡ true) → AreWritten rest (between 0 size) None
    → first ≡ first_place (between 0 size) None → HasHoles rest first
one_hole rest size first long fits there written start = (
  between 0 size,
  record {
    size = subst IsSpaceSize (sym long) fits;
    chain = subst (λ n. Chain n 0 (between 0 size) (n + 1)) (sym long) (between_chain size 0 size (omega arith) (omega arith) fits.1 (omega arith));
    all = λ k. covered k ∙ sym (between_covers 0 size k (omega arith));
    start = start;
    written = written;
  },
)
  where
    covered : (k : ℕ) → in_rest rest k ≡ covers (record { place = 0; size = size - 0 }) k
    covered k = same_test (in_rest rest k) (covers (record { place = 0; size = size - 0 }) k)
        (λ is. let lt = in_length rest k is in in_range (record { place = 0; size = size - 0 }) k (omega arith) (omega arith))
        (λ has. let lt = (is_in (record { place = 0; size = size - 0 }) k has).1 in there k (omega arith))
