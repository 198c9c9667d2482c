-- Holes that lead one to the next: how the chain is read, and how a part of it is replaced.
use Rattle.std.proofs.Common.{◌≡◌, ℕ, ◌+◌, ◌-◌, ◌<◌, ◌≤◌, ◌⊎◌, List, [], ◌∷◌, ◌++◌, length, inl, inr, refl, ap, sym, ◌∙◌, subst, arith, Option, Some, None, append_assoc, append-nil}
use Rattle.std.specs.Prelude.{ℤ}
use Rattle.space_heap.specs.declared.hole.Hole.{Hole}
use Rattle.relocate.specs.Places.{Range, end_of}
use Rattle.space_heap.specs.Maps.{IsBlock}
use Rattle.space_heap.specs.Holes.{free_word, in_rest, link, IsLink, IsHole, IsWritten, IsSameBut, Rewrites, first_place, last_place, AreWritten, Chain, AreHoles, IsRelinked}
use Rattle.relocate.proofs.RangeTests.{either}
use Rattle.space_heap.proofs.Chains.{chain_low, chain_append, around}

abbrev Slots : Type 0
Slots = List (Option ℤ)

-- the hole that is written for a range
abbrev pub hole_of : Range → Option ℕ → Hole
hole_of h next = record { place = h.place; len = h.size; next = next }

pub first_append : (xs ys : List Range) (behind : Option ℕ) → first_place (xs ++ ys) behind ≡ first_place xs (first_place ys behind)
first_append [] ys behind = refl
first_append (x ∷ xs) ys behind = refl

pub last_append : (before : Option ℕ) (xs ys : List Range) → last_place before (xs ++ ys) ≡ last_place (last_place before xs) ys
last_append before [] ys = refl
last_append before (x ∷ xs) ys = last_append (Some x.place) xs ys

pub written_append : (ws : Slots) (xs ys : List Range) (behind : Option ℕ) → AreWritten ws xs (first_place ys behind) → AreWritten ws ys behind → AreWritten ws (xs ++ ys) behind
written_append ws [] ys behind a b = b
written_append ws (x ∷ xs) ys behind a b = (subst (λ next. IsWritten ws (hole_of x next)) (sym (first_append xs ys behind)) a.0, written_append ws xs ys behind a.1 b)

pub written_parts : (ws : Slots) (xs ys : List Range) (behind : Option ℕ) → AreWritten ws (xs ++ ys) behind → AreWritten ws xs (first_place ys behind) × AreWritten ws ys behind
written_parts ws [] ys behind a = (tt, a)
written_parts ws (x ∷ xs) ys behind a =
    let rest = written_parts ws xs ys behind a.1 in ((subst (λ next. IsWritten ws (hole_of x next)) (first_append xs ys behind) a.0, rest.0), rest.1)

-- a hole has a unit at least
pub four_words : (size : ℕ) (h : Range) → IsBlock size h → 4 ≤ h.size
four_words size h block = let some = block.some in let unit = block.size in omega arith

module _ (size : ℕ) where
  -- holes that lie apart from what is written stay as they are
  pub written_stays : (low : ℕ) (hs : List Range) (high : ℕ) (behind : Option ℕ) (old new : Slots) (p n : ℕ) → Chain size low hs high → AreWritten old hs behind
      → IsSameBut old p n new → (high ≤ p + 1) ⊎ (p + n ≤ low) → AreWritten new hs behind
  written_stays low [] high behind old new p n c a same apart = tt
  written_stays low (h ∷ hs) high behind old new p n c a same apart =
      let four = four_words size h c.0 in let from = c.1 in let end : end_of h + 1 ≤ high = chain_low size (end_of h + 1) hs high c.2 in (
        record {
          len = same h.place (either apart (λ le. inl (omega arith)) (λ le. inr (omega arith))) ∙ a.0.len;
          next = same (h.place + 1) (either apart (λ le. inl (omega arith)) (λ le. inr (omega arith))) ∙ a.0.next;
        },
        written_stays (end_of h + 1) hs high behind old new p n c.2 a.1 same (either apart (λ le. inl le) (λ le. inr (omega arith))),
      )

  last_from : (q : ℕ) (low : ℕ) (hs : List Range) (high p : ℕ) → Chain size low hs high → last_place (Some q) hs ≡ Some p → (q ≡ p) ⊎ (low ≤ p)
  last_from q low [] high p c e = let same : q ≡ p = cc in inl same
  last_from q low (h ∷ hs) high p c e =
      let from = c.1 in
      either (last_from h.place (end_of h + 1) hs high p c.2 e) (λ same. inr (omega arith)) (λ le. inr (omega arith))

  pub last_inside : (q : ℕ) (low : ℕ) (hs : List Range) (high p : ℕ) → q + 3 < high → Chain size low hs high → last_place (Some q) hs ≡ Some p → p + 3 < high
  last_inside q low [] high p lt c e = let same : q ≡ p = cc in omega arith
  last_inside q low (h ∷ hs) high p lt c e =
      let four = four_words size h c.0 in let end : end_of h + 1 ≤ high = chain_low size (end_of h + 1) hs high c.2 in
      last_inside h.place (end_of h + 1) hs high p (omega arith) c.2 e

  pub some_last : (q : ℕ) (hs : List Range) → (p : ℕ) × (last_place (Some q) hs ≡ Some p)
  some_last q [] = (q, refl)
  some_last q (h ∷ hs) = some_last h.place hs

  -- the last of the holes leads elsewhere
  relinked_last : (low : ℕ) (h : Range) (hs : List Range) (high : ℕ) (behind next : Option ℕ) (old new : Slots) (p : ℕ) → Chain size low (h ∷ hs) high → AreWritten old (h ∷ hs) behind
      → last_place (Some h.place) hs ≡ Some p → IsSameBut old (p + 1) 1 new → free_word new (p + 1) ≡ Some (link next) → AreWritten new (h ∷ hs) next
  relinked_last low h [] high behind next old new p c a e same now =
      let at : h.place ≡ p = cc in (
        record { len = same h.place (inl (omega arith)) ∙ a.0.len; next = ap (λ k. free_word new (k + 1)) at ∙ now },
        tt,
      )
  relinked_last low h (i ∷ is) high behind next old new p c a e same now =
      let four = four_words size h c.0 in let from = c.2.1 in
      let late : end_of h + 1 ≤ p = either (last_from i.place (end_of i + 1) is high p c.2.2 e) (λ at. omega arith) (λ le. omega arith) in (
        record {
          len = same h.place (inl (omega arith)) ∙ a.0.len;
          next = same (h.place + 1) (inl (omega arith)) ∙ a.0.next;
        },
        relinked_last (end_of h + 1) i is high behind next old new p c.2 a.1 e same now,
      )

  -- what a change of the link at the end of `left` does
  at_last : (h : Range) (hs : List Range) (next : Option ℕ) (old new : Slots) (first first' : Option ℕ) → IsRelinked old first (last_place (Some h.place) hs) next new first'
      → (p : ℕ) × (last_place (Some h.place) hs ≡ Some p) × (Rewrites old (p + 1) 1 new × (free_word new (p + 1) ≡ Some (link next)) × (first' ≡ first))
  at_last h hs next old new first first' is =
      let last = some_last h.place hs in (last.0, last.1, subst (λ before. IsRelinked old first before next new first') last.1 is)

  pub relinked_there : (left : List Range) (next : Option ℕ) (old new : Slots) (first first' : Option ℕ) → IsRelinked old first (last_place None left) next new first'
      → (length new ≡ length old) × ((k : ℕ) → in_rest new k ≡ in_rest old k)
  relinked_there [] next old new first first' is = (ap length is.0, λ k. ap (λ (ws : Slots). in_rest ws k) is.0)
  relinked_there (h ∷ hs) next old new first first' is = let last = at_last h hs next old new first first' is in (last.2.0.long, last.2.0.there)

  pub relinked_others : (left : List Range) (high : ℕ) (next : Option ℕ) (old new : Slots) (first first' : Option ℕ) → Chain size 0 left high
      → IsRelinked old first (last_place None left) next new first' → (k : ℕ) → high ≤ k + 1 → free_word new k ≡ free_word old k
  relinked_others [] high next old new first first' c is k le = ap (λ (ws : Slots). free_word ws k) is.0
  relinked_others (h ∷ hs) high next old new first first' c is k le =
      let last = at_last h hs next old new first first' is in let four = four_words size h c.0 in
      let end : end_of h + 1 ≤ high = chain_low size (end_of h + 1) hs high c.2 in
      let inside = last_inside h.place (end_of h + 1) hs high last.0 (omega arith) c.2 last.1 in last.2.0.others k (inr (omega arith))

  pub relinked_left : (left : List Range) (high : ℕ) (behind next : Option ℕ) (old new : Slots) (first first' : Option ℕ) → Chain size 0 left high → AreWritten old left behind
      → first ≡ first_place left behind → IsRelinked old first (last_place None left) next new first' → AreWritten new left next × (first' ≡ first_place left next)
  relinked_left [] high behind next old new first first' c a e is = (tt, is.1)
  relinked_left (h ∷ hs) high behind next old new first first' c a e is =
      let last = at_last h hs next old new first first' is in
      (relinked_last 0 h hs high behind next old new last.0 c a last.1 last.2.0.others last.2.1, last.2.2 ∙ e)

  -- holes between two places are replaced: those before them lead to the new ones
  module _ (left mid right : List Range) (low high : ℕ) (behind : Option ℕ) (old cut new : Slots) (first first' : Option ℕ)
      (before : Chain size 0 left low) (middle : Chain size low mid (high + 1)) (after : Chain size (high + 1) right (size + 1))
      (left_written : AreWritten old left behind) (right_written : AreWritten old right None) (start : first ≡ first_place left behind)
      (others : (k : ℕ) → (k < low) ⊎ (high ≤ k) → free_word cut k ≡ free_word old k) (mid_written : AreWritten cut mid (first_place right None))
      (linked : IsRelinked cut first (last_place None left) (first_place mid (first_place right None)) new first') where
    ordered : low ≤ high + 1
    ordered = chain_low size low mid (high + 1) middle

    same_but : IsSameBut old low (high - low) cut
    same_but k (inl lt) = others k (inl lt)
    same_but k (inr le) = others k (inr (omega arith))

    abbrev next : Option ℕ
    next = first_place mid (first_place right None)

    at_left : AreWritten new left next × (first' ≡ first_place left next)
    at_left = relinked_left left low behind next cut new first first' before
        (written_stays 0 left low behind old cut low (high - low) before left_written same_but (inl (omega arith))) start linked

    apart : IsSameBut cut 0 (low - 1) new
    apart k (inl lt) = absurd (omega arith)
    apart k (inr le) = relinked_others left low next cut new first first' before linked k (omega arith)

    at_mid : AreWritten new mid (first_place right None)
    at_mid = written_stays low mid (high + 1) (first_place right None) cut new 0 (low - 1) middle mid_written apart (inr (omega arith))

    at_right : AreWritten new right None
    at_right = let le = ordered in
        written_stays (high + 1) right (size + 1) None cut new 0 (low - 1) after
        (written_stays (high + 1) right (size + 1) None old cut low (high - low) after right_written same_but (inr (omega arith))) apart (inr (omega arith))

    pub replaced_chain : Chain size 0 (left ++ (mid ++ right)) (size + 1)
    replaced_chain = chain_append size 0 left low (mid ++ right) (size + 1) before (chain_append size low mid (high + 1) right (size + 1) middle after)

    pub replaced_written : AreWritten new (left ++ (mid ++ right)) None
    replaced_written =
        written_append new left (mid ++ right) None (subst (λ to. AreWritten new left to) (sym (first_append mid right None)) at_left.0)
        (written_append new mid right None at_mid at_right)

    pub replaced_first : first' ≡ first_place (left ++ (mid ++ right)) None
    replaced_first = at_left.1 ∙ sym (first_append left (mid ++ right) None ∙ ap (first_place left) (first_append mid right None))

-- the hole of a range among the holes, as it is read
pub read_hole : (words : Slots) (first : Option ℕ) (left : List Range) (h : Range) (right : List Range) → AreHoles words first (left ++ h ∷ right)
    → IsHole (hole_of h (first_place right None)) × IsWritten words (hole_of h (first_place right None))
read_hole words first left h right holes =
    let size = length words in let parts = around size 0 left h right (size + 1) holes.chain in let block = parts.1 in let most = holes.size.0 in
    let inside = block.inside in (
      record {
        block = record { some = block.some; place = block.place; size = block.size; inside = omega arith };
        next = is_link right parts.2;
      },
      (written_parts words left (h ∷ right) None holes.written).1.0,
    )
  where
    is_link : (hs : List Range) → Chain (length words) (end_of h + 1) hs (length words + 1) → IsLink (first_place hs None)
    is_link [] c = tt
    is_link (i ∷ is) c = let some = c.0.some in let inside = c.0.inside in let most = holes.size.0 in (c.0.place, omega arith)

-- `left` are the holes that were seen, and `next` leads to the others
pub record IsAt (words : Slots) (first : Option ℕ) (left : List Range) (before next : Option ℕ) : Type 0 where
  pub right : List Range
  pub holes : AreHoles words first (left ++ right)
  pub seen : before ≡ last_place None left
  pub ahead : next ≡ first_place right None

-- there is a hole at a place, with others behind it
pub record IsNextHole (words : Slots) (first : Option ℕ) (left : List Range) (before : Option ℕ) (at : ℕ) : Type 0 where
  pub hole : Range
  pub others : List Range
  pub holes : AreHoles words first (left ++ hole ∷ others)
  pub seen : before ≡ last_place None left
  pub here : hole.place ≡ at

pub at_start : (words : Slots) (first : Option ℕ) (holes : List Range) → AreHoles words first holes → IsAt words first [] None first
at_start words first holes good = record { right = holes; holes = good; seen = refl; ahead = good.start }

module _ (words : Slots) (first : Option ℕ) (left : List Range) (before : Option ℕ) where
  pub next_hole : (next : Option ℕ) (at : ℕ) → IsAt words first left before next → next ≡ Some at → IsNextHole words first left before at
  next_hole next at is e = by_right is.right is.holes (sym is.ahead ∙ e)
    where
      by_right : (right : List Range) → AreHoles words first (left ++ right) → first_place right None ≡ Some at → IsNextHole words first left before at
      by_right [] holes e = cc
      by_right (h ∷ hs) holes e = record { hole = h; others = hs; holes = holes; seen = is.seen; here = cc }

  pub none_ahead : (next : Option ℕ) → IsAt words first left before next → next ≡ None → AreHoles words first left
  none_ahead next is e = by_right is.right is.holes (sym is.ahead ∙ e)
    where
      by_right : (right : List Range) → AreHoles words first (left ++ right) → first_place right None ≡ None → AreHoles words first left
      by_right [] holes e = subst (AreHoles words first) (append-nil left) holes
      by_right (h ∷ hs) holes e = cc

  module _ (at : ℕ) (n : IsNextHole words first left before at) where
    -- the hole that is read there
    abbrev pub that : Hole
    that = hole_of n.hole (first_place n.others None)

    pub that_read : IsHole that × IsWritten words that
    that_read = read_hole words first left n.hole n.others n.holes

    pub can_read : (h : Hole) × (h.place ≡ at) × IsHole h × IsWritten words h
    can_read = (that, n.here, that_read.0, that_read.1)

    pub advance : IsAt words first (left ++ n.hole ∷ []) (Some at) (first_place n.others None)
    advance = record {
      right = n.others;
      holes = subst (AreHoles words first) (sym (append_assoc left (n.hole ∷ []) n.others)) n.holes;
      seen = ap (λ p. Some p) (sym n.here) ∙ sym (last_append None left (n.hole ∷ []));
      ahead = refl;
    }

    pub its_chains : Chain (length words) 0 left n.hole.place × IsBlock (length words) n.hole × Chain (length words) (end_of n.hole + 1) n.others (length words + 1)
    its_chains = around (length words) 0 left n.hole n.others (length words + 1) n.holes.chain

-- how far it is from a place to the end
abbrev pub left_from : ℕ → Option ℕ → ℕ
left_from size None = 0
left_from size (Some place) = size + 1 - place

pub nearer : (size : ℕ) (h : Range) (hs : List Range) → IsBlock size h → Chain size (end_of h + 1) hs (size + 1) → left_from size (first_place hs None) < left_from size (Some h.place)
nearer size h [] block c = let inside = block.inside in let some = block.some in omega arith
nearer size h (i ∷ is) block c = let inside = block.inside in let some = block.some in let from = c.1 in omega arith
