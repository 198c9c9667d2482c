-- The last hole that was seen is the one before the next.
use Rattle.std.proofs.Common.{◌≡◌, ℕ, ◌<◌, ◌++◌, [], ◌∷◌, List, length, Option, None, Some, sym, subst, ap, ◌∙◌, arith, refl, MatchOption}
use Rattle.std.specs.Prelude.{ℤ, IfSome, IfNone}
use Rattle.space_heap.specs.declared.hole.Hole.{Hole}
use Rattle.space_heap.specs.declared.find.Found.{Found}
use Rattle.space_heap.specs.Holes.{IsFound, IsFromOn, first_place}
use Rattle.space_heap.proofs.Links.{IsAt, at_start, next_hole, that, that_read, can_read, advance, its_chains, left_from, nearer}
use Rattle.space_heap.proofs.find.last_before.Goals as goal

module _ (slots : List (Option ℤ)) (first : Option ℕ) (place : ℕ) (next : Option ℕ) (late : IsFromOn place next) where
  abbrev Seen : Option Found → Type 0
  Seen last = MatchOption last (next ≡ first) (λ f. IsFound slots first f × (f.hole.place < place) × (f.hole.next ≡ next))

  last_found : (last : Option Found) → Seen last → IfSome last (λ f. IsFound slots first f × (f.hole.place < place) × IsFromOn place f.hole.next)
  last_found None seen = tt
  last_found (Some f) seen = (seen.0, seen.1, subst (IsFromOn place) (sym seen.2) late)

  none_found : (last : Option Found) → Seen last → IfNone last (IsFromOn place first)
  none_found None seen = subst (IsFromOn place) seen late
  none_found (Some f) seen = tt

pub loop-next-init : goal.loop-next-init
loop-next-init c = let holes = c.requires.holes in (([], at_start c.args.rest.now.slots c.args.first holes.0 holes.1), refl)

pub returns-then-place-at-clause-found : goal.returns-then-place-at-clause-found
returns-then-place-at-clause-found c =
    let l = c.loop-next in last_found c.args.rest.now.slots c.args.first c.args.place l.next (subst (IsFromOn c.args.place) (sym c.in-Some.is) c.if-place-at.true) l.last l.invariant.1

pub returns-then-place-at-clause-none : goal.returns-then-place-at-clause-none
returns-then-place-at-clause-none c =
    let l = c.loop-next in none_found c.args.rest.now.slots c.args.first c.args.place l.next (subst (IsFromOn c.args.place) (sym c.in-Some.is) c.if-place-at.true) l.last l.invariant.1

pub read-hole-requires : goal.read-hole-requires
read-hole-requires c =
    let l = c.loop-next in let left = l.invariant.0.0 in let slots = c.args.rest.now.slots in let first = c.args.first in
    record { written = can_read slots first left l.before c.in-Some.at (next_hole slots first left l.before l.next c.in-Some.at l.invariant.0.1 c.in-Some.is) }

pub loop-next-smaller : goal.loop-next-smaller
loop-next-smaller c =
    let l = c.loop-next in let left = l.invariant.0.0 in let slots = c.args.rest.now.slots in let first = c.args.first in let at = c.in-Some.at in
    let n = next_hole slots first left l.before l.next at l.invariant.0.1 c.in-Some.is in let h = that slots first left l.before at n in let read = that_read slots first left l.before at n in
    let same = c.read-hole.ensures.hole h n.here read.0 read.1 in let size = length slots in let chains = its_chains slots first left l.before at n in
    subst (λ (next : Option _). left_from size next < left_from size l.next) (sym (ap (λ (g : Hole). g.next) same))
    (subst (λ (next : Option _). left_from size (first_place n.others None) < left_from size next) (ap (λ k. Some k) n.here ∙ sym c.in-Some.is)
    (nearer size n.hole n.others chains.1 chains.2))

pub loop-next-preserved : goal.loop-next-preserved
loop-next-preserved c =
    let l = c.loop-next in let left = l.invariant.0.0 in let slots = c.args.rest.now.slots in let first = c.args.first in let at = c.in-Some.at in
    let n = next_hole slots first left l.before l.next at l.invariant.0.1 c.in-Some.is in let h = that slots first left l.before at n in let read = that_read slots first left l.before at n in
    let same = c.read-hole.ensures.hole h n.here read.0 read.1 in let here = n.here in let test = c.if-place-at.false in (
      (
        left ++ n.hole ∷ [],
        subst (λ (next : Option _). IsAt slots first (left ++ n.hole ∷ []) (Some at) next) (sym (ap (λ (g : Hole). g.next) same)) (advance slots first left l.before at n),
      ),
      subst (λ (g : Hole). IsFound slots first (record { before = l.before; hole = g }) × (g.place < c.args.place) × (g.next ≡ g.next)) (sym same)
          (record { left = left; right = n.others; holes = n.holes; before = n.seen; next = refl }, omega arith, refl),
    )

pub returns-clause-found : goal.returns-clause-found
returns-clause-found c =
    let l = c.loop-next in last_found c.args.rest.now.slots c.args.first c.args.place l.next (subst (IsFromOn c.args.place) (sym c.in_default.is) tt) l.last l.invariant.1

pub returns-clause-none : goal.returns-clause-none
returns-clause-none c =
    let l = c.loop-next in none_found c.args.rest.now.slots c.args.first c.args.place l.next (subst (IsFromOn c.args.place) (sym c.in_default.is) tt) l.last l.invariant.1
