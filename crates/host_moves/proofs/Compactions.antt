-- A compaction is steps, one after the other.
use Rattle.std.proofs.Common.{◌≡◌, ℕ, suc, ◌+◌, ◌^◌, ◌<◌, ◌≤◌, ◌==◌, Bool, true, false, List, [], ◌∷◌, length, Option, Some, None, is_some, refl, ap, sym, ◌∙◌, subst, arith, if◌then◌else◌}
use Rattle.std.proofs.lemmas.Bool.{true≢false}
use Rattle.std.specs.Int.{next_multiple_of}
use Rattle.mem_rec.specs.declared.Space.{Space}
use Rattle.space_heap.specs.Maps.{AreBlocks}
use Rattle.relocate.specs.Spots.{AreSpotsFrom}
use Rattle.scratch_group.specs.declared.group.Group.{Group}
use Rattle.host_table.specs.declared.member.Member.{Member}
use Rattle.host_shared.specs.declared.locations.Locations.{Locations}
use Rattle.host_map.specs.declared.placed.Placed.{Placed}
use Rattle.host_map.specs.Blocks.{ranges}
use Rattle.host_map.specs.Moves.{next_block, spots_of, unpacked_behind}
use Rattle.host_spaces.specs.Spaces.{AreInOrder}
use Rattle.host_spaces.specs.declared.spaces.Spaces.{Spaces}
use Rattle.host_map.specs.MemoryMap.{blocks_in, moved_in}
use Rattle.host_spaces.specs.MemoryMap.{map_of, sizes_of}
use Rattle.host_map.specs.Activity.{never_activated}
use Rattle.host_spec.specs.State.{State}
use Rattle.host_spec.specs.Steps.{moving, step, compact}
use Rattle.host_spec.specs.Laws.{IsSteps}
use Rattle.host_spec.proofs.CompactLemmas.{steps_compact}
use Rattle.host_moves.specs.Hosts.{ListsAndSpacesRefine}
use Rattle.ialg.specs.Laws.{Laws}

-- ---- how many blocks are not at their packed places

few_if : (t : Bool) (b : Placed) (others : List Placed) (n : ℕ) → length others ≤ n → length (if t then others else b ∷ others) ≤ suc n
few_if true b others n h = omega (arith, h)
few_if false b others n h = omega (arith, h)

unpacked_few : (end : ℕ) (bs : List Placed) → length (unpacked_behind end bs) ≤ length bs
unpacked_few end [] = omega arith
unpacked_few end (b ∷ bs) =
    let place = next_multiple_of end b.align in
    few_if (b.place == place) b (unpacked_behind (place + b.size) bs) (length bs) (unpacked_few (place + b.size) bs)

few_blocks : (words from : ℕ) (bs : List Placed) → from ≤ 65536 → AreSpotsFrom from (spots_of bs) → AreBlocks words (ranges bs) → from + length bs ≤ 65536
few_blocks words from [] small order apart = omega (arith, small)
few_blocks words from (b ∷ bs) small order apart =
    let some = apart.0.some in
    let inside = order.0.inside in
    let after = order.1 in
    let rest : b.place + b.size + length bs ≤ 65536 = few_blocks words (b.place + b.size) bs (omega (arith, inside)) order.2 apart.2 in
    omega (arith, some, after, rest)

pub count_small : (words : ℕ) (bs : List Placed) → AreInOrder words bs → length (unpacked_behind 0 bs) ≤ 65536
count_small words bs is =
    let few = unpacked_few 0 bs in
    let all = few_blocks words 0 bs (omega arith) is.order is.apart in
    omega (arith, few, all)

-- each move leaves one block less
module _ (M : Type 0) (spaces spaces' : Spaces) (space : Space) (b : Placed) (next : next_block (blocks_in (map_of spaces) space) ≡ Some b) where
  abbrev state : State M
  state = record { living = λ i. None; map = map_of spaces; sizes = sizes_of spaces; poison = None; activity = λ g. never_activated; copied = 0 }

  moves : (step state space).0 ≡ true
  moves = ap (λ n. (moving state space n).0) next

  stepped_map : (step state space).1.map ≡ moved_in (map_of spaces) space
  stepped_map = ap (λ n. (moving state space n).1.map) next

  pub one_less : map_of spaces' ≡ moved_in (map_of spaces) space
      → length (unpacked_behind 0 (blocks_in (map_of spaces') space)) + 1 ≡ length (unpacked_behind 0 (blocks_in (map_of spaces) space))
  one_less map =
      let more = (steps_compact state space (omega arith)).more moves in
      let counted : length (unpacked_behind 0 (blocks_in (map_of spaces) space)) ≡ length (unpacked_behind 0 (blocks_in (step state space).1.map space)) + 1 = ap (λ o. o.0) more in
      ap (λ p. length (unpacked_behind 0 (blocks_in p space)) + 1) (map ∙ sym stepped_map) ∙ sym counted

some_next : {A : Type 0} (x : Option A) → is_some x ≡ true → (a : A) × (x ≡ Some a)
some_next None e = absurd (true≢false (sym e))
some_next (Some a) e = (a, refl)

pub moved_one : (spaces spaces' : Spaces) (space : Space) → is_some (next_block (blocks_in (map_of spaces) space)) ≡ true → map_of spaces' ≡ moved_in (map_of spaces) space
    → length (unpacked_behind 0 (blocks_in (map_of spaces') space)) + 1 ≡ length (unpacked_behind 0 (blocks_in (map_of spaces) space))
moved_one spaces spaces' space some map =
    let next = some_next (next_block (blocks_in (map_of spaces) space)) some in
    one_less (Unit {0}) spaces spaces' space next.0 next.1 map

-- ---- the machine

-- a machine that is kept now, whose compaction ends as the first one's does, after so many moves more
pub record IsAmid {M : Type 0} (laws : Laws M) (space : Space) (instances : List (Option (Member M))) (sharing : List Locations) (groups : List Group) (spaces : Spaces)
    (moved : ℕ) (before : State M) : Type 0 where
  pub now : State M
  pub kept : ListsAndSpacesRefine laws instances sharing groups spaces now
  pub same : compact before space ≡ ((compact now space).0 + moved, (compact now space).1)

module _ {M : Type 0} (laws : Laws M) (space : Space) where
  counted : (instances : List (Option (Member M))) (sharing : List Locations) (groups : List Group) (spaces : Spaces) (state : State M)
      → ListsAndSpacesRefine laws instances sharing groups spaces state → state.copied < 2 ^ 64
  counted instances sharing groups spaces state kept = let e = kept.copied in omega (arith, e)

  answer_is : (answer : Bool) (machine : State M) → (answer, (step machine space).1) ≡ step machine space → (step machine space).0 ≡ answer
  answer_is answer machine e = sym (ap (λ (o : Bool × State M). o.0) e)

  module _ {instances : List (Option (Member M))} {sharing : List Locations} {groups : List Group} {spaces : Spaces} (moved : ℕ) (before : State M)
      (amid : IsAmid laws space instances sharing groups spaces moved before) where
    steps : IsSteps amid.now space
    steps = steps_compact amid.now space (counted instances sharing groups spaces amid.now amid.kept)

    pub amid_next : {instances' : List (Option (Member M))} {sharing' : List Locations} {groups' : List Group} {spaces' : Spaces}
        → ((true, (step amid.now space).1) ≡ step amid.now space) → ListsAndSpacesRefine laws instances' sharing' groups' spaces' (step amid.now space).1
        → IsAmid laws space instances' sharing' groups' spaces' (moved + 1) before
    amid_next is kept =
        let more = steps.more (answer_is true amid.now is) in
        record {
          now = (step amid.now space).1;
          kept = kept;
          same = amid.same
              ∙ ap (λ (o : ℕ × State M). let p : ℕ × State M = (o.0 + moved, o.1) in p) more
              ∙ ap (λ (n : ℕ). let p : ℕ × State M = (n, (compact (step amid.now space).1 space).1) in p)
              (let e : (compact (step amid.now space).1 space).0 + 1 + moved ≡ (compact (step amid.now space).1 space).0 + (moved + 1) = omega arith in e);
        }

    stopped : (n : Option Placed) (machine : State M) → (moving machine space n).0 ≡ false → (moving machine space n).1 ≡ machine
    stopped None machine e = refl
    stopped (Some b) machine e = absurd (true≢false e)

    pub amid_end : {instances' : List (Option (Member M))} {sharing' : List Locations} {groups' : List Group} {spaces' : Spaces}
        → ((false, (step amid.now space).1) ≡ step amid.now space) → ListsAndSpacesRefine laws instances' sharing' groups' spaces' (step amid.now space).1
        → ((moved, (compact before space).1) ≡ compact before space) × ListsAndSpacesRefine laws instances' sharing' groups' spaces' (compact before space).1
    amid_end {instances'} {sharing'} {groups'} {spaces'} is kept =
        let still = answer_is false amid.now is in
        let last = steps.last still in
        let there : (step amid.now space).1 ≡ amid.now = stopped (next_block (blocks_in amid.now.map space)) amid.now still in
        let all : compact before space ≡ (moved, amid.now) = amid.same ∙ ap (λ (o : ℕ × State M). let p : ℕ × State M = (o.0 + moved, o.1) in p) last
        ∙ ap (λ (n : ℕ). let p : ℕ × State M = (n, amid.now) in p) (let e : 0 + moved ≡ moved = omega arith in e) in (
          ap (λ (o : ℕ × State M). let p : ℕ × State M = (moved, o.1) in p) all ∙ sym all,
          subst (λ (s : State M). ListsAndSpacesRefine laws instances' sharing' groups' spaces' s) (sym (ap (λ (o : ℕ × State M). o.1) all)) (subst (λ (s : State M). ListsAndSpacesRefine laws instances' sharing' groups' spaces' s) there kept),
        )
