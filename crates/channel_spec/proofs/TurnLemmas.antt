-- Which members are active after lawful members were given a block, as a function of what they were given before.
use Rattle.std.proofs.Common.{◌≡◌, ◌≢◌, ℕ, ℤ, Bool, true, false, cond, List, [], ◌∷◌, ◌++◌, Option, Some, None, refl, ap, sym, ◌∙◌, nat_eq}
use Rattle.std.specs.Option.{option_eq}
use Rattle.std.proofs.lemmas.Bool.{eq-eqb}
use Rattle.std.proofs.lemmas.Bool.Decides.{eqb_tells}
use Rattle.relocate.proofs.RangeTests.{either, both_false, true_or_false, clash, left_true, right_true}
use Rattle.ialg.specs.Meaning.{Meaning}
use Rattle.host_map.specs.Activity.{Activity, activated, with_at}
use Rattle.host_spec.specs.State.{Living, is_of_group}
use Rattle.host_spec.specs.Answers.{output_at}
use Rattle.channel_spec.specs.Channels.{has_number, has_repeat}
use Rattle.channel_spec.proofs.FlowLemmas.{Instances, grown, fed, flow, with_value, there, elsewhere, again, unchanged, swapped, not_number, frame, stays, grown_by_two, output_of_two, output_of_none, fed_none}

-- of each group the active member
abbrev pub Turns : Type 0
Turns = ℕ → Activity

-- after the instance was given a block
abbrev pub turned : {M : Type 0} → Turns → ℕ → Option (Living M) → List ℤ → Turns
turned all i None block = all
turned all i (Some x) [] = all
turned all i (Some x) (s ∷ block) = with_at all x.group (activated i (all x.group))

-- ---- one instance

touched_by_test : (i : ℕ) (a : Activity) (b : Bool) → option_eq nat_eq a.active (Some i) ≡ b → activated i (activated i a) ≡ activated i a
touched_by_test i a true e =
    let stays : activated i a ≡ a = rw e refl in
    ap (activated i) stays
touched_by_test i a false e = either (true_or_false (option_eq nat_eq (activated i a).active (Some i))) (λ t. rw t refl) (λ f. clash (option_eq nat_eq (activated i a).active (Some i)) (its i a e) f)
  where
    its : (i : ℕ) (a : Activity) → option_eq nat_eq a.active (Some i) ≡ false → option_eq nat_eq (activated i a).active (Some i) ≡ true
    its i a e = rw e (eq-eqb i i refl)

touched_again : (i : ℕ) (a : Activity) → activated i (activated i a) ≡ activated i a
touched_again i a = touched_by_test i a (option_eq nat_eq a.active (Some i)) refl

turned_by_two : {M : Type 0} (all : Turns) (i : ℕ) (x : Option (Living M)) (xs ys : List ℤ) → turned all i x (xs ++ ys) ≡ turned (turned all i x xs) i (grown x xs) ys
turned_by_two all i None xs ys = refl
turned_by_two all i (Some x) [] ys = refl
turned_by_two all i (Some x) (s ∷ xs) [] = refl
turned_by_two all i (Some x) (s ∷ xs) (t ∷ ys) =
    let a = activated i (all x.group) in
    sym (again all x.group a (activated i (with_value all x.group a x.group))
    ∙ ap (λ v. with_value all x.group v) (ap (activated i) (there all x.group a) ∙ touched_again i (all x.group)))

turned_by_none : {M : Type 0} (all : Turns) (i : ℕ) (x : Option (Living M)) → turned all i x [] ≡ all
turned_by_none all i None = refl
turned_by_none all i (Some x) = refl

-- ---- members, one after the other

-- no two of them are of one group
abbrev pub GroupsApart : {M : Type 0} → Instances M → List ℕ → Type 0
GroupsApart living is =
    (i j g : ℕ) → has_number is i ≡ true → has_number is j ≡ true → is_of_group g (living i) ≡ true → is_of_group g (living j) ≡ true → i ≡ j

-- none of them is of this group
abbrev NoneOf : {M : Type 0} → Instances M → List ℕ → ℕ → Type 0
NoneOf living is g = (j : ℕ) → has_number is j ≡ true → is_of_group g (living j) ≡ false

module _ {M : Type 0} (kinds : Meaning M) where
  abbrev pub turns : Instances M → Turns → List ℕ → List ℤ → Turns
  turns living all [] block = all
  turns living all (i ∷ is) block = turns (fed living i block) (turned all i (living i) block) is (output_at kinds (living i) block)

  pub turns_of_none : (is : List ℕ) (living : Instances M) (all : Turns) → turns living all is [] ≡ all
  turns_of_none [] living all = refl
  turns_of_none (i ∷ is) living all =
      ap (λ l. turns l (turned all i (living i) []) is (output_at kinds (living i) [])) (fed_none kinds living i)
      ∙ ap (λ t. turns living t is (output_at kinds (living i) [])) (turned_by_none all i (living i))
      ∙ ap (λ block. turns living all is block) (output_of_none kinds (living i))
      ∙ turns_of_none is living all

  -- ---- groups stay

  grown_group : (g : ℕ) (x : Option (Living M)) (block : List ℤ) → is_of_group g (grown x block) ≡ is_of_group g x
  grown_group g None block = refl
  grown_group g (Some x) block = refl

  pub fed_group : (living : Instances M) (i : ℕ) (block : List ℤ) (g j : ℕ) → is_of_group g (fed living i block j) ≡ is_of_group g (living j)
  fed_group living i block g j =
      either (eqb_tells j i)
      (λ same. ap (λ b. is_of_group g (cond b (grown (living i) block) (living j))) same.0 ∙ grown_group g (living i) block ∙ ap (λ k. is_of_group g (living k)) (sym same.1))
      (λ other. ap (λ b. is_of_group g (cond b (grown (living i) block) (living j))) other.0)

  flow_group : (is : List ℕ) (living : Instances M) (block : List ℤ) (g j : ℕ) → is_of_group g ((flow kinds living is block).1 j) ≡ is_of_group g (living j)
  flow_group [] living block g j = refl
  flow_group (i ∷ is) living block g j = flow_group is (fed living i block) (output_at kinds (living i) block) g j ∙ fed_group living i block g j

  pub flow_apart : (is js : List ℕ) (living : Instances M) (block : List ℤ) → GroupsApart living js → GroupsApart (flow kinds living is block).1 js
  flow_apart is js living block apart = λ i j g has other_has of other_of.
      apart i j g has other_has (sym (flow_group is living block g i) ∙ of) (sym (flow_group is living block g j) ∙ other_of)

  -- ---- what isn't read

  frame_turns : (is : List ℕ) (living : Instances M) (all : Turns) (i : ℕ) (v : Option (Living M)) (block : List ℤ) → has_number is i ≡ false
      → turns (with_at living i v) all is block ≡ turns living all is block
  frame_turns [] living all i v block none = refl
  frame_turns (k ∷ is) living all i v block none =
      let others = both_false (nat_eq i k) (has_number is i) none in
      let apart : i ≢ k = not_number kinds k i others.0 in
      ap (λ x. turns (with_at (with_at living i v) k (grown x block)) (turned all k x block) is (output_at kinds x block)) (elsewhere living i v k (λ e. apart (sym e)))
      ∙ ap (λ l. turns l (turned all k (living k) block) is (output_at kinds (living k) block)) (swapped living i k apart v (grown (living k) block))
      ∙ frame_turns is (fed living k block) (turned all k (living k) block) i v (output_at kinds (living k) block) others.1

  turned_apart : (all : Turns) (g : ℕ) (w : Activity) (k : ℕ) (x : Option (Living M)) (block : List ℤ) → is_of_group g x ≡ false
      → turned (with_at all g w) k x block ≡ with_at (turned all k x block) g w
  turned_apart all g w k None block e = refl
  turned_apart all g w k (Some x) [] e = refl
  turned_apart all g w k (Some x) (s ∷ block) e =
      let apart : x.group ≢ g = not_number kinds g x.group e in
      ap (λ a. with_value (with_value all g w) x.group (activated k a)) (elsewhere all g w x.group apart)
      ∙ swapped all g x.group (λ same. apart (sym same)) w (activated k (all x.group))

  other_group : (is : List ℕ) (living : Instances M) (all : Turns) (g : ℕ) (w : Activity) (block : List ℤ) → NoneOf living is g
      → turns living (with_at all g w) is block ≡ with_at (turns living all is block) g w
  other_group [] living all g w block none = refl
  other_group (k ∷ is) living all g w block none =
      ap (λ t. turns (fed living k block) t is (output_at kinds (living k) block))
      (turned_apart all g w k (living k) block (none k (left_true (nat_eq k k) (has_number is k) (eq-eqb k k refl))))
      ∙ other_group is (fed living k block) (turned all k (living k) block) g w (output_at kinds (living k) block)
      (λ j has. fed_group living k block g j ∙ none j (right_true (nat_eq j k) (has_number is j) has))

  turn_stays : (is : List ℕ) (living : Instances M) (all : Turns) (g : ℕ) (block : List ℤ) → NoneOf living is g → turns living all is block g ≡ all g
  turn_stays is living all g block none =
      ap (λ t. turns living t is block g) (sym (unchanged all g))
      ∙ ap (λ t. t g) (other_group is living all g (all g) block none)
      ∙ there (turns living all is block) g (all g)

  -- an instance of another group has its turn before the members, or after them
  turn_later : (is : List ℕ) (living : Instances M) (all : Turns) (i : ℕ) (y : Option (Living M)) (its block : List ℤ)
      → ((g : ℕ) → is_of_group g y ≡ true → NoneOf living is g) → turns living (turned all i y its) is block ≡ turned (turns living all is block) i y its
  turn_later is living all i None its block none = refl
  turn_later is living all i (Some y) [] block none = refl
  turn_later is living all i (Some y) (s ∷ its) block none =
      let apart : NoneOf living is y.group = none y.group (eq-eqb y.group y.group refl) in
      other_group is living all y.group (activated i (all y.group)) block apart
      ∙ ap (λ a. with_at (turns living all is block) y.group (activated i a)) (sym (turn_stays is living all y.group block apart))

  -- ---- cuts

  apart_from : (i : ℕ) (is : List ℕ) (living : Instances M) (g : ℕ) → has_number is i ≡ false → GroupsApart living (i ∷ is) → is_of_group g (living i) ≡ true
      → NoneOf living is g
  apart_from i is living g single apart of = λ j has.
      either (true_or_false (is_of_group g (living j)))
      (λ other_of.
      let same : i ≡ j = apart i j g (left_true (nat_eq i i) (has_number is i) (eq-eqb i i refl)) (right_true (nat_eq j i) (has_number is j) has) of other_of in
      clash (has_number is i) (ap (λ k. has_number is k) same ∙ has) single)
      (λ e. e)

  pub turns_cut : (is : List ℕ) (living : Instances M) (all : Turns) (xs ys : List ℤ) → has_repeat is ≡ false → GroupsApart living is
      → turns living all is (xs ++ ys) ≡ turns (flow kinds living is xs).1 (turns living all is xs) is ys
  turns_cut [] living all xs ys once apart = refl
  turns_cut (i ∷ is) living all xs ys once apart =
      let others = both_false (has_number is i) (has_repeat is) once in
      let x = living i in
      let y = grown x xs in
      let v = grown y ys in
      let one = output_at kinds x xs in
      let two = output_at kinds y ys in
      let next = fed living i xs in
      let first = flow kinds next is one in
      let then = turned all i x xs in
      let last = turned then i y ys in
      let done = turns next then is one in
      let joint : turns (fed living i (xs ++ ys)) (turned all i x (xs ++ ys)) is (output_at kinds x (xs ++ ys)) ≡ turns (with_at living i v) last is (one ++ two) =
      ap (λ z. turns (with_at living i z) (turned all i x (xs ++ ys)) is (output_at kinds x (xs ++ ys))) (grown_by_two kinds x xs ys)
      ∙ ap (λ t. turns (with_at living i v) t is (output_at kinds x (xs ++ ys))) (turned_by_two all i x xs ys)
      ∙ ap (λ block. turns (with_at living i v) last is block) (output_of_two kinds x xs ys) in
      let tail_apart : GroupsApart (with_at living i v) is =
      λ j k g has other_has of other_of.
      let at : (m : ℕ) → has_number is m ≡ true → with_at living i v m ≡ living m =
      λ m its. elsewhere living i v m (λ e. clash (has_number is i) (ap (λ n. has_number is n) (sym e) ∙ its) others.0) in
      apart j k g (right_true (nat_eq j i) (has_number is j) has) (right_true (nat_eq k i) (has_number is k) other_has)
      (ap (is_of_group g) (sym (at j has)) ∙ of) (ap (is_of_group g) (sym (at k other_has)) ∙ other_of) in
      let early : (flow kinds (with_at living i v) is one).1 ≡ with_at first.1 i v =
      ap (λ l. (flow kinds l is one).1) (sym (again living i y v)) ∙ ap (λ r. r.1) (frame kinds is next i v one others.0) in
      let none : (g : ℕ) → is_of_group g y ≡ true → NoneOf next is g =
      λ g of. λ j has. fed_group living i xs g j ∙ apart_from i is living g others.0 apart (sym (grown_group g x xs) ∙ of) j has in
      let turn : turns (with_at living i v) last is one ≡ turned done i y ys =
      ap (λ l. turns l last is one) (sym (again living i y v)) ∙ frame_turns is next last i v one others.0 ∙ turn_later is next then i y ys one none in
      let its : first.1 i ≡ y = stays kinds is next i one others.0 ∙ there living i y in
      joint ∙ turns_cut is (with_at living i v) last one two others.1 tail_apart
      ∙ ap (λ l. turns l (turns (with_at living i v) last is one) is two) early
      ∙ ap (λ t. turns (with_at first.1 i v) t is two) turn
      ∙ ap (λ z. turns (with_at first.1 i (grown z ys)) (turned done i z ys) is (output_at kinds z ys)) (sym its)
