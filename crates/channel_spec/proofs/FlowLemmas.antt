-- What lawful members give, and what they were given then, as a function of what they were given before.
use Rattle.std.proofs.Common.{◌≡◌, ◌≢◌, ℕ, ℤ, false, cond, List, [], ◌∷◌, ◌++◌, length, drop, Option, Some, None, refl, ap, sym, ◌∙◌, subst, nat_eq, append-nil, arith}
use Rattle.host_map.specs.Activity.{with_at}
use Rattle.std.proofs.Math.Seq.{drop-append_seam}
use Rattle.std.proofs.lemmas.Bool.{eq-eqb}
use Rattle.std.proofs.lemmas.Bool.Decides.{eqb_tells}
use Rattle.std.specs.Prelude.{IfSome}
use Rattle.relocate.proofs.RangeTests.{either, both_false, true_or_false, clash}
use Rattle.ialg.specs.History.{with_samples}
use Rattle.ialg.specs.Meaning.{Meaning, outputs_of}
use Rattle.ialg.proofs.CutLemmas.{cuts_dont_show}
use Rattle.host_spec.specs.State.{Living}
use Rattle.host_spec.specs.Choices.{IsLawful}
use Rattle.host_spec.specs.Answers.{output_at}
use Rattle.channel_spec.specs.Channels.{has_number, has_repeat}

-- who lives
abbrev pub Instances : Type 0 → Type 0
Instances M = ℕ → Option (Living M)

-- the instance, given a block
abbrev pub grown : {M : Type 0} → Option (Living M) → List ℤ → Option (Living M)
grown None block = None
grown (Some x) block = Some (record x { history = with_samples x.history block })

abbrev pub fed : {M : Type 0} → Instances M → ℕ → List ℤ → Instances M
fed living i block = with_at living i (grown (living i) block)

-- ---- values by number, one of them replaced

abbrev pub with_value : {A : Type 0} → (ℕ → A) → ℕ → A → ℕ → A
with_value all i v j = cond (nat_eq j i) v (all j)

module _ {A : Type 0} (all : ℕ → A) (i : ℕ) where
  pub there : (v : A) → with_value all i v i ≡ v
  there v = ap (λ b. cond b v (all i)) (eq-eqb i i refl)

  pub elsewhere : (v : A) (j : ℕ) → j ≢ i → with_value all i v j ≡ all j
  elsewhere v j apart = either (eqb_tells j i) (λ same. absurd (apart same.1)) (λ other. ap (λ b. cond b v (all j)) other.0)

  again_at : (v w : A) (j : ℕ) → with_value (with_value all i v) i w j ≡ with_value all i w j
  again_at v w j = either (true_or_false (nat_eq j i)) (λ e. rw e refl) (λ e. rw e refl)

  pub again : (v w : A) → with_value (with_value all i v) i w ≡ with_value all i w
  again v w = λ p. λ j. again_at v w j p

  unchanged_at : (j : ℕ) → with_value all i (all i) j ≡ all j
  unchanged_at j = either (eqb_tells j i) (λ same. ap (λ b. cond b (all i) (all j)) same.0 ∙ ap all (sym same.1)) (λ other. ap (λ b. cond b (all i) (all j)) other.0)

  pub unchanged : with_value all i (all i) ≡ all
  unchanged = λ p. λ j. unchanged_at j p

  module _ (k : ℕ) (apart : i ≢ k) (v w : A) where
    swapped_at : (j : ℕ) → with_value (with_value all i v) k w j ≡ with_value (with_value all k w) i v j
    swapped_at j =
        either (eqb_tells j k)
        (λ same. grind arith)
        (λ other. ap (λ b. cond b w (cond (nat_eq j i) v (all j))) other.0 ∙ ap (λ b. cond (nat_eq j i) v (cond b w (all j))) (sym other.0))

    pub swapped : with_value (with_value all i v) k w ≡ with_value (with_value all k w) i v
    swapped = λ p. λ j. swapped_at j p

-- ---- one instance

module _ {M : Type 0} (kinds : Meaning M) where
  grown_by_none : (x : Option (Living M)) → grown x [] ≡ x
  grown_by_none None = refl
  grown_by_none (Some x) = refl

  pub output_of_none : (x : Option (Living M)) → output_at kinds x [] ≡ []
  output_of_none None = refl
  output_of_none (Some x) =
      let old = outputs_of kinds x.kind x.params x.history in
      ap (λ out. drop (length old) out) (sym (append-nil old)) ∙ drop-append_seam old []

  pub grown_by_two : (x : Option (Living M)) (xs ys : List ℤ) → grown x (xs ++ ys) ≡ grown (grown x xs) ys
  grown_by_two None xs ys = refl
  grown_by_two (Some x) xs ys = ap (λ h. Some (record x { history = h })) (cuts_dont_show (kinds.gives x.kind x.params) x.history xs ys).history

  pub output_of_two : (x : Option (Living M)) (xs ys : List ℤ) → output_at kinds x (xs ++ ys) ≡ output_at kinds x xs ++ output_at kinds (grown x xs) ys
  output_of_two None xs ys = refl
  output_of_two (Some x) xs ys = (cuts_dont_show (kinds.gives x.kind x.params) x.history xs ys).output

  -- ---- members, one after the other

  -- what they give for a block, and who lives then
  abbrev pub flow : Instances M → List ℕ → List ℤ → List ℤ × Instances M
  flow living [] block = (block, living)
  flow living (i ∷ is) block = flow (fed living i block) is (output_at kinds (living i) block)

  pub fed_none : (living : Instances M) (i : ℕ) → fed living i [] ≡ living
  fed_none living i = ap (λ x. with_at living i x) (grown_by_none (living i)) ∙ unchanged living i

  pub flow_of_none : (is : List ℕ) (living : Instances M) → flow living is [] ≡ ([], living)
  flow_of_none [] living = refl
  flow_of_none (i ∷ is) living =
      ap (λ l. flow l is (output_at kinds (living i) [])) (fed_none living i)
      ∙ ap (λ block. flow living is block) (output_of_none (living i))
      ∙ flow_of_none is living

  -- another instance replaced: it stays so, and is read by no member
  abbrev pub with_other : List ℤ × Instances M → ℕ → Option (Living M) → List ℤ × Instances M
  with_other r i v = (r.0, with_at r.1 i v)

  pub not_number : (k i : ℕ) → nat_eq i k ≡ false → i ≢ k
  not_number k i differ e = clash (nat_eq i k) (eq-eqb i k e) differ

  pub frame : (is : List ℕ) (living : Instances M) (i : ℕ) (v : Option (Living M)) (block : List ℤ) → has_number is i ≡ false
      → flow (with_at living i v) is block ≡ with_other (flow living is block) i v
  frame [] living i v block none = refl
  frame (k ∷ is) living i v block none =
      let others = both_false (nat_eq i k) (has_number is i) none in
      let apart : i ≢ k = not_number k i others.0 in
      ap (λ x. flow (with_at (with_at living i v) k (grown x block)) is (output_at kinds x block)) (elsewhere living i v k (λ e. apart (sym e)))
      ∙ ap (λ l. flow l is (output_at kinds (living k) block)) (swapped living i k apart v (grown (living k) block))
      ∙ frame is (fed living k block) i v (output_at kinds (living k) block) others.1

  pub stays : (is : List ℕ) (living : Instances M) (i : ℕ) (block : List ℤ) → has_number is i ≡ false → (flow living is block).1 i ≡ living i
  stays is living i block none =
      ap (λ l. (flow l is block).1 i) (sym (unchanged living i))
      ∙ ap (λ r. r.1 i) (frame is living i (living i) block none)
      ∙ there (flow living is block).1 i (living i)

  -- ---- cuts

  abbrev pub onward : List ℤ → List ℤ × Instances M → List ℤ × Instances M
  onward first rest = (first ++ rest.0, rest.1)

  -- for xs, and then for ys
  abbrev pub flow_twice : Instances M → List ℕ → List ℤ → List ℤ → List ℤ × Instances M
  flow_twice living is xs ys = let first = flow living is xs in onward first.0 (flow first.1 is ys)

  pub flow_cut : (is : List ℕ) (living : Instances M) (xs ys : List ℤ) → has_repeat is ≡ false → flow living is (xs ++ ys) ≡ flow_twice living is xs ys
  flow_cut [] living xs ys once = refl
  flow_cut (i ∷ is) living xs ys once =
      let others = both_false (has_number is i) (has_repeat is) once in
      let x = living i in
      let y = grown x xs in
      let v = grown y ys in
      let one = output_at kinds x xs in
      let two = output_at kinds y ys in
      let first = flow (fed living i xs) is one in
      let joint : flow (fed living i (xs ++ ys)) is (output_at kinds x (xs ++ ys)) ≡ flow (with_at living i v) is (one ++ two) =
      ap (λ z. flow (with_at living i z) is (output_at kinds x (xs ++ ys))) (grown_by_two x xs ys)
      ∙ ap (λ block. flow (with_at living i v) is block) (output_of_two x xs ys) in
      let early : flow (with_at living i v) is one ≡ with_other first i v =
      ap (λ l. flow l is one) (sym (again living i y v)) ∙ frame is (fed living i xs) i v one others.0 in
      let its : first.1 i ≡ y = stays is (fed living i xs) i one others.0 ∙ there living i y in
      joint ∙ flow_cut is (with_at living i v) one two others.1
      ∙ ap (λ r. onward r.0 (flow r.1 is two)) early
      ∙ ap (λ z. onward first.0 (flow (with_at first.1 i (grown z ys)) is (output_at kinds z ys))) (sym its)

  -- ---- lawful instances stay so

  module _ (poison : Option ℤ) (j : ℕ) where
    grown_lawful : (x : Option (Living M)) (block : List ℤ) → IfSome x (IsLawful kinds poison) → IfSome (grown x block) (IsLawful kinds poison)
    grown_lawful None block lawful = tt
    grown_lawful (Some x) block lawful = lawful

    pub fed_lawful : (living : Instances M) (i : ℕ) (block : List ℤ) → IfSome (living j) (IsLawful kinds poison) → IfSome (fed living i block j) (IsLawful kinds poison)
    fed_lawful living i block lawful =
        either (eqb_tells j i)
        (λ same. subst (λ b. IfSome (cond b (grown (living i) block) (living j)) (IsLawful kinds poison)) (sym same.0)
        (grown_lawful (living i) block (subst (λ k. IfSome (living k) (IsLawful kinds poison)) same.1 lawful)))
        (λ apart. subst (λ b. IfSome (cond b (grown (living i) block) (living j)) (IsLawful kinds poison)) (sym apart.0) lawful)

    pub flow_lawful : (is : List ℕ) (living : Instances M) (block : List ℤ) → IfSome (living j) (IsLawful kinds poison)
        → IfSome ((flow living is block).1 j) (IsLawful kinds poison)
    flow_lawful [] living block lawful = lawful
    flow_lawful (i ∷ is) living block lawful = flow_lawful is (fed living i block) (output_at kinds (living i) block) (fed_lawful living i block lawful)
