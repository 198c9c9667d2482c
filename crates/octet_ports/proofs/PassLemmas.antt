-- What is passed on, and what waits behind it.
use Rattle.std.proofs.Common.{◌≡◌, ◌<◌, ◌≤◌, ◌∙◌, ◌+◌, ◌-◌, ℕ, false, true, nat_eq, leb, ◌↔◌, ⊎_elim, inl, inr, refl, ap, sym, subst, arith}
use Rattle.std.proofs.Common.{List, [], ◌∷◌, ◌++◌, length, set, take, get_or, get_or-set_other, get_or-set_same, length-set, All, Option, None, Some, Bor, slice_get}
use Rattle.std.specs.Option.{option_copied, option_eq}
use Rattle.std.specs.Io.KnownBytes.{Appends, Keeps}
use Rattle.std.proofs.KnownBytes.{Appends-kept, Appends-trans}
use Rattle.std.proofs.Math.Seq.{get_or-append_seam}
use Rattle.std.proofs.lemmas.Bool.{false≢true, leb-true, le-leb}
use Rattle.std.proofs.lemmas.Bool.Decides.{nat_tests}
use Rattle.std.proofs.lemmas.Grind.{common_steps}
use Rattle.std.proofs.lemmas.List.{get_or_default, length-take, take_all, take_more, take-take}
use Rattle.std.proofs.lemmas.Option.{get_or_from_slice_get, slice_get_cases, slice_get_read, slice_get_within}
use Rattle.octet_ports.specs.declared.waiting.Waiting.{Waiting}
use Rattle.octet_ports.specs.declared.marks.Mark.{Mark}
use Rattle.octet_ports.specs.Passing.{EachDoes, Gets, GetsAt, HasNothing, HoldsStill, LosesNothing, PassesFirst, PassesOn, TakesAll, WaitsLastAt}
use Rattle.octet_ports.specs.Marks.{IsMarked, IsTaken, KeepsMarks, MarksOneMore, TellsTruth}

-- what an output took it took, also where what waited is let go
pub still_taken : {W : Type 0} (olds news : List (Waiting W)) → EachDoes HoldsStill olds news → (mark : Mark) → IsTaken olds mark → IsTaken news mark
still_taken olds news still mark taken = grind (arith, common_steps, slice_get_cases)

-- whether the mark's output, if there is such an output, took its samples
pub some_taken : {W : Type 0} (outputs : List (Waiting W)) (mark : Mark) (output : Waiting W) (taken : ℕ) → slice_get outputs mark.output ≡ Some output
    → taken ≡ output.taken → (leb mark.least taken ≡ true) ↔ IsTaken outputs mark
some_taken outputs mark output taken found same = rw (found, same) (leb-true mark.least output.taken, le-leb mark.least output.taken)

pub none_taken : {W : Type 0} (outputs : List (Waiting W)) (mark : Mark) → slice_get outputs mark.output ≡ None → (false ≡ true) ↔ IsTaken outputs mark
none_taken outputs mark none = rw none (λ bad. absurd (false≢true bad), λ taken. absurd taken)

-- the replies before the first lost sample were passed on
pub tells_truth : {W R : Type 0} {contents : R → Option (List ℕ)} {marks : List Mark} {olds news : List (Waiting W)} {old passed new : Waiting R} {most : ℕ}
    → PassesFirst contents most old passed → HoldsStill passed new → most ≤ length old.octets.items → All (λ mark. mark.before < most → IsTaken olds mark) marks
    → EachDoes HoldsStill olds news → TellsTruth contents marks news old new
tells_truth {contents} {marks} {olds} {news} {old} passes still within sure stays = record {
  count = passes.count;
  within = omega arith;
  gives = subst (λ w. Appends (contents old.writer) (contents w) (take passes.count old.octets.items)) (sym still.writer) passes.gives;
  sure = omega arith;
  truth = λ k d inside below. still_taken olds news stays (get_or marks k d) (sure k d inside (omega (arith, below)));
}

-- so many octets of the first that waited were written, and the flush wrote no others
pub passes_first : {W : Type 0} (contents : W → Option (List ℕ)) (most count taken : ℕ) (read : List ℕ) (old : Waiting W) (mid : Option (List ℕ)) (new : W)
    → count ≤ length (take most read) → read ≡ old.octets.items → Appends (contents old.writer) mid (take count (take most read)) → Keeps mid (contents new)
    → taken ≤ count → PassesFirst contents most old (record { writer = new; octets = old.octets; taken = taken })
passes_first contents most count taken read old mid new within same wrote kept sure =
    let long = length-take most read in
    let few : count ≤ most = omega (arith, within, long) in
    record {
      count = count;
      within = few;
      gives = rw (← same) (Appends-kept _ _ _ _ (rw (take-take count most read few) at wrote) kept);
      sure = sure;
    }

-- what a device was given it was given, also where what waited is let go
still_passes : {W : Type 0} (contents : W → Option (List ℕ)) (most : ℕ) (old passed new : Waiting W) → PassesFirst contents most old passed
    → HoldsStill passed new → PassesFirst contents most old new
still_passes contents most old passed new passes still = record {
  count = passes.count;
  within = passes.within;
  gives = subst (λ w. Appends (contents old.writer) (contents w) (take passes.count old.octets.items)) (sym still.writer) passes.gives;
  sure = rw still.taken passes.sure;
}

pub each_still_passes : {W : Type 0} (contents : W → Option (List ℕ)) (olds passed news : List (Waiting W)) → EachDoes (PassesOn contents) olds passed
    → EachDoes HoldsStill passed news → EachDoes (PassesOn contents) olds news
each_still_passes contents olds passed news passes still = record {
  count = still.count ∙ passes.count;
  each = λ k d inside. still_passes contents _ _ _ _ (passes.each k d inside) (still.each k d (rw passes.count inside));
}

pub each_still_takes : {W : Type 0} (olds passed news : List (Waiting W)) → EachDoes TakesAll olds passed → EachDoes HoldsStill passed news
    → EachDoes TakesAll olds news
each_still_takes olds passed news all still = record {
  count = still.count ∙ all.count;
  each = λ k d inside. (still.each k d (rw all.count inside)).taken ∙ all.each k d inside;
}

-- a device that took all that waited lost nothing
pub loses_none : {W : Type 0} (contents : W → Option (List ℕ)) (most : ℕ) (old passed new : Waiting W) → PassesFirst contents most old passed
    → passed.taken ≡ length old.octets.items → HoldsStill passed new → HasNothing new → LosesNothing contents old new
loses_none contents most old passed new passes all still nothing = grind (arith, common_steps)

pub each_loses_none : {W : Type 0} (contents : W → Option (List ℕ)) (olds passed news : List (Waiting W)) → EachDoes (PassesOn contents) olds passed
    → EachDoes TakesAll olds passed → EachDoes HoldsStill passed news → All HasNothing news → EachDoes (LosesNothing contents) olds news
each_loses_none contents olds passed news passes all still nothing = record {
  count = still.count ∙ passes.count;
  each = λ k d inside.
      let there : k < length passed = omega (arith, inside, passes.count) in
      loses_none contents _ _ _ _ (passes.each k d inside) (all.each k d inside) (still.each k d there) (nothing k d (omega (arith, there, still.count)));
}

-- nothing was lost the second time either
pub loses_none_twice : {W : Type 0} (contents : W → Option (List ℕ)) (olds mids news : List (Waiting W)) → EachDoes (LosesNothing contents) olds mids
    → EachDoes (LosesNothing contents) mids news → EachDoes (LosesNothing contents) olds news
loses_none_twice contents olds mids news first second = record {
  count = second.count ∙ first.count;
  each = λ k d inside. Appends-trans _ _ _ [] [] (first.each k d inside) (second.each k d (omega (arith, inside, first.count)));
}

-- octets came to what waits
pub gets_last : {W : Type 0} (contents : W → Option (List ℕ)) (octets : List ℕ) (old mid new : Waiting W) → LosesNothing contents old mid
    → new.octets.items ≡ mid.octets.items ++ octets → new.writer ≡ mid.writer → Gets contents octets old new
gets_last contents octets old mid new kept grown same = grind (arith, common_steps)

-- they came to the output of this number alone
pub gets_at : {W : Type 0} (contents : W → Option (List ℕ)) (number : ℕ) (octets : List ℕ) (olds mids : List (Waiting W)) (mid new : Waiting W)
    → EachDoes (LosesNothing contents) olds mids → number < length mids → mid ≡ get_or mids number mid → new.octets.items ≡ mid.octets.items ++ octets
    → new.writer ≡ mid.writer → GetsAt contents number octets olds (set mids number new)
gets_at contents number octets olds mids mid new kept inside read grown same = record {
  count = length-set mids number new ∙ kept.count;
  there = λ d there.
      let old = get_or olds number d in
      let before = subst (LosesNothing contents old) (sym (read ∙ get_or_default mids number mid d inside)) (kept.each number d there) in
      rw (get_or-set_same) (gets_last contents octets old mid new before grown same);
  others = λ k d there other. rw (get_or-set_other) (kept.each k d there);
}

-- and wait there behind all others
pub waits_last : {W : Type 0} (number : ℕ) (octets : List ℕ) (outputs : List (Waiting W)) (mid new : Waiting W) → number < length outputs
    → new.octets.items ≡ mid.octets.items ++ octets → WaitsLastAt number octets (set outputs number new)
waits_last number octets outputs mid new inside grown d = (mid.octets.items, rw (get_or-set_same) grown)

-- and then it was passed on
pub gets_passed : {W : Type 0} (contents : W → Option (List ℕ)) (octets : List ℕ) (old mid new : Waiting W) → Gets contents octets old mid
    → LosesNothing contents mid new → Gets contents octets old new
gets_passed contents octets old mid new gets kept = grind (arith, common_steps)

-- a mark stands behind those that stayed
pub one_more_mark : {W : Type 0} (number : ℕ) (old mid new : List Mark) (outputs : List (Waiting W)) (output : Waiting W) (mark : Mark)
    → KeepsMarks old mid outputs → new ≡ mid ++ mark ∷ [] → MarksOneMore number old new (set outputs number output)
one_more_mark number old mid new outputs output mark keeps pushed = (
  mark,
  ⊎_elim
      (λ same. inl (pushed ∙ ap (λ l. l ++ mark ∷ []) same))
      (λ none. inr (pushed ∙ ap (λ l. l ++ mark ∷ []) none.0, λ k d inside other. rw (get_or-set_other) (none.1 k d (rw length-set at inside))))
      keeps,
)

-- and it is of all that waits for its output, behind all the replies
pub marked_last : {W R : Type 0} (number : ℕ) (outputs : List (Waiting W)) (output : Waiting W) (replies : Waiting R) (old new : List Mark) (mark : Mark)
    → new ≡ old ++ mark ∷ [] → mark.output ≡ number → mark.before ≡ length replies.octets.items → number < length outputs
    → output ≡ get_or outputs number output → mark.least ≡ length output.octets.items → IsMarked number outputs replies new
marked_last number outputs output replies old new mark pushed there before inside read least = (
  length old,
  mark,
  grind (arith, common_steps),
  rw pushed (get_or-append_seam old mark [] mark),
  (there, before, rw (slice_get_read outputs _ number output refl inside read) least),
)

-- the last octet was found
pub is_last : (last : Option (Bor ℕ)) (end : Bor ℕ) (octets front : List ℕ) → option_copied last ≡ slice_get octets (length octets - 1)
    → octets ≡ front ++ end.now ∷ [] → option_eq (λ x y. nat_eq x.now y.now) last (Some end) ≡ true
is_last last end octets front copied ends = grind (arith, common_steps, slice_get_cases)

-- what was found is the last octet
pub found_last : (last : Option (Bor ℕ)) (end : Bor ℕ) (octets : List ℕ) → option_copied last ≡ slice_get octets (length octets - 1)
    → option_eq (λ x y. nat_eq x.now y.now) last (Some end) ≡ true → octets ≡ take (length octets - 1) octets ++ end.now ∷ []
found_last last end octets copied found =
    let is : slice_get octets (length octets - 1) ≡ Some end.now = grind (arith, common_steps, nat_tests) in
    let within = slice_get_within octets (length octets - 1) end.now is in
    sym (take_all (length octets - 1 + 1) octets (omega arith))
    ∙ take_more octets (length octets - 1) end.now within
    ∙ ap (λ x. take (length octets - 1) octets ++ x ∷ []) (get_or_from_slice_get octets (length octets - 1) end.now end.now is)
