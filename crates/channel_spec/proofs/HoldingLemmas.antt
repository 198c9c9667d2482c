-- Every call leaves channels whose members live, each in one channel and once.
use Rattle.std.proofs.Common.{◌≡◌, ◌≢◌, ◌⊎◌, ℕ, zero, suc, Bool, true, false, List, [], ◌∷◌, set, Option, Some, None, Result, Ok, inl, inr, refl, ap, sym, ◌∙◌, subst, nat_eq, arith}
use Rattle.std.specs.Prelude.{not, ◌||◌, is_some, is_none}
use Rattle.std.specs.List.{list_all, list_any}
use Rattle.ialg.specs.declared.refusal.Refusal.{Refusal}
use Rattle.ialg.specs.declared.refusal.Refusal.TheVariants.{Range, Taken, Missing, Busy}
use Rattle.ialg.specs.Refusals.{first_refusal}
use Rattle.ialg.specs.Meaning.{Meaning}
use Rattle.relocate.proofs.RangeTests.{either, true_or_false, clash, both_true, both_false, right_true, left_true}
use Rattle.std.proofs.lemmas.Bool.{false≢true}
use Rattle.std.proofs.lemmas.Option.{same_Some}
use Rattle.host_spec.specs.State.{State}
use Rattle.host_spec.specs.Steps as steps
use Rattle.host_spec.specs.Steps.{Outcome, unless}
use Rattle.host_spec.specs.Calls.Call.{Delete}
use Rattle.host_spec.proofs.CallLemmas.{others_stay}
use Rattle.channel_spec.specs.Channels.{Channels, members_at, has_number, has_repeat, is_in_channel, is_chained}
use Rattle.channel_spec.specs.Steps.{channel_refusal}
use Rattle.channel_spec.specs.Parts.{all_live, lives, on_host, with_members}
use Rattle.channel_spec.specs.Calls.{Call, Does}
use Rattle.channel_spec.specs.Calls.Call.{Chain, Unchain, Remove, Ready, Feed, OfHost}
use Rattle.channel_spec.specs.Laws.{AreHeld}
use Rattle.channel_spec.proofs.PassingLemmas.{fed_passes}
use Rattle.channel_spec.proofs.LivingLemmas.{StillLive, passed_on_live, passes_live}

-- ---- lists

in_channel : (chained : List (List ℕ)) (c i : ℕ) → has_number (members_at chained c) i ≡ true → is_in_channel chained i ≡ true
in_channel [] c i e = absurd (false≢true e)
in_channel (is ∷ chained) zero i e = left_true (has_number is i) (is_in_channel chained i) e
in_channel (is ∷ chained) (suc c) i e = right_true (has_number is i) (is_in_channel chained i) (in_channel chained c i e)

of_equal : (f : ℕ → Bool) (i k : ℕ) (b : Bool) → nat_eq i k ≡ true → f k ≡ b → f i ≡ b
of_equal f i k b e holds = let same : i ≡ k = grind arith in ap f same ∙ holds

all_of : (f : ℕ → Bool) (is : List ℕ) (i : ℕ) → list_all f is ≡ true → has_number is i ≡ true → f i ≡ true
all_of f [] i all has = absurd (false≢true has)
all_of f (k ∷ is) i all has =
    let both = both_true (f k) (list_all f is) all in
    either (true_or_false (nat_eq i k)) (λ e. of_equal f i k true e both.0)
    (λ e. all_of f is i both.1 (sym (ap (λ b. b || has_number is i) e) ∙ has))

none_of : (f : ℕ → Bool) (is : List ℕ) (i : ℕ) → list_any f is ≡ false → has_number is i ≡ true → f i ≡ false
none_of f [] i none has = absurd (false≢true has)
none_of f (k ∷ is) i none has =
    let both = both_false (f k) (list_any f is) none in
    either (true_or_false (nat_eq i k)) (λ e. of_equal f i k false e both.0)
    (λ e. none_of f is i both.1 (sym (ap (λ b. b || has_number is i) e) ∙ has))

-- the members of a channel, after one was given others
abbrev Given : List (List ℕ) → ℕ → List ℕ → ℕ → Type 0
Given chained c is d = ((members_at (set chained c is) d ≡ is) × (d ≡ c)) ⊎ (members_at (set chained c is) d ≡ members_at chained d)

further : (is js : List ℕ) (chained : List (List ℕ)) (c d : ℕ) → Given chained c is d → Given (js ∷ chained) (suc c) is (suc d)
further is js chained c d (inl a) = inl (a.0, ap suc a.1)
further is js chained c d (inr b) = inr b

given : (chained : List (List ℕ)) (c : ℕ) (is : List ℕ) (d : ℕ) → Given chained c is d
given [] c is d = inr refl
given (js ∷ chained) zero is zero = inl (refl, refl)
given (js ∷ chained) zero is (suc d) = inr refl
given (js ∷ chained) (suc c) is zero = inr refl
given (js ∷ chained) (suc c) is (suc d) = further is js chained c d (given chained c is d)

-- ---- calls

module _ {M : Type 0} (before : Channels M) (held : AreHeld before) where
  -- a channel is given members that live, are named once and are in no channel
  module _ (c : ℕ) (is : List ℕ) (all : all_live before.host is ≡ true) (free : list_any (is_in_channel before.chained) is ≡ false) (single : has_repeat is ≡ false) where
    abbrev after : Channels M
    after = with_members before c is

    its : (d : ℕ) → Given before.chained c is d
    its d = given before.chained c is d

    now : (d i : ℕ) (js : List ℕ) → members_at after.chained d ≡ js → has_number (members_at after.chained d) i ≡ true → has_number js i ≡ true
    now d i js e has = sym (ap (λ ks. has_number ks i) e) ∙ has

    apart : {X : Type 0} (d i : ℕ) → has_number is i ≡ true → has_number (members_at before.chained d) i ≡ true → X
    apart d i new old = clash (is_in_channel before.chained i) (in_channel before.chained d i old) (none_of (is_in_channel before.chained) is i free new)

    chained_live : (d i : ℕ) → has_number (members_at after.chained d) i ≡ true → lives before.host i ≡ true
    chained_live d i has =
        either (its d) (λ a. all_of (lives before.host) is i all (now d i is a.0 has))
        (λ b. held.live d i (now d i (members_at before.chained d) b has))

    chained_once : (d : ℕ) → has_repeat (members_at after.chained d) ≡ false
    chained_once d = either (its d) (λ a. ap has_repeat a.0 ∙ single) (λ b. ap has_repeat b ∙ held.once d)

    chained_alone : (d e i : ℕ) → has_number (members_at after.chained d) i ≡ true → has_number (members_at after.chained e) i ≡ true → d ≡ e
    chained_alone d e i one other =
        either (its d)
        (λ a. either (its e) (λ b. a.1 ∙ sym b.1) (λ b. apart e i (now d i is a.0 one) (now e i (members_at before.chained e) b other)))
        (λ a. either (its e) (λ b. apart d i (now e i is b.0 other) (now d i (members_at before.chained d) a one))
        (λ b. held.alone d e i (now d i (members_at before.chained d) a one) (now e i (members_at before.chained e) b other)))

    pub given_held : AreHeld after
    given_held = record { live = chained_live; once = chained_once; alone = chained_alone }

  -- the tests of a chaining
  abbrev chaining : ℕ → List ℕ → (numbers chained live busy : Bool) → Channels M
  chaining c is numbers chained live busy =
      (unless {A = Unit {0}} (first_refusal ((not numbers, Range) ∷ (chained, Taken) ∷ (not live, Missing) ∷ (busy, Busy) ∷ [])) before (Ok tt, with_members before c is)).1

  chain_held : (c : ℕ) (is : List ℕ) (numbers chained live busy : Bool) → all_live before.host is ≡ live
      → (list_any (is_in_channel before.chained) is || has_repeat is) ≡ busy → AreHeld (chaining c is numbers chained live busy)
  chain_held c is false chained live busy l b = held
  chain_held c is true true live busy l b = held
  chain_held c is true false false busy l b = held
  chain_held c is true false true true l b = held
  chain_held c is true false true false l b =
      let both = both_false (list_any (is_in_channel before.chained) is) (has_repeat is) b in
      given_held c is l both.0 both.1

  -- the same channels over a host in which their members live
  pub over_host : (host : State M) → ((c i : ℕ) → has_number (members_at before.chained c) i ≡ true → lives host i ≡ true) → AreHeld (on_host before host)
  over_host host live = record { live = live; once = held.once; alone = held.alone }

  module _ (kinds : Meaning M) where
    abbrev deleting : ℕ → (number none busy : Bool) → Channels M
    deleting i number none busy =
        (unless {A = Unit {0}} (first_refusal ((not number, Range) ∷ (none, Missing) ∷ (busy, Busy) ∷ [])) before (Ok tt, on_host before (steps.delete kinds before.host i).1)).1

    live_apart : (i c j : ℕ) → is_in_channel before.chained i ≡ false → has_number (members_at before.chained c) j ≡ true
        → lives (steps.delete kinds before.host i).1 j ≡ true
    live_apart i c j free has =
        let apart : Some i ≢ Some j = λ e. clash (is_in_channel before.chained j) (in_channel before.chained c j has)
        (ap (λ k. is_in_channel before.chained k) (sym (same_Some i j e)) ∙ free) in
        ap is_some (others_stay kinds before.host (steps.delete kinds before.host i).1 (Delete i (steps.delete kinds before.host i).0) refl j apart) ∙ held.live c j has

    delete_held : (i : ℕ) (number none busy : Bool) → is_in_channel before.chained i ≡ busy → AreHeld (deleting i number none busy)
    delete_held i false none busy b = held
    delete_held i true true busy b = held
    delete_held i true false true b = held
    delete_held i true false false b = over_host (steps.delete kinds before.host i).1 (λ c j has. live_apart i c j b has)

  about_held : (r : Option Refusal) (granted : Channels M) → AreHeld granted → AreHeld (unless {A = Unit {0}} r before (Ok tt, granted)).1
  about_held None granted holds = holds
  about_held (Some r) granted holds = held

  module _ (after : Channels M) where
    by_outcome : (answer : Result (Unit {0}) Refusal) (outcome : Outcome (Channels M) (Unit {0})) → (answer, after) ≡ outcome → AreHeld outcome.1 → AreHeld after
    by_outcome answer outcome e holds = subst AreHeld (sym (ap (λ o. o.1) e)) holds

    still : after.chained ≡ before.chained → StillLive before.host after.host → AreHeld after
    still same live =
        let e : on_host before after.host ≡ after = ap (λ chained. record after { chained = chained }) (sym same) in
        subst AreHeld e (over_host after.host (λ c i has. live i (held.live c i has)))

    pub call_held : (kinds : Meaning M) (call : Call M) → Does kinds before call after → AreHeld after
    call_held kinds (Chain c is answer) does =
        by_outcome answer _ does
        (chain_held c is _ (is_chained (members_at before.chained c)) (all_live before.host is) (list_any (is_in_channel before.chained) is || has_repeat is) refl refl)
    call_held kinds (Unchain c answer) does =
        by_outcome answer _ does (about_held (channel_refusal before c) (with_members before c []) (given_held c [] refl refl refl))
    call_held kinds (Remove i answer) does =
        by_outcome answer _ does (delete_held kinds i _ (is_none (before.host.living i)) (is_in_channel before.chained i) refl)
    call_held kinds (Ready c answer) does = by_outcome answer _ does (about_held (channel_refusal before c) before held)
    call_held kinds (Feed c block out) does = still does.4 (passes_live kinds (members_at before.chained c) before.host after.host block out (fed_passes kinds before after c block out does))
    call_held kinds (OfHost call) does = still does.2 (passed_on_live kinds before.host after.host call does.0 does.1)
