-- Blocks of samples that pass through members.
use Rattle.std.proofs.Common.{◌≡◌, ◌<◌, ◌≤◌, ℕ, ℤ, zero, suc, Bool, true, false, List, [], ◌∷◌, length, ◌==◌, ◌-◌, get_or, take, drop, Option, Some, None, refl, ap, sym, ◌∙◌, subst, nat_eq, arith, inl, inr}
use Rattle.std.specs.Prelude.{not, IfNone, IfSome}
use Rattle.std.specs.List.{list_all}
use Rattle.std.proofs.Math.Nat.{not-suc-le-zero}
use Rattle.std.proofs.lemmas.List.{take_all}
use Rattle.std.proofs.lemmas.Bool.{lt-ltb, false≢true, and_from}
use Rattle.relocate.proofs.RangeTests.{both_true, left_true, right_true}
use Rattle.ialg.specs.declared.refusal.Refusal.TheVariants.{Range, Missing}
use Rattle.ialg.specs.Refusals.{first_refusal}
use Rattle.ialg.specs.Laws.{Laws}
use Rattle.host_spec.specs.State.{State}
use Rattle.host_spec.specs.Calls.Call.{Lives, Process}
use Rattle.alg_host.specs.Hosts.{HostState}
use Rattle.alg_host.specs.Hosts as hosts
use Rattle.channel_spec.specs.Channels.{Channels, members_at, is_chained, has_number}
use Rattle.channel_spec.specs.Steps.{channel_refusal}
use Rattle.channel_spec.specs.Parts.{Passes, all_live, lives, on_host}
use Rattle.channel_spec.proofs.PassingLemmas.{asked_of}
use Rattle.channel_spec.specs.Cuts.{Feeds}
use Rattle.channel_spec.specs.Calls.Call.{Feed}
use Rattle.channel_spec.proofs.LivingLemmas.{passes_live}
use Rattle.voice_channel.specs.Channels.{ChannelsState, PassesThrough, ChannelsCallRefines}
use Rattle.channel_spec.proofs.HoldingLemmas.{call_held}
use Rattle.std.proofs.lemmas.Bool.Decides.{eqb_tells}

-- ---- lists

-- a list with a first number is that number before the others
pub first_before : (is : List ℕ) → 1 ≤ length is → is ≡ get_or is 0 0 ∷ take (length is - 1) (drop 1 is)
first_before [] b = absurd (omega arith)
first_before (i ∷ is) b = sym (ap (λ js. i ∷ js) (take_all (length (i ∷ is) - 1) is (omega arith)))

-- a list of one number
pub one_alone : (is : List ℕ) → 1 ≤ length is → length is < 2 → is ≡ get_or is 0 0 ∷ []
one_alone [] some few = absurd (omega arith)
one_alone (i ∷ []) some few = refl
one_alone (i ∷ j ∷ is) some few = absurd (omega arith)

-- a list with two is these before the others
pub first_two_before : (is : List ℕ) → 2 ≤ length is → is ≡ get_or is 0 0 ∷ get_or is 1 0 ∷ take (length is - 2) (drop 2 is)
first_two_before [] b = absurd (omega arith)
first_two_before (i ∷ []) b = absurd (omega arith)
first_two_before (i ∷ j ∷ is) b = sym (ap (λ js. i ∷ j ∷ js) (take_all (length (i ∷ j ∷ is) - 2) is (omega arith)))

-- a block that isn't empty has a sample
pub some_samples : (block : List ℤ) → false ≡ (length block == 0) → 1 ≤ length block
some_samples [] e = absurd (false≢true e)
some_samples (s ∷ block) e = omega arith

all_more : (p q : ℕ → Bool) → ((i : ℕ) → p i ≡ true → q i ≡ true) → (is : List ℕ) → list_all p is ≡ true → list_all q is ≡ true
all_more p q more [] all = refl
all_more p q more (i ∷ is) all =
    let both = both_true (p i) (list_all p is) all in
    and_from (q i) (list_all q is) (more i both.0) (all_more p q more is both.1)

all_named : (p : ℕ → Bool) (is : List ℕ) → ((i : ℕ) → has_number is i ≡ true → p i ≡ true) → list_all p is ≡ true
all_named p [] holds = refl
all_named p (k ∷ is) holds =
    let same : nat_eq k k ≡ true = grind arith in
    and_from (p k) (list_all p is) (holds k (left_true (nat_eq k k) (has_number is k) same))
    (all_named p is (λ i has. holds i (right_true (nat_eq i k) (has_number is i) has)))

-- a channel that has members is one
number_of : (chained : List (List ℕ)) (c : ℕ) → is_chained (members_at chained c) ≡ true → c < length chained
number_of [] c e = absurd (false≢true e)
number_of (is ∷ chained) zero e = omega arith
number_of (is ∷ chained) (suc c) e = let below = number_of chained c e in omega arith

ready_of : {M : Type 0} (before : Channels M) (c : ℕ) → is_chained (members_at before.chained c) ≡ true → channel_refusal before c ≡ None
ready_of before c some =
    ap (λ b. first_refusal ((not b, Range) ∷ (not (is_chained (members_at before.chained c)), Missing) ∷ []))
    (lt-ltb c (length before.chained) (number_of before.chained c some))
    ∙ ap (λ b. first_refusal ((not true, Range) ∷ (not b, Missing) ∷ [])) some

module _ {M : Type 0} (laws : Laws M) where
  -- ---- members

  -- one member took the block
  pub ran : (i : ℕ) (block given : List ℤ) (old new : HostState M) → 1 ≤ length block
      → hosts.HostCallRefines laws (Process i block given) old new
      → PassesThrough laws (i ∷ []) block given old new
  ran i [] given old new some serves = absurd (not-suc-le-zero some)
  ran i (s ∷ block) given old new some serves = λ before keeps live.
      let did = serves before keeps in
      (did.0, (given, did.0, did.1, (refl, refl)), did.2)

  -- an empty block is given to nobody
  pub not_given : (i : ℕ) (block given : List ℤ) (old : HostState M) → true ≡ (length block == 0) → given ≡ [] → PassesThrough laws (i ∷ []) block given old old
  not_given i [] given old empty none = λ before keeps live. (before, (none, refl), keeps)
  not_given i (s ∷ block) given old empty none =
      elim (eqb_tells (length (s ∷ block)) 0) [
        | inl e ↦ absurd (omega (arith, e.1))
        | inr e ↦ absurd (false≢true (sym (empty ∙ e.0)))
      ]

  -- a member that isn't there was not asked of
  pub not_there : (i : ℕ) (block given : List ℤ) (old : HostState M) → hosts.HostCallRefines laws (Lives i false) old old → PassesThrough laws (i ∷ []) block given old old
  not_there i block given old answers = λ before keeps live.
      let did = answers before keeps in
      absurd (false≢true (did.1.0 ∙ (both_true (lives before i) true live).0))

  -- an empty block passes through nobody
  nothing : (is : List ℕ) (before after : State M) (out : List ℤ) → Passes laws.meaning before is [] out after → (out ≡ []) × (after ≡ before)
  nothing [] before after out passes = passes
  nothing (i ∷ is) before after out passes = passes

  nobody : (i : ℕ) (is : List ℕ) (before after end : State M) (given out : List ℤ)
      → (given ≡ []) × (after ≡ before) → Passes laws.meaning after is given out end → Passes laws.meaning before (i ∷ is) [] out end
  nobody i is before after end given out same passes =
      let empty = subst (λ b. Passes laws.meaning after is b out end) same.0 passes in
      subst (λ s. (out ≡ []) × (end ≡ s)) same.1 (nothing is after end out empty)

  then_those : (i : ℕ) (is : List ℕ) (before between end : State M) (block given out : List ℤ)
      → Passes laws.meaning before (i ∷ []) block given between → Passes laws.meaning between is given out end → Passes laws.meaning before (i ∷ is) block out end
  then_those i is before between end [] given out one further = nobody i is before between end given out one further
  then_those i is before between end (s ∷ block) given out one further =
      let from_it = subst (λ g. Passes laws.meaning between is g out end) one.3.0 further in
      (one.0, one.1, one.2, subst (λ b. Passes laws.meaning b is one.0 out end) one.3.1 from_it)

  -- what one member gave passed through those behind it
  passes_on : (i : ℕ) (is : List ℕ) (block given out : List ℤ) (old between new : HostState M)
      → PassesThrough laws (i ∷ []) block given old between
      → PassesThrough laws is given out between new
      → PassesThrough laws (i ∷ is) block out old new
  passes_on i is block given out old between new one further = λ before keeps live.
      let both = both_true (lives before i) (all_live before is) live in
      let did = one before keeps (and_from (lives before i) true both.0 refl) in
      let still = passes_live laws.meaning (i ∷ []) before did.0 block given did.1 in
      let end = further did.0 did.2 (all_more (lives before) (lives did.0) still is both.1) in
      (end.0, then_those i is before did.0 end.0 block given out did.1 end.1, end.2)

  -- the same, where the first of the members took what it read in the block
  pub first_of_them : (i : ℕ) (members is : List ℕ) (block read given out : List ℤ) (old between new : HostState M) → members ≡ i ∷ is → read ≡ block
      → PassesThrough laws (i ∷ []) read given old between
      → PassesThrough laws is given out between new
      → PassesThrough laws members block out old new
  first_of_them i members is block read given out old between new those same one further =
      subst (λ js. PassesThrough laws js block out old new) (sym those)
      (passes_on i is block given out old between new
      (subst (λ b. PassesThrough laws (i ∷ []) b given old between) same one) further)

  -- the same, where nobody is behind it
  pub last_of_them : (i : ℕ) (behind : List ℕ) (block read given : List ℤ) (old new : HostState M) → length behind < 1 → read ≡ block
      → PassesThrough laws (i ∷ []) read given old new
      → PassesThrough laws (i ∷ behind) block given old new
  last_of_them i [] block read given old new none same one = subst (λ b. PassesThrough laws (i ∷ []) b given old new) same one
  last_of_them i (j ∷ is) block read given old new none same one = absurd (omega arith)

  -- ---- a channel

  pub fed : (c : ℕ) (block out : List ℤ) (old new : ChannelsState M) → is_chained (members_at old.chained c) ≡ true → new.chained ≡ old.chained
      → PassesThrough laws (members_at old.chained c) block out old.host new.host
      → ChannelsCallRefines laws (Feed c block out) old new
  fed c block out old new some same through = λ before keeps.
      let its : members_at before.chained c ≡ members_at old.chained c = ap (λ x. members_at x c) keeps.chained in
      let live = subst (λ is. all_live before.host is ≡ true) its
      (all_named (lives before.host) (members_at before.chained c) (keeps.held.live c)) in
      let end = through before.host keeps.host live in
      let after : Channels M = on_host before end.0 in
      let asked = asked_of laws.meaning (members_at before.chained c) before.host end.0 block out
      (subst (λ is. Passes laws.meaning before.host is block out end.0) (sym its) end.1) in
      let does : Feeds laws.meaning before c block out after = (ready_of before c (ap is_chained its ∙ some), asked.0, asked.1, asked.2, refl) in
      (after, does, record { host = end.2; chained = keeps.chained ∙ sym same; held = call_held before keeps.held after laws.meaning (Feed c block out) does })

  -- of a sample: where it was told, and where it was not
  pub fed_told : (c : ℕ) (x : ℤ) (told : Option ℤ) (old new : ChannelsState M) → is_chained (members_at old.chained c) ≡ true → new.chained ≡ old.chained
      → IfSome told (λ y. PassesThrough laws (members_at old.chained c) (x ∷ []) (y ∷ []) old.host new.host)
      → IfSome told (λ y. ChannelsCallRefines laws (Feed c (x ∷ []) (y ∷ [])) old new)
  fed_told c x None old new some same through = tt
  fed_told c x (Some y) old new some same through = fed c (x ∷ []) (y ∷ []) old new some same through

  pub fed_untold : (c : ℕ) (x : ℤ) (out : List ℤ) (told : Option ℤ) (old new : ChannelsState M) → is_chained (members_at old.chained c) ≡ true → new.chained ≡ old.chained
      → IfNone told (PassesThrough laws (members_at old.chained c) (x ∷ []) out old.host new.host)
      → IfNone told (ChannelsCallRefines laws (Feed c (x ∷ []) out) old new)
  fed_untold c x out None old new some same through = fed c (x ∷ []) out old new some same through
  fed_untold c x out (Some y) old new some same through = tt
