-- Channels that get members and lose them.
use Rattle.std.proofs.Common.{◌≡◌, ℕ, Bool, true, false, List, [], ◌∷◌, ◌++◌, length, map, set, take, drop, Option, Some, None, Ok, Err, refl, ap, sym, ◌∙◌, subst}
use Rattle.std.specs.Prelude.{◌&&◌, ◌||◌, not, is_some, is_none, Result}
use Rattle.std.specs.List.{list_all, list_any, refill}
use Rattle.std.proofs.Math.Seq.{take-append_seam}
use Rattle.std.proofs.lemmas.Bool.{false≢true}
use Rattle.std.proofs.lemmas.List.{length-set, map-set}
use Rattle.ialg.specs.declared.refusal.Refusal.{Refusal}
use Rattle.ialg.specs.declared.refusal.Refusal.TheVariants.{Range, Missing, Busy}
use Rattle.ialg.specs.Refusals.{first_refusal}
use Rattle.ialg.specs.Meaning.{Meaning}
use Rattle.ialg.specs.Laws.{Laws}
use Rattle.host_table.specs.declared.member.Member.{Member}
use Rattle.host_spec.specs.State.{Living, State, is_instance_number}
use Rattle.host_spec.specs.Steps as steps
use Rattle.host_spec.specs.Steps.{Outcome, unless}
use Rattle.host_spec.specs.Calls.Call.{Delete}
use Rattle.host_moves.specs.Refinement.{IsLiving}
use Rattle.alg_host.specs.Hosts.{HostState}
use Rattle.alg_host.specs.Hosts as hosts
use Rattle.channel_spec.specs.Channels.{Channels, is_in_channel}
use Rattle.channel_spec.specs.Steps.{delete}
use Rattle.channel_spec.specs.Parts.{all_live, lives, on_host, with_members}
use Rattle.channel_spec.specs.Calls.{Call, Does}
use Rattle.channel_spec.specs.Calls.Call.{Remove}
use Rattle.voice_channel.specs.Channels.{ChannelsState, ChannelsCallRefines}
use Rattle.channel_spec.proofs.HoldingLemmas.{call_held}

-- ---- lists

pub any_of_map : {X Y : Type 0} (p : Y → Bool) (f : X → Y) (xs : List X) → list_any (λ x. p (f x)) xs ≡ list_any p (map f xs)
any_of_map p f [] = refl
any_of_map p f (x ∷ xs) = ap (λ b. p (f x) || b) (any_of_map p f xs)

pub all_alike : {X : Type 0} (p q : X → Bool) → ((x : X) → p x ≡ q x) → (xs : List X) → list_all p xs ≡ list_all q xs
all_alike p q e [] = refl
all_alike p q e (x ∷ xs) = ap (λ b. b && list_all p xs) (e x) ∙ ap (λ b. q x && b) (all_alike p q e xs)

-- as many elements as there were replace all of them
all_kept : {X : Type 0} (xs ws : List X) → length ws ≡ length xs → refill (length xs) xs ws ≡ ws
all_kept xs ws same = ap (λ n. take n (ws ++ drop (length ws) xs)) (sym same) ∙ take-append_seam ws (drop (length ws) xs)

pub written : {X Y : Type 0} (f : X → Y) (xs ys : List X) (c : ℕ) (x : X) → ys ≡ xs → map f (refill (length xs) xs (set ys c x)) ≡ set (map f xs) c (f x)
written f xs ys c x e =
    ap (λ zs. map f (refill (length xs) xs (set zs c x))) e
    ∙ ap (map f) (all_kept xs (set xs c x) (length-set xs c x))
    ∙ map-set f xs c x

-- ---- who lives

some_alike : {M : Type 0} (m : Option (Member M)) (x : Option (Living M)) → IsLiving m x → is_some x ≡ is_some m
some_alike None None is = refl
some_alike None (Some x) is = absurd is
some_alike (Some m) None is = absurd is
some_alike (Some m) (Some x) is = refl

module _ {M : Type 0} (laws : Laws M) where
  pub lives_alike : (host : HostState M) (state : State M) → hosts.HostRefines laws host state → (i : ℕ) → lives state i ≡ hosts.lives host i
  lives_alike host state keeps i = some_alike _ (state.living i) (keeps.kept.tables.living i)

  pub all_live_alike : (host : HostState M) (state : State M) → hosts.HostRefines laws host state
      → (is : List ℕ) → all_live state is ≡ list_all (hosts.lives host) is
  all_live_alike host state keeps is = all_alike (lives state) (hosts.lives host) (lives_alike host state keeps) is

-- ---- members

module _ {M : Type 0} (laws : Laws M) where
  -- a channel was given members, and the host is as it was
  pub given : (call : Call M) (c : ℕ) (is : List ℕ) (old new : ChannelsState M) → new.host ≡ old.host → new.chained ≡ set old.chained c is
      → ((before : Channels M) → before.chained ≡ old.chained → hosts.HostRefines laws old.host before.host
      → Does laws.meaning before call (with_members before c is))
      → ChannelsCallRefines laws call old new
  given call c is old new host chained does = λ before keeps.
      let did = does before keeps.chained keeps.host in (
        with_members before c is,
        did,
        record {
          host = subst (λ h. hosts.HostRefines laws h before.host) (sym host) keeps.host;
          chained = ap (λ x. set x c is) keeps.chained ∙ sym chained;
          held = call_held before keeps.held (with_members before c is) laws.meaning call did;
        },
      )

-- ---- deletions

module _ {M : Type 0} (before : Channels M) where
  as_host : (number none : Bool) (left : State M)
      → unless {A = Unit {0}} (first_refusal ((not number, Range) ∷ (none, Missing) ∷ (false, Busy) ∷ [])) before
      (Ok tt, on_host before (unless {A = Unit {0}} (first_refusal ((not number, Range) ∷ (none, Missing) ∷ [])) before.host (Ok tt, left)).1)
      ≡ (
        (unless {A = Unit {0}} (first_refusal ((not number, Range) ∷ (none, Missing) ∷ [])) before.host (Ok tt, left)).0,
        on_host before (unless {A = Unit {0}} (first_refusal ((not number, Range) ∷ (none, Missing) ∷ [])) before.host (Ok tt, left)).1,
      )
  as_host false none left = refl
  as_host true true left = refl
  as_host true false left = refl

  -- an instance that is in no channel is deleted as the host deletes it
  free_delete : (kinds : Meaning M) (i : ℕ) → is_in_channel before.chained i ≡ false
      → delete kinds before i ≡ ((steps.delete kinds before.host i).0, on_host before (steps.delete kinds before.host i).1)
  free_delete kinds i free =
      ap (λ b. unless {A = Unit {0}} (first_refusal ((not (is_instance_number i), Range) ∷ (is_none (before.host.living i), Missing) ∷ (b, Busy) ∷ [])) before
      (Ok tt, on_host before (steps.delete kinds before.host i).1)) free
      ∙ as_host (is_instance_number i) (is_none (before.host.living i)) (steps.without_instance kinds before.host i (before.host.living i))

  none_of : (x : Option (Living M)) → is_some x ≡ true → is_none x ≡ false
  none_of None some = absurd (false≢true some)
  none_of (Some l) some = refl

  -- one that is in a channel isn't deleted
  pub busy_delete : (kinds : Meaning M) (i : ℕ) → is_instance_number i ≡ true → lives before.host i ≡ true → is_in_channel before.chained i ≡ true → (Err Busy, before) ≡ delete kinds before i
  busy_delete kinds i number living busy =
      let of_tests : Bool → Bool → Bool → Outcome (Channels M) (Unit {0}) =
      λ n m b. unless (first_refusal ((not n, Range) ∷ (m, Missing) ∷ (b, Busy) ∷ [])) before (Ok tt, on_host before (steps.delete kinds before.host i).1) in
      sym
      (ap (λ n. of_tests n (is_none (before.host.living i)) (is_in_channel before.chained i)) number
      ∙ ap (λ m. of_tests true m (is_in_channel before.chained i)) (none_of (before.host.living i) living)
      ∙ ap (of_tests true false) busy)

module _ {M : Type 0} (laws : Laws M) where
  pub removed : (i : ℕ) (answer : Result (Unit {0}) Refusal) (old new : HostState M) (chained : List (List ℕ)) (seen : ChannelsState M)
      → record { host = old; chained = chained } ≡ seen → is_in_channel seen.chained i ≡ false
      → hosts.HostCallRefines laws (Delete i answer) old new
      → ChannelsCallRefines laws (Remove i answer) seen (record { host = new; chained = chained })
  removed i answer old new chained seen e free serves =
      subst (λ s. ChannelsCallRefines laws (Remove i answer) s (record { host = new; chained = chained })) e
      (λ before keeps.
      let did = serves before.host keeps.host in
      let after : Channels M = record before { host = did.0 } in
      let none : is_in_channel before.chained i ≡ false = ap (λ x. is_in_channel x i) keeps.chained ∙ ap (λ s. is_in_channel s.chained i) e ∙ free in
      let does : Does laws.meaning before (Remove i answer) after = ap (λ o. (o.0, on_host before o.1)) did.1 ∙ sym (free_delete before laws.meaning i none) in
      (after, does, record { host = did.2; chained = keeps.chained; held = call_held before keeps.held after laws.meaning (Remove i answer) does }))
