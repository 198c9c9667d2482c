-- What each call answers, case by case.
use Rattle.std.proofs.Common.{◌≡◌, ◌≤◌, ◌<◌, ◌⊎◌, ℕ, Bool, true, false, List, [], ◌∷◌, length, Option, Some, None, Ok, Err, refl, ap, ◌∙◌}
use Rattle.std.specs.Prelude.{not, ◌&&◌, ◌||◌, is_none}
use Rattle.std.specs.List.{list_all, list_any}
use Rattle.std.proofs.lemmas.Bool.{lt-ltb, le-ltb, false≢true, and_from, and_left, and_right}
use Rattle.relocate.proofs.RangeTests.{either}
use Rattle.ialg.specs.declared.refusal.Refusal.TheVariants.{Range, Taken, Missing, Busy}
use Rattle.ialg.specs.Refusals.{first_refusal}
use Rattle.ialg.specs.Meaning.{Meaning}
use Rattle.mem_rec.specs.declared.TheConstants.{INSTANCES}
use Rattle.host_spec.specs.State.{Living, is_instance_number}
use Rattle.host_spec.specs.Steps as steps
use Rattle.host_spec.specs.Steps.{Outcome, unless}
use Rattle.channel_spec.specs.Channels.{Channels, members_at, is_chained, is_in_channel, has_repeat}
use Rattle.channel_spec.specs.Steps.{chain, delete}
use Rattle.channel_spec.specs.Parts.{all_live, is_channel_number, on_host, with_members}

module _ {M : Type 0} (before : Channels M) where
  -- ---- chaining, by its four tests

  abbrev chaining : (c : ℕ) (members : List ℕ) (numbers chained live busy : Bool) → Outcome (Channels M) (Unit {0})
  chaining c members numbers chained live busy =
      unless (first_refusal ((not numbers, Range) ∷ (chained, Taken) ∷ (not live, Missing) ∷ (busy, Busy) ∷ [])) before (Ok tt, with_members before c members)

  abbrev numbers_of : ℕ → List ℕ → Bool
  numbers_of c members = is_channel_number before c && list_all is_instance_number members

  abbrev is_busy : List ℕ → Bool
  is_busy members = list_any (is_in_channel before.chained) members || has_repeat members

  module _ (c : ℕ) (members : List ℕ) where
    tests : (numbers chained live busy : Bool) → numbers_of c members ≡ numbers → is_chained (members_at before.chained c) ≡ chained
        → all_live before.host members ≡ live → is_busy members ≡ busy → chain before c members ≡ chaining c members numbers chained live busy
    tests numbers chained live busy n h l b =
        ap (λ v. chaining c members v (is_chained (members_at before.chained c)) (all_live before.host members) (is_busy members)) n
        ∙ ap (λ v. chaining c members numbers v (all_live before.host members) (is_busy members)) h
        ∙ ap (λ v. chaining c members numbers chained v (is_busy members)) l
        ∙ ap (λ v. chaining c members numbers chained live v) b

    numbers_are : c < length before.chained → list_all is_instance_number members ≡ true → numbers_of c members ≡ true
    numbers_are lt all = and_from (is_channel_number before c) (list_all is_instance_number members) (lt-ltb c (length before.chained) lt) all

    numbers_arent : (length before.chained ≤ c) ⊎ (list_all is_instance_number members ≡ false) → numbers_of c members ≡ false
    numbers_arent out =
        either out (λ le. and_left (is_channel_number before c) (list_all is_instance_number members) (le-ltb c (length before.chained) le))
        (λ no. and_right (is_channel_number before c) (list_all is_instance_number members) no)

    pub chain_range : (length before.chained ≤ c) ⊎ (list_all is_instance_number members ≡ false) → chain before c members ≡ (Err Range, before)
    chain_range out = tests false (is_chained (members_at before.chained c)) (all_live before.host members) (is_busy members) (numbers_arent out) refl refl refl

    pub chain_taken : c < length before.chained → list_all is_instance_number members ≡ true → is_chained (members_at before.chained c) ≡ true
        → chain before c members ≡ (Err Taken, before)
    chain_taken lt all chained = tests true true (all_live before.host members) (is_busy members) (numbers_are lt all) chained refl refl

    pub chain_missing : c < length before.chained → list_all is_instance_number members ≡ true → is_chained (members_at before.chained c) ≡ false
        → all_live before.host members ≡ false → chain before c members ≡ (Err Missing, before)
    chain_missing lt all free dead = tests true false false (is_busy members) (numbers_are lt all) free dead refl

    or_true : (a b : Bool) → (a ≡ true) ⊎ (b ≡ true) → (a || b) ≡ true
    or_true true b e = refl
    or_true false b e = either e (λ no. absurd (false≢true no)) (λ yes. yes)

    or_false : (a b : Bool) → a ≡ false → b ≡ false → (a || b) ≡ false
    or_false a b e f = rw e f

    pub chain_busy : c < length before.chained → list_all is_instance_number members ≡ true → is_chained (members_at before.chained c) ≡ false
        → all_live before.host members ≡ true → (list_any (is_in_channel before.chained) members ≡ true) ⊎ (has_repeat members ≡ true)
        → chain before c members ≡ (Err Busy, before)
    chain_busy lt all free live busy =
        tests true false true true (numbers_are lt all) free live (or_true (list_any (is_in_channel before.chained) members) (has_repeat members) busy)

    pub chain_granted : c < length before.chained → list_all is_instance_number members ≡ true → is_chained (members_at before.chained c) ≡ false
        → all_live before.host members ≡ true → list_any (is_in_channel before.chained) members ≡ false → has_repeat members ≡ false
        → chain before c members ≡ (Ok tt, with_members before c members)
    chain_granted lt all free live none once =
        tests true false true false (numbers_are lt all) free live (or_false (list_any (is_in_channel before.chained) members) (has_repeat members) none once)

  -- ---- calls of one channel

  abbrev about : {A : Type 0} → (number chained : Bool) → Outcome (Channels M) A → Outcome (Channels M) A
  about number chained outcome = unless (first_refusal ((not number, Range) ∷ (not chained, Missing) ∷ [])) before outcome

  module _ {A : Type 0} (c : ℕ) (outcome : Outcome (Channels M) A) where
    abbrev calling : Outcome (Channels M) A
    calling = about (is_channel_number before c) (is_chained (members_at before.chained c)) outcome

    pub about_range : length before.chained ≤ c → calling ≡ (Err Range, before)
    about_range le = ap (λ number. about number (is_chained (members_at before.chained c)) outcome) (le-ltb c (length before.chained) le)

    about_number : c < length before.chained → calling ≡ about true (is_chained (members_at before.chained c)) outcome
    about_number lt = ap (λ number. about number (is_chained (members_at before.chained c)) outcome) (lt-ltb c (length before.chained) lt)

    pub about_missing : c < length before.chained → is_chained (members_at before.chained c) ≡ false → calling ≡ (Err Missing, before)
    about_missing lt free = about_number lt ∙ ap (λ chained. about true chained outcome) free

    pub about_granted : c < length before.chained → is_chained (members_at before.chained c) ≡ true → calling ≡ outcome
    about_granted lt chained = about_number lt ∙ ap (λ v. about true v outcome) chained

  -- ---- deletion

  module _ (kinds : Meaning M) (i : ℕ) where
    abbrev deleting : Bool → Option (Living M) → Bool → Outcome (Channels M) (Unit {0})
    deleting number x busy =
        unless (first_refusal ((not number, Range) ∷ (is_none x, Missing) ∷ (busy, Busy) ∷ [])) before (Ok tt, on_host before (steps.delete kinds before.host i).1)

    tested : (number : Bool) (x : Option (Living M)) (busy : Bool) → is_instance_number i ≡ number → before.host.living i ≡ x
        → is_in_channel before.chained i ≡ busy → delete kinds before i ≡ deleting number x busy
    tested number x busy n l b =
        ap (λ v. deleting v (before.host.living i) (is_in_channel before.chained i)) n
        ∙ ap (λ v. deleting number v (is_in_channel before.chained i)) l
        ∙ ap (λ v. deleting number x v) b

    pub delete_range : INSTANCES ≤ i → delete kinds before i ≡ (Err Range, before)
    delete_range le = tested false (before.host.living i) (is_in_channel before.chained i) (le-ltb i INSTANCES le) refl refl

    pub delete_missing : i < INSTANCES → before.host.living i ≡ None → delete kinds before i ≡ (Err Missing, before)
    delete_missing lt none = tested true None (is_in_channel before.chained i) (lt-ltb i INSTANCES lt) none refl

    pub delete_busy : (x : Living M) → i < INSTANCES → before.host.living i ≡ Some x → is_in_channel before.chained i ≡ true
        → delete kinds before i ≡ (Err Busy, before)
    delete_busy x lt there busy = tested true (Some x) true (lt-ltb i INSTANCES lt) there busy

    pub delete_granted : (x : Living M) → i < INSTANCES → before.host.living i ≡ Some x → is_in_channel before.chained i ≡ false
        → delete kinds before i ≡ (Ok tt, on_host before (steps.delete kinds before.host i).1)
    delete_granted x lt there free = tested true (Some x) false (lt-ltb i INSTANCES lt) there free
