-- What a channel of lawful members gives, and what it leaves, however its samples are cut.
use Rattle.std.proofs.Common.{◌≡◌, ℕ, ℤ, true, false, List, [], ◌∷◌, ◌++◌, Option, Some, None, refl, ap, sym, ◌∙◌, subst, nat_eq}
use Rattle.host_map.specs.Activity.{with_at}
use Rattle.std.proofs.lemmas.Bool.{eq-eqb}
use Rattle.std.specs.Prelude.{IfSome}
use Rattle.relocate.proofs.RangeTests.{left_true, right_true}
use Rattle.ialg.specs.Meaning.{Meaning}
use Rattle.host_spec.specs.State.{Living, State}
use Rattle.host_spec.specs.Choices.{IsLawful}
use Rattle.host_spec.specs.Answers.{output_at}
use Rattle.host_spec.specs.Steps.{given}
use Rattle.host_spec.specs.Calls as host_calls
use Rattle.host_spec.specs.Calls.{Processes}
use Rattle.host_spec.specs.Calls.Call.{Process}
use Rattle.host_spec.proofs.AnswerLemmas.{computed}
use Rattle.channel_spec.specs.Channels.{Channels, members_at, has_number, has_repeat}
use Rattle.channel_spec.specs.Parts.{Passes}
use Rattle.channel_spec.specs.Cuts.{joined, AreAlike, MembersAreLawful, GroupsAreApart, Feeds, FeedsAll}
use Rattle.channel_spec.proofs.PassingLemmas.{fed_passes}
use Rattle.channel_spec.proofs.FlowLemmas.{Instances, grown, fed, flow, flow_twice, flow_of_none, flow_cut, fed_lawful, flow_lawful}
use Rattle.channel_spec.proofs.TurnLemmas.{turned, GroupsApart, turns, turns_of_none, turns_cut, fed_group, flow_apart}

-- what else than instances and activities a host has
pub record SameRoom {M : Type 0} (before after : State M) : Type 0 where
  pub map : after.map ≡ before.map
  pub sizes : after.sizes ≡ before.sizes
  pub poison : after.poison ≡ before.poison
  pub copied : after.copied ≡ before.copied

module _ {M : Type 0} where
  same : (before after : State M) → after ≡ before → SameRoom before after
  same before after e =
      record { map = ap (λ s. s.map) e; sizes = ap (λ s. s.sizes) e; poison = ap (λ s. s.poison) e; copied = ap (λ s. s.copied) e }

  and_then : (before between after : State M) → SameRoom before between → SameRoom between after → SameRoom before after
  and_then before between after first second = record {
    map = second.map ∙ first.map;
    sizes = second.sizes ∙ first.sizes;
    poison = second.poison ∙ first.poison;
    copied = second.copied ∙ first.copied;
  }

  module _ (before : State M) (i : ℕ) (s : ℤ) (block : List ℤ) where
    given_room : (x : Option (Living M)) → SameRoom before (given before i x (s ∷ block))
    given_room None = same before before refl
    given_room (Some x) = record { map = refl; sizes = refl; poison = refl; copied = refl }

module _ {M : Type 0} (kinds : Meaning M) where
  -- ---- one member

  processed_out : (before after : State M) (i : ℕ) (block out : List ℤ) → Processes kinds before i block out after
      → IfSome (before.living i) (IsLawful kinds before.poison) → out ≡ output_at kinds (before.living i) block
  processed_out before after i block out does lawful =
      ap (λ told. told_out told.0) (computed kinds before after (Process i block out) does lawful)
    where
      told_out : host_calls.Call M → List ℤ
      told_out (Process j xs ys) = ys
      told_out _ = []

  processed_turn : (before after : State M) (i : ℕ) (s : ℤ) (block out : List ℤ) → Processes kinds before i (s ∷ block) out after
      → after.activity ≡ turned before.activity i (before.living i) (s ∷ block)
  processed_turn before after i s block out does =
      ap (λ state. state.activity) (does.outcome ∙ ap (λ x. given before i x (s ∷ block)) does.there)
      ∙ ap (λ x. turned before.activity i x (s ∷ block)) (sym does.there)

  processed_living : (before after : State M) (i : ℕ) (s : ℤ) (block out : List ℤ) → Processes kinds before i (s ∷ block) out after
      → after.living ≡ fed before.living i (s ∷ block)
  processed_living before after i s block out does =
      ap (λ state. state.living) (does.outcome ∙ ap (λ x. given before i x (s ∷ block)) does.there)
      ∙ ap (λ x. with_at before.living i (grown x (s ∷ block))) (sym does.there)

  -- ---- members

  abbrev AllLawful : State M → List ℕ → Type 0
  AllLawful state is = (i : ℕ) → has_number is i ≡ true → IfSome (state.living i) (IsLawful kinds state.poison)

  -- what came out, who lives, who is active, and all else
  pub record Flows (before : State M) (is : List ℕ) (block out : List ℤ) (after : State M) : Type 0 where
    pub sound : (out, after.living) ≡ flow kinds before.living is block
    pub turn : GroupsApart before.living is → after.activity ≡ turns kinds before.living before.activity is block
    pub room : SameRoom before after

  paired : (a b : List ℤ) (k l : ℕ → Option (Living M)) → a ≡ b → k ≡ l → ◌≡◌ {A = List ℤ × (ℕ → Option (Living M))} (a, k) (b, l)
  paired a b k l e f = λ i. (e i, f i)

  none_flows : (before after : State M) (is : List ℕ) (out : List ℤ) → out ≡ [] → after ≡ before → Flows before is [] out after
  none_flows before after is out e f =
      record { sound = paired out [] after.living before.living e (ap (λ s. s.living) f) ∙ sym (flow_of_none kinds is before.living); turn = λ apart. ap (λ s. s.activity) f ∙ sym (turns_of_none kinds is before.living before.activity); room = same before after f }

  still_lawful : (before after : State M) (is : List ℕ) → after.poison ≡ before.poison
      → ((i : ℕ) → IfSome (before.living i) (IsLawful kinds before.poison) → IfSome (after.living i) (IsLawful kinds before.poison))
      → AllLawful before is → AllLawful after is
  still_lawful before after is poison still lawful = λ i has.
      subst (λ p. IfSome (after.living i) (IsLawful kinds p)) (sym poison) (still i (lawful i has))

  -- in the groups of the members that are left
  tail_apart : (i : ℕ) (is : List ℕ) (living : Instances M) (block : List ℤ) (now : Instances M) → now ≡ fed living i block → GroupsApart living (i ∷ is) → GroupsApart now is
  tail_apart i is living block now e apart =
      subst (λ l. GroupsApart l is) (sym e)
      (λ j k g has other_has of other_of.
      apart j k g (right_true (nat_eq j i) (has_number is j) has) (right_true (nat_eq k i) (has_number is k) other_has)
      (sym (fed_group kinds living i block g j) ∙ of) (sym (fed_group kinds living i block g k) ∙ other_of))

  passes_flow : (is : List ℕ) (before after : State M) (block out : List ℤ) → AllLawful before is → Passes kinds before is block out after
      → Flows before is block out after
  passes_flow [] before after block out lawful passes =
      record { sound = paired out block after.living before.living passes.0 (ap (λ s. s.living) passes.1); turn = λ apart. ap (λ s. s.activity) passes.1; room = same before after passes.1 }
  passes_flow (i ∷ is) before after [] out lawful passes = none_flows before after (i ∷ is) out passes.0 passes.1
  passes_flow (i ∷ is) before after (s ∷ block) out lawful passes =
      let given_out = passes.0 in
      let between = passes.1 in
      let does = passes.2 in
      let its = processed_out before between i (s ∷ block) given_out does (lawful i (left_true (nat_eq i i) (has_number is i) (eq-eqb i i refl))) in
      let living = processed_living before between i s block given_out does in
      let room = subst (SameRoom before) (sym does.outcome) (given_room before i s block (before.living i)) in
      let still : AllLawful between is =
      still_lawful before between is room.poison
      (λ j l. subst (λ all. IfSome (all j) (IsLawful kinds before.poison)) (sym living) (fed_lawful kinds before.poison j before.living i (s ∷ block) l))
      (λ j has. lawful j (right_true (nat_eq j i) (has_number is j) has)) in
      let rest = passes_flow is between after given_out out still passes.3 in
      record {
        turn = λ apart.
            rest.turn (tail_apart i is before.living (s ∷ block) between.living living apart)
            ∙ ap (λ l. turns kinds l between.activity is given_out) living
            ∙ ap (λ t. turns kinds (fed before.living i (s ∷ block)) t is given_out) (processed_turn before between i s block given_out does)
            ∙ ap (λ b. turns kinds (fed before.living i (s ∷ block)) (turned before.activity i (before.living i) (s ∷ block)) is b) its;
        sound = rest.sound ∙ ap (λ l. flow kinds l is given_out) living ∙ ap (λ b. flow kinds (fed before.living i (s ∷ block)) is b) its;
        room = and_then before between after room rest.room;
      }

  -- ---- channels

  abbrev pub FlowsIn : Channels M → ℕ → List ℤ → List ℤ → Channels M → Type 0
  FlowsIn before c block out after = Flows before.host (members_at before.chained c) block out after.host × (after.chained ≡ before.chained)

  pub feeds_flow : (before after : Channels M) (c : ℕ) (block out : List ℤ) → MembersAreLawful kinds before c → Feeds kinds before c block out after
      → FlowsIn before c block out after
  feeds_flow before after c block out lawful feeds =
      (passes_flow (members_at before.chained c) before.host after.host block out lawful (fed_passes kinds before after c block out feeds), feeds.4)

  -- one cutting

  module _ (before between after : Channels M) (c : ℕ) (xs ys first second : List ℤ) where
    abbrev its : List ℕ
    its = members_at before.chained c

    pub flows_lawful : MembersAreLawful kinds before c → FlowsIn before c xs first between → MembersAreLawful kinds between c
    flows_lawful lawful flows =
        let now : AllLawful between.host its =
        still_lawful before.host between.host its flows.0.room.poison
        (λ j l. subst (λ all. IfSome (all j) (IsLawful kinds before.host.poison)) (sym (ap (λ r. r.1) flows.0.sound))
        (flow_lawful kinds before.host.poison j its before.host.living xs l)) lawful in
        subst (λ is. AllLawful between.host is) (ap (λ all. members_at all c) (sym flows.1)) now

    pub flow_on : has_repeat its ≡ false → FlowsIn before c xs first between → FlowsIn between c ys second after
        → FlowsIn before c (xs ++ ys) (first ++ second) after
    flow_on once one two =
        let on : GroupsApart before.host.living its → after.host.activity ≡ turns kinds before.host.living before.host.activity its (xs ++ ys) =
        λ apart. two.0.turn (subst (λ all. GroupsApart between.host.living (members_at all c)) (sym one.1)
        (subst (λ l. GroupsApart l its) (sym (ap (λ r. r.1) one.0.sound)) (flow_apart kinds its its before.host.living xs apart)))
        ∙ ap (λ all. turns kinds between.host.living between.host.activity (members_at all c) ys) one.1
        ∙ ap (λ r. turns kinds r.1 between.host.activity its ys) one.0.sound
        ∙ ap (λ t. turns kinds (flow kinds before.host.living its xs).1 t its ys) (one.0.turn apart)
        ∙ sym (turns_cut kinds its before.host.living before.host.activity xs ys once apart) in
        let later : (second, after.host.living) ≡ flow kinds between.host.living its ys =
        two.0.sound ∙ ap (λ all. flow kinds between.host.living (members_at all c) ys) one.1 in
        let both : (first ++ second, after.host.living) ≡ flow_twice kinds before.host.living its xs ys =
        ap (λ r. (first ++ r.0, r.1)) later ∙ ap (λ r. (r.0 ++ (flow kinds r.1 its ys).0, (flow kinds r.1 its ys).1)) one.0.sound in (
          record { sound = both ∙ sym (flow_cut kinds its before.host.living xs ys once); turn = on; room = and_then before.host between.host after.host one.0.room two.0.room },
          two.1 ∙ one.1,
        )

  pub all_flow : (blocks : List (List ℤ)) (before after : Channels M) (c : ℕ) (out : List ℤ) → MembersAreLawful kinds before c
      → has_repeat (members_at before.chained c) ≡ false → FeedsAll kinds before c blocks out after → FlowsIn before c (joined blocks) out after
  all_flow [] before after c out lawful once feeds =
      (none_flows before.host after.host (members_at before.chained c) out feeds.0 (ap (λ s. s.host) feeds.1), ap (λ s. s.chained) feeds.1)
  all_flow (block ∷ blocks) before after c out lawful once feeds =
      let first = feeds.0 in
      let second = feeds.1 in
      let between = feeds.2 in
      let one = feeds_flow before between c block first lawful feeds.3 in
      let single : has_repeat (members_at between.chained c) ≡ false = ap (λ all. has_repeat (members_at all c)) one.1 ∙ once in
      let rest = all_flow blocks between after c second (flows_lawful before between after c block (joined blocks) first second lawful one) single feeds.4 in
      subst (λ all. FlowsIn before c (block ++ joined blocks) all after) (sym feeds.5)
      (flow_on before between after c block (joined blocks) first second once one rest)

  -- ---- two cuttings

  pub alike_itself : (channels : Channels M) → AreAlike channels channels
  alike_itself channels = record { living = refl; map = refl; sizes = refl; poison = refl; copied = refl; chained = refl }

  module _ (one one_after other other_after : Channels M) (c : ℕ) where
    abbrev members : List ℕ
    members = members_at one.chained c

    pub alike_lawful : AreAlike one other → MembersAreLawful kinds one c → MembersAreLawful kinds other c
    alike_lawful alike lawful = λ i has.
        subst (λ p. IfSome (other.host.living i) (IsLawful kinds p)) alike.poison
        (subst (λ living. IfSome (living i) (IsLawful kinds one.host.poison)) alike.living (lawful i (ap (λ all. has_number (members_at all c) i) alike.chained ∙ has)))

    pub flows_agree : (block other_block out other_out : List ℤ) → AreAlike one other → block ≡ other_block
        → FlowsIn one c block out one_after → FlowsIn other c other_block other_out other_after
        → (out ≡ other_out) × AreAlike one_after other_after
    flows_agree block other_block out other_out alike same_block flows others =
        let sound : (out, one_after.host.living) ≡ (other_out, other_after.host.living) =
        flows.0.sound
        ∙ ap (λ living. flow kinds living members block) alike.living
        ∙ ap (λ all. flow kinds other.host.living (members_at all c) block) alike.chained
        ∙ ap (λ b. flow kinds other.host.living (members_at other.chained c) b) same_block
        ∙ sym others.0.sound in (
          ap (λ r. r.0) sound,
          record {
            living = ap (λ r. r.1) sound;
            map = flows.0.room.map ∙ alike.map ∙ sym others.0.room.map;
            sizes = flows.0.room.sizes ∙ alike.sizes ∙ sym others.0.room.sizes;
            poison = flows.0.room.poison ∙ alike.poison ∙ sym others.0.room.poison;
            copied = flows.0.room.copied ∙ alike.copied ∙ sym others.0.room.copied;
            chained = flows.1 ∙ alike.chained ∙ sym others.1;
          },
        )

    pub turns_agree : (block other_block out other_out : List ℤ) → GroupsAreApart kinds one c → AreAlike one other → one.host.activity ≡ other.host.activity
        → block ≡ other_block → FlowsIn one c block out one_after → FlowsIn other c other_block other_out other_after
        → one_after.host.activity ≡ other_after.host.activity
    turns_agree block other_block out other_out apart alike active same_block flows others =
        let other_apart : GroupsApart other.host.living (members_at other.chained c) =
        subst (λ all. GroupsApart other.host.living (members_at all c)) alike.chained (subst (λ l. GroupsApart l members) alike.living apart) in
        flows.0.turn apart
        ∙ ap (λ l. turns kinds l one.host.activity members block) alike.living
        ∙ ap (λ all. turns kinds other.host.living one.host.activity (members_at all c) block) alike.chained
        ∙ ap (λ t. turns kinds other.host.living t (members_at other.chained c) block) active
        ∙ ap (λ b. turns kinds other.host.living other.host.activity (members_at other.chained c) b) same_block
        ∙ sym (others.0.turn other_apart)
