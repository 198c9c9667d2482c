-- What a console does, one without memory may do.
use Rattle.std.proofs.lemmas.Bool.Decides.{eqb_tells}
use Rattle.relocate.proofs.RangeTests.{either}
use Rattle.std.proofs.Common.{◌≡◌, ℕ, ℤ, Bool, true, false, List, [], ◌∷◌, length, Option, Some, None, Result, Ok, Err, refl, ap, sym, ◌∙◌, subst}
use Rattle.std.specs.Prelude.{not, ◌&&◌, ◌||◌, set, is_some, is_none, IsTrue, option_map, nat_eq, nat_lt, if◌then◌else◌}
use Rattle.std.specs.List.{list_all, list_any}
use Rattle.mem_rec.specs.declared.MemRec.{MemRec}
use Rattle.mem_rec.specs.declared.Space.{Space}
use Rattle.ialg.specs.declared.refusal.Refusal.{Refusal}
use Rattle.ialg.specs.declared.refusal.Refusal.TheVariants.{Range, Taken, Missing, Busy, Command}
use Rattle.ialg.specs.Refusals.{first_refusal}
use Rattle.ialg.specs.History as history
use Rattle.ialg.specs.History.{Ctl, with_samples}
use Rattle.ialg.specs.Meaning.{Meaning, Status}
use Rattle.host_map.specs.declared.parts.Sizes.{Sizes}
use Rattle.host_map.specs.declared.placed.Placed.{Placed}
use Rattle.host_map.specs.Moves.{next_block}
use Rattle.host_map.specs.MemoryMap.{MemoryMap, blocks_in}
use Rattle.host_map.specs.Creation.{created_map}
use Rattle.host_map.specs.Activity.{with_at}
use Rattle.host_spec.specs.State.{Living, State, sharers_of, is_instance_number, is_group_number}
use Rattle.host_spec.specs.Steps as steps
use Rattle.host_spec.specs.Steps.{Outcome, unless, newborn, with_room, with_memory}
use Rattle.host_spec.specs.Choices as choices
use Rattle.channel_spec.specs.Channels.{Channels, has_repeat, is_chained, is_in_channel, members_at}
use Rattle.channel_spec.specs.Parts as parts
use Rattle.channel_spec.specs.Steps as channel_steps
use Rattle.channel_spec.proofs.PassingLemmas.{fed_passes}
use Rattle.voice_script.specs.Script as script
use Rattle.voice_script.specs.Script.{parsed}
use Rattle.voice_script.specs.Replies as replies
use Rattle.voice_script.specs.Replies.{Reply}
use Rattle.voice_script.specs.Served as asks
use Rattle.voice_script.specs.Served.{Answer, Asked, LinesAnswer, Tell}
use Rattle.voice_script.specs.Widths.{Widths, octet_count}
use Rattle.console_spec.specs.Samples.{samples_at}
use Rattle.console_spec.specs.Console.{CommandAsks, LineAsks, by_answer, console_machine, start, status_reply}
use Rattle.console_spec.specs.Sounds as sounding
use Rattle.console_spec.specs.Sounds.{Playing, Sounding, Sounds, sound_machine, silence, told, born, with_instance}
use Rattle.console_spec.proofs.FollowLemmas.{Follows, lines_so}

-- the space in which there was no room
lack_in : Result MemoryMap Space → Option Space
lack_in (Ok map) = None
lack_in (Err space) = Some space

module _ {M : Type 0} where
  -- an instance without its memory and its group
  abbrev playing : Living M → Playing M
  playing x = record { kind = x.kind; params = x.params; history = x.history }

  abbrev played : Option (Living M) → Option (Playing M)
  played x = option_map playing x

  -- the same instances live
  abbrev Lives : Sounding M → State M → Type 0
  Lives q host = (i : ℕ) → q.living i ≡ played (host.living i)

  is_some_so : (x : Option (Living M)) → is_some (played x) ≡ is_some x
  is_some_so None = refl
  is_some_so (Some x) = refl

  is_none_so : (x : Option (Living M)) → is_none (played x) ≡ is_none x
  is_none_so None = refl
  is_none_so (Some x) = refl

  set_so : (q : Sounding M) (host : State M) (i : ℕ) (x : Option (Living M)) → Lives q host → Lives (with_instance q i (played x)) (record host { living = with_at host.living i x })
  set_so q host i x lives j = chosen (nat_eq j i)
    where
      chosen : (b : Bool) → (if b then played x else q.living j) ≡ played (if b then x else host.living j)
      chosen true = refl
      chosen false = lives j

  module _ (q : Sounding M) (host : State M) (lives : Lives q host) where
    some_here : (i : ℕ) → is_some (q.living i) ≡ is_some (host.living i)
    some_here i = ap is_some (lives i) ∙ is_some_so (host.living i)

    none_here : (i : ℕ) → is_none (q.living i) ≡ is_none (host.living i)
    none_here i = ap is_none (lives i) ∙ is_none_so (host.living i)

    all_here : (is : List ℕ) → list_all (λ i. is_some (q.living i)) is ≡ list_all (λ i. is_some (host.living i)) is
    all_here [] = refl
    all_here (i ∷ is) = ap (λ b. b && list_all (λ j. is_some (q.living j)) is) (some_here i) ∙ ap (λ b. is_some (host.living i) && b) (all_here is)

  -- the same answer, and a state that shows the other's
  abbrev Same : {S A : Type 0} → (Sounding M → S → Type 0) → Outcome (Sounding M) A → Outcome S A → Type 0
  Same Shows o p = (o.0 ≡ p.0) × Shows o.1 p.1

  unless_so : {S A : Type 0} (Shows : Sounding M → S → Type 0) (r s : Option Refusal) (q : Sounding M) (before : S) (o : Outcome (Sounding M) A) (p : Outcome S A)
      → r ≡ s → Shows q before → Same Shows o p → Same Shows (unless r q o) (unless s before p)
  unless_so Shows r s q before o p e shows same = subst (λ t. Same Shows (unless r q o) (unless t before p)) e (chosen r)
    where
      chosen : (t : Option Refusal) → Same Shows (unless t q o) (unless t before p)
      chosen None = same
      chosen (Some refusal) = (refl, shows)

  lack_of : Meaning M → State M → ℕ → M → ℕ → List ℤ → Option (List MemRec) → Option Space
  lack_of kinds host i kind g p None = None
  lack_of kinds host i kind g p (Some table) = lack_in (created_map host.sizes host.map i g table (sharers_of kinds host.living (newborn kind g p table)))

  -- ---- a host of this poison word under channels of these members

  module _ (poison : Option ℤ) (chained : List (List ℕ)) where
    abbrev pub Shows : Sounding M → State M → Type 0
    Shows q host = Lives q host × (q.chained ≡ chained) × (host.poison ≡ poison)

    room_so : (q : Sounding M) (host : State M) (i : ℕ) (kind : M) (g : ℕ) (p : List ℤ) (table : List MemRec) (placed : Result MemoryMap Space)
        → Shows q host → Same Shows (born q i kind p true (lack_in placed)) (with_room host i (newborn kind g p table) table placed)
    unfolding lack_in
    room_so q host i kind g p table (Ok map) shows = (refl, (set_so q host i (Some (newborn kind g p table)) shows.0, shows.1, shows.2))
    room_so q host i kind g p table (Err space) shows = (refl, shows)

    memory_so : (kinds : Meaning M) (q : Sounding M) (host : State M) (i : ℕ) (kind : M) (g : ℕ) (p : List ℤ) (table : Option (List MemRec))
        → Shows q host → Same Shows (born q i kind p (is_some table) (lack_of kinds host i kind g p table)) (with_memory kinds host i kind g p table)
    unfolding lack_of
    memory_so kinds q host i kind g p None shows = (refl, shows)
    memory_so kinds q host i kind g p (Some table) shows =
        room_so q host i kind g p table (created_map host.sizes host.map i g table (sharers_of kinds host.living (newborn kind g p table))) shows

    create_so : (kinds : Meaning M) (q : Sounding M) (host : State M) (i : ℕ) (kind : M) (g : ℕ) (p : List ℤ) (table : Option (List MemRec))
        → Shows q host → Same Shows (sounding.create q i kind g p (is_some table) (lack_of kinds host i kind g p table)) (steps.create kinds host i kind g p table)
    create_so kinds q host i kind g p table shows =
        unless_so Shows _ (steps.create_refusal host i g) q host _ (with_memory kinds host i kind g p table)
        (ap (λ b. first_refusal ((not (is_instance_number i && is_group_number g), Range) ∷ (b, Taken) ∷ [])) (some_here q host shows.0 i))
        shows (memory_so kinds q host i kind g p table shows)

    controlled_so : (q : Sounding M) (host : State M) (i : ℕ) (c : Ctl) (x : Option (Living M)) → Shows q host
        → Shows (sounding.controlled q i (played x) c) (steps.controlled host i x c)
    controlled_so q host i c None shows = shows
    controlled_so q host i c (Some x) shows = (set_so q host i (Some (record x { history = history.Control c ∷ x.history })) shows.0, shows.1, shows.2)

    control_so : (q : Sounding M) (host : State M) (i : ℕ) (c : Ctl) (taken : Bool) (status : Status) → Shows q host
        → Same Shows (sounding.control q i c taken status) (steps.control host i c taken status)
    control_so q host i c taken status shows =
        unless_so Shows _ (steps.control_refusal host i taken) q host _ (Ok status, steps.controlled host i (host.living i) c)
        (ap (λ b. first_refusal ((not (is_instance_number i), Range) ∷ (b, Missing) ∷ (not taken, Command) ∷ [])) (none_here q host shows.0 i))
        shows
        (refl, subst (λ (y : Option (Playing M)). Shows (sounding.controlled q i y c) (steps.controlled host i (host.living i) c)) (sym (shows.0 i)) (controlled_so q host i c (host.living i) shows))

    -- a block that passes through members
    passes_so : (kinds : Meaning M) (is : List ℕ) (q : Sounding M) (host after : State M) (block out : List ℤ) → Shows q host → parts.Passes kinds host is block out after
        → (next : Sounding M) × sounding.Passes kinds poison is q block out next × Shows next after
    passes_so kinds [] q host after block out shows a = (q, (a.0, refl), subst (Shows q) (sym a.1) shows)
    passes_so kinds (i ∷ is) q host after [] out shows a = (q, (a.0, refl), subst (Shows q) (sym a.1) shows)
    passes_so kinds (i ∷ is) q host after (s ∷ block) out shows a =
        let does = a.2 in
        let x = does.instance in
        let grown : Living M = record x { history = with_samples x.history (s ∷ block) } in
        let mid = with_instance q i (Some (playing grown)) in
        let outcome : a.1 ≡ steps.given host i (Some x) (s ∷ block) = does.outcome ∙ ap (λ y. steps.given host i y (s ∷ block)) does.there in
        let there : Shows mid a.1 = subst (Shows mid) (sym outcome) (set_so q host i (Some grown) shows.0, shows.1, shows.2) in
        let rest = passes_so kinds is mid a.1 after a.0 out there a.3 in (
          rest.0,
          (
            playing x,
            a.0,
            shows.0 i ∙ ap played does.there,
            (λ lawful. does.gives.lawful (subst (λ w. IsTrue (kinds.lawful x.kind x.params w)) (sym shows.2) lawful), does.gives.bounded),
            rest.1,
          ),
          rest.2,
        )

  -- ---- channels

  module _ (kinds : Meaning M) (poison : Option ℤ) where
    abbrev pub ShowsAll : Sounding M → Channels M → Type 0
    ShowsAll q s = Shows poison s.chained q s.host

    gone_so : (q : Sounding M) (host : State M) (i : ℕ) (x : Option (Living M)) → host.living i ≡ x → Lives q host
        → Lives (with_instance q i None) (steps.without_instance kinds host i x)
    gone_so q host i (Some x) there lives = set_so q host i None lives
    gone_so q host i None there lives = λ j.
        either (eqb_tells j i)
        (λ same. ap (λ b. if b then None else q.living j) same.0 ∙ sym (ap played (ap host.living same.1 ∙ there)))
        (λ apart. ap (λ b. if b then None else q.living j) apart.0 ∙ lives j)

    poison_left : (host : State M) (i : ℕ) (x : Option (Living M)) → (steps.without_instance kinds host i x).poison ≡ host.poison
    poison_left host i None = refl
    poison_left host i (Some x) = refl

    -- a deletion that channels grant is one that their host grants
    deleted_so : (range none busy : Bool) (q : Sounding M) (s : Channels M) (gone : State M) (next : Sounding M) → ShowsAll q s → Shows poison s.chained next gone
        → Same ShowsAll (unless (first_refusal ((range, Range) ∷ (none, Missing) ∷ (busy, Busy) ∷ [])) q (Ok (tt {0}), next))
        (unless (first_refusal ((range, Range) ∷ (none, Missing) ∷ (busy, Busy) ∷ [])) s
        (Ok (tt {0}), parts.on_host s (unless (first_refusal ((range, Range) ∷ (none, Missing) ∷ [])) s.host (Ok (tt {0}), gone)).1))
    deleted_so true none busy q s gone next shows later = (refl, shows)
    deleted_so false true busy q s gone next shows later = (refl, shows)
    deleted_so false false true q s gone next shows later = (refl, shows)
    deleted_so false false false q s gone next shows later = (refl, later)

    delete_so : (q : Sounding M) (s : Channels M) (i : ℕ) → ShowsAll q s → Same ShowsAll (sounding.delete q i) (channel_steps.delete kinds s i)
    delete_so q s i shows =
        let gone = steps.without_instance kinds s.host i (s.host.living i) in
        let later : Shows poison s.chained (with_instance q i None) gone =
        (gone_so q s.host i (s.host.living i) refl shows.0, shows.1, poison_left s.host i (s.host.living i) ∙ shows.2) in
        subst (λ b. Same ShowsAll (unless (first_refusal ((not (is_instance_number i), Range) ∷ (b, Missing) ∷ (is_in_channel q.chained i, Busy) ∷ [])) q (Ok tt, with_instance q i None)) (channel_steps.delete kinds s i)) (sym (none_here q s.host shows.0 i))
        (subst (λ ch. Same ShowsAll (unless (first_refusal ((not (is_instance_number i), Range) ∷ (is_none (s.host.living i), Missing) ∷ (is_in_channel ch i, Busy) ∷ [])) q (Ok tt, with_instance q i None)) (channel_steps.delete kinds s i)) (sym shows.1)
        (deleted_so (not (is_instance_number i)) (is_none (s.host.living i)) (is_in_channel s.chained i) q s gone (with_instance q i None) shows later))

    members_so : (q : Sounding M) (s : Channels M) (c : ℕ) (is : List ℕ) → ShowsAll q s → ShowsAll (sounding.with_members q c is) (parts.with_members s c is)
    members_so q s c is shows = (shows.0, ap (λ ch. set ch c is) shows.1, shows.2)

    abbrev refusing : ℕ → List ℕ → List (List ℕ) → Bool → Option Refusal
    refusing c is ch all =
        first_refusal (
        (not (nat_lt c (length ch) && list_all is_instance_number is), Range) ∷
        (is_chained (members_at ch c), Taken) ∷
        (not all, Missing) ∷
        (list_any (is_in_channel ch) is || has_repeat is, Busy) ∷ [])

    chain_so : (q : Sounding M) (s : Channels M) (c : ℕ) (is : List ℕ) → ShowsAll q s → Same ShowsAll (sounding.chain q c is) (channel_steps.chain s c is)
    chain_so q s c is shows =
        unless_so ShowsAll _ (parts.chain_refusal s c is) q s _ (Ok tt, parts.with_members s c is)
        (ap (λ ch. refusing c is ch (list_all (λ i. is_some (q.living i)) is)) shows.1 ∙ ap (refusing c is s.chained) (all_here q s.host shows.0 is))
        shows (refl, members_so q s c is shows)

    channel_so : (q : Sounding M) (s : Channels M) (c : ℕ) (next : Sounding M) (after : Channels M) → ShowsAll q s → ShowsAll next after
        → Same ShowsAll (unless (first_refusal ((not (nat_lt c (length q.chained)), Range) ∷ (not (is_chained (members_at q.chained c)), Missing) ∷ [])) q (Ok (tt {0}), next))
        (unless (channel_steps.channel_refusal s c) s (Ok (tt {0}), after))
    channel_so q s c next after shows later =
        unless_so ShowsAll _ (channel_steps.channel_refusal s c) q s (Ok tt, next) (Ok tt, after)
        (ap (λ ch. first_refusal ((not (nat_lt c (length ch)), Range) ∷ (not (is_chained (members_at ch c)), Missing) ∷ [])) shows.1) shows (refl, later)

    -- ---- what is asked

    tell_in : {A : Type 0} (reply : A → Reply) (answer : Result A Refusal)
        → Tell (by_answer reply replies.No answer) ≡ by_answer (λ a. Tell (reply a)) (λ refusal. Tell (replies.No refusal)) answer
    tell_in reply (Ok a) = refl
    tell_in reply (Err refusal) = refl

    told_so : {S A : Type 0} (asked_of : A → Asked) (o : Outcome (Sounding M) A) (p : Outcome S A) (answer : Result A Refusal) (asked : Asked) (after : S)
        → o.0 ≡ p.0 → (answer, after) ≡ p → asked ≡ by_answer asked_of (λ refusal. Tell (replies.No refusal)) answer → (asked, o.1) ≡ told asked_of o
    told_so asked_of o p answer asked after same e is =
        ap (λ a. (a, o.1)) (is ∙ ap (by_answer asked_of (λ refusal. Tell (replies.No refusal))) (ap (λ r. r.0) e ∙ sym same))

    abbrev Next : (Asked × Sounding M → Type 0) → Asked → Channels M → Type 0
    Next May asked after = (next : Sounding M) × May (asked, next) × ShowsAll next after

    -- by the channels, and by their host
    by_channels : {A : Type 0} (asked_of : A → Asked) (o : Outcome (Sounding M) A) (p : Outcome (Channels M) A) (answer : Result A Refusal) (asked : Asked) (after : Channels M)
        → Same ShowsAll o p → (answer, after) ≡ p → asked ≡ by_answer asked_of (λ refusal. Tell (replies.No refusal)) answer
        → Next (λ next. next ≡ told asked_of o) asked after
    by_channels asked_of o p answer asked after same e is =
        (o.1, told_so asked_of o p answer asked after same.0 e is, subst (ShowsAll o.1) (sym (ap (λ r. r.1) e)) same.1)

    on_host : (q : Sounding M) (s after : Channels M) (host : State M) → after.host ≡ host → after.chained ≡ s.chained → Shows poison s.chained q host → ShowsAll q after
    on_host q s after host e f shows =
        subst (λ ch. Shows poison ch q after.host) (sym f) (subst (Shows poison s.chained q) (sym e) shows)

    by_host : {A : Type 0} (asked_of : A → Asked) (s : Channels M) (o : Outcome (Sounding M) A) (p : Outcome (State M) A) (answer : Result A Refusal) (asked : Asked) (after : Channels M)
        → Same (Shows poison s.chained) o p → (answer, after.host) ≡ p → after.chained ≡ s.chained → asked ≡ by_answer asked_of (λ refusal. Tell (replies.No refusal)) answer
        → Next (λ next. next ≡ told asked_of o) asked after
    by_host asked_of s o p answer asked after same e f is =
        (o.1, told_so asked_of o p answer asked after.host same.0 e is, on_host o.1 s after p.1 (ap (λ r. r.1) e) f same.1)

    moving_so : (q : Sounding M) (s : Channels M) (space : Space) (b : Option Placed) → ShowsAll q s → Shows poison s.chained q (steps.moving s.host space b).1
    moving_so q s space None shows = shows
    moving_so q s space (Some b) shows = shows

    may_answer : (q : Sounding M) (s : Channels M) (i : ℕ) (c : Ctl) (taken : Bool) (status : Status) (x : Option (Living M)) → s.host.poison ≡ poison → s.host.living i ≡ x
        → ((y : Living M) → s.host.living i ≡ Some y → choices.MayAnswer kinds s.host.poison y c taken status)
        → sounding.MayAnswer kinds poison (played x) c taken status
    may_answer q s i c taken status None same there answers = tt
    may_answer q s i c taken status (Some x) same there answers = λ lawful.
        let its = subst (λ w. IsTrue (kinds.lawful x.kind x.params w)) (sym same) lawful in
        ((answers x there).acceptance its, (answers x there).answer its)

    command_so : (widths : Widths) (command : script.Command M) (q : Sounding M) (s : Channels M) (asked : Asked) (after : Channels M) → ShowsAll q s
        → CommandAsks kinds widths command s asked after → Next (sounding.CommandMay kinds poison widths command q) asked after
    command_so widths (script.Create i kind g p) q s asked after shows a =
        let does = a.1.1 in
        let lack = lack_of kinds s.host i kind g p does.table in
        let n = by_host (λ _. Tell replies.Done) s (sounding.create q i kind g p (is_some does.table) lack) (steps.create kinds s.host i kind g p does.table) a.0 asked after
        (create_so poison s.chained kinds q s.host i kind g p does.table shows) does.outcome a.1.2 (a.2 ∙ tell_in (λ _. replies.Done) a.0) in
        (n.0, (is_some does.table, lack, (λ known. ap is_some (does.asked.told (subst (λ w. IsTrue (choices.tells_memory kinds w kind p)) (sym shows.2) known))), n.1), n.2)
    command_so widths (script.Control i c) q s asked after shows a =
        let does = a.1.1 in
        let n = by_host (λ answer. Tell (status_reply answer)) s (sounding.control q i c does.taken does.status) (steps.control s.host i c does.taken does.status) a.0 asked after
        (control_so poison s.chained q s.host i c does.taken does.status shows) does.outcome a.1.2 (a.2 ∙ tell_in status_reply a.0) in (
          n.0,
          (
            does.taken,
            does.status,
            subst (λ (y : Option (Playing M)). sounding.MayAnswer kinds poison y c does.taken does.status) (sym (shows.0 i)) (may_answer q s i c does.taken does.status (s.host.living i) shows.2 refl does.answers),
            n.1,
          ),
          n.2,
        )
    command_so widths (script.Delete i) q s asked after shows a =
        by_channels (λ _. Tell replies.Done) (sounding.delete q i) (channel_steps.delete kinds s i) a.0 asked after (delete_so q s i shows) a.1 (a.2 ∙ tell_in (λ _. replies.Done) a.0)
    command_so widths (script.Chain c is) q s asked after shows a =
        by_channels (λ _. Tell replies.Done) (sounding.chain q c is) (channel_steps.chain s c is) a.0 asked after (chain_so q s c is shows) a.1 (a.2 ∙ tell_in (λ _. replies.Done) a.0)
    command_so widths (script.Unchain c) q s asked after shows a =
        by_channels (λ _. Tell replies.Done) (sounding.to_channel q c (sounding.with_members q c [])) (channel_steps.unchain s c) a.0 asked after
        (channel_so q s c (sounding.with_members q c []) (parts.with_members s c []) shows (members_so q s c [] shows)) a.1 (a.2 ∙ tell_in (λ _. replies.Done) a.0)
    command_so widths (script.Feed c n) q s asked after shows a =
        by_channels (λ _. asks.Feed c (octet_count (widths.input c) n)) (sounding.to_channel q c q) (channel_steps.ready s c) a.0 asked after
        (channel_so q s c q s shows shows) a.1 a.2
    command_so widths (script.Compact space) q s asked after shows a =
        (q, (a.0, ap (λ r. (r, q)) a.2), on_host q s after (steps.compact s.host space).1 (ap (λ r. r.1) a.1.1) a.1.2 shows)
    command_so widths (script.Step space) q s asked after shows a =
        (q, (a.0, ap (λ r. (r, q)) a.2), on_host q s after (steps.step s.host space).1 (ap (λ r. r.1) a.1.1) a.1.2 (moving_so q s space (next_block (blocks_in s.host.map space)) shows))
    command_so widths (script.Map space) q s asked after shows a =
        (q, (a.0, ap (λ r. (r, q)) a.2), on_host q s after s.host a.1.1.1 a.1.2 shows)
    command_so widths (script.Release g) q s asked after shows a =
        let flag = is_some (s.host.activity g).active in
        let n = by_host (λ answer. Tell (replies.Flag answer)) s (sounding.of_group q g flag) (steps.release s.host g) a.0 asked after
        (unless_so (Shows poison s.chained) _ (steps.group_refusal s.host g) q s.host (Ok flag, q) _ refl shows (refl, shows)) a.1.1 a.1.2 (a.2 ∙ tell_in replies.Flag a.0) in
        (n.0, (flag, n.1), n.2)
    command_so widths (script.Stat g) q s asked after shows a =
        let n = by_host (λ answer. Tell (replies.Stat answer.active answer.count)) s (sounding.of_group q g (s.host.activity g)) (steps.stat s.host g) a.0 asked after
        (unless_so (Shows poison s.chained) _ (steps.group_refusal s.host g) q s.host (Ok (s.host.activity g), q) _ refl shows (refl, shows)) a.1.1 a.1.2
        (a.2 ∙ tell_in (λ answer. replies.Stat answer.active answer.count) a.0) in
        (n.0, (s.host.activity g, n.1), n.2)

    line_so : (widths : Widths) (line : Result (Option (script.Command M)) Refusal) (q : Sounding M) (s : Channels M) (asked : Asked) (after : Channels M) → ShowsAll q s
        → LineAsks kinds widths line s asked after → Next (sounding.LineMay kinds poison widths line q) asked after
    line_so widths (Ok (Some command)) q s asked after shows a = command_so widths command q s asked after shows a
    line_so widths (Ok None) q s asked after shows a = (q, ap (λ r. (r, q)) a.0, subst (ShowsAll q) (sym a.1) shows)
    line_so widths (Err refusal) q s asked after shows a = (q, ap (λ r. (r, q)) a.0, subst (ShowsAll q) (sym a.1) shows)

    pub follows : (named : List ℕ → Option M) (widths : Widths) → Follows (console_machine kinds named widths) (sound_machine kinds poison named widths) ShowsAll
    follows named widths = record {
      asks = λ q s line asked after shows a. line_so widths (parsed named line) q s asked after shows a;
      gives = λ q s c octets output samples after shows a.
          let block = samples_at (widths.input c) octets in
          let p = passes_so poison s.chained kinds (members_at s.chained c) q s.host after.host block a.0 shows (fed_passes kinds s after c block a.0 a.1) in (
            p.0,
            (a.0, subst (λ ch. sounding.Passes kinds poison (members_at ch c) q block a.0 p.0) (sym shows.1) p.1, a.2, a.3),
            subst (λ ch. Shows poison ch p.0 after.host) (sym a.1.4) p.2,
          );
    }

    pub has_sounds : (named : List ℕ → Option M) (widths : Widths) (sizes : Sizes) (lines inputs : List (List ℕ)) (honest : ℕ → Bool) (answer : Answer (Channels M))
        → LinesAnswer (console_machine kinds named widths) honest (start sizes poison inputs) lines answer
        → Sounds kinds named widths poison lines inputs answer.run.inputs honest answer.written
    has_sounds named widths sizes lines inputs honest answer a =
        let begin : Sounding M = (silence inputs).state in
        let f = lines_so (console_machine kinds named widths) (sound_machine kinds poison named widths) ShowsAll (follows named widths) honest lines begin (start sizes poison inputs) answer
        ((λ i. refl), refl, refl) a in
        record { answer = f.its; may = f.may; writes = f.written; leaves = f.inputs }
