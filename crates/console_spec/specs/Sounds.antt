-- A console without its memory, and what it may do with lines. Whether a creation finds room, and what is told of memory, is left open.
use Rattle.std.specs.Prelude.{ℕ, ℤ, ◌≡◌, ◌≤◌, Bool, true, false, not, ◌&&◌, ◌||◌, IsTrue, List, [], ◌∷◌, ◌++◌, length, replicate, set, Option, Some, None, is_some, is_none, Result, Ok, Err, nat_lt}
use Rattle.std.specs.List.{list_all, list_any}
use Rattle.mem_rec.specs.declared.Space.{Space}
use Rattle.ialg.specs.declared.refusal.Refusal.{Refusal}
use Rattle.ialg.specs.declared.refusal.Refusal.TheVariants.{Range, Taken, Missing, Params, Room, Busy, Command}
use Rattle.ialg.specs.Refusals.{first_refusal}
use Rattle.ialg.specs.History as history
use Rattle.ialg.specs.History.{History, Ctl, with_samples}
use Rattle.ialg.specs.Meaning.{Meaning, Status, outputs_of, status_of}
use Rattle.host_map.specs.declared.placed.Placed.{Placed}
use Rattle.host_map.specs.Activity.{Activity, with_at}
use Rattle.host_spec.specs.State.{is_instance_number, is_group_number}
use Rattle.host_spec.specs.Choices.{tells_memory}
use Rattle.host_spec.specs.Steps.{Outcome, unless}
use Rattle.channel_spec.specs.Channels.{members_at, is_chained, is_in_channel, has_repeat}
use Rattle.voice_script.specs.Script as script
use Rattle.voice_script.specs.Script.{parsed}
use Rattle.voice_script.specs.Replies.{Done, Count, Flag, Stat, Map, No}
use Rattle.voice_script.specs.Served as asks
use Rattle.voice_script.specs.Served.{Answer, Asked, LinesAnswer, Machine, Run, Tell, Written}
use Rattle.voice_script.specs.Widths.{Widths, octet_count}
use Rattle.console_spec.specs.Samples.{octets_at, samples_at}
use Rattle.console_spec.specs.Console.{by_answer, status_reply}

-- an instance, and what it was given since its creation
pub record Playing (M : Type 0) : Type 0 where
  pub kind : M
  pub params : List ℤ
  pub history : History

-- the instance of each number, and the members of each channel
pub record Sounding (M : Type 0) : Type 0 where
  pub living : ℕ → Option (Playing M)
  pub chained : List (List ℕ)

module _ {M : Type 0} (before : Sounding M) where
  abbrev pub with_instance : ℕ → Option (Playing M) → Sounding M
  with_instance i x = record before { living = with_at before.living i x }

  abbrev pub with_members : ℕ → List ℕ → Sounding M
  with_members c is = record before { chained = set before.chained c is }

  -- a kind that takes the parameters lacks room in some space or in none
  abbrev pub born : ℕ → M → List ℤ → Bool → Option Space → Outcome (Sounding M) (Unit {0})
  born i kind p false lack = (Err Params, before)
  born i kind p true (Some space) = (Err (Room space), before)
  born i kind p true None = (Ok tt, with_instance i (Some (record { kind = kind; params = p; history = [] })))

  abbrev pub create : ℕ → M → ℕ → List ℤ → Bool → Option Space → Outcome (Sounding M) (Unit {0})
  create i kind g p takes lack =
      unless (first_refusal ((not (is_instance_number i && is_group_number g), Range) ∷ (is_some (before.living i), Taken) ∷ []))
      before (born i kind p takes lack)

  abbrev pub controlled : ℕ → Option (Playing M) → Ctl → Sounding M
  controlled i None c = before
  controlled i (Some x) c = with_instance i (Some (record x { history = history.Control c ∷ x.history }))

  abbrev pub control : ℕ → Ctl → Bool → Status → Outcome (Sounding M) Status
  control i c taken status =
      unless (first_refusal ((not (is_instance_number i), Range) ∷ (is_none (before.living i), Missing) ∷ (not taken, Command) ∷ []))
      before (Ok status, controlled i (before.living i) c)

  abbrev pub delete : ℕ → Outcome (Sounding M) (Unit {0})
  delete i =
      unless (first_refusal ((not (is_instance_number i), Range) ∷ (is_none (before.living i), Missing) ∷ (is_in_channel before.chained i, Busy) ∷ []))
      before (Ok tt, with_instance i None)

  abbrev pub chain : ℕ → List ℕ → Outcome (Sounding M) (Unit {0})
  chain c is =
      unless (first_refusal (
      (not (nat_lt c (length before.chained) && list_all is_instance_number is), Range) ∷
      (is_chained (members_at before.chained c), Taken) ∷
      (not (list_all (λ i. is_some (before.living i)) is), Missing) ∷
      (list_any (is_in_channel before.chained) is || has_repeat is, Busy) ∷ []))
      before (Ok tt, with_members c is)

  -- for a channel that has members
  abbrev pub to_channel : ℕ → Sounding M → Outcome (Sounding M) (Unit {0})
  to_channel c next =
      unless (first_refusal ((not (nat_lt c (length before.chained)), Range) ∷ (not (is_chained (members_at before.chained c)), Missing) ∷ []))
      before (Ok tt, next)

  abbrev pub of_group : {A : Type 0} → ℕ → A → Outcome (Sounding M) A
  of_group g answer = unless (first_refusal ((not (is_group_number g), Range) ∷ [])) before (Ok answer, before)

-- what follows from an answer is asked, or a refusal is told
abbrev pub told : {M A : Type 0} → (A → Asked) → Outcome (Sounding M) A → Asked × Sounding M
told asked outcome = (by_answer asked (λ refusal. Tell (No refusal)) outcome.0, outcome.1)

-- in a host of this poison word, or of none
module _ {M : Type 0} (kinds : Meaning M) (poison : Option ℤ) where
  abbrev pub KeepsLaws : Playing M → Type 0
  KeepsLaws x = IsTrue (kinds.lawful x.kind x.params poison)

  -- what an instance gives for a block of samples: a lawful one what its outputs are longer by
  abbrev pub MayGive : Playing M → List ℤ → List ℤ → Type 0
  MayGive x block out =
      (KeepsLaws x → outputs_of kinds x.kind x.params (with_samples x.history block) ≡ outputs_of kinds x.kind x.params x.history ++ out)
      × (length out ≤ length block)

  -- a block passes through the members in order, each taking what the one before it gave. An empty one is given to nobody
  abbrev pub Passes : List ℕ → Sounding M → List ℤ → List ℤ → Sounding M → Type 0
  Passes [] before block out after = (out ≡ block) × (after ≡ before)
  Passes (i ∷ is) before [] out after = (out ≡ []) × (after ≡ before)
  Passes (i ∷ is) before (s ∷ block) out after =
      (x : Playing M) × (given : List ℤ) × (before.living i ≡ Some x) × MayGive x (s ∷ block) given
      × Passes is (with_instance before i (Some (record x { history = with_samples x.history (s ∷ block) }))) given out after

  -- whether an instance takes a control, and what it answers
  abbrev pub MayAnswer : Option (Playing M) → Ctl → Bool → Status → Type 0
  MayAnswer None c taken status = Unit {0}
  MayAnswer (Some x) c taken status = KeepsLaws x → (taken ≡ kinds.accepts x.kind x.params c) × (status ≡ status_of kinds x.kind x.params x.history c)

  abbrev pub CommandMay : Widths → script.Command M → Sounding M → Asked × Sounding M → Type 0
  CommandMay widths (script.Create i kind g p) before next =
      (takes : Bool) × (lack : Option Space) × (IsTrue (tells_memory kinds poison kind p) → takes ≡ is_some (kinds.table kind p))
      × (next ≡ told (λ _. Tell Done) (create before i kind g p takes lack))
  CommandMay widths (script.Control i c) before next =
      (taken : Bool) × (status : Status) × MayAnswer (before.living i) c taken status
      × (next ≡ told (λ answer. Tell (status_reply answer)) (control before i c taken status))
  CommandMay widths (script.Delete i) before next = next ≡ told (λ _. Tell Done) (delete before i)
  CommandMay widths (script.Chain c is) before next = next ≡ told (λ _. Tell Done) (chain before c is)
  CommandMay widths (script.Unchain c) before next = next ≡ told (λ _. Tell Done) (to_channel before c (with_members before c []))
  CommandMay widths (script.Feed c n) before next = next ≡ told (λ _. asks.Feed c (octet_count (widths.input c) n)) (to_channel before c before)
  CommandMay widths (script.Compact space) before next = (n : ℕ) × (next ≡ (Tell (Count n), before))
  CommandMay widths (script.Step space) before next = (flag : Bool) × (next ≡ (Tell (Flag flag), before))
  CommandMay widths (script.Map space) before next = (blocks : List Placed) × (next ≡ (Tell (Map blocks), before))
  CommandMay widths (script.Release g) before next = (flag : Bool) × (next ≡ told (λ answer. Tell (Flag answer)) (of_group before g flag))
  CommandMay widths (script.Stat g) before next = (a : Activity) × (next ≡ told (λ answer. Tell (Stat answer.active answer.count)) (of_group before g a))

  abbrev pub LineMay : Widths → Result (Option (script.Command M)) Refusal → Sounding M → Asked × Sounding M → Type 0
  LineMay widths (Ok (Some command)) before next = CommandMay widths command before next
  LineMay widths (Ok None) before next = next ≡ (asks.Nothing, before)
  LineMay widths (Err refusal) before next = next ≡ (Tell (No refusal), before)

  -- a block of samples through a channel, each port with its width
  abbrev pub FeedMay : Widths → Sounding M → ℕ → (octets output : List ℕ) → (samples : ℕ) → Sounding M → Type 0
  FeedMay widths before c octets output samples after =
      (out : List ℤ) × Passes (members_at before.chained c) before (samples_at (widths.input c) octets) out after
      × (output ≡ octets_at (widths.output c) out) × (samples ≡ length out)

  abbrev pub sound_machine : (List ℕ → Option M) → Widths → Machine (Sounding M)
  sound_machine named widths = record { Asks = λ before line asked after. LineMay widths (parsed named line) before (asked, after); Gives = FeedMay widths }

-- at the start no instance lives, and no channel, as many as there are inputs, is chained
abbrev pub silence : {M : Type 0} → List (List ℕ) → Run (Sounding M)
silence inputs = record { state = record { living = λ i. None; chained = replicate (length inputs) [] }; inputs = inputs }

-- for these lines, over inputs that have these octets at first and the rest at the end, a console without memory may write this. A poison word, if
-- there is one, is told to the kinds alone
pub record Sounds {M : Type 0} (kinds : Meaning M) (named : List ℕ → Option M) (widths : Widths) (poison : Option ℤ) (lines octets rest : List (List ℕ)) (honest : ℕ → Bool) (written : List Written) : Type 0 where
  pub answer : Answer (Sounding M)
  pub may : LinesAnswer (sound_machine kinds poison named widths) honest (silence octets) lines answer
  pub writes : answer.written ≡ written
  pub leaves : answer.run.inputs ≡ rest
