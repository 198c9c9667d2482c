-- What a console without memory may do is one, but for what memory tells.
use Rattle.std.proofs.Common.{◌≡◌, ◌≤◌, ◌<◌, ℕ, ℤ, Bool, true, false, List, [], ◌∷◌, ◌++◌, length, drop, take, Option, Some, None, Result, Ok, Err, refl, ap, sym, ◌∙◌, subst, ⊎_elim, arith}
use Rattle.std.specs.Prelude.{not, ◌&&◌, is_some, nat_eq, nat_lt}
use Rattle.std.proofs.Math.Seq.{drop-append_seam}
use Rattle.std.proofs.lemmas.Bool.{or_left}
use Rattle.std.proofs.lemmas.Option.{none-some, same_Some}
use Rattle.mem_rec.specs.declared.Space.{Space}
use Rattle.ialg.specs.declared.refusal.Refusal.{Refusal}
use Rattle.ialg.specs.declared.refusal.Refusal.TheVariants.{Range, Taken, Missing, Command, Long, Short}
use Rattle.ialg.specs.Refusals.{first_refusal}
use Rattle.ialg.specs.History.{Ctl, with_samples}
use Rattle.ialg.specs.Meaning.{Meaning, Status, outputs_of}
use Rattle.host_spec.specs.State.{is_instance_number, is_group_number}
use Rattle.host_spec.specs.Steps.{Outcome, unless}
use Rattle.host_spec.specs.Answers.{AreLawful}
use Rattle.channel_spec.specs.Channels.{members_at}
use Rattle.voice_script.specs.Script as script
use Rattle.voice_script.specs.Script.{parsed}
use Rattle.voice_script.specs.Replies.{Reply, Count, Done, Flag, No, Stat}
use Rattle.voice_script.specs.Served as asks
use Rattle.voice_script.specs.Served.{Answer, Asked, AskedAnswer, FedAnswer, FeedAnswer, LineAnswer, LinesAnswer, Machine, Output, Replied, Run, Tell, Written, held_by, order_of}
use Rattle.voice_script.specs.Computed.{after_reading, octets_left}
use Rattle.voice_script.specs.declared.limits.TheConstants.{LINE_OCTETS}
use Rattle.voice_script.proofs.ComputedLemmas.{exactly_short, exactly_whole}
use Rattle.std.proofs.lemmas.Bool.{cases_Bool}
use Rattle.voice_script.specs.Widths.{Widths}
use Rattle.console_spec.specs.Samples.{octets_at, samples_at}
use Rattle.console_spec.proofs.LineLemmas.{held_more, held_of_reply}
use Rattle.console_spec.specs.Console.{status_reply}
use Rattle.console_spec.specs.Sounds as sounding
use Rattle.console_spec.specs.Sounds.{Sounds, Playing, Sounding, CommandMay, FeedMay, LineMay, MayAnswer, Passes, born, silence, sound_machine, told, with_instance}
use Rattle.console_spec.specs.SoundLaws.{asked_without_numbers, heard, room_asked, room_told, rooms_told, without_numbers}

-- the outputs are heard
heard_outputs : (c : ℕ) (written : List Written) → held_by (Some c) (order_of (heard written)) ≡ held_by (Some c) (order_of written)
heard_outputs c [] = refl
heard_outputs c (Replied reply ∷ written) =
    held_more c (Replied (without_numbers reply) ∷ []) (heard written)
    ∙ ap (λ o. o ++ held_by (Some c) (order_of (heard written))) (held_of_reply c (without_numbers reply))
    ∙ heard_outputs c written
    ∙ sym (ap (λ o. o ++ held_by (Some c) (order_of written)) (held_of_reply c reply))
    ∙ sym (held_more c (Replied reply ∷ []) written)
heard_outputs c (Output d octets ∷ []) = refl
heard_outputs c (Output d octets ∷ reply ∷ written) =
    held_more c (Output d octets ∷ reply ∷ []) (heard written)
    ∙ ap (λ o. held_by (Some c) (order_of (Output d octets ∷ reply ∷ [])) ++ o) (heard_outputs c written)
    ∙ sym (held_more c (Output d octets ∷ reply ∷ []) written)

module _ {M : Type 0} (kinds : Meaning M) (poison other : Option ℤ) (lawful : AreLawful kinds poison) (also : AreLawful kinds other) where
  -- ---- creations

  abbrev Next : Type 0
  Next = Asked × Sounding M

  born_one : (q : Sounding M) (i : ℕ) (kind : M) (p : List ℤ) (takes : Bool) (one two : Option Space)
      → room_asked (told (λ _. Tell Done) (born q i kind p takes one)).0 ≡ room_asked (told (λ _. Tell Done) (born q i kind p takes two)).0
      → born q i kind p takes one ≡ born q i kind p takes two
  born_one q i kind p false one two e = refl
  born_one q i kind p true None None e = refl
  born_one q i kind p true (Some s) (Some t) e = ap (λ space. born q i kind p true (Some space)) (same_Some s t e)
  born_one q i kind p true None (Some t) e = absurd (none-some t e)
  born_one q i kind p true (Some s) None e = absurd (none-some s (sym e))

  create_one : (q : Sounding M) (r : Option Refusal) (i : ℕ) (kind : M) (p : List ℤ) (takes : Bool) (one two : Option Space)
      → room_asked (told (λ _. Tell Done) (unless r q (born q i kind p takes one))).0 ≡ room_asked (told (λ _. Tell Done) (unless r q (born q i kind p takes two))).0
      → unless r q (born q i kind p takes one) ≡ unless r q (born q i kind p takes two)
  create_one q None i kind p takes one two e = born_one q i kind p takes one two e
  create_one q (Some refusal) i kind p takes one two e = refl

  -- ---- controls

  missing : {A : Type 0} (q : Sounding M) (range taken other : Bool) (granted another : Outcome (Sounding M) A)
      → unless (first_refusal ((range, Range) ∷ (true, Missing) ∷ (taken, Command) ∷ [])) q granted
      ≡ unless (first_refusal ((range, Range) ∷ (true, Missing) ∷ (other, Command) ∷ [])) q another
  missing q true taken other granted another = refl
  missing q false taken other granted another = refl

  control_one : (q : Sounding M) (i : ℕ) (c : Ctl) (x : Option (Playing M)) (t u : Bool) (s v : Status) → q.living i ≡ x
      → MayAnswer kinds poison x c t s → MayAnswer kinds other x c u v → sounding.control q i c t s ≡ sounding.control q i c u v
  control_one q i c None t u s v there one two = rw there (missing q (not (is_instance_number i)) (not t) (not u) _ _)
  control_one q i c (Some x) t u s v there one two =
      let a = one (lawful x.kind x.params) in
      let b = two (also x.kind x.params) in
      ap (λ k. sounding.control q i c k s) (a.0 ∙ sym b.0) ∙ ap (λ w. sounding.control q i c u w) (a.1 ∙ sym b.1)

  -- ---- lines

  abbrev One : (line : Result (Option (script.Command M)) Refusal) (one two : Next) → Type 0
  One line one two = (asked_without_numbers one.0 ≡ asked_without_numbers two.0) × (one.1 ≡ two.1)

  both : (one two : Next) → one ≡ two → (asked_without_numbers one.0 ≡ asked_without_numbers two.0) × (one.1 ≡ two.1)
  both one two e = (ap (λ n. asked_without_numbers n.0) e, ap (λ n. n.1) e)

  group_one : {A : Type 0} (q : Sounding M) (g : ℕ) (asked : A → Asked) (a b : A) → ((c d : A) → asked_without_numbers (asked c) ≡ asked_without_numbers (asked d))
      → (asked_without_numbers (told asked (sounding.of_group q g a)).0 ≡ asked_without_numbers (told asked (sounding.of_group q g b)).0)
      × ((told asked (sounding.of_group q g a)).1 ≡ (told asked (sounding.of_group q g b)).1)
  group_one q g asked a b same = chosen (first_refusal ((not (is_group_number g), Range) ∷ []))
    where
      chosen : (r : Option Refusal) → (asked_without_numbers (told asked (unless r q (Ok a, q))).0 ≡ asked_without_numbers (told asked (unless r q (Ok b, q))).0)
          × ((told asked (unless r q (Ok a, q))).1 ≡ (told asked (unless r q (Ok b, q))).1)
      chosen None = (same a b, refl)
      chosen (Some refusal) = (refl, refl)

  alike : (one two is it : Next) → one ≡ is → two ≡ it → (asked_without_numbers is.0 ≡ asked_without_numbers it.0) × (is.1 ≡ it.1)
      → (asked_without_numbers one.0 ≡ asked_without_numbers two.0) × (one.1 ≡ two.1)
  alike one two is it e f same =
      (ap (λ n. asked_without_numbers n.0) e ∙ same.0 ∙ sym (ap (λ n. asked_without_numbers n.0) f), ap (λ n. n.1) e ∙ same.1 ∙ sym (ap (λ n. n.1) f))

  command_one : (widths : Widths) (command : script.Command M) (q : Sounding M) (one two : Next) → CommandMay kinds poison widths command q one
      → CommandMay kinds other widths command q two → room_asked one.0 ≡ room_asked two.0 → One (Ok (Some command)) one two
  command_one widths (script.Create i kind g p) q one two a b room =
      let known = or_left (kinds.lawful kind p poison) (kinds.declares kind p) (lawful kind p) in
      let known_too = or_left (kinds.lawful kind p other) (kinds.declares kind p) (also kind p) in
      let same : a.0 ≡ b.0 = a.2 known ∙ sym (b.2 known_too) in
      let is : one ≡ told (λ _. Tell Done) (sounding.create q i kind g p b.0 a.1) = a.3 ∙ ap (λ t. told (λ _. Tell Done) (sounding.create q i kind g p t a.1)) same in
      let rooms = sym (ap (λ (n : Next). room_asked n.0) is) ∙ room ∙ ap (λ (n : Next). room_asked n.0) b.3 in
      both one two (is ∙ ap (told (λ _. Tell Done)) (create_one q (first_refusal ((not (is_instance_number i && is_group_number g), Range) ∷ (is_some (q.living i), Taken) ∷ [])) i kind p b.0 a.1 b.1 rooms) ∙ sym b.3)
  command_one widths (script.Control i c) q one two a b room =
      both one two (a.3 ∙ ap (told (λ answer. Tell (status_reply answer))) (control_one q i c (q.living i) a.0 b.0 a.1 b.1 refl a.2 b.2) ∙ sym b.3)
  command_one widths (script.Delete i) q one two a b room = both one two (a ∙ sym b)
  command_one widths (script.Chain c is) q one two a b room = both one two (a ∙ sym b)
  command_one widths (script.Unchain c) q one two a b room = both one two (a ∙ sym b)
  command_one widths (script.Feed c n) q one two a b room = both one two (a ∙ sym b)
  command_one widths (script.Compact space) q one two a b room = alike one two _ _ a.1 b.1 (refl, refl)
  command_one widths (script.Step space) q one two a b room = alike one two _ _ a.1 b.1 (refl, refl)
  command_one widths (script.Map space) q one two a b room = alike one two _ _ a.1 b.1 (refl, refl)
  command_one widths (script.Release g) q one two a b room = alike one two _ _ a.1 b.1 (group_one q g _ a.0 b.0 (λ c d. refl))
  command_one widths (script.Stat g) q one two a b room = alike one two _ _ a.1 b.1 (group_one q g _ a.0 b.0 (λ c d. refl))

  pub line_one : (widths : Widths) (line : Result (Option (script.Command M)) Refusal) (q : Sounding M) (one two : Next) → LineMay kinds poison widths line q one
      → LineMay kinds other widths line q two → room_asked one.0 ≡ room_asked two.0 → One line one two
  line_one widths (Ok (Some command)) q one two a b room = command_one widths command q one two a b room
  line_one widths (Ok None) q one two a b room = both one two (a ∙ sym b)
  line_one widths (Err refusal) q one two a b room = both one two (a ∙ sym b)

  -- ---- blocks

  given_one : (x : Playing M) (block one two : List ℤ) → sounding.MayGive kinds poison x block one → sounding.MayGive kinds other x block two → one ≡ two
  given_one x block one two a b =
      let old = outputs_of kinds x.kind x.params x.history in
      let law = lawful x.kind x.params in
      sym (drop-append_seam old one) ∙ ap (drop (length old)) (sym (a.0 law) ∙ b.0 (also x.kind x.params)) ∙ drop-append_seam old two

  passes_one : (is : List ℕ) (q : Sounding M) (block o u : List ℤ) (s t : Sounding M) → Passes kinds poison is q block o s → Passes kinds other is q block u t
      → (o ≡ u) × (s ≡ t)
  passes_one [] q block o u s t a b = (a.0 ∙ sym b.0, a.1 ∙ sym b.1)
  passes_one (i ∷ is) q [] o u s t a b = (a.0 ∙ sym b.0, a.1 ∙ sym b.1)
  passes_one (i ∷ is) q (x ∷ block) o u s t a b =
      let same : b.0 ≡ a.0 = same_Some b.0 a.0 (sym b.2 ∙ a.2) in
      let gives = subst (λ (y : Playing M). sounding.MayGive kinds other y (x ∷ block) b.1) same b.3 in
      let rest = subst (λ (y : Playing M). Passes kinds other is (with_instance q i (Some (record y { history = with_samples y.history (x ∷ block) }))) b.1 u t) same b.4 in
      let given : b.1 ≡ a.1 = sym (given_one a.0 (x ∷ block) a.1 b.1 a.3 gives) in
      let next = with_instance q i (Some (record a.0 { history = with_samples a.0.history (x ∷ block) })) in
      passes_one is next a.1 o u s t a.4 (subst (λ g. Passes kinds other is next g u t) given rest)

  pub feed_one : (widths : Widths) (q : Sounding M) (c : ℕ) (octets o u : List ℕ) (m n : ℕ) (s t : Sounding M) → FeedMay kinds poison widths q c octets o m s
      → FeedMay kinds other widths q c octets u n t → (o ≡ u) × (m ≡ n) × (s ≡ t)
  feed_one widths q c octets o u m n s t a b =
      let e = passes_one (members_at q.chained c) q (samples_at (widths.input c) octets) a.0 b.0 s t a.1 b.1 in
      (a.2 ∙ ap (octets_at (widths.output c)) e.0 ∙ sym b.2, a.3 ∙ ap (λ xs. length xs) e.0 ∙ sym b.3, e.1)

  -- ---- what a line asks, told apart

  shape : Asked → ℕ
  shape asks.Nothing = 0
  shape (Tell reply) = 1
  shape (asks.Feed channel count) = 2

  tells : {A : Type 0} (reply : A → Reply) (r : Result A Refusal) (q : Sounding M) → shape (told (λ a. Tell (reply a)) (r, q)).0 ≡ 1
  unfolding shape
  tells reply (Ok a) q = refl
  tells reply (Err refusal) q = refl

  by_shape : {A : Type 0} (reply : A → Reply) (o u : Outcome (Sounding M) A) (one two : Next) → one ≡ told (λ a. Tell (reply a)) o → two ≡ told (λ a. Tell (reply a)) u → shape one.0 ≡ shape two.0
  by_shape reply o u one two e f = ap (λ n. shape n.0) e ∙ tells reply o.0 o.1 ∙ sym (tells reply u.0 u.1) ∙ sym (ap (λ n. shape n.0) f)

  same_shape : (one two : Next) → one ≡ two → shape one.0 ≡ shape two.0
  same_shape one two e = ap (λ n. shape n.0) e

  command_shape : (widths : Widths) (command : script.Command M) (q : Sounding M) (one two : Next) → CommandMay kinds poison widths command q one
      → CommandMay kinds other widths command q two → shape one.0 ≡ shape two.0
  unfolding shape
  command_shape widths (script.Create i kind g p) q one two a b = by_shape (λ _. Done) (sounding.create q i kind g p a.0 a.1) (sounding.create q i kind g p b.0 b.1) one two a.3 b.3
  command_shape widths (script.Control i c) q one two a b = by_shape status_reply (sounding.control q i c a.0 a.1) (sounding.control q i c b.0 b.1) one two a.3 b.3
  command_shape widths (script.Delete i) q one two a b = same_shape one two (a ∙ sym b)
  command_shape widths (script.Chain c is) q one two a b = same_shape one two (a ∙ sym b)
  command_shape widths (script.Unchain c) q one two a b = same_shape one two (a ∙ sym b)
  command_shape widths (script.Feed c n) q one two a b = same_shape one two (a ∙ sym b)
  command_shape widths (script.Compact space) q one two a b = ap (λ n. shape n.0) a.1 ∙ sym (ap (λ n. shape n.0) b.1)
  command_shape widths (script.Step space) q one two a b = ap (λ n. shape n.0) a.1 ∙ sym (ap (λ n. shape n.0) b.1)
  command_shape widths (script.Map space) q one two a b = ap (λ n. shape n.0) a.1 ∙ sym (ap (λ n. shape n.0) b.1)
  command_shape widths (script.Release g) q one two a b = by_shape Flag (sounding.of_group q g a.0) (sounding.of_group q g b.0) one two a.1 b.1
  command_shape widths (script.Stat g) q one two a b =
      by_shape (λ answer. Stat answer.active answer.count) (sounding.of_group q g a.0) (sounding.of_group q g b.0) one two a.1 b.1

  line_shape : (widths : Widths) (line : Result (Option (script.Command M)) Refusal) (q : Sounding M) (one two : Next) → LineMay kinds poison widths line q one
      → LineMay kinds other widths line q two → shape one.0 ≡ shape two.0
  line_shape widths (Ok (Some command)) q one two a b = command_shape widths command q one two a b
  line_shape widths (Ok None) q one two a b = same_shape one two (a ∙ sym b)
  line_shape widths (Err refusal) q one two a b = same_shape one two (a ∙ sym b)

  -- ---- answers

  -- they lead to one run, and whatever is written later, they write alike where the replies tell the same of room
  abbrev Agree : Answer (Sounding M) → Answer (Sounding M) → Type 0
  Agree one two =
      (x y : List Written) → rooms_told (one.written ++ x) ≡ rooms_told (two.written ++ y)
      → (one.run ≡ two.run) × (rooms_told x ≡ rooms_told y) × (heard x ≡ heard y → heard (one.written ++ x) ≡ heard (two.written ++ y))

  cons_same : {A : Type 0} (a b : A) (xs ys : List A) → a ∷ xs ≡ b ∷ ys → (a ≡ b) × (xs ≡ ys)
  cons_same a b xs ys e = (cc, cc)

  replied_agree : (run next : Run (Sounding M)) (r s : Reply) → (room_told r ≡ room_told s → (run ≡ next) × (without_numbers r ≡ without_numbers s))
      → Agree (record { run = run; written = Replied r ∷ [] }) (record { run = next; written = Replied s ∷ [] })
  replied_agree run next r s same x y e =
      let parts = cons_same (room_told r) (room_told s) (rooms_told x) (rooms_told y) e in
      let its = same parts.0 in
      (its.0, parts.1, λ more. ap (λ reply. Replied reply ∷ heard x) its.1 ∙ ap (λ w. Replied (without_numbers s) ∷ w) more)

  fed_agree : (run : Run (Sounding M)) (c : ℕ) (octets : List ℕ) (n : ℕ)
      → Agree (record { run = run; written = Output c octets ∷ Replied (Count n) ∷ [] }) (record { run = run; written = Output c octets ∷ Replied (Count n) ∷ [] })
  fed_agree run c octets n x y e = (refl, (cons_same None None (rooms_told x) (rooms_told y) e).1, λ more. ap (λ w. Output c octets ∷ Replied (Count n) ∷ w) more)

  agree_by : (one two is it : Answer (Sounding M)) → one ≡ is → two ≡ it → Agree is it → Agree one two
  agree_by one two is it e f agree = subst (λ a. Agree a two) (sym e) (subst (λ a. Agree is a) (sym f) agree)

  tell_same : (r s : Reply) → Tell r ≡ Tell s → r ≡ s
  tell_same r s e = cc

  feed_same : (c d m n : ℕ) → asks.Feed c m ≡ asks.Feed d n → (c ≡ d) × (m ≡ n)
  feed_same c d m n e = (cc, cc)

  module _ (named : List ℕ → Option M) (widths : Widths) (honest : ℕ → Bool) (all_honest : (channel : ℕ) → honest channel ≡ true) where
    abbrev machine : Machine (Sounding M)
    machine = sound_machine kinds poison named widths

    abbrev again : Machine (Sounding M)
    again = sound_machine kinds other named widths

    fed_alike : (run : Run (Sounding M)) (c : ℕ) (octets : List ℕ) (one two : Answer (Sounding M)) → FedAnswer machine run c octets one → FedAnswer again run c octets two → Agree one two
    fed_alike run c octets one two a b =
        let e = feed_one widths run.state c octets a.0 b.0 a.1 b.1 a.2 b.2 a.3 b.3 in
        let it : Answer (Sounding M) = record { run = record run { state = b.2 }; written = Output c b.0 ∷ Replied (Count b.1) ∷ [] } in
        agree_by one two it it
        (a.4
        ∙ ap (λ o. record { run = record run { state = a.2 }; written = Output c o ∷ Replied (Count a.1) ∷ [] }) e.0
        ∙ ap (λ n. record { run = record run { state = a.2 }; written = Output c b.0 ∷ Replied (Count n) ∷ [] }) e.1
        ∙ ap (λ s. record { run = record run { state = s }; written = Output c b.0 ∷ Replied (Count b.1) ∷ [] }) e.2)
        b.4 (fed_agree (record run { state = b.2 }) c b.0 b.1)

    feed_alike : (run : Run (Sounding M)) (c n : ℕ) (one two : Answer (Sounding M)) → FeedAnswer machine honest run c n one → FeedAnswer again honest run c n two → Agree one two
    feed_alike run c n one two a b =
        ⊎_elim
        (λ short.
        let few : length (octets_left run c) < n = grind (arith, short) in
        agree_by one two _ _ (exactly_short machine honest run c n one (all_honest c) a few) (exactly_short again honest run c n two (all_honest c) b few)
        (replied_agree (after_reading run c n) (after_reading run c n) (No Short) (No Short) (λ _. (refl, refl))))
        (λ whole.
        let enough : n ≤ length (octets_left run c) = grind (arith, whole) in
        fed_alike (after_reading run c n) c (take n (octets_left run c)) one two (exactly_whole machine honest run c n one (all_honest c) a enough) (exactly_whole again honest run c n two (all_honest c) b enough))
        (cases_Bool (nat_lt (length (octets_left run c)) n))

    no_shape : {X : Type 0} (n m : ℕ) → nat_eq n m ≡ false → n ≡ m → X
    no_shape n m apart e = absurd (grind (arith, apart, e))

    asked_alike : (run : Run (Sounding M)) (line : Result (Option (script.Command M)) Refusal) (a b : Asked) (s t : Sounding M) (one two : Answer (Sounding M))
        → LineMay kinds poison widths line run.state (a, s) → LineMay kinds other widths line run.state (b, t) → shape a ≡ shape b
        → AskedAnswer machine honest (record run { state = s }) a one → AskedAnswer again honest (record run { state = t }) b two → Agree one two
    unfolding shape
    asked_alike run line asks.Nothing asks.Nothing s t one two may might same e f =
        let is = line_one widths line run.state (asks.Nothing, s) (asks.Nothing, t) may might refl in
        agree_by one two (record { run = record run { state = s }; written = [] }) (record { run = record run { state = t }; written = [] }) e f
        (λ x y rooms. (ap (λ k. record run { state = k }) is.1, rooms, λ more. more))
    asked_alike run line (Tell r) (Tell u) s t one two may might same e f =
        agree_by one two _ _ e f
        (replied_agree (record run { state = s }) (record run { state = t }) r u
        (λ room.
        let is = line_one widths line run.state (Tell r, s) (Tell u, t) may might room in
        (ap (λ k. record run { state = k }) is.1, tell_same (without_numbers r) (without_numbers u) is.0)))
    asked_alike run line (asks.Feed c m) (asks.Feed d n) s t one two may might same e f =
        let is = line_one widths line run.state (asks.Feed c m, s) (asks.Feed d n, t) may might refl in
        let its = feed_same c d m n is.0 in
        feed_alike (record run { state = s }) c m one two e
        (subst (λ k. FeedAnswer again honest (record run { state = s }) k m two) (sym its.0)
        (subst (λ k. FeedAnswer again honest (record run { state = s }) d k two) (sym its.1)
        (subst (λ k. FeedAnswer again honest (record run { state = k }) d n two) (sym is.1) f)))
    asked_alike run line asks.Nothing (Tell u) s t one two may might same e f = no_shape 0 1 refl same
    asked_alike run line asks.Nothing (asks.Feed d n) s t one two may might same e f = no_shape 0 2 refl same
    asked_alike run line (Tell r) asks.Nothing s t one two may might same e f = no_shape 1 0 refl same
    asked_alike run line (Tell r) (asks.Feed d n) s t one two may might same e f = no_shape 1 2 refl same
    asked_alike run line (asks.Feed c m) asks.Nothing s t one two may might same e f = no_shape 2 0 refl same
    asked_alike run line (asks.Feed c m) (Tell u) s t one two may might same e f = no_shape 2 1 refl same

    line_alike : (run : Run (Sounding M)) (line : List ℕ) (one two : Answer (Sounding M)) → LineAnswer machine honest run line one → LineAnswer again honest run line two → Agree one two
    line_alike run line one two a b =
        ⊎_elim
        (λ long.
        let longer : LINE_OCTETS < length line = grind (arith, long) in
        agree_by one two _ _ (a.long longer) (b.long longer) (replied_agree run run (No Long) (No Long) (λ _. (refl, refl))))
        (λ fits.
        let fit : length line ≤ LINE_OCTETS = grind (arith, fits) in
        let s = a.fits fit in
        let t = b.fits fit in
        asked_alike run (parsed named line) s.0 t.0 s.1 t.1 one two s.2 t.2
        (line_shape widths (parsed named line) run.state (s.0, s.1) (t.0, t.1) s.2 t.2) s.3 t.3)
        (cases_Bool (nat_lt LINE_OCTETS (length line)))

    pub lines_alike : (lines : List (List ℕ)) (run : Run (Sounding M)) (one two : Answer (Sounding M)) → LinesAnswer machine honest run lines one → LinesAnswer again honest run lines two
        → rooms_told one.written ≡ rooms_told two.written → (heard one.written ≡ heard two.written) × (one.run.inputs ≡ two.run.inputs)
    lines_alike [] run one two a b rooms = (ap (λ k. heard k.written) (a ∙ sym b), ap (λ k. k.run.inputs) (a ∙ sym b))
    lines_alike (line ∷ lines) run one two a b rooms =
        let first = line_alike run line a.0 b.0 a.1 b.1 a.2.written b.2.written
        (sym (ap (λ k. rooms_told k.written) a.4) ∙ rooms ∙ ap (λ k. rooms_told k.written) b.4) in
        let rest = lines_alike lines b.0.run a.2 b.2 (subst (λ k. LinesAnswer machine honest k lines a.2) first.0 a.3) b.3 first.1 in
        (ap (λ k. heard k.written) a.4 ∙ first.2 rest.0 ∙ sym (ap (λ k. heard k.written) b.4), ap (λ k. k.run.inputs) a.4 ∙ rest.1 ∙ sym (ap (λ k. k.run.inputs) b.4))

    pub sounds_one : (lines octets rest left : List (List ℕ)) (one two : List Written) → Sounds kinds named widths poison lines octets rest honest one
        → Sounds kinds named widths other lines octets left honest two → rooms_told one ≡ rooms_told two
        → ((c : ℕ) → held_by (Some c) (order_of one) ≡ held_by (Some c) (order_of two)) × (heard one ≡ heard two) × (rest ≡ left)
    sounds_one lines octets rest left one two a b rooms =
        let e = lines_alike lines (silence octets) a.answer b.answer a.may b.may (ap rooms_told a.writes ∙ rooms ∙ sym (ap rooms_told b.writes)) in
        let same : heard one ≡ heard two = sym (ap heard a.writes) ∙ e.0 ∙ ap heard b.writes in
        (λ c. sym (heard_outputs c one) ∙ ap (λ w. held_by (Some c) (order_of w)) same ∙ heard_outputs c two, same, sym a.leaves ∙ e.1 ∙ b.leaves)
