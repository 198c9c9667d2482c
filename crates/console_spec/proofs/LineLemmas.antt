-- Lines of a console are calls of its channels.
use Rattle.std.proofs.Common.{◌≡◌, ◌≤◌, ◌<◌, ◌⊎◌, ◌+◌, ◌*◌, ◌/◌, ◌%◌, ℕ, ℤ, zero, suc, Bool, true, false, List, [], ◌∷◌, ◌++◌, pos, map, filter, length, take, drop, Option, Some, None, Result, Ok, Err, inl, inr, refl, ap, sym, ◌∙◌, subst, append-nil, append_assoc, take-append-drop, length-append, arith, get_or, set}
use Rattle.std.specs.Prelude.{◌==◌, if◌then◌else◌, nat_eq, nat_lt}
use Rattle.std.specs.Option.{option_eq}
use Rattle.std.specs.Int.{w16, cast_signed, cast_unsigned}
use Rattle.std.proofs.lemmas.List.{map-append, get_or-set_other, length-map, length-take-le, take_all}
use Rattle.std.proofs.lemmas.List.Elements.{filter-append}
use Rattle.std.proofs.lemmas.Grind.{flat_map-append}
use Rattle.std.proofs.lemmas.Bool.Decides.{eqb_tells}
use Rattle.std.proofs.Math.Seq.{drop-append_seam, drop-nil, take-append_seam}
use Rattle.relocate.proofs.RangeTests.{either, true_or_false}
use Rattle.ialg.specs.Meaning.{Meaning, Status}
use Rattle.ialg.specs.declared.refusal.Refusal.{Refusal}
use Rattle.ialg.specs.declared.refusal.Refusal.TheVariants.{Long, Short}
use Rattle.channel_spec.specs.Channels.{Channels}
use Rattle.channel_spec.specs.Steps.{channel_refusal}
use Rattle.host_spec.specs.Steps.{unless}
use Rattle.channel_spec.specs.Calls as calls
use Rattle.channel_spec.specs.Calls.{Call, Does, refusal_of}
use Rattle.voice_script.specs.Script as script
use Rattle.voice_script.specs.Script.{Command, parsed}
use Rattle.voice_script.specs.Replies as replies_told
use Rattle.voice_script.specs.Replies.{Reply, reply_text}
use Rattle.voice_script.specs.ReplyViews.{is_refusal}
use Rattle.voice_script.specs.declared.limits.TheConstants.{LINE_OCTETS}
use Rattle.voice_script.specs.declared.octets.TheConstants.{WORD_OCTETS}
use Rattle.voice_script.specs.declared.width.Width.{Width}
use Rattle.voice_script.specs.declared.width.Width.TheVariants as carried
use Rattle.voice_script.specs.Widths.{Widths, octet_count}
use Rattle.voice_script.specs.Served as served
use Rattle.voice_script.specs.Served.{Answer, Asked, AskedAnswer, FeedAnswer, FedAnswer, LineAnswer, LinesAnswer, Octet, Output, Replied, Run, ServedAnswer, Written, with_left, held_by, order_of, refusals, Tell}
use Rattle.voice_script.specs.Computed.{at_state, octets_left, replies, then_answer}
use Rattle.console_spec.specs.Samples.{octets_at, octets_of, samples_at, samples_of}
use Rattle.console_spec.specs.Console.{Calls, CommandAsks, LineAsks, call_of, console_machine, status_reply}
use Rattle.console_spec.specs.Told.{feed_asked, told_by}
use Rattle.console_spec.specs.HostRuns.{Leads}
use Rattle.console_spec.specs.Lines.{AreCalls, CommandMakes, IsFed, IsSame, IsSameBut, Left, LineMakes, LinesMake, Makes, fed_out, output_in, samples_left as left}

-- ---- octets

held_by-append : (port : Option ℕ) (xs ys : List Octet) → held_by port (xs ++ ys) ≡ held_by port xs ++ held_by port ys
unfolding held_by
held_by-append port xs ys =
    ap (map (λ o. o.1)) (filter-append (λ (o : Octet). option_eq nat_eq port o.0) xs ys)
    ∙ map-append (λ (o : Octet). o.1) (filter (λ o. option_eq nat_eq port o.0) xs) (filter (λ o. option_eq nat_eq port o.0) ys)

-- what a channel holds of what was written
abbrev held : ℕ → List Written → List ℕ
held c written = held_by (Some c) (order_of written)

held_nothing : (c : ℕ) → held c [] ≡ []
unfolding held_by order_of
held_nothing c = refl

pub held_more : (c : ℕ) (first later : List Written) → held c (first ++ later) ≡ held c first ++ held c later
unfolding order_of
held_more c first later = ap (held_by (Some c)) (flat_map-append served.octets_written first later) ∙ held_by-append (Some c) (order_of first) (order_of later)

held_of_text : (c : ℕ) (text : List ℕ) → held_by (Some c) (map (λ b. (None, b)) text) ≡ []
unfolding held_by
held_of_text c [] = refl
held_of_text c (x ∷ xs) = held_of_text c xs

pub held_of_reply : (c : ℕ) (reply : Reply) → held c (Replied reply ∷ []) ≡ []
unfolding order_of
held_of_reply c reply = ap (held_by (Some c)) (append-nil (map (λ b. (None, b)) (reply_text reply))) ∙ held_of_text c (reply_text reply)

held_of_octets : (c d : ℕ) (octets : List ℕ) → held_by (Some c) (map (λ b. (Some d, b)) octets) ≡ (if c == d then octets else [])
unfolding held_by
held_of_octets c d [] = either (true_or_false (c == d)) (λ e. rw e refl) (λ e. rw e refl)
held_of_octets c d (x ∷ xs) =
    either (true_or_false (c == d))
    (λ e. rw e (ap (λ r. x ∷ r) (rw e at (held_of_octets c d xs))))
    (λ e. rw e (rw e at (held_of_octets c d xs)))

held_of_output : (c d : ℕ) (octets : List ℕ) → held c (Output d octets ∷ []) ≡ (if c == d then octets else [])
unfolding order_of
held_of_output c d octets = ap (held_by (Some c)) (append-nil (map (λ b. (Some d, b)) octets)) ∙ held_of_octets c d octets

octets_more : (xs ys : List ℤ) → octets_of (xs ++ ys) ≡ octets_of xs ++ octets_of ys
octets_more xs ys = flat_map-append (λ x. cast_unsigned w16 x % 256 ∷ cast_unsigned w16 x / 256 % 256 ∷ []) xs ys

-- and so by each width
octets_more_at : (width : Width) (xs ys : List ℤ) → octets_at width (xs ++ ys) ≡ octets_at width xs ++ octets_at width ys
octets_more_at carried.Word xs ys = octets_more xs ys
octets_more_at carried.Octet xs ys = map-append (λ x. cast_unsigned w16 x % 256) xs ys

no_octets : (width : Width) → [] ≡ octets_at width []
no_octets carried.Word = refl
no_octets carried.Octet = refl

no_samples : (width : Width) → samples_at width [] ≡ []
no_samples carried.Word = refl
no_samples carried.Octet = refl

octets_where : (width : Width) (test : Bool) (out : List ℤ) → (if test then octets_at width out else []) ≡ octets_at width (if test then out else [])
octets_where width true out = refl
octets_where width false out = no_octets width

-- the width of the channel's output, where anything is given there
octets_where_given : (widths : Widths) (c channel : ℕ) (out : List ℤ)
    → octets_at (widths.output channel) (if c == channel then out else []) ≡ octets_at (widths.output c) (if c == channel then out else [])
octets_where_given widths c channel out =
    either (eqb_tells c channel)
    (λ same. ap (λ k. octets_at (widths.output k) (if c == channel then out else [])) (sym same.1))
    (λ apart.
    ap (λ b. octets_at (widths.output channel) (if b then out else [])) apart.0
    ∙ sym (no_octets (widths.output channel)) ∙ no_octets (widths.output c)
    ∙ ap (λ b. octets_at (widths.output c) (if b then out else [])) (sym apart.0))

-- ---- samples

-- so many octets are so many samples
twice : ℕ → ℕ
twice zero = 0
twice (suc n) = suc (suc (twice n))

twice_is : (n : ℕ) → twice n ≡ WORD_OCTETS * n
unfolding twice
twice_is zero = refl
twice_is (suc n) = omega (arith, twice_is n)

samples_split : (n : ℕ) (octets : List ℕ) → samples_of octets ≡ samples_of (take (twice n) octets) ++ samples_of (drop (twice n) octets)
unfolding twice
samples_split zero octets = refl
samples_split (suc n) [] = refl
samples_split (suc n) (low ∷ []) = refl
samples_split (suc n) (low ∷ high ∷ octets) = ap (λ xs. cast_signed w16 (low + 256 * high) ∷ xs) (samples_split n octets)

samples_count : (n : ℕ) (octets : List ℕ) → length octets ≡ twice n → length (samples_of octets) ≡ n
unfolding twice
samples_count zero [] e = refl
samples_count zero (x ∷ octets) e = absurd (omega (arith, e))
samples_count (suc n) [] e = absurd (omega (arith, e))
samples_count (suc n) (low ∷ []) e = absurd (omega (arith, e))
samples_count (suc n) (low ∷ high ∷ octets) e = ap suc (samples_count n octets (omega (arith, e)))

octet_samples_split : (n : ℕ) (octets : List ℕ) → map pos octets ≡ map pos (take n octets) ++ map pos (drop n octets)
octet_samples_split n octets = ap (map pos) (sym (take-append-drop n octets)) ∙ map-append pos (take n octets) (drop n octets)

-- so many octets are so many samples, by each width
split_at : (width : Width) (n : ℕ) (octets : List ℕ)
    → samples_at width octets ≡ samples_at width (take (octet_count width n) octets) ++ samples_at width (drop (octet_count width n) octets)
split_at carried.Word n octets = subst (λ k. samples_of octets ≡ samples_of (take k octets) ++ samples_of (drop k octets)) (twice_is n) (samples_split n octets)
split_at carried.Octet n octets = octet_samples_split n octets

count_at : (width : Width) (n : ℕ) (octets : List ℕ) → length octets ≡ octet_count width n → length (samples_at width octets) ≡ n
count_at carried.Word n octets e = samples_count n octets (e ∙ sym (twice_is n))
count_at carried.Octet n octets e = length-map octets pos ∙ e

samples_fewer : (n : ℕ) (octets : List ℕ) → length octets < twice n → length (samples_of octets) < n
unfolding twice
samples_fewer zero octets lt = absurd (omega (arith, lt))
samples_fewer (suc n) [] lt = omega arith
samples_fewer (suc n) (low ∷ []) lt = omega arith
samples_fewer (suc n) (low ∷ high ∷ octets) lt = omega (arith, samples_fewer n octets (omega (arith, lt)))

-- fewer octets are fewer samples
fewer_at : (width : Width) (n : ℕ) (octets : List ℕ) → length octets < octet_count width n → length (samples_at width octets) < n
fewer_at carried.Word n octets lt = samples_fewer n octets (subst (λ k. length octets < k) (sym (twice_is n)) lt)
fewer_at carried.Octet n octets lt = subst (λ k. k < n) (sym (length-map octets pos)) lt

-- the samples of the first octets are the first samples, and those of the others are the others
parts_at : (width : Width) (n : ℕ) (octets : List ℕ) → octet_count width n ≤ length octets
    → (n ≤ length (samples_at width octets)) × (take n (samples_at width octets) ≡ samples_at width (take (octet_count width n) octets))
    × (drop n (samples_at width octets) ≡ samples_at width (drop (octet_count width n) octets))
parts_at width n octets enough =
    let first = samples_at width (take (octet_count width n) octets) in
    let rest = samples_at width (drop (octet_count width n) octets) in
    let counted : length first ≡ n = count_at width n (take (octet_count width n) octets) (length-take-le (octet_count width n) octets enough) in
    let whole : samples_at width octets ≡ first ++ rest = split_at width n octets in
    let long : length (samples_at width octets) ≡ length first + length rest = ap (λ xs. length xs) whole ∙ length-append first rest in (
      omega (arith, counted, long),
      ap (take n) whole ∙ ap (λ k. take k (first ++ rest)) (sym counted) ∙ take-append_seam first rest,
      ap (drop n) whole ∙ ap (λ k. drop k (first ++ rest)) (sym counted) ∙ drop-append_seam first rest,
    )

-- what was set is there, or nothing was there
set_there : (all : List (List ℕ)) (i n : ℕ) → get_or (set all i (drop n (get_or all i []))) i [] ≡ drop n (get_or all i [])
set_there [] i n = sym (drop-nil n)
set_there (xs ∷ all) zero n = refl
set_there (xs ∷ all) (suc i) n = set_there all i n

-- what was left of an input and isn't taken is left on it
left_there : (all : List (List ℕ)) (i : ℕ) (octets rest : List ℕ) → get_or all i [] ≡ octets ++ rest → get_or (set all i rest) i [] ≡ rest
left_there all i octets rest e =
    let is : rest ≡ drop (length octets) (get_or all i []) = sym (ap (drop (length octets)) e ∙ drop-append_seam octets rest) in
    ap (λ xs. get_or (set all i xs) i []) is ∙ set_there all i (length octets) ∙ sym is

-- the samples on one input are these, and all others are the same
same_but : (honest : ℕ → Bool) (c : ℕ) (rest : List ℤ) (before after : Left) → (honest c ≡ true → after c ≡ rest) → ((d : ℕ) → (d ≡ c → ⊥) → after d ≡ before d)
    → IsSameBut honest c rest before after
same_but honest c rest before after its others d h =
    either (eqb_tells d c)
    (λ same. ap after same.1 ∙ its (subst (λ k. honest k ≡ true) same.1 h) ∙ sym (ap (λ b. if b then rest else before d) same.0))
    (λ apart. others d apart.1 ∙ sym (ap (λ b. if b then rest else before d) apart.0))

-- ---- replies

-- what is told of a refused call is a refusal
abbrev Tells : {A M : Type 0} → (A → Call M) → (A → Reply) → Type 0
Tells {A} call reply = (a : A) → is_refusal (reply a) ≡ true → (refusal : Refusal) × (refusal_of (call a) ≡ Some refusal)

no_refusal : {X : Type 0} → false ≡ true → X
no_refusal e = cc

tells_by : {A M : Type 0} (call : Result A Refusal → Call M) (reply : A → Reply) → ((a : A) → is_refusal (reply a) ≡ true → ⊥)
    → ((refusal : Refusal) → refusal_of (call (Err refusal)) ≡ Some refusal) → Tells call (told_by reply)
tells_by call reply never same (Ok answer) e = absurd (never answer e)
tells_by call reply never same (Err refusal) e = (refusal, same refusal)

never_status : (status : Status) → is_refusal (status_reply status) ≡ true → ⊥
never_status Status.Done e = no_refusal e
never_status (Status.Words words) e = no_refusal e

none_refused : {X : Type 0} → 1 ≤ 0 → X
none_refused le = absurd (omega arith)

refusals_of_reply : (reply : Reply) → 1 ≤ refusals (Replied reply ∷ []) → is_refusal reply ≡ true
unfolding refusals
refusals_of_reply (replies_told.No refusal) le = refl
refusals_of_reply replies_told.Done le = none_refused le
refusals_of_reply (replies_told.Words words) le = none_refused le
refusals_of_reply (replies_told.Count n) le = none_refused le
refusals_of_reply (replies_told.Flag flag) le = none_refused le
refusals_of_reply (replies_told.Stat active activations) le = none_refused le
refusals_of_reply (replies_told.Map blocks) le = none_refused le

refusals_of_feed : {X : Type 0} (channel : ℕ) (output : List ℕ) (samples : ℕ) → 1 ≤ refusals (Output channel output ∷ Replied (replies_told.Count samples) ∷ []) → X
unfolding refusals
refusals_of_feed channel output samples le = none_refused le

module _ {M : Type 0} (kinds : Meaning M) (widths : Widths) where
  -- ---- runs of calls

  leads_on : (made more : List (Call M)) (before mid after : Channels M) → Leads kinds before made mid → Leads kinds mid more after → Leads kinds before (made ++ more) after
  leads_on [] more before mid after first second = subst (λ s. Leads kinds s more after) first second
  leads_on (call ∷ made) more before mid after first second = (first.0, first.1, leads_on made more first.0 mid after first.2 second)

  -- the calls were made, and this was written
  pub record Serves (before after : Run (Channels M)) (written : List Written) (made : List (Call M)) : Type 0 where
    pub lead : Leads kinds before.state made after.state
    pub outputs : (c : ℕ) → held c written ≡ octets_at (widths.output c) (fed_out c made)

  pub and_then : (a b c : Run (Channels M)) (first later : List Written) (made more : List (Call M)) → Serves a b first made → Serves b c later more → Serves a c (first ++ later) (made ++ more)
  and_then a b c first later made more one two = record {
    lead = leads_on made more a.state b.state c.state one.lead two.lead;
    outputs = λ k. held_more k first later ∙ ap (λ r. r ++ held k later) (one.outputs k) ∙ ap (λ r. octets_at (widths.output k) (fed_out k made) ++ r) (two.outputs k)
        ∙ sym (ap (octets_at (widths.output k)) (flat_map-append (output_in k) made more) ∙ octets_more_at (widths.output k) (fed_out k made) (fed_out k more));
  }

  nothing : (run : Run (Channels M)) → Serves run run [] []
  nothing run = record { lead = refl; outputs = λ c. held_nothing c ∙ no_octets (widths.output c) }

  replied : (run : Run (Channels M)) (reply : Reply) → Serves run run (Replied reply ∷ []) []
  replied run reply = record { lead = refl; outputs = λ c. held_of_reply c reply ∙ no_octets (widths.output c) }

  -- a call that feeds nobody
  abbrev IsQuiet : Call M → Type 0
  IsQuiet call = (c : ℕ) → output_in c call ≡ []

  called : (run : Run (Channels M)) (state : Channels M) (call : Call M) → Does kinds run.state call state → IsQuiet call → Serves run (at_state run state) [] (call ∷ [])
  called run state call does quiet = record {
    lead = (state, does, refl);
    outputs = λ c. held_nothing c ∙ no_octets (widths.output c) ∙ ap (octets_at (widths.output c)) (sym (append-nil (output_in c call) ∙ quiet c));
  }

  short : (run : Run (Channels M)) (channel : ℕ) (rest : List ℕ) → Serves run (with_left run channel rest) [] []
  short run channel rest = record { lead = refl; outputs = λ c. held_nothing c ∙ no_octets (widths.output c) }

  module _ (named : List ℕ → Option M) (honest : ℕ → Bool) where
    abbrev machine : served.Machine (Channels M)
    machine = console_machine kinds named widths

    -- the octets of so many samples of the channel's input
    abbrev octets_for : ℕ → ℕ → ℕ
    octets_for channel n = octet_count (widths.input channel) n

    abbrev samples_for : ℕ → List ℕ → List ℤ
    samples_for channel octets = samples_at (widths.input channel) octets

    -- a feed that isn't short
    fed : (run : Run (Channels M)) (channel : ℕ) (octets rest : List ℕ) (answer : Answer (Channels M))
        → (f : FedAnswer machine (with_left run channel rest) channel octets answer)
        → Serves run answer.run answer.written (calls.Feed channel (samples_for channel octets) f.3.0 ∷ [])
    fed run channel octets rest answer f =
        let block = samples_for channel octets in
        let call : Call M = calls.Feed channel block f.3.0 in
        record {
          lead = (f.2, f.3.1, ap (λ a. a.run.state) f.4);
          outputs = λ c. ap (λ a. held c a.written) f.4
              ∙ held_more c (Output channel f.0 ∷ []) (Replied (replies_told.Count f.1) ∷ [])
              ∙ ap (λ r. held c (Output channel f.0 ∷ []) ++ r) (held_of_reply c (replies_told.Count f.1))
              ∙ append-nil (held c (Output channel f.0 ∷ []))
              ∙ held_of_output c channel f.0
              ∙ ap (λ output. if c == channel then output else []) f.3.2
              ∙ octets_where (widths.output channel) (c == channel) f.3.0
              ∙ octets_where_given widths c channel f.3.0
              ∙ ap (octets_at (widths.output c)) (sym (append-nil (output_in c call)));
        }

    -- ---- one line

    -- what was made for it, and what it leaves where it is refused
    pub record Did (Made : Left → List (Call M) → Left → Type 0) (run : Run (Channels M)) (answer : Answer (Channels M)) : Type 0 where
      pub made : List (Call M)
      pub asked : Made (left widths run) made (left widths answer.run)
      pub serves : Serves run answer.run answer.written made
      pub refused : 1 ≤ refusals answer.written → answer.run.state ≡ run.state

    abbrev pub Leaves : Type 0
    Leaves = (before after : Channels M) (call : Call M) (refusal : Refusal) → Does kinds before call after → refusal_of call ≡ Some refusal → after ≡ before

    -- nothing is called, and a reply is told or none
    silent : (Made : Left → List (Call M) → Left → Type 0) → ((before after : Left) → IsSame honest before after → Made before [] after) → (run : Run (Channels M)) (state : Channels M) (asked : Asked) (answer : Answer (Channels M))
        → state ≡ run.state → AskedAnswer machine honest (at_state run state) asked answer
        → (asked ≡ served.Nothing) ⊎ ((reply : Reply) × (asked ≡ Tell reply)) → Did Made run answer
    silent Made none run state asked answer same answered (inl e) =
        let is : answer ≡ record { run = at_state run state; written = [] } = subst (λ a. AskedAnswer machine honest (at_state run state) a answer) e answered in
        let here : at_state run state ≡ run = ap (λ s. at_state run s) same in
        record {
          made = [];
          asked = none (left widths run) (left widths answer.run) (λ c h. ap (λ (a : Answer (Channels M)). left widths a.run c) is);
          serves = subst (λ (a : Answer (Channels M)). Serves run a.run a.written []) (sym (is ∙ ap (λ r. record { run = r; written = [] }) here)) (nothing run);
          refused = λ le. ap (λ a. a.run.state) is ∙ same;
        }
    silent Made none run state asked answer same answered (inr told) =
        let reply = told.0 in
        let is : answer ≡ replies (at_state run state) reply = subst (λ a. AskedAnswer machine honest (at_state run state) a answer) told.1 answered in
        let here : at_state run state ≡ run = ap (λ s. at_state run s) same in
        record {
          made = [];
          asked = none (left widths run) (left widths answer.run) (λ c h. ap (λ (a : Answer (Channels M)). left widths a.run c) is);
          serves = subst (λ (a : Answer (Channels M)). Serves run a.run a.written []) (sym (is ∙ ap (λ r. replies r reply) here)) (replied run reply);
          refused = λ le. ap (λ a. a.run.state) is ∙ same;
        }

    module _ (leaves : Leaves) (run : Run (Channels M)) (state : Channels M) (asked : Asked) (answer : Answer (Channels M)) where
      -- one call, and its answer is told
      made_by : {A : Type 0} (call : A → Call M) (reply : A → Reply) → ((a : A) → IsQuiet (call a)) → Tells call reply
          → (a : A) → Does kinds run.state (call a) state → asked ≡ Tell (reply a) → AskedAnswer machine honest (at_state run state) asked answer → Did (Makes honest call) run answer
      made_by call reply quiet tells_so a does e answered =
          let is : answer ≡ replies (at_state run state) (reply a) = subst (λ b. AskedAnswer machine honest (at_state run state) b answer) e answered in
          record {
            made = call a ∷ [];
            asked = (a, refl, λ c h. ap (λ (b : Answer (Channels M)). left widths b.run c) is);
            serves = subst (λ (b : Answer (Channels M)). Serves run b.run b.written (call a ∷ [])) (sym is)
                (and_then run (at_state run state) (at_state run state) [] (Replied (reply a) ∷ []) (call a ∷ []) []
                (called run state (call a) does (quiet a)) (replied (at_state run state) (reply a)));
            refused = λ le.
                let no = tells_so a (refusals_of_reply (reply a) (subst (λ (b : Answer (Channels M)). 1 ≤ refusals b.written) is le)) in
                ap (λ b. b.run.state) is ∙ leaves run.state state (call a) no.0 does no.1;
          }

      by_call : {A : Type 0} (call : A → Call M) (reply : A → Reply) → ((a : A) → IsQuiet (call a)) → Tells call reply
          → Calls kinds call (λ a. Tell (reply a)) run.state asked state → AskedAnswer machine honest (at_state run state) asked answer → Did (Makes honest call) run answer
      by_call call reply quiet tells_so c answered = made_by call reply quiet tells_so c.0 c.1 c.2 answered

      by_told : {A : Type 0} (call : Result A Refusal → Call M) (reply : A → Reply) → ((a : A) → is_refusal (reply a) ≡ true → ⊥)
          → ((a : Result A Refusal) → IsQuiet (call a)) → ((refusal : Refusal) → refusal_of (call (Err refusal)) ≡ Some refusal)
          → Calls kinds call (λ a. Tell (told_by reply a)) run.state asked state → AskedAnswer machine honest (at_state run state) asked answer → Did (Makes honest call) run answer
      by_told call reply never quiet same does a = by_call call (told_by reply) quiet (tells_by call reply never same) does a

      by_done : (call : Result (Unit {0}) Refusal → Call M) → ((a : Result (Unit {0}) Refusal) → IsQuiet (call a)) → ((refusal : Refusal) → refusal_of (call (Err refusal)) ≡ Some refusal)
          → Calls kinds call (λ a. Tell (told_by (λ _. replies_told.Done) a)) run.state asked state → AskedAnswer machine honest (at_state run state) asked answer → Did (Makes honest call) run answer
      by_done call quiet same does a = by_told call (λ _. replies_told.Done) (λ b e. no_refusal e) quiet same does a

      by_status : (call : Result Status Refusal → Call M) → ((a : Result Status Refusal) → IsQuiet (call a)) → ((refusal : Refusal) → refusal_of (call (Err refusal)) ≡ Some refusal)
          → Calls kinds call (λ a. Tell (told_by status_reply a)) run.state asked state → AskedAnswer machine honest (at_state run state) asked answer → Did (Makes honest call) run answer
      by_status call quiet same does a = by_told call status_reply never_status quiet same does a

      ready_told : (c : ℕ) (r : Refusal) → Does kinds run.state (calls.Ready c (Err r)) state → asked ≡ Tell (replies_told.No r)
          → AskedAnswer machine honest (at_state run state) asked answer → Did (Makes honest (λ (b : Refusal). calls.Ready c (Err b))) run answer
      ready_told c r does e answered = made_by (λ (b : Refusal). calls.Ready c (Err b)) (λ b. replies_told.No b) (λ b k. refl) (λ b e'. (b, refl)) r does e answered

      -- a feed
      by_feed : (c n : ℕ) → Calls kinds (λ a. calls.Ready c a) (feed_asked (widths.input c) c n) run.state asked state → AskedAnswer machine honest (at_state run state) asked answer
          → Did (CommandMakes honest (script.Feed c n)) run answer
      by_feed c n does answered = by_answer does.0 does.1 does.2
        where
          or_more : Did (Makes honest (λ (a : Refusal). calls.Ready c (Err a))) run answer → Did (CommandMakes honest (script.Feed c n)) run answer
          or_more did = record { made = did.made; asked = inl did.asked; serves = did.serves; refused = did.refused }

          by_answer : (a : Result (Unit {0}) Refusal) → Does kinds run.state (calls.Ready c a) state → asked ≡ feed_asked (widths.input c) c n a → Did (CommandMakes honest (script.Feed c n)) run answer
          by_answer (Err refusal) does e = or_more (ready_told c refusal does e answered)
          by_answer (Ok answer_done) does e =
              let ready = at_state run state in
              let call : Call M = calls.Ready c (Ok answer_done) in
              let first = called run state call does (λ k. refl) in
              let stays : state ≡ run.state = ready_stays (channel_refusal run.state c) does in
              let feed : FeedAnswer machine honest ready c (octets_for c n) answer =
              subst (λ b. AskedAnswer machine honest ready b answer) e answered in
              let left_is : honest c ≡ true → octets_left (with_left ready c feed.left) c ≡ feed.left =
              λ h. left_there ready.inputs c feed.octets feed.left (feed.first h) in
              either (less_or_not (length feed.octets) (octets_for c n))
              (λ less.
              let told = feed.short less in
              let is = told.1 in
              record {
                made = call ∷ [];
                asked = inr (inl (
                  λ h.
                      let all : octets_left ready c ≡ feed.octets = feed.first h ∙ ap (λ rest. feed.octets ++ rest) (told.0 h) ∙ append-nil feed.octets in
                      fewer_at (widths.input c) n (octets_left ready c) (subst (λ xs. length xs < octets_for c n) (sym all) less),
                  same_but honest c [] (left widths run) (left widths answer.run)
                      (λ h. ap (λ (b : Answer (Channels M)). left widths b.run c) is ∙ ap (samples_at (widths.input c)) (left_is h ∙ told.0 h) ∙ no_samples (widths.input c))
                      (λ d ne. ap (λ (b : Answer (Channels M)). left widths b.run d) is ∙ ap (samples_at (widths.input d)) (get_or-set_other ready.inputs c d _ [] ne)),
                  refl,
                ));
                serves = subst (λ (b : Answer (Channels M)). Serves run b.run b.written (call ∷ [])) (sym is)
                    (and_then run ready (with_left ready c feed.left) [] (Replied (replies_told.No Short) ∷ []) (call ∷ []) [] first
                    (and_then ready (with_left ready c feed.left) (with_left ready c feed.left) [] (Replied (replies_told.No Short) ∷ []) [] []
                    (short ready c feed.left) (replied (with_left ready c feed.left) (replies_told.No Short))));
                refused = λ le. ap (λ b. b.run.state) is ∙ stays;
              })
              (λ enough.
              let whole = feed.whole enough in
              let f = whole.1 in
              let taken : honest c ≡ true → take (octets_for c n) (octets_left ready c) ≡ feed.octets =
              λ h. ap (take (octets_for c n)) (feed.first h) ∙ ap (λ k. take k (feed.octets ++ feed.left)) (sym whole.0) ∙ take-append_seam feed.octets feed.left in
              let dropped : honest c ≡ true → drop (octets_for c n) (octets_left ready c) ≡ feed.left =
              λ h. ap (drop (octets_for c n)) (feed.first h) ∙ ap (λ k. drop k (feed.octets ++ feed.left)) (sym whole.0) ∙ drop-append_seam feed.octets feed.left in
              let parts = λ (h : honest c ≡ true). parts_at (widths.input c) n (octets_left ready c) (all_there feed.octets feed.left (octets_left ready c) (feed.first h) whole.0) in
              record {
                made = call ∷ calls.Feed c (samples_for c feed.octets) f.3.0 ∷ [];
                asked = inr (inr (
                  samples_for c feed.octets,
                  f.3.0,
                  count_at (widths.input c) n feed.octets whole.0,
                  λ h. (parts h).1 ∙ ap (samples_at (widths.input c)) (taken h),
                  same_but honest c (drop n (left widths run c)) (left widths run) (left widths answer.run)
                      (λ h. ap (λ (b : Answer (Channels M)). left widths b.run c) f.4 ∙ ap (samples_at (widths.input c)) (left_is h ∙ sym (dropped h)) ∙ sym (parts h).2)
                      (λ d ne. ap (λ (b : Answer (Channels M)). left widths b.run d) f.4 ∙ ap (samples_at (widths.input d)) (get_or-set_other ready.inputs c d _ [] ne)),
                  refl,
                ));
                serves = and_then run ready answer.run [] answer.written (call ∷ []) (calls.Feed c (samples_for c feed.octets) f.3.0 ∷ []) first (fed ready c feed.octets feed.left answer f);
                refused = λ le. refusals_of_feed c f.0 f.1 (subst (λ (b : Answer (Channels M)). 1 ≤ refusals b.written) f.4 le);
              })
            where
              less_or_not : (m k : ℕ) → (m < k) ⊎ (k ≤ m)
              less_or_not m k = grind arith

              all_there : {k : ℕ} (xs ys zs : List ℕ) → zs ≡ xs ++ ys → length xs ≡ k → k ≤ length zs
              all_there xs ys zs e l = omega (arith, l, ap (λ all. length all) e ∙ length-append xs ys)

              ready_stays : {a : Unit {0}} (r : Option Refusal) → (Ok a, state) ≡ unless r run.state (Ok (tt {0}), run.state) → state ≡ run.state
              ready_stays None e = ap (λ o. o.1) e
              ready_stays (Some refusal) e = ap (λ o. o.1) e

      by_command : (command : Command M) → CommandAsks kinds widths command run.state asked state → AskedAnswer machine honest (at_state run state) asked answer
          → Did (CommandMakes honest command) run answer
      by_command (script.Create i kind g words) does a = by_done (call_of (script.Create i kind g words)).call (λ b c. refl) (λ r. refl) does a
      by_command (script.Control i control) does a = by_status (call_of (script.Control i control)).call (λ b c. refl) (λ r. refl) does a
      by_command (script.Delete i) does a = by_done (call_of (script.Delete i)).call (λ b c. refl) (λ r. refl) does a
      by_command (script.Chain c is) does a = by_done (call_of (script.Chain c is)).call (λ b d. refl) (λ r. refl) does a
      by_command (script.Unchain c) does a = by_done (call_of (script.Unchain c)).call (λ b d. refl) (λ r. refl) does a
      by_command (script.Feed c n) does a = by_feed c n does a
      by_command (script.Compact space) does a = by_call (call_of (script.Compact space)).call replies_told.Count (λ b c. refl) (λ b e. no_refusal e) does a
      by_command (script.Step space) does a = by_call (call_of (script.Step space)).call replies_told.Flag (λ b c. refl) (λ b e. no_refusal e) does a
      by_command (script.Release g) does a = by_told (call_of (script.Release g)).call replies_told.Flag (λ b e. no_refusal e) (λ b c. refl) (λ r. refl) does a
      by_command (script.Map space) does a = by_call (call_of (script.Map space)).call replies_told.Map (λ b c. refl) (λ b e. no_refusal e) does a
      by_command (script.Stat g) does a = by_told (call_of (script.Stat g)).call (λ b. replies_told.Stat b.active b.count) (λ b e. no_refusal e) (λ b c. refl) (λ r. refl) does a

      by_line : (line : Result (Option (Command M)) Refusal) → LineAsks kinds widths line run.state asked state → AskedAnswer machine honest (at_state run state) asked answer
          → Did (LineMakes honest line) run answer
      by_line (Ok (Some command)) does a = by_command command does a
      by_line (Ok None) does a = silent (LineMakes honest (Ok None)) (λ before after same. (refl, same)) run state asked answer does.1 a (inl does.0)
      by_line (Err refusal) does a = silent (LineMakes honest (Err refusal)) (λ before after same. (refl, same)) run state asked answer does.1 a (inr (replies_told.No refusal, does.0))

    -- a long line is refused
    abbrev line_of : List ℕ → Result (Option (Command M)) Refusal
    line_of line = if nat_lt LINE_OCTETS (length line) then Err Long else parsed named line

    pub one_did : Leaves → (run : Run (Channels M)) (line : List ℕ) (answer : Answer (Channels M)) → LineAnswer machine honest run line answer → Did (LineMakes honest (line_of line)) run answer
    one_did leaves run line answer a =
        either (true_or_false (nat_lt LINE_OCTETS (length line)))
        (λ long.
        let is = a.long (grind (arith, long)) in
        at long (record {
          made = [];
          asked = (refl, λ c h. ap (λ (b : Answer (Channels M)). left widths b.run c) is);
          serves = subst (λ (b : Answer (Channels M)). Serves run b.run b.written []) (sym is) (replied run (replies_told.No Long));
          refused = λ le. ap (λ b. b.run.state) is;
        }))
        (λ fits. let s = a.fits (grind (arith, fits)) in at fits (by_line leaves run s.1 s.0 answer (parsed named line) s.2 s.3))
      where
        at : {b : Bool} → nat_lt LINE_OCTETS (length line) ≡ b → Did (LineMakes honest (if b then Err Long else parsed named line)) run answer
            → Did (LineMakes honest (line_of line)) run answer
        at e did = subst (λ b. Did (LineMakes honest (if b then Err Long else parsed named line)) run answer) (sym e) did

    -- ---- all lines

    pub all_did : Leaves → (lines : List (List ℕ)) (run : Run (Channels M)) (answer : Answer (Channels M)) → LinesAnswer machine honest run lines answer
        → (made : List (Call M)) × LinesMake honest named lines (left widths run) made (left widths answer.run) × Serves run answer.run answer.written made
    all_did leaves [] run answer e = ([], (refl, λ c h. ap (λ (b : Answer (Channels M)). left widths b.run c) e), subst (λ (b : Answer (Channels M)). Serves run b.run b.written []) (sym e) (nothing run))
    all_did leaves (line ∷ lines) run answer a =
        let first = one_did leaves run line a.0 a.1 in
        let rest = all_did leaves lines a.0.run a.2 a.3 in (
          first.made ++ rest.0,
          (left widths a.0.run, first.made, rest.0, first.asked, subst (λ (b : Answer (Channels M)). LinesMake honest named lines (left widths a.0.run) rest.0 (left widths b.run)) (sym a.4) rest.1, refl),
          subst (λ (b : Answer (Channels M)). Serves run b.run b.written (first.made ++ rest.0)) (sym a.4)
              (and_then run a.0.run a.2.run a.0.written a.2.written first.made rest.0 first.serves rest.2),
        )

    pub are_calls : Leaves → (lines : List (List ℕ)) (run : Run (Channels M)) (answer : Answer (Channels M)) → LinesAnswer machine honest run lines answer
        → (made : List (Call M)) × AreCalls kinds named widths honest run lines answer made
    are_calls leaves lines run answer a =
        let did = all_did leaves lines run answer a in
        (did.0, record { lead = did.2.lead; commands = did.1; outputs = did.2.outputs })

    -- ---- the first lines, and those after them

    pub record DidFirst (first more : List (List ℕ)) (run : Run (Channels M)) (answer : Answer (Channels M)) : Type 0 where
      pub so_far : Answer (Channels M)
      pub served : LinesAnswer machine honest run first so_far
      pub later : List Written
      pub written : answer.written ≡ so_far.written ++ later
      pub made : List (Call M)
      pub commands : LinesMake honest named first (left widths run) made (left widths so_far.run)
      pub serves : Serves run so_far.run so_far.written made
      pub made_later : List (Call M)
      pub serves_later : Serves so_far.run answer.run later made_later
      pub all_commands : LinesMake honest named (first ++ more) (left widths run) (made ++ made_later) (left widths answer.run)

    pub did_first : Leaves → (first more : List (List ℕ)) (run : Run (Channels M)) (answer : Answer (Channels M)) → LinesAnswer machine honest run (first ++ more) answer
        → DidFirst first more run answer
    did_first leaves [] more run answer a =
        let did = all_did leaves more run answer a in
        record {
          so_far = record { run = run; written = [] };
          served = refl;
          later = answer.written;
          written = refl;
          made = [];
          commands = (refl, λ c h. refl);
          serves = nothing run;
          made_later = did.0;
          serves_later = did.2;
          all_commands = did.1;
        }
    did_first leaves (line ∷ first) more run answer a =
        let one = one_did leaves run line a.0 a.1 in
        let rest = did_first leaves first more a.0.run a.2 a.3 in
        record {
          so_far = then_answer a.0.written rest.so_far;
          served = (a.0, a.1, rest.so_far, rest.served, refl);
          later = rest.later;
          written = ap (λ (b : Answer (Channels M)). b.written) a.4 ∙ ap (λ w. a.0.written ++ w) rest.written ∙ sym (append_assoc a.0.written rest.so_far.written rest.later);
          made = one.made ++ rest.made;
          commands = (left widths a.0.run, one.made, rest.made, one.asked, rest.commands, refl);
          serves = and_then run a.0.run rest.so_far.run a.0.written rest.so_far.written one.made rest.made one.serves rest.serves;
          made_later = rest.made_later;
          serves_later = subst (λ (b : Answer (Channels M)). Serves rest.so_far.run b.run rest.later rest.made_later) (sym a.4) rest.serves_later;
          all_commands = (
            left widths a.0.run,
            one.made,
            rest.made ++ rest.made_later,
            one.asked,
            subst (λ (b : Answer (Channels M)). LinesMake honest named (first ++ more) (left widths a.0.run) (rest.made ++ rest.made_later) (left widths b.run)) (sym a.4) rest.all_commands,
            append_assoc one.made rest.made rest.made_later,
          );
        }

-- ---- a feed whose input is honest

enough : (n : ℕ) (xs : List ℤ) → length (take n xs) ≡ n → n ≤ length xs
enough n xs e =
    either (fewer_or_not (length xs) n)
    (λ fewer. let all : length (take n xs) ≡ length xs = ap (λ ys. length ys) (take_all n xs (omega (arith, fewer))) in absurd (omega (arith, fewer, all, e)))
    (λ there. there)
  where
    fewer_or_not : (m k : ℕ) → (m < k) ⊎ (k ≤ m)
    fewer_or_not m k = grind arith

module _ {M : Type 0} (honest : ℕ → Bool) (c n : ℕ) (before after : Left) (made : List (Call M)) (is : honest c ≡ true) (taken : IsFed honest c n before made after) where
  pub has_enough : n ≤ length (before c)
  has_enough = enough n (before c) (ap (λ xs. length xs) (taken.3 is) ∙ taken.2)

  pub takes_next : (out : List ℤ) × (made ≡ calls.Ready c (Ok tt) ∷ calls.Feed c (take n (before c)) out ∷ [])
  takes_next = (taken.1, taken.5 ∙ ap (λ block. calls.Ready c (Ok tt) ∷ calls.Feed c block taken.1 ∷ []) (sym (taken.3 is)))

  pub leaves_others : after c ≡ drop n (before c)
  leaves_others =
      either (eqb_tells c c)
      (λ same. taken.4 c is ∙ ap (λ b. if b then drop n (before c) else before c) same.0)
      (λ apart. absurd (apart.1 refl))
