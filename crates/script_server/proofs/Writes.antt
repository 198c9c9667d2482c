-- What the ports together took.
use Rattle.std.proofs.Common.{◌≡◌, ◌≢◌, ℕ, ◌<◌, true, false, List, [], ◌∷◌, ◌++◌, map, filter, length, take, drop, Option, Some, None, slice_index_or, slice_set, All, ◌⊎◌, inl, inr, nat_le, refl, sym, ap, ◌∙◌, append_assoc, arith, eqb}
use Rattle.std.specs.Option.{option_eq}
use Rattle.std.specs.Prelude.{nat_eq}
use Rattle.std.proofs.lemmas.List.{append-nil, map-append, take-append-drop, get_or-take, get_or-set_same, get_or-set_other, length-set}
use Rattle.std.proofs.lemmas.List.Elements.{filter-append, All-get_or}
use Rattle.std.proofs.lemmas.Grind.{common_steps, flat_map-append}
use Rattle.std.proofs.lemmas.Bool.Decides.{nat_tests}
use Rattle.ialg.specs.declared.refusal.Refusal.TheVariants.{Long, Short}
use Rattle.voice_script.specs.Replies.{Reply, No, reply_text}
use Rattle.octet_ports.specs.Ports.{Sink, Holds, Waits, Takes, TakesFirst, HasPassedAll}
use Rattle.octet_ports.proofs.Ports.{holds_none, holds_more, waits_none, waits_more}
use Rattle.voice_script.specs.Served.{Octet, Written, Output, Replied, held_by, order_of, octets_written}
use Rattle.script_server.specs.Runs.{StepsAt, Writes, AllWait, InAscendingOrder, no_sink}
use Rattle.script_server.specs.LineRuns.{WritesFirst}

abbrev pub short_text : List ℕ
short_text = reply_text (No Short)

abbrev pub long_text : List ℕ
long_text = reply_text (No Long)

pub held_by-append : (port : Option ℕ) (xs ys : List Octet) → held_by port (xs ++ ys) ≡ held_by port xs ++ held_by port ys
unfolding held_by
held_by-append port xs ys =
    ap (map (λ o. o.1)) (filter-append (λ (o : Octet). option_eq nat_eq port o.0) xs ys)
    ∙ map-append (λ (o : Octet). o.1) (filter (λ o. option_eq nat_eq port o.0) xs) (filter (λ o. option_eq nat_eq port o.0) ys)

-- octets of one port
abbrev pub octets_to : Option ℕ → List ℕ → List Octet
octets_to port octets = map (λ b. (port, b)) octets

pub held_by-same : (port : Option ℕ) → option_eq nat_eq port port ≡ true → (xs : List ℕ) → held_by port (octets_to port xs) ≡ xs
unfolding held_by
held_by-same port e [] = refl
held_by-same port e (x ∷ xs) = rw e (ap (λ r. x ∷ r) (held_by-same port e xs))

pub held_by-other : (port other : Option ℕ) → option_eq nat_eq port other ≡ false → (xs : List ℕ) → held_by port (octets_to other xs) ≡ []
unfolding held_by
held_by-other port other e [] = refl
held_by-other port other e (x ∷ xs) = rw e (held_by-other port other e xs)

pub same_number : (c : ℕ) → option_eq nat_eq (Some c) (Some c) ≡ true
same_number c = grind (arith, nat_tests)

pub writes_none : (outputs : List Sink) (replies : Sink) → Writes [] outputs outputs replies replies
unfolding held_by
writes_none outputs replies = record { count = refl; output = λ c h. holds_none _; reply = holds_none _ }

pub writes_more : {first later : List Octet} {a b c : List Sink} {x y z : Sink} → Writes first a b x y → Writes later b c y z → Writes (first ++ later) a c x z
writes_more {first} {later} {a} {b} {c} {x} {y} {z} v w = record {
  count = w.count ∙ v.count;
  output = λ i h. rw (held_by-append (Some i) first later) (holds_more (v.output i h) (w.output i (rw v.count h)));
  reply = rw (held_by-append None first later) (holds_more v.reply w.reply);
}

pub writes_reply : (outputs : List Sink) {text : List ℕ} {replies new_replies : Sink} → Holds text replies new_replies → Writes (octets_to None text) outputs outputs replies new_replies
writes_reply outputs {text} {replies} {new_replies} t = record {
  count = refl;
  output = λ c h. rw (held_by-other (Some c) None refl text) (holds_none _);
  reply = rw (held_by-same None refl text) t;
}

pub writes_output : (replies : Sink) {channel : ℕ} {octets : List ℕ} {outputs new_outputs : List Sink} → channel < length outputs
    → StepsAt (λ old new. Holds octets old new) channel no_sink outputs new_outputs → Writes (octets_to (Some channel) octets) outputs new_outputs replies replies
writes_output replies {channel} {octets} {outputs} {new_outputs} there s = rw s.others (record {
  count = length-set outputs channel s.after;
  output = λ c h. elim (eqb c channel) as (λ t. eqb c channel ≡ t → Holds (held_by (Some c) (octets_to (Some channel) octets)) (slice_index_or outputs c no_sink) (slice_index_or (slice_set outputs channel s.after) c no_sink)) [
    | true ↦ λ e. (let same : c ≡ channel = grind (arith, nat_tests) in
        rw (same, held_by-same (Some channel) (same_number channel) octets, get_or-set_same outputs channel s.after no_sink there) s.step)
    | false ↦ λ e. (let other : c ≢ channel = grind (arith, nat_tests) in
        rw (held_by-other (Some c) (Some channel) e octets, get_or-set_other outputs channel c s.after no_sink other) (holds_none _))
  ] refl;
  reply = rw (held_by-other None (Some channel) refl octets) (holds_none _);
})

-- what a step does is more than this
pub step_weaker : {A : Type 0} (P Q : A → A → Type 0) {number : ℕ} {none : A} {old new : List A} → ((x y : A) → P x y → Q x y)
    → StepsAt P number none old new → StepsAt Q number none old new
step_weaker P Q {number} {none} {old} f s = record { after = s.after; others = s.others; step = f (slice_index_or old number none) s.after s.step }

pub step_holds : {channel : ℕ} {octets : List ℕ} {outputs new_outputs : List Sink} → StepsAt (λ old new. Takes octets old new) channel no_sink outputs new_outputs
    → StepsAt (λ old new. Holds octets old new) channel no_sink outputs new_outputs
step_holds {octets = octets} s = step_weaker (λ x y. Takes octets x y) (λ x y. Holds octets x y) (λ x y t. t.holds) s

-- ---- what passes nothing on

pub wait_none : (outputs : List Sink) (replies : Sink) → AllWait outputs outputs replies replies
wait_none outputs replies = record { count = refl; output = λ c h. waits_none _; reply = waits_none _ }

pub wait_more : {a b c : List Sink} {x y z : Sink} → AllWait a b x y → AllWait b c y z → AllWait a c x z
wait_more v w = record {
  count = w.count ∙ v.count;
  output = λ i h. waits_more (v.output i h) (w.output i (rw v.count h));
  reply = waits_more v.reply w.reply;
}

pub wait_reply : (outputs : List Sink) {replies new_replies : Sink} → Waits replies new_replies → AllWait outputs outputs replies new_replies
wait_reply outputs w = record { count = refl; output = λ c h. waits_none _; reply = w }

pub wait_output : (replies : Sink) {channel : ℕ} {outputs new_outputs : List Sink} → channel < length outputs
    → StepsAt (λ old new. Waits old new) channel no_sink outputs new_outputs → AllWait outputs new_outputs replies replies
wait_output replies {channel} {outputs} {new_outputs} there s = rw s.others (record {
  count = length-set outputs channel s.after;
  output = λ c h. elim (eqb c channel) as (λ t. eqb c channel ≡ t → Waits (slice_index_or outputs c no_sink) (slice_index_or (slice_set outputs channel s.after) c no_sink)) [
    | true ↦ λ e. (let same : c ≡ channel = grind (arith, nat_tests) in rw (same, get_or-set_same outputs channel s.after no_sink there) s.step)
    | false ↦ λ e. (let other : c ≢ channel = grind (arith, nat_tests) in rw (get_or-set_other outputs channel c s.after no_sink other) (waits_none _))
  ] refl;
  reply = waits_none _;
})

pub wait_took : (replies : Sink) {channel : ℕ} {octets : List ℕ} {outputs new_outputs : List Sink} → channel < length outputs
    → StepsAt (λ old new. Takes octets old new) channel no_sink outputs new_outputs → AllWait outputs new_outputs replies replies
wait_took replies {octets = octets} there s = wait_output replies there (step_weaker (λ x y. Takes octets x y) (λ x y. Waits x y) (λ x y t. t.waits) s)

pub wait_took_first : (replies : Sink) {channel : ℕ} {octets : List ℕ} {outputs new_outputs : List Sink} → channel < length outputs
    → StepsAt (λ old new. TakesFirst octets old new) channel no_sink outputs new_outputs → AllWait outputs new_outputs replies replies
wait_took_first replies {octets = octets} there s = wait_output replies there (step_weaker (λ x y. TakesFirst octets x y) (λ x y. Waits x y) (λ x y t. t.first.waits) s)

-- ---- in which order the outputs pass on

-- the outputs below a number have passed all on, and those above it are as they were
pub in_order : (number : ℕ) (outputs new_outputs : List Sink) → length new_outputs ≡ length outputs → All HasPassedAll (take number new_outputs)
    → ((k : ℕ) → number < k → slice_index_or new_outputs k no_sink ≡ slice_index_or outputs k no_sink) → InAscendingOrder outputs new_outputs
in_order number outputs new_outputs count passed stay lower higher less there =
    elim (nat_le higher number) as (λ t. nat_le higher number ≡ t → Waits (slice_index_or outputs higher no_sink) (slice_index_or new_outputs higher no_sink) ⊎ HasPassedAll (slice_index_or new_outputs lower no_sink)) [
      | true ↦ λ e. (
          let below : lower < number = grind (arith, nat_tests) in
          let within : lower < length (take number new_outputs) = grind (arith, common_steps) in
          inr (rw (get_or-take number new_outputs lower no_sink below) at (All-get_or HasPassedAll (take number new_outputs) lower no_sink within passed))
          )
      | false ↦ λ e. (
          let above : number < higher = grind (arith, nat_tests) in
          inl (rw (stay higher above) (waits_none _))
          )
    ] refl

-- at first no output passed anything on
pub order_after : {a b : List Sink} (c : List Sink) {x y : Sink} → AllWait a b x y → InAscendingOrder b c → InAscendingOrder a c
order_after c w order lower higher less there =
    elim (order lower higher less (rw w.count there)) [
      | inl waits ↦ inl (waits_more (w.output higher there) waits)
      | inr passed ↦ inr passed
    ]

pub order_waits : {a b : List Sink} {x y : Sink} → AllWait a b x y → InAscendingOrder a b
order_waits w lower higher less there = inl (w.output higher there)

-- ---- the first of an order

pub first_more : {order after : List Octet} {a b c : List Sink} {x y z : Sink} → Writes order a b x y → WritesFirst after b c y z → WritesFirst (order ++ after) a c x z
first_more {order} {after} v w = record {
  first = order ++ w.first;
  later = w.later;
  is_first = ap (λ r. order ++ r) w.is_first ∙ sym (append_assoc order w.first w.later);
  writes = writes_more v w.writes;
}

pub first_longer : {order : List Octet} (after : List Octet) {a b : List Sink} {x y : Sink} → WritesFirst order a b x y → WritesFirst (order ++ after) a b x y
first_longer {order} after w = record {
  first = w.first;
  later = w.later ++ after;
  is_first = ap (λ r. r ++ after) w.is_first ∙ append_assoc w.first w.later after;
  writes = w.writes;
}

pub octets_to_first : (port : Option ℕ) (count : ℕ) (octets : List ℕ) → octets_to port octets ≡ octets_to port (take count octets) ++ octets_to port (drop count octets)
octets_to_first port count octets = ap (octets_to port) (sym (take-append-drop count octets)) ∙ map-append (λ b. (port, b)) (take count octets) (drop count octets)

pub first_reply : (outputs : List Sink) {text : List ℕ} {replies new_replies : Sink} → TakesFirst text replies new_replies → WritesFirst (octets_to None text) outputs outputs replies new_replies
first_reply outputs {text} t = record {
  first = octets_to None (take t.count text);
  later = octets_to None (drop t.count text);
  is_first = octets_to_first None t.count text;
  writes = writes_reply outputs t.first.holds;
}

pub first_output : (replies : Sink) {channel : ℕ} {octets : List ℕ} {outputs new_outputs : List Sink} → channel < length outputs
    → StepsAt (λ old new. TakesFirst octets old new) channel no_sink outputs new_outputs → WritesFirst (octets_to (Some channel) octets) outputs new_outputs replies replies
first_output replies {channel} {octets} there s =
    let t = s.step in
    record {
      first = octets_to (Some channel) (take t.count octets);
      later = octets_to (Some channel) (drop t.count octets);
      is_first = octets_to_first (Some channel) t.count octets;
      writes = writes_output replies there (record { after = s.after; others = s.others; step = t.first.holds });
    }

-- ---- one order

pub order_of-append : (xs ys : List Written) → order_of (xs ++ ys) ≡ order_of xs ++ order_of ys
unfolding order_of
order_of-append xs ys = flat_map-append octets_written xs ys

pub order_of_reply : (reply : Reply) → order_of (Replied reply ∷ []) ≡ octets_to None (reply_text reply)
unfolding order_of
order_of_reply reply = append-nil (octets_to None (reply_text reply))

pub order_of_feed : (channel : ℕ) (octets : List ℕ) (reply : Reply) → order_of (Output channel octets ∷ Replied reply ∷ []) ≡ octets_to (Some channel) octets ++ octets_to None (reply_text reply)
unfolding order_of
order_of_feed channel octets reply = ap (λ told. octets_to (Some channel) octets ++ told) (append-nil (octets_to None (reply_text reply)))
