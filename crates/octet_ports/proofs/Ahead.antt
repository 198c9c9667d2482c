-- A line feed that is ahead, and the line in front of it.
use Rattle.std.proofs.Common.{◌≡◌, ◌≢◌, ◌⊎◌, inl, inr, ℕ, zero, suc, ◌+◌, ◌-◌, ◌<◌, ◌≤◌, Option, Some, IfSome, Result, Ok, Err, List, [], ◌∷◌, ◌++◌, length, take, drop, get_or, false, refl, subst, sym, ◌∙◌, ap, length-append, arith}
use Rattle.std.specs.List.{All}
use Rattle.std.proofs.lemmas.List.Elements.{All-nil, All-cons}
use Rattle.std.proofs.lemmas.Bool.{false≢true}
use Rattle.std.proofs.lemmas.Bool.Decides.{nat_tests}
use Rattle.std.proofs.lemmas.Grind.{common_steps, get_or_default_zero}
use Rattle.std.proofs.lemmas.List.{append_assoc, drop-drop, drop-take, get_or-take, length-take, take-append-drop, take-append-le}
use Rattle.std.proofs.Math.Seq.{drop-cons, drop-append-add}
use Rattle.octet_ports.specs.Ports.{Source, Gives}
use Rattle.octet_ports.specs.Lines.{Ahead, IsNoFeed, IsWindow, LineCame, ahead_of, behind}
use Rattle.octet_ports.specs.declared.reader.TheConstants.{BUFFER_OCTETS}
use Rattle.octet_ports.specs.Readers.{BeginsWith, LineTaken, OctetCame}

pub some_where_feed : (xs : List ℕ) → (All IsNoFeed xs → ⊥) → 0 < length xs
some_where_feed [] feed = absurd (feed (All-nil IsNoFeed))
some_where_feed (x ∷ xs) feed = omega arith

pub feed_behind : {x : ℕ} {old new : List ℕ} → (old ≡ []) ⊎ (old ≡ x ∷ new) → x ≢ 10 → (All IsNoFeed old → ⊥) → All IsNoFeed new → ⊥
feed_behind {x} {old} {new} (inl none) other feed no_feed = feed (rw none (All-nil IsNoFeed))
feed_behind {x} {old} {new} (inr front) other feed no_feed = feed (rw front (All-cons IsNoFeed x new other no_feed))

pub none_ahead : {xs : List ℕ} → xs ≡ [] → 0 < length xs → ⊥
none_ahead none some = let short = ap length none in omega (arith, some, short)

below_take : (xs : List ℕ) (n k : ℕ) → k < length (take n xs) → k < n
below_take xs n k less = let most = length-take n xs in omega (arith, less, most)

-- the first line feed of some octets ends their first line
pub begins_at : (xs : List ℕ) (n : ℕ) → n < length xs → get_or xs n 0 ≡ 10 → ((k : ℕ) → k < n → IsNoFeed (get_or xs k 0)) → BeginsWith (take n xs) xs
begins_at xs n inside feed before = record {
  no_feed = λ k d less is. let near : k < n = below_take xs n k less in
      before k near (sym (get_or_default_zero xs k d (omega (arith, near, inside))) ∙ sym (get_or-take n xs k d near) ∙ is);
  after = drop (suc n) xs;
  parts = sym (take-append-drop n xs) ∙ ap (λ (t : List ℕ). take n xs ++ t) (drop-cons xs n 0 inside ∙ ap (λ (x : ℕ). x ∷ drop (suc n) xs) feed);
}

behind_part : (line after : List ℕ) (x : ℕ) → drop (length line + 1) (line ++ x ∷ after) ≡ after
behind_part line after x = drop-append-add line (x ∷ after) 1

-- the line that is ahead was taken
pub line_taken : (most : ℕ) (buffer : List ℕ) (at end left : ℕ) (line text : List ℕ) → at ≤ end → BeginsWith line (take (end - at) (drop at buffer)) → text ≡ line → length line ≤ most → end ≤ at + left
    → LineTaken most text (ahead_of buffer at end left) (ahead_of buffer (at + (length line + 1)) end (left - (length line + 1)))
line_taken most buffer at end left line text order begins same room within =
    let size = ap length begins.parts ∙ length-append line (10 ∷ begins.after) in
    let long = length-take (end - at) (drop at buffer) in
    let few : length line + 1 ≤ left = omega (arith, order, within, size, long) in
    let reach : end ≡ at + (end - at) = omega (arith, order) in
    let parts : drop at (take end buffer) ≡ line ++ 10 ∷ begins.after = ap (λ (n : ℕ). drop at (take n buffer)) reach ∙ drop-take at (end - at) buffer ∙ begins.parts in
    let gone : drop (at + (length line + 1)) (take end buffer) ≡ begins.after =
    sym (drop-drop (length line + 1) at (take end buffer)) ∙ ap (drop (length line + 1)) parts ∙ behind_part line begins.after 10 in
    rw same
    (record {
      no_feed = begins.no_feed;
      room = room;
      front = parts ∙ ap (λ (t : List ℕ). line ++ 10 ∷ t) (sym gone);
      used = omega (arith, few);
    })

-- how many octets are ahead
pub window : (buffer : List ℕ) (at end left : ℕ) → IsWindow at end left
    → (length (drop at (take end buffer)) ≤ left) × (length (drop at (take end buffer)) ≤ BUFFER_OCTETS)
window buffer at end left is =
    let order = is.order in let within = is.within in let few = is.few in
    (grind (arith, common_steps), grind (arith, common_steps))

pub window_after : (buffer : List ℕ) (at end left : ℕ) (line : List ℕ) → IsWindow at end left → BeginsWith line (take (end - at) (drop at buffer))
    → IsWindow (at + (length line + 1)) end (left - (length line + 1))
window_after buffer at end left line is begins =
    let size = ap length begins.parts ∙ length-append line (10 ∷ begins.after) in
    let long = length-take (end - at) (drop at buffer) in
    let order = is.order in let few = is.few in
    record { order = omega (arith, size, long); within = is.within; few = omega arith }

-- a line that was taken so came with its line feed
pub taken_came : {most : ℕ} (line : List ℕ) (old new : Ahead) (source : Source) → LineTaken most line old new
    → LineCame most line false false old.left new.left (behind old.octets source) (behind new.octets source)
taken_came {most} line old new source taken = record {
  octets = line;
  line = record {
    no_feed = taken.no_feed;
    is_long = let room = taken.room in grind (arith, common_steps, nat_tests);
    is_text = λ e. refl;
  };
  gives = record {
    stays = λ honest. honest;
    given = λ honest.
        ap (λ (t : List ℕ). t ++ source.coming) taken.front ∙ append_assoc line (10 ∷ new.octets) source.coming ∙ sym (append_assoc line (10 ∷ []) (new.octets ++ source.coming));
  };
  used = let used = taken.used in let count = length-append line (10 ∷ []) in omega (arith, used, count);
  at_end = λ bad. absurd (false≢true bad);
}

-- the next octet came from behind what was ahead, of which nothing was left
pub came_refilled : {octet : ℕ} {old mid new : Ahead} {source new_source : Source} → old.octets ≡ [] → Gives mid.octets source new_source
    → mid.left ≡ old.left → mid.octets ≡ octet ∷ new.octets → mid.left ≡ new.left + 1 → OctetCame octet old new source new_source
came_refilled {new = new} {new_source = new_source} none gives same front left = record {
  gives = record { stays = gives.stays; given = λ honest. rw none (gives.given honest ∙ ap (λ (t : List ℕ). t ++ new_source.coming) front) };
  used = sym same ∙ left;
  front = inl none;
}

-- or from the front of it
pub came_ahead : {octet : ℕ} {old new : Ahead} {source : Source} → old.octets ≡ octet ∷ new.octets → old.left ≡ new.left + 1
    → OctetCame octet old new source source
came_ahead {source = source} front left = record {
  gives = record { stays = λ honest. honest; given = λ honest. ap (λ (t : List ℕ). t ++ source.coming) front };
  used = left;
  front = inr front;
}

-- one octet was asked for, and came
pub one_octet : (count : ℕ) (xs : List ℕ) → count ≤ 1 → (count ≡ 0 → ⊥) → count ≤ length xs → take count xs ≡ get_or xs 0 0 ∷ []
one_octet zero xs few some inside = absurd (some refl)
one_octet (suc zero) [] few some inside = absurd (omega (arith, inside))
one_octet (suc zero) (x ∷ xs) few some inside = refl
one_octet (suc (suc n)) xs few some inside = absurd (omega (arith, few))

-- some octets came to the front of a buffer
pub some_octets : {a b : Source} (count : ℕ) (xs rest : List ℕ) → (count ≡ 0 → ⊥) → count ≤ length xs → Gives (take count xs) a b
    → (0 < length (take count (xs ++ rest))) × Gives (take count (xs ++ rest)) a b
some_octets zero xs rest some inside gives = absurd (some refl)
some_octets (suc n) xs rest some inside gives =
    let long = length-take (suc n) xs in
    rw (take-append-le (suc n) xs rest inside) (omega (arith, inside, long), gives)

pub ok_same : {X E : Type 0} {x y : X} → ◌≡◌ {A = Result X E} (Ok x) (Ok y) → x ≡ y
ok_same {X} {E} {x} {y} same = ap (unwrap_or_ok x) same
  where
    unwrap_or_ok : X → Result X E → X
    unwrap_or_ok d (Ok x) = x
    unwrap_or_ok d (Err e) = d

-- what came is the octet of the answer
pub came_at : {answer : Option ℕ} {octet : ℕ} {old new : Ahead} {source new_source : Source} → answer ≡ Some octet
    → IfSome answer (λ o. OctetCame o old new source new_source) → OctetCame octet old new source new_source
came_at {old = old} {new = new} {source = source} {new_source = new_source} is came =
    subst (λ (answer : Option ℕ). IfSome answer (λ o. OctetCame o old new source new_source)) is came
