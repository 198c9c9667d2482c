-- What ports give and take in several calls.
use Rattle.std.proofs.Common.{◌≡◌, ℕ, ◌+◌, ◌-◌, ◌≤◌, List, [], ◌++◌, length, take, drop, refl, sym, ap, ◌∙◌, length-append, append_assoc, arith}
use Rattle.std.proofs.Math.Seq.{take-append-add}
use Rattle.std.proofs.lemmas.List.{append-nil, take-append-drop, take-append-le, take_all}
use borrow.Rule.Slice.PartMut.{put_mid, post_of}
use Rattle.std.proofs.lemmas.Grind.{common_steps}
use Rattle.std.specs.Prelude.{Bool, true, Option, None, Some}
use Rattle.std.specs.Io.KnownBytes.{Appends, Keeps}
use Rattle.std.proofs.lemmas.Bool.{false≢true}
use Rattle.octet_ports.specs.Ports.{Source, Sink, Gives, Holds, Waits, Takes, TakesFirst, sink_of, known_to_hold}

pub gives_none : (s : Source) → Gives [] s s
gives_none s = record { stays = λ h. h; given = λ h. refl }

-- a tape gave its first octets to the front of a buffer
pub tape_gave : (count : ℕ) (rest front back new buffer : List ℕ) → front ≡ take count rest → back ≡ drop count rest → length front ≡ count → new ≡ front
    → rest ≡ take count (new ++ buffer) ++ back
tape_gave count rest front back new buffer first others long copied =
    let size = ap length copied in
    let gave = take-append-le count new buffer (omega (arith, size, long)) ∙ take_all count new (omega (arith, size, long)) ∙ copied ∙ first in
    sym (take-append-drop count rest) ∙ ap (λ (t : List ℕ). t ++ drop count rest) (sym gave) ∙ ap (λ (t : List ℕ). take count (new ++ buffer) ++ t) (sym others)

pub holds_none : (s : Sink) → Holds [] s s
holds_none s = record { stays = λ h. h; taken = λ h. grind (arith, common_steps) }

pub waits_none : (s : Sink) → Waits s s
waits_none s = record { stays = λ h. h; passed = λ h. refl }

-- what an output over a writer is known to hold is what the writer is known to hold
pub known_of_sink : (held : Option (List ℕ)) (waiting : ℕ) (failed : Bool) → held ≡ known_to_hold (sink_of held waiting failed)
known_of_sink None waiting failed = refl
known_of_sink (Some octets) waiting failed = refl

-- the output over a writer took what was appended to the writer's octets
pub takes_appended : (old new : Option (List ℕ)) (octets : List ℕ) (waiting count : ℕ) (failed : Bool) → Appends old new octets
    → length octets ≡ count → Takes octets (sink_of old waiting failed) (sink_of new (waiting + count) failed)
takes_appended None new octets waiting count failed h e = record {
  holds = record { stays = λ honest. absurd (false≢true honest); taken = λ honest. absurd (false≢true honest) };
  waits = record { stays = λ honest. absurd (false≢true honest); passed = λ honest. absurd (false≢true honest) };
}
takes_appended (Some xs) None octets waiting count failed h e = absurd h
takes_appended (Some xs) (Some ys) octets waiting count failed h e = record {
  holds = record { stays = λ honest. honest; taken = λ honest. h };
  waits = record { stays = λ honest. honest; passed = λ honest. let l = length-append xs octets in rw h (omega arith) };
}

-- the output failed, and took nothing
pub takes_nothing : (old new : Option (List ℕ)) (octets : List ℕ) (waiting : ℕ) (failed : Bool) → Keeps old new
    → TakesFirst octets (sink_of old waiting failed) (sink_of new waiting true)
takes_nothing None new octets waiting failed same = record {
  count = 0;
  within = omega arith;
  first = record {
    holds = record { stays = λ honest. absurd (false≢true honest); taken = λ honest. absurd (false≢true honest) };
    waits = record { stays = λ honest. absurd (false≢true honest); passed = λ honest. absurd (false≢true honest) };
  };
}
takes_nothing (Some xs) None octets waiting failed same = absurd same
takes_nothing (Some xs) (Some ys) octets waiting failed same = record {
  count = 0;
  within = omega arith;
  first = record {
    holds = record { stays = λ honest. honest; taken = λ honest. same ∙ sym (append-nil xs) };
    waits = record { stays = λ honest. honest; passed = λ honest. ap (λ held. length held - waiting) same };
  };
}

pub keeps_none : (old new : Option (List ℕ)) (octets : List ℕ) (count : ℕ) → Appends old new (take count octets) → count ≡ 0 → Keeps old new
keeps_none None new octets count appends none = tt
keeps_none (Some xs) None octets count appends none = absurd appends
keeps_none (Some xs) (Some ys) octets count appends none = rw none at appends ∙ append-nil xs

pub gives_more : {xs ys : List ℕ} {a b c : Source} → Gives xs a b → Gives ys b c → Gives (xs ++ ys) a c
gives_more {xs} {ys} {a} {b} {c} g h = record {
  stays = λ e. h.stays (g.stays e);
  given = λ e. g.given e ∙ ap (λ r. xs ++ r) (h.given (g.stays e)) ∙ sym (append_assoc xs ys c.coming);
}

pub holds_more : {xs ys : List ℕ} {a b c : Sink} → Holds xs a b → Holds ys b c → Holds (xs ++ ys) a c
holds_more {xs} {ys} {a} {b} {c} g h = record {
  stays = λ e. h.stays (g.stays e);
  taken = λ e. h.taken (g.stays e) ∙ ap (λ r. r ++ ys) (g.taken e) ∙ append_assoc a.held xs ys;
}

pub waits_more : {a b c : Sink} → Waits a b → Waits b c → Waits a c
waits_more g h = record { stays = λ e. h.stays (g.stays e); passed = λ e. h.passed (g.stays e) ∙ g.passed e }

pub takes_more : {xs ys : List ℕ} {a b c : Sink} → Takes xs a b → Takes ys b c → Takes (xs ++ ys) a c
takes_more g h = record { holds = holds_more g.holds h.holds; waits = waits_more g.waits h.waits }

pub takes_some : {xs ys : List ℕ} {a b c : Sink} → Takes xs a b → TakesFirst ys b c → TakesFirst (xs ++ ys) a c
takes_some {xs} {ys} {a} {b} {c} g h = record {
  count = length xs + h.count;
  within = let w = h.within in grind (arith, common_steps);
  first = rw (take-append-add xs ys h.count) (takes_more g h.first);
}

-- a part of a list is written over from the place on
pub take-put_mid_more : (at count : ℕ) (xs ys : List ℕ) → at ≤ length xs → count ≤ length ys → take (at + count) (put_mid at (length xs - at) xs ys) ≡ take at xs ++ take count ys
take-put_mid_more at count xs ys h f =
    let rest = post_of at (length xs - at) xs in
    let l : length (take at xs) ≡ at = grind (arith, common_steps) in
    let e : take (length (take at xs) + count) (take at xs ++ (ys ++ rest)) ≡ take at xs ++ take count (ys ++ rest) = take-append-add (take at xs) (ys ++ rest) count in
    let s : take count (ys ++ rest) ≡ take count ys = rw take-append-le refl in
    rw l at e ∙ ap (λ r. take at xs ++ r) s
