-- A line as it comes, an octet at a time.
use Rattle.std.proofs.Common.{◌≡◌, ◌≢◌, ℕ, ◌+◌, ◌≤◌, Bool, true, false, List, [], ◌∷◌, ◌++◌, length, refl, ap, length-append, arith}
use Rattle.std.specs.List.{All}
use Rattle.std.proofs.lemmas.List.{append-nil}
use Rattle.std.proofs.lemmas.List.Elements.{All-nil, All-push}
use Rattle.std.proofs.lemmas.Grind.{common_steps}
use Rattle.std.proofs.lemmas.Bool.{false≢true}
use Rattle.std.proofs.lemmas.Bool.Decides.{nat_tests}
use Rattle.octet_ports.specs.Ports.{Source, Gives, IsAtEnd}
use Rattle.octet_ports.specs.Lines.{IsLine, IsNoFeed, LineCame, LineFails}
use Rattle.octet_ports.specs.Readers.{RefusesFor}
use Rattle.octet_ports.specs.declared.reader.LineFault.{LineFault}
use Rattle.octet_ports.specs.declared.reader.LineFault.TheVariants.{Port, Limit}
use Rattle.octet_ports.proofs.Ports.{gives_more, gives_none}

-- as much of a line as has come, of so many octets that may
pub record LineSoFar (most : ℕ) (text : List ℕ) (long : Bool) (limit left : ℕ) (old new : Source) : Type 0 where
  pub octets : List ℕ
  pub line : IsLine most text long octets
  pub gives : Gives octets old new
  pub used : limit ≡ length octets + left

-- nothing has come yet
pub none_so_far : (most limit : ℕ) (a : Source) → LineSoFar most [] false limit limit a a
none_so_far most limit a = record {
  octets = [];
  line = record { no_feed = All-nil IsNoFeed; is_long = grind (arith, nat_tests); is_text = λ _. refl };
  gives = gives_none a;
  used = omega arith;
}

pub no_feed_more : (xs : List ℕ) (x : ℕ) → All IsNoFeed xs → x ≢ 10 → All IsNoFeed (xs ++ x ∷ [])
no_feed_more xs x a n = All-push IsNoFeed xs x a n

pub is_line_more : {most : ℕ} {text octets : List ℕ} (long : Bool) (x : ℕ) → IsLine most text long octets → x ≢ 10 → (length text ≡ most → ⊥) → length text ≤ most → IsLine most (text ++ x ∷ []) long (octets ++ x ∷ [])
is_line_more {most} {text} {octets} true x line n f w = record {
  no_feed = no_feed_more octets x line.no_feed n;
  is_long = let h = line.is_long in grind (arith, common_steps, nat_tests);
  is_text = λ e. cc;
}
is_line_more {most} {text} {octets} false x line n f w =
    let same : text ≡ octets = line.is_text refl in
    record {
      no_feed = no_feed_more octets x line.no_feed n;
      is_long = let h = line.is_long in grind (arith, common_steps, nat_tests);
      is_text = λ e. ap (λ t. t ++ x ∷ []) same;
    }

pub is_line_long : {most : ℕ} {text octets : List ℕ} (long : Bool) (x : ℕ) → IsLine most text long octets → x ≢ 10 → length text ≡ most → IsLine most text true (octets ++ x ∷ [])
is_line_long {most} {text} {octets} true x line n f = record {
  no_feed = no_feed_more octets x line.no_feed n;
  is_long = let h = line.is_long in grind (arith, common_steps, nat_tests);
  is_text = λ e. cc;
}
is_line_long {most} {text} {octets} false x line n f =
    let same : text ≡ octets = line.is_text refl in
    record {
      no_feed = no_feed_more octets x line.no_feed n;
      is_long = let h = line.is_long in grind (arith, common_steps, nat_tests);
      is_text = λ e. cc;
    }

pub so_far_more : {most limit left new_left : ℕ} {text new_text : List ℕ} {long new_long : Bool} {a b c : Source} (x : ℕ)
    (came : LineSoFar most text long limit left a b) → IsLine most new_text new_long (came.octets ++ x ∷ []) → Gives (x ∷ []) b c → left ≡ new_left + 1
    → LineSoFar most new_text new_long limit new_left a c
so_far_more {most} {limit} {left} {new_left} x came line gives e = record {
  octets = came.octets ++ x ∷ [];
  line = line;
  gives = gives_more came.gives gives;
  used = let u = came.used in let l = length-append came.octets (x ∷ []) in omega arith;
}

-- a line feed ends it
pub line_came : {most limit left new_left : ℕ} {text : List ℕ} {long : Bool} {a b c : Source} (x : ℕ) → LineSoFar most text long limit left a b → x ≡ 10
    → Gives (x ∷ []) b c → left ≡ new_left + 1 → LineCame most text long false limit new_left a c
line_came {left = left} {new_left = new_left} x came feed gives e = record {
  octets = came.octets;
  line = came.line;
  gives = gives_more came.gives (rw feed at gives);
  used = let u = came.used in let l = length-append came.octets (10 ∷ []) in omega arith;
  at_end = λ bad. absurd (false≢true bad);
}

-- nothing comes behind it
pub line_last : {most limit left new_left : ℕ} {text : List ℕ} {long : Bool} {a b c : Source} → LineSoFar most text long limit left a b
    → Gives [] b c → IsAtEnd c → new_left ≡ left → LineCame most text long true limit new_left a c
line_last {left = left} {new_left = new_left} came gives at_end e = record {
  octets = came.octets;
  line = came.line;
  gives = gives_more came.gives gives;
  used = let u = came.used in let l = length-append came.octets [] in omega arith;
  at_end = λ _. at_end;
}

-- the input gave out behind it
pub line_fails : {most limit left : ℕ} {text : List ℕ} {long : Bool} {a : Source} (b c : Source) (fault : LineFault)
    → LineSoFar most text long limit left a b → RefusesFor fault left b c → LineFails fault limit a c
line_fails {most} {limit} {left} b c Port came f = (
  f.0,
  (
    came.octets,
    record {
      no_feed = came.line.no_feed;
      gives = rw (append-nil came.octets) at (gives_more came.gives f.1);
      few = let u = came.used in omega arith;
    },
  ),
)
line_fails {most} {limit} {left} b c Limit came f = (
  f.0,
  (
    came.octets,
    f.1.0,
    came.line.no_feed,
    gives_more came.gives f.1.1,
    let u = came.used in let z : left ≡ 0 = f.1.2 in omega arith,
  ),
)
