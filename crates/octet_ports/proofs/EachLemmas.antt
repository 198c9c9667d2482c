-- Devices that are passed on one after the other.
use Rattle.std.proofs.Common.{◌≡◌, ◌≢◌, ◌<◌, ◌≤◌, ℕ, ◌+◌, List, ◌++◌, length, take, drop, All, ◌∙◌, ap, append-nil, arith, subst, refl}
use Rattle.std.proofs.Common.{get_or, set, get_or-set_other, get_or-set_same, below_more}
use Rattle.std.proofs.lemmas.Grind.{common_steps}
use Rattle.std.proofs.lemmas.List.{drop_all, get_or_default, take_all}
use Rattle.octet_ports.specs.Passing.{EachDoes}

-- those below a place did this, and the others are as they were
pub record EachSoFar {X : Type 0} (Does : X → X → Type 0) (olds news : List X) (place : ℕ) : Type 0 where
  pub count : length news ≡ length olds
  pub done : (k : ℕ) → k < place → (d : X) → k < length olds → Does (get_or olds k d) (get_or news k d)
  pub rest : (k : ℕ) (d : X) → place ≤ k → get_or news k d ≡ get_or olds k d

-- one more did this
pub one_more : {X : Type 0} (Does : X → X → Type 0) (olds news : List X) (place : ℕ) (e y : X) → EachSoFar Does olds news place → place < length news
    → Does (get_or news place e) y → EachSoFar Does olds (set news place y) (place + 1)
one_more Does olds news place e y so_far inside does = record {
  count = let c = so_far.count in grind (arith, common_steps);
  done = below_more _ place
      (λ k below d there. let other : k ≢ place = omega (arith, below) in rw (get_or-set_other) (so_far.done k below d there))
      (λ d _. rw (get_or-set_same) (subst (λ x. Does x y) (get_or_default news place e d inside ∙ so_far.rest place d (omega arith)) does));
  rest = λ k d from. let other : k ≢ place = omega (arith, from) in rw (get_or-set_other) (so_far.rest k d (omega (arith, from)));
}

-- at first none did
pub none_yet : {X : Type 0} {Does : X → X → Type 0} (olds : List X) → EachSoFar Does olds olds 0
none_yet {Does} olds = record { count = refl; done = λ k below. absurd (omega (arith, below)); rest = λ k d _. refl }

-- at the end each did, also where the list is written back
pub each_did : {X : Type 0} (Does : X → X → Type 0) (olds read news : List X) (count place : ℕ) → EachSoFar Does read news place → read ≡ olds
    → length read ≡ count → length read ≤ place → EachDoes Does olds (take count (news ++ drop (length news) olds))
each_did Does olds read news count place so_far same counted all =
    let long = so_far.count in
    let written : take count (news ++ drop (length news) read) ≡ news =
    ap (λ rest. take count (news ++ rest)) (drop_all (length news) read (omega (arith, long))) ∙ ap (take count) (append-nil news) ∙ take_all count news (omega (arith, long, counted)) in
    subst (λ xs. EachDoes Does xs (take count (news ++ drop (length news) xs))) same
    (rw written (record { count = long; each = λ k d inside. so_far.done k (omega (arith, inside, all)) d inside }))

-- what each has where it stands, all have
pub all_have : {X : Type 0} (Has : X → Type 0) (olds news : List X) → EachDoes (λ _ new. Has new) olds news → All Has news
all_have Has olds news each k d inside = let long = each.count in each.each k d (omega (arith, inside, long))
