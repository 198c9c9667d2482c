-- A step of one port of a list.
use Rattle.std.proofs.Common.{◌≡◌, ℕ, ◌+◌, ◌<◌, List, map, length, take, All, Any, slice_index_or, slice_set, sym, ap, ◌∙◌, arith}
use Rattle.std.proofs.lemmas.List.{map-set, length-map, get_or-map, get_or-set_other, take-set, take_more_set}
use Rattle.std.proofs.lemmas.List.Elements.{All-set, All-get_or, All-push}
use Rattle.std.proofs.lemmas.List.Quantifiers.{any-set}
use Rattle.script_server.specs.Runs.{StepsAt}

pub at_number : {X A : Type 0} (view : X → A) (none : A) (xs : List X) (i : ℕ) (x : X) → i < length xs → x ≡ slice_index_or xs i x → slice_index_or (map view xs) i none ≡ view x
at_number view none xs i x h e = get_or-map view xs i x none h ∙ ap view (sym e)

-- the number of a port is that of what is known of it
pub there_in : {X A : Type 0} (view : X → A) (xs : List X) {i n : ℕ} → length xs ≡ n → i < n → i < length (map view xs)
there_in view xs e h = rw (length-map xs view, e) h

-- as much is known of as many ports
pub same_length : {X Y A B : Type 0} (f : X → A) (g : Y → B) (xs : List X) (ys : List Y) {n : ℕ} → length xs ≡ n → length ys ≡ n → length (map f xs) ≡ length (map g ys)
same_length f g xs ys a b = length-map xs f ∙ a ∙ sym (length-map ys g ∙ b)

pub steps_at : {X A : Type 0} (Step : A → A → Type 0) (view : X → A) (none : A) (xs : List X) (i : ℕ) (x x' : X)
    → i < length xs → x ≡ slice_index_or xs i x → Step (view x) (view x') → StepsAt Step i none (map view xs) (map view (slice_set xs i x'))
steps_at Step view none xs i x x' h e step = record {
  after = view x';
  others = map-set view xs i x';
  step = rw (at_number view none xs i x h e) step;
}

pub all_after : {X A : Type 0} (P : A → Type 0) (view : X → A) (xs : List X) (i : ℕ) (x' : X) → All P (map view xs) → P (view x') → All P (map view (slice_set xs i x'))
all_after P view xs i x' a p = rw (map-set view xs i x') (All-set P (map view xs) i (view x') p a)

pub any_after : {X A : Type 0} (P : A → Type 0) (view : X → A) (xs : List X) (i : ℕ) (x' : X) → i < length xs → P (view x') → Any P (map view (slice_set xs i x'))
any_after P view xs i x' h p = rw (map-set view xs i x') (any-set P (map view xs) i (view x') (rw (length-map xs view) h) p)

pub ready_at : {X A : Type 0} (P : A → Type 0) (view : X → A) (xs : List X) (i : ℕ) (x : X) → i < length xs → x ≡ slice_index_or xs i x → All P (map view xs) → P (view x)
ready_at P view xs i x h e a = let there : i < length (map view xs) = rw (length-map xs view) h in rw (at_number view (view x) xs i x h e) at (All-get_or P (map view xs) i (view x) there a)

-- what holds of the ports before this one, and of this one after its step
pub first_after : {A : Type 0} (P : A → Type 0) (none : A) {i : ℕ} {old new : List A} → i < length old → All P (take i old) → StepsAt (λ _ y. P y) i none old new → All P (take (i + 1) new)
first_after P none {i} {old} {new} h all s = rw (s.others, take_more_set old i s.after h) (All-push P (take i old) s.after all s.step)

-- the ports before this one stay, and each other one
pub before_stays : {A : Type 0} {P : A → A → Type 0} {none : A} {i : ℕ} {old new : List A} → StepsAt P i none old new → take i new ≡ take i old
before_stays {i = i} {old = old} s = ap (take i) s.others ∙ take-set old i s.after

pub other_stays : {A : Type 0} {P : A → A → Type 0} {none : A} {i k : ℕ} {old new : List A} → StepsAt P i none old new → i < k
    → slice_index_or new k none ≡ slice_index_or old k none
other_stays {none = none} {i = i} {k = k} {old = old} s h = ap (λ xs. slice_index_or xs k none) s.others ∙ get_or-set_other old i k s.after none (λ e. omega arith)
