-- Ports that are opened one behind the other.
use Rattle.std.proofs.Common.{◌≡◌, ◌+◌, List, [], ◌∷◌, ◌++◌, map, length, All, refl, arith}
use Rattle.std.proofs.lemmas.List.{map-append}
use Rattle.std.proofs.lemmas.List.Elements.{All-nil, All-push}

-- ports that are ready, and one more that is
pub ready_behind : {X A : Type 0} (P : A → Type 0) (view : X → A) (xs : List X) (x : X) (ys : List X) → ys ≡ xs ++ x ∷ [] → All P (map view xs) → P (view x) → All P (map view ys)
ready_behind P view xs x ys e all p = rw (e, map-append view xs (x ∷ [])) (All-push P (map view xs) (view x) all p)

-- of no ports each is ready
pub none_ready : {X A : Type 0} (P : A → Type 0) (view : X → A) (xs : List X) → xs ≡ [] → All P (map view xs)
none_ready P view xs e = rw e (All-nil P)

-- as many ports were opened behind none as there are pairs
pub opened_count : {X Y : Type 0} (old new : List X) (pairs ports : List Y) → length new ≡ length old + length pairs → old ≡ [] → pairs ≡ ports → length new ≡ length ports
opened_count old new pairs ports count none same =
    let begins : length old ≡ 0 = rw none refl in
    let as_many : length pairs ≡ length ports = rw same refl in
    omega arith
