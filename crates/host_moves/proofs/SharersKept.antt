-- The tables and the machine name the same sharers.
use Rattle.std.proofs.Common.{◌≡◌, ℕ, Bool, List, Option, Some, None, refl, ap, ◌∙◌}
use Rattle.std.specs.Option.{option_map}
use Rattle.ialg.specs.Records.{unplaced}
use Rattle.mem_rec.specs.declared.MemRec.{MemRec}
use Rattle.mem_rec.specs.declared.TheConstants.{INSTANCES}
use Rattle.std.specs.Prelude.{ℤ, find}
use Rattle.std.specs.List.{range_with_len}
use Rattle.ialg.specs.Meaning.{Meaning}
use Rattle.host_table.specs.declared.member.Member.{Member}
use Rattle.host_table.specs.Table.{slot_at, instance_of}
use Rattle.host_map.specs.Sharers.{Asked, is_sharer, sharer_of}
use Rattle.host_table.specs.Sharers.{asked_by}
use Rattle.host_spec.specs.State.{Living, share, sharers_of}
use Rattle.host_moves.specs.Refinement.{IsLiving}

-- an instance as it was asked for
abbrev pub asked_of : {M : Type 0} → Living M → Asked M
asked_of x = record { kind = x.kind; params = x.params; table = x.table }

asked_alike : {M : Type 0} (a b : M) (p q : List ℤ) (rs ts : List MemRec) → a ≡ b → p ≡ q → rs ≡ ts
    → (let x : Asked M = record { kind = a; params = p; table = rs } in x) ≡ (let y : Asked M = record { kind = b; params = q; table = ts } in y)
asked_alike a b p q rs ts e f h = rw (e, f, h) refl

-- what stands in a slot was asked for as what lives
pub asked_same : {M : Type 0} (slot : Option (Member M)) (living : Option (Living M)) → IsLiving slot living → asked_by slot ≡ option_map asked_of living
asked_same None None is = refl
asked_same None (Some x) is = absurd is
asked_same (Some m) None is = absurd is
asked_same (Some m) (Some x) is =
    ap Some (asked_alike (instance_of m.inst).kind x.kind (instance_of m.inst).params.items x.params (unplaced (instance_of m.inst).table) x.table is.kind is.params is.table)

all_asked : {M : Type 0} (instances : List (Option (Member M))) (living : ℕ → Option (Living M)) → ((j : ℕ) → IsLiving (slot_at instances j) (living j))
    → ◌≡◌ {A = ℕ → Option (Asked M)} (λ j. asked_by (slot_at instances j)) (λ j. option_map asked_of (living j))
all_asked instances living is t j = asked_same (slot_at instances j) (living j) (is j) t

-- both ask the same of two instances
share_is : {M : Type 0} (kinds : Meaning M) (k : ℕ) (x : Living M) (y : Option (Living M)) → is_sharer kinds.same (asked_of x) k (option_map asked_of y) ≡ share kinds k x y
share_is kinds k x None = refl
share_is kinds k x (Some y) = refl

all_shared : {M : Type 0} (kinds : Meaning M) (living : ℕ → Option (Living M)) (x : Living M) (k : ℕ)
    → ◌≡◌ {A = ℕ → Bool} (λ j. is_sharer kinds.same (asked_of x) k (option_map asked_of (living j))) (λ j. share kinds k x (living j))
all_shared kinds living x k t j = share_is kinds k x (living j) t

-- the sharers of an instance are the same in both
pub sharers_same : {M : Type 0} (kinds : Meaning M) (instances : List (Option (Member M))) (living : ℕ → Option (Living M)) (x : Living M) → ((j : ℕ) → IsLiving (slot_at instances j) (living j))
    → (k : ℕ) → sharer_of kinds.same (λ j. asked_by (slot_at instances j)) (asked_of x) k ≡ sharers_of kinds living x k
sharers_same {M} kinds instances living x is k =
    ap (λ (others : ℕ → Option (Asked M)). sharer_of kinds.same others (asked_of x) k) (all_asked instances living is)
    ∙ ap (λ (shares : ℕ → Bool). find shares (range_with_len 0 INSTANCES)) (all_shared kinds living x k)
