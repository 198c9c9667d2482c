-- What lives in lists of the same lifetimes, one after the other.
use Rattle.std.proofs.Common.{ℕ, List, [], ◌++◌}
use mathlib.Core.List.{Mem, Mem-prop, mem-append, not-mem-nil}
use mathlib.Core.Logic.Or

pub both : {a : ℕ} {xs ys zs : List ℕ} → (Mem a xs → Mem a zs) → (Mem a ys → Mem a zs) → Mem a (xs ++ ys) → Mem a zs
both {a} {xs} {ys} {zs} first second there = Or.elim (Mem-prop {a = a} {l = zs}) (mem-append.0 there) first second

pub nothing : {a : ℕ} {zs : List ℕ} → Mem a [] → Mem a zs
nothing there = absurd (not-mem-nil there)
