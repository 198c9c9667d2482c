use Rattle.std.proofs.Common.{◌≡◌, Bool, List, true, false, ◌&&◌, subst, sym, ◌∙◌}
use Rattle.mem_rec.specs.declared.MemRec.{MemRec}
use Rattle.ialg.specs.Records.{record_at, unplaced}
use Rattle.host_map.specs.Sharers.{is_same_once}
use Rattle.host_table.proofs.sharers.is_sharer.Goals.{then-are_one, else-are_one}
use Rattle.host_table.proofs.sharers.is_sharer.Goals as goal

both : (p q r s : Bool) → p ≡ true → q ≡ true → s ≡ r → s ≡ ((p && q) && r)
both p q r s one other same = rw (one, other) same

not_first : (p q r : Bool) → p ≡ false → false ≡ ((p && q) && r)
not_first p q r none = rw none

not_second : (p q r : Bool) → p ≡ true → q ≡ false → false ≡ ((p && q) && r)
not_second p q r one none = rw (one, none)

pub returns-then-eq : goal.returns-then-eq
returns-then-eq g c = elim c.if-are_one.branch [
  | then-are_one w ↦
      both _ _ _ _ (sym c.are_one.ensures ∙ w.if-are_one.true)
      (rw (w.as_slice.ensures.value, w.as_slice-then-are_one.ensures.value) at (sym w.eq.ensures ∙ sym w.value-is ∙ c.if-eq.true)) (subst (λ (rs : List MemRec). c.have_same.result ≡ is_same_once (record_at (unplaced c.args.table.now) c.args.k) (record_at (unplaced rs) c.args.k)) c.table.ensures c.have_same.ensures)
  | else-are_one w ↦ let never = sym w.value-is ∙ c.if-eq.true in cc
]

pub returns-else-eq : goal.returns-else-eq
returns-else-eq g c = c.if-eq.false ∙ elim c.if-are_one.branch [
  | then-are_one w ↦
      not_second _ _ _ (sym c.are_one.ensures ∙ w.if-are_one.true)
      (rw (w.as_slice.ensures.value, w.as_slice-then-are_one.ensures.value) at (sym w.eq.ensures ∙ sym w.value-is ∙ c.if-eq.false))
  | else-are_one w ↦ not_first _ _ _ (sym c.are_one.ensures ∙ w.if-are_one.false)
]
