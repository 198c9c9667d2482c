use Rattle.std.proofs.Common.{ℕ, length, ap, append-nil, arith, ◌∙◌, refl, sym, get_or}
use Rattle.std.specs.Int.{next_multiple_of}
use Rattle.mem_rec.specs.declared.MemRec.{MemRec}
use Rattle.mem_rec.specs.declared.Space.TheVariants.{Daram}
use Rattle.mem_rec.specs.declared.Attr.TheVariants.{Scratch}
use Rattle.mem_rec.proofs.Layouts.{scratch_in, scratch_out, offsets_in, end_in, align_in, laid_out, behind_object, none_left, next_multiple_of_bound}
use Rattle.mem_rec.proofs.Valid.{within_limits}
use Rattle.mem_rec.proofs.layout.scratch_layout.Goals as goal
use Rattle.mem_rec.proofs.layout.scratch_layout.Goals.{then-is_scratch_of, else-is_scratch_of}

-- what a read past the end would give
abbrev blank : MemRec
blank = record { size = 0; align = 0; space = Daram; attr = Scratch; base = 0 }

pub next_multiple_of-offset-requires-clause-fits : goal.next_multiple_of-offset-requires-clause-fits
next_multiple_of-offset-requires-clause-fits c =
    let items = c.records-r-items.result.now in
    let k = c.loop-r.r-index in
    let at = laid_out c.args.table.now items k blank c.records-r-items.ensures.value c.records-r-items.ensures.table c.loop-r-test.true in
    let bound = next_multiple_of_bound c.loop-r.end (get_or items k blank).align (omega arith) in
    omega arith

pub overflow_add-end : goal.overflow_add-end
overflow_add-end c =
    let items = c.records-r-items.result.now in
    let k = c.loop-r.r-index in
    let at = laid_out c.args.table.now items k blank c.records-r-items.ensures.value c.records-r-items.ensures.table c.loop-r-test.true in
    let bound = next_multiple_of_bound c.loop-r.end (get_or items k blank).align (omega arith) in
    omega (arith, c.next_multiple_of-offset.ensures.value)

pub loop-r-preserved : goal.loop-r-preserved
loop-r-preserved c =
    let i = c.loop-r.invariant in
    let table = c.args.table.now in
    let items = c.records-r-items.result.now in
    let k = c.loop-r.r-index in
    let valid = c.records-r-items.ensures.table in
    let at = laid_out table items k blank c.records-r-items.ensures.value valid c.loop-r-test.true in
    let r = get_or items k blank in
    elim c.if-is_scratch_of.branch [
      | then-is_scratch_of w ↦
          let test = sym c.is_scratch_of.ensures ∙ w.if-is_scratch_of.true in
          let all = scratch_in table k blank r c.args.space at.inside at.is test in
          let o = w.next_multiple_of-offset.ensures.value in
          let pushed = ap (λ v. v.items) w.offsets-is ∙ w.push.ensures.items in
          let behind = behind_object table k blank r _ valid at.is test in
          let bound = next_multiple_of_bound c.loop-r.end r.align (omega arith) in
          record {
            offsets = offsets_in _ _ all o pushed w.end-is i.offsets;
            end = end_in _ all o w.end-is i.end;
            align = align_in _ all (w.align-is ∙ w.max-align.ensures) i.align;
            few = rw w.offsets-is (omega (arith, w.push.ensures.len));
            low = rw w.end-is (omega (arith, o));
          }
      | else-is_scratch_of w ↦
          let all = scratch_out table k blank r c.args.space at.inside at.is (sym c.is_scratch_of.ensures ∙ w.if-is_scratch_of.false) in
          record {
            offsets = rw (w.offsets-is, w.end-is, ← all) i.offsets;
            end = rw (w.end-is, ← all) i.end;
            align = rw (w.align-is, ← all) i.align;
            few = rw w.offsets-is (omega arith);
            low = omega arith;
          }
    ]

pub returns-clause-offsets : goal.returns-clause-offsets
returns-clause-offsets c =
    let left = none_left c.args.table.now _ c.loop-r.r-index c.args.space c.records-r-items.ensures.value c.loop-r-test.false in
    sym (append-nil c.loop-r.offsets.items) ∙ (rw left at c.loop-r.invariant.offsets)

pub returns-clause-need : goal.returns-clause-need
returns-clause-need c =
    let left = none_left c.args.table.now _ c.loop-r.r-index c.args.space c.records-r-items.ensures.value c.loop-r-test.false in
    c.next_multiple_of.ensures.value ∙ ap (λ (end : ℕ). next_multiple_of end 4) (rw left at c.loop-r.invariant.end)

pub returns-clause-align : goal.returns-clause-align
returns-clause-align c =
    let left = none_left c.args.table.now _ c.loop-r.r-index c.args.space c.records-r-items.ensures.value c.loop-r-test.false in
    rw left at c.loop-r.invariant.align

pub loop-r-init : goal.loop-r-init
loop-r-init c = record {
  offsets = rw c.new-offsets.ensures refl;
  end = refl;
  align = refl;
  few = rw c.new-offsets.ensures (omega arith);
  low = omega arith;
}

pub next_multiple_of-requires : goal.next_multiple_of-requires
next_multiple_of-requires c =
    let bound = next_multiple_of_bound c.loop-r.end 4 (omega arith) in
    let low = c.loop-r.invariant.low in
    let most = c.loop-r.auto.r-index-end in
    let few = (within_limits c.args.table.now c.records-r-items.ensures.table).few in
    let same = ap length c.records-r-items.ensures.value in
    record { nonzero = omega arith; fits = omega (arith, bound, low, most, few, same) }

pub next_multiple_of-offset-requires-clause-nonzero : goal.next_multiple_of-offset-requires-clause-nonzero
next_multiple_of-offset-requires-clause-nonzero c =
    let at = laid_out c.args.table.now c.records-r-items.result.now c.loop-r.r-index blank c.records-r-items.ensures.value c.records-r-items.ensures.table c.loop-r-test.true in
    let aligned = at.bounded.aligned in
    omega (arith, aligned)

pub push-requires : goal.push-requires
push-requires c =
    let at = laid_out c.args.table.now c.records-r-items.result.now c.loop-r.r-index blank c.records-r-items.ensures.value c.records-r-items.ensures.table c.loop-r-test.true in
    let few = c.loop-r.invariant.few in
    let inside = at.inside in
    let most = at.few in
    (omega arith, omega (arith, few, inside, most))
