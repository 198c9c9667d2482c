use Rattle.std.proofs.Common.{◌≡◌, sym, ap, ◌∙◌}
use Rattle.mem_rec.specs.declared.Attr.TheVariants.{Persist, Scratch, WriteOnce}
use Rattle.mem_rec.specs.declared.MemRec.{MemRec}
use Rattle.ialg.specs.Records.{record_at}
use Rattle.scratch_group.proofs.bases.place.Goals as goal

pub returns-in-Persist : goal.returns-in-Persist
returns-in-Persist c =
    let attr : (record_at c.args.table.now c.args.k).attr ≡ Persist = ap (λ (r : MemRec). r.attr) (sym c.record-r.ensures.value) ∙ c.in-Persist.is in
    rw attr c.place.ensures

pub returns-in-WriteOnce : goal.returns-in-WriteOnce
returns-in-WriteOnce c =
    let attr : (record_at c.args.table.now c.args.k).attr ≡ WriteOnce = ap (λ (r : MemRec). r.attr) (sym c.record-r.ensures.value) ∙ c.in-WriteOnce.is in
    rw attr c.place-in-WriteOnce.ensures

pub returns-in-Scratch : goal.returns-in-Scratch
returns-in-Scratch c =
    let attr : (record_at c.args.table.now c.args.k).attr ≡ Scratch = ap (λ (r : MemRec). r.attr) (sym c.record-r.ensures.value) ∙ c.in-Scratch.is in
    rw attr (rw (c.record-r.ensures.value, c.offset_behind.ensures.value) at c.place_in.ensures)
