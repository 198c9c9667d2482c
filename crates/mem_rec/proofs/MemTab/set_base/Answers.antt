use Rattle.std.proofs.Common.{◌∙◌, ap}
use Rattle.mem_rec.proofs.Bases.{refill_is_with_base, stays_table}
use Rattle.mem_rec.specs.Records.{with_base}
use Rattle.mem_rec.proofs.MemTab.set_base.Goals as goal

pub invariant_of-self : goal.invariant_of-self
invariant_of-self c =
    let rs = c.self.inside.records.items in
    let v = c.self.view_is in
    stays_table rs _ c.args.k c.args.base
    (refill_is_with_base rs _ _ c.args.k c.args.base _ c.as_mut_slice.ensures.value c.as_mut_slice.ensures.value (rw v c.requires))
    c.self.invariant

pub returns : goal.returns
returns c =
    let rs = c.self.inside.records.items in
    let v = c.self.view_is in
    refill_is_with_base rs _ _ c.args.k c.args.base _ c.as_mut_slice.ensures.value c.as_mut_slice.ensures.value (rw v c.requires)
    ∙ ap (λ t. with_base t c.args.k c.args.base) v
