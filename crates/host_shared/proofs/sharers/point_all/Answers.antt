use Rattle.std.proofs.Common.{◌<◌, inl, inr, length, ◌∙◌, ap, arith}
use Rattle.std.proofs.lemmas.Bool.Decides.{eqb_tells}
use Rattle.std.proofs.lemmas.List.{length-set}
use Rattle.host_shared.specs.Locations.{location_at, locations_at}
use Rattle.host_shared.specs.Sharing.{pointed}
use Rattle.host_shared.proofs.Owners.{set_location_here, set_location_there, set_location_beside}
use Rattle.mem_rec.specs.declared.TheConstants.{INSTANCES}
use Rattle.host_shared.proofs.Handing.{all_pointed}
use Rattle.host_shared.proofs.sharers.point_all.Goals as goal

pub loop-j-preserved : goal.loop-j-preserved
loop-j-preserved c =
    let was = c.loop-j.sharing.items in
    let x = pointed c.args.i c.args.next (location_at (locations_at was c.loop-j.j) c.args.k) in
    let inside : c.loop-j.j < length was = omega (arith, c.loop-j.invariant.count) in
    let below : c.args.k < 4 = omega (arith, c.requires.record) in
    record {
      count = rw c.point.ensures (simp length-set c.loop-j.invariant.count);
      pointed = λ n less.
          elim (eqb_tells n c.loop-j.j) [
            | inl e ↦ rw (e.1, c.point.ensures) (set_location_here was c.loop-j.j c.args.k x inside below ∙ ap (pointed c.args.i c.args.next) (c.loop-j.invariant.waits c.loop-j.j (omega arith)))
            | inr e ↦ rw c.point.ensures (set_location_there was c.loop-j.j n c.args.k c.args.k x e.1 ∙ c.loop-j.invariant.pointed n (omega (arith, e.1)))
          ];
      waits = λ n more. rw c.point.ensures (set_location_there was c.loop-j.j n c.args.k c.args.k x (omega (arith, more)) ∙ c.loop-j.invariant.waits n (omega (arith, more)));
      beside = λ n r apart. rw c.point.ensures (set_location_beside was c.loop-j.j n c.args.k r x inside apart ∙ c.loop-j.invariant.beside n r apart);
    }

pub returns-clause-pointed : goal.returns-clause-pointed
returns-clause-pointed c =
    all_pointed c.loop-j.sharing.items c.args.sharing.now.items INSTANCES c.args.i c.args.next c.args.k c.loop-j.invariant.count c.requires.count
    (λ n less. c.loop-j.invariant.pointed n (omega (arith, less)))
