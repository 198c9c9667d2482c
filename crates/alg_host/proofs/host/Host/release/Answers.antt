use Rattle.std.proofs.Common.{◌∙◌, ap, sym, subst}
use Rattle.host_moves.proofs.Places.{places_stay}
use Rattle.alg_host.specs.Hosts.{HostRefines}
use Rattle.alg_host.proofs.Served.{SamePlaces, release_stays, still_kept}
use Rattle.alg_host.proofs.host.Host.release.Goals as goal

pub invariant_of-self : goal.invariant_of-self
invariant_of-self g c = record {
  ok = c.deactivate_group.ensures.stays.ok;
  standing = places_stay c.self.inside.tables c.deactivate_group.new.tables c.self.inside.spaces c.deactivate_group.ensures.stays.same c.self.invariant.standing;
  poisoned = c.deactivate_group.ensures.stays.poisoned;
}

pub returns-clause-machine : goal.returns-clause-machine
returns-clause-machine g c = λ before keeps.
    let kept = subst (λ h. HostRefines g.M.Ialg.law h before) (sym c.self.view_is) keeps in
    let did = c.deactivate_group.ensures.machine before kept.poison kept.kept.tables in
    let same = subst (λ s. SamePlaces before s) (sym (ap (λ o. o.1) did.1)) (release_stays before c.args.group) in (
      did.0,
      did.1,
      record {
        kept = still_kept g.M.Ialg.law c.self.inside.tables c.deactivate_group.new.tables c.self.inside.spaces before did.0 kept.kept same did.2;
        poison = same.poison ∙ kept.poison;
      },
    )
