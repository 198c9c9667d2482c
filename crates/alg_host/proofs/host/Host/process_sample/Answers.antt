use Rattle.std.proofs.Common.{◌∷◌, [], subst, w16}
use Rattle.std.specs.Prelude.{IfSome}
use Rattle.std.proofs.Math.Facts.{to_z-of_z}
use Rattle.host_spec.specs.Calls.Call.{Process}
use Rattle.alg_host.specs.Hosts.{HostState, HostCallRefines}
use Rattle.alg_host.proofs.Served.{told_serves}
use Rattle.alg_host.proofs.host.Host.process_sample.Goals as goal

pub returns : goal.returns
returns g c = record {
  machine =
      let host : HostState _ = record { tables = c.self.inside.tables; spaces = c.self.inside.spaces; poison = c.self.inside.poison } in
      subst (λ h. IfSome c.process_sample.result (λ y. HostCallRefines g.M.Ialg.law (Process c.args.i (c.args.x ∷ []) (y ∷ [])) h h)) c.self.view_is
      (told_serves g.M.Ialg.law host (record { ok = c.self.invariant.ok; poisoned = c.self.invariant.poisoned }) c.args.i c.args.x c.process_sample.result
      (rw (to_z-of_z {w = w16} c.ranges.x) at c.process_sample.ensures.told));
}
