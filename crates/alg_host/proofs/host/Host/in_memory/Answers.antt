use Rattle.std.proofs.Common.{ap, is_some, refl}
use Rattle.alg_host.proofs.host.Host.in_memory.Goals as goal

pub invariant_of-result : goal.invariant_of-result
invariant_of-result g c = record {
  ok = c.open-tables.ensures.ok;
  standing = c.open-tables.ensures.standing;
  poisoned = c.open-tables.ensures.poisoned c.args.poison;
}

pub returns-clause-empty : goal.returns-clause-empty
returns-clause-empty g c = λ i. ap is_some (c.open-tables.ensures.empty i)

pub returns-clause-host : goal.returns-clause-host
returns-clause-host g c = record { kept = c.open-tables.ensures.machine c.args.poison; poison = refl }
