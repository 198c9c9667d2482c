use Rattle.std.proofs.Common.{[], None, subst, sym}
use Rattle.host_table.specs.Refinement.{logs_of}
use Rattle.host_moves.proofs.Maps.{standing_start}
use Rattle.host_moves.specs.Refinement.{IsLiving}
use Rattle.host_instances.proofs.memory.HostMemory+M.open.Goals as goal

pub returns-clause-standing : goal.returns-clause-standing
returns-clause-standing g c =
    let made = c.into_tables-tables.ensures in
    standing_start _ _ _ _ made.empty made.bare made.blocks c.of-spaces.ensures.map

-- the first state: nothing lives, and all is free
pub returns-clause-machine : goal.returns-clause-machine
returns-clause-machine g c = λ w.
    let made = c.into_tables-tables.ensures in
    record {
      tables = record {
        living = λ i. subst (λ slot. IsLiving slot None) (sym (made.empty i)) tt;
        activity = made.activity;
        histories = (λ i. [], made.keeps w (logs_of (λ i. []) (λ i. [])));
      };
      map = c.of-spaces.ensures.map;
      sizes = c.of-spaces.ensures.sizes;
      copied = c.of-spaces.ensures.copied;
    }
