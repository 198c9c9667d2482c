use Rattle.std.proofs.Common.{◌≡◌, None, ap, sym, ◌∙◌}
use Rattle.std.proofs.lemmas.Option.{none-some}
use Rattle.host_shared.specs.declared.locations.Location.TheVariants.{Here, At}
use Rattle.host_shared.specs.declared.locations.Locations.{Locations}
use Rattle.host_shared.specs.Locations.{location_at}
use Rattle.host_table.specs.Table.{slot_active_in, group_at}
use Rattle.host_map.specs.Activity.{Activity}
use Rattle.host_table.proofs.Housing.{none_poisoned}
use Rattle.host_shared.proofs.Lent.{no_location}
use Rattle.host_table.proofs.table_memory.EmptyTables+M.into_tables.Goals as goal

pub returns-clause-ok : goal.returns-clause-ok
returns-clause-ok g c = record {
  slot_count = c.args.self.slot_count;
  sharing_count = c.args.self.sharing_count;
  group_count = c.args.self.group_count;
  held = λ i k owner is.
      let both : Here None ≡ At owner = sym (ap (λ (s : Locations). location_at s k) (c.args.self.bare i) ∙ no_location k) ∙ is in
      cc;
  bare = λ i none. c.args.self.bare i;
  group_range = λ i m at. absurd (none-some m (sym (c.args.self.empty i) ∙ at));
  housed = λ i m at. absurd (none-some m (sym (c.args.self.empty i) ∙ at));
  active_there = λ k i below at. absurd (none-some i (sym (ap (λ (a : Activity). a.active) (c.args.self.no_activity k)) ∙ at));
  active_known = λ k i at. absurd (none-some k (sym (ap slot_active_in (c.args.self.empty i)) ∙ at));
}

pub returns-clause-poisoned : goal.returns-clause-poisoned
returns-clause-poisoned g c w k below none = none_poisoned w (group_at c.args.self.groups.items k) (c.args.self.no_blocks k)

pub returns-clause-keeps : goal.returns-clause-keeps
returns-clause-keeps g c w histories i = rw (c.args.self.empty i) tt
