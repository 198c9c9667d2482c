-- A group without blocks has none in any space.
use Rattle.std.proofs.Common.{◌≡◌, None}
use Rattle.mem_rec.specs.declared.Space.{Space}
use Rattle.mem_rec.specs.declared.Space.TheVariants.{Daram, Saram, External}
use Rattle.scratch_group.specs.declared.group.Group.{Group}
use Rattle.scratch_group.specs.Blocks.{block_in}

module _ (g : Group) (none : (space : Space) → block_in g space ≡ None) where
  pub no_daram : g.daram ≡ None
  no_daram = none Daram

  pub no_saram : g.saram ≡ None
  no_saram = none Saram

  pub no_external : g.external ≡ None
  no_external = none External
