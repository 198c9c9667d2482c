use Rattle.std.proofs.Common.{get_or, set, ap, refl, ◌∙◌}
use Rattle.std.specs.List.{refill}
use Rattle.host_map.specs.declared.placed.Owner.TheVariants.{Record}
use Rattle.host_map.specs.declared.placed.Placed.{Placed}
use Rattle.host_spaces.proofs.Moving.{put_done}
use Rattle.host_spaces.proofs.blocks.put_at.Goals as goal

-- what a read past the end would give
abbrev blank : Placed
blank = record { owner = Record 0 0; place = 0; size = 0; align = 0 }

pub returns : goal.returns
returns c =
    let v = c.args.blocks.now in let bs = v.items in let k = c.args.index in let now = set bs k (record (get_or bs k blank) { place = c.args.place }) in
    record {
      items = rw (c.as_mut_slice.ensures.value, c.as_slice.ensures.value) (ap (λ n. refill n bs now) v.ok.0 ∙ put_done bs k c.args.place blank c.requires.within);
      capacity = refl;
    }
