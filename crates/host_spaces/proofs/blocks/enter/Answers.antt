-- The block stands behind those that begin before it.
use Rattle.std.proofs.Common.{◌<◌, ◌≤◌, ℕ, Bool, List, length, get_or, ap, arith, subst, sym, ◌∙◌}
use Rattle.std.specs.Prelude.{if◌then◌else◌, insert}
use Rattle.host_map.specs.declared.placed.Owner.TheVariants.{Record}
use Rattle.host_map.specs.declared.placed.Placed.{Placed}
use Rattle.host_map.specs.Moves.{spots_of}
use Rattle.relocate.specs.Spots.{AreSpots}
use Rattle.host_spaces.proofs.Orders.{inserted}
use Rattle.host_spaces.proofs.Searches.{end_or_behind}
use Rattle.host_spaces.proofs.blocks.enter.Goals as goal

-- what a read past the end would give
abbrev blank : Placed
blank = record { owner = Record 0 0; place = 0; size = 0; align = 0 }

pub count_before-index-requires : goal.count_before-index-requires
count_before-index-requires c = record { order = subst (λ (xs : List Placed). AreSpots (spots_of xs)) (sym c.as_slice.ensures.value) c.requires.order }

pub returns : goal.returns
returns c =
    let xs = c.args.blocks.now.items in let i = c.count_before-index.result in let b = c.args.block in let same = c.as_slice.ensures.value in
    let room : c.args.blocks.now.len < c.args.blocks.now.cap = omega (arith, c.args.blocks.now.ok.0, c.requires.room) in
    record {
      items = c.insert-there_is_room.ensures.items ∙ ap (λ (there : Bool). if there then insert xs i b else xs) (c.insert-there_is_room.ensures.succeeds room) ∙ inserted xs i b blank
          (subst (λ (ys : List Placed). i ≤ length ys) same c.count_before-index.ensures.within)
          (subst (λ (ys : List Placed). (k : ℕ) (d : Placed) → k < i → (get_or ys k d).place < b.place) same c.count_before-index.ensures.before)
          (end_or_behind xs i b.place blank (subst (λ (ys : List Placed). (k : ℕ) (d : Placed) → i ≤ k → k < length ys → b.place ≤ (get_or ys k d).place) same c.count_before-index.ensures.behind));
      capacity = (c.insert-there_is_room.ensures.in_place room).1.0;
    }
