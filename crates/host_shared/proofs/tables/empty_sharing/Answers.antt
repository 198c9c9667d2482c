use Rattle.std.proofs.Common.{◌≡◌, ◌+◌, refl, ap, ◌∙◌, arith}
use Rattle.std.proofs.lemmas.List.{length_push}
use Rattle.host_shared.specs.declared.locations.Locations.{Locations}
use Rattle.host_shared.specs.Locations.{locations_of, no_locations}
use Rattle.host_shared.proofs.Ends.{one_more}
use Rattle.host_shared.proofs.tables.empty_sharing.Goals as goal

pub loop-preserved : goal.loop-preserved
loop-preserved g c =
    let items = c.loop.sharing.items in
    let new = c.of.result in
    let all = c.loop.invariant in
    let bare = c.of.ensures ∙ ap locations_of c.none.ensures in
    record {
      count = rw c.push_reserved.ensures.items (length_push items new ∙ ap (λ n. n + 1) all.count);
      room = rw c.push_reserved.ensures.capacity all.room;
      empty = rw c.push_reserved.ensures.items (one_more no_locations (λ (s : Locations). s ≡ no_locations) items new refl bare all.empty);
    }

pub returns : goal.returns
returns g c =
    let all = c.loop.invariant in
    record {
      count = omega (arith, all.count, c.loop-test.false, c.loop.auto.counter-end);
      empty = λ i. rw (all.empty i, all.empty i) refl;
      unshared = λ i. rw (all.empty i, all.empty i) refl;
      bare = all.empty;
    }
