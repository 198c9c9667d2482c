use Rattle.std.proofs.Common.{◌≡◌, ◌++◌, ℕ, zero, suc, List, [], ◌∷◌, Option, None, refl, length-append}
use Rattle.host_table.specs.declared.member.Member.{Member}
use Rattle.host_table.specs.Table.{slot_at}
use Rattle.host_table.proofs.table_memory.empty_instances.Goals as goal

none_more : {M : Type 0} (slots : List (Option (Member M))) → ((i : ℕ) → slot_at slots i ≡ None) → (i : ℕ) → slot_at (slots ++ (None ∷ [])) i ≡ None
none_more [] none zero = refl
none_more [] none (suc i) = refl
none_more (s ∷ slots) none zero = none zero
none_more (s ∷ slots) none (suc i) = none_more slots (λ j. none (suc j)) i

pub loop-preserved : goal.loop-preserved
loop-preserved g c = record {
  count = rw c.push_reserved.ensures.items (rw (length-append, c.loop.invariant.count));
  room = rw c.push_reserved.ensures.capacity c.loop.invariant.room;
  empty = rw c.push_reserved.ensures.items (none_more _ c.loop.invariant.empty);
}
