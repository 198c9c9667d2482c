-- The rest has its places and the piece's.
use Rattle.std.proofs.Common.{rules, ◌≡◌, ◌+◌, ◌≤◌, length, map, ap, arith, ◌∙◌, sym}
use Rattle.std.specs.Prelude.{is_some}
use Rattle.space_raw.specs.Slots.{with_run}
use Rattle.space_raw.proofs.Marks.{absorbed_places}
use Rattle.space_raw.proofs.Slots.{with_long}
use Rattle.space_raw.specs.Stores.{slots_of}
use Rattle.space_raw.proofs.rest.Rest.absorb.Goals as goal

pub invariant_of-self : goal.invariant_of-self
invariant_of-self c =
    let cs = slots_of c.self.inside.store in let p = c.piece.inside in let ws = p.words.items in
    let size : length p.places.marks ≡ length cs = search rules in
    let places = ap (λ x. x.marks) c.replace-others.ensures.value ∙ c.self.invariant.3 in
    let all = c.absorb.ensures.slots ∙ ap (λ k. with_run cs k ws) (sym c.piece.invariant.1) in
    let inside : p.place + length ws ≤ length cs = omega (arith, size, c.piece.invariant) in (
      search rules,
      c.self.invariant.1 ∙ sym (ap length all ∙ with_long cs p.place ws inside),
      search rules,
      absorbed_places cs c.replace-others.result.marks c.unite-self-inside.result.marks p.place p.len places p.places.marks ws c.piece.invariant.2
          (omega (arith, inside, c.piece.invariant)) size c.piece.invariant.3 c.unite-self-inside.ensures.both.1
          ∙ ap (λ l. map is_some l) (sym all),
      c.absorb.ensures.store.0,
    )
