-- The zeros are seen where they were seen before they were written.
use Rattle.std.proofs.Common.{◌≡◌, ◌-◌, replicate, pos, ap, arith, sym, ◌∙◌}
use Rattle.space_raw.specs.Slots.{without, with_run}
use Rattle.space_raw.specs.Stores.{seen}
use Rattle.space_raw.proofs.Stores.{seen_long, seen_more, without_none}
use Rattle.space_raw.proofs.store.Store.clear.Goals as goal

pub zeros-zeros-requires-clause-blank : goal.zeros-zeros-requires-clause-blank
zeros-zeros-requires-clause-blank c =
    let s = c.args.self.now in let same = c.replace-blank.ensures.value in let store = c.requires.store in (
      ap (λ b. b.base) same ∙ store.0.0 ∙ sym store.1,
      ap (λ b. b.place) same ∙ store.0.1,
      omega (arith, ap (λ b. b.len) same, store.0.2, seen_long s.written s.loose.slots, c.requires.within, c.requires.more),
    )

pub returns-clause-slots : goal.returns-clause-slots
returns-clause-slots c =
    let s = c.args.self.now in let cs = s.loose.slots in let w = s.written in let n = c.args.end - w in let told = c.zeros-zeros.ensures.zeros in
    let same = c.carve-none.ensures.loose.1 ∙ ap (λ l. without l.slots w 0) c.replace-loose.ensures.value ∙ without_none cs w in
    let filled : c.absorb-self.result.slots ≡ with_run cs w (replicate n (pos 0)) = c.absorb-self.ensures.words.1 ∙ (λ i. with_run (same i) (told.1 i) (told.2 i)) in
    ap (λ l. seen c.args.end l) filled ∙ seen_more cs w n c.args.end (omega (arith, c.requires.more)) (omega (arith, seen_long w cs, c.requires.within))
