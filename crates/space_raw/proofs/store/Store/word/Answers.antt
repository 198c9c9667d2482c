-- A word before the mark is there, and one behind it is 0.
use Rattle.std.proofs.Common.{◌+◌, ◌≤◌, [], ◌∷◌, ap, arith, sym, w16, ◌∙◌}
use Rattle.std.proofs.lemmas.Int.{to_z-of_z}
use Rattle.space_raw.proofs.Stores.{seen_long, there_is, run_is, unwritten}
use Rattle.space_raw.proofs.store.Store.word.Goals as goal

pub written_word-requires-clause-there : goal.written_word-requires-clause-there
written_word-requires-clause-there c =
    let s = c.args.self.now in let le : c.args.place + 1 ≤ s.written = omega (arith, c.if-place-self.true) in
    (there_is s.written s.loose.slots c.args.place 1 le c.requires.there, omega (arith, c.requires.there.1, seen_long s.written s.loose.slots, c.requires.store.0.3))

pub returns-then-place-self : goal.returns-then-place-self
returns-then-place-self c =
    let s = c.args.self.now in let le : c.args.place + 1 ≤ s.written = omega (arith, c.if-place-self.true) in
    record { word = run_is s.written s.loose.slots c.args.place 1 le ∙ c.written_word.ensures.word ∙ ap (λ w. w ∷ []) (sym (to_z-of_z w16 c.written_word.result (record { sfits = c.written_word.type_inv }))) }

pub returns-else-place-self : goal.returns-else-place-self
returns-else-place-self c =
    let s = c.args.self.now in
    record { word = unwritten s.written s.loose.slots c.args.place (omega (arith, c.if-place-self.false)) (omega (arith, c.requires.there.1, seen_long s.written s.loose.slots)) }
