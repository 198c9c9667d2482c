-- Two words, of which one may not be written.
use Rattle.std.proofs.Common.{◌+◌, ◌≤◌, [], ◌∷◌, arith, sym, w16, ◌∙◌}
use Rattle.std.proofs.lemmas.Int.{to_z-of_z}
use Rattle.space_raw.specs.Stores.{slots_of}
use Rattle.space_raw.proofs.Stores.{seen_long, there_is, run_is, first_run, second_run, both_words}
use Rattle.space_raw.proofs.store.Store.pair.Goals as goal

pub overflow_add-place : goal.overflow_add-place
overflow_add-place c = let s = c.args.self.now in record { fits = omega (arith, c.requires.there.1, seen_long s.written s.loose.slots, c.requires.store.0.3) }

pub word-requires-clause-there : goal.word-requires-clause-there
word-requires-clause-there c = first_run (slots_of c.args.self.now) c.args.place 1 2 (omega arith) c.requires.there

pub overflow_add-place-then-self-place : goal.overflow_add-place-then-self-place
overflow_add-place-then-self-place c = let s = c.args.self.now in record { fits = omega (arith, c.requires.there.1, seen_long s.written s.loose.slots, c.requires.store.0.3) }

pub word-requires-then-self-place-clause-there : goal.word-requires-then-self-place-clause-there
word-requires-then-self-place-clause-there c = second_run (slots_of c.args.self.now) c.args.place c.requires.there

pub returns-then-self-place : goal.returns-then-self-place
returns-then-self-place c =
    let x = c.word.result in let y = c.word-then-self-place.result in
    let same_x = sym (to_z-of_z w16 x (record { sfits = c.word.type_inv })) in let same_y = sym (to_z-of_z w16 y (record { sfits = c.word-then-self-place.type_inv })) in
    record { words = both_words (slots_of c.args.self.now) c.args.place x y c.word.ensures.word c.word-then-self-place.ensures.word ∙ (λ i. same_x i ∷ same_y i ∷ []) }

pub written_pair-requires-clause-there : goal.written_pair-requires-clause-there
written_pair-requires-clause-there c =
    let s = c.args.self.now in let le : c.args.place + 2 ≤ s.written = omega (arith, c.if-self-place.false) in
    (there_is s.written s.loose.slots c.args.place 2 le c.requires.there, omega (arith, c.requires.there.1, seen_long s.written s.loose.slots, c.requires.store.0.3))

pub returns : goal.returns
returns c =
    let s = c.args.self.now in
    record { words = run_is s.written s.loose.slots c.args.place 2 (omega (arith, c.if-self-place.false)) ∙ c.written_pair.ensures.words }
