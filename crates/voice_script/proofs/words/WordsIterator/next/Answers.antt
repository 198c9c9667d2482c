use Rattle.std.proofs.Common.{◌≡◌, true, false, ◌∷◌, refl, sym, ◌∙◌, arith}
use Rattle.voice_script.specs.Script.{is_empty, words_of}
use Rattle.voice_script.proofs.WordLemmas.{is_empty-length, words_of-parts, words_of-last}
use Rattle.voice_script.proofs.words.WordsIterator.next.Goals as goal

pub returns-then-not-is_empty-clause-steps : goal.returns-then-not-is_empty-clause-steps
returns-then-not-is_empty-clause-steps c =
    let some : is_empty c.in-Some.word.now ≡ false = sym (is_empty-length c.in-Some.word.now) ∙ sym c.is_empty.ensures ∙ c.if-not-is_empty.true in
    sym c.loop-word.invariant ∙ words_of-parts _ _ _ c.in-Some.ensures ∙ rw some refl

pub returns-then-not-is_empty-clause-goes : goal.returns-then-not-is_empty-clause-goes
returns-then-not-is_empty-clause-goes c =
    let some : is_empty c.in-Some.word.now ≡ false = sym (is_empty-length c.in-Some.word.now) ∙ sym c.is_empty.ensures ∙ c.if-not-is_empty.true in
    let e : words_of c.args.self.now.line.now ≡ c.in-Some.word.now ∷ words_of c.in-Some.after.now =
    sym c.loop-word.invariant ∙ words_of-parts _ _ _ c.in-Some.ensures ∙ rw some refl in
    record {
      on = λ _. (tt, tt, rw e (omega arith));
      keeps = tt;
      rests = λ _. tt;
    }

pub returns-else-is_over-clause-steps : goal.returns-else-is_over-clause-steps
returns-else-is_over-clause-steps c =
    let some : is_empty c.loop-word.self.line.now ≡ false = sym (is_empty-length c.loop-word.self.line.now) ∙ sym c.is_empty-is_over.ensures ∙ c.if-is_over.false in
    sym c.loop-word.invariant ∙ words_of-last _ c.in_default.ensures ∙ rw some refl

pub returns-then-is_over-clause-steps : goal.returns-then-is_over-clause-steps
returns-then-is_over-clause-steps c =
    let none : is_empty c.loop-word.self.line.now ≡ true = sym (is_empty-length c.loop-word.self.line.now) ∙ sym c.is_empty-is_over.ensures ∙ c.if-is_over.true in
    (sym c.loop-word.invariant ∙ words_of-last _ c.in_default.ensures ∙ rw none refl, refl)
