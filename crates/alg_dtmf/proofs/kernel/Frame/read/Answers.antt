use Rattle.std.proofs.Common.{◌≡◌, ◌∙◌, ℤ, to_z, of_z, SFits, w16, w32, rules}
use Rattle.std.proofs.lemmas.Int.{to_z-of_z}
use Rattle.ialg.specs.History.{word_at}
use Rattle.alg_dtmf.proofs.kernel.Frame.read.Goals as goal

pair_is : (a b : ℤ) → SFits w16 a → SFits w16 b → ◌≡◌ {A = ℤ × ℤ} (to_z w16 (of_z w16 a), to_z w16 (of_z w16 b)) (a, b)
pair_is a b f g = λ i. (to_z-of_z w16 a f i, to_z-of_z w16 b g i)

pub returns-clause-low_a : goal.returns-clause-low_a
returns-clause-low_a c = pair_is (word_at c.args.words.now 3) (word_at c.args.words.now 4) (search rules) (search rules)

pub returns-clause-low_b : goal.returns-clause-low_b
returns-clause-low_b c = pair_is (word_at c.args.words.now 5) (word_at c.args.words.now 6) (search rules) (search rules)

pub returns-clause-low_c : goal.returns-clause-low_c
returns-clause-low_c c = pair_is (word_at c.args.words.now 7) (word_at c.args.words.now 8) (search rules) (search rules)

pub returns-clause-low_d : goal.returns-clause-low_d
returns-clause-low_d c = pair_is (word_at c.args.words.now 9) (word_at c.args.words.now 10) (search rules) (search rules)

pub returns-clause-high_a : goal.returns-clause-high_a
returns-clause-high_a c = pair_is (word_at c.args.words.now 11) (word_at c.args.words.now 12) (search rules) (search rules)

pub returns-clause-high_b : goal.returns-clause-high_b
returns-clause-high_b c = pair_is (word_at c.args.words.now 13) (word_at c.args.words.now 14) (search rules) (search rules)

pub returns-clause-high_c : goal.returns-clause-high_c
returns-clause-high_c c = pair_is (word_at c.args.words.now 15) (word_at c.args.words.now 16) (search rules) (search rules)

pub returns-clause-high_d : goal.returns-clause-high_d
returns-clause-high_d c = pair_is (word_at c.args.words.now 17) (word_at c.args.words.now 18) (search rules) (search rules)

pub returns-clause-energy : goal.returns-clause-energy
returns-clause-energy c =
    let words = c.args.words.now in
    let f : SFits w16 (word_at words 1) = search rules in
    let g : SFits w16 (word_at words 2) = search rules in
    to_z-of_z w32 c.join.result (record { sfits = c.join.type_inv }) ∙ rw (to_z-of_z w16 (word_at words 1) f, to_z-of_z w16 (word_at words 2) g) at c.join.ensures
