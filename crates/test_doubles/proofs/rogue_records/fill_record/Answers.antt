use Rattle.std.proofs.Common.{◌≡◌, ◌∙◌, ap, subst, sym, rules, to_z, of_z}
use Rattle.std.proofs.lemmas.Int.{to_z-of_z}
use mir.Val.{SFits}
use mir.Syntax.{w16}
use Rattle.std.specs.List.{All}
use Rattle.ialg.specs.Loans.{lent_words}
use Rattle.ialg.specs.Records.{words_of}
use Rattle.ialg.proofs.Finding.{same_record}
use Rattle.test_doubles.proofs.Writing.{loan_words, still_filled}
use Rattle.test_doubles.proofs.rogue_records.fill_record.Goals as goal

pub returns-clause-filled : goal.returns-clause-filled
returns-clause-filled c k may apart =
    let taken = c.in-Some.taken in
    let after = c.put.new.self in
    let same = same_record c.args.mem.now c.args.space c.args.base taken.k k apart c.in-Some.ensures.found.at may.at in
    let fits : SFits w16 c.args.word = search rules in
    let word : to_z w16 (of_z w16 c.args.word) ≡ c.args.word = to_z-of_z w16 c.args.word fits in
    let flooded : All (λ x. x ≡ c.args.word) c.flood.new.words = rw word at c.flood.ensures in
    let there = loan_words after taken.k c.in-Some.ensures.left.0 ∙ ap (λ b. b.now) c.put.ensures.back in
    subst (λ j. All (λ x. x ≡ c.args.word) (words_of (lent_words after) j)) same
    (subst (λ xs. All (λ x. x ≡ c.args.word) xs) (sym there) flooded)

pub returns-clause-kept : goal.returns-clause-kept
returns-clause-kept c k filled =
    let taken = c.in-Some.taken in
    let after = c.put.new.self in
    let left = c.in-Some.ensures.left in
    let fits : SFits w16 c.args.word = search rules in
    let word : to_z w16 (of_z w16 c.args.word) ≡ c.args.word = to_z-of_z w16 c.args.word fits in
    let flooded : All (λ x. x ≡ c.args.word) c.flood.new.words = rw word at c.flood.ensures in
    let there = loan_words after taken.k left.0 ∙ ap (λ b. b.now) c.put.ensures.back in
    still_filled c.args.word taken.k k c.args.mem.now _ after left.0 left.2 c.put.ensures.others
    (subst (λ xs. All (λ x. x ≡ c.args.word) xs) (sym there) flooded) filled

pub returns-in_default-clause-filled : goal.returns-in_default-clause-filled
returns-in_default-clause-filled c k may apart = absurd (c.in_default.ensures.found k may)
