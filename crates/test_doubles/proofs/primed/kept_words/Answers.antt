use Rattle.std.proofs.Common.{◌≡◌, ◌+◌, ◌≤◌, ◌++◌, pos, length, take, drop, ap, ◌∙◌, arith}
use Rattle.std.proofs.lemmas.List.{append_assoc, take-append-drop}
use Rattle.ialg.specs.Records.{words_of}
use Rattle.ialg.specs.Loans.{lent_words}
use Rattle.ialg.proofs.Tables.{attr_of, lent_size}
use Rattle.test_doubles.specs.Primed.{primed_records}
use Rattle.test_doubles.proofs.Kept.{once_named, primed_named, scratch_named}
use Rattle.test_doubles.proofs.primed.kept_words.Goals as goal

pub returns-in_default : goal.returns-in_default
returns-in_default c p h lent keeps =
    let m = c.args.mem.now in
    let sizes = lent_size m.table.now primed_records keeps.idle.object.on_table (lent_words m) lent in
    absurd (c.in_default.ensures.named (pos 9) primed_records (once_named m keeps.idle.object (sizes 1)))

pub returns-in_default-primed : goal.returns-in_default-primed
returns-in_default-primed c p h lent keeps =
    let m = c.args.mem.now in
    let sizes = lent_size m.table.now primed_records keeps.idle.object.on_table (lent_words m) lent in
    absurd (c.in_default-primed.ensures.named (pos 9) primed_records (primed_named m keeps.idle.object (sizes 2)))

pub returns-in_default-scratch : goal.returns-in_default-scratch
returns-in_default-scratch c p h lent keeps =
    let m = c.args.mem.now in
    let sizes = lent_size m.table.now primed_records keeps.idle.object.on_table (lent_words m) lent in
    absurd (c.in_default-scratch.ensures.named (pos 9) primed_records (scratch_named m keeps.idle.object (sizes 3)))

pub returns : goal.returns
returns c p h lent keeps =
    let m = c.args.mem.now in
    let records = keeps.idle.object.on_table in
    let sizes = lent_size m.table.now primed_records records (lent_words m) lent in
    let once = c.in-Some.ensures.named (pos 9) primed_records (once_named m keeps.idle.object (sizes 1)) in
    let primed = c.in-Some-primed.ensures.named (pos 9) primed_records (primed_named m keeps.idle.object (sizes 2)) in
    let scratch = c.in-Some-scratch.ensures.named (pos 9) primed_records (scratch_named m keeps.idle.object (sizes 3)) in
    let word : words_of (lent_words m) 1 ≡ drop 1 p = keeps.idle.once 1 (attr_of m.table.now primed_records records 1) in
    let few : length (words_of (lent_words m) 3) + length (words_of (lent_words m) 2) + length (words_of (lent_words m) 1) ≤ 72 = omega (arith, sizes 1, sizes 2, sizes 3) in
    let all = (rw (once, primed, scratch) at c.joined.ensures) few in
    all ∙ ap (λ t. (words_of (lent_words m) 3 ++ words_of (lent_words m) 2) ++ t) word
    ∙ ap (λ t. (words_of (lent_words m) 3 ++ t) ++ drop 1 p) keeps.idle.primed
    ∙ ap (λ t. (t ++ take 1 p) ++ drop 1 p) keeps.scratch
    ∙ append_assoc (take 1 p) (take 1 p) (drop 1 p)
    ∙ ap (λ t. take 1 p ++ t) (take-append-drop 1 p)
