use Rattle.std.proofs.Common.{◌≡◌, ℤ, List}
use Rattle.mem_rec.specs.declared.MemRec.{MemRec}
use Rattle.ialg.specs.History.{History}
use Rattle.ialg.specs.Records.{unplaced}
use Rattle.ialg.specs.Loans.{lent_words}
use Rattle.ialg.specs.Objects.{Names}
use Rattle.ialg.proofs.Finding.{words_but}
use Rattle.alg_g711.specs.Meaning.{kind_word}
use Rattle.alg_g711.specs.Keeps.{Keeps}
use Rattle.alg_g711.proofs.Coders.{same_coder}
use Rattle.alg_g711.proofs.Keeping.{without_scratch, with_scratch, follows}
use Rattle.alg_g711.proofs.kind.G711Ialg.alg_moved.Goals as goal

-- what all words keep after the move
moved_words : (c : goal.After-write_object_of) (p : List ℤ) (before : List MemRec) (h : History) → unplaced before ≡ unplaced c.args.tab.now
    → Keeps p before (lent_words c.args.mem.now) h → Keeps p c.args.tab.now (lent_words c.write_object_of.new.mem) h
moved_words c p before h moved keeps =
    let m = c.args.mem.now in
    let new = c.write_object_of.new.mem in
    let tab = c.args.tab.now in
    let coder = same_coder c.coder_of.result c.in-Some.coder keeps.coder c.in-Some.is ((rw c.object.ensures at c.coder_of.ensures) keeps.coder _ _ keeps.object) in
    let names : Names (kind_word keeps.coder.law keeps.coder.direction) (unplaced tab) tab new.r0.now = rw coder at (c.write_object_of.ensures.names keeps.object.long) in
    follows p before tab (lent_words m) (lent_words new) h moved keeps names
    (λ k other. words_but 0 k m new c.write_object_of.ensures.others other)

pub returns-clause-active : goal.returns-clause-active
returns-clause-active c p w l before lawful moved table closed lent keeps =
    let h = l.history in
    moved_words c p before h moved keeps

pub returns-clause-idle : goal.returns-clause-idle
returns-clause-idle c p w l before lawful moved table closed lent keeps =
    let h = l.history in
    let tab = c.args.tab.now in
    let all = with_scratch p before tab (lent_words c.args.mem.now) h moved keeps in
    without_scratch p tab (lent_words c.write_object_of.new.mem) h (moved_words c p before h moved all)

pub returns-in_default-clause-active : goal.returns-in_default-clause-active
returns-in_default-clause-active c p w l before lawful moved table closed lent keeps =
    let h = l.history in
    absurd (c.in_default.not-Some keeps.coder ((rw c.object.ensures at c.coder_of.ensures) keeps.coder _ _ keeps.object))

pub returns-in_default-clause-idle : goal.returns-in_default-clause-idle
returns-in_default-clause-idle c p w l before lawful moved table closed lent keeps =
    let h = l.history in
    let all = with_scratch p before c.args.tab.now (lent_words c.args.mem.now) h moved keeps in
    absurd (c.in_default.not-Some all.coder ((rw c.object.ensures at c.coder_of.ensures) all.coder _ _ all.object))
