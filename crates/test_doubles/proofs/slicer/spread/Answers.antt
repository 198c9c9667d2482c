use Rattle.std.proofs.Common.{◌≡◌, length, ap, sym, ◌∙◌, arith, rules, to_z, of_z}
use Rattle.std.proofs.lemmas.Int.{to_z-of_z}
use mir.Val.{SFits}
use mir.Syntax.{w16}
use Rattle.std.specs.List.{All}
use Rattle.ialg.proofs.Loans.{taken_and_put}
use Rattle.ialg.proofs.Taking.{visit, scratch_not_once}
use Rattle.test_doubles.proofs.slicer.spread.Goals as goal

pub returns-clause-spread : goal.returns-clause-spread
returns-clause-spread c kind records named scratch =
    let m = c.args.mem.now in
    let found = c.in-Some.ensures.named kind records named (λ once. scratch_not_once (sym scratch ∙ once)) in
    let v = visit c.args.n m _ _ c.in-Some.taken _ found (let w = named.within in let f = named.few in omega arith) (let w = named.not_the_object in λ e. omega (arith, w, e)) c.in-Some.ensures.left c.put.ensures.others c.put.ensures.back in
    let fits : SFits w16 c.args.word = search rules in
    let same : to_z w16 (of_z w16 c.args.word) ≡ c.args.word = to_z-of_z w16 c.args.word fits in
    let flooded : All (λ x. x ≡ c.args.word) c.flood.new.words = rw same at c.flood.ensures in
    record {
      all_words = rw v.written.written flooded;
      others = v.written.others;
    }

pub returns-clause-loans : goal.returns-clause-loans
returns-clause-loans c =
    let left = c.in-Some.ensures.left in
    taken_and_put _ _ _ _ left.0 left.2 c.put.ensures.others c.in-Some.ensures.found.may
    (ap (λ b. b.ghost_name) c.put.ensures.back ∙ ap (λ b. b.ghost_name) left.1)
    (ap (λ b. length b.now) c.put.ensures.back ∙ c.flood.auto.words ∙ ap (λ b. length b.now) left.1)
