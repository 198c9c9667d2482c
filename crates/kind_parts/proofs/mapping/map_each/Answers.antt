use Rattle.std.proofs.Common.{◌≡◌, ◌∙◌, length, to_z, of_z, FitsSigned, w16, rules, arith}
use Rattle.std.proofs.lemmas.Int.{to_z-of_z}
use Rattle.ialg.specs.History.{word_at}
use Rattle.ialg.proofs.Histories.{fits_more, words_fit}
use Rattle.kind_parts.proofs.Mappings.{written_more}
use Rattle.kind_parts.proofs.mapping.map_each.Goals as goal

pub loop-k-preserved : goal.loop-k-preserved
loop-k-preserved g c =
    let M = g.K.Mapping in
    let input = c.args.input.now in
    let outputs = c.loop-k.outputs in
    let k = c.loop-k.k in
    let f : FitsSigned w16 (word_at input k) = search rules in
    let fy : FitsSigned w16 c.value.result = search rules in
    let value = rw (to_z-of_z w16 (word_at input k) f) at c.value.ensures in
    let long : length outputs ≡ length c.args.outputs.now = c.loop-k.auto.outputs in
    record {
      values = written_more (λ j w. w ≡ M.value c.args.words.now (word_at input j)) outputs k (to_z w16 (of_z w16 c.value.result))
          (omega (arith, c.requires.room, c.loop-k-test.true, long)) c.loop-k.invariant.values (to_z-of_z w16 c.value.result fy ∙ value);
      read = fits_more input k c.loop-k.invariant.read f;
    }

pub returns-clause-read : goal.returns-clause-read
returns-clause-read g c = words_fit c.args.input.now (λ k b. c.loop-k.invariant.read k (omega (arith, b)))
