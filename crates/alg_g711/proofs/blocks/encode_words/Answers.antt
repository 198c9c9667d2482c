use Rattle.std.proofs.Common.{◌≡◌, ◌∙◌, pos, length, to_z, of_z, ap, FitsSigned, w16, rules, arith}
use Rattle.std.proofs.lemmas.Int.{to_z-of_z}
use Rattle.ialg.specs.History.{word_at}
use Rattle.alg_g711.specs.Companding.{encoded}
use Rattle.alg_g711.proofs.Outputs.{more_read, more_written}
use Rattle.alg_g711.proofs.blocks.encode_words.Goals as goal

pub loop-k-preserved : goal.loop-k-preserved
loop-k-preserved c =
    let samples = c.args.samples.now in
    let codes = c.loop-k.codes in
    let k = c.loop-k.k in
    let i = c.loop-k.invariant in
    let f : FitsSigned w16 (word_at samples k) = search rules in
    let code = rw (to_z-of_z w16 (word_at samples k) f) at c.encode.ensures in
    let long : length codes ≡ length c.args.codes.now = c.loop-k.auto.codes in
    record {
      codes = more_written (λ j w. w ≡ pos (encoded c.args.law (word_at samples j))) codes k (to_z w16 (of_z w16 c.from.result)) (omega (arith, c.requires, c.loop-k-test.true, long)) i.codes
          (to_z-of_z w16 c.from.result (record { sfits = c.from.type_inv }) ∙ c.from.ensures ∙ ap pos code);
      read = more_read samples k c.loop-k-test.true f i.read;
    }
