use Rattle.std.proofs.Common.{◌≡◌, ◌∙◌, ◌%◌, to_z, of_z, FitsSigned, w16, rules, arith}
use Rattle.std.specs.Int.{cast_unsigned}
use Rattle.std.proofs.Math.ListN.{length-set}
use Rattle.std.proofs.lemmas.Int.{to_z-of_z}
use Rattle.ialg.specs.History.{word_at}
use Rattle.alg_g711.specs.declared.TheConstants.{CODES}
use Rattle.alg_g711.proofs.Outputs.{more_read, more_written}
use Rattle.alg_g711.proofs.blocks.look_up.Goals as goal

pub loop-k-preserved : goal.loop-k-preserved
loop-k-preserved c =
    let codes = c.args.codes.now in
    let samples = c.loop-k.samples in
    let k = c.loop-k.k in
    let i = c.loop-k.invariant in
    let v = to_z w16 (of_z w16 c.sample_of.result) in
    let f : FitsSigned w16 (word_at codes k) = search rules in
    let sample = rw (to_z-of_z w16 (word_at codes k) f) at c.sample_of.ensures in
    record {
      size = length-set samples k v ∙ i.size;
      samples = more_written (λ j w. w ≡ word_at c.args.table.now (cast_unsigned w16 (word_at codes j) % CODES)) samples k v (omega (arith, i.size, c.loop-k-test.true)) i.samples
          (to_z-of_z w16 c.sample_of.result (record { sfits = c.sample_of.type_inv }) ∙ sample);
      read = more_read codes k c.loop-k-test.true f i.read;
    }
