use Rattle.std.proofs.Common.{◌∷◌, [], ◌≡◌, ◌∙◌, ◌%◌, ap, sym, to_z, of_z, w16}
use Rattle.std.proofs.Math.Facts.{to_z-of_z}
use Rattle.std.specs.Int.{cast_unsigned}
use Rattle.ialg.specs.History.{Sample, word_at}
use Rattle.alg_g711.specs.declared.TheConstants.{CODES}
use Rattle.alg_g711.specs.Meaning.{coded}
use Rattle.alg_g711.proofs.Outputs.{outputs_of_block, sample_by}
use Rattle.alg_g711.proofs.Keeping.{decodes_by_words, decoder_words, goes_on}
use Rattle.alg_g711.proofs.kind.G711Ialg.process_sample.Goals as goal

pub returns-then-once-eq-CODES : goal.returns-then-once-eq-CODES
returns-then-once-eq-CODES c = record {
  law = λ p w l rs lawful lent keeps.
      let h = l.history in
      let wss = c.args._object.now ∷ c.args.once.now ∷ [] ∷ [] ∷ [] in
      let x = c.args.x in
      let told : to_z w16 (of_z w16 c.sample_of.result) ≡ c.sample_of.result = to_z-of_z {w = w16} (record { sfits = c.sample_of.type_inv }) in
      let taken : to_z w16 (of_z w16 x) ≡ x = to_z-of_z {w = w16} c.ranges.x in
      let way = decodes_by_words p rs wss h keeps lent c.if-once-eq-CODES.true in
      let samples = decoder_words p rs wss h keeps way in (
        goes_on p rs wss h (Sample x ∷ h) (c.ranges.x, keeps.history) keeps,
        outputs_of_block p keeps.coder h (x ∷ []) (to_z w16 (of_z w16 c.sample_of.result) ∷ []) keeps.granted
            (ap (λ y. y ∷ []) (told ∙ c.sample_of.ensures ∙ ap (λ v. word_at c.args.once.now (cast_unsigned w16 v % CODES)) taken ∙ sample_by keeps.coder.law c.args.once.now x samples ∙ sym (ap (λ d. coded keeps.coder.law d x) way))),
      );
}
