use Rattle.std.proofs.Common.{◌≡◌, ◌∙◌, sym, refl}
use Rattle.std.proofs.lemmas.Bool.{false≢true}
use Rattle.alg_g711.specs.declared.coder.Direction.{Direction}
use Rattle.alg_g711.specs.declared.coder.Direction.TheVariants.{Encode, Decode}
use Rattle.alg_g711.proofs.Keeping.{decodes}
use Rattle.alg_g711.proofs.kind.run.Goals as goal

-- what doesn't decode encodes
encodes : (way : Direction) → (way ≡ Decode → ⊥) → way ≡ Encode
encodes Encode not = refl
encodes Decode not = absurd (not refl)

pub returns-then-is_decoder-clause-law : goal.returns-then-is_decoder-clause-law
returns-then-is_decoder-clause-law c p h keeps lent =
    let way = ((rw c.object-object.ensures at c.is_decoder.ensures) keeps.coder _ _ keeps.object).0 c.if-is_decoder.true in
    let d = decodes p c.args.mem.now h keeps.coder.law keeps refl way lent in
    c.decode_block.ensures.law keeps.coder.law d.named d.samples ∙ rw way refl

pub returns-then-is_decoder-clause-read : goal.returns-then-is_decoder-clause-read
returns-then-is_decoder-clause-read c p h keeps lent =
    let way = ((rw c.object-object.ensures at c.is_decoder.ensures) keeps.coder _ _ keeps.object).0 c.if-is_decoder.true in
    let d = decodes p c.args.mem.now h keeps.coder.law keeps refl way lent in
    c.decode_block.ensures.read keeps.coder.law d.named d.samples

pub returns-else-is_decoder-clause-law : goal.returns-else-is_decoder-clause-law
returns-else-is_decoder-clause-law c p h keeps lent =
    let way = encodes keeps.coder.direction (λ decode. false≢true (sym c.if-is_decoder.false ∙ ((rw c.object-object.ensures at c.is_decoder.ensures) keeps.coder _ _ keeps.object).1 decode)) in
    (rw c.object-object.ensures at c.encode_by.ensures.given) keeps.coder.law _ _ (rw way at keeps.object) ∙ rw way refl

pub returns-else-is_decoder-clause-read : goal.returns-else-is_decoder-clause-read
returns-else-is_decoder-clause-read c p h keeps lent =
    let way = encodes keeps.coder.direction (λ decode. false≢true (sym c.if-is_decoder.false ∙ ((rw c.object-object.ensures at c.is_decoder.ensures) keeps.coder _ _ keeps.object).1 decode)) in
    (rw c.object-object.ensures at c.encode_by.ensures.read) keeps.coder.law _ _ (rw way at keeps.object)
