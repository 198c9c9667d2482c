use Rattle.std.proofs.Common.{◌≡◌, ◌≢◌, ◌<◌, ◌≤◌, ◌+◌, ℕ, ℤ, List, length, FitsSigned, w16, inl, inr, arith, ap, sym, ◌∙◌, get_or-set_other, get_or-set_same, length-set}
use Rattle.std.specs.Int.{cast_unsigned}
use Rattle.std.proofs.lemmas.Bool.{cases_lt}
use Rattle.std.proofs.lemmas.Int.{to_z-of_z, of_z-to_z}
use Rattle.std.proofs.Math.ListN.{set}
use Rattle.ialg.specs.History.{word_at}
use Rattle.ialg.specs.Records.{record_at}
use Rattle.ialg.specs.Objects.{base_at}
use Rattle.ialg.proofs.object.write_object.Goals as goal

-- the base of record k was written
bases_next : (object : List ℤ) (bases : ℕ → ℕ) (k : ℕ) (r : ℤ) → k < length object → cast_unsigned w16 r ≡ bases k
    → ((j : ℕ) → 1 ≤ j → j < k → base_at object j ≡ bases j) → (j : ℕ) → 1 ≤ j → j < k + 1 → base_at (set object k r) j ≡ bases j
bases_next object bases k r room written before j a b = elim (cases_lt j k) [
  | inl h ↦
      let ne : j ≢ k = omega arith in
      let same : word_at (set object k r) j ≡ word_at object j = rw get_or-set_other in
      ap (cast_unsigned w16) same ∙ before j a h
  | inr h ↦
      let last : j ≡ k = omega arith in
      let same : word_at (set object k r) k ≡ r = rw get_or-set_same in
      ap (base_at (set object k r)) last ∙ ap (cast_unsigned w16) same ∙ written ∙ ap bases (sym last)
]

pub returns-else-object-eq-OBJECT_WORDS-clause-short : goal.returns-else-object-eq-OBJECT_WORDS-clause-short
returns-else-object-eq-OBJECT_WORDS-clause-short c = grind arith

pub loop-k-preserved : goal.loop-k-preserved
loop-k-preserved c =
    let object = c.loop-k.object in
    let k = c.loop-k.k in
    let r = c.cast_signed.result in
    let fits : FitsSigned w16 r = record { sfits = c.cast_signed.type_inv } in
    let first : 0 ≢ k = omega arith in
    let room : k < length object = grind (arith, length-set) in
    let written : cast_unsigned w16 r ≡ (record_at c.args.table.now k).base = rw c.cast_signed.ensures (of_z-to_z w16 c.base_of.result c.base_of.type_inv ∙ c.base_of.ensures) in
    rw (to_z-of_z w16 r fits)
    (record {
      kind = rw get_or-set_other c.loop-k.invariant.kind;
      bases = bases_next object (λ j. (record_at c.args.table.now j).base) k r room written c.loop-k.invariant.bases;
    })
