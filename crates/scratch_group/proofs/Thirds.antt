-- The one write-once record of a filter that shares its constants.
use Rattle.std.proofs.Common.{◌≡◌, ℕ, zero, suc, IsTrue, List, refl, sym, ◌∙◌, arith}
use Rattle.mem_rec.specs.declared.MemRec.{MemRec}
use Rattle.mem_rec.specs.declared.Attr.TheVariants.{WriteOnce}
use Rattle.mem_rec.specs.Records.{is_table}
use Rattle.ialg.specs.Records.{record_at}
use Rattle.ialg.proofs.Tables.{object_attr}
use Rattle.record_loans.specs.declared.plan.SharingSizes.{SharingSizes}
use Rattle.scratch_group.specs.Sharing.{IsOfSharingFilter}
use Rattle.scratch_group.proofs.Ends.{persistent_once, scratch_once, blank_once}

-- no other record than the third is write-once
pub once_third : (rs : List MemRec) (n : SharingSizes) → IsTrue (is_table rs) → IsOfSharingFilter rs n → (k : ℕ) → (record_at rs k).attr ≡ WriteOnce → k ≡ 2
once_third rs n t f zero attr = absurd (persistent_once (sym (object_attr rs t) ∙ attr))
once_third rs n t f (suc zero) attr = absurd (persistent_once (sym f.persistent ∙ attr))
once_third rs n t f (suc (suc zero)) attr = refl
once_third rs n t f (suc (suc (suc zero))) attr = absurd (scratch_once (sym f.scratch ∙ attr))
once_third rs n t f (suc (suc (suc (suc k)))) attr = absurd (blank_once rs (suc (suc (suc (suc k)))) (let e = f.four in omega (arith, e)) attr)
