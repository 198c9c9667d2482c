use Rattle.std.proofs.Common.{ap, arith, sym, ◌∙◌}
use Rattle.space_raw.proofs.Stores.{seen_long}
use Rattle.space_raw.proofs.rest.Rest.end.Goals as goal

pub returns-clause-blank : goal.returns-clause-blank
returns-clause-blank c =
    let r = c.self.inside in let s = r.store in let told = c.end-words.ensures in let same = told.blank in let kept = c.self.invariant in (
      ap (λ b. b.base) same ∙ kept.4.0 ∙ sym kept.0,
      ap (λ b. b.place) same ∙ kept.4.1 ∙ sym told.words.2,
      omega (arith, ap (λ b. b.len) same, told.words.2, kept.4.2, kept.1, seen_long s.written s.loose.slots),
    )
