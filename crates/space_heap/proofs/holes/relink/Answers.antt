-- Of the tag of the hole the second word alone changes.
use Rattle.std.proofs.Common.{◌≡◌, ℕ, ◌+◌, [], ◌∷◌, List, refl, rules, sym, subst, ap, ◌∙◌, arith, inl, inr, Option, Some, w16, SFits, to_z, of_z, get_or}
use Rattle.std.proofs.lemmas.Bool.{cases_lt}
use Rattle.std.proofs.lemmas.Int.{to_z-of_z}
use Rattle.std.specs.Prelude.{ℤ, pos, IfSome}
use Rattle.space_raw.specs.Slots.{IsRun, with_run}
use Rattle.space_heap.specs.Holes.{free_word, IsRelinked, IsSameBut}
use Rattle.relocate.proofs.RangeTests.{either}
use Rattle.space_heap.proofs.Words.{tag_first, tag_second, tag_rewrites, run_words}
use Rattle.space_heap.proofs.holes.relink.Goals as goal

module _ (c : goal.After-set_tag) where
  abbrev old : List (Option ℤ)
  old = c.args.rest.now.slots

  abbrev place : ℕ
  place = c.in-Some.place

  abbrev len : ℤ
  len = c.tag-len.result.0

  abbrev tagged : List (Option ℤ)
  tagged = with_run old place (len ∷ c.link_of.result ∷ [])

  there : IsRun old place 2
  there = subst (λ before. IfSome before (λ p. IsRun old p 2)) c.in-Some.is c.requires.there

  fits_len : SFits w16 len
  fits_len = search rules

  fits_next : SFits w16 c.link_of.result
  fits_next = search rules

  slots : c.set_tag.new.self.slots ≡ tagged
  slots = c.set_tag.ensures.words
      ∙ ap (λ a. with_run old place (a ∷ to_z w16 (of_z w16 c.link_of.result) ∷ [])) (to_z-of_z w16 len fits_len)
      ∙ ap (λ b. with_run old place (len ∷ b ∷ [])) (to_z-of_z w16 c.link_of.result fits_next)

  kept : free_word tagged place ≡ free_word old place
  kept = tag_first old place len c.link_of.result there ∙ sym ((run_words old place there).0 ∙ ap (λ ws. Some (get_or ws 0 (pos 0))) c.tag-len.ensures.words)

  others : IsSameBut old (place + 1) 1 tagged
  others k apart =
      let known = (tag_rewrites old place len c.link_of.result there).others in
      either apart
      (λ lt. either (cases_lt k place) (λ before. known k (inl before)) (λ ge. let at : place ≡ k = omega arith in subst (λ n. free_word tagged n ≡ free_word old n) at kept))
      (λ le. known k (inr (omega arith)))

  relinked : IsRelinked old c.args.first.now (Some place) c.args.next tagged c.args.first.now
  relinked =
      let whole = tag_rewrites old place len c.link_of.result there in (
        record { long = whole.long; there = whole.there; others = others },
        tag_second old place len c.link_of.result there ∙ ap (λ (w : ℤ). Some w) c.link_of.ensures,
        refl,
      )

pub returns-in-Some-clause-linked : goal.returns-in-Some-clause-linked
returns-in-Some-clause-linked c =
    subst (λ before. IsRelinked (old c) c.args.first.now before c.args.next c.set_tag.new.self.slots c.args.first.now) (sym c.in-Some.is)
    (subst (λ (ws : List (Option ℤ)). IsRelinked (old c) c.args.first.now (Some (place c)) c.args.next ws c.args.first.now) (sym (slots c)) (relinked c))
