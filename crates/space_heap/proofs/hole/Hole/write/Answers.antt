-- Two words are written, and they are the hole's.
use Rattle.std.proofs.Common.{◌≡◌, [], ◌∷◌, List, sym, subst, ap, ◌∙◌, Option, rules, Some, w16, SFits, to_z, of_z}
use Rattle.std.proofs.lemmas.Int.{to_z-of_z}
use Rattle.std.specs.Prelude.{ℤ}
use Rattle.space_raw.specs.Slots.{with_run}
use Rattle.space_heap.specs.Holes.{IsWritten, Rewrites}
use Rattle.space_heap.proofs.Words.{tag_first, tag_second, tag_rewrites}
use Rattle.space_heap.proofs.hole.Hole.write.Goals as goal

module _ (c : goal.After-set_tag) where
  abbrev old : List (Option ℤ)
  old = c.args.rest.now.slots

  abbrev tagged : List (Option ℤ)
  tagged = with_run old c.args.self.place (c.word_of.result ∷ c.link_of.result ∷ [])

  fits_len : SFits w16 c.word_of.result
  fits_len = search rules

  fits_next : SFits w16 c.link_of.result
  fits_next = search rules

  slots : c.set_tag.new.self.slots ≡ tagged
  slots = c.set_tag.ensures.words
      ∙ ap (λ a. with_run old c.args.self.place (a ∷ to_z w16 (of_z w16 c.link_of.result) ∷ [])) (to_z-of_z w16 c.word_of.result fits_len)
      ∙ ap (λ b. with_run old c.args.self.place (c.word_of.result ∷ b ∷ [])) (to_z-of_z w16 c.link_of.result fits_next)

pub returns-clause-written : goal.returns-clause-written
returns-clause-written c =
    let place = c.args.self.place in let a = c.word_of.result in let b = c.link_of.result in
    subst (λ (ws : List (Option ℤ)). IsWritten ws c.args.self) (sym (slots c)) (record {
      len = tag_first (old c) place a b c.requires.there ∙ ap (λ (w : ℤ). Some w) c.word_of.ensures;
      next = tag_second (old c) place a b c.requires.there ∙ ap (λ (w : ℤ). Some w) c.link_of.ensures;
    })

pub returns-clause-others : goal.returns-clause-others
returns-clause-others c =
    subst (λ (ws : List (Option ℤ)). Rewrites (old c) c.args.self.place 2 ws) (sym (slots c))
    (tag_rewrites (old c) c.args.self.place c.word_of.result c.link_of.result c.requires.there)
