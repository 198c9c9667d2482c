-- The two words are those of the hole that stands there.
use Rattle.std.proofs.Common.{◌≡◌, ℕ, ◌/◌, [], ◌∷◌, sym, subst, ap, ◌∙◌, arith, Option, rules, w16, SFits, get_or}
use Rattle.std.proofs.lemmas.Int.{to_z-of_z}
use Rattle.std.specs.Prelude.{pos}
use Rattle.space_raw.specs.Slots.{IsRun, run_of}
use Rattle.space_heap.specs.declared.hole.Hole.{Hole}
use Rattle.space_heap.specs.Holes.{link, IsHole, IsWritten}
use Rattle.space_heap.proofs.Words.{tag_run, tag_words}
use Rattle.space_heap.proofs.hole.Hole.read.Goals as goal

pub tag-len-requires : goal.tag-len-requires
tag-len-requires c =
    let known = c.requires.written in let h = known.0 in record {
      there = subst (λ p. IsRun c.args.rest.now.slots p 2) known.1 (tag_run c.args.rest.now.slots h.place (pos (h.len / 4)) (link h.next) known.3.len known.3.next);
    }

same_hole : (place len : ℕ) (next : Option ℕ) (h : Hole) → place ≡ h.place → len ≡ h.len → next ≡ h.next → Path Hole (record { place = place; len = len; next = next }) h
same_hole place len next h e f g i = record { place = e i; len = f i; next = g i }

-- the two words that are read
module _ (c : goal.After-place_of) (h : Hole) (at : h.place ≡ c.args.place) (is : IsHole h) (written : IsWritten c.args.rest.now.slots h) where
  words : c.tag-len.result.0 ∷ c.tag-len.result.1 ∷ [] ≡ pos (h.len / 4) ∷ link h.next ∷ []
  words =
      sym c.tag-len.ensures.words ∙ ap (λ p. run_of c.args.rest.now.slots p 2) (sym at)
      ∙ tag_words c.args.rest.now.slots h.place (pos (h.len / 4)) (link h.next) written.len written.next

  first : c.tag-len.result.0 ≡ pos (h.len / 4)
  first = ap (λ ws. get_or ws 0 (pos 0)) words

  second : c.tag-len.result.1 ≡ link h.next
  second = ap (λ ws. get_or ws 1 (pos 0)) words

  fits_first : SFits w16 c.tag-len.result.0
  fits_first = search rules

  fits_second : SFits w16 c.tag-len.result.1
  fits_second = search rules

  len : c.words_of.result ≡ h.len
  len = let unit = is.block.size in let told = c.words_of.ensures (h.len / 4) (to_z-of_z w16 c.tag-len.result.0 fits_first ∙ first) in omega arith

  next : c.place_of.result ≡ h.next
  next = c.place_of.ensures h.next is.next (to_z-of_z w16 c.tag-len.result.1 fits_second ∙ second)

pub returns : goal.returns
returns c = record { hole = λ h at is written. same_hole c.args.place c.words_of.result c.place_of.result h (sym at) (len c h at is written) (next c h at is written) }
