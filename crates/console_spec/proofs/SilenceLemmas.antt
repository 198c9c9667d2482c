-- A run that isn't answered, or is answered otherwise, has no sounds.
use Rattle.std.proofs.Common.{◌≡◌, ℕ, ℤ, Bool, List, [], ◌∷◌, ◌++◌, length, Option, Some, Ok, refl, ap, sym, ◌∙◌, subst}
use Rattle.std.specs.Prelude.{codes}
use Rattle.std.proofs.lemmas.Bool.{leb-true}
use Rattle.ialg.specs.declared.refusal.Refusal.TheVariants.{Missing, Range}
use Rattle.ialg.specs.Meaning.{Meaning}
use Rattle.voice_script.specs.declared.limits.TheConstants.{LINE_OCTETS}
use Rattle.voice_script.specs.Script as script
use Rattle.voice_script.specs.Replies.{No}
use Rattle.voice_script.specs.Served.{AskedAnswer, Replied, Written}
use Rattle.voice_script.specs.Widths.{Widths}
use Rattle.console_spec.specs.Sounds.{Sounds, LineMay, Sounding, silence, sound_machine}

module _ {M : Type 0} (kinds : Meaning M) (named : List ℕ → Option M) (widths : Widths) (poison : Option ℤ) (rest : List (List ℕ)) (honest : ℕ → Bool) where
  -- what is written for a channel that isn't chained
  pub unchain_told : (written : List Written) → Sounds kinds named widths poison (codes "unchain 0" ∷ []) ([] ∷ []) rest honest written
      → written ≡ Replied (No Missing) ∷ []
  unchain_told written h =
      let all = h.may in
      let line = all.1.fits (leb-true (length (codes "unchain 0")) LINE_OCTETS refl) in
      let begin : Sounding M = (silence ([] ∷ [])).state in
      let may : LineMay kinds poison widths (Ok (Some (script.Unchain 0))) begin (line.0, line.1) = line.2 in
      let answer = subst (λ a. AskedAnswer (sound_machine kinds poison named widths) honest (record (silence ([] ∷ [])) { state = line.1 }) a all.0) (ap (λ n. n.0) may) line.3 in
      sym h.writes ∙ ap (λ a. a.written) all.4 ∙ ap (λ a. a.written ++ all.2.written) answer ∙ ap (λ a. Replied (No Missing) ∷ a.written) all.3

  pub no_silence : Sounds kinds named widths poison (codes "unchain 0" ∷ []) ([] ∷ []) rest honest [] → ⊥
  no_silence h = none (unchain_told [] h)
    where
      none : ◌≡◌ {A = List Written} [] (Replied (No Missing) ∷ []) → ⊥
      none e = cc

  pub no_other : Sounds kinds named widths poison (codes "unchain 0" ∷ []) ([] ∷ []) rest honest (Replied (No Range) ∷ []) → ⊥
  no_other h = other (unchain_told (Replied (No Range) ∷ []) h)
    where
      other : ◌≡◌ {A = List Written} (Replied (No Range) ∷ []) (Replied (No Missing) ∷ []) → ⊥
      other e = cc
