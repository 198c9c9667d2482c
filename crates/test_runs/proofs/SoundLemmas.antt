-- The worked rows of a console without memory.
use Rattle.std.proofs.Common.{◌≡◌, ℕ, ℤ, pos, List, [], ◌∷◌, ◌++◌, Option, Some, None, refl, ap, sym, ◌∙◌, subst}
use Rattle.std.specs.Prelude.{drop}
use Rattle.std.proofs.lemmas.Bool.{leb-true}
use Rattle.ialg.specs.History.{Sample, with_samples}
use Rattle.voice_set.specs.declared.voice.Voice.{Voice}
use Rattle.voice_set.specs.Voices.{voice_meaning}
use Rattle.console_spec.specs.Sounds.{MayGive, Passes, Playing, Sounding, with_instance}
use Rattle.test_runs.specs.Sounds.{SoundRows, both_given, halving, two_live}

same_some : (x y : Playing Voice) → Some x ≡ Some y → x ≡ y
same_some x y e = cc

-- what the second member gives for what the first one gave
second_gives : (x : Playing Voice) (out : List ℤ) → x ≡ halving [] → MayGive voice_meaning None x (pos 4 ∷ []) out → out ≡ pos 2 ∷ []
second_gives x out e may = sym ((subst (λ y. MayGive voice_meaning None y (pos 4 ∷ []) out) e may).0 refl)

first_gives : (x : Playing Voice) (out : List ℤ) → x ≡ halving (Sample (pos 3) ∷ []) → MayGive voice_meaning None x (pos 8 ∷ []) out → out ≡ pos 4 ∷ []
first_gives x out e may = sym (ap (drop 1) ((subst (λ y. MayGive voice_meaning None y (pos 8 ∷ []) out) e may).0 refl))

pub rows : SoundRows
rows = record {
  creates = refl;
  lacks = refl;
  taken = refl;
  params = refl;
  range = refl;
  chains = refl;
  missing = refl;
  busy = refl;
  twice = refl;
  full = refl;
  beyond = refl;
  unchained = refl;
  member = refl;
  deletes = refl;
  hears = λ c status. refl;
  refuses = λ c status. refl;
  passes = (
    halving (Sample (pos 3) ∷ []),
    pos 4 ∷ [],
    refl,
    (λ lawful. refl, leb-true 1 1 refl),
    (halving [], pos 2 ∷ [], refl, (λ lawful. refl, leb-true 1 1 refl), (refl, refl)),
  );
  one = λ out after p.
      let given = first_gives p.0 p.1 (same_some p.0 (halving (Sample (pos 3) ∷ [])) (sym p.2)) p.3 in
      let next : Sounding Voice = with_instance two_live 2 (Some (record p.0 { history = with_samples p.0.history (pos 8 ∷ []) })) in
      let q = subst (λ g. Passes voice_meaning None (0 ∷ []) next g out after) given p.4 in
      q.4.0 ∙ second_gives q.0 q.1 (same_some q.0 (halving []) (sym q.2)) q.3;
}
