-- Runs of loose words are taken out, put back and seen. Assumes `Logic`.
use Rattle.std.proofs.Common.{◌≡◌, ℕ, zero, suc, ◌+◌, ◌*◌, ◌≤◌, List, [], ◌∷◌, ◌++◌, map, length, take, drop, replicate, take-append-drop, length-take, length-drop, refl, sym, ap, ◌∙◌, arith, subst}
use Rattle.std.proofs.lemmas.List.{length-map, length-replicate, drop-drop}
use Rattle.std.specs.Prelude.{ℤ, Option, Some, None}
use seplogic.Ra.Ura.{Ura}
use base.Fraction.{full_share}
use base.Logic.{SProp, ent, sep, emp, via, snd∗, id⊢, mono_r}
use base.Fml.{Lft, Fml, ftrue, fsep}
use types.Logic.{Logic, sem}
use types.Kit.{‵, ◌⊛◌, ◌$◌, ◌∵◌, !, qed, by, move, keep, drop as skip, use0, use1, use2, split, fsplit, fjoin, rewrite, done}
use denote.Builtin.{i16}
use denote.Memory.{part_at}
use denote.RawPtr.{block_ptr}
use denote.Slice.{elements_shared}
use denote.Steps.{nothing}
use Rattle.space_raw.specs.Ownership.{words_own}
use Rattle.space_raw.specs.Loose.{slots, slot_lent, slots_lent, loose_owns}
use Rattle.space_raw.proofs.Rows.{Row, Whole, apart, whole}

module _ {M : Type 1} {𝓤 : Ura M} (𝓛 : Logic 𝓤) (b : ℕ) where
  abbrev ◌⊢◌ : SProp 𝓤 → SProp 𝓤 → Type 1
  P ⊢ Q = ent 𝓤 P Q

  abbrev ◌∗◌ : SProp 𝓤 → SProp 𝓤 → SProp 𝓤
  P ∗ Q = sep 𝓤 P Q

  abbrev ⟦◌⟧ : Fml → SProp 𝓤
  ⟦ P ⟧ = sem 𝓛 P

  infix 26 ◌⊢◌
  infixr 35 ◌∗◌
  abbrev Slots : Type 0
  Slots = List (Option ℤ)

  cut : (xs ys : Slots) (o at : ℕ) → at ≡ o + length xs * 2 → ⟦ slots b o (xs ++ ys) ⟧ ⊢ ⟦ slots b o xs ⟧ ∗ ⟦ slots b at ys ⟧
  cut [] ys o at e = qed 𝓛 (‵ (slots b o ys) ∷ []) ∵ rewrite ! 0 (λ (k : ℕ). ‵ (slots b k ys)) {x = at} (omega arith) refl $ nothing ! $ done !
  cut (x ∷ xs) ys o at e = let more : at ≡ o + suc (length xs) * 2 = e in qed 𝓛 (‵ (slots b o (x ∷ xs ++ ys)) ∷ []) ∵ fsplit ! $ move ! (1 ∷ []) $
      use1 𝓛 (‵ (slots b (o + 2) xs) ⊛ ‵ (slots b at ys)) (cut xs ys (o + 2) at (omega arith)) $ split ! $ move ! (2 ∷ 0 ∷ []) $ fjoin ! $ done !

  glue : (xs ys : Slots) (o at : ℕ) → at ≡ o + length xs * 2 → ⟦ slots b o xs ⟧ ∗ ⟦ slots b at ys ⟧ ⊢ ⟦ slots b o (xs ++ ys) ⟧
  glue [] ys o at e = qed 𝓛 (‵ ftrue ∷ ‵ (slots b at ys) ∷ []) ∵ skip ! $ rewrite ! 0 (λ (k : ℕ). ‵ (slots b k ys)) {x = o} (omega arith) refl $ done !
  glue (x ∷ xs) ys o at e = let more : at ≡ o + suc (length xs) * 2 = e in qed 𝓛 (‵ (slots b o (x ∷ xs)) ∷ ‵ (slots b at ys) ∷ []) ∵ fsplit ! $ move ! (1 ∷ 2 ∷ []) $
      use2 𝓛 (‵ (slots b (o + 2) (xs ++ ys))) (glue xs ys (o + 2) at (omega arith)) $ move ! (1 ∷ 0 ∷ []) $ fjoin ! $ done !

  pub to_row : (ws : List ℤ) (o : ℕ) → ⟦ slots b o (map Some ws) ⟧ ⊢ ⟦ Row 𝓛 ws b o ⟧
  to_row [] o = id⊢ 𝓤 (emp 𝓤)
  to_row (w ∷ ws) o = mono_r 𝓤 ⟦ part_at i16 full_share w b o ⟧ (to_row ws (o + 2))

  pub of_row : (ws : List ℤ) (o : ℕ) → ⟦ Row 𝓛 ws b o ⟧ ⊢ ⟦ slots b o (map Some ws) ⟧
  of_row [] o = id⊢ 𝓤 (emp 𝓤)
  of_row (w ∷ ws) o = mono_r 𝓤 ⟦ part_at i16 full_share w b o ⟧ (of_row ws (o + 2))

  -- words that are away own nothing
  away : (n o : ℕ) → emp 𝓤 ⊢ ⟦ slots b o (replicate n None) ⟧
  away zero o = id⊢ 𝓤 (emp 𝓤)
  away (suc n) o = qed 𝓛 [] {P = ⟦ slots b o (replicate (suc n) None) ⟧} (use0 𝓛 (‵ (slots b (o + 2) (replicate n None))) (away n (o + 2)) $ nothing ! $ fjoin ! $ done !)

  -- words from the first on are loose, and those behind them are away
  pub all_loose : (o : ℕ) (ws : List ℤ) (n : ℕ) → ⟦ words_own (block_ptr b o) 0 ws ⟧ ⊢ ⟦ loose_owns (block_ptr b o) (map Some ws ++ replicate n None) ⟧
  all_loose o ws n =
      let start : o + 0 ≡ o = omega arith in let at = o + length ws * 2 in let far : at ≡ o + length (map Some ws) * 2 = omega (arith, length-map ws Some) in
      qed 𝓛 (‵ (Whole 𝓛 ws b (o + 0)) ∷ []) ∵ rewrite ! 0 (λ (k : ℕ). ‵ (Whole 𝓛 ws b k)) start refl $ use1 𝓛 (‵ (Row 𝓛 ws b o)) (apart 𝓛 ws b o) $ use1 𝓛 (‵ (slots b o (map Some ws))) (of_row ws o) $
      use0 𝓛 (‵ (slots b at (replicate n None))) (away n at) $ move ! (1 ∷ 0 ∷ []) $ by ! (glue (map Some ws) (replicate n None) o at far)

  module _ (o : ℕ) (cs : Slots) (place n : ℕ) (le : place + n ≤ length cs) where
    abbrev at : ℕ
    at = o + place * 2

    abbrev end : ℕ
    end = o + (place + n) * 2

    -- the words but for the n from the place on
    abbrev pub Around : Fml
    Around = fsep (slots b o (take place cs)) (slots b end (drop (place + n) cs))

    front : at ≡ o + length (take place cs) * 2
    front = let long : length (take place cs) ≡ place = omega (arith, length-take place cs) in omega arith

    back : (xs : Slots) → length xs ≡ n → end ≡ at + length xs * 2
    back xs e = omega arith

    pub run_out : ⟦ slots b o cs ⟧ ⊢ ⟦ slots b at (take n (drop place cs)) ⟧ ∗ ⟦ Around ⟧
    run_out =
        let run = take n (drop place cs) in let long : length run ≡ n = omega (arith, length-take n (drop place cs), length-drop place cs) in
        qed 𝓛 (‵ (slots b o cs) ∷ []) ∵
        rewrite ! 0 (λ (l : Slots). ‵ (slots b o l)) (sym (take-append-drop place cs) ∙ ap (λ (l : Slots). take place cs ++ l) (sym (take-append-drop n (drop place cs)) ∙ ap (λ (l : Slots). run ++ l) (drop-drop n place cs))) refl $
        use1 𝓛 (‵ (slots b o (take place cs)) ⊛ ‵ (slots b at (run ++ drop (place + n) cs))) (cut (take place cs) (run ++ drop (place + n) cs) o at front) $ split ! $ move ! (1 ∷ []) $
        use1 𝓛 (‵ (slots b at run) ⊛ ‵ (slots b end (drop (place + n) cs))) (cut run (drop (place + n) cs) at end (back run long)) $ split ! $
        move ! (2 ∷ 1 ∷ []) $ fjoin ! $ move ! (1 ∷ []) $ done !

    pub run_in : (xs : Slots) → length xs ≡ n → ⟦ slots b at xs ⟧ ∗ ⟦ Around ⟧ ⊢ ⟦ slots b o (take place cs ++ (xs ++ drop (place + n) cs)) ⟧
    run_in xs long = qed 𝓛 (‵ (slots b at xs) ∷ ‵ Around ∷ []) ∵ move ! (1 ∷ []) $ fsplit ! $ move ! (2 ∷ 1 ∷ []) $
        use2 𝓛 (‵ (slots b at (xs ++ drop (place + n) cs))) (glue xs (drop (place + n) cs) at end (back xs long)) $ move ! (1 ∷ 0 ∷ []) $
        by ! (glue (take place cs) (xs ++ drop (place + n) cs) o at front)

    -- a run of words leaves, and its slots are empty
    pub leaves_run : (ws : List ℤ) → take n (drop place cs) ≡ map Some ws → ⟦ loose_owns (block_ptr b o) cs ⟧ ⊢ ⟦ words_own (block_ptr b o) place ws ⟧ ∗ ⟦ loose_owns (block_ptr b o) (take place cs ++ (replicate n None ++ drop (place + n) cs)) ⟧
    leaves_run ws e =
        qed 𝓛 (‵ (slots b o cs) ∷ []) ∵ use1 𝓛 (‵ (slots b at (take n (drop place cs))) ⊛ ‵ Around) run_out $ split ! $
        rewrite ! 0 (λ (l : Slots). ‵ (slots b at l)) e refl $ use1 𝓛 (‵ (Row 𝓛 ws b at)) (to_row ws at) $ use1 𝓛 (‵ (Whole 𝓛 ws b at)) (whole 𝓛 ws b at) $ move ! (1 ∷ []) $
        use0 𝓛 (‵ (slots b at (replicate n None))) (away n at) $ use2 𝓛 (‵ (slots b o (take place cs ++ (replicate n None ++ drop (place + n) cs)))) (run_in (replicate n None) (length-replicate n None)) $
        move ! (1 ∷ 0 ∷ []) $ done !

    -- a run of words comes back. What stood in its slots is let go
    pub enters_run : (ws : List ℤ) → length ws ≡ n → ⟦ words_own (block_ptr b o) place ws ⟧ ∗ ⟦ loose_owns (block_ptr b o) cs ⟧ ⊢ ⟦ loose_owns (block_ptr b o) (take place cs ++ (map Some ws ++ drop (place + n) cs)) ⟧
    enters_run ws long =
        qed 𝓛 (‵ (Whole 𝓛 ws b at) ∷ ‵ (slots b o cs) ∷ []) ∵ use1 𝓛 (‵ (Row 𝓛 ws b at)) (apart 𝓛 ws b at) $ use1 𝓛 (‵ (slots b at (map Some ws))) (of_row ws at) $ move ! (1 ∷ []) $
        use1 𝓛 (‵ (slots b at (take n (drop place cs))) ⊛ ‵ Around) run_out $ split ! $ skip ! $ move ! (1 ∷ 0 ∷ []) $
        by ! (run_in (map Some ws) (length-map ws Some ∙ long))

  module _ (κ : Lft) where
    abbrev Seen : ℕ → Slots → Fml
    Seen o cs = slots_lent b o cs κ

    from_on : (cs : Slots) (i o at : ℕ) → i ≤ length cs → at ≡ o + i * 2 → ⟦ Seen o cs ⟧ ⊢ ⟦ Seen at (drop i cs) ⟧
    from_on cs zero o at le e = let same : o ≡ at = omega arith in subst (λ (k : ℕ). ⟦ Seen o cs ⟧ ⊢ ⟦ Seen k cs ⟧) same (id⊢ 𝓤 _)
    from_on [] (suc i) o at le e = absurd (omega arith)
    from_on (c ∷ cs) (suc i) o at le e =
        let l : suc i ≤ suc (length cs) = le in let more : at ≡ o + suc i * 2 = e in
        via 𝓤 ⟦ Seen (o + 2) cs ⟧ (snd∗ 𝓤 ⟦ slot_lent b o c κ ⟧ ⟦ Seen (o + 2) cs ⟧) (from_on cs i (o + 2) at (omega arith) (omega arith))

    up_to : (ws : List ℤ) (others : Slots) (o : ℕ) → ⟦ Seen o (map Some ws ++ others) ⟧ ⊢ ⟦ elements_shared i16 ws b o κ ⟧
    up_to [] others o = qed 𝓛 (‵ (Seen o others) ∷ []) ∵ keep ! [] $ done !
    up_to (w ∷ ws) others o = mono_r 𝓤 ⟦ slot_lent b o (Some w) κ ⟧ (up_to ws others (o + 2))

    pub run_seen : (o : ℕ) (cs : Slots) (i n : ℕ) (ws : List ℤ) → i ≤ length cs → take n (drop i cs) ≡ map Some ws → ⟦ Seen o cs ⟧ ⊢ ⟦ elements_shared i16 ws b (i * 2 + o) κ ⟧
    run_seen o cs i n ws le e = let at = i * 2 + o in qed 𝓛 (‵ (Seen o cs) ∷ []) ∵ use1 𝓛 (‵ (Seen at (drop i cs))) (from_on cs i o at le (omega arith)) $
        rewrite ! 0 (λ (l : Slots). ‵ (Seen at l)) (sym (take-append-drop n (drop i cs)) ∙ ap (λ (l : Slots). l ++ drop n (drop i cs)) e) refl $ by ! (up_to ws (drop n (drop i cs)) at)
