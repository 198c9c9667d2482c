-- The tokens of places are handed out, parted, united, and told apart. Assumes `Logic`.
use Rattle.std.proofs.Common.{◌≡◌, ℕ, zero, suc, ◌+◌, List, [], ◌∷◌, replicate, refl, arith}
use Rattle.std.specs.Prelude.{Bool, true, false, ⊤}
use seplogic.Ra.Ura.{Ura}
use base.Logic.{SProp, ent, sep, emp, never, never_e, via, snd∗, id⊢}
use base.Fml.{Fml, ftrue}
use contract.Monad.{fact, fact_i}
use types.Logic.{Logic, sem}
use types.Keyed.{ticket, ticket_once, tickets_from, token, entries_take}
use types.Kit.{⋆, ‵, ◌⊛◌, ◌$◌, ◌∵◌, !, qed, by, move, keep, drop as skip, use0, use1, use2, split, fsplit, fjoin, rewrite, done}
use denote.Steps.{nothing}
use Rattle.space_raw.specs.Marks.{marked_own, within, outside, union, Disjoint}

module _ {M : Type 1} {𝓤 : Ura M} (𝓛 : Logic 𝓤) (name : ℕ) where
  abbrev ◌⊢◌ : SProp 𝓤 → SProp 𝓤 → Type 1
  P ⊢ Q = ent 𝓤 P Q

  abbrev ◌∗◌ : SProp 𝓤 → SProp 𝓤 → SProp 𝓤
  P ∗ Q = sep 𝓤 P Q

  abbrev ⟦◌⟧ : Fml → SProp 𝓤
  ⟦ P ⟧ = sem 𝓛 P

  infix 26 ◌⊢◌
  infixr 35 ◌∗◌
  abbrev Own : ℕ → List Bool → Fml
  Own k ms = marked_own name k ms

  -- the first n of the tokens that are left
  pub handed : (n k : ℕ) → ⟦ tickets_from name k ⟧ ⊢ ⟦ Own k (replicate n true) ⟧
  handed zero k = qed 𝓛 (‵ (tickets_from name k) ∷ []) ∵ keep ! [] $ done !
  handed (suc n) k = let next : suc k ≡ k + 1 = omega arith in
      qed 𝓛 (‵ (tickets_from name k) ∷ []) ∵ use1 𝓛 (‵ (ticket name k) ⊛ ‵ (tickets_from name (suc k))) (entries_take token 𝓛 name k (λ _. tt)) $ split ! $ move ! (1 ∷ []) $
      rewrite ! 0 (λ (j : ℕ). ‵ (tickets_from name j)) next refl $ use1 𝓛 (‵ (Own (k + 1) (replicate n true))) (handed n (k + 1)) $ move ! (1 ∷ 0 ∷ []) $ fjoin ! $ done !

  -- a token in front of both sides of a parting
  in_front : (k : ℕ) (all here there : Fml) → ⟦ all ⟧ ⊢ ⟦ here ⟧ ∗ ⟦ there ⟧ → ⟦ ticket name k ⟧ ∗ ⟦ all ⟧ ⊢ (⟦ ticket name k ⟧ ∗ ⟦ here ⟧) ∗ ⟦ there ⟧
  in_front k all here there h = qed 𝓛 (‵ (ticket name k) ∷ ‵ all ∷ []) ∵ move ! (1 ∷ []) $ use1 𝓛 (‵ here ⊛ ‵ there) h $ split ! $ move ! (2 ∷ 0 ∷ []) $ fjoin ! $ done !

  behind : (k : ℕ) (all here there : Fml) → ⟦ all ⟧ ⊢ ⟦ here ⟧ ∗ ⟦ there ⟧ → ⟦ ticket name k ⟧ ∗ ⟦ all ⟧ ⊢ ⟦ here ⟧ ∗ (⟦ ticket name k ⟧ ∗ ⟦ there ⟧)
  behind k all here there h = qed 𝓛 (‵ (ticket name k) ∷ ‵ all ∷ []) ∵ move ! (1 ∷ []) $ use1 𝓛 (‵ here ⊛ ‵ there) h $ split ! $ move ! (2 ∷ 1 ∷ []) $ fjoin ! $ move ! (1 ∷ 0 ∷ []) $ done !

  -- no place is within a range of none
  empty : (ms : List Bool) (k : ℕ) → emp 𝓤 ⊢ ⟦ Own k (within zero zero ms) ⟧
  empty [] k = id⊢ 𝓤 (emp 𝓤)
  empty (m ∷ ms) k = empty ms (k + 1)

  none_within : (ms : List Bool) (k : ℕ) → ⟦ Own k ms ⟧ ⊢ ⟦ Own k (within zero zero ms) ⟧ ∗ ⟦ Own k ms ⟧
  none_within ms k = qed 𝓛 (‵ (Own k ms) ∷ []) ∵ use0 𝓛 (‵ (Own k (within zero zero ms))) (empty ms k) $ done !

  pub parted : (ms : List Bool) (p n k : ℕ) → ⟦ Own k ms ⟧ ⊢ ⟦ Own k (within p n ms) ⟧ ∗ ⟦ Own k (outside p n ms) ⟧
  parted [] p n k = qed 𝓛 (‵ ftrue ∷ []) ∵ nothing ! $ done !
  parted (false ∷ ms) (suc p) n k = parted ms p n (k + 1)
  parted (false ∷ ms) zero (suc n) k = parted ms zero n (k + 1)
  parted (false ∷ ms) zero zero k = none_within (false ∷ ms) k
  parted (true ∷ ms) (suc p) n k = behind k (Own (k + 1) ms) (Own (k + 1) (within p n ms)) (Own (k + 1) (outside p n ms)) (parted ms p n (k + 1))
  parted (true ∷ ms) zero (suc n) k = in_front k (Own (k + 1) ms) (Own (k + 1) (within zero n ms)) (Own (k + 1) (outside zero n ms)) (parted ms zero n (k + 1))
  parted (true ∷ ms) zero zero k = none_within (true ∷ ms) k

  pub united : (ms ns : List Bool) (k : ℕ) → ⟦ Own k ms ⟧ ∗ ⟦ Own k ns ⟧ ⊢ ⟦ Own k (union ms ns) ⟧
  united [] ns k = snd∗ 𝓤 ⟦ ftrue ⟧ ⟦ Own k ns ⟧
  united (true ∷ ms) [] k = qed 𝓛 (‵ (Own k (true ∷ ms)) ∷ ‵ ftrue ∷ []) ∵ move ! (1 ∷ []) $ skip ! $ done !
  united (false ∷ ms) [] k = qed 𝓛 (‵ (Own (k + 1) ms) ∷ ‵ ftrue ∷ []) ∵ move ! (1 ∷ []) $ skip ! $ done !
  united (true ∷ ms) (true ∷ ns) k = qed 𝓛 (‵ (Own k (true ∷ ms)) ∷ ‵ (Own k (true ∷ ns)) ∷ []) ∵ move ! (1 ∷ []) $ fsplit ! $ skip ! $ move ! (1 ∷ []) $ fsplit ! $ move ! (1 ∷ 2 ∷ []) $
      use2 𝓛 (‵ (Own (k + 1) (union ms ns))) (united ms ns (k + 1)) $ move ! (1 ∷ 0 ∷ []) $ fjoin ! $ done !
  united (true ∷ ms) (false ∷ ns) k = qed 𝓛 (‵ (Own k (true ∷ ms)) ∷ ‵ (Own (k + 1) ns) ∷ []) ∵ fsplit ! $ move ! (1 ∷ 2 ∷ []) $
      use2 𝓛 (‵ (Own (k + 1) (union ms ns))) (united ms ns (k + 1)) $ move ! (1 ∷ 0 ∷ []) $ fjoin ! $ done !
  united (false ∷ ms) (true ∷ ns) k = qed 𝓛 (‵ (Own (k + 1) ms) ∷ ‵ (Own k (true ∷ ns)) ∷ []) ∵ move ! (1 ∷ []) $ fsplit ! $ move ! (2 ∷ 1 ∷ []) $
      use2 𝓛 (‵ (Own (k + 1) (union ms ns))) (united ms ns (k + 1)) $ move ! (1 ∷ 0 ∷ []) $ fjoin ! $ done !
  united (false ∷ ms) (false ∷ ns) k = united ms ns (k + 1)

  -- a place that both had would have two tokens
  pub told_apart : (ms ns : List Bool) (k : ℕ) → ⟦ Own k ms ⟧ ∗ ⟦ Own k ns ⟧ ⊢ fact 𝓤 (Disjoint ms ns)
  told_apart [] ns k = fact_i 𝓤 ⊤ _ tt
  told_apart (true ∷ ms) [] k = fact_i 𝓤 ⊤ _ tt
  told_apart (false ∷ ms) [] k = fact_i 𝓤 ⊤ _ tt
  told_apart (true ∷ ms) (true ∷ ns) k = via 𝓤 (never 𝓤) (qed 𝓛 (‵ (Own k (true ∷ ms)) ∷ ‵ (Own k (true ∷ ns)) ∷ []) ∵ fsplit ! $ move ! (2 ∷ []) $ fsplit ! $ keep ! (0 ∷ 2 ∷ []) $ by ! (ticket_once 𝓛 name k)) (never_e 𝓤 _)
  told_apart (true ∷ ms) (false ∷ ns) k = via 𝓤 (⟦ Own (k + 1) ms ⟧ ∗ ⟦ Own (k + 1) ns ⟧) (qed 𝓛 (‵ (Own k (true ∷ ms)) ∷ ‵ (Own (k + 1) ns) ∷ []) ∵ fsplit ! $ skip ! $ done !) (told_apart ms ns (k + 1))
  told_apart (false ∷ ms) (true ∷ ns) k = via 𝓤 (⟦ Own (k + 1) ms ⟧ ∗ ⟦ Own (k + 1) ns ⟧) (qed 𝓛 (‵ (Own (k + 1) ms) ∷ ‵ (Own k (true ∷ ns)) ∷ []) ∵ move ! (1 ∷ []) $ fsplit ! $ skip ! $ move ! (1 ∷ 0 ∷ []) $ done !) (told_apart ms ns (k + 1))
  told_apart (false ∷ ms) (false ∷ ns) k = told_apart ms ns (k + 1)

  -- the same of two entries of a walk
  pub tells_two : (ms ns : List Bool) → ent 𝓤 (⋆ 𝓛 (‵ (Own 0 ms) ∷ ‵ (Own 0 ns) ∷ [])) (fact 𝓤 (Disjoint ms ns))
  tells_two ms ns = via 𝓤 _ (qed 𝓛 (‵ (Own 0 ms) ∷ ‵ (Own 0 ns) ∷ []) {P = ⟦ Own 0 ms ⟧ ∗ ⟦ Own 0 ns ⟧} (done !)) (told_apart ms ns 0)
