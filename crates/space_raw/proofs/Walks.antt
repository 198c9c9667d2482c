-- Structs of no bytes, and pairs, in walks. Assumes `Logic`.
use Rattle.std.proofs.Common.{◌≡◌, ℕ, zero, suc, List, [], ◌∷◌, ◌++◌, refl, ◌∙◌, take, drop as drop_l, take-append-drop, subst}
use types.Kit.{⋆, ⊢++}
use contract.Monad.{fact_use}
use base.Logic.{fst∗}
use seplogic.Ra.Ura.{Ura}
use mir.Val.{Val, vstruct, vcons, vnil, of_list}
use types.Logic.{Logic, sem}
use base.Logic.{SProp, ent, sep, emp, via}
use base.Fml.{Fml, fsep}
use contract.Monad.{fact, fact_i}
use mir.Syntax.{Body}
use prog.Wp.{Env, Calls, Loops, Wp, after_seq, after_block}
use types.Kit.{Post, any_q, post, Goal, Seq, Step, step, Item, ‵, raw, prop, ◌$◌, !, qed, done, frame, use0, move, rewrite, fjoin, fpack, feq_i}
use denote.RattleType.{RattleType, Valss}
use denote.Builtin.{unit}
use denote.RawPtr.{Ptr, RawPtr, ptr_val}
use denote.Shadow.{shadow, makes_shadow}
use denote.Signature.{Slot, plain}
use denote.Steps.{nothing}
use denote.Struct.Struct.{Struct, within}

-- a struct by its fields alone: what it owns does not read its name
abbrev pub plainly : List RattleType → RattleType
plainly Rs = Struct (record { name = []; args = []; types = []; fields = Rs })

abbrev pub slot_at : {n : ℕ} → ℕ → List (Slot n) → Slot n
slot_at k [] = plain (λ _. unit)
slot_at zero (s ∷ ss) = s
slot_at (suc k) (s ∷ ss) = slot_at k ss

-- the machine value of a struct of one pointer
abbrev pub word : Ptr → Val
word p = vstruct (vcons (ptr_val p) vnil)

pub word_told : (p : Ptr) (vs : List Val) → shadow ((plainly (RawPtr ∷ [])).own_val (p, tt) vs) → vs ≡ word p ∷ []
word_told p vs s = s.1.0 ∙ (λ i. vstruct (of_list (s.1.1.0 i ++ [])) ∷ [])

abbrev pub none : Val
none = vstruct vnil

pub none_told : (vs : List Val) → shadow ((plainly []).own_val tt vs) → vs ≡ none ∷ []
none_told vs s = s.1.0

abbrev pub two : Val → Val → Val
two u v = vstruct (vcons u (vcons v vnil))

pub word_made : {M : Type 1} {𝓤 : Ura M} (𝓛 : Logic 𝓤) (p : Ptr) → ent 𝓤 (emp 𝓤) (sem 𝓛 ((plainly (RawPtr ∷ [])).own_val (p, tt) (word p ∷ [])))
word_made 𝓛 p = makes_shadow 𝓛 ((plainly (RawPtr ∷ [])).own_val (p, tt) (word p ∷ [])) (λ _. (tt, (tt, tt))) ((ptr_val p ∷ [], tt), (refl, (refl, tt)))

-- a struct whose one field is a marker
abbrev pub marked : Val
marked = vstruct (vcons none vnil)

abbrev pub marked_own : List Val → Fml
marked_own = (plainly (plainly [] ∷ [])).own_val (tt, tt)

pub marked_told : (vs : List Val) → shadow (marked_own vs) → vs ≡ marked ∷ []
marked_told vs s = s.1.0 ∙ (λ i. vstruct (of_list (s.1.1.0.1.0 i ++ [])) ∷ [])

pub marked_made : {M : Type 1} {𝓤 : Ura M} (𝓛 : Logic 𝓤) → ent 𝓤 (emp 𝓤) (sem 𝓛 (marked_own (marked ∷ [])))
marked_made 𝓛 = makes_shadow 𝓛 (marked_own (marked ∷ [])) (λ _. (tt, ((λ _. (tt, tt)), tt))) ((none ∷ [], tt), (refl, ((tt, (refl, tt)), tt)))

abbrev pub four : Val → Val → Val → Val → Val
four u v w x = vstruct (vcons u (vcons v (vcons w (vcons x vnil))))

module _ {M : Type 1} {𝓤 : Ura M} (𝓛 : Logic 𝓤) where
  open 𝓛 use {H}

  -- what runs after an arm, and after a block
  abbrev pub then_runs : Calls 𝓤 H → Loops 𝓤 H → Env 𝓤 H → Body → Post 𝓤 H → Post 𝓤 H
  then_runs C Λ E b q = any_q (after_seq 𝓤 H (Wp 𝓤 H C Λ E b (post 𝓤 H q)) (post 𝓤 H q))

  abbrev pub out_of_block : Post 𝓤 H → Post 𝓤 H
  out_of_block q = any_q (after_block 𝓤 H (post 𝓤 H q))

module _ {M : Type 1} {𝓤 : Ura M} {𝓛 : Logic 𝓤} {K : Type 0} {Γ : List (Item 𝓤)} {G : Goal 𝓤 𝓛.H} where
  pub none_made : K → Step K 𝓛 (‵ ((plainly []).own_val tt (none ∷ [])) ∷ Γ) G Γ G
  none_made t = step (λ s.
      nothing t $ feq_i t (List Val) (none ∷ []) (none ∷ []) refl $ fjoin t $
      fpack t (Valss []) (within (record { name = []; args = []; types = []; fields = [] }) tt (none ∷ [])) tt $ s)

  pub two_made : K → (R S : RattleType) (x : R.Denot) (y : S.Denot) (u v : Val)
      → Step K 𝓛 (‵ ((plainly (R ∷ S ∷ [])).own_val (x, (y, tt)) (two u v ∷ [])) ∷ Γ) G (‵ (R.own_val x (u ∷ [])) ∷ ‵ (S.own_val y (v ∷ [])) ∷ Γ) G
  two_made t R S x y u v = step (λ s.
      nothing t $ move t (2 ∷ 0 ∷ []) $ fjoin t $ move t (1 ∷ 0 ∷ []) $ fjoin t $ feq_i t (List Val) (two u v ∷ []) (two u v ∷ []) refl $ fjoin t $
      fpack t (Valss (R ∷ S ∷ [])) (within (record { name = []; args = []; types = []; fields = R ∷ S ∷ [] }) (x, (y, tt)) (two u v ∷ [])) (u ∷ [], (v ∷ [], tt)) $ s)

  pub four_made : K → (R S T U : RattleType) (x : R.Denot) (y : S.Denot) (p : T.Denot) (q : U.Denot) (u v w e : Val)
      → Step K 𝓛 (‵ ((plainly (R ∷ S ∷ T ∷ U ∷ [])).own_val (x, (y, (p, (q, tt)))) (four u v w e ∷ [])) ∷ Γ) G
      (‵ (R.own_val x (u ∷ [])) ∷ ‵ (S.own_val y (v ∷ [])) ∷ ‵ (T.own_val p (w ∷ [])) ∷ ‵ (U.own_val q (e ∷ [])) ∷ Γ) G
  four_made t R S T U x y p q u v w e = step (λ s.
      nothing t $ move t (4 ∷ 0 ∷ []) $ fjoin t $ move t (3 ∷ 0 ∷ []) $ fjoin t $ move t (2 ∷ 0 ∷ []) $ fjoin t $ move t (1 ∷ 0 ∷ []) $ fjoin t $
      feq_i t (List Val) (four u v w e ∷ []) (four u v w e ∷ []) refl $ fjoin t $
      fpack t (Valss (R ∷ S ∷ T ∷ U ∷ [])) (within (record { name = []; args = []; types = []; fields = R ∷ S ∷ T ∷ U ∷ [] }) (x, (y, (p, (q, tt)))) (four u v w e ∷ [])) (u ∷ [], (v ∷ [], (w ∷ [], (e ∷ [], tt)))) $ s)

module _ {M : Type 1} {𝓤 : Ura M} {𝓛 : Logic 𝓤} {K : Type 0} {Γ : List (Item 𝓤)} where
  -- an `ensures` of two facts
  pub says_two : K → {φ ψ : Type 0} {P : SProp 𝓤} → φ × ψ → Step K 𝓛 Γ (prop P) Γ (prop (sep 𝓤 P (sep 𝓤 (fact 𝓤 φ) (fact 𝓤 ψ))))
  says_two t {φ} {ψ} {P} x = step (λ s. record {
    prf = via 𝓤 P s.prf (qed 𝓛 (raw P ∷ []) {P = sep 𝓤 P (sep 𝓤 (fact 𝓤 φ) (fact 𝓤 ψ))} (
        frame ! $ use0 𝓛 (raw (fact 𝓤 ψ)) (fact_i 𝓤 ψ (emp 𝓤) x.1) $ use0 𝓛 (raw (fact 𝓤 φ)) (fact_i 𝓤 φ (emp 𝓤) x.0) $ done !));
  })

module _ {M : Type 1} {𝓤 : Ura M} {𝓛 : Logic 𝓤} {K : Type 0} {Γ : List (Item 𝓤)} {G : Goal 𝓤 𝓛.H} where
  -- a fact is learned from the first n entries, which stay
  pub learns : K → (n : ℕ) (φ : Type 0) → ent 𝓤 (⋆ 𝓛 (take n Γ)) (fact 𝓤 φ) → (φ → Seq K 𝓛 Γ G) → Seq K 𝓛 Γ G
  learns t n φ shown k = record {
    prf = fact_use 𝓤 φ (via 𝓤 (⋆ 𝓛 (take n Γ)) (subst (λ (Δ : List (Item 𝓤)). ent 𝓤 (⋆ 𝓛 Δ) (⋆ 𝓛 (take n Γ))) (take-append-drop n Γ)
        (via 𝓤 _ (⊢++ 𝓛 (take n Γ) (drop_l n Γ)) (fst∗ 𝓤 (⋆ 𝓛 (take n Γ)) (⋆ 𝓛 (drop_l n Γ))))) shown) (λ x. (k x).prf);
  }

module _ {M : Type 1} {𝓤 : Ura M} {𝓛 : Logic 𝓤} {K : Type 0} {Γ : List (Item 𝓤)} {G : Goal 𝓤 𝓛.H} where
  -- two owners that take no space, as a pair
  pub two_owners : K → (R S : RattleType) (x : R.Denot) (y : S.Denot) (P Q : Fml) → fsep ((plainly []).own_val tt (none ∷ [])) P ≡ R.own_val x (none ∷ []) → fsep ((plainly []).own_val tt (none ∷ [])) Q ≡ S.own_val y (none ∷ [])
      → Step K 𝓛 (‵ ((plainly (R ∷ S ∷ [])).own_val (x, (y, tt)) (two none none ∷ [])) ∷ Γ) G (‵ P ∷ ‵ Q ∷ Γ) G
  two_owners t R S x y P Q e f = step (λ s.
      none_made t $ fjoin t $ rewrite t 0 (λ (F : Fml). ‵ F) e refl $ move t (1 ∷ []) $ none_made t $ fjoin t $ rewrite t 0 (λ (F : Fml). ‵ F) f refl $ move t (1 ∷ 0 ∷ []) $
      two_made t R S x y none none $ s)
