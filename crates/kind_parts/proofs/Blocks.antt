-- A run over a block, sample by sample.
use Rattle.std.proofs.Common.{◌≡◌, ℕ, ℤ, suc, ◌<◌, List, [], ◌∷◌, ◌++◌, length, take, sym, ap, subst, ◌∙◌, append_assoc, append-nil}
use Rattle.ialg.specs.History.{History, Sample, with_samples, word_at, outputs_by}
use Rattle.ialg.proofs.Histories.{with_samples-take, with_samples-whole}

-- after a block there is this state of the longer history, and these are the outputs of the block
pub record GoesOn {S : Type 0} (gives : History → List ℤ) (Is : History → S → Type 0) (h : History) (block : List ℤ) (s : S) (ys : List ℤ) : Type 0 where
  pub state : Is (with_samples h block) s
  pub outputs : outputs_by gives (with_samples h block) ≡ outputs_by gives h ++ ys

module _ (S : Type 0) (gives : History → List ℤ) (Is : History → S → Type 0) (h : History) (xs : List ℤ) where
  -- before the first sample
  pub none_goes_on : (s : S) → Is h s → GoesOn gives Is h (take 0 xs) s []
  none_goes_on s is = record { state = is; outputs = sym (append-nil (outputs_by gives h)) }

  -- one more sample, where the state goes on with it
  pub one_goes_on : (i : ℕ) (s new : S) (ys zs : List ℤ) → i < length xs → GoesOn gives Is h (take i xs) s ys
      → Is (Sample (word_at xs i) ∷ with_samples h (take i xs)) new × (ys ++ gives (Sample (word_at xs i) ∷ with_samples h (take i xs)) ≡ zs)
      → GoesOn gives Is h (take (suc i) xs) new zs
  one_goes_on i s new ys zs b before next =
      let so_far = with_samples h (take i xs) in
      let given = gives (Sample (word_at xs i) ∷ so_far) in
      let more = with_samples-take h xs i b in
      let o : outputs_by gives (Sample (word_at xs i) ∷ so_far) ≡ outputs_by gives h ++ zs =
      ap (λ o. o ++ given) before.outputs ∙ append_assoc (outputs_by gives h) ys given ∙ ap (λ o. outputs_by gives h ++ o) next.1 in
      record { state = subst (λ t. Is t new) (sym more) next.0; outputs = rw more o }

  -- the whole block
  pub all_goes_on : (i : ℕ) (s : S) (ys : List ℤ) → i ≡ length xs → GoesOn gives Is h (take i xs) s ys → GoesOn gives Is h xs s ys
  all_goes_on i s ys e goes =
      let t : with_samples h (take i xs) ≡ with_samples h xs = ap (λ n. with_samples h (take n xs)) e ∙ with_samples-whole h xs in
      record { state = subst (λ t. Is t s) t goes.state; outputs = ap (outputs_by gives) (sym t) ∙ goes.outputs }
