-- The life of a lawful instance over a run of calls.
use Rattle.std.proofs.Common.{◌≡◌, ℕ, ℤ, List, [], ◌∷◌, ◌++◌, Some, ap, sym, ◌∙◌, subst, append_assoc}
use Rattle.std.proofs.lemmas.List.{append_cancel_left}
use Rattle.std.proofs.lemmas.List.Elements.{All-head, All-tail}
use Rattle.std.specs.Prelude.{IsTrue}
use Rattle.ialg.specs.History.{History}
use Rattle.ialg.specs.Meaning.{Meaning, Status, outputs_of}
use Rattle.host_spec.specs.State.{Living, State}
use Rattle.host_spec.specs.Choices.{IsLawful}
use Rattle.host_spec.specs.Calls.{Call, Leads}
use Rattle.host_spec.specs.Runs.{statuses_of, history_after, output_in, status_in, Spares, history_of_run, outputs_in, statuses_in, AllSpare, Grows, Life}
use Rattle.host_spec.proofs.CallLemmas.{host_stays}
use Rattle.host_spec.proofs.RunLemmas.{Grown, stays, grown_by}

-- one piece after the other
joined : {A : Type 0} (first second whole : List A) (xs ys : List A) → second ≡ first ++ xs → whole ≡ second ++ ys → whole ≡ first ++ (xs ++ ys)
joined first second whole xs ys e f = f ∙ ap (λ s. s ++ ys) e ∙ append_assoc first xs ys

module _ {M : Type 0} (kinds : Meaning M) (i : ℕ) where
  -- first to the history h, and from there on
  and_then : (x : Living M) (h k : History) (out more : List ℤ) (statuses further : List Status)
      → Grows kinds x h out statuses → Grows kinds (record x { history = h }) k more further
      → Grows kinds x k (out ++ more) (statuses ++ further)
  and_then x h k out more statuses further first second = record {
    outputs_more = joined (outputs_of kinds x.kind x.params x.history) (outputs_of kinds x.kind x.params h) (outputs_of kinds x.kind x.params k) out more
        first.outputs_more second.outputs_more;
    statuses_more = joined (statuses_of kinds x.kind x.params x.history) (statuses_of kinds x.kind x.params h) (statuses_of kinds x.kind x.params k) statuses further
        first.statuses_more second.statuses_more;
  }

  grown : (calls : List (Call M)) (before after : State M) (x : Living M) → before.living i ≡ Some x → IsLawful kinds before.poison x
      → AllSpare i calls → Leads kinds before calls after
      → Grown kinds i x after (history_of_run i x.history calls) (outputs_in i calls) (statuses_in i calls)
  grown [] before after x there lawful spared leads = stays kinds i x after (ap (λ state. state.living i) leads ∙ there)
  grown (call ∷ calls) before after x there lawful spared leads =
      let between = leads.0 in
      let h = history_after i x.history call in
      let first = grown_by kinds i x before between there lawful call leads.1 (All-head (Spares i) call calls spared) in
      let still : IsTrue (kinds.lawful x.kind x.params between.poison) =
      subst (λ w. IsTrue (kinds.lawful x.kind x.params w)) (sym (host_stays kinds before between call leads.1).poison) lawful in
      let rest = grown calls between after (record x { history = h }) first.lives still (All-tail (Spares i) call calls spared) leads.2 in
      record {
        lives = rest.lives;
        grows = and_then x h (history_of_run i h calls) (output_in i call) (outputs_in i calls) (status_in i call) (statuses_in i calls) first.grows rest.grows;
      }

  module _ (x : Living M) (calls : List (Call M)) (life : Life kinds i x calls) where
    pub lives_on : life.after.living i ≡ Some (record x { history = history_of_run i x.history calls })
    lives_on = (grown calls life.before life.after x life.born life.lawful life.spared life.leads).lives

    pub grows_by : Grows kinds x (history_of_run i x.history calls) (outputs_in i calls) (statuses_in i calls)
    grows_by = (grown calls life.before life.after x life.born life.lawful life.spared life.leads).grows

-- one list is longer than another by either of two
same_rest : {A : Type 0} {a b c d xs ys : List A} → a ≡ b → c ≡ d → c ≡ a ++ xs → d ≡ b ++ ys → xs ≡ ys
same_rest {b} {xs} {ys} e f longer longer' = append_cancel_left b xs ys (ap (λ s. s ++ xs) (sym e) ∙ sym longer ∙ f ∙ longer')

module _ {M : Type 0} (kinds : Meaning M) (i j : ℕ) (x y : Living M) (xs ys : List (Call M)) where
  pub agree : Life kinds i x xs → Life kinds j y ys → x.kind ≡ y.kind → x.params ≡ y.params → x.history ≡ y.history
      → history_of_run i x.history xs ≡ history_of_run j y.history ys
      → (outputs_in i xs ≡ outputs_in j ys) × (statuses_in i xs ≡ statuses_in j ys)
  agree one other kind params before after =
      let first = grows_by kinds i x xs one in
      let second = grows_by kinds j y ys other in
      let outputs : (h k : History) → h ≡ k → outputs_of kinds x.kind x.params h ≡ outputs_of kinds y.kind y.params k =
      λ (h k : History) (e : h ≡ k). ap (λ z. outputs_of kinds z x.params h) kind ∙ ap (λ p. outputs_of kinds y.kind p h) params ∙ ap (λ g. outputs_of kinds y.kind y.params g) e in
      let statuses : (h k : History) → h ≡ k → statuses_of kinds x.kind x.params h ≡ statuses_of kinds y.kind y.params k =
      λ (h k : History) (e : h ≡ k). ap (λ z. statuses_of kinds z x.params h) kind ∙ ap (λ p. statuses_of kinds y.kind p h) params ∙ ap (λ g. statuses_of kinds y.kind y.params g) e in (
        same_rest (outputs _ _ before) (outputs _ _ after) first.outputs_more second.outputs_more,
        same_rest (statuses _ _ before) (statuses _ _ after) first.statuses_more second.statuses_more,
      )
