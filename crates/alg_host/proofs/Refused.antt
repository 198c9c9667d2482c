-- A control for an instance that isn't there is refused.
use Rattle.std.proofs.Common.{◌≡◌, ◌≤◌, ◌<◌, ℕ, false, Option, Some, None, refl, ap, sym, ◌∙◌, arith}
use Rattle.std.specs.Prelude.{is_some, Err}
use Rattle.std.proofs.lemmas.Bool.{false≢true}
use Rattle.std.proofs.lemmas.List.{get_or_past}
use Rattle.std.proofs.lemmas.Option.{none-some}
use Rattle.mem_rec.specs.declared.TheConstants.{INSTANCES}
use Rattle.ialg.specs.declared.refusal.Refusal.TheVariants.{Range, Missing}
use Rattle.ialg.specs.History.{Ctl}
use Rattle.ialg.specs.Laws.{Laws}
use Rattle.ialg.specs.Meaning.Status.{Done}
use Rattle.host_table.specs.declared.member.Member.{Member}
use Rattle.host_table.specs.Table.{slot_at}
use Rattle.host_table.specs.Steps.{AreConsistent}
use Rattle.host_table.specs.View.{View}
use Rattle.host_spec.specs.State.{Living, State}
use Rattle.host_spec.specs.Calls.{Controls}
use Rattle.host_spec.specs.Steps.{control}
use Rattle.host_spec.proofs.OutcomeLemmas.{control_range, control_missing}
use Rattle.host_moves.specs.Refinement.{IsLiving, TablesRefine}

none_lives : {M : Type 0} (slot : Option (Member M)) (living : Option (Living M)) → is_some slot ≡ false → IsLiving slot living → living ≡ None
none_lives None None none is = refl
none_lives None (Some x) none is = absurd is
none_lives (Some m) living none is = absurd (false≢true (sym none))

module _ {M : Type 0} {laws : Laws M} {t : View M} (i : ℕ) (c : Ctl) where
  refuses : (before : State M) → before.living i ≡ None → TablesRefine laws t before
      → {why : _} → (Err why, before) ≡ control before i c false Done
      → (after : State M) × Controls laws.meaning before i c (Err why) after × TablesRefine laws t after
  refuses before none kept refused =
      (before, record { taken = false; status = Done; answers = λ x there. absurd (none-some _ (sym none ∙ there)); outcome = refused }, kept)

  pub missing : i < INSTANCES → is_some (slot_at t.instances i) ≡ false → (before : State M) → TablesRefine laws t before
      → (after : State M) × Controls laws.meaning before i c (Err Missing) after × TablesRefine laws t after
  missing lt empty before kept =
      let none = none_lives (slot_at t.instances i) (before.living i) empty (kept.living i) in
      refuses before none kept (sym (control_missing before i c Done false lt none))

  pub out_of_range : INSTANCES ≤ i → AreConsistent t → (before : State M) → TablesRefine laws t before
      → (after : State M) × Controls laws.meaning before i c (Err Range) after × TablesRefine laws t after
  out_of_range past ok before kept =
      let empty : slot_at t.instances i ≡ None = get_or_past t.instances i None (omega (arith, ok.slot_count, past)) in
      let none = none_lives (slot_at t.instances i) (before.living i) (ap is_some empty) (kept.living i) in
      refuses before none kept (sym (control_range before i c Done false past))
