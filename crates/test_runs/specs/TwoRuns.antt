-- Two runs of the engine, and what they have in common.
use Rattle.std.specs.Prelude.{ℕ, ℤ, ◌≡◌, ◌+◌, ◌≤◌, ◌⊎◌, ◌↔◌, List, [], ◌∷◌, ◌++◌, Option, Result, IfOk, IsErrOf, IsTrue, length}
use Rattle.std.specs.Result.{result_err}
use Rattle.ialg.specs.declared.refusal.Refusal.{Refusal}
use Rattle.ialg.specs.History.{Ctl}
use Rattle.ialg.specs.Meaning.{Meaning, Status}
use Rattle.octet_ports.specs.Ports.{GivesWithin, Sink, Source}
use Rattle.host_map.specs.declared.parts.Sizes.{Sizes}
use Rattle.host_map.specs.MemoryMap.{AreSizes}
use Rattle.host_spec.specs.Calls.{Call}
use Rattle.host_spec.specs.Calls.Call.{Control}
use Rattle.host_spec.specs.Runs.{history_of_run, outputs_in, statuses_in}
use Rattle.script_server.specs.declared.limits.TheConstants.{SCRIPT_OCTETS}
use Rattle.script_server.specs.Runs.{AreReady, Devices, EndsByRead, EndsByWrite, EndsWell, IsHonest, IsReadyIn, known_of, octets_to_come}
use Rattle.voice_channel.specs.declared.TheConstants.{CHANNELS}
use Rattle.voice_script.specs.Widths.{Widths, widths_of}
use Rattle.console_spec.specs.Console.{console_machine, start}
use Rattle.console_spec.specs.Births.{Born}
use Rattle.dsp_console.specs.declared.serving.Config.{Config}
use Rattle.dsp_console.specs.declared.serving.Summary.{Summary}
use Rattle.dsp_console.specs.declared.serving.Fault.{Fault}
use Rattle.dsp_console.specs.declared.serving.Fault.TheVariants.{Size, Memory, Read, Write}
use Rattle.dsp_console.specs.Headline.{RunHeadline}
use Rattle.test_runs.specs.declared.two_runs.Ports.{Ports}

-- a run may begin over these ports
pub record CanRun (devices : Devices) : Type 0 where
  pub script : IsReadyIn devices.script
  pub some : 1 ≤ length devices.inputs
  pub few : length devices.inputs ≤ CHANNELS
  pub pairs : length devices.outputs ≡ length devices.inputs
  pub ready : AreReady devices.inputs devices.outputs devices.replies

-- a run over ports of these widths from a host of these sizes and this poison word ended so, as the engine's runs do
pub record RunEnds {M : Type 0} (kinds : Meaning M) (named : List ℕ → Option M) (widths : Widths) (sizes : Sizes) (poison : Option ℤ) (old new : Devices) (result : Result Summary Fault) : Type 0 where
  pub size : IsErrOf result Size ↔ (¬ AreSizes sizes)
  pub unused : IsErrOf result Size ⊎ IsErrOf result Memory → new ≡ old
  pub few : GivesWithin (SCRIPT_OCTETS + 1) old.script new.script
  pub ok : IfOk result (λ summary. EndsWell (console_machine kinds named widths) (start sizes poison (octets_to_come old.inputs)) summary.refused old new)
  pub read : IsErrOf result Read → EndsByRead (console_machine kinds named widths) (start sizes poison (octets_to_come old.inputs)) old new
  pub write : IsErrOf result Write → EndsByWrite (console_machine kinds named widths) (start sizes poison (octets_to_come old.inputs)) old new

-- of each run the headline holds; and of a lawful instance of the one and one of the other, of one kind and with the same parameters:
pub record RunsAgree {M : Type 0} (kinds : Meaning M) (named : List ℕ → Option M)
    (widths : Widths) (sizes : Sizes) (poison : Option ℤ) (refused : ℕ) (old new : Devices)
    (other_widths : Widths) (other_sizes : Sizes) (other_poison : Option ℤ) (other_refused : ℕ) (other_old other_new : Devices) : Type 0 where
  pub one : RunHeadline kinds named widths sizes poison refused old new
  pub two : RunHeadline kinds named other_widths other_sizes other_poison other_refused other_old other_new
  -- they gave and answered the same, if they were given the same since their creation;
  pub agree : (i j g h : ℕ) (kind : M) (p : List ℤ) (later since : List (Call M))
      → IsTrue (kinds.lawful kind p poison) → Born i kind g p one.says.asked later
      → IsTrue (kinds.lawful kind p other_poison) → Born j kind h p two.says.asked since
      → history_of_run i [] later ≡ history_of_run j [] since
      → (outputs_in i later ≡ outputs_in j since) × (statuses_in i later ≡ statuses_in j since)
  -- and whatever they were given, a control that both were asked is refused to both, or to none
  pub granted : (i j g h : ℕ) (kind : M) (p : List ℤ) (later since : List (Call M))
      → IsTrue (kinds.lawful kind p poison) → Born i kind g p one.says.asked later
      → IsTrue (kinds.lawful kind p other_poison) → Born j kind h p two.says.asked since
      → (control : Ctl) (first rest : List (Call M)) (answer : Result Status Refusal) → later ≡ first ++ Control i control answer ∷ rest
      → (other_first other_rest : List (Call M)) (other_answer : Result Status Refusal) → since ≡ other_first ++ Control j control other_answer ∷ other_rest
      → result_err answer ≡ result_err other_answer

-- what is known of the ports of a run
abbrev pub ports_known : {S I O P : Type 0} → (S → Source) → (I → Source) → (O → Sink) → (P → Sink) → Ports S I O P → Devices
ports_known s i o p ports = known_of s i o p ports.script ports.inputs.items ports.outputs.items ports.replies

module _ {M : Type 0} (kinds : Meaning M) (named : List ℕ → Option M) where
  -- a run that was told this configuration ended so
  abbrev pub RunEndsBy : Config → Result Summary Fault → Devices → Devices → Type 0
  RunEndsBy config result old new = RunEnds kinds named (widths_of config.in8 config.out8) config.sizes config.poison old new result

  -- where both scripts are honest and both runs answer a summary, they agree
  abbrev pub BothAgree : Config → Config → Result Summary Fault × Result Summary Fault → (old new other_old other_new : Devices) → Type 0
  BothAgree config other_config results old new other_old other_new =
      IsHonest old.script → IsHonest other_old.script
      → IfOk results.0 (λ summary. IfOk results.1 (λ other_summary. RunsAgree kinds named
      (widths_of config.in8 config.out8) config.sizes config.poison summary.refused old new
      (widths_of other_config.in8 other_config.out8) other_config.sizes other_config.poison other_summary.refused other_old other_new))
