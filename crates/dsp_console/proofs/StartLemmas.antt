-- A console that was just made keeps the first state, of the sizes and the poison word that its host has.
use Rattle.std.proofs.Common.{◌≡◌, ℕ, ℤ, List, [], replicate, Option, Result, IfOk, ap, length, map, subst, sym, ◌∙◌}
use Rattle.dsp_console.specs.declared.serving.Summary.{Summary}
use Rattle.dsp_console.specs.declared.serving.Fault.{Fault}
use Rattle.std.proofs.lemmas.List.{length-map}
use Rattle.host_map.specs.declared.parts.Sizes.{Sizes}
use Rattle.host_spaces.specs.MemoryMap.{sizes_of}
use Rattle.host_spec.specs.State.{State, new_state}
use Rattle.channel_spec.specs.Channels.{unchained}
use Rattle.dsp_console.specs.Hosts.{HostState}
use Rattle.dsp_console.specs.Hosts as hosts
use Rattle.octet_ports.specs.Ports.{Source}
use Rattle.script_server.specs.Runs.{Devices, EndsByRead, EndsByWrite, EndsWell, octets_to_come, run_of}
use Rattle.voice_script.specs.Widths.{Widths}
use Rattle.console_spec.specs.Console.{console_machine, start}
use Rattle.dsp_console.specs.declared.console.Console.{Console}
use Rattle.dsp_console.specs.Consoles.{ConsoleRefines, port_widths_of}
use Rattle.dsp_console.specs.Fresh.{fresh}
use Rattle.ialg.specs.Laws.{Laws}

module _ {M : Type 0} (laws : Laws M) (console : Console M) (host : HostState M) (sizes : Sizes) (poison : Option ℤ) (sources : List Source)
    (same : console.channels.host ≡ host) (keeps : hosts.HostRefines laws host (new_state sizes poison)) where
  is_fresh : fresh console sources ≡ unchained (new_state sizes poison) (length (octets_to_come sources))
  is_fresh =
      let its_sizes : sizes_of console.channels.host.spaces ≡ sizes = ap (λ h. sizes_of h.spaces) same ∙ keeps.kept.sizes in
      let its_poison : console.channels.host.poison ≡ poison = ap (λ h. h.poison) same ∙ sym keeps.poison in
      ap (λ z. unchained (new_state z console.channels.host.poison) (length (octets_to_come sources))) its_sizes ∙ ap (λ w. unchained (new_state sizes w) (length (octets_to_come sources))) its_poison

  -- the run starts there
  pub starts : run_of (fresh console sources) sources ≡ start sizes poison (octets_to_come sources)
  starts = ap (λ s. run_of s sources) is_fresh

  -- the console keeps it
  pub kept : (count : ℕ) → length (octets_to_come sources) ≡ count
      → ((state : State M) → hosts.HostRefines laws host state → ConsoleRefines laws console (record { host = state; chained = replicate count [] }))
      → ConsoleRefines laws console (fresh console sources)
  kept count counted made = subst (ConsoleRefines laws console) (sym (is_fresh ∙ ap (unchained (new_state sizes poison)) counted)) (made (new_state sizes poison) keeps)

  -- and ends from there, by the widths that it was made with
  module _ (named : List ℕ → Option M) (widths : Widths) (same_widths : port_widths_of console ≡ widths) where
    pub well : (result : Result Summary Fault) (old new : Devices)
        → IfOk result (λ summary. EndsWell (console_machine laws.meaning named (port_widths_of console)) (run_of (fresh console sources) sources) summary.refused old new)
        → IfOk result (λ summary. EndsWell (console_machine laws.meaning named widths) (start sizes poison (octets_to_come sources)) summary.refused old new)
    well result old new ends =
        subst (λ w. IfOk result (λ summary. EndsWell (console_machine laws.meaning named w) (start sizes poison (octets_to_come sources)) summary.refused old new)) same_widths
        (subst (λ r. IfOk result (λ summary. EndsWell (console_machine laws.meaning named (port_widths_of console)) r summary.refused old new)) starts ends)

    pub by_read : (A : Type 0) (old new : Devices) → (A → EndsByRead (console_machine laws.meaning named (port_widths_of console)) (run_of (fresh console sources) sources) old new)
        → A → EndsByRead (console_machine laws.meaning named widths) (start sizes poison (octets_to_come sources)) old new
    by_read A old new ends a =
        subst (λ w. EndsByRead (console_machine laws.meaning named w) (start sizes poison (octets_to_come sources)) old new) same_widths
        (subst (λ r. EndsByRead (console_machine laws.meaning named (port_widths_of console)) r old new) starts (ends a))

    pub by_write : (A : Type 0) (old new : Devices) → (A → EndsByWrite (console_machine laws.meaning named (port_widths_of console)) (run_of (fresh console sources) sources) old new)
        → A → EndsByWrite (console_machine laws.meaning named widths) (start sizes poison (octets_to_come sources)) old new
    by_write A old new ends a =
        subst (λ w. EndsByWrite (console_machine laws.meaning named w) (start sizes poison (octets_to_come sources)) old new) same_widths
        (subst (λ r. EndsByWrite (console_machine laws.meaning named (port_widths_of console)) r old new) starts (ends a))

-- each port has its octets to come
pub as_many : {I : Type 0} (ports : List I) (source : I → Source) (count : ℕ) → count ≡ length ports → length (octets_to_come (map source ports)) ≡ count
as_many ports source count counted = length-map (map source ports) (λ s. s.coming) ∙ length-map ports source ∙ sym counted
