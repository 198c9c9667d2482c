use Rattle.std.proofs.Common.{refl}
use Rattle.script_server.specs.Runs.{IsReadyIn}
use Rattle.dsp_program.proofs.Opening.{none_ready, opened_count}
use Rattle.dsp_program.proofs.serving.serve_pairs.Goals as goal

pub serve_ports-ended-requires-clause-ready : goal.serve_ports-ended-requires-clause-ready
serve_ports-ended-requires-clause-ready g c = c.in_ok-open_pairs.ensures.to_read refl (none_ready IsReadyIn _ _ c.new-inputs.ensures.items)

pub serve_ports-ended-requires-clause-count : goal.serve_ports-ended-requires-clause-count
serve_ports-ended-requires-clause-count g c = opened_count _ _ _ _ (c.in_ok-open_pairs.ensures.inputs refl) c.new-inputs.ensures.items c.as_slice-pairs.ensures.value
