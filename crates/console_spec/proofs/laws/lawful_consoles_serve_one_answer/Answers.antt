use Rattle.voice_script.specs.Script.{lines_of}
use Rattle.console_spec.proofs.AnswerLemmas.{is_computed, lines_same}
use Rattle.console_spec.proofs.laws.lawful_consoles_serve_one_answer.Goals as goal

pub returns-clause-computed : goal.returns-clause-computed
returns-clause-computed g c = λ kinds named widths poison lawful. is_computed kinds poison lawful named widths

pub returns-clause-lines : goal.returns-clause-lines
returns-clause-lines g c = λ kinds named widths sizes poison lines inputs honest answer lawful all a. lines_same kinds poison lawful named widths sizes lines inputs honest answer all a

pub returns-clause-script : goal.returns-clause-script
returns-clause-script g c = λ kinds named widths sizes poison script inputs honest answer lawful all a. lines_same kinds poison lawful named widths sizes (lines_of script) inputs honest answer all a
