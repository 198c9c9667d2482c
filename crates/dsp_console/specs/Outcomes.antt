-- How the program ends after a run.
use Rattle.std.specs.Prelude.{ℕ, List, [], Result, Ok, Err, codes, ◌==◌, if◌then◌else◌}
use Rattle.dsp_console.specs.declared.serving.Summary.{Summary}
use Rattle.dsp_console.specs.declared.serving.Fault.{Fault}
use Rattle.dsp_console.specs.declared.serving.Fault.TheVariants.{Size, Memory, Read, Write}

abbrev pub status_of : Result Summary Fault → ℕ
status_of (Ok summary) = if summary.refused == 0 then 0 else 1
status_of (Err Size) = 2
status_of (Err Read) = 3
status_of (Err Write) = 4
status_of (Err Memory) = 5

-- the line on the standard error
abbrev pub line_of : Result Summary Fault → List ℕ
line_of (Ok summary) = []
line_of (Err Size) = codes "dsp_console: a space is 0 to 65536 words, a multiple of 4"
line_of (Err Read) = codes "dsp_console: read failed"
line_of (Err Write) = codes "dsp_console: write failed"
line_of (Err Memory) = codes "dsp_console: out of memory"
