-- What happened to an instance since its start: what it was given, and which of its kind's calls were made.
use Rattle.std.specs.Prelude.{ℤ, List, [], ◌∷◌}
use Rattle.ialg.specs.History as history
use Rattle.ialg.specs.History.{History, Ctl, with_samples}

-- the calls for which words of an instance are lent for writing (SPRU360): the others, as algFree, leave each word as it is, so no kind
-- can tell how often it was asked
pub data Called : Type 0 where
  Init Activate Process Command Deactivate Moved : Called

pub record Log : Type 0 where
  pub history : History
  -- the newest first
  pub calls : List Called

-- after algInit
abbrev pub begun : Log
begun = record { history = []; calls = Init ∷ [] }

-- one more call, which gives nothing: algActivate, algDeactivate, algMoved
abbrev pub called : Called → Log → Log
called call l = record { history = l.history; calls = call ∷ l.calls }

-- after process with these samples
abbrev pub fed : Log → List ℤ → Log
fed l samples = record { history = with_samples l.history samples; calls = Process ∷ l.calls }

-- after algControl
abbrev pub commanded : Log → Ctl → Log
commanded l c = record { history = history.Control c ∷ l.history; calls = Command ∷ l.calls }

-- after process with one sample, or algControl
abbrev pub given_entry : Log → history.Entry → Log
given_entry l (history.Sample x) = fed l (x ∷ [])
given_entry l (history.Control c) = commanded l c
