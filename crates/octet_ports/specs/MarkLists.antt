-- What a contract sees of the marks of a journal.
use Rattle.std.specs.Prelude.{List}
use Rattle.octet_ports.specs.declared.marks.Mark.{Mark}

-- the marks, in order
pub record MarkList : Type 0 where
  pub items : List Mark
