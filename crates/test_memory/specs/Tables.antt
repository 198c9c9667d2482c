-- Tables that no hosted kind has.
use Rattle.std.specs.Prelude.{List, [], ◌∷◌}
use Rattle.mem_rec.specs.declared.MemRec.{MemRec}
use Rattle.mem_rec.specs.declared.Space.TheVariants.{Daram, Saram, External}
use Rattle.mem_rec.specs.declared.Attr.TheVariants.{Scratch, Persist, WriteOnce}

abbrev pub object_record : MemRec
object_record = record { size = 4; align = 4; space = External; attr = Persist; base = 0 }

-- a write-once record, and scratch records in two spaces
abbrev pub two_spaces : List MemRec
two_spaces =
    object_record
    ∷ record { size = 5; align = 8; space = External; attr = WriteOnce; base = 8 }
    ∷ record { size = 5; align = 16; space = Daram; attr = Scratch; base = 16 }
    ∷ record { size = 3; align = 64; space = Saram; attr = Scratch; base = 64 }
    ∷ []

-- three scratch records in one space
abbrev pub one_space : List MemRec
one_space =
    object_record
    ∷ record { size = 3; align = 4; space = Daram; attr = Scratch; base = 0 }
    ∷ record { size = 5; align = 16; space = Daram; attr = Scratch; base = 16 }
    ∷ record { size = 2; align = 4; space = Daram; attr = Scratch; base = 24 }
    ∷ []
