-- Boxes on the C library's heap, at the names that walks of boxes go by.
use mathlib.Core.Path.{◌≡◌, refl}
use mathlib.Core.List.{[], ◌∷◌}
use mir.Syntax.{impl, tnil, tcons, dnil}
use mir.Raw.{raw as bare}
use denote.Exit.{no}
use denote.RattleType.{RattleType}
use denote.Param.{layout, arg}
use denote.Param.Laws.{Laws, arg_laws}
use Rattle.std_alloc.proofs.BoxSteps.Form.{Bx}
use Rattle.core.proofs.alloc.Calls.{Al}
use Rattle.std_heap.specs.contracts.Global as Heap
use Rattle.std_heap.specs.contracts.GlobalAllocator.TheImpl.{ghosts, dict}
use Rattle.std_heap.proofs.Global.TheLaws as heap

-- a type as a call passes it
abbrev pub passed : RattleType → RattleType
passed R = arg (bare (layout R)) no R

abbrev pub passed_laws : (R : RattleType) → Laws R → bare (bare (layout R)) ≡ bare (layout R) → Laws (passed R)
passed_laws R laws one = arg_laws (bare (layout R)) no R laws one

abbrev pub Heaped : Al
Heaped = record {
  row = passed Heap.the_row;
  laws = passed_laws Heap.the_row heap.the_row_laws refl;
  g = ghosts;
  d = dict;
  drops = impl ("dsp_library::Destruct++none::drop" ∷ []) (tcons (bare (layout Heap.the_row)) tnil) dnil;
}

abbrev pub boxed : (R : RattleType) → Laws R → Bx
boxed R laws = record { row = R; laws = laws; al = Heaped }
