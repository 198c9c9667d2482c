use Rattle.std.proofs.Common.{◌∙◌, ◌≡◌, ◌⊎◌, Err, ap, map, inl, inr, arith}
use Rattle.std.specs.Prelude.{IsErrOf}
use Rattle.host_map.specs.MemoryMap.{AreSizes}
use Rattle.host_map.specs.declared.parts.Sizes.{Sizes}
use Rattle.dsp_console.specs.declared.serving.Fault.{Fault}
use Rattle.dsp_console.specs.declared.serving.Fault.TheVariants.{Size, Memory, Read, Write}
use Rattle.voice_script.specs.Widths.{widths_in, widths_of}
use Rattle.dsp_console.proofs.HeadlineLemmas.{says_headline, says_sounds}
use Rattle.dsp_console.proofs.LawfulLemmas.{lawfully, lawfully_by_read, lawfully_by_write, serve_lawfully}
use Rattle.dsp_console.proofs.StartLemmas.{as_many, by_read, by_write, kept, well}
use Rattle.dsp_console.proofs.serving.run.Goals as goal

are_or_not : (sizes : Sizes) → AreSizes sizes ⊎ (¬ AreSizes sizes)
are_or_not sizes = grind arith

same_fault : {A B : Type 0} {fault other : Fault} → IsErrOf {T = A} (Err fault) other → IsErrOf {T = B} (Err fault) other
same_fault {fault = fault} {other = other} is = let e : fault ≡ other = cc in ap Err e

no_size : {A P : Type 0} {fault : Fault} → fault ≡ Memory → IsErrOf {T = A} (Err fault) Size → P
no_size memory is = cc

-- a fault of the start is none of a port
no_read : {A B P : Type 0} {fault : Fault} (sizes : Sizes) → (¬ AreSizes sizes → IsErrOf {T = A} (Err fault) Size) → (AreSizes sizes → fault ≡ Memory) → IsErrOf {T = B} (Err fault) Read → P
no_read sizes size memory is = elim (are_or_not sizes) [
  | inl are ↦ let e = memory are in cc
  | inr not ↦ let e = size not in cc
]

no_write : {A B P : Type 0} {fault : Fault} (sizes : Sizes) → (¬ AreSizes sizes → IsErrOf {T = A} (Err fault) Size) → (AreSizes sizes → fault ≡ Memory) → IsErrOf {T = B} (Err fault) Write → P
no_write sizes size memory is = elim (are_or_not sizes) [
  | inl are ↦ let e = memory are in cc
  | inr not ↦ let e = size not in cc
]

pub returns-in-Err-clause-read : goal.returns-in-Err-clause-read
returns-in-Err-clause-read g c = no_read c.args.config.sizes c.in-Err.ensures.size c.in-Err.ensures.memory

pub returns-in-Err-clause-write : goal.returns-in-Err-clause-write
returns-in-Err-clause-write g c = no_write c.args.config.sizes c.in-Err.ensures.size c.in-Err.ensures.memory

pub returns-in-Err-clause-lawful_read : goal.returns-in-Err-clause-lawful_read
returns-in-Err-clause-lawful_read g c = λ lawful. no_read c.args.config.sizes c.in-Err.ensures.size c.in-Err.ensures.memory

pub returns-in-Err-clause-lawful_write : goal.returns-in-Err-clause-lawful_write
returns-in-Err-clause-lawful_write g c = λ lawful. no_write c.args.config.sizes c.in-Err.ensures.size c.in-Err.ensures.memory

pub returns-in-Err-clause-sizes : goal.returns-in-Err-clause-sizes
returns-in-Err-clause-sizes g c = elim (are_or_not c.args.config.sizes) [
  | inl are ↦ inr are
  | inr not ↦ inl (same_fault (c.in-Err.ensures.size not))
]

pub returns-in-Err-clause-size : goal.returns-in-Err-clause-size
returns-in-Err-clause-size g c = (λ is are. no_size (c.in-Err.ensures.memory are) is, λ not. same_fault (c.in-Err.ensures.size not))

pub serve_console-served-requires-clause-kept : goal.serve_console-served-requires-clause-kept
serve_console-served-requires-clause-kept g c =
    kept g.M.Ialg.law c.new-console.result c.in-Ok.host c.args.config.sizes c.args.config.poison (map g.I.PortIn.source c.args.inputs.now.items) c.new-console.ensures.host c.in-Ok.ensures.host c.len.result
    (as_many c.args.inputs.now.items g.I.PortIn.source c.len.result (c.len.ensures ∙ c.args.inputs.now.ok.0))
    c.new-console.ensures.refines

pub returns-clause-ok : goal.returns-clause-ok
returns-clause-ok g c =
    well g.M.Ialg.law c.new-console.result c.in-Ok.host c.args.config.sizes c.args.config.poison (map g.I.PortIn.source c.args.inputs.now.items) c.new-console.ensures.host c.in-Ok.ensures.host _ (widths_of c.args.config.in8 c.args.config.out8) (ap widths_in c.new-console.ensures.widths ∙ c.of_masks-widths.ensures) _ _ _ c.serve_console-served.ensures.ok

pub returns-clause-read : goal.returns-clause-read
returns-clause-read g c =
    by_read g.M.Ialg.law c.new-console.result c.in-Ok.host c.args.config.sizes c.args.config.poison (map g.I.PortIn.source c.args.inputs.now.items) c.new-console.ensures.host c.in-Ok.ensures.host _ (widths_of c.args.config.in8 c.args.config.out8) (ap widths_in c.new-console.ensures.widths ∙ c.of_masks-widths.ensures) _ _ _ c.serve_console-served.ensures.read

pub returns-clause-write : goal.returns-clause-write
returns-clause-write g c =
    by_write g.M.Ialg.law c.new-console.result c.in-Ok.host c.args.config.sizes c.args.config.poison (map g.I.PortIn.source c.args.inputs.now.items) c.new-console.ensures.host c.in-Ok.ensures.host _ (widths_of c.args.config.in8 c.args.config.out8) (ap widths_in c.new-console.ensures.widths ∙ c.of_masks-widths.ensures) _ _ _ c.serve_console-served.ensures.write

pub returns-clause-lawful : goal.returns-clause-lawful
returns-clause-lawful g c = λ lawful script inputs.
    serve_lawfully g.M.Ialg.law.meaning g.M.Named.named (widths_of c.args.config.in8 c.args.config.out8) c.args.config.sizes c.args.config.poison _ _ _ c.lawful_consoles_serve_one_answer.ensures.script lawful script inputs
    (well g.M.Ialg.law c.new-console.result c.in-Ok.host c.args.config.sizes c.args.config.poison (map g.I.PortIn.source c.args.inputs.now.items) c.new-console.ensures.host c.in-Ok.ensures.host _ (widths_of c.args.config.in8 c.args.config.out8) (ap widths_in c.new-console.ensures.widths ∙ c.of_masks-widths.ensures) _ _ _ c.serve_console-served.ensures.ok)

pub returns-clause-lawful_ok : goal.returns-clause-lawful_ok
returns-clause-lawful_ok g c = λ lawful.
    lawfully g.M.Ialg.law.meaning g.M.Named.named (widths_of c.args.config.in8 c.args.config.out8) c.args.config.sizes c.args.config.poison _ _ (c.lawful_consoles_serve_one_answer.ensures.computed g.M.Ialg.law.meaning g.M.Named.named (widths_of c.args.config.in8 c.args.config.out8) c.args.config.poison lawful) _
    (well g.M.Ialg.law c.new-console.result c.in-Ok.host c.args.config.sizes c.args.config.poison (map g.I.PortIn.source c.args.inputs.now.items) c.new-console.ensures.host c.in-Ok.ensures.host _ (widths_of c.args.config.in8 c.args.config.out8) (ap widths_in c.new-console.ensures.widths ∙ c.of_masks-widths.ensures) _ _ _ c.serve_console-served.ensures.ok)

pub returns-clause-lawful_read : goal.returns-clause-lawful_read
returns-clause-lawful_read g c = λ lawful fault.
    lawfully_by_read g.M.Ialg.law.meaning g.M.Named.named (widths_of c.args.config.in8 c.args.config.out8) c.args.config.sizes c.args.config.poison _ _ (c.lawful_consoles_serve_one_answer.ensures.computed g.M.Ialg.law.meaning g.M.Named.named (widths_of c.args.config.in8 c.args.config.out8) c.args.config.poison lawful)
    (by_read g.M.Ialg.law c.new-console.result c.in-Ok.host c.args.config.sizes c.args.config.poison (map g.I.PortIn.source c.args.inputs.now.items) c.new-console.ensures.host c.in-Ok.ensures.host _ (widths_of c.args.config.in8 c.args.config.out8) (ap widths_in c.new-console.ensures.widths ∙ c.of_masks-widths.ensures) _ _ _ c.serve_console-served.ensures.read fault)

pub returns-clause-lawful_write : goal.returns-clause-lawful_write
returns-clause-lawful_write g c = λ lawful fault.
    lawfully_by_write g.M.Ialg.law.meaning g.M.Named.named (widths_of c.args.config.in8 c.args.config.out8) c.args.config.sizes c.args.config.poison _ _ (c.lawful_consoles_serve_one_answer.ensures.computed g.M.Ialg.law.meaning g.M.Named.named (widths_of c.args.config.in8 c.args.config.out8) c.args.config.poison lawful)
    (by_write g.M.Ialg.law c.new-console.result c.in-Ok.host c.args.config.sizes c.args.config.poison (map g.I.PortIn.source c.args.inputs.now.items) c.new-console.ensures.host c.in-Ok.ensures.host _ (widths_of c.args.config.in8 c.args.config.out8) (ap widths_in c.new-console.ensures.widths ∙ c.of_masks-widths.ensures) _ _ _ c.serve_console-served.ensures.write fault)

pub returns-clause-headline : goal.returns-clause-headline
returns-clause-headline g c = λ script.
    says_headline g.M.Ialg.law.meaning g.M.Named.named (widths_of c.args.config.in8 c.args.config.out8) c.args.config.sizes c.args.config.poison _ _ _
    (λ refused old new. c.headline.ensures.ok (widths_of c.args.config.in8 c.args.config.out8) c.args.config.sizes c.args.config.poison refused old new) script
    (well g.M.Ialg.law c.new-console.result c.in-Ok.host c.args.config.sizes c.args.config.poison (map g.I.PortIn.source c.args.inputs.now.items) c.new-console.ensures.host c.in-Ok.ensures.host _ (widths_of c.args.config.in8 c.args.config.out8) (ap widths_in c.new-console.ensures.widths ∙ c.of_masks-widths.ensures) _ _ _ c.serve_console-served.ensures.ok)

pub returns-clause-sounds : goal.returns-clause-sounds
returns-clause-sounds g c = λ script.
    says_sounds g.M.Ialg.law.meaning g.M.Named.named (widths_of c.args.config.in8 c.args.config.out8) c.args.config.sizes c.args.config.poison _ _ _
    (λ refused old new. c.headline.ensures.sounds (widths_of c.args.config.in8 c.args.config.out8) c.args.config.sizes c.args.config.poison refused old new)
    (returns-clause-headline g c script)
