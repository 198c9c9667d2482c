-- How records are cut out of the words of pieces and blocks.
use Rattle.std.specs.Prelude.{ℕ, ℤ, Bool, true, false, ◌+◌, ◌≤◌, ◌-◌, List, [], ◌∷◌, take, drop}
use Rattle.mem_rec.specs.declared.Space.{Space}
use Rattle.mem_rec.specs.declared.Space.TheVariants.{Daram, Saram, External}
use Rattle.record_loans.specs.declared.plan.Source.{Source}
use Rattle.record_loans.specs.declared.plan.Source.TheVariants.{Absent, Own, Shared, InDaram, InSaram, InExternal}
use Rattle.record_loans.specs.declared.plan.Cut.{Cut}
use Rattle.record_loans.specs.declared.plan.Plan.{Plan}
use Rattle.record_loans.specs.declared.plan.FilterSizes.{FilterSizes}
use Rattle.record_loans.specs.declared.plan.ReaderSizes.{ReaderSizes}
use Rattle.record_loans.specs.declared.plan.SharingSizes.{SharingSizes}

abbrev pub is_shared : Source → Bool
is_shared Shared = true
is_shared Absent = false
is_shared Own = false
is_shared InDaram = false
is_shared InSaram = false
is_shared InExternal = false

-- where a record begins in what was taken for it
abbrev pub start_of : Source → ℕ → ℕ
start_of Absent gap = 0
start_of Own gap = 0
start_of Shared gap = 0
start_of InDaram gap = gap
start_of InSaram gap = gap
start_of InExternal gap = gap

-- the words of a cut, where the record's piece has the words o, and d, s and e are left of the blocks
abbrev pub words_from : Source → ℕ → ℕ → List ℤ → List ℤ → List ℤ → List ℤ → List ℤ
words_from Absent gap size o d s e = []
words_from Own gap size o d s e = take size o
words_from Shared gap size o d s e = take size o
words_from InDaram gap size o d s e = take size (drop gap d)
words_from InSaram gap size o d s e = take size (drop gap s)
words_from InExternal gap size o d s e = take size (drop gap e)

-- what a cut leaves of the block of a space
abbrev pub left : Source → Space → ℕ → ℕ → List ℤ → List ℤ
left InDaram Daram gap size d = drop size (drop gap d)
left InSaram Saram gap size d = drop size (drop gap d)
left InExternal External gap size d = drop size (drop gap d)
left _ _ gap size d = d

-- the words of each record in turn
abbrev pub cut_words : List Cut → List (List ℤ) → List ℤ → List ℤ → List ℤ → List (List ℤ)
cut_words [] os d s e = []
cut_words (c ∷ cs) [] d s e = []
cut_words (c ∷ cs) (o ∷ os) d s e = words_from c.source c.gap c.size o d s e
    ∷ cut_words cs os (left c.source Daram c.gap c.size d) (left c.source Saram c.gap c.size s) (left c.source External c.gap c.size e)

-- a cut fits where there are so many words
abbrev pub CutFits : Source → ℕ → ℕ → ℕ → ℕ → ℕ → ℕ → Type 0
CutFits Absent gap size o d s e = Unit {0}
CutFits Own gap size o d s e = size ≤ o
CutFits Shared gap size o d s e = size ≤ o
CutFits InDaram gap size o d s e = gap + size ≤ d
CutFits InSaram gap size o d s e = gap + size ≤ s
CutFits InExternal gap size o d s e = gap + size ≤ e

-- how many words a cut leaves
abbrev pub less : Source → Space → ℕ → ℕ → ℕ → ℕ
less InDaram Daram gap size d = d - gap - size
less InSaram Saram gap size d = d - gap - size
less InExternal External gap size d = d - gap - size
less _ _ gap size d = d

-- all cuts fit, where the pieces and the blocks have so many words
abbrev pub CutsFit : List Cut → List ℕ → ℕ → ℕ → ℕ → Type 0
CutsFit [] os d s e = Unit {0}
CutsFit (c ∷ cs) [] d s e = Unit {0}
CutsFit (c ∷ cs) (o ∷ os) d s e = CutFits c.source c.gap c.size o d s e
    × CutsFit cs os (less c.source Daram c.gap c.size d) (less c.source Saram c.gap c.size s) (less c.source External c.gap c.size e)

-- the words of each record, with those of the pieces and of the blocks
abbrev pub plan_words : Plan → List ℤ → List ℤ → List ℤ → List ℤ → List ℤ → List ℤ → List ℤ → List (List ℤ)
plan_words p o0 o1 o2 o3 d s e = take p.object o0 ∷ cut_words (p.first ∷ p.second ∷ p.third ∷ []) (o1 ∷ o2 ∷ o3 ∷ []) d s e

-- the pieces and the blocks have enough words
abbrev pub PlanFits : Plan → ℕ → ℕ → ℕ → ℕ → ℕ → ℕ → ℕ → Type 0
PlanFits p o0 o1 o2 o3 d s e = (p.object ≤ o0) × CutsFit (p.first ∷ p.second ∷ p.third ∷ []) (o1 ∷ o2 ∷ o3 ∷ []) d s e

-- the words of each record of a filter, with those of its own pieces and of the block in `daram`
abbrev pub filter_words : FilterSizes → List ℤ → List ℤ → List ℤ → List (List ℤ)
filter_words n o0 o1 d = take n.object o0 ∷ take n.kept o1 ∷ take n.running d ∷ [] ∷ []

-- the words of each record of a reader, with those of its own piece and of the one that is lent to it
abbrev pub reader_words : ReaderSizes → List ℤ → List ℤ → List (List ℤ)
reader_words n o0 s1 = take n.object o0 ∷ take n.once s1 ∷ [] ∷ [] ∷ []

-- the words of each record of a filter that shares its constants, with those of its own pieces, of the one that is lent to it and of the block in `daram`
abbrev pub sharing_words : SharingSizes → List ℤ → List ℤ → List ℤ → List ℤ → List (List ℤ)
sharing_words n o0 o1 s2 d = take n.object o0 ∷ take n.kept o1 ∷ take n.constants s2 ∷ take n.running d ∷ []
