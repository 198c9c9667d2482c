-- What is taken for a loan, and put back behind it: the piece of a record, or the front of a block.
use Rattle.std.specs.Prelude.{ℕ, ℤ, ◌≡◌, ◌+◌, ◌≤◌, ◌++◌, List, [], ◌∷◌, length, take, drop, Option, Some, None, MatchOption}
use Rattle.mem_rec.specs.declared.Space.{Space}
use Rattle.mem_rec.specs.declared.Space.TheVariants.{Daram, Saram, External}
use Rattle.space_raw.specs.Span.{Span, Adjoins}
use Rattle.record_loans.specs.declared.block.ScratchBlock.{ScratchBlock}
use Rattle.record_loans.specs.declared.plan.Source.{Source}
use Rattle.record_loans.specs.declared.plan.Source.TheVariants.{Absent, Own, Shared, InDaram, InSaram, InExternal}
use Rattle.record_loans.specs.declared.plan.Cut.{Cut}
use Rattle.record_loans.specs.declared.plan.Plan.{Plan}
use Rattle.record_loans.specs.Cuts.{start_of}
use Rattle.record_loans.specs.Pieces.{piece_words}

-- the words of a block that a record takes up: those before it, and its own
abbrev pub taken_words : Cut → ℕ
taken_words c = c.gap + c.size

-- the first n words of a block, as a piece
abbrev pub front_of : ℕ → Option ScratchBlock → Option Span
front_of n None = None
front_of n (Some b) = Some (record { region = b.piece.region; place = b.piece.place; words = take n b.piece.words })

-- the block without them
abbrev pub behind : ℕ → Option ScratchBlock → Option ScratchBlock
behind n None = None
behind n (Some b) = Some (record { piece = record { region = b.piece.region; place = b.piece.place + n; words = drop n b.piece.words }; align = b.align })

-- a block with a piece put before it
abbrev pub joined : Option Span → Option ScratchBlock → Option ScratchBlock
joined (Some p) (Some b) = Some (record { piece = record { region = p.region; place = p.place; words = p.words ++ b.piece.words }; align = b.align })
joined (Some p) None = None
joined None b = b

-- the block begins where the piece ends, or neither is there
abbrev pub IsFrontOf : Option Span → Option ScratchBlock → Type 0
IsFrontOf (Some p) (Some b) = Adjoins p b.piece
IsFrontOf (Some p) None = ⊥
IsFrontOf None b = b ≡ None

-- what is taken for a record: a piece, or the front of a block
abbrev pub taken_from : Source → ℕ → (own shared : Option Span) → (d s e : Option ScratchBlock) → Option Span
taken_from Absent n own shared d s e = None
taken_from Own n own shared d s e = own
taken_from Shared n own shared d s e = shared
taken_from InDaram n own shared d s e = front_of n d
taken_from InSaram n own shared d s e = front_of n s
taken_from InExternal n own shared d s e = front_of n e

-- what is taken for it by its cut
abbrev pub taken : Cut → (own shared : Option Span) → (d s e : Option ScratchBlock) → Option Span
taken c own shared d s e = taken_from c.source (taken_words c) own shared d s e

-- and what is left: of the own piece,
abbrev pub own_left : Source → Option Span → Option Span
own_left Own own = None
own_left _ own = own

-- of the shared one,
abbrev pub shared_left : Source → Option Span → Option Span
shared_left Shared shared = None
shared_left _ shared = shared

-- and of the block of a space
abbrev pub block_left : Source → Space → ℕ → Option ScratchBlock → Option ScratchBlock
block_left InDaram Daram n b = behind n b
block_left InSaram Saram n b = behind n b
block_left InExternal External n b = behind n b
block_left _ _ n b = b

-- it can be put back: nothing stands in its place, and a block begins where it ends
abbrev pub CanPut : Source → Option Span → (own shared : Option Span) → (d s e : Option ScratchBlock) → Type 0
CanPut Absent p own shared d s e = p ≡ None
CanPut Own p own shared d s e = own ≡ None
CanPut Shared p own shared d s e = shared ≡ None
CanPut InDaram p own shared d s e = IsFrontOf p d
CanPut InSaram p own shared d s e = IsFrontOf p s
CanPut InExternal p own shared d s e = IsFrontOf p e

-- the own piece behind that,
abbrev pub own_put : Source → Option Span → Option Span → Option Span
own_put Own p own = p
own_put _ p own = own

-- the shared one,
abbrev pub shared_put : Source → Option Span → Option Span → Option Span
shared_put Shared p shared = p
shared_put _ p shared = shared

-- and the block of a space
abbrev pub block_put : Source → Space → Option Span → Option ScratchBlock → Option ScratchBlock
block_put InDaram Daram p b = joined p b
block_put InSaram Saram p b = joined p b
block_put InExternal External p b = joined p b
block_put _ _ p b = b

-- this was taken by a cut, and this is left of the pieces and of the blocks
pub record CutsOut (c : Cut) (own shared : Option Span) (d s e : Option ScratchBlock) (piece own' shared' : Option Span) (d' s' e' : Option ScratchBlock) : Type 0 where
  pub taken : piece ≡ taken c own shared d s e
  pub own_left : own' ≡ own_left c.source own
  pub shared_left : shared' ≡ shared_left c.source shared
  pub daram : d' ≡ block_left c.source Daram (taken_words c) d
  pub saram : s' ≡ block_left c.source Saram (taken_words c) s
  pub external : e' ≡ block_left c.source External (taken_words c) e

-- this was put back where the cut took it
pub record PutsBack (c : Cut) (piece own shared : Option Span) (d s e : Option ScratchBlock) (own' shared' : Option Span) (d' s' e' : Option ScratchBlock) : Type 0 where
  pub own_back : own' ≡ own_put c.source piece own
  pub shared_back : shared' ≡ shared_put c.source piece shared
  pub daram : d' ≡ block_put c.source Daram piece d
  pub saram : s' ≡ block_put c.source Saram piece s
  pub external : e' ≡ block_put c.source External piece e

-- the words of a piece from a place in it on, none where there is no piece
abbrev pub words_at : ℕ → ℕ → Option Span → List ℤ
words_at start n None = []
words_at start n (Some s) = take n (drop start s.words)

-- the words of a record in what was taken for it
abbrev pub record_words : Cut → Option Span → List ℤ
record_words c p = words_at (start_of c.source c.gap) c.size p

-- a piece has so many words from a place in it on
abbrev pub HasWords : ℕ → ℕ → Option Span → Type 0
HasWords start n p = MatchOption p (Unit {0}) (λ s. start + n ≤ length s.words)

-- what was taken for a record has its words
abbrev pub HasRecord : Cut → Option Span → Type 0
HasRecord c p = HasWords (start_of c.source c.gap) c.size p

-- the words of records 0, 1 and 2, and those of the last one in what was taken for it
abbrev pub third_words : (r0 r1 r2 : List ℤ) → Option Span → Plan → List (List ℤ)
third_words r0 r1 r2 third plan = r0 ∷ r1 ∷ r2 ∷ record_words plan.third third ∷ []

-- the words of records 0 and 1, and those of the others in what was taken for them
abbrev pub second_words : (r0 r1 : List ℤ) → (second third : Option Span) → Plan → List (List ℤ)
second_words r0 r1 second third plan = third_words r0 r1 (record_words plan.second second) third plan

-- the words of record 0, and those of the others in what was taken for them
abbrev pub first_words : List ℤ → (first second third : Option Span) → Plan → List (List ℤ)
first_words r0 first second third plan = second_words r0 (record_words plan.first first) second third plan

-- the words of all records, in what was taken for them
abbrev pub words_taken : (object first second third : Option Span) → Plan → List (List ℤ)
words_taken object first second third plan = first_words (take plan.object (piece_words object)) first second third plan
