-- For private clauses alone: which records a call may write over, and what a babbler counts.
use Rattle.std.specs.Prelude.{ℕ, ℤ, ◌≡◌, ◌<◌, ◌+◌, ◌%◌, pos, ◌+ℤ◌, List, length, take}
use Rattle.std.specs.List.{All}
use Rattle.mem_rec.specs.declared.Space.{Space}
use Rattle.ialg.specs.History.{word_at}
use Rattle.ialg.specs.Loans.{WritableAt, lent_words}
use Rattle.ialg.specs.Records.{record_at, words_of, AreApart}
use Rattle.ialg.specs.declared.memory.Lent.{Lent}
use Rattle.std.specs.Int.{int_wrap, cast_unsigned, w16}

-- record k is lent, and may be written
abbrev pub MayBeWritten : Lent → ℕ → Type 0
MayBeWritten m k = WritableAt m (record_at m.table.now k).space (record_at m.table.now k).base k

-- the first kept word
abbrev pub block_count : Lent → ℤ
block_count m = word_at (words_of (lent_words m) 1) 0

-- a block was counted, where the kept words can be told from the others and may be written
abbrev pub CountsABlock : Lent → Lent → Type 0
CountsABlock old new = AreApart old.table.now → MayBeWritten old 1 → block_count new ≡ int_wrap w16 (block_count old +ℤ pos 1)

-- every word of record k is this one
abbrev pub IsFilled : ℤ → Lent → ℕ → Type 0
IsFilled word m k = All (λ x. x ≡ word) (words_of (lent_words m) k)

-- the record that begins at `base` of `space` and may be written is filled with this word afterwards
abbrev pub FillsAt : ℤ → Space → ℕ → Lent → Lent → Type 0
FillsAt word space base old new = (k : ℕ) → WritableAt old space base k → AreApart old.table.now → IsFilled word new k

-- a record that was filled with this word is so still
abbrev pub KeepsFilled : ℤ → Lent → Lent → Type 0
KeepsFilled word old new = (k : ℕ) → IsFilled word old k → IsFilled word new k

-- each record that may be written is filled with this word afterwards
abbrev pub FillsAll : ℤ → Lent → Lent → Type 0
FillsAll word old new = AreApart old.table.now → (k : ℕ) → MayBeWritten old k → IsFilled word new k

-- the first word is counted on, where there is one
abbrev pub CountsOnFirst : (old new : List ℤ) → Type 0
CountsOnFirst old new = 0 < length old → word_at new 0 ≡ int_wrap w16 (word_at old 0 +ℤ pos 1)

-- what is told is the count of blocks, where the kept words can be told from the others and may be written
abbrev pub TellsCount : Lent → ℤ → Type 0
TellsCount m told = AreApart m.table.now → MayBeWritten m 1 → told ≡ block_count m

-- the kept words are 0 afterwards, where they can be told from the others and may be written
abbrev pub BeginsToCount : Lent → Lent → Type 0
BeginsToCount old new = AreApart old.table.now → MayBeWritten old 1 → IsFilled (pos 0) new 1

-- the first samples of the block are given: as many as the count of blocks leaves modulo one more than the block has
abbrev pub GivesByCount : Lent → (input out : List ℤ) → Type 0
GivesByCount m input out = AreApart m.table.now → MayBeWritten m 1
    → out ≡ take (cast_unsigned w16 (block_count m) % (length input + 1)) input
