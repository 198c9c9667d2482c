-- What was taken for a loan holds the records that the plan cuts, and is put back as it was taken.
use Rattle.std.proofs.Common.{◌≡◌, ℕ, ℤ, ◌+◌, ◌≤◌, List, [], length, take, drop, Option, Some, None, refl, sym, ◌∙◌, arith, length-take, length-drop}
use Rattle.std.proofs.lemmas.List.{length-take-le, take-take, drop-take}
use Rattle.std.proofs.lemmas.Grind.{common_steps}
use Rattle.mem_rec.specs.declared.Space.{Space}
use Rattle.mem_rec.specs.declared.Space.TheVariants.{Daram, Saram, External}
use Rattle.space_raw.specs.Span.{Span}
use Rattle.record_loans.specs.declared.block.ScratchBlock.{ScratchBlock}
use Rattle.record_loans.specs.declared.plan.Source.{Source}
use Rattle.record_loans.specs.declared.plan.Source.TheVariants.{Absent, Own, Shared, InDaram, InSaram, InExternal}
use Rattle.record_loans.specs.declared.plan.Cut.{Cut}
use Rattle.record_loans.specs.declared.plan.Plan.{Plan}
use Rattle.record_loans.specs.declared.pieces.Pieces.{Pieces}
use Rattle.record_loans.specs.Cuts.{start_of, words_from, left, less, CutFits}
use Rattle.record_loans.specs.Pieces.{piece_words, IsSamePiece, SamePieces}
use Rattle.record_loans.specs.Blocks.{block_words, IsSameBlock}
use Rattle.record_loans.specs.Loans.{held, lent_from, LentFits}
use Rattle.record_loans.specs.Taken.{front_of, behind, joined, IsFrontOf, taken_from, own_left, shared_left, block_left, CanPut, own_put, shared_put, block_put, words_at, HasWords, taken, taken_words, record_words, words_taken, HasRecord, CutsOut, PutsBack}
use Rattle.record_loans.proofs.PieceLemmas.{reflexive}

-- ---- what is taken has the record's words, and what is left has the others

no_front : (n g : ℕ) (ws : List ℤ) → length ws ≡ 0 → take n (drop g ws) ≡ []
no_front n g ws none = grind (arith, common_steps, none)

no_back : (n g : ℕ) (ws : List ℤ) → length ws ≡ 0 → drop n (drop g ws) ≡ []
no_back n g ws none = grind (arith, common_steps, none)

in_front : (n g : ℕ) (ws : List ℤ) → take n (drop g (take (g + n) ws)) ≡ take n (drop g ws)
in_front n g ws = rw (drop-take g n ws) (take-take n n (drop g ws) (omega arith))

behind_both : (n g : ℕ) (ws : List ℤ) → drop (g + n) ws ≡ drop n (drop g ws)
behind_both n g ws = grind (arith, common_steps)

front_words : (g n : ℕ) (b : Option ScratchBlock) → words_at g n (front_of (g + n) b) ≡ take n (drop g (block_words b))
front_words g n None = sym (no_front n g [] refl)
front_words g n (Some b) = in_front n g b.piece.words

piece_front : (n : ℕ) (p : Option Span) → words_at 0 n p ≡ take n (piece_words p)
piece_front n None = sym (no_front n 0 [] refl)
piece_front n (Some p) = refl

back_words : (g n : ℕ) (b : Option ScratchBlock) → block_words (behind (g + n) b) ≡ drop n (drop g (block_words b))
back_words g n None = sym (no_back n g [] refl)
back_words g n (Some b) = behind_both n g b.piece.words

pub record_is : (src : Source) (g n : ℕ) (own shared : Option Span) (d s e : Option ScratchBlock)
    → words_at (start_of src g) n (taken_from src (g + n) own shared d s e)
    ≡ words_from src g n (piece_words (held src own shared)) (block_words d) (block_words s) (block_words e)
record_is Absent g n own shared d s e = refl
record_is Own g n own shared d s e = piece_front n own
record_is Shared g n own shared d s e = piece_front n shared
record_is InDaram g n own shared d s e = front_words g n d
record_is InSaram g n own shared d s e = front_words g n s
record_is InExternal g n own shared d s e = front_words g n e

pub rest_is : (src : Source) (sp : Space) (g n : ℕ) (b : Option ScratchBlock) → block_words (block_left src sp (g + n) b) ≡ left src sp g n (block_words b)
rest_is Absent sp g n b = refl
rest_is Own sp g n b = refl
rest_is Shared sp g n b = refl
rest_is InDaram Daram g n b = back_words g n b
rest_is InDaram Saram g n b = refl
rest_is InDaram External g n b = refl
rest_is InSaram Daram g n b = refl
rest_is InSaram Saram g n b = back_words g n b
rest_is InSaram External g n b = refl
rest_is InExternal Daram g n b = refl
rest_is InExternal Saram g n b = refl
rest_is InExternal External g n b = back_words g n b

left_long : (src : Source) (sp : Space) (g n : ℕ) (ws : List ℤ) → length (left src sp g n ws) ≡ less src sp g n (length ws)
left_long Absent sp g n ws = refl
left_long Own sp g n ws = refl
left_long Shared sp g n ws = refl
left_long InDaram Daram g n ws = grind (arith, length-drop)
left_long InDaram Saram g n ws = refl
left_long InDaram External g n ws = refl
left_long InSaram Daram g n ws = refl
left_long InSaram Saram g n ws = grind (arith, length-drop)
left_long InSaram External g n ws = refl
left_long InExternal Daram g n ws = refl
left_long InExternal Saram g n ws = refl
left_long InExternal External g n ws = grind (arith, length-drop)

pub rest_long : (src : Source) (sp : Space) (g n : ℕ) (b : Option ScratchBlock) → length (block_words (block_left src sp (g + n) b)) ≡ less src sp g n (length (block_words b))
rest_long src sp g n b = rw (rest_is src sp g n b) (left_long src sp g n (block_words b))

-- ---- it has enough of them

front_long : (g n : ℕ) (b : Option ScratchBlock) → g + n ≤ length (block_words b) → HasWords g n (front_of (g + n) b)
front_long g n None fit = tt
front_long g n (Some b) fit = grind (arith, length-take)

piece_long : (n : ℕ) (p : Option Span) → n ≤ length (piece_words p) → HasWords 0 n p
piece_long n None fit = tt
piece_long n (Some p) fit = omega (arith, fit)

pub record_fits : (src : Source) (g n : ℕ) (own shared : Option Span) (d s e : Option ScratchBlock)
    → CutFits src g n (length (piece_words (held src own shared))) (length (block_words d)) (length (block_words s)) (length (block_words e))
    → HasWords (start_of src g) n (taken_from src (g + n) own shared d s e)
record_fits Absent g n own shared d s e fit = tt
record_fits Own g n own shared d s e fit = piece_long n own fit
record_fits Shared g n own shared d s e fit = piece_long n shared fit
record_fits InDaram g n own shared d s e fit = front_long g n d fit
record_fits InSaram g n own shared d s e fit = front_long g n s fit
record_fits InExternal g n own shared d s e fit = front_long g n e fit

-- ---- it is put back as it was taken

pub same_block : (b : Option ScratchBlock) → IsSameBlock b b
same_block None = (refl, refl)
same_block (Some b) = ((refl, refl, refl), refl)

-- the front of a block and the rest of it, with other words in them
record Halves (n : ℕ) (b : Option ScratchBlock) (front : Option Span) (rest : Option ScratchBlock) : Type 0 where
  adjoins : IsFrontOf front rest
  again : front_of n (joined front rest) ≡ front
  left : behind n (joined front rest) ≡ rest
  same : IsSameBlock b (joined front rest)

halves : (n : ℕ) (b : Option ScratchBlock) (front : Option Span) (rest : Option ScratchBlock)
    → n ≤ length (block_words b) → IsSamePiece (front_of n b) front → IsSameBlock (behind n b) rest → Halves n b front rest
halves n None front None fit same_front same_rest = rw same_front (record { adjoins = refl; again = refl; left = refl; same = (refl, refl) })
halves n None front (Some r) fit same_front same_rest = let bad : Some r.piece ≡ None = same_rest.0 in cc
halves n (Some b) None rest fit same_front same_rest = absurd same_front
halves n (Some b) (Some f) None fit same_front same_rest = absurd same_rest.0
halves n (Some b) (Some f) (Some r) fit same_front same_rest =
    let long : length f.words ≡ n = same_front.2 ∙ length-take-le n b.piece.words fit in
    record {
      adjoins = grind (arith, same_front, same_rest, long);
      again = grind (arith, common_steps, long);
      left = grind (arith, common_steps, long, same_front, same_rest);
      same = grind (arith, common_steps, long, same_front, same_rest);
    }

module _ (c : Cut) (own shared : Option Span) (d s e : Option ScratchBlock) where
  -- what was taken of these, and the blocks behind it, with other words in them
  record Lent (p : Option Span) (d' s' e' : Option ScratchBlock) : Type 0 where
    piece : IsSamePiece (taken c own shared d s e) p
    daram : IsSameBlock (block_left c.source Daram (taken_words c) d) d'
    saram : IsSameBlock (block_left c.source Saram (taken_words c) s) s'
    external : IsSameBlock (block_left c.source External (taken_words c) e) e'

  -- it was put back: each is as it was but for its words, and what is taken once more is what was put
  pub record Back (p : Option Span) (d' s' e' : Option ScratchBlock) (own2 shared2 : Option Span) (d2 s2 e2 : Option ScratchBlock) : Type 0 where
    pub again : CutsOut c own2 shared2 d2 s2 e2 p (own_left c.source own) (shared_left c.source shared) d' s' e'
    pub same_own : IsSamePiece own own2
    pub same_shared : IsSamePiece shared shared2
    pub same_daram : IsSameBlock d d2
    pub same_saram : IsSameBlock s s2
    pub same_external : IsSameBlock e e2

  abbrev Fits : Type 0
  Fits = CutFits c.source c.gap c.size (length (piece_words (held c.source own shared))) (length (block_words d)) (length (block_words s)) (length (block_words e))

-- by cases of the source

can_put_from : (src : Source) (g n : ℕ) (own shared : Option Span) (d s e : Option ScratchBlock) (p : Option Span) (d' s' e' : Option ScratchBlock)
    → Fits (record { source = src; gap = g; size = n }) own shared d s e
    → Lent (record { source = src; gap = g; size = n }) own shared d s e p d' s' e' → CanPut src p (own_left src own) (shared_left src shared) d' s' e'
can_put_from Absent g n own shared d s e p d' s' e' fit lent = lent.piece
can_put_from Own g n own shared d s e p d' s' e' fit lent = refl
can_put_from Shared g n own shared d s e p d' s' e' fit lent = refl
can_put_from InDaram g n own shared d s e p d' s' e' fit lent = (halves (g + n) d p d' fit lent.piece lent.daram).adjoins
can_put_from InSaram g n own shared d s e p d' s' e' fit lent = (halves (g + n) s p s' fit lent.piece lent.saram).adjoins
can_put_from InExternal g n own shared d s e p d' s' e' fit lent = (halves (g + n) e p e' fit lent.piece lent.external).adjoins

back_from : (src : Source) (g n : ℕ) (own shared : Option Span) (d s e : Option ScratchBlock) (p : Option Span) (d' s' e' : Option ScratchBlock)
    → Fits (record { source = src; gap = g; size = n }) own shared d s e
    → Lent (record { source = src; gap = g; size = n }) own shared d s e p d' s' e'
    → Back (record { source = src; gap = g; size = n }) own shared d s e p d' s' e'
    (own_put src p (own_left src own)) (shared_put src p (shared_left src shared)) (block_put src Daram p d') (block_put src Saram p s') (block_put src External p e')
back_from Absent g n own shared d s e p d' s' e' fit lent =
    record { again = record { taken = lent.piece; own_left = refl; shared_left = refl; daram = refl; saram = refl; external = refl }; same_own = reflexive own; same_shared = reflexive shared; same_daram = lent.daram; same_saram = lent.saram; same_external = lent.external }
back_from Own g n own shared d s e p d' s' e' fit lent =
    record { again = record { taken = refl; own_left = refl; shared_left = refl; daram = refl; saram = refl; external = refl }; same_own = lent.piece; same_shared = reflexive shared; same_daram = lent.daram; same_saram = lent.saram; same_external = lent.external }
back_from Shared g n own shared d s e p d' s' e' fit lent =
    record { again = record { taken = refl; own_left = refl; shared_left = refl; daram = refl; saram = refl; external = refl }; same_own = reflexive own; same_shared = lent.piece; same_daram = lent.daram; same_saram = lent.saram; same_external = lent.external }
back_from InDaram g n own shared d s e p d' s' e' fit lent = let half = halves (g + n) d p d' fit lent.piece lent.daram in
    record { again = record { taken = sym half.again; own_left = refl; shared_left = refl; daram = sym half.left; saram = refl; external = refl }; same_own = reflexive own; same_shared = reflexive shared; same_daram = half.same; same_saram = lent.saram; same_external = lent.external }
back_from InSaram g n own shared d s e p d' s' e' fit lent = let half = halves (g + n) s p s' fit lent.piece lent.saram in
    record { again = record { taken = sym half.again; own_left = refl; shared_left = refl; daram = refl; saram = sym half.left; external = refl }; same_own = reflexive own; same_shared = reflexive shared; same_daram = lent.daram; same_saram = half.same; same_external = lent.external }
back_from InExternal g n own shared d s e p d' s' e' fit lent = let half = halves (g + n) e p e' fit lent.piece lent.external in
    record { again = record { taken = sym half.again; own_left = refl; shared_left = refl; daram = refl; saram = refl; external = sym half.left }; same_own = reflexive own; same_shared = reflexive shared; same_daram = lent.daram; same_saram = lent.saram; same_external = half.same }

-- a record was taken, lent, and is put back

-- there are enough words for a cut
abbrev CutsFitsIn : Cut → (own shared : Option Span) → (d s e : Option ScratchBlock) → Type 0
CutsFitsIn c own shared d s e = CutFits c.source c.gap c.size (length (piece_words (held c.source own shared))) (length (block_words d)) (length (block_words s)) (length (block_words e))

module _ {c : Cut} {own shared : Option Span} {d s e : Option ScratchBlock} {t own1 shared1 : Option Span} {d1 s1 e1 : Option ScratchBlock}
    (fit : CutsFitsIn c own shared d s e) (cut : CutsOut c own shared d s e t own1 shared1 d1 s1 e1) where
  pub has_record : HasRecord c t
  has_record = rw cut.taken (record_fits c.source c.gap c.size own shared d s e fit)

  module _ (p : Option Span) (d' s' e' : Option ScratchBlock) (piece : IsSamePiece t p) (daram : IsSameBlock d1 d') (saram : IsSameBlock s1 s') (external : IsSameBlock e1 e') where
    lent : Lent c own shared d s e p d' s' e'
    lent = record { piece = rw cut.taken at piece; daram = rw cut.daram at daram; saram = rw cut.saram at saram; external = rw cut.external at external }

    can_put : CanPut c.source p own1 shared1 d' s' e'
    can_put = rw (cut.own_left, cut.shared_left) (can_put_from c.source c.gap c.size own shared d s e p d' s' e' fit lent)

    put_back : {own2 shared2 : Option Span} {d2 s2 e2 : Option ScratchBlock}
        → PutsBack c p own1 shared1 d' s' e' own2 shared2 d2 s2 e2 → Back c own shared d s e p d' s' e' own2 shared2 d2 s2 e2
    put_back put = rw (put.own_back, put.shared_back, put.daram, put.saram, put.external, cut.own_left, cut.shared_left)
        (back_from c.source c.gap c.size own shared d s e p d' s' e' fit lent)

-- ---- the words of all records

module _ {c : Cut} {own shared : Option Span} {d s e : Option ScratchBlock} {t own1 shared1 : Option Span} {d1 s1 e1 : Option ScratchBlock} (cut : CutsOut c own shared d s e t own1 shared1 d1 s1 e1) where
  words_are : words_from c.source c.gap c.size (piece_words (held c.source own shared)) (block_words d) (block_words s) (block_words e) ≡ record_words c t
  words_are = rw cut.taken (sym (record_is c.source c.gap c.size own shared d s e))

  daram_is : left c.source Daram c.gap c.size (block_words d) ≡ block_words d1
  daram_is = rw cut.daram (sym (rest_is c.source Daram c.gap c.size d))

  saram_is : left c.source Saram c.gap c.size (block_words s) ≡ block_words s1
  saram_is = rw cut.saram (sym (rest_is c.source Saram c.gap c.size s))

  external_is : left c.source External c.gap c.size (block_words e) ≡ block_words e1
  external_is = rw cut.external (sym (rest_is c.source External c.gap c.size e))

  daram_long : less c.source Daram c.gap c.size (length (block_words d)) ≡ length (block_words d1)
  daram_long = rw cut.daram (sym (rest_long c.source Daram c.gap c.size d))

  saram_long : less c.source Saram c.gap c.size (length (block_words s)) ≡ length (block_words s1)
  saram_long = rw cut.saram (sym (rest_long c.source Saram c.gap c.size s))

  external_long : less c.source External c.gap c.size (length (block_words e)) ≡ length (block_words e1)
  external_long = rw cut.external (sym (rest_long c.source External c.gap c.size e))

module _ (plan : Plan) (own shared : Pieces) {d s e d1 s1 e1 : Option ScratchBlock} {t1 o1 h1 : Option Span} (fit : LentFits plan own shared d s e)
    (first : CutsOut plan.first own.p1 shared.p1 d s e t1 o1 h1 d1 s1 e1) where
  pub second_fits : CutsFitsIn plan.second own.p2 shared.p2 d1 s1 e1
  second_fits = rw (daram_long first, saram_long first, external_long first) at fit.1.1.0

  pub third_fits : {d2 s2 e2 : Option ScratchBlock} {t2 o2 h2 : Option Span} → CutsOut plan.second own.p2 shared.p2 d1 s1 e1 t2 o2 h2 d2 s2 e2
      → CutsFitsIn plan.third own.p3 shared.p3 d2 s2 e2
  third_fits second = rw (daram_long first, saram_long first, external_long first, daram_long second, saram_long second, external_long second) at fit.1.1.1.0

module _ (plan : Plan) (own shared : Pieces) {d s e d1 s1 e1 d2 s2 e2 d3 s3 e3 : Option ScratchBlock} {t1 o1 h1 t2 o2 h2 t3 o3 h3 : Option Span}
    (first : CutsOut plan.first own.p1 shared.p1 d s e t1 o1 h1 d1 s1 e1)
    (second : CutsOut plan.second own.p2 shared.p2 d1 s1 e1 t2 o2 h2 d2 s2 e2)
    (third : CutsOut plan.third own.p3 shared.p3 d2 s2 e2 t3 o3 h3 d3 s3 e3) where
  pub taken_are_lent : lent_from own shared d s e plan ≡ words_taken own.p0 t1 t2 t3 plan
  taken_are_lent = rw (
    daram_is first,
    saram_is first,
    external_is first,
    daram_is second,
    saram_is second,
    external_is second,
    words_are first,
    words_are second,
    words_are third,
  ) refl

-- the three records of a plan were cut out, lent, and are put back, the last first: what may be asked before each, and what holds after all
module _ (plan : Plan) (own shared : Pieces) {d s e d1 s1 e1 d2 s2 e2 d3 s3 e3 : Option ScratchBlock} {t1 o1 h1 t2 o2 h2 t3 o3 h3 : Option Span} (fit : LentFits plan own shared d s e)
    (first : CutsOut plan.first own.p1 shared.p1 d s e t1 o1 h1 d1 s1 e1) (second : CutsOut plan.second own.p2 shared.p2 d1 s1 e1 t2 o2 h2 d2 s2 e2)
    (third : CutsOut plan.third own.p3 shared.p3 d2 s2 e2 t3 o3 h3 d3 s3 e3)
    (p1 p2 p3 : Option Span) (same1 : IsSamePiece t1 p1) (same2 : IsSamePiece t2 p2) (same3 : IsSamePiece t3 p3) where
  pub third_can_put : CanPut plan.third.source p3 o3 h3 d3 s3 e3
  third_can_put = can_put (third_fits plan own shared fit first second) third p3 _ _ _ same3 (same_block _) (same_block _) (same_block _)

  module _ {o3' h3' : Option Span} {d2' s2' e2' : Option ScratchBlock} (put3 : PutsBack plan.third p3 o3 h3 d3 s3 e3 o3' h3' d2' s2' e2') where
    back3 : Back plan.third own.p3 shared.p3 d2 s2 e2 p3 d3 s3 e3 o3' h3' d2' s2' e2'
    back3 = put_back (third_fits plan own shared fit first second) third p3 _ _ _ same3 (same_block _) (same_block _) (same_block _) put3

    pub second_can_put : CanPut plan.second.source p2 o2 h2 d2' s2' e2'
    second_can_put = can_put (second_fits plan own shared fit first) second p2 _ _ _ same2 back3.same_daram back3.same_saram back3.same_external

    module _ {o2' h2' : Option Span} {d1' s1' e1' : Option ScratchBlock} (put2 : PutsBack plan.second p2 o2 h2 d2' s2' e2' o2' h2' d1' s1' e1') where
      back2 : Back plan.second own.p2 shared.p2 d1 s1 e1 p2 d2' s2' e2' o2' h2' d1' s1' e1'
      back2 = put_back (second_fits plan own shared fit first) second p2 _ _ _ same2 back3.same_daram back3.same_saram back3.same_external put2

      pub first_can_put : CanPut plan.first.source p1 o1 h1 d1' s1' e1'
      first_can_put = can_put fit.1.0 first p1 _ _ _ same1 back2.same_daram back2.same_saram back2.same_external

      module _ {o1' h1' : Option Span} {d' s' e' : Option ScratchBlock} (put1 : PutsBack plan.first p1 o1 h1 d1' s1' e1' o1' h1' d' s' e') where
        back1 : Back plan.first own.p1 shared.p1 d s e p1 d1' s1' e1' o1' h1' d' s' e'
        back1 = put_back fit.1.0 first p1 _ _ _ same1 back2.same_daram back2.same_saram back2.same_external put1

        -- all is as it was but for the words, and what is lent of it once more is what was put
        pub record AllBack : Type 0 where
          pub again : (o h : Option Span) → lent_from (record { p0 = o; p1 = o1'; p2 = o2'; p3 = o3' }) (record { p0 = h; p1 = h1'; p2 = h2'; p3 = h3' }) d' s' e' plan ≡ words_taken o p1 p2 p3 plan
          pub own_back : (o : Option Span) → IsSamePiece own.p0 o → SamePieces own (record { p0 = o; p1 = o1'; p2 = o2'; p3 = o3' })
          pub shared_back : SamePieces shared (record { p0 = shared.p0; p1 = h1'; p2 = h2'; p3 = h3' })
          pub daram : IsSameBlock d d'
          pub saram : IsSameBlock s s'
          pub external : IsSameBlock e e'

        pub all_back : AllBack
        all_back = record {
          again = λ o h. taken_are_lent plan (record { p0 = o; p1 = o1'; p2 = o2'; p3 = o3' }) (record { p0 = h; p1 = h1'; p2 = h2'; p3 = h3' }) back1.again back2.again back3.again;
          own_back = λ o same. record { p0 = same; p1 = back1.same_own; p2 = back2.same_own; p3 = back3.same_own };
          shared_back = record { p0 = reflexive shared.p0; p1 = back1.same_shared; p2 = back2.same_shared; p3 = back3.same_shared };
          daram = back1.same_daram;
          saram = back1.same_saram;
          external = back1.same_external;
        }
