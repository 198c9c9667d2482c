-- What is cut out of pieces and blocks is each record's words.
use Rattle.std.proofs.Common.{◌≡◌, ℕ, ℤ, zero, suc, ◌+◌, ◌-◌, ◌<◌, ◌≤◌, ◌⊎◌, inl, inr, IsTrue, List, [], ◌∷◌, length, take, drop, Option, None, refl, ap, sym, ◌∙◌, subst, arith, length-take, length-drop}
use Rattle.std.proofs.lemmas.Grind.{common_steps}
use Rattle.std.specs.Int.{next_multiple_of}
use Rattle.space_raw.specs.Span.{Span}
use Rattle.mem_rec.specs.declared.MemRec.{MemRec}
use Rattle.mem_rec.specs.declared.Space.{Space}
use Rattle.mem_rec.specs.declared.Space.TheVariants.{Daram, Saram, External}
use Rattle.mem_rec.specs.declared.Attr.{Attr}
use Rattle.mem_rec.specs.declared.Attr.TheVariants.{Scratch, Persist, WriteOnce}
use Rattle.mem_rec.specs.Records.{is_table}
use Rattle.mem_rec.proofs.Valid.{within_limits, bounded_at}
use Rattle.ialg.specs.Records.{record_at, words_of, idle_size}
use Rattle.ialg.proofs.Tables.{object_attr}
use Rattle.record_loans.specs.declared.plan.Source.{Source}
use Rattle.record_loans.specs.declared.plan.Source.TheVariants.{Absent, Own, Shared, InDaram, InSaram, InExternal}
use Rattle.record_loans.specs.declared.plan.Cut.{Cut}
use Rattle.record_loans.specs.declared.plan.Plan.{Plan}
use Rattle.scratch_group.specs.declared.group.Group.{Group}
use Rattle.record_loans.specs.declared.pieces.Pieces.{Pieces}
use Rattle.record_loans.specs.Blocks.{block_words}
use Rattle.scratch_group.specs.Blocks.{block_in}
use Rattle.record_loans.specs.Pieces.{piece_at, piece_words}
use Rattle.scratch_group.specs.Words.{scratch_end, scratch_offset, words_by, record_words, active_words, lasting_words_by, idle_record_words, idle_words}
use Rattle.record_loans.specs.Cuts.{words_from, left, less, cut_words, CutFits, CutsFit}
use Rattle.record_loans.specs.Loans.{held, lent_by, LentFits}
use Rattle.scratch_group.specs.Plans.{cut_by, cut_of, active_plan_of, idle_cut_by, idle_cut_of, idle_plan_of}
use Rattle.scratch_group.proofs.Ends.{next_end, scratch_end-suc, no_alignment, blank_at, any_default}

drop_two : (b at : ℕ) (block : List ℤ) → b ≤ at → drop (at - b) (drop b block) ≡ drop at block
drop_two b at block h = grind (arith, common_steps)

drop_more : (at n : ℕ) (block : List ℤ) → drop n (drop at block) ≡ drop (at + n) block
drop_more at n block = grind (arith, common_steps)

-- one record, where D has each block's words and the records before it end at e

words_is : (a : Attr) (sp : Space) (n at : ℕ) (e : Space → ℕ) (D : Space → List ℤ) (own shared : Option Span) → e sp ≤ at
    → words_from (cut_by a sp n at (e sp)).source (cut_by a sp n at (e sp)).gap (cut_by a sp n at (e sp)).size (piece_words (held (cut_by a sp n at (e sp)).source own shared))
    (drop (e Daram) (D Daram)) (drop (e Saram) (D Saram)) (drop (e External) (D External))
    ≡ words_by a n (piece_words own) (piece_words shared) (drop at (D sp))
words_is Persist sp n at e D own shared h = refl
words_is WriteOnce sp n at e D own shared h = refl
words_is Scratch Daram n at e D own shared h = ap (take n) (drop_two (e Daram) at (D Daram) h)
words_is Scratch Saram n at e D own shared h = ap (take n) (drop_two (e Saram) at (D Saram) h)
words_is Scratch External n at e D own shared h = ap (take n) (drop_two (e External) at (D External) h)

behind : (b at n : ℕ) (block : List ℤ) → b ≤ at → drop n (drop (at - b) (drop b block)) ≡ drop (at + n) block
behind b at n block h = ap (drop n) (drop_two b at block h) ∙ drop_more at n block

left_is : (a : Attr) (sp : Space) (n al : ℕ) (e : Space → ℕ) (space : Space) (d : List ℤ)
    → left (cut_by a sp n (next_multiple_of (e sp) al) (e sp)).source space (cut_by a sp n (next_multiple_of (e sp) al) (e sp)).gap (cut_by a sp n (next_multiple_of (e sp) al) (e sp)).size (drop (e space) d)
    ≡ drop (next_end a sp n al space (e space)) d
left_is Persist sp n al e space d = refl
left_is WriteOnce sp n al e space d = refl
left_is Scratch Daram n al e Daram d = behind (e Daram) (next_multiple_of (e Daram) al) n d (omega arith)
left_is Scratch Daram n al e Saram d = refl
left_is Scratch Daram n al e External d = refl
left_is Scratch Saram n al e Daram d = refl
left_is Scratch Saram n al e Saram d = behind (e Saram) (next_multiple_of (e Saram) al) n d (omega arith)
left_is Scratch Saram n al e External d = refl
left_is Scratch External n al e Daram d = refl
left_is Scratch External n al e Saram d = refl
left_is Scratch External n al e External d = behind (e External) (next_multiple_of (e External) al) n d (omega arith)

gap_fits : (b at n : ℕ) (block : List ℤ) → b ≤ at → (n ≡ 0 → at ≡ b) → length (take n (drop at block)) ≡ n → (at - b) + n ≤ length (drop b block)
gap_fits b at zero block h none long = let e = none refl in omega (arith, length-drop b block)
gap_fits b at (suc n) block h none long = omega (arith, length-drop b block, length-drop at block, length-take (suc n) (drop at block))

pub take_fits : (n : ℕ) (xs : List ℤ) → length (take n xs) ≡ n → n ≤ length xs
take_fits n xs h = omega (arith, length-take n xs)

fits_is : (a : Attr) (sp : Space) (n at : ℕ) (e : Space → ℕ) (D : Space → List ℤ) (own shared : Option Span) → e sp ≤ at → (n ≡ 0 → at ≡ e sp)
    → length (words_by a n (piece_words own) (piece_words shared) (drop at (D sp))) ≡ n
    → CutFits (cut_by a sp n at (e sp)).source (cut_by a sp n at (e sp)).gap (cut_by a sp n at (e sp)).size (length (piece_words (held (cut_by a sp n at (e sp)).source own shared)))
    (length (drop (e Daram) (D Daram))) (length (drop (e Saram) (D Saram))) (length (drop (e External) (D External)))
fits_is Persist sp n at e D own shared h none long = take_fits n (piece_words own) long
fits_is WriteOnce sp n at e D own shared h none long = take_fits n (piece_words shared) long
fits_is Scratch Daram n at e D own shared h none long = gap_fits (e Daram) at n (D Daram) h none long
fits_is Scratch Saram n at e D own shared h none long = gap_fits (e Saram) at n (D Saram) h none long
fits_is Scratch External n at e D own shared h none long = gap_fits (e External) at n (D External) h none long

len_left : (c : Source) (space : Space) (gap size : ℕ) (d : List ℤ) → less c space gap size (length d) ≡ length (left c space gap size d)
len_left Absent space gap size d = refl
len_left Own space gap size d = refl
len_left Shared space gap size d = refl
len_left InDaram Daram gap size d = simp length-drop
len_left InDaram Saram gap size d = refl
len_left InDaram External gap size d = refl
len_left InSaram Daram gap size d = refl
len_left InSaram Saram gap size d = simp length-drop
len_left InSaram External gap size d = refl
len_left InExternal Daram gap size d = refl
len_left InExternal Saram gap size d = refl
len_left InExternal External gap size d = simp length-drop

-- record k, where `rest` has what is left of each block

abbrev rest : List MemRec → Group → ℕ → Space → List ℤ
rest rs g k space = drop (scratch_end rs k space) (block_words (block_in g space))

rest_is : (rs : List MemRec) (g : Group) (k : ℕ) (space : Space)
    → left (cut_of rs k).source space (cut_of rs k).gap (cut_of rs k).size (rest rs g k space) ≡ rest rs g (suc k) space
rest_is rs g k space =
    left_is (record_at rs k).attr (record_at rs k).space (record_at rs k).size (record_at rs k).align (scratch_end rs k) space (block_words (block_in g space))
    ∙ ap (λ n. drop n (block_words (block_in g space))) (sym (scratch_end-suc rs k space))

all_three : {w w' : List ℤ} (cs : List Cut) (os : List (List ℤ)) {d d' s s' x x' : List ℤ} → w ≡ w' → d ≡ d' → s ≡ s' → x ≡ x'
    → w ∷ cut_words cs os d s x ≡ w' ∷ cut_words cs os d' s' x'
all_three cs os e ed es ex = cc

cut_step : (rs : List MemRec) (own shared : Pieces) (g : Group) (k : ℕ) (cs : List Cut) (os : List (List ℤ))
    → cut_words (cut_of rs k ∷ cs) (piece_words (held (cut_of rs k).source (piece_at own k) (piece_at shared k)) ∷ os) (rest rs g k Daram) (rest rs g k Saram) (rest rs g k External)
    ≡ record_words rs own shared g k ∷ cut_words cs os (rest rs g (suc k) Daram) (rest rs g (suc k) Saram) (rest rs g (suc k) External)
cut_step rs own shared g k cs os =
    all_three cs os
    (words_is (record_at rs k).attr (record_at rs k).space (record_at rs k).size (scratch_offset rs k) (scratch_end rs k) (λ space. block_words (block_in g space)) (piece_at own k) (piece_at shared k) (omega arith))
    (rest_is rs g k Daram) (rest_is rs g k Saram) (rest_is rs g k External)

less_is : (rs : List MemRec) (g : Group) (k : ℕ) (space : Space)
    → less (cut_of rs k).source space (cut_of rs k).gap (cut_of rs k).size (length (rest rs g k space)) ≡ length (rest rs g (suc k) space)
less_is rs g k space = len_left (cut_of rs k).source space (cut_of rs k).gap (cut_of rs k).size (rest rs g k space) ∙ ap length (rest_is rs g k space)

pub either : (a b : ℕ) → (a < b) ⊎ (b ≤ a)
either a zero = inr (omega arith)
either zero (suc b) = inl (omega arith)
either (suc a) (suc b) = elim (either a b) [ inl h ↦ inl (omega (arith, h)) | inr h ↦ inr (omega (arith, h)) ]

-- a record has words, and past the end nothing is cut
no_gap : (rs : List MemRec) (k : ℕ) → IsTrue (is_table rs) → (record_at rs k).size ≡ 0 → scratch_offset rs k ≡ scratch_end rs k (record_at rs k).space
no_gap rs k t none = elim (either k (length rs)) [
  | inl there ↦ let b = bounded_at rs k (record_at rs k) (record_at rs k) (within_limits rs t).valid there (sym (any_default rs k (record_at rs k) there)) in absurd (omega (arith, b.some))
  | inr past ↦ rw (blank_at rs k past) (no_alignment (scratch_end rs k Daram))
]

fit_step : (rs : List MemRec) (own shared : Pieces) (g : Group) (k : ℕ) (cs : List Cut) (os : List ℕ) → IsTrue (is_table rs)
    → length (record_words rs own shared g k) ≡ (record_at rs k).size
    → CutsFit cs os (length (rest rs g (suc k) Daram)) (length (rest rs g (suc k) Saram)) (length (rest rs g (suc k) External))
    → CutsFit (cut_of rs k ∷ cs) (length (piece_words (held (cut_of rs k).source (piece_at own k) (piece_at shared k))) ∷ os)
    (length (rest rs g k Daram)) (length (rest rs g k Saram)) (length (rest rs g k External))
fit_step rs own shared g k cs os t long later = (
  fits_is (record_at rs k).attr (record_at rs k).space (record_at rs k).size (scratch_offset rs k) (scratch_end rs k) (λ space. block_words (block_in g space)) (piece_at own k) (piece_at shared k) (omega arith) (no_gap rs k t) long,
  rw (less_is rs g k Daram, less_is rs g k Saram, less_is rs g k External) later,
)

pub first_end : (rs : List MemRec) (space : Space) → IsTrue (is_table rs) → scratch_end rs 1 space ≡ 0
first_end rs space t = scratch_end-suc rs 0 space ∙ ap (λ a. next_end a (record_at rs 0).space (record_at rs 0).size (record_at rs 0).align space 0) (object_attr rs t)

first_rest : (rs : List MemRec) (g : Group) (space : Space) → IsTrue (is_table rs) → rest rs g 1 space ≡ block_words (block_in g space)
first_rest rs g space t = ap (λ n. drop n (block_words (block_in g space))) (first_end rs space t)

pub object_words : (rs : List MemRec) (own shared : Pieces) (g : Group) → IsTrue (is_table rs) → take (record_at rs 0).size (piece_words own.p0) ≡ record_words rs own shared g 0
object_words rs own shared g t =
    sym (ap (λ a. words_by a (record_at rs 0).size (piece_words own.p0) (piece_words shared.p0) (drop (scratch_offset rs 0) (block_words (block_in g (record_at rs 0).space)))) (object_attr rs t))

same_four : {w0 w0' w1 w2 w3 : List ℤ} {ws ws1 ws2 : List (List ℤ)} → w0 ≡ w0' → ws ≡ w1 ∷ ws1 → ws1 ≡ w2 ∷ ws2 → ws2 ≡ w3 ∷ [] → w0 ∷ ws ≡ w0' ∷ w1 ∷ w2 ∷ w3 ∷ []
same_four e0 e1 e2 e3 = cc

-- the words that the plan cuts out are those of the records
all_cut : (rs : List MemRec) (own shared : Pieces) (g : Group) → IsTrue (is_table rs)
    → lent_by (active_plan_of rs) own shared g.daram g.saram g.external ≡ active_words rs own shared g
all_cut rs own shared g t =
    let h2 = piece_words (held (cut_of rs 2).source own.p2 shared.p2) in
    let h3 = piece_words (held (cut_of rs 3).source own.p3 shared.p3) in
    let first = cut_step rs own shared g 1 (cut_of rs 2 ∷ cut_of rs 3 ∷ []) (h2 ∷ h3 ∷ []) in
    let second = cut_step rs own shared g 2 (cut_of rs 3 ∷ []) (h3 ∷ []) in
    let third = cut_step rs own shared g 3 [] [] in
    same_four (object_words rs own shared g t)
    (rw (first_rest rs g Daram t, first_rest rs g Saram t, first_rest rs g External t) at first) second third

pub active_lent : (rs : List MemRec) (plan : Plan) (own shared : Pieces) (g : Group) → plan ≡ active_plan_of rs → IsTrue (is_table rs)
    → lent_by plan own shared g.daram g.saram g.external ≡ active_words rs own shared g
active_lent rs plan own shared g e t = ap (λ (p : Plan). lent_by p own shared g.daram g.saram g.external) e ∙ all_cut rs own shared g t

all_fit : (rs : List MemRec) (own shared : Pieces) (g : Group) → IsTrue (is_table rs)
    → ((k : ℕ) → length (words_of (active_words rs own shared g) k) ≡ (record_at rs k).size)
    → LentFits (active_plan_of rs) own shared g.daram g.saram g.external
all_fit rs own shared g t sizes =
    let h2 = length (piece_words (held (cut_of rs 2).source own.p2 shared.p2)) in
    let h3 = length (piece_words (held (cut_of rs 3).source own.p3 shared.p3)) in
    let third = fit_step rs own shared g 3 [] [] t (sizes 3) tt in
    let second = fit_step rs own shared g 2 (cut_of rs 3 ∷ []) (h3 ∷ []) t (sizes 2) third in
    let first = fit_step rs own shared g 1 (cut_of rs 2 ∷ cut_of rs 3 ∷ []) (h2 ∷ h3 ∷ []) t (sizes 1) second in (
      take_fits (record_at rs 0).size (piece_words own.p0) (ap length (object_words rs own shared g t) ∙ sizes 0),
      rw (first_rest rs g Daram t, first_rest rs g Saram t, first_rest rs g External t) at first,
    )

pub active_fits : (rs : List MemRec) (plan : Plan) (own shared : Pieces) (g : Group) → plan ≡ active_plan_of rs → IsTrue (is_table rs)
    → ((k : ℕ) → length (words_of (active_words rs own shared g) k) ≡ (record_at rs k).size)
    → LentFits plan own shared g.daram g.saram g.external
active_fits rs plan own shared g e t sizes = subst (λ (p : Plan). LentFits p own shared g.daram g.saram g.external) (sym e) (all_fit rs own shared g t sizes)

-- an idle instance

idle_step : (a : Attr) (n : ℕ) (own shared : Option Span) (cs : List Cut) (os : List (List ℤ)) (d s x : List ℤ)
    → cut_words (idle_cut_by a n ∷ cs) (piece_words (held (idle_cut_by a n).source own shared) ∷ os) d s x
    ≡ lasting_words_by a n (piece_words own) (piece_words shared) ∷ cut_words cs os d s x
idle_step Scratch n own shared cs os d s x = refl
idle_step Persist n own shared cs os d s x = refl
idle_step WriteOnce n own shared cs os d s x = refl

idle_object_words : (rs : List MemRec) (own shared : Pieces) → IsTrue (is_table rs) → take (record_at rs 0).size (piece_words own.p0) ≡ idle_record_words rs own shared 0
idle_object_words rs own shared t = sym (ap (λ a. lasting_words_by a (record_at rs 0).size (piece_words own.p0) (piece_words shared.p0)) (object_attr rs t))

pub idle_lent : (rs : List MemRec) (plan : Plan) (own shared : Pieces) → plan ≡ idle_plan_of rs → IsTrue (is_table rs)
    → lent_by plan own shared None None None ≡ idle_words rs own shared
idle_lent rs plan own shared e t =
    let h2 = piece_words (held (idle_cut_of rs 2).source own.p2 shared.p2) in
    let h3 = piece_words (held (idle_cut_of rs 3).source own.p3 shared.p3) in
    ap (λ (p : Plan). lent_by p own shared None None None) e
    ∙ same_four (idle_object_words rs own shared t)
    (idle_step (record_at rs 1).attr (record_at rs 1).size own.p1 shared.p1 (idle_cut_of rs 2 ∷ idle_cut_of rs 3 ∷ []) (h2 ∷ h3 ∷ []) [] [] [])
    (idle_step (record_at rs 2).attr (record_at rs 2).size own.p2 shared.p2 (idle_cut_of rs 3 ∷ []) (h3 ∷ []) [] [] [])
    (idle_step (record_at rs 3).attr (record_at rs 3).size own.p3 shared.p3 [] [] [] [] [])

idle_fit_step : (a : Attr) (n : ℕ) (own shared : Option Span) (cs : List Cut) (os : List ℕ) (d s x : ℕ)
    → length (lasting_words_by a n (piece_words own) (piece_words shared)) ≡ idle_size a n
    → CutsFit cs os d s x → CutsFit (idle_cut_by a n ∷ cs) (length (piece_words (held (idle_cut_by a n).source own shared)) ∷ os) d s x
idle_fit_step Scratch n own shared cs os d s x long later = (tt, later)
idle_fit_step Persist n own shared cs os d s x long later = (take_fits n (piece_words own) long, later)
idle_fit_step WriteOnce n own shared cs os d s x long later = (take_fits n (piece_words shared) long, later)

pub idle_fits : (rs : List MemRec) (plan : Plan) (own shared : Pieces) → plan ≡ idle_plan_of rs → IsTrue (is_table rs)
    → ((k : ℕ) → length (words_of (idle_words rs own shared) k) ≡ idle_size (record_at rs k).attr (record_at rs k).size)
    → LentFits plan own shared None None None
idle_fits rs plan own shared e t sizes =
    let h2 = length (piece_words (held (idle_cut_of rs 2).source own.p2 shared.p2)) in
    let h3 = length (piece_words (held (idle_cut_of rs 3).source own.p3 shared.p3)) in
    let third = idle_fit_step (record_at rs 3).attr (record_at rs 3).size own.p3 shared.p3 [] [] 0 0 0 (sizes 3) tt in
    let second = idle_fit_step (record_at rs 2).attr (record_at rs 2).size own.p2 shared.p2 (idle_cut_of rs 3 ∷ []) (h3 ∷ []) 0 0 0 (sizes 2) third in
    let first = idle_fit_step (record_at rs 1).attr (record_at rs 1).size own.p1 shared.p1 (idle_cut_of rs 2 ∷ idle_cut_of rs 3 ∷ []) (h2 ∷ h3 ∷ []) 0 0 0 (sizes 1) second in
    let whole = ap (λ a. idle_size a (record_at rs 0).size) (object_attr rs t) in
    subst (λ (p : Plan). LentFits p own shared None None None) (sym e)
    (take_fits (record_at rs 0).size (piece_words own.p0) (ap length (idle_object_words rs own shared t) ∙ sizes 0 ∙ whole), first)
