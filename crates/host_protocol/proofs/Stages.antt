-- What each sort of calls makes of an instance's stage.
use Rattle.std.proofs.Common.{◌≡◌, ◌≢◌, ℕ, Bool, true, false, cond, List, [], ◌∷◌, ◌++◌, Option, Some, None, refl, ap, sym, ◌∙◌, subst, ◌⊎◌, inl, inr}
use Rattle.std.specs.Prelude.{is_some, ◌&&◌, nat_eq, max, if◌then◌else◌, ◌+◌}
use Rattle.std.specs.List.{list_any}
use Rattle.std.specs.Int.{next_multiple_of}
use Rattle.std.specs.Option.{option_eq}
use Rattle.std.proofs.lemmas.Bool.{eq-eqb}
use Rattle.std.proofs.lemmas.Bool.Decides.{eqb_tells}
use Rattle.std.proofs.lemmas.Option.{none-some, same_Some}
use Rattle.relocate.proofs.RangeTests.{either}
use Rattle.mem_rec.specs.declared.TheConstants.{LEAST_ALIGNMENT}
use Rattle.mem_rec.specs.declared.MemRec.{MemRec}
use Rattle.mem_rec.specs.declared.Space.{Space}
use Rattle.mem_rec.specs.Records.{is_scratch, same_space}
use Rattle.mem_rec.specs.Layout.{end_from, align_from, scratch_records}
use Rattle.ialg.specs.Log as call_of
use Rattle.ialg.specs.Log.{Called, Init, Activate, Deactivate, Moved}
use Rattle.ialg.specs.Records.{unplaced}
use Rattle.host_map.specs.declared.placed.Placed.{Placed}
use Rattle.host_map.specs.MemoryMap.{MemoryMap, all_spaces}
use Rattle.host_map.specs.Creation.{replaces, replaced_block}
use Rattle.host_map.specs.Activity.{Activity, activated, deactivated, without_active, with_at}
use Rattle.host_spec.specs.State.{Living, State}
use Rattle.host_spec.specs.Steps.{activating}
use Rattle.ialg.specs.Meaning.{Meaning}
use Rattle.host_protocol.specs.Protocol.{rest_calls, turn_calls, call_of_active, has_words_in, move_calls, moves_calls}
use Rattle.host_protocol.specs.Order.{Stage, Idle, Active, stage_by, stage_then, stage_of, ActiveLive}

-- ---- what a test of an active member tells

pub test_of : (a : Option ℕ) (j : ℕ) → ((option_eq nat_eq a (Some j) ≡ true) × (a ≡ Some j)) ⊎ ((option_eq nat_eq a (Some j) ≡ false) × (a ≡ Some j → ⊥))
test_of None j = inr (refl, λ e. none-some j e)
test_of (Some k) j = either (eqb_tells k j) (λ e. inl (e.0, ap Some e.1)) (λ e. inr (e.0, λ s. e.1 (same_Some k j s)))

pub itself : (j : ℕ) → option_eq nat_eq (Some j) (Some j) ≡ true
itself j = eq-eqb j j refl

-- the stage of an instance, by its group's active member
abbrev pub stage_with : Option ℕ → ℕ → Stage
stage_with active j = if option_eq nat_eq active (Some j) then Active else Idle

pub at_it : {A : Type 0} (all : ℕ → A) (n : ℕ) (x : A) → with_at all n x n ≡ x
at_it all n x = ap (λ b. cond b x (all n)) (eq-eqb n n refl)

-- ---- each sort of calls

-- the active member is deactivated
rests : (a : Option ℕ) (j : ℕ) → stage_by (stage_with a j) (rest_calls a j) ≡ Some Idle
rests a j = either (test_of a j) (λ e. rw e.0 refl) (λ e. rw e.0 refl)

-- it is deactivated, and told
pub rests_and_moves : (a : Option ℕ) (j : ℕ) → stage_by (stage_with a j) (Moved ∷ rest_calls a j) ≡ Some Idle
rests_and_moves a j = ap (λ (q : Option Stage). stage_then q Moved) (rests a j)

-- another instance takes the turn
turns_beside : (i : ℕ) (a : Option ℕ) (j : ℕ) (b : Bool) → j ≢ i → option_eq nat_eq a (Some i) ≡ b
    → stage_by (stage_with a j) (turn_calls i a j) ≡ Some (stage_with (if b then a else Some i) j)
turns_beside i a j true apart e = rw e refl
turns_beside i a j false apart e =
    let other : nat_eq j i ≡ false = either (eqb_tells j i) (λ s. absurd (apart s.1)) (λ s. s.0) in
    let none : option_eq nat_eq (Some i) (Some j) ≡ false = either (test_of (Some i) j) (λ s. absurd (apart (sym (same_Some i j s.1)))) (λ s. s.0) in
    rw (e, other, none) (rests a j)

-- an active instance takes these two
pub data IsOfActive : Called → Type 0 where
  Processed : IsOfActive call_of.Process
  Commanded : IsOfActive call_of.Command

of_active : (call : Called) → IsOfActive call → stage_then (Some Active) call ≡ Some Active
of_active call_of.Process Processed = refl
of_active call_of.Command Commanded = refl
of_active Init is = elim is [ ]
of_active Activate is = elim is [ ]
of_active Deactivate is = elim is [ ]
of_active Moved is = elim is [ ]

-- its own turn
turns : (i : ℕ) (a : Option ℕ) (call : Called) → IsOfActive call → stage_by (stage_with a i) (call_of_active call i a i) ≡ Some Active
turns i a call is =
    either (test_of a i)
    (λ e. let was : stage_with a i ≡ Active = rw e.0 refl in ap (λ (s : Stage). stage_by s (call_of_active call i a i)) was ∙ rw (eq-eqb i i refl, e.0) (of_active call is))
    (λ e. let was : stage_with a i ≡ Idle = rw e.0 refl in ap (λ (s : Stage). stage_by s (call_of_active call i a i)) was ∙ rw (eq-eqb i i refl, e.0) (of_active call is))

-- a move
pub moves_by : (b : Bool) (s : Stage) → (s ≡ Idle) ⊎ (s ≡ Active) → stage_by s (if b then Moved ∷ [] else []) ≡ Some s
moves_by true s (inl e) = rw e refl
moves_by true s (inr e) = rw e refl
moves_by false s lives = refl

pub is_born : (a : Option ℕ) (j : ℕ) → (stage_with a j ≡ Idle) ⊎ (stage_with a j ≡ Active)
is_born a j = either (test_of a j) (λ e. inr (rw e.0 refl)) (λ e. inl (rw e.0 refl))

-- calls behind calls
pub stage_behind : (from stage : Stage) (made had : List Called) → stage_by from had ≡ Some stage → stage_by from (made ++ had) ≡ stage_by stage made
stage_behind from stage [] had e = e
stage_behind from stage (call ∷ made) had e = ap (λ (s : Option Stage). stage_then s call) (stage_behind from stage made had e)

pub moves_all : {M : Type 0} (kinds : Meaning M) (before : State M) (j : ℕ) (s : Stage) (blocks : List Placed) → (s ≡ Idle) ⊎ (s ≡ Active)
    → stage_by s (moves_calls kinds before blocks j) ≡ Some s
moves_all kinds before j s [] lives = refl
moves_all kinds before j s (b ∷ blocks) lives =
    stage_behind s s (moves_calls kinds before blocks j) (move_calls kinds before b j) (moves_by (has_words_in kinds before b.owner j) s lives)
    ∙ moves_all kinds before j s blocks lives

-- ---- what becomes of an instance of group k, where group g has another activity

pub beside : (all : ℕ → Activity) (g : ℕ) (d : Activity) (k j : ℕ) (calls : List Called)
    → (k ≡ g → stage_by (stage_with (all g).active j) calls ≡ Some (stage_with d.active j))
    → (k ≢ g → stage_by (stage_with (all k).active j) calls ≡ Some (stage_with (all k).active j))
    → stage_by (stage_with (all k).active j) calls ≡ Some (stage_with (with_at all g d k).active j)
beside all g d k j calls here apart =
    either (eqb_tells k g)
    (λ e. subst (λ (t : Bool). stage_by (stage_with (all k).active j) calls ≡ Some (stage_with (cond t d (all k)).active j)) (sym e.0)
    (subst (λ (m : ℕ). stage_by (stage_with (all m).active j) calls ≡ Some (stage_with d.active j)) (sym e.1) (here e.1)))
    (λ e. subst (λ (t : Bool). stage_by (stage_with (all k).active j) calls ≡ Some (stage_with (cond t d (all k)).active j)) (sym e.0) (apart e.1))

module _ {M : Type 0} (before : State M) (live : ActiveLive before) (j : ℕ) (x : Living M) (there : before.living j ≡ Some x) where
  -- it is no active member of another group
  elsewhere : (g : ℕ) → x.group ≢ g → option_eq nat_eq (before.activity g).active (Some j) ≡ false
  elsewhere g apart =
      either (test_of (before.activity g).active j)
      (λ e. let y = live g j e.1 in absurd (apart (ap (λ (z : Living M). z.group) (same_Some x y.0 (sym there ∙ y.1.0)) ∙ y.1.1)))
      (λ e. e.0)

  -- its group, or another one, rests
  pub released : (g : ℕ)
      → stage_by (stage_with (before.activity x.group).active j) (rest_calls (before.activity g).active j)
      ≡ Some (stage_with (with_at before.activity g (deactivated (before.activity g)) x.group).active j)
  released g =
      beside before.activity g (deactivated (before.activity g)) x.group j (rest_calls (before.activity g).active j)
      (λ same. rests (before.activity g).active j) (λ apart. rw (elsewhere g apart) refl)

  -- another instance is activated, in its group or another one
  turned_beside : (i g : ℕ) → j ≢ i
      → stage_by (stage_with (before.activity x.group).active j) (turn_calls i (before.activity g).active j)
      ≡ Some (stage_with (with_at before.activity g (activated i (before.activity g)) x.group).active j)
  turned_beside i g apart =
      beside before.activity g (activated i (before.activity g)) x.group j (turn_calls i (before.activity g).active j)
      (λ same.
      either (test_of (before.activity g).active i)
      (λ e. turns_beside i (before.activity g).active j true apart e.0 ∙ rw e.0 refl)
      (λ e. turns_beside i (before.activity g).active j false apart e.0 ∙ rw e.0 refl))
      (λ other.
      let none : nat_eq j i ≡ false = either (eqb_tells j i) (λ s. absurd (apart s.1)) (λ s. s.0) in
      either (test_of (before.activity g).active i) (λ e. rw e.0 refl) (λ e. rw (e.0, none, elsewhere g other) refl))

  -- another instance goes
  pub left_beside : (i g : ℕ) → j ≢ i
      → Some (stage_with (before.activity x.group).active j)
      ≡ Some (stage_with (with_at before.activity g (without_active i (before.activity g)) x.group).active j)
  left_beside i g apart =
      beside before.activity g (without_active i (before.activity g)) x.group j []
      (λ same.
      either (test_of (before.activity g).active i)
      (λ e.
      let none : option_eq nat_eq (before.activity g).active (Some j) ≡ false =
      either (test_of (before.activity g).active j) (λ s. absurd (apart (same_Some j i (sym s.1 ∙ e.1)))) (λ s. s.0) in
      rw (none, e.0) refl)
      (λ e. rw e.0 refl))
      (λ other. refl)

-- an instance is activated itself
turned_itself : (i : ℕ) (a : Activity) → stage_with (activated i a).active i ≡ Active
turned_itself i a =
    either (test_of a.active i) (λ e. rw (e.0, e.0) refl) (λ e. rw (e.0, itself i) refl)

module _ {M : Type 0} (before : State M) (live : ActiveLive before) (i : ℕ) (x : Living M) (there : before.living i ≡ Some x) (call : Called) (is : IsOfActive call) where
  -- the call is made of instance i, once it is active; x' is what it is afterwards
  pub taken_turn : (x' : Living M) → x'.group ≡ x.group → (j : ℕ) (y : Living M) → (activating before i x').living j ≡ Some y
      → stage_by (stage_of before j (before.living j)) (call_of_active call i (before.activity x.group).active j)
      ≡ Some (stage_of (activating before i x') j ((activating before i x').living j))
  taken_turn x' group j y lives =
      let act : ℕ → Activity = with_at before.activity x'.group (activated i (before.activity x'.group)) in
      either (eqb_tells j i)
      (λ e.
      let now : (activating before i x').living j ≡ Some x' = ap (λ (k : ℕ). with_at before.living i (Some x') k) e.1 ∙ at_it before.living i (Some x') in
      let here : before.living j ≡ Some x = ap before.living e.1 ∙ there in
      let stage : stage_with (act x'.group).active j ≡ Active =
      ap (λ (k : ℕ). stage_with (act x'.group).active k) e.1
      ∙ ap (λ (a : Activity). stage_with a.active i) (at_it before.activity x'.group (activated i (before.activity x'.group)))
      ∙ turned_itself i (before.activity x'.group) in
      ap (λ (l : Option (Living M)). stage_by (stage_of before j l) (call_of_active call i (before.activity x.group).active j)) here
      ∙ ap (λ (k : ℕ). stage_by (stage_with (before.activity x.group).active k) (call_of_active call i (before.activity x.group).active k)) e.1
      ∙ turns i (before.activity x.group).active call is
      ∙ ap (λ (s : Stage). Some s) (sym stage)
      ∙ ap (λ (l : Option (Living M)). Some (stage_of (activating before i x') j l)) (sym now))
      (λ e.
      let now : (activating before i x').living j ≡ before.living j = ap (λ (t : Bool). cond t (Some x') (before.living j)) e.0 in
      let here : before.living j ≡ Some y = sym now ∙ lives in
      let calls : call_of_active call i (before.activity x.group).active j ≡ turn_calls i (before.activity x.group).active j =
      ap (λ (t : Bool). cond t (call ∷ turn_calls i (before.activity x.group).active j) (turn_calls i (before.activity x.group).active j)) e.0 in
      ap (λ (l : Option (Living M)). stage_by (stage_of before j l) (call_of_active call i (before.activity x.group).active j)) here
      ∙ ap (λ (cs : List Called). stage_by (stage_with (before.activity y.group).active j) cs) calls
      ∙ ap (λ (g : ℕ). stage_by (stage_with (before.activity y.group).active j) (turn_calls i (before.activity g).active j)) (sym group)
      ∙ turned_beside before live j y here i x'.group e.1
      ∙ ap (λ (l : Option (Living M)). Some (stage_of (activating before i x') j l)) (sym lives))

-- ---- a table's blocks don't depend on its bases

ends_by : (t : Bool) (r : MemRec) (b : ℕ) (xs ys : List MemRec) → ((c : ℕ) → end_from c xs ≡ end_from c ys)
    → end_from b (if t then record r { base = 0 } ∷ xs else xs) ≡ end_from b (if t then r ∷ ys else ys)
ends_by true r b xs ys same = same (next_multiple_of b r.align + r.size)
ends_by false r b xs ys same = same b

ends_same : (rs : List MemRec) (space : Space) (b : ℕ) → end_from b (scratch_records (unplaced rs) space) ≡ end_from b (scratch_records rs space)
ends_same [] space b = refl
ends_same (r ∷ rs) space b = ends_by (is_scratch r.attr && same_space r.space space) r b (scratch_records (unplaced rs) space) (scratch_records rs space) (ends_same rs space)

aligns_by : (t : Bool) (r : MemRec) (b : ℕ) (xs ys : List MemRec) → ((c : ℕ) → align_from c xs ≡ align_from c ys)
    → align_from b (if t then record r { base = 0 } ∷ xs else xs) ≡ align_from b (if t then r ∷ ys else ys)
aligns_by true r b xs ys same = same (max b r.align)
aligns_by false r b xs ys same = same b

aligns_same : (rs : List MemRec) (space : Space) (b : ℕ) → align_from b (scratch_records (unplaced rs) space) ≡ align_from b (scratch_records rs space)
aligns_same [] space b = refl
aligns_same (r ∷ rs) space b = aligns_by (is_scratch r.attr && same_space r.space space) r b (scratch_records (unplaced rs) space) (scratch_records rs space) (aligns_same rs space)

pub replaces_same : (map : MemoryMap) (g : ℕ) (rs : List MemRec) → replaces map g (unplaced rs) ≡ replaces map g rs
replaces_same map g rs =
    ap (λ (f : Space → Bool). list_any f all_spaces)
    (λ at space. is_some (replaced_same space at))
  where
    replaced_same : (space : Space) → replaced_block map g (unplaced rs) space ≡ replaced_block map g rs space
    replaced_same space = rw (ends_same rs space 0, aligns_same rs space LEAST_ALIGNMENT) refl
