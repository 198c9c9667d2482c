-- A decimator in its records: finding them, and what stays where one of them is written.
use Rattle.std.proofs.Common.{◌≡◌, ℕ, zero, suc, ℤ, ◌+◌, ◌-◌, ◌<◌, lit<, lit≤, IsTrue, MutBor, List, length, refl, sym, ap, subst, ◌∙◌, arith}
use Rattle.mem_rec.specs.declared.MemRec.{MemRec}
use Rattle.mem_rec.specs.declared.Space.TheVariants.{Daram, Saram, External}
use Rattle.mem_rec.specs.declared.Attr.TheVariants.{WriteOnce}
use Rattle.ialg.specs.declared.memory.Lent.{Lent}
use Rattle.ialg.specs.declared.memory.Record.{Record}
use Rattle.ialg.specs.declared.TheConstants.{BLOCK_SAMPLES}
use Rattle.ialg.specs.History.{History}
use Rattle.ialg.specs.Records.{record_at, words_of, lasting, AllLent}
use Rattle.ialg.specs.Loans.{lent_words, loan, SameBut, SameLoans}
use Rattle.ialg.specs.Objects.{Names, NamedAt}
use Rattle.ialg.proofs.Tables.{attr_of, lasting_at, lent_size}
use Rattle.alg_fir.specs.Keeps.{KeepsPast}
use Rattle.alg_fir.specs.DecimMeaning.{decim_takes, decim_records}
use Rattle.alg_fir.specs.DecimKeeps.{taps_of, decim_kind, HasConstants, KeepsPhase, IsIdleDecim, Finds}
use Rattle.alg_fir.proofs.DecimSteps.{is_taken}

only_once : (taps k : ℕ) → (record_at (decim_records taps) k).attr ≡ WriteOnce → 2 ≡ k
only_once taps zero e = cc
only_once taps (suc zero) e = cc
only_once taps (suc (suc zero)) e = refl
only_once taps (suc (suc (suc zero))) e = cc
only_once taps (suc (suc (suc (suc k)))) e = cc

module _ (p : List ℤ) (rs : List MemRec) where
  pub has_constants : (wss : List (List ℤ)) → IsTrue (decim_takes p) → Names decim_kind (decim_records (taps_of p)) rs (words_of wss 0)
      → words_of wss 2 ≡ p → HasConstants p rs wss
  has_constants wss taken names e = record {
    taken = taken;
    object = names;
    constants = λ k once.
        let two = only_once (taps_of p) k (sym (attr_of rs (decim_records (taps_of p)) names.on_table k) ∙ once) in
        subst (λ j. words_of wss j ≡ p) two e;
  }

  pub constants_are : (wss : List (List ℤ)) → HasConstants p rs wss → words_of wss 2 ≡ p
  constants_are wss has = has.constants 2 (attr_of rs (decim_records (taps_of p)) has.object.on_table 2)

  pub constants_same : (wss wss' : List (List ℤ)) → HasConstants p rs wss → words_of wss' 0 ≡ words_of wss 0
      → words_of wss' 2 ≡ words_of wss 2 → HasConstants p rs wss'
  constants_same wss wss' has object words = has_constants wss' has.taken (rw object has.object) (words ∙ constants_are wss has)

  -- what an idle decimator keeps, it keeps whatever the scratch words are
  module _ (wss : List (List ℤ)) (h : History) where
    pub with_scratch : IsIdleDecim p rs (lasting rs wss) h → IsIdleDecim p rs wss h
    with_scratch idle =
        let at = lasting_at rs (decim_records (taps_of p)) idle.constants.object.on_table wss in
        record {
          constants = constants_same (lasting rs wss) wss idle.constants (sym (at 0)) (sym (at 2));
          keeps = subst (KeepsPhase p h) (at 1) idle.keeps;
          past = subst (KeepsPast (taps_of p) 1 h) (at 1) idle.past;
        }

    pub without_scratch : IsIdleDecim p rs wss h → IsIdleDecim p rs (lasting rs wss) h
    without_scratch idle =
        let at = lasting_at rs (decim_records (taps_of p)) idle.constants.object.on_table wss in
        record {
          constants = constants_same wss (lasting rs wss) idle.constants (at 0) (at 2);
          keeps = subst (KeepsPhase p h) (sym (at 1)) idle.keeps;
          past = subst (KeepsPast (taps_of p) 1 h) (sym (at 1)) idle.past;
        }

-- a lent record is found by its name
module _ (m : Lent) (taps : ℕ) (names : Names decim_kind (decim_records taps) m.table.now m.r0.now) where
  pub kept_at : 0 < length m.r1.now → NamedAt m Saram 1 decim_kind (decim_records taps)
  kept_at lent = record {
    names = names;
    not_the_object = lit≤ tt;
    within = lit< tt;
    few = lit≤ tt;
    its_space = refl;
    lent = lent;
  }

  pub constants_at : 0 < length m.r2.now → NamedAt m External 2 decim_kind (decim_records taps)
  constants_at lent = record {
    names = names;
    not_the_object = lit≤ tt;
    within = lit< tt;
    few = lit≤ tt;
    its_space = refl;
    lent = lent;
  }

  pub ring_at : 0 < length m.r3.now → NamedAt m Daram 3 decim_kind (decim_records taps)
  ring_at lent = record {
    names = names;
    not_the_object = lit≤ tt;
    within = lit< tt;
    few = lit≤ tt;
    its_space = refl;
    lent = lent;
  }

module _ (p : List ℤ) (m : Lent) (has : HasConstants p m.table.now (lent_words m)) (lent : AllLent m.table.now (lent_words m)) where
  size_at : (k : ℕ) → length (words_of (lent_words m) k) ≡ (record_at (decim_records (taps_of p)) k).size
  size_at k = lent_size m.table.now (decim_records (taps_of p)) has.object.on_table (lent_words m) lent k

  pub kept_size : length m.r1.now ≡ taps_of p
  kept_size = size_at 1

  pub ring_size : length m.r3.now ≡ taps_of p - 1 + BLOCK_SAMPLES
  ring_size = size_at 3

  pub finds : Finds m (taps_of p)
  finds =
      let some = (is_taken p has.taken).some in
      let kept = size_at 1 in
      let constants = size_at 2 in
      let ring = size_at 3 in
      record {
        kept = kept_at m (taps_of p) has.object (omega arith);
        constants = constants_at m (taps_of p) has.object (omega arith);
        ring = ring_at m (taps_of p) has.object (omega arith);
      }

-- the same records are lent
pub lent_still : (a b : Lent) (rs : List MemRec) → SameLoans a b → AllLent rs (lent_words a) → AllLent rs (lent_words b)
lent_still a b rs same lent = record { sizes = λ k. lengths k ∙ lent.sizes k; apart = lent.apart }
  where
    lengths : (k : ℕ) → length (words_of (lent_words b) k) ≡ length (words_of (lent_words a) k)
    lengths zero = same.len0
    lengths (suc zero) = same.len1
    lengths (suc (suc zero)) = same.len2
    lengths (suc (suc (suc zero))) = same.len3
    lengths (suc (suc (suc (suc k)))) = refl

at_record : (k i : ℕ) (a b : Lent) → k ≡ i → SameBut k a b → SameBut i a b
at_record k i a b e s = let P : ℕ → Type 0 = λ t. SameBut t a b in subst P e s

-- record i was taken, and put back: what no other call wrote stays
pub record Visited (i : ℕ) (before meanwhile after : Lent) (words back : MutBor (List ℤ)) : Type 0 where
  pub taken : words ≡ loan before i
  pub written : loan after i ≡ back
  pub left : SameBut i before meanwhile
  pub but : SameBut i before after

pub visited : (i : ℕ) (before meanwhile after : Lent) (r : Record) (back : MutBor (List ℤ))
    → (r.k ≡ i) × (r.words ≡ loan before i)
    → (r.k < 4) × (r.words ≡ loan before r.k) × SameBut r.k before meanwhile → SameBut r.k meanwhile after → loan after r.k ≡ back
    → Visited i before meanwhile after r.words back
visited i before meanwhile after r back found out put e =
    let a = at_record r.k i before meanwhile found.0 out.2 in
    let b = at_record r.k i meanwhile after found.0 put in
    record {
      taken = found.1;
      written = ap (loan after) (sym found.0) ∙ e;
      left = a;
      but = record {
        table = b.table ∙ a.table;
        writable = b.writable ∙ a.writable;
        others0 = λ ne. b.others0 ne ∙ a.others0 ne;
        others1 = λ ne. b.others1 ne ∙ a.others1 ne;
        others2 = λ ne. b.others2 ne ∙ a.others2 ne;
        others3 = λ ne. b.others3 ne ∙ a.others3 ne;
      };
    }
