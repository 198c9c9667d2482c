-- Lists of requests, made one after the other.
use Rattle.std.proofs.Common.{◌≡◌, ℕ, zero, suc, ◌+◌, ◌<◌, List, [], ◌∷◌, ◌++◌, length, map, take, refl, sym, ap, ◌∙◌, subst, arith, set, get_or, append-nil, append_assoc}
use Rattle.std.proofs.lemmas.List.{length-map}
use Rattle.ialg.specs.Meaning.{Meaning}
use Rattle.ialg.specs.Laws.{Laws}
use Rattle.host_spec.specs.State.{State}
use Rattle.host_spec.specs.Calls.{Call, Leads}
use Rattle.alg_host.specs.Hosts.{HostState}
use Rattle.alg_host.specs.declared.request.Request.{Request}
use Rattle.alg_host.specs.Requests.{made, all_made, asked, HostCallsRefine}

leads_more : {M : Type 0} (kinds : Meaning M) (calls more : List (Call M)) (before mid after : State M)
    → Leads kinds before calls mid → Leads kinds mid more after → Leads kinds before (calls ++ more) after
leads_more kinds [] more before mid after first then = subst (λ s. Leads kinds s more after) first then
leads_more kinds (call ∷ calls) more before mid after first then = (first.0, first.1, leads_more kinds calls more first.0 mid after first.2 then)

pub served_more : {M : Type 0} (laws : Laws M) (calls more : List (Call M)) (a b c : HostState M)
    → HostCallsRefine laws calls a b → HostCallsRefine laws more b c
    → HostCallsRefine laws (calls ++ more) a c
served_more laws calls more a b c first then before keeps =
    let mid = first before keeps in
    let end = then mid.0 mid.2 in
    (end.0, leads_more laws.meaning calls more before mid.0 end.0 mid.1 end.1, end.2)

pub served_none : {M : Type 0} (laws : Laws M) (a : HostState M) → HostCallsRefine laws [] a a
served_none laws a before keeps = (before, refl, keeps)

-- one request of a list was made
made_more : {M : Type 0} (requests : List (Request M)) (k : ℕ) (r : Request M) → k < length requests
    → all_made (take (suc k) (set requests k r)) ≡ all_made (take k requests) ++ made r
made_more [] k r lt = absurd (omega arith)
made_more (q ∷ qs) zero r lt = append-nil (made r)
made_more (q ∷ qs) (suc k) r lt =
    ap (λ cs. made q ++ cs) (made_more qs k r (omega arith)) ∙ sym (append_assoc (made q) (all_made (take k qs)) (made r))

pub made_next : {M : Type 0} (requests : List (Request M)) (k : ℕ) (r : Request M) → k < length requests
    → all_made (take (k + 1) (set requests k r)) ≡ all_made (take k requests) ++ made r
made_next requests k r lt =
    let next : k + 1 ≡ suc k = omega arith in
    ap (λ n. all_made (take n (set requests k r))) next ∙ made_more requests k r lt

pub asked_still : {M : Type 0} (requests : List (Request M)) (k : ℕ) (r d : Request M) → k < length requests → asked r ≡ asked (get_or requests k d)
    → map asked (set requests k r) ≡ map asked requests
asked_still [] k r d lt same = refl
asked_still (q ∷ qs) zero r d lt same = ap (λ x. x ∷ map asked qs) same
asked_still (q ∷ qs) (suc k) r d lt same = ap (λ xs. asked q ∷ xs) (asked_still qs k r d (omega arith) same)

pub as_many : {M : Type 0} (requests requests' : List (Request M)) → map asked requests' ≡ map asked requests → length requests' ≡ length requests
as_many requests requests' same = sym (length-map requests' asked) ∙ ap length same ∙ length-map requests asked

-- the first k of the requests were made
pub record MadeUpTo {M : Type 0} (laws : Laws M) (k : ℕ) (requests requests' : List (Request M)) (host host' : HostState M) : Type 0 where
  pub same : map asked requests' ≡ map asked requests
  pub count : length requests' ≡ length requests
  pub served : HostCallsRefine laws (all_made (take k requests')) host host'
