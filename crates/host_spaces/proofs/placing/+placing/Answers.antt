-- The rest is placed after the first, and where it isn't the first is taken out again.
use Rattle.std.proofs.Common.{◌≤◌, ◌+◌, ◌<◌, ℤ, suc, length, drop, Option, Some, sym, ◌∙◌, ap, subst, add-one, arith}
use Rattle.mem_rec.specs.declared.Space.{Space}
use Rattle.host_map.specs.declared.TheConstants.{SPACE_BLOCKS}
use Rattle.host_spaces.specs.declared.granted.Granted.{Granted}
use Rattle.host_spaces.specs.MemoryMap.{map_of, sizes_of, space_in}
use Rattle.host_map.specs.Creation.{all_placed}
use Rattle.host_spaces.specs.Wants.{IsGranted, count_in, somes}
use Rattle.host_spaces.proofs.OnePlaced.{IsOne, after_some, at_none, exact_one, count_passed, granted_next, granted_passed, its_owner, not_placed, on_ok, room_next, somes_passed, taken_back}
use Rattle.std.specs.Option.{option_map}
use Rattle.std.proofs.lemmas.List.{drop_all}
use Rattle.space_raw.specs.Span.{Span}
use Rattle.host_spaces.proofs.placing.+placing.Goals as goal

pub place_from-returns-then-first-wants-clause-exact : goal.place_from-returns-then-first-wants-clause-exact
place_from-returns-then-first-wants-clause-exact g c =
    let wants = c.args.wants.now in let k = c.args.k in let r = c.next_wanted-first.result in let from = c.next_wanted-first.ensures.within.0 in let to = c.next_wanted-first.ensures.within.1 in let none = c.next_wanted-first.ensures.passed in
    let past : length wants ≤ r = (let end = c.if-first-wants.true in omega (arith, end)) in
    ap (all_placed (sizes_of c.args.spaces.now) (map_of c.args.spaces.now)) (somes_passed wants r k from to none ∙ ap somes (drop_all r wants past))

pub place_from-place_at-requires : goal.place_from-place_at-requires
place_from-place_at-requires g c =
    let wants = c.args.wants.now in let k = c.args.k in let r = c.next_wanted-first.result in let from = c.next_wanted-first.ensures.within.0 in let to = c.next_wanted-first.ensures.within.1 in let none = c.next_wanted-first.ensures.passed in
    let number : r < 7 = (let s = c.requires.seven in let n = c.if-first-wants.false in omega (arith, s, n)) in
    let inside : r < length wants = (let n = c.if-first-wants.false in omega (arith, n)) in
    let room : (space : Space) → length (space_in c.args.spaces.now space).blocks + count_in space (drop r wants) ≤ SPACE_BLOCKS =
    λ space. let same = count_passed wants space r k from to none in let least = c.requires.room space in omega (arith, same, least) in
    ((let d = c.decreases in omega arith), (c.requires.seven, (number, (c.next_wanted-first.ensures.found inside, (c.requires.limits, (c.requires.apart, (room, c.requires.none)))))))

pub place_from-returns-clause-exact : goal.place_from-returns-clause-exact
place_from-returns-clause-exact g c =
    let wants = c.args.wants.now in let k = c.args.k in let r = c.next_wanted-first.result in let from = c.next_wanted-first.ensures.within.0 in let to = c.next_wanted-first.ensures.within.1 in let none = c.next_wanted-first.ensures.passed in
    ap (all_placed (sizes_of c.args.spaces.now) (map_of c.args.spaces.now)) (somes_passed wants r k from to none) ∙ c.place_at.ensures.exact

pub place_from-returns-clause-granted : goal.place_from-returns-clause-granted
place_from-returns-clause-granted g c =
    let wants = c.args.wants.now in let k = c.args.k in let r = c.next_wanted-first.result in let from = c.next_wanted-first.ensures.within.0 in let to = c.next_wanted-first.ensures.within.1 in let none = c.next_wanted-first.ensures.passed in
    let old = c.args.spaces.now in let new = c.place_at.new.spaces in let made = c.place_at.new.granted in let word : Option ℤ = c.args.poison in
    on_ok c.place_at.result (IsGranted old new word r wants made) (IsGranted old new word k wants made) (granted_passed wants old new word made r k from none) c.place_at.ensures.granted

pub place_at-place_filled-requires-clause-limits : goal.place_at-place_filled-requires-clause-limits
place_at-place_filled-requires-clause-limits g c = c.requires.limits c.args.k c.in-Some.want (at_none c.args.wants.now c.args.k _ (Some c.in-Some.want) (let s = c.requires.seven in let n = c.requires.number in omega arith) c.in-Some.is)

pub place_at-place_from-requires : goal.place_at-place_from-requires
place_at-place_from-requires g c =
    let old = c.args.spaces.now in let mid = c.place_filled.new.spaces in let wants = c.args.wants.now in let k = c.args.k in let w = c.in-Some.want in let p = c.in-Some-place_filled.piece in
    let is = at_none c.args.wants.now c.args.k _ (Some c.in-Some.want) (let s = c.requires.seven in let n = c.requires.number in omega arith) c.in-Some.is in
    let told = c.in-Some-place_filled.ensures in
    let one : IsOne old mid w p = record {
      place = told.place;
      piece = told.piece;
      blocks = told.blocks;
      its = told.owned;
      others = told.others;
      elsewhere = told.elsewhere;
      back = told.back;
      stays = told.stays;
    } in
    let lt : k < length wants = (let s = c.requires.seven in let n = c.requires.number in omega arith) in
    let fits : (space : Space) → length (space_in mid space).blocks + count_in space (drop (k + 1) wants) ≤ SPACE_BLOCKS =
    λ space. subst (λ n. length (space_in mid space).blocks + count_in space (drop n wants) ≤ SPACE_BLOCKS) (sym (add-one k))
    (room_next old mid w p one wants k lt is c.requires.room space) in
    ((let d = c.decreases in let s = c.requires.seven in let n = c.requires.number in omega arith), (c.requires.seven, ((let n = c.requires.number in omega arith), (c.requires.limits, (c.requires.apart, (fits, c.requires.none))))))

pub place_at-take_out-requires-clause-owner : goal.place_at-take_out-requires-clause-owner
place_at-take_out-requires-clause-owner g c =
    let old = c.args.spaces.now in let mid = c.place_filled.new.spaces in let wants = c.args.wants.now in let k = c.args.k in let w = c.in-Some.want in let p = c.in-Some-place_filled.piece in
    let is = at_none c.args.wants.now c.args.k _ (Some c.in-Some.want) (let s = c.requires.seven in let n = c.requires.number in omega arith) c.in-Some.is in
    let told = c.in-Some-place_filled.ensures in
    let one : IsOne old mid w p = record {
      place = told.place;
      piece = told.piece;
      blocks = told.blocks;
      its = told.owned;
      others = told.others;
      elsewhere = told.elsewhere;
      back = told.back;
      stays = told.stays;
    } in
    its_owner old mid c.place_from.new.spaces w p one c.in-Err.ensures.refused.0

pub place_at-returns-in-None-place_filled-clause-exact : goal.place_at-returns-in-None-place_filled-clause-exact
place_at-returns-in-None-place_filled-clause-exact g c =
    let old = c.args.spaces.now in let wants = c.args.wants.now in let k = c.args.k in let w = c.in-Some.want in
    let lt : k < length wants = (let s = c.requires.seven in let n = c.requires.number in omega arith) in
    let is = at_none wants k _ (Some w) lt c.in-Some.is in
    ap (all_placed (sizes_of old) (map_of old)) (after_some wants k w lt is)
    ∙ not_placed old w (somes (drop (suc k) wants)) (c.requires.limits k w is)
    (ap (option_map (λ (p : Span). p.place)) (sym c.in-None-place_filled.is) ∙ c.place_filled.ensures.place)

pub place_at-returns-in-Ok-clause-exact : goal.place_at-returns-in-Ok-clause-exact
place_at-returns-in-Ok-clause-exact g c =
    let old = c.args.spaces.now in let mid = c.place_filled.new.spaces in let wants = c.args.wants.now in let k = c.args.k in let w = c.in-Some.want in let p = c.in-Some-place_filled.piece in
    let is = at_none c.args.wants.now c.args.k _ (Some c.in-Some.want) (let s = c.requires.seven in let n = c.requires.number in omega arith) c.in-Some.is in
    let told = c.in-Some-place_filled.ensures in
    let one : IsOne old mid w p = record {
      place = told.place;
      piece = told.piece;
      blocks = told.blocks;
      its = told.owned;
      others = told.others;
      elsewhere = told.elsewhere;
      back = told.back;
      stays = told.stays;
    } in
    let lt : k < length wants = (let s = c.requires.seven in let n = c.requires.number in omega arith) in
    ap (all_placed (sizes_of old) (map_of old)) (after_some wants k w lt is)
    ∙ exact_one old mid w p one (c.requires.limits k w is) (somes (drop (suc k) wants))
    ∙ ap (λ n. all_placed (sizes_of mid) (map_of mid) (somes (drop n wants))) (sym (add-one k))
    ∙ c.in-Ok.ensures.exact

pub place_at-returns-in-Ok-clause-granted : goal.place_at-returns-in-Ok-clause-granted
place_at-returns-in-Ok-clause-granted g c =
    let old = c.args.spaces.now in let mid = c.place_filled.new.spaces in let wants = c.args.wants.now in let k = c.args.k in let w = c.in-Some.want in let p = c.in-Some-place_filled.piece in
    let is = at_none c.args.wants.now c.args.k _ (Some c.in-Some.want) (let s = c.requires.seven in let n = c.requires.number in omega arith) c.in-Some.is in
    let told = c.in-Some-place_filled.ensures in
    let one : IsOne old mid w p = record {
      place = told.place;
      piece = told.piece;
      blocks = told.blocks;
      its = told.owned;
      others = told.others;
      elsewhere = told.elsewhere;
      back = told.back;
      stays = told.stays;
    } in
    let new = c.place_from.new.spaces in let made = c.place_from.new.granted in let word : Option ℤ = c.args.poison in
    subst (λ (x : Granted). IsGranted old new word k wants x) (sym c.put.ensures)
    (granted_next old mid new word k wants made w p c.requires.number is (c.requires.limits k w is) one told.poison c.requires.apart
    (subst (λ n. IsGranted mid new word n wants made) (add-one k) c.in-Ok.ensures.granted))

pub place_at-returns-in-Err-clause-exact : goal.place_at-returns-in-Err-clause-exact
place_at-returns-in-Err-clause-exact g c =
    let old = c.args.spaces.now in let mid = c.place_filled.new.spaces in let wants = c.args.wants.now in let k = c.args.k in let w = c.in-Some.want in let p = c.in-Some-place_filled.piece in
    let is = at_none c.args.wants.now c.args.k _ (Some c.in-Some.want) (let s = c.requires.seven in let n = c.requires.number in omega arith) c.in-Some.is in
    let told = c.in-Some-place_filled.ensures in
    let one : IsOne old mid w p = record {
      place = told.place;
      piece = told.piece;
      blocks = told.blocks;
      its = told.owned;
      others = told.others;
      elsewhere = told.elsewhere;
      back = told.back;
      stays = told.stays;
    } in
    let lt : k < length wants = (let s = c.requires.seven in let n = c.requires.number in omega arith) in
    ap (all_placed (sizes_of old) (map_of old)) (after_some wants k w lt is)
    ∙ exact_one old mid w p one (c.requires.limits k w is) (somes (drop (suc k) wants))
    ∙ ap (λ n. all_placed (sizes_of mid) (map_of mid) (somes (drop n wants))) (sym (add-one k))
    ∙ c.in-Err.ensures.exact

pub place_at-returns-in-Err-clause-refused : goal.place_at-returns-in-Err-clause-refused
place_at-returns-in-Err-clause-refused g c =
    let old = c.args.spaces.now in let mid = c.place_filled.new.spaces in let wants = c.args.wants.now in let k = c.args.k in let w = c.in-Some.want in let p = c.in-Some-place_filled.piece in
    let is = at_none c.args.wants.now c.args.k _ (Some c.in-Some.want) (let s = c.requires.seven in let n = c.requires.number in omega arith) c.in-Some.is in
    let told = c.in-Some-place_filled.ensures in
    let one : IsOne old mid w p = record {
      place = told.place;
      piece = told.piece;
      blocks = told.blocks;
      its = told.owned;
      others = told.others;
      elsewhere = told.elsewhere;
      back = told.back;
      stays = told.stays;
    } in
    (taken_back old mid c.place_from.new.spaces c.take_out.new.self w p one c.in-Err.ensures.refused.0 c.take_out.ensures.blocks c.take_out.ensures.elsewhere c.take_out.ensures.stays, c.in-Err.ensures.refused.1)
