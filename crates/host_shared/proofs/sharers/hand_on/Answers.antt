use Rattle.std.proofs.Common.{sym, ◌∙◌, arith}
use Rattle.host_shared.specs.Sharing.{left_with}
use Rattle.host_shared.proofs.Stands.{four_pieces}
use Rattle.host_shared.proofs.Handing.{held_column, next_column, HandsOn, left1, left2, left3, all_handed, all_gone, once_handed}
use Rattle.host_shared.proofs.sharers.hand_on.Goals as goal

pub hand_record-p0-requires-clause-held : goal.hand_record-p0-requires-clause-held
hand_record-p0-requires-clause-held c j = c.requires.owners j 0 c.args.i

pub hand_record-p1-requires-clause-held : goal.hand_record-p1-requires-clause-held
hand_record-p1-requires-clause-held c =
    held_column c.args.sharing.now.items c.hand_record-p0.new.sharing.items c.args.i 1 (λ j. c.hand_record-p0.ensures.beside j 1 (omega arith)) (λ j. c.requires.owners j 1 c.args.i)

pub hand_record-p2-requires-clause-held : goal.hand_record-p2-requires-clause-held
hand_record-p2-requires-clause-held c =
    held_column c.args.sharing.now.items c.hand_record-p1.new.sharing.items c.args.i 2
    (λ j. c.hand_record-p1.ensures.beside j 2 (omega arith) ∙ c.hand_record-p0.ensures.beside j 2 (omega arith)) (λ j. c.requires.owners j 2 c.args.i)

pub hand_record-p3-requires-clause-held : goal.hand_record-p3-requires-clause-held
hand_record-p3-requires-clause-held c =
    held_column c.args.sharing.now.items c.hand_record-p2.new.sharing.items c.args.i 3
    (λ j. c.hand_record-p2.ensures.beside j 3 (omega arith) ∙ c.hand_record-p1.ensures.beside j 3 (omega arith) ∙ c.hand_record-p0.ensures.beside j 3 (omega arith)) (λ j. c.requires.owners j 3 c.args.i)

pub hand_record-p0-requires-clause-next : goal.hand_record-p0-requires-clause-next
hand_record-p0-requires-clause-next c = c.requires.next 0

pub hand_record-p1-requires-clause-next : goal.hand_record-p1-requires-clause-next
hand_record-p1-requires-clause-next c =
    c.requires.next 1
    ∙ next_column c.args.sharing.now.items c.hand_record-p0.new.sharing.items c.args.i 1 (c.requires.count ∙ sym c.hand_record-p0.ensures.count) (λ j. sym (c.hand_record-p0.ensures.beside j 1 (omega arith)))

pub hand_record-p2-requires-clause-next : goal.hand_record-p2-requires-clause-next
hand_record-p2-requires-clause-next c =
    c.requires.next 2
    ∙ next_column c.args.sharing.now.items c.hand_record-p1.new.sharing.items c.args.i 2 (c.requires.count ∙ sym c.hand_record-p1.ensures.count)
    (λ j. sym (c.hand_record-p1.ensures.beside j 2 (omega arith) ∙ c.hand_record-p0.ensures.beside j 2 (omega arith)))

pub hand_record-p3-requires-clause-next : goal.hand_record-p3-requires-clause-next
hand_record-p3-requires-clause-next c =
    c.requires.next 3
    ∙ next_column c.args.sharing.now.items c.hand_record-p2.new.sharing.items c.args.i 3 (c.requires.count ∙ sym c.hand_record-p2.ensures.count)
    (λ j. sym (c.hand_record-p2.ensures.beside j 3 (omega arith) ∙ c.hand_record-p1.ensures.beside j 3 (omega arith) ∙ c.hand_record-p0.ensures.beside j 3 (omega arith)))

pub returns : goal.returns
returns c =
    let a = c.args.sharing.now.items in
    let b = c.hand_record-p0.new.sharing.items in
    let d = c.hand_record-p1.new.sharing.items in
    let e = c.hand_record-p2.new.sharing.items in
    let f = c.hand_record-p3.new.sharing.items in
    let first : HandsOn c.args.i 0 a b = record { count = c.hand_record-p0.ensures.count ∙ sym c.requires.count; handed = c.hand_record-p0.ensures.handed; beside = c.hand_record-p0.ensures.beside } in
    let second : HandsOn c.args.i 1 b d = record { count = c.hand_record-p1.ensures.count ∙ sym c.hand_record-p0.ensures.count; handed = c.hand_record-p1.ensures.handed; beside = c.hand_record-p1.ensures.beside } in
    let third : HandsOn c.args.i 2 d e = record { count = c.hand_record-p2.ensures.count ∙ sym c.hand_record-p1.ensures.count; handed = c.hand_record-p2.ensures.handed; beside = c.hand_record-p2.ensures.beside } in
    let fourth : HandsOn c.args.i 3 e f = record { count = c.hand_record-p3.ensures.count ∙ sym c.hand_record-p2.ensures.count; handed = c.hand_record-p3.ensures.handed; beside = c.hand_record-p3.ensures.beside } in
    let handed = all_handed c.args.i a b d e first second third f fourth in
    record {
      left = four_pieces _ (left_with a c.args.i) c.hand_record-p0.ensures.left
          (c.hand_record-p1.ensures.left ∙ left1 c.args.i a b d e first second third)
          (c.hand_record-p2.ensures.left ∙ left2 c.args.i a b d e first second third)
          (c.hand_record-p3.ensures.left ∙ left3 c.args.i a b d e first second third);
      count = c.hand_record-p3.ensures.count;
      gone = all_gone c.args.i a b d e first second third f fourth;
      handed = handed;
      others = once_handed a f c.args.i c.requires.owners handed;
    }
