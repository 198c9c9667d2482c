use Rattle.std.proofs.Common.{◌≤◌, ◌<◌, length, take, get_or, length-take, is_ok, ap, refl, sym, ◌∙◌, arith}
use Rattle.std.proofs.lemmas.Bool.{false≢true}
use Rattle.octet_ports.proofs.Ahead.{one_octet, some_octets, ok_same}
use Rattle.octet_ports.proofs.reader.LineReader.refill.Goals as goal

pub get-requires : goal.get-requires
get-requires g c = c.requires.ready

pub returns-in-Err : goal.returns-in-Err
returns-in-Err g c = record {
  some = λ bad. absurd (false≢true (ap is_ok bad));
  left = ap (λ r. r.left) c.self.view_is;
  end = λ bad. absurd (false≢true (ap is_ok bad));
  err = record { before = c.requires.none; none = refl; why = (c.in-Err.ensures.failed, c.in-Err.ensures.fault) };
  ready = λ bad. absurd (false≢true bad);
}

pub returns-in-Ok-eq0 : goal.returns-in-Ok-eq0
returns-in-Ok-eq0 g c =
    let took = c.in-Ok-eq0.ensures in
    let none = c.in-Ok-eq0.field-0-test in
    let long = c.self.told in
    let most = c.min-most.ensures in
    let least = c.max.ensures in
    let cut = length-take c.min-most.result c.self.inside.buffer in
    let asked : 0 < length (take c.min-most.result c.self.inside.buffer) = omega (arith, long, most, least, cut) in
    let left = ap (λ r. r.left) c.self.view_is in
    record {
      some = λ bad. absurd (false≢true (ok_same bad));
      left = left;
      end = λ _. record { before = c.requires.none; none = refl; left = left; gives = rw none at took.octets; at_end = took.end none asked };
      err = tt;
      ready = λ _. took.failed;
    }

pub returns-in-Ok : goal.returns-in-Ok
returns-in-Ok g c =
    let count = c.in-Ok.field-0 in
    let took = c.in-Ok.ensures in
    let inside : count ≤ length c.get.new.buffer = rw c.get.auto.buffer took.count in
    let most = c.min-most.ensures in
    let least = c.max.ensures in
    let none = c.if-self-eq0.true in
    let cut = length-take c.min-most.result c.self.inside.buffer in
    let within = took.count in
    let few : count ≤ 1 = omega (arith, within, most, least, none, cut) in
    let left = ap (λ r. r.left) c.self.view_is in
    let came = rw (one_octet count c.get.new.buffer few c.in-Ok.field-0-test.1 inside) at took.octets in
    record {
      some = λ bad. absurd (false≢true (ap is_ok bad));
      left = left;
      end = λ bad. absurd (false≢true (ap is_ok bad));
      err = record { before = c.requires.none; none = refl; why = (took.failed, (get_or c.get.new.buffer 0 0, came, sym left ∙ none)) };
      ready = λ bad. absurd (false≢true bad);
    }

pub returns-in-Ok-2 : goal.returns-in-Ok-2
returns-in-Ok-2 g c =
    let count = c.in-Ok.field-0 in
    let took = c.in-Ok.ensures in
    let inside : count ≤ length c.get.new.buffer = rw c.get.auto.buffer took.count in
    record {
      some = λ _. some_octets count c.get.new.buffer _ c.in-Ok.field-0-test.1 inside took.octets;
      left = ap (λ r. r.left) c.self.view_is;
      end = λ bad. absurd (false≢true (sym (ok_same bad)));
      err = tt;
      ready = λ _. took.failed;
    }
