use Rattle.std.proofs.Common.{◌∙◌, Ok, length, true, ap, refl, sym, arith}
use Rattle.std.proofs.lemmas.Bool.{eqb-false, eqb-true, false≢true}
use Rattle.octet_ports.proofs.Ahead.{came_at, some_where_feed, feed_behind}
use Rattle.octet_ports.proofs.Lines.{is_line_more, is_line_long, so_far_more, none_so_far, line_came, line_fails, line_last}
use Rattle.octet_ports.proofs.reader.LineReader.read_octets_of_line.Goals as goal

pub returns-in-Err-clause-err : goal.returns-in-Err-clause-err
returns-in-Err-clause-err g c =
    let refused = c.in-Err.ensures.err in
    line_fails (g.S.PortIn.source c.octets.script) (g.S.PortIn.source c.next_octet.new.script) c.in-Err.fault (rw refused.before at c.octets.invariant.came) refused.why

pub octets-preserved-then-is_full : goal.octets-preserved-then-is_full
octets-preserved-then-is_full g c =
    let octet = c.in-Ok-Some.octet in
    let came = c.octets.invariant.came in
    let next = came_at c.in-Ok-Some.field-0-is c.in-Ok-Some.ensures.some in
    let full = eqb-true (length c.octets.text.items) g.row.MOST (sym c.if-is_full.ensures.value) in
    record {
      ready = c.in-Ok-Some.ensures.ready (refl {a = true});
      came = so_far_more octet came (is_line_long c.octets.long octet came.line c.if-octet-eq-LINE_FEED.false full) next.gives next.used;
      waits = λ feed. let waited = c.octets.invariant.waits feed in
          (c.in-Ok-Some.ensures.waits (some_where_feed c.octets.self.octets waited.1) ∙ waited.0, feed_behind next.front c.if-octet-eq-LINE_FEED.false waited.1);
    }

pub octets-preserved : goal.octets-preserved
octets-preserved g c =
    let octet = c.in-Ok-Some.octet in
    let came = c.octets.invariant.came in
    let next = came_at c.in-Ok-Some.field-0-is c.in-Ok-Some.ensures.some in
    let room = eqb-false (length c.octets.text.items) g.row.MOST (sym c.if-is_full.ensures.value) in
    record {
      ready = c.in-Ok-Some.ensures.ready (refl {a = true});
      came = rw c.push.ensures.items (so_far_more octet came (is_line_more c.octets.long octet came.line c.if-octet-eq-LINE_FEED.false room c.is_full.ensures.fits) next.gives next.used);
      waits = λ feed. let waited = c.octets.invariant.waits feed in
          (c.in-Ok-Some.ensures.waits (some_where_feed c.octets.self.octets waited.1) ∙ waited.0, feed_behind next.front c.if-octet-eq-LINE_FEED.false waited.1);
    }

pub returns-in-Ok-None-clause-ok : goal.returns-in-Ok-None-clause-ok
returns-in-Ok-None-clause-ok g c =
    let end = c.in-Ok-None.ensures.none (ap Ok c.in-Ok-None.field-0-is) in
    rw end.none (line_last (rw end.before at c.octets.invariant.came) end.gives end.at_end end.left)

pub returns-then-octet-eq-LINE_FEED-clause-ok : goal.returns-then-octet-eq-LINE_FEED-clause-ok
returns-then-octet-eq-LINE_FEED-clause-ok g c =
    let octet = c.in-Ok-Some.octet in
    let next = came_at c.in-Ok-Some.field-0-is c.in-Ok-Some.ensures.some in
    line_came octet c.octets.invariant.came c.if-octet-eq-LINE_FEED.true next.gives next.used

pub returns-then-octet-eq-LINE_FEED-clause-waits : goal.returns-then-octet-eq-LINE_FEED-clause-waits
returns-then-octet-eq-LINE_FEED-clause-waits g c = λ feed.
    let waited = c.octets.invariant.waits feed in
    c.in-Ok-Some.ensures.waits (some_where_feed c.octets.self.octets waited.1) ∙ waited.0

pub returns-in-Ok-None-clause-waits : goal.returns-in-Ok-None-clause-waits
returns-in-Ok-None-clause-waits g c = λ feed.
    let waited = c.octets.invariant.waits feed in
    c.in-Ok-None.ensures.waits (some_where_feed c.octets.self.octets waited.1) ∙ waited.0

pub returns-in-Err-clause-waits : goal.returns-in-Err-clause-waits
returns-in-Err-clause-waits g c = λ feed.
    let waited = c.octets.invariant.waits feed in
    c.in-Err.ensures.waits (some_where_feed c.octets.self.octets waited.1) ∙ waited.0

pub octets-init : goal.octets-init
octets-init g c = record {
  ready = c.requires.ready;
  came = rw c.requires.empty (none_so_far g.row.MOST c.args.self.now.left _);
  waits = λ feed. (refl, feed);
}

pub octets-smaller : goal.octets-smaller
octets-smaller g c = let used = (came_at c.in-Ok-Some.field-0-is c.in-Ok-Some.ensures.some).used in omega (arith, used)

pub octets-smaller-then-is_full : goal.octets-smaller-then-is_full
octets-smaller-then-is_full g c = let used = (came_at c.in-Ok-Some.field-0-is c.in-Ok-Some.ensures.some).used in omega (arith, used)

pub next_octet-requires : goal.next_octet-requires
next_octet-requires g c = record { ready = c.octets.invariant.ready }

pub returns-in-Err-clause-gone : goal.returns-in-Err-clause-gone
returns-in-Err-clause-gone g c = λ _. c.in-Err.ensures.err.none

pub returns-in-Err-clause-ready : goal.returns-in-Err-clause-ready
returns-in-Err-clause-ready g c = λ bad. absurd (false≢true bad)

pub returns-in-Ok-None-clause-ready : goal.returns-in-Ok-None-clause-ready
returns-in-Ok-None-clause-ready g c = c.in-Ok-None.ensures.ready

pub returns-then-octet-eq-LINE_FEED-clause-ready : goal.returns-then-octet-eq-LINE_FEED-clause-ready
returns-then-octet-eq-LINE_FEED-clause-ready g c = c.in-Ok-Some.ensures.ready

pub returns-in-Ok-None-clause-last : goal.returns-in-Ok-None-clause-last
returns-in-Ok-None-clause-last g c = λ _. (c.in-Ok-None.ensures.none (ap Ok c.in-Ok-None.field-0-is)).none

pub returns-then-octet-eq-LINE_FEED-clause-last : goal.returns-then-octet-eq-LINE_FEED-clause-last
returns-then-octet-eq-LINE_FEED-clause-last g c = λ bad. absurd (false≢true bad)

pub returns-in-Ok-None-clause-gone : goal.returns-in-Ok-None-clause-gone
returns-in-Ok-None-clause-gone g c = λ bad. absurd (false≢true bad)

pub returns-then-octet-eq-LINE_FEED-clause-gone : goal.returns-then-octet-eq-LINE_FEED-clause-gone
returns-then-octet-eq-LINE_FEED-clause-gone g c = λ bad. absurd (false≢true bad)

pub returns-in-Err-clause-within : goal.returns-in-Err-clause-within
returns-in-Err-clause-within g c = c.next_octet.ensures.within

pub returns-in-Err-clause-few : goal.returns-in-Err-clause-few
returns-in-Err-clause-few g c = c.next_octet.ensures.few

pub returns-in-Ok-None-clause-within : goal.returns-in-Ok-None-clause-within
returns-in-Ok-None-clause-within g c = c.next_octet.ensures.within

pub returns-in-Ok-None-clause-few : goal.returns-in-Ok-None-clause-few
returns-in-Ok-None-clause-few g c = c.next_octet.ensures.few

pub returns-then-octet-eq-LINE_FEED-clause-within : goal.returns-then-octet-eq-LINE_FEED-clause-within
returns-then-octet-eq-LINE_FEED-clause-within g c = c.next_octet.ensures.within

pub returns-then-octet-eq-LINE_FEED-clause-few : goal.returns-then-octet-eq-LINE_FEED-clause-few
returns-then-octet-eq-LINE_FEED-clause-few g c = c.next_octet.ensures.few
