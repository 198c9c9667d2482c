use Rattle.std.proofs.Common.{ap, List, ℤ, refl}
use Rattle.ialg.specs.Records.{words_of}
use Rattle.host_shared.specs.Locations.{shared_at}
use Rattle.lifecycle.proofs.LentAgain.{lent_again}
use Rattle.lifecycle.proofs.Groups.{same_blocks}
use Rattle.lifecycle.proofs.Frames.{same_group}
use Rattle.lifecycle.proofs.Words.{lasting_lent}
use Rattle.lifecycle.proofs.Keeps.{freed}
use Rattle.lifecycle.proofs.Once.{once_idle}
use Rattle.lifecycle.proofs.idle.Idle.freed.Goals as goal

pub perform_at_rest-requires-clause-number : goal.perform_at_rest-requires-clause-number
perform_at_rest-requires-clause-number g c = c.requires.lent.1.number

pub perform_at_rest-requires-clause-owners : goal.perform_at_rest-requires-clause-owners
perform_at_rest-requires-clause-owners g c = c.requires.lent.1.owners

pub perform_at_rest-requires-clause-sizes : goal.perform_at_rest-requires-clause-sizes
perform_at_rest-requires-clause-sizes g c =
    let old = c.args.self.now.instance in
    (lasting_lent old.table old.own (shared_at c.args.sharing.now.items c.args.i) c.requires.lent.0 c.requires.lent.1.fits.lent).sizes

pub returns-clause-did : goal.returns-clause-did
returns-clause-did g c =
    let old = c.args.self.now.instance in
    let before = shared_at c.args.sharing.now.items c.args.i in
    let after = shared_at c.perform_at_rest.new.sharing.items c.args.i in
    record {
      same = record { kind = refl; params = refl; table = refl; own = c.perform_at_rest.ensures.own };
      pieces = c.perform_at_rest.ensures.shared;
      written = once_idle old.table old.own c.perform_at_rest.new.own before after (λ k once reading. ap (λ (wss : List (List ℤ)). words_of wss k) c.perform_at_rest.ensures.done.0);
    }

pub returns-clause-table : goal.returns-clause-table
returns-clause-table g c w h lawful keeps =
    let old = c.args.self.now.instance in
    freed g.M.Ialg.law old.kind old.table old.own (shared_at c.args.sharing.now.items c.args.i) c.requires.lent.0 c.perform_at_rest.new.out
    c.requires.lent.1.fits c.perform_at_rest.ensures.done.1 old.params.items w h lawful (keeps lawful)

pub returns-clause-lent : goal.returns-clause-lent
returns-clause-lent g c =
    let did = returns-clause-did g c in
    let group = c.requires.lent.0 in (
      group,
      lent_again c.args.self.now.instance (record c.args.self.now.instance { own = c.perform_at_rest.new.own }) c.args.i c.args.sharing.now.items c.perform_at_rest.new.sharing.items group group did.same
          c.perform_at_rest.ensures.seen did.pieces (same_blocks group group (same_group group)) c.requires.lent.1,
    )
