use Rattle.std.proofs.Common.{sym, ◌∙◌, ap}
use Rattle.mem_rec.specs.declared.MemRec.{MemRec}
use Rattle.ialg.specs.Records.{record_at}
use Rattle.host_map.specs.Sharers.{is_same_once}
use Rattle.host_table.proofs.Likes.{same_once_unplaced}
use Rattle.host_table.proofs.sharers.have_same.Goals as goal

pub returns : goal.returns
returns c =
    c.are_same_once.ensures
    ∙ ap (λ (x : MemRec). is_same_once x c.record_of-others.result) c.record_of-record.ensures
    ∙ ap (λ (x : MemRec). is_same_once (record_at c.args.table.now c.args.k) x) c.record_of-others.ensures
    ∙ sym (same_once_unplaced c.args.table.now c.args.other.now c.args.k)
