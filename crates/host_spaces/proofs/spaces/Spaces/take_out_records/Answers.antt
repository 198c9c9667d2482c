-- One record's block after the other goes back.
use Rattle.std.proofs.Common.{refl, ◌∙◌, arith}
use Rattle.host_spaces.proofs.Leaving.{all_left, map_left, never_both, next_left, next_owner, next_region, next_rest, none_left, others_left}
use Rattle.host_spaces.proofs.Renaming.{same_itself}
use Rattle.host_spaces.proofs.spaces.Spaces.take_out_records.Goals as goal

pub either_pieces-pieces-requires : goal.either_pieces-pieces-requires
either_pieces-pieces-requires c = record { one = never_both c.args.self.now c.requires.leaving.table c.args.own c.args.shared c.requires.leaving.pieces }

pub loop-k-init : goal.loop-k-init
loop-k-init c = record { left = record { blocks = λ any. refl; stays = same_itself c.args.self.now }; pieces = refl }

pub give_back-requires-clause-region : goal.give_back-requires-clause-region
give_back-requires-clause-region c =
    next_region c.requires.leaving c.either_pieces-pieces.result c.either_pieces-pieces.ensures (omega arith) c.loop-k.invariant.left c.loop-k.invariant.pieces
    c.space_at.ensures c.take-piece.ensures.piece

pub give_back-requires-clause-owner : goal.give_back-requires-clause-owner
give_back-requires-clause-owner c =
    next_owner c.requires.leaving c.either_pieces-pieces.result c.either_pieces-pieces.ensures (omega arith) c.loop-k.invariant.left c.loop-k.invariant.pieces
    c.space_at.ensures c.take-piece.ensures.piece

pub loop-k-preserved : goal.loop-k-preserved
loop-k-preserved c = record {
  left = next_left c.requires.leaving c.either_pieces-pieces.result c.either_pieces-pieces.ensures (omega arith) c.loop-k.invariant.left c.loop-k.invariant.pieces
      c.space_at.ensures c.take-piece.ensures.piece c.give_back.new.self c.give_back.ensures.only c.give_back.ensures.elsewhere c.give_back.ensures.stays;
  pieces = next_rest c.either_pieces-pieces.result c.loop-k.k c.loop-k.invariant.pieces c.take-piece.ensures.left;
}

pub end_absent-requires : goal.end_absent-requires
end_absent-requires c = c.loop-k.invariant.pieces ∙ none_left c.either_pieces-pieces.result c.loop-k.k (omega arith)

pub returns-clause-map : goal.returns-clause-map
returns-clause-map c =
    map_left c.args.self.now c.loop-k.self c.args.i c.requires.leaving.table c.args.own c.args.shared c.requires.leaving.records (all_left c.loop-k.invariant.left (omega arith))

pub returns-clause-others : goal.returns-clause-others
returns-clause-others c =
    others_left c.args.self.now c.loop-k.self c.args.i c.requires.leaving.table c.args.own c.args.shared c.requires.leaving.records (all_left c.loop-k.invariant.left (omega arith))

pub returns-clause-stays : goal.returns-clause-stays
returns-clause-stays c = c.loop-k.invariant.left.stays
