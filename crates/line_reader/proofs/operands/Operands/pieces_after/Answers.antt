use Rattle.std.proofs.Common.{rules}
use Rattle.line_reader.specs.OperandContracts.{Fails}
use Rattle.line_reader.specs.Operands.{pieces_after}
use Rattle.line_reader.proofs.Lists.{pieces_by_item}
use Rattle.line_reader.proofs.ItemByItem.{items-kept, items-ended, items-failed, items-fewer}
use Rattle.line_reader.proofs.operands.Operands.pieces_after.Goals as goal

pub returns-in_err-piece : goal.returns-in_err-piece
returns-in_err-piece c =
    let fails : Fails (pieces_after c.args.first c.args.self.now) c.in_err-piece.field-0.0 =
    λ reason is. items-failed pieces_by_item c.loop-pieces.pieces c.loop-pieces.self reason _ c.loop-pieces.invariant (c.in_err-piece.ensures reason is) in
    search rules

pub loop-pieces-smaller : goal.loop-pieces-smaller
loop-pieces-smaller c = items-fewer pieces_by_item c.in-Some.piece _ c.loop-pieces.self c.next_piece.new.self c.in_ok-piece.ensures c.in-Some.is

pub loop-pieces-preserved : goal.loop-pieces-preserved
loop-pieces-preserved c =
    rw c.in_ok-push-2.ensures.ok (items-kept pieces_by_item c.loop-pieces.pieces c.in-Some.piece _ c.loop-pieces.self c.next_piece.new.self _ c.loop-pieces.invariant c.in_ok-piece.ensures c.in-Some.is)

pub returns : goal.returns
returns c = items-ended pieces_by_item c.loop-pieces.pieces _ c.loop-pieces.self c.next_piece.new.self _ c.loop-pieces.invariant c.in_ok-piece.ensures c.in_default.is
