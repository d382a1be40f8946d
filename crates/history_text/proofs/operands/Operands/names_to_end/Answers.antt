use Rattle.std.proofs.Common.{rules}
use Rattle.line_reader.specs.Combinators.{items_to}
use Rattle.line_reader.specs.OperandContracts.{Fails}
use Rattle.line_reader.specs.Operands.{is_no_stop}
use Rattle.line_reader.specs.Operands.{name_from_word}
use Rattle.line_reader.proofs.ItemByItem.{items-kept, items-ended, items-failed, items-fewer}
use Rattle.history_text.proofs.Skips.{names_by_item}
use Rattle.history_text.proofs.operands.Operands.names_to_end.Goals as goal

pub returns-in_err-name : goal.returns-in_err-name
returns-in_err-name c =
    let fails : Fails (items_to is_no_stop name_from_word c.args.self.now) c.in_err-name.field-0.0 =
    λ reason is. items-failed names_by_item c.loop-names.names c.loop-names.self reason _ c.loop-names.invariant (c.in_err-name.ensures reason is) in
    search rules

pub loop-names-smaller : goal.loop-names-smaller
loop-names-smaller c = items-fewer names_by_item c.in-Some.name _ c.loop-names.self c.next_name.new.self c.in_ok-name.ensures c.in-Some.is

pub loop-names-preserved : goal.loop-names-preserved
loop-names-preserved c =
    rw c.in_ok-push.ensures.ok (items-kept names_by_item c.loop-names.names c.in-Some.name _ c.loop-names.self c.next_name.new.self _ c.loop-names.invariant c.in_ok-name.ensures c.in-Some.is)

pub returns : goal.returns
returns c = items-ended names_by_item c.loop-names.names _ c.loop-names.self c.next_name.new.self _ c.loop-names.invariant c.in_ok-name.ensures c.in_default.is
