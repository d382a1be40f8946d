use Rattle.std.proofs.Common.{rules}
use Rattle.line_reader.specs.Combinators.{items_to}
use Rattle.line_reader.specs.OperandContracts.{Fails}
use Rattle.line_reader.specs.Operands.{is_rsize}
use Rattle.line_reader.proofs.ItemByItem.{items-kept, items-ended, items-failed, items-fewer}
use Rattle.history_text.specs.Operands.{pass_from_word}
use Rattle.history_text.proofs.Skips.{passes_by_item}
use Rattle.history_text.proofs.operands.Operands.pass_list.Goals as goal

pub returns-in_err-pass : goal.returns-in_err-pass
returns-in_err-pass c =
    let fails : Fails (items_to is_rsize pass_from_word c.args.self.now) c.in_err-pass.field-0.0 =
    λ reason is. items-failed passes_by_item c.loop-passes.passes c.loop-passes.self reason _ c.loop-passes.invariant (c.in_err-pass.ensures reason is) in
    search rules

pub loop-passes-smaller : goal.loop-passes-smaller
loop-passes-smaller c = items-fewer passes_by_item c.in-Some.pass _ c.loop-passes.self c.next_pass.new.self c.in_ok-pass.ensures c.in-Some.is

pub loop-passes-preserved : goal.loop-passes-preserved
loop-passes-preserved c =
    rw c.in_ok-push.ensures.ok (items-kept passes_by_item c.loop-passes.passes c.in-Some.pass _ c.loop-passes.self c.next_pass.new.self _ c.loop-passes.invariant c.in_ok-pass.ensures c.in-Some.is)

pub returns : goal.returns
returns c = items-ended passes_by_item c.loop-passes.passes _ c.loop-passes.self c.next_pass.new.self _ c.loop-passes.invariant c.in_ok-pass.ensures c.in_default.is
