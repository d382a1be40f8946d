use Rattle.std.proofs.Common.{rules}
use Rattle.line_reader.specs.OperandContracts.{Fails}
use Rattle.line_reader.proofs.ItemByItem.{items-kept, items-ended, items-failed, items-fewer}
use Rattle.history_text.specs.Declarations.{members as members_read}
use Rattle.history_text.proofs.MemberByMember.{members_by_item}
use Rattle.history_text.proofs.operands.Operands.members.Goals as goal

pub returns-in_err-member : goal.returns-in_err-member
returns-in_err-member c =
    let fails : Fails (members_read c.args.self.now) c.in_err-member.field-0.0 =
    λ reason is. items-failed members_by_item c.loop-members.members c.loop-members.self reason _ c.loop-members.invariant (c.in_err-member.ensures reason is) in
    search rules

pub loop-members-smaller : goal.loop-members-smaller
loop-members-smaller c = items-fewer members_by_item c.in-Some.member _ c.loop-members.self c.next_member.new.self c.in_ok-member.ensures c.in-Some.is

pub loop-members-preserved : goal.loop-members-preserved
loop-members-preserved c =
    rw c.in_ok-push.ensures.ok (items-kept members_by_item c.loop-members.members c.in-Some.member _ c.loop-members.self c.next_member.new.self _ c.loop-members.invariant c.in_ok-member.ensures c.in-Some.is)

pub returns : goal.returns
returns c = items-ended members_by_item c.loop-members.members _ c.loop-members.self c.next_member.new.self _ c.loop-members.invariant c.in_ok-member.ensures c.in_default.is
