use Rattle.kernel_store.proofs.Knowing.{entered_still, knows_changed}
use Rattle.std.proofs.Common.{◌≡◌, ap, sym, ◌∙◌}
use Rattle.spec_records.specs.declared.record.NoticeStage.TheVariants as stage
use Rattle.spec_records.specs.Words.{is_given_notice_as, notice_at}
use Rattle.law_pools.proofs.Noticing.{agrees_enter_notice}
use Rattle.kernel_store.specs.Stored.{stored_state}
use Rattle.kernel_store.proofs.Acts.{entered_notice, state_is}
use Rattle.spec_records.proofs.Places.{change_first-none}
use Rattle.dk_base.specs.declared.object.Item.TheVariants as item
use Rattle.spec_records.specs.Words.{thread_in_invocation}
use Rattle.law_calls.proofs.Backing.{noticed_turns}
use Rattle.kernel_store.proofs.Waits.{entered_gets_not, waits_changed}
use Rattle.kernel_store.proofs.store.Store.enter_notice.Goals as goal

pub invariant_of-self : goal.invariant_of-self
invariant_of-self c = (rw c.enter.ensures.list (agrees_enter_notice c.self.invariant.0 c.args.n c.args.t.0), c.self.invariant.1, c.self.invariant.2, c.self.invariant.3, c.self.invariant.4, c.self.invariant.5)

pub returns-in_default-clause-none : goal.returns-in_default-clause-none
returns-in_default-clause-none c =
    let notices = c.self.inside.notices in
    let kept : c.enter.new.self.list ≡ notices.list =
    c.enter.ensures.list
    ∙ ap (λ ns. record notices.list { notices = ns })
    (change_first-none (is_given_notice_as c.args.n c.args.t.0) (notice_at (stage.Entered c.args.t)) notices.list.notices (sym c.in_default.ensures.before)) in
    rw kept (ap stored_state c.self.view_is)

pub invariant_of-self-2 : goal.invariant_of-self-2
invariant_of-self-2 c =
    let given = state_is c.self.invariant.0 c.self.view_is c.args.t.0 ∙ c.requires in (
      rw c.enter-2.ensures (rw c.enter.ensures.list (entered_notice c.self.invariant.0 c.self.view_is c.args.n c.args.t.0 c.requires)),
      c.self.invariant.1,
      rw c.enter-2.ensures
          (noticed_turns c.self.inside.processes c.self.inside.held.calls.tree c.self.invariant.0.calls c.self.invariant.2 c.args.t.0 (thread_in_invocation (item.Notice c.args.n)) c.args.n given),
      rw c.enter-2.ensures (knows_changed c.self.inside.processes c.args.t.0 (thread_in_invocation (item.Notice c.args.n)) (entered_still (item.Notice c.args.n)) c.self.invariant.3),
      c.self.invariant.4,
      rw c.enter-2.ensures (waits_changed c.self.inside.processes c.args.t.0 (thread_in_invocation (item.Notice c.args.n)) (entered_gets_not (item.Notice c.args.n)) c.self.invariant.5),
    )
