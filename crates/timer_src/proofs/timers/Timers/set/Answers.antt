use Rattle.std.proofs.Common.{◌∙◌, None, sym}
use Rattle.timer_src.proofs.Alone.{armed_so, not_armed, nothing_set, set_list}
use Rattle.timer_src.proofs.timers.Timers.set.Goals.{else-first-eq0, then-first-eq0}
use Rattle.timer_src.proofs.timers.Timers.set.Goals as goal

pub returns-in_default-clause-list : goal.returns-in_default-clause-list
returns-in_default-clause-list c =
    let none = sym c.get.ensures.found ∙ c.in_default.is in
    rw (← c.self.view_is) (nothing_set _ c.args.process.0 c.args.id c.args.first c.args.interval none)

pub returns-clause-list : goal.returns-clause-list
returns-clause-list c =
    let old = c.args.self.now.list in
    elim c.if-first-eq0.branch [
      | then-first-eq0 w ↦
          rw w.self-is
          (set_list old w.disarm.new.self.list c.args.process.0 c.args.id c.args.first c.args.interval None (not_armed old.clock c.args.first c.args.interval w.if-first-eq0.true) w.disarm.ensures.clock w.disarm.ensures.made w.disarm.ensures.timers)
      | else-first-eq0 w ↦
          rw w.self-is
          (set_list old w.arm.new.self.list c.args.process.0 c.args.id c.args.first c.args.interval _ (armed_so old.clock c.args.first c.args.interval w.if-first-eq0.false) w.arm.ensures.clock w.arm.ensures.made w.arm.ensures.timers)
    ]
