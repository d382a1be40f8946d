use Rattle.std.proofs.Common.{Some, ap, option_map, sym, ◌∙◌}
use Rattle.spec_records.specs.Words.{disarmed, fired_of, is_fired_by}
use Rattle.spec_records.proofs.Places.{change_first-none}
use Rattle.port_assoc.proofs.Counted.{fired_counted}
use Rattle.port_assoc.proofs.Numbers.{numbers_fired}
use Rattle.port_assoc.proofs.Watching.{disarmed_first, first_watched, watched_fired, watched_still}
use Rattle.port_assoc.proofs.assocs.Assocs.fire.Goals as goal

pub invariant_of-self : goal.invariant_of-self
invariant_of-self c = (
  watched_still c.self.inside.table.items c.self.inside.watchers c.take_told.new.self c.args.object c.args.ready c.self.invariant.0 c.take_told.ensures.watchers (sym c.in_err-a.ensures.result),
  c.self.invariant.1,
  c.self.invariant.2,
)

pub returns-in_err-a-clause-fired : goal.returns-in_err-a-clause-fired
returns-in_err-a-clause-fired c =
    let none = sym (first_watched c.self.inside.table.items c.self.inside.watchers c.args.object c.args.ready c.self.invariant.0) ∙ sym c.in_err-a.ensures.result in
    rw (← c.self.view_is) (c.from_residual.ensures ∙ ap (option_map (fired_of c.args.ready)) (sym none))

pub returns-in_err-a-clause-list : goal.returns-in_err-a-clause-list
returns-in_err-a-clause-list c =
    let none = sym (first_watched c.self.inside.table.items c.self.inside.watchers c.args.object c.args.ready c.self.invariant.0) ∙ sym c.in_err-a.ensures.result in
    let same = sym (change_first-none (is_fired_by c.args.object c.args.ready) disarmed c.self.inside.table.items none) in
    rw (← c.self.view_is) (λ k. record { made = c.self.inside.made; associations = same k })

pub invariant_of-self-2 : goal.invariant_of-self-2
invariant_of-self-2 c =
    let xs = c.self.inside.table.items in
    let old = c.self.inside.watchers in
    let new = c.take_told.new.self in
    let first = disarmed_first xs old new c.args.object c.args.ready c.self.invariant.0 c.take_told.ensures.watchers c.in_ok-a.a c.disarm.ensures.distinct (sym c.in_ok-a.ensures.result) in
    rw (c.disarm.ensures.items ∙ first) (
      watched_fired xs old new c.args.object c.args.ready c.self.invariant.0 c.take_told.ensures.watchers,
      numbers_fired (is_fired_by c.args.object c.args.ready) xs c.self.inside.made c.self.invariant.1,
      fired_counted (is_fired_by c.args.object c.args.ready) xs c.self.inside.rows.counts c.self.invariant.2,
    )

pub returns-clause-fired : goal.returns-clause-fired
returns-clause-fired c =
    let found = sym (first_watched c.self.inside.table.items c.self.inside.watchers c.args.object c.args.ready c.self.invariant.0) ∙ sym c.in_ok-a.ensures.result in
    rw (← c.self.view_is) (ap Some c.fired.ensures ∙ ap (option_map (fired_of c.args.ready)) (sym found))

pub returns-clause-list : goal.returns-clause-list
returns-clause-list c =
    let first = disarmed_first c.self.inside.table.items c.self.inside.watchers c.take_told.new.self c.args.object c.args.ready c.self.invariant.0 c.take_told.ensures.watchers c.in_ok-a.a c.disarm.ensures.distinct (sym c.in_ok-a.ensures.result) in
    let rest = c.disarm.ensures.items ∙ first in
    rw (← c.self.view_is) (λ k. record { made = c.self.inside.made; associations = rest k })
