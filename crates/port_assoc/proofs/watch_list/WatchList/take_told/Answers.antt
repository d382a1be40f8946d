use Rattle.std.proofs.Common.{◌≡◌, Some, ap, position, sym, ◌∙◌}
use Rattle.spec_records.specs.Words.{is_told}
use Rattle.spec_records.proofs.Places.{found_there}
use Rattle.port_assoc.proofs.watch_list.WatchList.take_told.Goals as goal

pub returns-clause-result : goal.returns-clause-result
returns-clause-result c =
    let place : position (is_told c.args.ready) c.self.inside.list.items ≡ Some c.in_ok-place.place =
    ap (position (is_told c.args.ready)) (sym c.deref.ensures.value) ∙ sym c.in_ok-place.ensures in
    rw (← c.self.view_is) (found_there (is_told c.args.ready) c.self.inside.list.items c.in_ok-place.place c.remove.result c.remove.result place c.remove.ensures.value)
