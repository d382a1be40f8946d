use Rattle.std.proofs.Common.{◌≡◌, ℕ, ◌+◌, ◌<◌, ◌≤◌, ◌++◌, ◌∷◌, List, [], ◌∙◌, ap, arith, length, length-append, subst, sym}
use Rattle.spec_records.specs.Words.{association_number, association_port, is_of_process}
use Rattle.port_assoc.specs.Value.{IsWatched}
use Rattle.port_assoc.proofs.EndedProcess.{all_left, fewer_after, is_there, of_another, of_process, told_next, told_still, watched_next, watched_still}
use Rattle.port_assoc.proofs.process_end.end_watches.Goals.{in-Some+then-a-process, in-Some+else-a-process, in_default}
use Rattle.port_assoc.proofs.process_end.end_watches.Goals as goal

places_after :
    (xs ys : List ℕ) (x spare less most : ℕ) → ys ≡ xs ++ x ∷ [] → spare ≤ less + 1 → most ≤ length xs + spare →
    most ≤ length ys + less
places_after xs ys x spare less most pushed one before =
    let long = ap length pushed ∙ length-append xs (x ∷ []) in
    omega (arith, long, one, before)

pub loop-place-preserved : goal.loop-place-preserved
loop-place-preserved c =
    let p = c.args.process.0 in
    let xs = c.args.table.now.items in
    let i = c.loop-place.place in
    let before = c.loop-place.invariant in
    let within : i < length xs = omega (arith, c.loop-place-test.true, c.len-place-end.ensures.len) in
    let fewer = fewer_after xs i within in
    elim c.match-at.branch [
      | in-Some+then-a-process w ↦
          let a = w.in-Some.a in
          let there = sym w.in-Some.ensures in
          let own = of_process p a w.if-a-process.true in
          rw (w.watchers-is, w.ports-is, w.ids-is) record {
            watched = watched_next p xs i a c.loop-place.watchers w.end.new.self there own w.end.ensures.watchers before.watched;
            ports = rw w.push.ensures.items (told_next (is_of_process p) association_port c.loop-place.ports.items xs i a there own ∙ before.ports);
            ids = rw w.push-then-a-process.ensures.items (told_next (is_of_process p) association_number c.loop-place.ids.items xs i a there own ∙ before.ids);
            port_room = omega (arith, fewer, before.port_room, w.push.ensures.spare);
            id_room = omega (arith, fewer, before.id_room, w.push-then-a-process.ensures.spare);
            port_places = places_after c.loop-place.ports.items w.push.new.self.items a.key.port _ _ _ w.push.ensures.items w.push.ensures.spare before.port_places;
            id_places = places_after c.loop-place.ids.items w.push-then-a-process.new.self.items a.number _ _ _ w.push-then-a-process.ensures.items w.push-then-a-process.ensures.spare before.id_places;
            room = λ o. let earlier = before.room o in let now = w.end.ensures.room o in omega (arith, earlier, now);
          }
      | in-Some+else-a-process w ↦
          let a = w.in-Some.a in
          let there = sym w.in-Some.ensures in
          let other = of_another p a w.if-a-process.false in
          rw (w.watchers-is, w.ports-is, w.ids-is) record {
            watched = watched_still p xs i a c.loop-place.watchers there other before.watched;
            ports = told_still (is_of_process p) association_port c.loop-place.ports.items xs i a there other ∙ before.ports;
            ids = told_still (is_of_process p) association_number c.loop-place.ids.items xs i a there other ∙ before.ids;
            port_room = omega (arith, fewer, before.port_room);
            id_room = omega (arith, fewer, before.id_room);
            port_places = before.port_places;
            id_places = before.id_places;
            room = before.room;
          }
      | in_default w ↦ absurd (is_there xs i within w.in_default.ensures)
    ]

pub returns-clause-watched : goal.returns-clause-watched
returns-clause-watched c =
    let p = c.args.process.0 in
    let xs = c.args.table.now.items in
    let past : length xs ≤ c.loop-place.place = omega (arith, c.loop-place-test.false, c.len-place-end.ensures.len) in
    subst (λ ys. IsWatched ys c.loop-place.watchers) (all_left p c.loop-place.place xs past) c.loop-place.invariant.watched
