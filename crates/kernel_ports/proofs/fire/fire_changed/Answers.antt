use Rattle.std.proofs.Common.{◌<◌, ap, arith, subst, sym, true≢false, ◌∙◌}
use Rattle.spec_records.specs.Words.{AssociationList, all_fired, fire_all, post_fired}
use Rattle.kernel_ports.specs.Words.{AreAllChanged}
use Rattle.kernel_ports.proofs.Firing.{fires_all, none_fires, none_posted, posts_all, still_changed}
use Rattle.kernel_ports.proofs.FireRooms.{armed_in, fewer_armed, room_beside_all}
use Rattle.kernel_ports.proofs.fire.fire_changed.Goals as goal

pub fire_first-requires : goal.fire_first-requires
fire_first-requires c = record {
  room = room_beside_all c.args.assocs.now.list.associations c.loop-c.assocs.list.associations c.args.ports.now.rooms c.loop-c.ports.rooms c.loop-c.invariant.rooms c.requires.room;
}

pub loop-c-smaller : goal.loop-c-smaller
loop-c-smaller c =
    let next = c.in-Some.ensures in
    let fewer = fewer_armed c.in-Some.c.object c.in-Some.c.ready c.loop-c.assocs.list.associations next.1.0 next.1.1 in
    let left = ap (λ (l : AssociationList). armed_in l.associations) c.fire_first.ensures.list in
    let less : armed_in c.fire_first.new.assocs.list.associations < armed_in c.loop-c.assocs.list.associations = omega (arith, fewer, left) in
    less

pub loop-c-preserved : goal.loop-c-preserved
loop-c-preserved c =
    let cs = c.args.changed.now in
    let list = c.loop-c.assocs.list in
    let before = c.loop-c.invariant in
    let next = c.in-Some.ensures in
    let fired = c.fire_first.ensures in record {
      changed = λ ready h.
          subst (λ (l : AssociationList). AreAllChanged ready cs l.associations) (sym fired.list)
          (still_changed ready cs list c.in-Some.c next (before.changed ready h));
      list = λ ready h.
          ap (λ (l : AssociationList). fire_all l ready) fired.list
          ∙ fires_all ready cs list c.in-Some.c next (before.changed ready h)
          ∙ before.list ready h;
      ports = λ ready h.
          ap (λ (l : AssociationList). post_fired c.fire_first.new.ports.ports (all_fired ready l.associations)) fired.list
          ∙ posts_all ready cs list c.in-Some.c next (before.changed ready h) c.loop-c.ports.ports c.fire_first.new.ports.ports fired.posted
          ∙ before.ports ready h;
      rooms = λ q n room. fired.rooms q n (before.rooms q n room);
      assoc_room = (
        omega (arith, before.assoc_room.0, fired.assoc_room.0),
        λ o. let earlier = before.assoc_room.1 o in let now = fired.assoc_room.1 o in omega (arith, earlier, now),
      );
      spare = fired.spare ∙ before.spare;
      none = λ any. absurd (true≢false any);
    }

pub returns-clause-list : goal.returns-clause-list
returns-clause-list c =
    λ ready h.
    let before = c.loop-c.invariant in
    sym (none_fires ready c.args.changed.now c.loop-c.assocs.list (before.changed ready h) c.in_default.ensures) ∙ before.list ready h

pub returns-clause-ports : goal.returns-clause-ports
returns-clause-ports c =
    λ ready h.
    let before = c.loop-c.invariant in
    sym (none_posted ready c.args.changed.now c.loop-c.assocs.list (before.changed ready h) c.in_default.ensures c.loop-c.ports.ports)
    ∙ before.ports ready h

pub returns-clause-room : goal.returns-clause-room
returns-clause-room c = room_beside_all c.args.assocs.now.list.associations c.loop-c.assocs.list.associations c.args.ports.now.rooms c.loop-c.ports.rooms c.loop-c.invariant.rooms c.requires.room
