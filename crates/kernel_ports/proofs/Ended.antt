-- What associations that end, and those that fire, leave at ports.
use Rattle.std.proofs.Common.{◌≡◌, ℕ, suc, ◌+◌, ◌<◌, ◌≤◌, Bool, true, false, if◌then◌else◌, List, [], ◌∷◌, Option, None, Some, cond, drop, filter, find, length, map, slice_index, refl, sym, ap, subst, ◌∙◌, arith}
use Rattle.dk_base.specs.declared.number.Fd.{Fd}
use Rattle.dk_base.specs.declared.object.Obj.{Obj}
use Rattle.dk_base.specs.declared.set.PollSet.{PollSet}
use Rattle.spec_records.specs.declared.association.Association.{Association}
use Rattle.spec_records.specs.declared.association.Fired.{Fired}
use Rattle.spec_records.specs.declared.timer.Tag.{Tag}
use Rattle.spec_records.specs.Words.{AssociationList, Port, TimerList, all_fired, armed_at, disarmed, disarmed_where, fire_all, is_armed_at, is_to_fire, numbers_of, port_of, ports_of, post_event, post_fired, with_event, withdraw_event, withdraw_events, withdraw_timer, without_event, without_timer_event}
use Rattle.event_port.specs.Words.{HasRoomAt, PortsValue}
use Rattle.kernel_ports.specs.Words.{KeepsRoomBeside}
use Rattle.kernel_ports.specs.Ended.{withdraw_each, withdraw_tags}
use Rattle.kernel_ports.specs.Words.{HasRoomToFire, idle_at}
use Rattle.kernel_ports.proofs.Idle.{idle-same}
use Rattle.kernel_ports.proofs.Queues.{AreAlike, fired_alike}
use Rattle.kernel_ports.proofs.Rooms.{count-cons, length-change, room_for_fewer}

pub length-withdraw_events : (ports : List Port) (xs : List Association) → length (withdraw_events ports xs) ≡ length ports
length-withdraw_events ports [] = refl
length-withdraw_events ports (a ∷ xs) =
    length-withdraw_events (withdraw_event ports a.key.port a.number) xs ∙ length-change ports a.key.port (without_event a.number)

pub length-withdraw_each : (ports : List Port) (qs ns : List ℕ) → length (withdraw_each ports qs ns) ≡ length ports
length-withdraw_each ports [] ns = refl
length-withdraw_each ports (q ∷ qs) [] = refl
length-withdraw_each ports (q ∷ qs) (n ∷ ns) = length-withdraw_each (withdraw_event ports q n) qs ns ∙ length-change ports q (without_event n)

pub each_withdrawn : (ports : List Port) (xs : List Association) → withdraw_each ports (ports_of xs) (numbers_of xs) ≡ withdraw_events ports xs
each_withdrawn ports [] = refl
each_withdrawn ports (a ∷ xs) = each_withdrawn (withdraw_event ports a.key.port a.number) xs

pub length-withdraw_tags : (ports : List Port) (gs : List Tag) → length (withdraw_tags ports gs) ≡ length ports
length-withdraw_tags ports [] = refl
length-withdraw_tags ports (g ∷ gs) = length-withdraw_tags (withdraw_timer ports g.port g.number) gs ∙ length-change ports g.port (without_timer_event g.number)

-- those that fire

length-post_fired : (ports : List Port) (fs : List Fired) → length (post_fired ports fs) ≡ length ports
length-post_fired ports [] = refl
length-post_fired ports (f ∷ fs) = length-post_fired (post_event ports f.port f.queued) fs ∙ length-change ports f.port (with_event f.queued)

fewer_fired : (ready : Obj → PollSet) (xs : List Association) (q : ℕ) → armed_at (map (disarmed_where ready) xs) q ≤ armed_at xs q
fewer_fired ready [] q = omega arith
fewer_fired ready (a ∷ xs) q =
    omega (arith, fewer_fired ready xs q, go (is_to_fire ready a), count-cons (is_armed_at q) a xs, count-cons (is_armed_at q) (disarmed_where ready a) (map (disarmed_where ready) xs))
  where
    go : (b : Bool) → cond (is_armed_at q (if b then disarmed a else a)) 1 0 ≤ cond (is_armed_at q a) 1 0
    go true = omega arith
    go false = omega arith

pub all_told :
    (old new : PortsValue) (list left : AssociationList) (timers : TimerList) (ready : Obj → PollSet) → left ≡ fire_all list ready →
    new.ports ≡ post_fired old.ports (all_fired ready list.associations) → KeepsRoomBeside list.associations left.associations old.rooms new.rooms →
    HasRoomToFire old list timers → HasRoomToFire new left timers
all_told old new list left timers ready fired posted room h =
    record {
      rooms = λ q.
          let idle = idle_at old.ports timers.timers q in
          let before = room_for_fewer old.rooms q (armed_at list.associations q + idle) (idle + armed_at list.associations q) (omega arith) (h.rooms q) in
          room_for_fewer new.rooms q (idle + armed_at left.associations q) (armed_at left.associations q + idle_at new.ports timers.timers q)
          (omega (arith, same q)) (room q idle before);
      made = λ q l.
          let long = ap length posted ∙ length-post_fired old.ports (all_fired ready list.associations) in
          let fewer = fewer_fired ready list.associations q in
          let armed : armed_at left.associations q ≡ armed_at (map (disarmed_where ready) list.associations) q = ap (λ (k : AssociationList). armed_at k.associations q) fired in
          omega (arith, armed, fewer, h.made q (omega (arith, l, long)));
      numbers = h.numbers;
      timely = λ q. (alike q).timely timers.clock (h.timely q);
    }
  where
    alike : AreAlike old.ports new.ports
    alike = subst (AreAlike old.ports) (sym posted) (fired_alike old.ports ready list.associations)

    same : (q : ℕ) → idle_at new.ports timers.timers q ≡ idle_at old.ports timers.timers q
    same q = idle-same (port_of old.ports q).queue (port_of new.ports q).queue timers.timers q (alike q).queued
