-- There is room for what can be due after each change of timers.
use Rattle.std.proofs.Common.{◌≡◌, ℕ, ◌+◌, ◌<◌, ◌≤◌, ◌==◌, Bool, true, false, if◌then◌else◌, List, [], ◌∷◌, ◌++◌, Option, None, Some, Err, Ok, cond, filter, length, nat_lt, ok_or, option_map, refl, sym, ap, ap₂, subst, ◌∙◌, arith}
use Rattle.std.proofs.lemmas.Bool.Decides.{nat_tests}
use Rattle.std.proofs.lemmas.List.Sums.{count_by-le-length}
use Rattle.dk_base.specs.declared.error.Errno.{Errno}
use Rattle.spec_records.specs.declared.port.Queued.{Queued}
use Rattle.spec_records.specs.declared.timer.Arming.{Arming}
use Rattle.spec_records.specs.declared.timer.Tag.{Tag}
use Rattle.spec_records.specs.declared.timer.Timer.{Timer}
use Rattle.spec_records.specs.Words.{AssociationList, IsAscending, Port, TimerList, arming_at, armed_at, change_first, create_timer, delete_timer, end_process_timers, is_armed_at, is_other_timer, is_timer, is_timer_of_other, new_timer, port_of, set_timer, tag_of, timer_number, with_arming, withdraw_timer, without_queued}
use Rattle.spec_records.proofs.NumberedLists.{ascending-change_first, ascending-filter, ascending-push}
use Rattle.event_port.specs.Words.{HasRoomAt, PortsValue}
use Rattle.kernel_ports.specs.Told.{port_told}
use Rattle.kernel_ports.specs.Words.{HasRoomForEvents, HasRoomToFire, idle_at, is_idle, is_timer_at, timers_at}
use Rattle.kernel_ports.proofs.Idle.{count-timer, fewer_at, fewer_idle, idle, one_more_at, one_more_idle}
use Rattle.kernel_ports.proofs.Queues.{AreThinner, thinner-ports, timer_thinner}
use Rattle.kernel_ports.proofs.Rooms.{length-change, room_for_fewer}

module _ (ports : PortsValue) (list : AssociationList) (timers : TimerList) where
  pub timer_made :
      (process q user : ℕ) → HasRoomForEvents ports list timers q 1 → q ≤ length ports.ports → HasRoomToFire ports list timers →
      HasRoomToFire ports list (create_timer timers process q user)
  timer_made process p user room made h =
      record {
        rooms = λ q. go q (p == q) refl (one_more_idle (port_of ports.ports q).queue timers.timers t q);
        made = λ q l. none q l (one_more_at timers.timers t q);
        numbers = ascending-push timer_number timers.timers 0 timers.made t (omega arith) refl h.numbers;
        timely = h.timely;
      }
    where
      t : Timer
      t = new_timer timers process p user

      now : ℕ → ℕ
      now q = idle_at ports.ports (timers.timers ++ t ∷ []) q

      go :
          (q : ℕ) (b : Bool) → (p == q) ≡ b → now q ≤ idle_at ports.ports timers.timers q + cond (p == q) 1 0 →
          HasRoomAt ports.rooms q (armed_at list.associations q + now q)
      go q true e count =
          let same : p ≡ q = grind (arith, nat_tests) in
          let one = ap {B = ℕ} (λ b. cond b 1 0) e in
          let few : armed_at list.associations q + now q ≤ 1 + length list.associations + length timers.timers =
          omega (
            arith,
            one,
            count,
            count_by-le-length (is_armed_at q) list.associations,
            count_by-le-length (is_idle (port_of ports.ports q).queue q) timers.timers,
          ) in
          room_for_fewer ports.rooms q (1 + length list.associations + length timers.timers) (armed_at list.associations q + now q) few
          (subst (λ k. HasRoomAt ports.rooms k (1 + length list.associations + length timers.timers)) same room)
      go q false e count =
          let one = ap {B = ℕ} (λ b. cond b 1 0) e in
          room_for_fewer ports.rooms q (armed_at list.associations q + idle_at ports.ports timers.timers q) (armed_at list.associations q + now q)
          (omega (arith, one, count)) (h.rooms q)

      none :
          (q : ℕ) → length ports.ports < q → timers_at (timers.timers ++ t ∷ []) q ≡ timers_at timers.timers q + cond (p == q) 1 0 →
          armed_at list.associations q + timers_at (timers.timers ++ t ∷ []) q ≡ 0
      none q l count =
          let other : (p == q) ≡ false = grind (arith, nat_tests) in
          let one = ap {B = ℕ} (λ b. cond b 1 0) other in
          omega (arith, one, count, h.made q l)

  pub timers_fewer :
      (keep : Timer → Bool) (left : TimerList) → left ≡ record timers { timers = filter keep timers.timers } → HasRoomToFire ports list timers →
      HasRoomToFire ports list left
  timers_fewer keep left e h =
      subst (HasRoomToFire ports list) (sym e) record {
        rooms = λ q.
            room_for_fewer ports.rooms q (armed_at list.associations q + idle_at ports.ports timers.timers q)
            (armed_at list.associations q + idle_at ports.ports (filter keep timers.timers) q)
            (omega (arith, fewer_idle keep (port_of ports.ports q).queue timers.timers q)) (h.rooms q);
        made = λ q l. omega (arith, fewer_at keep timers.timers q, h.made q l);
        numbers = ascending-filter timer_number keep timers.timers 0 timers.made h.numbers;
        timely = h.timely;
      }

  armed_idle : (xs : List Queued) (test : Timer → Bool) (a : Option Arming) (ts : List Timer) (q : ℕ) → idle xs (change_first test (with_arming a) ts) q ≡ idle xs ts q
  armed_idle xs test a [] q = refl
  armed_idle xs test a (t ∷ ts) q = go (test t) (armed_idle xs test a ts q)
    where
      go : (b : Bool) → idle xs (change_first test (with_arming a) ts) q ≡ idle xs ts q → idle xs (if b then with_arming a t ∷ ts else t ∷ change_first test (with_arming a) ts) q ≡ idle xs (t ∷ ts) q
      go true ih = count-timer (is_idle xs q) (with_arming a t) ts ∙ sym (count-timer (is_idle xs q) t ts)
      go false ih =
          count-timer (is_idle xs q) t (change_first test (with_arming a) ts)
          ∙ ap (λ n. cond (is_idle xs q t) 1 0 + n) ih
          ∙ sym (count-timer (is_idle xs q) t ts)

  armed_at_port : (test : Timer → Bool) (a : Option Arming) (ts : List Timer) (q : ℕ) → timers_at (change_first test (with_arming a) ts) q ≡ timers_at ts q
  armed_at_port test a [] q = refl
  armed_at_port test a (t ∷ ts) q = go (test t) (armed_at_port test a ts q)
    where
      go : (b : Bool) → timers_at (change_first test (with_arming a) ts) q ≡ timers_at ts q → timers_at (if b then with_arming a t ∷ ts else t ∷ change_first test (with_arming a) ts) q ≡ timers_at (t ∷ ts) q
      go true ih = count-timer (is_timer_at q) (with_arming a t) ts ∙ sym (count-timer (is_timer_at q) t ts)
      go false ih =
          count-timer (is_timer_at q) t (change_first test (with_arming a) ts)
          ∙ ap (λ n. cond (is_timer_at q t) 1 0 + n) ih
          ∙ sym (count-timer (is_timer_at q) t ts)

  pub timer_set :
      (process id first interval : ℕ) (left : TimerList) → left ≡ set_timer timers process id first interval → HasRoomToFire ports list timers →
      HasRoomToFire ports list left
  timer_set process id first interval left e h =
      subst (HasRoomToFire ports list) (sym e) record {
        rooms = λ q.
            subst (λ n. HasRoomAt ports.rooms q (armed_at list.associations q + n))
            (sym (armed_idle (port_of ports.ports q).queue (is_timer process id) (arming_at timers.clock first interval) timers.timers q)) (h.rooms q);
        made = λ q l. omega (arith, armed_at_port (is_timer process id) (arming_at timers.clock first interval) timers.timers q, h.made q l);
        numbers = ascending-change_first timer_number (with_arming (arming_at timers.clock first interval)) (λ t. refl) (is_timer process id) timers.timers 0 timers.made h.numbers;
        timely = h.timely;
      }

-- a tag that is told is that of a timer that is there
pub told_ports :
    (ports : List Port) (o : Option Timer) (error : Errno) (g : Tag) → Ok g ≡ ok_or (option_map tag_of o) error →
    withdraw_timer ports g.port g.number ≡ without_queued ports o
told_ports ports None error g e = cc
told_ports ports (Some t) error g e = let same : g ≡ tag_of t = cc in ap (λ (k : Tag). withdraw_timer ports k.port k.number) same

pub told_port : (o : Option Timer) (error : Errno) (g : Tag) → Ok g ≡ ok_or (option_map tag_of o) error → Some g.port ≡ port_told o
told_port None error g e = cc
told_port (Some t) error g e = let same : g ≡ tag_of t = cc in ap (λ (k : Tag). Some k.port) same

-- without a tag there is no timer
pub nothing_told :
    (o : Option Timer) (error other : Errno) → Err other ≡ ok_or (option_map tag_of o) error → o ≡ None
nothing_told None error other e = refl
nothing_told (Some t) error other e = cc

-- where none is counted none is listed
pub nothing_listed : (gs : List Tag) (n : ℕ) → n ≡ length gs → nat_lt 0 n ≡ false → gs ≡ []
nothing_listed [] n e none = refl
nothing_listed (g ∷ gs) n e none = let some : 0 < n = omega (arith, e) in absurd (grind (arith, nat_tests))
