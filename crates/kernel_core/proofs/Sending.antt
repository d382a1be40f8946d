-- Sending to several ports, one after the other: the room that each has suffices for all that are sent.
use Rattle.std.proofs.Common.{◌≡◌, ℕ, ◌+◌, ◌-◌, ◌<◌, ◌≤◌, ◌++◌, List, [], ◌∷◌, Option, None, Some, IfSome, drop, get_or, length, map, refl, sym, ap, ◌∙◌, arith}
use Rattle.std.proofs.lemmas.List.{append_assoc, drop_more}
use Rattle.dk_base.specs.ByNumber.{at_number}
use Rattle.spec_records.specs.Words.{Port}
use Rattle.spec_kernel.specs.Types.{Errno, Fd, Obj}
use Rattle.spec_kernel.specs.Words.{after_sending, after_sending_each, errors_of_sending, sending_error}
use Rattle.kernel_store.specs.Words.{HasRoomForEvents, KeepsPools, KeepsRoomForEventsButOne, StoreValue}

pub keeps_same : (a : StoreValue) → KeepsPools a a
keeps_same a = record { pools = refl; latest = refl; opening = refl; notice_room = omega arith; short_room = refl }

pub keeps_then : (a b c : StoreValue) → KeepsPools a b → KeepsPools b c → KeepsPools a c
keeps_then a b c g h =
    record {
      pools = h.pools ∙ g.pools;
      latest = h.latest ∙ g.latest;
      opening = h.opening ∙ g.opening;
      notice_room = omega (arith, g.notice_room, h.notice_room);
      short_room = h.short_room ∙ g.short_room;
    }

-- where there is room for some events there is room for fewer
pub room_for_fewer : (store : StoreValue) (q n k : ℕ) → k ≤ n → HasRoomForEvents store q n → HasRoomForEvents store q k
room_for_fewer store q n k l h = go (at_number store.ports.rooms q) h
  where
    associations : ℕ
    associations = length store.assocs.list.associations

    timers : ℕ
    timers = length store.timers.list.timers

    go : (o : Option ℕ) → IfSome o (λ room. n + associations + timers ≤ room) → IfSome o (λ room. k + associations + timers ≤ room)
    go None f = tt
    go (Some room) f = omega (arith, l, f)

-- a port takes one event less once an event is sent
pub room_for_rest :
    (old new : StoreValue) (q n i : ℕ) → i < n → KeepsRoomForEventsButOne old new → HasRoomForEvents old q (n - i) → HasRoomForEvents new q (n - (i + 1))
room_for_rest old new q n i l keeps h =
    keeps q (n - (i + 1)) (room_for_fewer old q (n - i) (n - (i + 1) + 1) (omega arith) h)

-- one more is sent to
module _ (f : Fd → Option Obj) (fds : List Fd) (i : ℕ) (d fd : Fd) (l : i < length fds) (here : get_or fds i d ≡ fd) where
  next : map f (drop i fds) ≡ f fd ∷ map f (drop (i + 1) fds)
  next = ap (map f) (drop_more fds i d l ∙ ap (λ x. x ∷ drop (i + 1) fds) here)

  pub one_more_sent :
      (ports : List Port) (events user : ℕ) →
      after_sending_each ports (map f (drop i fds)) events user
      ≡ after_sending_each (after_sending ports (f fd) events user) (map f (drop (i + 1) fds)) events user
  one_more_sent ports events user = ap (λ os. after_sending_each ports os events user) next

  pub one_more_error :
      (ports : List Port) (events user : ℕ) (told : List (Option Errno)) →
      told ++ errors_of_sending ports (map f (drop i fds)) events user
      ≡ (told ++ sending_error ports (f fd) ∷ []) ++ errors_of_sending (after_sending ports (f fd) events user) (map f (drop (i + 1) fds)) events user
  one_more_error ports events user told =
      ap (λ os. told ++ errors_of_sending ports os events user) next
      ∙ sym (append_assoc told (sending_error ports (f fd) ∷ []) (errors_of_sending (after_sending ports (f fd) events user) (map f (drop (i + 1) fds)) events user))
