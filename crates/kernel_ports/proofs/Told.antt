-- What is told of timers as the clock moves on: no count comes to the end of its type, and each port keeps its room.
use Rattle.std.proofs.Common.{◌≡◌, ◌⊎◌, ℕ, zero, suc, ◌+◌, ◌-◌, ◌<◌, ◌≤◌, ◌==◌, ◌&&◌, ◌||◌, ◌^◌, nat_le, nat_lt, Bool, true, false, if◌then◌else◌, List, [], ◌∷◌, ◌++◌, Option, None, Some, IfSome, add-one, cond, drop, drop-cons, filter, find, get_or, inl, inr, length, map, refl, sym, ap, ap₂, subst, ◌∙◌, arith}
use Rattle.std.specs.Prelude.{All}
use Rattle.std.specs.List.{list_any}
use Rattle.std.proofs.lemmas.Bool.Decides.{nat_tests}
use Rattle.std.proofs.lemmas.List.{length-append}
use Rattle.std.proofs.lemmas.List.Elements.{All-cons, All-filter, All-head, All-map, All-nil, All-push, All-tail, All-weaker}
use Rattle.std.proofs.lemmas.List.Sums.{count_by-le-length, length-filter}
use Rattle.dk_base.specs.ByNumber.{at_number}
use Rattle.spec_records.specs.declared.port.Queued.{Queued}
use Rattle.spec_records.specs.declared.timer.Arming.{Arming}
use Rattle.spec_records.specs.declared.timer.Due.{Due}
use Rattle.spec_records.specs.declared.timer.Timer.{Timer}
use Rattle.spec_records.specs.Words.{AssociationList, IsAscending, Port, TimerList, advance_clock, armed_at, change_first, due_count, due_event, due_of, dues, dues_of, grow_timer, grown_event, has_timer_event, is_due, is_number, is_timer_event, moments_from, port_of, post_event, tag_of, tell_due, tell_dues, timer_number, with_event, with_grown_event}
use Rattle.spec_records.specs.Moments.{moments_until}
use Rattle.event_port.specs.Words.{HasRoomAt, KeepsPlaces, KeepsRoom, PortsValue, count_in, timer_count}
use Rattle.kernel_ports.specs.Told.{AllFit, IsDueOf, KeepsRoomBesideIdle, is_tagged}
use Rattle.kernel_ports.specs.Words.{HasRoomToFire, IsTimely, idle_at, is_queued}
use Rattle.kernel_ports.proofs.Idle.{idle, idle-same, one_less_idle, queued-grown}
use Rattle.kernel_ports.proofs.Queues.{each_queue}
use Rattle.kernel_ports.proofs.Rooms.{length-change, room_by_places, room_for_fewer}

-- how many moments there are between two clocks

moments_few : (n m i until : ℕ) → 0 < i → length (moments_from n m i until) ≤ until + 1 - m
moments_few zero m i until p = omega arith
moments_few (suc n) m i until p = go (nat_le m until) refl (i == 0) refl (moments_few n (m + i) i until p)
  where
    go :
        (b : Bool) → nat_le m until ≡ b → (c : Bool) → (i == 0) ≡ c → length (moments_from n (m + i) i until) ≤ until + 1 - (m + i) →
        length (if b then m ∷ (if c then [] else moments_from n (m + i) i until) else []) ≤ until + 1 - m
    go false e c f ih = omega arith
    go true e true f ih =
        let here : m ≤ until = grind (arith, nat_tests) in omega (arith, here)
    go true e false f ih =
        let here : m ≤ until = grind (arith, nat_tests) in omega (arith, here, ih, p)

passed : (after : ℕ) (xs : List ℕ) → length (filter (λ k. nat_lt after k) xs) ≤ length xs
passed after xs = omega (arith, length-filter (λ k. nat_lt after k) xs, count_by-le-length (λ k. nat_lt after k) xs)

due_from : (n m i after until : ℕ) → length (filter (λ k. nat_lt after k) (moments_from n m i until)) ≤ until - after
due_from zero m i after until = omega arith
due_from (suc n) m i after until = go (nat_le m until) refl (nat_lt after m) refl (i == 0) refl (due_from n (m + i) i after until)
  where
    go :
        (b : Bool) → nat_le m until ≡ b → (d : Bool) → nat_lt after m ≡ d → (c : Bool) → (i == 0) ≡ c →
        length (filter (λ k. nat_lt after k) (moments_from n (m + i) i until)) ≤ until - after →
        length (filter (λ k. nat_lt after k) (if b then m ∷ (if c then [] else moments_from n (m + i) i until) else [])) ≤ until - after
    go false e d f c g ih = omega arith
    go true e false f true g ih =
        let none = ap (λ b. length (if b then m ∷ [] else [])) f in omega (arith, none)
    go true e false f false g ih =
        let later = ap (λ b. length (if b then m ∷ filter (λ k. nat_lt after k) (moments_from n (m + i) i until) else filter (λ k. nat_lt after k) (moments_from n (m + i) i until))) f in
        omega (arith, later, ih)
    go true e true f true g ih =
        let one = ap (λ b. length (if b then m ∷ [] else [])) f in
        let past : after < m = grind (arith, nat_tests) in
        let here : m ≤ until = grind (arith, nat_tests) in
        omega (arith, one, past, here)
    go true e true f false g ih =
        let more = ap (λ b. length (if b then m ∷ filter (λ k. nat_lt after k) (moments_from n (m + i) i until) else filter (λ k. nat_lt after k) (moments_from n (m + i) i until))) f in
        let past : after < m = grind (arith, nat_tests) in
        let here : m ≤ until = grind (arith, nat_tests) in
        let steps : 0 < i = grind (arith, nat_tests) in
        omega (arith, more, past, here, steps, moments_few n (m + i) i until steps, passed after (moments_from n (m + i) i until))

pub due_few : (after until : ℕ) (a : Option Arming) → due_count after until a ≤ until - after
unfolding moments_until
due_few after until None = omega arith
due_few after until (Some a) = due_from (suc until) (a.clock + a.first) a.interval after until

-- what is due is due of one of the timers

here_tagged : (t : Timer) → is_tagged (tag_of t) t ≡ true
here_tagged t = grind (arith, nat_tests)

all_tagged : (ts : List Timer) → All (λ t. list_any (is_tagged (tag_of t)) ts ≡ true) ts
all_tagged [] = All-nil (λ t. list_any (is_tagged (tag_of t)) [] ≡ true)
all_tagged (t ∷ ts) =
    All-cons (λ u. list_any (is_tagged (tag_of u)) (t ∷ ts) ≡ true) t ts (ap (λ b. b || list_any (is_tagged (tag_of t)) ts) (here_tagged t))
    (All-weaker (λ u. list_any (is_tagged (tag_of u)) ts ≡ true) (λ u. list_any (is_tagged (tag_of u)) (t ∷ ts) ≡ true) (λ u h. later (is_tagged (tag_of u) t) h) ts (all_tagged ts))
  where
    later : {b : Bool} (a : Bool) → b ≡ true → a || b ≡ true
    later true h = refl
    later false h = h

pub dues_are : (after until : ℕ) (ts : List Timer) → All (IsDueOf ts) (dues_of after until ts)
dues_are after until ts =
    All-map (IsDueOf ts) (due_of after until) (filter (is_due after until) ts)
    (All-filter (is_due after until) (λ t. list_any (is_tagged (tag_of t)) ts ≡ true) ts (all_tagged ts))

-- the counts of events, as those of greater and greater numbers are told

module _ (after until : ℕ) (up : after ≤ until) where
  abbrev pub IsUpTo : ℕ → Queued → Type 0
  IsUpTo low e = (e.timer ≡ None) ⊎ ((e.rec.events ≤ after) ⊎ ((n : ℕ) × (e.timer ≡ Some n) × (n ≤ low) × (e.rec.events ≤ until)))

  past_is_timely : (low : ℕ) (e : Queued) → IsUpTo low e → IsTimely until e
  past_is_timely low e (inl none) = inl none
  past_is_timely low e (inr (inl few)) = inr (omega (arith, few, up))
  past_is_timely low e (inr (inr w)) = inr w.3

  further : (low high : ℕ) → low ≤ high → (e : Queued) → IsUpTo low e → IsUpTo high e
  further low high l e (inl none) = inl none
  further low high l e (inr (inl few)) = inr (inl few)
  further low high l e (inr (inr w)) = inr (inr (w.0, w.1, omega (arith, w.2, l), w.3))

  all_further : (low high : ℕ) → low ≤ high → (xs : List Queued) → All (IsUpTo low) xs → All (IsUpTo high) xs
  all_further low high l xs h = All-weaker (IsUpTo low) (IsUpTo high) (further low high l) xs h

  timely_before : (e : Queued) → IsTimely after e → IsUpTo 0 e
  timely_before e (inl none) = inl none
  timely_before e (inr few) = inr (inl few)

  -- of a timer that is not told yet
  one_few : (low n : ℕ) (e : Queued) → low < n → is_timer_event n e ≡ true → IsUpTo low e → e.rec.events ≤ after
  one_few low n e l own (inl none) = let not_own : is_timer_event n e ≡ false = ap (is_number n) none in cc
  one_few low n e l own (inr (inl few)) = few
  one_few low n e l own (inr (inr w)) =
      let same : (w.0 == n) ≡ true = sym (ap (is_number n) w.1) ∙ own in
      let equal : w.0 ≡ n = grind (arith, nat_tests) in
      absurd (omega (arith, l, w.2, equal))

  count_few : (low n : ℕ) (xs : List Queued) → low < n → All (IsUpTo low) xs → count_in (find (is_timer_event n) xs) ≤ after
  count_few low n [] l h = omega arith
  count_few low n (e ∷ xs) l h = go (is_timer_event n e) refl (count_few low n xs l (All-tail (IsUpTo low) e xs h))
    where
      go : (b : Bool) → is_timer_event n e ≡ b → count_in (find (is_timer_event n) xs) ≤ after → count_in (cond b (Some e) (find (is_timer_event n) xs)) ≤ after
      go true own ih = one_few low n e l own (All-head (IsUpTo low) e xs h)
      go false own ih = ih

  number_of : (n : ℕ) (o : Option ℕ) → is_number n o ≡ true → o ≡ Some n
  number_of n None e = cc
  number_of n (Some k) e = let same : k ≡ n = grind (arith, nat_tests) in ap Some same

  grown_up : (low n by : ℕ) (xs : List Queued) → low < n → by ≤ until - after → All (IsUpTo low) xs → All (IsUpTo n) (change_first (is_timer_event n) (grown_event by) xs)
  grown_up low n by [] l few h = All-nil (IsUpTo n)
  grown_up low n by (e ∷ xs) l few h = go (is_timer_event n e) refl (grown_up low n by xs l few rest)
    where
      first : IsUpTo low e
      first = All-head (IsUpTo low) e xs h

      rest : All (IsUpTo low) xs
      rest = All-tail (IsUpTo low) e xs h

      go :
          (b : Bool) → is_timer_event n e ≡ b → All (IsUpTo n) (change_first (is_timer_event n) (grown_event by) xs) →
          All (IsUpTo n) (if b then grown_event by e ∷ xs else e ∷ change_first (is_timer_event n) (grown_event by) xs)
      go true own ih =
          let counts : e.rec.events ≤ after = one_few low n e l own first in
          All-cons (IsUpTo n) (grown_event by e) xs (inr (inr (n, number_of n e.timer own, omega arith, omega (arith, counts, few, up))))
          (all_further low n (omega (arith, l)) xs rest)
      go false own ih = All-cons (IsUpTo n) e (change_first (is_timer_event n) (grown_event by) xs) (further low n (omega (arith, l)) e first) ih

  abbrev pub AreUpTo : ℕ → List Port → Type 0
  AreUpTo low ports = (q : ℕ) → All (IsUpTo low) (port_of ports q).queue

  told_up : (low : ℕ) (ports : List Port) (d : Due) → low < d.tag.number → d.count ≤ until - after → AreUpTo low ports → AreUpTo d.tag.number (tell_due ports d)
  told_up low ports d l few h = go (has_timer_event d.tag.number (port_of ports d.tag.port))
    where
      n : ℕ
      n = d.tag.number

      p : ℕ
      p = d.tag.port

      Rises : List Queued → List Queued → Type 0
      Rises xs ys = All (IsUpTo low) xs → All (IsUpTo n) ys

      rises : (xs : List Queued) → Rises xs xs
      rises xs = all_further low n (omega (arith, l)) xs

      go : (b : Bool) → AreUpTo n (if b then grow_timer ports p n d.count else post_event ports p (due_event d))
      go true = λ q. each_queue Rises rises (with_grown_event n d.count) ports p q (λ x is at g. grown_up low n d.count x.queue l few g) (h q)
      go false = λ q.
          each_queue Rises rises (with_event (due_event d)) ports p q
          (λ x is at g. All-push (IsUpTo n) x.queue (due_event d) (rises x.queue g) (inr (inr (n, refl, omega arith, omega (arith, few))))) (h q)

  pub told_fit :
      until < 2 ^ 32 → (ports : List Port) (ts : List Timer) (low made : ℕ) → IsAscending timer_number low made ts → AreUpTo low ports →
      AllFit ports (dues_of after until ts) × ((q : ℕ) → All (IsTimely until) (port_of (tell_dues ports (dues_of after until ts)) q).queue)
  told_fit small ports [] low made rising h =
      (tt, λ q. All-weaker (IsUpTo low) (IsTimely until) (past_is_timely low) (port_of ports q).queue (h q))
  told_fit small ports (t ∷ ts) low made rising h = go (is_due after until t) (λ next g. told_fit small next ts t.number made rising.2 g)
    where
      d : Due
      d = due_of after until t

      ds : List Due
      ds = dues_of after until ts

      above : low < t.number
      above = rising.0

      few : d.count ≤ until - after
      few = due_few after until t.arming

      fits : timer_count t.number (port_of ports t.port) + d.count < 2 ^ 32
      fits = omega (arith, small, up, few, count_few low t.number (port_of ports t.port).queue above (h t.port))

      go :
          (b : Bool) →
          ((next : List Port) → AreUpTo t.number next → AllFit next ds × ((q : ℕ) → All (IsTimely until) (port_of (tell_dues next ds) q).queue)) →
          AllFit ports (map (due_of after until) (if b then t ∷ filter (is_due after until) ts else filter (is_due after until) ts))
          × ((q : ℕ) → All (IsTimely until) (port_of (tell_dues ports (map (due_of after until) (if b then t ∷ filter (is_due after until) ts else filter (is_due after until) ts))) q).queue)
      go true later = let rest = later (tell_due ports d) (told_up low ports d above few h) in ((fits, rest.0), rest.1)
      go false later = later ports (λ q. all_further low t.number (omega (arith, above)) (port_of ports q).queue (h q))

  pub timely_up : (ports : List Port) → ((q : ℕ) → All (IsTimely after) (port_of ports q).queue) → AreUpTo 0 ports
  timely_up ports h = λ q. All-weaker (IsTimely after) (IsUpTo 0) timely_before (port_of ports q).queue (h q)

-- as many ports

length-tell_due : (ports : List Port) (d : Due) → length (tell_due ports d) ≡ length ports
length-tell_due ports d = go (has_timer_event d.tag.number (port_of ports d.tag.port))
  where
    go : (b : Bool) → length (if b then grow_timer ports d.tag.port d.tag.number d.count else post_event ports d.tag.port (due_event d)) ≡ length ports
    go true = length-change ports d.tag.port (with_grown_event d.tag.number d.count)
    go false = length-change ports d.tag.port (with_event (due_event d))

pub length-tell_dues : (ports : List Port) (ds : List Due) → length (tell_dues ports ds) ≡ length ports
length-tell_dues ports [] = refl
length-tell_dues ports (d ∷ ds) = length-tell_dues (tell_due ports d) ds ∙ length-tell_due ports d

-- room, as one event grows or is queued

pub room_grown :
    (old new : PortsValue) (p n by : ℕ) (ts : List Timer) → new.ports ≡ grow_timer old.ports p n by → KeepsRoom old.rooms new.rooms →
    KeepsRoomBesideIdle ts old new
room_grown old new p n by ts grown keeps = λ q k h.
    subst (λ m. HasRoomAt new.rooms q (k + m)) (sym (same q)) (keeps q (k + idle_at old.ports ts q) h)
  where
    AsQueued : List Queued → List Queued → Type 0
    AsQueued xs ys = (m : ℕ) → is_queued ys m ≡ is_queued xs m

    queued : (q : ℕ) → AsQueued (port_of old.ports q).queue (port_of new.ports q).queue
    queued q =
        subst (λ ports. AsQueued (port_of old.ports q).queue (port_of ports q).queue) (sym grown)
        (each_queue AsQueued (λ xs m. refl) (with_grown_event n by) old.ports p q (λ x is at m. queued-grown x.queue n by m))

    same : (q : ℕ) → idle_at new.ports ts q ≡ idle_at old.ports ts q
    same q = idle-same (port_of old.ports q).queue (port_of new.ports q).queue ts q (queued q)

same_places : (old new : PortsValue) → new.ports ≡ old.ports → KeepsRoom old.rooms new.rooms → KeepsPlaces old new
same_places old new same keeps = λ p n h.
    let queued = length (port_of old.ports p).queue in
    let alike : length (port_of new.ports p).queue ≡ queued = ap (λ ports. length (port_of ports p).queue) same in
    after p n queued alike (at_number new.rooms p) (keeps p (n - queued) (before n queued (at_number old.rooms p) h))
  where
    before : (n queued : ℕ) (o : Option ℕ) → IfSome o (λ room. n ≤ room + queued) → IfSome o (λ room. n - queued ≤ room)
    before n queued None f = tt
    before n queued (Some room) f = omega (arith, f)

    after :
        (p n queued : ℕ) → length (port_of new.ports p).queue ≡ queued → (o : Option ℕ) → IfSome o (λ room. n - queued ≤ room) →
        IfSome o (λ room. n ≤ room + length (port_of new.ports p).queue)
    after p n queued alike None f = tt
    after p n queued alike (Some room) f = omega (arith, alike, f)

pub room_posted :
    (old between new : PortsValue) (d : Due) (ts : List Timer) → between.ports ≡ old.ports → KeepsRoom old.rooms between.rooms →
    new.ports ≡ post_event between.ports d.tag.port (due_event d) → KeepsPlaces between new →
    has_timer_event d.tag.number (port_of old.ports d.tag.port) ≡ false → IsDueOf ts d → KeepsRoomBesideIdle ts old new
room_posted old between new d ts same room posted places none there = λ q k h.
    room_by_places old new q (k + idle_at old.ports ts q) (k + idle_at new.ports ts q) (λ p n g. places p n (same_places old between same room p n g))
    (omega (arith, less q)) h
  where
    Fits : ℕ → List Queued → List Queued → Type 0
    Fits q xs ys = idle ys ts q + length ys ≤ idle xs ts q + length xs

    from_old : new.ports ≡ post_event old.ports d.tag.port (due_event d)
    from_old = posted ∙ ap (λ ports. post_event ports d.tag.port (due_event d)) same

    less : (q : ℕ) → Fits q (port_of old.ports q).queue (port_of new.ports q).queue
    less q =
        subst (λ ports. Fits q (port_of old.ports q).queue (port_of ports q).queue) (sym from_old)
        (each_queue (Fits q) (λ xs. omega arith) (with_event (due_event d)) old.ports d.tag.port q (λ x is at. one q x is at))
      where
        one : (q : ℕ) (x : Port) → port_of old.ports d.tag.port ≡ x → q ≡ d.tag.port → Fits q x.queue (x.queue ++ due_event d ∷ [])
        one q x is at =
            let not_queued : is_queued x.queue d.tag.number ≡ false = subst (λ (y : Port). has_timer_event d.tag.number y ≡ false) is none in
            let fewer = one_less_idle x.queue (due_event d) d.tag ts refl not_queued there in
            let here = subst (λ k. idle (x.queue ++ due_event d ∷ []) ts k + 1 ≤ idle x.queue ts k) (sym at) fewer in
            omega (arith, here, length-append x.queue (due_event d ∷ []))

-- a port has room for the event of a timer of which none is queued
pub room_of_idle :
    (ports : PortsValue) (d : Due) (ts : List Timer) → IsDueOf ts d → has_timer_event d.tag.number (port_of ports.ports d.tag.port) ≡ false →
    HasRoomAt ports.rooms d.tag.port (idle_at ports.ports ts d.tag.port) → HasRoomAt ports.rooms d.tag.port 1
room_of_idle ports d ts there none room =
    let fewer = one_less_idle (port_of ports.ports d.tag.port).queue (due_event d) d.tag ts refl none there in
    room_for_fewer ports.rooms d.tag.port (idle_at ports.ports ts d.tag.port) 1 (omega (arith, fewer)) room

-- of the two ways in which what is due is told

pub tell_grown :
    (ports : List Port) (d : Due) → has_timer_event d.tag.number (port_of ports d.tag.port) ≡ true →
    grow_timer ports d.tag.port d.tag.number d.count ≡ tell_due ports d
tell_grown ports d e = sym (ap (λ b. if b then grow_timer ports d.tag.port d.tag.number d.count else post_event ports d.tag.port (due_event d)) e)

pub tell_posted :
    (ports : List Port) (d : Due) → has_timer_event d.tag.number (port_of ports d.tag.port) ≡ false →
    post_event ports d.tag.port (due_event d) ≡ tell_due ports d
tell_posted ports d e = sym (ap (λ b. if b then grow_timer ports d.tag.port d.tag.number d.count else post_event ports d.tag.port (due_event d)) e)

-- one after the other

abbrev pub no_due : Due
no_due = record { tag = record { port = 0; number = 0 }; id = 0; count = 0; user = 0 }

pub fit_next :
    (ports : List Port) (ds : List Due) (i : ℕ) (d : Due) → i < length ds → AllFit ports (drop i ds) →
    (timer_count (get_or ds i d).tag.number (port_of ports (get_or ds i d).tag.port) + (get_or ds i d).count < 2 ^ 32)
    × AllFit (tell_due ports (get_or ds i d)) (drop (i + 1) ds)
fit_next ports ds i d l h =
    let both = subst (AllFit ports) (drop-cons ds i d l) h in (both.0, subst (λ k. AllFit (tell_due ports (get_or ds i d)) (drop k ds)) (sym (add-one i)) both.1)

pub told_next :
    (ports : List Port) (ds : List Due) (i : ℕ) (d : Due) → i < length ds →
    tell_dues (tell_due ports (get_or ds i d)) (drop (i + 1) ds) ≡ tell_dues ports (drop i ds)
told_next ports ds i d l = ap (λ k. tell_dues (tell_due ports (get_or ds i d)) (drop k ds)) (add-one i) ∙ sym (ap (tell_dues ports) (drop-cons ds i d l))

-- as the clock moves on

module _ (old : PortsValue) (list : AssociationList) (timers : TimerList) (by : ℕ) (small : timers.clock + by < 2 ^ 32) (h : HasRoomToFire old list timers) where
  all_told : AllFit old.ports (dues timers by) × ((q : ℕ) → All (IsTimely (timers.clock + by)) (port_of (tell_dues old.ports (dues timers by)) q).queue)
  all_told =
      told_fit timers.clock (timers.clock + by) (omega arith) small old.ports timers.timers 0 timers.made h.numbers
      (timely_up timers.clock (timers.clock + by) (omega arith) old.ports h.timely)

  pub counts_fit : AllFit old.ports (dues timers by)
  counts_fit = all_told.0

  pub advanced :
      (new : PortsValue) (left : TimerList) → left ≡ advance_clock timers by → new.ports ≡ tell_dues old.ports (dues timers by) →
      KeepsRoomBesideIdle timers.timers old new → HasRoomToFire new list left
  advanced new left e told keeps =
      subst (HasRoomToFire new list) (sym e) record {
        rooms = λ q. keeps q (armed_at list.associations q) (h.rooms q);
        made = λ q l.
            let long = ap length told ∙ length-tell_dues old.ports (dues timers by) in h.made q (omega (arith, l, long));
        numbers = h.numbers;
        timely = λ q. subst (λ ports. All (IsTimely (timers.clock + by)) (port_of ports q).queue) (sym told) (all_told.1 q);
      }
