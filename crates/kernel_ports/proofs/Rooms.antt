-- There is room for what can fire and for what can be due after each change of ports, of associations and of timers.
use Rattle.std.proofs.Common.{◌≡◌, ℕ, ◌+◌, ◌<◌, ◌≤◌, ◌==◌, Bool, true, false, if◌then◌else◌, List, [], ◌∷◌, ◌++◌, Option, None, Some, IfSome, cond, count_by, filter, is_none, length, refl, sym, ap, subst, ◌∙◌, arith}
use Rattle.std.specs.Prelude.{All}
use Rattle.std.proofs.lemmas.Bool.Decides.{nat_tests}
use Rattle.std.proofs.lemmas.List.{length-append}
use Rattle.std.proofs.lemmas.List.Elements.{All-nil}
use Rattle.std.proofs.lemmas.List.Sums.{count_by-le-length, sum_by-cons}
use Rattle.dk_base.specs.ByNumber.{at_number}
use Rattle.dk_base.specs.declared.object.Obj.{Obj}
use Rattle.dk_base.specs.declared.set.PollSet.{PollSet}
use Rattle.spec_records.specs.declared.association.AssocKey.{AssocKey}
use Rattle.spec_records.specs.declared.association.Association.{Association}
use Rattle.spec_records.specs.Words.{AssociationList, IsAscending, Port, TimerList, armed_at, associate, change_at_number, change_found, dissociate, has_other_key, has_other_number, is_armed_at, make_port, new_association, new_port, no_associations, no_timers, port_in, port_of, retrieve_association, retrieve_associations, send_error, send_event, send_if_allowed, timer_number, user_event, with_event}
use Rattle.spec_records.proofs.Lists.{length-with_at_number}
use Rattle.event_port.specs.Words.{HasPlacesAt, HasRoomAt, KeepsPlaces, KeepsRoom, KeepsRoomAtOthers, KeepsRoomButOne, PortsValue}
use Rattle.kernel_ports.specs.Words.{HasRoomForEvents, HasRoomToFire, IsTimely, idle_at, is_idle, timers_at}
use Rattle.kernel_ports.proofs.Idle.{idle-few, idle-same}
use Rattle.kernel_ports.proofs.Queues.{AreAlike, AreThinner, made_alike}

-- where there is room for some events there is room for fewer
pub room_for_fewer : (rooms : List ℕ) (q n k : ℕ) → k ≤ n → HasRoomAt rooms q n → HasRoomAt rooms q k
room_for_fewer rooms q n k l h = go (at_number rooms q) h
  where
    go : (o : Option ℕ) → IfSome o (λ room. n ≤ room) → IfSome o (λ room. k ≤ room)
    go None f = tt
    go (Some room) f = omega (arith, l, f)

pub room_for_none : (rooms : List ℕ) (q n : ℕ) → n ≡ 0 → HasRoomAt rooms q n
room_for_none rooms q n e = go (at_number rooms q)
  where
    go : (o : Option ℕ) → IfSome o (λ room. n ≤ room)
    go None = tt
    go (Some room) = omega (arith, e)

-- a change of one port leaves as many
pub length-change : (ports : List Port) (p : ℕ) (f : Port → Port) → length (change_at_number ports p f) ≡ length ports
length-change ports p f = go (at_number ports p)
  where
    go : (o : Option Port) → length (change_found ports p f o) ≡ length ports
    go None = refl
    go (Some x) = length-with_at_number ports p (f x)

pub length-if_sent : (ports : List Port) (p events user : ℕ) → length (send_if_allowed ports p events user) ≡ length ports
length-if_sent ports p events user = go (is_none (send_error ports p))
  where
    go : (b : Bool) → length (if b then send_event ports p events user else ports) ≡ length ports
    go true = length-change ports p (with_event (user_event events user))
    go false = refl

pub keeps_same : (old new : List ℕ) → new ≡ old → KeepsRoom old new
keeps_same old new e = λ q n h. subst (λ rooms. HasRoomAt rooms q n) (sym e) h

-- what leaves a queue gives its place back
pub room_by_places :
    (old new : PortsValue) (q n k : ℕ) → KeepsPlaces old new → k + length (port_of new.ports q).queue ≤ n + length (port_of old.ports q).queue →
    HasRoomAt old.rooms q n → HasRoomAt new.rooms q k
room_by_places old new q n k keeps less h = after (at_number new.rooms q) (keeps q (n + length (port_of old.ports q).queue) (before (at_number old.rooms q) h))
  where
    before : (o : Option ℕ) → IfSome o (λ room. n ≤ room) → IfSome o (λ room. n + length (port_of old.ports q).queue ≤ room + length (port_of old.ports q).queue)
    before None f = tt
    before (Some room) f = omega (arith, f)

    after : (o : Option ℕ) → IfSome o (λ room. n + length (port_of old.ports q).queue ≤ room + length (port_of new.ports q).queue) → IfSome o (λ room. k ≤ room)
    after None f = tt
    after (Some room) f = omega (arith, less, f)

-- ports

pub none_to_fire : (ports : PortsValue) (list : AssociationList) (timers : TimerList) → ports.ports ≡ [] → list ≡ no_associations → timers ≡ no_timers → HasRoomToFire ports list timers
none_to_fire ports list timers empty e f =
    record {
      rooms = λ q. room_for_none ports.rooms q (armed_at list.associations q + idle_at ports.ports timers.timers q) (none q);
      made = λ q l. none_at q;
      numbers = subst (λ (ts : TimerList). IsAscending timer_number 0 ts.made ts.timers) (sym f) tt;
      timely = λ q. subst (λ ports. All (IsTimely timers.clock) (port_of ports q).queue) (sym empty) (nothing q);
    }
  where
    none : (q : ℕ) → armed_at list.associations q + idle_at ports.ports timers.timers q ≡ 0
    none q =
        ap (λ (l : AssociationList). armed_at l.associations q + idle_at ports.ports timers.timers q) e
        ∙ ap (λ (ts : TimerList). armed_at no_associations.associations q + idle_at ports.ports ts.timers q) f

    none_at : (q : ℕ) → armed_at list.associations q + timers_at timers.timers q ≡ 0
    none_at q = ap (λ (l : AssociationList). armed_at l.associations q + timers_at timers.timers q) e ∙ ap (λ (ts : TimerList). armed_at no_associations.associations q + timers_at ts.timers q) f

    nothing : (q : ℕ) → All (IsTimely timers.clock) (port_of [] q).queue
    nothing q = go (q == 0)
      where
        go : (b : Bool) → All (IsTimely timers.clock) (port_in (if b then None else None)).queue
        go true = All-nil (IsTimely timers.clock)
        go false = All-nil (IsTimely timers.clock)

module _ (old new : PortsValue) (list : AssociationList) (timers : TimerList) (long : length new.ports ≡ length old.ports) where
  pub thinned : KeepsPlaces old new → AreThinner old.ports new.ports → HasRoomToFire old list timers → HasRoomToFire new list timers
  thinned keeps thinner h =
      record {
        rooms = λ q.
            room_by_places old new q (armed_at list.associations q + idle_at old.ports timers.timers q) (armed_at list.associations q + idle_at new.ports timers.timers q) keeps
            (omega (arith, (thinner q).fewer q timers.made timers.timers h.numbers)) (h.rooms q);
        made = λ q l. h.made q (omega (arith, l, long));
        numbers = h.numbers;
        timely = λ q. (thinner q).timely timers.clock (h.timely q);
      }

  same_idle : AreAlike old.ports new.ports → (q : ℕ) → idle_at new.ports timers.timers q ≡ idle_at old.ports timers.timers q
  same_idle alike q = idle-same (port_of old.ports q).queue (port_of new.ports q).queue timers.timers q (alike q).queued

  pub ports_kept : KeepsRoom old.rooms new.rooms → AreAlike old.ports new.ports → HasRoomToFire old list timers → HasRoomToFire new list timers
  ports_kept keeps alike h =
      record {
        rooms = λ q.
            subst (λ n. HasRoomAt new.rooms q (armed_at list.associations q + n)) (sym (same_idle alike q))
            (keeps q (armed_at list.associations q + idle_at old.ports timers.timers q) (h.rooms q));
        made = λ q l. h.made q (omega (arith, l, long));
        numbers = h.numbers;
        timely = λ q. (alike q).timely timers.clock (h.timely q);
      }

  pub one_sent :
      (p : ℕ) → HasRoomForEvents old list timers p 1 → KeepsRoomButOne old.rooms new.rooms → KeepsRoomAtOthers p old.rooms new.rooms →
      AreAlike old.ports new.ports → HasRoomToFire old list timers → HasRoomToFire new list timers
  one_sent p room one others alike h =
      record {
        rooms = λ q. subst (λ n. HasRoomAt new.rooms q (armed_at list.associations q + n)) (sym (same_idle alike q)) (go q (q == p) refl);
        made = λ q l. h.made q (omega (arith, l, long));
        numbers = h.numbers;
        timely = λ q. (alike q).timely timers.clock (h.timely q);
      }
    where
      most : ℕ
      most = length list.associations + length timers.timers

      go : (q : ℕ) (b : Bool) → (q == p) ≡ b → HasRoomAt new.rooms q (armed_at list.associations q + idle_at old.ports timers.timers q)
      go q true e =
          let same : q ≡ p = grind (arith, nat_tests) in
          let all : HasRoomAt old.rooms p (most + 1) =
          room_for_fewer old.rooms p (1 + length list.associations + length timers.timers) (most + 1) (omega arith) room in
          room_for_fewer new.rooms q most (armed_at list.associations q + idle_at old.ports timers.timers q)
          (omega (arith, count_by-le-length (is_armed_at q) list.associations, count_by-le-length (is_idle (port_of old.ports q).queue q) timers.timers))
          (subst (λ k. HasRoomAt new.rooms k most) (sym same) (one p most all))
      go q false e = others q (armed_at list.associations q + idle_at old.ports timers.timers q) (λ same. grind (arith, nat_tests)) (h.rooms q)

pub port_made :
    (old new : PortsValue) (list : AssociationList) (timers : TimerList) → new.ports ≡ make_port old.ports →
    KeepsRoomAtOthers (length old.ports + 1) old.rooms new.rooms → HasRoomToFire old list timers → HasRoomToFire new list timers
port_made old new list timers made others h =
    record {
      rooms = λ q. subst (λ n. HasRoomAt new.rooms q (armed_at list.associations q + n)) (sym (same q)) (go q (q == length old.ports + 1) refl);
      made = λ q l. h.made q (omega (arith, l, long));
      numbers = h.numbers;
      timely = λ q. (alike q).timely timers.clock (h.timely q);
    }
  where
    long : length new.ports ≡ length old.ports + 1
    long = ap length made ∙ length-append old.ports (new_port (length old.ports + 1) ∷ [])

    alike : AreAlike old.ports new.ports
    alike = subst (AreAlike old.ports) (sym made) (made_alike old.ports)

    same : (q : ℕ) → idle_at new.ports timers.timers q ≡ idle_at old.ports timers.timers q
    same q = idle-same (port_of old.ports q).queue (port_of new.ports q).queue timers.timers q (alike q).queued

    go : (q : ℕ) (b : Bool) → (q == length old.ports + 1) ≡ b → HasRoomAt new.rooms q (armed_at list.associations q + idle_at old.ports timers.timers q)
    go q true e =
        let above : length old.ports < q = grind (arith, nat_tests) in
        room_for_none new.rooms q (armed_at list.associations q + idle_at old.ports timers.timers q)
        (omega (arith, h.made q above, idle-few (port_of old.ports q).queue timers.timers q))
    go q false e = others q (armed_at list.associations q + idle_at old.ports timers.timers q) (λ same. grind (arith, nat_tests)) (h.rooms q)

-- associations

pub list_fewer :
    (ports : PortsValue) (old new : AssociationList) (timers : TimerList) → ((q : ℕ) → armed_at new.associations q ≤ armed_at old.associations q) →
    HasRoomToFire ports old timers → HasRoomToFire ports new timers
list_fewer ports old new timers fewer h =
    record {
      rooms = λ q.
          room_for_fewer ports.rooms q (armed_at old.associations q + idle_at ports.ports timers.timers q)
          (armed_at new.associations q + idle_at ports.ports timers.timers q) (omega (arith, fewer q)) (h.rooms q);
      made = λ q l. omega (arith, fewer q, h.made q l);
      numbers = h.numbers;
      timely = h.timely;
    }

pub count-cons : (p : Association → Bool) (x : Association) (xs : List Association) → count_by p (x ∷ xs) ≡ cond (p x) 1 0 + count_by p xs
count-cons p x xs = sum_by-cons (λ y. cond (p y) 1 0) x xs

pub fewer_armed : (keep : Association → Bool) (xs : List Association) (q : ℕ) → armed_at (filter keep xs) q ≤ armed_at xs q
fewer_armed keep [] q = omega arith
fewer_armed keep (x ∷ xs) q = go (keep x) (fewer_armed keep xs q)
  where
    go : (b : Bool) → armed_at (filter keep xs) q ≤ armed_at xs q → armed_at (if b then x ∷ filter keep xs else filter keep xs) q ≤ armed_at (x ∷ xs) q
    go true rest = omega (arith, rest, count-cons (is_armed_at q) x (filter keep xs), count-cons (is_armed_at q) x xs)
    go false rest = omega (arith, rest, count-cons (is_armed_at q) x xs)

pub fewer_retrieved : (list : AssociationList) (ns : List ℕ) (q : ℕ) → armed_at (retrieve_associations list ns).associations q ≤ armed_at list.associations q
fewer_retrieved list [] q = omega arith
fewer_retrieved list (n ∷ ns) q =
    omega (arith, fewer_retrieved (retrieve_association list n) ns q, fewer_armed (has_other_number n) list.associations q)

module _ (ports : PortsValue) (old new : AssociationList) (timers : TimerList) where
  pub one_retrieved : (n : ℕ) → new ≡ retrieve_association old n → HasRoomToFire ports old timers → HasRoomToFire ports new timers
  one_retrieved n e h =
      subst (λ list. HasRoomToFire ports list timers) (sym e) (list_fewer ports old (retrieve_association old n) timers (fewer_armed (has_other_number n) old.associations) h)

  pub all_retrieved : (ns : List ℕ) → new ≡ retrieve_associations old ns → HasRoomToFire ports old timers → HasRoomToFire ports new timers
  all_retrieved ns e h =
      subst (λ list. HasRoomToFire ports list timers) (sym e) (list_fewer ports old (retrieve_associations old ns) timers (fewer_retrieved old ns) h)

  pub one_dissociated : (key : AssocKey) → new ≡ dissociate old key → HasRoomToFire ports old timers → HasRoomToFire ports new timers
  one_dissociated key e h =
      subst (λ list. HasRoomToFire ports list timers) (sym e) (list_fewer ports old (dissociate old key) timers (fewer_armed (has_other_key key) old.associations) h)

one_more : (xs : List Association) (a : Association) (q : ℕ) → armed_at (xs ++ a ∷ []) q ≡ armed_at xs q + cond (is_armed_at q a) 1 0
one_more [] a q = omega (arith, count-cons (is_armed_at q) a [])
one_more (x ∷ xs) a q = omega (arith, one_more xs a q, count-cons (is_armed_at q) x xs, count-cons (is_armed_at q) x (xs ++ a ∷ []))

pub one_associated :
    (ports : PortsValue) (list : AssociationList) (timers : TimerList) (key : AssocKey) (object : Obj) (events : PollSet) (user : ℕ) →
    HasRoomForEvents ports list timers key.port 1 → key.port ≤ length ports.ports → HasRoomToFire ports list timers →
    HasRoomToFire ports (associate list key object events user) timers
one_associated ports list timers key object events user room made h =
    record { rooms = λ q. go q (key.port == q) refl (armed q); made = λ q l. none q l (armed q); numbers = h.numbers; timely = h.timely }
  where
    xs : List Association
    xs = filter (has_other_key key) list.associations

    armed : (q : ℕ) → armed_at (associate list key object events user).associations q ≡ armed_at xs q + cond (key.port == q) 1 0
    armed q = one_more xs (new_association (list.made + 1) key object events user) q

    now : ℕ → ℕ
    now q = armed_at (associate list key object events user).associations q

    idle : ℕ → ℕ
    idle q = idle_at ports.ports timers.timers q

    go : (q : ℕ) (b : Bool) → (key.port == q) ≡ b → now q ≡ armed_at xs q + cond (key.port == q) 1 0 → HasRoomAt ports.rooms q (now q + idle q)
    go q true e count =
        let same : key.port ≡ q = grind (arith, nat_tests) in
        let counted : now q ≡ armed_at xs q + 1 = count ∙ ap (λ b. armed_at xs q + cond b 1 0) e in
        let few : now q + idle q ≤ 1 + length list.associations + length timers.timers =
        omega (
          arith,
          counted,
          fewer_armed (has_other_key key) list.associations q,
          count_by-le-length (is_armed_at q) list.associations,
          count_by-le-length (is_idle (port_of ports.ports q).queue q) timers.timers,
        ) in
        room_for_fewer ports.rooms q (1 + length list.associations + length timers.timers) (now q + idle q) few
        (subst (λ k. HasRoomAt ports.rooms k (1 + length list.associations + length timers.timers)) same room)
    go q false e count =
        let counted : now q ≡ armed_at xs q + 0 = count ∙ ap (λ b. armed_at xs q + cond b 1 0) e in
        let few : now q + idle q ≤ armed_at list.associations q + idle q = omega (arith, counted, fewer_armed (has_other_key key) list.associations q) in
        room_for_fewer ports.rooms q (armed_at list.associations q + idle q) (now q + idle q) few (h.rooms q)

    none : (q : ℕ) → length ports.ports < q → now q ≡ armed_at xs q + cond (key.port == q) 1 0 → now q + timers_at timers.timers q ≡ 0
    none q l count =
        let other : (key.port == q) ≡ false = grind (arith, nat_tests) in
        let counted : now q ≡ armed_at xs q + 0 = count ∙ ap (λ b. armed_at xs q + cond b 1 0) other in
        omega (arith, counted, fewer_armed (has_other_key key) list.associations q, h.made q l)
