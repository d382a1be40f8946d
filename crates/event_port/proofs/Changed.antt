-- One port of several, changed: what is seen of the ports, and of their room.
use Rattle.std.proofs.Common.{◌≡◌, ℕ, zero, suc, ◌+◌, ◌-◌, ◌<◌, ◌≤◌, ◌==◌, ◌++◌, Bool, true, false, List, [], ◌∷◌, Option, Some, None, IfSome, if◌then◌else◌, get_or, length, map, option_map, set, slice_get, refl, sym, take, ap, subst, ◌∙◌, arith}
use Rattle.std.proofs.lemmas.Bool.Decides.{nat_tests}
use Rattle.std.proofs.lemmas.List.{get_or-set_same, length-set, map-set}
use Rattle.std.proofs.lemmas.Option.{slice_get-get_or}
use Rattle.dk_base.specs.ByNumber.{at_number}
use Rattle.spec_records.specs.declared.port.Alert.{Alert}
use Rattle.spec_records.specs.declared.port.Queued.{Queued}
use Rattle.spec_records.specs.Words.{Port, change_at_number, events_found, left_at, new_port, port_in, port_of, take_events, without_found}
use Rattle.spec_records.proofs.Lists.{at_number-set, numbered_push}
use Rattle.spec_records.proofs.ChangedNumbers.{at_number-map, change_at_number-none, change_at_number-same, got_map, numbered_at, set_same}
use Rattle.event_port.specs.Words.{HasPlacesAt, HasRoomAt, KeepsPlaces, KeepsRoom, KeepsRoomAtOthers, KeepsRoomButOne, PortValue, PortsValue, port_with, room_with}

-- a number that no port has
pub change_none : (xs : List PortValue) (n : ℕ) (change : Port → Port) → at_number xs n ≡ None → map port_with xs ≡ change_at_number (map port_with xs) n change
change_none xs n change e = sym (change_at_number-none (map port_with xs) n change (at_number-map port_with xs n ∙ ap (option_map port_with) e))

-- what is read of a port

pub port_read : (xs : List PortValue) (n : ℕ) (x : PortValue) → Some x ≡ at_number xs n → port_of (map port_with xs) n ≡ x.port
port_read xs n x e = ap port_in (at_number-map port_with xs n ∙ ap (option_map port_with) (sym e))

pub no_port_read : (xs : List PortValue) (n : ℕ) → at_number xs n ≡ None → port_of (map port_with xs) n ≡ new_port 0
no_port_read xs n e = ap port_in (at_number-map port_with xs n ∙ ap (option_map port_with) e)

-- the port at a place

pub port_at : (xs : List PortValue) (n i : ℕ) (x : PortValue) → i + 1 ≡ n → i < length xs → x ≡ get_or xs i x → port_of (map port_with xs) n ≡ x.port
port_at xs n i x e h is = port_read xs n x (sym (numbered_at xs n i x e h is))

room_above : (rooms : List ℕ) (p n : ℕ) (o : Option ℕ) → at_number rooms p ≡ o → HasRoomAt rooms p n → IfSome o (λ room. n ≤ room)
room_above rooms p n o e h = subst (λ o. IfSome o (λ room. n ≤ room)) e h

pub room_at : (xs : List PortValue) (p i n : ℕ) (x : PortValue) → i + 1 ≡ p → i < length xs → x ≡ get_or xs i x → HasRoomAt (map room_with xs) p n → n ≤ x.room
room_at xs p i n x e h is room =
    room_above (map room_with xs) p n (Some x.room) (at_number-map room_with xs p ∙ ap (option_map room_with) (numbered_at xs p i x e h is)) room

pub same_ports : (xs : List PortValue) (i : ℕ) (x y : PortValue) → i < length xs → x ≡ get_or xs i x → y.port ≡ x.port → map port_with (set xs i y) ≡ map port_with xs
same_ports xs i x y h is same =
    map-set port_with xs i y ∙ ap (set (map port_with xs) i) same
    ∙ set_same (map port_with xs) i x.port (got_map port_with xs i ∙ ap (option_map port_with) (slice_get-get_or xs i x h ∙ ap Some (sym is)))

pub room_after :
    (xs : List PortValue) (p i n : ℕ) (x y : PortValue) → i + 1 ≡ p → i < length xs → x ≡ get_or xs i x → n ≤ y.room →
    HasRoomAt (map room_with (set xs i y)) p n
room_after xs p i n x y e h is enough =
    let there : i < length (set xs i y) = omega (arith, h, length-set xs i y) in
    let found = numbered_at (set xs i y) p i y e there (sym (get_or-set_same xs i y y h)) in
    subst (λ o. IfSome o (λ room. n ≤ room)) (sym (at_number-map room_with (set xs i y) p ∙ ap (option_map room_with) found)) enough

pub room_nowhere : (xs : List PortValue) (p n : ℕ) → at_number xs p ≡ None → HasRoomAt (map room_with xs) p n
room_nowhere xs p n e = subst (λ o. IfSome o (λ room. n ≤ room)) (sym (at_number-map room_with xs p ∙ ap (option_map room_with) e)) (cc)

-- the room of each, after one is changed

changed_room :
    (xs : List PortValue) (i k m n : ℕ) (x y : PortValue) → slice_get xs i ≡ Some x → n ≤ m → (m ≤ x.room → n ≤ y.room) →
    IfSome (slice_get (map room_with xs) k) (λ room. m ≤ room) → IfSome (slice_get (map room_with (set xs i y)) k) (λ room. n ≤ room)
changed_room [] i k m n x y e le one h = cc
changed_room (z ∷ zs) zero zero m n x y e le one h = let same : z ≡ x = cc in one (subst (λ (v : PortValue). m ≤ v.room) same h)
changed_room (z ∷ zs) zero (suc k) m n x y e le one h = weaker (slice_get (map room_with zs) k) h
  where
    weaker : (o : Option ℕ) → IfSome o (λ room. m ≤ room) → IfSome o (λ room. n ≤ room)
    weaker None g = g
    weaker (Some r) g = omega (arith, g, le)
changed_room (z ∷ zs) (suc i) zero m n x y e le one h = omega (arith, h, le)
changed_room (z ∷ zs) (suc i) (suc k) m n x y e le one h = changed_room zs i k m n x y e le one h

room_of_each :
    (xs : List PortValue) (i p m n : ℕ) (x y : PortValue) → i < length xs → x ≡ get_or xs i x → n ≤ m → (m ≤ x.room → n ≤ y.room) →
    HasRoomAt (map room_with xs) p m → HasRoomAt (map room_with (set xs i y)) p n
room_of_each xs i p m n x y below is le one = go (p == 0)
  where
    go :
        (b : Bool) → IfSome (if b then None else slice_get (map room_with xs) (p - 1)) (λ room. m ≤ room) →
        IfSome (if b then None else slice_get (map room_with (set xs i y)) (p - 1)) (λ room. n ≤ room)
    go true h = h
    go false h = changed_room xs i (p - 1) m n x y (slice_get-get_or xs i x below ∙ ap Some (sym is)) le one h

pub room_kept :
    (xs : List PortValue) (i : ℕ) (x y : PortValue) → i < length xs → x ≡ get_or xs i x → x.room ≤ y.room →
    KeepsRoom (map room_with xs) (map room_with (set xs i y))
room_kept xs i x y below is more = λ p n. room_of_each xs i p n n x y below is (omega arith) (λ h. omega (arith, h, more))

pub room_less :
    (xs : List PortValue) (i : ℕ) (x y : PortValue) → i < length xs → x ≡ get_or xs i x → x.room ≡ y.room + 1 →
    KeepsRoomButOne (map room_with xs) (map room_with (set xs i y))
room_less xs i x y below is one = λ p n. room_of_each xs i p (n + 1) n x y below is (omega arith) (λ h. omega (arith, h, one))

-- the room of the others, after one is changed or made

same_room : (old new : List ℕ) (q n : ℕ) → at_number new q ≡ at_number old q → HasRoomAt old q n → HasRoomAt new q n
same_room old new q n e h = subst (λ o. IfSome o (λ room. n ≤ room)) (sym e) h

others_same :
    (xs ys : List PortValue) (p : ℕ) → ((q : ℕ) → (q ≡ p → ⊥) → at_number ys q ≡ at_number xs q) →
    KeepsRoomAtOthers p (map room_with xs) (map room_with ys)
others_same xs ys p same = λ q n other h.
    let there = at_number-map room_with ys q ∙ ap (option_map room_with) (same q other) ∙ sym (at_number-map room_with xs q) in
    same_room (map room_with xs) (map room_with ys) q n there h

pub room_of_others :
    (xs : List PortValue) (p i : ℕ) (y : PortValue) → i + 1 ≡ p → i < length xs →
    KeepsRoomAtOthers p (map room_with xs) (map room_with (set xs i y))
room_of_others xs p i y e below = others_same xs (set xs i y) p (λ q other. at_number-set xs i q y below ∙ grind (arith, nat_tests))

pub room_of_made :
    (xs ys : List PortValue) (p : ℕ) (z : PortValue) → p ≡ length xs + 1 → ys ≡ xs ++ z ∷ [] →
    KeepsRoomAtOthers p (map room_with xs) (map room_with ys)
room_of_made xs ys p z e is = others_same xs ys p (λ q other. ap (λ zs. at_number zs q) is ∙ numbered_push xs z q ∙ grind (arith, nat_tests))

-- the places of each, after one is changed

abbrev ports_and_room : List PortValue → ℕ → PortsValue
ports_and_room xs spare = record { ports = map port_with xs; rooms = map room_with xs; spare = spare }

abbrev IsEnough : ℕ → Option PortValue → Type 0
IsEnough n o = IfSome (option_map room_with o) (λ room. n ≤ room + length (port_in (option_map port_with o)).queue)

places_read : (xs : List PortValue) (spare p n : ℕ) → HasPlacesAt (ports_and_room xs spare) p n → IsEnough n (at_number xs p)
places_read xs spare p n h =
    subst (λ o. IfSome o (λ room. n ≤ room + length (port_in (option_map port_with (at_number xs p))).queue)) (at_number-map room_with xs p)
    (subst (λ o. IfSome (at_number (map room_with xs) p) (λ room. n ≤ room + length (port_in o).queue)) (at_number-map port_with xs p) h)

places_written : (xs : List PortValue) (spare p n : ℕ) → IsEnough n (at_number xs p) → HasPlacesAt (ports_and_room xs spare) p n
places_written xs spare p n h =
    subst (λ o. IfSome (at_number (map room_with xs) p) (λ room. n ≤ room + length (port_in o).queue)) (sym (at_number-map port_with xs p))
    (subst (λ o. IfSome o (λ room. n ≤ room + length (port_in (option_map port_with (at_number xs p))).queue)) (sym (at_number-map room_with xs p)) h)

pub places_kept :
    (xs : List PortValue) (i k l : ℕ) (x y : PortValue) → i < length xs → x ≡ get_or xs i x →
    x.room + length x.port.queue ≤ y.room + length y.port.queue →
    KeepsPlaces (record { ports = map port_with xs; rooms = map room_with xs; spare = k }) (record { ports = map port_with (set xs i y); rooms = map room_with (set xs i y); spare = l })
places_kept xs i k l x y below is more = λ p n h.
    places_written (set xs i y) l p n
    (subst (IsEnough n) (sym (at_number-set xs i p y below)) (go p n (p == suc i) refl (places_read xs k p n h)))
  where
    go : (p n : ℕ) (b : Bool) → (p == suc i) ≡ b → IsEnough n (at_number xs p) → IsEnough n (if b then Some y else at_number xs p)
    go p n true e h =
        let here : i + 1 ≡ p = grind (arith, nat_tests) in
        let enough = subst (IsEnough n) (numbered_at xs p i x here below is) h in
        omega (arith, enough, more)
    go p n false e h = h

pub same_places : (x : PortsValue) → KeepsPlaces x x
same_places x = λ p n h. h

-- less is asked for

pub room_left : (rooms : List ℕ) → KeepsRoomButOne rooms rooms
room_left rooms = λ p n h. go n (at_number rooms p) h
  where
    go : (n : ℕ) (o : Option ℕ) → IfSome o (λ room. n + 1 ≤ room) → IfSome o (λ room. n ≤ room)
    go n None h = h
    go n (Some r) h = omega (arith, h)

pub KeepsRoom-then : (xs ys zs : List ℕ) → KeepsRoom xs ys → KeepsRoom ys zs → KeepsRoom xs zs
KeepsRoom-then xs ys zs f g = λ p n h. g p n (f p n h)

-- what is found at a port that is not there, and what a count takes

nothing_of_none : (max : ℕ) → take max (new_port 0).queue ≡ []
nothing_of_none zero = refl
nothing_of_none (suc max) = refl

pub no_events : (max : ℕ) (x : Port) → x ≡ new_port 0 → events_found max x ≡ []
no_events max x e = ap (events_found max) e ∙ nothing_of_none max

none_left_out : (a : Option Alert) (queue : List Queued) → left_at 0 a queue ≡ queue
none_left_out None queue = refl
none_left_out (Some a) queue = refl

pub none_taken : (ports : List Port) (p max : ℕ) → max ≡ 0 → ports ≡ take_events ports p max
none_taken ports p max e =
    rw e (sym (change_at_number-same ports p (without_found 0) (λ x. ap (λ (qs : List Queued). record x { queue = qs }) (none_left_out x.alert x.queue))))
