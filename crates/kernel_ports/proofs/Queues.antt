-- What changes of ports make of their queues: events leave, or events that are no timer's come.
use Rattle.std.proofs.Common.{◌≡◌, ◌⊎◌, ℕ, ◌+◌, ◌≤◌, ◌==◌, Bool, true, false, if◌then◌else◌, List, [], ◌∷◌, ◌++◌, Option, None, Some, drop, filter, inl, inr, is_none, length, map, refl, sym, ap, subst, ◌∙◌, arith}
use Rattle.std.specs.Prelude.{All}
use Rattle.std.proofs.lemmas.Bool.Decides.{nat_tests}
use Rattle.std.proofs.lemmas.List.Elements.{All-drop, All-filter, All-push}
use Rattle.dk_base.specs.ByNumber.{at_number}
use Rattle.dk_base.specs.declared.object.Obj.{Obj}
use Rattle.dk_base.specs.declared.set.PollSet.{PollSet}
use Rattle.spec_records.specs.declared.association.Association.{Association}
use Rattle.spec_records.specs.declared.port.Alert.{Alert}
use Rattle.spec_records.specs.declared.port.Queued.{Queued}
use Rattle.spec_records.specs.declared.timer.Tag.{Tag}
use Rattle.spec_records.specs.declared.timer.Timer.{Timer}
use Rattle.spec_records.specs.Words.{IsAscending, Port, alert_port, all_fired, change_at_number, change_found, fired_where, is_other_event, is_other_timer_event, is_to_fire, left_at, make_port, new_port, port_in, port_of, post_event, post_fired, queued_of, send_error, send_event, send_if_allowed, tags_of, take_events, timer_number, user_event, with_alert, with_event, withdraw_event, withdraw_events, withdraw_timer, withdraw_timers, without_event, without_found, without_queued, without_timer_event}
use Rattle.spec_records.proofs.Lists.{at_number-renumbered_there, numbered_past, numbered_push}
use Rattle.kernel_ports.specs.Ended.{withdraw_each, withdraw_tags}
use Rattle.kernel_ports.specs.Words.{IsTimely, is_queued}
use Rattle.kernel_ports.proofs.Idle.{idle, idle-drop, idle-filter, queued-other}

-- events left, and none came
pub record IsThinner (xs ys : List Queued) : Type 0 where
  pub fewer : (q made : ℕ) (ts : List Timer) → IsAscending timer_number 0 made ts → idle ys ts q + length ys ≤ idle xs ts q + length xs
  pub timely : (clock : ℕ) → All (IsTimely clock) xs → All (IsTimely clock) ys

-- no event of a timer left or came
pub record IsAlike (xs ys : List Queued) : Type 0 where
  pub queued : (n : ℕ) → is_queued ys n ≡ is_queued xs n
  pub timely : (clock : ℕ) → All (IsTimely clock) xs → All (IsTimely clock) ys

thinner-same : (xs : List Queued) → IsThinner xs xs
thinner-same xs = record { fewer = λ q made ts h. omega arith; timely = λ clock h. h }

thinner-then : (xs ys zs : List Queued) → IsThinner xs ys → IsThinner ys zs → IsThinner xs zs
thinner-then xs ys zs f g =
    record { fewer = λ q made ts h. omega (arith, f.fewer q made ts h, g.fewer q made ts h); timely = λ clock h. g.timely clock (f.timely clock h) }

thinner-filter : (keep : Queued → Bool) (xs : List Queued) → IsThinner xs (filter keep xs)
thinner-filter keep xs = record { fewer = λ q made ts h. idle-filter q made keep xs ts h; timely = λ clock h. All-filter keep (IsTimely clock) xs h }

thinner-drop : (n : ℕ) (xs : List Queued) → IsThinner xs (drop n xs)
thinner-drop n xs = record { fewer = λ q made ts h. idle-drop q made n xs ts h; timely = λ clock h. All-drop (IsTimely clock) n xs h }

alike-same : (xs : List Queued) → IsAlike xs xs
alike-same xs = record { queued = λ n. refl; timely = λ clock h. h }

alike-then : (xs ys zs : List Queued) → IsAlike xs ys → IsAlike ys zs → IsAlike xs zs
alike-then xs ys zs f g = record { queued = λ n. g.queued n ∙ f.queued n; timely = λ clock h. g.timely clock (f.timely clock h) }

alike-push : (xs : List Queued) (e : Queued) → e.timer ≡ None → IsAlike xs (xs ++ e ∷ [])
alike-push xs e none =
    record { queued = λ n. queued-other xs e n none; timely = λ clock h. All-push (IsTimely clock) xs e h (inl none) }

-- one port of several is changed
pub each_queue :
    (Q : List Queued → List Queued → Type 0) → ((xs : List Queued) → Q xs xs) → (change : Port → Port) →
    (ports : List Port) (p q : ℕ) → ((x : Port) → port_of ports p ≡ x → q ≡ p → Q x.queue (change x).queue) →
    Q (port_of ports q).queue (port_of (change_at_number ports p change) q).queue
each_queue Q same change ports p q one = go (at_number ports p) refl
  where
    go : (o : Option Port) → at_number ports p ≡ o → Q (port_of ports q).queue (port_of (change_found ports p change o) q).queue
    go None e = same (port_of ports q).queue
    go (Some x) e =
        subst (λ r. Q (port_of ports q).queue (port_in r).queue) (sym (at_number-renumbered_there ports p q (change x) x e)) (here (q == p) refl)
      where
        here : (b : Bool) → (q == p) ≡ b → Q (port_of ports q).queue (port_in (if b then Some (change x) else at_number ports q)).queue
        here true f =
            let at : q ≡ p = grind (arith, nat_tests) in
            let found : at_number ports q ≡ Some x = ap (at_number ports) at ∙ e in
            subst (λ r. Q (port_in r).queue (change x).queue) (sym found) (one x (ap port_in e) at)
        here false f = same (port_of ports q).queue

-- events leave

abbrev pub AreThinner : List Port → List Port → Type 0
AreThinner old new = (q : ℕ) → IsThinner (port_of old q).queue (port_of new q).queue

pub thinner-ports : (old : List Port) → AreThinner old old
thinner-ports old = λ q. thinner-same (port_of old q).queue

ports-then : (old between new : List Port) → AreThinner old between → AreThinner between new → AreThinner old new
ports-then old between new f g = λ q. thinner-then (port_of old q).queue (port_of between q).queue (port_of new q).queue (f q) (g q)

pub taken_thinner : (ports : List Port) (p max : ℕ) → AreThinner ports (take_events ports p max)
taken_thinner ports p max = λ q. each_queue IsThinner thinner-same (without_found max) ports p q (λ x is at. left x.alert x.queue)
  where
    left : (a : Option Alert) (xs : List Queued) → IsThinner xs (left_at max a xs)
    left None xs = thinner-drop max xs
    left (Some a) xs = thinner-same xs

pub event_thinner : (ports : List Port) (p n : ℕ) → AreThinner ports (withdraw_event ports p n)
event_thinner ports p n = λ q. each_queue IsThinner thinner-same (without_event n) ports p q (λ x is at. thinner-filter (is_other_event n) x.queue)

pub timer_thinner : (ports : List Port) (p n : ℕ) → AreThinner ports (withdraw_timer ports p n)
timer_thinner ports p n = λ q. each_queue IsThinner thinner-same (without_timer_event n) ports p q (λ x is at. thinner-filter (is_other_timer_event n) x.queue)

pub events_thinner : (ports : List Port) (xs : List Association) → AreThinner ports (withdraw_events ports xs)
events_thinner ports [] = thinner-ports ports
events_thinner ports (a ∷ xs) =
    let next = withdraw_event ports a.key.port a.number in
    ports-then ports next (withdraw_events next xs) (event_thinner ports a.key.port a.number) (events_thinner next xs)

pub each_thinner : (ports : List Port) (qs ns : List ℕ) → AreThinner ports (withdraw_each ports qs ns)
each_thinner ports [] ns = thinner-ports ports
each_thinner ports (q ∷ qs) [] = thinner-ports ports
each_thinner ports (q ∷ qs) (n ∷ ns) =
    let next = withdraw_event ports q n in
    ports-then ports next (withdraw_each next qs ns) (event_thinner ports q n) (each_thinner next qs ns)

pub tags_thinner : (ports : List Port) (gs : List Tag) → AreThinner ports (withdraw_tags ports gs)
tags_thinner ports [] = thinner-ports ports
tags_thinner ports (g ∷ gs) =
    let next = withdraw_timer ports g.port g.number in
    ports-then ports next (withdraw_tags next gs) (timer_thinner ports g.port g.number) (tags_thinner next gs)

pub tags_withdrawn : (ports : List Port) (ts : List Timer) → withdraw_tags ports (tags_of ts) ≡ withdraw_timers ports ts
tags_withdrawn ports [] = refl
tags_withdrawn ports (t ∷ ts) = tags_withdrawn (withdraw_timer ports t.port t.number) ts

-- events that are no timer's come

abbrev pub AreAlike : List Port → List Port → Type 0
AreAlike old new = (q : ℕ) → IsAlike (port_of old q).queue (port_of new q).queue

pub alike-ports : (old new : List Port) → new ≡ old → AreAlike old new
alike-ports old new e = λ q. subst (λ ports. IsAlike (port_of old q).queue (port_of ports q).queue) (sym e) (alike-same (port_of old q).queue)

pub posted_alike : (ports : List Port) (p : ℕ) (e : Queued) → e.timer ≡ None → AreAlike ports (post_event ports p e)
posted_alike ports p e none = λ q. each_queue IsAlike alike-same (with_event e) ports p q (λ x is at. alike-push x.queue e none)

pub sent_alike : (ports : List Port) (p events user : ℕ) → AreAlike ports (send_event ports p events user)
sent_alike ports p events user = posted_alike ports p (user_event events user) refl

pub if_sent_alike : (ports : List Port) (p events user : ℕ) → AreAlike ports (send_if_allowed ports p events user)
if_sent_alike ports p events user = go (is_none (send_error ports p))
  where
    go : (b : Bool) → AreAlike ports (if b then send_event ports p events user else ports)
    go true = sent_alike ports p events user
    go false = alike-ports ports ports refl

pub alert_alike : (ports : List Port) (p events user : ℕ) → AreAlike ports (alert_port ports p events user)
alert_alike ports p events user = λ q. each_queue IsAlike alike-same (with_alert events user) ports p q (λ x is at. alike-same x.queue)

pub made_alike : (ports : List Port) → AreAlike ports (make_port ports)
made_alike ports = λ q.
    subst (λ o. IsAlike (port_of ports q).queue (port_in o).queue) (sym (numbered_push ports (new_port (length ports + 1)) q)) (go q (q == length ports + 1) refl)
  where
    go : (q : ℕ) (b : Bool) → (q == length ports + 1) ≡ b → IsAlike (port_of ports q).queue (port_in (if b then Some (new_port (length ports + 1)) else at_number ports q)).queue
    go q true e =
        let past : length ports + 1 ≤ q = grind (arith, nat_tests) in
        let none : at_number ports q ≡ None = nowhere q past in
        subst (λ o. IsAlike (port_in o).queue []) (sym none) (alike-same [])
      where
        nowhere : (q : ℕ) → length ports + 1 ≤ q → at_number ports q ≡ None
        nowhere q l = numbered_past ports q (omega (arith, l))
    go q false e = alike-same (port_of ports q).queue

pub fired_alike : (ports : List Port) (ready : Obj → PollSet) (xs : List Association) → AreAlike ports (post_fired ports (all_fired ready xs))
fired_alike ports ready [] = alike-ports ports ports refl
fired_alike ports ready (a ∷ xs) = go (is_to_fire ready a) (λ next. fired_alike next ready xs)
  where
    go : (b : Bool) → ((next : List Port) → AreAlike next (post_fired next (all_fired ready xs))) → AreAlike ports (post_fired ports (map (fired_where ready) (if b then a ∷ filter (is_to_fire ready) xs else filter (is_to_fire ready) xs)))
    go true rest = λ q.
        let e = queued_of (ready a.object) a in
        let next = post_event ports a.key.port e in
        alike-then (port_of ports q).queue (port_of next q).queue (port_of (post_fired next (all_fired ready xs)) q).queue
        (posted_alike ports a.key.port e refl q) (rest next q)
    go false rest = rest ports
