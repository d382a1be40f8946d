-- Pipes and ports are numbered and bounded, and so are they after each change of one.
use Rattle.std.proofs.Common.{◌≡◌, ℕ, zero, suc, ◌+◌, ◌-◌, ◌≤◌, ◌<◌, ◌&&◌, List, [], ◌∷◌, ◌++◌, Option, Some, None, Bool, true, false, if◌then◌else◌, is_none, not, cond, drop, length, map, take, refl, sym, ap, ◌∙◌, arith, lit≤, All}
use Rattle.std.proofs.lemmas.Bool.Decides.{nat_tests}
use Rattle.std.proofs.lemmas.List.{length-append}
use Rattle.std.proofs.lemmas.List.Sums.{sum_by-cons}
use Rattle.std.proofs.lemmas.List.Elements.{All-filter, All-nil, All-push, All-tail}
use Rattle.dk_base.specs.declared.limits.TheConstants.{PIPE_MAX, USER_EVENTS_MAX}
use Rattle.dk_base.specs.declared.set.PollSet.{PollSet}
use Rattle.dk_base.specs.ByNumber.{at_number}
use Rattle.spec_records.specs.declared.association.Association.{Association}
use Rattle.spec_records.specs.declared.port.Alert.{Alert}
use Rattle.spec_records.specs.Words.{Pipe, Port, alert_port, change_at_number, change_found, fired_where, fitting, grow_timer, grown_event, is_full_port, is_other_event, is_other_timer_event, is_timer_event, is_user_event, left_at, make_pipe, make_port, new_pipe, new_port, port_in, port_of, post_event, post_fired, read_pipe, send_event, take_events, user_event, user_events, with_alert, with_event, with_grown_event, withdraw_event, withdraw_events, withdraw_timer, without_event, without_found, without_oldest, without_timer_event, write_pipe, written}
use Rattle.spec_records.proofs.Lists.{length-with_at_number, map-with_at_number}
use Rattle.spec_records.proofs.NumberedLists.{counted-push, counted-same}
use Rattle.spec_kernel.specs.Types.{Errno, Obj, Queued}
use Rattle.spec_kernel.specs.Words.{after_sending, after_sending_each, port_named, port_tests, sending_error}
use Rattle.spec_kernel.proofs.Refusals.{not_held}
use Rattle.law_channels.specs.Channels.{ArePipes, ArePorts, IsBounded, pipe_number, port_number}
use Rattle.law_channels.proofs.Elements.{All-change_at_number, All-change_first}
use Rattle.law_channels.proofs.Tally.{count-append, count-changed, count-cons, count-parted}

-- a change of one record keeps how many there are, and their numbers

pub length-change_at_number : {X : Type 0} (xs : List X) (n : ℕ) (change : X → X) → length (change_at_number xs n change) ≡ length xs
length-change_at_number {X} xs n change = go (at_number xs n)
  where
    go : (o : Option X) → length (change_found xs n change o) ≡ length xs
    go None = refl
    go (Some x) = length-with_at_number xs n (change x)

map-change_at_number :
    {X Y : Type 0} (f : X → Y) (xs : List X) (n : ℕ) (change : X → X) → ((x : X) → f (change x) ≡ f x) →
    map f (change_at_number xs n change) ≡ map f xs
map-change_at_number {X} f xs n change same = go (at_number xs n) refl
  where
    go : (o : Option X) → at_number xs n ≡ o → map f (change_found xs n change o) ≡ map f xs
    go None e = refl
    go (Some x) e = map-with_at_number f xs n (change x) (λ y h. let k : x ≡ y = cc in same x ∙ ap f k)

-- pipes

module _ (pipes : List Pipe) (n : ℕ) (h : ArePipes pipes) where
  changed_pipe :
      (change : Pipe → Pipe) → ((x : Pipe) → pipe_number (change x) ≡ pipe_number x) →
      ((x : Pipe) → length x.bytes ≤ PIPE_MAX → length (change x).bytes ≤ PIPE_MAX) → ArePipes (change_at_number pipes n change)
  changed_pipe change same small =
      record {
        in_order = counted-same pipe_number pipes (change_at_number pipes n change) 0 (map-change_at_number pipe_number pipes n change same) h.in_order;
        bounded = All-change_at_number (λ x. length x.bytes ≤ PIPE_MAX) pipes n change (λ x e. small x) h.bounded;
      }

  pub write-pipes : (bytes : List ℕ) → ArePipes (write_pipe pipes n bytes)
  write-pipes bytes = changed_pipe (written bytes) (λ x. refl) (λ x l. fits x.bytes l)
    where
      few : (k : ℕ) (xs : List ℕ) → length (take k xs) ≤ k
      few zero xs = omega arith
      few (suc k) [] = omega arith
      few (suc k) (x ∷ xs) = omega (arith, few k xs)

      fits : (held : List ℕ) → length held ≤ PIPE_MAX → length (held ++ fitting held bytes) ≤ PIPE_MAX
      fits held l = omega (arith, length-append held (fitting held bytes), few (PIPE_MAX - length held) bytes, l)

  pub read-pipes : (max : ℕ) → ArePipes (read_pipe pipes n max)
  read-pipes max = changed_pipe (without_oldest max) (λ x. refl) (λ x l. omega (arith, fewer max x.bytes, l))
    where
      fewer : (k : ℕ) (xs : List ℕ) → length (drop k xs) ≤ length xs
      fewer zero xs = omega arith
      fewer (suc k) [] = omega arith
      fewer (suc k) (x ∷ xs) = omega (arith, fewer k xs)

pub make-pipes : (pipes : List Pipe) → ArePipes pipes → ArePipes (make_pipe pipes)
make-pipes pipes h =
    record {
      in_order = counted-push pipe_number pipes 0 (new_pipe (length pipes + 1)) h.in_order (omega arith);
      bounded = All-push (λ x. length x.bytes ≤ PIPE_MAX) pipes (new_pipe (length pipes + 1)) h.bounded (lit≤ tt);
    }

-- ports

user_events-cons : (q : Queued) (qs : List Queued) → user_events (q ∷ qs) ≡ cond (is_user_event q) 1 0 + user_events qs
user_events-cons q qs = sum_by-cons (λ x. cond (is_user_event x) 1 0) q qs

at_most_one : (b : Bool) → cond b 1 0 ≤ 1
at_most_one true = lit≤ tt
at_most_one false = lit≤ tt

user_events-push : (qs : List Queued) (q : Queued) → user_events (qs ++ q ∷ []) ≤ user_events qs + 1
user_events-push [] q = omega (arith, at_most_one (is_user_event q), user_events-cons q [])
user_events-push (x ∷ qs) q = omega (arith, user_events-push qs q, user_events-cons x qs, user_events-cons x (qs ++ q ∷ []))

user_events-drop : (k : ℕ) (qs : List Queued) → user_events (drop k qs) ≤ user_events qs
user_events-drop zero qs = omega arith
user_events-drop (suc k) [] = omega arith
user_events-drop (suc k) (q ∷ qs) = omega (arith, user_events-drop k qs, user_events-cons q qs)

module _ {X : Type 0} (P : X → Type 0) where
  pub All-drop : (k : ℕ) (xs : List X) → All P xs → All P (drop k xs)
  All-drop zero xs all = all
  All-drop (suc k) [] all = all
  All-drop (suc k) (x ∷ xs) all = All-drop k xs (All-tail P x xs all)

abbrev IsSent : Queued → Type 0
IsSent q = is_user_event q ≡ (is_none q.assoc && is_none q.timer)

module _ (ports : List Port) (n : ℕ) (h : ArePorts ports) where
  changed_port :
      (change : Port → Port) → ((x : Port) → port_number (change x) ≡ port_number x) →
      ((x : Port) → at_number ports n ≡ Some x → IsBounded x → IsBounded (change x)) → ArePorts (change_at_number ports n change)
  changed_port change same small =
      record {
        in_order = counted-same port_number ports (change_at_number ports n change) 0 (map-change_at_number port_number ports n change same) h.in_order;
        bounded = All-change_at_number IsBounded ports n change small h.bounded;
      }

  -- a port that is not full takes an event
  pub send-ports : (events user : ℕ) → is_full_port (port_of ports n) ≡ false → ArePorts (send_event ports n events user)
  send-ports events user few = changed_port (with_event (user_event events user)) (λ x. refl) one_more
    where
      one_more : (x : Port) → at_number ports n ≡ Some x → IsBounded x → IsBounded (with_event (user_event events user) x)
      one_more x e l =
          let room : is_full_port x ≡ false = ap (λ o. is_full_port (port_in o)) (sym e) ∙ few in
          let less : user_events x.queue < USER_EVENTS_MAX = grind (arith, nat_tests, room) in
          record {
            few = omega (arith, user_events-push x.queue (user_event events user), less);
            sent = All-push IsSent x.queue (user_event events user) l.sent refl;
          }

  pub alert-ports : (events user : ℕ) → ArePorts (alert_port ports n events user)
  alert-ports events user = changed_port (with_alert events user) (λ x. refl) (λ x e l. record { few = l.few; sent = l.sent })

  pub take-ports : (max : ℕ) → ArePorts (take_events ports n max)
  take-ports max = changed_port (without_found max) (λ x. refl) (λ x e l. go x x.alert l)
    where
      go : (x : Port) (a : Option Alert) → IsBounded x → IsBounded (record x { queue = left_at max a x.queue })
      go x None l = record { few = omega (arith, user_events-drop max x.queue, l.few); sent = All-drop IsSent max x.queue l.sent }
      go x (Some a) l = record { few = l.few; sent = l.sent }

  -- what an association has queued is withdrawn
  withdraw-ports : (assoc : ℕ) → ArePorts (withdraw_event ports n assoc)
  withdraw-ports assoc =
      changed_port (without_event assoc) (λ x. refl)
      (λ x e l.
      record {
        few = omega (arith, count-parted is_user_event (is_other_event assoc) (λ q. not (is_other_event assoc q)) (λ q. refl) x.queue, l.few);
        sent = All-filter (is_other_event assoc) IsSent x.queue l.sent;
      })

  -- what a timer has queued is withdrawn, or counts more
  pub withdraw_timer-ports : (timer : ℕ) → ArePorts (withdraw_timer ports n timer)
  withdraw_timer-ports timer =
      changed_port (without_timer_event timer) (λ x. refl)
      (λ x e l.
      record {
        few = omega (arith, count-parted is_user_event (is_other_timer_event timer) (λ q. not (is_other_timer_event timer q)) (λ q. refl) x.queue, l.few);
        sent = All-filter (is_other_timer_event timer) IsSent x.queue l.sent;
      })

  pub grow_timer-ports : (timer by : ℕ) → ArePorts (grow_timer ports n timer by)
  grow_timer-ports timer by =
      changed_port (with_grown_event timer by) (λ x. refl)
      (λ x e l.
      record {
        few = omega (arith, count-changed is_user_event (is_timer_event timer) (grown_event by) (λ q. refl) x.queue, l.few);
        sent = All-change_first IsSent (is_timer_event timer) (grown_event by) (λ q k. k) x.queue l.sent;
      })

  -- and what an association or a timer queues is no user event
  pub post-ports : (q : Queued) → is_user_event q ≡ false → (is_none q.assoc && is_none q.timer) ≡ false → ArePorts (post_event ports n q)
  post-ports q no_user one =
      changed_port (with_event q) (λ x. refl)
      (λ x e l.
      record {
        few = omega (arith, count-append is_user_event x.queue (q ∷ []), count-cons is_user_event q [] ∙ ap (λ b. cond b 1 0 + 0) no_user, l.few);
        sent = All-push IsSent x.queue q l.sent (no_user ∙ sym one);
      })

pub withdrawn-ports : (ports : List Port) (xs : List Association) → ArePorts ports → ArePorts (withdraw_events ports xs)
withdrawn-ports ports [] h = h
withdrawn-ports ports (a ∷ xs) h = withdrawn-ports (withdraw_event ports a.key.port a.number) xs (withdraw-ports ports a.key.port h a.number)

pub fired-ports :
    (ports : List Port) (ready : Obj → PollSet) (xs : List Association) → ArePorts ports → ArePorts (post_fired ports (map (fired_where ready) xs))
fired-ports ports ready [] h = h
fired-ports ports ready (a ∷ xs) h =
    fired-ports (post_event ports a.key.port (fired_where ready a).queued) ready xs (post-ports ports a.key.port h (fired_where ready a).queued refl refl)

pub make-ports : (ports : List Port) → ArePorts ports → ArePorts (make_port ports)
make-ports ports h =
    record {
      in_order = counted-push port_number ports 0 (new_port (length ports + 1)) h.in_order (omega arith);
      bounded =
          All-push IsBounded ports (new_port (length ports + 1)) h.bounded (record { few = lit≤ tt; sent = All-nil IsSent });
    }

-- several that are sent to, one after the other

one_sent : (ports : List Port) (o : Option Obj) (events user : ℕ) → ArePorts ports → ArePorts (after_sending ports o events user)
one_sent ports o events user h = go (sending_error ports o) refl
  where
    go : (e : Option Errno) → sending_error ports o ≡ e → ArePorts (if is_none e then send_event ports (port_named o) events user else ports)
    go None e = send-ports ports (port_named o) h events user (not_held (port_tests o) _ [] e)
    go (Some x) e = h

pub all_sent : (ports : List Port) (os : List (Option Obj)) (events user : ℕ) → ArePorts ports → ArePorts (after_sending_each ports os events user)
all_sent ports [] events user h = h
all_sent ports (o ∷ os) events user h = all_sent (after_sending ports o events user) os events user (one_sent ports o events user h)

one_long : (ports : List Port) (o : Option Obj) (events user : ℕ) → length (after_sending ports o events user) ≡ length ports
one_long ports o events user = go (is_none (sending_error ports o))
  where
    go : (b : Bool) → length (if b then send_event ports (port_named o) events user else ports) ≡ length ports
    go true = length-change_at_number ports (port_named o) (with_event (user_event events user))
    go false = refl

pub all_long : (ports : List Port) (os : List (Option Obj)) (events user : ℕ) → length (after_sending_each ports os events user) ≡ length ports
all_long ports [] events user = refl
all_long ports (o ∷ os) events user = all_long (after_sending ports o events user) os events user ∙ one_long ports o events user
