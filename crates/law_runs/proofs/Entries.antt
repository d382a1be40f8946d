-- The table of refusals says what the step's tests say.
use Rattle.std.specs.Prelude.{ℕ, ◌≡◌, ◌<◌, ◌==◌, ◌&&◌, ◌||◌, List, [], ◌∷◌, Option, Bool, true, false, if◌then◌else◌, not, Some, None, find, is_none, is_some, length, ◌≤◌, ◌+◌, ◌++◌}
use Rattle.std.specs.List.{position_or_len}
use Rattle.std.proofs.Common.{refl, ap, ap₂, ◌∙◌, nat_lt, sym, cond, nat_le}
use native.Mathlib.Omega.{arith}
use Rattle.std.proofs.lemmas.Bool.Decides.{nat_tests}
use Rattle.spec_kernel.specs.Types.{AlertMode, Call, CallStage, Door, Errno, Fd, Obj, Param, Request, Src, Queued}
use Rattle.dk_base.specs.declared.error.Errno.TheVariants.{EAGAIN, EBADF, EBUSY, EINVAL, EMFILE, ENOENT, ENOTSUP, EPERM, EPIPE, ETIME, EBADFD}
use Rattle.dk_base.specs.declared.object.Obj.TheVariants as obj
use Rattle.dk_base.specs.declared.request.Param.TheVariants as param
use Rattle.dk_base.specs.declared.request.Request.TheVariants as request
use Rattle.spec_records.specs.declared.association.Association.{Association}
use Rattle.spec_records.specs.declared.record.CallStage.TheVariants as stage
use Rattle.spec_records.specs.Words.{Pipe, Port, Test, alert_tests, bytes_in, first_refusal, free_rows, get_tests, getn_tests, is_bound_to_some, is_client_call_of, is_entered_by, is_full_of, is_full_port, is_of_descriptors, is_of_nothing, is_of_user, is_owned_by, is_private_in, is_ready_for, is_update, is_user_event, is_valid_in, lowest_free, port_in, read_tests, refused_where, refuses_descriptors_in, send_tests, set_param_tests, user_events, would_have_no_size, write_tests, associate_tests, association_at, dissociate_tests, pid, create_timer_tests, has_all_timers, timer_at}
use Rattle.spec_kernel.specs.Words.{State, bound_of, door_at, door_named, door_of, held_in, is_door, is_reading_end, is_writing_end, name_of, object_at, pipe_named, port, port_named, port_tests, readers_of, refusal_of, table_of, writers_of, association_of_key, timers_in}
use Rattle.law_places.specs.Counts.{free_places, has_own_pool}
use Rattle.spec_records.specs.declared.timer.Timer.{Timer}
use Rattle.law_runs.specs.Clock.{count_timers, timer_with, timers_left}
use Rattle.law_runs.specs.Entries.{Reason, count_sent, door_behind, first_reason, has_client_among, has_fewer, has_no_door, has_no_reader, has_no_writer, holds_all, holds_none, is_alerted, is_in, is_invalid, is_message, is_no_door, is_no_mode, is_no_port, is_no_reading_end, is_no_writing_end, is_of_another, is_of_update, is_sent, leaves_no_size, pipe_behind, port_behind, reasons, sets_descriptors, takes_no_more, where_so, is_among, is_associated}
use Rattle.law_runs.proofs.TimerLists.{counted_timers, identified_is}
use Rattle.law_places.proofs.Counts.{free_is}
use Rattle.law_runs.proofs.Installed.{first_free-within}
use Rattle.dk_base.specs.declared.object.Src.TheVariants as src
use Rattle.dk_base.specs.declared.request.AlertMode.TheVariants as mode
use Rattle.dk_base.specs.ByNumber.{at_number}
use Rattle.law_places.proofs.References.{readers_left_are, writers_left_are}
use Rattle.std.proofs.lemmas.List.Recursion.{is_count_by}

-- each test

no_door_is : (o : Option Obj) → not (is_door o) ≡ is_no_door o
no_door_is (Some (obj.Door d)) = refl
no_door_is _ = refl

behind_is : (m : State) (o : Option Obj) → door_of m (door_named o) ≡ door_behind m o
behind_is m (Some (obj.Door d)) = refl
behind_is m _ = refl

invalid_is : (o : Option Door) → not (is_valid_in o) ≡ is_invalid o
invalid_is None = refl
invalid_is (Some d) = go d.revoked d.owner_ended
  where
    go : (a b : Bool) → not (not a && not b) ≡ (a || b)
    go true b = refl
    go false true = refl
    go false false = refl

another_is : (p : ℕ) (o : Option Door) → not (is_owned_by p o) ≡ is_of_another p o
another_is p None = refl
another_is p (Some d) = refl

unusable_is : (p : ℕ) (o : Option Door) → not (is_private_in o && is_owned_by p o) ≡ (not (has_own_pool o) || is_of_another p o)
unusable_is p None = refl
unusable_is p (Some d) = go (has_own_pool (Some d)) (d.owner.0 == p)
  where
    go : (a b : Bool) → not (a && b) ≡ (not a || not b)
    go true b = refl
    go false b = refl

takes_none_is : (x : Param) (value : ℕ) (o : Option Door) → (is_of_descriptors x && (not (value == 0) && refuses_descriptors_in o)) ≡ sets_descriptors x value o
takes_none_is param.DataMax value o = refl
takes_none_is param.DataMin value o = refl
takes_none_is param.DescMax value None = refl
takes_none_is param.DescMax value (Some d) = refl

no_size_is : (x : Param) (value : ℕ) (o : Option Door) → would_have_no_size x value o ≡ leaves_no_size x value o
no_size_is x value None = refl
no_size_is param.DataMax value (Some d) = refl
no_size_is param.DataMin value (Some d) = refl
no_size_is param.DescMax value (Some d) = refl

none_free : (t : List (Option Obj)) → free_places t ≡ 0 → length t ≤ position_or_len is_none t
none_free [] e = omega arith
none_free (None ∷ t) e = absurd (omega (arith, e))
none_free (Some o ∷ t) e = omega (arith, none_free t e)

full_is : (t : List (Option Obj)) → is_none (lowest_free t) ≡ (free_places t == 0)
full_is t = go (free_places t == 0) refl
  where
    go : (b : Bool) → (free_places t == 0) ≡ b → is_none (lowest_free t) ≡ b
    go true e =
        let last : length t ≤ position_or_len is_none t = none_free t (grind (arith, nat_tests)) in
        grind (arith, nat_tests)
    go false e =
        let some : 0 < free_rows t = grind (arith, nat_tests, free_is t) in
        let within : position_or_len is_none t < length t = first_free-within t some in
        grind (arith, nat_tests)

few_is : (t : List (Option Obj)) → nat_lt (free_rows t) 2 ≡ nat_lt (free_places t) 2
few_is t = ap (λ n. nat_lt n 2) (sym (free_is t))

pub full_pipe_is : (o : Option Pipe) → is_full_of (bytes_in o) ≡ holds_all o
full_pipe_is None = refl
full_pipe_is (Some x) = grind (arith, nat_tests)

pub empty_pipe_is : (o : Option Pipe) → (length (bytes_in o) == 0) ≡ holds_none o
empty_pipe_is None = refl
empty_pipe_is (Some x) = refl

pub some_is : (n : ℕ) → nat_lt 0 n ≡ not (n == 0)
some_is n = grind (arith, nat_tests)

alerted_is : (o : Option Port) → is_some (port_in o).alert ≡ is_alerted o
alerted_is None = refl
alerted_is (Some x) = refl

fewer_is : (o : Option Port) (n : ℕ) → not (is_ready_for n (port_in o)) ≡ (not (is_alerted o) && has_fewer o n)
fewer_is None n = grind (arith, nat_tests)
fewer_is (Some x) n = go (is_some x.alert)
  where
    go : (b : Bool) → not (b || nat_le n (length x.queue)) ≡ (not b && nat_lt (length x.queue) n)
    go true = refl
    go false = grind (arith, nat_tests)

sent_is : (s : Src) → is_of_user s ≡ is_sent s
sent_is src.User = refl
sent_is _ = refl

pub count_sent_is : (qs : List Queued) → count_sent qs ≡ user_events qs
count_sent_is = is_count_by count_sent is_user_event refl go
  where
    go : (q : Queued) (qs : List Queued) → count_sent (q ∷ qs) ≡ cond (is_user_event q) (1 + count_sent qs) (count_sent qs)
    go q qs = ap (λ (b : Bool). if b then 1 + count_sent qs else count_sent qs) (sym (sent_is q.rec.source))

full_port_is : (o : Option Port) → is_full_port (port_in o) ≡ takes_no_more o
full_port_is None = refl
full_port_is (Some x) = let n = count_sent_is x.queue in grind (arith, nat_tests, n)

no_mode_is : (x : AlertMode) → is_of_nothing x ≡ is_no_mode x
no_mode_is mode.Nothing = refl
no_mode_is _ = refl

update_is : (x : AlertMode) → is_update x ≡ is_of_update x
update_is mode.Update = refl
update_is _ = refl

in_is : (t : ℕ) (s : CallStage) → is_entered_by t s ≡ is_in t s
in_is t (stage.Entered u) = refl
in_is t _ = refl

client_is : (t : ℕ) (rs : List Call) → is_none (find (is_client_call_of t) rs) ≡ not (has_client_among t rs)
client_is t [] = refl
client_is t (r ∷ rs) =
    go (is_client_call_of t r) (client_is t rs) ∙ ap (λ b. not (not r.abandoned && b || has_client_among t rs)) (in_is t r.stage)
  where
    go :
        (b : Bool) → is_none (find (is_client_call_of t) rs) ≡ not (has_client_among t rs) →
        is_none (if b then Some r else find (is_client_call_of t) rs) ≡ not (b || has_client_among t rs)
    go true ih = refl
    go false ih = ih

-- and each request

one : (e : Errno) (a b : Bool) → a ≡ b → (if a then Some e else None) ≡ (if b then Some e else None)
one e a b h = ap (λ (c : Bool). if c then Some e else None) h

two : (e f : Errno) (a b c d : Bool) → a ≡ b → c ≡ d → (if a then Some e else (if c then Some f else None)) ≡ (if b then Some e else (if d then Some f else None))
two e f a b c d h g = ap₂ (λ (x y : Bool). if x then Some e else (if y then Some f else None)) h g

on_valid : (m : State) (p : ℕ) (fd : Fd) → not (is_valid_in (door_of m (door_at m p fd))) ≡ is_invalid (door_behind m (object_at m p fd))
on_valid m p fd = ap (λ o. not (is_valid_in o)) (behind_is m (object_at m p fd)) ∙ invalid_is (door_behind m (object_at m p fd))

on_own : (m : State) (p : ℕ) (fd : Fd) → not (is_owned_by p (door_of m (door_at m p fd))) ≡ is_of_another p (door_behind m (object_at m p fd))
on_own m p fd = ap (λ o. not (is_owned_by p o)) (behind_is m (object_at m p fd)) ∙ another_is p (door_behind m (object_at m p fd))

-- by what a descriptor names

write_is :
    (m : State) (bytes : List ℕ) (o : Option Obj) →
    first_refusal (refused_where (not (is_writing_end o)) EBADF ∷ write_tests (held_in m (pipe_named o)) bytes (readers_of m (pipe_named o)))
    ≡ first_reason
    (where_so EBADF (is_no_writing_end o)
    ∷ where_so EPIPE (has_no_reader m o)
    ∷ where_so EAGAIN (nat_lt 0 (length bytes) && holds_all (pipe_behind m o))
    ∷ [])
write_is m bytes (Some (obj.PipeOut n)) =
    two EPIPE EAGAIN _ _ _ _
    (ap (λ k. k == 0) (sym (readers_left_are m n)))
    (ap (λ b. nat_lt 0 (length bytes) && b) (full_pipe_is (at_number m.channels.pipes n)))
write_is m bytes _ = refl

read_is :
    (m : State) (o : Option Obj) →
    first_refusal (refused_where (not (is_reading_end o)) EBADF ∷ read_tests (held_in m (pipe_named o)) (writers_of m (pipe_named o)))
    ≡ first_reason
    (where_so EBADF (is_no_reading_end o) ∷ where_so EAGAIN (holds_none (pipe_behind m o) && not (has_no_writer m o)) ∷ [])
read_is m (Some (obj.PipeIn n)) =
    one EAGAIN _ _
    (ap₂ (λ (a b : Bool). a && b)
    (empty_pipe_is (at_number m.channels.pipes n))
    (some_is (writers_of m n) ∙ ap (λ k. not (k == 0)) (sym (writers_left_are m n))))
read_is m _ = refl

-- what comes after a port was asked for
module _ (m : State) (tests : Option Obj → List Test) (others : Option Obj → List Reason)
    (same : (q : ℕ) → first_refusal (tests (Some (obj.Port q))) ≡ first_reason (others (Some (obj.Port q)))) where
  of_port_is :
      (o : Option Obj) →
      first_refusal (port_tests o ++ tests o) ≡ first_reason (where_so EBADF (is_none o) ∷ where_so EBADFD (is_no_port o) ∷ others o)
  of_port_is None = refl
  of_port_is (Some (obj.Port q)) = same q
  of_port_is (Some x) = refl

none_associated :
    (q p : ℕ) (fd : Fd) (xs : List Association) →
    is_none (association_at xs (record { port = q; process = pid p; fd = fd })) ≡ not (is_among q p fd xs)
none_associated q p fd [] = refl
none_associated q p fd (a ∷ xs) = grind (arith, nat_tests, none_associated q p fd xs)

all_timers_are : (ts : List Timer) (p : ℕ) → has_all_timers ts p ≡ not (nat_lt (count_timers p ts) 32)
all_timers_are ts p = let n = counted_timers ts p in grind (arith, nat_tests, n)

no_timer_is : (m : State) (p id : ℕ) → is_none (timer_at (timers_in m) p id) ≡ is_none (timer_with m p id)
no_timer_is m p id = ap (λ (o : Option Timer). is_none o) (sym (identified_is (timers_in m) p id))

-- to no door that is there
unbound_is : (o : Option ℕ) → not (is_bound_to_some o) ≡ has_no_door o
unbound_is None = refl
unbound_is (Some d) = grind arith

pub refusal_is : (m : State) (t p : ℕ) (r : Request) → is_message r ≡ false → refusal_of m t p r ≡ first_reason (reasons m t p r)
refusal_is m t p (request.Create entry cookie attrs) h = two EINVAL EMFILE _ _ _ _ refl (full_is (table_of m p))
refusal_is m t p (request.Call fd bytes pass rsize) h = absurd (cc h)
refusal_is m t p (request.Return bytes pass) h = absurd (cc h)
refusal_is m t p (request.Revoke fd) h = two EBADF EPERM _ _ _ _ (on_valid m p fd) (on_own m p fd)
refusal_is m t p (request.Bind fd) h =
    two EBADF EINVAL _ _ _ _ (on_valid m p fd)
    (ap (λ o. not (is_private_in o && is_owned_by p o)) (behind_is m (object_at m p fd)) ∙ unusable_is p (door_behind m (object_at m p fd)))
refusal_is m t p (request.Info fd) h = one EBADF _ _ (no_door_is (object_at m p fd))
refusal_is m t p request.InfoQuery h = one EBADF _ _ (unbound_is (bound_of m t))
refusal_is m t p (request.GetParam fd x) h = one EBADF _ _ (no_door_is (object_at m p fd))
refusal_is m t p (request.SetParam fd x value) h =
    ap (λ o. first_refusal (set_param_tests p o x value)) (behind_is m (object_at m p fd))
    ∙ ap (λ (b : Bool). if b then Some EBADF else rest (not (is_owned_by p o)) (not_allowed x value o) (would_have_no_size x value o)) (invalid_is o)
    ∙ ap (λ (b : Bool). if is_invalid o then Some EBADF else rest b (not_allowed x value o) (would_have_no_size x value o)) (another_is p o)
    ∙ ap (λ (b : Bool). if is_invalid o then Some EBADF else rest (is_of_another p o) b (would_have_no_size x value o)) (takes_none_is x value o)
    ∙ ap (λ (b : Bool). if is_invalid o then Some EBADF else rest (is_of_another p o) (sets_descriptors x value o) b) (no_size_is x value o)
  where
    o : Option Door
    o = door_behind m (object_at m p fd)

    rest : Bool → Bool → Bool → Option Errno
    rest a b c = if a then Some EPERM else (if b then Some ENOTSUP else (if c then Some EINVAL else None))

    not_allowed : Param → ℕ → Option Door → Bool
    not_allowed y v d = is_of_descriptors y && (not (v == 0) && refuses_descriptors_in d)
refusal_is m t p request.Cred h = one EINVAL _ _ (client_is t m.call_tree.calls)
refusal_is m t p (request.Dup fd) h = two EBADF EMFILE _ _ _ _ refl (full_is (table_of m p))
refusal_is m t p (request.Attach fd path) h =
    ap (λ (b : Bool). if is_none (object_at m p fd) then Some EBADF else (if b then Some EINVAL else (if is_some (name_of m path) then Some EBUSY else None)))
    (no_door_is (object_at m p fd))
refusal_is m t p (request.Open path) h = two ENOENT EMFILE _ _ _ _ refl (full_is (table_of m p))
refusal_is m t p request.Pipe h = one EMFILE _ _ (few_is (table_of m p))
refusal_is m t p (request.Write fd bytes) h = write_is m bytes (object_at m p fd)
refusal_is m t p (request.Read fd max) h = read_is m (object_at m p fd)
refusal_is m t p request.PortCreate h = one EMFILE _ _ (full_is (table_of m p))
refusal_is m t p (request.Get fd wait) h =
    of_port_is m
    (λ o. get_tests wait (port m (port_named o)))
    (λ o. where_so ETIME (not wait && (not (is_alerted (port_behind m o)) && has_fewer (port_behind m o) 1)) ∷ [])
    (λ q. one ETIME _ _ (ap (λ b. not wait && b) (fewer_is (at_number m.channels.ports q) 1)))
    (object_at m p fd)
refusal_is m t p (request.GetN fd max nget wait) h =
    of_port_is m
    (λ o. getn_tests wait max nget (port m (port_named o)))
    (λ o. where_so EINVAL (not (max == 0) && nat_lt max nget)
    ∷ where_so ETIME (not wait && (not (max == 0) && (not (is_alerted (port_behind m o)) && has_fewer (port_behind m o) nget)))
    ∷ [])
    (λ q. two EINVAL ETIME _ _ _ _ refl (ap (λ b. not wait && (not (max == 0) && b)) (fewer_is (at_number m.channels.ports q) nget)))
    (object_at m p fd)
refusal_is m t p (request.Send fd events user) h =
    of_port_is m
    (λ o. send_tests (port m (port_named o)))
    (λ o. where_so EAGAIN (takes_no_more (port_behind m o)) ∷ [])
    (λ q. one EAGAIN _ _ (full_port_is (at_number m.channels.ports q)))
    (object_at m p fd)
refusal_is m t p (request.Alert fd x events user) h =
    of_port_is m
    (λ o. alert_tests x events (port m (port_named o)))
    (λ o. where_so EINVAL (is_no_mode x) ∷ where_so EBUSY (is_of_update x && (not (events == 0) && is_alerted (port_behind m o))) ∷ [])
    (λ q. two EINVAL EBUSY _ _ _ _
    (no_mode_is x)
    (ap₂ (λ (a b : Bool). a && (not (events == 0) && b)) (update_is x) (alerted_is (at_number m.channels.ports q))))
    (object_at m p fd)
refusal_is m t p (request.Associate fd object events user) h =
    of_port_is m
    (λ o. associate_tests (object_at m p object))
    (λ o. where_so EBADFD (is_none (object_at m p object)) ∷ [])
    (λ q. refl)
    (object_at m p fd)
refusal_is m t p (request.Dissociate fd object) h =
    of_port_is m
    (λ o. dissociate_tests (object_at m p object) (association_of_key m (record { port = port_named o; process = pid p; fd = object })))
    (λ o. where_so EBADFD (is_none (object_at m p object)) ∷ where_so ENOENT (not (is_associated m p object o)) ∷ [])
    (λ q. two EBADFD ENOENT _ _ _ _ refl (none_associated q p object m.channels.associations.associations))
    (object_at m p fd)
refusal_is m t p (request.TimerCreate fd user) h =
    of_port_is m
    (λ o. create_timer_tests (timers_in m) p)
    (λ o. where_so EAGAIN (not (nat_lt (timers_left m p) 32)) ∷ [])
    (λ q. one EAGAIN _ _ (all_timers_are (timers_in m) p))
    (object_at m p fd)
refusal_is m t p (request.TimerSet id first interval) h = one EINVAL _ _ (no_timer_is m p id)
refusal_is m t p (request.TimerDelete id) h = one EINVAL _ _ (no_timer_is m p id)
refusal_is m t p _ h = refl
