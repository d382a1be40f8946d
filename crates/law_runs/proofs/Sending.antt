-- Several descriptors that are sent to in order, counted as the law counts.
use Rattle.std.specs.Prelude.{ℕ, ◌≡◌, ◌+◌, ◌==◌, ◌++◌, ◌&&◌, List, [], ◌∷◌, Option, Bool, true, false, if◌then◌else◌, not, Some, None, is_none, map, replicate, slice_get, suc, take, zero}
use Rattle.std.specs.Option.{option_map}
use Rattle.std.proofs.Common.{refl, sym, ap, subst, ◌∙◌, append-nil, append_assoc}
use native.Mathlib.Omega.{arith}
use Rattle.std.proofs.lemmas.Bool.Decides.{nat_tests}
use Rattle.spec_kernel.specs.Types.{Errno, Fd, Obj, Queued}
use Rattle.dk_base.specs.declared.error.Errno.TheVariants.{EAGAIN, EBADF, EBADFD}
use Rattle.dk_base.specs.declared.object.Obj.TheVariants as obj
use Rattle.dk_base.specs.ByNumber.{at_number}
use Rattle.spec_records.specs.Words.{Port, is_full_port, port_in, port_of, refused_where, send_event, send_tests, user_event, user_events, with_event}
use Rattle.spec_kernel.specs.Words.{State, after_sending, after_sending_each, errors_of_sending, is_port, object_at, port_named, sending_error}
use Rattle.spec_kernel.proofs.Refusals.{not_held}
use Rattle.law_runs.specs.Channels.{port_under}
use Rattle.law_runs.specs.Entries.{count_sent}
use Rattle.law_runs.specs.PortEvents.{IsAnsweredAt, SendError, is_named, sent_event, sent_to}
use Rattle.law_runs.proofs.Channels.{IsThere, at_number-change_at_number}
use Rattle.law_runs.proofs.Entries.{count_sent_is}

pub port_is : (o : Option Obj) → not (is_port o) ≡ false → o ≡ Some (obj.Port (port_named o))
port_is (Some (obj.Port q)) e = refl
port_is None e = absurd (cc e)
port_is (Some (obj.Door d)) e = absurd (cc e)
port_is (Some (obj.PipeIn n)) e = absurd (cc e)
port_is (Some (obj.PipeOut n)) e = absurd (cc e)

-- how many of these objects are port q and have no error
abbrev count : ℕ → List (Option Obj) → List (Option Errno) → ℕ
count q [] es = 0
count q (o ∷ os) [] = 0
count q (o ∷ os) (e ∷ es) = if is_none e && is_named q o then 1 + count q os es else count q os es

count_is : (m : State) (p q : ℕ) (fds : List Fd) (es : List (Option Errno)) → count q (map (object_at m p) fds) es ≡ sent_to m p q fds es
count_is m p q [] es = refl
count_is m p q (fd ∷ fds) [] = refl
count_is m p q (fd ∷ fds) (e ∷ es) =
    ap (λ n. if is_none e && is_named q (object_at m p fd) then 1 + n else n) (count_is m p q fds es)

-- a port with so many events more
abbrev pub with_events : ℕ → ℕ → ℕ → Port → Port
with_events n events user p = record p { queue = p.queue ++ replicate n (sent_event events user) }

module _ (events user : ℕ) where
  more : ℕ → Option Port → Option Port
  more n o = option_map (with_events n events user) o

  none_more : (o : Option Port) → o ≡ option_map (with_events 0 events user) o
  none_more None = refl
  none_more (Some p) = ap (λ qs. Some (record p { queue = qs })) (sym (append-nil p.queue))

  one_more :
      (n : ℕ) (o : Option Port) →
      option_map (with_events n events user) (option_map (with_event (user_event events user)) o) ≡ option_map (with_events (1 + n) events user) o
  one_more n None = refl
  one_more n (Some p) =
      ap (λ qs. Some (record p { queue = qs }))
      (append_assoc p.queue (sent_event events user ∷ []) (replicate n (sent_event events user))
      ∙ ap (λ k. p.queue ++ replicate k (sent_event events user)) same)
    where
      same : suc n ≡ 1 + n
      same = omega arith

  module _ (q : ℕ) where
    -- after one of them, and as many more
    step_more :
        (ports : List Port) (o : Option Obj) (n : ℕ) →
        option_map (with_events n events user) (at_number (after_sending ports o events user) q)
        ≡ option_map (with_events (if is_none (sending_error ports o) && is_named q o then 1 + n else n) events user) (at_number ports q)
    step_more ports o n = go (sending_error ports o) refl
      where
        sent :
            (o : Option Obj) (r : ℕ) → o ≡ Some (obj.Port r) → (b : Bool) → (q == r) ≡ b →
            option_map (with_events n events user) (at_number (send_event ports r events user) q)
            ≡ option_map (with_events (if is_named q o then 1 + n else n) events user) (at_number ports q)
        sent o r f true g =
            let same : r ≡ q = grind (arith, nat_tests, g) in
            ap (option_map (with_events n events user))
            (at_number-change_at_number ports r q (with_event (user_event events user))
            ∙ ap (λ (b : Bool). if b then option_map (with_event (user_event events user)) (at_number ports r) else at_number ports q) g
            ∙ ap (λ z. option_map (with_event (user_event events user)) (at_number ports z)) same)
            ∙ one_more n (at_number ports q)
            ∙ ap (λ (b : Bool). option_map (with_events (if b then 1 + n else n) events user) (at_number ports q)) (sym (ap (is_named q) f ∙ g))
        sent o r f false g =
            ap (option_map (with_events n events user))
            (at_number-change_at_number ports r q (with_event (user_event events user))
            ∙ ap (λ (b : Bool). if b then option_map (with_event (user_event events user)) (at_number ports r) else at_number ports q) g)
            ∙ ap (λ (b : Bool). option_map (with_events (if b then 1 + n else n) events user) (at_number ports q)) (sym (ap (is_named q) f ∙ g))

        go :
            (e : Option Errno) → sending_error ports o ≡ e →
            option_map (with_events n events user) (at_number (if is_none e then send_event ports (port_named o) events user else ports) q)
            ≡ option_map (with_events (if is_none e && is_named q o then 1 + n else n) events user) (at_number ports q)
        go None e =
            sent o (port_named o)
            (port_is o (not_held (refused_where (is_none o) EBADF ∷ []) (refused_where (not (is_port o)) EBADFD) (send_tests (port_of ports (port_named o))) e))
            (q == port_named o)
            refl
        go (Some y) e = refl

    -- after all of them
    pub all_sent :
        (ports : List Port) (os : List (Option Obj)) →
        at_number (after_sending_each ports os events user) q
        ≡ option_map (with_events (count q os (errors_of_sending ports os events user)) events user) (at_number ports q)
    all_sent ports [] = none_more (at_number ports q)
    all_sent ports (o ∷ os) =
        all_sent (after_sending ports o events user) os
        ∙ step_more ports o (count q os (errors_of_sending (after_sending ports o events user) os events user))

  -- the error at a place is that by the ports as the earlier ones leave them

  error_at :
      (ports : List Port) (os : List (Option Obj)) (k : ℕ) (o : Option Obj) → slice_get os k ≡ Some o →
      slice_get (errors_of_sending ports os events user) k ≡ Some (sending_error (after_sending_each ports (take k os) events user) o)
  error_at ports [] k o e = absurd (cc e)
  error_at ports (y ∷ os) zero o e = let same : y ≡ o = cc in ap (λ z. Some (sending_error ports z)) same
  error_at ports (y ∷ os) (suc k) o e = error_at (after_sending ports y events user) os k o e

  errors_taken :
      (ports : List Port) (os : List (Option Obj)) (k : ℕ) →
      errors_of_sending ports (take k os) events user ≡ take k (errors_of_sending ports os events user)
  errors_taken ports os zero = refl
  errors_taken ports [] (suc k) = refl
  errors_taken ports (o ∷ os) (suc k) = ap (λ es. sending_error ports o ∷ es) (errors_taken (after_sending ports o events user) os k)

  taken_map : (f : Fd → Option Obj) (fds : List Fd) (k : ℕ) → take k (map f fds) ≡ map f (take k fds)
  taken_map f fds zero = refl
  taken_map f [] (suc k) = refl
  taken_map f (fd ∷ fds) (suc k) = ap (λ os. f fd ∷ os) (taken_map f fds k)

  -- what counts for EAGAIN

  counted_more : (n : ℕ) → count_sent (replicate n (sent_event events user)) ≡ n
  counted_more zero = refl
  counted_more (suc n) = omega (arith, counted_more n)

  counted_sent : (qs : List Queued) (n : ℕ) → count_sent (qs ++ replicate n (sent_event events user)) ≡ count_sent qs + n
  counted_sent [] n = omega (arith, counted_more n)
  counted_sent (y ∷ qs) n = grind (arith, counted_sent qs n)

  module _ (m : State) (p : ℕ) where
    abbrev ports : List Port
    ports = m.channels.ports

    abbrev objects : List Fd → List (Option Obj)
    objects fds = map (object_at m p) fds

    -- the port of a number, after these were sent to
    pub port_sent :
        (q : ℕ) (fds : List Fd) (y : Port) → port_under m q ≡ Some y →
        at_number (after_sending_each m.channels.ports (map (object_at m p) fds) events user) q
        ≡ Some (with_events (sent_to m p q fds (errors_of_sending m.channels.ports (map (object_at m p) fds) events user)) events user y)
    port_sent q fds y e =
        all_sent q ports (objects fds)
        ∙ ap (λ n. option_map (with_events n events user) (at_number ports q)) (count_is m p q fds (errors_of_sending ports (objects fds) events user))
        ∙ ap (option_map (with_events (sent_to m p q fds (errors_of_sending ports (objects fds) events user)) events user)) e

    pub none_sent :
        (q : ℕ) (fds : List Fd) → port_under m q ≡ None →
        at_number (after_sending_each m.channels.ports (map (object_at m p) fds) events user) q ≡ None
    none_sent q fds e =
        all_sent q ports (objects fds)
        ∙ ap (option_map (with_events (count q (objects fds) (errors_of_sending ports (objects fds) events user)) events user)) e

    module _ (made : (fd : Fd) (q : ℕ) → object_at m p fd ≡ Some (obj.Port q) → IsThere (port_under m q)) (fds : List Fd) (k : ℕ) (fd : Fd) where
      abbrev errors : List (Option Errno)
      errors = errors_of_sending ports (objects fds) events user

      abbrev before : ℕ → ℕ
      before q = sent_to m p q (take k fds) (take k errors)

      -- the ports as the earlier ones leave them
      abbrev left : List Port
      left = after_sending_each ports (objects (take k fds)) events user

      left_of : (q : ℕ) (y : Port) → port_under m q ≡ Some y → at_number left q ≡ Some (with_events (before q) events user y)
      left_of q y e =
          port_sent q (take k fds) y e
          ∙ ap (λ es. Some (with_events (sent_to m p q (take k fds) es) events user y))
          (ap (λ os. errors_of_sending ports os events user) (sym (taken_map (object_at m p) fds k)) ∙ errors_taken ports (objects fds) k)

      at_port :
          (q : ℕ) → object_at m p fd ≡ Some (obj.Port q) → (y : Port) → port_under m q ≡ Some y →
          SendError m p before fd (sending_error left (Some (obj.Port q)))
      at_port q e y f =
          subst (λ (o : Option Port). SendError m p before fd (if is_full_port (port_in o) then Some EAGAIN else None)) (sym (left_of q y f))
          (go (is_full_port (with_events (before q) events user y)) refl)
        where
          many : user_events (y.queue ++ replicate (before q) (sent_event events user)) ≡ count_sent y.queue + before q
          many = sym (count_sent_is (y.queue ++ replicate (before q) (sent_event events user))) ∙ counted_sent y.queue (before q)

          go : (b : Bool) → is_full_port (with_events (before q) events user y) ≡ b → SendError m p before fd (if b then Some EAGAIN else None)
          go true g = SendError.full q y e f (grind (arith, nat_tests, g, many))
          go false g = SendError.none q y e f (grind (arith, nat_tests, g, many))

      by_object : (o : Option Obj) → object_at m p fd ≡ o → SendError m p before fd (sending_error left o)
      by_object None e = SendError.not_open e
      by_object (Some (obj.Port q)) e = let y : IsThere (port_under m q) = made fd q e in at_port q e y.it y.there
      by_object (Some (obj.Door d)) e = SendError.no_port (obj.Door d) e (λ q f. cc)
      by_object (Some (obj.PipeIn n)) e = SendError.no_port (obj.PipeIn n) e (λ q f. cc)
      by_object (Some (obj.PipeOut n)) e = SendError.no_port (obj.PipeOut n) e (λ q f. cc)

      pub answered_at : slice_get fds k ≡ Some fd → IsAnsweredAt m p fds errors k fd
      answered_at e =
          record {
            error = sending_error left (object_at m p fd);
            there =
                error_at ports (objects fds) k (object_at m p fd) (object_there fds k e)
                ∙ ap (λ os. Some (sending_error (after_sending_each ports os events user) (object_at m p fd))) (taken_map (object_at m p) fds k);
            why = by_object (object_at m p fd) refl;
          }
        where
          object_there : (gs : List Fd) (n : ℕ) → slice_get gs n ≡ Some fd → slice_get (objects gs) n ≡ Some (object_at m p fd)
          object_there [] n f = absurd (cc f)
          object_there (g ∷ gs) zero f = let same : g ≡ fd = cc in ap (λ z. Some (object_at m p z)) same
          object_there (g ∷ gs) (suc n) f = object_there gs n f
