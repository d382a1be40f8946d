-- What a port has before and after an event.
use Rattle.std.specs.Prelude.{ℕ, ◌≡◌, ◌+◌, ◌==◌, ◌++◌, ◌≤◌, ◌||◌, List, [], ◌∷◌, Option, Bool, true, false, if◌then◌else◌, Some, None, drop, is_some, length, map, nat_le, replicate, slice_get, suc, take, zero}
use Rattle.std.proofs.Common.{filter, refl, sym, ap, subst, ◌∙◌}
use native.Mathlib.Omega.{arith}
use Rattle.std.proofs.lemmas.Bool.Decides.{nat_tests}
use Rattle.std.proofs.lemmas.List.{length-take, take-append-drop}
use Rattle.std.proofs.lemmas.Option.{slice_get_within}
use Rattle.spec_kernel.specs.Types.{AlertMode, Answer, Errno, EventRec, Fd, Obj, Request}
use Rattle.dk_base.specs.declared.object.Obj.TheVariants as obj
use Rattle.dk_base.specs.declared.request.Request.TheVariants as request
use Rattle.dk_base.specs.declared.answer.Answer.TheVariants as answer
use Rattle.dk_base.specs.ByNumber.{at_number}
use Rattle.spec_records.specs.declared.port.Alert.{Alert}
use Rattle.spec_records.specs.Words.{Port, alert_of, alert_tests, change_at_number, events_found, found_at, get_tests, getn_tests, is_ready_for, left_at, make_port, new_port, port_in, records_of, send_tests, take_events, user_event, with_alert, with_event, without_found, without_timer_event, has_key}
use Rattle.spec_records.proofs.Lists.{numbered_past, numbered_push}
use Rattle.spec_kernel.specs.Words.{ActResult, Channels, State, Turn, act, effect, errors_of_sending, get_from, object_at, port, port_at, retrieve, state_at, tell_queued, wait_for, key_at, ports_without}
use Rattle.spec_kernel.proofs.Moves.{IsFree, IsMaking, IsPassing, Moves, act_moves}
use Rattle.law_states.specs.Coherent.{is_fit_wait}
use Rattle.law_places.specs.Places.{answer_at, process_at}
use Rattle.law_runs.specs.Channels.{Names}
use Rattle.law_runs.specs.PortEvents.{AsksPort, Becomes, Counts, Found, IsAnsweredAt, IsFound, PortChange, PortEvents, Tells, sent_event, sent_to, set_alert}
use Rattle.law_runs.proofs.Answers.{take_enough}
use Rattle.law_runs.proofs.Channels.{IsThere, KnownChannels, answer_of, at_number-change_at_number, changed_elsewhere, changed_here, entry_acted, entry_answer, is_free}
use Rattle.std.specs.Option.{option_map}
use Rattle.std.specs.Prelude.{All}
use Rattle.spec_records.specs.declared.association.AssocKey.{AssocKey}
use Rattle.spec_records.specs.declared.association.Association.{Association}
use Rattle.spec_kernel.specs.Words.{associations_in, holdings, is_live_process, timers_in}
use Rattle.law_channels.specs.Associations.{IsOfPort}
use Rattle.law_places.proofs.Known.{next}
use Rattle.law_runs.specs.OneShot.{association_under, under}
use Rattle.law_runs.specs.PortEvents.{ticked, told_port, without_timer}
use Rattle.law_runs.specs.Clock.{timer_under, timer_with}
use Rattle.law_runs.specs.TimerLives.{Ends}
use Rattle.spec_records.specs.declared.timer.Timer.{Timer}
use Rattle.law_runs.proofs.Quiet.{IsQuiet, quiet-step, quiet_ports}
use Rattle.law_runs.proofs.PortTurns.{WasTaken, fit_count, names_port, port_there, taken, taken_quiet, tells_found, tells_one, told_before, wait_fits, waits_there, running_lives}
use Rattle.law_runs.proofs.Lives.{dissociated_by, replaced_by}
use Rattle.law_runs.proofs.Effects.{ends_here}
use Rattle.law_runs.proofs.Told.{key_told, made_here, timer_told, told_here, withdrawn_port}
use Rattle.law_runs.proofs.TimerLists.{identified_is}
use Rattle.law_runs.proofs.TimerLives.{Finds, ended_here, found_deleted, found_set}
use Rattle.law_runs.proofs.TimerPorts.{advanced_after, none_after, port_of_timer, set_after, withdrawn_ports}
use Rattle.law_runs.proofs.Sending.{answered_at, none_sent, port_sent}

none_of_none : (n : ℕ) → at_number {X = Port} [] n ≡ None
none_of_none n = grind (arith, nat_tests)

alert_is : (events user : ℕ) → alert_of events user ≡ set_alert events user
alert_is zero user = refl
alert_is (suc n) user = grind (arith, nat_tests)

-- what is found at a port that has so many events, or an alert
found_there :
    (max nget : ℕ) (p : Port) → nget ≤ max → is_ready_for nget p ≡ true →
    Found max nget p (records_of (events_found max p)) (without_found max p)
found_there max nget p l r = go p.alert refl r
  where
    go :
        (a : Option Alert) → p.alert ≡ a → (is_some a || nat_le nget (length p.queue)) ≡ true →
        Found max nget p (records_of (found_at max a p.queue)) (record p { queue = left_at max a p.queue })
    go (Some a) e h = Found.alert a e
    go None e h =
        Found.first (take max p.queue) (drop max p.queue) e (sym (take-append-drop max p.queue)) (length-take max p.queue)
        (take_enough max nget p.queue l (grind (arith, nat_tests, h)))

module _ (m : State) (xs : List Turn) (k : KnownChannels m xs) (i : ℕ) (x : Turn) (e : slice_get xs i ≡ Some x) where
  abbrev own : ℕ
  own = process_at m xs i x.thread

  abbrev ports : List Port
  ports = (state_at m xs i).channels.ports

  abbrev ports_after : List Port
  ports_after = (state_at m xs (i + 1)).channels.ports

  -- what a get, and the end of a wait, does that finds enough
  found_done :
      (q max nget : ℕ) → IsThere (at_number ports q) → nget ≤ max → is_ready_for nget (port (state_at m xs i) q) ≡ true →
      ports_after ≡ take_events ports q max → IsFound m xs i q max nget (records_of (events_found max (port (state_at m xs i) q)))
  found_done q max nget y l r g =
      record {
        before = y.it;
        there = y.there;
        after = without_found max y.it;
        there_after = ap (λ ps. at_number ps q) g ∙ changed_here ports q y.it (without_found max) y.there;
        found =
            subst (λ (o : Option Port). Found max nget y.it (records_of (events_found max (port_in o))) (without_found max y.it)) (sym y.there)
            (found_there max nget y.it l (ap (λ (o : Option Port). is_ready_for nget (port_in o)) (sym y.there) ∙ r));
      }

  becomes :
      (fd : Fd) (change : Port → Port) → Names m xs i x fd (obj.Port (port_at (state_at m xs i) own fd)) →
      ports_after ≡ change_at_number ports (port_at (state_at m xs i) own fd) change → Becomes m xs i x fd change
  becomes fd change f g = go (port_there m xs k i x e fd (port_at (state_at m xs i) own fd) f)
    where
      go : IsThere (at_number ports (port_at (state_at m xs i) own fd)) → Becomes m xs i x fd change
      go y =
          record {
            number = port_at (state_at m xs i) own fd;
            port = y.it;
            names = f;
            there = y.there;
            after = ap (λ ps. at_number ps (port_at (state_at m xs i) own fd)) g ∙ changed_here ports (port_at (state_at m xs i) own fd) y.it change y.there;
          }

  -- each port

  abbrev before : State
  before = state_at m xs i

  abbrev later : State
  later = state_at m xs (i + 1)

  abbrev acted : State
  acted = (act (state_at m xs i) x.thread x.request).state

  -- where nothing is told
  quiet : (n : State) → acted ≡ n → IsQuiet before n → ports_after ≡ n.channels.ports
  quiet n same q =
      ap (λ (z : State). z.channels.ports) (next m xs k.known i x e)
      ∙ ap (λ (c : Channels). c.ports) (quiet-step before x.thread x.request (subst (IsQuiet before) (sym same) q))
      ∙ ap (λ (z : State). z.channels.ports) same

  -- as where only ports change
  only_ports : (n : State) → acted ≡ n → n.tables ≡ before.tables → holdings n ≡ holdings before → n.channels.pipes ≡ before.channels.pipes →
      associations_in n ≡ associations_in before → ((p : ℕ) → is_live_process n p ≡ is_live_process before p) → timers_in n ≡ timers_in before →
      ports_after ≡ n.channels.ports
  only_ports n same tables held pipes associations lives timers =
      quiet n same
      (quiet_ports before n (told_before m xs k i x e) tables held pipes associations lives
      (subst (All (λ (t : Timer). is_live_process (state_at m xs i) t.process.0 ≡ true)) (sym timers) (told_before m xs k i x e).timers))

  abbrev Change : ℕ → Option Port → Option Port → Type 0
  Change q o p = PortChange m xs i x q o p

  change_as : (q : ℕ) (a b c d : Option Port) → a ≡ b → c ≡ d → Change q b d → Change q a c
  change_as q a b c d f g h = subst (λ z. Change q z c) (sym f) (subst (λ z. Change q b z) (sym g) h)

  abbrev telling : ℕ → Option Port → Option Port
  telling q o = option_map (told_port (state_at m xs i) (state_at m xs (i + 1)) q) o

  -- a port that the act leaves is told
  told_change : (q : ℕ) → telling q (at_number acted.channels.ports q) ≡ telling q (at_number ports q) → Change q (at_number ports q) (at_number ports_after q)
  told_change q same = go (at_number ports q) refl
    where
      go : (o : Option Port) → at_number ports q ≡ o → Change q (at_number ports q) (at_number ports_after q)
      go None f = change_as q _ None _ None f (told_here m xs k i x e q ∙ same ∙ ap (telling q) f) PortChange.none
      go (Some p) f = change_as q _ (Some p) _ (telling q (Some p)) f (told_here m xs k i x e q ∙ same ∙ ap (telling q) f) (PortChange.is_told p)

  same_ports : (q : ℕ) → acted.channels.ports ≡ ports → Change q (at_number ports q) (at_number ports_after q)
  same_ports q f = told_change q (ap (λ ps. telling q (at_number ps q)) f)

  -- where one of them changes
  one_changes :
      (number q : ℕ) (change : Port → Port) → acted.channels.ports ≡ change_at_number ports number change →
      Change number (at_number ports number) (at_number ports_after number) → Change q (at_number ports q) (at_number ports_after q)
  one_changes number q change f h = go (q == number) refl
    where
      go : (b : Bool) → (q == number) ≡ b → Change q (at_number ports q) (at_number ports_after q)
      go true g =
          let same : number ≡ q = grind (arith, nat_tests, g) in
          subst (λ z. Change z (at_number ports z) (at_number ports_after z)) same h
      go false g = told_change q (ap (λ ps. telling q (at_number ps q)) f ∙ ap (telling q) (changed_elsewhere ports number q change g))

  -- a port that is made
  new_there :
      (n : State) → acted ≡ n → n.channels.ports ≡ make_port ports → associations_in n ≡ associations_in before →
      at_number ports_after (length ports + 1) ≡ Some (new_port (length ports + 1))
  new_there n same f g =
      made_here m xs k i x e (length ports + 1) (new_port (length ports + 1))
      (ap (λ (z : State). at_number z.channels.ports (length ports + 1)) same
      ∙ ap (λ ps. at_number ps (length ports + 1)) f
      ∙ numbered_push ports (new_port (length ports + 1)) (length ports + 1)
      ∙ grind (arith, nat_tests))
      refl (length ports) (omega arith)
      (subst (All (IsOfPort (length ports))) (sym (ap associations_in same ∙ g)) (k.fits i (omega (arith, slice_get_within xs i x e))).associations.of_ports)

  makes :
      (q : ℕ) (fd : Fd) (n : State) → x.request ≡ Some request.PortCreate → answer_at m xs i x ≡ answer.NewFd fd → acted ≡ n →
      n.channels.ports ≡ make_port ports → associations_in n ≡ associations_in before → Change q (at_number ports q) (at_number ports_after q)
  makes q fd n f g same h associations = go (q == length ports + 1) refl
    where
      pushed : at_number acted.channels.ports q ≡ (if q == length ports + 1 then Some (new_port (length ports + 1)) else at_number ports q)
      pushed =
          ap (λ (z : State). at_number z.channels.ports q) same
          ∙ ap (λ ps. at_number ps q) h
          ∙ numbered_push ports (new_port (length ports + 1)) q

      go : (b : Bool) → (q == length ports + 1) ≡ b → Change q (at_number ports q) (at_number ports_after q)
      go true l =
          let number : q ≡ length ports + 1 = grind (arith, nat_tests, l) in
          change_as q _ None _ (Some (new_port q))
          (numbered_past ports q (omega (arith, number)))
          (ap (at_number ports_after) number ∙ new_there n same h associations ∙ ap (λ z. Some (new_port z)) (sym number))
          (PortChange.made fd f g number)
      go false l =
          told_change q
          (ap (telling q) (pushed ∙ ap (λ (b : Bool). if b then Some (new_port (length ports + 1)) else at_number ports q) l))

  retrieved :
      (q other max nget : ℕ) (rs : List EventRec) → AsksPort m xs i x q max nget → Tells (answer_at m xs i x) rs →
      acted.channels.ports ≡ take_events ports q max → IsFound m xs i q max nget rs → Change other (at_number ports other) (at_number ports_after other)
  retrieved q other max nget rs asks tells g f =
      one_changes q other (without_found max) g
      (change_as q _ _ _ _ f.there f.there_after (PortChange.retrieved f.before f.after max nget rs asks tells f.found))

  -- where associations of a key end
  withdrawn :
      (q : ℕ) (key : AssocKey) →
      ((a : Association) (n : ℕ) → under n (associations_in before) ≡ Some a → has_key key a ≡ true → association_under later n ≡ None) →
      acted.channels.ports ≡ ports_without before.channels key → Change q (at_number ports q) (at_number ports_after q)
  withdrawn q key gone l =
      told_change q
      (ap (λ ps. telling q (at_number ps q)) l
      ∙ ap (telling q) (withdrawn_port q ports (filter (has_key key) (associations_in before)))
      ∙ key_told m xs k i x e q key gone (at_number ports q))

  passes :
      (q : ℕ) (r : Request) (c : Channels) (a : Answer) → IsPassing (state_at m xs i) x.thread r c a → x.request ≡ Some r →
      answer_at m xs i x ≡ a → acted ≡ record (state_at m xs i) { channels = c } → Change q (at_number ports q) (at_number ports_after q)
  unfolding becomes
  passes q r c a (IsPassing.sends fd events user f) g h l =
      one_changes s.number q (with_event (user_event events user)) (ap (λ (z : State). z.channels.ports) l)
      (change_as s.number _ _ _ _ s.there s.after (PortChange.sent s.port fd events user g s.names h))
    where
      s : Becomes m xs i x fd (with_event (user_event events user))
      s =
          becomes fd (with_event (user_event events user))
          (names_port m xs k i x e fd (send_tests (port (state_at m xs i) (port_at (state_at m xs i) own fd))) f)
          (only_ports (record (state_at m xs i) { channels = c }) l refl refl refl refl (λ p. refl) refl)
  passes q r c a (IsPassing.alerts fd mode events user f) g h l =
      one_changes s.number q (with_alert events user) (ap (λ (z : State). z.channels.ports) l)
      (change_as s.number _ _ _ _ s.there
      (s.after ∙ ap (λ z. Some (record s.port { alert = z })) (alert_is events user))
      (PortChange.alerted s.port fd mode events user g s.names h))
    where
      s : Becomes m xs i x fd (with_alert events user)
      s =
          becomes fd (with_alert events user)
          (names_port m xs k i x e fd (alert_tests mode events (port (state_at m xs i) (port_at (state_at m xs i) own fd))) f)
          (only_ports (record (state_at m xs i) { channels = c }) l refl refl refl refl (λ p. refl) refl)
  passes q r c a (IsPassing.sends_each fds events user) g h l = go (at_number ports q) refl
    where
      go : (o : Option Port) → at_number ports q ≡ o → Change q (at_number ports q) (at_number ports_after q)
      go None f =
          told_change q
          (ap (λ (z : State). telling q (at_number z.channels.ports q)) l
          ∙ ap (telling q) (none_sent events user (state_at m xs i) own q fds f ∙ sym f))
      go (Some p) f =
          change_as q _ _ _ _ f
          (ap (λ ps. at_number ps q) (only_ports (record (state_at m xs i) { channels = c }) l refl refl refl refl (λ p. refl) refl)
          ∙ port_sent events user (state_at m xs i) own q fds p f)
          (PortChange.sent_each p fds events user _ g h)
  passes q r c a (IsPassing.gets fd wait f ready) g h l =
      retrieved n q 1 1 (records_of (events_found 1 (port (state_at m xs i) n))) (AsksPort.by_get fd wait g names)
      (subst (λ z. Tells z (records_of (events_found 1 (port (state_at m xs i) n)))) (sym h) (tells_one (port (state_at m xs i) n) ready))
      (ap (λ (z : State). z.channels.ports) l)
      (found_done n 1 1 (port_there m xs k i x e fd n names) (omega arith) ready
      (quiet (record (state_at m xs i) { channels = c }) l (taken_quiet m xs k i x e (record (state_at m xs i) { channels = c }) n 1 refl refl refl (λ p. refl))))
    where
      n : ℕ
      n = port_at (state_at m xs i) own fd

      names : Names m xs i x fd (obj.Port n)
      names = names_port m xs k i x e fd (get_tests wait (port (state_at m xs i) n)) f
  passes q r c a (IsPassing.gets_many fd max nget wait f z ready) g h l =
      retrieved n q max nget (records_of (events_found max (port (state_at m xs i) n))) (AsksPort.by_getn fd max nget wait g names)
      (subst (λ z. Tells z (records_of (events_found max (port (state_at m xs i) n)))) (sym h) (Tells.several _))
      (ap (λ (z : State). z.channels.ports) l)
      (found_done n max nget (port_there m xs k i x e fd n names) (fit_count m xs k i x e fd max nget wait f z) ready
      (quiet (record (state_at m xs i) { channels = c }) l (taken_quiet m xs k i x e (record (state_at m xs i) { channels = c }) n max refl refl refl (λ p. refl))))
    where
      n : ℕ
      n = port_at (state_at m xs i) own fd

      names : Names m xs i x fd (obj.Port n)
      names = names_port m xs k i x e fd (getn_tests wait max nget (port (state_at m xs i) n)) f
  passes q r c a (IsPassing.associates port object events user f) g h l =
      withdrawn q (key_at (state_at m xs i) own port object)
      (λ b n u v. ends_here m xs k i x e n b u (replaced_by m xs k i x e n port object events user f g h b v))
      (ap (λ (z : State). z.channels.ports) l)
  passes q r c a (IsPassing.dissociates port object f) g h l =
      withdrawn q (key_at (state_at m xs i) own port object)
      (λ b n u v. ends_here m xs k i x e n b u (dissociated_by m xs k i x e n port object f g h b v))
      (ap (λ (z : State). z.channels.ports) l)
  passes q r c a (IsPassing.creates_timer port user f) g h l = same_ports q (ap (λ (z : State). z.channels.ports) l)
  passes q r c a (IsPassing.sets_timer id first interval f) g h l = go (found_set m xs k i x e id first interval f)
    where
      go : Finds m xs k i x e id → Change q (at_number ports q) (at_number ports_after q)
      go w =
          one_changes w.timer.port q (without_timer_event w.timer.number)
          (ap (λ (z : State). z.channels.ports) l ∙ withdrawn_ports m xs k i x e id w.timer w.at)
          (by_port (port_of_timer m xs k i x e w.timer.number w.timer w.under))
        where
          by_port : IsThere (at_number ports w.timer.port) → Change w.timer.port (at_number ports w.timer.port) (at_number ports_after w.timer.port)
          by_port y =
              change_as w.timer.port _ _ _ _ y.there (set_after m xs k i x e id w.timer w.at first interval y.it l y.there)
              (PortChange.timer_set y.it id first interval w.timer g h (identified_is (timers_in (state_at m xs i)) own id ∙ w.at) refl)
  passes q r c a (IsPassing.deletes_timer id f) g h l = go (found_deleted m xs k i x e id f)
    where
      go : Finds m xs k i x e id → Change q (at_number ports q) (at_number ports_after q)
      go w = told_change q (ap (λ (z : State). telling q (at_number z.channels.ports q)) l ∙ ap (λ ps. telling q (at_number ps q)) (withdrawn_ports m xs k i x e id w.timer w.at) ∙ by (q == w.timer.port) refl)
        where
          gone : timer_under (state_at m xs (i + 1)) w.timer.number ≡ None
          gone =
              ended_here m xs k i x e w.timer.number w.timer w.under
              (Ends.deleted (g ∙ ap (λ z. Some (request.TimerDelete z)) w.same_id) h w.by_own)

          by :
              (b : Bool) → (q == w.timer.port) ≡ b →
              telling q (at_number (change_at_number ports w.timer.port (without_timer_event w.timer.number)) q) ≡ telling q (at_number ports q)
          by false n = ap (telling q) (changed_elsewhere ports w.timer.port q (without_timer_event w.timer.number) n)
          by true n =
              let same : w.timer.port ≡ q = grind (arith, nat_tests, n) in
              ap (telling q) (at_number-change_at_number ports w.timer.port q (without_timer_event w.timer.number)
              ∙ ap (λ (b : Bool). if b then option_map (without_timer_event w.timer.number) (at_number ports w.timer.port) else at_number ports q) n
              ∙ ap (λ j. option_map (without_timer_event w.timer.number) (at_number ports j)) same)
              ∙ timer_told m xs k i x e q w.timer.number gone (at_number ports q)
  passes q r c a (IsPassing.advances by) g h l = go (at_number ports q) refl
    where
      go : (o : Option Port) → at_number ports q ≡ o → Change q (at_number ports q) (at_number ports_after q)
      go None f = change_as q _ None _ None f (none_after m xs k i x e by l q f) PortChange.none
      go (Some p) f = change_as q _ _ _ _ f (advanced_after m xs k i x e by l q p f) (PortChange.advanced p by g h)
  passes q r c a (IsPassing.writes fd bytes f) g h l = same_ports q (ap (λ (z : State). z.channels.ports) l)
  passes q r c a (IsPassing.reads fd max f) g h l = same_ports q (ap (λ (z : State). z.channels.ports) l)

  making :
      (q : ℕ) (r : Request) (c : Channels) (objects : List Obj) (a : Answer) (n : State) → IsMaking (state_at m xs i) x.thread r c objects a →
      x.request ≡ Some r → answer_at m xs i x ≡ a → acted ≡ n → n.channels ≡ c → Change q (at_number ports q) (at_number ports_after q)
  making q r c objects a n (IsMaking.makes_port f) g h l same =
      makes q _ n g h l (ap (λ (d : Channels). d.ports) same) (ap (λ (d : Channels). d.associations.associations) same)
  making q r c objects a n (IsMaking.makes_pipe f) g h l same =
      same_ports q (ap (λ (z : State). z.channels.ports) l ∙ ap (λ (d : Channels). d.ports) same)

  moves :
      (q : ℕ) (r : Option Request) (a : ActResult) → Moves (state_at m xs i) x.thread r a → x.request ≡ r → answer_at m xs i x ≡ a.answer →
      acted ≡ a.state → Change q (at_number ports q) (at_number ports_after q)
  moves q r a (Moves.passes s c y p) g h l = passes q s c y p g h l
  moves q r a (Moves.makes_channel s c objects y p) g h l = making q s c objects y a.state p g h l refl
  moves q r a (Moves.retrieves n max nget one p) g h l =
      retrieved n q max nget (records_of (events_found max (port (state_at m xs i) n))) (AsksPort.by_end_of_wait max nget one false g p.waits)
      (subst (λ z. Tells z (records_of (events_found max (port (state_at m xs i) n)))) (sym h) (tells_found (state_at m xs i) n max nget one fit.1 fit.0))
      (ap (λ (z : State). z.channels.ports) l)
      (found_done n max nget (waits_there m xs k i x e n max nget one false p.waits) (grind (arith, nat_tests, fit.1)) fit.0
      (quiet a.state l (taken_quiet m xs k i x e a.state n max refl refl refl (running_lives m xs k i x e))))
    where
      fit : (is_ready_for nget (port (state_at m xs i) n) ≡ true) × (is_fit_wait max nget one ≡ true)
      fit = wait_fits m xs k i x e n max nget one g p.waits p.referred
  moves q r a _ g h l = same_ports q (ap (λ (z : State). z.channels.ports) l)

  each : (q : ℕ) → Change q (at_number ports q) (at_number ports_after q)
  each q =
      moves q x.request (act (state_at m xs i) x.thread x.request) (act_moves (state_at m xs i) x.thread x.request) refl
      (answer_of m xs k.known i x e) refl

  -- what each turn does

  found : (q max nget : ℕ) (rs : List EventRec) → AsksPort m xs i x q max nget → Tells (answer_at m xs i x) rs → IsFound m xs i q max nget rs
  found q max nget rs asks tells =
      let w : WasTaken m xs k i x e q max nget rs = taken m xs k i x e q max nget rs asks tells in
      subst (IsFound m xs i q max nget) w.told
      (found_done q max nget w.there w.few w.ready
      (quiet acted refl w.quiet ∙ ap (λ (c : Channels). c.ports) w.acted))

  not_available : (q max : ℕ) (n : ℕ) (b : Bool) → (nget : ℕ) →
      answer.Available n
      ≡ (if b then retrieve (state_at m xs i) q max false else wait_for (state_at m xs i) x.thread q max nget false).answer → ⊥
  not_available q max n true nget f = cc f
  not_available q max n false nget f = cc f

  counted :
      (fd : Fd) (max nget n : ℕ) (wait : Bool) → x.request ≡ Some (request.GetN fd max nget wait) → answer_at m xs i x ≡ answer.Available n →
      Counts m xs i x fd n
  counted fd max nget n wait f g = go (port_there m xs k i x e fd q names)
    where
      q : ℕ
      q = port_at (state_at m xs i) own fd

      free : IsFree (state_at m xs i) x.thread (request.GetN fd max nget wait)
      free = is_free m xs k.known i x e (request.GetN fd max nget wait) (answer.Available n) f g (λ y h. cc)

      names : Names m xs i x fd (obj.Port q)
      names = names_port m xs k i x e fd (getn_tests wait max nget (port (state_at m xs i) q)) free

      same : (a b : ℕ) → answer.Available a ≡ answer.Available b → a ≡ b
      same a b h = cc

      queued :
          (b : Bool) →
          answer.Available n
          ≡ (if b then tell_queued (state_at m xs i) q else get_from (state_at m xs i) x.thread q max nget false).answer →
          n ≡ length (port (state_at m xs i) q).queue
      queued true h = same n _ h
      queued false h = absurd (not_available q max n (is_ready_for nget (port (state_at m xs i) q)) nget h)

      go : IsThere (at_number ports q) → Counts m xs i x fd n
      go y =
          record {
            number = q;
            port = y.it;
            names = names;
            there = y.there;
            counted =
                queued (max == 0) (sym g ∙ entry_answer m xs k.known i x e (request.GetN fd max nget wait) f free)
                ∙ ap (λ (o : Option Port). length (port_in o).queue) y.there;
          }

  sends :
      (fd : Fd) (events user : ℕ) → x.request ≡ Some (request.Send fd events user) → answer_at m xs i x ≡ answer.Done →
      Becomes m xs i x fd (λ p. record p { queue = p.queue ++ sent_event events user ∷ [] })
  sends fd events user f g =
      becomes fd (with_event (user_event events user))
      (names_port m xs k i x e fd (send_tests (port (state_at m xs i) (port_at (state_at m xs i) own fd))) free)
      (only_ports (effect (state_at m xs i) x.thread own (request.Send fd events user)).state
      (entry_acted m xs k.known i x e (request.Send fd events user) f free) refl refl refl refl (λ p. refl) refl)
    where
      free : IsFree (state_at m xs i) x.thread (request.Send fd events user)
      free = is_free m xs k.known i x e (request.Send fd events user) answer.Done f g (λ y h. cc)

  alerts :
      (fd : Fd) (mode : AlertMode) (events user : ℕ) → x.request ≡ Some (request.Alert fd mode events user) → answer_at m xs i x ≡ answer.Done →
      Becomes m xs i x fd (λ p. record p { alert = set_alert events user })
  alerts fd mode events user f g =
      subst (λ z. Becomes m xs i x fd (λ (p : Port). record p { alert = z })) (alert_is events user)
      (becomes fd (with_alert events user)
      (names_port m xs k i x e fd (alert_tests mode events (port (state_at m xs i) (port_at (state_at m xs i) own fd))) free)
      (only_ports (effect (state_at m xs i) x.thread own (request.Alert fd mode events user)).state
      (entry_acted m xs k.known i x e (request.Alert fd mode events user) f free) refl refl refl refl (λ p. refl) refl))
    where
      free : IsFree (state_at m xs i) x.thread (request.Alert fd mode events user)
      free = is_free m xs k.known i x e (request.Alert fd mode events user) answer.Done f g (λ y h. cc)

  -- several that are sent to

  module _ (fds : List Fd) (events user : ℕ) (errors : List (Option Errno)) (f : x.request ≡ Some (request.SendN fds events user))
      (g : answer_at m xs i x ≡ answer.Errors errors) where
    same_errors : errors_of_sending ports (map (object_at (state_at m xs i) own) fds) events user ≡ errors
    same_errors = same _ _ (sym g ∙ entry_answer m xs k.known i x e (request.SendN fds events user) f refl)
      where
        same : (a b : List (Option Errno)) → answer.Errors a ≡ answer.Errors b → b ≡ a
        same a b h = cc

    each_sent :
        (q : ℕ) (p : Port) → at_number ports q ≡ Some p →
        at_number ports_after q
        ≡ Some (record p { queue = p.queue ++ replicate (sent_to (state_at m xs i) own q fds errors) (sent_event events user) })
    each_sent q p h =
        ap (λ ps. at_number ps q)
        (only_ports (effect (state_at m xs i) x.thread own (request.SendN fds events user)).state
        (entry_acted m xs k.known i x e (request.SendN fds events user) f refl) refl refl refl refl (λ p. refl) refl)
        ∙ port_sent events user (state_at m xs i) own q fds p h
        ∙ ap (λ es. Some (record p { queue = p.queue ++ replicate (sent_to (state_at m xs i) own q fds es) (sent_event events user) })) same_errors

    each_answered : (n : ℕ) (fd : Fd) → slice_get fds n ≡ Some fd → IsAnsweredAt (state_at m xs i) own fds errors n fd
    each_answered n fd h =
        subst (λ es. IsAnsweredAt (state_at m xs i) own fds es n fd) same_errors
        (answered_at events user (state_at m xs i) own (port_there m xs k i x e) fds n fd h)

  -- timers

  set_timer :
      (id first interval : ℕ) (t : Timer) (p : Port) → x.request ≡ Some (request.TimerSet id first interval) → answer_at m xs i x ≡ answer.Done →
      timer_with (state_at m xs i) own id ≡ Some t → at_number ports t.port ≡ Some p → at_number ports_after t.port ≡ Some (without_timer t.number p)
  set_timer id first interval t p f g h there =
      set_after m xs k i x e id t (sym (identified_is (timers_in (state_at m xs i)) own id) ∙ h) first interval p
      (entry_acted m xs k.known i x e (request.TimerSet id first interval) f
      (is_free m xs k.known i x e (request.TimerSet id first interval) answer.Done f g (λ y z. cc)))
      there

  advances : (q by : ℕ) (p : Port) → x.request ≡ Some (request.Advance by) → at_number ports q ≡ Some p → at_number ports_after q ≡ Some (ticked before later q p)
  advances q by p f there =
      advanced_after m xs k i x e by (entry_acted m xs k.known i x e (request.Advance by) f refl) q p there

  is_made :
      (fd : Fd) → x.request ≡ Some request.PortCreate → answer_at m xs i x ≡ answer.NewFd fd →
      at_number ports_after (length ports + 1) ≡ Some (new_port (length ports + 1))
  is_made fd f g =
      new_there (effect (state_at m xs i) x.thread own request.PortCreate).state (entry_acted m xs k.known i x e request.PortCreate f free) refl refl
    where
      free : IsFree (state_at m xs i) x.thread request.PortCreate
      free = is_free m xs k.known i x e request.PortCreate (answer.NewFd fd) f g (λ y h. cc)

pub port_events_hold : (m : State) (xs : List Turn) → KnownChannels m xs → PortEvents m xs
port_events_hold m xs k =
    record {
      none_at_first = λ q. ap (λ (c : Channels). at_number c.ports q) k.empty ∙ none_of_none q;
      each = λ i q x e. each m xs k i x e q;
      made = λ i x fd e. is_made m xs k i x e fd;
      found = λ i q max nget x rs e. found m xs k i x e q max nget rs;
      counted = λ i x fd max nget n wait e. counted m xs k i x e fd max nget n wait;
      sent = λ i x fd events user e. sends m xs k i x e fd events user;
      alerted = λ i x fd mode events user e. alerts m xs k i x e fd mode events user;
      sent_each = λ i q x fds events user errors p e f g. each_sent m xs k i x e fds events user errors f g q p;
      each_answered = λ i n x fds fd events user errors e f g. each_answered m xs k i x e fds events user errors f g n fd;
      timer_set = λ i id first interval x t p e f g h. set_timer m xs k i x e id first interval t p f g h;
      advanced = λ i q by x p e f. advances m xs k i x e q by p f;
    }
