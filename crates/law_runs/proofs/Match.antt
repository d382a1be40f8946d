-- Match holds of every run.
use Rattle.std.specs.Prelude.{ℕ, ◌≡◌, ◌+◌, ◌<◌, ◌≤◌, List, Option, Bool, true, false, Some, None, length, map, nat_lt, slice_get, ◌⊎◌}
use Rattle.std.proofs.Common.{refl, sym, ap, subst, ◌∙◌, inl, inr}
use native.Mathlib.Omega.{arith}
use Rattle.std.proofs.lemmas.Option.{slice_get_within}
use Rattle.spec_kernel.specs.Types.{Answer, Call, CallStage, Door, Fd, Obj}
use Rattle.dk_base.specs.declared.answer.Answer.TheVariants as answer
use Rattle.spec_records.specs.declared.record.CallStage.TheVariants as stage
use Rattle.spec_records.specs.Words.{cookie_of, entry_of, new_descriptors, objects_passed, tid, without_arguments_at}
use Rattle.spec_kernel.specs.Words.{State, Turn, door_of, process_of, state_at}
use Rattle.spec_kernel.proofs.Steps.{process_of-step}
use Rattle.law_states.specs.Records.{door_at, owner_in, record_of, stage_in}
use Rattle.law_states.specs.Core.{abandoned_in, core, has_arguments}
use Rattle.law_states.specs.Events.{IsCallOf, IsCaller, IsMade, IsToldBy}
use Rattle.law_places.specs.Places.{BecomesAnswered, BecomesReturned, IsCollect, IsOf, MakesCall, ReturnsCall, answer_at, is_returned_in, objects_at, process_at}
use Rattle.law_runs.specs.Once.{Enters}
use Rattle.law_runs.specs.Match.{IsReturned, IsSent, Match, IsKeptCall}
use Rattle.law_places.proofs.Changes.{new_rank, rank_in, returned_rank, change_rises}
use Rattle.law_places.proofs.Known.{Known, becomes_once, changes, false_not_true, invariant_before, never_less, next, rises_once, ChangeAt, stays, stays_or_changes}
use Rattle.law_runs.proofs.Story.{story}
use Rattle.law_runs.proofs.Tables.{Installs, accept_installs, call_passes, collect_installs, return_passes}
use Rattle.law_places.proofs.ReturnRefusals.{no_return_refusal}
use Rattle.law_runs.proofs.Returns.{return_hands_over, return_tells, not_returned_yet}
use Rattle.law_places.proofs.Rows.{GoesOn, Origin, origin, returned_row}
use Rattle.law_places.proofs.Rows.Origin.{new, older}
use Rattle.law_runs.proofs.Readers.{AnsweredRowAt, EnteredAt, EnteredRowAt, HasObjects, ReturnedAt, ReturnedRowAt, WasMade, accept_of, made, made_here, number_of, table_at}
use Rattle.law_runs.proofs.Once.{HandsBack, accepts, answered_by, caller_of_results, collected_results, collects, returned_before}
use Rattle.law_places.proofs.DoorPlaces.{is_of}
use Rattle.law_places.proofs.Invocations.{entered_by}

-- records

is_there : Option Call → Bool
is_there None = false
is_there (Some r) = true

absent : (o : Option Call) → o ≡ None → is_there o ≡ false
unfolding is_there
absent o e = ap is_there e

present : (o : Option Call) (r : Call) → o ≡ Some r → is_there o ≡ true
unfolding is_there
present o r e = ap is_there e

pub goes_on : (s r : Call) (c : CallStage) (o : Option Call) → o ≡ Some r → o ≡ Some (without_arguments_at c s) → GoesOn s r c
goes_on s r c o e f = go (sym e ∙ f)
  where
    go : Some r ≡ Some (without_arguments_at c s) → GoesOn s r c
    go g = record { caller = grind arith; rsize = grind arith; stage = grind arith }

-- what an accept shows, by the record that it entered

pub record Shows (entry cookie : ℕ) (bytes : List ℕ) (fds gets : List Fd) (o : Option Door) (r : Call) : Type 0 where
  pub same_entry : entry ≡ entry_of o
  pub same_cookie : cookie ≡ cookie_of o
  pub same_bytes : bytes ≡ r.bytes
  pub descriptors : fds ≡ gets

pub shows :
    (c entry cookie : ℕ) (bytes : List ℕ) (fds gets : List Fd) (o : Option Door) (r : Call) (a : Answer) →
    a ≡ answer.Entered c entry cookie bytes fds → a ≡ answer.Entered r.number (entry_of o) (cookie_of o) r.bytes gets →
    Shows entry cookie bytes fds gets o r
shows c entry cookie bytes fds gets o r a e f = record { same_entry = cc; same_cookie = cc; same_bytes = cc; descriptors = cc }

is_given : (s : CallStage) (u : ℕ) → s ≡ stage.Given (tid u) → has_arguments s ≡ true
is_given s u e = ap has_arguments e

abbrev server_of : CallStage → ℕ
server_of (stage.Entered u) = u.0
server_of _ = 0

same_server : (u v : ℕ) (s : CallStage) → s ≡ stage.Entered (tid u) → s ≡ stage.Entered (tid v) → u ≡ v
same_server u v s e f = ap server_of (sym e ∙ f)

pub returned_now : (o : Option Call) (b : List ℕ) (x : List Obj) → stage_in o ≡ Some (stage.Returned b x) → is_returned_in o ≡ true
returned_now o b x e = grind arith

pub same_results : (b d : List ℕ) (x y : List Obj) (s : CallStage) → s ≡ stage.Returned b x → s ≡ stage.Returned d y → b ≡ d
same_results b d x y s e f = cc

pub same_objects : (b d : List ℕ) (x y : List Obj) (s : CallStage) → s ≡ stage.Returned b x → s ≡ stage.Returned d y → x ≡ y
same_objects b d x y s e f = cc

-- a record is found by its own number
pub by_its_number : (m : State) (c : ℕ) (r : Call) → record_of m c ≡ Some r → record_of m r.number ≡ Some r
by_its_number m c r e = ap (λ (d : ℕ). record_of m d) (number_of m c r e) ∙ e

module _ (m : State) (xs : List Turn) (k : Known m xs) where
  -- calls are made by Calls

  pub only_by_call :
      (i c : ℕ) (x : Turn) (r : Call) → slice_get xs i ≡ Some x → record_of (state_at m xs i) c ≡ None →
      record_of (state_at m xs (i + 1)) c ≡ Some r → MakesCall m xs i x c
  only_by_call i c x r e b a =
      go (origin _ _ _ _ _ _ _ r (changes m xs k c i x is_there false true e false_not_true (absent _ b) (present _ r a)) a)
    where
      made_now : HasObjects m xs c i x r → MakesCall m xs i x c
      made_now w = w.makes

      go :
          Origin (state_at m xs i) x.thread x.request (answer_at m xs i x) (record_of (state_at m xs i) c) r →
          MakesCall m xs i x c
      go (new g row) = made_now (made_here m xs c i x r e g a row)
      go (older s g h) = absurd (cc)

  pub made_by : (i c : ℕ) (x : Turn) → slice_get xs i ≡ Some x → answer_at m xs i x ≡ answer.WaitCall c → MakesCall m xs i x c
  made_by i c x e f =
      go (subst (IsToldBy (state_at m xs i) x.thread x.request) f (k.keeps i x e).told)
      (subst (λ n. IsMade (record_of n c)) (sym (next m xs k i x e)) ((k.keeps i x e).called c f))
    where
      go : IsCallOf x.request c (core (state_at m xs i)).made → IsMade (record_of (state_at m xs (i + 1)) c) → MakesCall m xs i x c
      go a b =
          only_by_call i c x b.made e
          ((invariant_before m xs k i x e).consistent.coherent.calls.unmade c (omega (arith, a.next)))
          b.there

  new_at_least : (i c : ℕ) (x : Turn) → MakesCall m xs i x c → 1 ≤ rank_in (record_of (state_at m xs (i + 1)) c)
  new_at_least i c x a = omega (arith, ap rank_in a.there, new_rank a.made.stage a.waits)

  none_below : (i c : ℕ) (x : Turn) → MakesCall m xs i x c → rank_in (record_of (state_at m xs i) c) < 1
  none_below i c x a = omega (arith, ap rank_in a.none_before)

  made_once : (c i j : ℕ) (x y : Turn) → MakesCall m xs i x c → MakesCall m xs j y c → i ≡ j
  made_once c i j x y a b =
      rises_once (λ n. rank_in (record_of (state_at m xs n) c)) (length xs) 1 i j (never_less m xs k c)
      (slice_get_within xs i x a.turn)
      (slice_get_within xs j y b.turn)
      (none_below i c x a)
      (none_below j c y b)
      (new_at_least i c x a)
      (new_at_least j c y b)

  -- the process of a turn's thread is the same after it
  pub same_process :
      (i : ℕ) (x : Turn) → slice_get xs i ≡ Some x → process_at m xs (i + 1) x.thread ≡ process_at m xs i x.thread
  same_process i x e =
      ap (λ n. process_of n x.thread) (next m xs k i x e) ∙ process_of-step (state_at m xs i) x.thread x.thread x.request

  -- what the accept of a call, and what a collect of results installs

  abbrev InstallsAt : ℕ → Turn → List Obj → Type 0
  InstallsAt i x objects =
      Installs (state_at m xs i) (state_at m xs (i + 1)) (process_at m xs i x.thread) (new_descriptors (table_at m xs i x) objects) objects

  pub installed_at_accept :
      (i c : ℕ) (x : Turn) (o p : Option Call) → slice_get xs i ≡ Some x → record_of (state_at m xs i) c ≡ o →
      (w : EnteredRowAt m xs i x o p) → InstallsAt i x w.call.objects
  installed_at_accept i c x o p e b w =
      subst
      (λ n. Installs (state_at m xs i) n (process_at m xs i x.thread) (new_descriptors (table_at m xs i x) w.call.objects) w.call.objects)
      (sym (next m xs k i x e))
      (accept_installs (state_at m xs i) x.thread x.request w.call w.no_request w.given
      (by_its_number (state_at m xs i) c w.call (b ∙ w.before)) w.was_given w.room)

  pub installed_at_collect :
      (i c : ℕ) (x : Turn) (bytes : List ℕ) (fds : List Fd) (more : Bool) → slice_get xs i ≡ Some x →
      (a : AnsweredRowAt m xs i x (record_of (state_at m xs i) c) (record_of (state_at m xs (i + 1)) c)) →
      (g : HandsBack (state_at m xs i) x.thread a.call bytes fds more) → InstallsAt i x g.objects
  installed_at_collect i c x bytes fds more e a g =
      subst
      (λ n. Installs (state_at m xs i) n (process_at m xs i x.thread) (new_descriptors (table_at m xs i x) g.objects) g.objects)
      (sym (next m xs k i x e))
      (collect_installs (state_at m xs i) x.thread x.request a.call bytes g.objects a.no_request a.calling
      (by_its_number (state_at m xs i) c a.call a.before) g.returned g.room)

  -- descriptors that are answered name the objects after the turn
  name_after :
      (i : ℕ) (x : Turn) (fds : List Fd) (objects others : List Obj) → slice_get xs i ≡ Some x → InstallsAt i x objects →
      fds ≡ new_descriptors (table_at m xs i x) objects → objects ≡ others →
      objects_at (state_at m xs (i + 1)) (process_at m xs (i + 1) x.thread) fds ≡ map (λ o. Some o) others
  name_after i x fds objects others e h f g =
      ap (λ p. objects_at (state_at m xs (i + 1)) p fds) (same_process i x e)
      ∙ ap (λ l. objects_at (state_at m xs (i + 1)) (process_at m xs i x.thread) l) f
      ∙ h.name_them
      ∙ ap (λ (os : List Obj). map (λ o. Some o) os) g

  -- what an accept shows was sent

  shown :
      (a c entry cookie : ℕ) (y : Turn) (bytes : List ℕ) (fds : List Fd) → slice_get xs a ≡ Some y →
      answer_at m xs a y ≡ answer.Entered c entry cookie bytes fds → IsSent m xs a y c entry cookie bytes fds
  shown a c entry cookie y bytes fds e f = row (accepts m xs k a c entry cookie y bytes fds e f)
    where
      sent :
          (r : Call) →
          Shows entry cookie bytes fds (new_descriptors (table_at m xs a y) r.objects) (door_of (state_at m xs a) r.door) r →
          has_arguments r.stage ≡ true → IsOf (door_of (state_at m xs a) r.door) entry cookie → InstallsAt a y r.objects →
          WasMade m xs c a r → IsSent m xs a y c entry cookie bytes fds
      sent r s g h i w =
          record {
            at = w.at;
            caller = w.turn;
            earlier = w.earlier;
            makes = w.makes;
            same_bytes = s.same_bytes ∙ w.bytes g;
            of_the_door = subst (λ (d : ℕ). IsOf (door_of (state_at m xs a) d) entry cookie) w.door h;
            objects = objects_passed (table_at m xs w.at w.turn) w.makes.pass;
            passed =
                (call_passes (state_at m xs w.at) w.turn.thread c w.makes.rsize w.turn.request w.makes.fd w.makes.bytes w.makes.pass w.makes.request w.makes.answer).named;
            installed = name_after a y fds r.objects _ e i s.descriptors (w.objects g);
          }

      entered :
          Enters m xs a y c →
          EnteredRowAt m xs a y (record_of (state_at m xs a) c) (record_of (state_at m xs (a + 1)) c) →
          IsSent m xs a y c entry cookie bytes fds
      entered n w =
          let s : Shows entry cookie bytes fds (new_descriptors (table_at m xs a y) w.call.objects) (door_of (state_at m xs a) w.call.door) w.call =
          shows c entry cookie bytes fds _ _ w.call (answer_at m xs a y) f w.answers in
          sent w.call s (is_given _ y.thread w.was_given)
          (is_of _ entry cookie _ (sym (ap (λ o. owner_in (door_at (state_at m xs a) o)) w.before) ∙ n.of_the_owner) s.same_entry s.same_cookie)
          (installed_at_accept a c y _ _ e refl w)
          (made m xs c a _ w.call (story m xs k c a (omega (arith, slice_get_within xs a y e))) w.before)

      row : Enters m xs a y c → IsSent m xs a y c entry cookie bytes fds
      row n = entered n (entered_by m xs k a c y e n.entered)

  -- a call is returned by a Return of the thread that has entered it

  unfoldable pub returns_call :
      (j c : ℕ) (w : Turn) (o p : Option Call) → slice_get xs j ≡ Some w → record_of (state_at m xs j) c ≡ o →
      record_of (state_at m xs (j + 1)) c ≡ p →
      ReturnedRowAt m xs j w o p → ReturnsCall m xs j w c
  returns_call j c w o p e b a row =
      record {
        turn = e;
        bytes = row.bytes;
        pass = row.pass;
        is_return =
            record {
              asked = row.asked;
              not_refused =
                  no_return_refusal (state_at m xs j) (invariant_before m xs k j w e) w.thread (process_at m xs j w.thread) row.bytes row.pass row.not_refused;
            };
        answer = return_tells (state_at m xs j) w.thread (answer_at m xs j w) row.answers;
        was_entered = ap stage_in (b ∙ row.before) ∙ ap (λ (s : CallStage). Some s) row.was_entered;
        not_abandoned = ap abandoned_in (b ∙ row.before) ∙ row.not_abandoned;
        objects = objects_passed (table_at m xs j w) row.pass;
        is_returned = ap stage_in (a ∙ row.after);
      }

  pub only_by_return : (j c : ℕ) (w : Turn) → slice_get xs j ≡ Some w → BecomesReturned m xs c j → ReturnsCall m xs j w c
  only_by_return j c w e b =
      returns_call j c w _ _ e refl refl
      (returned_row _ _ _ _ _ _ _ (changes m xs k c j w is_returned_in false true e false_not_true b.before b.after) b.after)

  returned_once : (c i j : ℕ) → BecomesReturned m xs c i → BecomesReturned m xs c j → i ≡ j
  returned_once c i j a b = becomes_once m xs k c i j 4 is_returned_in returned_rank a b

  becomes_returned : (j c : ℕ) (w : Turn) → ReturnsCall m xs j w c → BecomesReturned m xs c j
  becomes_returned j c w h =
      record {
        within = slice_get_within xs j w h.turn;
        before = not_returned_yet _ w.thread h.was_entered;
        after = returned_now _ h.bytes h.objects h.is_returned;
      }

  -- results that are collected were returned

  -- of call c, whose record at place i is r: it was returned, entered before that, and made before that
  chain :
      (i c : ℕ) (z : Turn) (bytes : List ℕ) (fds : List Fd) (more : Bool) (o : Option Call) (r : Call) → IsCollect m xs i z c →
      r.caller.0 ≡ z.thread → slice_get xs i ≡ Some z → (g : HandsBack (state_at m xs i) z.thread r bytes fds more) →
      InstallsAt i z g.objects → o ≡ Some r → ReturnedAt m xs c i o → IsReturned m xs i z bytes fds more
  unfolding returns_call
  chain i c z bytes fds more o r w own e g n h b = entered b.entered
    where
      back : ReturnsCall m xs b.at b.turn c
      back = returns_call b.at c b.turn b.old o b.found b.was b.there b.row

      passed : List Obj
      passed = objects_passed (table_at m xs b.at b.turn) b.row.pass

      first : GoesOn b.row.call r (stage.Returned b.row.bytes passed)
      first = goes_on b.row.call r _ o h b.row.after

      entered : EnteredAt m xs c b.at b.old → IsReturned m xs i z bytes fds more
      entered a = given a.made
        where
          second : GoesOn a.row.call b.row.call (stage.Entered (tid a.turn.thread))
          second = goes_on a.row.call b.row.call _ b.old b.row.before a.row.after

          given : WasMade m xs c a.at a.row.call → IsReturned m xs i z bytes fds more
          given v =
              record {
                call = c;
                collect = w;
                made_at = v.at;
                caller = v.turn;
                makes = v.makes;
                accepted_at = a.at;
                server = a.turn;
                accepts_turn = a.found;
                accepts = accept_of m xs a.at c a.turn a.old b.old a.was a.row;
                returned_at = b.at;
                returner = b.turn;
                returns = back;
                accept_later = v.earlier;
                return_later = a.earlier;
                collect_later = b.earlier;
                same_caller = ap (λ y. y.0) (sym (first.caller ∙ second.caller ∙ v.caller)) ∙ own;
                same_server = same_server b.turn.thread a.turn.thread b.row.call.stage b.row.was_entered second.stage;
                same_bytes = same_results bytes b.row.bytes g.objects passed r.stage g.returned first.stage;
                objects = passed;
                passed = (return_passes (state_at m xs b.at) b.turn.thread b.turn.request b.row.bytes b.row.pass b.row.asked b.row.not_refused).named;
                installed = name_after i z fds g.objects passed e n g.descriptors (same_objects bytes b.row.bytes g.objects passed r.stage g.returned first.stage);
                only_return = λ j h. returned_once c j b.at h (becomes_returned b.at c b.turn back);
                grown = g.grown ∙ ap (λ n. nat_lt n (length bytes)) (first.rsize ∙ second.rsize ∙ v.rsize);
              }

  results :
      (i : ℕ) (z : Turn) (bytes : List ℕ) (fds : List Fd) (more : Bool) → slice_get xs i ≡ Some z →
      answer_at m xs i z ≡ answer.Results bytes fds more → IsReturned m xs i z bytes fds more
  results i z bytes fds more e f = go (caller_of_results m xs k i z bytes fds more e f)
    where
      by :
          (c : ℕ) → IsCollect m xs i z c →
          (a : AnsweredRowAt m xs i z (record_of (state_at m xs i) c) (record_of (state_at m xs (i + 1)) c)) →
          HandsBack (state_at m xs i) z.thread a.call bytes fds more → IsReturned m xs i z bytes fds more
      by c w a g =
          chain i c z bytes fds more _ a.call w a.own e g (installed_at_collect i c z bytes fds more e a g) a.before
          (returned_before m xs k i c a.call bytes g.objects (omega (arith, slice_get_within xs i z e)) a.before g.returned)

      at : (c : ℕ) → IsCollect m xs i z c → IsReturned m xs i z bytes fds more
      at c w =
          let b : BecomesAnswered m xs c i = collects m xs k i c z e w in
          by c w (answered_by m xs k i c z e b)
          (collected_results m xs k i c z bytes fds more e w f (answered_by m xs k i c z e b))

      go : (z.request ≡ None) × IsCaller (state_at m xs i) z.thread → IsReturned m xs i z bytes fds more
      go a = at a.1.call (record { no_request = a.0; calling = a.1.calling })

  kept : (i j c : ℕ) (r : Call) → i ≤ j → j ≤ length xs → record_of (state_at m xs i) c ≡ Some r → IsKeptCall (state_at m xs j) c r
  kept i j c r l b e =
      stays m xs (λ n. IsKeptCall n c r) i one j l b (record { later = r; there = e; caller = refl; door = refl; rsize = refl })
    where
      one : (a : ℕ) (x : Turn) → i ≤ a → slice_get xs a ≡ Some x → IsKeptCall (state_at m xs a) c r → IsKeptCall (state_at m xs (a + 1)) c r
      one a x h f g = go (stays_or_changes m xs k c a x f)
        where
          by : (y : Call) → record_of (state_at m xs (a + 1)) c ≡ Some y → Origin (state_at m xs a) x.thread x.request (answer_at m xs a x) (record_of (state_at m xs a) c) y → IsKeptCall (state_at m xs (a + 1)) c r
          by y q (new n w) = absurd (cc (sym g.there ∙ n))
          by y q (older s n o) =
              let same : s ≡ g.later = cc (sym n ∙ g.there) in
              record {
                later = y;
                there = q;
                caller = o.caller ∙ ap (λ (z : Call). z.caller) same ∙ g.caller;
                door = o.door ∙ ap (λ (z : Call). z.door) same ∙ g.door;
                rsize = o.rsize ∙ ap (λ (z : Call). z.rsize) same ∙ g.rsize;
              }

          changed : (p : Option Call) → record_of (state_at m xs (a + 1)) c ≡ p → ChangeAt m xs a x (record_of (state_at m xs a) c) p → IsKeptCall (state_at m xs (a + 1)) c r
          changed None q w = absurd (omega (arith, change_rises _ _ _ _ _ _ _ w))
          changed (Some y) q w = by y q (origin _ _ _ _ _ _ _ y w refl)

          go :
              (record_of (state_at m xs (a + 1)) c ≡ record_of (state_at m xs a) c)
              ⊎ ChangeAt m xs a x (record_of (state_at m xs a) c) (record_of (state_at m xs (a + 1)) c) → IsKeptCall (state_at m xs (a + 1)) c r
          go (inl same) = record { later = g.later; there = same ∙ g.there; caller = g.caller; door = g.door; rsize = g.rsize }
          go (inr w) = changed _ refl w

  pub match_holds : Match m xs
  match_holds =
      record {
        none_at_first = k.no_call;
        made = made_by;
        only_by_call = only_by_call;
        made_once = made_once;
        kept = kept;
        shown = shown;
        only_by_return = only_by_return;
        return_hands_over = return_hands_over m xs k;
        returned_once = returned_once;
        results = results;
      }
