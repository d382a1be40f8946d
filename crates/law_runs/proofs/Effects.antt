-- Associations have the effect of each turn: what is asked for begins, what there is a reason for ends, and each that is made is
-- counted.
use Rattle.std.specs.Prelude.{find, ℕ, ◌≡◌, ◌+◌, ◌++◌, ◌≤◌, ◌<◌, ◌==◌, ◌&&◌, List, [], ◌∷◌, Option, Bool, true, false, if◌then◌else◌, not, Some, None, is_none, filter, length, slice_get, take}
use Rattle.std.proofs.Common.{true≢false, refl, sym, ap, subst, ◌∙◌}
use native.Mathlib.Omega.{arith}
use Rattle.std.proofs.lemmas.Bool.Decides.{nat_tests}
use Rattle.std.proofs.lemmas.Option.{slice_get_within}
use Rattle.dk_base.specs.declared.error.Errno.TheVariants.{EBADFD, ENOENT}
use Rattle.dk_base.specs.declared.object.Obj.TheVariants as obj
use Rattle.dk_base.specs.declared.set.PollSet.{PollSet}
use Rattle.dk_base.specs.declared.request.Request.TheVariants as request
use Rattle.dk_base.specs.declared.answer.Answer.TheVariants as answer
use Rattle.spec_records.specs.declared.association.AssocKey.{AssocKey}
use Rattle.spec_records.specs.declared.association.Association.{Association}
use Rattle.spec_records.specs.declared.port.Alert.{Alert}
use Rattle.spec_records.specs.Words.{AssociationList, IsAscending, association_number, associations_of, disarmed, disarmed_where, dissociate_tests, events_found, found_at, has_key, has_other_key, names_its_object, port_of, refused_where}
use Rattle.spec_records.proofs.NumberedLists.{ascending-filter, find-passes}
use Rattle.spec_kernel.specs.Types.{Answer, Errno, EventRec, Fd, Queued, Request}
use Rattle.spec_kernel.specs.Words.{ActResult, Channels, State, Turn, act, association_of_key, associations_in, effect, key_at, object_at, port_at, port_named, port_tests, process_of, ready_at, refusal_of, settle, state_at, step, unless_refused}
use Rattle.spec_kernel.proofs.Moves.{IsFree, IsMaking, IsPassing, Moves, act_moves}
use Rattle.spec_kernel.proofs.Refusals.{not_held}
use Rattle.spec_kernel.proofs.Settling.{channels-settle_pools}
use Rattle.law_channels.proofs.Few.{taken_made}
use Rattle.law_channels.proofs.Associations.{counted_taken, occurs}
use Rattle.law_places.specs.Places.{answer_at, process_at}
use Rattle.law_places.proofs.Known.{next}
use Rattle.law_runs.specs.Channels.{Names, alert_under, port_under}
use Rattle.law_runs.specs.PortEvents.{AsksPort, Tells}
use Rattle.law_runs.specs.OneShot.{association_under, count_from, is_due, queue_in, under}
use Rattle.law_runs.specs.Lives.{Begins, Ends, IsBegun, IsDissociated, LifeChange, Lives, associates, associations_made, tells_done}
use Rattle.law_runs.proofs.Channels.{KnownChannels, answer_of, entry_acted, is_free}
use Rattle.law_runs.proofs.OneShot.{counted_from, one_shot_holds}
use Rattle.law_runs.proofs.PortTurns.{WasTaken, names_port, taken}
use Rattle.law_runs.proofs.RowChanges.{tables-step}
use Rattle.law_runs.proofs.Lives.{alert_is, begins_one, change_here, due_is, event_here, found-number, kept, names_new, new_one, queue_is, same_fd, told, told_one, under-filter, under-other, under-past, under-push, under-retrieved}

-- associations by their numbers

pub under-bounded :
    (n low made : ℕ) (xs : List Association) (a : Association) → IsAscending association_number low made xs → under n xs ≡ Some a → (low < n) × (n ≤ made)
under-bounded n low made [] a h e = absurd (cc e)
under-bounded n low made (x ∷ xs) a h e = go (x.number == n) refl e (λ f. under-bounded n x.number made xs a h.2 f)
  where
    go :
        (b : Bool) → (x.number == n) ≡ b → (if b then Some x else under n xs) ≡ Some a →
        (under n xs ≡ Some a → (x.number < n) × (n ≤ made)) → (low < n) × (n ≤ made)
    go true f g rest =
        let same : x.number ≡ n = grind (arith, nat_tests) in
        (subst (λ z. low < z) same h.0, subst (λ z. z ≤ made) same h.1)
    go false f g rest =
        let r : (x.number < n) × (n ≤ made) = rest g in
        (omega (arith, r.0, h.0), r.1)

-- what a test finds stands under its number
found-under :
    (test : Association → Bool) (low made : ℕ) (xs : List Association) (a : Association) → IsAscending association_number low made xs →
    find test xs ≡ Some a → under a.number xs ≡ Some a
found-under test low made [] a h e = absurd (cc e)
found-under test low made (x ∷ xs) a h e = go (test x) e (λ f. found-under test x.number made xs a h.2 f)
  where
    itself : (n : ℕ) → (n == n) ≡ true
    itself n = grind (arith, nat_tests)

    go : (b : Bool) → (if b then Some x else find test xs) ≡ Some a → (find test xs ≡ Some a → under a.number xs ≡ Some a) → under a.number (x ∷ xs) ≡ Some a
    go true f rest =
        let same : x ≡ a = cc in
        ap (λ (y : Association). if x.number == y.number then Some x else under y.number xs) (sym same)
        ∙ ap (λ (b : Bool). if b then Some x else under x.number xs) (itself x.number)
        ∙ f
    go false f rest =
        let later : x.number < a.number = (under-bounded a.number x.number made xs a h.2 (rest f)).0 in
        let other : (x.number == a.number) ≡ false = grind (arith, nat_tests) in
        ap (λ (b : Bool). if b then Some x else under a.number xs) other ∙ rest f

named : {q : ℕ} (o : Option _) → o ≡ Some (obj.Port q) → port_named o ≡ q
named o e = ap port_named e

has_this_key :
    (m : State) (p : ℕ) (port : Fd) (a : Association) → port_at m p port ≡ a.key.port → a.key.process.0 ≡ p → has_key (key_at m p port a.key.fd) a ≡ true
has_this_key m p port a e f = grind (arith, nat_tests, e, f)

module _ (m : State) (xs : List Turn) (k : KnownChannels m xs) (i : ℕ) (x : Turn) (e : slice_get xs i ≡ Some x) where
  abbrev before : State
  before = state_at m xs i

  abbrev later : State
  later = state_at m xs (i + 1)

  abbrev owner : ℕ
  owner = process_at m xs i x.thread

  abbrev acted : State
  acted = (act (state_at m xs i) x.thread x.request).state

  abbrev list : AssociationList
  list = (state_at m xs i).channels.associations

  within : i + 1 ≤ length xs
  within = omega (arith, slice_get_within xs i x e)

  in_order : IsAscending association_number 0 list.made list.associations
  in_order = (k.fits i (omega (arith, within))).associations.in_order

  -- one that an act ends stands no more
  gone : (n : ℕ) → under n (associations_in acted) ≡ None → association_under later n ≡ None
  gone n f = told m xs k i x e n ∙ ap (told_one later) f

  module _ (n : ℕ) (a : Association) (f : under n (state_at m xs i).channels.associations.associations ≡ Some a) where
    bounds : (0 < n) × (n ≤ list.made)
    bounds = under-bounded n 0 list.made list.associations a in_order f

    number_is : a.number ≡ n
    number_is = grind (arith, nat_tests, found-number n list.associations a f)

    -- where those of its key end
    without_key : (key : AssocKey) → has_key key a ≡ true → under n (filter (has_other_key key) list.associations) ≡ None
    without_key key h =
        under-filter n (has_other_key key) 0 list.made list.associations in_order
        ∙ ap (kept n (has_other_key key)) f
        ∙ ap (λ (b : Bool). if not b then Some a else None) h

    ends_replaced :
        (port : Fd) (events : PollSet) (user : ℕ) → x.request ≡ Some (request.Associate port a.key.fd events user) →
        answer_at m xs i x ≡ answer.Done → Names m xs i x port (obj.Port a.key.port) → a.key.process.0 ≡ owner →
        under n (associations_in acted) ≡ None
    ends_replaced port events user g h l o =
        ap (λ z. under n (associations_in z))
        (entry_acted m xs k.known i x e (request.Associate port a.key.fd events user) g
        (is_free m xs k.known i x e (request.Associate port a.key.fd events user) answer.Done g h (λ y z. cc)))
        ∙ under-other n (filter (has_other_key key) list.associations) (new_one m xs k i x e n port a.key.fd events user) other
        ∙ without_key key (has_this_key before owner port a (named _ l) o)
      where
        key : AssocKey
        key = key_at (state_at m xs i) (process_at m xs i x.thread) port a.key.fd

        other : (list.made + 1 == n) ≡ false
        other = grind (arith, nat_tests, bounds.1)

    ends_dissociated :
        (port : Fd) → x.request ≡ Some (request.Dissociate port a.key.fd) → answer_at m xs i x ≡ answer.Done →
        Names m xs i x port (obj.Port a.key.port) → a.key.process.0 ≡ owner → under n (associations_in acted) ≡ None
    ends_dissociated port g h l o =
        ap (λ z. under n (associations_in z))
        (entry_acted m xs k.known i x e (request.Dissociate port a.key.fd) g
        (is_free m xs k.known i x e (request.Dissociate port a.key.fd) answer.Done g h (λ y z. cc)))
        ∙ without_key (key_at before owner port a.key.fd) (has_this_key before owner port a (named _ l) o)

    ends_taken :
        (max nget : ℕ) (rs : List EventRec) → AsksPort m xs i x a.key.port max nget → Tells (answer_at m xs i x) rs →
        alert_under before a.key.port ≡ None → 1 ≤ count_from a.number (take max (queue_in (port_under before a.key.port))) →
        under n (associations_in acted) ≡ None
    ends_taken max nget rs asks tells none some =
        ap (λ (c : Channels). under n c.associations.associations) w.acted
        ∙ under-retrieved n (associations_of (events_found max (port_of before.channels.ports a.key.port))) list in_order
        ∙ past
      where
        w : WasTaken m xs k i x e a.key.port max nget rs
        w = taken m xs k i x e a.key.port max nget rs asks tells

        one : 1 ≤ count_from n (take max (port_of before.channels.ports a.key.port).queue)
        one =
            subst (λ z. 1 ≤ count_from z (take max (port_of before.channels.ports a.key.port).queue)) number_is
            (subst (λ es. 1 ≤ count_from a.number (take max es)) (sym (queue_is (port_under before a.key.port))) some)

        occurs_there :
            (o : Option Alert) (es : List Queued) → o ≡ None → 1 ≤ count_from n (take max es) → 1 ≤ occurs n (associations_of (found_at max o es))
        occurs_there None es g h = omega (arith, h, counted_taken n (take max es), counted_from n (take max es))
        occurs_there (Some z) es g h = absurd (cc g)

        occurs_here : 1 ≤ occurs n (associations_of (events_found max (port_of before.channels.ports a.key.port)))
        occurs_here =
            occurs_there (port_of before.channels.ports a.key.port).alert (port_of before.channels.ports a.key.port).queue
            (alert_is (port_under before a.key.port) ∙ none) one

        past :
            (if occurs n (associations_of (events_found max (port_of before.channels.ports a.key.port))) == 0 then under n list.associations else None) ≡ None
        past = go (occurs n (associations_of (events_found max (port_of before.channels.ports a.key.port)))) occurs_here
          where
            go : (j : ℕ) → 1 ≤ j → (if j == 0 then under n list.associations else None) ≡ None
            go j l = let some_one : (j == 0) ≡ false = grind (arith, nat_tests) in ap (λ (b : Bool). if b then under n list.associations else None) some_one

    -- whoever closed it
    ends_closed : (object_at later a.key.process.0 a.key.fd ≡ Some a.object → ⊥) → association_under later n ≡ None
    ends_closed closed = go (association_under before n) (association_under later n) (change_here m xs k i x e n) f refl
      where
        names : (b : Association) → association_under later n ≡ Some b → object_at later b.key.process.0 b.key.fd ≡ Some b.object
        names b g = (one_shot_holds m xs k).names (i + 1) n b within g

        go : (o p : Option Association) → LifeChange m xs i x n o p → o ≡ Some a → association_under later n ≡ p → association_under later n ≡ None
        go o p LifeChange.none g h = absurd (cc g)
        go o p (LifeChange.stays b) g h =
            let same : b ≡ a = cc in
            absurd (closed (subst (λ (z : Association). object_at later z.key.process.0 z.key.fd ≡ Some z.object) same (names b h)))
        go o p (LifeChange.fires b armed due) g h =
            let same : b ≡ a = cc in
            absurd (closed (subst (λ (z : Association). object_at later z.key.process.0 z.key.fd ≡ Some z.object) same (names (disarmed b) h)))
        go o p (LifeChange.begins b c due) g h = absurd (cc g)
        go o p (LifeChange.begins_ready b c due) g h = absurd (cc g)
        go o p (LifeChange.ends b c) g h = h

    pub ends_here : Ends m xs i x a → association_under later n ≡ None
    ends_here (Ends.replaced port events user g h l o) = gone n (ends_replaced port events user g h l o)
    ends_here (Ends.dissociated port g h l o) = gone n (ends_dissociated port g h l o)
    ends_here (Ends.taken max nget rs fired asks tells none some) = gone n (ends_taken max nget rs asks tells none some)
    ends_here (Ends.closed closed) = ends_closed closed

  -- what a port_associate(3C) begins

  begins_here :
      (port object : Fd) (events : PollSet) (user : ℕ) → x.request ≡ Some (request.Associate port object events user) →
      answer_at m xs i x ≡ answer.Done → IsBegun m xs i x (list.made + 1)
  begins_here port object events user g h =
      record {
        association = new;
        begins = begins;
        after = told m xs k i x e n ∙ ap (told_one later) there ∙ stands;
      }
    where
      n : ℕ
      n = (state_at m xs i).channels.associations.made + 1

      free : IsFree before x.thread (request.Associate port object events user)
      free = is_free m xs k.known i x e (request.Associate port object events user) answer.Done g h (λ y z. cc)

      entered : acted ≡ (effect before x.thread owner (request.Associate port object events user)).state
      entered = entry_acted m xs k.known i x e (request.Associate port object events user) g free

      new : Association
      new = new_one m xs k i x e n port object events user

      begins : Begins m xs i x n new
      begins = begins_one m xs k i x e n port object events user free g h refl

      key : AssocKey
      key = key_at (state_at m xs i) (process_at m xs i x.thread) port object

      itself : (j : ℕ) → (j == j) ≡ true
      itself j = grind (arith, nat_tests)

      there : under n (associations_in acted) ≡ Some new
      there =
          ap (λ (z : State). under n (associations_in z)) entered
          ∙ under-push n (filter (has_other_key key) list.associations) new
          (under-past n 0 list.made (filter (has_other_key key) list.associations) (omega arith)
          (ascending-filter association_number (has_other_key key) list.associations 0 list.made in_order))
          ∙ ap (λ (b : Bool). if b then Some new else None) (itself n)

      names : names_its_object later.tables new ≡ true
      names =
          names_new m xs k i x e n later.tables port object events user free
          (ap (λ (z : State). z.tables) (next m xs k.known i x e)
          ∙ tables-step before x.thread x.request
          ∙ ap (λ (z : State). z.tables) entered)

      armed : disarmed_where (ready_at later) new ≡ record new { armed = not (is_due later new) }
      armed = ap (λ (b : Bool). if b then disarmed new else new) (due_is m xs k i x e n new refl) ∙ by (is_due later new)
        where
          by : (b : Bool) → (if b then disarmed new else new) ≡ record new { armed = not b }
          by true = refl
          by false = refl

      stands : told_one later (Some new) ≡ Some (record new { armed = not (is_due later new) })
      stands = ap (λ (b : Bool). if b then Some (disarmed_where (ready_at later) new) else None) names ∙ ap Some armed

  -- and what a port_dissociate(3C) ends
  dissociates_here :
      (port object : Fd) → x.request ≡ Some (request.Dissociate port object) → answer_at m xs i x ≡ answer.Done → IsDissociated m xs i x port object
  dissociates_here port object g h = go (association_of_key before key) refl some
    where
      key : AssocKey
      key = key_at (state_at m xs i) (process_at m xs i x.thread) port object

      free : IsFree before x.thread (request.Dissociate port object)
      free = is_free m xs k.known i x e (request.Dissociate port object) answer.Done g h (λ y z. cc)

      some : is_none (association_of_key before key) ≡ false
      some =
          not_held (port_tests (object_at before owner port) ++ refused_where (is_none (object_at before owner object)) EBADFD ∷ [])
          (refused_where (is_none (association_of_key before key)) ENOENT) [] free

      names : Names m xs i x port (obj.Port (port_at before owner port))
      names = names_port m xs k i x e port (dissociate_tests (object_at before owner object) (association_of_key before key)) free

      go : (o : Option Association) → association_of_key before key ≡ o → is_none o ≡ false → IsDissociated m xs i x port object
      go None f l = absurd (cc l)
      go (Some a) f l =
          let has : has_key key a ≡ true = find-passes (has_key key) list.associations a f in
          let at : port_at before owner port ≡ a.key.port = grind (arith, nat_tests) in
          let own : a.key.process.0 ≡ owner = grind (arith, nat_tests) in
          let same : object ≡ a.key.fd = same_fd object a.key.fd (grind (arith, nat_tests)) in
          let there : under a.number list.associations ≡ Some a = found-under (has_key key) 0 list.made list.associations a in_order f in
          let of_port : Names m xs i x port (obj.Port a.key.port) = names ∙ ap (λ q. Some (obj.Port q)) at in
          record {
            number = a.number;
            association = a;
            before = there;
            of_port = of_port;
            by_own = own;
            by_descriptor = sym same;
            after = ends_here a.number a there (Ends.dissociated port (g ∙ ap (λ z. Some (request.Dissociate port z)) same) h of_port own);
          }

-- how many were made

passing_made :
    (m : State) (t : ℕ) (r : Request) (c : Channels) (a : Answer) → IsPassing m t r c a → associates (Some r) ≡ false →
    c.associations.made ≡ associations_made m
passing_made m t r c a (IsPassing.writes fd bytes f) other = refl
passing_made m t r c a (IsPassing.reads fd max f) other = refl
passing_made m t r c a (IsPassing.sends fd events user f) other = refl
passing_made m t r c a (IsPassing.sends_each fds events user) other = refl
passing_made m t r c a (IsPassing.alerts fd mode events user f) other = refl
passing_made m t r c a (IsPassing.gets fd wait f ready) other = taken_made m.channels (port_at m (process_of m t) fd) 1
passing_made m t r c a (IsPassing.gets_many fd max nget wait f z ready) other = taken_made m.channels (port_at m (process_of m t) fd) max
passing_made m t r c a (IsPassing.associates port object events user f) other = absurd (true≢false other)
passing_made m t r c a (IsPassing.dissociates port object f) other = refl
passing_made m t r c a (IsPassing.creates_timer port user f) other = refl
passing_made m t r c a (IsPassing.sets_timer timer first interval f) other = refl
passing_made m t r c a (IsPassing.deletes_timer timer f) other = refl
passing_made m t r c a (IsPassing.advances by) other = refl

move_made :
    (m : State) (t : ℕ) (q : Option Request) (a : ActResult) → Moves m t q a → associates q ≡ false → associations_made a.state ≡ associations_made m
move_made m t q a (Moves.passes r c x p) other = passing_made m t r c x p other
move_made m t q a (Moves.makes_channel r c objects x (IsMaking.makes_pipe f)) other = refl
move_made m t q a (Moves.makes_channel r c objects x (IsMaking.makes_port f)) other = refl
move_made m t q a (Moves.retrieves port max nget one p) other = taken_made m.channels port max
move_made m t q a _ other = refl

abbrev made_more : State → Option Request → ActResult → Type 0
made_more m q a = associations_made a.state ≡ associations_made m + (if associates q && tells_done a.answer then 1 else 0)

act_made : (m : State) (t : ℕ) (q : Option Request) → made_more m q (act m t q)
act_made m t (Some (request.Associate port object events user)) = go (refusal_of m t (process_of m t) (request.Associate port object events user))
  where
    go :
        (o : Option Errno) →
        made_more m (Some (request.Associate port object events user))
        (unless_refused m o (effect m t (process_of m t) (request.Associate port object events user)))
    go (Some y) = omega arith
    go None = refl
act_made m t q = by (associates q) refl
  where
    by : (b : Bool) → associates q ≡ b → associations_made (act m t q).state ≡ associations_made m + (if associates q && tells_done (act m t q).answer then 1 else 0)
    by false f = omega (arith, move_made m t q (act m t q) (act_moves m t q) f, ap {B = ℕ} (λ (b : Bool). if b && tells_done (act m t q).answer then 1 else 0) f)
    by true f = absurd (cc f)

made_settled : (before m : State) → associations_made (settle before m) ≡ associations_made m
made_settled before m = ap (λ (c : Channels). c.associations.made) (channels-settle_pools before m)

step_made : (m : State) (t : ℕ) (q : Option Request) → associations_made (step m t q).state ≡ associations_made (act m t q).state
unfolding step
step_made m t q = made_settled m (act m t q).state

pub lives_hold : (m : State) (xs : List Turn) → KnownChannels m xs → Lives m xs
lives_hold m xs k =
    record {
      none_at_first = ap (λ (c : Channels). c.associations.made) k.empty;
      numbered = λ i n a l f.
          let b : (0 < n) × (n ≤ associations_made (state_at m xs i)) =
          under-bounded n 0 (associations_made (state_at m xs i)) (associations_in (state_at m xs i)) a (k.fits i l).associations.in_order f
          in
          (omega (arith, b.0), b.1);
      made = λ i x e.
          ap associations_made (next m xs k.known i x e)
          ∙ step_made (state_at m xs i) x.thread x.request
          ∙ act_made (state_at m xs i) x.thread x.request
          ∙ ap (λ a. associations_made (state_at m xs i) + (if associates x.request && tells_done a then 1 else 0)) (sym (answer_of m xs k.known i x e));
      changes = λ i n x e. change_here m xs k i x e n;
      event = λ i n x a e f g h. event_here m xs k i x e n a f g h;
      begun = λ i x port object events user e f g. begins_here m xs k i x e port object events user f g;
      dissociated = λ i x port object e f g. dissociates_here m xs k i x e port object f g;
      ended = λ i n x a e f why. ends_here m xs k i x e n a f why;
    }
