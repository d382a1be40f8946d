-- The lives of associations: what each act makes of the association of a number, and what ports are told after it.
use Rattle.std.specs.Prelude.{find, ℕ, ◌≡◌, ◌+◌, ◌++◌, ◌≤◌, ◌<◌, ◌==◌, ◌&&◌, List, [], ◌∷◌, Option, Bool, true, false, if◌then◌else◌, not, Some, None, is_none, bit_and, bit_or, count_by, filter, map, slice_get, take, zero, suc}
use Rattle.std.proofs.Common.{ap₂, true≢false, cond, refl, sym, ap, subst, ◌∙◌}
use native.Mathlib.Omega.{arith}
use Rattle.std.proofs.lemmas.Bool.Decides.{nat_tests}
use Rattle.spec_records.specs.declared.association.Association.{Association}
use Rattle.spec_records.specs.Words.{AssociationList, IsAscending, Port, association_number, associate_tests, associations_of, descriptor, disarmed, disarmed_where, dissociate_tests, events_found, fired_where, found_at, get_tests, getn_tests, has_key, has_other_key, has_other_number, is_event_of, is_object, is_ready_for, is_this_object, is_to_fire, left_at, names_its_object, new_association, object_named, port_in, port_of, records_of, refused_where, retrieve_association, retrieve_associations, table_in, told_events}
use Rattle.spec_records.proofs.NumberedLists.{ascending-filter}
use Rattle.spec_kernel.specs.Types.{Answer, EventRec, Fd, Obj, Queued, Request}
use Rattle.spec_records.specs.declared.port.Alert.{Alert}
use Rattle.law_runs.specs.PortEvents.{AsksPort, Tells}
use Rattle.spec_kernel.specs.Words.{ActResult, Channels, State, Turn, act, associated, association_of_key, associations_in, dissociated, end_lost, end_timers, key_at, object_at, port, port_at, port_tests, ready_at, settle_pools, state_at, step, take_found, watched}
use Rattle.spec_kernel.proofs.Settling.{channels-settle_pools}
use Rattle.std.proofs.lemmas.Option.{slice_get_within}
use Rattle.dk_base.specs.declared.error.Errno.TheVariants.{EBADFD}
use Rattle.dk_base.specs.declared.object.Obj.TheVariants as obj
use Rattle.dk_base.specs.declared.object.Src.TheVariants as source
use Rattle.dk_base.specs.declared.set.PollSet.{PollSet}
use Rattle.dk_base.specs.declared.request.Request.TheVariants as request
use Rattle.dk_base.specs.declared.answer.Answer.TheVariants as answer
use Rattle.spec_records.specs.declared.association.AssocKey.{AssocKey}
use Rattle.spec_kernel.proofs.Moves.{IsFree, IsMaking, IsPassing, Moves, act_moves}
use Rattle.spec_kernel.proofs.Refusals.{not_held}
use Rattle.law_channels.proofs.Associations.{counted_taken, occurs, parted}
use Rattle.law_channels.specs.Channels.{AreChannels}
use Rattle.law_channels.proofs.Acts.{Fits, act_fits, ended_fits}
use Rattle.law_runs.proofs.Fired.{fired-event, queued_event}
use Rattle.law_channels.proofs.Tally.{count-cons}
use Rattle.law_states.specs.Coherent.{is_fit_wait}
use Rattle.law_places.specs.Places.{answer_at, process_at}
use Rattle.law_places.proofs.Known.{next}
use Rattle.law_runs.specs.Channels.{alert_in, port_under}
use Rattle.law_runs.specs.OneShot.{association_under, count_from, due_event, has_queued_at, is_due, is_unfired, queue_in, under}
use Rattle.law_runs.specs.Lives.{first_from, Begins, Ends, LifeChange}
use Rattle.law_runs.proofs.Channels.{KnownChannels, answer_of}
use Rattle.law_runs.proofs.OneShot.{from_is, counted_from, counted_under, ready_is}
use Rattle.law_runs.proofs.PortTurns.{names_port, tells_found, tells_one, wait_fits}
use Rattle.law_runs.proofs.RowChanges.{tables-step}

-- the association of a number in a list that is changed

module _ (n : ℕ) where
  pub under-above : (low made : ℕ) (xs : List Association) → n ≤ low → IsAscending association_number low made xs → under n xs ≡ None
  under-above low made [] l h = refl
  under-above low made (a ∷ xs) l h =
      let high : low < a.number = h.0 in
      let other : (a.number == n) ≡ false = grind (arith, nat_tests) in
      ap (λ (b : Bool). if b then Some a else under n xs) other ∙ under-above a.number made xs (omega arith) h.2

  -- the one of a number that is kept
  abbrev pub kept : (Association → Bool) → Option Association → Option Association
  kept keep None = None
  kept keep (Some a) = if keep a then Some a else None

  pub under-filter :
      (keep : Association → Bool) (low made : ℕ) (xs : List Association) → IsAscending association_number low made xs →
      under n (filter keep xs) ≡ kept keep (under n xs)
  under-filter keep low made [] h = refl
  under-filter keep low made (a ∷ xs) h = go (a.number == n) refl (keep a) refl (under-filter keep a.number made xs h.2)
    where
      go :
          (b : Bool) → (a.number == n) ≡ b → (c : Bool) → keep a ≡ c → under n (filter keep xs) ≡ kept keep (under n xs) →
          under n (if c then a ∷ filter keep xs else filter keep xs) ≡ kept keep (if b then Some a else under n xs)
      go true e true f rest =
          ap (λ (b : Bool). if b then Some a else under n (filter keep xs)) e ∙ ap (λ (b : Bool). if b then Some a else None) (sym f)
      go true e false f rest =
          let same : a.number ≡ n = grind (arith, nat_tests) in
          under-above a.number made (filter keep xs) (omega arith) (ascending-filter association_number keep xs a.number made h.2)
          ∙ ap (λ (b : Bool). if b then Some a else None) (sym f)
      go false e true f rest = ap (λ (b : Bool). if b then Some a else under n (filter keep xs)) e ∙ rest
      go false e false f rest = rest

  abbrev changed : (Association → Association) → Option Association → Option Association
  changed f None = None
  changed f (Some a) = Some (f a)

  under-map :
      (f : Association → Association) → ((a : Association) → (f a).number ≡ a.number) → (xs : List Association) →
      under n (map f xs) ≡ changed f (under n xs)
  under-map f same [] = refl
  under-map f same (a ∷ xs) =
      ap (λ (k : ℕ). if k == n then Some (f a) else under n (map f xs)) (same a) ∙ go (a.number == n) (under-map f same xs)
    where
      go : (b : Bool) → under n (map f xs) ≡ changed f (under n xs) → (if b then Some (f a) else under n (map f xs)) ≡ changed f (if b then Some a else under n xs)
      go true rest = refl
      go false rest = rest

  pub under-push : (xs : List Association) (a : Association) → under n xs ≡ None → under n (xs ++ a ∷ []) ≡ (if a.number == n then Some a else None)
  under-push [] a e = refl
  under-push (x ∷ xs) a e = go (x.number == n) e (λ f. under-push xs a f)
    where
      go :
          (b : Bool) → (if b then Some x else under n xs) ≡ None → (under n xs ≡ None → under n (xs ++ a ∷ []) ≡ (if a.number == n then Some a else None)) →
          (if b then Some x else under n (xs ++ a ∷ [])) ≡ (if a.number == n then Some a else None)
      go true f rest = absurd (cc f)
      go false f rest = rest f

  under-front : (xs : List Association) (a b : Association) → under n xs ≡ Some b → under n (xs ++ a ∷ []) ≡ Some b
  under-front [] a b e = cc
  under-front (x ∷ xs) a b e = go (x.number == n) e (λ f. under-front xs a b f)
    where
      go :
          (c : Bool) → (if c then Some x else under n xs) ≡ Some b → (under n xs ≡ Some b → under n (xs ++ a ∷ []) ≡ Some b) →
          (if c then Some x else under n (xs ++ a ∷ [])) ≡ Some b
      go true f rest = f
      go false f rest = rest f

-- what is left of one after ports were told
abbrev pub told_one : State → Option Association → Option Association
told_one z None = None
told_one z (Some a) = if names_its_object z.tables a then Some (disarmed_where (ready_at z) a) else None

same_number : (ready : Obj → _) (a : Association) → (disarmed_where ready a).number ≡ a.number
same_number ready a = go (is_to_fire ready a)
  where
    go : (b : Bool) → association_number (if b then disarmed a else a) ≡ a.number
    go true = refl
    go false = refl

pub told_step :
    (m : State) (t : ℕ) (q : Option Request) (n : ℕ) →
    IsAscending association_number 0 (act m t q).state.channels.associations.made (associations_in (act m t q).state) →
    under n (associations_in (step m t q).state) ≡ told_one (step m t q).state (under n (associations_in (act m t q).state))
unfolding step
told_step m t q n h =
    under-map n (disarmed_where (ready_at (end_lost (settle_pools m (act m t q).state)))) (same_number (ready_at (end_lost (settle_pools m (act m t q).state))))
    (filter (names_its_object (settle_pools m (act m t q).state).tables) (associations_in (settle_pools m (act m t q).state)))
    ∙ ap (changed n (disarmed_where (ready_at (end_lost (settle_pools m (act m t q).state)))))
    (ap (λ zs. under n (filter (names_its_object (settle_pools m (act m t q).state).tables) zs)) (ap (λ (c : Channels). c.associations.associations) (channels-settle_pools m (act m t q).state))
    ∙ under-filter n (names_its_object (settle_pools m (act m t q).state).tables) 0 _ (associations_in (act m t q).state) h)
    ∙ go (under n (associations_in (act m t q).state))
  where
    k : State
    k = settle_pools m (act m t q).state

    go :
        (o : Option Association) →
        changed n (disarmed_where (ready_at (end_lost (settle_pools m (act m t q).state)))) (kept n (names_its_object (settle_pools m (act m t q).state).tables) o)
        ≡ told_one (end_lost (settle_pools m (act m t q).state)) o
    go None = refl
    go (Some a) = by (names_its_object (settle_pools m (act m t q).state).tables a)
      where
        by :
            (b : Bool) →
            changed n (disarmed_where (ready_at (end_lost (settle_pools m (act m t q).state)))) (if b then Some a else None)
            ≡ (if b then Some (disarmed_where (ready_at (end_lost (settle_pools m (act m t q).state))) a) else None)
        by true = refl
        by false = refl

-- more of lists

module _ (n : ℕ) where
  pub under-past : (low made : ℕ) (xs : List Association) → made < n → IsAscending association_number low made xs → under n xs ≡ None
  under-past low made [] l h = refl
  under-past low made (a ∷ xs) l h =
      let high : a.number ≤ made = h.1 in
      let other : (a.number == n) ≡ false = grind (arith, nat_tests) in
      ap (λ (b : Bool). if b then Some a else under n xs) other ∙ under-past a.number made xs l h.2

  pub under-other : (xs : List Association) (a : Association) → (a.number == n) ≡ false → under n (xs ++ a ∷ []) ≡ under n xs
  under-other [] a e = ap (λ (b : Bool). if b then Some a else None) e
  under-other (x ∷ xs) a e = ap (λ o. if x.number == n then Some x else o) (under-other xs a e)

  pub found-number : (xs : List Association) (a : Association) → under n xs ≡ Some a → (a.number == n) ≡ true
  found-number [] a e = cc
  found-number (x ∷ xs) a e = go (x.number == n) refl e (λ f. found-number xs a f)
    where
      go : (b : Bool) → (x.number == n) ≡ b → (if b then Some x else under n xs) ≡ Some a → (under n xs ≡ Some a → (a.number == n) ≡ true) → (a.number == n) ≡ true
      go true g f rest = let same : x ≡ a = cc in ap (λ (y : Association). y.number == n) (sym same) ∙ g
      go false g f rest = rest f

  under-without : (m low made : ℕ) (xs : List Association) → IsAscending association_number low made xs → under n (filter (has_other_number m) xs) ≡ (if m == n then None else under n xs)
  under-without m low made xs h = under-filter n (has_other_number m) low made xs h ∙ go (under n xs) refl
    where
      go : (o : Option Association) → under n xs ≡ o → kept n (has_other_number m) o ≡ (if m == n then None else o)
      go None e = by (m == n)
        where
          by : (b : Bool) → ◌≡◌ {A = Option Association} None (if b then None else None)
          by true = refl
          by false = refl
      go (Some a) e = ap (λ (b : Bool). if b then Some a else None) same ∙ by (m == n)
        where
          same : not (a.number == m) ≡ not (m == n)
          same = grind (arith, nat_tests, found-number xs a e)

          by : (b : Bool) → (if not b then Some a else None) ≡ (if b then None else Some a)
          by true = refl
          by false = refl

  pub under-retrieved :
      (ns : List ℕ) (list : AssociationList) → IsAscending association_number 0 list.made list.associations →
      under n (retrieve_associations list ns).associations ≡ (if occurs n ns == 0 then under n list.associations else None)
  under-retrieved [] list h = refl
  under-retrieved (m ∷ ns) list h =
      under-retrieved ns (retrieve_association list m) (ascending-filter association_number (has_other_number m) list.associations 0 list.made h)
      ∙ ap (λ o. if occurs n ns == 0 then o else None) (under-without m 0 list.made list.associations h)
      ∙ by (m == n) (occurs n ns)
      ∙ ap (λ j. if j == 0 then under n list.associations else None) (sym (count-cons (λ k. k == n) m ns))
    where
      by : (b : Bool) (k : ℕ) → (if k == 0 then (if b then None else under n list.associations) else None) ≡ (if cond b 1 0 + k == 0 then under n list.associations else None)
      by true k = grind (arith, nat_tests)
      by false k = grind (arith, nat_tests)

pub same_fd : (f g : Fd) → (f.0 == g.0) ≡ true → f ≡ g
same_fd f g e = let same : f.0 ≡ g.0 = grind (arith, nat_tests) in ap descriptor same

pub is_itself : (o : Obj) → is_object o o ≡ true
is_itself (obj.Door n) = grind (arith, nat_tests)
is_itself (obj.Port n) = grind (arith, nat_tests)
is_itself (obj.PipeIn n) = grind (arith, nat_tests)
is_itself (obj.PipeOut n) = grind (arith, nat_tests)

pub watched_there : (r : Option Obj) → is_none r ≡ false → r ≡ Some (watched r)
watched_there None e = absurd (cc e)
watched_there (Some o) e = refl

pub names_watched : (r : Option Obj) → is_none r ≡ false → is_this_object (watched r) r ≡ true
names_watched None e = absurd (cc e)
names_watched (Some o) e = is_itself o

pub alert_is : (o : Option Port) → (port_in o).alert ≡ alert_in o
alert_is None = refl
alert_is (Some x) = refl

pub queue_is : (o : Option Port) → (port_in o).queue ≡ queue_in o
queue_is None = refl
queue_is (Some x) = refl

module _ (m : State) (xs : List Turn) (k : KnownChannels m xs) (i : ℕ) (x : Turn) (e : slice_get xs i ≡ Some x) (n : ℕ) where
  abbrev pub before : State
  before = state_at m xs i

  abbrev pub owner : ℕ
  owner = process_at m xs i x.thread

  abbrev pub list : AssociationList
  list = (state_at m xs i).channels.associations

  -- what an act makes of association n
  pub data Acted (acted : State) : Option Association → Option Association → Type 0 where
    same : {o : Option Association} → Acted acted o o
    begun : (a : Association) → Begins m xs i x n a → names_its_object acted.tables a ≡ true → Acted acted None (Some a)
    ended : (a : Association) → Ends m xs i x a → Acted acted (Some a) None

  pub ordered : IsAscending association_number 0 list.made list.associations
  ordered = (k.fits i (omega (arith, slice_get_within xs i x e))).associations.in_order

  key_acted :
      (acted : State) (key : AssocKey) → ((a : Association) → has_key key a ≡ true → Ends m xs i x a) →
      Acted acted (under n list.associations) (under n (filter (has_other_key key) list.associations))
  key_acted acted key why = subst (Acted acted (under n list.associations)) (sym (under-filter n (has_other_key key) 0 list.made list.associations ordered)) (go (under n list.associations))
    where
      go : (o : Option Association) → Acted acted o (kept n (has_other_key key) o)
      go None = Acted.same
      go (Some a) = by (has_key key a) refl
        where
          by : (b : Bool) → has_key key a ≡ b → Acted acted (Some a) (if not b then Some a else None)
          by true f = Acted.ended a (why a f)
          by false f = Acted.same

  pub dissociated_by :
      (port object : Fd) → IsFree before x.thread (request.Dissociate port object) → x.request ≡ Some (request.Dissociate port object) →
      answer_at m xs i x ≡ answer.Done → (a : Association) → has_key (key_at before owner port object) a ≡ true → Ends m xs i x a
  dissociated_by port object f g h a l =
      let at : port_at before owner port ≡ a.key.port = grind (arith, nat_tests) in
      let own : a.key.process.0 ≡ owner = grind (arith, nat_tests) in
      let alike : object ≡ a.key.fd = same_fd object a.key.fd (grind (arith, nat_tests)) in
      Ends.dissociated port (g ∙ ap (λ z. Some (request.Dissociate port z)) alike) h
      (names_port m xs k i x e port (dissociate_tests (object_at before owner object) (association_of_key before (key_at before owner port object))) f
      ∙ ap (λ q. Some (obj.Port q)) at)
      own

  dissociate_acts :
      (acted : State) (port object : Fd) → IsFree before x.thread (request.Dissociate port object) → x.request ≡ Some (request.Dissociate port object) →
      answer_at m xs i x ≡ answer.Done →
      Acted acted (under n list.associations) (under n (dissociated before.channels (key_at before owner port object)).associations.associations)
  dissociate_acts acted port object f g h = key_acted acted (key_at before owner port object) (dissociated_by port object f g h)

  -- what a port_associate(3C) makes

  abbrev pub new_one : Fd → Fd → PollSet → ℕ → Association
  new_one port object events user = new_association (list.made + 1) (key_at before owner port object) (watched (object_at before owner object)) events user

  names_one :
      (port object : Fd) (events : PollSet) (user : ℕ) → IsFree before x.thread (request.Associate port object events user) →
      is_none (object_at before owner object) ≡ false
  names_one port object events user f =
      not_held (port_tests (object_at before owner port)) (refused_where (is_none (object_at before owner object)) EBADFD) [] f

  pub begins_one :
      (port object : Fd) (events : PollSet) (user : ℕ) → IsFree before x.thread (request.Associate port object events user) →
      x.request ≡ Some (request.Associate port object events user) → answer_at m xs i x ≡ answer.Done → n ≡ list.made + 1 →
      Begins m xs i x n (new_one port object events user)
  begins_one port object events user f g h next =
      record {
        port = port;
        request = g;
        answered = h;
        of_port = names_port m xs k i x e port (associate_tests (object_at before owner object)) f;
        watches = watched_there (object_at before owner object) (names_one port object events user f);
        by_own = refl;
        number = sym next;
        next = next;
        armed = refl;
      }

  pub names_new :
      (tables : List (List (Option Obj))) (port object : Fd) (events : PollSet) (user : ℕ) →
      IsFree before x.thread (request.Associate port object events user) → tables ≡ before.tables →
      names_its_object tables (new_one port object events user) ≡ true
  names_new tables port object events user f alike =
      ap (λ ts. is_this_object (watched (object_at before owner object)) (object_named (table_in ts owner) object)) alike
      ∙ names_watched (object_at before owner object) (names_one port object events user f)

  pub replaced_by :
      (port object : Fd) (events : PollSet) (user : ℕ) → IsFree before x.thread (request.Associate port object events user) →
      x.request ≡ Some (request.Associate port object events user) → answer_at m xs i x ≡ answer.Done → (a : Association) →
      has_key (key_at before owner port object) a ≡ true → Ends m xs i x a
  replaced_by port object events user f g h a l =
      let at : port_at before owner port ≡ a.key.port = grind (arith, nat_tests) in
      let own : a.key.process.0 ≡ owner = grind (arith, nat_tests) in
      let alike : object ≡ a.key.fd = same_fd object a.key.fd (grind (arith, nat_tests)) in
      Ends.replaced port events user (g ∙ ap (λ z. Some (request.Associate port z events user)) alike) h
      (names_port m xs k i x e port (associate_tests (object_at before owner object)) f ∙ ap (λ q. Some (obj.Port q)) at)
      own

  associate_acts :
      (acted : State) (port object : Fd) (events : PollSet) (user : ℕ) → IsFree before x.thread (request.Associate port object events user) →
      x.request ≡ Some (request.Associate port object events user) → answer_at m xs i x ≡ answer.Done → acted.tables ≡ before.tables →
      Acted acted (under n list.associations)
      (under n (associated before.channels (key_at before owner port object) (watched (object_at before owner object)) events user).associations.associations)
  associate_acts acted port object events user f g h tables = go ((list.made + 1) == n) refl
    where
      key : AssocKey
      key = key_at (state_at m xs i) (process_at m xs i x.thread) port object

      new : Association
      new = new_association (list.made + 1) (key_at (state_at m xs i) (process_at m xs i x.thread) port object) (watched (object_at before owner object)) events user

      go :
          (b : Bool) → ((list.made + 1) == n) ≡ b →
          Acted acted (under n list.associations)
          (under n (filter (has_other_key (key_at before owner port object)) list.associations
          ++ new_association (list.made + 1) (key_at before owner port object) (watched (object_at before owner object)) events user ∷ []))
      go true l =
          let next : n ≡ list.made + 1 = grind (arith, nat_tests) in
          let none : under n list.associations ≡ None = under-past n 0 list.made list.associations (omega arith) ordered in
          let pushed : under n (filter (has_other_key (key_at before owner port object)) list.associations ++ new ∷ []) ≡ Some new =
          under-push n (filter (has_other_key (key_at before owner port object)) list.associations) new
          (under-past n 0 list.made (filter (has_other_key (key_at before owner port object)) list.associations) (omega arith)
          (ascending-filter association_number (has_other_key (key_at before owner port object)) list.associations 0 list.made ordered))
          ∙ ap (λ (b : Bool). if b then Some new else None) l in
          subst (λ o. Acted acted o (under n (filter (has_other_key (key_at before owner port object)) list.associations ++ new ∷ []))) (sym none)
          (subst (Acted acted None) (sym pushed)
          (Acted.begun new (begins_one port object events user f g h next) (names_new acted.tables port object events user f tables)))
      go false l =
          subst (Acted acted (under n list.associations))
          (sym (under-other n (filter (has_other_key (key_at before owner port object)) list.associations) new l))
          (key_acted acted (key_at before owner port object) (replaced_by port object events user f g h))

  -- what is taken
  take_acts :
      (acted : State) (q max nget : ℕ) (rs : List EventRec) → AsksPort m xs i x q max nget → Tells (answer_at m xs i x) rs →
      Acted acted (under n list.associations) (under n (take_found before.channels q max).associations.associations)
  take_acts acted q max nget rs asks tells =
      subst (Acted acted (under n list.associations)) (sym (under-retrieved n (associations_of (events_found max (port_of before.channels.ports q))) list ordered))
      (go (occurs n (associations_of (events_found max (port_of before.channels.ports q)))) refl (under n list.associations) refl)
    where
      one_queued : count_by (is_event_of n) (port_of before.channels.ports q).queue ≡ (if has_queued_at q (under n list.associations) then 1 else 0)
      one_queued =
          (k.fits i (omega (arith, slice_get_within xs i x e))).associations.queued n q
          ∙ counted_under n q 0 list.made list.associations ordered

      none_alerted :
          (o : Option Alert) (es : List Queued) (j : ℕ) → occurs n (associations_of (found_at max o es)) ≡ suc j → o ≡ None
      none_alerted None es j f = refl
      none_alerted (Some a) es j f = absurd (omega (arith, f))

      found_taken :
          (o : Option Alert) (es : List Queued) (j : ℕ) → occurs n (associations_of (found_at max o es)) ≡ suc j →
          1 ≤ count_from n (take max es)
      found_taken None es j f = omega (arith, f, counted_taken n (take max es), counted_from n (take max es))
      found_taken (Some a) es j f = absurd (omega (arith, f))

      has_one : (b : Bool) (c j r : ℕ) → c ≡ (if b then 1 else 0) → r + suc j ≡ c → b ≡ true
      has_one true c j r f g = refl
      has_one false c j r f g = absurd (omega (arith, f, g))

      has_queued : (j : ℕ) → occurs n (associations_of (events_found max (port_of before.channels.ports q))) ≡ suc j → has_queued_at q (under n list.associations) ≡ true
      has_queued j f =
          has_one (has_queued_at q (under n list.associations)) (count_by (is_event_of n) (port_of before.channels.ports q).queue) j
          (count_by (is_event_of n) (left_at max (port_of before.channels.ports q).alert (port_of before.channels.ports q).queue)) one_queued
          (ap (λ z. count_by (is_event_of n) (left_at max (port_of before.channels.ports q).alert (port_of before.channels.ports q).queue) + z) (sym f)
          ∙ parted n max (port_of before.channels.ports q).alert (port_of before.channels.ports q).queue)

      go :
          (j : ℕ) → occurs n (associations_of (events_found max (port_of before.channels.ports q))) ≡ j → (o : Option Association) →
          under n list.associations ≡ o → Acted acted o (if j == 0 then o else None)
      go zero f o g = Acted.same
      go (suc j) f None g = by (suc j == 0)
        where
          by : (b : Bool) → Acted acted None (if b then None else None)
          by true = Acted.same
          by false = Acted.same
      go (suc j) f (Some a) g =
          let here : has_queued_at q (Some a) ≡ true = ap (has_queued_at q) (sym g) ∙ has_queued j f in
          let at : a.key.port ≡ q = grind (arith, nat_tests) in
          let fired : a.armed ≡ false = grind (arith, nat_tests) in
          let number : n ≡ a.number = grind (arith, nat_tests, found-number n list.associations a g) in
          let past : (suc j == 0) ≡ false = grind (arith, nat_tests) in
          subst (Acted acted (Some a)) (sym (ap (λ (b : Bool). if b then Some a else None) past))
          (Acted.ended a
          (Ends.taken max nget rs fired
          (subst (λ p. AsksPort m xs i x p max nget) (sym at) asks)
          tells
          (ap (λ p. alert_in (port_under before p)) at ∙ sym (alert_is (port_under before q)) ∙ none_alerted (port_of before.channels.ports q).alert (port_of before.channels.ports q).queue j f)
          (subst (λ z. 1 ≤ count_from z (take max (queue_in (port_under before a.key.port)))) number
          (subst (λ p. 1 ≤ count_from n (take max (queue_in (port_under before p)))) (sym at)
          (subst (λ es. 1 ≤ count_from n (take max es)) (queue_is (port_under before q))
          (found_taken (port_of before.channels.ports q).alert (port_of before.channels.ports q).queue j f))))))

  passing_acts :
      (r : Request) (c : Channels) (a : Answer) → IsPassing before x.thread r c a → x.request ≡ Some r → answer_at m xs i x ≡ a →
      Acted (record before { channels = c }) (under n list.associations) (under n c.associations.associations)
  passing_acts r c a (IsPassing.writes fd bytes f) g h = Acted.same
  passing_acts r c a (IsPassing.reads fd max f) g h = Acted.same
  passing_acts r c a (IsPassing.sends fd events user f) g h = Acted.same
  passing_acts r c a (IsPassing.sends_each fds events user) g h = Acted.same
  passing_acts r c a (IsPassing.alerts fd mode events user f) g h = Acted.same
  passing_acts r c a (IsPassing.creates_timer port user f) g h = Acted.same
  passing_acts r c a (IsPassing.sets_timer timer first interval f) g h = Acted.same
  passing_acts r c a (IsPassing.deletes_timer timer f) g h = Acted.same
  passing_acts r c a (IsPassing.advances by) g h = Acted.same
  passing_acts r c a (IsPassing.gets fd wait f ready) g h =
      take_acts (record before { channels = c }) (port_at before owner fd) 1 1 (records_of (events_found 1 (port before (port_at before owner fd))))
      (AsksPort.by_get fd wait g (names_port m xs k i x e fd (get_tests wait (port before (port_at before owner fd))) f))
      (subst (λ z. Tells z (records_of (events_found 1 (port before (port_at before owner fd))))) (sym h) (tells_one (port before (port_at before owner fd)) ready))
  passing_acts r c a (IsPassing.gets_many fd max nget wait f z ready) g h =
      take_acts (record before { channels = c }) (port_at before owner fd) max nget (records_of (events_found max (port before (port_at before owner fd))))
      (AsksPort.by_getn fd max nget wait g (names_port m xs k i x e fd (getn_tests wait max nget (port before (port_at before owner fd))) f))
      (subst (λ z. Tells z (records_of (events_found max (port before (port_at before owner fd))))) (sym h) (Tells.several _))
  passing_acts r c a (IsPassing.associates port object events user f) g h =
      associate_acts (record before { channels = c }) port object events user f g h refl
  passing_acts r c a (IsPassing.dissociates port object f) g h = dissociate_acts (record before { channels = c }) port object f g h

  move_acts :
      (q : Option Request) (a : ActResult) → Moves before x.thread q a → x.request ≡ q → answer_at m xs i x ≡ a.answer →
      Acted a.state (under n list.associations) (under n (associations_in a.state))
  move_acts q a (Moves.passes r c y p) g h = passing_acts r c y p g h
  move_acts r a (Moves.retrieves q max nget one p) g h =
      take_acts a.state q max nget (records_of (events_found max (port before q))) (AsksPort.by_end_of_wait max nget one false g p.waits)
      (subst (λ z. Tells z (records_of (events_found max (port before q)))) (sym h) (tells_found before q max nget one fit.1 fit.0))
    where
      fit : (is_ready_for nget (port before q) ≡ true) × (is_fit_wait max nget one ≡ true)
      fit = wait_fits m xs k i x e q max nget one g p.waits p.referred
  move_acts q a (Moves.makes_channel r c objects y (IsMaking.makes_pipe f)) g h = Acted.same
  move_acts q a (Moves.makes_channel r c objects y (IsMaking.makes_port f)) g h = Acted.same
  move_acts q a y g h = Acted.same

  pub acts : Acted (act before x.thread x.request).state (under n list.associations) (under n (associations_in (act before x.thread x.request).state))
  acts = move_acts x.request (act before x.thread x.request) (act_moves before x.thread x.request) refl (answer_of m xs k.known i x e)

-- together with what ports are told

module _ (m : State) (xs : List Turn) (k : KnownChannels m xs) (i : ℕ) (x : Turn) (e : slice_get xs i ≡ Some x) (n : ℕ) where
  abbrev pub later : State
  later = state_at m xs (i + 1)

  -- an association that is armed and one that is not, where ports are told
  pub due_is : (a : Association) → a.armed ≡ true → is_to_fire (ready_at (state_at m xs (i + 1))) a ≡ is_due (state_at m xs (i + 1)) a
  due_is a f =
      ap (λ b. b && not (told_events (ready_at (state_at m xs (i + 1)) a.object) a.events == 0)) f
      ∙ ap (λ z. not (bit_and z (bit_or a.events.0 24) == 0)) (ready_is (state_at m xs (i + 1)) a.object)

  is_armed : (ready : Obj → PollSet) (a : Association) → is_to_fire ready a ≡ true → a.armed ≡ true
  is_armed ready a f = go a.armed f
    where
      go : (b : Bool) → b && not (told_events (ready a.object) a.events == 0) ≡ true → b ≡ true
      go true g = refl
      go false g = g

  joined :
      (acted : State) (o p : Option Association) → acted.tables ≡ later.tables → Acted m xs k i x e n acted o p →
      LifeChange m xs i x n o (told_one later p)
  joined acted None None tables Acted.same = LifeChange.none
  joined acted (Some a) _ tables Acted.same = by (names_its_object later.tables a) refl (is_to_fire (ready_at later) a) refl
    where
      by :
          (b : Bool) → names_its_object later.tables a ≡ b → (c : Bool) → is_to_fire (ready_at later) a ≡ c →
          LifeChange m xs i x n (Some a) (if b then Some (if c then disarmed a else a) else None)
      by false f c g = LifeChange.ends a (Ends.closed (λ there. absurd (true≢false (sym (is_itself a.object) ∙ ap (is_this_object a.object) (sym there) ∙ f))))
      by true f true g = LifeChange.fires a (is_armed (ready_at later) a g) (sym (due_is a (is_armed (ready_at later) a g)) ∙ g)
      by true f false g = LifeChange.stays a
  joined acted None _ tables (Acted.begun a b there) =
      by (names_its_object later.tables a) (ap (λ ts. names_its_object ts a) (sym tables) ∙ there) (is_to_fire (ready_at later) a) refl
    where
      by :
          (d : Bool) → d ≡ true → (c : Bool) → is_to_fire (ready_at later) a ≡ c →
          LifeChange m xs i x n None (if d then Some (if c then disarmed a else a) else None)
      by false f c g = absurd (true≢false (sym f))
      by true f true g = LifeChange.begins_ready a b (sym (due_is a b.armed) ∙ g)
      by true f false g = LifeChange.begins a b (sym (due_is a b.armed) ∙ g)
  joined acted (Some a) _ tables (Acted.ended _ w) = LifeChange.ends a w

  pub acted_fits : Fits (act (state_at m xs i) x.thread x.request).state
  acted_fits =
      let h : AreChannels (state_at m xs i) = k.fits i (omega (arith, slice_get_within xs i x e)) in
      act_fits (state_at m xs i) x.thread x.request
      (record { pipes = h.pipes; ports = h.ports; associations = h.associations; timers = h.timers; refers = h.refers }) (k.known.may i x e)

  pub told : association_under later n ≡ told_one later (under n (associations_in (act (state_at m xs i) x.thread x.request).state))
  told =
      subst (λ z. under n (associations_in z) ≡ told_one z (under n (associations_in (act (state_at m xs i) x.thread x.request).state)))
      (sym (next m xs k.known i x e))
      (told_step (state_at m xs i) x.thread x.request n acted_fits.associations.in_order)

  pub change_here : LifeChange m xs i x n (association_under (state_at m xs i) n) (association_under later n)
  change_here =
      subst (LifeChange m xs i x n (association_under (state_at m xs i) n)) (sym told)
      (joined (act (state_at m xs i) x.thread x.request).state (association_under (state_at m xs i) n)
      (under n (associations_in (act (state_at m xs i) x.thread x.request).state))
      (sym (tables-step (state_at m xs i) x.thread x.request) ∙ ap (λ (z : State). z.tables) (sym (next m xs k.known i x e)))
      (acts m xs k i x e n))

-- what an association that fires has queued

first_is : (n : ℕ) (es : List Queued) → find (is_event_of n) es ≡ first_from n es
first_is n [] = refl
first_is n (e ∷ es) = ap₂ (λ (b : Bool) o. if b then Some e else o) (sym (from_is n e.assoc)) (first_is n es)

fired_step :
    (m : State) (t : ℕ) (q : Option Request) (n : ℕ) (b : Association) → Fits (act m t q).state →
    under n (associations_in (act m t q).state) ≡ Some b → names_its_object (step m t q).state.tables b ≡ true →
    is_to_fire (ready_at (step m t q).state) b ≡ true →
    queued_event n (step m t q).state.channels.ports b.key.port ≡ Some (fired_where (ready_at (step m t q).state) b).queued
unfolding step
fired_step m t q n b fits e names fires =
    fired-event n (ready_at (end_timers (end_lost (settle_pools m (act m t q).state)))) (end_timers (end_lost (settle_pools m (act m t q).state))).channels.ports
    (associations_in (end_timers (end_lost (settle_pools m (act m t q).state)))) 0 _ b h.associations.in_order h.associations.of_ports there fires
    (h.associations.queued n b.key.port ∙ counted_under n b.key.port 0 _ (associations_in (end_timers (end_lost (settle_pools m (act m t q).state)))) h.associations.in_order
    ∙ ap (λ o. if has_queued_at b.key.port o then 1 else 0) there
    ∙ none (b.key.port == b.key.port))
  where
    h : Fits (end_timers (end_lost (settle_pools m (act m t q).state)))
    h = ended_fits m (act m t q).state fits

    there : under n (associations_in (end_timers (end_lost (settle_pools m (act m t q).state)))) ≡ Some b
    there =
        ap (λ zs. under n (filter (names_its_object (settle_pools m (act m t q).state).tables) zs)) (ap (λ (c : Channels). c.associations.associations) (channels-settle_pools m (act m t q).state))
        ∙ under-filter n (names_its_object (settle_pools m (act m t q).state).tables) 0 _ (associations_in (act m t q).state) fits.associations.in_order
        ∙ ap (kept n (names_its_object (settle_pools m (act m t q).state).tables)) e
        ∙ ap (λ (c : Bool). if c then Some b else None) names

    armed : b.armed ≡ true
    armed = go b.armed fires
      where
        go : (c : Bool) → c && not (told_events (ready_at (end_timers (end_lost (settle_pools m (act m t q).state))) b.object) b.events == 0) ≡ true → c ≡ true
        go true g = refl
        go false g = g

    none : (c : Bool) → ◌≡◌ {A = ℕ} (if c && not b.armed then 1 else 0) 0
    none true = ap (λ (d : Bool). if not d then 1 else 0) armed
    none false = refl

module _ (m : State) (xs : List Turn) (k : KnownChannels m xs) (i : ℕ) (x : Turn) (e : slice_get xs i ≡ Some x) (n : ℕ) where
  abbrev acted_at : State
  acted_at = (act (state_at m xs i) x.thread x.request).state

  pub same_due : (z : State) (b : Association) → (fired_where (ready_at z) b).queued ≡ due_event z (disarmed b)
  same_due z b =
      ap
      (λ w. record { rec = record { source = source.Fd; object = b.key.fd.0; events = bit_and w (bit_or b.events.0 24); user = b.user }; assoc = Some b.number; timer = None })
      (ready_is z b.object)

  fired_later :
      (b : Association) → under n (associations_in (act (state_at m xs i) x.thread x.request).state) ≡ Some b → names_its_object (state_at m xs (i + 1)).tables b ≡ true →
      is_to_fire (ready_at (state_at m xs (i + 1))) b ≡ true →
      first_from n (queue_in (port_under (state_at m xs (i + 1)) b.key.port)) ≡ Some (due_event (state_at m xs (i + 1)) (disarmed b))
  fired_later b f names fires =
      ap (first_from n) (sym (queue_is (port_under (state_at m xs (i + 1)) b.key.port)))
      ∙ sym (first_is n (port_of (state_at m xs (i + 1)).channels.ports b.key.port).queue)
      ∙ moved (state_at m xs (i + 1)) (next m xs k.known i x e) names fires
      ∙ ap Some (same_due (state_at m xs (i + 1)) b)
    where
      moved :
          (z : State) → z ≡ (step (state_at m xs i) x.thread x.request).state → names_its_object z.tables b ≡ true → is_to_fire (ready_at z) b ≡ true →
          queued_event n z.channels.ports b.key.port ≡ Some (fired_where (ready_at z) b).queued
      moved z alike g h =
          subst (λ y. queued_event n y.channels.ports b.key.port ≡ Some (fired_where (ready_at y) b).queued) (sym alike)
          (fired_step (state_at m xs i) x.thread x.request n b (acted_fits m xs k i x e n) f
          (ap (λ (y : State). names_its_object y.tables b) (sym alike) ∙ g)
          (ap (λ (y : State). is_to_fire (ready_at y) b) (sym alike) ∙ h))

  pub event_here :
      (a : Association) → association_under (state_at m xs (i + 1)) n ≡ Some a → a.armed ≡ false →
      is_unfired (association_under (state_at m xs i) n) ≡ true →
      first_from n (queue_in (port_under (state_at m xs (i + 1)) a.key.port)) ≡ Some (due_event (state_at m xs (i + 1)) a)
  event_here a f fired unfired =
      go (association_under (state_at m xs i) n) (under n (associations_in (act (state_at m xs i) x.thread x.request).state)) refl (acts m xs k i x e n) unfired
      (sym (told m xs k i x e n) ∙ f)
    where
      armed_before : (o : Option Association) (b : Association) → Acted m xs k i x e n (act (state_at m xs i) x.thread x.request).state o (Some b) → is_unfired o ≡ true → b.armed ≡ true
      armed_before (Some b) _ Acted.same u = u
      armed_before None b (Acted.begun _ c _) u = c.armed

      go :
          (o p : Option Association) → under n (associations_in (act (state_at m xs i) x.thread x.request).state) ≡ p →
          Acted m xs k i x e n (act (state_at m xs i) x.thread x.request).state o p → is_unfired o ≡ true →
          told_one (state_at m xs (i + 1)) p ≡ Some a →
          first_from n (queue_in (port_under (state_at m xs (i + 1)) a.key.port)) ≡ Some (due_event (state_at m xs (i + 1)) a)
      go o None g h u l = cc
      go o (Some b) g h u l = by (names_its_object (state_at m xs (i + 1)).tables b) refl (is_to_fire (ready_at (state_at m xs (i + 1))) b) refl l
        where
          by :
              (c : Bool) → names_its_object (state_at m xs (i + 1)).tables b ≡ c → (d : Bool) → is_to_fire (ready_at (state_at m xs (i + 1))) b ≡ d →
              (if c then Some (if d then disarmed b else b) else None) ≡ Some a →
              first_from n (queue_in (port_under (state_at m xs (i + 1)) a.key.port)) ≡ Some (due_event (state_at m xs (i + 1)) a)
          by false v d w r = cc
          by true v false w r =
              let same : b ≡ a = cc in
              absurd (true≢false (sym (armed_before o b h u) ∙ ap (λ (y : Association). y.armed) same ∙ fired))
          by true v true w r =
              let same : disarmed b ≡ a = cc in
              subst (λ (y : Association). first_from n (queue_in (port_under (state_at m xs (i + 1)) y.key.port)) ≡ Some (due_event (state_at m xs (i + 1)) y)) same
              (fired_later b g v w)
