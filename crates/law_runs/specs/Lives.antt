-- The life of an association: it begins at each port_associate(3C) that is done, under a number that none had; it fires once at most,
-- at an event after which its object is ready; and it ends exactly where its event is taken, where another takes its place, at a
-- port_dissociate(3C), or where its descriptor names its object no more.
use Rattle.std.specs.Prelude.{ℕ, ◌≡◌, ◌+◌, ◌≤◌, ◌&&◌, List, Option, false, true, Some, None, length, not, slice_get, take, [], ◌∷◌, Bool, if◌then◌else◌}
use Rattle.spec_kernel.specs.Types.{Answer, EventRec, Fd, Queued, Request}
use Rattle.dk_base.specs.declared.object.Obj.TheVariants as obj
use Rattle.dk_base.specs.declared.set.PollSet.{PollSet}
use Rattle.dk_base.specs.declared.request.Request.TheVariants as request
use Rattle.dk_base.specs.declared.answer.Answer.TheVariants as answer
use Rattle.spec_records.specs.declared.association.Association.{Association}
use Rattle.spec_kernel.specs.Words.{State, Turn, object_at, state_at}
use Rattle.law_places.specs.Places.{answer_at, process_at}
use Rattle.law_runs.specs.Channels.{Names, alert_under, port_under}
use Rattle.law_runs.specs.PortEvents.{AsksPort, Tells}
use Rattle.law_runs.specs.OneShot.{association_under, count_from, due_event, is_due, is_from, is_unfired, queue_in}

-- how many associations were made
abbrev pub associations_made : State → ℕ
associations_made m = m.channels.associations.made

-- the turn of place i is the port_associate(3C) of association n
pub record Begins (m : State) (xs : List Turn) (i : ℕ) (x : Turn) (n : ℕ) (a : Association) : Type 0 where
  pub port : Fd
  pub request : x.request ≡ Some (request.Associate port a.key.fd a.events a.user)
  pub answered : answer_at m xs i x ≡ answer.Done
  pub of_port : Names m xs i x port (obj.Port a.key.port)
  pub watches : Names m xs i x a.key.fd a.object
  pub by_own : a.key.process.0 ≡ process_at m xs i x.thread
  pub number : a.number ≡ n
  pub next : n ≡ associations_made (state_at m xs i) + 1
  pub armed : a.armed ≡ true

-- why an association ends at the turn of place i
pub data Ends (m : State) (xs : List Turn) (i : ℕ) (x : Turn) (a : Association) : Type 0 where
  replaced :
      (port : Fd) (events : PollSet) (user : ℕ) → x.request ≡ Some (request.Associate port a.key.fd events user) →
      answer_at m xs i x ≡ answer.Done → Names m xs i x port (obj.Port a.key.port) → a.key.process.0 ≡ process_at m xs i x.thread →
      Ends m xs i x a
  dissociated :
      (port : Fd) → x.request ≡ Some (request.Dissociate port a.key.fd) → answer_at m xs i x ≡ answer.Done →
      Names m xs i x port (obj.Port a.key.port) → a.key.process.0 ≡ process_at m xs i x.thread → Ends m xs i x a
  -- its event is among the first of the queue, as many as are taken, and these are told
  taken :
      (max nget : ℕ) (rs : List EventRec) → a.armed ≡ false → AsksPort m xs i x a.key.port max nget → Tells (answer_at m xs i x) rs →
      alert_under (state_at m xs i) a.key.port ≡ None →
      1 ≤ count_from a.number (take max (queue_in (port_under (state_at m xs i) a.key.port))) → Ends m xs i x a
  -- its row is closed, whoever closed it
  closed : (object_at (state_at m xs (i + 1)) a.key.process.0 a.key.fd ≡ Some a.object → ⊥) → Ends m xs i x a

-- association n before and after the turn of place i
pub data LifeChange (m : State) (xs : List Turn) (i : ℕ) (x : Turn) (n : ℕ) : Option Association → Option Association → Type 0 where
  none : LifeChange m xs i x n None None
  stays : (a : Association) → LifeChange m xs i x n (Some a) (Some a)
  fires :
      (a : Association) → a.armed ≡ true → is_due (state_at m xs (i + 1)) a ≡ true →
      LifeChange m xs i x n (Some a) (Some (record a { armed = false }))
  begins :
      (a : Association) → Begins m xs i x n a → is_due (state_at m xs (i + 1)) a ≡ false → LifeChange m xs i x n None (Some a)
  -- its object is ready at once
  begins_ready :
      (a : Association) → Begins m xs i x n a → is_due (state_at m xs (i + 1)) a ≡ true →
      LifeChange m xs i x n None (Some (record a { armed = false }))
  ends : (a : Association) → Ends m xs i x a → LifeChange m xs i x n (Some a) None

-- the first event of association n in a queue
abbrev pub first_from : ℕ → List Queued → Option Queued
first_from n [] = None
first_from n (e ∷ es) = if is_from n e.assoc then Some e else first_from n es

-- a request to associate, and an answer of nothing but that it is done

abbrev pub associates : Option Request → Bool
associates (Some (request.Associate port object events user)) = true
associates _ = false

abbrev pub tells_done : Answer → Bool
tells_done answer.Done = true
tells_done _ = false

-- the turn of place i begins association n, which then stands, and is armed unless its object is ready at once
pub record IsBegun (m : State) (xs : List Turn) (i : ℕ) (x : Turn) (n : ℕ) : Type 0 where
  pub association : Association
  pub begins : Begins m xs i x n association
  pub after : association_under (state_at m xs (i + 1)) n ≡ Some (record association { armed = not (is_due (state_at m xs (i + 1)) association) })

-- the association of these two descriptors stands before the turn of place i, and not after it
pub record IsDissociated (m : State) (xs : List Turn) (i : ℕ) (x : Turn) (port object : Fd) : Type 0 where
  pub number : ℕ
  pub association : Association
  pub before : association_under (state_at m xs i) number ≡ Some association
  pub of_port : Names m xs i x port (obj.Port association.key.port)
  pub by_own : association.key.process.0 ≡ process_at m xs i x.thread
  pub by_descriptor : association.key.fd ≡ object
  pub after : association_under (state_at m xs (i + 1)) number ≡ None

pub record Lives (m : State) (xs : List Turn) : Type 0 where
  pub none_at_first : associations_made m ≡ 0
  -- those that stand have numbers of associations that were made, and one is made where a port_associate(3C) is done, and nowhere else
  pub numbered : (i n : ℕ) (a : Association) → i ≤ length xs → association_under (state_at m xs i) n ≡ Some a → (1 ≤ n) × (n ≤ associations_made (state_at m xs i))
  pub made :
      (i : ℕ) (x : Turn) → slice_get xs i ≡ Some x →
      associations_made (state_at m xs (i + 1))
      ≡ associations_made (state_at m xs i) + (if associates x.request && tells_done (answer_at m xs i x) then 1 else 0)
  pub changes :
      (i n : ℕ) (x : Turn) → slice_get xs i ≡ Some x →
      LifeChange m xs i x n (association_under (state_at m xs i) n) (association_under (state_at m xs (i + 1)) n)
  -- one that fires has queued the events for which its object is ready then, with its descriptor and its user value
  pub event :
      (i n : ℕ) (x : Turn) (a : Association) → slice_get xs i ≡ Some x → association_under (state_at m xs (i + 1)) n ≡ Some a → a.armed ≡ false →
      is_unfired (association_under (state_at m xs i) n) ≡ true →
      first_from n (queue_in (port_under (state_at m xs (i + 1)) a.key.port)) ≡ Some (due_event (state_at m xs (i + 1)) a)
  -- and each turn has its effect
  pub begun :
      (i : ℕ) (x : Turn) (port object : Fd) (events : PollSet) (user : ℕ) → slice_get xs i ≡ Some x →
      x.request ≡ Some (request.Associate port object events user) → answer_at m xs i x ≡ answer.Done →
      IsBegun m xs i x (associations_made (state_at m xs i) + 1)
  pub dissociated :
      (i : ℕ) (x : Turn) (port object : Fd) → slice_get xs i ≡ Some x → x.request ≡ Some (request.Dissociate port object) →
      answer_at m xs i x ≡ answer.Done → IsDissociated m xs i x port object
  -- where there is a reason that one ends, it ends
  pub ended :
      (i n : ℕ) (x : Turn) (a : Association) → slice_get xs i ≡ Some x → association_under (state_at m xs i) n ≡ Some a →
      Ends m xs i x a → association_under (state_at m xs (i + 1)) n ≡ None
