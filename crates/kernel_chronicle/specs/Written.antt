-- A history and what its text has declared; what a call that C makes did to them.
use Rattle.std.specs.Prelude.{ℕ, ◌≡◌, ◌≤◌, ◌<◌, ◌++◌, ◌∷◌, [], ◌&&◌, false, true, not, List, Option, Some, None, length, take}
use Rattle.dk_base.specs.declared.limits.TheConstants.{EVENTS_MAX}
use Rattle.spec_kernel.specs.Types.{Request, Tid}
use Rattle.spec_kernel.specs.Words.{IsFit, MayTurn, is_runnable, is_running}
use Rattle.spec_histories.specs.Histories.{Entry, History, IsHistory, end, grown, next}
use Rattle.kernel_chronicle.specs.declared.asked.Asked.{Asked}
use Rattle.kernel_chronicle.specs.declared.rooms.TheConstants.{BYTES_ROOM, ITEMS_ASKED_MAX, REPLY_ROOM, TEXT_ROOM}
use Rattle.kernel_chronicle.specs.declared.refusal.Refusal.{Refusal}
use Rattle.kernel_chronicle.specs.declared.refusal.Refusal.TheVariants as why
use Rattle.kernel_handle.specs.declared.recorder.Refused.{Refused}
use Rattle.kernel_handle.specs.declared.recorder.Refused.TheVariants as refused
use Rattle.kernel_chronicle.specs.Asks.{asked_request}
use Rattle.kernel_chronicle.specs.Replies.{reply_bytes, reply_words}
use Rattle.history_text.specs.Lookups.{process_of}
use Rattle.history_text.specs.Writable.{is_writable}
use Rattle.history_text.specs.Words.{Names, entry_line, entry_text, with_line}
use Rattle.history_text.specs.declared.limits.TheConstants.{REQUEST_DATA_MAX}

pub record Written : Type 0 where
  pub history : History
  pub names : Names

-- these stand at the beginning of a buffer
abbrev pub BeginsWith : List ℕ → List ℕ → Type 0
BeginsWith xs buffer = take (length xs) buffer ≡ xs

-- the history is legal and has one entry more, and C has its reply
pub record IsTold (before after : Written) (e : Entry) (words content line : List ℕ) : Type 0 where
  pub grows : after.history ≡ grown before.history e
  pub legal : IsHistory after.history
  pub mentions : after.names ≡ with_line before.names (entry_line before.names e)
  pub reply : BeginsWith (reply_words e) words
  pub bytes : BeginsWith (reply_bytes e) content
  pub text : line ≡ entry_text before.names e ++ 10 ∷ []

-- the entry is the one that the written kernel gives for this turn at the end of the history
abbrev pub IsEntered : Written → Written → ℕ → Option Request → List ℕ → List ℕ → List ℕ → Type 0
IsEntered before after t q words content line = IsTold before after (next before.history t q) words content line

-- this is the request that C asks for; the text of a history has a line for it, and the state at the end of the history is such as it wants
pub record IsFitRequest (w : Written) (q : Asked) (given items : List ℕ) (r : Request) : Type 0 where
  pub asked : asked_request q given items ≡ Some r
  pub writable : is_writable w.names (process_of w.names (record { 0 = q.thread })) r ≡ true
  pub fit : IsFit (end w.history) q.thread r

-- what C asks for was entered
pub record IsAnswered (before after : Written) (q : Asked) (given items words content line : List ℕ) : Type 0 where
  pub request : Request
  pub asked : asked_request q given items ≡ Some request
  pub entered : IsEntered before after q.thread (Some request) words content line

-- why nothing was done

-- a buffer is smaller than its room
abbrev pub HasNoRoom : ℕ → ℕ → ℕ → Type 0
HasNoRoom reply bytes text = REPLY_ROOM ≤ reply → BYTES_ROOM ≤ bytes → TEXT_ROOM ≤ text → ⊥

-- more was handed over than a request may have, or there is no request that is fit
abbrev pub IsUnfit : Written → Asked → List ℕ → List ℕ → Type 0
IsUnfit w q given items =
    length given ≤ REQUEST_DATA_MAX → length items ≤ ITEMS_ASKED_MAX → (r : Request) → IsFitRequest w q given items r → ⊥

-- want of memory has no cause
abbrev pub IsCauseOfEnter : Written → Asked → List ℕ → List ℕ → Refusal → Type 0
IsCauseOfEnter w q given items why.Full = EVENTS_MAX ≤ (end w.history).events
IsCauseOfEnter w q given items why.NotRunning = is_running (end w.history) q.thread ≡ false
IsCauseOfEnter w q given items why.NotReady = ⊥
IsCauseOfEnter w q given items why.NotFit = IsUnfit w q given items
IsCauseOfEnter w q given items why.NoMemory = Unit {0}

abbrev pub IsCauseOfGoOn : Written → ℕ → Refusal → Type 0
IsCauseOfGoOn w t why.Full = EVENTS_MAX ≤ (end w.history).events
IsCauseOfGoOn w t why.NotRunning = ⊥
IsCauseOfGoOn w t why.NotReady = (is_runnable (end w.history) t && not (is_running (end w.history) t)) ≡ false
IsCauseOfGoOn w t why.NotFit = ⊥
IsCauseOfGoOn w t why.NoMemory = Unit {0}

-- how C is told of a recorder's refusal
abbrev pub refusal_for : Refused → Refusal
refusal_for refused.Full = why.Full
refusal_for refused.NotRunning = why.NotRunning
refusal_for refused.NotReady = why.NotReady
refusal_for refused.NotFit = why.NotFit
refusal_for refused.NoMemory = why.NoMemory

-- the same by the number that C gets

pub record IsReasonOfEnter (w : Written) (q : Asked) (given items : List ℕ) (status : ℕ) : Type 0 where
  pub full : status ≡ 1 → EVENTS_MAX ≤ (end w.history).events
  pub not_running : status ≡ 2 → is_running (end w.history) q.thread ≡ false
  pub never : status ≡ 3 → ⊥
  pub not_fit : status ≡ 4 → IsUnfit w q given items
  pub known : status ≤ 6

pub record IsReasonOfGoOn (w : Written) (t : ℕ) (status : ℕ) : Type 0 where
  pub full : status ≡ 1 → EVENTS_MAX ≤ (end w.history).events
  pub never : status ≡ 2 → ⊥
  pub not_ready : status ≡ 3 → (is_runnable (end w.history) t && not (is_running (end w.history) t)) ≡ false
  pub nothing_asked : status ≡ 4 → ⊥
  pub known : status ≤ 6
