-- The rule of the table under all seats, and what its steps tell. Word 0 is the next ticket, word 1 the ticket that is served, and word 2 the length
-- of the history. The one slot holds the value that turns are taken at. Of the value the rule knows its `history`, and of an entry which `seat` made it.
use Rattle.std.specs.Prelude.{◌≡◌, ◌==◌, ℕ, ◌+◌, ◌*◌, ◌<◌, ◌≤◌, List, [], ◌∷◌, filter, length, if◌then◌else◌, nat_le, Option, None, Some}
use mathlib.Core.Option as maybe
use mathlib.Core.Option.{some}
use mathlib.Core.List.{IsPrefix}
use lib.ListN.{get_elem?}
use Rattle.atomic_table.specs.Table.{Me, State, Step}
use Rattle.seat_table.specs.declared.limits.TheConstants.{CALLS_MAX, HISTORY_MAX, SEATS_MAX}
use Rattle.seat_table.specs.declared.view.Stage.{Stage}
use Rattle.seat_table.specs.declared.view.Stage.TheVariants.{Out, Told, Turn, Waits}
use Rattle.seat_table.specs.declared.view.View.{View}
use Rattle.seat_table.specs.Sums.{Every, total}

-- a view with the slots that its seat holds
abbrev pub Sitting : Type 0 → Type 0 → Type 0
Sitting E D = Me (Option D) (View E)

-- the entries of one seat
abbrev pub by : {E : Type 0} → (E → ℕ) → ℕ → List E → List E
by seat n es = filter (λ e. seat e == n) es

-- what a stage has: 1 where the seat has a ticket, 1 where a draw has no entry yet, the ticket, 1 where it has the turn

abbrev pub waits : Stage → ℕ
waits Out = 0
waits (Waits t) = 1
waits (Turn t) = 1
waits (Told t) = 1

abbrev pub pending : Stage → ℕ
pending Out = 0
pending (Waits t) = 1
pending (Turn t) = 1
pending (Told t) = 0

abbrev pub ticket_in : Stage → ℕ
ticket_in Out = 0
ticket_in (Waits t) = t
ticket_in (Turn t) = t
ticket_in (Told t) = t

abbrev pub turns : Stage → ℕ
turns Out = 0
turns (Waits t) = 0
turns (Turn t) = 1
turns (Told t) = 1

module _ {E : Type 0} where
  -- the sums over all views

  abbrev pub draws_of : List (View E) → ℕ
  draws_of vs = total (λ v. v.draws) vs

  abbrev pub waits_of : List (View E) → ℕ
  waits_of vs = total (λ v. waits v.stage) vs

  abbrev pub turns_of : List (View E) → ℕ
  turns_of vs = total (λ v. turns v.stage) vs

  abbrev pub sits_of : List (View E) → ℕ
  sits_of vs = total (λ v. v.sits) vs

  abbrev pub made_of : List (View E) → ℕ
  made_of vs = total (λ v. length v.mine) vs

-- What the rule knows of the table beside the views. The place of a view is its number among all views.
pub record Board (E : Type 0) : Type 0 where
  -- the next ticket, and the ticket that is served
  pub ticket : ℕ
  pub serving : ℕ
  -- the number of the next seat
  pub next : ℕ
  -- the history
  pub log : List E
  -- the place of the view that has a ticket, and of the seat that has a number
  pub holder : ℕ → ℕ
  pub place : ℕ → ℕ

-- what the view at place j has of the history, and of its ticket, at a stage
abbrev pub Stands : {E : Type 0} → Board E → ℕ → View E → Stage → Type 0
Stands b j v Out = v.whole ≡ []
Stands b j v (Waits t) = (b.holder t ≡ j) × (b.serving ≤ t) × (t < b.ticket) × (v.whole ≡ [])
Stands b j v (Turn t) = (b.holder t ≡ j) × (b.serving ≡ t) × (t < b.ticket) × (v.whole ≡ b.log)
Stands b j v (Told t) = (b.holder t ≡ j) × (b.serving ≡ t) × (t < b.ticket) × (v.whole ≡ b.log) × (v.seen ≡ b.log)

-- what holds of the view at place j
pub record Fits {E : Type 0} (seat : E → ℕ) (b : Board E) (j : ℕ) (v : View E) : Type 0 where
  pub stands : Stands b j v v.stage
  pub seen : IsPrefix v.seen b.log
  pub few : v.draws ≤ CALLS_MAX * v.sits
  -- a draw has an entry, or is pending, or was left without one
  pub made : length v.mine + pending v.stage ≤ v.draws
  pub mine : v.sits ≡ 1 → (v.mine ≡ by seat v.number b.log) × (v.number < b.next) × (b.place v.number ≡ j)
  pub keeper : 0 < v.next → (v.next ≡ b.next) × (j ≡ 0)
  pub olds : Every (λ xs. IsPrefix xs b.log × (length xs ≤ length v.seen)) v.olds

-- the value is at home, and has this history
abbrev pub IsHome : {E D : Type 0} → (D → List E) → List E → List (maybe.Option (Option D)) → Type 0
IsHome {D = D} history log homes = (d : D) × (homes ≡ some (Some d) ∷ []) × (history d ≡ log)

-- the rule
pub record Kept {E D : Type 0} (history : D → List E) (seat : E → ℕ) (s : State (Option D) (View E)) : Type 0 where
  pub board : Board E
  pub words : s.words ≡ board.ticket ∷ board.serving ∷ length board.log ∷ []
  pub draws : draws_of s.views ≡ board.ticket
  pub waiting : waits_of s.views + board.serving ≡ board.ticket
  pub seats : sits_of s.views ≡ board.next
  pub made : made_of s.views ≡ length board.log
  pub few : board.next ≤ SEATS_MAX
  -- a seat that is not yet made has no entry
  pub later : (n : ℕ) → board.next ≤ n → by seat n board.log ≡ []
  pub home : turns_of s.views ≡ 0 → IsHome history board.log s.homes
  pub each : (j : ℕ) (v : View E) → get_elem? s.views j ≡ some v → Fits seat board j v

module _ {E : Type 0} where
  -- a seat that has taken no turn
  abbrev pub newcomer : ℕ → ℕ → List E → View E
  newcomer number next seen =
      record { sits = 1; number = number; next = next; stage = Out; draws = 0; seen = seen; mine = []; whole = []; olds = [] }

  -- the first seat at the start
  abbrev pub opened : View E
  opened = newcomer 0 1 []

  -- the first seat splits off another

  abbrev pub split_left : View E → View E
  split_left v = record v { next = v.next + 1 }

  abbrev pub split_right : View E → View E
  split_right v = newcomer v.next 0 v.seen

  -- the seat with a ticket, in its turn, after its entry, and after its turn

  abbrev pub drawn : View E → ℕ → View E
  drawn v t = record v { stage = Waits t; draws = v.draws + 1 }

  abbrev pub turned : View E → List E → View E
  turned v whole = record v { stage = Turn (ticket_in v.stage); whole = whole }

  abbrev pub told : (E → ℕ) → View E → List E → View E
  told seat v all = record v { stage = Told (ticket_in v.stage); seen = all; whole = all; mine = by seat v.number all }

  abbrev pub left : View E → View E
  left v = record v { stage = Out; whole = [] }

  -- the whole history begins with what the seat had seen, and has just its entries
  pub record Called (seat : E → ℕ) (v : View E) (whole : List E) : Type 0 where
    pub seen : IsPrefix v.seen whole
    pub mine : v.mine ≡ by seat v.number whole
    pub few : length whole ≤ HISTORY_MAX

  -- a note of what a seat has seen is split from it
  abbrev pub note_of : List E → View E
  note_of seen =
      record { sits = 0; number = 0; next = 0; stage = Out; draws = 0; seen = seen; mine = []; whole = []; olds = [] }

  -- a seat joins a note, which is spent

  abbrev pub longer : List E → List E → List E
  longer xs ys = if nat_le (length xs) (length ys) then ys else xs

  abbrev pub joined : View E → View E → View E
  joined v n = record v { seen = longer v.seen n.seen; olds = v.seen ∷ n.seen ∷ [] }

module _ {E D : Type 0} where
  -- the seat has no ticket, and may draw one
  abbrev pub MayDraw : Sitting E D → Type 0
  MayDraw m = (m.0.sits ≡ 1) × (m.0.stage ≡ Out) × (m.1 ≡ []) × (m.0.draws < CALLS_MAX)

  -- a seat draws a ticket
  abbrev pub Draws : Step (Option D) → Sitting E D → ℕ → Sitting E D → Type 0
  Draws st m r n = (n.0 ≡ drawn m.0 r) × (n.1 ≡ m.1)

  -- the seat waits for its turn with this ticket
  abbrev pub IsWaiting : Sitting E D → ℕ → Type 0
  IsWaiting m t = (m.0.sits ≡ 1) × (m.0.stage ≡ Waits t) × (m.1 ≡ [])

  -- it leaves the turn
  abbrev pub Leaves : Step (Option D) → Sitting E D → ℕ → Sitting E D → Type 0
  Leaves st m r n = (n.0 ≡ left m.0) × (n.1 ≡ [])

  -- it reads the length of the history, which is not below that of what it has seen; and what it joined begins what it has seen
  abbrev pub Reads : Step (Option D) → Sitting E D → ℕ → Sitting E D → Type 0
  Reads st m r n =
      (n.0 ≡ m.0) × (n.1 ≡ m.1) × (length m.0.seen ≤ r) × (r ≤ HISTORY_MAX) × Every (λ xs. IsPrefix xs m.0.seen) m.0.olds

  -- the seat has the turn, with the value out of its slot
  abbrev pub InTurn : Sitting E D → Type 0
  InTurn m = (m.0.sits ≡ 1) × ((t : ℕ) × (m.0.stage ≡ Turn t)) × (m.1 ≡ (0, None) ∷ [])

-- the history of the value in the first slot that a seat holds
abbrev pub held : {E D : Type 0} → (D → List E) → List (ℕ × Option D) → List E
held history [] = []
held history ((k, None) ∷ xs) = []
held history ((k, Some d) ∷ xs) = history d

module _ {E D : Type 0} (history : D → List E) (seat : E → ℕ) where
  -- it looks which ticket is served, and has the turn with the value where this is its own

  abbrev pub HasTurn : Sitting E D → Sitting E D → Type 0
  HasTurn m n = (d : D) × (n ≡ (turned m.0 (history d), (0, Some d) ∷ [])) × Called seat m.0 (history d)

  abbrev pub Looks : Step (Option D) → Sitting E D → ℕ → Sitting E D → Type 0
  Looks st m r n = (r ≡ ticket_in m.0.stage → HasTurn m n) × (¬ (r ≡ ticket_in m.0.stage) → (n.0 ≡ m.0) × (n.1 ≡ m.1))

  -- it has drawn a ticket, and has the turn and the value
  abbrev pub TakesTurn : Sitting E D → Sitting E D → D → Type 0
  TakesTurn m n d = (t : ℕ) × (n ≡ (turned (drawn m.0 t) (history d), (0, None) ∷ [])) × Called seat m.0 (history d)

  -- it appends the last entry of the value that it holds
  abbrev pub Appends : Step (Option D) → Sitting E D → ℕ → Sitting E D → Type 0
  Appends st m r n = (n.0 ≡ told seat m.0 (held history m.1)) × (n.1 ≡ m.1)
