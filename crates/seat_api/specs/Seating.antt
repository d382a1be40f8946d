-- A seat as contracts see it, and what a call of it does.
use Rattle.std.specs.Prelude.{◌≡◌, ℕ, ◌<◌, ◌≤◌, List, [], ◌∷◌, ◌++◌, length}
use Rattle.atomic_table.specs.Seated.{TableId}
use Rattle.dk_base.specs.declared.number.Tid.{Tid}
use Rattle.spec_kernel.specs.Words.{State}
use Rattle.spec_histories.specs.declared.call.SeatAct.{SeatAct}
use Rattle.spec_histories.specs.declared.call.SeatReply.{SeatReply}
use Rattle.seat_table.specs.declared.view.Stage.TheVariants.{Out}
use Rattle.seat_table.specs.Rule as turn
use Rattle.spec_histories.specs.declared.entry.SeatEntry.{SeatEntry}
use Rattle.seat_api.specs.declared.limits.TheConstants.{CALLS_MAX, SEATS_MAX}
use Rattle.seat_api.specs.History.{IsLegal, by, reply_of, state_after}

-- what a seat knows, whose turns are at a desk: contracts see a desk as its history
abbrev pub Sitting : Type 0
Sitting = turn.Sitting SeatEntry (List SeatEntry)

-- `table` tells of which seats it is one. Of the first seat `next` is how many seats were made, which numbers the next one; of the others it is 0.
-- `calls` are its calls, and `seen` and `mine` the beginning of the history that it has seen, and the entries of its own.
pub record Chair : Type 0 where
  pub table : TableId
  pub number : ℕ
  pub thread : Tid
  pub next : ℕ
  pub calls : ℕ
  pub seen : List SeatEntry
  pub mine : List SeatEntry

-- what the fields of a seat say of its view
pub record Sits (me : Sitting) (number made calls next : ℕ) : Type 0 where
  pub empty : me.1 ≡ []
  pub out : me.0.stage ≡ Out
  pub sits : me.0.sits ≡ 1
  pub whole : me.0.whole ≡ []
  pub number_is : me.0.number ≡ number
  pub made_is : length me.0.mine ≡ made
  pub calls_are : me.0.draws ≡ calls
  pub next_is : me.0.next ≡ next
  pub first : number ≡ 0 → 0 < next
  pub few : (made ≤ calls) × (calls ≤ CALLS_MAX) × (next ≤ SEATS_MAX)

-- of the same seats, with the same number and thread
abbrev pub IsSame : Chair → Chair → Type 0
IsSame v w = (w.table ≡ v.table) × (w.number ≡ v.number) × (w.thread ≡ v.thread)

-- the entry of a call
abbrev pub entry_of : Chair → SeatAct → SeatReply → SeatEntry
entry_of v act reply = record { seat = v.number; number = length v.mine; thread = v.thread; act = act; reply = reply }

-- What the seat has seen is now a legal history that begins with what it had seen and ends with this call, which has the kernel's reply there; and
-- of the seat's calls it has just those that it made.
pub record Extends (opening : State) (v w : Chair) (act : SeatAct) (reply : SeatReply) : Type 0 where
  -- the calls of others since, and those of its own that it had not seen
  pub between : List SeatEntry
  pub seen : w.seen ≡ (v.seen ++ between) ++ entry_of v act reply ∷ []
  pub position : reply ≡ reply_of (state_after opening (v.seen ++ between)) v.thread.0 act
  pub legal : IsLegal opening w.seen
  pub mine : w.mine ≡ v.mine ++ entry_of v act reply ∷ []
  pub all_mine : by v.number w.seen ≡ w.mine
