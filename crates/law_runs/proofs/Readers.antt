-- What the story of a call tells: the Call that made it, and the accept, the Return and the end that it had.
use Rattle.std.specs.Prelude.{ℕ, ◌≡◌, ◌+◌, ◌<◌, List, Option, true, Some, None, length, slice_get}
use Rattle.std.proofs.Common.{sym, ap, ◌∙◌}
use native.Mathlib.Omega.{arith}
use Rattle.spec_records.proofs.NumberedLists.{find-number}
use Rattle.spec_kernel.specs.Types.{Call, CallStage, Obj}
use Rattle.dk_base.specs.declared.answer.Answer.TheVariants as answer
use Rattle.spec_records.specs.declared.record.CallStage.TheVariants as stage
use Rattle.spec_records.specs.Words.{at_stage, call_number, cookie_of, entry_of, new_descriptors, objects_passed, tid}
use Rattle.spec_kernel.specs.Words.{State, Turn, door_of, new_call, object_at, state_at}
use Rattle.law_states.specs.Records.{record_of}
use Rattle.law_states.specs.Core.{has_arguments}
use Rattle.law_states.specs.Arrows.{own_table}
use Rattle.law_places.specs.Places.{IsAccept, MakesCall, answer_at, is_entered_in, is_entered_stage, is_returned_in, process_at}
use Rattle.law_places.proofs.Refusals.{no_refusal}
use Rattle.law_places.proofs.Rows.{AnsweredRow, EndedRow, EnteredRow, IsOlder, MadeRow, Origin, ReturnedRow, ended_row, entered_row, is_ended_in, origin, returned_row}
use Rattle.law_places.proofs.Rows.Origin.{new, older}
use Rattle.law_runs.proofs.Story.{Story}
use Rattle.law_runs.proofs.Story.Story.{unmade, changed}

-- the rows at a place of a run

abbrev pub MadeRowAt : State → List Turn → ℕ → Turn → Call → Type 0
MadeRowAt m xs i x r = MadeRow (state_at m xs i) x.thread x.request (answer_at m xs i x) (Some r)

abbrev pub EnteredRowAt : State → List Turn → ℕ → Turn → Option Call → Option Call → Type 0
EnteredRowAt m xs i x o p = EnteredRow (state_at m xs i) x.thread x.request (answer_at m xs i x) o p

abbrev pub ReturnedRowAt : State → List Turn → ℕ → Turn → Option Call → Option Call → Type 0
ReturnedRowAt m xs i x o p = ReturnedRow (state_at m xs i) x.thread x.request (answer_at m xs i x) o p

abbrev pub AnsweredRowAt : State → List Turn → ℕ → Turn → Option Call → Option Call → Type 0
AnsweredRowAt m xs i x o p = AnsweredRow (state_at m xs i) x.thread x.request (answer_at m xs i x) o p

abbrev pub EndedRowAt : State → List Turn → ℕ → Turn → Option Call → Option Call → Type 0
EndedRowAt m xs i x o p = EndedRow (state_at m xs i) x.thread x.request (answer_at m xs i x) (state_at m xs (i + 1)) o p

-- what a turn's thread has in its table before the turn
abbrev pub table_at : State → List Turn → ℕ → Turn → List (Option Obj)
table_at m xs i x = own_table (state_at m xs i) x.thread

abbrev OriginAt : State → List Turn → ℕ → Turn → Option Call → Call → Type 0
OriginAt m xs i x o r = Origin (state_at m xs i) x.thread x.request (answer_at m xs i x) o r

pub number_of : (m : State) (c : ℕ) (r : Call) → record_of m c ≡ Some r → r.number ≡ c
number_of m c r e = find-number call_number m.call_tree.calls c r e

pub same_record : (o : Option Call) (r s : Call) → o ≡ Some r → o ≡ Some s → r ≡ s
same_record o r s e f = cc

-- the Call that made the call, and what is kept of it in the record at a later place

pub record WasMade (m : State) (xs : List Turn) (c i : ℕ) (r : Call) : Type 0 where
  pub at : ℕ
  pub turn : Turn
  pub earlier : at < i
  pub makes : MakesCall m xs at turn c
  pub caller : r.caller ≡ tid turn.thread
  pub door : r.door ≡ makes.door
  pub rsize : r.rsize ≡ makes.rsize
  pub bytes : has_arguments r.stage ≡ true → r.bytes ≡ makes.bytes
  pub objects : has_arguments r.stage ≡ true → r.objects ≡ objects_passed (table_at m xs at turn) makes.pass

record NewRecord (r n : Call) (s : CallStage) : Type 0 where
  caller : r.caller ≡ n.caller
  door : r.door ≡ n.door
  rsize : r.rsize ≡ n.rsize
  bytes : r.bytes ≡ n.bytes
  objects : r.objects ≡ n.objects
  abandoned : r.abandoned ≡ n.abandoned
  number : r.number ≡ n.number
  at_stage : r.stage ≡ s

new_record : (r n : Call) (s : CallStage) → Some r ≡ Some (at_stage s n) → NewRecord r n s
new_record r n s e =
    record {
      caller = grind arith;
      door = grind arith;
      rsize = grind arith;
      bytes = grind arith;
      objects = grind arith;
      abandoned = grind arith;
      number = grind arith;
      at_stage = grind arith;
    }

-- the objects of the new record

pub record HasObjects (m : State) (xs : List Turn) (c at : ℕ) (x : Turn) (r : Call) : Type 0 where
  pub makes : MakesCall m xs at x c
  pub objects : r.objects ≡ objects_passed (table_at m xs at x) makes.pass

pub made_here :
    (m : State) (xs : List Turn) (c at : ℕ) (x : Turn) (r : Call) → slice_get xs at ≡ Some x →
    record_of (state_at m xs at) c ≡ None → record_of (state_at m xs (at + 1)) c ≡ Some r → MadeRowAt m xs at x r →
    HasObjects m xs c at x r
made_here m xs c at x r f b a w =
    record {
      makes =
          record {
            turn = f;
            fd = w.fd;
            bytes = w.bytes;
            pass = w.pass;
            rsize = w.rsize;
            door = w.door;
            request = w.asked;
            names_door = w.names_door;
            not_refused =
                no_refusal (state_at m xs at) (process_at m xs at x.thread) (length w.bytes) w.pass
                (object_at (state_at m xs at) (process_at m xs at x.thread) w.fd)
                w.not_refused;
            answer = w.answers ∙ ap (λ (j : ℕ). answer.WaitCall j) (sym n.number ∙ number);
            none_before = b;
            made = r;
            there = a;
            number = number;
            same_caller = n.caller;
            same_door = n.door;
            same_bytes = n.bytes;
            same_rsize = n.rsize;
            not_abandoned = n.abandoned;
            waits = ap has_arguments n.at_stage ∙ w.waits;
          };
      objects = n.objects;
    }
  where
    n : NewRecord r (new_call (state_at m xs at) x.thread w.door w.bytes (objects_passed (table_at m xs at x) w.pass) w.rsize) w.new_stage
    n = new_record r _ w.new_stage w.after

    number : r.number ≡ c
    number = number_of (state_at m xs (at + 1)) c r a

was_made_here :
    (m : State) (xs : List Turn) (c i at : ℕ) (x : Turn) (r : Call) → at < i → (w : HasObjects m xs c at x r) → w.makes.made ≡ r →
    WasMade m xs c i r
was_made_here m xs c i at x r l w e =
    record {
      at = at;
      turn = x;
      earlier = l;
      makes = w.makes;
      caller = ap (λ (y : Call). y.caller) (sym e) ∙ w.makes.same_caller;
      door = ap (λ (y : Call). y.door) (sym e) ∙ w.makes.same_door;
      rsize = ap (λ (y : Call). y.rsize) (sym e) ∙ w.makes.same_rsize;
      bytes = λ z. ap (λ (y : Call). y.bytes) (sym e) ∙ w.makes.same_bytes;
      objects = λ z. w.objects;
    }

made_before : (m : State) (xs : List Turn) (c i at : ℕ) (s r : Call) → at < i → IsOlder s r → WasMade m xs c at s → WasMade m xs c i r
made_before m xs c i at s r l o w =
    record {
      at = w.at;
      turn = w.turn;
      earlier = omega (arith, w.earlier);
      makes = w.makes;
      caller = o.caller ∙ w.caller;
      door = o.door ∙ w.door;
      rsize = o.rsize ∙ w.rsize;
      bytes = λ z. o.bytes z ∙ w.bytes (o.still z);
      objects = λ z. o.objects z ∙ w.objects (o.still z);
    }

module _ (m : State) (xs : List Turn) where
  pub made : (c i : ℕ) (p : Option Call) (r : Call) → Story m xs c i p → p ≡ Some r → WasMade m xs c i r
  made c i p r (unmade k) e = absurd (cc)
  made c i p r (changed k at x o q l f b a w s) e = go (origin _ _ _ _ _ o q r w e) (λ y g. made c at o y s g)
    where
      here : HasObjects m xs c at x r → WasMade m xs c k r
      here n = was_made_here m xs c k at x r l n (same_record _ n.makes.made r n.makes.there (a ∙ e))

      go :
          OriginAt m xs at x o r →
          ((y : Call) → o ≡ Some y → WasMade m xs c at y) → WasMade m xs c k r
      go (new g row) h = here (made_here m xs c at x r f (b ∙ g) (a ∙ e) row)
      go (older y g t) h = made_before m xs c k at y r l t (h y g)

-- the accept of a call that is Entered

pub record EnteredAt (m : State) (xs : List Turn) (c i : ℕ) (p : Option Call) : Type 0 where
  pub at : ℕ
  pub turn : Turn
  pub earlier : at < i
  pub found : slice_get xs at ≡ Some turn
  pub old : Option Call
  pub was : record_of (state_at m xs at) c ≡ old
  pub there : record_of (state_at m xs (at + 1)) c ≡ p
  pub row : EnteredRowAt m xs at turn old p
  pub made : WasMade m xs c at row.call

pub accept_of :
    (m : State) (xs : List Turn) (i c : ℕ) (x : Turn) (o p : Option Call) → record_of (state_at m xs i) c ≡ o →
    EnteredRowAt m xs i x o p → IsAccept m xs i x c
accept_of m xs i c x o p b w =
    record {
      entry = entry_of (door_of (state_at m xs i) w.call.door);
      cookie = cookie_of (door_of (state_at m xs i) w.call.door);
      bytes = w.call.bytes;
      descriptors = new_descriptors (table_at m xs i x) w.call.objects;
      answer =
          w.answers
          ∙ ap (λ (d : ℕ). answer.Entered d (entry_of (door_of (state_at m xs i) w.call.door)) (cookie_of (door_of (state_at m xs i) w.call.door)) w.call.bytes (new_descriptors (table_at m xs i x) w.call.objects))
          (number_of (state_at m xs i) c w.call (b ∙ w.before));
    }

-- the Return of one that is Returned

pub record ReturnedAt (m : State) (xs : List Turn) (c i : ℕ) (p : Option Call) : Type 0 where
  pub at : ℕ
  pub turn : Turn
  pub earlier : at < i
  pub found : slice_get xs at ≡ Some turn
  pub old : Option Call
  pub was : record_of (state_at m xs at) c ≡ old
  pub there : record_of (state_at m xs (at + 1)) c ≡ p
  pub row : ReturnedRowAt m xs at turn old p
  pub entered : EnteredAt m xs c at old

-- the end of one that is Ended

pub record EndedAt (m : State) (xs : List Turn) (c i : ℕ) (p : Option Call) : Type 0 where
  pub at : ℕ
  pub turn : Turn
  pub earlier : at < i
  pub found : slice_get xs at ≡ Some turn
  pub old : Option Call
  pub was : record_of (state_at m xs at) c ≡ old
  pub there : record_of (state_at m xs (at + 1)) c ≡ p
  pub row : EndedRowAt m xs at turn old p

is_entered_then : (o : Option Call) (r : Call) (t : ℕ) → o ≡ Some r → r.stage ≡ stage.Entered (tid t) → is_entered_in o ≡ true
is_entered_then o r t e f = ap is_entered_in e ∙ ap is_entered_stage f

module _ (m : State) (xs : List Turn) where
  pub entered : (c i : ℕ) (p : Option Call) → Story m xs c i p → is_entered_in p ≡ true → EnteredAt m xs c i p
  entered c i p (unmade k) e = absurd (grind arith)
  entered c i p (changed k at x o q l f b a w s) e = go (entered_row _ _ _ _ _ o q w e)
    where
      go : EnteredRowAt m xs at x o q → EnteredAt m xs c k q
      go row =
          record {
            at = at;
            turn = x;
            earlier = l;
            found = f;
            old = o;
            was = b;
            there = a;
            row = row;
            made = made m xs c at o row.call s row.before;
          }

  pub returned : (c i : ℕ) (p : Option Call) → Story m xs c i p → is_returned_in p ≡ true → ReturnedAt m xs c i p
  returned c i p (unmade k) e = absurd (grind arith)
  returned c i p (changed k at x o q l f b a w s) e = go (returned_row _ _ _ _ _ o q w e)
    where
      go : ReturnedRowAt m xs at x o q → ReturnedAt m xs c k q
      go row =
          record {
            at = at;
            turn = x;
            earlier = l;
            found = f;
            old = o;
            was = b;
            there = a;
            row = row;
            entered = entered c at o s (is_entered_then o row.call x.thread row.before row.was_entered);
          }

  pub ended : (c i : ℕ) (p : Option Call) → Story m xs c i p → is_ended_in p ≡ true → EndedAt m xs c i p
  ended c i p (unmade k) e = absurd (grind arith)
  ended c i p (changed k at x o q l f b a w s) e =
      record { at = at; turn = x; earlier = l; found = f; old = o; was = b; there = a; row = ended_row _ _ _ _ _ o q w e }
