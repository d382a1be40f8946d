-- Which change a record took, by where it came to: an entered record by an accept, a returned one by a Return, and so on. The
-- rows that don't concern a reader are closed by what they came to.
use Rattle.std.specs.Prelude.{ℕ, ◌≡◌, List, Option, Bool, true, false, Some, None, length, nat_lt}
use Rattle.std.proofs.Common.{refl, sym, ap, ◌∙◌}
use native.Mathlib.Omega.{arith}
use Rattle.spec_kernel.specs.Types.{Answer, Call, CallStage, Errno, Fd, Obj, Pass, Request}
use Rattle.dk_base.specs.declared.error.Errno.TheVariants.{EINTR, EMFILE}
use Rattle.dk_base.specs.declared.object.Obj.TheVariants as obj
use Rattle.dk_base.specs.declared.object.Item.TheVariants as item
use Rattle.dk_base.specs.declared.request.Request.TheVariants as request
use Rattle.dk_base.specs.declared.answer.Answer.TheVariants as answer
use Rattle.spec_records.specs.declared.record.ThreadState.TheVariants as is
use Rattle.spec_records.specs.declared.record.CallStage.TheVariants as stage
use Rattle.spec_records.specs.Words.{abandoned_at, at_stage, cookie_of, entry_of, first_refusal, gone_call_at, is_live, new_descriptors, objects_passed, tid, without_arguments_at}
use Rattle.spec_kernel.specs.Words.{State, call_tests, door_of, new_call, object_at, process_of, return_answer, return_tests, state_of}
use Rattle.law_states.specs.Core.{has_arguments}
use Rattle.law_states.specs.Arrows.{EndsBy, Interrupts, has_own_room, own_table}
use Rattle.law_places.specs.Places.{is_answered_in, is_entered_in, is_returned_in, is_entered_stage, is_returned_stage, is_answered_stage}
use Rattle.law_places.proofs.Changes.{Change, gone_stage}
use Rattle.law_places.proofs.Changes.Change.{made, given, entered, returned, ended, broken_off, left, results_collected, nothing_collected, error_collected}

pub some_call : (a b : Call) → Some a ≡ Some b → a ≡ b
some_call a b e = cc

pub some_stage : (s r : CallStage) → Some s ≡ Some r → s ≡ r
some_stage s r e = cc

-- a new record

pub record MadeRow (m : State) (t : ℕ) (q : Option Request) (a : Answer) (p : Option Call) : Type 0 where
  pub fd : Fd
  pub bytes : List ℕ
  pub pass : List Pass
  pub rsize : ℕ
  pub door : ℕ
  pub asked : q ≡ Some (request.Call fd bytes pass rsize)
  pub names_door : object_at m (process_of m t) fd ≡ Some (obj.Door door)
  pub not_refused : first_refusal (call_tests m (process_of m t) fd bytes pass) ≡ None
  pub answers : a ≡ answer.WaitCall (new_call m t door bytes (objects_passed (own_table m t) pass) rsize).number
  pub new_stage : CallStage
  pub waits : has_arguments new_stage ≡ true
  pub after : p ≡ Some (at_stage new_stage (new_call m t door bytes (objects_passed (own_table m t) pass) rsize))

-- what a record has of an earlier one
pub record IsOlder (s r : Call) : Type 0 where
  pub caller : r.caller ≡ s.caller
  pub door : r.door ≡ s.door
  pub rsize : r.rsize ≡ s.rsize
  pub still : has_arguments r.stage ≡ true → has_arguments s.stage ≡ true
  pub bytes : has_arguments r.stage ≡ true → r.bytes ≡ s.bytes
  pub objects : has_arguments r.stage ≡ true → r.objects ≡ s.objects

pub data Origin (m : State) (t : ℕ) (q : Option Request) (a : Answer) (o : Option Call) (r : Call) : Type 0 where
  new : o ≡ None → MadeRow m t q a (Some r) → Origin m t q a o r
  older : (s : Call) → o ≡ Some s → IsOlder s r → Origin m t q a o r

older_there : (s r : Call) (c : CallStage) → Some (without_arguments_at c s) ≡ Some r → has_arguments c ≡ false → IsOlder s r
older_there s r c e h =
    record {
      caller = grind arith;
      door = grind arith;
      rsize = grind arith;
      still = λ z. grind arith;
      bytes = λ z. grind arith;
      objects = λ z. grind arith;
    }

older_abandoned : (s r : Call) (c : CallStage) → Some (abandoned_at c s) ≡ Some r → has_arguments c ≡ false → IsOlder s r
older_abandoned s r c e h =
    record {
      caller = grind arith;
      door = grind arith;
      rsize = grind arith;
      still = λ z. grind arith;
      bytes = λ z. grind arith;
      objects = λ z. grind arith;
    }

older_left : (s r : Call) (c : CallStage) → is_live c ≡ true → Some (gone_call_at c s) ≡ Some r → IsOlder s r
older_left s r stage.Queued l e = older_there s r stage.Gone e refl
older_left s r (stage.Given u) l e = older_there s r stage.Gone e refl
older_left s r (stage.Entered u) l e = older_abandoned s r stage.Gone e refl
older_left s r (stage.Returned bytes objects) l e = older_there s r stage.Gone e refl
older_left s r (stage.Ended x) l e = older_there s r stage.Gone e refl
older_left s r (stage.Answered k) l e = absurd (cc l)
older_left s r stage.Gone l e = absurd (cc l)

older_given : (s r : Call) (u : ℕ) → s.stage ≡ stage.Queued → Some (at_stage (stage.Given (tid u)) s) ≡ Some r → IsOlder s r
older_given s r u h e =
    record {
      caller = grind arith;
      door = grind arith;
      rsize = grind arith;
      still = λ z. grind arith;
      bytes = λ z. grind arith;
      objects = λ z. grind arith;
    }

pub origin :
    (m : State) (t : ℕ) (q : Option Request) (a : Answer) (n : State) (o p : Option Call) (r : Call) → Change m t q a n o p →
    p ≡ Some r → Origin m t q a o r
origin m t q a n o p r (made d rsize fd bytes pass s e f v k w) h =
    new refl
    (record {
      fd = fd;
      bytes = bytes;
      pass = pass;
      rsize = rsize;
      door = d;
      asked = e;
      names_door = f;
      not_refused = v;
      answers = k;
      new_stage = s;
      waits = w;
      after = sym h;
    })
origin m t q a n o p r (given s u e) h = older s refl (older_given s r u e h)
origin m t q a n o p r (entered s e f g k v) h = older s refl (older_there s r _ h refl)
origin m t q a n o p r (returned s bytes pass e y f g k) h = older s refl (older_there s r _ h refl)
origin m t q a n o p r (ended s x e) h = older s refl (older_there s r _ h refl)
origin m t q a n o p r (broken_off s u e f d) h = older s refl (older_abandoned s r _ h refl)
origin m t q a n o p r (left s l e) h = older s refl (older_left s r s.stage l h)
origin m t q a n o p r (results_collected s bytes objects e f g k l z) h = older s refl (older_there s r _ h refl)
origin m t q a n o p r (nothing_collected s bytes objects e f g k l z) h = older s refl (older_there s r _ h refl)
origin m t q a n o p r (error_collected s x e f g k l) h = older s refl (older_there s r _ h refl)

-- no stage with arguments is one of these

not_entered : (s : CallStage) → has_arguments s ≡ true → is_entered_stage s ≡ true → ⊥
not_entered s e f = grind arith

not_returned : (s : CallStage) → has_arguments s ≡ true → is_returned_stage s ≡ true → ⊥
not_returned s e f = grind arith

not_answered : (s : CallStage) → has_arguments s ≡ true → is_answered_stage s ≡ true → ⊥
not_answered s e f = grind arith

-- and none that a live call that is left has
none_left : (test : CallStage → Bool) (r : Call) → test stage.Gone ≡ false → is_live r.stage ≡ true → test (gone_call_at r.stage r).stage ≡ true → ⊥
none_left test r e l f = absurd (cc (sym e ∙ ap test (sym (gone_stage r.stage r l)) ∙ f))

-- an entered record

pub record EnteredRow (m : State) (t : ℕ) (q : Option Request) (a : Answer) (o p : Option Call) : Type 0 where
  pub call : Call
  pub before : o ≡ Some call
  pub after : p ≡ Some (without_arguments_at (stage.Entered (tid t)) call)
  pub no_request : q ≡ None
  pub given : state_of m t ≡ is.Given (item.Call call.number)
  pub was_given : call.stage ≡ stage.Given (tid t)
  pub room : has_own_room m t call.objects ≡ true
  pub answers : a ≡ answer.Entered call.number (entry_of (door_of m call.door)) (cookie_of (door_of m call.door)) call.bytes (new_descriptors (own_table m t) call.objects)

pub entered_row :
    (m : State) (t : ℕ) (q : Option Request) (a : Answer) (n : State) (o p : Option Call) → Change m t q a n o p →
    is_entered_in p ≡ true → EnteredRow m t q a o p
entered_row m t q a n o p (entered r e f g k v) h =
    record { call = r; before = refl; after = refl; no_request = e; given = f; was_given = g; room = k; answers = v }
entered_row m t q a n o p (made d rsize fd bytes pass s e f v k w) h = absurd (not_entered s w h)
entered_row m t q a n o p (left r l e) h = absurd (none_left is_entered_stage r refl l h)
entered_row m t q a n o p c h = absurd (grind arith)

-- a returned record

pub record ReturnedRow (m : State) (t : ℕ) (q : Option Request) (a : Answer) (o p : Option Call) : Type 0 where
  pub call : Call
  pub bytes : List ℕ
  pub pass : List Pass
  pub before : o ≡ Some call
  pub after : p ≡ Some (without_arguments_at (stage.Returned bytes (objects_passed (own_table m t) pass)) call)
  pub asked : q ≡ Some (request.Return bytes pass)
  pub not_refused : first_refusal (return_tests m t (process_of m t) bytes pass) ≡ None
  pub was_entered : call.stage ≡ stage.Entered (tid t)
  pub not_abandoned : call.abandoned ≡ false
  pub answers : a ≡ return_answer m t

pub returned_row :
    (m : State) (t : ℕ) (q : Option Request) (a : Answer) (n : State) (o p : Option Call) → Change m t q a n o p →
    is_returned_in p ≡ true → ReturnedRow m t q a o p
returned_row m t q a n o p (returned r bytes pass e x f g k) h =
    record { call = r; bytes = bytes; pass = pass; before = refl; after = refl; asked = e; not_refused = x; was_entered = f; not_abandoned = g; answers = k }
returned_row m t q a n o p (made d rsize fd bytes pass s e f v k w) h = absurd (not_returned s w h)
returned_row m t q a n o p (left r l e) h = absurd (none_left is_returned_stage r refl l h)
returned_row m t q a n o p c h = absurd (grind arith)

-- an ended record

abbrev pub is_ended_call : CallStage → Bool
is_ended_call (stage.Ended e) = true
is_ended_call _ = false

abbrev pub is_ended_in : Option Call → Bool
is_ended_in None = false
is_ended_in (Some r) = is_ended_call r.stage

not_ended : (s : CallStage) → has_arguments s ≡ true → is_ended_call s ≡ true → ⊥
not_ended s e f = grind arith

-- what a record at a later place has of this one, at this stage
pub record GoesOn (s r : Call) (c : CallStage) : Type 0 where
  pub caller : r.caller ≡ s.caller
  pub rsize : r.rsize ≡ s.rsize
  pub stage : r.stage ≡ c

-- it ends by one of the causes, or while a thread is in it, where its caller is interrupted
pub data Breaks (m : State) (t : ℕ) (q : Option Request) (a : Answer) (n : State) (r : Call) : Errno → Type 0 where
  by_cause : (e : Errno) → EndsBy m t q a n r e → Breaks m t q a n r e
  by_interrupt :
      (u : ℕ) → Interrupts m t q r.caller.0 → r.stage ≡ stage.Entered (tid u) → (state_of n r.caller.0 ≡ is.Done → ⊥) →
      Breaks m t q a n r EINTR

pub record EndedRow (m : State) (t : ℕ) (q : Option Request) (a : Answer) (n : State) (o p : Option Call) : Type 0 where
  pub call : Call
  pub error : Errno
  pub before : o ≡ Some call
  pub ended : Call
  pub after : p ≡ Some ended
  pub goes_on : GoesOn call ended (stage.Ended error)
  pub breaks : Breaks m t q a n call error

pub ended_row :
    (m : State) (t : ℕ) (q : Option Request) (a : Answer) (n : State) (o p : Option Call) → Change m t q a n o p →
    is_ended_in p ≡ true → EndedRow m t q a n o p
ended_row m t q a n o p (ended r e x) h =
    record {
      call = r;
      error = e;
      before = refl;
      ended = without_arguments_at (stage.Ended e) r;
      after = refl;
      goes_on = record { caller = refl; rsize = refl; stage = refl };
      breaks = by_cause e x;
    }
ended_row m t q a n o p (broken_off r u e f d) h =
    record {
      call = r;
      error = EINTR;
      before = refl;
      ended = abandoned_at (stage.Ended EINTR) r;
      after = refl;
      goes_on = record { caller = refl; rsize = refl; stage = refl };
      breaks = by_interrupt u e f d;
    }
ended_row m t q a n o p (made d rsize fd bytes pass s e f v k w) h = absurd (not_ended s w h)
ended_row m t q a n o p (left r l e) h = absurd (none_left is_ended_call r refl l h)
ended_row m t q a n o p c h = absurd (grind arith)

-- an answered record

-- what thread t collects of it in state m
pub data HandsOver (m : State) (t : ℕ) (r : Call) : Answer → Type 0 where
  results :
      (bytes : List ℕ) (objects : List Obj) → r.stage ≡ stage.Returned bytes objects → has_own_room m t objects ≡ true →
      HandsOver m t r (answer.Results bytes (new_descriptors (own_table m t) objects) (nat_lt r.rsize (length bytes)))
  nothing :
      (bytes : List ℕ) (objects : List Obj) → r.stage ≡ stage.Returned bytes objects → has_own_room m t objects ≡ false →
      HandsOver m t r (answer.Failure EMFILE)
  error : (e : Errno) → r.stage ≡ stage.Ended e → HandsOver m t r (answer.Failure e)

pub record AnsweredRow (m : State) (t : ℕ) (q : Option Request) (a : Answer) (o p : Option Call) : Type 0 where
  pub call : Call
  pub before : o ≡ Some call
  pub no_request : q ≡ None
  pub calling : state_of m t ≡ is.Calling call.number
  pub own : call.caller.0 ≡ t
  pub told : Answer
  pub answers : a ≡ told
  pub hands_over : HandsOver m t call told

pub answered_row :
    (m : State) (t : ℕ) (q : Option Request) (a : Answer) (n : State) (o p : Option Call) → Change m t q a n o p →
    is_answered_in p ≡ true → AnsweredRow m t q a o p
answered_row m t q a n o p (results_collected r bytes objects e f g k l z) h =
    record {
      call = r;
      before = refl;
      no_request = e;
      calling = f;
      own = g;
      told = answer.Results bytes (new_descriptors (own_table m t) objects) (nat_lt r.rsize (length bytes));
      answers = z;
      hands_over = results bytes objects k l;
    }
answered_row m t q a n o p (nothing_collected r bytes objects e f g k l z) h =
    record {
      call = r;
      before = refl;
      no_request = e;
      calling = f;
      own = g;
      told = answer.Failure EMFILE;
      answers = z;
      hands_over = nothing bytes objects k l;
    }
answered_row m t q a n o p (error_collected r x e f g k l) h =
    record {
      call = r;
      before = refl;
      no_request = e;
      calling = f;
      own = g;
      told = answer.Failure x;
      answers = l;
      hands_over = error x k;
    }
answered_row m t q a n o p (made d rsize fd bytes pass s e f v k w) h = absurd (not_answered s w h)
answered_row m t q a n o p (left r l e) h = absurd (none_left is_answered_stage r refl l h)
answered_row m t q a n o p c h = absurd (grind arith)
