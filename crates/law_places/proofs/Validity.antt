-- Which acts make a door invalid, that none makes an invalid one valid, and which calls are over after an act of leaving.
use Rattle.std.specs.Prelude.{ℕ, ◌≡◌, ◌==◌, ◌&&◌, ◌++◌, List, [], ◌∷◌, Option, Bool, true, false, if◌then◌else◌, not, Some, None, find}
use Rattle.std.specs.Option.{option_map}
use Rattle.std.proofs.Common.{refl, sym, ap, subst, ◌∙◌}
use native.Mathlib.Omega.{arith}
use Rattle.std.proofs.lemmas.Bool.Decides.{nat_tests}
use Rattle.spec_records.proofs.NumberedLists.{find-map}
use Rattle.spec_kernel.specs.Types.{Call, CallStage, Door, Fd, Item, Param, Request}
use Rattle.dk_base.specs.declared.error.Errno.TheVariants.{EBADF, EINTR}
use Rattle.dk_base.specs.declared.object.Item.TheVariants as item
use Rattle.dk_base.specs.declared.request.Param.TheVariants as param
use Rattle.dk_base.specs.declared.request.Request.TheVariants as request
use Rattle.dk_base.specs.ByNumber.{at_number}
use Rattle.spec_records.specs.declared.record.CallStage.TheVariants as stage
use Rattle.spec_records.specs.declared.record.ThreadState.TheVariants as is
use Rattle.spec_records.specs.Words.{Leaving, at_stage, broken_call_at, call_number, change_first, ended_where, forking, gone_call_at, interruption, is_calling, is_fellow_caller, is_owned_by, is_queued_as, is_valid_door, is_valid_in, left_call, process_end, revocation, revoke_door, revoked_door, set_param, tid, with_owner_ended, with_param, without_arguments_at}
use Rattle.spec_kernel.specs.Words.{ActResult, State, act, door_at, door_of, fork, give_one, is_valid, leave, leave_process, process_of, refusal_of, revoke, settle, state_of, step, unless_refused}
use Rattle.spec_kernel.proofs.Doors.{at_number-change_door}
use Rattle.spec_records.proofs.Lists.{at_number-map, numbered_front}
use Rattle.spec_kernel.proofs.Settling.{doors-settle, settle-all}
use Rattle.spec_kernel.proofs.Moves.{Moves, act_moves}
use Rattle.law_states.specs.Arrows.{Interrupts}
use Rattle.law_states.specs.Arrows.Interrupts.{asked, forked}
use Rattle.law_states.specs.Core.{is_underway, underway_in}
use Rattle.law_states.specs.Records.{has_number, record_of}
use Rattle.law_states.proofs.LeftCores.{left_fields}

-- doors

-- a door that is there is valid in one state where it is in the other
record StaysValid (ds es : List Door) : Type 0 where
  same : (d : ℕ) (x : Door) → at_number ds d ≡ Some x → is_valid_in (at_number es d) ≡ is_valid_in (at_number ds d)

param_valid : (x : Param) (value : ℕ) (o : Option Door) → is_valid_in (option_map (with_param x value) o) ≡ is_valid_in o
param_valid x value None = refl
param_valid param.DataMax value (Some d) = refl
param_valid param.DataMin value (Some d) = refl
param_valid param.DescMax value (Some d) = refl

params_stay : (ds : List Door) (e : ℕ) (x : Param) (value : ℕ) → StaysValid ds (set_param ds e x value)
params_stay ds e x value = record { same = λ d y f. ap is_valid_in (at_number-change_door ds e d (with_param x value)) ∙ go d (d == e) refl }
  where
    go :
        (d : ℕ) (b : Bool) → (d == e) ≡ b →
        is_valid_in (if b then option_map (with_param x value) (at_number ds e) else at_number ds d) ≡ is_valid_in (at_number ds d)
    go d false f = refl
    go d true f =
        let same : e ≡ d = grind (arith, nat_tests) in
        param_valid x value (at_number ds e) ∙ ap (λ n. is_valid_in (at_number ds n)) same

new_stays : (ds : List Door) (x : Door) → StaysValid ds (ds ++ x ∷ [])
new_stays ds x = record { same = λ d y e. ap is_valid_in (numbered_front ds (x ∷ []) d y e) ∙ sym (ap is_valid_in e) }

-- acts

abbrev DoorsStay : State → State → Type 0
DoorsStay m n = StaysValid m.doors n.doors

-- a door of a process that ends, and one that is revoked

not_owned : (e : ℕ) (o : Option Door) → is_owned_by e o ≡ false → is_valid_in (option_map (with_owner_ended e) o) ≡ is_valid_in o
not_owned e None f = refl
not_owned e (Some x) f = ap (λ (b : Bool). is_valid_door (if b then record x { owner_ended = true } else x)) f

owner_ends : (e : ℕ) (o : Option Door) → is_valid_in o ≡ false → is_valid_in (option_map (with_owner_ended e) o) ≡ false
owner_ends e None f = refl
owner_ends e (Some x) f = grind (arith, nat_tests)

revoked_is : (o : Option Door) → is_valid_in (option_map revoked_door o) ≡ false
revoked_is None = refl
revoked_is (Some x) = grind arith

pub revoked_here : (ds : List Door) (d : ℕ) → is_valid_in (at_number (revoke_door ds d) d) ≡ false
revoked_here ds d =
    ap is_valid_in (at_number-change_door ds d d revoked_door)
    ∙ ap (λ (b : Bool). is_valid_in (if b then option_map revoked_door (at_number ds d) else at_number ds d)) here
    ∙ revoked_is (at_number ds d)
  where
    here : (d == d) ≡ true
    here = grind (arith, nat_tests)

revoked_elsewhere : (ds : List Door) (e d : ℕ) → (d == e) ≡ false → is_valid_in (at_number (revoke_door ds e) d) ≡ is_valid_in (at_number ds d)
revoked_elsewhere ds e d f =
    ap is_valid_in (at_number-change_door ds e d revoked_door)
    ∙ ap (λ (b : Bool). is_valid_in (if b then option_map revoked_door (at_number ds e) else at_number ds d)) f

-- why door d is invalid in state n, that an entry of thread t leaves
pub data Loses (m : State) (t : ℕ) (r : Request) (d : ℕ) (n : State) : Type 0 where
  revokes :
      (fd : Fd) → r ≡ request.Revoke fd → refusal_of m t (process_of m t) r ≡ None → door_at m (process_of m t) fd ≡ d →
      n ≡ (revoke m (process_of m t) fd).state → Loses m t r d n
  ends : (e : ℕ) → n ≡ leave_process m e → is_owned_by e (door_of m d) ≡ true → Loses m t r d n

-- why an event makes it invalid
pub record LosesIn (m : State) (t d : ℕ) (q : Option Request) (n : State) : Type 0 where
  pub request : Request
  pub asked : q ≡ Some request
  pub loses : Loses m t request d n

abbrev pub StepLoses : State → ℕ → Option Request → ℕ → Type 0
StepLoses m t q d = LosesIn m t d q (act m t q).state

not_both : (a b : Bool) → a ≡ b → b ≡ true → a ≡ false → ⊥
not_both a b e f g = cc

valid_door : (o : Option Door) → is_valid_in o ≡ true → (x : Door) × (o ≡ Some x)
valid_door None e = absurd (cc e)
valid_door (Some x) e = (x, refl)

module _ (m : State) (t d : ℕ) (v : is_valid m d ≡ true) where
  stays_then : (n : State) → DoorsStay m n → is_valid n d ≡ false → ⊥
  stays_then n h e = not_both (is_valid n d) (is_valid m d) (h.same d (valid_door (door_of m d) v).0 (valid_door (door_of m d) v).1) v e

  process_loses : (r : Request) (e : ℕ) → is_valid (leave_process m e) d ≡ false → Loses m t r d (leave_process m e)
  process_loses r e f = go (is_owned_by e (door_of m d)) refl
    where
      go : (b : Bool) → is_owned_by e (door_of m d) ≡ b → Loses m t r d (leave_process m e)
      go true g = ends e refl g
      go false g =
          absurd
          (not_both (is_valid (leave_process m e) d) (is_valid m d)
          (ap is_valid_in (at_number-map (with_owner_ended e) m.doors d) ∙ not_owned e (door_of m d) g) v f)

  move_loses : (q : Option Request) (a : ActResult) → Moves m t q a → is_valid a.state d ≡ false → LosesIn m t d q a.state
  move_loses q a (Moves.revokes fd n) f = go (d == door_at m (process_of m t) fd) refl
    where
      go : (b : Bool) → (d == door_at m (process_of m t) fd) ≡ b → LosesIn m t d q a.state
      go true g = record { request = _; asked = refl; loses = revokes fd refl n (grind (arith, nat_tests)) refl }
      go false g = absurd (not_both (is_valid a.state d) (is_valid m d) (revoked_elsewhere m.doors (door_at m (process_of m t) fd) d g) v f)
  move_loses q a (Moves.ends r e _) f = record { request = r; asked = refl; loses = process_loses r e f }
  move_loses q a (Moves.makes entry cookie attrs n) f = absurd (stays_then a.state (new_stays m.doors _) f)
  move_loses q a (Moves.parameter fd x value n) f = absurd (stays_then a.state (params_stay m.doors _ x value) f)
  move_loses q a _ f = absurd (not_both (is_valid m d) (is_valid m d) refl v f)

pub step_loses :
    (m : State) (t : ℕ) (q : Option Request) (d : ℕ) → is_valid m d ≡ true → is_valid (step m t q).state d ≡ false → StepLoses m t q d
unfolding step
step_loses m t q d v e = move_loses m t d v q _ (act_moves m t q) (sym (ap (λ ds. is_valid_in (at_number ds d)) (doors-settle m (act m t q).state)) ∙ e)

-- a door that is not valid stays so

module _ (m : State) (t d : ℕ) (x : Door) (there : door_of m d ≡ Some x) (v : is_valid m d ≡ false) where
  stays_invalid : (n : State) → DoorsStay m n → is_valid n d ≡ false
  stays_invalid n h = h.same d x there ∙ v

  process_invalid : (e : ℕ) → is_valid (leave_process m e) d ≡ false
  process_invalid e = ap is_valid_in (at_number-map (with_owner_ended e) m.doors d) ∙ owner_ends e (door_of m d) v

  move_invalid : (q : Option Request) (a : ActResult) → Moves m t q a → is_valid a.state d ≡ false
  move_invalid q a (Moves.revokes fd n) = go (d == door_at m (process_of m t) fd) refl
    where
      go : (b : Bool) → (d == door_at m (process_of m t) fd) ≡ b → is_valid (revoke m (process_of m t) fd).state d ≡ false
      go true g =
          let same : door_at m (process_of m t) fd ≡ d = grind (arith, nat_tests) in
          subst (λ n. is_valid_in (at_number (revoke_door m.doors n) d) ≡ false) (sym same) (revoked_here m.doors d)
      go false g = revoked_elsewhere m.doors (door_at m (process_of m t) fd) d g ∙ v
  move_invalid q a (Moves.ends r e _) = process_invalid e
  move_invalid q a (Moves.makes entry cookie attrs n) = stays_invalid a.state (new_stays m.doors _)
  move_invalid q a (Moves.parameter fd x value n) = stays_invalid a.state (params_stay m.doors _ x value)
  move_invalid q a _ = v

  pub step_invalid : (q : Option Request) → is_valid (step m t q).state d ≡ false
  unfolding step
  step_invalid q = ap (λ ds. is_valid_in (at_number ds d)) (doors-settle m (act m t q).state) ∙ move_invalid q _ (act_moves m t q)

-- a Revoke that is not refused makes its door invalid
pub step_revokes :
    (m : State) (t : ℕ) (fd : Fd) → refusal_of m t (process_of m t) (request.Revoke fd) ≡ None →
    is_valid (step m t (Some (request.Revoke fd))).state (door_at m (process_of m t) fd) ≡ false
unfolding step
step_revokes m t fd e =
    ap (λ ds. is_valid_in (at_number ds (door_at m (process_of m t) fd))) (doors-settle m (act m t (Some (request.Revoke fd))).state)
    ∙ ap (λ o. is_valid (unless_refused m o (revoke m (process_of m t) fd)).state (door_at m (process_of m t) fd)) e
    ∙ revoked_here m.doors (door_at m (process_of m t) fd)

-- another thread of a process waits for a call as one of its threads forks
pub fellow_calls :
    (m : State) (t u c : ℕ) → state_of m u ≡ is.Calling c → process_of m u ≡ process_of m t → (u ≡ t → ⊥) →
    is_fellow_caller m.process_table t u ≡ true
fellow_calls m t u c w own other = by (u == t) (process_of m u == process_of m t) (is_calling (state_of m u)) refl refl (ap is_calling w)
  where
    by :
        (a b d : Bool) → (u == t) ≡ a → (process_of m u == process_of m t) ≡ b → d ≡ true → (not a && (b && d)) ≡ true
    by false true true e f g = refl
    by true b d e f g = absurd (other (grind (arith, nat_tests)))
    by false false d e f g = absurd (grind (arith, nat_tests, own))
    by false true false e f g = absurd (cc g)

-- calls

abbrev IsOver : State → ℕ → Type 0
IsOver m c = underway_in (record_of m c) ≡ false

-- what is over stays so after an act
given_over :
    (rs : List Call) (j c u : ℕ) → underway_in (find (has_number c) rs) ≡ false →
    underway_in (find (has_number c) (change_first (is_queued_as j) (at_stage (stage.Given (tid u))) rs)) ≡ false
given_over [] j c u e = refl
given_over (r ∷ rs) j c u e = grind (arith, nat_tests, given_over rs j c u)

give_over : (m : State) (i : Item) (u c : ℕ) → IsOver m c → IsOver (give_one m i u) c
give_over m (item.Call j) u c e = given_over m.call_tree.calls j c u e
give_over m (item.Notice n) u c e = e

settle_over : (before m : State) (c : ℕ) → IsOver m c → IsOver (settle before m) c
settle_over before m c =
    settle-all (λ n. IsOver n c) before
    (record {
      makes = λ n d l e. e;
      fails = λ n t l e. e;
      gives = λ n w x p e. give_over n w.item x.thread.0 c e;
      starts = λ n t r e. e;
    }) (λ n h. h)
    m

calls_left : (m : State) (who : Leaving) (c : ℕ) → record_of (leave m who) c ≡ option_map (left_call who) (record_of m c)
calls_left m who c = find-map call_number (left_call who) (λ r. (left_fields who r).number) m.call_tree.calls c

-- a call that waits at a door that is lost
queued_over : (who : Leaving) (r : Call) → who.loses r.door ≡ true → r.stage ≡ stage.Queued → is_underway (left_call who r).stage ≡ false
queued_over who r l e =
    ap (λ (s : CallStage). is_underway (if who.ends r.caller.0 then gone_call_at s r else broken_call_at who s r).stage) e
    ∙ go (who.ends r.caller.0) (who.interrupts r.caller.0) (who.loses r.door) l
  where
    go :
        (a b c : Bool) → c ≡ true →
        is_underway (if a then without_arguments_at stage.Gone r else (if b then without_arguments_at (stage.Ended EINTR) r else ended_where c EBADF r)).stage ≡ false
    go true b c f = refl
    go false true c f = refl
    go false false true f = refl
    go false false false f = absurd (cc f)

-- one whose caller is interrupted
interrupted_over :
    (who : Leaving) (r : Call) (s : CallStage) → who.interrupts r.caller.0 ≡ true → is_underway s ≡ true →
    is_underway (broken_call_at who s r).stage ≡ false
interrupted_over who r stage.Queued i e = grind (arith, i)
interrupted_over who r (stage.Given u) i e = grind (arith, i)
interrupted_over who r (stage.Entered u) i e = grind (arith, i)
interrupted_over who r s i e = absurd (grind arith)

-- as it waits for the call
pub step_interrupts :
    (m : State) (t c : ℕ) (q : Option Request) (r : Call) → record_of m c ≡ Some r → is_underway r.stage ≡ true →
    state_of m r.caller.0 ≡ is.Calling c → Interrupts m t q r.caller.0 → IsOver (step m t q).state c
unfolding step
step_interrupts m t c q r e f w i = settle_over m (act m t q).state c (go i)
  where
    asks : IsOver (leave m (interruption r.caller.0)) c
    asks =
        ap underway_in (calls_left m (interruption r.caller.0) c ∙ ap (option_map (left_call (interruption r.caller.0))) e)
        ∙ interrupted_over (interruption r.caller.0) r r.stage (grind (arith, nat_tests)) f

    forks : process_of m r.caller.0 ≡ process_of m t → (r.caller.0 ≡ t → ⊥) → IsOver (leave m (forking m.process_table t)) c
    forks own other =
        ap underway_in (calls_left m (forking m.process_table t) c ∙ ap (option_map (left_call (forking m.process_table t))) e)
        ∙ interrupted_over (forking m.process_table t) r r.stage (fellow_calls m t r.caller.0 c w own other) f

    go : Interrupts m t q r.caller.0 → IsOver (act m t q).state c
    go (asked h) = subst (λ p. IsOver (act m t p).state c) (sym h) asks
    go (forked child h free own other) =
        subst (λ p. IsOver (act m t p).state c) (sym h)
        (ap (λ o. underway_in (record_of (unless_refused m o (fork m t (process_of m t) child.0)).state c)) free ∙ forks own other)

pub step_loses_over :
    (m : State) (t : ℕ) (q : Option Request) (c : ℕ) (r : Call) → record_of m c ≡ Some r → r.stage ≡ stage.Queued →
    StepLoses m t q r.door → IsOver (step m t q).state c
unfolding step
step_loses_over m t q c r e f l =
    settle_over m (act m t q).state c (go l.loses)
  where
    left : (who : Leaving) → who.loses r.door ≡ true → IsOver (leave m who) c
    left who g = ap underway_in (calls_left m who c ∙ ap (option_map (left_call who)) e) ∙ queued_over who r g f

    go : Loses m t l.request r.door (act m t q).state → IsOver (act m t q).state c
    go (revokes fd g n h s) = subst (λ o. IsOver o c) (sym s) (left (revocation (door_at m (process_of m t) fd)) (grind (arith, nat_tests, h)))
    go (ends p s h) = subst (λ o. IsOver o c) (sym s) (left (process_end m.process_table m.doors p) h)
