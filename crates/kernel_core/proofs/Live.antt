-- A kernel keeps live calls alone, and notices that some rule asks for again: acts and what follows them leave live calls live and such
-- notices so, but for an act by which a call or a notice ends, after which it leaves its list.
use Rattle.std.proofs.Common.{◌≡◌, ℕ, suc, ◌+◌, ◌++◌, ◌&&◌, Bool, true, false, not, cond, if◌then◌else◌, List, [], ◌∷◌, Option, Some, None, filter, refl, sym, subst, ap, ap₂, ◌∙◌, arith, true≢false, ◌==◌, option_map, slice_get, is_some}
use Rattle.std.proofs.lemmas.Bool.Decides.{nat_tests}
use Rattle.spec_kernel.specs.Types.{Call, Door, Errno, Fd, Item, Notice, NoticeStage, Param, Pass, Request}
use Rattle.dk_base.specs.ByNumber.{at_number}
use Rattle.dk_base.specs.declared.request.Param.TheVariants as param
use Rattle.spec_records.specs.declared.record.NoticeStage.TheVariants as notice
use Rattle.dk_base.specs.declared.object.Item.TheVariants as item
use Rattle.dk_base.specs.declared.request.Request.TheVariants as request
use Rattle.spec_records.specs.declared.record.ThreadState.TheVariants as is
use Rattle.spec_records.specs.declared.record.CallStage.TheVariants as stage
use Rattle.spec_records.specs.Words.{at_stage, change_first, change_door, close_row, close_table, end_notice, end_owner, end_process, has_many, has_unref_multi, is_client_call_of, is_given_as, is_given_notice_as, is_kept_notice, is_live_call, is_past_stage, is_queued_as, is_waiting_notice_as, kept_notices, new_notice, notice_at, objects_passed, process_end, revocation, revoke_door, revoked_door, set_param, tid, with_owner_ended, with_param, with_table, without_arguments_at}
use Rattle.spec_kernel.proofs.Moves.{IsEnding, IsLeaving, Moves, act_moves, effect_moves, is_leave}
use Rattle.spec_kernel.specs.Words.{ActResult, process_of, refusal_of, state_of, State, StandsFor, collect, door_at, effect, enter, forget, give_one, go_on, has_invalid_door, leave, leave_process, now, return, return_parked, return_unbound, revoke, settle, table_of, unless_refused}
use Rattle.law_states.specs.Events.{is_leaving}
use Rattle.call_tree.specs.Words.{AreLive}
use Rattle.law_pools.specs.Words.{AreKept}
use Rattle.kernel_store.specs.Words.{ArePlaced}
use Rattle.kernel_core.specs.Kept.{HasNothingPast}
use Rattle.spec_kernel.proofs.Doors.{at_number-change_door, with_owner_ended-same}
use Rattle.spec_records.proofs.Lists.{at_number-map, numbered_front}
use Rattle.spec_kernel.proofs.NoticeLists.{kept_where}
use Rattle.spec_kernel.proofs.Settling.{settle-all}

-- lists

pub live_filter : (rs : List Call) → AreLive (filter is_live_call rs)
live_filter [] = tt
live_filter (r ∷ rs) = go (is_live_call r) refl (live_filter rs)
  where
    go :
        (b : Bool) → is_live_call r ≡ b → AreLive (filter is_live_call rs) →
        AreLive (cond b (r ∷ filter is_live_call rs) (filter is_live_call rs))
    go true e h = (e, h)
    go false e h = h

pub live_same : (rs : List Call) → AreLive rs → filter is_live_call rs ≡ rs
live_same [] h = refl
live_same (r ∷ rs) h =
    ap (λ b. cond b (r ∷ filter is_live_call rs) (filter is_live_call rs)) h.0 ∙ ap (λ xs. r ∷ xs) (live_same rs h.1)

changed_live :
    (test : Call → Bool) (change : Call → Call) (rs : List Call) → ((r : Call) → is_live_call (change r) ≡ true) → AreLive rs →
    AreLive (change_first test change rs)
changed_live test change [] s h = tt
changed_live test change (r ∷ rs) s h =
    elim (test r) as (λ b. AreLive (if b then change r ∷ rs else r ∷ change_first test change rs))
    [ true ↦ (s r, h.1) | false ↦ (h.0, changed_live test change rs s h.1) ]

pushed_live : (rs : List Call) (r : Call) → is_live_call r ≡ true → AreLive rs → AreLive (rs ++ r ∷ [])
pushed_live [] r e h = (e, tt)
pushed_live (x ∷ rs) r e h = (h.0, pushed_live rs r e h.1)

-- notices

kept_filter : (doors : List Door) (ns : List Notice) → AreKept doors (filter (is_kept_notice doors) ns)
kept_filter doors [] = tt
kept_filter doors (n ∷ ns) = go (is_kept_notice doors n) refl (kept_filter doors ns)
  where
    go :
        (b : Bool) → is_kept_notice doors n ≡ b → AreKept doors (filter (is_kept_notice doors) ns) →
        AreKept doors (cond b (n ∷ filter (is_kept_notice doors) ns) (filter (is_kept_notice doors) ns))
    go true e h = (e, h)
    go false e h = h

kept_same : (doors : List Door) (ns : List Notice) → AreKept doors ns → filter (is_kept_notice doors) ns ≡ ns
kept_same doors [] h = refl
kept_same doors (n ∷ ns) h =
    ap (λ b. cond b (n ∷ filter (is_kept_notice doors) ns) (filter (is_kept_notice doors) ns)) h.0
    ∙ ap (λ xs. n ∷ xs) (kept_same doors ns h.1)

changed_kept :
    (doors : List Door) (test : Notice → Bool) (s : NoticeStage) (ns : List Notice) → is_past_stage s ≡ false → AreKept doors ns →
    AreKept doors (change_first test (notice_at s) ns)
changed_kept doors test s [] e h = tt
changed_kept doors test s (n ∷ ns) e h =
    elim (test n) as (λ b. AreKept doors (if b then notice_at s n ∷ ns else n ∷ change_first test (notice_at s) ns))
    [ true ↦ (kept_where doors (notice_at s n) e, h.1) | false ↦ (h.0, changed_kept doors test s ns e h.1) ]

pushed_kept : (doors : List Door) (ns : List Notice) (n : Notice) → is_kept_notice doors n ≡ true → AreKept doors ns → AreKept doors (ns ++ n ∷ [])
pushed_kept doors [] n e h = (e, tt)
pushed_kept doors (x ∷ ns) n e h = (h.0, pushed_kept doors ns n e h.1)

-- by doors of which as many may have many notices, where the notices are
kept_by :
    (doors later : List Door) (ns : List Notice) →
    ((i : ℕ) (n : Notice) → slice_get ns i ≡ Some n → has_many (at_number later n.door) ≡ has_many (at_number doors n.door)) →
    AreKept doors ns → AreKept later ns
kept_by doors later [] same h = tt
kept_by doors later (n ∷ ns) same h =
    (ap (λ b. not (is_past_stage n.stage && b)) (same 0 n refl) ∙ h.0, kept_by doors later ns (λ i x e. same (suc i) x e) h.1)

-- one door more is the door of none of them
one_more : (doors : List Door) (x : Door) (d : ℕ) → is_some (at_number doors d) ≡ true → has_many (at_number (doors ++ x ∷ []) d) ≡ has_many (at_number doors d)
one_more doors x d there = go (at_number doors d) refl there
  where
    go : (o : Option Door) → at_number doors d ≡ o → is_some o ≡ true → has_many (at_number (doors ++ x ∷ []) d) ≡ has_many o
    go None e f = absurd (true≢false (sym f))
    go (Some y) e f = ap has_many (numbered_front doors (x ∷ []) d y e)

-- nor is it seen that a door's owner has ended, that a door is revoked, and what its parameters are

changed_many :
    (doors : List Door) (e d : ℕ) (change : Door → Door) → ((o : Option Door) → has_many (option_map change o) ≡ has_many o) →
    has_many (at_number (change_door doors e change) d) ≡ has_many (at_number doors d)
changed_many doors e d change one = ap has_many (at_number-change_door doors e d change) ∙ go (d == e) refl
  where
    go : (b : Bool) → (d == e) ≡ b → has_many (if b then option_map change (at_number doors e) else at_number doors d) ≡ has_many (at_number doors d)
    go true g =
        let same : e ≡ d = grind (arith, nat_tests) in
        one (at_number doors e) ∙ ap (λ k. has_many (at_number doors k)) same
    go false g = refl

revoked_many : (o : Option Door) → has_many (option_map revoked_door o) ≡ has_many o
revoked_many None = refl
revoked_many (Some x) = refl

ended_many : (doors : List Door) (p d : ℕ) → has_many (at_number (end_owner doors p) d) ≡ has_many (at_number doors d)
ended_many doors p d = ap has_many (at_number-map (with_owner_ended p) doors d) ∙ go (at_number doors d)
  where
    go : (o : Option Door) → has_many (option_map (with_owner_ended p) o) ≡ has_many o
    go None = refl
    go (Some x) = with_owner_ended-same (λ (y : Door). has_unref_multi y.attrs) (λ y. refl) p x

kept_alike :
    (doors later : List Door) → ((d : ℕ) → has_many (at_number later d) ≡ has_many (at_number doors d)) → (ns : List Notice) →
    filter (is_kept_notice later) ns ≡ filter (is_kept_notice doors) ns
kept_alike doors later same [] = refl
kept_alike doors later same (n ∷ ns) =
    ap₂ (λ (b : Bool) (xs : List Notice). cond b (n ∷ xs) xs) (ap (λ b. not (is_past_stage n.stage && b)) (same n.door))
    (kept_alike doors later same ns)

param_many : (x : Param) (value : ℕ) (o : Option Door) → has_many (option_map (with_param x value) o) ≡ has_many o
param_many x value None = refl
param_many param.DataMax value (Some y) = refl
param_many param.DataMin value (Some y) = refl
param_many param.DescMax value (Some y) = refl

set_many : (doors : List Door) (e d : ℕ) (x : Param) (value : ℕ) → has_many (at_number (set_param doors e x value) d) ≡ has_many (at_number doors d)
set_many doors e d x value = changed_many doors e d (with_param x value) (param_many x value)

-- states

abbrev HasLive : State → Type 0
HasLive m = AreLive m.call_tree.calls

abbrev HasKept : State → Type 0
HasKept m = AreKept m.doors m.notice_list.notices

pub live_state : (m : State) → HasNothingPast m → forget m ≡ m
live_state m h =
    ap₂ (λ rs ns. record m { call_tree = record m.call_tree { calls = rs }; notice_list = record m.notice_list { notices = ns } })
    (live_same m.call_tree.calls h.calls) (kept_same m.doors m.notice_list.notices h.notices)

pub stands_live : (kept m : State) → StandsFor kept m → HasNothingPast kept
stands_live kept m e =
    subst HasNothingPast (sym e)
    (record { calls = live_filter m.call_tree.calls; notices = kept_filter m.doors m.notice_list.notices })

-- what is such a state of which nothing is past stands for it
pub is_kept : (n m : State) → HasNothingPast m → n ≡ m → StandsFor n m
is_kept n m h e = e ∙ sym (live_state m h)

-- acts

return_live : (m : State) (t p : ℕ) (bytes : List ℕ) (pass : List Pass) → HasLive m → HasLive (return m t p bytes pass).state
return_live m t p bytes pass h = go (has_invalid_door m t)
  where
    calls : AreLive (change_first (is_client_call_of t) (without_arguments_at (stage.Returned bytes (objects_passed (table_of m p) pass))) m.call_tree.calls)
    calls = changed_live (is_client_call_of t) _ m.call_tree.calls (λ r. refl) h

    go : (b : Bool) → HasLive (if b then return_unbound m t p bytes pass else return_parked m t p bytes pass).state
    go true = calls
    go false = calls

-- a return that forgets the notice that is over
pub return_stands :
    (m n : State) (t p : ℕ) (bytes : List ℕ) (pass : List Pass) (b : Bool) → HasNothingPast m → has_invalid_door m t ≡ b →
    n
    ≡ record (if b then return_unbound m t p bytes pass else return_parked m t p bytes pass).state { notice_list = kept_notices m.doors (end_notice m.notice_list t) } →
    StandsFor n (return m t p bytes pass).state
return_stands m n t p bytes pass b h f e =
    subst (λ c. StandsFor n (if c then return_unbound m t p bytes pass else return_parked m t p bytes pass).state) (sym f)
    (e ∙ go b (subst (λ c. HasLive (if c then return_unbound m t p bytes pass else return_parked m t p bytes pass).state) f (return_live m t p bytes pass h.calls)))
  where
    go :
        (b : Bool) → HasLive (if b then return_unbound m t p bytes pass else return_parked m t p bytes pass).state →
        record (if b then return_unbound m t p bytes pass else return_parked m t p bytes pass).state { notice_list = kept_notices m.doors (end_notice m.notice_list t) }
        ≡ forget (if b then return_unbound m t p bytes pass else return_parked m t p bytes pass).state
    go true l = ap (λ rs. record (forget (return_unbound m t p bytes pass).state) { call_tree = record (return_unbound m t p bytes pass).state.call_tree { calls = rs } }) (sym (live_same _ l))
    go false l = ap (λ rs. record (forget (return_parked m t p bytes pass).state) { call_tree = record (return_parked m t p bytes pass).state.call_tree { calls = rs } }) (sym (live_same _ l))

-- acts of leaving, by which doors change too

pub leave_process_stands :
    (m n : State) (p : ℕ) →
    n
    ≡ record (forget (leave m (process_end m.process_table m.doors p))) {
      process_table = end_process (leave m (process_end m.process_table m.doors p)).process_table p;
      tables = with_table m.tables p (close_table (table_of m p));
      doors = end_owner m.doors p;
    } →
    StandsFor n (leave_process m p)
leave_process_stands m n p e =
    e
    ∙ ap (λ ns. record (forget (leave_process m p)) { notice_list = record (leave_process m p).notice_list { notices = ns } })
    (sym (kept_alike m.doors (end_owner m.doors p) (ended_many m.doors p) (leave_process m p).notice_list.notices))

pub revoke_stands :
    (m n : State) (p d : ℕ) (fd : Fd) → d ≡ door_at m p fd →
    n
    ≡ record (forget (leave m (revocation d))) {
      tables = with_table m.tables p (close_row (table_of m p) fd.0);
      doors = revoke_door m.doors d;
    } →
    StandsFor n (revoke m p fd).state
revoke_stands m n p d fd f e =
    subst
    (λ k. n ≡ record (forget (leave m (revocation k))) { tables = with_table m.tables p (close_row (table_of m p) fd.0); doors = revoke_door m.doors k })
    f e
    ∙ ap (λ ns. record (forget (revoke m p fd).state) { notice_list = record (revoke m p fd).state.notice_list { notices = ns } })
    (sym
    (kept_alike m.doors (revoke_door m.doors (door_at m p fd)) (λ k. changed_many m.doors (door_at m p fd) k revoked_door revoked_many)
    (revoke m p fd).state.notice_list.notices))

-- a collect that forgets the call that is answered
pub collect_stands :
    (m n : State) (t p c : ℕ) → HasNothingPast m → n ≡ record (forget (collect m t p c).state) { notice_list = m.notice_list } →
    StandsFor n (collect m t p c).state
collect_stands m n t p c h e =
    e
    ∙ ap (λ ns. record (forget (collect m t p c).state) { notice_list = record m.notice_list { notices = ns } })
    (sym (kept_same m.doors m.notice_list.notices h.notices))

-- whether an act lets a kernel forget a call or a notice
abbrev forgets : {m : State} {t : ℕ} {q : Option Request} {a : ActResult} → Moves m t q a → Bool
forgets (Moves.returns bytes pass f e) = true
forgets (Moves.returns_unbound bytes pass f e) = true
forgets (Moves.collects c e) = true
forgets x = is_leave x

move_past :
    (m : State) (t : ℕ) (q : Option Request) (a : ActResult) (x : Moves m t q a) → forgets x ≡ false → ArePlaced m → HasNothingPast m →
    HasNothingPast a.state
move_past m t q a (Moves.makes entry cookie attrs f) e p h =
    record { calls = h.calls; notices = kept_by m.doors _ m.notice_list.notices (λ i n g. one_more m.doors _ n.door (p.notice_door i n g)) h.notices }
move_past m t q a (Moves.parameter fd x value f) e p h =
    record { calls = h.calls; notices = kept_by m.doors _ m.notice_list.notices (λ i n g. set_many m.doors _ n.door x value) h.notices }
move_past m t q a (Moves.calls fd bytes pass rsize f) e p h = record { calls = pushed_live m.call_tree.calls _ refl h.calls; notices = h.notices }
move_past m t q a (Moves.enters r f room) e p h =
    record { calls = changed_live (is_given_as r.number t) _ m.call_tree.calls (λ x. refl) h.calls; notices = h.notices }
move_past m t q a (Moves.fails r f full) e p h =
    record { calls = changed_live (is_given_as r.number t) _ m.call_tree.calls (λ x. refl) h.calls; notices = h.notices }
move_past m t q a (Moves.enters_notice n f) e p h =
    record { calls = h.calls; notices = changed_kept m.doors (is_given_notice_as n.number t) (notice.Entered (tid t)) m.notice_list.notices refl h.notices }
move_past m t q a (Moves.returns bytes pass f i) e p h = absurd (true≢false e)
move_past m t q a (Moves.returns_unbound bytes pass f i) e p h = absurd (true≢false e)
move_past m t q a (Moves.collects c f) e p h = absurd (true≢false e)
move_past m t q a (Moves.leaves r who f) e p h = absurd (true≢false e)
move_past m t q a (Moves.revokes fd f) e p h = absurd (true≢false e)
move_past m t q a (Moves.ends r u f) e p h = absurd (true≢false e)
move_past m t q a (Moves.forks child f) e p h = absurd (true≢false e)
move_past m t q a _ e p h = record { calls = h.calls; notices = h.notices }

abbrev pub IsNoReturn : Request → Type 0
IsNoReturn r = (bytes : List ℕ) (pass : List Pass) → r ≡ request.Return bytes pass → ⊥

entry_forgets :
    (m : State) (t : ℕ) (r : Request) (a : ActResult) (x : Moves m t (Some r) a) → is_leaving r ≡ false → IsNoReturn r → forgets x ≡ false
entry_forgets m t r a (Moves.returns bytes pass f i) e u = absurd (u bytes pass refl)
entry_forgets m t r a (Moves.returns_unbound bytes pass f i) e u = absurd (u bytes pass refl)
entry_forgets m t r a (Moves.leaves s who (IsLeaving.interrupts v)) e u = absurd (true≢false e)
entry_forgets m t r a (Moves.leaves s who (IsLeaving.exits f)) e u = absurd (true≢false e)
entry_forgets m t r a (Moves.revokes fd f) e u = absurd (true≢false e)
entry_forgets m t r a (Moves.ends s p (IsEnding.kills v f)) e u = absurd (true≢false e)
entry_forgets m t r a (Moves.ends s p (IsEnding.exits_last f)) e u = absurd (true≢false e)
entry_forgets m t r a (Moves.forks child f) e u = absurd (true≢false e)
entry_forgets m t r a x e u = refl

end_forgets : (m : State) (t : ℕ) (a : ActResult) (x : Moves m t None a) → ((c : ℕ) → state_of m t ≡ is.Calling c → ⊥) → forgets x ≡ false
end_forgets m t a (Moves.collects c f) u = absurd (u c f)
end_forgets m t a x u = refl

-- none by which no caller, thread or door leaves, but for a return
pub effect_past :
    (m : State) (t p : ℕ) (r : Request) → p ≡ process_of m t → refusal_of m t p r ≡ None → is_leaving r ≡ false → IsNoReturn r → ArePlaced m →
    HasNothingPast m → HasNothingPast (effect m t p r).state
effect_past m t p r own free e u placed h =
    subst (λ k. refusal_of m t k r ≡ None → HasNothingPast (effect m t k r).state) (sym own)
    (λ f. let x : Moves m t (Some r) (effect m t (process_of m t) r) = effect_moves m t r f in
    move_past m t (Some r) _ x (entry_forgets m t r _ x e u) placed h)
    free

-- nor does an entry that is refused
pub entry_past :
    (m : State) (t p : ℕ) (r : Request) → p ≡ process_of m t → is_leaving r ≡ false → IsNoReturn r → ArePlaced m → HasNothingPast m →
    HasNothingPast (enter m t p r).state
entry_past m t p r own e u placed h = go (refusal_of m t p r) refl
  where
    go : (o : Option Errno) → refusal_of m t p r ≡ o → HasNothingPast (unless_refused m o (effect m t p r)).state
    go (Some x) f = h
    go None f = effect_past m t p r own f e u placed h

abbrev pub is_return : Request → Bool
is_return (request.Return bytes pass) = true
is_return _ = false

pub entry_kept :
    (m n : State) (t p : ℕ) (r : Request) → p ≡ process_of m t → is_leaving r ≡ false → is_return r ≡ false → ArePlaced m → HasNothingPast m →
    n ≡ (enter m t p r).state → StandsFor n (enter m t p r).state
entry_kept m n t p r own stays no_return placed h = is_kept n (enter m t p r).state (entry_past m t p r own stays none placed h)
  where
    none : IsNoReturn r
    none bytes pass e = absurd (true≢false (sym (ap is_return e) ∙ no_return))

-- the end of a wait forgets no call, but for a collect, and no notice
pub go_on_past :
    (m : State) (t : ℕ) → ArePlaced m → HasNothingPast m → ((c : ℕ) → state_of m t ≡ is.Calling c → ⊥) →
    HasNothingPast (go_on m t (process_of m t) (state_of m t)).state
go_on_past m t placed h u = move_past m t None _ (act_moves m t None) (end_forgets m t _ (act_moves m t None) u) placed h

-- giving

give_one_live : (m : State) (i : Item) (u : ℕ) → HasLive m → HasLive (give_one m i u)
give_one_live m (item.Call c) u h = changed_live (is_queued_as c) (at_stage (stage.Given (tid u))) m.call_tree.calls (λ r. refl) h
give_one_live m (item.Notice n) u h = h

give_one_kept : (m : State) (i : Item) (u : ℕ) → HasKept m → HasKept (give_one m i u)
give_one_kept m (item.Call c) u h = h
give_one_kept m (item.Notice n) u h = changed_kept m.doors (is_waiting_notice_as n) (notice.Given (tid u)) m.notice_list.notices refl h

pub settle_past : (before m : State) → HasNothingPast m → HasNothingPast (settle before m)
settle_past before m h =
    settle-all HasNothingPast before
    (record {
      makes = λ n d e l. record { calls = l.calls; notices = pushed_kept n.doors n.notice_list.notices (new_notice (n.notice_list.made + 1) (now n) d) refl l.notices };
      fails = λ n t e l. record { calls = l.calls; notices = l.notices };
      gives = λ n w x e l. record { calls = give_one_live n w.item x.thread.0 l.calls; notices = give_kept n w.item x.thread.0 l.notices };
      starts = λ n t e l. record { calls = l.calls; notices = l.notices };
    })
    (λ n l. record { calls = l.calls; notices = l.notices })
    m h
  where
    give_kept : (n : State) (i : Item) (u : ℕ) → HasKept n → AreKept (give_one n i u).doors (give_one n i u).notice_list.notices
    give_kept n i u l = give_one_kept n i u l
