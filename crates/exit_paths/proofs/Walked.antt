-- Walks over the threads of a process, in place of all threads.
use Rattle.std.proofs.Common.{◌≡◌, ⊎_elim, ℕ, zero, suc, ◌+◌, ◌-◌, ◌<◌, ◌≤◌, ◌==◌, ◌&&◌, ◌||◌, not, Bool, true, false, if◌then◌else◌, List, Option, Some, None, IfSome, option_map, is_some, find, length, refl, sym, ap, ap₂, ◌∙◌, subst, eq-or-lt_of_le, arith}
use Rattle.std.proofs.lemmas.Bool.Decides.{nat_tests}
use Rattle.dk_base.specs.ByNumber.{at_number}
use Rattle.dk_base.specs.declared.limits.TheConstants.{THREADS_MAX}
use Rattle.spec_records.specs.declared.record.CallStage.TheVariants as stage
use Rattle.spec_records.specs.Words.{CallTree, Leaving, ProcessTable, deserted_at, deserted_in, ended_thread, interrupted_where, is_entered_by, is_given_to, is_served_by, left_thread_of, numbers_where, process_end, process_in, thread_at}
use Rattle.dk_base.proofs.NumbersWhere.{length-numbers_where}
use Rattle.spec_records.proofs.Lists.{numbered_past, numbered_there}
use Rattle.spec_records.proofs.NumberedLists.{find-passes}
use Rattle.spec_kernel.specs.Types.{Call, CallStage, Door, Pool, Thread, Waiting}
use Rattle.call_tree.specs.Words.{AreSound, PartsOfLeaving, abandon_call, is_called_by, lose_server}
use Rattle.call_tree.specs.declared.parts.Leave.TheVariants.{Finished}
use Rattle.law_pools.proofs.Readers.{same_number}
use Rattle.law_pools.proofs.WaitingLists.{both_true}
use Rattle.proc_table.specs.Words.{is_of}
use Rattle.dk_base.specs.declared.thread_set.ThreadSet.{ThreadSet}
use Rattle.dk_base.specs.ThreadSets.{members}
use Rattle.dk_base.specs.Words.{has, with_thread}
use Rattle.exit_paths.specs.declared.fates.Deserted.{Deserted}
use Rattle.exit_paths.specs.Words.{HaveEnded, deserted_at_stage, deserted_in_call, is_call_of, is_call_of_any, is_thread_of}
use Rattle.exit_paths.proofs.CallsSoFar.{next_ended}
use Rattle.exit_paths.proofs.LeftThreads.{HasLeft, or_later}
use Rattle.exit_paths.proofs.MadeRoom.{numbered_low}

-- the threads of a set

pub members_are : (s : ThreadSet) → members s ≡ numbers_where (has s) THREADS_MAX
unfolding members
members_are s = refl

pub few_members : (s : ThreadSet) → length (members s) ≤ THREADS_MAX
few_members s = subst (λ xs. length xs ≤ THREADS_MAX) (sym (members_are s)) (length-numbers_where (has s) THREADS_MAX)

clash : (b : Bool) → b ≡ true → b ≡ false → ⊥
clash true e f = cc
clash false e f = cc

-- a thread of a set that is before the next came already
pub earlier : (set : ThreadSet) (t n m : ℕ) → (n < t → t < m → has set t ≡ false) → t < m → has set t ≡ true → t ≤ n
earlier set t n m between l here = ⊎_elim (λ a. a) (λ a. absurd (clash (has set t) here (between a l))) (or_later t n)

-- and so did all where none is left
pub all_came : (set : ThreadSet) (t n : ℕ) → (n < t → has set t ≡ false) → has set t ≡ true → t ≤ n
all_came set t n end here = ⊎_elim (λ a. a) (λ a. absurd (clash (has set t) here (end a))) (or_later t n)

pub none_zero : (set : ThreadSet) (t n : ℕ) → t ≤ n → n ≡ 0 → has set t ≡ true → ⊥
none_zero set zero n l e h = cc
none_zero set (suc t) n l e h = absurd (omega (arith, l, e))

-- a thread is put into a set

there_above : {X : Type 0} (xs : List X) (t : ℕ) → is_some (at_number xs t) ≡ true → 0 < t
there_above xs zero e = cc
there_above xs (suc t) e = omega arith

pub put_within : {X : Type 0} (xs : List X) (t : ℕ) → length xs ≤ THREADS_MAX → is_some (at_number xs t) ≡ true → (0 < t) × (t ≤ THREADS_MAX)
put_within xs t few e = let low = numbered_low xs t e in (there_above xs t e, omega (arith, low, few))

module _ (before after : ThreadSet) (t : ℕ) (put : (u : ℕ) → has after u ≡ with_thread before t true u) where
  pub put_more : (u : ℕ) → has before u ≡ true → has after u ≡ true
  put_more u e = put u ∙ go (u == t)
    where
      go : (b : Bool) → (if b then true else has before u) ≡ true
      go true = refl
      go false = e

  pub put_here : has after t ≡ true
  put_here = put t ∙ ap (λ b. if b then true else has before t) same
    where
      same : (t == t) ≡ true
      same = grind (arith, nat_tests)

  pub put_there : (P : ℕ → Type 0) → ((u : ℕ) → has before u ≡ true → P u) → P t → (u : ℕ) → has after u ≡ true → P u
  put_there P all one u e = go (u == t) refl (sym (put u) ∙ e)
    where
      go : (b : Bool) → (u == t) ≡ b → (if b then true else has before u) ≡ true → P u
      go true f g = subst P (sym (same_number u t f)) one
      go false f g = all u g

-- what holds of a server holds in a greater set
pub server_more :
    (table : ProcessTable) (before after : ThreadSet) → ((u : ℕ) → has before u ≡ true → has after u ≡ true) → (o : Option Deserted) →
    IfSome o (λ d. is_some (thread_at table d.server.0) ≡ true → has before d.server.0 ≡ true) → IfSome o (λ d. is_some (thread_at table d.server.0) ≡ true → has after d.server.0 ≡ true)
server_more table before after more None h = h
server_more table before after more (Some d) h = λ e. more d.server.0 (h e)

pub not_false : (b : Bool) → not b ≡ false → b ≡ true
not_false true e = refl
not_false false e = cc

-- a thread of a process is there
pub of_there : (table : ProcessTable) (p t : ℕ) → is_of p (thread_at table t) ≡ true → is_some (thread_at table t) ≡ true
of_there table p t e = go (thread_at table t) e
  where
    go : (o : Option Thread) → is_of p o ≡ true → is_some o ≡ true
    go None f = cc
    go (Some x) f = refl

-- a thread that is there is one of a process as its record says
there_of : (table : ProcessTable) (p t : ℕ) → 0 < t → t ≤ length table.threads → is_of p (thread_at table t) ≡ is_thread_of table p t
there_of table p t l m = go (thread_at table t) (numbered_there table.threads t l m)
  where
    go : (o : Option Thread) → is_some o ≡ true → is_of p o ≡ (process_in o == p)
    go None e = cc
    go (Some x) e = refl

past_none : (table : ProcessTable) (p t : ℕ) → length table.threads < t → is_of p (thread_at table t) ≡ false
past_none table p t l = ap (is_of p) (numbered_past table.threads t l)

-- threads that end

-- those between do not
skipped_ended :
    {ends refused : ℕ → Bool} {tree now : CallTree} {n : ℕ} → HaveEnded ends refused n tree now → (m : ℕ) → n ≤ m → ((u : ℕ) → n < u → u ≤ m → ends u ≡ false) → HaveEnded ends refused m tree now
skipped_ended {ends} {refused} {tree} {now} {n} h m l between =
    record {
      ended = h.ended;
      so_far = h.so_far;
      those = λ u p k. ⊎_elim (λ a. h.those u p a) (λ a. h.others u a ∙ sym (between u a k)) (or_later u n);
      none = h.none;
      others = λ u k. h.others u (omega arith);
    }

pub walked_ended :
    {ends refused : ℕ → Bool} {tree now next : CallTree} {n : ℕ} → PartsOfLeaving tree → HaveEnded ends refused n tree now → (t : ℕ) → n < t →
    ((u : ℕ) → n < u → u < t → ends u ≡ false) → ends t ≡ true → next ≡ lose_server (abandon_call now t Finished) t → HaveEnded ends refused t tree next
walked_ended {ends} {refused} {tree} {now} {next} {n} parts h t l between here step =
    subst (λ k. HaveEnded ends refused k tree next) (sym is)
    (next_ended parts (t - 1) t is (skipped_ended h (t - 1) (omega arith) (λ u k m. between u k (omega (arith, m, l)))) true (sym here) step)
  where
    is : t ≡ t - 1 + 1
    is = omega (arith, l)

pub all_walked_ended :
    {refused : ℕ → Bool} {tree now : CallTree} {n : ℕ} (set : ThreadSet) (table : ProcessTable) (p : ℕ) → HaveEnded (has set) refused n tree now →
    ((t : ℕ) → has set t ≡ is_of p (thread_at table t)) → ((u : ℕ) → n < u → has set u ≡ false) → HaveEnded (is_thread_of table p) refused (length table.threads) tree now
all_walked_ended {refused} {tree} {now} {n} set table p h is end =
    record {
      ended = h.ended;
      so_far = h.so_far;
      those = λ u l m. all u l ∙ is u ∙ there_of table p u l m;
      none = h.none;
      others = λ u l. all u (omega arith) ∙ is u ∙ past_none table p u l;
    }
  where
    all : (u : ℕ) → 0 < u → h.ended u ≡ has set u
    all u l = ⊎_elim (λ a. h.those u l a) (λ a. h.others u a ∙ sym (end u a)) (or_later u n)

-- items that leave with their callers

module _ (doors : List Door) (calls : List Call) (q : Pool) (w : Waiting) where
  pub any_beyond : (test : ℕ → Bool) (n m : ℕ) → n ≤ m → ((u : ℕ) → n < u → u ≤ m → test u ≡ false) → is_call_of_any doors calls test m q w ≡ is_call_of_any doors calls test n q w
  any_beyond test n zero l none = ap (λ k. is_call_of_any doors calls test k q w) (sym zero_is)
    where
      zero_is : n ≡ 0
      zero_is = omega (arith, l)
  any_beyond test n (suc m) l none =
      ⊎_elim same (λ k. more k (any_beyond test n m (omega (arith, k)) (λ u a b. none u a (omega (arith, b))))) (eq-or-lt_of_le l)
    where
      same : n ≡ suc m → is_call_of_any doors calls test (suc m) q w ≡ is_call_of_any doors calls test n q w
      same e = ap (λ k. is_call_of_any doors calls test k q w) (sym e)

      last : (a b c : Bool) → b ≡ false → (a || (b && c)) ≡ a
      last true b c e = refl
      last false false c e = refl
      last false true c e = cc

      more :
          n < suc m → is_call_of_any doors calls test m q w ≡ is_call_of_any doors calls test n q w →
          is_call_of_any doors calls test (suc m) q w ≡ is_call_of_any doors calls test n q w
      more k ih =
          last (is_call_of_any doors calls test m q w) (test (suc m)) (is_call_of doors (find (is_called_by (suc m)) calls) q w) (none (suc m) k (omega arith)) ∙ ih

  any_same : (test other : ℕ → Bool) (n : ℕ) → ((u : ℕ) → 0 < u → u ≤ n → test u ≡ other u) → is_call_of_any doors calls test n q w ≡ is_call_of_any doors calls other n q w
  any_same test other zero e = refl
  any_same test other (suc n) e =
      ap₂ (λ a b. a || (b && is_call_of doors (find (is_called_by (suc n)) calls) q w)) (any_same test other n (λ u a b. e u a (omega (arith, b)))) (e (suc n) (omega arith) (omega arith))

  pub any_walked :
      (test : ℕ → Bool) (n t : ℕ) → n < t → ((u : ℕ) → n < u → u < t → test u ≡ false) → test t ≡ true →
      (is_call_of_any doors calls test n q w || is_call_of doors (find (is_called_by t) calls) q w) ≡ is_call_of_any doors calls test t q w
  any_walked test n zero l between here = absurd (omega (arith, l))
  any_walked test n (suc m) l between here =
      ap₂ (λ a b. a || (b && is_call_of doors (find (is_called_by (suc m)) calls) q w)) (sym (any_beyond test n m (omega (arith, l)) (λ u a b. between u a (omega (arith, b))))) (sym here)

  pub all_walked :
      (set : ThreadSet) (table : ProcessTable) (p n : ℕ) → ((t : ℕ) → has set t ≡ is_of p (thread_at table t)) → ((u : ℕ) → n < u → has set u ≡ false) →
      is_call_of_any doors calls (has set) n q w ≡ is_call_of_any doors calls (is_thread_of table p) (length table.threads) q w
  all_walked set table p n is end =
      ⊎_elim (λ l. sym (any_beyond (has set) n (length table.threads) l (λ u a b. end u a)))
      (λ l. any_beyond (has set) (length table.threads) n (omega (arith, l)) (λ u a b. is u ∙ past_none table p u a))
      (or_later n (length table.threads))
      ∙ any_same (has set) (is_thread_of table p) (length table.threads) (λ u a b. is u ∙ there_of table p u a b)

-- threads that leave

-- none has left yet
pub none_left : (who : Leaving) (now : ℕ) (calls : List Call) (table : ProcessTable) (n : ℕ) → n ≡ 0 → HasLeft who now calls n table table
none_left who now calls table n e =
    record { processes = refl; number = refl; left = λ u l. ap (λ k. thread_at table k) (low u l) ∙ sym (ap (λ k. option_map (left_thread_of who now calls) (thread_at table k)) (low u l)); others = λ u l. refl }
  where
    low : (u : ℕ) → u ≤ n → u ≡ 0
    low u l = omega (arith, e)

pub left_skipped :
    {who : Leaving} {now : ℕ} {calls : List Call} {i : ℕ} {before after : ProcessTable} → HasLeft who now calls i before after → (j : ℕ) → i ≤ j →
    ((u : ℕ) → i < u → u ≤ j → (x : Thread) → thread_at before u ≡ Some x → left_thread_of who now calls x ≡ x) → HasLeft who now calls j before after
left_skipped {who} {now} {calls} {i} {before} {after} h j l same =
    record {
      processes = h.processes;
      number = h.number;
      left = λ u k. ⊎_elim (λ a. h.left u a) (λ a. h.others u a ∙ stays u (thread_at before u) refl (λ x e. same u a k x e)) (or_later u i);
      others = λ u k. h.others u (omega arith);
    }
  where
    stays : (u : ℕ) (o : Option Thread) → thread_at before u ≡ o → ((x : Thread) → thread_at before u ≡ Some x → left_thread_of who now calls x ≡ x) → thread_at before u ≡ option_map (left_thread_of who now calls) (thread_at before u)
    stays u None e f = e ∙ sym (ap (option_map (left_thread_of who now calls)) e)
    stays u (Some x) e f = e ∙ sym (ap Some (f x e)) ∙ sym (ap (option_map (left_thread_of who now calls)) e)

-- a thread that was not touched stays as it is where the caller of the call that it serves leaves
pub untouched :
    (touched : ThreadSet) (table : ProcessTable) (tree : CallTree) → AreSound tree → (now t : ℕ) (x : Thread) → x.number ≡ t → has touched t ≡ false →
    thread_at table t ≡ Some x → (r : Call) → find (is_served_by x.number) tree.calls ≡ Some r →
    IfSome (deserted_in_call (find (is_called_by r.caller.0) tree.calls)) (λ d. is_some (thread_at table d.server.0) ≡ true → has touched d.server.0 ≡ true) →
    deserted_at now r.no_cancel r.stage x ≡ x
untouched touched table tree sound now t x n e there r f server =
    touches r.stage r.no_cancel (find-passes (is_served_by x.number) tree.calls r f)
    (subst (λ o. IfSome (deserted_in_call o) (λ d. is_some (thread_at table d.server.0) ≡ true → has touched d.server.0 ≡ true)) (sound.caller (is_served_by x.number) r f) server)
  where
    touches : (s : CallStage) (b : Bool) → (not r.abandoned && (is_given_to x.number s || is_entered_by x.number s)) ≡ true → IfSome (deserted_at_stage b s) (λ d. is_some (thread_at table d.server.0) ≡ true → has touched d.server.0 ≡ true) → deserted_at now b s x ≡ x
    touches (stage.Given u) b g h =
        let k : u.0 ≡ x.number = same_number u.0 x.number (given (not r.abandoned) (u.0 == x.number) g) in
        absurd (clash (has touched t) (subst (λ v. has touched v ≡ true) (k ∙ n) (h (ap (λ v. is_some (thread_at table v)) (k ∙ n) ∙ ap is_some there))) e)
      where
        given : (a c : Bool) → (a && (c || false)) ≡ true → c ≡ true
        given true true m = refl
        given true false m = cc
        given false c m = cc
    touches (stage.Entered u) true g h = refl
    touches (stage.Entered u) false g h =
        let k : u.0 ≡ x.number = same_number u.0 x.number (both_true (not r.abandoned) (u.0 == x.number) g).1 in
        absurd (clash (has touched t) (subst (λ v. has touched v ≡ true) (k ∙ n) (h (ap (λ v. is_some (thread_at table v)) (k ∙ n) ∙ ap is_some there))) e)
    touches _ b g h = refl

-- which may change where a process ends

module _
    (touched : ThreadSet) (table : ProcessTable) (doors : List Door) (tree : CallTree) (sound : AreSound tree) (p : ℕ) (declared : is_some (at_number table.processes p) ≡ true)
    (own : (t : ℕ) → is_of p (thread_at table t) ≡ true → has touched t ≡ true)
    (servers : (t : ℕ) → is_of p (thread_at table t) ≡ true → IfSome (deserted_in_call (find (is_called_by t) tree.calls)) (λ d. is_some (thread_at table d.server.0) ≡ true → has touched d.server.0 ≡ true)) where
  of_process : (u : ℕ) → is_thread_of table p u ≡ true → is_of p (thread_at table u) ≡ true
  of_process u e = go (thread_at table u) p declared e
    where
      zero_not : (k : ℕ) → (0 == suc k) ≡ false
      zero_not k = grind (arith, nat_tests)

      go : (o : Option Thread) (k : ℕ) → is_some (at_number table.processes k) ≡ true → (process_in o == k) ≡ true → is_of k o ≡ true
      go None zero d f = cc
      go None (suc k) d f = sym (zero_not k) ∙ f
      go (Some x) k d f = f

  pub stays :
      (now t : ℕ) (x : Thread) → x.number ≡ t → has touched t ≡ false → thread_at table t ≡ Some x → left_thread_of (process_end table doors p) now tree.calls x ≡ x
  stays now t x n e there = by_end (is_thread_of table p x.number) refl
    where
      served : (o : Option Call) → find (is_served_by x.number) tree.calls ≡ o → deserted_in (process_end table doors p) now o x ≡ x
      served None f = refl
      served (Some r) f = left (is_thread_of table p r.caller.0) refl
        where
          left : (b : Bool) → is_thread_of table p r.caller.0 ≡ b → deserted_in (process_end table doors p) now (Some r) x ≡ x
          left false f2 = ap (λ b. if b || false then deserted_at now r.no_cancel r.stage x else x) f2
          left true f2 =
              ap (λ b. if b || false then deserted_at now r.no_cancel r.stage x else x) f2
              ∙ untouched touched table tree sound now t x n e there r f (servers r.caller.0 (of_process r.caller.0 f2))

      by_end : (b : Bool) → is_thread_of table p x.number ≡ b → left_thread_of (process_end table doors p) now tree.calls x ≡ x
      by_end true f = absurd (clash (has touched t) (own t (of_process t (subst (λ k. is_thread_of table p k ≡ true) n f))) e)
      by_end false f =
          ap (λ b. if b then ended_thread x else deserted_in (process_end table doors p) now (find (is_served_by x.number) tree.calls) (interrupted_where false x)) f
          ∙ served (find (is_served_by x.number) tree.calls) refl
