-- What waits, calls and notices merged: a queue, and the only one of its calls and notices. So the items of a pool among all that
-- waits are the pool's queue.
use Rattle.std.proofs.Common.{◌≡◌, ℕ, ◌<◌, ◌≤◌, ◌&&◌, not, Bool, true, false, if◌then◌else◌, nat_le, List, [], ◌∷◌, ◌++◌, filter, map, refl, sym, ap, ap₂, true≢false, ◌∙◌, arith, append-nil, append_assoc}
use Rattle.std.specs.List.{AllByRecursion}
use Rattle.std.proofs.lemmas.Bool.Decides.{nat_tests}
use Rattle.dk_base.specs.ByNumber.{at_number}
use Rattle.spec_records.specs.Words.{CallTree, NoticeList, ProcessTable, is_pool, is_queued_call, is_waiting_notice, items_in_order, pool_in, waiting_call, waiting_notice, with_notice, with_notices}
use Rattle.spec_kernel.specs.Types.{Call, Door, Notice, Pool, Waiting}
use Rattle.server_pool.specs.Words.{PoolsValue, is_waiting_call, queue_in}
use Rattle.server_pool.proofs.Order.{ordered_filter}
use Rattle.law_pools.specs.Words.{Agrees, AreDated, IsQueue, WaitsBefore, date_of_call, date_of_notice, is_notice_waiting}
use Rattle.law_pools.proofs.Dated.{dated_filter, dated_lower}
use Rattle.law_pools.proofs.WaitingLists.{Kind, all_waiting, call_kind, every_waiting, notice_kind, waiting, waits_in}

-- all items of a list

pub all_map : {X : Type 0} (P Q : X → Type 0) → ((x : X) → P x → Q x) → (xs : List X) → AllByRecursion P xs → AllByRecursion Q xs
all_map P Q f [] a = tt
all_map P Q f (x ∷ xs) a = (f x a.0, all_map P Q f xs a.1)

all_filter : {X : Type 0} (P Q : X → Type 0) (p : X → Bool) → ((x : X) → p x ≡ true → P x → Q x) → (xs : List X) → AllByRecursion P xs → AllByRecursion Q (filter p xs)
all_filter P Q p f [] a = tt
all_filter P Q p f (x ∷ xs) a = go (p x) refl (all_filter P Q p f xs a.1)
  where
    go : (b : Bool) → p x ≡ b → AllByRecursion Q (filter p xs) → AllByRecursion Q (if b then x ∷ filter p xs else filter p xs)
    go true e rest = (f x e a.0, rest)
    go false e rest = rest

-- the order of two items

abbrev AreNotices : List Waiting → Type 0
AreNotices ns = AllByRecursion (λ n. is_notice_waiting n ≡ true) ns

abbrev AreCalls : List Waiting → Type 0
AreCalls cs = AllByRecursion (λ c. is_waiting_call c ≡ true) cs

abbrev IsNoLater : ℕ → Waiting → Type 0
IsNoLater k w = k ≤ w.made

kind_of_notice : (w : Waiting) → is_notice_waiting w ≡ true → is_waiting_call w ≡ false
kind_of_notice w e = go (is_waiting_call w) e
  where
    go : (b : Bool) → not b ≡ true → b ≡ false
    go true f = absurd (true≢false (sym f))
    go false f = refl

before_dates : (w v : Waiting) → WaitsBefore w v → w.made ≤ v.made
before_dates w v h = grind (arith, nat_tests)

-- a notice stands before a call only where it was made at an earlier event
notice_before_call : (w v : Waiting) → is_waiting_call w ≡ false → is_waiting_call v ≡ true → WaitsBefore w v → w.made < v.made
notice_before_call w v e f h = grind (arith, nat_tests, e, f)

call_before : (w v : Waiting) → is_waiting_call w ≡ true → w.made ≤ v.made → WaitsBefore w v
call_before w v e h = grind (arith, nat_tests, e)

before_notice : (w v : Waiting) → is_notice_waiting v ≡ true → w.made ≤ v.made → WaitsBefore w v
before_notice w v e h = grind (arith, nat_tests, e)

pub earlier_before : (w v : Waiting) → w.made < v.made → WaitsBefore w v
earlier_before w v h = grind (arith, nat_tests)

-- one notice among what waits

pub all_with_notice : (P : Waiting → Type 0) (n : Waiting) (ws : List Waiting) → P n → AllByRecursion P ws → AllByRecursion P (with_notice ws n)
all_with_notice P n [] p a = (p, tt)
all_with_notice P n (w ∷ ws) p a = go (nat_le w.made n.made) (all_with_notice P n ws p a.1)
  where
    go : (b : Bool) → AllByRecursion P (with_notice ws n) → AllByRecursion P (if b then w ∷ with_notice ws n else n ∷ w ∷ ws)
    go true rest = (a.0, rest)
    go false rest = (p, a)

pub with_notice-after : (w n : Waiting) (ws : List Waiting) → w.made ≤ n.made → with_notice (w ∷ ws) n ≡ w ∷ with_notice ws n
with_notice-after w n ws h =
    let e : nat_le w.made n.made ≡ true = grind (arith, nat_tests) in ap (λ b. if b then w ∷ with_notice ws n else n ∷ w ∷ ws) e

pub with_notice-first : (n : Waiting) (ws : List Waiting) → AllByRecursion (λ w. n.made < w.made) ws → with_notice ws n ≡ n ∷ ws
with_notice-first n [] a = refl
with_notice-first n (w ∷ ws) a =
    let h : n.made < w.made = a.0 in
    let e : nat_le w.made n.made ≡ false = grind (arith, nat_tests) in
    ap (λ b. if b then w ∷ with_notice ws n else n ∷ w ∷ ws) e

queue-with_notice : (n : Waiting) (ws : List Waiting) → is_notice_waiting n ≡ true → IsQueue ws → IsQueue (with_notice ws n)
queue-with_notice n [] e o = (tt, tt)
queue-with_notice n (w ∷ ws) e o = go (nat_le w.made n.made) refl (queue-with_notice n ws e o.1)
  where
    first : w.made ≤ n.made → WaitsBefore w n
    first h = before_notice w n e h

    after : n.made < w.made → (v : Waiting) → WaitsBefore w v → WaitsBefore n v
    after h v k = let l : w.made ≤ v.made = before_dates w v k in earlier_before n v (omega arith)

    go : (b : Bool) → nat_le w.made n.made ≡ b → IsQueue (with_notice ws n) → IsQueue (if b then w ∷ with_notice ws n else n ∷ w ∷ ws)
    go true f rest = (all_with_notice (WaitsBefore w) n ws (first (grind (arith, nat_tests))) o.0, rest)
    go false f rest =
        let h : n.made < w.made = grind (arith, nat_tests) in
        ((earlier_before n w h, all_map (WaitsBefore w) (WaitsBefore n) (after h) ws o.0), o)

calls-with_notice : (n : Waiting) (ws : List Waiting) → is_waiting_call n ≡ false → filter is_waiting_call (with_notice ws n) ≡ filter is_waiting_call ws
calls-with_notice n [] e = ap (λ b. if b then n ∷ [] else []) e
calls-with_notice n (w ∷ ws) e = go (nat_le w.made n.made) (calls-with_notice n ws e)
  where
    go :
        (b : Bool) → filter is_waiting_call (with_notice ws n) ≡ filter is_waiting_call ws →
        filter is_waiting_call (if b then w ∷ with_notice ws n else n ∷ w ∷ ws) ≡ filter is_waiting_call (w ∷ ws)
    go true ih = ap (λ vs. if is_waiting_call w then w ∷ vs else vs) ih
    go false ih = ap (λ b. if b then n ∷ filter is_waiting_call (w ∷ ws) else filter is_waiting_call (w ∷ ws)) e

-- the notices there were made no later
abbrev HasNoticesUpTo : ℕ → List Waiting → Type 0
HasNoticesUpTo k ws = AllByRecursion (λ w. is_notice_waiting w ≡ true → w.made ≤ k) ws

no_notices : (k : ℕ) (ws : List Waiting) → AllByRecursion (λ w. k < w.made) ws → HasNoticesUpTo k ws → filter is_notice_waiting ws ≡ []
no_notices k [] a h = refl
no_notices k (w ∷ ws) a h = go (is_notice_waiting w) refl (no_notices k ws a.1 h.1)
  where
    go : (b : Bool) → is_notice_waiting w ≡ b → filter is_notice_waiting ws ≡ [] → (if b then w ∷ filter is_notice_waiting ws else filter is_notice_waiting ws) ≡ []
    go true e ih = let l : w.made ≤ k = h.0 e in let m : k < w.made = a.0 in absurd (omega arith)
    go false e ih = ih

notices-with_notice :
    (n : Waiting) (ws : List Waiting) → is_notice_waiting n ≡ true → IsQueue ws → HasNoticesUpTo n.made ws →
    filter is_notice_waiting (with_notice ws n) ≡ filter is_notice_waiting ws ++ n ∷ []
notices-with_notice n [] e o h = ap (λ b. if b then n ∷ [] else []) e
notices-with_notice n (w ∷ ws) e o h = go (nat_le w.made n.made) refl (notices-with_notice n ws e o.1 h.1)
  where
    push : (b : Bool) → (if b then w ∷ (filter is_notice_waiting ws ++ n ∷ []) else filter is_notice_waiting ws ++ n ∷ []) ≡ (if b then w ∷ filter is_notice_waiting ws else filter is_notice_waiting ws) ++ n ∷ []
    push true = refl
    push false = refl

    none : n.made < w.made → filter is_notice_waiting (w ∷ ws) ≡ []
    none l =
        no_notices n.made (w ∷ ws)
        (l, all_map (WaitsBefore w) (λ v. n.made < v.made) (λ v k. let d : w.made ≤ v.made = before_dates w v k in omega arith) ws o.0) h

    go :
        (b : Bool) → nat_le w.made n.made ≡ b → filter is_notice_waiting (with_notice ws n) ≡ filter is_notice_waiting ws ++ n ∷ [] →
        filter is_notice_waiting (if b then w ∷ with_notice ws n else n ∷ w ∷ ws) ≡ filter is_notice_waiting (w ∷ ws) ++ n ∷ []
    go true f ih = ap (λ vs. if is_notice_waiting w then w ∷ vs else vs) ih ∙ push (is_notice_waiting w)
    go false f ih =
        let l : n.made < w.made = grind (arith, nat_tests) in
        ap (λ b. if b then n ∷ filter is_notice_waiting (w ∷ ws) else filter is_notice_waiting (w ∷ ws)) e
        ∙ ap (λ vs. n ∷ vs) (none l)
        ∙ sym (ap (λ vs. vs ++ n ∷ []) (none l))

-- notices that were made one after another

abbrev made_at : Waiting → ℕ
made_at w = w.made

pub queue-with_notices : (ns ws : List Waiting) → AreNotices ns → IsQueue ws → IsQueue (with_notices ws ns)
queue-with_notices [] ws a o = o
queue-with_notices (n ∷ ns) ws a o = queue-with_notices ns (with_notice ws n) a.1 (queue-with_notice n ws a.0 o)

pub calls-with_notices : (ns ws : List Waiting) → AreNotices ns → filter is_waiting_call (with_notices ws ns) ≡ filter is_waiting_call ws
calls-with_notices [] ws a = refl
calls-with_notices (n ∷ ns) ws a = calls-with_notices ns (with_notice ws n) a.1 ∙ calls-with_notice n ws (kind_of_notice n a.0)

pub notices-with_notices :
    (low high : ℕ) (ns ws : List Waiting) → AreNotices ns → AreDated low high (map made_at ns) → IsQueue ws → HasNoticesUpTo low ws →
    filter is_notice_waiting (with_notices ws ns) ≡ filter is_notice_waiting ws ++ ns
notices-with_notices low high [] ws a d o h = sym (append-nil (filter is_notice_waiting ws))
notices-with_notices low high (n ∷ ns) ws a d o h =
    notices-with_notices n.made high ns (with_notice ws n) a.1 d.2 (queue-with_notice n ws a.0 o)
    (all_with_notice (λ w. is_notice_waiting w ≡ true → w.made ≤ n.made) n ws (λ e. omega arith) later)
    ∙ ap (λ vs. vs ++ ns) (notices-with_notice n ws a.0 o later)
    ∙ append_assoc (filter is_notice_waiting ws) (n ∷ []) ns
  where
    later : HasNoticesUpTo n.made ws
    later =
        all_map (λ w. is_notice_waiting w ≡ true → w.made ≤ low) (λ w. is_notice_waiting w ≡ true → w.made ≤ n.made)
        (λ w k e. let l : w.made ≤ low = k e in let m : low ≤ n.made = d.0 in omega arith) ws h

-- a queue is its calls and notices merged

with_notices-after : (w : Waiting) (ns ws : List Waiting) → AllByRecursion (IsNoLater w.made) ns → with_notices (w ∷ ws) ns ≡ w ∷ with_notices ws ns
with_notices-after w [] ws a = refl
with_notices-after w (n ∷ ns) ws a =
    ap (λ vs. with_notices vs ns) (with_notice-after w n ws a.0) ∙ with_notices-after w ns (with_notice ws n) a.1

pub queue_merged : (qs : List Waiting) → IsQueue qs → qs ≡ with_notices (filter is_waiting_call qs) (filter is_notice_waiting qs)
queue_merged [] o = refl
queue_merged (q ∷ qs) o = go (queue_merged qs o.1) (is_waiting_call q) refl
  where
    calls : List Waiting
    calls = filter is_waiting_call qs

    notices : List Waiting
    notices = filter is_notice_waiting qs

    later : AllByRecursion (IsNoLater q.made) notices
    later = all_filter (WaitsBefore q) (IsNoLater q.made) is_notice_waiting (λ v e k. before_dates q v k) qs o.0

    first : is_waiting_call q ≡ false → with_notice calls q ≡ q ∷ calls
    first e =
        with_notice-first q calls
        (all_filter (WaitsBefore q) (λ v. q.made < v.made) is_waiting_call (λ v f k. notice_before_call q v e f k) qs o.0)

    go :
        qs ≡ with_notices calls notices → (b : Bool) → is_waiting_call q ≡ b →
        q ∷ qs ≡ with_notices (if b then q ∷ calls else calls) (if not b then q ∷ notices else notices)
    go ih true e = ap (λ vs. q ∷ vs) ih ∙ sym (with_notices-after q notices calls later)
    go ih false e =
        ap (λ vs. q ∷ vs) ih
        ∙ sym (with_notices-after q notices calls later)
        ∙ ap (λ vs. with_notices vs notices) (sym (first e))

pub merged_is :
    (cs ns qs : List Waiting) → IsQueue qs → filter is_waiting_call qs ≡ cs → filter is_notice_waiting qs ≡ ns → qs ≡ with_notices cs ns
merged_is cs ns qs o c n = queue_merged qs o ∙ ap₂ with_notices c n

-- so two queues of the same calls and notices are one
pub same_queue :
    (a b : List Waiting) → IsQueue a → IsQueue b → filter is_waiting_call a ≡ filter is_waiting_call b →
    filter is_notice_waiting a ≡ filter is_notice_waiting b → a ≡ b
same_queue a b o p c n = merged_is (filter is_waiting_call b) (filter is_notice_waiting b) a o c n ∙ sym (queue_merged b p)

-- the items that wait, in order

abbrev pub waiting_calls : List Call → List Waiting
waiting_calls calls = map waiting_call (filter is_queued_call calls)

abbrev pub waiting_notices : List Notice → List Waiting
waiting_notices notices = map waiting_notice (filter is_waiting_notice notices)

calls_kind : (rs : List Call) → filter is_waiting_call (map waiting_call rs) ≡ map waiting_call rs
calls_kind [] = refl
calls_kind (r ∷ rs) = ap (λ ws. waiting_call r ∷ ws) (calls_kind rs)

calls_are_none : (rs : List Call) → filter is_notice_waiting (map waiting_call rs) ≡ []
calls_are_none [] = refl
calls_are_none (r ∷ rs) = calls_are_none rs

notices_kind : (ns : List Notice) → AreNotices (map waiting_notice ns)
notices_kind [] = tt
notices_kind (n ∷ ns) = (refl, notices_kind ns)

calls_up_to : (k : ℕ) (rs : List Call) → HasNoticesUpTo k (map waiting_call rs)
calls_up_to k [] = tt
calls_up_to k (r ∷ rs) = (λ e. absurd (true≢false (sym e)), calls_up_to k rs)

dated_calls : (rs : List Call) (low high : ℕ) → AreDated low high (map date_of_call rs) → AllByRecursion (IsNoLater low) (map waiting_call rs)
dated_calls [] low high d = tt
dated_calls (r ∷ rs) low high d = (d.0, dated_calls rs low high (dated_lower (map date_of_call rs) low r.made high d.0 d.2))

queue_of_calls : (rs : List Call) (low high : ℕ) → AreDated low high (map date_of_call rs) → IsQueue (map waiting_call rs)
queue_of_calls [] low high d = tt
queue_of_calls (r ∷ rs) low high d = (
  all_map (IsNoLater r.made) (WaitsBefore (waiting_call r)) (λ v h. call_before (waiting_call r) v refl h) (map waiting_call rs)
      (dated_calls rs r.made high d.2),
  queue_of_calls rs r.made high d.2,
)

dated_notices : (ns : List Notice) (low high : ℕ) → AreDated low high (map date_of_notice ns) → AreDated low high (map made_at (map waiting_notice ns))
dated_notices [] low high d = tt
dated_notices (n ∷ ns) low high d = (d.0, d.1, dated_notices ns n.made high d.2)

module _ (calls : List Call) (notices : List Notice) where
  pub calls_in_order : filter is_waiting_call (items_in_order calls notices) ≡ waiting_calls calls
  calls_in_order =
      calls-with_notices (waiting_notices notices) (waiting_calls calls) (notices_kind (filter is_waiting_notice notices))
      ∙ calls_kind (filter is_queued_call calls)

  module _ (high : ℕ) (c : AreDated 0 high (map date_of_call calls)) (n : AreDated 0 high (map date_of_notice notices)) where
    queue_of_all_calls : IsQueue (waiting_calls calls)
    queue_of_all_calls = queue_of_calls (filter is_queued_call calls) 0 high (dated_filter date_of_call is_queued_call calls 0 high c)

    pub queue_in_order : IsQueue (items_in_order calls notices)
    queue_in_order =
        queue-with_notices (waiting_notices notices) (waiting_calls calls) (notices_kind (filter is_waiting_notice notices))
        queue_of_all_calls

    pub notices_in_order : filter is_notice_waiting (items_in_order calls notices) ≡ waiting_notices notices
    notices_in_order =
        notices-with_notices 0 high (waiting_notices notices) (waiting_calls calls) (notices_kind (filter is_waiting_notice notices))
        (dated_notices (filter is_waiting_notice notices) 0 high (dated_filter date_of_notice is_waiting_notice notices 0 high n))
        queue_of_all_calls
        (calls_up_to 0 (filter is_queued_call calls))
        ∙ ap (λ ws. ws ++ waiting_notices notices) (calls_are_none (filter is_queued_call calls))

-- of one pool

abbrev pub is_served_in : List Door → Pool → Waiting → Bool
is_served_in doors pool w = is_pool pool (pool_in (at_number doors w.door))

pub filter_both : {X : Type 0} (p q : X → Bool) (xs : List X) → filter p (filter q xs) ≡ filter q (filter p xs)
filter_both p q [] = refl
filter_both p q (x ∷ xs) = go (p x) refl (q x) refl (filter_both p q xs)
  where
    go :
        (b : Bool) → p x ≡ b → (c : Bool) → q x ≡ c → filter p (filter q xs) ≡ filter q (filter p xs) →
        filter p (if c then x ∷ filter q xs else filter q xs) ≡ filter q (if b then x ∷ filter p xs else filter p xs)
    go true e true f ih =
        ap (λ b. if b then x ∷ filter p (filter q xs) else filter p (filter q xs)) e
        ∙ ap (λ ys. x ∷ ys) ih
        ∙ sym (ap (λ b. if b then x ∷ filter q (filter p xs) else filter q (filter p xs)) f)
    go true e false f ih = ih ∙ sym (ap (λ b. if b then x ∷ filter q (filter p xs) else filter q (filter p xs)) f)
    go false e true f ih = ap (λ b. if b then x ∷ filter p (filter q xs) else filter p (filter q xs)) e ∙ ih
    go false e false f ih = ih

of_pool :
    {X : Type 0} (kind : Kind X) (doors : List Door) (pool : Pool) (xs : List X) →
    filter (is_served_in doors pool) (every_waiting kind xs) ≡ all_waiting kind doors pool xs
of_pool kind doors pool [] = refl
of_pool kind doors pool (x ∷ xs) =
    go (kind.waits x) (is_pool pool (pool_in (at_number doors (kind.door x)))) refl (of_pool kind doors pool xs)
  where
    served : List Waiting
    served = filter (is_served_in doors pool) (every_waiting kind xs)

    go :
        (b c : Bool) → is_pool pool (pool_in (at_number doors (kind.door x))) ≡ c → served ≡ all_waiting kind doors pool xs →
        filter (is_served_in doors pool) (map (waiting kind) (if b then x ∷ filter kind.waits xs else filter kind.waits xs))
        ≡ map (waiting kind) (if b && c then x ∷ filter (waits_in kind doors pool) xs else filter (waits_in kind doors pool) xs)
    go false c e ih = ih
    go true true e ih = ap (λ b. if b then waiting kind x ∷ served else served) e ∙ ap (λ ws. waiting kind x ∷ ws) ih
    go true false e ih = ap (λ b. if b then waiting kind x ∷ served else served) e ∙ ih

-- a pool holds what waits at the doors that it serves, in order
pub queue_is :
    {k : ℕ} {table : ProcessTable} {doors : List Door} {tree : CallTree} {list : NoticeList} {v : PoolsValue} →
    Agrees k table doors tree list v → (pool : Pool) →
    filter (is_served_in doors pool) (items_in_order tree.calls list.notices) ≡ queue_in v pool
queue_is {k} {table} {doors} {tree} {list} {v} h pool =
    same_queue (filter (is_served_in doors pool) (items_in_order tree.calls list.notices)) (queue_in v pool)
    (ordered_filter WaitsBefore (is_served_in doors pool) (items_in_order tree.calls list.notices)
    (queue_in_order tree.calls list.notices k h.call_dates h.notice_dates))
    (h.queues pool).in_order
    (filter_both is_waiting_call (is_served_in doors pool) (items_in_order tree.calls list.notices)
    ∙ ap (filter (is_served_in doors pool)) (calls_in_order tree.calls list.notices)
    ∙ of_pool call_kind doors pool tree.calls
    ∙ sym (h.queues pool).calls_wait)
    (filter_both is_notice_waiting (is_served_in doors pool) (items_in_order tree.calls list.notices)
    ∙ ap (filter (is_served_in doors pool)) (notices_in_order tree.calls list.notices k h.call_dates h.notice_dates)
    ∙ of_pool notice_kind doors pool list.notices
    ∙ sym (h.queues pool).notices_wait)
