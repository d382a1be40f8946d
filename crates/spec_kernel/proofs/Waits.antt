-- What waits: the calls that are queued, and the notices that wait.
use Rattle.std.proofs.Common.{◌≡◌, Bool, true, false, if◌then◌else◌, nat_le, List, [], ◌∷◌, map, filter, refl, sym, subst, true≢false, ap, ◌∙◌, ◌⊎◌, inl, inr, ⊎_elim}
use Rattle.spec_kernel.specs.Types.{Call, Notice, Waiting}
use Rattle.spec_records.specs.Words.{is_queued, is_queued_call, is_waiting_notice, waiting_call, waiting_notice, with_notice, with_notices}
use Rattle.spec_kernel.specs.State.{State, waiting_items}
use Rattle.spec_kernel.proofs.Places.{IsIn}

-- a notice among what waits

in_notice : (ws : List Waiting) (n v : Waiting) → IsIn v ws → IsIn v (with_notice ws n)
in_notice [] n v h = absurd h
in_notice (w ∷ ws) n v h = go (nat_le w.made n.made) (in_notice ws n v) h
  where
    go : (b : Bool) → (IsIn v ws → IsIn v (with_notice ws n)) → (v ≡ w) ⊎ IsIn v ws → IsIn v (if b then w ∷ with_notice ws n else n ∷ w ∷ ws)
    go true ih (inl k) = inl k
    go true ih (inr k) = inr (ih k)
    go false ih k = inr k

notice_there : (ws : List Waiting) (n : Waiting) → IsIn n (with_notice ws n)
notice_there [] n = inl refl
notice_there (w ∷ ws) n = go (nat_le w.made n.made) (notice_there ws n)
  where
    go : (b : Bool) → IsIn n (with_notice ws n) → IsIn n (if b then w ∷ with_notice ws n else n ∷ w ∷ ws)
    go true ih = inr ih
    go false ih = inl refl

from_notice : (ws : List Waiting) (n v : Waiting) → IsIn v (with_notice ws n) → (v ≡ n) ⊎ IsIn v ws
from_notice [] n v (inl e) = inl e
from_notice [] n v (inr k) = absurd k
from_notice (w ∷ ws) n v h = go (nat_le w.made n.made) (from_notice ws n v) h
  where
    go :
        (b : Bool) → (IsIn v (with_notice ws n) → (v ≡ n) ⊎ IsIn v ws) →
        IsIn v (if b then w ∷ with_notice ws n else n ∷ w ∷ ws) → (v ≡ n) ⊎ IsIn v (w ∷ ws)
    go true ih (inl e) = inr (inl e)
    go true ih (inr k) = ⊎_elim inl (λ l. inr (inr l)) (ih k)
    go false ih k = k

in_notices : (ws ns : List Waiting) (v : Waiting) → IsIn v ws → IsIn v (with_notices ws ns)
in_notices ws [] v h = h
in_notices ws (n ∷ ns) v h = in_notices (with_notice ws n) ns v (in_notice ws n v h)

notices_there : (ws ns : List Waiting) (v : Waiting) → IsIn v ns → IsIn v (with_notices ws ns)
notices_there ws [] v h = absurd h
notices_there ws (n ∷ ns) v (inl e) =
    in_notices (with_notice ws n) ns v (subst (λ x. IsIn x (with_notice ws n)) (sym e) (notice_there ws n))
notices_there ws (n ∷ ns) v (inr k) = notices_there (with_notice ws n) ns v k

from_notices : (ws ns : List Waiting) (v : Waiting) → IsIn v (with_notices ws ns) → IsIn v ws ⊎ IsIn v ns
from_notices ws [] v h = inl h
from_notices ws (n ∷ ns) v h =
    ⊎_elim (λ k. ⊎_elim (λ e. inr (inl e)) inl (from_notice ws n v k)) (λ k. inr (inr k)) (from_notices (with_notice ws n) ns v h)

-- an item that passes a test
pub record Passes {X : Type 0} (p : X → Bool) (xs : List X) (x : X) : Type 0 where
  pub is_in : IsIn x xs
  pub passes : p x ≡ true

in_filter : {X : Type 0} (p : X → Bool) (xs : List X) (x : X) → Passes p xs x → IsIn x (filter p xs)
in_filter p [] x h = h.is_in
in_filter p (y ∷ ys) x h = go (p y) refl (λ k. in_filter p ys x (record { is_in = k; passes = h.passes })) h.is_in
  where
    go :
        (b : Bool) → p y ≡ b → (IsIn x ys → IsIn x (filter p ys)) → (x ≡ y) ⊎ IsIn x ys →
        IsIn x (if b then y ∷ filter p ys else filter p ys)
    go true e ih (inl k) = inl k
    go true e ih (inr k) = inr (ih k)
    go false e ih (inl k) = absurd (true≢false (sym h.passes ∙ ap p k ∙ e))
    go false e ih (inr k) = ih k

pub from_filter : {X : Type 0} (p : X → Bool) (xs : List X) (x : X) → IsIn x (filter p xs) → Passes p xs x
from_filter p [] x h = absurd h
from_filter p (y ∷ ys) x h = go (p y) refl (from_filter p ys x) h
  where
    go :
        (b : Bool) → p y ≡ b → (IsIn x (filter p ys) → Passes p ys x) → IsIn x (if b then y ∷ filter p ys else filter p ys) →
        Passes p (y ∷ ys) x
    go true e ih (inl k) = record { is_in = inl k; passes = ap p k ∙ e }
    go true e ih (inr k) = record { is_in = inr (ih k).is_in; passes = (ih k).passes }
    go false e ih k = record { is_in = inr (ih k).is_in; passes = (ih k).passes }

in_map : {X Y : Type 0} (f : X → Y) (xs : List X) (x : X) → IsIn x xs → IsIn (f x) (map f xs)
in_map f [] x h = h
in_map f (y ∷ ys) x (inl e) = inl (ap f e)
in_map f (y ∷ ys) x (inr k) = inr (in_map f ys x k)

from_map : {X Y : Type 0} (f : X → Y) (xs : List X) (v : Y) → IsIn v (map f xs) → (x : X) × IsIn x xs × (v ≡ f x)
from_map f [] v h = absurd h
from_map f (y ∷ ys) v (inl e) = (y, inl refl, e)
from_map f (y ∷ ys) v (inr k) =
    let x : (x : _) × IsIn x ys × (v ≡ f x) = from_map f ys v k in (x.0, inr x.1, x.2)

-- what waits is a call that is queued, or a notice that waits

pub in_waits : (m : State) (r : Call) → is_queued r.stage ≡ true → IsIn r m.call_tree.calls → IsIn (waiting_call r) (waiting_items m)
in_waits m r q h =
    in_notices
    (map waiting_call (filter is_queued_call m.call_tree.calls))
    (map waiting_notice (filter is_waiting_notice m.notice_list.notices))
    (waiting_call r)
    (in_map waiting_call (filter is_queued_call m.call_tree.calls) r
    (in_filter is_queued_call m.call_tree.calls r (record { is_in = h; passes = q })))

pub in_waits-notice :
    (m : State) (n : Notice) → is_waiting_notice n ≡ true → IsIn n m.notice_list.notices → IsIn (waiting_notice n) (waiting_items m)
in_waits-notice m n q h =
    notices_there
    (map waiting_call (filter is_queued_call m.call_tree.calls))
    (map waiting_notice (filter is_waiting_notice m.notice_list.notices))
    (waiting_notice n)
    (in_map waiting_notice (filter is_waiting_notice m.notice_list.notices) n
    (in_filter is_waiting_notice m.notice_list.notices n (record { is_in = h; passes = q })))

pub record IsWaitingCall (m : State) (v : Waiting) (r : Call) : Type 0 where
  pub is_in : IsIn r m.call_tree.calls
  pub queued : is_queued r.stage ≡ true
  pub same : v ≡ waiting_call r

pub record IsWaitingNotice (m : State) (v : Waiting) (n : Notice) : Type 0 where
  pub is_in : IsIn n m.notice_list.notices
  pub waiting : is_waiting_notice n ≡ true
  pub same : v ≡ waiting_notice n

abbrev pub IsWaiting : State → Waiting → Type 0
IsWaiting m v = ((r : Call) × IsWaitingCall m v r) ⊎ ((n : Notice) × IsWaitingNotice m v n)

pub from_waits : (m : State) (v : Waiting) → IsIn v (waiting_items m) → IsWaiting m v
from_waits m v h =
    ⊎_elim (λ k. inl (calls k)) (λ k. inr (notices k))
    (from_notices
    (map waiting_call (filter is_queued_call m.call_tree.calls))
    (map waiting_notice (filter is_waiting_notice m.notice_list.notices))
    v
    h)
  where
    calls : IsIn v (map waiting_call (filter is_queued_call m.call_tree.calls)) → (r : Call) × IsWaitingCall m v r
    calls k =
        let x : (r : Call) × IsIn r (filter is_queued_call m.call_tree.calls) × (v ≡ waiting_call r) =
        from_map waiting_call (filter is_queued_call m.call_tree.calls) v k in
        let y : Passes is_queued_call m.call_tree.calls x.0 = from_filter is_queued_call m.call_tree.calls x.0 x.1 in
        (x.0, record { is_in = y.is_in; queued = y.passes; same = x.2 })

    notices : IsIn v (map waiting_notice (filter is_waiting_notice m.notice_list.notices)) → (n : Notice) × IsWaitingNotice m v n
    notices k =
        let x : (n : Notice) × IsIn n (filter is_waiting_notice m.notice_list.notices) × (v ≡ waiting_notice n) =
        from_map waiting_notice (filter is_waiting_notice m.notice_list.notices) v k in
        let y : Passes is_waiting_notice m.notice_list.notices x.0 = from_filter is_waiting_notice m.notice_list.notices x.0 x.1 in
        (x.0, record { is_in = y.is_in; waiting = y.passes; same = x.2 })
