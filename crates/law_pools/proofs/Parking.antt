-- The stack of a pool after one thread parked or left, or was in no pool before or after.
use Rattle.std.proofs.Common.{◌≡◌, inl, inr, ⊎_elim, ℕ, ◌-◌, ◌<◌, ◌≤◌, ◌==◌, Bool, true, false, not, if◌then◌else◌, List, [], ◌∷◌, ◌++◌, Option, Some, None, filter, length, take, slice_get, refl, sym, ap, ◌∙◌, subst, true≢false, length-append, arith}
use Rattle.std.proofs.Math.Seq.{take-append_seam}
use Rattle.std.specs.List.{AllByRecursion}
use Rattle.std.proofs.lemmas.Bool.Decides.{nat_tests}
use Rattle.spec_records.specs.declared.pool.Parked.{Parked}
use Rattle.spec_records.specs.declared.pool.Pool.{Pool}
use Rattle.spec_records.specs.Words.{ProcessTable, is_pool, parked_at}
use Rattle.server_pool.specs.Words.{AllParkedBefore, IsOrderedBy, IsStack, ParkedBefore, is_another_thread, pick_of, without_thread}
use Rattle.server_pool.proofs.Order.{ordered_filter, ordered_push}
use Rattle.spec_kernel.proofs.Places.{IsIn, place_of}
use Rattle.law_pools.specs.Words.{IsListed, IsParkedIn, IsStackOf}
use Rattle.law_pools.proofs.Parked.{all_in, in_all, in_at, in_front, in_last, in_push, not_both, parked_number, top_of_stack, top_unique}
use Rattle.law_pools.proofs.Readers.{same_number}

-- the same, where no place matters
record IsStacked (table : ProcessTable) (bindings : List (Option ℕ)) (latest : ℕ) (pool : Pool) (stack : List Parked) : Type 0 where
  parked : (x : Parked) → IsIn x stack → IsParkedIn table bindings latest pool x
  all : (t : ℕ) (x : Parked) → parked_at table bindings t ≡ Some x → is_pool pool x.pool ≡ true → IsIn x stack
  in_order : IsStack stack

to_stacked :
    (table : ProcessTable) (bindings : List (Option ℕ)) (latest : ℕ) (pool : Pool) (stack : List Parked) →
    IsStackOf table bindings latest pool stack → IsStacked table bindings latest pool stack
to_stacked table bindings latest pool stack h =
    record {
      parked = λ x k. let p : (i : ℕ) × (slice_get stack i ≡ Some x) = place_of x stack k in h.parked p.0 x p.1;
      all = λ t x e f. let p : IsListed stack x = h.all t x e f in in_at stack p.place x p.there;
      in_order = h.in_order;
    }

from_stacked :
    (table : ProcessTable) (bindings : List (Option ℕ)) (latest : ℕ) (pool : Pool) (stack : List Parked) →
    IsStacked table bindings latest pool stack → IsStackOf table bindings latest pool stack
from_stacked table bindings latest pool stack h =
    record {
      parked = λ i x e. h.parked x (in_at stack i x e);
      all =
          λ t x e f.
          let p : (i : ℕ) × (slice_get stack i ≡ Some x) = place_of x stack (h.all t x e f) in
          record { place = p.0; there = p.1 };
      in_order = h.in_order;
    }

-- with a later event after which none parked
pub stack_later :
    (table : ProcessTable) (bindings : List (Option ℕ)) (n k : ℕ) (pool : Pool) (stack : List Parked) → n ≤ k →
    IsStackOf table bindings n pool stack → IsStackOf table bindings k pool stack
stack_later table bindings n k pool stack l h =
    record {
      parked =
          λ i x e. let p = h.parked i x e in record { parked = p.parked; same_pool = p.same_pool; since = omega (arith, p.since) };
      all = h.all;
      in_order = h.in_order;
    }

-- what the records say of parked threads, where it differs for one thread at most
pub record IsParkedAlikeBut (t : ℕ) (table : ProcessTable) (bindings : List (Option ℕ)) (after : ProcessTable) (bound : List (Option ℕ)) : Type 0 where
  pub others : (u : ℕ) → (u == t) ≡ false → parked_at after bound u ≡ parked_at table bindings u

pub record IsElsewhere (table : ProcessTable) (bindings : List (Option ℕ)) (t : ℕ) (pool : Pool) : Type 0 where
  pub other_pool : (x : Parked) → parked_at table bindings t ≡ Some x → is_pool pool x.pool ≡ false

pub nowhere : (table : ProcessTable) (bindings : List (Option ℕ)) (t : ℕ) (pool : Pool) → parked_at table bindings t ≡ None → IsElsewhere table bindings t pool
nowhere table bindings t pool e = record { other_pool = λ x f. cc }

module _
    (t : ℕ) (table : ProcessTable) (bindings : List (Option ℕ)) (after : ProcessTable) (bound : List (Option ℕ)) (n k : ℕ) (pool : Pool)
    (stack : List Parked) (alike : IsParkedAlikeBut t table bindings after bound) (h : IsStackOf table bindings n pool stack) where
  -- a thread of the stack that is not t is parked as before
  still_parked : (x : Parked) → n ≤ k → (x.thread.0 == t) ≡ false → IsParkedIn table bindings n pool x → IsParkedIn after bound k pool x
  still_parked x l other p =
      record { parked = alike.others x.thread.0 other ∙ p.parked; same_pool = p.same_pool; since = omega (arith, p.since) }

  pub stack_kept :
      n ≤ k → IsElsewhere table bindings t pool → IsElsewhere after bound t pool → IsStackOf after bound k pool stack
  stack_kept l before later =
      record {
        parked = λ i x e. in_stack x (x.thread.0 == t) refl (h.parked i x e);
        all = λ u x e f. listed u x (u == t) refl e f;
        in_order = h.in_order;
      }
    where
      in_stack : (x : Parked) (b : Bool) → (x.thread.0 == t) ≡ b → IsParkedIn table bindings n pool x → IsParkedIn after bound k pool x
      in_stack x false e p = still_parked x l e p
      in_stack x true e p =
          let there : parked_at table bindings t ≡ Some x = ap (parked_at table bindings) (sym (same_number x.thread.0 t e)) ∙ p.parked in
          absurd (true≢false (sym p.same_pool ∙ before.other_pool x there))

      listed :
          (u : ℕ) (x : Parked) (b : Bool) → (u == t) ≡ b → parked_at after bound u ≡ Some x → is_pool pool x.pool ≡ true → IsListed stack x
      listed u x false e f g = h.all u x (sym (alike.others u e) ∙ f) g
      listed u x true e f g =
          let there : parked_at after bound t ≡ Some x = ap (parked_at after bound) (sym (same_number u t e)) ∙ f in
          absurd (true≢false (sym g ∙ later.other_pool x there))

  pub all_before : (y : Parked) → n < y.since → AllParkedBefore stack y
  all_before y l =
      let s : IsStacked table bindings n pool stack = to_stacked table bindings n pool stack h in
      all_in (λ x. ParkedBefore x y) stack (λ x m. let p : IsParkedIn table bindings n pool x = s.parked x m in inl (omega (arith, p.since)))

  pub stack_pushed_after :
      (y : Parked) → parked_at table bindings t ≡ None → parked_at after bound t ≡ Some y → is_pool pool y.pool ≡ true → AllParkedBefore stack y →
      n ≤ k → y.since ≤ k → IsStackOf after bound k pool (stack ++ y ∷ [])
  stack_pushed_after y before later here above l m =
      from_stacked after bound k pool (stack ++ y ∷ [])
      (record {
        parked = λ x i. ⊎_elim (λ j. old x (x.thread.0 == t) refl (s.parked x j)) new (in_push stack x y i);
        all = λ u x e f. listed u x (u == t) refl e f;
        in_order = ordered_push ParkedBefore stack y h.in_order above;
      })
    where
      s : IsStacked table bindings n pool stack
      s = to_stacked table bindings n pool stack h

      old : (x : Parked) (b : Bool) → (x.thread.0 == t) ≡ b → IsParkedIn table bindings n pool x → IsParkedIn after bound k pool x
      old x false e p = still_parked x l e p
      old x true e p =
          let there : parked_at table bindings t ≡ Some x = ap (parked_at table bindings) (sym (same_number x.thread.0 t e)) ∙ p.parked in
          absurd cc

      top : IsParkedIn after bound k pool y
      top = record { parked = ap (parked_at after bound) (parked_number after bound t y later) ∙ later; same_pool = here; since = m }

      new : {x : Parked} → x ≡ y → IsParkedIn after bound k pool x
      new e = subst (IsParkedIn after bound k pool) (sym e) top

      listed :
          (u : ℕ) (x : Parked) (b : Bool) → (u == t) ≡ b → parked_at after bound u ≡ Some x → is_pool pool x.pool ≡ true →
          IsIn x (stack ++ y ∷ [])
      listed u x false e f g = in_front stack x y (s.all u x (sym (alike.others u e) ∙ f) g)
      listed u x true e f g =
          let there : parked_at after bound t ≡ Some x = ap (parked_at after bound) (sym (same_number u t e)) ∙ f in
          let same : y ≡ x = cc in
          subst (λ z. IsIn z (stack ++ y ∷ [])) same (in_last stack y)

  pub stack_pushed :
      (y : Parked) → parked_at table bindings t ≡ None → parked_at after bound t ≡ Some y → is_pool pool y.pool ≡ true → n < y.since →
      y.since ≤ k → IsStackOf after bound k pool (stack ++ y ∷ [])
  stack_pushed y before later here l m = stack_pushed_after y before later here (all_before y l) (omega arith) m

-- the last of a list

split_last : {X : Type 0} (y : X) (ys : List X) → (zs : List X) × (w : X) × (y ∷ ys ≡ zs ++ w ∷ [])
split_last y [] = ([], y, refl)
split_last y (z ∷ zs) =
    let s : (us : List _) × (w : _) × (z ∷ zs ≡ us ++ w ∷ []) = split_last z zs in
    (y ∷ s.0, s.1, ap (λ us. y ∷ us) s.2)

without_last : {X : Type 0} (zs : List X) (w : X) → take (length (zs ++ w ∷ []) - 1) (zs ++ w ∷ []) ≡ zs
without_last zs w =
    let e : length (zs ++ w ∷ []) - 1 ≡ length zs = grind (arith, length-append zs (w ∷ [])) in
    ap (λ m. take m (zs ++ w ∷ [])) e ∙ take-append_seam zs (w ∷ [])

all_front : {X : Type 0} (P : X → Type 0) (xs : List X) (y : X) → AllByRecursion P (xs ++ y ∷ []) → AllByRecursion P xs
all_front P [] y a = tt
all_front P (x ∷ xs) y a = (a.0, all_front P xs y a.1)

all_last : {X : Type 0} (P : X → Type 0) (xs : List X) (y : X) → AllByRecursion P (xs ++ y ∷ []) → P y
all_last P [] y a = a.0
all_last P (x ∷ xs) y a = all_last P xs y a.1

ordered_front : {X : Type 0} (Before : X → X → Type 0) (xs : List X) (y : X) → IsOrderedBy Before (xs ++ y ∷ []) → IsOrderedBy Before xs
ordered_front Before [] y o = tt
ordered_front Before (x ∷ xs) y o = (all_front (Before x) xs y o.0, ordered_front Before xs y o.1)

ordered_last :
    {X : Type 0} (Before : X → X → Type 0) (xs : List X) (y : X) → IsOrderedBy Before (xs ++ y ∷ []) → AllByRecursion (λ x. Before x y) xs
ordered_last Before [] y o = tt
ordered_last Before (x ∷ xs) y o = (all_last (Before x) xs y o.0, ordered_last Before xs y o.1)

-- items of a list that pass a test

in_filter : {X : Type 0} (p : X → Bool) (xs : List X) (x : X) → IsIn x (filter p xs) → IsIn x xs × (p x ≡ true)
in_filter p [] x h = absurd h
in_filter {X} p (y ∷ ys) x h = go (p y) refl (in_filter p ys x) h
  where
    go :
        (b : Bool) → p y ≡ b → (IsIn x (filter p ys) → IsIn x ys × (p x ≡ true)) → IsIn x (if b then y ∷ filter p ys else filter p ys) →
        IsIn x (y ∷ ys) × (p x ≡ true)
    go true e ih (inl f) = (inl f, ap p f ∙ e)
    go true e ih (inr k) = let r : IsIn x ys × (p x ≡ true) = ih k in (inr r.0, r.1)
    go false e ih k = let r : IsIn x ys × (p x ≡ true) = ih k in (inr r.0, r.1)

pub to_filter : {X : Type 0} (p : X → Bool) (xs : List X) (x : X) → IsIn x xs → p x ≡ true → IsIn x (filter p xs)
to_filter p [] x h e = absurd h
to_filter p (y ∷ ys) x h e = go (p y) refl h (λ k. to_filter p ys x k e)
  where
    go :
        (b : Bool) → p y ≡ b → IsIn x (y ∷ ys) → (IsIn x ys → IsIn x (filter p ys)) → IsIn x (if b then y ∷ filter p ys else filter p ys)
    go true f (inl k) ih = inl k
    go true f (inr k) ih = inr (ih k)
    go false f (inl k) ih = absurd (true≢false (sym e ∙ ap p k ∙ f))
    go false f (inr k) ih = ih k

-- a thread leaves, wherever it stands, or the one on top
module _
    (t : ℕ) (table : ProcessTable) (bindings : List (Option ℕ)) (after : ProcessTable) (bound : List (Option ℕ)) (n : ℕ) (pool : Pool)
    (alike : IsParkedAlikeBut t table bindings after bound) where
  stack_less :
      (zs : List Parked) (w : Parked) → w.thread.0 ≡ t → parked_at after bound t ≡ None → IsStackOf table bindings n pool (zs ++ w ∷ []) →
      IsStackOf after bound n pool zs
  stack_less zs w number gone h =
      from_stacked after bound n pool zs
      (record {
        parked = λ x i. other x (x.thread.0 == t) refl i (s.parked x (in_front zs x w i));
        all = λ u x e f. listed u x (u == t) refl e f;
        in_order = ordered_front ParkedBefore zs w h.in_order;
      })
    where
      s : IsStacked table bindings n pool (zs ++ w ∷ [])
      s = to_stacked table bindings n pool (zs ++ w ∷ []) h

      top : IsParkedIn table bindings n pool w
      top = s.parked w (in_last zs w)

      other :
          (x : Parked) (b : Bool) → (x.thread.0 == t) ≡ b → IsIn x zs → IsParkedIn table bindings n pool x → IsParkedIn after bound n pool x
      other x false e i p =
          record { parked = alike.others x.thread.0 e ∙ p.parked; same_pool = p.same_pool; since = p.since }
      other x true e i p =
          let number_too : x.thread.0 ≡ w.thread.0 = same_number x.thread.0 t e ∙ sym number in
          let before : ParkedBefore x w = in_all (λ z. ParkedBefore z w) zs x (ordered_last ParkedBefore zs w h.in_order) i in
          let same : Some x ≡ Some w = sym p.parked ∙ ap (parked_at table bindings) number_too ∙ top.parked in
          let same' : x ≡ w = cc in
          absurd (not_both x w before (subst (λ z. ParkedBefore w z) (sym same') (subst (λ z. ParkedBefore z w) same' before)))

      listed :
          (u : ℕ) (x : Parked) (b : Bool) → (u == t) ≡ b → parked_at after bound u ≡ Some x → is_pool pool x.pool ≡ true → IsIn x zs
      listed u x true e f g = absurd (none (parked_at after bound u) (ap (parked_at after bound) (same_number u t e) ∙ gone) f)
        where
          none : (o : Option Parked) → o ≡ None → o ≡ Some x → ⊥
          none o a b = cc
      listed u x false e f g =
          let there : parked_at table bindings u ≡ Some x = sym (alike.others u e) ∙ f in
          ⊎_elim (λ i. i) (λ m. absurd (apart m there)) (in_push zs x w (s.all u x there g))
        where
          apart : x ≡ w → parked_at table bindings u ≡ Some x → ⊥
          apart m there =
              let place : x.thread.0 ≡ u = parked_number table bindings u x there in
              let place_too : x.thread.0 ≡ t = ap (λ (z : Parked). z.thread.0) m ∙ number in
              grind (arith, nat_tests)

  pub stack_popped :
      (stack : List Parked) (x : Parked) → IsStackOf table bindings n pool stack → pick_of stack ≡ Some x → x.thread.0 ≡ t →
      parked_at after bound t ≡ None → IsStackOf after bound n pool (take (length stack - 1) stack)
  stack_popped [] x h e number gone = cc
  stack_popped (y ∷ ys) x h e number gone =
      let s : (zs : List Parked) × (w : Parked) × (y ∷ ys ≡ zs ++ w ∷ []) = split_last y ys in
      let k : IsStackOf table bindings n pool (s.0 ++ s.1 ∷ []) = subst (IsStackOf table bindings n pool) s.2 h in
      let p : Some x ≡ Some s.1 = sym e ∙ ap pick_of s.2 ∙ pick_last s.0 s.1 k.in_order in
      let same : x ≡ s.1 = cc in
      subst (IsStackOf after bound n pool) (sym (without_last s.0 s.1) ∙ ap (λ us. take (length us - 1) us) (sym s.2))
      (stack_less s.0 s.1 (ap (λ (z : Parked). z.thread.0) (sym same) ∙ number) gone k)
    where
      pick_last : (zs : List Parked) (w : Parked) → IsStack (zs ++ w ∷ []) → pick_of (zs ++ w ∷ []) ≡ Some w
      pick_last zs w o =
          top_unique (λ z. IsIn z (zs ++ w ∷ [])) (λ z. IsIn z (zs ++ w ∷ [])) (pick_of (zs ++ w ∷ [])) (Some w) (λ z i. i) (λ z i. i)
          (top_of_stack (zs ++ w ∷ []) o) (
            in_last zs w,
            λ z i. ⊎_elim (λ j. inr (in_all (λ v. ParkedBefore v w) zs z (ordered_last ParkedBefore zs w o) j)) inl (in_push zs z w i),
          )

  pub stack_without :
      (stack : List Parked) → parked_at after bound t ≡ None → IsStackOf table bindings n pool stack →
      IsStackOf after bound n pool (without_thread t stack)
  stack_without stack gone h =
      from_stacked after bound n pool (without_thread t stack)
      (record {
        parked =
            λ x i.
            let both : IsIn x stack × (not (x.thread.0 == t) ≡ true) = in_filter (is_another_thread t) stack x i in
            other x (x.thread.0 == t) refl both.1 (s.parked x both.0);
        all = λ u x e f. listed u x (u == t) refl e f;
        in_order = ordered_filter ParkedBefore (is_another_thread t) stack h.in_order;
      })
    where
      s : IsStacked table bindings n pool stack
      s = to_stacked table bindings n pool stack h

      other :
          (x : Parked) (b : Bool) → (x.thread.0 == t) ≡ b → not (x.thread.0 == t) ≡ true → IsParkedIn table bindings n pool x →
          IsParkedIn after bound n pool x
      other x false e k p =
          record { parked = alike.others x.thread.0 e ∙ p.parked; same_pool = p.same_pool; since = p.since }
      other x true e k p = absurd (true≢false (sym k ∙ ap not e))

      listed :
          (u : ℕ) (x : Parked) (b : Bool) → (u == t) ≡ b → parked_at after bound u ≡ Some x → is_pool pool x.pool ≡ true →
          IsIn x (without_thread t stack)
      listed u x true e f g = absurd (none (parked_at after bound u) (ap (parked_at after bound) (same_number u t e) ∙ gone) f)
        where
          none : (o : Option Parked) → o ≡ None → o ≡ Some x → ⊥
          none o a b = cc
      listed u x false e f g =
          let there : parked_at table bindings u ≡ Some x = sym (alike.others u e) ∙ f in
          to_filter (is_another_thread t) stack x (s.all u x there g)
          (ap (λ k. not (k == t)) (parked_number table bindings u x there) ∙ ap not e)
