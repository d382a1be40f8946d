-- What is noted of threads, as one changes.
use Rattle.std.proofs.Common.{◌≡◌, ℕ, suc, ◌+◌, ◌-◌, ◌<◌, ◌==◌, Bool, true, false, if◌then◌else◌, List, [], ◌∷◌, ◌++◌, Some, Option, get_or, length, slice_set, refl, sym, ap, ◌∙◌, arith}
use Rattle.std.proofs.lemmas.Bool.Decides.{nat_tests}
use Rattle.dk_base.specs.ByNumber.{at_number, with_at_number}
use Rattle.spec_records.specs.declared.record.Thread.{Thread}
use Rattle.spec_records.specs.declared.record.ThreadState.{ThreadState}
use Rattle.spec_records.specs.Words.{ProcessTable, change_thread, change_thread_in, is_active, is_idle, state_in}
use Rattle.spec_records.proofs.Lists.{at_number-push, at_number-set, with_at_number-suc}
use Rattle.spec_records.proofs.Places.{numbered_here}
use Rattle.proc_table.specs.declared.standing.Standing.{Standing}
use Rattle.proc_table.specs.Standing.{AreNoted, IsNotedAt, goes_on, is_awaiting, is_getting}
use Rattle.dk_base.specs.declared.thread_set.ThreadSet.{ThreadSet}
use Rattle.dk_base.specs.Words.{has, with_thread}

by_test : (f : ThreadState → Bool) (x : Thread) (o : Option Thread) (b : Bool) → (if b then f x.state else f (state_in o)) ≡ f (state_in (if b then Some x else o))
by_test f x o true = refl
by_test f x o false = refl

-- one of the sets, by its test
module _ (f : ThreadState → Bool) (before after : ThreadSet) (xs : List Thread) (x : Thread) (here : (u : ℕ) → has before u ≡ f (state_in (at_number xs u))) where
  one_set :
      (t : ℕ) (ys : List Thread) → ((u : ℕ) → at_number ys u ≡ (if u == t then Some x else at_number xs u)) →
      ((u : ℕ) → has after u ≡ with_thread before t (f x.state) u) → (u : ℕ) → has after u ≡ f (state_in (at_number ys u))
  one_set t ys is noted u =
      noted u ∙ ap (λ (b : Bool). if u == t then f x.state else b) (here u) ∙ by_test f x (at_number xs u) (u == t)
      ∙ ap (λ (o : Option Thread). f (state_in o)) (sym (is u))

  one_same :
      (t : ℕ) (ys : List Thread) → ((u : ℕ) → at_number ys u ≡ (if u == t then Some x else at_number xs u)) → x.state ≡ state_in (at_number xs t) →
      (u : ℕ) → has before u ≡ f (state_in (at_number ys u))
  one_same t ys is same u = here u ∙ go (u == t) refl ∙ ap (λ (o : Option Thread). f (state_in o)) (sym (is u))
    where
      go : (b : Bool) → (u == t) ≡ b → f (state_in (at_number xs u)) ≡ f (state_in (if b then Some x else at_number xs u))
      go true e = let k : u ≡ t = grind (arith, nat_tests) in ap (λ n. f (state_in (at_number xs n))) k ∙ ap f (sym same)
      go false e = refl

module _ {s r : Standing} {xs : List Thread} (a : AreNoted s xs) where
  noted_as : (t : ℕ) (x : Thread) (ys : List Thread) → ((u : ℕ) → at_number ys u ≡ (if u == t then Some x else at_number xs u)) → IsNotedAt t x.state s r → AreNoted r ys
  noted_as t x ys is n =
      record {
        going = one_set goes_on s.going r.going xs x a.going t ys is n.going;
        awaiting = one_set is_awaiting s.awaiting r.awaiting xs x a.awaiting t ys is n.awaiting;
        getting = one_set is_getting s.getting r.getting xs x a.getting t ys is n.getting;
        idle = one_set is_idle s.idle r.idle xs x a.idle t ys is n.idle;
        active = one_set is_active s.active r.active xs x a.active t ys is n.active;
      }

  pub noted_set : (i t : ℕ) (x : Thread) → i < length xs → i + 1 ≡ t → IsNotedAt t x.state s r → AreNoted r (slice_set xs i x)
  noted_set i t x l e n =
      let k : suc i ≡ t = omega arith in
      noted_as t x (slice_set xs i x) (λ u. at_number-set xs i u x l ∙ ap (λ j. if u == j then Some x else at_number xs u) k) n

  pub noted_push : (t : ℕ) (x : Thread) → t ≡ length xs + 1 → IsNotedAt t x.state s r → AreNoted r (xs ++ x ∷ [])
  noted_push t x e n =
      let k : suc (length xs) ≡ t = omega arith in
      noted_as t x (xs ++ x ∷ []) (λ u. at_number-push xs x u ∙ ap (λ j. if u == j then Some x else at_number xs u) k) n

-- a change that leaves what the thread is at
pub noted_same : {s : Standing} {xs : List Thread} → AreNoted s xs → (i : ℕ) (x d : Thread) → i < length xs → x.state ≡ (get_or xs i d).state → AreNoted s (slice_set xs i x)
noted_same {s} {xs} a i x d l e =
    let is : (u : ℕ) → at_number (slice_set xs i x) u ≡ (if u == suc i then Some x else at_number xs u) = λ u. at_number-set xs i u x l in
    let there : x.state ≡ state_in (at_number xs (suc i)) = e ∙ ap state_in (sym (found i l)) in
    record {
      going = one_same goes_on s.going s.going xs x a.going (suc i) (slice_set xs i x) is there;
      awaiting = one_same is_awaiting s.awaiting s.awaiting xs x a.awaiting (suc i) (slice_set xs i x) is there;
      getting = one_same is_getting s.getting s.getting xs x a.getting (suc i) (slice_set xs i x) is there;
      idle = one_same is_idle s.idle s.idle xs x a.idle (suc i) (slice_set xs i x) is there;
      active = one_same is_active s.active s.active xs x a.active (suc i) (slice_set xs i x) is there;
    }
  where
    found : (i : ℕ) → i < length xs → at_number xs (suc i) ≡ Some (get_or xs i d)
    found i l = let k : suc i - 1 ≡ i = omega arith in numbered_here xs (suc i) d (omega arith) (omega arith) ∙ ap (λ j. Some (get_or xs j d)) k

-- the table of these threads, of which one is changed
pub changed :
    (table : ProcessTable) (f : Thread → Thread) (t i : ℕ) (d x : Thread) → i + 1 ≡ t → i < length table.threads → x ≡ f (get_or table.threads i d) →
    record table { threads = slice_set table.threads i x } ≡ change_thread table t f
changed table f t i d x e l is =
    let place : t - 1 ≡ i = omega arith in
    let there : at_number table.threads t ≡ Some (get_or table.threads i d) = numbered_here table.threads t d (omega arith) (omega arith) ∙ ap (λ j. Some (get_or table.threads j d)) place in
    let same : with_at_number table.threads t x ≡ slice_set table.threads i x = ap (λ n. with_at_number table.threads n x) (sym next) ∙ with_at_number-suc table.threads i x in
    ap (λ xs. record table { threads = xs }) (sym same) ∙ ap (λ y. record table { threads = with_at_number table.threads t y }) is ∙ sym (ap (change_thread_in table t f) there)
  where
    next : suc i ≡ t
    next = omega arith
