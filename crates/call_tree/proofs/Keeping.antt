-- What a write to the store does to the calls in their order.
use Rattle.std.proofs.Common.{◌≡◌, ◌≢◌, ◌<◌, ◌==◌, ℕ, zero, suc, true, false, List, [], ◌∷◌, ◌++◌, Option, Some, None, IsSome, cond, refl, sym, ap, ◌∙◌, arith, subst, inl, inr, get_or, remove, length, ◌+◌, is_some, count_by, set}
use Rattle.std.proofs.lemmas.List.Sums.{sum_by-cons}
use Rattle.std.specs.List.{position_or_len}
use Rattle.std.proofs.lemmas.Bool.{cases_eq}
use Rattle.std.proofs.lemmas.Bool.Decides.{nat_tests}
use Rattle.spec_records.specs.declared.record.Call.{Call}
use Rattle.call_tree.specs.Kept.{entries_of, look, HasKey, IsFresh, AreKept, with_call, without_key}

pub test_same : (k : ℕ) → (k == k) ≡ true
test_same k = grind (arith, nat_tests)

pub test_other : (x k : ℕ) → x ≢ k → (x == k) ≡ false
test_other x k n = grind (arith, nat_tests)

pub absent_fresh : (f : ℕ → Option Call) (k : ℕ) (ks : List ℕ) → f k ≡ None → AreKept f ks → IsFresh k ks
absent_fresh f k [] e h = tt
absent_fresh f k (x ∷ xs) e h = (λ z. grind (arith, h.0, ap f z), absent_fresh f k xs e h.2)

same_entries : (f g : ℕ → Option Call) (k : ℕ) (ks : List ℕ) → ((x : ℕ) → x ≢ k → g x ≡ f x) → IsFresh k ks → entries_of g ks ≡ entries_of f ks
same_entries f g k [] o h = refl
same_entries f g k (x ∷ xs) o h = rw (o x h.0, same_entries f g k xs o h.1) refl

same_kept : (f g : ℕ → Option Call) (k : ℕ) (ks : List ℕ) → ((x : ℕ) → x ≢ k → g x ≡ f x) → IsFresh k ks → AreKept f ks → AreKept g ks
same_kept f g k [] o n h = tt
same_kept f g k (x ∷ xs) o n h = (subst IsSome (sym (o x n.0)) h.0, h.1, same_kept f g k xs o n.1 h.2)

pub look_fresh : (f : ℕ → Option Call) (k : ℕ) (ks : List ℕ) → IsFresh k ks → look k (entries_of f ks) ≡ None
look_fresh f k [] h = refl
look_fresh f k (x ∷ xs) h = grind (arith, nat_tests, h.0, look_fresh f k xs h.1)

fresh_push : (k x : ℕ) (ks : List ℕ) → x ≢ k → IsFresh k ks → IsFresh k (ks ++ x ∷ [])
fresh_push k x [] n h = (n, tt)
fresh_push k x (y ∷ ys) n h = (h.0, fresh_push k x ys n h.1)

module _ (f g : ℕ → Option Call) (k : ℕ) (r : Call) (new : g k ≡ Some r) (others : (x : ℕ) → x ≢ k → g x ≡ f x) where
  pushed_entries : (ks : List ℕ) → IsFresh k ks → entries_of g (ks ++ k ∷ []) ≡ entries_of f ks ++ (k, r) ∷ []
  pushed_entries [] h = rw new refl
  pushed_entries (x ∷ xs) h = grind (arith, others x h.0, pushed_entries xs h.1)

  pushed_kept : (ks : List ℕ) → IsFresh k ks → AreKept f ks → AreKept g (ks ++ k ∷ [])
  pushed_kept [] n h = (subst IsSome (sym new) refl, tt, tt)
  pushed_kept (x ∷ xs) n h = (subst IsSome (sym (others x n.0)) h.0, fresh_push x k xs (λ e. n.0 (sym e)) h.1, pushed_kept xs n.1 h.2)

  pub push_entries : (ks : List ℕ) → f k ≡ None → AreKept f ks → entries_of g (ks ++ k ∷ []) ≡ entries_of f ks ++ (k, r) ∷ []
  push_entries ks e h = pushed_entries ks (absent_fresh f k ks e h)

  pub push_kept : (ks : List ℕ) → f k ≡ None → AreKept f ks → AreKept g (ks ++ k ∷ [])
  push_kept ks e h = pushed_kept ks (absent_fresh f k ks e h) h

  -- a write at a key
  pub written_entries : (ks : List ℕ) → AreKept f ks → entries_of g ks ≡ with_call k r (entries_of f ks)
  written_entries [] h = refl
  written_entries (x ∷ xs) h = elim (cases_eq x k) [
    | inl e ↦
        let same = same_entries f g k xs others (subst (λ z. IsFresh z xs) e h.1) in
        grind (arith, nat_tests, e, new, h.0, same)
    | inr n ↦ grind (arith, nat_tests, n, others x n, written_entries xs h.2)
  ]

  pub written_kept : (ks : List ℕ) → AreKept f ks → AreKept g ks
  written_kept [] h = tt
  written_kept (x ∷ xs) h = (grind (arith, cases_eq x k, new, others x, h.0), h.1, written_kept xs h.2)

-- what a key finds
pub found_at : (f : ℕ → Option Call) (k : ℕ) (ks : List ℕ) → HasKey (entries_of f ks) k → look k (entries_of f ks) ≡ f k
found_at f k [] h = absurd (cc)
found_at f k (x ∷ xs) h =
    let ih : HasKey (entries_of f xs) k → look k (entries_of f xs) ≡ f k = λ q. found_at f k xs q in grind (arith, nat_tests, cases_eq x k, ih)

-- a call that goes
module _ (f g : ℕ → Option Call) (k : ℕ) (others : (x : ℕ) → x ≢ k → g x ≡ f x) where
  past : (x : ℕ) (xs : List ℕ) → x ≢ k → HasKey (entries_of f (x ∷ xs)) k → HasKey (entries_of f xs) k
  past x xs n h = grind (arith, nat_tests)

  pub place_within : (ks : List ℕ) → HasKey (entries_of f ks) k → position_or_len (λ x. x == k) ks < length ks
  place_within [] h = absurd (cc)
  place_within (x ∷ xs) h = elim (cases_eq x k) [
    | inl e ↦ rw (e, test_same k) (omega arith)
    | inr n ↦ rw (test_other x k n) (omega (arith, place_within xs (past x xs n h)))
  ]

  pub removed_entries : (ks : List ℕ) → AreKept f ks → HasKey (entries_of f ks) k → entries_of g (remove ks (position_or_len (λ x. x == k) ks)) ≡ without_key k (entries_of f ks)
  removed_entries [] a h = absurd (cc)
  removed_entries (x ∷ xs) a h = elim (cases_eq x k) [
    | inl e ↦
        let same = same_entries f g k xs others (subst (λ z. IsFresh z xs) e a.1) in
        rw (e, test_same k) (grind (arith, nat_tests, e, a.0, same))
    | inr n ↦
        let z : 1 + position_or_len (λ x. x == k) xs ≡ suc (position_or_len (λ x. x == k) xs) = omega arith in
        let ih = removed_entries xs a.2 (past x xs n h) in
        rw (test_other x k n, z) (grind (arith, nat_tests, others x n, ih))
  ]

  fresh_removed : (y : ℕ) (ks : List ℕ) (i : ℕ) → IsFresh y ks → IsFresh y (remove ks i)
  fresh_removed y [] zero h = tt
  fresh_removed y [] (suc i) h = tt
  fresh_removed y (x ∷ xs) zero h = h.1
  fresh_removed y (x ∷ xs) (suc i) h = (h.0, fresh_removed y xs i h.1)

  pub removed_kept : (ks : List ℕ) → AreKept f ks → HasKey (entries_of f ks) k → AreKept g (remove ks (position_or_len (λ x. x == k) ks))
  removed_kept [] a h = absurd (cc)
  removed_kept (x ∷ xs) a h = elim (cases_eq x k) [
    | inl e ↦ rw (e, test_same k) (same_kept f g k xs others (subst (λ z. IsFresh z xs) e a.1) a.2)
    | inr n ↦
        let z : 1 + position_or_len (λ x. x == k) xs ≡ suc (position_or_len (λ x. x == k) xs) = omega arith in
        rw (test_other x k n, z) (subst IsSome (sym (others x n)) a.0, fresh_removed x xs _ a.1, removed_kept xs a.2 (past x xs n h))
  ]

-- a write keeps the number of values
pub count_set : (xs : List (Option Call)) (i : ℕ) (r : Call) → IsSome (get_or xs i None) → count_by is_some (set xs i (Some r)) ≡ count_by is_some xs
count_set [] i r h = absurd (cc)
count_set (None ∷ xs) zero r h = absurd (cc)
count_set (Some s ∷ xs) zero r h = omega (arith, sum_by-cons (λ o. cond (is_some o) 1 0) (Some s) xs, sum_by-cons (λ o. cond (is_some o) 1 0) (Some r) xs)
count_set (x ∷ xs) (suc i) r h = omega (arith, count_set xs i r h, sum_by-cons (λ o. cond (is_some o) 1 0) x xs, sum_by-cons (λ o. cond (is_some o) 1 0) x (set xs i (Some r)))

pub contained : (f : ℕ → Option Call) (k : ℕ) (ks : List ℕ) → HasKey (entries_of f ks) k → IsSome (f k)
contained f k ks h = subst IsSome (found_at f k ks h) h

pub finds : (f : ℕ → Option Call) (k : ℕ) (ks : List ℕ) (r : Call) → HasKey (entries_of f ks) k → f k ≡ Some r → look k (entries_of f ks) ≡ Some r
finds f k ks r h e = found_at f k ks h ∙ e
