-- Calls in order of number, and where a number stands among them.
use Rattle.std.proofs.Common.{◌≡◌, ◌≢◌, ◌⊎◌, subst, ◌<◌, ◌≤◌, nat_lt, ℕ, zero, suc, true, false, List, [], ◌∷◌, Option, Some, None, IsSome, find, length, get_or, refl, sym, ap, ◌∙◌, arith, inl, inr}
use Rattle.std.specs.List.Sorted.{IsNonDecreasingBy, IsPartitionPoint}
use Rattle.std.proofs.lemmas.Bool.Decides.{nat_tests}
use Rattle.spec_records.specs.declared.record.Call.{Call}
use Rattle.spec_records.specs.Words.{IsAscending, call_number}
use Rattle.call_tree.specs.Kept.{AreKept, IsFound, IsFresh, calls_in, entries_of, is_call, look, passes, number_in, with_entry}
use Rattle.std.proofs.lemmas.List.{get_or_default}
use Rattle.call_tree.proofs.Finding.{kept_there}

pub less_first : (x y c : ℕ) → x ≤ y → nat_lt y c ≡ true → nat_lt x c ≡ true
less_first x y c l h = grind (arith, nat_tests)

module _ (f : ℕ → Option Call) where
  -- the first call, and those after it
  heads : (x : ℕ) (ks : List ℕ) (low made : ℕ) → IsSome (f x) → IsAscending call_number low made (calls_in (with_entry x (f x) (entries_of f ks))) → (low < number_in (f x)) × IsAscending call_number (number_in (f x)) made (calls_in (entries_of f ks))
  heads x ks low made s h = grind arith

  above : (ks : List ℕ) (low made i d : ℕ) → AreKept f ks → IsAscending call_number low made (calls_in (entries_of f ks)) → i < length ks → low < number_in (f (get_or ks i d))
  above [] low made i d k h l = absurd (omega arith)
  above (x ∷ xs) low made zero d k h l = (heads x xs low made k.0 h).0
  above (x ∷ xs) low made (suc i) d k h l =
      let w = heads x xs low made k.0 h in
      omega (arith, w.0, above xs (number_in (f x)) made i d k.2 w.1 (omega arith))

  pub rises : (ks : List ℕ) (low made : ℕ) → AreKept f ks → IsAscending call_number low made (calls_in (entries_of f ks)) → IsNonDecreasingBy (λ k. number_in (f k)) ks
  rises [] low made k h i j d l m = absurd (omega arith)
  rises (x ∷ xs) low made k h zero zero d l m = omega arith
  rises (x ∷ xs) low made k h (suc i) zero d l m = absurd (omega arith)
  rises (x ∷ xs) low made k h zero (suc j) d l m =
      let w = heads x xs low made k.0 h in
      omega (arith, above xs (number_in (f x)) made j d k.2 w.1 (omega arith))
  rises (x ∷ xs) low made k h (suc i) (suc j) d l m = rises xs (number_in (f x)) made k.2 (heads x xs low made k.0 h).1 i j d (omega arith) (omega arith)

  -- the key at a place
  other : (x : ℕ) (xs : List ℕ) (i d : ℕ) → IsFresh x xs → i < length xs → x ≢ get_or xs i d
  other x [] i d n l e = omega arith
  other x (y ∷ ys) zero d n l e = n.0 (sym e)
  other x (y ∷ ys) (suc i) d n l e = other x ys i d n.1 (omega arith) e

  looks : (ks : List ℕ) (i d : ℕ) (r : Call) → AreKept f ks → i < length ks → f (get_or ks i d) ≡ Some r → look (get_or ks i d) (entries_of f ks) ≡ Some r
  looks [] i d r k l e = absurd (omega arith)
  looks (x ∷ xs) zero d r k l e = grind (arith, nat_tests, e)
  looks (x ∷ xs) (suc i) d r k l e =
      let ih = looks xs i d r k.2 (omega arith) e in
      let n = other x xs i d k.1 (omega arith) in grind (arith, nat_tests, k.0, ih, n)

  none_at : (ks : List ℕ) (c : ℕ) → AreKept f ks → ((i d : ℕ) → i < length ks → number_in (f (get_or ks i d)) ≢ c) → find (is_call c) (calls_in (entries_of f ks)) ≡ None
  none_at [] c k h = refl
  none_at (x ∷ xs) c k h =
      let here = h 0 0 (omega arith) in
      let ih = none_at xs c k.2 (λ i d l. h (suc i) d (omega arith)) in grind (arith, nat_tests, k.0, here, ih)

cases_le : (i j : ℕ) → (i ≤ j) ⊎ (j < i)
cases_le zero j = inl (omega arith)
cases_le (suc i) zero = inr (omega arith)
cases_le (suc i) (suc j) = elim (cases_le i j) [ inl w ↦ inl (omega (arith, w)) | inr w ↦ inr (omega (arith, w)) ]

-- what is found of a number, by how many are below it
module _ (f : ℕ → Option Call) (ks : List ℕ) (c : ℕ) (kept : AreKept f ks) where
  pub numbered_here : (i key : ℕ) → i < length ks → key ≡ get_or ks i key → passes (is_call c) (f key) ≡ true → IsFound (is_call c) (entries_of f ks) (Some key)
  numbered_here i key l e h = at_head (f key) refl h
    where
      at_head : (o : Option Call) → f key ≡ o → passes (is_call c) o ≡ true → IsFound (is_call c) (entries_of f ks) (Some key)
      at_head None q h = absurd (cc)
      at_head (Some r) q h = (r, ap (λ k. look k (entries_of f ks)) e ∙ looks f ks i key r kept l (ap f (sym e) ∙ q), h)

  pub none_past : (i : ℕ) → IsPartitionPoint (λ k. nat_lt (number_in (f k)) c ≡ true) (λ k. nat_lt (number_in (f k)) c ≡ false) ks i → length ks ≤ i → find (is_call c) (calls_in (entries_of f ks)) ≡ None
  none_past i point l = none_at f ks c kept (λ j d h e. differs (number_in (f (get_or ks j d))) (point.0 j d (omega arith) (omega (arith, l, h))) e)
    where
      differs : (n : ℕ) → nat_lt n c ≡ true → n ≢ c
      differs n h e = grind (arith, nat_tests)

  pub none_here : (i key : ℕ) → IsNonDecreasingBy (λ k. number_in (f k)) ks → IsPartitionPoint (λ k. nat_lt (number_in (f k)) c ≡ true) (λ k. nat_lt (number_in (f k)) c ≡ false) ks i → i < length ks → key ≡ get_or ks i key → passes (is_call c) (f key) ≡ false → find (is_call c) (calls_in (entries_of f ks)) ≡ None
  none_here i key rise point l e h =
      none_at f ks c kept
      (λ j d m z.
      let same : get_or ks i d ≡ key = sym (get_or_default ks i key d l) ∙ sym e in
      let n = number_in (f key) in
      let far = past n (some_number (f key) (subst (λ k. IsSome (f k)) (sym e) (kept_there f ks i key kept l)) h) (ap (λ k. nat_lt (number_in (f k)) c) (sym same) ∙ point.1 i d (omega arith) l) in
      elim (cases_le i j) [
        | inl w ↦ omega (arith, far, rise i j d w m, ap (λ k. number_in (f k)) same, z)
        | inr w ↦ differs (number_in (f (get_or ks j d))) (point.0 j d (omega arith) w) z
      ])
    where
      differs : (n : ℕ) → nat_lt n c ≡ true → n ≢ c
      differs n h e = grind (arith, nat_tests)

      past : (n : ℕ) → n ≢ c → nat_lt n c ≡ false → c < n
      past n h e = grind (arith, nat_tests)

      some_number : (o : Option Call) → IsSome o → passes (is_call c) o ≡ false → number_in o ≢ c
      some_number o s h e = grind (arith, nat_tests)
