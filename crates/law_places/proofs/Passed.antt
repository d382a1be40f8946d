-- Descriptors that are passed: the test of them decides what the table of refusals spells out, and where it does not hold, each of
-- them names an object.
use Rattle.std.specs.Prelude.{ℕ, ◌≡◌, ◌<◌, ◌⊎◌, List, [], ◌∷◌, Option, Bool, true, false, ◌||◌, Some, None, zero, suc, map, slice_get}
use Rattle.std.specs.List.{list_any}
use Rattle.std.specs.Bool.{Decides}
use Rattle.std.proofs.Common.{refl, ap, inl, inr}
use native.Mathlib.Omega.{arith}
use Rattle.std.proofs.lemmas.Bool.Decides.{nat_tests}
use Rattle.spec_kernel.specs.Types.{Fd, Obj, Pass}
use Rattle.spec_records.specs.Words.{descriptor, has_double_release, is_bad_pass, is_double, is_not_open, object_passed, objects_passed}
use Rattle.spec_kernel.specs.Words.{State, table_of}
use Rattle.law_places.specs.Refusals.{CannotPass}
use Rattle.law_places.specs.Refusals.CannotPass.{not_open, released_twice}

-- an item that passes a test

pub record Found {X : Type 0} (test : X → Bool) (xs : List X) : Type 0 where
  pub at : ℕ
  pub item : X
  pub there : slice_get xs at ≡ Some item
  pub passes : test item ≡ true

pub found_any : {X : Type 0} (test : X → Bool) (xs : List X) → list_any test xs ≡ true → Found test xs
found_any test [] e = absurd (grind arith)
found_any test (x ∷ xs) e = go (test x) refl (λ f. found_any test xs f)
  where
    go : (b : Bool) → test x ≡ b → (list_any test xs ≡ true → Found test xs) → Found test (x ∷ xs)
    go true f later = record { at = 0; item = x; there = refl; passes = f }
    go false f later =
        let h : Found test xs = later (grind arith) in
        record { at = suc h.at; item = h.item; there = h.there; passes = h.passes }

pub any_found : {X : Type 0} (test : X → Bool) (xs : List X) (k : ℕ) (x : X) → slice_get xs k ≡ Some x → test x ≡ true → list_any test xs ≡ true
any_found test [] k x e f = grind arith
any_found test (z ∷ zs) zero x e f = grind arith
any_found test (z ∷ zs) (suc k) x e f = grind (arith, any_found test zs k x)

-- one number twice, of which either is released

record IsReleasedTwice (pass : List Pass) : Type 0 where
  first : ℕ
  second : ℕ
  one : Pass
  other : Pass
  later : first < second
  at_first : slice_get pass first ≡ Some one
  at_second : slice_get pass second ≡ Some other
  same : one.fd ≡ other.fd
  released : (one.release ≡ true) ⊎ (other.release ≡ true)

pub same_descriptor : (a b : Fd) → a.0 ≡ b.0 → a ≡ b
same_descriptor a b e = ap (λ (n : ℕ). descriptor n) e

either : (a b : Bool) → (a || b) ≡ true → (a ≡ true) ⊎ (b ≡ true)
either true b e = inl refl
either false b e = inr e

double_found : (pass : List Pass) → has_double_release pass ≡ true → IsReleasedTwice pass
double_found [] e = absurd (grind arith)
double_found (x ∷ xs) e = go (list_any (is_double x) xs) refl (λ f. double_found xs f)
  where
    go : (b : Bool) → list_any (is_double x) xs ≡ b → (has_double_release xs ≡ true → IsReleasedTwice xs) → IsReleasedTwice (x ∷ xs)
    go true f more =
        let h : Found (is_double x) xs = found_any (is_double x) xs f in
        record {
          first = 0;
          second = suc h.at;
          one = x;
          other = h.item;
          later = omega arith;
          at_first = refl;
          at_second = h.there;
          same = same_descriptor x.fd h.item.fd (grind (arith, nat_tests, h.passes));
          released = either x.release h.item.release (grind (arith, h.passes));
        }
    go false f more =
        let h : IsReleasedTwice xs = more (grind arith) in
        record {
          first = suc h.first;
          second = suc h.second;
          one = h.one;
          other = h.other;
          later = omega (arith, h.later);
          at_first = h.at_first;
          at_second = h.at_second;
          same = h.same;
          released = h.released;
        }

is_double_of : (y z : Pass) → y.fd ≡ z.fd → (y.release ≡ true) ⊎ (z.release ≡ true) → is_double y z ≡ true
is_double_of y z e (inl f) = grind (arith, nat_tests)
is_double_of y z e (inr f) = grind (arith, nat_tests)

double_is :
    (pass : List Pass) (k l : ℕ) (y z : Pass) → k < l → slice_get pass k ≡ Some y → slice_get pass l ≡ Some z →
    is_double y z ≡ true → has_double_release pass ≡ true
double_is [] k l y z h e f d = grind arith
double_is (x ∷ xs) zero zero y z h e f d = absurd (omega (arith, h))
double_is (x ∷ xs) zero (suc l) y z h e f d = grind (arith, any_found (is_double x) xs l z)
double_is (x ∷ xs) (suc k) zero y z h e f d = absurd (omega (arith, h))
double_is (x ∷ xs) (suc k) (suc l) y z h e f d =
    let later : has_double_release xs ≡ true = double_is xs k l y z (omega (arith, h)) e f d in
    grind arith

-- what cannot be passed

pub pass_decides : (m : State) (p : ℕ) (pass : List Pass) → Decides (is_bad_pass (table_of m p) pass) (CannotPass m p pass)
pass_decides m p pass = (forth, back)
  where
    forth : is_bad_pass (table_of m p) pass ≡ true → CannotPass m p pass
    forth e = go (list_any (is_not_open (table_of m p)) pass) refl
      where
        go : (b : Bool) → list_any (is_not_open (table_of m p)) pass ≡ b → CannotPass m p pass
        go true f =
            let h : Found (is_not_open (table_of m p)) pass = found_any (is_not_open (table_of m p)) pass f in
            not_open h.at h.item h.there (grind (arith, h.passes))
        go false f =
            let h : IsReleasedTwice pass = double_found pass (grind arith) in
            released_twice h.first h.second h.one h.other h.later h.at_first h.at_second h.same h.released

    back : CannotPass m p pass → is_bad_pass (table_of m p) pass ≡ true
    back (not_open k y e f) =
        let bad : list_any (is_not_open (table_of m p)) pass ≡ true = any_found (is_not_open (table_of m p)) pass k y e (grind arith) in
        grind arith
    back (released_twice k l y z h e f s r) =
        let bad : has_double_release pass ≡ true = double_is pass k l y z h e f (is_double_of y z s r) in
        grind arith

-- where each is open, what they name are the objects that go

pub names_each :
    (table : List (Option Obj)) (pass : List Pass) → list_any (is_not_open table) pass ≡ false →
    map (λ x. object_passed table x) pass ≡ map (λ o. Some o) (objects_passed table pass)
names_each table [] e = refl
names_each table (x ∷ xs) e = go (object_passed table x) refl (λ f. names_each table xs f)
  where
    go :
        (o : Option Obj) → object_passed table x ≡ o →
        (list_any (is_not_open table) xs ≡ false → map (λ y. object_passed table y) xs ≡ map (λ o. Some o) (objects_passed table xs)) →
        map (λ y. object_passed table y) (x ∷ xs) ≡ map (λ o. Some o) (objects_passed table (x ∷ xs))
    go None f later = absurd (grind arith)
    go (Some o) f later = grind (arith, later)
