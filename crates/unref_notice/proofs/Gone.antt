-- The ends of pipes that have lost their references, among the objects that are touched.
use Rattle.std.proofs.Common.{◌≡◌, ℕ, ◌+◌, ◌≤◌, ◌==◌, ◌&&◌, ◌||◌, Bool, true, false, cond, if◌then◌else◌, List, [], ◌∷◌, ◌++◌, filter, length, map, nat_lt, refl, sym, ap, ◌∙◌, arith}
use Rattle.std.proofs.lemmas.Bool.Decides.{nat_tests}
use Rattle.std.proofs.lemmas.List.{length-map}
use Rattle.std.proofs.lemmas.List.Sums.{count_by-le-length, length-filter, sum_by-append, sum_by-cons}
use Rattle.std.specs.List.{list_any}
use Rattle.dk_base.specs.declared.object.Obj.{Obj}
use Rattle.dk_base.specs.declared.object.Obj.TheVariants as obj
use Rattle.spec_records.specs.Words.{count_object, is_object}
use Rattle.unref_notice.specs.declared.key.Key.{Key}
use Rattle.unref_notice.specs.declared.key.Key.TheVariants as key
use Rattle.unref_notice.specs.Counting.{AreApart, IsStill, ObjectCounts, count_at, gone_among, is_pipe_end, is_touched, key_of, lost, object_of, same_key, went}
use Rattle.unref_notice.proofs.Fallen.{once}
use Rattle.unref_notice.proofs.Keys.{flipped, key_alike, same_keys}

key_back : (k : Key) → key_of (object_of k) ≡ k
key_back (key.Door d) = refl
key_back (key.Port p) = refl
key_back (key.PipeIn p) = refl
key_back (key.PipeOut p) = refl

object_back : (o : Obj) → object_of (key_of o) ≡ o
object_back (obj.Door d) = refl
object_back (obj.Port p) = refl
object_back (obj.PipeIn p) = refl
object_back (obj.PipeOut p) = refl

-- an object is that of a key where the key is its own
is_own : (o : Obj) (k : Key) → is_object o (object_of k) ≡ same_key (key_of o) k
is_own o k = sym (key_alike (object_of k) o) ∙ ap (λ q. same_key q (key_of o)) (key_back k) ∙ flipped (key_of o) k

none_lost : (n m : ℕ) → m ≡ n → (nat_lt 0 m && (n == 0)) ≡ false
none_lost n m e = grind (arith, nat_tests)

and_none : (b : Bool) → (b && false) ≡ false
and_none true = refl
and_none false = refl

module _ (now opening : ObjectCounts) where
  pub gone_few : (ks : List Key) → length (gone_among now opening ks) ≤ length ks
  gone_few ks =
      let mapped = length-map (filter (went now opening) ks) object_of in
      let filtered = length-filter (went now opening) ks in
      let fewer = count_by-le-length (went now opening) ks in omega (arith, mapped, filtered, fewer)

  counted : (o p : Obj) (os : List Obj) → count_object o (p ∷ os) ≡ once (is_object o p) + count_object o os
  counted o p os = sum_by-cons (λ x. cond (is_object o x) 1 0) p os

  among : (o : Obj) (ks : List Key) → AreApart ks → count_object o (gone_among now opening ks) ≡ once (is_touched ks (key_of o) && went now opening (key_of o))
  among o [] h = refl
  among o (k ∷ ks) h = go (same_key (key_of o) k) refl (went now opening k) refl (among o ks h.1)
    where
      go :
          (s : Bool) → same_key (key_of o) k ≡ s → (b : Bool) → went now opening k ≡ b →
          count_object o (gone_among now opening ks) ≡ once (is_touched ks (key_of o) && went now opening (key_of o)) →
          count_object o (map object_of (if b then k ∷ filter (went now opening) ks else filter (went now opening) ks))
          ≡ once ((s || is_touched ks (key_of o)) && went now opening (key_of o))
      go true e true f ih =
          let same = same_keys (key_of o) k e in
          let apart : is_touched ks (key_of o) ≡ false = ap (is_touched ks) same ∙ h.0 in
          let here = counted o (object_of k) (gone_among now opening ks) in
          let one = ap once (is_own o k ∙ e) in
          let rest = ih ∙ ap (λ b. once (b && went now opening (key_of o))) apart in
          let all = ap once (ap (went now opening) same ∙ f) in omega (arith, here, one, rest, all)
      go true e false f ih =
          let same = same_keys (key_of o) k e in
          let apart : is_touched ks (key_of o) ≡ false = ap (is_touched ks) same ∙ h.0 in
          ih ∙ ap (λ b. once (b && went now opening (key_of o))) apart ∙ sym (ap once (ap (went now opening) same ∙ f))
      go false e true f ih =
          let here = counted o (object_of k) (gone_among now opening ks) in
          let none = ap once (is_own o k ∙ e) in omega (arith, here, none, ih)
      go false e false f ih = ih

  pub gone_each :
      (o : Obj) (ks : List Key) → AreApart ks → IsStill now opening ks →
      count_object o (gone_among now opening ks) ≡ (if is_pipe_end o && lost now opening (key_of o) then 1 else 0)
  gone_each o ks h still = among o ks h ∙ go (is_touched ks (key_of o)) refl ∙ ap (λ p. once (is_pipe_end p && lost now opening (key_of o))) (object_back o)
    where
      go : (b : Bool) → is_touched ks (key_of o) ≡ b → once (b && went now opening (key_of o)) ≡ once (went now opening (key_of o))
      go true e = refl
      go false e =
          let even = still (key_of o) e in
          sym (ap once (ap (λ b. is_pipe_end (object_of (key_of o)) && b) (none_lost (count_at now (key_of o)) (count_at opening (key_of o)) even) ∙ and_none (is_pipe_end (object_of (key_of o)))))

pub counted_more : (o : Obj) (xs ys : List Obj) → count_object o (xs ++ ys) ≡ count_object o xs + count_object o ys
counted_more o xs ys = sum_by-append (λ x. cond (is_object o x) 1 0) xs ys

-- what stands in a list at least once is among it

any_counted : (o : Obj) (xs : List Obj) → list_any (is_object o) xs ≡ nat_lt 0 (count_object o xs)
any_counted o [] = refl
any_counted o (x ∷ xs) = go (is_object o x) (sum_by-cons (λ y. cond (is_object o y) 1 0) x xs) (any_counted o xs)
  where
    more : (n m : ℕ) → n ≡ 1 + m → true ≡ nat_lt 0 n
    more n m e = grind (arith, nat_tests)

    go :
        (b : Bool) → count_object o (x ∷ xs) ≡ once b + count_object o xs → list_any (is_object o) xs ≡ nat_lt 0 (count_object o xs) →
        (b || list_any (is_object o) xs) ≡ nat_lt 0 (count_object o (x ∷ xs))
    go true e ih = more (count_object o (x ∷ xs)) (count_object o xs) e
    go false e ih = let same : count_object o xs ≡ count_object o (x ∷ xs) = omega (arith, e) in ih ∙ ap (nat_lt 0) same

pub members_more :
    (o : Obj) (xs ys : List Obj) (b : Bool) → count_object o ys ≡ count_object o xs + once b → list_any (is_object o) ys ≡ (list_any (is_object o) xs || b)
members_more o xs ys b e = any_counted o ys ∙ ap (nat_lt 0) e ∙ go b (count_object o xs) ∙ ap (λ c. c || b) (sym (any_counted o xs))
  where
    go : (b : Bool) (n : ℕ) → nat_lt 0 (n + once b) ≡ (nat_lt 0 n || b)
    go true n = grind (arith, nat_tests)
    go false n = grind (arith, nat_tests)
