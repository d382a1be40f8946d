-- The doors that have fallen, among the objects that are touched.
use Rattle.std.proofs.Common.{◌≡◌, ℕ, ◌+◌, ◌≤◌, ◌==◌, ◌&&◌, ◌||◌, Bool, true, false, cond, if◌then◌else◌, List, [], ◌∷◌, Option, None, Some, length, refl, ap, ◌∙◌, arith}
use Rattle.std.proofs.lemmas.Bool.Decides.{nat_tests}
use Rattle.std.proofs.lemmas.List.Sums.{sum_by-cons}
use Rattle.unref_notice.specs.declared.key.Key.{Key}
use Rattle.unref_notice.specs.declared.key.Key.TheVariants as key
use Rattle.unref_notice.specs.Counting.{AreApart, IsStill, ObjectCounts, and_door, fallen_among, fallen_of, fell, is_touched, same_key}
use Rattle.unref_notice.specs.Words.{how_many}

abbrev pub once : Bool → ℕ
once b = if b then 1 else 0

module _ (now opening : ObjectCounts) where
  -- at most one door for each object
  one_each : (o : Option ℕ) (ds : List ℕ) → length (and_door o ds) ≤ 1 + length ds
  one_each None ds = omega arith
  one_each (Some d) ds = omega arith

  pub fallen_few : (ks : List Key) → length (fallen_among now opening ks) ≤ length ks
  fallen_few [] = omega arith
  fallen_few (k ∷ ks) = let one = one_each (fallen_of now opening k) (fallen_among now opening ks) in let ih = fallen_few ks in omega (arith, one, ih)

  abbrev is_it : ℕ → Option ℕ → Bool
  is_it d None = false
  is_it d (Some e) = e == d

  counted : (d : ℕ) (o : Option ℕ) (ds : List ℕ) → how_many d (and_door o ds) ≡ once (is_it d o) + how_many d ds
  counted d None ds = omega arith
  counted d (Some e) ds = sum_by-cons (λ x. cond (x == d) 1 0) e ds ∙ grind arith

  -- the door of a number stands for the object that is that door alone
  own : (d : ℕ) (k : Key) → is_it d (fallen_of now opening k) ≡ (same_key (key.Door d) k && fell now opening (key.Door d))
  own d (key.Door e) = go (fell now opening (key.Door e)) refl (d == e) refl
    where
      go : (b : Bool) → fell now opening (key.Door e) ≡ b → (c : Bool) → (d == e) ≡ c → is_it d (if b then Some e else None) ≡ (c && fell now opening (key.Door d))
      go true f true h = let same : d ≡ e = grind (arith, nat_tests) in let there = ap (λ n. fell now opening (key.Door n)) same ∙ f in grind (arith, nat_tests)
      go true f false h = grind (arith, nat_tests)
      go false f true h = let same : d ≡ e = grind (arith, nat_tests) in let there = ap (λ n. fell now opening (key.Door n)) same ∙ f in grind (arith, nat_tests)
      go false f false h = refl
  own d (key.Port e) = refl
  own d (key.PipeIn e) = refl
  own d (key.PipeOut e) = refl

  doors_alike : (d : ℕ) (k : Key) → same_key (key.Door d) k ≡ true → key.Door d ≡ k
  doors_alike d (key.Door e) h = let same : d ≡ e = grind (arith, nat_tests) in ap (λ n. key.Door n) same
  doors_alike d (key.Port e) h = cc
  doors_alike d (key.PipeIn e) h = cc
  doors_alike d (key.PipeOut e) h = cc

  among : (d : ℕ) (ks : List Key) → AreApart ks → how_many d (fallen_among now opening ks) ≡ once (is_touched ks (key.Door d) && fell now opening (key.Door d))
  among d [] h = refl
  among d (k ∷ ks) h =
      counted d (fallen_of now opening k) (fallen_among now opening ks)
      ∙ go (same_key (key.Door d) k) refl (is_it d (fallen_of now opening k)) refl (own d k) (among d ks h.1)
    where
      go :
          (b : Bool) → same_key (key.Door d) k ≡ b → (c : Bool) → is_it d (fallen_of now opening k) ≡ c →
          is_it d (fallen_of now opening k) ≡ (same_key (key.Door d) k && fell now opening (key.Door d)) →
          how_many d (fallen_among now opening ks) ≡ once (is_touched ks (key.Door d) && fell now opening (key.Door d)) →
          once c + how_many d (fallen_among now opening ks) ≡ once ((b || is_touched ks (key.Door d)) && fell now opening (key.Door d))
      go true e c f is ih =
          let apart : is_touched ks (key.Door d) ≡ false = ap (is_touched ks) (doors_alike d k e) ∙ h.0 in
          grind arith
      go false e c f is ih = grind arith

  pub fallen_each :
      (d : ℕ) (ks : List Key) → AreApart ks → IsStill now opening ks →
      how_many d (fallen_among now opening ks) ≡ once (fell now opening (key.Door d))
  fallen_each d ks h still = among d ks h ∙ go (is_touched ks (key.Door d)) refl
    where
      go : (b : Bool) → is_touched ks (key.Door d) ≡ b → once (b && fell now opening (key.Door d)) ≡ once (fell now opening (key.Door d))
      go true e = refl
      go false e =
          let even = still (key.Door d) e in
          let none : fell now opening (key.Door d) ≡ false = grind (arith, nat_tests) in
          grind arith
