-- The threads of each process, as one changes or comes.
use Rattle.std.proofs.Common.{◌≡◌, ℕ, zero, suc, ◌+◌, ◌-◌, ◌<◌, ◌==◌, ◌&&◌, Bool, true, false, if◌then◌else◌, List, [], ◌∷◌, ◌++◌, Some, None, Option, option_map, get_or, length, drop, map, replicate, slice_get, slice_set, take, refl, sym, ap, ◌∙◌, arith}
use Rattle.std.proofs.lemmas.Bool.Decides.{nat_tests}
use Rattle.std.proofs.lemmas.List.{length-map, take_at}
use Rattle.dk_base.specs.ByNumber.{at_number}
use Rattle.spec_records.specs.declared.record.Thread.{Thread}
use Rattle.spec_records.proofs.Lists.{at_number-map, at_number-push, at_number-set, numbered_past}
use Rattle.spec_records.proofs.NumberedLists.{map_first}
use Rattle.spec_records.proofs.Places.{numbered_here}
use Rattle.spec_records.specs.Words.{begun_thread}
use Rattle.proc_table.specs.declared.crews.Crews.{Crews}
use Rattle.proc_table.specs.Crews.{AreCrews, has_in, is_of}
use Rattle.proc_table.specs.Ends.{ended_where_of}
use Rattle.dk_base.specs.declared.thread_set.ThreadSet.{ThreadSet}
use Rattle.dk_base.specs.Words.{has}

some_of : (x y : Thread) → Some x ≡ Some y → x ≡ y
some_of x y e = cc

-- a change that leaves the thread's number and process
module _ {s : Crews} {xs : List Thread} (a : AreCrews s xs) (i : ℕ) (x d : Thread) (l : i < length xs) where
  here : at_number xs (suc i) ≡ Some (get_or xs i d)
  here = let k : suc i - 1 ≡ i = omega arith in numbered_here xs (suc i) d (omega arith) (omega arith) ∙ ap (λ j. Some (get_or xs j d)) k

  is : (u : ℕ) → at_number (slice_set xs i x) u ≡ (if u == suc i then Some x else at_number xs u)
  is u = at_number-set xs i u x l

  pub crews_kept : x.number ≡ (get_or xs i d).number → x.process ≡ (get_or xs i d).process → AreCrews s (slice_set xs i x)
  crews_kept n p = record { those = those; numbered = numbered }
    where
      those : (q u : ℕ) → has_in (slice_get s.sets q) u ≡ is_of q (at_number (slice_set xs i x) u)
      those q u = a.those q u ∙ go (u == suc i) refl ∙ ap (is_of q) (sym (is u))
        where
          go : (b : Bool) → (u == suc i) ≡ b → is_of q (at_number xs u) ≡ is_of q (if b then Some x else at_number xs u)
          go true e =
              let k : u ≡ suc i = grind (arith, nat_tests) in
              ap (λ j. is_of q (at_number xs j)) k ∙ ap (is_of q) here ∙ ap (λ y. y.0 == q) (sym p)
          go false e = refl

      numbered : (u : ℕ) (y : Thread) → at_number (slice_set xs i x) u ≡ Some y → y.number ≡ u
      numbered u y e = go (u == suc i) refl (sym (is u) ∙ e)
        where
          go : (b : Bool) → (u == suc i) ≡ b → (if b then Some x else at_number xs u) ≡ Some y → y.number ≡ u
          go true f g =
              let k : u ≡ suc i = grind (arith, nat_tests) in
              ap (λ z. z.number) (sym (some_of x y g)) ∙ n ∙ a.numbered (suc i) (get_or xs i d) here ∙ sym k
          go false f g = a.numbered u y g

-- one more
pub crews_more :
    {s r : Crews} {xs : List Thread} → AreCrews s xs → (p n : ℕ) (x : Thread) → n ≡ length xs + 1 → x.number ≡ n → x.process.0 ≡ p →
    ((q u : ℕ) → has_in (slice_get r.sets q) u ≡ (if (p == q) && (u == n) then true else has_in (slice_get s.sets q) u)) → AreCrews r (xs ++ x ∷ [])
crews_more {s} {r} {xs} a p n x l m o added = record { those = those; numbered = numbered }
  where
    next : suc (length xs) ≡ n
    next = omega arith

    is : (u : ℕ) → at_number (xs ++ x ∷ []) u ≡ (if u == n then Some x else at_number xs u)
    is u = at_number-push xs x u ∙ ap (λ j. if u == j then Some x else at_number xs u) next

    those : (q u : ℕ) → has_in (slice_get r.sets q) u ≡ is_of q (at_number (xs ++ x ∷ []) u)
    those q u = added q u ∙ go (u == n) refl ∙ ap (is_of q) (sym (is u))
      where
        none : u ≡ n → has_in (slice_get s.sets q) u ≡ false
        none k = a.those q u ∙ ap (is_of q) (numbered_past xs u (omega (arith, k)))

        if_of : (b : Bool) → has_in (slice_get s.sets q) u ≡ false → (if b && true then true else has_in (slice_get s.sets q) u) ≡ b
        if_of true e = refl
        if_of false e = e

        never : (b : Bool) → (if b && false then true else has_in (slice_get s.sets q) u) ≡ has_in (slice_get s.sets q) u
        never true = refl
        never false = refl

        go : (b : Bool) → (u == n) ≡ b → (if (p == q) && b then true else has_in (slice_get s.sets q) u) ≡ is_of q (if b then Some x else at_number xs u)
        go true e = let k : u ≡ n = grind (arith, nat_tests) in if_of (p == q) (none k) ∙ ap (λ j. j == q) (sym o)
        go false e = never (p == q) ∙ a.those q u

    numbered : (u : ℕ) (y : Thread) → at_number (xs ++ x ∷ []) u ≡ Some y → y.number ≡ u
    numbered u y e = go (u == n) refl (sym (is u) ∙ e)
      where
        go : (b : Bool) → (u == n) ≡ b → (if b then Some x else at_number xs u) ≡ Some y → y.number ≡ u
        go true f g = let k : u ≡ n = grind (arith, nat_tests) in ap (λ z. z.number) (sym (some_of x y g)) ∙ m ∙ sym k
        go false f g = a.numbered u y g

-- all threads change, and none its number or its process
pub crews_mapped :
    {s : Crews} {xs : List Thread} → AreCrews s xs → (f : Thread → Thread) → ((x : Thread) → (f x).number ≡ x.number) → ((x : Thread) → (f x).process.0 ≡ x.process.0) →
    AreCrews s (map f xs)
crews_mapped {s} {xs} a f number process =
    record {
      those = λ q u. a.those q u ∙ same q (at_number xs u) ∙ ap (is_of q) (sym (at_number-map f xs u));
      numbered = λ u y e. go u y (at_number xs u) refl (sym (at_number-map f xs u) ∙ e);
    }
  where
    same : (q : ℕ) (o : Option Thread) → is_of q o ≡ is_of q (option_map f o)
    same q None = refl
    same q (Some x) = ap (λ n. n == q) (sym (process x))

    go : (u : ℕ) (y : Thread) (o : Option Thread) → at_number xs u ≡ o → option_map f o ≡ Some y → y.number ≡ u
    go u y None e g = cc
    go u y (Some x) e g = ap (λ z. z.number) (sym (some_of (f x) y g)) ∙ number x ∙ a.numbered u x e

-- all threads of a process end
pub crews_ended : {s : Crews} {xs : List Thread} → AreCrews s xs → (p : ℕ) → AreCrews s (map (ended_where_of p) xs)
crews_ended a p = crews_mapped a (ended_where_of p) number process
  where
    number : (x : Thread) → (ended_where_of p x).number ≡ x.number
    number x = grind (arith, nat_tests)

    process : (x : Thread) → (ended_where_of p x).process.0 ≡ x.process.0
    process x = grind (arith, nat_tests)

-- a process begins
pub crews_begun : {s : Crews} {xs : List Thread} → AreCrews s xs → (p : ℕ) → AreCrews s (map (begun_thread p) xs)
crews_begun a p = crews_mapped a (begun_thread p) number process
  where
    number : (x : Thread) → (begun_thread p x).number ≡ x.number
    number x = grind (arith, nat_tests)

    process : (x : Thread) → (begun_thread p x).process.0 ≡ x.process.0
    process x = grind (arith, nat_tests)

-- one more thread is changed, of those that are changed from the first on
pub mapped_next :
    (f : Thread → Thread) (i : ℕ) (xs : List Thread) (d : Thread) → i < length xs →
    slice_set (map_first f i xs) i (f (get_or (map_first f i xs) i d)) ≡ map_first f (suc i) xs
mapped_next f zero [] d l = absurd (omega arith)
mapped_next f zero (y ∷ ys) d l = refl
mapped_next f (suc i) [] d l = absurd (omega arith)
mapped_next f (suc i) (y ∷ ys) d l = ap (λ zs. f y ∷ zs) (mapped_next f i ys d (omega arith))

-- no set has a thread
pub none_in : (s : ThreadSet) → ((t : ℕ) → has s t ≡ false) → (n p t : ℕ) → has_in (slice_get (replicate n s) p) t ≡ false
none_in s none zero p t = refl
none_in s none (suc n) zero t = none t
none_in s none (suc n) (suc p) t = none_in s none n p t

-- the threads that were changed stand for those before
pub put_back :
    {X : Type 0} (f : X → X) (items now new : List X) (n : ℕ) → new ≡ map f now → now ≡ items → length now ≡ n →
    take n (new ++ drop (length new) items) ≡ map f items
put_back f items now new n e same l = take_at new (drop (length new) items) n (ap length e ∙ length-map now f ∙ l) ∙ e ∙ ap (map f) same
