-- The associations of a process that ends, one after the other.
use Rattle.std.proofs.Common.{◌≡◌, ℕ, zero, suc, ◌+◌, ◌<◌, ◌≤◌, not, Bool, true, false, if◌then◌else◌, List, [], ◌∷◌, ◌++◌, None, Some, find, filter, drop, length, map, slice_get, refl, sym, subst, ap, ◌∙◌, arith}
use Rattle.std.proofs.lemmas.Bool.Decides.{nat_tests}
use Rattle.dk_base.specs.declared.object.Obj.{Obj}
use Rattle.spec_records.specs.declared.association.Association.{Association}
use Rattle.spec_records.specs.Words.{has_key, is_of_other_process, is_of_process, is_watcher}
use Rattle.port_assoc.specs.declared.key.Key.{Key}
use Rattle.port_assoc.specs.declared.watch.Watch.{Watch}
use Rattle.port_assoc.specs.Lists.{without_first}
use Rattle.port_assoc.specs.Table.{association_in, associations_in, is_key_of_other_process}
use Rattle.port_assoc.specs.Value.{IsWatched}
use Rattle.port_assoc.specs.Watchers.{WatchLists, watchers_of}
use Rattle.port_assoc.proofs.Apart.{same_itself}
use Rattle.port_assoc.proofs.Lists.{++-assoc}
use Rattle.port_assoc.proofs.Watching.{watches_ended}

-- without those that pass among the first so many
abbrev pub left_after : (Association → Bool) → ℕ → List Association → List Association
left_after test zero xs = xs
left_after test (suc i) [] = []
left_after test (suc i) (x ∷ xs) = if test x then left_after test i xs else x ∷ left_after test i xs

apart : (p : ℕ) (a x : Association) → is_of_process p a ≡ true → is_of_process p x ≡ false → has_key a.key x ≡ false
apart p a x e f = grind (arith, nat_tests)

pub of_process : (p : ℕ) (a : Association) → a.key.process.0 ≡ p → is_of_process p a ≡ true
of_process p a e = grind (arith, nat_tests)

pub of_another : (p : ℕ) (a : Association) → (a.key.process.0 ≡ p → ⊥) → is_of_process p a ≡ false
of_another p a e = grind (arith, nat_tests)

module _ (p : ℕ) where
  abbrev test : Association → Bool
  test a = is_of_process p a

  stays : (xs : List Association) (i : ℕ) (a : Association) → slice_get xs i ≡ Some a → test a ≡ false → left_after test (suc i) xs ≡ left_after test i xs
  stays [] i a h e = cc
  stays (x ∷ xs) zero a h e = let same : x ≡ a = cc in ap (λ b. if b then xs else x ∷ xs) (ap test same ∙ e)
  stays (x ∷ xs) (suc i) a h e = ap (λ ys. if test x then ys else x ∷ ys) (stays xs i a h e)

  leaves : (xs : List Association) (i : ℕ) (a : Association) → slice_get xs i ≡ Some a → test a ≡ true → left_after test (suc i) xs ≡ without_first (has_key a.key) (left_after test i xs)
  leaves [] i a h e = cc
  leaves (x ∷ xs) zero a h e =
      let same : x ≡ a = cc in
      ap (λ b. if b then xs else x ∷ xs) (ap test same ∙ e)
      ∙ ap (λ b. if b then xs else x ∷ without_first (has_key a.key) xs) (sym (ap (λ y. has_key a.key y) same ∙ same_itself a.key))
  leaves (x ∷ xs) (suc i) a h e = go (test x) refl (leaves xs i a h e)
    where
      go :
          (b : Bool) → test x ≡ b → left_after test (suc i) xs ≡ without_first (has_key a.key) (left_after test i xs) →
          (if b then left_after test (suc i) xs else x ∷ left_after test (suc i) xs)
          ≡ without_first (has_key a.key) (if b then left_after test i xs else x ∷ left_after test i xs)
      go true f ih = ih
      go false f ih =
          ap (λ ys. x ∷ ys) ih
          ∙ ap (λ b. if b then left_after test i xs else x ∷ without_first (has_key a.key) (left_after test i xs)) (sym (apart p a x e f))

  found : (xs : List Association) (i : ℕ) (a : Association) → slice_get xs i ≡ Some a → test a ≡ true → find (has_key a.key) (left_after test i xs) ≡ Some a
  found [] i a h e = cc
  found (x ∷ xs) zero a h e =
      let same : x ≡ a = cc in
      ap (λ b. if b then Some x else find (has_key a.key) xs) (ap (λ y. has_key a.key y) same ∙ same_itself a.key) ∙ ap Some same
  found (x ∷ xs) (suc i) a h e = go (test x) refl (found xs i a h e)
    where
      go :
          (b : Bool) → test x ≡ b → find (has_key a.key) (left_after test i xs) ≡ Some a →
          find (has_key a.key) (if b then left_after test i xs else x ∷ left_after test i xs) ≡ Some a
      go true f ih = ih
      go false f ih = ap (λ b. if b then Some x else find (has_key a.key) (left_after test i xs)) (apart p a x e f) ∙ ih

  pub all_left : (i : ℕ) (xs : List Association) → length xs ≤ i → left_after test i xs ≡ filter (is_of_other_process p) xs
  all_left zero [] l = refl
  all_left zero (x ∷ xs) l = absurd (omega arith)
  all_left (suc i) [] l = refl
  all_left (suc i) (x ∷ xs) l = go (test x) (all_left i xs (omega arith))
    where
      go :
          (b : Bool) → left_after test i xs ≡ filter (is_of_other_process p) xs →
          (if b then left_after test i xs else x ∷ left_after test i xs)
          ≡ (if not b then x ∷ filter (is_of_other_process p) xs else filter (is_of_other_process p) xs)
      go true ih = ih
      go false ih = ap (λ ys. x ∷ ys) ih

  -- the next one: of the process, or of another

  pub watched_next :
      (xs : List Association) (i : ℕ) (a : Association) (old new : WatchLists) → slice_get xs i ≡ Some a → test a ≡ true →
      ((o : Obj) → watchers_of new o ≡ (if is_watcher o a then without_first (has_key a.key) (watchers_of old o) else watchers_of old o)) →
      IsWatched (left_after test i xs) old → IsWatched (left_after test (i + 1) xs) new
  watched_next xs i a old new h e left watched =
      let next : suc i ≡ i + 1 = omega arith in
      subst (λ ys. IsWatched ys new) (sym (leaves xs i a h e) ∙ ap (λ k. left_after test k xs) next)
      (watches_ended (left_after test i xs) old new a.key a (found xs i a h e) watched left)

  pub watched_still :
      (xs : List Association) (i : ℕ) (a : Association) (lists : WatchLists) → slice_get xs i ≡ Some a → test a ≡ false →
      IsWatched (left_after test i xs) lists → IsWatched (left_after test (i + 1) xs) lists
  watched_still xs i a lists h e watched =
      let next : suc i ≡ i + 1 = omega arith in
      subst (λ ys. IsWatched ys lists) (sym (stays xs i a h e) ∙ ap (λ k. left_after test k xs) next) watched

-- each place has one, and fewer are left after it

pub is_there : {X : Type 0} (xs : List X) (i : ℕ) → i < length xs → None ≡ slice_get xs i → ⊥
is_there [] i l h = absurd (omega arith)
is_there (x ∷ xs) zero l h = cc
is_there (x ∷ xs) (suc i) l h = is_there xs i (omega arith) h

pub fewer_after : {X : Type 0} (xs : List X) (i : ℕ) → i < length xs → length (drop (i + 1) xs) + 1 ≡ length (drop i xs)
fewer_after [] i l = absurd (omega arith)
fewer_after (x ∷ xs) zero l = omega arith
fewer_after (x ∷ xs) (suc i) l =
    let next : suc i + 1 ≡ suc (i + 1) = omega arith in
    ap (λ k. length (drop k (x ∷ xs)) + 1) next ∙ fewer_after xs i (omega arith)

-- what is told of the next one
module _ {X Y : Type 0} (test : X → Bool) (f : X → Y) where
  after : (xs : List X) (i : ℕ) (a : X) → slice_get xs i ≡ Some a → drop i xs ≡ a ∷ drop (suc i) xs
  after [] i a h = cc
  after (x ∷ xs) zero a h = let same : x ≡ a = cc in ap (λ y. y ∷ xs) same
  after (x ∷ xs) (suc i) a h = after xs i a h

  pub told_next :
      (us : List Y) (xs : List X) (i : ℕ) (a : X) → slice_get xs i ≡ Some a → test a ≡ true →
      (us ++ f a ∷ []) ++ map f (filter test (drop (i + 1) xs)) ≡ us ++ map f (filter test (drop i xs))
  told_next us xs i a h e =
      let next : i + 1 ≡ suc i = omega arith in
      ap (λ k. (us ++ f a ∷ []) ++ map f (filter test (drop k xs))) next
      ∙ ++-assoc us (f a ∷ []) (map f (filter test (drop (suc i) xs)))
      ∙ ap (λ b. us ++ map f (if b then a ∷ filter test (drop (suc i) xs) else filter test (drop (suc i) xs))) (sym e)
      ∙ ap (λ ys. us ++ map f (filter test ys)) (sym (after xs i a h))

  pub told_still :
      (us : List Y) (xs : List X) (i : ℕ) (a : X) → slice_get xs i ≡ Some a → test a ≡ false →
      us ++ map f (filter test (drop (i + 1) xs)) ≡ us ++ map f (filter test (drop i xs))
  told_still us xs i a h e =
      let next : i + 1 ≡ suc i = omega arith in
      ap (λ k. us ++ map f (filter test (drop k xs))) next
      ∙ ap (λ b. us ++ map f (if b then a ∷ filter test (drop (suc i) xs) else filter test (drop (suc i) xs))) (sym e)
      ∙ ap (λ ys. us ++ map f (filter test ys)) (sym (after xs i a h))

-- the entries of the others
pub others_in : (p : ℕ) (es : List (Key × Watch)) → associations_in (filter (λ e. is_key_of_other_process p e.0) es) ≡ filter (is_of_other_process p) (associations_in es)
others_in p [] = refl
others_in p (e ∷ es) = go (is_key_of_other_process p e.0) (others_in p es)
  where
    go :
        (b : Bool) → associations_in (filter (λ e. is_key_of_other_process p e.0) es) ≡ filter (is_of_other_process p) (associations_in es) →
        associations_in (if b then e ∷ filter (λ e. is_key_of_other_process p e.0) es else filter (λ e. is_key_of_other_process p e.0) es)
        ≡ (if b then association_in e ∷ filter (is_of_other_process p) (associations_in es) else filter (is_of_other_process p) (associations_in es))
    go true ih = ap (λ xs. association_in e ∷ xs) ih
    go false ih = ih
