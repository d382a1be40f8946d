-- What holds of each record of a list, where one changes.
use Rattle.std.proofs.Common.{◌≡◌, ℕ, zero, suc, List, [], ◌∷◌, Option, Some, None, Bool, true, false, if◌then◌else◌, find, map, slice_get, slice_set, refl, sym, subst, ◌∙◌}
use Rattle.std.specs.Prelude.{All}
use Rattle.std.proofs.lemmas.List.Elements.{All-cons, All-head, All-nil, All-tail, All-map, All-weaker}
use Rattle.std.proofs.lemmas.Option.{slice_get_within, get_or_from_slice_get}
use Rattle.dk_base.specs.ByNumber.{at_number, with_at_number}
use Rattle.spec_records.specs.Words.{change_at_number, change_first, change_found}
use Rattle.spec_records.proofs.Lists.{at_number-suc, with_at_number-suc}

module _ {X : Type 0} (P : X → Type 0) where
  pub All-find : (test : X → Bool) (xs : List X) (x : X) → All P xs → find test xs ≡ Some x → P x
  All-find test [] x all e = cc
  All-find test (y ∷ ys) x all e = go (All-find test ys x (All-tail P y ys all)) (test y) e
    where
      go : (find test ys ≡ Some x → P x) → (b : Bool) → (if b then Some y else find test ys) ≡ Some x → P x
      go rest true h = let same : y ≡ x = cc in subst P same (All-head P y ys all)
      go rest false h = rest h

  pub All-at_number : (xs : List X) (n : ℕ) (x : X) → All P xs → at_number xs n ≡ Some x → P x
  All-at_number xs zero x all e = cc
  All-at_number xs (suc k) x all e =
      let there : slice_get xs k ≡ Some x = sym (at_number-suc xs k) ∙ e in
      subst P (get_or_from_slice_get xs k x x there) (all k x (slice_get_within xs k x there))

  All-slice_set : (xs : List X) (i : ℕ) (x : X) → P x → All P xs → All P (slice_set xs i x)
  All-slice_set [] i x here all = all
  All-slice_set (y ∷ ys) zero x here all = All-cons P x ys here (All-tail P y ys all)
  All-slice_set (y ∷ ys) (suc i) x here all =
      All-cons P y (slice_set ys i x) (All-head P y ys all) (All-slice_set ys i x here (All-tail P y ys all))

  pub All-with_at_number : (xs : List X) (n : ℕ) (x : X) → P x → All P xs → All P (with_at_number xs n x)
  All-with_at_number xs zero x here all = all
  All-with_at_number xs (suc k) x here all = subst (All P) (sym (with_at_number-suc xs k x)) (All-slice_set xs k x here all)

  -- the record of a number is changed
  pub All-change_at_number :
      (xs : List X) (n : ℕ) (change : X → X) → ((x : X) → at_number xs n ≡ Some x → P x → P (change x)) → All P xs →
      All P (change_at_number xs n change)
  All-change_at_number xs n change keeps all = go (at_number xs n) refl
    where
      go : (o : Option X) → at_number xs n ≡ o → All P (change_found xs n change o)
      go None e = all
      go (Some x) e = All-with_at_number xs n (change x) (keeps x e (All-at_number xs n x all e)) all

  -- the first that meets a test
  pub All-change_first :
      (test : X → Bool) (change : X → X) → ((x : X) → P x → P (change x)) → (xs : List X) → All P xs → All P (change_first test change xs)
  All-change_first test change keeps [] all = all
  All-change_first test change keeps (x ∷ xs) all = go (All-change_first test change keeps xs (All-tail P x xs all)) (test x)
    where
      go : All P (change_first test change xs) → (b : Bool) → All P (if b then change x ∷ xs else x ∷ change_first test change xs)
      go rest true = All-cons P (change x) xs (keeps x (All-head P x xs all)) (All-tail P x xs all)
      go rest false = All-cons P x (change_first test change xs) (All-head P x xs all) rest

  -- each of them
  pub All-changed : (change : X → X) → ((x : X) → P x → P (change x)) → (xs : List X) → All P xs → All P (map change xs)
  All-changed change keeps xs all = All-map P change xs (All-weaker P (λ x. P (change x)) keeps xs all)

-- two facts of each
pub All-both : {X : Type 0} (P Q R : X → Type 0) → ((x : X) → P x → Q x → R x) → (xs : List X) → All P xs → All Q xs → All R xs
All-both P Q R both [] a b = All-nil R
All-both P Q R both (x ∷ xs) a b =
    All-cons R x xs (both x (All-head P x xs a) (All-head Q x xs b)) (All-both P Q R both xs (All-tail P x xs a) (All-tail Q x xs b))
