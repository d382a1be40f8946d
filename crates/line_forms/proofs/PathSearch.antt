-- Searches in the table of paths.
use Rattle.std.proofs.Common.{◌≡◌, ℕ, ◌+◌, ◌≤◌, Bool, true, false, cond, List, [], ◌∷◌, ◌++◌, length, Some, None, refl, ap, sym, ◌∙◌, arith}
use Rattle.std.specs.Prelude.{position, bytes_eq, not, nat_lt, ◌||◌, ◌&&◌}
use Rattle.std.specs.List.{position_or_len, list_any, AllZip}
use Rattle.std.specs.declared.vec.Vec.{Vec}
use Rattle.std.proofs.lemmas.List.Sums.{prefix_len-le-length}
use Rattle.std.proofs.lemmas.List.{map-append}
use Rattle.std.proofs.lemmas.Bool.Decides.{nat_tests}
use Rattle.std.proofs.lemmas.Cmp.{nat_list_eq_equiv}
use Rattle.std.proofs.lemmas.Slice.Eq.{slice_eq-Decides}
use Rattle.std.specs.Bool.{Decides}
use Rattle.std.specs.Cmp.{unsigned_Decides}
use Rattle.std.specs.Cmp.Lexicographic.{pointwise}
use Rattle.line_text.specs.Words.{has_name, with_distinct_name}
use Rattle.line_forms.specs.Tables.{is_same}
use Rattle.line_forms.specs.PathNames.{names_as_bytes}

pub bytes_eq_comm : (xs ys : List ℕ) → bytes_eq xs ys ≡ bytes_eq ys xs
bytes_eq_comm xs ys = nat_list_eq_equiv.symm xs ys

abbrev count_if : Bool → ℕ → ℕ
count_if test n = cond (not test) (1 + n) 0

pub named_place : {Y : Type 0} (name : List ℕ) (keys : List (Vec ℕ Y)) → position_or_len (is_same name) (names_as_bytes keys) ≡ position_or_len (λ key. bytes_eq name key.items) keys
named_place name [] = refl
named_place name (key ∷ keys) =
    ap (λ test. count_if test (position_or_len (is_same name) (names_as_bytes keys))) (bytes_eq_comm key.items name) ∙
    ap (count_if (bytes_eq name key.items)) (named_place name keys)

some_of : (test : Bool) (n : ℕ) (i : ℕ) → cond test (Some n) None ≡ Some i → i ≡ n
some_of true n i e = cc
some_of false n i e = cc

pub place_found : {X : Type 0} (test : X → Bool) (xs : List X) (i : ℕ) → position test xs ≡ Some i → i ≡ position_or_len test xs
place_found test xs i e = some_of (nat_lt (position_or_len test xs) (length xs)) (position_or_len test xs) i e

not_below : (m n : ℕ) → m ≤ n → cond (nat_lt m n) (Some m) None ≡ None → n ≡ m
not_below m n h e = grind (arith, nat_tests)

pub place_missing : {X : Type 0} (test : X → Bool) (xs : List X) → position test xs ≡ None → length xs ≡ position_or_len test xs
place_missing test xs e = not_below (position_or_len test xs) (length xs) (prefix_len-le-length (λ x. not (test x)) xs) e

pub named_any : {Y : Type 0} (name : List ℕ) (keys : List (Vec ℕ Y)) → has_name (names_as_bytes keys) name ≡ list_any (λ key. bytes_eq name key.items) keys
named_any name [] = refl
named_any name (key ∷ keys) =
    ap (λ test. test || has_name (names_as_bytes keys) name) (bytes_eq_comm key.items name) ∙
    ap (λ others. bytes_eq name key.items || others) (named_any name keys)

-- what the table has after a name was put in
inserted_if : {Y : Type 0} (test : Bool) (value : Vec ℕ Y) (keys : List (Vec ℕ Y)) → names_as_bytes (cond test keys (keys ++ value ∷ [])) ≡ cond test (names_as_bytes keys) (names_as_bytes keys ++ value.items ∷ [])
inserted_if true value keys = refl
inserted_if false value keys = map-append (λ name. name.items) keys (value ∷ [])

pub inserted : {Y : Type 0} (name : List ℕ) (value : Vec ℕ Y) (old new : List (Vec ℕ Y)) → value.items ≡ name → new ≡ cond (list_any (λ key. bytes_eq value.items key.items) old) old (old ++ value ∷ []) → names_as_bytes new ≡ with_distinct_name (names_as_bytes old) name
inserted name value old new is e =
    ap names_as_bytes e ∙
    inserted_if (list_any (λ key. bytes_eq value.items key.items) old) value old ∙
    ap (λ test. cond test (names_as_bytes old) (names_as_bytes old ++ value.items ∷ [])) (sym (named_any value.items old)) ∙
    ap (with_distinct_name (names_as_bytes old)) is

-- `==` of two tables' names
same_names : {Y : Type 0} (xs ys : List (Vec ℕ Y)) → pointwise (λ (x y : Vec ℕ Y). bytes_eq x.items y.items) xs ys ≡ pointwise bytes_eq (names_as_bytes xs) (names_as_bytes ys)
same_names [] [] = refl
same_names [] (y ∷ ys) = refl
same_names (x ∷ xs) [] = refl
same_names (x ∷ xs) (y ∷ ys) = ap (λ rest. bytes_eq x.items y.items && rest) (same_names xs ys)

pub same_paths : {Y : Type 0} (xs ys : List (Vec ℕ Y)) (r : Bool) → r ≡ pointwise (λ (x y : Vec ℕ Y). bytes_eq x.items y.items) xs ys → Decides r (names_as_bytes xs ≡ names_as_bytes ys)
same_paths xs ys r e = slice_eq-Decides (λ a b. slice_eq-Decides unsigned_Decides a b (bytes_eq a b) refl) (names_as_bytes xs) (names_as_bytes ys) r (e ∙ same_names xs ys)

pub copied_paths : {Y : Type 0} (C : Vec ℕ Y → Vec ℕ Y → Type 0) (xs ys : List (Vec ℕ Y)) → AllZip C xs ys → ((x y : Vec ℕ Y) → C x y → y.items ≡ x.items) → names_as_bytes ys ≡ names_as_bytes xs
copied_paths C [] [] all each = refl
copied_paths C [] (y ∷ ys) all each = absurd all
copied_paths C (x ∷ xs) [] all each = absurd all
copied_paths C (x ∷ xs) (y ∷ ys) all each = λ i. each x y all.0 i ∷ copied_paths C xs ys all.1 each i
