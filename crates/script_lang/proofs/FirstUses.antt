-- The different ones of names in the order of their first uses.
use Rattle.std.proofs.Common.{◌≡◌, ℕ, suc, ◌+◌, ◌<◌, Bool, true, false, cond, not, ◌&&◌, ◌||◌, List, [], ◌∷◌, ◌++◌, length, refl, sym, ap, ◌∙◌, arith}
use Rattle.std.specs.Prelude.{bytes_eq}
use Rattle.std.specs.List.{list_all, list_any, position_or_len}
use Rattle.std.proofs.lemmas.Bool.{and_parts, or_parts, false≢true}
use Rattle.std.proofs.lemmas.List.{append_assoc, append-nil}
use Rattle.std.proofs.lemmas.List.Folds.{list_any-append}
use Rattle.std.proofs.lemmas.Slice.Eq.{bytes_eq-Decides}
use Rattle.line_text.specs.Words.{are_distinct, first_uses, has_name, with_distinct_name, with_distinct_names}
use Rattle.line_forms.specs.Words.{is_same}

-- a list begins with these names
pub record BeginsWith (names all : List (List ℕ)) : Type 0 where
  pub others : List (List ℕ)
  pub split : all ≡ names ++ others

one_more : (has : Bool) (names : List (List ℕ)) (name : List ℕ) → BeginsWith names (cond has names (names ++ name ∷ []))
one_more true names name = record { others = []; split = sym (append-nil names) }
one_more false names name = record { others = name ∷ []; split = refl }

pub names_first : (names uses : List (List ℕ)) → BeginsWith names (with_distinct_names names uses)
names_first names [] = record { others = []; split = sym (append-nil names) }
names_first names (used ∷ uses) =
    let one = one_more (has_name names used) names used in
    let later = names_first (with_distinct_name names used) uses in
    record { others = one.others ++ later.others; split = later.split ∙ ap (λ ns. ns ++ later.others) one.split ∙ append_assoc names one.others later.others }

-- names that are among these

or_left : (one other : Bool) → one ≡ true → (one || other) ≡ true
or_left true other e = refl
or_left false other e = absurd (false≢true e)

or_right : (one other : Bool) → other ≡ true → (one || other) ≡ true
or_right true other e = refl
or_right false other e = e

own_name : (name : List ℕ) → bytes_eq name name ≡ true
own_name name = (bytes_eq-Decides name name).1 refl

has_still : (names all : List (List ℕ)) (name : List ℕ) → BeginsWith names all → has_name names name ≡ true → has_name all name ≡ true
has_still names all name begins has =
    ap (λ ns. has_name ns name) begins.split ∙
    list_any-append (λ other. bytes_eq other name) names begins.others ∙
    or_left (has_name names name) (has_name begins.others name) has

has_if : (has : Bool) (names : List (List ℕ)) (name : List ℕ) → has_name names name ≡ has → has_name (cond has names (names ++ name ∷ [])) name ≡ true
has_if true names name e = e
has_if false names name e =
    list_any-append (λ other. bytes_eq other name) names (name ∷ []) ∙
    or_right (has_name names name) (has_name (name ∷ []) name) (or_left (bytes_eq name name) false (own_name name))

has_itself : (names : List (List ℕ)) (name : List ℕ) → has_name (with_distinct_name names name) name ≡ true
has_itself names name = has_if (has_name names name) names name refl

both : (one other : Bool) → one ≡ true → other ≡ true → (one && other) ≡ true
both one other e f = ap (λ b. b && other) e ∙ f

all_used-after : (names uses : List (List ℕ)) → list_all (has_name (with_distinct_names names uses)) uses ≡ true
all_used-after names [] = refl
all_used-after names (used ∷ uses) =
    both (has_name (with_distinct_names (with_distinct_name names used) uses) used) (list_all (has_name (with_distinct_names (with_distinct_name names used) uses)) uses)
    (has_still (with_distinct_name names used) (with_distinct_names (with_distinct_name names used) uses) used (names_first (with_distinct_name names used) uses) (has_itself names used))
    (all_used-after (with_distinct_name names used) uses)

-- each use is among the different ones
pub all_used : (uses : List (List ℕ)) → list_all (has_name (first_uses uses)) uses ≡ true
all_used uses = all_used-after [] uses

-- no two of them are the same

distinct_one : (x : List ℕ) (xs : List (List ℕ)) (name : List ℕ) → not (list_any (bytes_eq x) xs) ≡ true → bytes_eq x name ≡ false → not (list_any (bytes_eq x) (xs ++ name ∷ [])) ≡ true
distinct_one x xs name none other =
    ap not (list_any-append (bytes_eq x) xs (name ∷ []) ∙ ap (λ b. list_any (bytes_eq x) xs || (b || false)) other ∙ no_more (list_any (bytes_eq x) xs)) ∙ none
  where
    no_more : (b : Bool) → (b || (false || false)) ≡ b
    no_more true = refl
    no_more false = refl

distinct_more : (names : List (List ℕ)) (name : List ℕ) → are_distinct bytes_eq names ≡ true → has_name names name ≡ false → are_distinct bytes_eq (names ++ name ∷ []) ≡ true
distinct_more [] name distinct new = refl
distinct_more (x ∷ xs) name distinct new =
    let parts = and_parts (not (list_any (bytes_eq x) xs)) (are_distinct bytes_eq xs) distinct in
    let others = or_parts (bytes_eq x name) (has_name xs name) new in
    both (not (list_any (bytes_eq x) (xs ++ name ∷ []))) (are_distinct bytes_eq (xs ++ name ∷ [])) (distinct_one x xs name parts.0 others.0) (distinct_more xs name parts.1 others.1)

distinct_if : (has : Bool) (names : List (List ℕ)) (name : List ℕ) → has_name names name ≡ has → are_distinct bytes_eq names ≡ true → are_distinct bytes_eq (cond has names (names ++ name ∷ [])) ≡ true
distinct_if true names name e distinct = distinct
distinct_if false names name e distinct = distinct_more names name distinct e

distinct_after : (names uses : List (List ℕ)) → are_distinct bytes_eq names ≡ true → are_distinct bytes_eq (with_distinct_names names uses) ≡ true
distinct_after names [] distinct = distinct
distinct_after names (used ∷ uses) distinct = distinct_after (with_distinct_name names used) uses (distinct_if (has_name names used) names used refl distinct)

pub first_uses-distinct : (uses : List (List ℕ)) → are_distinct bytes_eq (first_uses uses) ≡ true
first_uses-distinct uses = distinct_after [] uses refl

-- the place of a name

abbrev place_if : Bool → ℕ → ℕ
place_if here n = cond (not here) (1 + n) 0

within_if : (here has : Bool) (n m : ℕ) → (has ≡ true → n < m) → (here || has) ≡ true → place_if here n < suc m
within_if true has n m later e = omega arith
within_if false has n m later e = let h : n < m = later e in omega arith

-- a name that is among these has a place in them, whatever stands after
pub place_within : (names others : List (List ℕ)) (name : List ℕ) → has_name names name ≡ true → position_or_len (is_same name) (names ++ others) < length names
place_within [] others name has = absurd (false≢true has)
place_within (x ∷ names) others name has =
    within_if (bytes_eq x name) (has_name names name) (position_or_len (is_same name) (names ++ others)) (length names) (place_within names others name) has

-- one that is not has its place after them
pub place_after : (names others : List (List ℕ)) (name : List ℕ) → has_name names name ≡ false → position_or_len (is_same name) (names ++ name ∷ others) ≡ length names
place_after [] others name new = ap (λ here. place_if here (position_or_len (is_same name) others)) (own_name name)
place_after (x ∷ names) others name new =
    let parts = or_parts (bytes_eq x name) (has_name names name) new in
    ap (λ here. place_if here (position_or_len (is_same name) (names ++ name ∷ others))) parts.0 ∙ next (place_after names others name parts.1)
  where
    next : {m n : ℕ} → m ≡ n → 1 + m ≡ suc n
    next e = omega arith
