-- Paths that are numbered in the order of their first uses.
use Rattle.std.proofs.Common.{◌≡◌, ℕ, zero, suc, ◌+◌, ◌<◌, ◌≤◌, Bool, true, false, cond, ◌==◌, ◌||◌, not, List, [], ◌∷◌, ◌++◌, length, Some, None, refl, sym, ap, ◌∙◌, arith}
use Rattle.std.specs.Prelude.{map, slice_get, unwrap_or, bytes_eq, nat_lt}
use Rattle.std.specs.List.{list_any}
use Rattle.std.proofs.lemmas.Bool.{and_parts, or_parts, or_right, not-true, ltb-true, eqb-true}
use Rattle.std.proofs.lemmas.List.{append_assoc, append-nil, length-append}
use Rattle.std.proofs.lemmas.List.Folds.{list_any-append}
use Rattle.std.proofs.lemmas.Slice.Eq.{bytes_eq-Decides}
use Rattle.line_text.specs.Types.{PathId}
use Rattle.line_text.specs.Words.{are_distinct, first_uses, has_name, with_distinct_name, with_distinct_names}
use Rattle.line_forms.specs.Words.{Tables, path_word}
use Rattle.line_forms.proofs.Numbering.{same_some, no_value}
use Rattle.script_lang.specs.Spelled.{path_count_after}

own_name : (name : List ℕ) → bytes_eq name name ≡ true
own_name name = (bytes_eq-Decides name name).1 refl

abbrev name_at : List (List ℕ) → ℕ → List ℕ
name_at names i = unwrap_or (slice_get names i) []

-- a name at a place in front is among the names in front
name_in_front : (front rest : List (List ℕ)) (i : ℕ) → i < length front → has_name front (name_at (front ++ rest) i) ≡ true
name_in_front [] rest i within = absurd (omega arith)
name_in_front (name ∷ front) rest zero within = rw (own_name name) refl
name_in_front (name ∷ front) rest (suc i) within = let context : i < length front = omega arith in or_right (bytes_eq name (name_at (front ++ rest) i)) _ (name_in_front front rest i context)

name_after : (front rest : List (List ℕ)) (name : List ℕ) → name_at (front ++ name ∷ rest) (length front) ≡ name
name_after [] rest name = refl
name_after (first ∷ front) rest name = name_after front rest name

-- where nothing stands twice, a name is not among those in front of it
new_name : (front rest : List (List ℕ)) (name : List ℕ) → are_distinct bytes_eq (front ++ name ∷ rest) ≡ true → has_name front name ≡ false
new_name [] rest name distinct = refl
new_name (first ∷ front) rest name distinct =
    let parts = and_parts (not (list_any (bytes_eq first) (front ++ name ∷ rest))) (are_distinct bytes_eq (front ++ name ∷ rest)) distinct in
    let none : (list_any (bytes_eq first) front || list_any (bytes_eq first) (name ∷ rest)) ≡ false = sym (list_any-append (bytes_eq first) front (name ∷ rest)) ∙ not-true (list_any (bytes_eq first) (front ++ name ∷ rest)) parts.0 in
    let after = or_parts (list_any (bytes_eq first) front) (list_any (bytes_eq first) (name ∷ rest)) none in
    rw ((or_parts (bytes_eq first name) (list_any (bytes_eq first) rest) after.1).0, new_name front rest name parts.1) refl

-- there are no fewer paths after more uses

more_if : (old next : Bool) (n m : ℕ) (uses : List PathId) → (path_count_after n uses ≡ Some m → n ≤ m) → (path_count_after (n + 1) uses ≡ Some m → n + 1 ≤ m)
    → cond old (path_count_after n uses) (cond next (path_count_after (n + 1) uses) None) ≡ Some m → n ≤ m
more_if true next n m uses here later e = here e
more_if false true n m uses here later e = let more = later e in omega (arith, more)
more_if false false n m uses here later e = absurd (no_value e)

no_fewer : (n m : ℕ) (uses : List PathId) → path_count_after n uses ≡ Some m → n ≤ m
no_fewer n m [] e = let same : n ≡ m = same_some e in omega arith
no_fewer n m (path ∷ uses) e = more_if (nat_lt path.0 n) (path.0 == n) n m uses (no_fewer n m uses) (no_fewer (n + 1) m uses) e

-- the uses of the rest of these paths after those that are seen, in the order of their numbers
abbrev AreUses : Tables → List PathId → Type 0
AreUses tables uses = (seen rest : List (List ℕ)) → tables.paths ≡ seen ++ rest → path_count_after (length seen) uses ≡ Some (length tables.paths) → with_distinct_names seen (map (path_word tables) uses) ≡ tables.paths

none_left : (seen rest : List (List ℕ)) → length seen ≡ length (seen ++ rest) → seen ≡ seen ++ rest
none_left seen [] e = sym (append-nil seen)
none_left seen (name ∷ rest) e = let longer = length-append seen (name ∷ rest) in absurd (omega (arith, longer))

used_before : (tables : Tables) (path : PathId) (uses : List PathId) → AreUses tables uses → (seen rest : List (List ℕ)) → tables.paths ≡ seen ++ rest → path.0 < length seen → path_count_after (length seen) uses ≡ Some (length tables.paths)
    → with_distinct_names seen (map (path_word tables) (path ∷ uses)) ≡ tables.paths
used_before tables path uses others seen rest is within e =
    let old : has_name seen (path_word tables path) ≡ true = ap (λ paths. has_name seen (name_at paths path.0)) is ∙ name_in_front seen rest path.0 within in
    let kept : with_distinct_name seen (path_word tables path) ≡ seen = ap (λ test. cond test seen (seen ++ path_word tables path ∷ [])) old in
    ap (λ names. with_distinct_names names (map (path_word tables) uses)) kept ∙ others seen rest is e

used_first : (tables : Tables) (path : PathId) (uses : List PathId) → are_distinct bytes_eq tables.paths ≡ true → AreUses tables uses → (seen rest : List (List ℕ)) → tables.paths ≡ seen ++ rest → path.0 ≡ length seen
    → path_count_after (length seen + 1) uses ≡ Some (length tables.paths) → with_distinct_names seen (map (path_word tables) (path ∷ uses)) ≡ tables.paths
used_first tables path uses distinct others seen [] is next e =
    let more = no_fewer (length seen + 1) (length tables.paths) uses e in
    let all : length tables.paths ≡ length seen = ap length (is ∙ append-nil seen) in
    absurd (omega (arith, more, all))
used_first tables path uses distinct others seen (name ∷ rest) is next e =
    let word : path_word tables path ≡ name = ap (λ paths. name_at paths path.0) is ∙ ap (name_at (seen ++ name ∷ rest)) next ∙ name_after seen rest name in
    let new : has_name seen name ≡ false = new_name seen rest name (ap (are_distinct bytes_eq) (sym is) ∙ distinct) in
    let longer : length (seen ++ name ∷ []) ≡ length seen + 1 = length-append seen (name ∷ []) in
    rw (word, new) (others (seen ++ name ∷ []) rest (is ∙ sym (append_assoc seen (name ∷ []) rest)) (ap (λ n. path_count_after n uses) longer ∙ e))

uses_if : (old next : Bool) (tables : Tables) (path : PathId) (uses : List PathId) → are_distinct bytes_eq tables.paths ≡ true → AreUses tables uses → (seen rest : List (List ℕ)) → tables.paths ≡ seen ++ rest
    → nat_lt path.0 (length seen) ≡ old → (path.0 == length seen) ≡ next → cond old (path_count_after (length seen) uses) (cond next (path_count_after (length seen + 1) uses) None) ≡ Some (length tables.paths)
    → with_distinct_names seen (map (path_word tables) (path ∷ uses)) ≡ tables.paths
uses_if true next tables path uses distinct others seen rest is old at e = used_before tables path uses others seen rest is (ltb-true path.0 (length seen) old) e
uses_if false true tables path uses distinct others seen rest is old at e = used_first tables path uses distinct others seen rest is (eqb-true path.0 (length seen) at) e
uses_if false false tables path uses distinct others seen rest is old at e = absurd (no_value e)

are_uses : (tables : Tables) (uses : List PathId) → are_distinct bytes_eq tables.paths ≡ true → AreUses tables uses
are_uses tables [] distinct seen rest is e = none_left seen rest (same_some e ∙ ap length is) ∙ sym is
are_uses tables (path ∷ uses) distinct seen rest is e = uses_if (nat_lt path.0 (length seen)) (path.0 == length seen) tables path uses distinct (are_uses tables uses distinct) seen rest is refl refl e

-- the names of uses that number all paths in the order of their first uses are those paths
pub first_uses_numbered : (tables : Tables) (uses : List PathId) → are_distinct bytes_eq tables.paths ≡ true → path_count_after 0 uses ≡ Some (length tables.paths) → first_uses (map (path_word tables) uses) ≡ tables.paths
first_uses_numbered tables uses distinct e = are_uses tables uses distinct [] tables.paths refl e
