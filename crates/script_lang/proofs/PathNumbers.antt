-- Paths are numbered in the order of their first uses.
use Rattle.std.proofs.Common.{◌≡◌, ℕ, ◌+◌, ◌<◌, Bool, true, false, cond, ◌==◌, nat_lt, List, [], ◌∷◌, ◌++◌, length, Some, None, refl, sym, ap, ◌∙◌, subst, arith}
use Rattle.std.specs.Prelude.{bytes_eq, map, slice_get, unwrap_or}
use Rattle.std.specs.List.{position_or_len}
use Rattle.std.proofs.lemmas.Bool.Decides.{nat_tests}
use Rattle.std.proofs.lemmas.List.{append_assoc, length-append}
use Rattle.std.proofs.lemmas.Option.{slice_get-get_or, unwrap_or-slice_get}
use Rattle.line_text.specs.Types.{PathId}
use Rattle.line_text.specs.Words.{are_distinct, first_uses, has_name, with_distinct_name, with_distinct_names}
use Rattle.line_forms.specs.Words.{ArePaths, Tables, is_same, path_number, path_word}
use Rattle.line_forms.proofs.Numbering.{number_of_path}
use Rattle.script_lang.specs.Spelled.{path_count_after}
use Rattle.script_lang.proofs.FirstUses.{BeginsWith, names_first, first_uses-distinct, place_within, place_after}

-- a path's number is that of its name

word_at : (paths : List (List ℕ)) (n : ℕ) → n < length paths → slice_get paths n ≡ Some (unwrap_or (slice_get paths n) [])
word_at paths n within = slice_get-get_or paths n [] within ∙ ap Some (sym (unwrap_or-slice_get paths n []))

number_at : (tables : Tables) (path : PathId) → are_distinct bytes_eq tables.paths ≡ true → path.0 < length tables.paths → path_number tables (path_word tables path) ≡ path.0
number_at tables path distinct within = number_of_path tables path.0 (path_word tables path) distinct (word_at tables.paths path.0 within)

-- one use more

used_before : (n : ℕ) (path : PathId) (paths : List PathId) → path.0 < n → path_count_after n (path ∷ paths) ≡ path_count_after n paths
used_before n path paths below = ap (λ b. cond b (path_count_after n paths) (cond (path.0 == n) (path_count_after (n + 1) paths) None)) (is_below path.0 n below)
  where
    is_below : (m n : ℕ) → m < n → nat_lt m n ≡ true
    is_below m n h = grind (arith, nat_tests)

used_first : (n : ℕ) (path : PathId) (paths : List PathId) → path.0 ≡ n → path_count_after n (path ∷ paths) ≡ path_count_after (n + 1) paths
used_first n path paths same =
    ap (λ b. cond b (path_count_after n paths) (cond (path.0 == n) (path_count_after (n + 1) paths) None)) (is_not_below path.0 n same) ∙
    ap (λ b. cond b (path_count_after (n + 1) paths) None) (is_same_number path.0 n same)
  where
    is_not_below : (m n : ℕ) → m ≡ n → nat_lt m n ≡ false
    is_not_below m n h = grind (arith, nat_tests)

    is_same_number : (m n : ℕ) → m ≡ n → (m == n) ≡ true
    is_same_number m n h = grind (arith, nat_tests)

use_if : (has : Bool) (tables : Tables) (seen : List (List ℕ)) (path : PathId) (paths : List PathId) (name : List ℕ) → path_number tables name ≡ path.0 → has_name seen name ≡ has → BeginsWith (cond has seen (seen ++ name ∷ [])) tables.paths
    → path_count_after (length seen) (path ∷ paths) ≡ path_count_after (length (cond has seen (seen ++ name ∷ []))) paths
use_if true tables seen path paths name number has begins =
    let at = ap (position_or_len (is_same name)) begins.split in
    let within = place_within seen begins.others name has in
    used_before (length seen) path paths (omega (arith, number, at, within))
use_if false tables seen path paths name number has begins =
    let split : tables.paths ≡ seen ++ name ∷ begins.others = begins.split ∙ append_assoc seen (name ∷ []) begins.others in
    let at = ap (position_or_len (is_same name)) split in
    let after = place_after seen begins.others name has in
    used_first (length seen) path paths (sym number ∙ at ∙ after) ∙ ap (λ n. path_count_after n paths) (sym (length-append seen (name ∷ [])))

numbered_from : (tables : Tables) (seen : List (List ℕ)) (uses : List PathId) → are_distinct bytes_eq tables.paths ≡ true → ArePaths tables uses → tables.paths ≡ with_distinct_names seen (map (path_word tables) uses) → path_count_after (length seen) uses ≡ Some (length tables.paths)
numbered_from tables seen [] distinct known is = ap (λ names. Some (length names)) (sym is)
numbered_from tables seen (path ∷ paths) distinct known is =
    let name = path_word tables path in
    let begins : BeginsWith (with_distinct_name seen name) tables.paths = subst (BeginsWith (with_distinct_name seen name)) (sym is) (names_first (with_distinct_name seen name) (map (path_word tables) paths)) in
    use_if (has_name seen name) tables seen path paths name (number_at tables path distinct known.0) refl begins ∙
    numbered_from tables (with_distinct_name seen name) paths distinct known.1 is

-- where the table of paths has the different ones of these uses, each new use has the next number
pub numbered_by_first_use : (tables : Tables) (uses : List PathId) → ArePaths tables uses → tables.paths ≡ first_uses (map (path_word tables) uses) → path_count_after 0 uses ≡ Some (length tables.paths)
numbered_by_first_use tables uses known is =
    numbered_from tables [] uses (ap (are_distinct bytes_eq) is ∙ first_uses-distinct (map (path_word tables) uses)) known is
