-- Names and their numbers.
use Rattle.std.proofs.Common.{◌≡◌, ℕ, zero, suc, ◌+◌, ◌-◌, ◌<◌, ◌≤◌, Bool, true, false, cond, ◌==◌, ◌&&◌, not, List, [], ◌∷◌, length, take, Option, Some, None, refl, ap, sym, ◌∙◌, subst, arith}
use Rattle.std.specs.Prelude.{slice_get, position, nat_lt, bytes_eq}
use Rattle.std.specs.List.{position_or_len, list_any}
use Rattle.std.proofs.lemmas.Bool.{false≢true, and_parts, or_parts}
use Rattle.std.proofs.lemmas.Bool.Decides.{nat_tests}
use Rattle.std.proofs.lemmas.Slice.Eq.{bytes_eq-Decides}
use Rattle.line_text.specs.Words.{are_distinct}
use Rattle.dk_base.specs.ByNumber.{at_number}
use Rattle.line_forms.specs.Tables.{Tables, ProcedureName, child_number, earlier_number, entry_number, from_one, is_child, is_procedure, is_same, only_child, path_number, process_number}
use Rattle.line_forms.specs.DistinctTables.{is_same_procedure}
use Rattle.line_forms.specs.Spelled.{qualified_name}

abbrev some_or : {A : Type 0} → A → Option A → A
some_or x None = x
some_or x (Some y) = y

pub same_some : {A : Type 0} {x y : A} → ◌≡◌ {A = Option A} (Some x) (Some y) → x ≡ y
same_some {x = x} e = ap (some_or x) e

abbrev is_there : {A : Type 0} → Option A → Bool
is_there None = false
is_there (Some x) = true

pub no_value : {A : Type 0} {x : A} → ◌≡◌ {A = Option A} None (Some x) → ⊥
no_value e = false≢true (ap is_there e)

-- what a name's number names

record Passes {A : Type 0} (test : A → Bool) (xs : List A) (i : ℕ) : Type 0 where
  item : A
  at : slice_get xs i ≡ Some item
  passes : test item ≡ true

passes_after : {A : Type 0} (test : A → Bool) (x : A) (xs : List A) (i j : ℕ) → j ≡ 1 + i → Passes test xs i → Passes test (x ∷ xs) j
passes_after test x xs i zero e found = absurd (omega arith)
passes_after test x xs i (suc j) e found = let same : i ≡ j = omega arith in record { item = found.item; at = ap (slice_get xs) (sym same) ∙ found.at; passes = found.passes }

first_if : {A : Type 0} (test : A → Bool) (x : A) (xs : List A) (here : Bool) → test x ≡ here → (position_or_len test xs < length xs → Passes test xs (position_or_len test xs))
    → cond (not here) (1 + position_or_len test xs) 0 < length (x ∷ xs) → Passes test (x ∷ xs) (cond (not here) (1 + position_or_len test xs) 0)
first_if test x xs true is later within = record { item = x; at = refl; passes = is }
first_if test x xs false is later within = passes_after test x xs (position_or_len test xs) (1 + position_or_len test xs) refl (later (omega arith))

first_passes : {A : Type 0} (test : A → Bool) (xs : List A) → position_or_len test xs < length xs → Passes test xs (position_or_len test xs)
first_passes test [] within = absurd (omega arith)
first_passes test (x ∷ xs) within = first_if test x xs (test x) refl (first_passes test xs) within

place_if : (within : Bool) (n i : ℕ) → cond within (Some n) None ≡ Some i → (within ≡ true) × (n ≡ i)
place_if true n i e = (refl, same_some e)
place_if false n i e = absurd (no_value e)

below_if : (m n : ℕ) → nat_lt m n ≡ true → m < n
below_if m n e = grind (arith, nat_tests)

place_passes : {A : Type 0} (test : A → Bool) (xs : List A) (i : ℕ) → position test xs ≡ Some i → Passes test xs i
place_passes test xs i e =
    let place = place_if (nat_lt (position_or_len test xs) (length xs)) (position_or_len test xs) i e in
    subst (Passes test xs) place.1 (first_passes test xs (below_if (position_or_len test xs) (length xs) place.0))

same_name : (name other : List ℕ) → is_same name other ≡ true → other ≡ name
same_name name other e = (bytes_eq-Decides other name).0 e

pub name_at_place : (names : List (List ℕ)) (name : List ℕ) (i : ℕ) → position (is_same name) names ≡ Some i → slice_get names i ≡ Some name
name_at_place names name i e = let found = place_passes (is_same name) names i e in found.at ∙ ap Some (same_name name found.item found.passes)

numbered_from_one : (names : List (List ℕ)) (i : ℕ) → at_number names (i + 1) ≡ slice_get names i
numbered_from_one names i = rw (no_zero i) (ap (slice_get names) (omega arith))
  where
    no_zero : (i : ℕ) → (i + 1 == 0) ≡ false
    no_zero i = grind (arith, nat_tests)

from_one_at : (names : List (List ℕ)) (name : List ℕ) (place : Option ℕ) (n : ℕ) → position (is_same name) names ≡ place → from_one place ≡ Some n → at_number names n ≡ Some name
from_one_at names name None n is e = absurd (no_value e)
from_one_at names name (Some i) n is e = ap (at_number names) (sym (same_some e)) ∙ numbered_from_one names i ∙ name_at_place names name i is

-- a name that has this number
pub name_of_number : (names : List (List ℕ)) (name : List ℕ) (n : ℕ) → from_one (position (is_same name) names) ≡ Some n → at_number names n ≡ Some name
name_of_number names name n e = from_one_at names name (position (is_same name) names) n refl e

same_process : (process : ℕ) (name : List ℕ) (other : ProcedureName) → is_procedure process name other ≡ true → other ≡ qualified_name process name
same_process process name other e =
    let parts = and_parts (other.process == process) (bytes_eq other.name name) e in
    let of : other.process ≡ process = grind (arith, nat_tests) in
    let is : other.name ≡ name = (bytes_eq-Decides other.name name).0 parts.1 in
    ap (λ n. qualified_name n other.name) of ∙ ap (qualified_name process) is

pub procedure_of_number : (tables : Tables) (process : ℕ) (name : List ℕ) (n : ℕ) → entry_number tables process name ≡ Some n → slice_get tables.procedures n ≡ Some (qualified_name process name)
procedure_of_number tables process name n e =
    let found = place_passes (is_procedure process name) tables.procedures n e in
    found.at ∙ ap Some (same_process process name found.item found.passes)

pub path_of_number : (tables : Tables) (name : List ℕ) → path_number tables name < length tables.paths → slice_get tables.paths (path_number tables name) ≡ Some name
path_of_number tables name within = let found = first_passes (is_same name) tables.paths within in found.at ∙ ap Some (same_name name found.item found.passes)

-- the number of what is at a place, where nothing stands twice

within_length : {A : Type 0} (xs : List A) (i : ℕ) (y : A) → slice_get xs i ≡ Some y → i < length xs
within_length [] i y e = absurd (no_value e)
within_length (x ∷ xs) zero y e = omega arith
within_length (x ∷ xs) (suc i) y e = let later = within_length xs i y e in omega arith

none_passes : {A : Type 0} (test : A → Bool) (xs : List A) (i : ℕ) (y : A) → list_any test xs ≡ false → slice_get xs i ≡ Some y → test y ≡ false
none_passes test [] i y none at = absurd (no_value at)
none_passes test (x ∷ xs) zero y none at = ap test (sym (same_some at)) ∙ (or_parts (test x) (list_any test xs) none).0
none_passes test (x ∷ xs) (suc i) y none at = none_passes test xs i y (or_parts (test x) (list_any test xs) none).1 at

not_true : (b : Bool) → not b ≡ true → b ≡ false
not_true true e = absurd (false≢true e)
not_true false e = refl

first_at : {A : Type 0} (same : A → A → Bool) (xs : List A) (i : ℕ) (y : A) → same y y ≡ true → are_distinct same xs ≡ true → slice_get xs i ≡ Some y → position_or_len (λ x. same x y) xs ≡ i
first_at same [] i y own distinct at = absurd (no_value at)
first_at same (x ∷ xs) zero y own distinct at = ap (λ test. cond (not test) (1 + position_or_len (λ x. same x y) xs) 0) (ap (λ z. same z y) (same_some at) ∙ own)
first_at same (x ∷ xs) (suc i) y own distinct at =
    let parts = and_parts (not (list_any (same x) xs)) (are_distinct same xs) distinct in
    let other : same x y ≡ false = none_passes (same x) xs i y (not_true (list_any (same x) xs) parts.0) at in
    let later : position_or_len (λ x. same x y) xs ≡ i = first_at same xs i y own parts.1 at in
    ap (λ test. cond (not test) (1 + position_or_len (λ x. same x y) xs) 0) other ∙ omega arith

place_at : {A : Type 0} (test : A → Bool) (xs : List A) (i : ℕ) → position_or_len test xs ≡ i → i < length xs → position test xs ≡ Some i
place_at test xs i e within = ap (λ n. cond (nat_lt n (length xs)) (Some n) None) e ∙ within_is i (length xs) within
  where
    within_is : (m n : ℕ) → m < n → cond (nat_lt m n) (Some m) None ≡ Some m
    within_is m n h = grind (arith, nat_tests)

own_name : (name : List ℕ) → bytes_eq name name ≡ true
own_name name = (bytes_eq-Decides name name).1 refl

pub place_of_name : (names : List (List ℕ)) (i : ℕ) (name : List ℕ) → are_distinct bytes_eq names ≡ true → slice_get names i ≡ Some name → position (is_same name) names ≡ Some i
place_of_name names i name distinct at = place_at (is_same name) names i (first_at bytes_eq names i name (own_name name) distinct at) (within_length names i name at)

number_if : (none : Bool) (names : List (List ℕ)) (n : ℕ) (name : List ℕ) → (n == 0) ≡ none → are_distinct bytes_eq names ≡ true → cond none None (slice_get names (n - 1)) ≡ Some name → from_one (position (is_same name) names) ≡ Some n
number_if true names n name is distinct at = absurd (no_value at)
number_if false names n name is distinct at =
    let positive : 0 < n = above n is in
    ap from_one (place_of_name names (n - 1) name distinct at) ∙ ap Some (omega arith)
  where
    above : (n : ℕ) → (n == 0) ≡ false → 0 < n
    above n h = grind (arith, nat_tests)

pub number_of_name : (names : List (List ℕ)) (n : ℕ) (name : List ℕ) → are_distinct bytes_eq names ≡ true → at_number names n ≡ Some name → from_one (position (is_same name) names) ≡ Some n
number_of_name names n name distinct at = number_if (n == 0) names n name refl distinct at

own_procedure : (process : ℕ) (name : List ℕ) → is_procedure process name (qualified_name process name) ≡ true
own_procedure process name = rw own_name (own process)
  where
    own : (n : ℕ) → ((n == n) && true) ≡ true
    own n = grind (arith, nat_tests)

pub number_of_procedure : (tables : Tables) (process n : ℕ) (name : List ℕ) → are_distinct is_same_procedure tables.procedures ≡ true → slice_get tables.procedures n ≡ Some (qualified_name process name) → entry_number tables process name ≡ Some n
number_of_procedure tables process n name distinct at =
    place_at (is_procedure process name) tables.procedures n (first_at is_same_procedure tables.procedures n (qualified_name process name) (own_procedure process name) distinct at) (within_length tables.procedures n (qualified_name process name) at)

pub number_of_path : (tables : Tables) (n : ℕ) (name : List ℕ) → are_distinct bytes_eq tables.paths ≡ true → slice_get tables.paths n ≡ Some name → path_number tables name ≡ n
number_of_path tables n name distinct at = first_at bytes_eq tables.paths n name (own_name name) distinct at

-- children and parents

child_at : (tables : Tables) (process : ℕ) (number : Option ℕ) (n : ℕ) → only_child tables process number ≡ Some n → (number ≡ Some n) × (is_child tables process n ≡ true)
child_at tables process None n e = absurd (no_value e)
child_at tables process (Some m) n e = let found = place_if (is_child tables process m) m n e in (ap Some found.1, ap (is_child tables process) (sym found.1) ∙ found.0)

pub child_of_number : (tables : Tables) (process : ℕ) (name : List ℕ) (n : ℕ) → child_number tables process name ≡ Some n → (process_number tables name ≡ Some n) × (is_child tables process n ≡ true)
child_of_number tables process name n e = child_at tables process (process_number tables name) n e

pub number_of_child : (tables : Tables) (process : ℕ) (name : List ℕ) (n : ℕ) → process_number tables name ≡ Some n → is_child tables process n ≡ true → child_number tables process name ≡ Some n
number_of_child tables process name n numbered is = ap (only_child tables process) numbered ∙ ap (λ test. cond test (Some n) None) is

taken_at : {A : Type 0} (k : ℕ) (xs : List A) (i : ℕ) → i < k → slice_get (take k xs) i ≡ slice_get xs i
taken_at zero xs i h = absurd (omega arith)
taken_at (suc k) [] i h = refl
taken_at (suc k) (x ∷ xs) zero h = refl
taken_at (suc k) (x ∷ xs) (suc i) h = taken_at k xs i (omega arith)

taken_within : {A : Type 0} (k : ℕ) (xs : List A) (i : ℕ) (y : A) → slice_get (take k xs) i ≡ Some y → i < k
taken_within zero xs i y e = absurd (no_value e)
taken_within (suc k) [] i y e = absurd (no_value e)
taken_within (suc k) (x ∷ xs) zero y e = omega arith
taken_within (suc k) (x ∷ xs) (suc i) y e = let later = taken_within k xs i y e in omega arith

any_taken : {A : Type 0} (test : A → Bool) (k : ℕ) (xs : List A) → list_any test xs ≡ false → list_any test (take k xs) ≡ false
any_taken test zero xs none = refl
any_taken test (suc k) [] none = refl
any_taken test (suc k) (x ∷ xs) none = let parts = or_parts (test x) (list_any test xs) none in rw (parts.0, any_taken test k xs parts.1) refl

distinct_taken : {A : Type 0} (same : A → A → Bool) (k : ℕ) (xs : List A) → are_distinct same xs ≡ true → are_distinct same (take k xs) ≡ true
distinct_taken same zero xs distinct = refl
distinct_taken same (suc k) [] distinct = refl
distinct_taken same (suc k) (x ∷ xs) distinct =
    let parts = and_parts (not (list_any (same x) xs)) (are_distinct same xs) distinct in
    rw (any_taken (same x) k xs (not_true (list_any (same x) xs) parts.0), distinct_taken same k xs parts.1) refl

above_zero : (n : ℕ) → (n == 0) ≡ false → 0 < n
above_zero n h = grind (arith, nat_tests)

taken_number_if : (none : Bool) (k : ℕ) (names : List (List ℕ)) (n : ℕ) → (n == 0) ≡ none → n ≤ k → cond none None (slice_get (take k names) (n - 1)) ≡ cond none None (slice_get names (n - 1))
taken_number_if true k names n is least = refl
taken_number_if false k names n is least = let positive : 0 < n = above_zero n is in taken_at k names (n - 1) (omega arith)

taken_number : (k : ℕ) (names : List (List ℕ)) (n : ℕ) → n ≤ k → at_number (take k names) n ≡ at_number names n
taken_number k names n least = taken_number_if (n == 0) k names n refl least

number_within_if : (none : Bool) (k : ℕ) (names : List (List ℕ)) (n : ℕ) (name : List ℕ) → (n == 0) ≡ none → cond none None (slice_get (take k names) (n - 1)) ≡ Some name → n ≤ k
number_within_if true k names n name is at = absurd (no_value at)
number_within_if false k names n name is at = let within = taken_within k names (n - 1) name at in omega arith

-- a name that has this number among the first so many
pub name_of_earlier : (names : List (List ℕ)) (before : ℕ) (name : List ℕ) (n : ℕ) → earlier_number (take before names) name ≡ Some n → (at_number names n ≡ Some name) × (n ≤ before)
name_of_earlier names before name n e =
    let at : at_number (take before names) n ≡ Some name = name_of_number (take before names) name n e in
    let within : n ≤ before = number_within_if (n == 0) before names n name refl at in
    (sym (taken_number before names n within) ∙ at, within)

pub number_of_earlier : (names : List (List ℕ)) (before n : ℕ) (name : List ℕ) → are_distinct bytes_eq names ≡ true → at_number names n ≡ Some name → n ≤ before → earlier_number (take before names) name ≡ Some n
number_of_earlier names before n name distinct at within =
    number_of_name (take before names) n name (distinct_taken bytes_eq before names distinct) (taken_number before names n within ∙ at)
