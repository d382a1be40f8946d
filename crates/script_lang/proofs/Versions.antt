-- The versions of texts.
use Rattle.std.proofs.Common.{◌≡◌, ℕ, ◌≤◌, Bool, true, false, cond, ◌==◌, ◌||◌, List, [], ◌∷◌, Some, None, map, refl, sym, subst, arith}
use Rattle.std.specs.Prelude.{All, bytes_eq, codes}
use Rattle.std.specs.Fmt.{digits}
use Rattle.std.specs.List.{list_all, list_any}
use Rattle.std.proofs.lemmas.Bool.{and_from, and_parts, eqb-true, false≢true, le-leb}
use Rattle.std.proofs.lemmas.List.Elements.{All-nil, All-cons, All-head, All-tail}
use Rattle.std.proofs.lemmas.Slice.Eq.{bytes_eq-Decides}
use Rattle.line_text.specs.Types.{Tid}
use Rattle.line_text.proofs.PrintableWords.{are_printable}
use Rattle.law_lines.proofs.TableWords.{find_among, find_passes}
use Rattle.script_lang.specs.declared.item.ScriptLine.{ScriptLine}
use Rattle.script_lang.specs.declared.item.ScriptLine.TheVariants.{Budget, Schedule}
use Rattle.script_lang.specs.Canonical.{header}
use Rattle.script_lang.specs.Parsing.{version_of}
use Rattle.script_lang.specs.Spelled.{is_of_version, is_version}
use Rattle.script_lang.specs.Versions.{versions}
use Rattle.script_lang.proofs.CanonicalScript.{with_rows, written}

-- what holds of each of these holds of one that is among them
among_if : (P : ℕ → Type 0) (version one : ℕ) (others : List ℕ) (here : Bool) → P one → (list_any (λ of. version == of) others ≡ true → P version) → (version == one) ≡ here → (here || list_any (λ of. version == of) others) ≡ true → P version
among_if P version one others true first later is among = subst P (sym (eqb-true version one is)) first
among_if P version one others false first later is among = later among

by_among : (P : ℕ → Type 0) (version : ℕ) (vs : List ℕ) → All P vs → list_any (λ of. version == of) vs ≡ true → P version
by_among P version [] all among = absurd (false≢true among)
by_among P version (one ∷ others) all among =
    among_if P version one others (version == one) (All-head P one others all) (by_among P version others (All-tail P one others all)) refl among

-- what holds of the versions from 1 to 4 holds of each version
pub by_version : (P : ℕ → Type 0) (version : ℕ) → P 1 → P 2 → P 3 → P 4 → is_version version ≡ true → P version
by_version P version one two three four versioned =
    by_among P version versions
    (All-cons P 1 (2 ∷ 3 ∷ 4 ∷ []) one (All-cons P 2 (3 ∷ 4 ∷ []) two (All-cons P 3 (4 ∷ []) three (All-cons P 4 [] four (All-nil P)))))
    versioned

pub is_version_some : (version : ℕ) → is_version version ≡ true → 1 ≤ version
is_version_some version versioned = by_version (λ v. 1 ≤ v) version (omega arith) (omega arith) (omega arith) (omega arith) versioned

pub header_printable : (version : ℕ) → is_version version ≡ true → are_printable (header version) ≡ true
unfolding digits
header_printable version versioned = by_version (λ v. are_printable (header v) ≡ true) version refl refl refl refl versioned

-- the version that a header names is its own
pub version_again : (version : ℕ) → is_version version ≡ true → version_of (header version) ≡ Some version
unfolding digits
version_again version versioned = by_version (λ v. version_of (header v) ≡ Some v) version refl refl refl refl versioned

pub version_spelled :
    (line : List ℕ) →
    version_of line ≡ cond (bytes_eq line (codes "doors script 1")) (Some 1) (
    cond (bytes_eq line (codes "doors script 2")) (Some 2) (
    cond (bytes_eq line (codes "doors script 3")) (Some 3) (
    cond (bytes_eq line (codes "doors script 4")) (Some 4) None)))
unfolding digits
version_spelled line = refl

-- a line that names a version is its header
pub record IsHeaded (line : List ℕ) (version : ℕ) : Type 0 where
  pub versioned : is_version version ≡ true
  pub headed : line ≡ header version

abbrev is_header : List ℕ → ℕ → Bool
is_header line version = bytes_eq line (header version)

pub version_found : (line : List ℕ) (version : ℕ) → version_of line ≡ Some version → IsHeaded line version
version_found line version e =
    record {
      versioned = find_among (is_header line) is_version versions version refl e;
      headed = (bytes_eq-Decides line (header version)).0 (find_passes (is_header line) versions version e);
    }

-- lines of a version

rows_of_version : (version : ℕ) → 1 ≤ version → (rows : List (List Tid)) → list_all (is_of_version version) (map Schedule rows) ≡ true
rows_of_version version some [] = refl
rows_of_version version some (row ∷ rows) = and_from _ _ (le-leb 1 version some) (rows_of_version version some rows)

with_rows_of_version : (version : ℕ) → 1 ≤ version → (items : List ScriptLine) (rows : List (List Tid)) → list_all (is_of_version version) items ≡ true → list_all (is_of_version version) (with_rows items rows) ≡ true
with_rows_of_version version some [] rows all = rows_of_version version some rows
with_rows_of_version version some (Budget events ∷ items) rows all =
    with_rows_of_version version some items rows (and_parts (is_of_version version (Budget events)) (list_all (is_of_version version) items) all).1
with_rows_of_version version some (Schedule threads ∷ items) rows all =
    with_rows_of_version version some items rows (and_parts (is_of_version version (Schedule threads)) (list_all (is_of_version version) items) all).1
with_rows_of_version version some (item ∷ items) rows all =
    let parts = and_parts (is_of_version version item) (list_all (is_of_version version) items) all in
    and_from _ _ parts.0 (with_rows_of_version version some items rows parts.1)

-- the canonical lines are of the version of which the lines are
pub written_of_version : (version : ℕ) → 1 ≤ version → (items : List ScriptLine) (rows : List (List Tid)) → list_all (is_of_version version) items ≡ true → list_all (is_of_version version) (written items rows) ≡ true
written_of_version version some items rows all = and_from _ _ (le-leb 1 version some) (with_rows_of_version version some items rows all)
