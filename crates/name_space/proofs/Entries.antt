-- What the entries of a map from paths to doors say of the names.
use Rattle.std.proofs.Common.{◌≡◌, ℕ, ◌==◌, Bool, true, false, cond, not, nat_eq, List, [], ◌∷◌, ◌++◌, Option, Some, None, is_some, option_map, map, refl, sym, ap, ◌∙◌, arith}
use Rattle.std.proofs.lemmas.Bool.Decides.{nat_tests}
use Rattle.std.proofs.lemmas.List.{map-append}
use Rattle.std.proofs.lemmas.Map.Keys.{IsDistinct-head, IsDistinct-tail}
use Rattle.std.specs.List.{AllByRecursion, IsDistinct}
use Rattle.std.specs.Map.{keys_of, lookup, remove_entry}
use Rattle.dk_base.specs.declared.number.PathId.{PathId}
use Rattle.spec_records.specs.declared.record.Name.{Name}
use Rattle.spec_records.specs.Words.{name_in, with_name, without_name}
use Rattle.name_space.specs.NameTable.{attached_door, door_of_name, name_of_entry, names_in, path_number}

either_way : (a b : ℕ) → (a == b) ≡ nat_eq b a
either_way a b = grind (arith, nat_tests)

-- look-ups

door_picked : (b : Bool) (n : Name) (o : Option Name) → option_map door_of_name (cond b (Some n) o) ≡ cond b (Some n.door) (option_map door_of_name o)
door_picked true n o = refl
door_picked false n o = refl

pub door_found : (path : PathId) (es : List (ℕ × ℕ)) → attached_door (names_in es) path ≡ lookup (nat_eq path.0) es
door_found path [] = refl
door_found path (e ∷ es) =
    door_picked (e.0 == path.0) (name_of_entry e) (name_in (names_in es) path)
    ∙ (λ i. cond (either_way e.0 path.0 i) (Some e.1) (door_found path es i))

some_door : (o : Option Name) → is_some o ≡ is_some (option_map door_of_name o)
some_door None = refl
some_door (Some n) = refl

pub name_found : (path : PathId) (es : List (ℕ × ℕ)) → is_some (name_in (names_in es) path) ≡ is_some (lookup (nat_eq path.0) es)
name_found path es = some_door (name_in (names_in es) path) ∙ ap is_some (door_found path es)

-- another name

none_found : (o : Option ℕ) → is_some o ≡ false → o ≡ None
none_found None h = refl
none_found (Some n) h = cc

pub none_there : (path : PathId) (es : List (ℕ × ℕ)) → is_some (name_in (names_in es) path) ≡ false → lookup (nat_eq path.0) es ≡ None
none_there path es h = none_found (lookup (nat_eq path.0) es) (sym (name_found path es) ∙ h)

pub attached : (path : PathId) (door : ℕ) (es : List (ℕ × ℕ)) → names_in (es ++ (path.0, door) ∷ []) ≡ with_name (names_in es) path door
attached path door es = map-append name_of_entry es ((path.0, door) ∷ [])

-- one name fewer

kept_if : (b : Bool) (n : Name) (ns ms : List Name) → b ≡ false → ns ≡ ms → cond (not b) (n ∷ ns) ns ≡ n ∷ ms
kept_if b n ns ms h e = ap (λ c. cond (not c) (n ∷ ns) ns) h ∙ ap (λ l. n ∷ l) e

apart : (p k q : ℕ) → nat_eq p k ≡ true → nat_eq k q ≡ false → (q == p) ≡ false
apart p k q h d = grind (arith, nat_tests)

-- names of other paths all stay
all_kept : (path : PathId) (k : ℕ) → nat_eq path.0 k ≡ true → (es : List (ℕ × ℕ)) → AllByRecursion (λ q. nat_eq k q ≡ false) (keys_of es) → without_name (names_in es) path ≡ names_in es
all_kept path k h [] d = refl
all_kept path k h (e ∷ es) d =
    kept_if (e.0 == path.0) (name_of_entry e) (without_name (names_in es) path) (names_in es) (apart path.0 k e.0 h d.0) (all_kept path k h es d.1)

removed_if : (b : Bool) (e : ℕ × ℕ) (es rest : List (ℕ × ℕ)) (ns : List Name) → (b ≡ true → ns ≡ names_in es) → (b ≡ false → names_in rest ≡ ns) → names_in (cond b es (e ∷ rest)) ≡ cond (not b) (name_of_entry e ∷ ns) ns
removed_if true e es rest ns here later = sym (here refl)
removed_if false e es rest ns here later = ap (λ l. name_of_entry e ∷ l) (later refl)

-- with no path twice, the removal of one entry takes out every name of its path
pub detached : (path : PathId) (es : List (ℕ × ℕ)) → IsDistinct nat_eq (keys_of es) → names_in (remove_entry (nat_eq path.0) es) ≡ without_name (names_in es) path
detached path [] d = refl
detached path (e ∷ es) d =
    removed_if (nat_eq path.0 e.0) e es (remove_entry (nat_eq path.0) es) (without_name (names_in es) path)
    (λ h. all_kept path e.0 h es (IsDistinct-head nat_eq e.0 (keys_of es) d))
    (λ h. detached path es (IsDistinct-tail nat_eq e.0 (keys_of es) d))
    ∙ ap (λ b. cond (not b) (name_of_entry e ∷ without_name (names_in es) path) (without_name (names_in es) path)) (sym (either_way e.0 path.0))

-- the paths of the names are the map's keys
pub paths_are : (es : List (ℕ × ℕ)) → map path_number (names_in es) ≡ keys_of es
paths_are [] = refl
paths_are (e ∷ es) = ap (λ l. e.0 ∷ l) (paths_are es)
