-- Searches in a table.
use Rattle.std.proofs.Common.{◌≡◌, ℕ, suc, Bool, true, false, cond, List, [], ◌∷◌, ◌++◌, length, Option, Some, None, refl, ap, sym, ◌∙◌}
use Rattle.std.specs.Prelude.{position, bytes_eq, nat_lt}
use Rattle.std.specs.List.{position_or_len, list_any}
use Rattle.std.specs.declared.vec.Vec.{Vec}
use Rattle.std.proofs.lemmas.List.{map-append}
use Rattle.line_text.specs.Words.{has_name}
use Rattle.line_forms.specs.Tables.{is_same}
use Rattle.line_forms.specs.PathNames.{names_as_bytes}
use Rattle.line_forms.proofs.PathSearch.{named_place, named_any}

length-names : {Y : Type 0} (keys : List (Vec ℕ Y)) → length (names_as_bytes keys) ≡ length keys
length-names [] = refl
length-names (key ∷ keys) = ap (λ n. suc n) (length-names keys)

pub place_in_table : {Y : Type 0} (name : List ℕ) (keys : List (Vec ℕ Y)) → position (λ key. bytes_eq name key.items) keys ≡ position (is_same name) (names_as_bytes keys)
place_in_table name keys =
    ap (λ place. cond (nat_lt place (length keys)) (Some place) None) (sym (named_place name keys)) ∙
    ap (λ count. cond (nat_lt (position_or_len (is_same name) (names_as_bytes keys)) count) (Some (position_or_len (is_same name) (names_as_bytes keys))) None) (sym (length-names keys))

added_if : {Y : Type 0} (there : Bool) (value : Vec ℕ Y) (keys : List (Vec ℕ Y)) → there ≡ false → names_as_bytes (cond there keys (keys ++ value ∷ [])) ≡ names_as_bytes keys ++ value.items ∷ []
added_if true value keys e = cc
added_if false value keys e = map-append (λ name. name.items) keys (value ∷ [])

-- what a table has after a string that was not there
pub added : {Y : Type 0} (name : List ℕ) (value : Vec ℕ Y) (old new : List (Vec ℕ Y)) → value.items ≡ name → has_name (names_as_bytes old) name ≡ false → new ≡ cond (list_any (λ key. bytes_eq value.items key.items) old) old (old ++ value ∷ []) → names_as_bytes new ≡ names_as_bytes old ++ name ∷ []
added name value old new is absent e =
    ap names_as_bytes e ∙
    added_if (list_any (λ key. bytes_eq value.items key.items) old) value old (sym (named_any value.items old) ∙ ap (has_name (names_as_bytes old)) is ∙ absent) ∙
    ap (λ bytes. names_as_bytes old ++ bytes ∷ []) is
