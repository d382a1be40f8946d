-- Names with more names after them.
use Rattle.std.proofs.Common.{◌≡◌, ℕ, List, [], ◌∷◌, ◌++◌, refl}
use Rattle.line_text.specs.Words.{with_distinct_name, with_distinct_names}

pub with_names_append : (names used more : List (List ℕ)) → with_distinct_names names (used ++ more) ≡ with_distinct_names (with_distinct_names names used) more
with_names_append names [] more = refl
with_names_append names (name ∷ used) more = with_names_append (with_distinct_name names name) used more
