-- Pairs of keys and records, in order of bytes.
use Rattle.std.specs.Prelude.{◌≡◌, ℕ, List, Option, Some, codes, filter, length, take}
use Rattle.std.specs.BTreeMap.{is_at}
use Rattle.std.specs.Cmp.Lexicographic.{slice_cmp}
use Rattle.std.specs.List.Sorted.{IsStrictlySortedBy}
use Rattle.std.specs.Map.{keys_of, lookup}
use Rattle.std.specs.Ordering.{nat_cmp}
use Rattle.ncd_app.specs.Definition.{has_value, record_of, words_after}
use Rattle.ncd_app.specs.declared.line.Change.{Change}
use Rattle.ncd_app.specs.declared.line.Record.{Record}

abbrev pub Pairs : Type 0
Pairs = List (List ℕ × Record)

abbrev pub HasOrder : Pairs → Type 0
HasOrder es = IsStrictlySortedBy (slice_cmp nat_cmp) (keys_of es)

abbrev pub record_in : Pairs → List ℕ → Option Record
record_in es key = lookup (is_at (slice_cmp nat_cmp key)) es

-- each key has the record that these changes made
pub record HoldsChanges (es : Pairs) (cs : List Change) : Type 0 where
  pub held : (key : List ℕ) → record_in es key ≡ record_of cs key

-- the keys with a value
abbrev pub keys_with : List ℕ → Pairs → List (List ℕ)
keys_with value es = keys_of (filter (λ e. has_value value (Some e.1)) es)

-- the first 32 of these keys are told, so many
pub record IsTold (text : List ℕ) (count : ℕ) (keys : List (List ℕ)) : Type 0 where
  pub told : text ≡ words_after (codes "keys") (take 32 keys)
  pub counted : count ≡ length (take 32 keys)
