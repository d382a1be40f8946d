-- What the entries of a map say of the associations.
use Rattle.std.proofs.Common.{◌≡◌, ℕ, zero, suc, ◌+◌, not, nat_lt, length, position, slice_get, Bool, true, false, cond, if◌then◌else◌, List, [], ◌∷◌, ◌++◌, Option, None, Some, count_by, option_map, refl, sym, ap, ◌∙◌, arith}
use Rattle.std.proofs.lemmas.Bool.Decides.{nat_tests}
use Rattle.std.proofs.lemmas.List.{length-map, map-append}
use Rattle.std.proofs.lemmas.List.Sums.{sum_by-cons}
use Rattle.std.proofs.lemmas.Map.Keys.{IsDistinct-head, IsDistinct-tail}
use Rattle.std.specs.List.{AllByRecursion, IsDistinct, position_or_len}
use Rattle.std.specs.Map.{keys_of, lookup, remove_entry, set_value}
use Rattle.dk_base.specs.declared.number.Fd.{Fd}
use Rattle.spec_records.specs.declared.association.AssocKey.{AssocKey}
use Rattle.spec_records.specs.declared.association.Association.{Association}
use Rattle.spec_records.specs.Words.{armed_at, association_at, change_first, disarmed, has_key, is_armed_at, is_of_row, is_same_association_key}
use Rattle.spec_records.proofs.Places.{change_first-none}
use Rattle.port_assoc.specs.declared.key.Key.{Key}
use Rattle.port_assoc.specs.declared.watch.Watch.{Watch}
use Rattle.port_assoc.specs.Keys.{association_key, key_of, same_key}
use Rattle.port_assoc.specs.Lists.{without_first}
use Rattle.port_assoc.specs.Table.{HaveDistinctKeys, association_in, is_armed_entry, association_of, associations_in, is_key_of_row}

alike : (key : AssocKey) (k : Key) → same_key (key_of key) k ≡ is_same_association_key key (association_key k)
alike key k = refl

same_keys : (k l : Key) → same_key k l ≡ true → k ≡ l
same_keys k l h =
    let a : k.port ≡ l.port = grind (arith, nat_tests) in
    let b : k.process ≡ l.process = grind (arith, nat_tests) in
    let c : k.fd ≡ l.fd = grind (arith, nat_tests) in
    λ i. record { port = a i; process = b i; fd = c i }

pub found_at : (key : AssocKey) (es : List (Key × Watch)) → association_at (associations_in es) key ≡ option_map (association_of (key_of key)) (lookup (same_key (key_of key)) es)
found_at key [] = refl
found_at key (e ∷ es) = go (same_key (key_of key) e.0) refl (found_at key es)
  where
    go :
        (b : Bool) → same_key (key_of key) e.0 ≡ b →
        association_at (associations_in es) key ≡ option_map (association_of (key_of key)) (lookup (same_key (key_of key)) es) →
        (if b then Some (association_in e) else association_at (associations_in es) key) ≡ option_map (association_of (key_of key)) (cond b (Some e.1) (lookup (same_key (key_of key)) es))
    go true h ih = ap (λ k. Some (association_of k e.1)) (sym (same_keys (key_of key) e.0 h))
    go false h ih = ih

-- by places

abbrev or_no_association : Option (Key × Watch) → Option Association
or_no_association o = option_map association_in o

at_same : (es : List (Key × Watch)) (i : ℕ) → slice_get (associations_in es) i ≡ or_no_association (slice_get es i)
at_same [] i = refl
at_same (e ∷ es) zero = refl
at_same (e ∷ es) (suc i) = at_same es i

pub at_place : (es : List (Key × Watch)) (i : ℕ) (k : Key) (w : Watch) → Some (k, w) ≡ slice_get es i → Some (association_of k w) ≡ slice_get (associations_in es) i
at_place es i k w h = ap or_no_association h ∙ sym (at_same es i)

pub at_none : (es : List (Key × Watch)) (i : ℕ) → None ≡ slice_get es i → None ≡ slice_get (associations_in es) i
at_none es i h = ap or_no_association h ∙ sym (at_same es i)

first_of_keys : (process : ℕ) (fd : Fd) (es : List (Key × Watch)) → position_or_len (is_key_of_row process fd) (keys_of es) ≡ position_or_len (is_of_row process fd) (associations_in es)
first_of_keys process fd [] = refl
first_of_keys process fd (e ∷ es) = ap (λ n. cond (not (is_key_of_row process fd e.0)) (1 + n) 0) (first_of_keys process fd es)

abbrev within : ℕ → ℕ → Option ℕ
within n len = cond (nat_lt n len) (Some n) None

pub row_place : (process : ℕ) (fd : Fd) (es : List (Key × Watch)) → position (is_key_of_row process fd) (keys_of es) ≡ position (is_of_row process fd) (associations_in es)
row_place process fd es =
    ap (λ n. within n (length (keys_of es))) (first_of_keys process fd es)
    ∙ ap (within (position_or_len (is_of_row process fd) (associations_in es))) (length-map es (λ e. e.0) ∙ sym (length-map es association_in))

-- counted

pub armed_entries : (port : ℕ) (es : List (Key × Watch)) → count_by (is_armed_entry port) es ≡ armed_at (associations_in es) port
armed_entries port [] = refl
armed_entries port (e ∷ es) =
    sum_by-cons (λ k. cond (is_armed_entry port k) 1 0) e es
    ∙ ap (λ n. cond (is_armed_entry port e) 1 0 + n) (armed_entries port es)
    ∙ sym (sum_by-cons (λ a. cond (is_armed_at port a) 1 0) (association_in e) (associations_in es))

-- by keys

nothing_in : (k : Key) (o : Option Watch) → option_map (association_of k) o ≡ None → o ≡ None
nothing_in k None h = refl
nothing_in k (Some w) h = cc

pub none_at : (key : AssocKey) (es : List (Key × Watch)) → association_at (associations_in es) key ≡ None → lookup (same_key (key_of key)) es ≡ None
none_at key es h = nothing_in (key_of key) (lookup (same_key (key_of key)) es) (sym (found_at key es) ∙ h)

abbrev pub kept_under : Association → Watch
kept_under a = record { number = a.number; object = a.object; events = a.events; user = a.user; armed = a.armed }

pub pushed : (a : Association) (es : List (Key × Watch)) → associations_in (es ++ (key_of a.key, kept_under a) ∷ []) ≡ associations_in es ++ a ∷ []
pushed a es = map-append association_in es ((key_of a.key, kept_under a) ∷ [])

pub removed : (key : AssocKey) (es : List (Key × Watch)) → associations_in (remove_entry (same_key (key_of key)) es) ≡ without_first (has_key key) (associations_in es)
removed key [] = refl
removed key (e ∷ es) = go (same_key (key_of key) e.0) (removed key es)
  where
    go :
        (b : Bool) → associations_in (remove_entry (same_key (key_of key)) es) ≡ without_first (has_key key) (associations_in es) →
        associations_in (cond b es (e ∷ remove_entry (same_key (key_of key)) es)) ≡ (if b then associations_in es else association_in e ∷ without_first (has_key key) (associations_in es))
    go true ih = refl
    go false ih = ap (λ xs. association_in e ∷ xs) ih

abbrev disarm : Watch → Watch
disarm w = record w { armed = false }

pub disarmed_at : (key : AssocKey) (es : List (Key × Watch)) (w : Watch) → lookup (same_key (key_of key)) es ≡ Some w → associations_in (set_value (same_key (key_of key)) es (disarm w)) ≡ change_first (has_key key) disarmed (associations_in es)
disarmed_at key [] w h = refl
disarmed_at key (e ∷ es) w h = go (same_key (key_of key) e.0) h (disarmed_at key es w)
  where
    go :
        (b : Bool) → cond b (Some e.1) (lookup (same_key (key_of key)) es) ≡ Some w →
        (lookup (same_key (key_of key)) es ≡ Some w → associations_in (set_value (same_key (key_of key)) es (disarm w)) ≡ change_first (has_key key) disarmed (associations_in es)) →
        associations_in (cond b ((e.0, disarm w) ∷ es) (e ∷ set_value (same_key (key_of key)) es (disarm w)))
        ≡ (if b then disarmed (association_in e) ∷ associations_in es else association_in e ∷ change_first (has_key key) disarmed (associations_in es))
    go true found ih = let same : e.1 ≡ w = cc in ap (λ v. association_of e.0 (disarm v) ∷ associations_in es) (sym same)
    go false found ih = ap (λ xs. association_in e ∷ xs) (ih found)

pub none_disarmed : (key : AssocKey) (es : List (Key × Watch)) → lookup (same_key (key_of key)) es ≡ None → associations_in es ≡ change_first (has_key key) disarmed (associations_in es)
none_disarmed key es h = sym (change_first-none (has_key key) disarmed (associations_in es) (found_at key es ∙ ap (option_map (association_of (key_of key))) h))

-- the keys differ

no_other : (k : Key) (es : List (Key × Watch)) → AllByRecursion (λ q. same_key k q ≡ false) (keys_of es) → association_at (associations_in es) (association_key k) ≡ None
no_other k [] h = refl
no_other k (e ∷ es) h = go (same_key k e.0) h.0 (no_other k es h.1)
  where
    go :
        (b : Bool) → b ≡ false → association_at (associations_in es) (association_key k) ≡ None →
        (if b then Some (association_in e) else association_at (associations_in es) (association_key k)) ≡ None
    go true f ih = cc
    go false f ih = ih

pub distinct_keys : (es : List (Key × Watch)) → IsDistinct same_key (keys_of es) → HaveDistinctKeys (associations_in es)
distinct_keys [] h = tt
distinct_keys (e ∷ es) h =
    (no_other e.0 es (IsDistinct-head same_key e.0 (keys_of es) h), distinct_keys es (IsDistinct-tail same_key e.0 (keys_of es) h))
