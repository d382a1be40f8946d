-- The keys that have a value.
use Rattle.std.proofs.Common.{◌≡◌, ℕ, Bool, true, false, cond, List, [], ◌∷◌, Option, Some, None, filter, is_some, refl, sym, ap, ◌∙◌}
use Rattle.std.proofs.lemmas.Cmp.{nat_list_cmp_total, tied_itself}
use Rattle.std.proofs.lemmas.Map.Keys.{sorted_head, sorted_tail}
use Rattle.std.specs.List.{AllByRecursion}
use Rattle.std.specs.Map.{keys_of}
use Rattle.std.specs.Ordering.{is_eq, ordering_reverse}
use Rattle.std.specs.declared.cmp.Ordering.TheVariants.{Less}
use Rattle.ncd_app.specs.Definition.{has_value, keys_in_order, record_of}
use Rattle.ncd_app.specs.Table.{HasOrder, HoldsChanges, Pairs, keys_with, record_in}
use Rattle.ncd_app.specs.declared.line.Change.{Change}
use Rattle.ncd_app.specs.declared.line.Record.{Record}
use Rattle.ncd_app.proofs.Records.{order, same_keys}

-- each pair of a table is found by its key

abbrev IsFound : Pairs → List ℕ × Record → Type 0
IsFound es e = record_in es e.0 ≡ Some e.1

found_later : (d : List ℕ × Record) (es rest : Pairs) → AllByRecursion (λ k. order d.0 k ≡ Less) (keys_of rest) → AllByRecursion (IsFound es) rest → AllByRecursion (IsFound (d ∷ es)) rest
found_later d es [] less found = tt
found_later d es (e ∷ rest) less found =
    let apart : is_eq (order e.0 d.0) ≡ false = ap is_eq (nat_list_cmp_total.antisymm e.0 d.0 ∙ ap ordering_reverse less.0) in
    (ap (λ b. cond b (Some d.1) (record_in es e.0)) apart ∙ found.0, found_later d es rest less.1 found.1)

each_found : (es : Pairs) → HasOrder es → AllByRecursion (IsFound es) es
each_found [] sorted = tt
each_found (e ∷ es) sorted = (
  ap (λ r. cond (is_eq r) (Some e.1) (record_in es e.0)) (tied_itself nat_list_cmp_total e.0),
  found_later e es es (sorted_head order e.0 (keys_of es) sorted) (each_found es (sorted_tail order e.0 (keys_of es) sorted)),
)

-- filters

both_filters : (p r : List ℕ → Bool) (x : List ℕ) (xs : List (List ℕ)) (b : Bool) → (b ≡ false → p x ≡ false) → filter p (filter r xs) ≡ filter p xs → filter p (cond b (x ∷ filter r xs) (filter r xs)) ≡ filter p (x ∷ xs)
both_filters p r x xs true h e = ap (λ l. cond (p x) (x ∷ l) l) e
both_filters p r x xs false h e = e ∙ sym (ap (λ c. cond c (x ∷ filter p xs) (filter p xs)) (h refl))

filter_filter : (p r : List ℕ → Bool) → ((x : List ℕ) → r x ≡ false → p x ≡ false) → (xs : List (List ℕ)) → filter p (filter r xs) ≡ filter p xs
filter_filter p r h [] = refl
filter_filter p r h (x ∷ xs) = both_filters p r x xs (r x) (h x) (filter_filter p r h xs)

first_kept : (b : Bool) (e : List ℕ × Record) (es : Pairs) (ks : List (List ℕ)) → ks ≡ keys_of es → cond b (e.0 ∷ ks) ks ≡ keys_of (cond b (e ∷ es) es)
first_kept true e es ks h = ap (λ l. e.0 ∷ l) h
first_kept false e es ks h = h

filter_keys : (p : List ℕ → Bool) (es : Pairs) → filter p (keys_of es) ≡ keys_of (filter (λ e. p e.0) es)
filter_keys p [] = refl
filter_keys p (e ∷ es) = first_kept (p e.0) e (filter (λ e. p e.0) es) (filter p (keys_of es)) (filter_keys p es)

filter_alike : (f g : List ℕ × Record → Bool) (es : Pairs) → AllByRecursion (λ e. f e ≡ g e) es → filter f es ≡ filter g es
filter_alike f g [] all = refl
filter_alike f g (e ∷ es) all = λ i. cond (all.0 i) (e ∷ filter_alike f g es all.1 i) (filter_alike f g es all.1 i)

valued : (es : Pairs) (cs : List Change) (value : List ℕ) → HoldsChanges es cs → (rest : Pairs) → AllByRecursion (IsFound es) rest → AllByRecursion (λ e. has_value value (record_of cs e.0) ≡ has_value value (Some e.1)) rest
valued es cs value h [] all = tt
valued es cs value h (e ∷ rest) all = (ap (has_value value) (sym (h.held e.0) ∙ all.0), valued es cs value h rest all.1)

no_value : (value : List ℕ) (o : Option Record) → is_some o ≡ false → has_value value o ≡ false
no_value value None h = refl
no_value value (Some made) h = cc

pub owners_are : (es : Pairs) (cs : List Change) (value : List ℕ) → HasOrder es → HoldsChanges es cs → filter (λ key. has_value value (record_of cs key)) (keys_in_order cs) ≡ keys_with value es
owners_are es cs value sorted h =
    sym (filter_filter (λ key. has_value value (record_of cs key)) (λ key. is_some (record_of cs key)) (λ key none. no_value value (record_of cs key) none) (keys_in_order cs))
    ∙ ap (filter (λ key. has_value value (record_of cs key))) (sym (same_keys es cs sorted h))
    ∙ filter_keys (λ key. has_value value (record_of cs key)) es
    ∙ ap keys_of (filter_alike (λ e. has_value value (record_of cs e.0)) (λ e. has_value value (Some e.1)) es (valued es cs value h es (each_found es sorted)))
