-- The keys of lines in order of bytes, and the records of a table.
use Rattle.std.proofs.Common.{◌≡◌, ℕ, Bool, true, false, cond, ◌&&◌, ◌||◌, List, [], ◌∷◌, Option, is_some, length, refl, suc, sym, ap, subst, ◌∙◌}
use Rattle.std.proofs.lemmas.Cmp.{nat_list_cmp_total, nat_list_eq_equiv}
use Rattle.std.proofs.lemmas.List.Kept.{IsStrictlySortedBy-filter}
use Rattle.std.proofs.lemmas.Map.Lookups.{btree_set_from_contains, exact_bytes}
use Rattle.std.proofs.lemmas.Map.Made.{is_some-lookup}
use Rattle.std.proofs.lemmas.Map.Text.{is_eq-slice_cmp}
use Rattle.std.proofs.lemmas.Map.Views.{any-filter_same}
use Rattle.std.specs.BTreeMap.{is_at}
use Rattle.std.specs.BTreeSet.{BTreeSet, insert_key}
use Rattle.std.specs.Cmp.Lexicographic.{same_text, slice_cmp}
use Rattle.std.specs.List.Sorted.{IsStrictlySortedBy}
use Rattle.std.specs.List.{AllByRecursion, list_any}
use Rattle.std.specs.Map.{keys_of}
use Rattle.std.specs.Ordering.{is_eq, match_ordering, nat_cmp, ordering_reverse}
use Rattle.std.specs.Prelude.{bytes_eq}
use Rattle.std.specs.declared.cmp.Ordering.{Ordering}
use Rattle.std.specs.declared.cmp.Ordering.TheVariants.{Equal, Greater, Less}
use Rattle.ncd_app.specs.Commands.{change_to}
use Rattle.ncd_app.specs.Definition.{keys_in_order, record_of, recorded}
use Rattle.ncd_app.specs.Table.{HasOrder, HoldsChanges, Pairs, record_in}
use Rattle.ncd_app.specs.declared.line.Change.{Change}
use Rattle.ncd_app.specs.declared.line.Record.{Record}

abbrev pub order : List ℕ → List ℕ → Ordering
order = slice_cmp nat_cmp

abbrev placed : Ordering → List ℕ → List ℕ → List (List ℕ) → List (List ℕ) → List (List ℕ)
placed r k x xs more = match_ordering r (k ∷ x ∷ xs) (x ∷ xs) (x ∷ more)

-- a key at its place is among the keys

or_swap : (a b c : Bool) → (a || (b || c)) ≡ (b || (a || c))
or_swap true true c = refl
or_swap true false c = refl
or_swap false b c = refl

or_twice : (a c : Bool) → (a || c) ≡ (a || (a || c))
or_twice true c = refl
or_twice false c = refl

any_placed : (test : List ℕ → Bool) (k x : List ℕ) (xs more : List (List ℕ)) (r : Ordering) → (r ≡ Equal → k ≡ x) → list_any test more ≡ (test k || list_any test xs) → list_any test (placed r k x xs more) ≡ (test k || (test x || list_any test xs))
any_placed test k x xs more Less same e = refl
any_placed test k x xs more Equal same e = subst (λ y. (test y || list_any test xs) ≡ (test k || (test y || list_any test xs))) (same refl) (or_twice (test k) (list_any test xs))
any_placed test k x xs more Greater same e = ap (λ b. test x || b) e ∙ or_swap (test x) (test k) (list_any test xs)

any_inserted : (test : List ℕ → Bool) (k : List ℕ) (ks : List (List ℕ)) → list_any test (insert_key order ks k) ≡ (test k || list_any test ks)
any_inserted test k [] = refl
any_inserted test k (x ∷ xs) = any_placed test k x xs (insert_key order xs k) (order k x) (exact_bytes k x) (any_inserted test k xs)

-- a key at its place leaves the keys in order

all_placed : (P : List ℕ → Type 0) (k x : List ℕ) (xs more : List (List ℕ)) (r : Ordering) → P k → P x → AllByRecursion P xs → AllByRecursion P more → AllByRecursion P (placed r k x xs more)
all_placed P k x xs more Less p q all others = (p, (q, all))
all_placed P k x xs more Equal p q all others = (q, all)
all_placed P k x xs more Greater p q all others = (q, others)

all_inserted : (P : List ℕ → Type 0) (k : List ℕ) (ks : List (List ℕ)) → P k → AllByRecursion P ks → AllByRecursion P (insert_key order ks k)
all_inserted P k [] p all = (p, tt)
all_inserted P k (x ∷ xs) p all = all_placed P k x xs (insert_key order xs k) (order k x) p all.0 all.1 (all_inserted P k xs p all.1)

all_above : (k x : List ℕ) (xs : List (List ℕ)) → order k x ≡ Less → AllByRecursion (λ y. order x y ≡ Less) xs → AllByRecursion (λ y. order k y ≡ Less) xs
all_above k x [] h all = tt
all_above k x (y ∷ ys) h all = (nat_list_cmp_total.trans k x y h all.0, all_above k x ys h all.1)

sorted_placed : (k x : List ℕ) (xs more : List (List ℕ)) (r : Ordering) → (r ≡ Less → order k x ≡ Less) → (r ≡ Greater → AllByRecursion (λ y. order x y ≡ Less) more) → IsStrictlySortedBy order (x ∷ xs) → IsStrictlySortedBy order more → IsStrictlySortedBy order (placed r k x xs more)
unfolding IsStrictlySortedBy
sorted_placed k x xs more Less less greater s m = ((less refl, all_above k x xs (less refl) s.0), s)
sorted_placed k x xs more Equal less greater s m = s
sorted_placed k x xs more Greater less greater s m = (greater refl, m)

above : (k x : List ℕ) → order k x ≡ Greater → order x k ≡ Less
above k x h = nat_list_cmp_total.antisymm x k ∙ ap ordering_reverse h

sorted_inserted : (k : List ℕ) (ks : List (List ℕ)) → IsStrictlySortedBy order ks → IsStrictlySortedBy order (insert_key order ks k)
unfolding IsStrictlySortedBy
sorted_inserted k [] s = (tt, tt)
sorted_inserted k (x ∷ xs) s =
    sorted_placed k x xs (insert_key order xs k) (order k x) (λ h. h)
    (λ h. all_inserted (λ y. order x y ≡ Less) k xs (above k x h) s.0)
    s (sorted_inserted k xs s.1)

pub keys_sorted : (cs : List Change) → IsStrictlySortedBy order (keys_in_order cs)
unfolding IsStrictlySortedBy
keys_sorted [] = tt
keys_sorted (c ∷ cs) = sorted_inserted c.key (keys_in_order cs) (keys_sorted cs)

-- a key with a record is among them

same_test : (q k : List ℕ) → is_eq (order q k) ≡ bytes_eq k q
same_test q k = is_eq-slice_cmp q k ∙ nat_list_eq_equiv.symm q k

named_first : (b n : Bool) (made rest : Option Record) → (is_some rest ≡ true → n ≡ true) → is_some (cond b made rest) ≡ true → (b || n) ≡ true
named_first true n made rest h there = refl
named_first false n made rest h there = h there

named : (q : List ℕ) (cs : List Change) → is_some (record_of cs q) ≡ true → list_any (is_at (order q)) (keys_in_order cs) ≡ true
named q [] there = there
named q (c ∷ cs) there =
    any_inserted (is_at (order q)) c.key (keys_in_order cs)
    ∙ ap (λ b. b || list_any (is_at (order q)) (keys_in_order cs)) (same_test q c.key)
    ∙ named_first (bytes_eq c.key q) (list_any (is_at (order q)) (keys_in_order cs)) c.made (record_of cs q) (named q cs) there

pub same_key : (q k : List ℕ) → is_eq (order q k) ≡ true → k ≡ q
same_key q k h = same_text k q (sym (sym (same_test q k) ∙ h))

and_implied : (a b : Bool) → (a ≡ true → b ≡ true) → (a && b) ≡ a
and_implied true b h = h refl
and_implied false b h = refl

recorded_keys : (q : List ℕ) (cs : List Change) → list_any (is_at (order q)) (recorded cs) ≡ is_some (record_of cs q)
recorded_keys q cs =
    any-filter_same (is_at (order q)) (λ key. is_some (record_of cs key)) (is_some (record_of cs q)) (λ k h. ap (λ key. is_some (record_of cs key)) (same_key q k h)) (keys_in_order cs)
    ∙ and_implied (is_some (record_of cs q)) (list_any (is_at (order q)) (keys_in_order cs)) (named q cs)

abbrev set_of : List (List ℕ) → BTreeSet (List ℕ)
set_of ks = record { keys = ks }

-- the keys of a table are those that have a record
pub same_keys : (es : Pairs) (cs : List Change) → HasOrder es → HoldsChanges es cs → keys_of es ≡ recorded cs
same_keys es cs sorted h =
    btree_set_from_contains nat_list_cmp_total (set_of (keys_of es)) (set_of (recorded cs)) sorted
    (IsStrictlySortedBy-filter order (λ key. is_some (record_of cs key)) (keys_in_order cs) (keys_sorted cs))
    (λ q. sym (is_some-lookup (is_at (order q)) es) ∙ ap is_some (h.held q) ∙ sym (recorded_keys q cs))
    exact_bytes

length_keys : (es : Pairs) → length es ≡ length (keys_of es)
length_keys [] = refl
length_keys (e ∷ es) = ap suc (length_keys es)

pub count_recorded : (es : Pairs) (cs : List Change) → HasOrder es → HoldsChanges es cs → length es ≡ length (recorded cs)
count_recorded es cs sorted h = length_keys es ∙ ap length (same_keys es cs sorted h)

-- one change more
pub updated : (start old new : Pairs) (key : List ℕ) (made : Option Record) → old ≡ start → ((q : List ℕ) → record_in new q ≡ cond (is_at (order key) q) made (record_in old q)) → (cs : List Change) → HoldsChanges start cs → HoldsChanges new (change_to key made ∷ cs)
updated start old new key made same u cs h = record {
  held = λ q. u q ∙ (λ i. cond (is_eq-slice_cmp key q i) made (record_in (same i) q)) ∙ ap (cond (bytes_eq key q) made) (h.held q);
}
