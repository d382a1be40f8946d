-- Calls of which one is left by a caller that is interrupted.
use Rattle.std.proofs.Common.{◌≡◌, ℕ, ◌+◌, Bool, true, false, if◌then◌else◌, List, [], ◌∷◌, Option, Some, None, filter, find, flat_map, length, map, refl, sym, ap, ◌∙◌, arith, length-append}
use Rattle.std.proofs.lemmas.Bool.Decides.{nat_tests}
use Rattle.std.proofs.lemmas.List.Concat.{flat_map-cons}
use Rattle.std.specs.Option.{option_map, option_to_list}
use Rattle.dk_base.specs.declared.number.Tid.{Tid}
use Rattle.spec_records.specs.declared.record.Call.{Call}
use Rattle.spec_records.specs.Words.{CallTree, change_first, is_live_call, left_call, tid}
use Rattle.call_tree.specs.Words.{AreLive, abandon_call, dropped_objects, is_called_by, leaving_for, transit_in}
use Rattle.call_tree.specs.declared.parts.Leave.TheVariants.{Interrupted}

-- the one call

caller_kept : (t : ℕ) (r : Call) → (left_call (leaving_for Interrupted t) r).caller.0 ≡ r.caller.0
caller_kept t r = grind (arith, nat_tests)

live_kept : (t : ℕ) (r : Call) → is_live_call r ≡ true → is_live_call (left_call (leaving_for Interrupted t) r) ≡ true
live_kept t r e = grind (arith, nat_tests)

drops : (t : ℕ) (r : Call) → is_called_by t r ≡ true → length (transit_in (left_call (leaving_for Interrupted t) r)) + length (dropped_objects Interrupted (Some r)) ≡ length (transit_in r)
drops t r e = grind (arith, nat_tests)

-- all calls are live after that

all_kept : (rs : List Call) → AreLive rs → filter is_live_call rs ≡ rs
all_kept [] h = refl
all_kept (r ∷ rs) h = ap (λ (b : Bool). if b then r ∷ filter is_live_call rs else filter is_live_call rs) h.0 ∙ ap (λ xs. r ∷ xs) (all_kept rs h.1)

still_live : (t : ℕ) (rs : List Call) → AreLive rs → AreLive (change_first (is_called_by t) (left_call (leaving_for Interrupted t)) rs)
still_live t [] h = tt
still_live t (r ∷ rs) h = go (is_called_by t r) (still_live t rs h.1)
  where
    f : Call → Call
    f = left_call (leaving_for Interrupted t)

    go : (b : Bool) → AreLive (change_first (is_called_by t) f rs) → AreLive (if b then f r ∷ rs else r ∷ change_first (is_called_by t) f rs)
    go true ih = (live_kept t r h.0, h.1)
    go false ih = (h.0, ih)

after_is : (tree : CallTree) (t : ℕ) → AreLive tree.calls → (abandon_call tree t Interrupted).calls ≡ change_first (is_called_by t) (left_call (leaving_for Interrupted t)) tree.calls
after_is tree t live = all_kept (change_first (is_called_by t) (left_call (leaving_for Interrupted t)) tree.calls) (still_live t tree.calls live)

-- a caller that waits in no call leaves all as it is
none_changed : (t : ℕ) (f : Call → Call) (rs : List Call) → find (is_called_by t) rs ≡ None → change_first (is_called_by t) f rs ≡ rs
none_changed t f [] e = refl
none_changed t f (r ∷ rs) e = go (is_called_by t r) e (none_changed t f rs)
  where
    go :
        (b : Bool) → (if b then Some r else find (is_called_by t) rs) ≡ None → (find (is_called_by t) rs ≡ None → change_first (is_called_by t) f rs ≡ rs) →
        (if b then f r ∷ rs else r ∷ change_first (is_called_by t) f rs) ≡ r ∷ rs
    go true h ih = cc
    go false h ih = ap (λ xs. r ∷ xs) (ih h)

pub none_after : (tree : CallTree) (t : ℕ) → AreLive tree.calls → find (is_called_by t) tree.calls ≡ None → tree ≡ abandon_call tree t Interrupted
none_after tree t live e =
    ap (λ rs. record tree { calls = rs }) (sym (after_is tree t live ∙ none_changed t (left_call (leaving_for Interrupted t)) tree.calls e))

-- so much is in transit after that

transit_changed :
    (t : ℕ) (rs : List Call) →
    length (flat_map transit_in (change_first (is_called_by t) (left_call (leaving_for Interrupted t)) rs)) + length (dropped_objects Interrupted (find (is_called_by t) rs)) ≡ length (flat_map transit_in rs)
transit_changed t [] = refl
transit_changed t (r ∷ rs) = go (is_called_by t r) refl (transit_changed t rs)
  where
    f : Call → Call
    f = left_call (leaving_for Interrupted t)

    more : (x : Call) (xs : List Call) → length (flat_map transit_in (x ∷ xs)) ≡ length (transit_in x) + length (flat_map transit_in xs)
    more x xs = ap length (flat_map-cons transit_in x xs) ∙ length-append (transit_in x) (flat_map transit_in xs)

    go :
        (b : Bool) → is_called_by t r ≡ b →
        length (flat_map transit_in (change_first (is_called_by t) f rs)) + length (dropped_objects Interrupted (find (is_called_by t) rs)) ≡ length (flat_map transit_in rs) →
        length (flat_map transit_in (if b then f r ∷ rs else r ∷ change_first (is_called_by t) f rs)) + length (dropped_objects Interrupted (if b then Some r else find (is_called_by t) rs))
        ≡ length (flat_map transit_in (r ∷ rs))
    go true e ih = omega (arith, more (f r) rs, more r rs, drops t r e)
    go false e ih = omega (arith, more r (change_first (is_called_by t) f rs), more r rs, ih)

pub transit_after :
    (tree : CallTree) (t : ℕ) → AreLive tree.calls →
    length (flat_map transit_in (abandon_call tree t Interrupted).calls) + length (dropped_objects Interrupted (find (is_called_by t) tree.calls)) ≡ length (flat_map transit_in tree.calls)
transit_after tree t live = ap (λ rs. length (flat_map transit_in rs) + length (dropped_objects Interrupted (find (is_called_by t) tree.calls))) (after_is tree t live) ∙ transit_changed t tree.calls

-- a thread that is told, or none
pub told_is : (o : Option Tid) (told : Option ℕ) → option_map (λ t. t.0) o ≡ told → option_to_list o ≡ map tid (option_to_list told)
told_is None told e = ap (λ (x : Option ℕ). map tid (option_to_list x)) e
told_is (Some t) told e = ap (λ (x : Option ℕ). map tid (option_to_list x)) e
