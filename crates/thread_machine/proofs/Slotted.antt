-- Variables by their slots.
use Rattle.std.proofs.Common.{◌≡◌, ℕ, ◌+◌, ◌<◌, ◌≤◌, Bool, true, false, cond, List, [], ◌∷◌, length, take, get_or, length-take, Option, Some, None, refl, ap, ◌∙◌, sym, subst, arith, zero, suc}
use Rattle.std.proofs.Math.ListN.{set}
use Rattle.std.proofs.lemmas.Bool.{false≢true}
use Rattle.std.proofs.lemmas.Slice.Eq.{bytes_eq-Decides}
use Rattle.std.specs.Prelude.{slice_get, bytes_eq, position, if◌then◌else◌, not}
use Rattle.std.specs.List.{position_or_len}
use Rattle.line_text.specs.Types.{Answer, Fd}
use Rattle.line_forms.proofs.PathSearch.{bytes_eq_comm, place_found, place_missing}
use Rattle.spec_requests.specs.Words.{Value, Variables, empty_value, greatest_data, no_variables, set_each, set_variable, values_of, with_both}
use Rattle.thread_machine.specs.Slots.{Slot, visible_value, slot_value, place_of, is_named, Holds, set_some, greatest_descriptors}
use Rattle.thread_machine.proofs.Cuts.{take-nil}
use Rattle.thread_machine.proofs.Positions.{slice_get-index, slice_get-past}

place-if : (test : Bool) (m n : ℕ) → m ≡ n → (if test then zero else suc m) ≡ cond (not test) (1 + n) 0
place-if true m n e = refl
place-if false m n e = omega arith

pub place-named : (slots : List Slot) (name : List ℕ) → place_of slots name ≡ position_or_len (is_named name) slots
place-named [] name = refl
place-named (slot ∷ slots) name =
    rw (bytes_eq_comm name slot.name)
    (place-if (bytes_eq slot.name name) (place_of slots name) (position_or_len (is_named name) slots) (place-named slots name))

pub place-some : (slots : List Slot) (name : List ℕ) (k : ℕ) → position (is_named name) slots ≡ Some k → k ≡ place_of slots name
place-some slots name k e = place_found (is_named name) slots k e ∙ sym (place-named slots name)

pub place-none : (slots : List Slot) (name : List ℕ) → position (is_named name) slots ≡ None → length slots ≡ place_of slots name
place-none slots name e = place_missing (is_named name) slots e ∙ sym (place-named slots name)

-- what is at the place of a name
abbrev pub value_at : Option Slot → Value
value_at None = empty_value
value_at (Some slot) = slot.value

slot_value-if :
    (test : Bool) (slot : Slot) (slots : List Slot) (name : List ℕ) → slot_value slots name ≡ value_at (slice_get slots (place_of slots name)) →
    (if test then slot.value else slot_value slots name)
    ≡ value_at (slice_get (slot ∷ slots) (if test then zero else suc (place_of slots name)))
slot_value-if true slot slots name e = refl
slot_value-if false slot slots name e = e

pub slot_value-at : (slots : List Slot) (name : List ℕ) → slot_value slots name ≡ value_at (slice_get slots (place_of slots name))
slot_value-at [] name = refl
slot_value-at (slot ∷ slots) name = slot_value-if (bytes_eq name slot.name) slot slots name (slot_value-at slots name)

place-if-le : (test : Bool) (m n : ℕ) → m ≤ n → (if test then zero else suc m) ≤ suc n
place-if-le true m n h = omega arith
place-if-le false m n h = omega arith

place-le : (slots : List Slot) (name : List ℕ) → place_of slots name ≤ length slots
place-le [] name = omega arith
place-le (slot ∷ slots) name = place-if-le (bytes_eq name slot.name) (place_of slots name) (length slots) (place-le slots name)

pub place-within :
    (slots : List Slot) (count : ℕ) (name : List ℕ) → count ≤ length slots → place_of (take count slots) name ≤ count
place-within slots count name h =
    let le : place_of (take count slots) name ≤ length (take count slots) = place-le (take count slots) name
    in let n : length (take count slots) ≡ count = omega (arith, length-take count slots)
    in omega arith

-- two tests on names, of which one or the other holds

apart-tests :
    (p q : Bool) (v w r : Value) → (p ≡ true → q ≡ true → ⊥) →
    (if q then w else (if p then v else r)) ≡ (if p then v else (if q then w else r))
apart-tests true true v w r h = absurd (h refl refl)
apart-tests true false v w r h = refl
apart-tests false true v w r h = refl
apart-tests false false v w r h = refl

apart-names :
    (name a b : List ℕ) (v w r : Value) → bytes_eq a b ≡ false →
    (if bytes_eq name b then w else (if bytes_eq name a then v else r))
    ≡ (if bytes_eq name a then v else (if bytes_eq name b then w else r))
apart-names name a b v w r other =
    apart-tests
    (bytes_eq name a)
    (bytes_eq name b)
    v
    w
    r
    (λ p q. false≢true (sym other ∙ (bytes_eq-Decides a b).1 (sym ((bytes_eq-Decides name a).0 p) ∙ (bytes_eq-Decides name b).0 q)))

same-tests :
    (p q : Bool) (v w r : Value) → q ≡ p → (if p then v else r) ≡ (if p then v else (if q then w else r))
same-tests true q v w r h = refl
same-tests false true v w r h = absurd (false≢true (sym h))
same-tests false false v w r h = refl

same-names :
    (name a b : List ℕ) (v w r : Value) → bytes_eq a b ≡ true →
    (if bytes_eq name a then v else r) ≡ (if bytes_eq name a then v else (if bytes_eq name b then w else r))
same-names name a b v w r same =
    let e : a ≡ b = (bytes_eq-Decides a b).0 same
    in same-tests (bytes_eq name a) (bytes_eq name b) v w r (ap (bytes_eq name) (sym e))

-- one slot more

pub slot_value-next :
    (slots : List Slot) (count : ℕ) (new : Slot) (name : List ℕ) → count < length slots →
    count ≡ place_of (take count slots) new.name →
    slot_value (take (suc count) (set slots count new)) name ≡ set_variable (slot_value (take count slots)) new.name new.value name
slot_value-next [] count new name few at = absurd (omega arith)
slot_value-next (slot ∷ slots) zero new name few at = refl
slot_value-next (slot ∷ slots) (suc count) new name few at =
    by_test
    (bytes_eq new.name slot.name)
    refl
    at
    (λ here. let fewer : count < length slots = omega arith in slot_value-next slots count new name fewer here)
  where
    by_test :
        (test : Bool) → bytes_eq new.name slot.name ≡ test →
        suc count ≡ (if test then zero else suc (place_of (take count slots) new.name)) →
        (count ≡ place_of (take count slots) new.name →
        slot_value (take (suc count) (set slots count new)) name
        ≡ set_variable (slot_value (take count slots)) new.name new.value name) →
        slot_value (slot ∷ take (suc count) (set slots count new)) name
        ≡ set_variable (slot_value (slot ∷ take count slots)) new.name new.value name
    by_test true same there next = absurd (omega arith)
    by_test false same there next =
        let here : count ≡ place_of (take count slots) new.name = omega arith
        in ap (λ value. if bytes_eq name slot.name then slot.value else value) (next here)
        ∙ apart-names name new.name slot.name new.value slot.value (slot_value (take count slots) name) same

-- a slot that is there
pub slot_value-there :
    (slots : List Slot) (count place : ℕ) (new : Slot) (name : List ℕ) → count ≤ length slots → place < count →
    place ≡ place_of (take count slots) new.name →
    slot_value (take count (set slots place new)) name ≡ set_variable (slot_value (take count slots)) new.name new.value name
slot_value-there slots zero place new name few less at = absurd (omega arith)
slot_value-there [] (suc count) place new name few less at = absurd (omega arith)
slot_value-there (slot ∷ slots) (suc count) place new name few less at =
    by_test
    (bytes_eq new.name slot.name)
    refl
    place
    less
    at
    (λ p fewer here. let room : count ≤ length slots = omega arith in slot_value-there slots count p new name room fewer here)
  where
    by_test :
        (test : Bool) → bytes_eq new.name slot.name ≡ test → (p : ℕ) → p < suc count →
        p ≡ (if test then zero else suc (place_of (take count slots) new.name)) →
        ((q : ℕ) → q < count → q ≡ place_of (take count slots) new.name →
        slot_value (take count (set slots q new)) name ≡ set_variable (slot_value (take count slots)) new.name new.value name) →
        slot_value (take (suc count) (set (slot ∷ slots) p new)) name
        ≡ set_variable (slot_value (slot ∷ take count slots)) new.name new.value name
    by_test true same zero fewer there inner =
        same-names name new.name slot.name new.value slot.value (slot_value (take count slots) name) same
    by_test true same (suc p) fewer there inner = absurd (omega arith)
    by_test false same zero fewer there inner = absurd (omega arith)
    by_test false same (suc p) fewer there inner =
        let less : p < count = omega arith
        in let here : p ≡ place_of (take count slots) new.name = omega arith
        in ap (λ value. if bytes_eq name slot.name then slot.value else value) (inner p less here)
        ∙ apart-names name new.name slot.name new.value slot.value (slot_value (take count slots) name) same

-- what was set is held

pub Holds-with :
    (old now : List Slot) (values : Variables) (new : Slot) (value : Value) (name : List ℕ) → Holds old values →
    new.value ≡ visible_value value → slot_value now name ≡ set_variable (slot_value old) new.name new.value name →
    slot_value now name ≡ visible_value (set_variable values new.name value name)
Holds-with old now values new value name h e is = is ∙ by_test (bytes_eq name new.name)
  where
    by_test : (test : Bool) → (if test then new.value else slot_value old name) ≡ visible_value (if test then value else values name)
    by_test true = e
    by_test false = h name

pub visible_value-empty_value : visible_value empty_value ≡ empty_value
visible_value-empty_value =
    let no_bytes : List ℕ = []
    in let no_fds : List Fd = []
    in let bytes : take greatest_data no_bytes ≡ no_bytes = take-nil greatest_data no_bytes refl
    in let fds : take greatest_descriptors no_fds ≡ no_fds = take-nil greatest_descriptors no_fds refl
    in ap (λ (xs : List ℕ). with_both xs (take greatest_descriptors no_fds)) bytes
    ∙ ap (λ (xs : List Fd). with_both no_bytes xs) fds

pub Holds-none : Holds [] no_variables
Holds-none name = sym visible_value-empty_value

-- what setting a variable gives, where the slots that are set are the first of a list

pub set-next :
    (slots seen : List Slot) (count place : ℕ) (new : Slot) (var : List ℕ) (value : Value) (values : Variables) (name : List ℕ) →
    take count slots ≡ seen → count < length slots → place ≡ place_of seen var → place ≡ count → new.name ≡ var →
    new.value ≡ visible_value value → Holds seen values →
    slot_value (take (count + 1) (set slots place new)) name ≡ visible_value (set_variable values var value name)
set-next slots seen count place new var value values name is few at same named valued h =
    let here : count ≡ place_of (take count slots) new.name = cc
    in let more : count + 1 ≡ suc count = omega arith
    in let all : slot_value (take (suc count) (set slots count new)) name ≡ visible_value (set_variable values new.name value name) =
    Holds-with
    (take count slots)
    (take (suc count) (set slots count new))
    values
    new
    value
    name
    (subst (λ (known : List Slot). Holds known values) (sym is) h)
    valued
    (slot_value-next slots count new name few here)
    in rw (same, more, ← named) all

pub set-there :
    (slots seen : List Slot) (count place : ℕ) (new : Slot) (var : List ℕ) (value : Value) (values : Variables) (name : List ℕ) →
    take count slots ≡ seen → count ≤ length slots → place ≡ place_of seen var → (place ≡ count → ⊥) → new.name ≡ var →
    new.value ≡ visible_value value → Holds seen values →
    slot_value (take count (set slots place new)) name ≡ visible_value (set_variable values var value name)
set-there slots seen count place new var value values name is few at other named valued h =
    let here : place ≡ place_of (take count slots) new.name = cc
    in let le : place_of (take count slots) new.name ≤ count = place-within slots count new.name few
    in let less : place < count = omega arith
    in let all : slot_value (take count (set slots place new)) name ≡ visible_value (set_variable values new.name value name) =
    Holds-with
    (take count slots)
    (take count (set slots place new))
    values
    new
    value
    name
    (subst (λ (known : List Slot). Holds known values) (sym is) h)
    valued
    (slot_value-there slots count place new name few less here)
    in rw (← named) all

-- what is found by a name

pub slot_value-index :
    (slots : List Slot) (name : List ℕ) (k : ℕ) (slot : Slot) → k ≡ place_of slots name → k < length slots →
    slot ≡ get_or slots k slot → slot_value slots name ≡ slot.value
slot_value-index slots name k slot at few is =
    slot_value-at slots name ∙ ap (λ (n : ℕ). value_at (slice_get slots n)) (sym at) ∙ ap value_at (slice_get-index slots k slot few is)

pub slot_value-past : (slots : List Slot) (name : List ℕ) (k : ℕ) → k ≡ place_of slots name → length slots ≤ k → slot_value slots name ≡ empty_value
slot_value-past slots name k at past =
    slot_value-at slots name ∙ ap (λ (n : ℕ). value_at (slice_get slots n)) (sym at) ∙ ap value_at (slice_get-past slots k past)

-- the variables of a command, one after another

pub set-one :
    (values : Variables) (vars : List (List ℕ)) (value : Value) →
    set_each values vars (value ∷ []) ≡ set_some values (slice_get vars 0) value
set-one values [] value = refl
set-one values (var ∷ []) value = refl
set-one values (var ∷ other ∷ vars) value = refl

pub set-two :
    (values : Variables) (vars : List (List ℕ)) (value other : Value) →
    set_each values vars (value ∷ other ∷ []) ≡ set_some (set_some values (slice_get vars 0) value) (slice_get vars 1) other
set-two values [] value other = refl
set-two values (var ∷ []) value other = refl
set-two values (var ∷ second ∷ []) value other = refl
set-two values (var ∷ second ∷ third ∷ vars) value other = refl

pub one-answer :
    (values : Variables) (vars : List (List ℕ)) (named : Option (List ℕ)) (a : Answer) (value : Value) →
    values_of a ≡ value ∷ [] → named ≡ slice_get vars 0 → set_some values named value ≡ set_each values vars (values_of a)
one-answer values vars named a value given is = rw (given, is) (sym (set-one values vars value))

pub two-answers :
    (values : Variables) (vars : List (List ℕ)) (named second : Option (List ℕ)) (a : Answer) (value other : Value) →
    values_of a ≡ value ∷ other ∷ [] → named ≡ slice_get vars 0 → second ≡ slice_get vars 1 →
    set_some (set_some values named value) second other ≡ set_each values vars (values_of a)
two-answers values vars named second a value other given is is_second = rw (given, is, is_second) (sym (set-two values vars value other))

pub no-answer : (values : Variables) (vars : List (List ℕ)) → set_each values vars [] ≡ values
no-answer values [] = refl
no-answer values (var ∷ vars) = refl
