-- What a key tells of the calls in their order: a search whose test one call at most can pass.
use Rattle.std.proofs.lemmas.Bool.Decides.{nat_tests}
use Rattle.std.proofs.Common.{◌≡◌, ◌&&◌, ℕ, Bool, true, false, List, [], ◌∷◌, Option, Some, None, IsSome, is_some, find, filter, refl, sym, ap, ◌∙◌, arith, subst}
use Rattle.spec_records.specs.declared.record.Call.{Call}
use Rattle.spec_records.specs.declared.record.CallStage.{CallStage}
use Rattle.spec_records.specs.declared.record.CallStage.TheVariants as stage
use Rattle.spec_records.specs.Words.{change_first, is_client_call_of, is_given_as, is_live_call, is_queued, is_served_by, without_arguments_at}
use Rattle.call_tree.specs.Words.{IsFound, calls_in, is_call, look, with_call, without_key}
use Rattle.call_tree.specs.Calls.{is_called_by, is_waiting}
use Rattle.call_tree.specs.Walks.{argument_objects}
use Rattle.call_tree.specs.Index.{AreApart, AreSingle, IsSound, is_open, moved_to}
use Rattle.call_tree.specs.LiveCalls.{AreLive}
use Rattle.call_tree.proofs.Looks.{past, change_by, find_by, find_no, look_here}
use Rattle.call_tree.proofs.Ties.{and_first, is_of_true}
use Rattle.call_tree.proofs.Changes.{none_found}
use Rattle.call_tree.proofs.Looks.{same_some}

-- one call at most passes
pub record Only (p : Call → Bool) (es : List (ℕ × Call)) : Type 0 where
  pub apart : AreApart es
  pub one : (k j : ℕ) (r x : Call) → look k es ≡ Some r → look j es ≡ Some x → p r ≡ true → p x ≡ true → k ≡ j

-- what passes the one test passes the other
pub record Narrows (q p : Call → Bool) (es : List (ℕ × Call)) : Type 0 where
  pub passes : (k : ℕ) (r : Call) → look k es ≡ Some r → q r ≡ true → p r ≡ true

module _ {es : List (ℕ × Call)} (s : AreSingle es) where
  pub of_number : (c : ℕ) → Only (is_call c) es
  of_number c = record { apart = s.apart; one = λ k j r x l m p q. s.number k j r x l m (is_of_true r.number c p ∙ sym (is_of_true x.number c q)) }

  pub of_caller : (t : ℕ) → Only (is_called_by t) es
  of_caller t = record { apart = s.apart; one = λ k j r x l m p q. s.caller k j r x l m (is_of_true r.caller.0 t p ∙ sym (is_of_true x.caller.0 t q)) }

  pub of_server : (t : ℕ) → Only (is_served_by t) es
  of_server t = record { apart = s.apart; one = λ k j r x l m p q. s.server t k j r x l m p q }

two : (b : Bool) → b ≡ true → b ≡ false → ⊥
two true a b = cc
two false a b = cc

some_is : {X : Type 0} (o : Option X) (x : X) → o ≡ Some x → IsSome o
some_is o x e = subst IsSome (sym e) refl

none_is : {X : Type 0} (o : Option X) → o ≡ None → IsSome o → ⊥
none_is None e h = cc
none_is (Some x) e h = cc

pub only_narrow : {p q : Call → Bool} {es : List (ℕ × Call)} → Only p es → Narrows q p es → Only q es
only_narrow o n = record { apart = o.apart; one = λ k j r x l m a b. o.one k j r x l m (n.passes k r l a) (n.passes j x m b) }

module _ {p : Call → Bool} {es : List (ℕ × Call)} (o : Only p es) where
  pub finds : (k : ℕ) (r : Call) → look k es ≡ Some r → p r ≡ true → find p (calls_in es) ≡ Some r
  finds k r l h = find_by p es k r o.apart (λ j x m q. o.one j k x r m l q h) l h

  pub changes : (change : Call → Call) (k : ℕ) (r : Call) → look k es ≡ Some r → p r ≡ true → change_first p change (calls_in es) ≡ calls_in (with_call k (change r) es)
  changes change k r l h = change_by p change es k r o.apart (λ j x m q. o.one j k x r m l q h) l h

  -- the call of a key that the search gave
  pub found : (k : ℕ) (r : Call) → look k es ≡ Some r → IsFound p es (Some k) → p r ≡ true
  found k r l w = ap p (same_some r w.0 (sym l ∙ w.1)) ∙ w.2

  module _ {q : Call → Bool} (n : Narrows q p es) where
    pub nowhere : find p (calls_in es) ≡ None → find q (calls_in es) ≡ None
    nowhere e = find_no q es o.apart (λ k r l h. none_found p es e k r l (n.passes k r l h))

    pub misses : (k : ℕ) (r : Call) → look k es ≡ Some r → IsFound p es (Some k) → q r ≡ false → find q (calls_in es) ≡ None
    misses k r l w f =
        find_no q es o.apart (λ j x m h. let e = o.one j k x r m l (n.passes j x m h) (found k r l w) in two (q x) h (ap q (same_some x r (sym m ∙ ap (λ i. look i es) e ∙ l)) ∙ f))

    pub there : (k : ℕ) (r : Call) → look k es ≡ Some r → IsFound p es (Some k) → IsSome (find q (calls_in es)) → q r ≡ true
    there k r l w h = let none = misses k r l w in grind (arith, none)

    pub known_there : (k : Option ℕ) → IsFound p es k → IsSome (find q (calls_in es)) → IsSome k
    known_there None w h = absurd (none_is (find q (calls_in es)) (nowhere w) h)
    known_there (Some k) w h = refl

-- where the test that is narrower is the same and another
pub found_is : {p : Call → Bool} {es : List (ℕ × Call)} (o : Only p es) (q : Call → Bool) → Narrows (λ r. p r && q r) p es → (k : ℕ) (r : Call) → look k es ≡ Some r → IsFound p es (Some k) → is_some (find (λ x. p x && q x) (calls_in es)) ≡ q r
found_is {p} {es} o q n k r l w =
    let test = found o k r l w in
    let here = finds (only_narrow o n) k r l in
    let none = misses o n k r l w in grind (arith, test, here, none)

-- tests that are narrower

pub narrow_first : (p q : Call → Bool) {es : List (ℕ × Call)} → Narrows (λ r. p r && q r) p es
narrow_first p q = record { passes = λ k r l h. and_first (p r) (q r) h }

pub narrow_given : {es : List (ℕ × Call)} → AreSingle es → (c t : ℕ) → Narrows (is_given_as c t) (is_served_by t) es
narrow_given s c t = record {
  passes = λ k r l h. let plain = (s.sound k r l).plain in grind (arith, nat_tests, plain);
}

pub narrow_client : {es : List (ℕ × Call)} → (t : ℕ) → Narrows (is_client_call_of t) (is_served_by t) es
narrow_client t = record { passes = λ k r l h. grind (arith, nat_tests) }

pub waiting_open : (s : CallStage) → is_waiting s ≡ true → is_open s ≡ true
waiting_open s h = grind (arith, nat_tests)

pub queued_is : (s : CallStage) → is_queued s ≡ true → s ≡ stage.Queued
queued_is s h = grind (arith, nat_tests)

-- a record that keeps whether it is abandoned
pub plain_moved : (r : Call) (s : CallStage) → r.abandoned ≡ false → moved_to s false r ≡ without_arguments_at s r
plain_moved r s e = ap (λ b. record (without_arguments_at s r) { abandoned = b }) (sym e)

pub served_moved : (t : ℕ) (r : Call) (s : CallStage) → is_served_by t r ≡ true → moved_to s false r ≡ without_arguments_at s r
served_moved t r s h = plain_moved r s (grind (arith, nat_tests))

pub waiting_moved : (r : Call) (s : CallStage) → IsSound r → is_waiting r.stage ≡ true → moved_to s false r ≡ without_arguments_at s r
waiting_moved r s w h = plain_moved r s (w.plain (waiting_open r.stage h))

-- an open call has no objects but those of its arguments

pub arguments_of : (r : Call) → IsSound r → is_open r.stage ≡ true → r.objects ≡ argument_objects (Some r)
arguments_of r w h = let bare = w.bare in grind (arith, nat_tests, bare)

pub served_arguments : (t : ℕ) (r : Call) → IsSound r → is_served_by t r ≡ true → r.objects ≡ argument_objects (Some r)
served_arguments t r w h = arguments_of r w (grind (arith, nat_tests))

-- a key that is there

pub looked : (k : ℕ) (es : List (ℕ × Call)) (r : Call) → look k es ≡ Some r → IsSome (look k es)
looked k es r e = some_is (look k es) r e

pub key_call : (k : ℕ) (es : List (ℕ × Call)) → IsSome (look k es) → (r : Call) × (look k es ≡ Some r)
key_call k es h = some_call (look k es) refl h
  where
    some_call : (o : Option Call) → look k es ≡ o → IsSome o → (r : Call) × (look k es ≡ Some r)
    some_call None e h = absurd (cc)
    some_call (Some r) e h = (r, e)

pub looked_up : (p : Call → Bool) (es : List (ℕ × Call)) (o : Option ℕ) (k : ℕ) → IsFound p es o → o ≡ Some k → IsFound p es (Some k)
looked_up p es o k w e = subst (IsFound p es) e w

-- the calls are live

pub lives : (es : List (ℕ × Call)) → AreApart es → ((k : ℕ) (r : Call) → look k es ≡ Some r → is_live_call r ≡ true) → AreLive (calls_in es)
lives [] a h = tt
lives (e ∷ es) a h = (h e.0 e.1 (look_here e es), lives es a.1 (λ k r l. h k r (past e es a.0 k r l)))

pub live_same : (rs : List Call) → AreLive rs → filter is_live_call rs ≡ rs
live_same [] h = refl
live_same (r ∷ rs) h = grind (arith, h.0, live_same rs h.1)

pub live_changed : (es : List (ℕ × Call)) (k : ℕ) (r : Call) → is_live_call r ≡ true → AreLive (calls_in es) → AreLive (calls_in (with_call k r es))
live_changed [] k r e h = tt
live_changed (x ∷ es) k r e h = grind (arith, nat_tests, live_changed es k r e h.1)

-- one that is not live any more leaves
pub gone_removed : (es : List (ℕ × Call)) (k : ℕ) (r : Call) → is_live_call r ≡ false → IsSome (look k es) → AreLive (calls_in es) → filter is_live_call (calls_in (with_call k r es)) ≡ calls_in (without_key k es)
gone_removed [] k r e h a = absurd (cc)
gone_removed (x ∷ es) k r e h a =
    let ih : IsSome (look k es) → filter is_live_call (calls_in (with_call k r es)) ≡ calls_in (without_key k es) = λ q. gone_removed es k r e q a.1 in
    grind (arith, nat_tests, ih, live_same (calls_in es) a.1, a.0)

-- a record that stays as it was
pub with_same : (es : List (ℕ × Call)) (k : ℕ) (r : Call) → look k es ≡ Some r → with_call k r es ≡ es
with_same [] k r h = refl
with_same (x ∷ es) k r h = grind (arith, nat_tests, with_same es k r)
