-- What the laws stand on: what the invariant and the arrows say of each place of a run.
use Rattle.std.specs.Prelude.{ℕ, ◌≡◌, ◌+◌, ◌<◌, ◌≤◌, ◌⊎◌, List, [], ◌∷◌, Option, Bool, true, false, Some, None, zero, suc, length, slice_get}
use Rattle.std.proofs.Common.{refl, sym, ap, subst, ◌∙◌, add-one, inl, inr}
use native.Mathlib.Omega.{arith}
use Rattle.std.proofs.lemmas.Option.{slice_get_within}
use Rattle.spec_kernel.specs.Types.{Call}
use Rattle.spec_kernel.specs.Words.{MayTurn, State, Turn, bound_of, door_of, state_after_turn, state_at, now}
use Rattle.spec_kernel.proofs.Runs.{state_at_more, events-state_at}
use Rattle.law_states.specs.Records.{notice_of, record_of}
use Rattle.law_states.specs.Invariant.{Invariant}
use Rattle.law_states.specs.Events.{Keeps}
use Rattle.law_places.specs.Places.{Becomes, answer_at}
use Rattle.law_places.proofs.Changes.{Change, change, change_rises, rank_in}
use Rattle.law_places.specs.Counts.{descriptors, limit_of}

-- the turn at a place below the length
pub record TurnAt (xs : List Turn) (i : ℕ) : Type 0 where
  pub turn : Turn
  pub found : slice_get xs i ≡ Some turn

pub turn_at : (xs : List Turn) (i : ℕ) → i < length xs → TurnAt xs i
turn_at [] i l = absurd (omega arith)
turn_at (x ∷ xs) zero l = record { turn = x; found = refl }
turn_at (x ∷ xs) (suc i) l =
    let t : TurnAt xs i = turn_at xs i (omega arith) in
    record { turn = t.turn; found = t.found }

pub same_turn : (xs : List Turn) (i : ℕ) (x y : Turn) → slice_get xs i ≡ Some x → slice_get xs i ≡ Some y → x ≡ y
same_turn xs i x y e f = cc

pub false_not_true : false ≡ true → ⊥
false_not_true e = grind arith

pub record Known (m : State) (xs : List Turn) : Type 0 where
  pub no_call : (c : ℕ) → record_of m c ≡ None
  pub no_notice : (c : ℕ) → notice_of m c ≡ None
  pub no_event : m.events ≡ 0
  pub no_door : (d : ℕ) → door_of m d ≡ None
  pub no_binding : (t : ℕ) → bound_of m t ≡ None
  pub sizes : (p : ℕ) → descriptors m p ≡ limit_of m p
  pub invariant : (i : ℕ) → i ≤ length xs → Invariant (state_at m xs i)
  pub may : (i : ℕ) (x : Turn) → slice_get xs i ≡ Some x → MayTurn (state_at m xs i) x.thread x.request
  pub keeps : (i : ℕ) (x : Turn) → slice_get xs i ≡ Some x → Keeps (state_at m xs i) x.thread x.request

split : (i n : ℕ) → i ≤ n → (i < n) ⊎ (i ≡ n)
split i n l = grind arith

abbrev pub ChangeAt : State → List Turn → ℕ → Turn → Option Call → Option Call → Type 0
ChangeAt m xs i x o p = Change (state_at m xs i) x.thread x.request (answer_at m xs i x) (state_at m xs (i + 1)) o p

-- what holds at a place and is kept by each turn from there on holds at each later place
pub from_on :
    (P : ℕ → Type 0) (n i : ℕ) → ((a : ℕ) → i ≤ a → a < n → P a → P (a + 1)) → (j : ℕ) → i ≤ j → j ≤ n → P i → P j
from_on P n i one zero l b h = let same : i ≡ zero = omega (arith, l) in subst P same h
from_on P n i one (suc j) l b h = go (split i (suc j) l) (λ f. from_on P n i one j f (omega (arith, b)) h)
  where
    go : (i < suc j) ⊎ (i ≡ suc j) → (i ≤ j → P j) → P (suc j)
    go (inl f) ih = subst P (add-one j) (one j (omega (arith, f)) (omega (arith, b)) (ih (omega (arith, f))))
    go (inr f) ih = subst P f h

pub stays :
    (m : State) (xs : List Turn) (P : State → Type 0) (i : ℕ) →
    ((a : ℕ) (x : Turn) → i ≤ a → slice_get xs a ≡ Some x → P (state_at m xs a) → P (state_at m xs (a + 1))) → (j : ℕ) →
    i ≤ j → j ≤ length xs → P (state_at m xs i) → P (state_at m xs j)
stays m xs P i one = from_on (λ a. P (state_at m xs a)) (length xs) i (λ a l b. by a l (turn_at xs a b))
  where
    by : (a : ℕ) → i ≤ a → TurnAt xs a → P (state_at m xs a) → P (state_at m xs (a + 1))
    by a l t = one a t.turn l t.found

-- a number that falls at no place below n never falls up to n
pub never_falls :
    (f : ℕ → ℕ) (n : ℕ) → ((i : ℕ) → i < n → f i ≤ f (i + 1)) → (i j : ℕ) → i ≤ j → j ≤ n → f i ≤ f j
never_falls f n h i j l b = from_on (λ a. f i ≤ f a) n i (λ a m g e. omega (arith, e, h a g)) j l b (omega arith)

-- so it comes from below r to r or more at one place

not_again :
    (f : ℕ → ℕ) (n r i j : ℕ) → ((k : ℕ) → k < n → f k ≤ f (k + 1)) → j < n → r ≤ f (i + 1) → f j < r → i < j → ⊥
not_again f n r i j h b d e l =
    let first : f (i + 1) ≤ f j = never_falls f n h (i + 1) j (omega arith) (omega arith) in
    omega (arith, first)

pub rises_once :
    (f : ℕ → ℕ) (n r i j : ℕ) → ((k : ℕ) → k < n → f k ≤ f (k + 1)) → i < n → j < n → f i < r → f j < r → r ≤ f (i + 1) →
    r ≤ f (j + 1) → i ≡ j
rises_once f n r i j h a b c d e g =
    let one : i < j → ⊥ = not_again f n r i j h b e d in
    let two : j < i → ⊥ = not_again f n r j i h a g c in
    omega arith

-- of a value that stays or changes at an event: its rank never falls if each change raises it, and where a test differs it changes

pub not_below : {Y : Type 0} (rank : Y → ℕ) (o p : Y) (Changes : Type 0) → (Changes → rank o < rank p) → (p ≡ o) ⊎ Changes → rank o ≤ rank p
not_below rank o p Changes rises (inl same) = omega (arith, ap rank same)
not_below rank o p Changes rises (inr w) = omega (arith, rises w)

pub changed :
    {Y : Type 0} (test : Y → Bool) (o p : Y) (Changes : Type 0) (a b : Bool) → (a ≡ b → ⊥) → test o ≡ a → test p ≡ b → (p ≡ o) ⊎ Changes →
    Changes
changed test o p Changes a b d before after (inl same) = absurd (d (sym before ∙ ap test (sym same) ∙ after))
changed test o p Changes a b d before after (inr w) = w

module _ (m : State) (xs : List Turn) (k : Known m xs) where
  pub next : (i : ℕ) (x : Turn) → slice_get xs i ≡ Some x → state_at m xs (i + 1) ≡ state_after_turn (state_at m xs i) x
  next i x e = state_at_more m xs i x e

  -- an event has the number of its place, from 1 on
  pub number_of_event : (i : ℕ) → i < length xs → now (state_at m xs i) ≡ i + 1
  number_of_event i l = omega (arith, events-state_at m xs i (omega (arith, l)), k.no_event)

  pub invariant_before : (i : ℕ) (x : Turn) → slice_get xs i ≡ Some x → Invariant (state_at m xs i)
  invariant_before i x e =
      let within : i < length xs = slice_get_within xs i x e in
      k.invariant i (omega arith)

  pub invariant_after : (i : ℕ) (x : Turn) → slice_get xs i ≡ Some x → Invariant (state_at m xs (i + 1))
  invariant_after i x e =
      let within : i < length xs = slice_get_within xs i x e in
      k.invariant (i + 1) (omega arith)

  -- a record stays or changes
  pub stays_or_changes :
      (c i : ℕ) (x : Turn) → slice_get xs i ≡ Some x →
      (record_of (state_at m xs (i + 1)) c ≡ record_of (state_at m xs i) c)
      ⊎ ChangeAt m xs i x (record_of (state_at m xs i) c) (record_of (state_at m xs (i + 1)) c)
  stays_or_changes c i x e =
      subst
      (λ n. (record_of n c ≡ record_of (state_at m xs i) c) ⊎ Change (state_at m xs i) x.thread x.request (answer_at m xs i x) n (record_of (state_at m xs i) c) (record_of n c))
      (sym (next i x e))
      (change (state_at m xs i) x.thread x.request (answer_at m xs i x) (state_after_turn (state_at m xs i) x) _ _ ((k.keeps i x e).arrows c))

  -- where a test of it differs, it changes
  pub changes :
      (c i : ℕ) (x : Turn) (test : Option Call → Bool) (a b : Bool) → slice_get xs i ≡ Some x → (a ≡ b → ⊥) →
      test (record_of (state_at m xs i) c) ≡ a → test (record_of (state_at m xs (i + 1)) c) ≡ b →
      ChangeAt m xs i x (record_of (state_at m xs i) c) (record_of (state_at m xs (i + 1)) c)
  changes c i x test a b e d before after = changed test _ _ _ a b d before after (stays_or_changes c i x e)

  abbrev pub rank_at : ℕ → ℕ → ℕ
  rank_at c i = rank_in (record_of (state_at m xs i) c)

  pub never_less : (c i : ℕ) → i < length xs → rank_at c i ≤ rank_at c (i + 1)
  never_less c i l = go (turn_at xs i l)
    where
      go : TurnAt xs i → rank_at c i ≤ rank_at c (i + 1)
      go t = not_below rank_in _ _ _ (change_rises _ _ _ _ _ _ _) (stays_or_changes c i t.turn t.found)

  -- where a test comes true, the rank rises
  pub rises :
      (c i : ℕ) (test : Option Call → Bool) → Becomes (λ n. test (record_of n c)) m xs i → rank_at c i < rank_at c (i + 1)
  rises c i test b = go (turn_at xs i b.within)
    where
      go : TurnAt xs i → rank_at c i < rank_at c (i + 1)
      go t =
          change_rises _ _ _ _ _ _ _
          (changes c i t.turn test false true t.found false_not_true b.before b.after)

  -- so a test comes true once if only records of one rank meet it
  pub becomes_once :
      (c i j r : ℕ) (test : Option Call → Bool) → ((o : Option Call) → test o ≡ true → rank_in o ≡ r) →
      Becomes (λ n. test (record_of n c)) m xs i → Becomes (λ n. test (record_of n c)) m xs j → i ≡ j
  becomes_once c i j r test h a b =
      let u : rank_at c (i + 1) ≡ r = h _ a.after in
      let v : rank_at c (j + 1) ≡ r = h _ b.after in
      let f : rank_at c i < rank_at c (i + 1) = rises c i test a in
      let g : rank_at c j < rank_at c (j + 1) = rises c j test b in
      rises_once (rank_at c) (length xs) r i j (never_less c) a.within b.within (omega (arith, u, f)) (omega (arith, v, g))
      (omega (arith, u))
      (omega (arith, v))
