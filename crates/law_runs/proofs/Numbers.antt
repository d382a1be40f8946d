-- Lists of notices: which numbers are found, whether a door has one, and what comes of the making, the giving and the dropping of
-- notices.
use Rattle.std.specs.Prelude.{ℕ, ◌≡◌, ◌+◌, ◌<◌, ◌≤◌, ◌++◌, ◌⊎◌, List, [], ◌∷◌, Option, Bool, true, false, ◌==◌, Some, None, zero, suc, find, if◌then◌else◌, is_some, length}
use Rattle.std.specs.List.{list_any}
use Rattle.std.proofs.Common.{refl, sym, ap, subst, ◌∙◌, inl, inr, append-nil}
use native.Mathlib.Omega.{arith}
use Rattle.std.proofs.lemmas.Bool.Decides.{nat_tests}
use Rattle.spec_records.proofs.NumberedLists.{find-before, find-found, find-passes, find-past, find-within}
use Rattle.spec_kernel.specs.Types.{Notice, NoticeStage}
use Rattle.spec_records.specs.declared.record.NoticeStage.TheVariants as notice
use Rattle.spec_records.specs.Words.{change_first, has_notice, is_given_notice_as, is_notice_of, is_waiting_notice_as, is_waiting_stage, new_notice, notice_at, notice_number, tid}
use Rattle.spec_kernel.specs.Words.{State, door_of, is_due, make_notices, now}
use Rattle.spec_kernel.proofs.NoticeLists.{new_notices}
use Rattle.spec_kernel.proofs.Notices.{due_among, due_doors, notices-make_notices}
use Rattle.law_states.specs.Core.{notice_in}
use Rattle.law_states.specs.Records.{has_notice_number, notice_of}
use Rattle.law_states.specs.Invariant.{IsConsistent}
use Rattle.law_states.specs.Events.{IsMade}
use Rattle.law_runs.specs.Notices.{HasNotice}

-- numbers

some_made : {X : Type 0} (o : Option X) → is_some o ≡ true → IsMade o
some_made None e = absurd (cc e)
some_made (Some x) e = record { made = x; there = refl }

not_none : {X : Type 0} (o : Option X) → IsMade o → o ≡ None → ⊥
not_none o h e = absurd (cc (sym e ∙ h.there))

pub at_most_or_past : (c n : ℕ) → (c ≤ n) ⊎ (n < c)
at_most_or_past c n = grind arith

module _ (m : State) (h : IsConsistent m) where
  past_last : (c : ℕ) → m.notice_list.made < c → notice_of m c ≡ None
  past_last c l = find-past notice_number m.notice_list.notices 0 c h.notices_in_order (omega (arith, l, h.notices_counted))

  pub numbers_are : (c : ℕ) → IsMade (notice_of m c) → (1 ≤ c) × (c ≤ m.notice_list.made)
  numbers_are c w = (low c w, high (at_most_or_past c m.notice_list.made))
    where
      low : (c : ℕ) → IsMade (notice_of m c) → 1 ≤ c
      low zero v = absurd (not_none (notice_of m 0) v (find-before notice_number m.notice_list.notices 0 0 h.notices_in_order (omega arith)))
      low (suc d) v = omega arith

      high : (c ≤ m.notice_list.made) ⊎ (m.notice_list.made < c) → c ≤ m.notice_list.made
      high (inl l) = l
      high (inr l) = absurd (not_none (notice_of m c) w (past_last c l))

  pub numbers_found : (c : ℕ) → 1 ≤ c → c ≤ m.notice_list.made → IsMade (notice_of m c)
  numbers_found c l g =
      some_made (notice_of m c) (find-within notice_number m.notice_list.notices 0 c h.notices_in_order (omega (arith, l)) (omega (arith, g, h.notices_counted)))

-- whether a door has a notice

has_found : (rs : List Notice) (c d : ℕ) (x : Notice) → find (has_notice_number c) rs ≡ Some x → x.door ≡ d → list_any (is_notice_of d) rs ≡ true
has_found [] c d x e f = absurd (cc e)
has_found (y ∷ rs) c d x e f = grind (arith, nat_tests, has_found rs c d x)

record IsFirst (test : Notice → Bool) (rs : List Notice) : Type 0 where
  notice : Notice
  found : find test rs ≡ Some notice

first_found : (test : Notice → Bool) (rs : List Notice) → list_any test rs ≡ true → IsFirst test rs
first_found test [] e = absurd (cc e)
first_found test (y ∷ rs) e = go (test y) refl (λ f. first_found test rs f)
  where
    go : (b : Bool) → test y ≡ b → (list_any test rs ≡ true → IsFirst test rs) → IsFirst test (y ∷ rs)
    go true f later = record { notice = y; found = grind (arith, f) }
    go false f later =
        let w : IsFirst test rs = later (grind arith) in
        record { notice = w.notice; found = grind (arith, f, w.found) }

pub has_notice_of : (m : State) (d : ℕ) → HasNotice m d → has_notice m.notice_list d ≡ true
has_notice_of m d w = has_found m.notice_list.notices w.number d w.had w.there w.door

pub notice_of_has : (m : State) (d : ℕ) → IsConsistent m → has_notice m.notice_list d ≡ true → HasNotice m d
notice_of_has m d h e = go (first_found (is_notice_of d) m.notice_list.notices e)
  where
    go : IsFirst (is_notice_of d) m.notice_list.notices → HasNotice m d
    go w =
        record {
          number = w.notice.number;
          had = w.notice;
          there = find-found notice_number (is_notice_of d) m.notice_list.notices 0 w.notice h.notices_in_order w.found;
          door = grind (arith, nat_tests, find-passes (is_notice_of d) m.notice_list.notices w.notice w.found);
        }

-- the doors that are due ascend, and so do their notices' numbers

abbrev Ascend : ℕ → List ℕ → ℕ → Type 0
Ascend low [] high = low ≤ high
Ascend low (n ∷ ns) high = (low < n) × Ascend n ns high

ascend_push : (low high n : ℕ) (ns : List ℕ) → Ascend low ns high → high < n → Ascend low (ns ++ n ∷ []) n
ascend_push low high n [] a l = (omega (arith, a, l), omega arith)
ascend_push low high n (x ∷ xs) a l = (a.0, ascend_push x high n xs a.1 l)

ascend_up : (low high top : ℕ) (ns : List ℕ) → Ascend low ns high → high ≤ top → Ascend low ns top
ascend_up low high top [] a l = omega (arith, a, l)
ascend_up low high top (x ∷ xs) a l = (a.0, ascend_up x high top xs a.1 l)

due_ascend : (before m : State) (n : ℕ) → Ascend 0 (due_among before m n) n
due_ascend before m zero = omega arith
due_ascend before m (suc n) = go (is_due before m (suc n) (door_of m (suc n))) (due_ascend before m n)
  where
    go : (b : Bool) → Ascend 0 (due_among before m n) n → Ascend 0 (due_among before m n ++ (if b then suc n ∷ [] else [])) (suc n)
    go true h = ascend_push 0 n (suc n) (due_among before m n) h (omega arith)
    go false h =
        subst (λ ns. Ascend 0 ns (suc n)) (sym (append-nil (due_among before m n)))
        (ascend_up 0 n (suc n) (due_among before m n) h (omega arith))

number_above : (made now c : ℕ) (ds : List ℕ) (x : Notice) → find (has_notice_number c) (new_notices made now ds) ≡ Some x → made < c
number_above made now c [] x e = absurd (cc e)
number_above made now c (d ∷ ds) x e = go (made + 1 == c) refl e (number_above (made + 1) now c ds x)
  where
    rest : List Notice
    rest = new_notices (made + 1) now ds

    go :
        (b : Bool) → (made + 1 == c) ≡ b →
        (if b then Some (new_notice (made + 1) now d) else find (has_notice_number c) rest) ≡ Some x →
        (find (has_notice_number c) rest ≡ Some x → made + 1 < c) → made < c
    go true f g ih = grind (arith, nat_tests, f)
    go false f g ih = omega (arith, ih g)

door_above :
    (made now c low high : ℕ) (ds : List ℕ) (x : Notice) → Ascend low ds high → find (has_notice_number c) (new_notices made now ds) ≡ Some x →
    low < x.door
door_above made now c low high [] x a e = absurd (cc e)
door_above made now c low high (d ∷ ds) x a e = go (made + 1 == c) e (door_above (made + 1) now c d high ds x a.1)
  where
    rest : List Notice
    rest = new_notices (made + 1) now ds

    go :
        (b : Bool) → (if b then Some (new_notice (made + 1) now d) else find (has_notice_number c) rest) ≡ Some x →
        (find (has_notice_number c) rest ≡ Some x → d < x.door) → low < x.door
    go true g ih = let same : new_notice (made + 1) now d ≡ x = cc in omega (arith, a.0, ap (λ (z : Notice). z.door) same)
    go false g ih = omega (arith, a.0, ih g)

new_ordered :
    (made now c d low high : ℕ) (ds : List ℕ) (x y : Notice) → Ascend low ds high →
    find (has_notice_number c) (new_notices made now ds) ≡ Some x → find (has_notice_number d) (new_notices made now ds) ≡ Some y →
    x.door < y.door → c < d
new_ordered made now c d low high [] x y a e f l = absurd (cc e)
new_ordered made now c d low high (n ∷ ns) x y a e f l =
    go (made + 1 == c) refl (made + 1 == d) refl e f (λ g h. new_ordered (made + 1) now c d n high ns x y a.1 g h l)
  where
    rest : List Notice
    rest = new_notices (made + 1) now ns

    same_door : (z : Notice) → Some (new_notice (made + 1) now n) ≡ Some z → n ≡ z.door
    same_door z g = let same : new_notice (made + 1) now n ≡ z = cc in ap (λ (w : Notice). w.door) same

    go :
        (p : Bool) → (made + 1 == c) ≡ p → (r : Bool) → (made + 1 == d) ≡ r →
        (if p then Some (new_notice (made + 1) now n) else find (has_notice_number c) rest) ≡ Some x →
        (if r then Some (new_notice (made + 1) now n) else find (has_notice_number d) rest) ≡ Some y →
        (find (has_notice_number c) rest ≡ Some x → find (has_notice_number d) rest ≡ Some y → c < d) → c < d
    go true i true j g h ih = absurd (omega (arith, l, same_door x g, same_door y h))
    go true i false j g h ih =
        let here : made + 1 ≡ c = grind (arith, nat_tests) in omega (arith, here, number_above (made + 1) now d ns y h)
    go false i true j g h ih = absurd (omega (arith, l, same_door y h, door_above (made + 1) now c n high ns x a.1 g))
    go false i false j g h ih = ih g h

-- what is found behind a list that does not have it
find_behind : (test : Notice → Bool) (rs ss : List Notice) → find test rs ≡ None → find test (rs ++ ss) ≡ find test ss
find_behind test [] ss e = refl
find_behind test (y ∷ rs) ss e = grind (arith, find_behind test rs ss)

pub made_ordered :
    (before m : State) (c d : ℕ) (x y : Notice) → notice_of m c ≡ None → notice_of m d ≡ None → notice_of (make_notices before m) c ≡ Some x →
    notice_of (make_notices before m) d ≡ Some y → x.door < y.door → c < d
made_ordered before m c d x y e f g h l =
    new_ordered m.notice_list.made (now m) c d 0 (length m.doors) (due_doors before m) x y (due_ascend before m (length m.doors))
    (sym (found c e) ∙ g) (sym (found d f) ∙ h) l
  where
    found :
        (j : ℕ) → notice_of m j ≡ None →
        notice_of (make_notices before m) j ≡ find (has_notice_number j) (new_notices m.notice_list.made (now m) (due_doors before m))
    found j i =
        ap (find (has_notice_number j)) (notices-make_notices before m)
        ∙ find_behind (has_notice_number j) m.notice_list.notices (new_notices m.notice_list.made (now m) (due_doors before m)) i

-- one more at the end, giving and entering, seen by the stage that a number finds

pub stage_front :
    (rs ss : List Notice) (c : ℕ) (s : NoticeStage) → notice_in (find (has_notice_number c) rs) ≡ Some s →
    notice_in (find (has_notice_number c) (rs ++ ss)) ≡ Some s
stage_front [] ss c s e = absurd (cc e)
stage_front (y ∷ rs) ss c s e = grind (arith, stage_front rs ss c s)

pub stage_given :
    (rs : List Notice) (j c u : ℕ) (s : NoticeStage) → is_waiting_stage s ≡ false → notice_in (find (has_notice_number c) rs) ≡ Some s →
    notice_in (find (has_notice_number c) (change_first (is_waiting_notice_as j) (notice_at (notice.Given (tid u))) rs)) ≡ Some s
stage_given [] j c u s w e = absurd (cc e)
stage_given (y ∷ rs) j c u s w e = grind (arith, nat_tests, stage_given rs j c u s w)

pub stage_entered :
    (rs : List Notice) (c t : ℕ) → notice_in (find (has_notice_number c) rs) ≡ Some (notice.Given (tid t)) →
    notice_in (find (has_notice_number c) (change_first (is_given_notice_as c t) (notice_at (notice.Entered (tid t))) rs))
    ≡ Some (notice.Entered (tid t))
stage_entered [] c t e = absurd (cc e)
stage_entered (y ∷ rs) c t e = grind (arith, nat_tests, stage_entered rs c t)
