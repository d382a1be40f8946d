-- Lists of records of one kind, of which some wait in pools: which of them wait in a pool, as some change, are given to threads,
-- or leave.
use Rattle.std.proofs.Common.{◌≡◌, ℕ, zero, suc, ◌<◌, ◌≤◌, ◌&&◌, ◌==◌, Bool, true, false, not, if◌then◌else◌, List, [], ◌∷◌, ◌++◌, Some, map, filter, slice_get, refl, sym, ap, ap₂, ◌∙◌, append-nil, arith}
use Rattle.std.proofs.lemmas.Bool.Decides.{nat_tests}
use Rattle.std.proofs.lemmas.List.{map-append}
use Rattle.std.proofs.lemmas.List.Elements.{filter-append}
use Rattle.dk_base.specs.ByNumber.{at_number}
use Rattle.dk_base.specs.declared.object.Item.TheVariants as item
use Rattle.spec_records.specs.Words.{IsAscending, call_number, change_first, is_pool, is_queued, is_waiting_stage, notice_number, pool_in}
use Rattle.spec_records.proofs.NumberedLists.{ascending-above, ascending-found, map_first}
use Rattle.spec_kernel.specs.Types.{Call, Door, Item, Notice, Pool, Waiting}
use Rattle.spec_kernel.proofs.Giving.{same_pool}
use Rattle.server_pool.specs.Words.{is_item, without_item}
use Rattle.law_pools.proofs.Readers.{is_pool-sym}

-- tests that agree on the items of a list

pub same_filter :
    {X : Type 0} (p q : X → Bool) (xs : List X) → ((i : ℕ) (x : X) → slice_get xs i ≡ Some x → p x ≡ q x) → filter p xs ≡ filter q xs
same_filter p q [] h = refl
same_filter p q (x ∷ xs) h =
    ap₂ (λ b ys. if b then x ∷ ys else ys) (h zero x refl) (same_filter p q xs (λ i y e. h (suc i) y e))

pub first_passes : {X : Type 0} (test : X → Bool) (rs : List X) (r : X) (others : List X) → filter test rs ≡ r ∷ others → test r ≡ true
first_passes test [] r others e = cc
first_passes test (x ∷ xs) r others e = go (test x) refl (first_passes test xs r others) e
  where
    go :
        (b : Bool) → test x ≡ b → (filter test xs ≡ r ∷ others → test r ≡ true) →
        (if b then x ∷ filter test xs else filter test xs) ≡ r ∷ others → test r ≡ true
    go true f ih k = let same : x ≡ r = cc in ap test (sym same) ∙ f
    go false f ih k = ih k

pub both_true : (b c : Bool) → (b && c) ≡ true → (b ≡ true) × (c ≡ true)
both_true true c e = (refl, e)
both_true false c e = cc

-- where a is served by b, no other pool serves it
is_pool-other : (a b c : Pool) → is_pool a b ≡ true → is_pool a c ≡ false → is_pool c b ≡ false
is_pool-other a b c e f =
    ap (is_pool c) (sym (same_pool a b e)) ∙ is_pool-sym c a ∙ f

-- kinds of records

pub record Kind (X : Type 0) : Type 0 where
  pub number : X → ℕ
  pub made : X → ℕ
  pub door : X → ℕ
  pub waits : X → Bool
  pub item : ℕ → Item
  pub same_item : (c k : ℕ) → is_item (item c) (item k) ≡ (c == k)

abbrev pub call_kind : Kind Call
call_kind =
    record { number = call_number; made = λ r. r.made; door = λ r. r.door; waits = λ r. is_queued r.stage; item = λ c. item.Call c; same_item = λ c k. refl }

abbrev pub notice_kind : Kind Notice
notice_kind =
    record { number = notice_number; made = λ n. n.made; door = λ n. n.door; waits = λ n. is_waiting_stage n.stage; item = λ c. item.Notice c; same_item = λ c k. refl }

module _ {X : Type 0} (kind : Kind X) where
  abbrev pub waiting : X → Waiting
  waiting x = record { item = kind.item (kind.number x); made = kind.made x; door = kind.door x }

  abbrev pub waits_as : ℕ → X → Bool
  waits_as c x = (kind.number x == c) && kind.waits x

  abbrev pub waits_in : List Door → Pool → X → Bool
  waits_in doors pool x = kind.waits x && is_pool pool (pool_in (at_number doors (kind.door x)))

  abbrev pub all_waiting : List Door → Pool → List X → List Waiting
  all_waiting doors pool xs = map waiting (filter (waits_in doors pool) xs)

  abbrev pub every_waiting : List X → List Waiting
  every_waiting xs = map waiting (filter kind.waits xs)

  -- with other doors, of which the pools of those that wait are the same
  pub waiting_doors :
      (doors others : List Door) (pool : Pool) (xs : List X) →
      ((i : ℕ) (x : X) → slice_get xs i ≡ Some x → kind.waits x ≡ true → pool_in (at_number others (kind.door x)) ≡ pool_in (at_number doors (kind.door x))) →
      all_waiting others pool xs ≡ all_waiting doors pool xs
  waiting_doors doors others pool xs h =
      ap (map waiting) (same_filter (waits_in others pool) (waits_in doors pool) xs (λ i x e. go x (kind.waits x) (h i x e)))
    where
      go :
          (x : X) (b : Bool) → (b ≡ true → pool_in (at_number others (kind.door x)) ≡ pool_in (at_number doors (kind.door x))) →
          (b && is_pool pool (pool_in (at_number others (kind.door x)))) ≡ (b && is_pool pool (pool_in (at_number doors (kind.door x))))
      go x true same = ap (is_pool pool) (same refl)
      go x false same = refl

  module _ (doors : List Door) (pool : Pool) where
    abbrev here : X → Bool
    here = waits_in doors pool

    abbrev those : List X → List Waiting
    those = all_waiting doors pool

    served : (x : X) → here x ≡ true → (kind.waits x ≡ true) × (is_pool pool (pool_in (at_number doors (kind.door x))) ≡ true)
    served x = both_true (kind.waits x) (is_pool pool (pool_in (at_number doors (kind.door x))))

    pub waiting_push :
        (xs : List X) (x : X) → kind.waits x ≡ true →
        those (xs ++ x ∷ []) ≡ (if is_pool pool (pool_in (at_number doors (kind.door x))) then those xs ++ waiting x ∷ [] else those xs)
    waiting_push xs x e =
        ap (map waiting)
        (filter-append here xs (x ∷ [])
        ∙ ap (λ b. filter here xs ++ (if b && is_pool pool (pool_in (at_number doors (kind.door x))) then x ∷ [] else [])) e)
        ∙ go (is_pool pool (pool_in (at_number doors (kind.door x))))
      where
        go : (b : Bool) → map waiting (filter here xs ++ (if b then x ∷ [] else [])) ≡ (if b then those xs ++ waiting x ∷ [] else those xs)
        go true = map-append waiting (filter here xs) (x ∷ [])
        go false = ap (map waiting) (append-nil (filter here xs))

    -- the first record that meets a test, changed: none of those that meet it waits, before or after
    pub filter-changed :
        (test : X → Bool) (change : X → X) → ((x : X) → test x ≡ true → kind.waits x ≡ false) → ((x : X) → kind.waits (change x) ≡ false) →
        (xs : List X) → filter here (change_first test change xs) ≡ filter here xs
    filter-changed test change before after [] = refl
    filter-changed test change before after (x ∷ xs) = go (test x) refl (filter-changed test change before after xs)
      where
        go :
            (b : Bool) → test x ≡ b → filter here (change_first test change xs) ≡ filter here xs →
            filter here (if b then change x ∷ xs else x ∷ change_first test change xs) ≡ filter here (x ∷ xs)
        go true e ih =
            ap (λ c. if c && is_pool pool (pool_in (at_number doors (kind.door (change x)))) then change x ∷ filter here xs else filter here xs) (after x)
            ∙ ap (λ c. if c && is_pool pool (pool_in (at_number doors (kind.door x))) then x ∷ filter here xs else filter here xs) (sym (before x e))
        go false e ih = ap (λ ys. if here x then x ∷ ys else ys) ih

    -- the oldest record that waits in the pool, given to a thread
    module _
        (give : X → X) (over : (x : X) → kind.waits (give x) ≡ false) (c made : ℕ) (x : X) (more : List X) (number : kind.number x ≡ c) where
      abbrev given : List X → List X
      given xs = change_first (waits_as c) give xs

      -- none before it has its number
      before : (b : Bool) (y : X) (ys : List X) → IsAscending kind.number (kind.number y) made ys → filter here ys ≡ x ∷ more → waits_as c y ≡ b → b ≡ false
      before true y ys h k f =
          let above : kind.number y < kind.number x = ascending-found kind.number here ys (kind.number y) made x more h k in
          let same : kind.number y ≡ c = grind (arith, nat_tests) in
          absurd (omega arith)
      before false y ys h k f = refl

      it : (y : X) → here y ≡ true → y ≡ x → waits_as c y ≡ true
      it y f same =
          let n : kind.number y ≡ c = ap kind.number same ∙ number in
          let w : kind.waits y ≡ true = (served y f).0 in
          grind (arith, nat_tests)

      -- it waits no longer
      pub filter-given : (xs : List X) (low : ℕ) → IsAscending kind.number low made xs → filter here xs ≡ x ∷ more → filter here (given xs) ≡ more
      filter-given [] low h e = cc
      filter-given (y ∷ ys) low h e = go (here y) refl (filter-given ys (kind.number y) h.2) e
        where
          go :
              (b : Bool) → here y ≡ b → (filter here ys ≡ x ∷ more → filter here (given ys) ≡ more) →
              (if b then y ∷ filter here ys else filter here ys) ≡ x ∷ more → filter here (given (y ∷ ys)) ≡ more
          go true f ih k =
              let same : y ≡ x = cc in
              let rest : filter here ys ≡ more = cc in
              ap (λ b. filter here (if b then give y ∷ ys else y ∷ given ys)) (it y f same)
              ∙ ap (λ b. if b && is_pool pool (pool_in (at_number doors (kind.door (give y)))) then give y ∷ filter here ys else filter here ys) (over y)
              ∙ rest
          go false f ih k =
              ap (λ b. filter here (if b then give y ∷ ys else y ∷ given ys)) (before (waits_as c y) y ys h.2 k refl)
              ∙ ap (λ b. if b then y ∷ filter here (given ys) else filter here (given ys)) f
              ∙ ih k

      -- and what waits in other pools stays
      pub filter-given_elsewhere :
          (other : Pool) → is_pool pool other ≡ false → (xs : List X) (low : ℕ) → IsAscending kind.number low made xs →
          filter here xs ≡ x ∷ more → filter (waits_in doors other) (given xs) ≡ filter (waits_in doors other) xs
      filter-given_elsewhere other o [] low h e = refl
      filter-given_elsewhere other o (y ∷ ys) low h e = go (here y) refl (filter-given_elsewhere other o ys (kind.number y) h.2) e
        where
          there : X → Bool
          there = waits_in doors other

          go :
              (b : Bool) → here y ≡ b → (filter here ys ≡ x ∷ more → filter (waits_in doors other) (given ys) ≡ filter (waits_in doors other) ys) →
              (if b then y ∷ filter here ys else filter here ys) ≡ x ∷ more →
              filter (waits_in doors other) (given (y ∷ ys)) ≡ filter (waits_in doors other) (y ∷ ys)
          go true f ih k =
              let same : y ≡ x = cc in
              let elsewhere : waits_in doors other y ≡ false =
              ap₂ (λ b d. b && d) (served y f).0 (is_pool-other pool (pool_in (at_number doors (kind.door y))) other (served y f).1 o) in
              ap (λ b. filter (waits_in doors other) (if b then give y ∷ ys else y ∷ given ys)) (it y f same)
              ∙ ap (λ b. if b && is_pool other (pool_in (at_number doors (kind.door (give y)))) then give y ∷ filter (waits_in doors other) ys else filter (waits_in doors other) ys) (over y)
              ∙ ap (λ b. if b then y ∷ filter (waits_in doors other) ys else filter (waits_in doors other) ys) (sym elsewhere)
          go false f ih k =
              ap (λ b. filter (waits_in doors other) (if b then give y ∷ ys else y ∷ given ys)) (before (waits_as c y) y ys h.2 k refl)
              ∙ ap (λ zs. if waits_in doors other y then y ∷ zs else zs) (ih k)

    -- the record that waits longest
    pub record IsOldest (xs : List X) (w : Waiting) (ws : List Waiting) : Type 0 where
      pub oldest : X
      pub others : List X
      pub first : filter here xs ≡ oldest ∷ others
      pub same : waiting oldest ≡ w
      pub rest : map waiting others ≡ ws

    pub oldest : (xs : List X) (w : Waiting) (ws : List Waiting) → those xs ≡ w ∷ ws → IsOldest xs w ws
    oldest xs w ws e = go (filter here xs) refl e
      where
        go : (ys : List X) → filter here xs ≡ ys → map waiting ys ≡ w ∷ ws → IsOldest xs w ws
        go [] f k = cc
        go (y ∷ ys) f k = record { oldest = y; others = ys; first = f; same = cc; rest = cc }

    -- what waits, as one more record leaves

    waiting_cons : (x : X) (xs : List X) (b : Bool) → here x ≡ b → those (x ∷ xs) ≡ (if b then waiting x ∷ those xs else those xs)
    waiting_cons x xs true e = ap (λ c. map waiting (if c then x ∷ filter here xs else filter here xs)) e
    waiting_cons x xs false e = ap (λ c. map waiting (if c then x ∷ filter here xs else filter here xs)) e

    -- an item of another number, and the item itself
    without_cons :
        (c : ℕ) (x : X) (ws : List Waiting) (b : Bool) → (c == kind.number x) ≡ b →
        without_item (kind.item c) (waiting x ∷ ws) ≡ (if b then without_item (kind.item c) ws else waiting x ∷ without_item (kind.item c) ws)
    without_cons c x ws b e =
        ap (λ d. if not d then waiting x ∷ without_item (kind.item c) ws else without_item (kind.item c) ws) (kind.same_item c (kind.number x) ∙ e)
        ∙ go b
      where
        go :
            (d : Bool) →
            (if not d then waiting x ∷ without_item (kind.item c) ws else without_item (kind.item c) ws)
            ≡ (if d then without_item (kind.item c) ws else waiting x ∷ without_item (kind.item c) ws)
        go true = refl
        go false = refl

    none_of_them :
        (xs : List X) (c low made : ℕ) → c ≤ low → IsAscending kind.number low made xs → without_item (kind.item c) (those xs) ≡ those xs
    none_of_them [] c low made l h = refl
    none_of_them (x ∷ xs) c low made l h =
        let above : low < kind.number x = h.0 in
        go (here x) refl (grind (arith, nat_tests)) (none_of_them xs c (kind.number x) made (omega arith) h.2)
      where
        go :
            (b : Bool) → here x ≡ b → (c == kind.number x) ≡ false → without_item (kind.item c) (those xs) ≡ those xs →
            without_item (kind.item c) (those (x ∷ xs)) ≡ those (x ∷ xs)
        go true e f ih =
            ap (without_item (kind.item c)) (waiting_cons x xs true e)
            ∙ without_cons c x (those xs) false f
            ∙ ap (λ ws. waiting x ∷ ws) ih
            ∙ sym (waiting_cons x xs true e)
        go false e f ih = ap (without_item (kind.item c)) (waiting_cons x xs false e) ∙ ih ∙ sym (waiting_cons x xs false e)

    module _
        (left : X → X) (leaves : X → Bool) (same : (x : X) → waiting (left x) ≡ waiting x) (number : (x : X) → kind.number (left x) ≡ kind.number x)
        (goes : (x : X) → here (left x) ≡ (here x && not (leaves x))) where
      -- where the next record leaves the pool, it is withdrawn
      pub waiting_withdrawn :
          (i : ℕ) (xs : List X) (low made : ℕ) (x : X) → IsAscending kind.number low made xs → slice_get xs i ≡ Some x → here x ≡ true →
          leaves x ≡ true → without_item (kind.item (kind.number x)) (those (map_first left i xs)) ≡ those (map_first left (suc i) xs)
      waiting_withdrawn i [] low made x h e q l = cc
      waiting_withdrawn zero (y ∷ ys) low made x h e q l =
          let it : y ≡ x = cc in
          let its : kind.number x ≡ kind.number y = ap kind.number (sym it) in
          ap (without_item (kind.item (kind.number x))) (waiting_cons y ys true (ap here it ∙ q))
          ∙ without_cons (kind.number x) y (those ys) true (grind (arith, nat_tests))
          ∙ none_of_them ys (kind.number x) (kind.number y) made (omega arith) h.2
          ∙ sym (waiting_cons (left y) ys false (goes y ∙ ap₂ (λ a b. a && not b) (ap here it ∙ q) (ap leaves it ∙ l)))
      waiting_withdrawn (suc i) (y ∷ ys) low made x h e q l =
          let above : kind.number y < kind.number x = ascending-above kind.number ys (kind.number y) made i x h.2 e in
          go (here (left y)) refl (grind (arith, nat_tests)) (waiting_withdrawn i ys (kind.number y) made x h.2 e q l)
        where
          go :
              (b : Bool) → here (left y) ≡ b → (kind.number x == kind.number y) ≡ false →
              without_item (kind.item (kind.number x)) (those (map_first left i ys)) ≡ those (map_first left (suc i) ys) →
              without_item (kind.item (kind.number x)) (those (left y ∷ map_first left i ys)) ≡ those (left y ∷ map_first left (suc i) ys)
          go true f g ih =
              ap (without_item (kind.item (kind.number x))) (waiting_cons (left y) (map_first left i ys) true f)
              ∙ without_cons (kind.number x) (left y) (those (map_first left i ys)) false (ap (λ k. kind.number x == k) (number y) ∙ g)
              ∙ ap (λ ws. waiting (left y) ∷ ws) ih
              ∙ sym (waiting_cons (left y) (map_first left (suc i) ys) true f)
          go false f g ih =
              ap (without_item (kind.item (kind.number x))) (waiting_cons (left y) (map_first left i ys) false f) ∙ ih
              ∙ sym (waiting_cons (left y) (map_first left (suc i) ys) false f)

      -- and else what waits in the pool stays
      pub waiting_stays :
          (i : ℕ) (xs : List X) (x : X) → slice_get xs i ≡ Some x → (here x && leaves x) ≡ false →
          those (map_first left (suc i) xs) ≡ those (map_first left i xs)
      waiting_stays i [] x e s = cc
      waiting_stays zero (y ∷ ys) x e s =
          let it : y ≡ x = cc in go (here y) (leaves y) refl refl (ap (λ z. here z && leaves z) it ∙ s)
        where
          go : (a b : Bool) → here y ≡ a → leaves y ≡ b → (a && b) ≡ false → those (left y ∷ ys) ≡ those (y ∷ ys)
          go true true f g k = cc
          go true false f g k =
              waiting_cons (left y) ys true (goes y ∙ ap₂ (λ a b. a && not b) f g)
              ∙ ap (λ w. w ∷ those ys) (same y)
              ∙ sym (waiting_cons y ys true f)
          go false b f g k =
              waiting_cons (left y) ys false (goes y ∙ ap (λ a. a && not (leaves y)) f) ∙ sym (waiting_cons y ys false f)
      waiting_stays (suc i) (y ∷ ys) x e s = go (here (left y)) refl (waiting_stays i ys x e s)
        where
          go :
              (b : Bool) → here (left y) ≡ b → those (map_first left (suc i) ys) ≡ those (map_first left i ys) →
              those (left y ∷ map_first left (suc i) ys) ≡ those (left y ∷ map_first left i ys)
          go true f ih =
              waiting_cons (left y) (map_first left (suc i) ys) true f
              ∙ ap (λ ws. waiting (left y) ∷ ws) ih
              ∙ sym (waiting_cons (left y) (map_first left i ys) true f)
          go false f ih = waiting_cons (left y) (map_first left (suc i) ys) false f ∙ ih ∙ sym (waiting_cons (left y) (map_first left i ys) false f)
