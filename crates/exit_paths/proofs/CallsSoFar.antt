-- The calls of which some were left, caller by caller.
use Rattle.std.proofs.Common.{◌≡◌, ⊎_elim, ℕ, ◌+◌, ◌<◌, ◌≤◌, ◌==◌, ◌&&◌, ◌||◌, Bool, true, false, if◌then◌else◌, List, [], ◌∷◌, ◌++◌, Option, Some, None, IsSome, option_map, find, filter, map, refl, sym, ap, ap₂, ◌∙◌, subst, eq-or-lt_of_le, arith}
use Rattle.std.specs.List.{list_any}
use Rattle.std.proofs.lemmas.Bool.Decides.{nat_tests}
use Rattle.std.proofs.lemmas.List.Folds.{list_any-append}
use Rattle.dk_base.specs.declared.error.Errno.TheVariants.{EBADF}
use Rattle.dk_base.specs.declared.object.Item.TheVariants as item
use Rattle.spec_records.specs.declared.record.CallStage.TheVariants as stage
use Rattle.spec_records.specs.Words.{CallTree, call_number, is_live, is_live_call, is_queued, is_queued_as}
use Rattle.spec_records.proofs.NumberedLists.{find-as, find-passes}
use Rattle.spec_kernel.specs.Types.{Call, Item}
use Rattle.server_pool.specs.Words.{is_item}
use Rattle.call_tree.specs.Words.{AreLive, AreSound, LeftSoFar, PartsOfLeaving, abandon_call, and_one, call_so_far, calls_so_far, is_call, lose_server, nothing_left, refuse_call}
use Rattle.call_tree.specs.declared.parts.Leave.TheVariants.{Finished}
use Rattle.law_pools.proofs.Readers.{same_number}
use Rattle.law_pools.proofs.WaitingLists.{both_true}
use Rattle.exit_paths.specs.Words.{AreRefused, HaveEnded, all_left, refused_caller, refused_item}

-- where no caller has ended

abbrev only_refused : (ℕ → Bool) → LeftSoFar
only_refused refused = record nothing_left { refused = refused }

still_live : (refused : ℕ → Bool) (r : Call) → is_live r.stage ≡ true → is_live (call_so_far (only_refused refused) r).stage ≡ true
still_live refused r e = grind (arith, nat_tests)

still_queued : (refused : ℕ → Bool) (r : Call) → refused r.number ≡ false → call_so_far (only_refused refused) r ≡ r
still_queued refused r e = grind (arith, nat_tests)

not_queued : (refused : ℕ → Bool) (r : Call) → is_queued r.stage ≡ false → call_so_far (only_refused refused) r ≡ r
not_queued refused r e = grind (arith, nat_tests)

-- a call that waits and was refused does so no longer
waits_no_more : (refused : ℕ → Bool) (r : Call) → refused r.number ≡ true → is_queued (call_so_far (only_refused refused) r).stage ≡ false
waits_no_more refused r e = go (is_queued r.stage) refl
  where
    ended : (b : Bool) → refused r.number ≡ b → b ≡ true → is_queued r.stage ≡ true → is_queued (call_so_far (only_refused refused) r).stage ≡ false
    ended b f g q = grind (arith, nat_tests)

    go : (b : Bool) → is_queued r.stage ≡ b → is_queued (call_so_far (only_refused refused) r).stage ≡ false
    go true q = ended (refused r.number) refl e q
    go false q = ap (λ (x : Call). is_queued x.stage) (not_queued refused r q) ∙ q

same_number_so_far : (refused : ℕ → Bool) (r : Call) → (call_so_far (only_refused refused) r).number ≡ r.number
same_number_so_far refused r = grind (arith, nat_tests)

found_so_far :
    (refused : ℕ → Bool) (c : ℕ) (rs : List Call) → AreLive rs →
    find (is_call c) (filter is_live_call (map (call_so_far (only_refused refused)) rs)) ≡ option_map (call_so_far (only_refused refused)) (find (is_call c) rs)
found_so_far refused c [] a = refl
found_so_far refused c (r ∷ rs) a =
    ap (λ b. find (is_call c) (if b then f r ∷ filter is_live_call (map f rs) else filter is_live_call (map f rs))) (still_live refused r a.0)
    ∙ ap (λ k. if k == c then Some (f r) else find (is_call c) (filter is_live_call (map f rs))) (same_number_so_far refused r)
    ∙ go (r.number == c) (found_so_far refused c rs a.1)
  where
    f : Call → Call
    f = call_so_far (only_refused refused)

    go :
        (b : Bool) → find (is_call c) (filter is_live_call (map f rs)) ≡ option_map f (find (is_call c) rs) →
        (if b then Some (f r) else find (is_call c) (filter is_live_call (map f rs))) ≡ option_map f (if b then Some r else find (is_call c) rs)
    go true h = refl
    go false h = h

and_false : (b : Bool) → (b && false) ≡ false
and_false true = refl
and_false false = refl

or_false : (b : Bool) → (b || false) ≡ b
or_false true = refl
or_false false = refl

and_or_true : (a b : Bool) → (a && (b || true)) ≡ a
and_or_true true true = refl
and_or_true true false = refl
and_or_true false b = refl

-- no call is refused yet
pub none_refused : {loses : ℕ → Bool} {tree : CallTree} → PartsOfLeaving tree → AreRefused loses [] tree tree
none_refused {loses} {tree} parts = record { refused = λ c. false; so_far = sym parts.begins; those = λ p r e q. sym (and_false (loses r.door)) }

-- a call that waits is found by its number as one that does
pub queued_there :
    (tree : CallTree) (p : Call → Bool) (r : Call) → AreSound tree → find p tree.calls ≡ Some r → is_queued r.stage ≡ true →
    IsSome (find (is_queued_as r.number) tree.calls)
queued_there tree p r sound e q =
    let n : (r.number == r.number) ≡ true = equal r.number in
    let w : is_queued_as r.number r ≡ true = ap₂ (λ a b. a && b) n q in
    subst IsSome
    (sym (find-as call_number (is_queued_as r.number) tree.calls r.number r (λ y m. same_number y.number r.number (both_true (y.number == r.number) (is_queued y.stage) m).0) (sound.number p r e) w))
    refl
  where
    equal : (n : ℕ) → (n == n) ≡ true
    equal n = grind (arith, nat_tests)

module _
    {loses : ℕ → Bool} {tree now : CallTree} {xs : List Item} (parts : PartsOfLeaving tree) (sound : AreSound tree) (now_sound : AreSound now)
    (h : AreRefused loses xs tree now) where
  abbrev f : Call → Call
  f = call_so_far (only_refused h.refused)

  any_more : (k : ℕ) (x : Item) → list_any (is_item (item.Call k)) (xs ++ x ∷ []) ≡ (list_any (is_item (item.Call k)) xs || is_item (item.Call k) x)
  any_more k x =
      list_any-append (is_item (item.Call k)) xs (x ∷ []) ∙ ap (λ b. list_any (is_item (item.Call k)) xs || b) (or_false (is_item (item.Call k) x))

  with_it : (r : Call) (x : Item) → is_item (item.Call r.number) x ≡ true → (loses r.door && list_any (is_item (item.Call r.number)) (xs ++ x ∷ [])) ≡ loses r.door
  with_it r x e =
      ap (λ b. loses r.door && b) (any_more r.number x ∙ ap (λ b. list_any (is_item (item.Call r.number)) xs || b) e)
      ∙ and_or_true (loses r.door) (list_any (is_item (item.Call r.number)) xs)

  without_it :
      (r : Call) (x : Item) → is_item (item.Call r.number) x ≡ false →
      (loses r.door && list_any (is_item (item.Call r.number)) (xs ++ x ∷ [])) ≡ (loses r.door && list_any (is_item (item.Call r.number)) xs)
  without_it r x e =
      ap (λ b. loses r.door && b)
      (any_more r.number x ∙ ap (λ b. list_any (is_item (item.Call r.number)) xs || b) e ∙ or_false (list_any (is_item (item.Call r.number)) xs))

  module _ {next : CallTree} where
    -- nothing more is refused
    same_refused :
        (x : Item) → next ≡ now →
        ((p : Call → Bool) (r : Call) → find p tree.calls ≡ Some r → r.stage ≡ stage.Queued → is_item (item.Call r.number) x ≡ true → h.refused r.number ≡ loses r.door) →
        AreRefused loses (xs ++ x ∷ []) tree next
    same_refused x same its =
        record { refused = h.refused; so_far = same ∙ h.so_far; those = λ p r g q. go p r g q (is_item (item.Call r.number) x) refl }
      where
        go :
            (p : Call → Bool) (r : Call) → find p tree.calls ≡ Some r → r.stage ≡ stage.Queued → (b : Bool) → is_item (item.Call r.number) x ≡ b →
            h.refused r.number ≡ (loses r.door && list_any (is_item (item.Call r.number)) (xs ++ x ∷ []))
        go p r g q true e = its p r g q e ∙ sym (with_it r x e)
        go p r g q false e = h.those p r g q ∙ sym (without_it r x e)

    module _ (c : ℕ) (step : next ≡ refused_item loses (item.Call c) now) where
      looked : find (is_call c) now.calls ≡ option_map f (find (is_call c) tree.calls)
      looked = ap (λ (x : CallTree). find (is_call c) x.calls) h.so_far ∙ found_so_far h.refused c tree.calls sound.live

      -- what a test finds that has this number is its call
      own : (p : Call → Bool) (r : Call) → find p tree.calls ≡ Some r → (r.number == c) ≡ true → find (is_call c) tree.calls ≡ Some r
      own p r g e = subst (λ k. find (is_call k) tree.calls ≡ Some r) (same_number r.number c e) (sound.number p r g)

      module _ (y : Call) (e : find (is_call c) tree.calls ≡ Some y) where
        found : find (is_call c) now.calls ≡ Some (f y)
        found = looked ∙ ap (option_map f) e

        is_it : (p : Call → Bool) (r : Call) → find p tree.calls ≡ Some r → (r.number == c) ≡ true → r ≡ y
        is_it p r g k = let both : Some r ≡ Some y = sym (own p r g k) ∙ e in cc

        stays : (is_queued (f y).stage && loses (f y).door) ≡ false → next ≡ now
        stays k = step ∙ ap (λ o. refused_caller loses o now) found ∙ ap (λ b. if b then refuse_call now (f y).number EBADF else now) k

        same : f y ≡ y → (is_queued y.stage && loses y.door) ≡ (is_queued (f y).stage && loses (f y).door)
        same k = ap (λ (x : Call). is_queued x.stage && loses x.door) (sym k)

        one_refused : f y ≡ y → is_queued y.stage ≡ true → loses y.door ≡ true → AreRefused loses (xs ++ item.Call c ∷ []) tree next
        one_refused k q lost =
            record {
              refused = and_one h.refused y.number;
              so_far =
                  step ∙ ap (λ o. refused_caller loses o now) (found ∙ ap Some k) ∙ ap (λ b. if b then refuse_call now y.number EBADF else now) (ap₂ (λ s b. s && b) q lost)
                  ∙ ap (λ x. refuse_call x y.number EBADF) h.so_far ∙ parts.refuses (only_refused h.refused) y.number there;
              those = λ p r g s. go p r g s (r.number == c) refl;
            }
          where
            there : IsSome (find (is_queued_as y.number) (calls_so_far (only_refused h.refused) tree).calls)
            there = subst (λ (x : CallTree). IsSome (find (is_queued_as y.number) x.calls)) h.so_far (queued_there now (is_call c) y now_sound (found ∙ ap Some k) q)

            number : y.number ≡ c
            number = same_number y.number c (find-passes (is_call c) tree.calls y e)

            go :
                (p : Call → Bool) (r : Call) → find p tree.calls ≡ Some r → r.stage ≡ stage.Queued → (b : Bool) → (r.number == c) ≡ b →
                and_one h.refused y.number r.number ≡ (loses r.door && list_any (is_item (item.Call r.number)) (xs ++ item.Call c ∷ []))
            go p r g s true m =
                ap (λ j. (r.number == j) || h.refused r.number) number ∙ ap (λ b. b || h.refused r.number) m
                ∙ sym (with_it r (item.Call c) m ∙ ap (λ (x : Call). loses x.door) (is_it p r g m) ∙ lost)
            go p r g s false m =
                ap (λ j. (r.number == j) || h.refused r.number) number ∙ ap (λ b. b || h.refused r.number) m ∙ h.those p r g s ∙ sym (without_it r (item.Call c) m)

        -- it was refused before
        again : h.refused y.number ≡ true → AreRefused loses (xs ++ item.Call c ∷ []) tree next
        again was =
            same_refused (item.Call c) (stays (ap (λ b. b && loses (f y).door) (waits_no_more h.refused y was)))
            (λ p r g s m.
            let k : h.refused r.number ≡ true = ap (λ (x : Call). h.refused x.number) (is_it p r g m) ∙ was in
            k ∙ sym (both_true (loses r.door) (list_any (is_item (item.Call r.number)) xs) (sym (h.those p r g s) ∙ k)).0)

        anew : h.refused y.number ≡ false → AreRefused loses (xs ++ item.Call c ∷ []) tree next
        anew fresh = by_stage (is_queued y.stage) refl (loses y.door) refl
          where
            by_stage : (b : Bool) → is_queued y.stage ≡ b → (l : Bool) → loses y.door ≡ l → AreRefused loses (xs ++ item.Call c ∷ []) tree next
            by_stage true q true l = one_refused (still_queued h.refused y fresh) q l
            by_stage true q false l =
                same_refused (item.Call c) (stays (sym (same (still_queued h.refused y fresh)) ∙ ap (λ b. is_queued y.stage && b) l ∙ and_false (is_queued y.stage)))
                (λ p r g s m. ap (λ (x : Call). h.refused x.number) (is_it p r g m) ∙ fresh ∙ sym (ap (λ (x : Call). loses x.door) (is_it p r g m) ∙ l))
            by_stage false q l m =
                same_refused (item.Call c) (stays (sym (same (not_queued h.refused y q)) ∙ ap (λ b. b && loses y.door) q))
                (λ p r g s k.
                let waits : is_queued y.stage ≡ true = ap (λ (x : Call). is_queued x.stage) (sym (is_it p r g k)) ∙ ap is_queued s in
                absurd (clash (is_queued y.stage) waits q))
              where
                clash : (b : Bool) → b ≡ true → b ≡ false → ⊥
                clash true a d = cc
                clash false a d = cc

      next_call : AreRefused loses (xs ++ item.Call c ∷ []) tree next
      next_call = go (find (is_call c) tree.calls) refl
        where
          go : (o : Option Call) → find (is_call c) tree.calls ≡ o → AreRefused loses (xs ++ item.Call c ∷ []) tree next
          go None e =
              same_refused (item.Call c) (step ∙ ap (λ o. refused_caller loses o now) (looked ∙ ap (option_map f) e))
              (λ p r g s m. absurd (none r (sym e ∙ own p r g m)))
            where
              none : (r : Call) → None ≡ Some r → ⊥
              none r k = cc
          go (Some y) e = was (h.refused y.number) refl
            where
              was : (b : Bool) → h.refused y.number ≡ b → AreRefused loses (xs ++ item.Call c ∷ []) tree next
              was true k = again y e k
              was false k = anew y e k

    -- the next item's
    pub next_refused : (x : Item) → next ≡ refused_item loses x now → AreRefused loses (xs ++ x ∷ []) tree next
    next_refused (item.Call c) step = next_call c step
    next_refused (item.Notice n) step = same_refused (item.Notice n) step (λ p r g s m. cc)

-- threads that end

pub none_ended : {ends refused : ℕ → Bool} {tree now : CallTree} → now ≡ calls_so_far (all_left (λ t. false) refused) tree → HaveEnded ends refused 0 tree now
none_ended {ends} {refused} {tree} {now} so_far =
    record { ended = λ t. false; so_far = so_far; those = λ t l m. absurd (omega arith); none = refl; others = λ t l. refl }

pub next_ended :
    {ends refused : ℕ → Bool} {tree now next : CallTree} → PartsOfLeaving tree → (i t : ℕ) → t ≡ i + 1 → HaveEnded ends refused i tree now → (b : Bool) → b ≡ ends t →
    next ≡ (if b then lose_server (abandon_call now t Finished) t else now) → HaveEnded ends refused (i + 1) tree next
next_ended {ends} {refused} {tree} {now} {next} parts i t is h true e step =
    record {
      ended = and_one h.ended t;
      so_far =
          step ∙ ap (λ x. lose_server (abandon_call x t Finished) t) h.so_far ∙ ap (λ x. lose_server x t) (parts.ends (all_left h.ended refused) t)
          ∙ parts.serves (record (all_left h.ended refused) { ended = and_one h.ended t }) t;
      those = λ u p l. ⊎_elim (λ m. here u (m ∙ sym is)) (λ m. ap (λ c. c || h.ended u) (apart u (early u m)) ∙ h.those u p (below u m)) (eq-or-lt_of_le l);
      none = ap (λ c. c || h.ended 0) (apart 0 (λ m. omega (arith, is, m))) ∙ h.none;
      others = λ u l. ap (λ c. c || h.ended u) (apart u (late u l)) ∙ h.others u (past u l);
    }
  where
    apart : (u : ℕ) → (u ≡ t → ⊥) → (u == t) ≡ false
    apart u ne = go (u == t) refl
      where
        go : (b : Bool) → (u == t) ≡ b → b ≡ false
        go false m = refl
        go true m = absurd (ne (same_number u t m))

    early : (u : ℕ) → u < i + 1 → u ≡ t → ⊥
    early u l m = omega (arith, is)

    late : (u : ℕ) → i + 1 < u → u ≡ t → ⊥
    late u l m = omega (arith, is)

    below : (u : ℕ) → u < i + 1 → u ≤ i
    below u l = omega arith

    past : (u : ℕ) → i + 1 < u → i < u
    past u l = omega arith

    equal : (n : ℕ) → (n == n) ≡ true
    equal n = grind (arith, nat_tests)

    here : (u : ℕ) → u ≡ t → and_one h.ended t u ≡ ends u
    here u m = subst (λ k. and_one h.ended t k ≡ ends k) (sym m) (ap (λ c. c || h.ended t) (equal t) ∙ e)
next_ended {ends} {refused} {tree} {now} {next} parts i t is h false e step =
    record {
      ended = h.ended;
      so_far = step ∙ h.so_far;
      those = λ u p l. ⊎_elim (λ m. here u (m ∙ sym is)) (λ m. h.those u p (below u m)) (eq-or-lt_of_le l);
      none = h.none;
      others = λ u l. h.others u (past u l);
    }
  where
    below : (u : ℕ) → u < i + 1 → u ≤ i
    below u l = omega arith

    past : (u : ℕ) → i + 1 < u → i < u
    past u l = omega arith

    here : (u : ℕ) → u ≡ t → h.ended u ≡ ends u
    here u m = subst (λ k. h.ended k ≡ ends k) (sym m) (h.others t (omega (arith, is)) ∙ e)
