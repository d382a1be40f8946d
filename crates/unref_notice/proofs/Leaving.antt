-- Notices that are left by the items that name them.
use Rattle.std.proofs.Common.{◌≡◌, ℕ, suc, ◌<◌, ◌&&◌, ◌||◌, not, Bool, true, false, if◌then◌else◌, cond, List, [], ◌∷◌, ◌++◌, None, Some, length, map, filter, get_or, set, remove, position, refl, sym, ap, ap₂, ◌∙◌, arith, true≢false}
use Rattle.std.proofs.lemmas.Bool.Decides.{nat_tests}
use Rattle.std.proofs.lemmas.List.Folds.{list_any-append}
use Rattle.std.proofs.lemmas.List.Quantifiers.{position-Some}
use Rattle.std.specs.List.{list_any}
use Rattle.dk_base.specs.declared.object.Item.{Item}
use Rattle.dk_base.specs.declared.object.Item.TheVariants as item
use Rattle.spec_records.specs.declared.record.Notice.{Notice}
use Rattle.spec_records.specs.declared.record.NoticeStage.{NoticeStage}
use Rattle.spec_records.specs.declared.record.NoticeStage.TheVariants as notice
use Rattle.spec_records.specs.Words.{IsAscending, Leaving, left_notice, left_notice_at, notice_number}
use Rattle.unref_notice.specs.Left.{AreAllLeft, is_among, is_kept_among, is_notice_as, is_notice_item, left_among}
use Rattle.unref_notice.proofs.Kept.{AreKept}
use Rattle.unref_notice.proofs.Places.{all_kept, changed_one, none_before, only_place, removed_one, unchanged}

-- what becomes of one

left_number_at : (who : Leaving) (s : NoticeStage) (x : Notice) → (left_notice_at who s x).number ≡ x.number
left_number_at who notice.Waiting x = go (who.loses x.door)
  where
    go : (b : Bool) → (if b then record x { stage = notice.Dropped } else x).number ≡ x.number
    go true = refl
    go false = refl
left_number_at who (notice.Given u) x = go (who.ends u.0)
  where
    go : (b : Bool) → (if b then record x { stage = notice.Over } else x).number ≡ x.number
    go true = refl
    go false = refl
left_number_at who (notice.Entered u) x = go (who.ends u.0)
  where
    go : (b : Bool) → (if b then record x { stage = notice.Over } else x).number ≡ x.number
    go true = refl
    go false = refl
left_number_at who notice.Over x = refl
left_number_at who notice.Dropped x = refl

pub left_number : (who : Leaving) (x : Notice) → (left_notice who x).number ≡ x.number
left_number who x = left_number_at who x.stage x

left_again_at : (who : Leaving) (s : NoticeStage) (x : Notice) → x.stage ≡ s → left_notice who (left_notice_at who s x) ≡ left_notice_at who s x
left_again_at who notice.Waiting x e = go (who.loses x.door) refl
  where
    go : (b : Bool) → who.loses x.door ≡ b → left_notice who (if b then record x { stage = notice.Dropped } else x) ≡ (if b then record x { stage = notice.Dropped } else x)
    go true f = refl
    go false f = ap (λ s. left_notice_at who s x) e ∙ ap (λ b. if b then record x { stage = notice.Dropped } else x) f
left_again_at who (notice.Given u) x e = go (who.ends u.0) refl
  where
    go : (b : Bool) → who.ends u.0 ≡ b → left_notice who (if b then record x { stage = notice.Over } else x) ≡ (if b then record x { stage = notice.Over } else x)
    go true f = refl
    go false f = ap (λ s. left_notice_at who s x) e ∙ ap (λ b. if b then record x { stage = notice.Over } else x) f
left_again_at who (notice.Entered u) x e = go (who.ends u.0) refl
  where
    go : (b : Bool) → who.ends u.0 ≡ b → left_notice who (if b then record x { stage = notice.Over } else x) ≡ (if b then record x { stage = notice.Over } else x)
    go true f = refl
    go false f = ap (λ s. left_notice_at who s x) e ∙ ap (λ b. if b then record x { stage = notice.Over } else x) f
left_again_at who notice.Over x e = ap (λ s. left_notice_at who s x) e
left_again_at who notice.Dropped x e = ap (λ s. left_notice_at who s x) e

left_again : (who : Leaving) (x : Notice) → left_notice who (left_notice who x) ≡ left_notice who x
left_again who x = left_again_at who x.stage x refl

-- the item of one notice

pub item_is : (i : Item) (x y : Notice) → is_notice_as i x ≡ true → is_notice_as i y ≡ true → x.number ≡ y.number
item_is (item.Notice n) x y e f = grind (arith, nat_tests)
item_is (item.Call c) x y e f = absurd (true≢false (sym e))

one_among : (i : Item) (x : Notice) → is_among (i ∷ []) x ≡ is_notice_as i x
one_among i x = go (is_notice_as i x)
  where
    go : (b : Bool) → (b || false) ≡ b
    go true = refl
    go false = refl

module _ (ns : List Notice) (made : ℕ) (up : IsAscending notice_number 0 made ns) (i : Item) where
  same_place : (at k : ℕ) (d : Notice) → position (is_notice_as i) ns ≡ Some at → k < length ns → is_notice_as i (get_or ns k d) ≡ true → k ≡ at
  same_place at k d e l f =
      let w = position-Some (is_notice_as i) ns at d e in
      only_place notice_number ns made up k at d l w.0 (item_is i (get_or ns k d) (get_or ns at d) f w.1)

  pub left_there :
      (who : Leaving) (at : ℕ) (d : Notice) → position (is_notice_as i) ns ≡ Some at →
      set ns at (left_notice who (get_or ns at d)) ≡ map (left_among who (i ∷ [])) ns
  left_there who at d e =
      let w = position-Some (is_notice_as i) ns at d e in
      changed_one (is_among (i ∷ [])) (left_notice who) ns at d w.0 (one_among i (get_or ns at d) ∙ w.1)
      (λ k l f. same_place at k d e l (sym (one_among i (get_or ns k d)) ∙ f))

  pub left_nowhere : (who : Leaving) (d : Notice) → position (is_notice_as i) ns ≡ None → ns ≡ map (left_among who (i ∷ [])) ns
  left_nowhere who d e =
      sym (unchanged (is_among (i ∷ [])) (left_notice who) ns d (λ k l. one_among i (get_or ns k d) ∙ none_before (is_notice_as i) ns k d e l))

  module _ (kept : Notice → Bool) where
    kept_other : (x : Notice) → is_notice_as i x ≡ false → is_kept_among kept (i ∷ []) x ≡ true
    kept_other x e = ap (λ b. not b || kept x) (one_among i x ∙ e)

    kept_same : (x : Notice) (b : Bool) → kept x ≡ b → is_notice_as i x ≡ true → is_kept_among kept (i ∷ []) x ≡ b
    kept_same x b e f = ap (λ b. not b || kept x) (one_among i x ∙ f) ∙ e

    kept_elsewhere : (at k : ℕ) (d : Notice) → position (is_notice_as i) ns ≡ Some at → k < length ns → (k ≡ at → ⊥) → is_kept_among kept (i ∷ []) (get_or ns k d) ≡ true
    kept_elsewhere at k d e l apart = go (is_notice_as i (get_or ns k d)) refl
      where
        go : (b : Bool) → is_notice_as i (get_or ns k d) ≡ b → is_kept_among kept (i ∷ []) (get_or ns k d) ≡ true
        go true f = absurd (apart (same_place at k d e l f))
        go false f = kept_other (get_or ns k d) f

    pub removed_there :
        (at : ℕ) (d : Notice) → position (is_notice_as i) ns ≡ Some at → kept (get_or ns at d) ≡ false →
        remove ns at ≡ filter (is_kept_among kept (i ∷ [])) ns
    removed_there at d e over =
        let w = position-Some (is_notice_as i) ns at d e in
        removed_one (is_kept_among kept (i ∷ [])) ns at d w.0 (kept_same (get_or ns at d) false over w.1) (λ k l apart. kept_elsewhere at k d e l apart)

    pub stays_there :
        (at : ℕ) (d : Notice) → position (is_notice_as i) ns ≡ Some at → kept (get_or ns at d) ≡ true →
        ns ≡ filter (is_kept_among kept (i ∷ [])) ns
    stays_there at d e still =
        let w = position-Some (is_notice_as i) ns at d e in
        sym (all_kept (is_kept_among kept (i ∷ [])) ns d (λ k l. go k l (is_notice_as i (get_or ns k d)) refl))
      where
        go : (k : ℕ) → k < length ns → (b : Bool) → is_notice_as i (get_or ns k d) ≡ b → is_kept_among kept (i ∷ []) (get_or ns k d) ≡ true
        go k l true f =
            kept_same (get_or ns k d) true (ap (λ j. kept (get_or ns j d)) (same_place at k d e l f) ∙ still) f
        go k l false f = kept_other (get_or ns k d) f

    pub kept_nowhere : (d : Notice) → position (is_notice_as i) ns ≡ None → ns ≡ filter (is_kept_among kept (i ∷ [])) ns
    kept_nowhere d e =
        sym (all_kept (is_kept_among kept (i ∷ [])) ns d (λ k l. kept_other (get_or ns k d) (none_before (is_notice_as i) ns k d e l)))

-- two lists of items, one after the other

pub left_twice :
    (who : Leaving) (is js : List Item) (ns : List Notice) →
    map (left_among who js) (map (left_among who is) ns) ≡ map (left_among who (is ++ js)) ns
left_twice who is js [] = refl
left_twice who is js (x ∷ ns) = ap₂ (λ y ys. y ∷ ys) one (left_twice who is js ns)
  where
    of_both : (b c : Bool) → is_among is x ≡ b → is_among js x ≡ c → left_among who js (if b then left_notice who x else x) ≡ (if b || c then left_notice who x else x)
    of_both true true e f =
        ap (λ n. if list_any (is_notice_item n) js then left_notice who (left_notice who x) else left_notice who x) (left_number who x)
        ∙ ap (λ b. if b then left_notice who (left_notice who x) else left_notice who x) f ∙ left_again who x
    of_both true false e f =
        ap (λ n. if list_any (is_notice_item n) js then left_notice who (left_notice who x) else left_notice who x) (left_number who x)
        ∙ ap (λ b. if b then left_notice who (left_notice who x) else left_notice who x) f
    of_both false true e f = ap (λ b. if b then left_notice who x else x) f
    of_both false false e f = ap (λ b. if b then left_notice who x else x) f

    one : left_among who js (left_among who is x) ≡ left_among who (is ++ js) x
    one =
        of_both (is_among is x) (is_among js x) refl refl
        ∙ ap (λ b. if b then left_notice who x else x) (sym (list_any-append (is_notice_item x.number) is js))

pub kept_twice :
    (kept : Notice → Bool) (is js : List Item) (ns : List Notice) →
    filter (is_kept_among kept js) (filter (is_kept_among kept is) ns) ≡ filter (is_kept_among kept (is ++ js)) ns
kept_twice kept is js [] = refl
kept_twice kept is js (x ∷ ns) =
    both (is_kept_among kept is x) (is_kept_among kept js x) refl
    ∙ ap₂ (λ b ms. cond b (x ∷ ms) ms) (sym (of_both (is_among is x) (is_among js x) (kept x)) ∙ ap (λ b. not b || kept x) (sym (list_any-append (is_notice_item x.number) is js))) (kept_twice kept is js ns)
  where
    rest : List Notice
    rest = filter (is_kept_among kept js) (filter (is_kept_among kept is) ns)

    both : (b c : Bool) → is_kept_among kept js x ≡ c → filter (is_kept_among kept js) (cond b (x ∷ filter (is_kept_among kept is) ns) (filter (is_kept_among kept is) ns)) ≡ cond (b && c) (x ∷ rest) rest
    both true c e = ap (λ b. cond b (x ∷ rest) rest) e
    both false c e = refl

    of_both : (b c k : Bool) → (not (b || c) || k) ≡ ((not b || k) && (not c || k))
    of_both true true true = refl
    of_both true true false = refl
    of_both true false true = refl
    of_both true false false = refl
    of_both false true true = refl
    of_both false true false = refl
    of_both false false true = refl
    of_both false false false = refl

-- the point: those that are not among the items need no look

pub all_left : (who : Leaving) (items : List Item) (ns : List Notice) → AreAllLeft who items ns → map (left_among who items) ns ≡ map (left_notice who) ns
all_left who items [] all = refl
all_left who items (x ∷ ns) all = ap₂ (λ y ys. y ∷ ys) (go (is_among items x) refl) (all_left who items ns (λ i y e f. all (suc i) y e f))
  where
    go : (b : Bool) → is_among items x ≡ b → (if b then left_notice who x else x) ≡ left_notice who x
    go true e = refl
    go false e = sym (all 0 x refl e)

pub all_kept_left :
    (kept : Notice → Bool) (who : Leaving) (items : List Item) (ns : List Notice) → AreAllLeft who items ns → AreKept kept ns →
    filter (is_kept_among kept items) (map (left_notice who) ns) ≡ filter kept (map (left_notice who) ns)
all_kept_left kept who items [] all h = refl
all_kept_left kept who items (x ∷ ns) all h =
    ap₂ (λ b ms. cond b (left_notice who x ∷ ms) ms) (go (is_among items x) refl) (all_kept_left kept who items ns (λ i y e f. all (suc i) y e f) h.1)
  where
    go : (b : Bool) → is_among items x ≡ b → is_kept_among kept items (left_notice who x) ≡ kept (left_notice who x)
    go true e = ap (λ n. not (list_any (is_notice_item n) items) || kept (left_notice who x)) (left_number who x) ∙ ap (λ b. not b || kept (left_notice who x)) e
    go false e =
        ap (λ n. not (list_any (is_notice_item n) items) || kept (left_notice who x)) (left_number who x)
        ∙ ap (λ b. not b || kept (left_notice who x)) e ∙ sym (ap kept (all 0 x refl e) ∙ h.0)

pub none_left : (who : Leaving) (ns : List Notice) → ns ≡ map (left_among who []) ns
none_left who [] = refl
none_left who (x ∷ ns) = ap (λ ms. x ∷ ms) (none_left who ns)

pub none_taken : (kept : Notice → Bool) (ns : List Notice) → ns ≡ filter (is_kept_among kept []) ns
none_taken kept [] = refl
none_taken kept (x ∷ ns) = ap (λ ms. x ∷ ms) (none_taken kept ns)
