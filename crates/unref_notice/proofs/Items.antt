-- The notice that an item is, and what it is to a thread.
use Rattle.std.proofs.Common.{◌≡◌, ℕ, ◌<◌, ◌&&◌, Bool, true, false, List, Option, None, Some, length, get_or, position, refl, sym, ap, ◌∙◌, arith, true≢false}
use Rattle.std.proofs.lemmas.Bool.Decides.{nat_tests}
use Rattle.std.proofs.lemmas.Option.{slice_get-get_or}
use Rattle.dk_base.specs.declared.object.Item.{Item}
use Rattle.dk_base.specs.declared.object.Item.TheVariants as item
use Rattle.spec_records.specs.declared.record.Notice.{Notice}
use Rattle.spec_records.specs.declared.record.NoticeStage.TheVariants as stage
use Rattle.spec_records.specs.Words.{is_notice_entered_by, is_numbered, notice_number}
use Rattle.unref_notice.specs.Left.{IsAllEntered, is_notice_as, noticed_by}
use Rattle.unref_notice.proofs.Places.{no_place}

-- any notice
abbrev pub no_notice : Notice
no_notice = record { number = 0; made = 0; door = 0; stage = stage.Over }

pub item_place : (i : Item) (n : ℕ) (ns : List Notice) → noticed_by i ≡ Some n → position (is_numbered notice_number n) ns ≡ position (is_notice_as i) ns
item_place (item.Notice m) n ns e = let same : n ≡ m = cc in ap (λ k. position (is_numbered notice_number k) ns) same
item_place (item.Call c) n ns e = absurd (cc)

pub no_item : (i : Item) (ns : List Notice) → noticed_by i ≡ None → None ≡ position (is_notice_as i) ns
no_item (item.Notice m) ns e = absurd (cc)
no_item (item.Call c) ns e = sym (no_place (is_notice_as (item.Call c)) ns no_notice (λ k l. refl))

pub both_left : (b c : Bool) → (b && c) ≡ true → b ≡ true
both_left true c e = refl
both_left false c e = absurd (true≢false (sym e))

pub same_number : (n : ℕ) (x y : Notice) → is_numbered notice_number n x ≡ true → is_numbered notice_number n y ≡ true → x.number ≡ y.number
same_number n x y e f = grind (arith, nat_tests)

-- the notice that a thread has entered is what it serves
pub entered_is :
    (serves : Option Item) (i : Item) (t : ℕ) (ns : List Notice) (d : Notice) → IsAllEntered serves t ns → serves ≡ Some i →
    (k : ℕ) → k < length ns → is_notice_entered_by t (get_or ns k d) ≡ true → is_notice_as i (get_or ns k d) ≡ true
entered_is serves i t ns d all e k l f =
    go i (get_or ns k d) (all k (get_or ns k d) (slice_get-get_or ns k d l) f)
  where
    go : (j : Item) (x : Notice) → serves ≡ Some (item.Notice x.number) → is_notice_as i x ≡ true
    go j x g = let same : i ≡ item.Notice x.number = cc in ap (λ j. is_notice_as j x) same ∙ grind (arith, nat_tests)

pub enters_none : (serves : Option Item) (t : ℕ) (ns : List Notice) → IsAllEntered serves t ns → serves ≡ None → None ≡ position (is_notice_entered_by t) ns
enters_none serves t ns all e =
    sym (no_place (is_notice_entered_by t) ns no_notice (λ k l. go k l (is_notice_entered_by t (get_or ns k no_notice)) refl))
  where
    go : (k : ℕ) → k < length ns → (b : Bool) → is_notice_entered_by t (get_or ns k no_notice) ≡ b → b ≡ false
    go k l true f = let g = all k (get_or ns k no_notice) (slice_get-get_or ns k no_notice l) f in absurd (cc)
    go k l false f = refl
