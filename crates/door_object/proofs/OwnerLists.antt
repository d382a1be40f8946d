-- A list of doors is walked from its last on, and gets another at its end.
use Rattle.std.proofs.Common.{◌≡◌, ◌∙◌, ℕ, zero, suc, ◌-◌, ◌<◌, ◌≤◌, ◌==◌, ◌||◌, ◌&&◌, not, Bool, true, false, List, [], ◌∷◌, ◌++◌, Option, None, Some, option_map, cond, filter, if◌then◌else◌, length, map, drop, replicate, reverse, set, get_or, slice_get, slice_set, refl, sym, ap, ap₂, arith, append-nil}
use Rattle.std.proofs.lemmas.Bool.Decides.{nat_tests}
use Rattle.std.proofs.lemmas.List.{drop_all, get_or-replicate, length-replicate, length_push, map-append, reverse-append}
use Rattle.std.proofs.lemmas.List.Elements.{filter-append}
use Rattle.std.proofs.lemmas.List.Folds.{list_any-append}
use Rattle.std.proofs.lemmas.Option.{get_or_from_slice_get, slice_get-get_or, slice_get_within}
use Rattle.spec_records.specs.declared.record.Door.{Door}
use Rattle.spec_records.specs.Words.{end_owner, has_common_door, is_common_of, is_notice_door, is_private, is_valid_of, notice_doors, number_of_door, valid_doors_of, with_owner_ended}
use Rattle.spec_records.proofs.Lists.{slice_get-slice_set, slice_get_push}
use Rattle.door_object.specs.declared.owner_lists.TheConstants.{LISTS}
use Rattle.door_object.specs.OwnerLists.{AreLinked, AreListed, as_made, earlier_of, is_listed, last_listed, last_of, list_of}

-- none is past the doors that are asked for
within : (doors : List Door) (l n : ℕ) → last_listed doors l n ≤ n
within doors l zero = omega arith
within doors l (suc n) = grind (arith, within doors l n)

-- what no door outside the list of an owner changes is the same at the last of the list and at the end
unseen :
    {X : Type 0} (f : ℕ → X) (p : ℕ) (doors : List Door) →
    ((n : ℕ) → is_listed (list_of p) (slice_get (as_made doors) n) ≡ false → f n ≡ f (suc n)) → (n k : ℕ) →
    k ≡ last_of p doors n → f k ≡ f n
unseen f p doors same n k e = ap f e ∙ go n
  where
    go : (n : ℕ) → f (last_of p doors n) ≡ f n
    go zero = refl
    go (suc n) =
        let ih = go n in
        let here = same n in
        elim (is_listed (list_of p) (slice_get (as_made doors) n)) as (λ b. (b ≡ false → f n ≡ f (suc n)) → f (if b then suc n else last_of p doors n) ≡ f (suc n))
        [ true ↦ λ _. refl | false ↦ λ h. ih ∙ h refl ] here

-- a walk down the list of an owner

-- the number of a door of it, or 0 where none is left
pub record IsListed (doors : List Door) (p n : ℕ) : Type 0 where
  pub within : n ≤ length doors
  pub last : last_of p doors n ≡ n

pub IsListed-last : (doors : List Door) (p n k : ℕ) → n ≤ length doors → k ≡ last_of p doors n → IsListed doors p k
IsListed-last doors p n k h e =
    record {
      within = omega (arith, within (as_made doors) (list_of p) n);
      last = unseen (last_of p doors) p doors (λ n f. grind (arith, f)) n k e ∙ sym e;
    }

linked : (l k : ℕ) (doors : List Door) (o : Option Door) → is_listed l o ≡ true → option_map (earlier_of doors k) o ≡ Some (last_listed doors l k)
linked l k doors None e = cc
linked l k doors (Some x) e =
    let same : list_of x.owner.0 ≡ l = grind (arith, nat_tests) in
    ap (λ m. Some (last_listed doors m k)) same

-- the place of a door of it, and the next number
pub record Next (doors : List Door) (earlier : List ℕ) (p m : ℕ) : Type 0 where
  pub within : m < length earlier
  pub is : get_or earlier m 0 ≡ last_of p doors m
  pub smaller : get_or earlier m 0 ≤ m
  pub listed : IsListed doors p (get_or earlier m 0)

pub next :
    (doors : List Door) (earlier : List ℕ) (p n : ℕ) → AreLinked (as_made doors) earlier → IsListed doors p n → 0 < n →
    Next doors earlier p (n - 1)
next doors earlier p zero h walk more = absurd (omega arith)
next doors earlier p (suc m) h walk more =
    let ds = as_made doors in
    let l = list_of p in
    let below = within ds l m in
    let there : is_listed l (slice_get ds m) ≡ true = grind (arith, walk.last, below) in
    let found = h m ∙ linked l m ds (slice_get ds m) there in
    let is = get_or_from_slice_get earlier m (last_of p doors m) 0 found in
    let place : suc m - 1 ≡ m = omega arith in
    rw place (record {
      within = slice_get_within earlier m (last_of p doors m) found;
      is = is;
      smaller = omega arith;
      listed = IsListed-last doors p m (get_or earlier m 0) (omega (arith, walk.within)) is;
    })

-- a door of another list is another's
not_owned : (p : ℕ) (x : Door) → (list_of x.owner.0 == list_of p) ≡ false → (x.owner.0 == p) ≡ false
not_owned p x e = grind (arith, nat_tests)

-- the doors of an owner that ends, from a place on

abbrev pub ended_from : ℕ → ℕ → List Door → List Door
ended_from p zero xs = end_owner xs p
ended_from p (suc n) [] = []
ended_from p (suc n) (x ∷ xs) = x ∷ ended_from p n xs

ended_one :
    (p m : ℕ) (xs : List Door) (d : Door) →
    set (ended_from p (suc m) xs) m (with_owner_ended p (get_or (ended_from p (suc m) xs) m d)) ≡ ended_from p m xs
ended_one p zero [] d = refl
ended_one p (suc m) [] d = refl
ended_one p zero (x ∷ xs) d = refl
ended_one p (suc m) (x ∷ xs) d = ap (λ ys. x ∷ ys) (ended_one p m xs d)

ended_same :
    (p : ℕ) (xs : List Door) (n : ℕ) → is_listed (list_of p) (slice_get (as_made xs) n) ≡ false → ended_from p n xs ≡ ended_from p (suc n) xs
ended_same p [] zero e = refl
ended_same p [] (suc n) e = refl
ended_same p (x ∷ xs) zero e = grind (arith, not_owned p x e)
ended_same p (x ∷ xs) (suc n) e = ap (λ ys. x ∷ ys) (ended_same p xs n e)

pub ended_first : (p k : ℕ) (doors : List Door) → k ≡ last_of p doors (length doors) → doors ≡ ended_from p k doors
ended_first p k doors e = sym (unseen (λ n. ended_from p n doors) p doors (ended_same p doors) (length doors) k e ∙ all doors)
  where
    all : (xs : List Door) → ended_from p (length xs) xs ≡ xs
    all [] = refl
    all (x ∷ xs) = ap (λ ys. x ∷ ys) (all xs)

pub ended_next :
    (p n k : ℕ) (doors now : List Door) (d : Door) → now ≡ ended_from p n doors → 0 < n → k ≡ last_of p doors (n - 1) →
    set now (n - 1) (with_owner_ended p (get_or now (n - 1) d)) ≡ ended_from p k doors
ended_next p zero k doors now d h more is = absurd (omega arith)
ended_next p (suc m) k doors now d h more is =
    let place : suc m - 1 ≡ m = omega arith in
    rw (place, h)
    (ended_one p m doors d ∙ sym (unseen (λ n. ended_from p n doors) p doors (ended_same p doors) m k (rw place at is)))

-- the valid doors of an owner, from a place on

abbrev pub valid_from : ℕ → ℕ → List Door → List ℕ
valid_from p n xs = valid_doors_of p (drop n xs)

valid_same :
    (p : ℕ) (xs : List Door) (n : ℕ) → is_listed (list_of p) (slice_get (as_made xs) n) ≡ false → valid_from p n xs ≡ valid_from p (suc n) xs
valid_same p [] zero e = refl
valid_same p [] (suc n) e = refl
valid_same p (x ∷ xs) zero e = grind (arith, not_owned p x e)
valid_same p (x ∷ xs) (suc n) e = valid_same p xs n e

pub valid_first : (p k : ℕ) (doors : List Door) → k ≡ last_of p doors (length doors) → [] ≡ valid_from p k doors
valid_first p k doors e =
    sym (unseen (λ n. valid_from p n doors) p doors (valid_same p doors) (length doors) k e
    ∙ ap (valid_doors_of p) (drop_all (length doors) doors (omega arith)))

valid_one :
    (p m : ℕ) (doors : List Door) (d : Door) (before : List ℕ) → m < length doors → reverse before ≡ valid_from p (suc m) doors →
    reverse (if is_valid_of p (get_or doors m d) then before ++ (get_or doors m d).number ∷ [] else before) ≡ valid_from p m doors
valid_one p m [] d before h e = absurd (omega arith)
valid_one p zero (x ∷ xs) d before h e =
    elim (is_valid_of p x) as (λ b. reverse (if b then before ++ x.number ∷ [] else before) ≡ map number_of_door (cond b (x ∷ filter (is_valid_of p) xs) (filter (is_valid_of p) xs)))
    [ true ↦ reverse-append before (x.number ∷ []) ∙ ap (λ ns. x.number ∷ ns) e | false ↦ e ]
valid_one p (suc m) (x ∷ xs) d before h e = valid_one p m xs d before (omega arith) e

pub valid_next :
    (p n k : ℕ) (doors : List Door) (d : Door) (before now : List ℕ) → reverse before ≡ valid_from p n doors → 0 < n → n ≤ length doors →
    k ≡ last_of p doors (n - 1) →
    now ≡ (if is_valid_of p (get_or doors (n - 1) d) then before ++ (get_or doors (n - 1) d).number ∷ [] else before) →
    reverse now ≡ valid_from p k doors
valid_next p zero k doors d before now h more within is e = absurd (omega arith)
valid_next p (suc m) k doors d before now h more within is e =
    let place : suc m - 1 ≡ m = omega arith in
    rw (e, place)
    (valid_one p m doors d before (omega arith) h
    ∙ sym (unseen (λ n. valid_from p n doors) p doors (valid_same p doors) m k (rw place at is)))

-- another door

last_below : (doors : List Door) (x : Door) (l n : ℕ) → n ≤ length doors → last_listed (doors ++ x ∷ []) l n ≡ last_listed doors l n
last_below doors x l zero h = refl
last_below doors x l (suc n) h =
    let here : slice_get (doors ++ x ∷ []) n ≡ slice_get doors n = slice_get_push doors x n ∙ grind (arith, nat_tests) in
    ap₂ (λ o m. if is_listed l o then suc n else m) here (last_below doors x l n (omega arith))

module _ (doors : List Door) (x : Door) where
  notices_pushed : notice_doors (doors ++ x ∷ []) ≡ (if is_notice_door x then notice_doors doors ++ x.number ∷ [] else notice_doors doors)
  notices_pushed =
      ap (map number_of_door) (filter-append is_notice_door doors (x ∷ []))
      ∙ map-append number_of_door (filter is_notice_door doors) (filter is_notice_door (x ∷ []))
      ∙ grind (arith, append-nil (notice_doors doors))

  linked_pushed :
      (earlier : List ℕ) → length earlier ≡ length doors → AreLinked doors earlier →
      AreLinked (doors ++ x ∷ []) (earlier ++ last_listed doors (list_of x.owner.0) (length doors) ∷ [])
  linked_pushed earlier long h i =
      slice_get_push earlier (last_listed doors (list_of x.owner.0) (length doors)) i
      ∙ go (i == length doors) refl
      ∙ ap (option_map (earlier_of (doors ++ x ∷ []) i)) (sym (slice_get_push doors x i))
    where
      below : (o : Option Door) → slice_get doors i ≡ o → option_map (earlier_of doors i) o ≡ option_map (earlier_of (doors ++ x ∷ []) i) o
      below None e = refl
      below (Some y) e = let k = slice_get_within doors i y e in ap Some (sym (last_below doors x (list_of y.owner.0) i (omega arith)))

      go :
          (b : Bool) → (i == length doors) ≡ b →
          (if i == length earlier then Some (last_listed doors (list_of x.owner.0) (length doors)) else slice_get earlier i) ≡ option_map (earlier_of (doors ++ x ∷ []) i) (if b then Some x else slice_get doors i)
      go true e =
          let here : length doors ≡ i = grind (arith, nat_tests) in
          grind (arith, nat_tests, last_below doors x (list_of x.owner.0) i (omega arith))
      go false e = grind (arith, nat_tests, h i ∙ below (slice_get doors i) refl)

  ends_pushed :
      (last : List ℕ) → ((l : ℕ) → l < LISTS → slice_get last l ≡ Some (last_listed doors l (length doors))) → (l : ℕ) → l < LISTS →
      slice_get (slice_set last (list_of x.owner.0) (suc (length doors))) l ≡ Some (last_listed (doors ++ x ∷ []) l (length (doors ++ x ∷ [])))
  ends_pushed last h l k =
      let n = length doors in
      let here : slice_get (doors ++ x ∷ []) n ≡ Some x = slice_get_push doors x n ∙ grind (arith, nat_tests) in
      let long : length (doors ++ x ∷ []) ≡ suc n = omega (arith, length_push doors x) in
      slice_get-slice_set last (list_of x.owner.0) l (suc n)
      ∙ grind (arith, nat_tests, h l k, h (list_of x.owner.0) (omega arith))
      ∙ ap Some (sym (ap₂ (λ o m. if is_listed l o then suc n else m) here (last_below doors x l n (omega arith))))
      ∙ ap (λ m. Some (last_listed (doors ++ x ∷ []) l m)) (sym long)

  served_pushed :
      (common : List Bool) → ((p : ℕ) → p < LISTS → slice_get common p ≡ Some (has_common_door doors p)) → (p : ℕ) → p < LISTS →
      slice_get (if is_private x.attrs then common else slice_set common x.owner.0 true) p ≡ Some (has_common_door (doors ++ x ∷ []) p)
  served_pushed common h p k =
      go (is_private x.attrs) (x.owner.0 == p) refl ∙ ap Some (sym (list_any-append (is_common_of p) doors (x ∷ [])))
    where
      go :
          (b same : Bool) → (x.owner.0 == p) ≡ same →
          slice_get (if b then common else slice_set common x.owner.0 true) p ≡ Some (has_common_door doors p || ((same && not b) || false))
      go true same e = grind (arith, h p k)
      go false true e =
          let here : p ≡ x.owner.0 = grind (arith, nat_tests) in
          slice_get-slice_set common x.owner.0 p true ∙ grind (arith, nat_tests, ap (slice_get common) (sym here) ∙ h p k)
      go false false e = slice_get-slice_set common x.owner.0 p true ∙ grind (arith, nat_tests, h p k)

  pub AreListed-pushed :
      (notices earlier last : List ℕ) (common : List Bool) (l number : ℕ) → AreListed doors notices earlier last common → l ≡ list_of x.owner.0 →
      number ≡ suc (length doors) →
      AreListed
      (doors ++ x ∷ [])
      (if is_notice_door x then notices ++ x.number ∷ [] else notices)
      (earlier ++ get_or last l 0 ∷ [])
      (slice_set last l number)
      (if is_private x.attrs then common else slice_set common x.owner.0 true)
  AreListed-pushed notices earlier last common l number h e n =
      let found = get_or_from_slice_get last (list_of x.owner.0) (last_listed doors (list_of x.owner.0) (length doors)) 0 (h.ends (list_of x.owner.0) (omega arith)) in
      rw (e, n, found) (record {
        notices = rw h.notices (sym notices_pushed);
        long = omega (arith, h.long, length_push doors x, length_push earlier (last_listed doors (list_of x.owner.0) (length doors)));
        linked = linked_pushed earlier h.long h.linked;
        ends = ends_pushed last h.ends;
        served = served_pushed common h.served;
      })

pub AreListed-none :
    (doors : List Door) (notices earlier : List ℕ) → doors ≡ [] → notices ≡ [] → earlier ≡ [] →
    AreListed (as_made doors) notices earlier (replicate LISTS 0) (replicate LISTS false)
AreListed-none doors notices earlier ds ns es =
    rw (ds, ns, es) (record { notices = refl; long = refl; linked = λ i. refl; ends = filled LISTS 0; served = filled LISTS false })
  where
    filled : {X : Type 0} (n : ℕ) (x : X) (i : ℕ) → i < n → slice_get (replicate n x) i ≡ Some x
    filled n x i h = slice_get-get_or (replicate n x) i x (omega (arith, length-replicate n x)) ∙ ap Some (get_or-replicate n i x x h)
