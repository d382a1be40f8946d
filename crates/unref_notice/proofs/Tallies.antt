-- What is kept of objects, as one of them changes.
use Rattle.std.proofs.Common.{◌≡◌, ℕ, ◌+◌, ◌-◌, ◌==◌, ◌||◌, Bool, true, false, true≢false, cond, if◌then◌else◌, List, [], ◌∷◌, ◌++◌, Option, None, Some, is_some, map, option_map, unwrap_or, refl, sym, ap, subst, ◌∙◌, arith, Result, Ok, Err, IsOk, OnErr}
use Rattle.std.proofs.lemmas.Bool.Decides.{nat_tests}
use Rattle.std.proofs.lemmas.Map.Made.{lookup-map_values}
use Rattle.std.specs.Map.{lookup}
use Rattle.indexmap.specs.IndexMap.{insert_entry}
use Rattle.dk_base.specs.declared.object.Obj.{Obj}
use Rattle.spec_records.specs.Words.{is_object}
use Rattle.unref_notice.specs.declared.key.Key.{Key}
use Rattle.unref_notice.specs.declared.key.Key.TheVariants as key
use Rattle.unref_notice.specs.declared.tally.Tally.{Tally}
use Rattle.unref_notice.specs.Counting.{AreApart, AreMarked, IsStill, ObjectCounts, Tallies, count_at, count_of, counts_in, is_touched, key_of, same_key, tally_at}
use Rattle.unref_notice.proofs.Keys.{flipped, key_alike, same_keys}

abbrev now_of : Tally → ℕ
now_of t = t.now

abbrev or_none : Option Tally → Tally
or_none o = unwrap_or o (record { now = 0; touched = false })

pub count_kept : (ts : Tallies) (k : Key) → count_at (counts_in ts) k ≡ (tally_at ts k).now
count_kept ts k = ap (λ o. unwrap_or o 0) (lookup-map_values now_of (same_key k) ts) ∙ go (lookup (same_key k) ts)
  where
    go : (o : Option Tally) → unwrap_or (option_map now_of o) 0 ≡ (or_none o).now
    go None = refl
    go (Some t) = refl

-- what is marked was counted
marked_there : (ts : Tallies) (k : Key) → (tally_at ts k).touched ≡ true → is_some (lookup (same_key k) ts) ≡ true
marked_there ts k = go (lookup (same_key k) ts)
  where
    go : (o : Option Tally) → (or_none o).touched ≡ true → is_some o ≡ true
    go None h = h
    go (Some t) h = refl

same : (k : Key) → same_key k k ≡ true
same (key.Door d) = grind (arith, nat_tests)
same (key.Port p) = grind (arith, nat_tests)
same (key.PipeIn p) = grind (arith, nat_tests)
same (key.PipeOut p) = grind (arith, nat_tests)

pub first_there : (ts : Tallies) (k : Key) (ks : List Key) → AreMarked ts (k ∷ ks) → is_some (lookup (same_key k) ts) ≡ true
first_there ts k ks h = marked_there ts k (h.marked k ∙ ap (λ b. b || is_touched ks k) (same k))

pub written_there : {T E : Type 0} (r : Result T E) (o : Option Tally) → is_some o ≡ true → OnErr r (o ≡ None) → IsOk r
written_there (Ok x) o h none = refl
written_there (Err x) o h none = absurd (true≢false (sym h ∙ ap is_some none))

-- a count that is written again as it is leaves the counts
pub count_again :
    (ts : Tallies) (k : Key) (t : Tally) → is_some (lookup (same_key k) ts) ≡ true → t.now ≡ (tally_at ts k).now →
    counts_in (insert_entry same_key ts k t) ≡ counts_in ts
count_again [] k t found same = absurd (true≢false (sym found))
count_again (e ∷ es) k t found same = go (count_again es k t) (same_key k e.0) found same
  where
    go :
        (is_some (lookup (same_key k) es) ≡ true → t.now ≡ (tally_at es k).now → counts_in (insert_entry same_key es k t) ≡ counts_in es) →
        (b : Bool) → is_some (cond b (Some e.1) (lookup (same_key k) es)) ≡ true → t.now ≡ (or_none (cond b (Some e.1) (lookup (same_key k) es))).now →
        counts_in (if b then (e.0, t) ∷ es else e ∷ insert_entry same_key es k t) ≡ counts_in (e ∷ es)
    go again true found same = ap (λ n. (e.0, n) ∷ counts_in es) same
    go again false found same = ap (λ xs. (e.0, e.1.now) ∷ xs) (again found same)

-- an object more is touched
pub touched_end : (xs : List Key) (k q : Key) → is_touched (xs ++ k ∷ []) q ≡ (if same_key k q then true else is_touched xs q)
touched_end [] k q = ap (λ b. b || false) (flipped k q) ∙ go (same_key k q)
  where
    go : (b : Bool) → (b || false) ≡ (if b then true else false)
    go true = refl
    go false = refl
touched_end (x ∷ xs) k q = ap (λ b. same_key q x || b) (touched_end xs k q) ∙ go (same_key q x) (same_key k q)
  where
    go : (a b : Bool) → (a || (if b then true else is_touched xs q)) ≡ (if b then true else (a || is_touched xs q))
    go true true = refl
    go true false = refl
    go false true = refl
    go false false = refl

pub apart_end : (xs : List Key) (y : Key) → AreApart xs → is_touched xs y ≡ false → AreApart (xs ++ y ∷ [])
apart_end [] y h absent = (refl, tt)
apart_end (x ∷ xs) y h absent =
    (touched_end xs y x ∙ ap (λ b. if b then true else is_touched xs x) (first (same_key y x) absent) ∙ h.0, apart_end xs y h.1 (rest (same_key y x) absent))
  where
    first : (b : Bool) → (b || is_touched xs y) ≡ false → b ≡ false
    first true e = e
    first false e = refl

    rest : (b : Bool) → (b || is_touched xs y) ≡ false → is_touched xs y ≡ false
    rest true e = absurd (true≢false e)
    rest false e = e

-- one that was touched
pub touched_still : (xs : List Key) (k q : Key) → is_touched xs k ≡ true → is_touched xs q ≡ (if same_key k q then true else is_touched xs q)
touched_still xs k q there = go (same_key k q) refl
  where
    go : (b : Bool) → same_key k q ≡ b → is_touched xs q ≡ (if b then true else is_touched xs q)
    go true same = sym (ap (is_touched xs) (same_keys k q same)) ∙ there
    go false other = refl

-- the counts as what is kept of one object is another

module _ (old new : Tallies) (k : Key) (t : Tally) (inserted : (q : Key) → lookup (same_key q) new ≡ cond (same_key k q) (Some t) (lookup (same_key q) old)) where
  pub tally_after : (q : Key) → tally_at new q ≡ (if same_key k q then t else tally_at old q)
  tally_after q = ap or_none (inserted q) ∙ go (same_key k q)
    where
      go : (b : Bool) → or_none (cond b (Some t) (lookup (same_key q) old)) ≡ (if b then t else tally_at old q)
      go true = refl
      go false = refl

  pub marked_more : (xs ys : List Key) → t.touched ≡ true → ((q : Key) → is_touched ys q ≡ (if same_key k q then true else is_touched xs q)) → AreApart ys → AreMarked old xs → AreMarked new ys
  marked_more xs ys is more apart h = record {
    marked = λ q. ap (λ u. u.touched) (tally_after q) ∙ go q (same_key k q) ∙ sym (more q);
    apart = apart;
  }
    where
      go : (q : Key) (b : Bool) → (if b then t else tally_at old q).touched ≡ (if b then true else is_touched xs q)
      go q true = is
      go q false = h.marked q

  pub marked_fewer : (ks : List Key) → t.touched ≡ false → AreMarked old (k ∷ ks) → AreMarked new ks
  marked_fewer ks is h = record {
    marked = λ q. ap (λ u. u.touched) (tally_after q) ∙ go q (same_key k q) refl;
    apart = h.apart.1;
  }
    where
      go : (q : Key) (b : Bool) → same_key k q ≡ b → (if b then t else tally_at old q).touched ≡ is_touched ks q
      go q true same = is ∙ sym (h.apart.0) ∙ ap (is_touched ks) (same_keys k q same)
      go q false other = h.marked q ∙ ap (λ b. b || is_touched ks q) (flipped k q ∙ other)

pub recounted :
    (old new : Tallies) (k : Key) (t : Tally) → ((q : Key) → tally_at new q ≡ (if same_key k q then t else tally_at old q)) →
    (x o : Obj) → k ≡ key_of x → count_of (counts_in new) o ≡ (if is_object o x then t.now else count_of (counts_in old) o)
recounted old new k t after x o e =
    count_kept new (key_of o) ∙ ap now_of (after (key_of o)) ∙ go (same_key k (key_of o))
    ∙ ap (λ b. if b then t.now else count_of (counts_in old) o) (ap (λ j. same_key j (key_of o)) e ∙ key_alike x o)
  where
    go : (b : Bool) → (if b then t else tally_at old (key_of o)).now ≡ (if b then t.now else count_of (counts_in old) o)
    go true = refl
    go false = sym (count_kept old (key_of o))

-- what is not touched is still as it was when the step began
pub still_more :
    (old new : Tallies) (opening : ObjectCounts) (k : Key) (t : Tally) (xs ys : List Key) → ((q : Key) → tally_at new q ≡ (if same_key k q then t else tally_at old q)) →
    ((q : Key) → is_touched ys q ≡ (if same_key k q then true else is_touched xs q)) → IsStill (counts_in old) opening xs → IsStill (counts_in new) opening ys
still_more old new opening k t xs ys after more still q = go (same_key k q) (after q) (more q)
  where
    go :
        (b : Bool) → tally_at new q ≡ (if b then t else tally_at old q) → is_touched ys q ≡ (if b then true else is_touched xs q) → is_touched ys q ≡ false →
        count_at opening q ≡ count_at (counts_in new) q
    go true at is apart = absurd (true≢false (sym is ∙ apart))
    go false at is apart = still q (sym is ∙ apart) ∙ count_kept old q ∙ ap now_of (sym at) ∙ sym (count_kept new q)

-- another reference to an object, and one fewer

module _ (counts : ObjectCounts) (x o : Obj) (now : ℕ) (kept : now ≡ count_of counts x) where
  alike : is_object o x ≡ true → now ≡ count_of counts o
  alike e = kept ∙ ap (count_at counts) (same_keys (key_of x) (key_of o) (key_alike x o ∙ e))

  pub one_more : (if is_object o x then now + 1 else count_of counts o) ≡ count_of counts o + (0 + cond (is_object o x) 1 0)
  one_more = go (is_object o x) alike
    where
      go : (b : Bool) → (b ≡ true → now ≡ count_of counts o) → (if b then now + 1 else count_of counts o) ≡ count_of counts o + (0 + cond b 1 0)
      go true e = let same = e refl in omega (arith, same)
      go false e = omega arith

  pub one_fewer : (if is_object o x then now - 1 else count_of counts o) ≡ count_of counts o - (0 + cond (is_object o x) 1 0)
  one_fewer = go (is_object o x) alike
    where
      go : (b : Bool) → (b ≡ true → now ≡ count_of counts o) → (if b then now - 1 else count_of counts o) ≡ count_of counts o - (0 + cond b 1 0)
      go true e = let same = e refl in omega (arith, same)
      go false e = omega arith

  pub none_fewer : now ≡ 0 → count_of counts o ≡ count_of counts o - (0 + cond (is_object o x) 1 0)
  none_fewer none = go (is_object o x) alike
    where
      go : (b : Bool) → (b ≡ true → now ≡ count_of counts o) → count_of counts o ≡ count_of counts o - (0 + cond b 1 0)
      go true e = let same = e refl in omega (arith, same, none)
      go false e = omega arith
