-- What the entries of a map say of the timers.
use Rattle.std.proofs.Common.{◌≡◌, ℕ, zero, suc, slice_get, Bool, true, false, cond, if◌then◌else◌, List, [], ◌∷◌, ◌++◌, Option, None, Some, option_map, filter, refl, sym, ap, ◌∙◌, arith}
use Rattle.std.proofs.lemmas.Bool.Decides.{nat_tests}
use Rattle.std.proofs.lemmas.List.{map-append}
use Rattle.std.proofs.lemmas.Map.Keys.{IsDistinct-head, IsDistinct-tail}
use Rattle.std.specs.List.{AllByRecursion, IsDistinct}
use Rattle.std.specs.Map.{keys_of, lookup, remove_entry, set_value}
use Rattle.spec_records.specs.Words.{change_first, is_timer, is_timer_of_other, timer_at, with_arming}
use Rattle.spec_records.proofs.Places.{change_first-none}
use Rattle.spec_records.specs.declared.timer.Arming.{Arming}
use Rattle.spec_records.specs.declared.timer.Timer.{Timer}
use Rattle.timer_src.specs.declared.key.Key.{Key}
use Rattle.timer_src.specs.declared.slot.Slot.{Slot}
use Rattle.timer_src.specs.Keys.{is_key_of_other_process, key_at, same_key}
use Rattle.timer_src.specs.Lists.{without_first}
use Rattle.timer_src.specs.Table.{HaveDistinctIds, timer_in, timer_of, timers_in}

same_keys : (k l : Key) → same_key k l ≡ true → k ≡ l
same_keys k l h =
    let a : k.process ≡ l.process = grind (arith, nat_tests) in
    let b : k.id ≡ l.id = grind (arith, nat_tests) in
    λ i. record { process = a i; id = b i }

abbrev flipped : ℕ → ℕ → Key → Bool
flipped process id k = same_key (key_at process id) k

alike : (process id : ℕ) (e : Key × Slot) → is_timer process id (timer_in e) ≡ flipped process id e.0
alike process id e = refl

module _ (process id : ℕ) where
  pub found_at : (es : List (Key × Slot)) → timer_at (timers_in es) process id ≡ option_map (timer_of (key_at process id)) (lookup (same_key (key_at process id)) es)
  found_at [] = refl
  found_at (e ∷ es) =
      ap (λ b. if b then Some (timer_in e) else timer_at (timers_in es) process id) (alike process id e)
      ∙ go (flipped process id e.0) refl (found_at es)
    where
      go :
          (b : Bool) → same_key (key_at process id) e.0 ≡ b →
          timer_at (timers_in es) process id ≡ option_map (timer_of (key_at process id)) (lookup (same_key (key_at process id)) es) →
          (if b then Some (timer_in e) else timer_at (timers_in es) process id) ≡ option_map (timer_of (key_at process id)) (cond b (Some e.1) (lookup (same_key (key_at process id)) es))
      go true h ih = ap (λ k. Some (timer_of k e.1)) (sym (same_keys (key_at process id) e.0 h))
      go false h ih = ih

  pub none_at : (es : List (Key × Slot)) → timer_at (timers_in es) process id ≡ None → lookup (same_key (key_at process id)) es ≡ None
  none_at es h = nothing_in (lookup (same_key (key_at process id)) es) (sym (found_at es) ∙ h)
    where
      nothing_in : (o : Option Slot) → option_map (timer_of (key_at process id)) o ≡ None → o ≡ None
      nothing_in None g = refl
      nothing_in (Some s) g = cc

  pub removed : (es : List (Key × Slot)) → timers_in (remove_entry (same_key (key_at process id)) es) ≡ without_first (is_timer process id) (timers_in es)
  removed [] = refl
  removed (e ∷ es) =
      go (flipped process id e.0) (removed es)
      ∙ ap (λ b. if b then timers_in es else timer_in e ∷ without_first (is_timer process id) (timers_in es)) (sym (alike process id e))
    where
      go :
          (b : Bool) → timers_in (remove_entry (same_key (key_at process id)) es) ≡ without_first (is_timer process id) (timers_in es) →
          timers_in (cond b es (e ∷ remove_entry (same_key (key_at process id)) es)) ≡ (if b then timers_in es else timer_in e ∷ without_first (is_timer process id) (timers_in es))
      go true ih = refl
      go false ih = ap (λ xs. timer_in e ∷ xs) ih

  abbrev armed : Option Arming → Slot → Slot
  armed a s = record s { arming = a }

  pub armed_at :
      (a : Option Arming) (es : List (Key × Slot)) (s : Slot) → lookup (same_key (key_at process id)) es ≡ Some s →
      timers_in (set_value (same_key (key_at process id)) es (armed a s)) ≡ change_first (is_timer process id) (with_arming a) (timers_in es)
  armed_at a [] s h = refl
  armed_at a (e ∷ es) s h =
      go (flipped process id e.0) h (armed_at a es s)
      ∙ ap (λ b. if b then with_arming a (timer_in e) ∷ timers_in es else timer_in e ∷ change_first (is_timer process id) (with_arming a) (timers_in es)) (sym (alike process id e))
    where
      go :
          (b : Bool) → cond b (Some e.1) (lookup (same_key (key_at process id)) es) ≡ Some s →
          (lookup (same_key (key_at process id)) es ≡ Some s → timers_in (set_value (same_key (key_at process id)) es (armed a s)) ≡ change_first (is_timer process id) (with_arming a) (timers_in es)) →
          timers_in (cond b ((e.0, armed a s) ∷ es) (e ∷ set_value (same_key (key_at process id)) es (armed a s)))
          ≡ (if b then with_arming a (timer_in e) ∷ timers_in es else timer_in e ∷ change_first (is_timer process id) (with_arming a) (timers_in es))
      go true found ih = let same : e.1 ≡ s = cc in ap (λ v. timer_of e.0 (armed a v) ∷ timers_in es) (sym same)
      go false found ih = ap (λ xs. timer_in e ∷ xs) (ih found)

  pub none_armed :
      (a : Option Arming) (es : List (Key × Slot)) → lookup (same_key (key_at process id)) es ≡ None →
      timers_in es ≡ change_first (is_timer process id) (with_arming a) (timers_in es)
  none_armed a es h = sym (change_first-none (is_timer process id) (with_arming a) (timers_in es) (found_at es ∙ ap (option_map (timer_of (key_at process id))) h))

-- by places

abbrev or_no_timer : Option (Key × Slot) → Option Timer
or_no_timer o = option_map timer_in o

at_same : (es : List (Key × Slot)) (i : ℕ) → slice_get (timers_in es) i ≡ or_no_timer (slice_get es i)
at_same [] i = refl
at_same (e ∷ es) zero = refl
at_same (e ∷ es) (suc i) = at_same es i

pub at_place : (es : List (Key × Slot)) (i : ℕ) (k : Key) (s : Slot) → Some (k, s) ≡ slice_get es i → Some (timer_of k s) ≡ slice_get (timers_in es) i
at_place es i k s h = ap or_no_timer h ∙ sym (at_same es i)

pub at_none : (es : List (Key × Slot)) (i : ℕ) → None ≡ slice_get es i → None ≡ slice_get (timers_in es) i
at_none es i h = ap or_no_timer h ∙ sym (at_same es i)

-- one more

abbrev pub kept_under : Timer → Slot
kept_under t = record { port = t.port; user = t.user; number = t.number; arming = t.arming }

pub pushed : (t : Timer) (es : List (Key × Slot)) → timers_in (es ++ (key_at t.process.0 t.id, kept_under t) ∷ []) ≡ timers_in es ++ t ∷ []
pushed t es = map-append timer_in es ((key_at t.process.0 t.id, kept_under t) ∷ [])

-- the keys differ

no_other : (k : Key) (es : List (Key × Slot)) → AllByRecursion (λ q. same_key k q ≡ false) (keys_of es) → timer_at (timers_in es) k.process k.id ≡ None
no_other k [] h = refl
no_other k (e ∷ es) h =
    ap (λ b. if b then Some (timer_in e) else timer_at (timers_in es) k.process k.id) (alike k.process k.id e ∙ h.0) ∙ no_other k es h.1

pub distinct_ids : (es : List (Key × Slot)) → IsDistinct same_key (keys_of es) → HaveDistinctIds (timers_in es)
distinct_ids [] h = tt
distinct_ids (e ∷ es) h =
    (no_other e.0 es (IsDistinct-head same_key e.0 (keys_of es) h), distinct_ids es (IsDistinct-tail same_key e.0 (keys_of es) h))

-- the entries of the others
pub others_in : (p : ℕ) (es : List (Key × Slot)) → timers_in (filter (λ e. is_key_of_other_process p e.0) es) ≡ filter (is_timer_of_other p) (timers_in es)
others_in p [] = refl
others_in p (e ∷ es) = go (is_key_of_other_process p e.0) (others_in p es)
  where
    go :
        (b : Bool) → timers_in (filter (λ e. is_key_of_other_process p e.0) es) ≡ filter (is_timer_of_other p) (timers_in es) →
        timers_in (if b then e ∷ filter (λ e. is_key_of_other_process p e.0) es else filter (λ e. is_key_of_other_process p e.0) es)
        ≡ (if b then timer_in e ∷ filter (is_timer_of_other p) (timers_in es) else filter (is_timer_of_other p) (timers_in es))
    go true ih = ap (λ xs. timer_in e ∷ xs) ih
    go false ih = ih
