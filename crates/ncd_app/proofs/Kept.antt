-- The lines whose answers are kept, after another line asked.
use Rattle.std.proofs.Common.{◌≡◌, ◌≤◌, ◌-◌, ℕ, zero, suc, Bool, true, false, cond, List, [], ◌∷◌, Option, Some, None, is_some, take, refl, sym, ap, subst, ◌∙◌, arith}
use Rattle.std.proofs.lemmas.List.{take-map, take-take}
use Rattle.std.proofs.lemmas.Map.Made.{is_some-lookup}
use Rattle.std.specs.List.{AllByRecursion, list_any}
use Rattle.std.specs.Map.{keys_of, lookup_entry, remove_entry}
use Rattle.std.specs.Option.{option_map_or}
use Rattle.std.specs.Prelude.{bytes_eq}
use Rattle.lru.specs.LruCache.{LruCache, promoted, put_entries}
use Rattle.ncd_app.specs.Cache.{HoldsAnswers, answer_in, answered}
use Rattle.ncd_app.specs.Definition.{Exchange, asked, changes, different, is_hit, without}
use Rattle.ncd_app.proofs.Lists.{distinct, recent, same_line, takes_again, takes_new, without_first}

abbrev Kept : Type 0
Kept = List (List ℕ × List ℕ)

-- one answer more

no_entry_if : (b : Bool) (e : List ℕ × List ℕ) (o : Option (List ℕ)) (p : Option (List ℕ × List ℕ)) → (o ≡ None → p ≡ None) → cond b (Some e.1) o ≡ None → cond b (Some e) p ≡ None
no_entry_if true e o p h none = cc
no_entry_if false e o p h none = h none

no_entry : (line : List ℕ) (es : Kept) → answer_in es line ≡ None → lookup_entry (bytes_eq line) es ≡ None
no_entry line [] none = refl
no_entry line (e ∷ es) none = no_entry_if (bytes_eq line e.0) e (answer_in es line) (lookup_entry (bytes_eq line) es) (no_entry line es) none

pub put_new : (c : LruCache (List ℕ) (List ℕ)) (line text : List ℕ) → c.cap ≡ 64 → answer_in c.entries line ≡ None → put_entries bytes_eq c line text ≡ (line, text) ∷ take 63 c.entries
put_new c line text cap none =
    ap (λ o. option_map_or (λ e. (e.0, text) ∷ remove_entry (bytes_eq line) c.entries) o ((line, text) ∷ take (c.cap - 1) c.entries)) (no_entry line c.entries none)
    ∙ ap (λ n. (line, text) ∷ take (n - 1) c.entries) cap

-- the entry of a line

found_if : (P : List ℕ × List ℕ → Type 0) (line text : List ℕ) (e : List ℕ × List ℕ) (b : Bool) (o : Option (List ℕ)) (p : Option (List ℕ × List ℕ)) → bytes_eq line e.0 ≡ b → P e → (o ≡ Some text → (p ≡ Some (line, text)) × P (line, text))
    → cond b (Some e.1) o ≡ Some text → (cond b (Some e) p ≡ Some (line, text)) × P (line, text)
found_if P line text e true o p t holds later h =
    let key : line ≡ e.0 = same_line line e.0 t in
    let value : e.1 ≡ text = cc in
    let same : e ≡ (line, text) = λ i. (sym key i, value i) in
    (ap Some same, subst P same holds)
found_if P line text e false o p t holds later h = later h

found : (P : List ℕ × List ℕ → Type 0) (line text : List ℕ) (es : Kept) → AllByRecursion P es → answer_in es line ≡ Some text → (lookup_entry (bytes_eq line) es ≡ Some (line, text)) × P (line, text)
found P line text [] all h = absurd (cc)
found P line text (e ∷ es) all h = found_if P line text e (bytes_eq line e.0) (answer_in es line) (lookup_entry (bytes_eq line) es) refl all.0 (found P line text es all.1) h

removed_key : (e : List ℕ × List ℕ) (es rest : Kept) (ks : List (List ℕ)) (b : Bool) → keys_of rest ≡ ks → keys_of (cond b es (e ∷ rest)) ≡ cond b (keys_of es) (e.0 ∷ ks)
removed_key e es rest ks true h = refl
removed_key e es rest ks false h = ap (λ l. e.0 ∷ l) h

keys_removed : (line : List ℕ) (es : Kept) → keys_of (remove_entry (bytes_eq line) es) ≡ without_first (bytes_eq line) (keys_of es)
keys_removed line [] = refl
keys_removed line (e ∷ es) = removed_key e es (remove_entry (bytes_eq line) es) (without_first (bytes_eq line) (keys_of es)) (bytes_eq line e.0) (keys_removed line es)

all_removed_if : (P : List ℕ × List ℕ → Type 0) (e : List ℕ × List ℕ) (es rest : Kept) (b : Bool) → P e → AllByRecursion P es → AllByRecursion P rest → AllByRecursion P (cond b es (e ∷ rest))
all_removed_if P e es rest true holds all others = all
all_removed_if P e es rest false holds all others = (holds, others)

all_removed : (P : List ℕ × List ℕ → Type 0) (line : List ℕ) (es : Kept) → AllByRecursion P es → AllByRecursion P (remove_entry (bytes_eq line) es)
all_removed P line [] all = tt
all_removed P line (e ∷ es) all = all_removed_if P e es (remove_entry (bytes_eq line) es) (bytes_eq line e.0) all.0 all.1 (all_removed P line es all.1)

all_taken : (P : List ℕ × List ℕ → Type 0) (n : ℕ) (es : Kept) → AllByRecursion P es → AllByRecursion P (take n es)
all_taken P zero es all = tt
all_taken P (suc n) [] all = tt
all_taken P (suc n) (e ∷ es) all = (all.0, all_taken P n es all.1)

-- a line is kept where it is a hit

pub kept_is_hit : (es : Kept) (past : List Exchange) (line : List ℕ) → HoldsAnswers es past → is_hit past line ≡ is_some (answer_in es line)
kept_is_hit es past line h =
    recent line 64 (asked past) ∙ sym (is_some-lookup (bytes_eq line) es ∙ ap (list_any (bytes_eq line)) h.lines)

pub kept_answer : (es : Kept) (past : List Exchange) (line text : List ℕ) → HoldsAnswers es past → answer_in es line ≡ Some text → text ≡ answered (changes past) line
kept_answer es past line text h there = (found (λ e. e.1 ≡ answered (changes past) e.0) line text es h.answers there).1

-- it is the last used now

keys_promoted : (es : Kept) (line text : List ℕ) → lookup_entry (bytes_eq line) es ≡ Some (line, text) → promoted (bytes_eq line) es ≡ (line, text) ∷ remove_entry (bytes_eq line) es
keys_promoted es line text e = ap (λ o. option_map_or (λ f. f ∷ remove_entry (bytes_eq line) es) o es) e

pub used_again : (es : Kept) (past now : List Exchange) (line text : List ℕ) → HoldsAnswers es past → answer_in es line ≡ Some text → asked now ≡ line ∷ asked past → changes now ≡ changes past → HoldsAnswers (promoted (bytes_eq line) es) now
used_again es past now line text h there lines same =
    let entry = found (λ e. e.1 ≡ answered (changes past) e.0) line text es h.answers there in
    let among : list_any (bytes_eq line) (take 64 (different (asked past))) ≡ true =
    ap (list_any (bytes_eq line)) (sym h.lines) ∙ sym (is_some-lookup (bytes_eq line) es) ∙ ap is_some there in
    let first : promoted (bytes_eq line) es ≡ (line, text) ∷ remove_entry (bytes_eq line) es = keys_promoted es line text entry.0 in
    let again : without_first (bytes_eq line) (take (suc 63) (different (asked past))) ≡ take 63 (without line (different (asked past))) = takes_again line 63 (different (asked past)) (distinct (asked past)) among in
    record {
      lines =
          ap keys_of first
          ∙ ap (λ l. line ∷ l) (keys_removed line es ∙ ap (without_first (bytes_eq line)) h.lines ∙ again)
          ∙ sym (ap (λ l. take 64 (different l)) lines);
      answers = subst (λ l. AllByRecursion (λ e. e.1 ≡ answered (changes now) e.0) l) (sym first)
          (subst (λ cs. AllByRecursion (λ e. e.1 ≡ answered cs e.0) ((line, text) ∷ remove_entry (bytes_eq line) es)) (sym same)
          (entry.1, all_removed (λ e. e.1 ≡ answered (changes past) e.0) line es h.answers));
    }

-- a new line is the last used

pub used_first : (es : Kept) (past now : List Exchange) (line text : List ℕ) → HoldsAnswers es past → answer_in es line ≡ None → text ≡ answered (changes past) line → asked now ≡ line ∷ asked past → changes now ≡ changes past → HoldsAnswers ((line, text) ∷ take 63 es) now
used_first es past now line text h none right lines same =
    let new : list_any (bytes_eq line) (take (suc 63) (different (asked past))) ≡ false =
    ap (list_any (bytes_eq line)) (sym h.lines) ∙ sym (is_some-lookup (bytes_eq line) es) ∙ ap is_some none in
    let fewer : 63 ≤ 64 = omega arith in
    record {
      lines =
          ap (λ l. line ∷ l) (sym (take-map (λ e. e.0) 63 es) ∙ ap (take 63) h.lines ∙ take-take 63 64 (different (asked past)) fewer ∙ takes_new line 63 (different (asked past)) new)
          ∙ sym (ap (λ l. take 64 (different l)) lines);
      answers = subst (λ cs. AllByRecursion (λ e. e.1 ≡ answered cs e.0) ((line, text) ∷ take 63 es)) (sym same)
          (right, all_taken (λ e. e.1 ≡ answered (changes past) e.0) 63 es h.answers);
    }

-- after a line that asks nothing and changes nothing

pub used_no_more : (es : Kept) (past now : List Exchange) → HoldsAnswers es past → asked now ≡ asked past → changes now ≡ changes past → HoldsAnswers es now
used_no_more es past now h lines same = record {
  lines = h.lines ∙ sym (ap (λ l. take 64 (different l)) lines);
  answers = subst (λ cs. AllByRecursion (λ e. e.1 ≡ answered cs e.0) es) (sym same) h.answers;
}

pub none_kept : (es : Kept) (now : List Exchange) → es ≡ [] → asked now ≡ [] → HoldsAnswers es now
none_kept es now none lines = record {
  lines = ap keys_of none ∙ sym (ap (λ l. take 64 (different l)) lines);
  answers = subst (λ l. AllByRecursion (λ e. e.1 ≡ answered (changes now) e.0) l) (sym none) tt;
}
