-- One line more.
use Rattle.std.proofs.Common.{◌≡◌, ℕ, zero, suc, ◌+◌, ◌≤◌, Bool, true, false, cond, not, ◌&&◌, List, [], ◌∷◌, ◌++◌, Option, Some, None, filter, is_some, length, reverse, take, refl, sym, ap, subst, ◌∙◌, arith, zero-add}
use Rattle.std.proofs.lemmas.List.{length-reverse, reverse-append}
use Rattle.std.specs.List.{cons_option}
use Rattle.std.specs.Option.{unwrap_or}
use Rattle.std.specs.Prelude.{bytes_eq, codes, filter_map}
use Rattle.lru.specs.LruCache.{promoted}
use Rattle.ncd_app.specs.Cache.{HoldsAnswers, answer_by, answer_in}
use Rattle.ncd_app.specs.Commands.{asks, command_of}
use Rattle.ncd_app.specs.Definition.{Exchange, answer, asked, change_in, changes, exchange, exchanges, found_from, hits, is_full, is_hit, is_ok, listed, misses, record_of, refusal, refusal_of, reply, reply_to, statistics}
use Rattle.ncd_app.specs.Stands.{NcdValue, Replied, Stands, StandsFor}
use Rattle.ncd_app.specs.Table.{HoldsChanges}
use Rattle.ncd_app.specs.declared.line.Change.{Change}
use Rattle.ncd_app.specs.declared.line.Command.TheVariants as command
use Rattle.ncd_app.specs.declared.line.Command.{Command}
use Rattle.ncd_app.specs.declared.line.Question.TheVariants.{Get, Who}
use Rattle.ncd_app.specs.declared.line.Question.{Question}
use Rattle.ncd_app.specs.declared.line.Record.TheVariants.{Alias, Value}
use Rattle.ncd_app.specs.declared.line.Record.{Record}
use Rattle.ncd_app.proofs.Kept.{kept_answer, kept_is_hit, none_kept, used_again, used_first, used_no_more}

-- what another line makes of the lists

changes_same : (past : List Exchange) (s : Exchange) → is_ok s ≡ false → changes (s ∷ past) ≡ changes past
changes_same past s h = ap (λ b. filter_map (λ t. change_in (command_of t.line)) (cond b (s ∷ filter is_ok past) (filter is_ok past))) h

changes_more : (past : List Exchange) (s : Exchange) (c : Change) → is_ok s ≡ true → command_of s.line ≡ command.Change c → changes (s ∷ past) ≡ c ∷ changes past
changes_more past s c h e =
    ap (λ b. filter_map (λ t. change_in (command_of t.line)) (cond b (s ∷ filter is_ok past) (filter is_ok past))) h
    ∙ ap (λ k. cons_option (change_in k) (changes past)) e

asked_none : (past : List Exchange) (s : Exchange) → is_ok s ≡ true → asked (s ∷ past) ≡ []
asked_none past s h = ap (λ b. cond b [] (cond (asks (command_of s.line)) (s.line ∷ asked past) (asked past))) h

asked_if : (past : List Exchange) (s : Exchange) (b : Bool) → is_ok s ≡ false → asks (command_of s.line) ≡ b → asked (s ∷ past) ≡ cond b (s.line ∷ asked past) (asked past)
asked_if past s b h a = ap (λ o. cond o [] (cond (asks (command_of s.line)) (s.line ∷ asked past) (asked past))) h ∙ ap (λ o. cond o (s.line ∷ asked past) (asked past)) a

hits_same : (past : List Exchange) (s : Exchange) → asks (command_of s.line) ≡ false → hits past ≡ hits (s ∷ past)
hits_same past s h = sym (ap (λ b. cond (b && is_hit past s.line) 1 0 + hits past) h ∙ zero-add (hits past))

misses_same : (past : List Exchange) (s : Exchange) → asks (command_of s.line) ≡ false → misses past ≡ misses (s ∷ past)
misses_same past s h = sym (ap (λ b. cond (b && not (is_hit past s.line)) 1 0 + misses past) h ∙ zero-add (misses past))

hits_if : (past : List Exchange) (s : Exchange) (b : Bool) → asks (command_of s.line) ≡ true → is_hit past s.line ≡ b → hits (s ∷ past) ≡ cond b 1 0 + hits past
hits_if past s b a h = λ i. cond (a i && h i) 1 0 + hits past

misses_if : (past : List Exchange) (s : Exchange) (b : Bool) → asks (command_of s.line) ≡ true → is_hit past s.line ≡ b → misses (s ∷ past) ≡ cond (not b) 1 0 + misses past
misses_if past s b a h = λ i. cond (a i && not (h i)) 1 0 + misses past

-- a line that changes nothing and asks nothing

quiet : (n : NcdValue) (past : List Exchange) (s : Exchange) → is_ok s ≡ false → asks (command_of s.line) ≡ false → Stands n past → Stands n (s ∷ past)
quiet n past s h a stands = record {
  table = subst (HoldsChanges n.records) (sym (changes_same past s h)) stands.table;
  cache = used_no_more n.cached past (s ∷ past) stands.cache (asked_if past s false h a) (changes_same past s h);
  hit = stands.hit ∙ hits_same past s a;
  missed = stands.missed ∙ misses_same past s a;
}

-- a reply to a line, by what the line is for
reply_as : (past : List Exchange) (line : List ℕ) (k : Command) → command_of line ≡ k → is_ok (exchange past line) ≡ bytes_eq (reply_to past k) (codes "ok")
reply_as past line k e = ap (λ d. bytes_eq (reply_to past d) (codes "ok")) e

pub quiet_line : (n : NcdValue) (past : List Exchange) (line text : List ℕ) (k : Command) → command_of line ≡ k → reply_to past k ≡ text → bytes_eq text (codes "ok") ≡ false → asks k ≡ false → Stands n past → Stands n (exchange past line ∷ past)
quiet_line n past line text k e r refused a stands =
    quiet n past (exchange past line) (reply_as past line k e ∙ ap (λ t. bytes_eq t (codes "ok")) r ∙ refused) (ap asks e ∙ a) stands

-- a line that changes a record

changed_line : (n now : NcdValue) (past : List Exchange) (line : List ℕ) (c : Change) → command_of line ≡ command.Change c → refusal (changes past) c ≡ None → HoldsChanges now.records (c ∷ changes past) → now.cached ≡ [] → now.hits ≡ n.hits → now.misses ≡ n.misses → Stands n past → Stands now (exchange past line ∷ past)
changed_line n now past line c e r table cache hit missed stands =
    let ok : is_ok (exchange past line) ≡ true = reply_as past line (command.Change c) e ∙ ap (λ o. bytes_eq (unwrap_or o (codes "ok")) (codes "ok")) r in
    let a : asks (command_of line) ≡ false = ap asks e in
    record {
      table = subst (HoldsChanges now.records) (sym (changes_more past (exchange past line) c ok e)) table;
      cache = none_kept now.cached (exchange past line ∷ past) cache (asked_none past (exchange past line) ok);
      hit = hit ∙ stands.hit ∙ hits_same past (exchange past line) a;
      missed = missed ∙ stands.missed ∙ misses_same past (exchange past line) a;
    }

-- an answer is not `ok`

found_not_ok : (cs : List Change) (left : ℕ) (o : Option Record) → bytes_eq (found_from cs left o) (codes "ok") ≡ false
unfolding found_from
found_not_ok cs zero None = refl
found_not_ok cs zero (Some (Value v)) = refl
found_not_ok cs zero (Some (Alias t)) = refl
found_not_ok cs (suc left) None = refl
found_not_ok cs (suc left) (Some (Value v)) = refl
found_not_ok cs (suc left) (Some (Alias t)) = found_not_ok cs left (record_of cs t)

listed_not_ok : (keys : List (List ℕ)) → bytes_eq (listed keys) (codes "ok") ≡ false
listed_not_ok [] = refl
listed_not_ok (k ∷ ks) = refl

answer_not_ok : (cs : List Change) (q : Question) → bytes_eq (answer cs q) (codes "ok") ≡ false
answer_not_ok cs (Get key) = found_not_ok cs 8 (record_of cs key)
answer_not_ok cs (Who value) = listed_not_ok _

question_not_ok : (past : List Exchange) (line : List ℕ) (q : Question) → command_of line ≡ command.Ask q → is_ok (exchange past line) ≡ false
question_not_ok past line q e = reply_as past line (command.Ask q) e ∙ answer_not_ok (changes past) q

same_text : (t text : List ℕ) → Some t ≡ Some text → t ≡ text
same_text t text h = cc

-- counts
one_more : (n m : ℕ) → n ≡ m → n + 1 ≡ 1 + m
one_more n m e = omega arith

no_more : (n m : ℕ) → n ≡ m → n ≡ 0 + m
no_more n m e = omega arith

-- a line that asks

hit_step : (n now : NcdValue) (past : List Exchange) (line text : List ℕ) (q : Question) → command_of line ≡ command.Ask q → answer_in n.cached line ≡ Some text → now.records ≡ n.records → now.cached ≡ promoted (bytes_eq line) n.cached → now.hits ≡ n.hits + 1 → now.misses ≡ n.misses → Stands n past → (text ≡ reply_to past (command_of line)) × Stands now (exchange past line ∷ past)
hit_step n now past line text q e there table cache hit missed stands =
    let refused = question_not_ok past line q e in
    let a : asks (command_of line) ≡ true = ap asks e in
    let is : is_hit past line ≡ true = kept_is_hit n.cached past line stands.cache ∙ ap is_some there in (
      kept_answer n.cached past line text stands.cache there ∙ ap (answer_by (changes past)) e ∙ sym (ap (reply_to past) e),
      record {
        table = subst (λ es. HoldsChanges es (changes (exchange past line ∷ past))) (sym table) (subst (HoldsChanges n.records) (sym (changes_same past (exchange past line) refused)) stands.table);
        cache = subst (λ es. HoldsAnswers es (exchange past line ∷ past)) (sym cache) (used_again n.cached past (exchange past line ∷ past) line text stands.cache there (asked_if past (exchange past line) true refused a) (changes_same past (exchange past line) refused));
        hit = hit ∙ one_more n.hits (hits past) stands.hit ∙ sym (hits_if past (exchange past line) true a is);
        missed = missed ∙ no_more n.misses (misses past) stands.missed ∙ sym (misses_if past (exchange past line) true a is);
      },
    )

miss_step : (n now : NcdValue) (past : List Exchange) (line text : List ℕ) (q : Question) → command_of line ≡ command.Ask q → answer_in n.cached line ≡ None → text ≡ answer (changes past) q → now.records ≡ n.records → now.cached ≡ (line, text) ∷ take 63 n.cached → now.hits ≡ n.hits → now.misses ≡ n.misses + 1 → Stands n past → (text ≡ reply_to past (command_of line)) × Stands now (exchange past line ∷ past)
miss_step n now past line text q e none right table cache hit missed stands =
    let refused = question_not_ok past line q e in
    let a : asks (command_of line) ≡ true = ap asks e in
    let is : is_hit past line ≡ false = kept_is_hit n.cached past line stands.cache ∙ ap is_some none in (
      right ∙ sym (ap (reply_to past) e),
      record {
        table = subst (λ es. HoldsChanges es (changes (exchange past line ∷ past))) (sym table) (subst (HoldsChanges n.records) (sym (changes_same past (exchange past line) refused)) stands.table);
        cache = subst (λ es. HoldsAnswers es (exchange past line ∷ past)) (sym cache) (used_first n.cached past (exchange past line ∷ past) line text stands.cache none (right ∙ sym (ap (answer_by (changes past)) e)) (asked_if past (exchange past line) true refused a) (changes_same past (exchange past line) refused));
        hit = hit ∙ no_more n.hits (hits past) stands.hit ∙ sym (hits_if past (exchange past line) false a is);
        missed = missed ∙ one_more n.misses (misses past) stands.missed ∙ sym (misses_if past (exchange past line) false a is);
      },
    )

pub hit_line : (n now : NcdValue) (line text : List ℕ) (q : Question) → command_of line ≡ command.Ask q → answer_in n.cached line ≡ Some text → now.records ≡ n.records → now.cached ≡ promoted (bytes_eq line) n.cached → now.hits ≡ n.hits + 1 → now.misses ≡ n.misses → Replied n now line text
hit_line n now line text q e there table cache hit missed = record { step = λ past stands. hit_step n now past line text q e there table cache hit missed stands }

pub miss_line : (n now : NcdValue) (line text : List ℕ) (q : Question) → command_of line ≡ command.Ask q → answer_in n.cached line ≡ None → ((cs : List Change) → HoldsChanges n.records cs → text ≡ answer cs q) → now.records ≡ n.records → now.cached ≡ (line, text) ∷ take 63 n.cached → now.hits ≡ n.hits → now.misses ≡ n.misses + 1 → Replied n now line text
miss_line n now line text q e none right table cache hit missed = record { step = λ past stands. miss_step n now past line text q e none (right (changes past) stands.table) table cache hit missed stands }

-- replies to other lines

pub statistics_line : (n : NcdValue) (line text : List ℕ) → command_of line ≡ command.Statistics → text ≡ statistics n.hits n.misses → Replied n n line text
statistics_line n line text e t = record {
  step = λ past stands. (
    t ∙ (λ i. statistics (stands.hit i) (stands.missed i)) ∙ sym (ap (reply_to past) e),
    quiet_line n past line (statistics (hits past) (misses past)) command.Statistics e refl refl refl stands,
  );
}

pub bad_line : (n : NcdValue) (line text : List ℕ) → command_of line ≡ command.Bad → text ≡ codes "bad" → Replied n n line text
bad_line n line text e t = record {
  step = λ past stands. (t ∙ sym (ap (reply_to past) e), quiet_line n past line (codes "bad") command.Bad e refl refl refl stands);
}

-- replies to changes

full_not_ok : (full : Bool) (text : List ℕ) → cond full (Some (codes "full")) None ≡ Some text → bytes_eq text (codes "ok") ≡ false
full_not_ok true text h = subst (λ t. bytes_eq t (codes "ok") ≡ false) (same_text (codes "full") text h) refl
full_not_ok false text h = absurd (cc)

none_not_ok : (there : Bool) (text : List ℕ) → cond there None (Some (codes "none")) ≡ Some text → bytes_eq text (codes "ok") ≡ false
none_not_ok true text h = absurd (cc)
none_not_ok false text h = subst (λ t. bytes_eq t (codes "ok") ≡ false) (same_text (codes "none") text h) refl

refusal_not_ok : (cs : List Change) (key : List ℕ) (made : Option Record) (text : List ℕ) → refusal_of cs key made ≡ Some text → bytes_eq text (codes "ok") ≡ false
refusal_not_ok cs key None text h = none_not_ok (is_some (record_of cs key)) text h
refusal_not_ok cs key (Some made) text h = full_not_ok (is_full cs key) text h

pub refused_line : (n : NcdValue) (line text : List ℕ) (c : Change) → command_of line ≡ command.Change c → ((cs : List Change) → HoldsChanges n.records cs → refusal cs c ≡ Some text) → Replied n n line text
refused_line n line text c e refused = record {
  step = λ past stands.
      let why : refusal (changes past) c ≡ Some text = refused (changes past) stands.table in
      let r : unwrap_or (refusal (changes past) c) (codes "ok") ≡ text = ap (λ o. unwrap_or o (codes "ok")) why in
      (sym (ap (reply_to past) e ∙ r), quiet_line n past line text (command.Change c) e r (refusal_not_ok (changes past) c.key c.made text why) refl stands);
}

pub done_line : (n now : NcdValue) (line text : List ℕ) (c : Change) → command_of line ≡ command.Change c → ((cs : List Change) → HoldsChanges n.records cs → refusal cs c ≡ None) → ((cs : List Change) → HoldsChanges n.records cs → HoldsChanges now.records (c ∷ cs)) → text ≡ codes "ok" → now.cached ≡ [] → now.hits ≡ n.hits → now.misses ≡ n.misses → Replied n now line text
done_line n now line text c e free table t cache hit missed = record {
  step = λ past stands.
      let none = free (changes past) stands.table in
      (t ∙ sym (ap (reply_to past) e ∙ ap (λ o. unwrap_or o (codes "ok")) none), changed_line n now past line c e none (table (changes past) stands.table) cache hit missed stands);
}

-- all lines

at_most_one : (a h : Bool) → cond (a && h) 1 0 + cond (a && not h) 1 0 ≤ 1
at_most_one true true = omega arith
at_most_one true false = omega arith
at_most_one false h = omega arith

few_counted : (past : List Exchange) → hits past + misses past ≤ length past
few_counted [] = omega arith
few_counted (s ∷ past) = omega (arith, at_most_one (asks (command_of s.line)) (is_hit past s.line), few_counted past)

length_exchanges : (lines : List (List ℕ)) → length (exchanges lines) ≡ length lines
length_exchanges [] = refl
length_exchanges (line ∷ lines) = ap suc (length_exchanges lines)

pub exchanges_more : (lines : List (List ℕ)) (line : List ℕ) → exchanges (reverse (lines ++ line ∷ [])) ≡ exchange (exchanges (reverse lines)) line ∷ exchanges (reverse lines)
exchanges_more lines line = ap exchanges (reverse-append lines (line ∷ []))

pub stands_for : (n : NcdValue) (lines : List (List ℕ)) → Stands n (exchanges (reverse lines)) → StandsFor n lines
stands_for n lines stands =
    let few = few_counted (exchanges (reverse lines)) in
    let long : length (exchanges (reverse lines)) ≡ length lines = length_exchanges (reverse lines) ∙ length-reverse lines in
    let counted : n.hits + n.misses ≡ hits (exchanges (reverse lines)) + misses (exchanges (reverse lines)) = λ i. stands.hit i + stands.missed i in
    record { stands = stands; few = omega arith }

pub stands_more : (n : NcdValue) (lines : List (List ℕ)) (line : List ℕ) → Stands n (exchange (exchanges (reverse lines)) line ∷ exchanges (reverse lines)) → StandsFor n (lines ++ line ∷ [])
stands_more n lines line stands = stands_for n (lines ++ line ∷ []) (subst (Stands n) (sym (exchanges_more lines line)) stands)

-- what a reply gives where it stands for lines
pub right_reply : (n now : NcdValue) (line text : List ℕ) → Replied n now line text → (lines : List (List ℕ)) → StandsFor n lines → text ≡ reply lines line
right_reply n now line text r lines h = (r.step (exchanges (reverse lines)) h.stands).0

pub stands_after : (n now : NcdValue) (line text : List ℕ) → Replied n now line text → (lines : List (List ℕ)) → StandsFor n lines → StandsFor now (lines ++ line ∷ [])
stands_after n now line text r lines h = stands_more now lines line (r.step (exchanges (reverse lines)) h.stands).1
