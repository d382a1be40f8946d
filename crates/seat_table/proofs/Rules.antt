-- Each step keeps the rule.
use Rattle.std.proofs.Common.{◌≡◌, ℕ, zero, suc, ◌+◌, ◌*◌, ◌%◌, ◌^◌, ◌<◌, ◌≤◌, ◌≢◌, ◌⊎◌, List, [], ◌∷◌, ◌++◌, length, get_or, set, cond, Bool, true, false, eqb, leb, Option, Some, refl, ap, sym, subst, ◌∙◌, inl, inr, ⊎_elim, arith, length-append, eq-eqb, ne_eqb}
use Rattle.std.proofs.Math.Nat.{mod-eq_of_lt}
use Rattle.std.proofs.lemmas.Bool.{leb-true, leb-false}
use Rattle.std.proofs.lemmas.List.{append-nil}
use mathlib.Core.Logic.{dite}
use mathlib.Core.Option as maybe
use mathlib.Core.Option.{some, some-injective, some-ne-none, none}
use mathlib.Core.List.{IsPrefix}
use native.Mathlib.Decide.{ℕ_discrete}
use lib.ListN.{get_elem?}
use lib.Seq.{set-get_or}
use Rattle.atomic_table.specs.Table.{Act, State, Valid, carried_after, rest, step, keeps, takes, gives, stepped, Allows, Splits, Joins}
use Rattle.atomic_table.proofs.Lists.{at_set, set_again, set_else}
use Rattle.seat_table.specs.declared.limits.TheConstants.{CALLS_MAX, HISTORY_MAX, SEATS_MAX}
use Rattle.seat_table.specs.declared.view.View.{View}
use Rattle.seat_table.specs.declared.view.Stage.{Stage}
use Rattle.seat_table.specs.declared.view.Stage.TheVariants.{Out, Waits, Turn, Told}
use Rattle.seat_table.specs.Sums.{total}
use Rattle.seat_table.specs.Rule.{Appends, Board, Called, Draws, Fits, IsHome, Kept, Leaves, Looks, Reads, Sitting, Stands, by, drawn, draws_of, held, joined, left, longer, made_of, note_of, opened, pending, sits_of, split_left, split_right, ticket_in, told, turned, turns, turns_of, waits, waits_of}
use Rattle.seat_table.proofs.Entries.{by-mine, by-other}
use Rattle.seat_table.proofs.Lists.{prefix_trans, prefix_shorter, prefix_length, all_map, sum_set, sum_at, sum_snoc, sum_zero, sum_le, sum_times, at_end, only_one}

module _ {E D : Type 0} (history : D → List E) (seat : E → ℕ) where
  abbrev St : Type 0
  St = State (Option D) (View E)

  -- the rule of a table that was just made

  abbrev first : Board E
  first = record { ticket = 0; serving = 0; next = 1; log = []; holder = λ _. 0; place = λ _. 0 }

  pub opens : (s : St) (d : D) → s.words ≡ 0 ∷ 0 ∷ 0 ∷ [] → s.homes ≡ some (Some d) ∷ [] → history d ≡ [] → s.views ≡ opened ∷ [] → Kept history seat s
  opens s d words homes empty views = let V : List (View E) = opened ∷ [] in record {
    board = first;
    words = words;
    draws = ap draws_of views;
    waiting = ap (λ (vs : List (View E)). waits_of vs + 0) views;
    seats = ap sits_of views;
    made = ap made_of views;
    few = omega arith;
    later = λ n _. refl;
    home = λ _. (d, homes, empty);
    each = λ j v at. opens_at j v (subst (λ (vs : List (View E)). get_elem? vs j ≡ some v) views at);
  }
    where
      opens_at : (j : ℕ) (v : View E) → get_elem? (opened ∷ []) j ≡ some v → Fits seat first j v
      opens_at zero v e = subst (Fits seat first 0) (some-injective opened v e) record {
        stands = refl;
        seen = ([], refl);
        few = omega arith;
        made = omega arith;
        mine = λ _. (refl, omega arith, refl);
        keeper = λ _. (refl, refl);
        olds = tt;
      }
      opens_at (suc j) v e = absurd (some-ne-none v (sym e))

  -- what a view stands for stays so, where what it says of its own ticket does
  stands_on : (b b' : Board E) (j : ℕ) (u : View E) → b.ticket ≤ b'.ticket → ((x : ℕ) → x < b.ticket → b.holder x ≡ j → b'.holder x ≡ j)
      → ((x : ℕ) → b.holder x ≡ j → b.serving ≤ x → b'.serving ≤ x) → ((x : ℕ) → b.holder x ≡ j → b.serving ≡ x → (b'.serving ≡ x) × (b.log ≡ b'.log))
      → (st : Stage) → Stands b j u st → Stands b' j u st
  stands_on b b' j u more hold up same Out k = k
  stands_on b b' j u more hold up same (Waits x) k = (hold x k.2 k.0, up x k.0 k.1, omega (arith, k.2), k.3)
  stands_on b b' j u more hold up same (Turn x) k = let m = same x k.0 k.1 in (hold x k.2 k.0, m.0, omega (arith, k.2), k.3 ∙ m.1)
  stands_on b b' j u more hold up same (Told x) k = let m = same x k.0 k.1 in (hold x k.2 k.0, m.0, omega (arith, k.2), k.3 ∙ m.1, k.4 ∙ m.1)

  -- the same of all that holds of a view, where the history goes on and has no new entry of its seat
  fits_on : (b b' : Board E) (j : ℕ) (u : View E) → b.ticket ≤ b'.ticket → ((x : ℕ) → x < b.ticket → b.holder x ≡ j → b'.holder x ≡ j)
      → ((x : ℕ) → b.holder x ≡ j → b.serving ≤ x → b'.serving ≤ x) → ((x : ℕ) → b.holder x ≡ j → b.serving ≡ x → (b'.serving ≡ x) × (b.log ≡ b'.log))
      → IsPrefix b.log b'.log → ((n : ℕ) → n < b.next → b.place n ≡ j → (by seat n b.log ≡ by seat n b'.log) × (b'.place n ≡ j)) → b.next ≤ b'.next
      → (0 < u.next → b.next ≡ b'.next) → Fits seat b j u → Fits seat b' j u
  fits_on b b' j u more hold up same goes own wide keeper f = record {
    stands = stands_on b b' j u more hold up same u.stage f.stands;
    seen = prefix_trans u.seen b.log b'.log f.seen goes;
    few = f.few;
    made = f.made;
    mine = λ sits. let m = f.mine sits in let o = own u.number m.1 m.2 in (m.0 ∙ o.0, omega (arith, m.1), o.1);
    keeper = λ some. let k = f.keeper some in (k.0 ∙ keeper some, k.1);
    olds = all_map (λ (xs : List E). IsPrefix xs b.log × (length xs ≤ length u.seen)) (λ (xs : List E). IsPrefix xs b'.log × (length xs ≤ length u.seen))
        (λ xs k. (prefix_trans xs b.log b'.log k.0 goes, k.1)) u.olds f.olds;
  }

  -- the ticket word cannot wrap, and the count is no larger
  bounded : (s : St) (r : Kept history seat s) → (r.board.ticket ≤ HISTORY_MAX) × (length r.board.log ≤ r.board.ticket)
  bounded s r =
      let a : draws_of s.views ≤ total (λ (v : View E). CALLS_MAX * v.sits) s.views = sum_le (λ (v : View E). v.draws) (λ (v : View E). CALLS_MAX * v.sits) s.views (λ j v at. (r.each j v at).few) in
      let b = sum_times (λ (v : View E). v.sits) s.views in
      let c : made_of s.views ≤ draws_of s.views = sum_le (λ (v : View E). length v.mine) (λ (v : View E). v.draws) s.views (λ j v at. let m = (r.each j v at).made in omega arith) in
      (omega (arith, r.draws, r.seats, r.few), omega (arith, r.draws, r.made))

  next_of : (n : ℕ) → n ≤ HISTORY_MAX → (n + 1) % 2 ^ 64 ≡ n + 1
  next_of n le = mod-eq_of_lt (omega arith)

  -- One view changes from v to w. The other views still fit, and the sums are right
  moved : (s : St) (r : Kept history seat s) (id : ℕ) (v w : View E) → get_elem? s.views id ≡ some v → (words' : List ℕ) (homes' : List (maybe.Option (Option D))) (b : Board E)
      → b.next ≡ r.board.next
      → words' ≡ b.ticket ∷ b.serving ∷ length b.log ∷ []
      → w.draws + r.board.ticket ≡ v.draws + b.ticket
      → waits w.stage + r.board.ticket + b.serving ≡ waits v.stage + b.ticket + r.board.serving
      → w.sits ≡ v.sits
      → length w.mine + length r.board.log ≡ length v.mine + length b.log
      → ((n : ℕ) → b.next ≤ n → by seat n b.log ≡ [])
      → (turns_of (set s.views id w) ≡ 0 → IsHome history b.log homes')
      → ((j : ℕ) (u : View E) → j ≢ id → get_elem? s.views j ≡ some u → Fits seat b j u)
      → Fits seat b id w
      → Kept history seat record { words = words'; homes = homes'; views = set s.views id w }
  moved s r id v w at words' homes' b next words draws waiting sits made later home others mine = record {
    board = b;
    words = words;
    draws = omega (arith, sum_set (λ (x : View E). x.draws) s.views id v w at, r.draws, draws);
    waiting = omega (arith, sum_set (λ (x : View E). waits x.stage) s.views id v w at, r.waiting, waiting);
    seats = omega (arith, sum_set (λ (x : View E). x.sits) s.views id v w at, r.seats, sits, next);
    made = omega (arith, sum_set (λ (x : View E). length x.mine) s.views id v w at, r.made, made);
    few = omega (arith, r.few, next);
    later = later;
    home = home;
    each = λ j u e. ⊎_elim (λ (c : (j ≡ id) × (w ≡ u)). subst (λ (x : ℕ × View E). Fits seat b x.0 x.1) (λ i. (sym c.0 i, c.1 i)) mine)
        (λ (c : (j ≢ id) × (get_elem? s.views j ≡ some u)). others j u c.0 c.1) (at_set s.views id j w u e);
  }

  -- a step that changes nothing
  unmoved : (s : St) (r : Kept history seat s) (i id : ℕ) (me : Sitting E D) → get_elem? s.views id ≡ some me.0 → Kept history seat (stepped s i (get_or s.words i 0) id me.1 me.0 keeps)
  unmoved s r i id me at = subst (λ (x : List ℕ × List (View E)). Kept history seat record { words = x.0; homes = s.homes; views = x.1 }) (λ k. (sym (set-get_or s.words i 0) k, sym (set_again s.views id me.0 at) k)) r

  -- a seat draws a ticket
  pub draws : (slots id : ℕ) (me : Sitting E D) → me.0.sits ≡ 1 → me.0.draws < CALLS_MAX → me.0.stage ≡ Out → Allows (Kept history seat) slots id me 0 (λ n. (n + 1) % 2 ^ 64) (Draws (step slots 0 1 0 none) me)
  draws slots id me sits few out s r _ at _ =
      let v : View E = me.0 in let t : ℕ = r.board.ticket in let f = r.each id v at in
      let w : View E = drawn v t in let h : ℕ → ℕ = λ x. cond (eqb x t) id (r.board.holder x) in
      let b : Board E = record r.board { ticket = t + 1; holder = h } in
      let bound : (t ≤ HISTORY_MAX) × (length r.board.log ≤ t) = bounded s r in
      let serves : r.board.serving ≤ t = omega (arith, r.waiting) in
      let made : length v.mine + 0 ≤ v.draws = subst (λ (x : Stage). length v.mine + pending x ≤ v.draws) out f.made in
      let whole : v.whole ≡ [] = subst (λ (x : Stage). Stands r.board id v x) out f.stands in
      let hold : (j : ℕ) (x : ℕ) → x < t → r.board.holder x ≡ j → h x ≡ j = λ j x below is. ap (λ b. cond b id (r.board.holder x)) (ne_eqb x t (λ e. omega arith)) ∙ is in
      let kept : Kept history seat record { words = set s.words 0 ((t + 1) % 2 ^ 64); homes = s.homes; views = set s.views id w } =
      moved s r id v w at (set s.words 0 ((t + 1) % 2 ^ 64)) s.homes b refl
      (ap (λ ws. set ws 0 ((t + 1) % 2 ^ 64)) r.words ∙ (λ i. next_of t bound.0 i ∷ r.board.serving ∷ length r.board.log ∷ []))
      (omega arith)
      (omega (arith, ap waits out))
      refl
      refl
      r.later
      (λ none. r.home (omega (arith, none, sum_set (λ (x : View E). turns x.stage) s.views id v w at, ap turns out)))
      (λ j u other e. fits_on r.board b j u (omega arith) (hold j) (λ x _ le. le) (λ x _ is. (is, refl)) ([], append-nil r.board.log) (λ n _ is. (refl, is)) (omega arith) (λ _. refl) (r.each j u e))
      record {
        stands = (ap (λ b. cond b id (r.board.holder t)) (eq-eqb t t refl), serves, omega arith, whole);
        seen = f.seen;
        few = omega arith;
        made = omega arith;
        mine = f.mine;
        keeper = f.keeper;
        olds = f.olds;
      } in
      subst (λ (n : ℕ). (w : View E) × (a : Act (Option D)) × Valid s.homes me.1 a × Kept history seat (stepped s 0 ((n + 1) % 2 ^ 64) id me.1 w a) × Draws (step slots 0 1 0 none) me n (w, carried_after me.1 a))
      (sym (ap (λ ws. get_or ws 0 0) r.words)) (w, keeps, tt, kept, (refl, refl))

  -- where a view has the turn, its ticket's holder is that of the ticket that is served
  turn_of : (b : Board E) (j : ℕ) (u : View E) (st : Stage) → Stands b j u st → (turns st ≡ 0) ⊎ (b.holder b.serving ≡ j)
  turn_of b j u Out k = inl refl
  turn_of b j u (Waits x) k = inl refl
  turn_of b j u (Turn x) k = inr (ap b.holder k.1 ∙ k.0)
  turn_of b j u (Told x) k = inr (ap b.holder k.1 ∙ k.0)

  same_at : (vs : List (View E)) (i j : ℕ) (v u : View E) → get_elem? vs i ≡ some v → get_elem? vs j ≡ some u → i ≡ j → v ≡ u
  same_at vs i j v u a b is = some-injective v u (sym a ∙ (ap (λ (k : ℕ). get_elem? vs k) is ∙ b))

  -- a seat that waits looks at the ticket that is served, and has the turn where it is its own
  pub looks : (slots id t : ℕ) (me : Sitting E D) → me.0.sits ≡ 1 → me.0.stage ≡ Waits t → me.1 ≡ [] → Allows (Kept history seat) slots id me 1 (λ n. n) (Looks history seat (step slots 1 0 0 none) me)
  looks slots id t me sits waits_t empty s r _ at _ =
      let v : View E = me.0 in let n : ℕ = get_or s.words 1 0 in let f = r.each id v at in let log : List E = r.board.log in
      let read : n ≡ r.board.serving = ap (λ ws. get_or ws 1 0) r.words in
      let stands : Stands r.board id v (Waits t) = subst (λ (x : Stage). Stands r.board id v x) waits_t f.stands in
      let tick : t ≡ ticket_in v.stage = sym (ap ticket_in waits_t) in
      let bound : (r.board.ticket ≤ HISTORY_MAX) × (length r.board.log ≤ r.board.ticket) = bounded s r in
      dite (ℕ_discrete n (ticket_in v.stage))
      (λ hit.
      let now : r.board.serving ≡ t = sym read ∙ (hit ∙ sym tick) in
      let none_has : turns_of s.views ≡ 0 = sum_zero (λ (x : View E). turns x.stage) s.views (λ j u e. ⊎_elim (λ z. z)
      (λ (z : r.board.holder r.board.serving ≡ j). let same : v ≡ u = same_at s.views id j v u at e (sym stands.0 ∙ (ap r.board.holder (sym now) ∙ z)) in ap (λ (x : View E). turns x.stage) (sym same) ∙ ap turns waits_t)
      (turn_of r.board j u u.stage (r.each j u e).stands)) in
      let home = r.home none_has in
      let d : D = home.0 in
      let w : View E = turned v (history d) in
      let made : length v.mine + 1 ≤ v.draws = subst (λ (x : Stage). length v.mine + pending x ≤ v.draws) waits_t f.made in (
        w,
        takes 0 (Some d),
        ap (λ hs. get_elem? hs 0) home.1,
        moved s r id v w at (set s.words 1 n) (set s.homes 0 none) r.board refl
            (ap (λ ws. set ws 1 n) r.words ∙ (λ i. r.board.ticket ∷ read i ∷ length log ∷ []))
            refl
            (omega (arith, ap waits waits_t))
            refl
            refl
            r.later
            (λ none. absurd (omega (arith, none, sum_set (λ (x : View E). turns x.stage) s.views id v w at, ap turns waits_t)))
            (λ j u other e. r.each j u e)
            record {
              stands = (ap r.board.holder (sym tick) ∙ stands.0, now ∙ tick, omega (arith, stands.2), home.2);
              seen = f.seen;
              few = f.few;
              made = made;
              mine = f.mine;
              keeper = f.keeper;
              olds = f.olds;
            },
        ((λ _. (d, (λ i. (w, (0, Some d) ∷ empty i)), subst (Called seat v) (sym home.2) record { seen = f.seen; mine = (f.mine sits).0; few = omega arith })), λ miss. absurd (miss hit)),
      ))
      (λ miss. (v, keeps, tt, unmoved s r 1 id me at, ((λ hit. absurd (miss hit)), λ _. (refl, refl))))

  -- the seat that has the turn adds its entry to the history
  pub appends : (slots id t : ℕ) (me : Sitting E D) (d : D) (e : E) → me.0.sits ≡ 1 → me.0.stage ≡ Turn t → me.1 ≡ (0, Some d) ∷ [] → history d ≡ me.0.whole ++ e ∷ [] → seat e ≡ me.0.number
      → Allows (Kept history seat) slots id me 2 (λ n. (n + 1) % 2 ^ 64) (Appends history seat (step slots 2 1 0 none) me)
  appends slots id t me d e sits turn_t has grown own s r _ at _ =
      let v : View E = me.0 in let f = r.each id v at in let log : List E = r.board.log in let all : List E = held history me.1 in let w : View E = told seat v all in
      let b : Board E = record r.board { log = all } in
      let stands : Stands r.board id v (Turn t) = subst (λ (x : Stage). Stands r.board id v x) turn_t f.stands in
      let tick : t ≡ ticket_in v.stage = sym (ap ticket_in turn_t) in
      let bound : (r.board.ticket ≤ HISTORY_MAX) × (length r.board.log ≤ r.board.ticket) = bounded s r in
      let longer_by : all ≡ log ++ e ∷ [] = ap (held history) has ∙ (grown ∙ ap (λ l. l ++ e ∷ []) stands.3) in
      let one_more : length all ≡ length log + 1 = ap length longer_by ∙ length-append log (e ∷ []) in
      let mine = f.mine sits in
      let longer_mine : by seat v.number all ≡ v.mine ++ e ∷ [] = ap (by seat v.number) longer_by ∙ (by-mine seat v.number log e own ∙ ap (λ l. l ++ e ∷ []) (sym mine.0)) in
      let one_mine : length (by seat v.number all) ≡ length v.mine + 1 = ap length longer_mine ∙ length-append v.mine (e ∷ []) in
      let goes : IsPrefix log all = (e ∷ [], sym longer_by) in
      let made : length v.mine + 1 ≤ v.draws = subst (λ (x : Stage). length v.mine + pending x ≤ v.draws) turn_t f.made in
      let elsewhere : (n : ℕ) → ¬ (n ≡ v.number) → by seat n all ≡ by seat n log = λ n other. ap (by seat n) longer_by ∙ by-other seat n log e (λ is. other (sym is ∙ own)) in
      let kept : Kept history seat record { words = set s.words 2 ((length log + 1) % 2 ^ 64); homes = s.homes; views = set s.views id w } =
      moved s r id v w at (set s.words 2 ((length log + 1) % 2 ^ 64)) s.homes b refl
      (ap (λ ws. set ws 2 ((length log + 1) % 2 ^ 64)) r.words ∙ (λ i. r.board.ticket ∷ r.board.serving ∷ (next_of (length log) (omega arith) ∙ sym one_more) i ∷ []))
      refl
      (omega (arith, ap waits turn_t))
      refl
      (omega arith)
      (λ n le. elsewhere n (λ is. omega (arith, mine.1)) ∙ r.later n le)
      (λ none. absurd (omega (arith, none, sum_set (λ (x : View E). turns x.stage) s.views id v w at, sum_at (λ (x : View E). turns x.stage) s.views id v at, ap turns turn_t)))
      (λ j u other k. fits_on r.board b j u (omega arith) (λ x _ is. is) (λ x _ le. le)
      (λ x is now. absurd (other (sym is ∙ (ap r.board.holder (sym now ∙ stands.1) ∙ stands.0)))) goes
      (λ n _ is. (sym (elsewhere n (λ same. other (sym is ∙ (ap r.board.place same ∙ mine.2)))), is)) (omega arith) (λ _. refl) (r.each j u k))
      record {
        stands = (ap r.board.holder (sym tick) ∙ stands.0, stands.1 ∙ tick, omega (arith, stands.2), refl, refl);
        seen = ([], append-nil all);
        few = f.few;
        made = omega arith;
        mine = λ _. (refl, mine.1, mine.2);
        keeper = f.keeper;
        olds = all_map (λ (xs : List E). IsPrefix xs log × (length xs ≤ length v.seen)) (λ (xs : List E). IsPrefix xs all × (length xs ≤ length all))
            (λ xs k. (prefix_trans xs log all k.0 goes, prefix_length xs all (prefix_trans xs log all k.0 goes))) v.olds f.olds;
      } in
      subst (λ (n : ℕ). (w : View E) × (a : Act (Option D)) × Valid s.homes me.1 a × Kept history seat (stepped s 2 ((n + 1) % 2 ^ 64) id me.1 w a) × Appends history seat (step slots 2 1 0 none) me n (w, carried_after me.1 a))
      (sym (ap (λ ws. get_or ws 2 0) r.words)) (w, keeps, tt, kept, (refl, refl))

  -- the seat that has the turn leaves it, and gives the value back, which has the whole history
  gone : (s : St) (r : Kept history seat s) (id t : ℕ) (me : Sitting E D) (d : D) → length s.homes ≡ 1 → get_elem? s.views id ≡ some me.0 → waits me.0.stage ≡ 1 → r.board.holder t ≡ id → r.board.serving ≡ t → t < r.board.ticket → me.0.whole ≡ r.board.log
      → history d ≡ me.0.whole → Kept history seat record { words = set s.words 1 ((r.board.serving + 1) % 2 ^ 64); homes = set s.homes 0 (some (Some d)); views = set s.views id (left me.0) }
  gone s r id t me d one at one_wait holds now below whole is =
      let v : View E = me.0 in let f = r.each id v at in let log : List E = r.board.log in let w : View E = left v in
      let b : Board E = record r.board { serving = r.board.serving + 1 } in
      let bound : (r.board.ticket ≤ HISTORY_MAX) × (length r.board.log ≤ r.board.ticket) = bounded s r in
      moved s r id v w at (set s.words 1 ((r.board.serving + 1) % 2 ^ 64)) (set s.homes 0 (some (Some d))) b refl
      (ap (λ ws. set ws 1 ((r.board.serving + 1) % 2 ^ 64)) r.words ∙ (λ i. r.board.ticket ∷ next_of r.board.serving (omega arith) i ∷ length log ∷ []))
      refl
      (omega arith)
      refl
      refl
      r.later
      (λ _. (d, only_one s.homes (some (Some d)) one, is ∙ whole))
      (λ j u other e. fits_on r.board b j u (omega arith) (λ x _ is. is)
      (λ x is le. let apart : ¬ (r.board.serving ≡ x) = λ same. other (sym is ∙ (ap r.board.holder (sym same ∙ now) ∙ holds)) in omega arith)
      (λ x is same. absurd (other (sym is ∙ (ap r.board.holder (sym same ∙ now) ∙ holds)))) ([], append-nil log) (λ n _ is. (refl, is)) (omega arith) (λ _. refl) (r.each j u e))
      record {
        stands = refl;
        seen = f.seen;
        few = f.few;
        made = omega (arith, f.made);
        mine = f.mine;
        keeper = f.keeper;
        olds = f.olds;
      }

  -- with an entry or with none
  gone_at : (s : St) (r : Kept history seat s) (id : ℕ) (me : Sitting E D) (d : D) (st : Stage) → me.0.stage ≡ st → Stands r.board id me.0 st → length s.homes ≡ 1 → get_elem? s.views id ≡ some me.0
      → turns st ≡ 1 → history d ≡ me.0.whole → Kept history seat record { words = set s.words 1 ((r.board.serving + 1) % 2 ^ 64); homes = set s.homes 0 (some (Some d)); views = set s.views id (left me.0) }
  gone_at s r id me d Out e k one at has is = absurd (omega (arith, has))
  gone_at s r id me d (Waits t) e k one at has is = absurd (omega (arith, has))
  gone_at s r id me d (Turn t) e k one at has is = gone s r id t me d one at (ap waits e) k.0 k.1 k.2 k.3 is
  gone_at s r id me d (Told t) e k one at has is = gone s r id t me d one at (ap waits e) k.0 k.1 k.2 k.3 is

  pub leaves : (slots id : ℕ) (me : Sitting E D) (d : D) → slots ≡ 1 → turns me.0.stage ≡ 1 → me.1 ≡ (0, Some d) ∷ [] → history d ≡ me.0.whole → Allows (Kept history seat) slots id me 1 (λ n. (n + 1) % 2 ^ 64) (Leaves (step slots 1 1 0 none) me)
  leaves slots id me d one has holds is s r wide at _ =
      let kept = gone_at s r id me d me.0.stage refl (r.each id me.0 at).stands (wide ∙ one) at has is in
      subst (λ (n : ℕ). (w : View E) × (a : Act (Option D)) × Valid s.homes me.1 a × Kept history seat (stepped s 1 ((n + 1) % 2 ^ 64) id me.1 w a) × Leaves (step slots 1 1 0 none) me n (w, carried_after me.1 a))
      (sym (ap (λ ws. get_or ws 1 0) r.words)) (
        left me.0,
        gives,
        tt,
        subst (λ (c : List (ℕ × Option D)). Kept history seat (stepped s 1 ((r.board.serving + 1) % 2 ^ 64) id c (left me.0) gives)) (sym holds) kept,
        (refl, ap rest holds),
      )

  -- the length of the history is read
  pub reads : (slots id : ℕ) (me : Sitting E D) → Allows (Kept history seat) slots id me 2 (λ n. n) (Reads (step slots 2 0 0 none) me)
  reads slots id me s r _ at _ =
      let v : View E = me.0 in let f = r.each id v at in
      let found : get_or s.words 2 0 ≡ length r.board.log = ap (λ ws. get_or ws 2 0) r.words in (
        v,
        keeps,
        tt,
        unmoved s r 2 id me at,
        (
          refl,
          refl,
          omega (arith, found, prefix_length v.seen r.board.log f.seen),
          omega (arith, found, (bounded s r).0, (bounded s r).1),
          all_map (λ (xs : List E). IsPrefix xs r.board.log × (length xs ≤ length v.seen)) (λ (xs : List E). IsPrefix xs v.seen) (λ xs k. prefix_shorter xs v.seen r.board.log k.0 f.seen k.1) v.olds f.olds,
        ),
      )

  -- a new view comes behind the others, with nothing of its own
  added : (s : St) (r : Kept history seat s) (w : View E) → w.draws ≡ 0 → waits w.stage ≡ 0 → turns w.stage ≡ 0 → w.sits ≡ 0 → w.mine ≡ []
      → Fits seat r.board (length s.views) w → Kept history seat record { words = s.words; homes = s.homes; views = s.views ++ w ∷ [] }
  added s r w draws waiting turn sits mine own = record {
    board = r.board;
    words = r.words;
    draws = omega (arith, sum_snoc (λ (x : View E). x.draws) s.views w, r.draws, draws);
    waiting = omega (arith, sum_snoc (λ (x : View E). waits x.stage) s.views w, r.waiting, waiting);
    seats = omega (arith, sum_snoc (λ (x : View E). x.sits) s.views w, r.seats, sits);
    made = omega (arith, sum_snoc (λ (x : View E). length x.mine) s.views w, r.made, ap length mine);
    few = r.few;
    later = r.later;
    home = λ none. r.home (omega (arith, none, sum_snoc (λ (x : View E). turns x.stage) s.views w, turn));
    each = λ j u e. ⊎_elim (r.each j u) (λ (c : (j ≡ length s.views) × (w ≡ u)). subst (λ (x : ℕ × View E). Fits seat r.board x.0 x.1) (λ i. (sym c.0 i, c.1 i)) own)
        (at_end s.views w u j e);
  }

  -- a note is split from any view
  pub notes : (id : ℕ) (v : View E) → Splits (Kept history seat) id v v (note_of v.seen)
  notes id v s r at =
      let f = r.each id v at in
      subst (λ (vs : List (View E)). Kept history seat record { words = s.words; homes = s.homes; views = vs ++ note_of v.seen ∷ [] }) (sym (set_again s.views id v at))
      (added s r (note_of v.seen) refl refl refl refl refl record {
        stands = refl;
        seen = f.seen;
        few = omega arith;
        made = omega arith;
        mine = λ no. absurd (omega arith);
        keeper = λ no. absurd (omega arith);
        olds = tt;
      })

  -- the first seat gives a new seat the next number
  pub splits : (id : ℕ) (v : View E) → 0 < v.next → v.next < SEATS_MAX → Splits (Kept history seat) id v (split_left v) (split_right v)
  splits id v keeps_it few s r at =
      let f = r.each id v at in let w : View E = split_left v in let x : View E = split_right v in let log : List E = r.board.log in let vs : List (View E) = set s.views id w in
      let next : ℕ = r.board.next + 1 in
      let is : v.next ≡ r.board.next = (f.keeper keeps_it).0 in
      let place : ℕ → ℕ = λ n. cond (eqb n r.board.next) (length vs) (r.board.place n) in
      let b : Board E = record r.board { next = next; place = place } in
      let old_place : (n : ℕ) → n < r.board.next → place n ≡ r.board.place n = λ n below. ap (λ b. cond b (length vs) (r.board.place n)) (ne_eqb n r.board.next (λ e. omega arith)) in
      record {
        board = b;
        words = r.words;
        draws = omega (arith, sum_snoc (λ (u : View E). u.draws) vs x, sum_set (λ (u : View E). u.draws) s.views id v w at, r.draws);
        waiting = omega (arith, sum_snoc (λ (u : View E). waits u.stage) vs x, sum_set (λ (u : View E). waits u.stage) s.views id v w at, r.waiting);
        seats = omega (arith, sum_snoc (λ (u : View E). u.sits) vs x, sum_set (λ (u : View E). u.sits) s.views id v w at, r.seats);
        made = omega (arith, sum_snoc (λ (u : View E). length u.mine) vs x, sum_set (λ (u : View E). length u.mine) s.views id v w at, r.made);
        few = omega arith;
        later = λ n le. r.later n (omega arith);
        home = λ none. r.home (omega (arith, none, sum_snoc (λ (u : View E). turns u.stage) vs x, sum_set (λ (u : View E). turns u.stage) s.views id v w at));
        each = λ j u e. ⊎_elim
            (λ (here : get_elem? vs j ≡ some u). ⊎_elim
            (λ (c : (j ≡ id) × (w ≡ u)). subst (λ (y : ℕ × View E). Fits seat b y.0 y.1) (λ i. (sym c.0 i, c.1 i)) record {
              stands = split_stands r.board next place id v v.stage f.stands;
              seen = f.seen;
              few = f.few;
              made = f.made;
              mine = λ sits. let m = f.mine sits in (m.0, omega (arith, m.1), old_place v.number m.1 ∙ m.2);
              keeper = λ _. (omega arith, (f.keeper keeps_it).1);
              olds = f.olds;
            })
            (λ (c : (j ≢ id) × (get_elem? s.views j ≡ some u)). fits_on r.board b j u (omega arith) (λ y _ k. k) (λ y _ le. le) (λ y _ k. (k, refl)) ([], append-nil log)
            (λ n below k. (refl, old_place n below ∙ k)) (omega arith) (λ some_next. absurd (c.0 (((r.each j u c.1).keeper some_next).1 ∙ sym (f.keeper keeps_it).1))) (r.each j u c.1))
            (at_set s.views id j w u here))
            (λ (c : (j ≡ length vs) × (x ≡ u)). subst (λ (y : ℕ × View E). Fits seat b y.0 y.1) (λ i. (sym c.0 i, c.1 i)) record {
              stands = refl;
              seen = f.seen;
              few = omega arith;
              made = omega arith;
              mine = λ _. (sym (r.later v.next (omega arith)), omega arith, ap (λ b. cond b (length vs) (r.board.place v.next)) (eq-eqb v.next r.board.next is));
              keeper = λ no. absurd (omega arith);
              olds = tt;
            })
            (at_end vs x u j e);
      }
    where
      split_stands : (b : Board E) (next : ℕ) (place : ℕ → ℕ) (j : ℕ) (u : View E) (st : Stage) → Stands b j u st
          → Stands (record b { next = next; place = place }) j (split_left u) st
      split_stands b next place j u Out k = k
      split_stands b next place j u (Waits y) k = k
      split_stands b next place j u (Turn y) k = k
      split_stands b next place j u (Told y) k = k

  -- what holds of two lists holds of the longer, which is as long as each
  longer_is : (P : List E → Type 0) (xs ys : List E) → P xs → P ys → P (longer xs ys) × (length xs ≤ length (longer xs ys)) × (length ys ≤ length (longer xs ys))
  longer_is P xs ys p q = go (leb (length xs) (length ys)) refl
    where
      go : (b : Bool) → leb (length xs) (length ys) ≡ b → P (cond b ys xs) × (length xs ≤ length (cond b ys xs)) × (length ys ≤ length (cond b ys xs))
      go true e = (q, leb-true (length xs) (length ys) e, omega arith)
      go false e = (p, omega arith, let l = leb-false (length xs) (length ys) e in omega arith)

  -- a note that is joined is spent
  spends : (s : St) (r : Kept history seat s) (other : ℕ) (xs : List E) → get_elem? s.views other ≡ some (note_of xs) → Kept history seat record { words = s.words; homes = s.homes; views = set s.views other (note_of []) }
  spends s r other xs there =
      let n : View E = note_of xs in
      moved s r other n (note_of []) there s.words s.homes r.board refl r.words refl (omega arith) refl refl r.later
      (λ none. r.home (omega (arith, none, sum_set (λ (y : View E). turns y.stage) s.views other n (note_of []) there)))
      (λ j u _ e. r.each j u e)
      record {
        stands = refl;
        seen = (r.board.log, refl);
        few = omega arith;
        made = omega arith;
        mine = λ no. absurd (omega arith);
        keeper = λ no. absurd (omega arith);
        olds = tt;
      }

  -- a note is joined into a seat
  pub joins : (id : ℕ) (v : View E) (other : ℕ) (xs : List E) → v.stage ≡ Out → Joins (Kept history seat) id v other (note_of xs) (joined v (note_of xs)) (note_of [])
  joins id v other xs out s r at apart there =
      let n : View E = note_of xs in let w : View E = joined v n in let log : List E = r.board.log in
      let at_n : get_elem? s.views other ≡ some n = sym (set_else s.views id other w apart) ∙ there in
      let f = r.each id v at in let g = r.each other n at_n in
      let long = longer_is (λ l. IsPrefix l log) v.seen xs f.seen g.seen in
      let whole : v.whole ≡ [] = subst (λ (y : Stage). Stands r.board id v y) out f.stands in
      spends record { words = s.words; homes = s.homes; views = set s.views id w }
      (moved s r id v w at s.words s.homes r.board refl r.words refl (omega arith) refl refl r.later
      (λ none. r.home (omega (arith, none, sum_set (λ (y : View E). turns y.stage) s.views id v w at)))
      (λ j u _ e. r.each j u e)
      record {
        stands = subst (λ (y : Stage). Stands r.board id w y) (sym out) whole;
        seen = long.0;
        few = f.few;
        made = f.made;
        mine = f.mine;
        keeper = f.keeper;
        olds = ((f.seen, long.1), ((g.seen, long.2), tt));
      })
      other xs there

  -- the same, of a note by what is known of it
  pub joins_note : (id : ℕ) (v : View E) (other : ℕ) (n : View E) (xs : List E) → n ≡ note_of xs → v.stage ≡ Out → Joins (Kept history seat) id v other n (joined v n) (note_of [])
  joins_note id v other n xs is out = subst (λ (x : View E). Joins (Kept history seat) id v other x (joined v x) (note_of [])) (sym is) (joins id v other xs out)
