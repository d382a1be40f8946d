-- The names of lines, one line on.
use Rattle.std.proofs.Common.{◌≡◌, ℕ, ◌+◌, ◌<◌, ◌≤◌, Bool, true, false, cond, nat_lt, List, [], ◌∷◌, ◌++◌, length, take, Option, Some, None, refl, sym, ap, ◌∙◌, arith}
use Rattle.std.specs.Prelude.{map, filter_map}
use Rattle.std.specs.List.{cons_option}
use Rattle.std.proofs.lemmas.List.{append_assoc, append-nil, length-append, take-append-le, take_all}
use Rattle.std.proofs.lemmas.Bool.Decides.{nat_tests}
use Rattle.line_text.specs.Types.{Pid}
use Rattle.line_text.specs.Words.{has_name, lines_of, with_distinct_names, words_of}
use Rattle.line_forms.specs.Words.{Tables, no_names, qualified_name}
use Rattle.script_lang.specs.declared.names.Names.{Names}
use Rattle.script_lang.specs.NamesThen.{with_room, names_then, names_with, names_with_process, names_with_thread, names_with_procedure, names_with_path, names_of_line}
use Rattle.script_lang.specs.TextTables.{names_after, parent_of_words, parents_from, parents_with, process_of_words, thread_of_words, procedure_of_words, path_of_words, process_after, procedure_names_with as procedure_then, procedure_names_from, tables_of_lines}

-- so many names at most, and paths and processes at most as many as lines
pub record AreFew (names : Names) (lines : ℕ) : Type 0 where
  pub processes : length names.tables.processes ≤ 64
  pub threads : length names.tables.threads ≤ 64
  pub procedures : length names.tables.procedures ≤ 4096
  pub paths : length names.tables.paths ≤ lines
  pub process : names.process ≤ lines
  -- each process has its place among the parents
  pub parents : length names.tables.parents ≡ length names.tables.processes

not_below : (m n : ℕ) → nat_lt m n ≡ false → n ≤ m
not_below m n e = grind (arith, nat_tests)

room_then : {X : Type 0} (limit : ℕ) (xs : List X) (x : X) (ys : List X) (below : Bool) → nat_lt (length xs) limit ≡ below
    → take limit (cond below (xs ++ x ∷ []) xs ++ ys) ≡ take limit (xs ++ x ∷ ys)
room_then limit xs x ys true e = simp append_assoc
room_then limit xs x ys false e =
    let full : limit ≤ length xs = not_below (length xs) limit e in
    take-append-le limit xs ys full ∙ sym (take-append-le limit xs (x ∷ ys) full)

room_more : {X : Type 0} (limit : ℕ) (xs : List X) (x : X) (ys : List X) → take limit (with_room limit xs x ++ ys) ≡ take limit (xs ++ x ∷ ys)
room_more limit xs x ys = room_then limit xs x ys (nat_lt (length xs) limit) refl

room_few : {X : Type 0} (limit : ℕ) (xs : List X) (x : X) (below : Bool) → nat_lt (length xs) limit ≡ below → length xs ≤ limit → length (cond below (xs ++ x ∷ []) xs) ≤ limit
room_few limit xs x true e h = simp length-append (grind (arith, nat_tests))
room_few limit xs x false e h = h

below_room : {X : Type 0} (limit : ℕ) (xs : List X) (x : X) → length xs ≤ limit → length (with_room limit xs x) ≤ limit
below_room limit xs x h = room_few limit xs x (nat_lt (length xs) limit) refl h

name_few : (has : Bool) (names : List (List ℕ)) (name : List ℕ) → length (cond has names (names ++ name ∷ [])) ≤ length names + 1
name_few true names name = omega arith
name_few false names name = simp length-append (omega arith)

room_alike : {X Y : Type 0} (limit : ℕ) (xs : List X) (x : X) (ys : List Y) (y : Y) → length xs ≡ length ys → length (with_room limit xs x) ≡ length (with_room limit ys y)
room_alike limit xs x ys y same = ap (λ n. length (cond (nat_lt n limit) (xs ++ x ∷ []) xs)) same ∙ alike_if (nat_lt (length ys) limit)
  where
    alike_if : (below : Bool) → length (cond below (xs ++ x ∷ []) xs) ≡ length (cond below (ys ++ y ∷ []) ys)
    alike_if true = simp length-append (ap (λ n. n + 1) same)
    alike_if false = same

parents_if : (processes : List (List ℕ)) (name : List ℕ) (parents : List (Option Pid)) (parent : Option Pid) (lines : List (List (List ℕ))) (below : Bool) → nat_lt (length processes) 64 ≡ below → length parents ≡ length processes
    → take 64 (cond below (parents ++ parent ∷ []) parents ++ parents_from (cond below (processes ++ name ∷ []) processes) lines) ≡ take 64 (parents ++ parent ∷ parents_from (processes ++ name ∷ []) lines)
parents_if processes name parents parent lines true is same = simp append_assoc
parents_if processes name parents parent lines false is same =
    let most : 64 ≤ length processes = not_below (length processes) 64 is in
    let full : 64 ≤ length parents = omega arith in
    take-append-le 64 parents (parents_from processes lines) full ∙ sym (take-append-le 64 parents (parent ∷ parents_from (processes ++ name ∷ []) lines) full)

parents_room : (processes : List (List ℕ)) (name : List ℕ) (parents : List (Option Pid)) (parent : Option Pid) (lines : List (List (List ℕ))) → length parents ≡ length processes
    → take 64 (with_room 64 parents parent ++ parents_from (with_room 64 processes name) lines) ≡ take 64 (parents ++ parent ∷ parents_from (processes ++ name ∷ []) lines)
parents_room processes name parents parent lines same =
    ap (λ n. take 64 (cond (nat_lt n 64) (parents ++ parent ∷ []) parents ++ parents_from (with_room 64 processes name) lines)) same ∙
    parents_if processes name parents parent lines (nat_lt (length processes) 64) refl same

abbrev step_is : Names → Option (List ℕ) → Option (List ℕ) → Option Pid → Option (List ℕ) → Option (List ℕ) → List (List (List ℕ)) → Tables
step_is names c t parent p d lines =
    record {
      processes = take 64 (names.tables.processes ++ cons_option p (filter_map process_of_words lines));
      parents = take 64 (names.tables.parents ++ parents_with p parent (parents_from (names_after names.tables.processes p) lines));
      threads = take 64 (names.tables.threads ++ cons_option t (filter_map thread_of_words lines));
      procedures = take 4096 (names.tables.procedures ++ procedure_then names.process c (procedure_names_from (process_after names.process p) lines));
      paths = with_distinct_names names.tables.paths (cons_option d (filter_map path_of_words lines));
    }

names_step : (names : Names) (c t : Option (List ℕ)) (parent : Option Pid) (p d : Option (List ℕ)) (lines : List (List (List ℕ))) → length names.tables.parents ≡ length names.tables.processes
    → names_then (names_with_path (names_with_process (names_with_thread (names_with_procedure names c) t) parent p) d) lines ≡ step_is names c t parent p d lines
names_step names None None parent None None lines same = refl
names_step names None None parent None (Some d) lines same = refl
names_step names None None parent (Some p) None lines same = rw (parents_room names.tables.processes p names.tables.parents parent lines same) (simp room_more)
names_step names None None parent (Some p) (Some d) lines same = rw (parents_room names.tables.processes p names.tables.parents parent lines same) (simp room_more)
names_step names None (Some t) parent None None lines same = simp room_more
names_step names None (Some t) parent None (Some d) lines same = simp room_more
names_step names None (Some t) parent (Some p) None lines same = rw (parents_room names.tables.processes p names.tables.parents parent lines same) (simp room_more)
names_step names None (Some t) parent (Some p) (Some d) lines same = rw (parents_room names.tables.processes p names.tables.parents parent lines same) (simp room_more)
names_step names (Some c) None parent None None lines same = simp room_more
names_step names (Some c) None parent None (Some d) lines same = simp room_more
names_step names (Some c) None parent (Some p) None lines same = rw (parents_room names.tables.processes p names.tables.parents parent lines same) (simp room_more)
names_step names (Some c) None parent (Some p) (Some d) lines same = rw (parents_room names.tables.processes p names.tables.parents parent lines same) (simp room_more)
names_step names (Some c) (Some t) parent None None lines same = simp room_more
names_step names (Some c) (Some t) parent None (Some d) lines same = simp room_more
names_step names (Some c) (Some t) parent (Some p) None lines same = rw (parents_room names.tables.processes p names.tables.parents parent lines same) (simp room_more)
names_step names (Some c) (Some t) parent (Some p) (Some d) lines same = rw (parents_room names.tables.processes p names.tables.parents parent lines same) (simp room_more)

-- the names with those of a line
pub names_more : (names : Names) (words : List (List ℕ)) (lines : List (List (List ℕ))) → length names.tables.parents ≡ length names.tables.processes → names_then (names_of_line names words) lines ≡ names_then names (words ∷ lines)
names_more names words lines same = names_step names (procedure_of_words words) (thread_of_words words) (parent_of_words names.tables.processes words) (process_of_words words) (path_of_words words) lines same

few_step : (names : Names) (c t : Option (List ℕ)) (parent : Option Pid) (p d : Option (List ℕ)) (lines : ℕ) → AreFew names lines → AreFew (names_with_path (names_with_process (names_with_thread (names_with_procedure names c) t) parent p) d) (lines + 1)
few_step names None None parent None None lines h = record { processes = h.processes; threads = h.threads; procedures = h.procedures; paths = omega (arith, h.paths); process = omega (arith, h.process); parents = h.parents }
few_step names None None parent None (Some d) lines h = record { processes = h.processes; threads = h.threads; procedures = h.procedures; paths = omega (arith, name_few (has_name names.tables.paths d) names.tables.paths d, h.paths); process = omega (arith, h.process); parents = h.parents }
few_step names None None parent (Some p) None lines h = record { processes = below_room 64 names.tables.processes p h.processes; threads = h.threads; procedures = h.procedures; paths = omega (arith, h.paths); process = omega (arith, h.process); parents = room_alike 64 names.tables.parents parent names.tables.processes p h.parents }
few_step names None None parent (Some p) (Some d) lines h = record { processes = below_room 64 names.tables.processes p h.processes; threads = h.threads; procedures = h.procedures; paths = omega (arith, name_few (has_name names.tables.paths d) names.tables.paths d, h.paths); process = omega (arith, h.process); parents = room_alike 64 names.tables.parents parent names.tables.processes p h.parents }
few_step names None (Some t) parent None None lines h = record { processes = h.processes; threads = below_room 64 names.tables.threads t h.threads; procedures = h.procedures; paths = omega (arith, h.paths); process = omega (arith, h.process); parents = h.parents }
few_step names None (Some t) parent None (Some d) lines h = record { processes = h.processes; threads = below_room 64 names.tables.threads t h.threads; procedures = h.procedures; paths = omega (arith, name_few (has_name names.tables.paths d) names.tables.paths d, h.paths); process = omega (arith, h.process); parents = h.parents }
few_step names None (Some t) parent (Some p) None lines h = record { processes = below_room 64 names.tables.processes p h.processes; threads = below_room 64 names.tables.threads t h.threads; procedures = h.procedures; paths = omega (arith, h.paths); process = omega (arith, h.process); parents = room_alike 64 names.tables.parents parent names.tables.processes p h.parents }
few_step names None (Some t) parent (Some p) (Some d) lines h = record { processes = below_room 64 names.tables.processes p h.processes; threads = below_room 64 names.tables.threads t h.threads; procedures = h.procedures; paths = omega (arith, name_few (has_name names.tables.paths d) names.tables.paths d, h.paths); process = omega (arith, h.process); parents = room_alike 64 names.tables.parents parent names.tables.processes p h.parents }
few_step names (Some c) None parent None None lines h = record { processes = h.processes; threads = h.threads; procedures = below_room 4096 names.tables.procedures (qualified_name names.process c) h.procedures; paths = omega (arith, h.paths); process = omega (arith, h.process); parents = h.parents }
few_step names (Some c) None parent None (Some d) lines h = record { processes = h.processes; threads = h.threads; procedures = below_room 4096 names.tables.procedures (qualified_name names.process c) h.procedures; paths = omega (arith, name_few (has_name names.tables.paths d) names.tables.paths d, h.paths); process = omega (arith, h.process); parents = h.parents }
few_step names (Some c) None parent (Some p) None lines h = record { processes = below_room 64 names.tables.processes p h.processes; threads = h.threads; procedures = below_room 4096 names.tables.procedures (qualified_name names.process c) h.procedures; paths = omega (arith, h.paths); process = omega (arith, h.process); parents = room_alike 64 names.tables.parents parent names.tables.processes p h.parents }
few_step names (Some c) None parent (Some p) (Some d) lines h = record { processes = below_room 64 names.tables.processes p h.processes; threads = h.threads; procedures = below_room 4096 names.tables.procedures (qualified_name names.process c) h.procedures; paths = omega (arith, name_few (has_name names.tables.paths d) names.tables.paths d, h.paths); process = omega (arith, h.process); parents = room_alike 64 names.tables.parents parent names.tables.processes p h.parents }
few_step names (Some c) (Some t) parent None None lines h = record { processes = h.processes; threads = below_room 64 names.tables.threads t h.threads; procedures = below_room 4096 names.tables.procedures (qualified_name names.process c) h.procedures; paths = omega (arith, h.paths); process = omega (arith, h.process); parents = h.parents }
few_step names (Some c) (Some t) parent None (Some d) lines h = record { processes = h.processes; threads = below_room 64 names.tables.threads t h.threads; procedures = below_room 4096 names.tables.procedures (qualified_name names.process c) h.procedures; paths = omega (arith, name_few (has_name names.tables.paths d) names.tables.paths d, h.paths); process = omega (arith, h.process); parents = h.parents }
few_step names (Some c) (Some t) parent (Some p) None lines h = record { processes = below_room 64 names.tables.processes p h.processes; threads = below_room 64 names.tables.threads t h.threads; procedures = below_room 4096 names.tables.procedures (qualified_name names.process c) h.procedures; paths = omega (arith, h.paths); process = omega (arith, h.process); parents = room_alike 64 names.tables.parents parent names.tables.processes p h.parents }
few_step names (Some c) (Some t) parent (Some p) (Some d) lines h = record { processes = below_room 64 names.tables.processes p h.processes; threads = below_room 64 names.tables.threads t h.threads; procedures = below_room 4096 names.tables.procedures (qualified_name names.process c) h.procedures; paths = omega (arith, name_few (has_name names.tables.paths d) names.tables.paths d, h.paths); process = omega (arith, h.process); parents = room_alike 64 names.tables.parents parent names.tables.processes p h.parents }

pub few_more : (names : Names) (words : List (List ℕ)) (lines : ℕ) → AreFew names lines → AreFew (names_of_line names words) (lines + 1)
few_more names words lines h = few_step names (procedure_of_words words) (thread_of_words words) (parent_of_words names.tables.processes words) (process_of_words words) (path_of_words words) lines h

-- the names of no more lines
pub names_end : (names : Names) (lines : ℕ) → AreFew names lines → names_then names [] ≡ names.tables
names_end names lines h =
    simp append-nil (rw (take_all 64 names.tables.processes h.processes, take_all 64 names.tables.parents (omega (arith, h.parents, h.processes)), take_all 64 names.tables.threads h.threads, take_all 4096 names.tables.procedures h.procedures) refl)

-- what a loop over the lines of a text keeps
pub record NamesSoFar (names : Names) (rest text : List ℕ) : Type 0 where
  pub goes_on : names_with names (lines_of rest) ≡ tables_of_lines (lines_of text)
  pub lines : ℕ
  pub are_few : AreFew names lines
  pub are_left : lines + length rest ≤ length text

pub names_begin : (text : List ℕ) → NamesSoFar (record { tables = no_names; process = 0 }) text text
unfolding tables_of_lines
names_begin text = record { goes_on = refl; lines = 0; are_few = record { processes = omega arith; threads = omega arith; procedures = omega arith; paths = omega arith; process = omega arith; parents = refl }; are_left = omega arith }

pub names_go_on : (names : Names) (line rest later text : List ℕ) → lines_of rest ≡ line ∷ lines_of later → length later < length rest → NamesSoFar names rest text → NamesSoFar (names_of_line names (words_of line)) later text
names_go_on names line rest later text e shorter h =
    record {
      goes_on = names_more names (words_of line) (map words_of (lines_of later)) h.are_few.parents ∙ ap (names_with names) (sym e) ∙ h.goes_on;
      lines = h.lines + 1;
      are_few = few_more names (words_of line) h.lines h.are_few;
      are_left = omega (arith, h.are_left);
    }

pub names_done : (names : Names) (rest text : List ℕ) → rest ≡ [] → NamesSoFar names rest text
    → tables_of_lines (lines_of text) ≡ names.tables
names_done names rest text e h = sym h.goes_on ∙ ap (λ at. names_with names (lines_of at)) e ∙ names_end names h.lines h.are_few

pub names_process : (names : Names) (rest text : List ℕ) → NamesSoFar names rest text → names.process + length rest ≤ length text
names_process names rest text h = omega (arith, h.are_few.process, h.are_left)

pub names_paths : (names : Names) (rest text : List ℕ) → NamesSoFar names rest text → length names.tables.paths + length rest ≤ length text
names_paths names rest text h = omega (arith, h.are_few.paths, h.are_left)

pub names_each : (names : Names) (rest text : List ℕ) → NamesSoFar names rest text → length names.tables.parents ≡ length names.tables.processes
names_each names rest text h = h.are_few.parents
