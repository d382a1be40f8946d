-- Names stay short.
use Rattle.std.proofs.Common.{◌≡◌, ◌≤◌, ◌<◌, ◌+◌, ◌^◌, ◌&&◌, ℕ, Bool, true, false, List, [], ◌∷◌, ◌++◌, Option, None, Some, length, map, zero, suc, refl, ap, sym, subst, ◌∙◌, arith, set, take, drop, get_or, codes, ◌==◌, ◌-◌, le-leb, leb-true}
use Rattle.std.specs.Prelude.{decimal, if◌then◌else◌, nat_le, option_map, slice_get, unwrap_or}
use Rattle.std.specs.List.{list_all}
use Rattle.std.proofs.lemmas.List.{length-set}
use Rattle.std.proofs.Math.Seq.{take-append_seam}
use Rattle.std.proofs.lemmas.Fmt.{length-decimal-le}
use Rattle.dk_base.specs.ByNumber.{at_number}
use Rattle.spec_histories.specs.declared.opening.OpeningProcess.{OpeningProcess}
use Rattle.spec_histories.specs.declared.opening.OpeningThread.{OpeningThread}
use Rattle.history_text.specs.Types.{Member, NamedProcedure, NamedProcess, NamedThread, PathId, Pid, Tid}
use Rattle.history_text.specs.Names.{Names, name_now, process_name, thread_name}
use Rattle.history_text.specs.Lookups.{is_member, path_word, procedure_word, process_word, thread_word}
use Rattle.history_text.specs.Changes.{called_thread, new_thread, with_member_names}
use Rattle.history_text.specs.DefaultNames.{default_name, default_process, default_processes, default_thread, default_threads}
use Rattle.history_text.specs.NameLimits.{AreLimited, is_short, is_short_given, is_short_member, is_short_procedure, is_short_process, is_short_thread}
use Rattle.history_text.specs.ShortNames.{AreShort}
use Rattle.history_text.proofs.OneMore.{count_processes, count_threads}

both : (a b : Bool) → a ≡ true → b ≡ true → (a && b) ≡ true
both true true h k = refl
both true false h k = absurd (cc k)
both false b h k = absurd (cc h)

left : (a b : Bool) → (a && b) ≡ true → a ≡ true
left true b h = refl
left false b h = absurd (cc h)

right : (a b : Bool) → (a && b) ≡ true → b ≡ true
right true b h = h
right false b h = absurd (cc h)

-- another item under an index
pub all_set : {X : Type 0} (p : X → Bool) (xs : List X) (i : ℕ) (y : X) → list_all p xs ≡ true → p y ≡ true → list_all p (set xs i y) ≡ true
all_set p [] i y h k = h
all_set p (x ∷ xs) zero y h k = both (p y) (list_all p xs) k (right (p x) (list_all p xs) h)
all_set p (x ∷ xs) (suc i) y h k =
    both (p x) (list_all p (set xs i y)) (left (p x) (list_all p xs) h) (all_set p xs i y (right (p x) (list_all p xs) h) k)

pub all_snoc : {X : Type 0} (p : X → Bool) (xs : List X) (y : X) → list_all p xs ≡ true → p y ≡ true → list_all p (xs ++ y ∷ []) ≡ true
all_snoc p [] y h k = both (p y) true k refl
all_snoc p (x ∷ xs) y h k = both (p x) (list_all p (xs ++ y ∷ [])) (left (p x) (list_all p xs) h) (all_snoc p xs y (right (p x) (list_all p xs) h) k)

pub all_append : {X : Type 0} (p : X → Bool) (xs ys : List X) → list_all p xs ≡ true → list_all p ys ≡ true → list_all p (xs ++ ys) ≡ true
all_append p [] ys h k = k
all_append p (x ∷ xs) ys h k = both (p x) (list_all p (xs ++ ys)) (left (p x) (list_all p xs) h) (all_append p xs ys (right (p x) (list_all p xs) h) k)

called_or_not :
    (p : ℕ) (name : List ℕ) (names : List (List ℕ)) (t : NamedThread) (ts : List NamedThread) (b : Bool) →
    list_all is_short (name ∷ names) ≡ true → list_all is_short_thread (t ∷ ts) ≡ true →
    list_all is_short_thread (with_member_names p names ts) ≡ true → list_all is_short_thread (with_member_names p (name ∷ names) ts) ≡ true →
    list_all is_short_thread (if b then called_thread name t ∷ with_member_names p names ts else t ∷ with_member_names p (name ∷ names) ts) ≡ true
called_or_not p name names t ts true n h one two =
    both (is_short t.declared && is_short name) (list_all is_short_thread (with_member_names p names ts))
    (both (is_short t.declared) (is_short name)
    (left (is_short t.declared) (is_short_given t.given) (left (is_short_thread t) (list_all is_short_thread ts) h))
    (left (is_short name) (list_all is_short names) n))
    one
called_or_not p name names t ts false n h one two =
    both (is_short_thread t) (list_all is_short_thread (with_member_names p (name ∷ names) ts)) (left (is_short_thread t) (list_all is_short_thread ts) h) two

-- the members of a process that get names
pub all_called :
    (p : ℕ) (names : List (List ℕ)) (threads : List NamedThread) → list_all is_short names ≡ true → list_all is_short_thread threads ≡ true →
    list_all is_short_thread (with_member_names p names threads) ≡ true
all_called p names [] n h = refl
all_called p [] (t ∷ ts) n h = h
all_called p (name ∷ names) (t ∷ ts) n h =
    let rest = right (is_short_thread t) (list_all is_short_thread ts) h in
    called_or_not p name names t ts (is_member p t) n h (all_called p names ts (right (is_short name) (list_all is_short names) n) rest) (all_called p (name ∷ names) ts n rest)

-- new members
pub all_new : (p : ℕ) (members : List Member) → list_all is_short_member members ≡ true → list_all is_short_thread (map (new_thread p) members) ≡ true
all_new p [] h = refl
all_new p (m ∷ ms) h =
    both (is_short m.name && true) (list_all is_short_thread (map (new_thread p) ms))
    (both (is_short m.name) true (left (is_short m.name) (list_all is_short_member ms) h) refl)
    (all_new p ms (right (is_short m.name) (list_all is_short_member ms) h))

-- limits are kept

pub limited_set :
    (ps : List NamedProcess) (ts : List NamedThread) (cs : List NamedProcedure) (paths : List (List ℕ)) (i : ℕ) (y : NamedProcess) →
    AreLimited ps ts cs paths → is_short_process y ≡ true → AreLimited (set ps i y) ts cs paths
limited_set ps ts cs paths i y h k =
    record {
      few_processes = omega (arith, h.few_processes, length-set ps i y);
      few_threads = h.few_threads;
      few_procedures = h.few_procedures;
      few_paths = h.few_paths;
      short_processes = all_set is_short_process ps i y h.short_processes k;
      short_threads = h.short_threads;
      short_procedures = h.short_procedures;
      short_paths = h.short_paths;
    }

pub limited_threads :
    (ps : List NamedProcess) (ts us : List NamedThread) (cs : List NamedProcedure) (paths : List (List ℕ)) →
    AreLimited ps ts cs paths → length us ≡ length ts → list_all is_short_thread us ≡ true → AreLimited ps us cs paths
limited_threads ps ts us cs paths h same k =
    record {
      few_processes = h.few_processes;
      few_threads = omega (arith, h.few_threads, same);
      few_procedures = h.few_procedures;
      few_paths = h.few_paths;
      short_processes = h.short_processes;
      short_threads = k;
      short_procedures = h.short_procedures;
      short_paths = h.short_paths;
    }

-- a process that is called otherwise, or mentioned
pub short_called : (x : NamedProcess) (name : List ℕ) → is_short_process x ≡ true → is_short name ≡ true → (is_short x.declared && is_short name) ≡ true
short_called x name h k = both (is_short x.declared) (is_short name) (left (is_short x.declared) (is_short_given x.given) h) k

pub all_at : {X : Type 0} (p : X → Bool) (xs : List X) (i : ℕ) (d : X) → list_all p xs ≡ true → i < length xs → p (get_or xs i d) ≡ true
all_at p [] i d h k = absurd (omega (arith, k))
all_at p (x ∷ xs) zero d h k = left (p x) (list_all p xs) h
all_at p (x ∷ xs) (suc i) d h k = all_at p xs i d (right (p x) (list_all p xs) h) (omega (arith, k))

-- names of an opening

few_digits : (n : ℕ) → n < 2 ^ 32 → length (decimal n) ≤ 15
few_digits n h = length-decimal-le 15 n (omega arith) (omega (arith, h)) (omega (arith, h))

short_named : (first : Bool) (letter n : ℕ) → n < 2 ^ 32 → is_short (if first then codes "init" else letter ∷ decimal n) ≡ true
short_named true letter n h = refl
short_named false letter n h = le-leb (length (letter ∷ decimal n)) 16 (omega (arith, few_digits n h))

short_name : (letter n : ℕ) → n < 2 ^ 32 → is_short (default_name letter n) ≡ true
short_name letter n h = short_named (n == 1) letter n h

pub short_processes : (n : ℕ) (ps : List OpeningProcess) → n + length ps < 2 ^ 32 → list_all is_short_process (default_processes n ps) ≡ true
short_processes n [] h = refl
short_processes n (p ∷ ps) h =
    both (is_short (default_name 112 (n + 1)) && true) (list_all is_short_process (default_processes (n + 1) ps))
    (both (is_short (default_name 112 (n + 1))) true (short_name 112 (n + 1) (omega (arith, h))) refl)
    (short_processes (n + 1) ps (omega (arith, h)))

pub short_threads : (n : ℕ) (ts : List OpeningThread) → n + length ts < 2 ^ 32 → list_all is_short_thread (default_threads n ts) ≡ true
short_threads n [] h = refl
short_threads n (t ∷ ts) h =
    both (is_short (default_name 116 (n + 1)) && true) (list_all is_short_thread (default_threads (n + 1) ts))
    (both (is_short (default_name 116 (n + 1))) true (short_name 116 (n + 1) (omega (arith, h))) refl)
    (short_threads (n + 1) ts (omega (arith, h)))

-- words

name_short : (d : List ℕ) (g : Option (List ℕ)) → is_short d ≡ true → is_short_given g ≡ true → length (name_now d g) ≤ 16
name_short d None h k = leb-true (length d) 16 h
name_short d (Some n) h k = leb-true (length n) 16 k

process_at : (ps : List NamedProcess) (i : ℕ) → list_all is_short_process ps ≡ true → length (unwrap_or (option_map process_name (slice_get ps i)) []) ≤ 16
process_at [] i h = omega arith
process_at (p ∷ ps) zero h =
    let here = left (is_short_process p) (list_all is_short_process ps) h in
    name_short p.declared p.given (left (is_short p.declared) (is_short_given p.given) here) (right (is_short p.declared) (is_short_given p.given) here)
process_at (p ∷ ps) (suc i) h = process_at ps i (right (is_short_process p) (list_all is_short_process ps) h)

process_short : (ps : List NamedProcess) (n : ℕ) (none : Bool) → list_all is_short_process ps ≡ true → length (unwrap_or (option_map process_name (if none then None else slice_get ps (n - 1))) []) ≤ 16
process_short ps n true h = omega arith
process_short ps n false h = process_at ps (n - 1) h

thread_at : (ts : List NamedThread) (i : ℕ) → list_all is_short_thread ts ≡ true → length (unwrap_or (option_map thread_name (slice_get ts i)) []) ≤ 16
thread_at [] i h = omega arith
thread_at (t ∷ ts) zero h =
    let here = left (is_short_thread t) (list_all is_short_thread ts) h in
    name_short t.declared t.given (left (is_short t.declared) (is_short_given t.given) here) (right (is_short t.declared) (is_short_given t.given) here)
thread_at (t ∷ ts) (suc i) h = thread_at ts i (right (is_short_thread t) (list_all is_short_thread ts) h)

thread_short : (ts : List NamedThread) (n : ℕ) (none : Bool) → list_all is_short_thread ts ≡ true → length (unwrap_or (option_map thread_name (if none then None else slice_get ts (n - 1))) []) ≤ 16
thread_short ts n true h = omega arith
thread_short ts n false h = thread_at ts (n - 1) h

procedure_at :
    (cs : List NamedProcedure) (i : ℕ) → list_all is_short_procedure cs ≡ true → length (unwrap_or (option_map (λ procedure. procedure.name) (slice_get cs i)) []) ≤ 16
procedure_at [] i h = omega arith
procedure_at (c ∷ cs) zero h = leb-true (length c.name) 16 (left (is_short_procedure c) (list_all is_short_procedure cs) h)
procedure_at (c ∷ cs) (suc i) h = procedure_at cs i (right (is_short_procedure c) (list_all is_short_procedure cs) h)

path_at : (paths : List (List ℕ)) (i : ℕ) → list_all is_short paths ≡ true → length (unwrap_or (slice_get paths i) []) ≤ 16
path_at [] i h = omega arith
path_at (p ∷ ps) zero h = leb-true (length p) 16 (left (is_short p) (list_all is_short ps) h)
path_at (p ∷ ps) (suc i) h = path_at ps i (right (is_short p) (list_all is_short ps) h)

pub are_short :
    (names : Names) → AreLimited names.processes names.threads names.procedures names.paths → AreShort names
are_short names h =
    record {
      processes = λ p. process_short names.processes p.0 (p.0 == 0) h.short_processes;
      threads = λ t. thread_short names.threads t.0 (t.0 == 0) h.short_threads;
      procedures = λ e. procedure_at names.procedures e h.short_procedures;
      paths = λ p. path_at names.paths p.0 h.short_paths;
    }

pub limited_opening :
    (ps : List OpeningProcess) (ts : List OpeningThread) (qs : List NamedProcess) (us : List NamedThread) (cs : List NamedProcedure) (paths : List (List ℕ)) →
    length ps < 1000 → length ts < 1000 → qs ≡ default_processes 0 ps → us ≡ default_threads 0 ts → cs ≡ [] → paths ≡ [] →
    AreLimited qs us cs paths
limited_opening ps ts qs us cs paths p t q u c e =
    record {
      few_processes = omega (arith, ap length q, count_processes 0 ps, p);
      few_threads = omega (arith, ap length u, count_threads 0 ts, t);
      few_procedures = omega (arith, ap length c);
      few_paths = omega (arith, ap length e);
      short_processes = ap (list_all is_short_process) q ∙ short_processes 0 ps (omega (arith, p));
      short_threads = ap (list_all is_short_thread) u ∙ short_threads 0 ts (omega (arith, t));
      short_procedures = ap (list_all is_short_procedure) c;
      short_paths = ap (list_all is_short) e;
    }

-- a vector of which the front, which is all of it, was written
pub all_written :
    (n : ℕ) (before after : List NamedThread) → length before ≡ n → length after ≡ length before → take n (after ++ drop (length after) before) ≡ after
all_written n before after whole same =
    let e : length after ≡ n = same ∙ whole in
    subst (λ k. take k (after ++ drop (length after) before) ≡ after) e (take-append_seam after (drop (length after) before))

pub limited_written :
    (ps : List NamedProcess) (ts us : List NamedThread) (cs : List NamedProcedure) (paths : List (List ℕ)) (n : ℕ) →
    AreLimited ps ts cs paths → length ts ≡ n → length us ≡ length ts → list_all is_short_thread us ≡ true →
    AreLimited ps (take n (us ++ drop (length us) ts)) cs paths
limited_written ps ts us cs paths n h whole same k =
    let e = all_written n ts us whole same in
    limited_threads ps ts (take n (us ++ drop (length us) ts)) cs paths h (ap length e ∙ same) (ap (list_all is_short_thread) e ∙ k)
