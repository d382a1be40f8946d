-- A child has the limit of its parent, which stands before it.
use Rattle.std.proofs.Common.{◌≡◌, ℕ, ◌+◌, ◌≤◌, ◌<◌, List, [], ◌∷◌, ◌++◌, Option, Some, None, true, length, map, arith, zero, suc, refl, sym, ap, ◌∙◌, length-append, append_assoc, unwrap_or}
use Rattle.std.specs.Prelude.{All, slice_get, option_map}
use Rattle.std.proofs.lemmas.Bool.{false≢true}
use Rattle.std.proofs.lemmas.Bool.Decides.{nat_tests}
use Rattle.std.proofs.lemmas.List.Elements.{All-nil, All-cons, All-head, All-push, All-tail}
use Rattle.std.proofs.lemmas.Option.{slice_get-map}
use Rattle.dk_base.specs.ByNumber.{at_number}
use Rattle.spec_requests.specs.Types.{Pid, ScriptProcess}
use Rattle.line_forms.specs.Words.{is_child}
use Rattle.line_forms.specs.Tables.{is_parent}
use Rattle.script_lang.specs.Words.{ScriptValue, limit_at, tables_of, with_limits}
use Rattle.script_lang.specs.Scripts.{limit_of_process, with_limit_from}
use Rattle.script_lang.proofs.ChildLimits.{kept-with_limits, limited, parent_kept, with_limits-is}
use Rattle.spec_requests.specs.Sound.{IsChildOf, IsNarrow, IsSoundChild}
use Rattle.spec_requests.proofs.Elements.{All-at_number, at_number-map, at_number-suc}

-- a name of a child of a process

pub child-of : (script : ScriptValue) (of n : ℕ) → is_child (tables_of script) of n ≡ true → IsChildOf script of n
child-of script of n h =
    by_process
    (at_number script.processes n)
    refl
    (ap (λ (o : Option (Option Pid)). is_parent of (unwrap_or o None)) (sym (at_number-map (λ (x : ScriptProcess). x.parent) script.processes n)) ∙ h)
  where
    by_parent : (x : ScriptProcess) (o : Option Pid) → at_number script.processes n ≡ Some x → x.parent ≡ o → is_parent of o ≡ true → IsChildOf script of n
    by_parent x None there e f = absurd (false≢true f)
    by_parent x (Some parent) there e f =
        let same : parent.0 ≡ of = grind (arith, nat_tests)
        in record { process = x; there = there; of = e ∙ ap (λ (p : ℕ). Some (record { 0 = p })) same }

    by_process :
        (o : Option ScriptProcess) → at_number script.processes n ≡ o →
        is_parent of (unwrap_or (option_map (λ (x : ScriptProcess). x.parent) o) None) ≡ true → IsChildOf script of n
    by_process None there f = absurd (false≢true f)
    by_process (Some x) there f = by_parent x x.parent there refl f

-- limits

slice_get-before : {X : Type 0} (xs ys : List X) (k : ℕ) → k < length xs → slice_get (xs ++ ys) k ≡ slice_get xs k
slice_get-before [] ys k h = absurd (omega (arith, h))
slice_get-before (x ∷ xs) ys zero h = refl
slice_get-before (x ∷ xs) ys (suc k) h = slice_get-before xs ys k (omega (arith, h))

at_number-before : {X : Type 0} (xs ys : List X) (n : ℕ) → 1 ≤ n → n ≤ length xs → at_number (xs ++ ys) n ≡ at_number xs n
at_number-before xs ys zero low high = absurd (omega (arith, low))
at_number-before xs ys (suc n) low high =
    at_number-suc (xs ++ ys) n ∙ slice_get-before xs ys n (omega (arith, high)) ∙ sym (at_number-suc xs n)

limit_at-narrow : (before : List ScriptProcess) (parent : Pid) → All IsNarrow before → limit_at before parent ≤ 256
limit_at-narrow before parent all = by_process (at_number before parent.0) refl
  where
    by_process : (o : Option ScriptProcess) → at_number before parent.0 ≡ o → unwrap_or (option_map limit_of_process o) 256 ≤ 256
    by_process None e = omega arith
    by_process (Some x) e = All-at_number IsNarrow before parent.0 x all e

limited-narrow : (before processes : List ScriptProcess) → All IsNarrow before → All IsNarrow processes → All IsNarrow (limited before processes)
limited-narrow before [] first all = All-nil IsNarrow
limited-narrow before (x ∷ xs) first all =
    let one : IsNarrow (with_limit_from before x.parent x) = by_parent x.parent (All-head IsNarrow x xs all)
    in All-cons
    IsNarrow
    (with_limit_from before x.parent x)
    (limited (before ++ with_limit_from before x.parent x ∷ []) xs)
    one
    (limited-narrow
    (before ++ with_limit_from before x.parent x ∷ [])
    xs
    (All-push IsNarrow before (with_limit_from before x.parent x) first one)
    (All-tail IsNarrow x xs all))
  where
    by_parent : (o : Option Pid) → IsNarrow x → IsNarrow (with_limit_from before o x)
    by_parent None narrow = narrow
    by_parent (Some parent) narrow = limit_at-narrow before parent first

pub with_limits-narrow : (processes : List ScriptProcess) → All IsNarrow processes → All IsNarrow (with_limits [] processes)
with_limits-narrow processes all = rw (with_limits-is [] processes) (limited-narrow [] processes (All-nil IsNarrow) all)

-- the limit that a process got from those before it
given_limit :
    (before : List ScriptProcess) (o : Option Pid) (x : ScriptProcess) (parent : Pid) → (with_limit_from before o x).parent ≡ Some parent →
    o ≡ x.parent → limit_at before parent ≡ (with_limit_from before o x).limit
given_limit before None x parent e f = cc
given_limit before (Some p) x parent e f = let same : p ≡ parent = cc in rw same refl

limit_at-before : (before after : List ScriptProcess) (parent : Pid) → 1 ≤ parent.0 → parent.0 ≤ length before → limit_at (before ++ after) parent ≡ limit_at before parent
limit_at-before before after parent low high =
    ap (λ (o : Option ScriptProcess). unwrap_or (option_map limit_of_process o) 256) (at_number-before before after parent.0 low high)

limited-limits :
    (before processes : List ScriptProcess) (k : ℕ) (x : ScriptProcess) (parent : Pid) → slice_get (limited before processes) k ≡ Some x →
    x.parent ≡ Some parent → 1 ≤ parent.0 → parent.0 ≤ length before + k → limit_at (before ++ limited before processes) parent ≡ x.limit
limited-limits before [] k x parent there e low high = cc
limited-limits before (y ∷ ys) zero x parent there e low high =
    let same : with_limit_from before y.parent y ≡ x = cc
    in let given : limit_at before parent ≡ (with_limit_from before y.parent y).limit = given_limit before y.parent y parent (ap (λ (z : ScriptProcess). z.parent) same ∙ e) refl
    in limit_at-before before (limited before (y ∷ ys)) parent low (omega (arith, high)) ∙ given ∙ ap (λ (z : ScriptProcess). z.limit) same
limited-limits before (y ∷ ys) (suc k) x parent there e low high =
    let one : ScriptProcess = with_limit_from before y.parent y
    in let more : length (before ++ one ∷ []) ≡ length before + 1 = length-append before (one ∷ [])
    in let rest : limit_at ((before ++ one ∷ []) ++ limited (before ++ one ∷ []) ys) parent ≡ x.limit =
    limited-limits (before ++ one ∷ []) ys k x parent there e low (omega (arith, high, more))
    in rw (append_assoc before (one ∷ []) (limited (before ++ one ∷ []) ys)) at rest

-- the parent of each process stands before it, where so many stand before these
abbrev pub StandAfterParents : ℕ → List ScriptProcess → Type 0
StandAfterParents before processes =
    (k : ℕ) (parent : Pid) → slice_get (map (λ (x : ScriptProcess). x.parent) processes) k ≡ Some (Some parent) →
    (1 ≤ parent.0) × (parent.0 ≤ before + k)

pub none-after-parents : (before : ℕ) → StandAfterParents before []
none-after-parents before k parent e = cc

pub next-after-parents :
    (before : ℕ) (x : ScriptProcess) (xs : List ScriptProcess) →
    ((parent : Pid) → x.parent ≡ Some parent → (1 ≤ parent.0) × (parent.0 ≤ before)) → StandAfterParents (before + 1) xs →
    StandAfterParents before (x ∷ xs)
next-after-parents before x xs here others zero parent e =
    let stands : (1 ≤ parent.0) × (parent.0 ≤ before) = here parent (cc e)
    in let high : parent.0 ≤ before = stands.1
    in (stands.0, omega arith)
next-after-parents before x xs here others (suc k) parent e =
    let stands : (1 ≤ parent.0) × (parent.0 ≤ (before + 1) + k) = others k parent e
    in let high : parent.0 ≤ (before + 1) + k = stands.1
    in (stands.0, omega arith)

pub sound-children :
    (script : ScriptValue) (processes : List ScriptProcess) → with_limits [] processes ≡ script.processes → StandAfterParents 0 processes →
    (child : ℕ) (x : ScriptProcess) (parent : Pid) → at_number script.processes child ≡ Some x → x.parent ≡ Some parent →
    IsSoundChild script child x parent
sound-children script processes same after zero x parent there e = cc
sound-children script processes same after (suc k) x parent there e =
    let parents : map (λ (y : ScriptProcess). y.parent) script.processes ≡ map (λ (y : ScriptProcess). y.parent) processes =
    ap (map (λ (y : ScriptProcess). y.parent)) (sym same) ∙ kept-with_limits (λ (y : ScriptProcess). y.parent) parent_kept processes
    in let found : slice_get script.processes k ≡ Some x = sym (at_number-suc script.processes k) ∙ there
    in let here : slice_get (map (λ (y : ScriptProcess). y.parent) script.processes) k ≡ Some (Some parent) =
    slice_get-map (λ (y : ScriptProcess). y.parent) script.processes k ∙ ap (option_map (λ (y : ScriptProcess). y.parent)) found ∙ ap Some e
    in let stands : (1 ≤ parent.0) × (parent.0 ≤ 0 + k) = after k parent (rw parents at here)
    in let low : 1 ≤ parent.0 = stands.0
    in let high : parent.0 ≤ 0 + k = stands.1
    in let is : script.processes ≡ limited [] processes = sym same ∙ with_limits-is [] processes
    in let limit : limit_at (limited [] processes) parent ≡ x.limit = limited-limits [] processes k x parent (rw is at found) e low high
    in record { first = low; after = omega arith; limit = rw (← is) at limit }
