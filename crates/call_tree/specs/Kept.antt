-- Calls with their keys, in the order in which they were made.
use Rattle.std.specs.Prelude.{◌≡◌, ◌≢◌, ◌==◌, ℕ, Bool, true, false, List, [], ◌∷◌, Option, Some, None, IsSome, find, if◌then◌else◌, map}
use Rattle.spec_records.specs.declared.record.Call.{Call}

-- the calls with their keys, and how many more take no memory
pub record RecordsValue : Type 0 where
  pub entries : List (ℕ × Call)
  pub spare : ℕ

abbrev pub has_key : ℕ → ℕ × Call → Bool
has_key k e = e.0 == k

-- the call of a key
abbrev pub look : ℕ → List (ℕ × Call) → Option Call
look k [] = None
look k (e ∷ es) = if has_key k e then Some e.1 else look k es

abbrev pub HasKey : List (ℕ × Call) → ℕ → Type 0
HasKey es k = IsSome (look k es)

abbrev pub call_in : ℕ × Call → Call
call_in e = e.1

abbrev pub calls_in : List (ℕ × Call) → List Call
calls_in es = map call_in es

abbrev pub with_entry : ℕ → Option Call → List (ℕ × Call) → List (ℕ × Call)
with_entry k None es = es
with_entry k (Some r) es = (k, r) ∷ es

-- the calls at these keys
abbrev pub entries_of : (ℕ → Option Call) → List ℕ → List (ℕ × Call)
entries_of f [] = []
entries_of f (k ∷ ks) = with_entry k (f k) (entries_of f ks)

-- none of these keys is k
abbrev pub IsFresh : ℕ → List ℕ → Type 0
IsFresh k [] = Unit {0}
IsFresh k (x ∷ xs) = (x ≢ k) × IsFresh k xs

-- each key has a call, and no key comes twice
abbrev pub AreKept : (ℕ → Option Call) → List ℕ → Type 0
AreKept f [] = Unit {0}
AreKept f (k ∷ ks) = IsSome (f k) × IsFresh k ks × AreKept f ks

abbrev pub with_call : ℕ → Call → List (ℕ × Call) → List (ℕ × Call)
with_call k r [] = []
with_call k r (e ∷ es) = if has_key k e then (k, r) ∷ es else e ∷ with_call k r es

abbrev pub without_key : ℕ → List (ℕ × Call) → List (ℕ × Call)
without_key k [] = []
without_key k (e ∷ es) = if has_key k e then es else e ∷ without_key k es

-- this is call c
abbrev pub is_call : ℕ → Call → Bool
is_call c r = r.number == c

-- whether there is a call that meets a test
abbrev pub passes : (Call → Bool) → Option Call → Bool
passes p None = false
passes p (Some r) = p r

-- the number of a call, or 0
abbrev pub number_in : Option Call → ℕ
number_in None = 0
number_in (Some r) = r.number

-- the key of the first call that a test finds, or none where no call passes
abbrev pub IsFound : (Call → Bool) → List (ℕ × Call) → Option ℕ → Type 0
IsFound p es None = find p (calls_in es) ≡ None
IsFound p es (Some k) = (r : Call) × (look k es ≡ Some r) × (p r ≡ true)
