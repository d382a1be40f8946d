-- Chains of threads: who serves the call of whom, as functions of thread numbers, where 0 is none.
use Rattle.std.specs.Prelude.{◌≡◌, ◌≢◌, ◌<◌, ◌≤◌, ℕ, zero, suc, List, slice_index_or}

-- the number of the last call, and for each thread its caller, its server and the number of the call that it serves
pub record LinksValue : Type 0 where
  pub top : ℕ
  pub up : List ℕ
  pub down : List ℕ
  pub rank : List ℕ

abbrev pub at : List ℕ → ℕ → ℕ
at xs t = slice_index_or xs t 0

abbrev pub other_at : ℕ → ℕ → ℕ
other_at t zero = t
other_at t (suc x) = suc x

-- the other end of a chain
abbrev pub other : List ℕ → ℕ → ℕ
other far t = other_at t (at far t)

abbrev pub walk_to : (ℕ → ℕ) → ℕ → ℕ → ℕ
walk_to go t zero = t
walk_to go t (suc u) = go (suc u)

-- at most so many steps
abbrev pub walk : ℕ → (ℕ → ℕ) → ℕ → ℕ
walk zero next t = t
walk (suc n) next t = walk_to (walk n next) t (next t)

-- Both ends of each chain know each other, and the caller's is the root of the server's.
pub record Sound (top : ℕ) (up down rank o : ℕ → ℕ) : Type 0 where
  pub within : (t : ℕ) → 0 < up t → (t ≤ 64) × (up t ≤ 64)
  pub no_up : up 0 ≡ 0
  pub no_down : down 0 ≡ 0
  pub back_down : (t : ℕ) → 0 < up t → down (up t) ≡ t
  pub back_up : (t : ℕ) → 0 < down t → up (down t) ≡ t
  pub ranked : (t : ℕ) → 0 < up t → rank (up t) < rank t
  pub bounded : (t : ℕ) → rank t ≤ top
  pub lead : (t : ℕ) → down t ≡ 0 → (up (o t) ≡ 0) × (o (o t) ≡ t)
  pub root : (t : ℕ) → up t ≡ 0 → (down (o t) ≡ 0) × (o (o t) ≡ t)
  pub token : (t : ℕ) → down t ≡ 0 → walk (rank t) up t ≡ o t
  pub short : (t : ℕ) → 0 < t → t ≤ 64 → (0 < o t) × (o t ≤ 64)

-- one number is another, and the others are the same
pub record Sets (f g : ℕ → ℕ) (i v : ℕ) : Type 0 where
  pub changed : g i ≡ v
  pub others : (k : ℕ) → k ≢ i → g k ≡ f k

abbrev pub IsEmpty : LinksValue → Type 0
IsEmpty s = (s.top ≡ 0) × ((t : ℕ) → (at s.up t ≡ 0) × (at s.down t ≡ 0) × (at s.rank t ≡ 0))

-- u can serve call c of a: neither has a call that is served, u serves none, and the call is later than the one that a serves
pub record CanLink (s : LinksValue) (a u c : ℕ) : Type 0 where
  pub apart : a ≢ u
  pub caller : at s.down a ≡ 0
  pub server : at s.up u ≡ 0
  pub idle : at s.down u ≡ 0
  pub later : at s.rank a < c
  pub made : c ≤ s.top
  pub caller_in : (0 < a) × (a ≤ 64)
  pub server_in : (0 < u) × (u ≤ 64)

pub record Linked (old new : LinksValue) (a u c : ℕ) : Type 0 where
  pub top : new.top ≡ old.top
  pub up : Sets (at old.up) (at new.up) u a
  pub down : Sets (at old.down) (at new.down) a u
  pub rank : Sets (at old.rank) (at new.rank) u c

pub record Cut (old new : LinksValue) (u : ℕ) : Type 0 where
  pub top : new.top ≡ old.top
  pub up : Sets (at old.up) (at new.up) u 0
  pub down : Sets (at old.down) (at new.down) (at old.up u) 0
  pub rank : Sets (at old.rank) (at new.rank) u 0
