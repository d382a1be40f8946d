-- What a table with its cache stands for: the lines that were replied to.
use Rattle.std.specs.Prelude.{◌≡◌, ◌+◌, ◌≤◌, ℕ, List, ◌∷◌, length, reverse}
use Rattle.ncd_app.specs.Cache.{HoldsAnswers}
use Rattle.ncd_app.specs.Commands.{command_of}
use Rattle.ncd_app.specs.Definition.{Exchange, changes, exchange, exchanges, hits, misses, reply_to}
use Rattle.ncd_app.specs.Table.{HoldsChanges}
use Rattle.ncd_app.specs.declared.line.Record.{Record}

-- the records, the answers that are kept, and how many lines that asked were hits and misses
pub record NcdValue : Type 0 where
  pub records : List (List ℕ × Record)
  pub cached : List (List ℕ × List ℕ)
  pub hits : ℕ
  pub misses : ℕ

-- how many lines asked
abbrev pub asked_lines : NcdValue → ℕ
asked_lines n = n.hits + n.misses

pub record Stands (n : NcdValue) (past : List Exchange) : Type 0 where
  pub table : HoldsChanges n.records (changes past)
  pub cache : HoldsAnswers n.cached past
  pub hit : n.hits ≡ hits past
  pub missed : n.misses ≡ misses past

-- a line was replied to by this text
pub record Replied (old now : NcdValue) (line text : List ℕ) : Type 0 where
  pub step : (past : List Exchange) → Stands old past → (text ≡ reply_to past (command_of line)) × Stands now (exchange past line ∷ past)

-- these lines were replied to, in this order
pub record StandsFor (n : NcdValue) (lines : List (List ℕ)) : Type 0 where
  pub stands : Stands n (exchanges (reverse lines))
  pub few : asked_lines n ≤ length lines
