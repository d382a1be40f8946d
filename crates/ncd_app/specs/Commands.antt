-- Lines and what they ask for. A line is words with one space, which is 32, between each two.
use Rattle.std.specs.Prelude.{ℕ, Bool, true, false, ◌==◌, ◌&&◌, bytes_eq, codes, nat_le, List, [], ◌∷◌, Option, Some, None, length, if◌then◌else◌}
use Rattle.std.specs.List.{list_all, onto_first}
use Rattle.ncd_app.specs.declared.line.Change.{Change}
use Rattle.ncd_app.specs.declared.line.Command.{Command}
use Rattle.ncd_app.specs.declared.line.Command.TheVariants as command
use Rattle.ncd_app.specs.declared.line.Question.TheVariants.{Get, Who}
use Rattle.ncd_app.specs.declared.line.Record.TheVariants.{Alias, Value}
use Rattle.ncd_app.specs.declared.line.Record.{Record}

-- from 0x21 to 0x7e
abbrev pub is_visible : ℕ → Bool
is_visible b = nat_le 33 b && nat_le b 126

-- 1 to 32 bytes
abbrev pub is_word : List ℕ → Bool
is_word word = nat_le 1 (length word) && nat_le (length word) 32 && list_all is_visible word

-- what stands between the spaces of a line
abbrev pub parts_of : List ℕ → List (List ℕ)
parts_of [] = [] ∷ []
parts_of (b ∷ bs) = if b == 32 then [] ∷ parts_of bs else onto_first b (parts_of bs)

-- this is made of a key's record
abbrev pub change_to : List ℕ → Option Record → Change
change_to key made = record { key = key; made = made }

abbrev pub change : List ℕ → Option Record → Command
change key made = command.Change (change_to key made)

abbrev pub command_about_one : List ℕ → List ℕ → Command
command_about_one verb word =
    if bytes_eq verb (codes "get") then command.Ask (Get word)
    else (if bytes_eq verb (codes "who") then command.Ask (Who word)
    else (if bytes_eq verb (codes "del") then change word None else command.Bad))

abbrev pub command_about_two : List ℕ → List ℕ → List ℕ → Command
command_about_two verb key word =
    if bytes_eq verb (codes "set") then change key (Some (Value word))
    else (if bytes_eq verb (codes "alias") then change key (Some (Alias word)) else command.Bad)

abbrev pub command_in : List (List ℕ) → Command
command_in [] = command.Bad
command_in (verb ∷ []) = if bytes_eq verb (codes "stat") then command.Statistics else command.Bad
command_in (verb ∷ word ∷ []) = if is_word word then command_about_one verb word else command.Bad
command_in (verb ∷ key ∷ word ∷ []) = if is_word key && is_word word then command_about_two verb key word else command.Bad
command_in (verb ∷ key ∷ word ∷ more ∷ others) = command.Bad

-- what a line is for
abbrev pub command_of : List ℕ → Command
command_of line = command_in (parts_of line)

-- it is a line that asks
abbrev pub asks : Command → Bool
asks (command.Change c) = false
asks (command.Ask q) = true
asks command.Statistics = false
asks command.Bad = false
