-- What tables keep.
use Rattle.std.specs.Prelude.{List, length, ◌<◌}

-- each name has a number of 32 bits
pub record HasNumbers {A B C : Type 0} (processes : List A) (threads : List B) (procedures : List C) : Type 0 where
  pub few_processes : length processes < 4294967295
  pub few_threads : length threads < 4294967295
  pub few_procedures : length procedures < 4294967295
