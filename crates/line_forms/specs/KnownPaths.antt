-- Lines whose paths have names in the tables.
use Rattle.std.specs.Prelude.{List, [], ◌∷◌, ◌<◌, length}
use Rattle.line_text.specs.Types.{PathId}
use Rattle.line_forms.specs.declared.line.Line.{Line}
use Rattle.line_forms.specs.Tables.{Tables}
use Rattle.line_forms.specs.Uses.{paths_of}

abbrev pub ArePaths : Tables → List PathId → Type 0
ArePaths tables [] = Unit {0}
ArePaths tables (path ∷ paths) = (path.0 < length tables.paths) × ArePaths tables paths

abbrev pub HasPaths : Tables → Line → Type 0
HasPaths tables line = ArePaths tables (paths_of line)
