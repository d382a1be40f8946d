pub mod Texts
pub mod WithNames
pub mod DraftSteps
pub mod LineSteps
pub mod OfPlace
pub mod ReaderSteps
pub mod NamesSteps
pub mod ReaderEnd
pub mod ReadingBegins
pub mod FirstUses
pub mod PathNumbers
pub mod LinePaths
pub mod ItemFound
pub mod LinesFound
pub mod SpelledItems
pub mod NamesInWords
pub mod ChildLimits
pub mod TablesOfItems
pub mod TextFound
pub mod NumberedUses
pub mod DistinctItems
pub mod ParentsOfItems
pub mod ItemAgain
pub mod TextOnly
pub mod TextDecided
mod Stand
mod CanonicalItems
mod CanonicalScript
mod CanonicalStands
mod CanonicalLines
pub mod Versions
mod CanonicalSpelled
pub mod PrintSteps
pub mod ScriptRead
pub mod UnknownLast
