-- The words of this crate's specs, from one place, for the crates above.
pub use Rattle.load_gen.specs.Loads.{Client, client_body, client_thread, clients_of, load_calls, script_with_clients}
unfoldable pub use Rattle.load_gen.specs.Loads.{load_script}
unfoldable pub use Rattle.load_gen.specs.LoadText.{load_text}
unfoldable pub use Rattle.load_gen.specs.Summaries.{collects_results, makes_call, summary_of}
pub use Rattle.load_gen.specs.Told.{IsSummaryOf}
