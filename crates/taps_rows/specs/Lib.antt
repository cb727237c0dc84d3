pub mod RaceResults
