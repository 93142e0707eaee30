pub mod Standings
pub mod Holdings
pub mod Gatherings
pub mod Salvages
pub mod Salvagings
pub mod SalvagedFound
pub mod OneSalvage
pub mod Lemmas
