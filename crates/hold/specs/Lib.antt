-- A reading as it is handed in.
pub mod HandedIn
