-- The answers, computed: what contracts cite. Nobody has to believe these files: the proofs show that each gives what the relations of the
-- other folders say.
pub mod Decode
pub mod Numeral
pub mod ReadText
pub mod Rules
pub mod ReadPack
pub mod ReadUnk
pub mod HandedIn
