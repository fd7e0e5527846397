-- What the contract of the refusal before the work in spare tables cites beside the rules.
pub mod Working
