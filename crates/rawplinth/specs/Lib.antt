-- The answers that C is given in another form.
pub mod Seeing
