-- What is written to a lent buffer, part by part.
use Rattle.std.specs.Prelude.{ℕ, List, ◌≡◌, length}
use Rattle.std.proofs.lemmas.List.Edits.{sets}

-- The buffer e becomes l: some bytes are written from a place on.
pub record Put (e : List ℕ) (at : ℕ) (bytes l : List ℕ) : Type 0 where
  pub is : l ≡ sets e at bytes
  pub size : length l ≡ length e
