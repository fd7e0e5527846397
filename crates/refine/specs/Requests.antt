-- A fresh store, and what requests make of a mesh.
use Rattle.std.specs.Prelude.{ℕ, zero, suc, ◌-◌, ◌*◌, ◌/◌, ◌^◌, ◌≤◌, List, ◌++◌, ◌≡◌, length, decimal, codes}
use Rattle.rules.specs.Calls.{Outcome, refine_call}
use Rattle.rules.specs.Numbers.{number_at}
use Rattle.rules.specs.Spares.{Spares}
use Rattle.rules.specs.Tables.{Mesh}
use Rattle.tables.specs.Answers.{worked_outcome}
use Rattle.tables.specs.Lent.{mesh_with, spares_now}
use Rattle.tables.specs.declared.Counts.{Counts}
use Rattle.tables.specs.declared.Worked.{Worked}
use Rattle.refine.specs.declared.Store.{Store}

-- The counts of a fresh store, with rule 1.
abbrev pub fresh : Counts
fresh = record { vertices = 0; triangles = 0; rule = 1 }

-- The line of a call: refusal, splits, flips, vertices and triangles.
abbrev pub spaced : ℕ → List ℕ → List ℕ
spaced n rest = decimal n ++ (codes " " ++ rest)

abbrev pub line_of : Worked → List ℕ
line_of done =
    spaced done.refusal (spaced done.splits (spaced done.flips (spaced done.counts.vertices
    (decimal done.counts.triangles))))

-- The tables of a store.
abbrev pub tables_of : Store → Spares
tables_of s = spares_now s.positions s.corners s.links s.generations s.locks

-- The mesh in a store, and the outcome of a call that left this store.
abbrev pub store_mesh : Store → Mesh
store_mesh s = mesh_with s.counts (tables_of s)

abbrev pub store_outcome : Worked → Store → Outcome
store_outcome done s = worked_outcome done (tables_of s)

-- The mesh after the first n requests in these bytes, each a triangle's number in four of them.
unfoldable pub after_requests : ℕ → List ℕ → Mesh → Mesh
after_requests zero bytes m = m
after_requests (suc n) bytes m = (refine_call (number_at bytes (4 * n)) (after_requests n bytes m)).mesh

-- The mesh after all requests in these bytes; one to three bytes left over are dropped.
unfoldable pub after_bytes : List ℕ → Mesh → Mesh
after_bytes bytes m = after_requests (length bytes / 4) bytes m

-- Reads into a buffer of `size` bytes: `earlier` are the bytes of `turns` reads that filled it, and `last` those of the
-- read after them, which did not fill it, unless it came after so many that no turn is left.
pub record Reads (size turns : ℕ) (earlier last : List ℕ) : Type 0 where
  pub filled : length earlier ≡ size * turns
  pub fits : length last ≤ size
  pub ended : length last ≡ size → turns ≡ 2 ^ 64 - 1

-- `after` is what all requests make of `before`: those of the bytes that were read, one read after the other.
pub record AllAnswered (size : ℕ) (last : List ℕ) (before after : Mesh) : Type 0 where
  pub turns : ℕ
  pub earlier : List ℕ
  pub reads : Reads size turns earlier last
  pub answered : after ≡ after_bytes (earlier ++ last) before
