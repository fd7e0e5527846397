-- Refines made in spare tables: they hold the copy of what the refines make of the mesh, which may be copied back.
use mathlib.Core.Path.{◌≡◌, refl, sym, ap, ◌∙◌}
use mathlib.Core.Logic.{◌≢◌}
use mathlib.Core.List.{List, [], ◌++◌}
use Prim.Native.Nat.{ℕ, zero, suc, ◌+◌, ◌*◌, ◌≤◌}
use native.Mathlib.Omega.{arith}
use lib.ListN.{length}
use Rattle.theory.proofs.Chains.Going.{Going, going_begins, same_past}
use Rattle.theory.proofs.Spares.CopiedBack.{tables_of, copied_back, copied_again}
use Rattle.theory.proofs.Spares.OverSpares.{over, over_sound}
use Rattle.theory.proofs.Splits.Bases.{reached}
use Rattle.rules.specs.Calls.{Outcome, outcome_of, worked, spare_room}
use Rattle.rules.specs.Lists.{Progress, spares_answer, all_or_nothing}
use Rattle.rules.specs.Promises.{added}
use Rattle.rules.specs.Sound.{Sound}
use Rattle.rules.specs.Spares.{Spares, mesh_in, copied, SameSizes}
use Rattle.rules.specs.Split.{Work, at_first, with_mesh}
use Rattle.rules.specs.Tables.{Mesh}

-- Refines keep the slots.
pub going_sizes : {s : Spares} {m : Mesh} {w : Work} → SameSizes s m → Going m w → SameSizes s w.mesh
going_sizes L G =
    let R = G.room in
    record {
      positions = L.positions ∙ sym R.positions;
      corners = L.corners ∙ sym R.corners;
      links = L.links ∙ sym R.links;
      generations = L.generations ∙ sym R.generations;
      locks = L.locks ∙ sym R.locks;
    }

-- The tables, which were s, hold x, the copy of what refines made of m, with k splits, f flips and the report l.
pub record Holding (m : Mesh) (s : Spares) (w : Work) (k f : ℕ) (l : List ℕ) (x : Mesh) : Type 0 where
  pub sizes : SameSizes s m
  pub going : Going m w
  pub splits : k ≡ w.splits
  pub flips : f ≡ w.flips
  pub report : l ≡ w.report
  pub tables : x ≡ over s w.mesh

-- What was answered, and the tables, are what was made.
pub record Done (p : Progress) (s : Spares) (n at k f : ℕ) (x : Mesh) : Type 0 where
  pub refusal : n ≡ p.refusal
  pub handled : at ≡ p.handled
  pub splits : k ≡ p.work.splits
  pub flips : f ≡ p.work.flips
  pub tables : x ≡ over s p.work.mesh

pub holding_begins : {m : Mesh} {s : Spares} → SameSizes s m → Sound m → Holding m s (at_first m) 0 0 [] (over s m)
holding_begins L S = record {
  sizes = L;
  going = going_begins S;
  splits = refl;
  flips = refl;
  report = refl;
  tables = refl;
}

module _ {m : Mesh} {s : Spares} {w : Work} {k f : ℕ} {l : List ℕ} {x : Mesh} (H : Holding m s w k f l x) where
  pub holding_sizes : SameSizes s w.mesh
  holding_sizes = going_sizes H.sizes H.going

  -- They hold a sound mesh, and the counts are small.
  pub holding_sound : Sound x
  holding_sound = rw H.tables (over_sound holding_sizes H.going.sound)

  pub holding_few : (k ≤ 32768) × (f ≤ 98304)
  holding_few =
      let G = H.going in
      let b : (reached w).triangles ≤ 65536 =
      omega (arith, G.sound.triangle_room, G.sound.tables.few_triangles) in
      let e = H.splits in
      let q = H.flips in
      (omega (arith, G.triangles), omega (arith, G.triangles, G.flips))

  -- Three slots are reported for each split, and two for each flip.
  pub holding_length : length l ≡ 3 * k + 2 * f
  holding_length =
      let T = H.going.telling in
      omega (arith, ap length (H.report ∙ T.report), T.size, H.splits, H.flips)

  pub holding_done : {n at : ℕ} {p : Progress} → p ≡ record { work = w; handled = at; refusal = n }
      → Done p s n at k f x × (l ≡ p.work.report)
  holding_done e = rw e (
    record { refusal = refl; handled = refl; splits = H.splits; flips = H.flips; tables = H.tables },
    H.report,
  )

  -- More work, of which the tables hold the copy.
  pub holding_on : (u : Work) {y : Work} {o : Outcome} → y ≡ added w u → Going m y
      → o ≡ worked (with_mesh (over s u.mesh) u)
      → Holding m s y (k + o.answer.splits) (f + o.answer.flips) (l ++ u.report) o.mesh
  holding_on u a G e = rw e (record {
    sizes = H.sizes;
    going = G;
    splits = rw a (ap (λ (j : ℕ). j + u.splits) H.splits);
    flips = rw a (ap (λ (j : ℕ). j + u.flips) H.flips);
    report = rw a (ap (λ (j : List ℕ). j ++ u.report) H.report);
    tables = rw a refl;
  })

-- ---- the outcome

-- The work failed half way: the mesh stands.
pub failed_is : (m : Mesh) {p : Progress} {s : Spares} {n at k f : ℕ} {x : Mesh} → Done p s n at k f x → n ≢ 0
    → outcome_of (spares_answer n 0 0 m at x) m (spare_room (tables_of x)) ≡ all_or_nothing p.refusal p s m
unfolding copied
failed_is m {p} {s} D z = rw (D.tables, D.handled, D.refusal) (go p.refusal (λ q. z (D.refusal ∙ q)))
  where
    go : (n : ℕ) → n ≢ 0
        → outcome_of (spares_answer n 0 0 m p.handled p.work.mesh) m (spare_room (copied p.work.mesh s))
        ≡ all_or_nothing n p s m
    go zero z = absurd (z refl)
    go (suc n) z = refl

-- It did not: what was made is copied back.
pub copied_is : {m : Mesh} {p : Progress} {s : Spares} {at k f : ℕ} {x : Mesh} {y : Spares} → SameSizes s m
    → Going m p.work → Done p s 0 at k f x → y ≡ copied x (tables_of m)
    → outcome_of (spares_answer 0 k f x at x) (mesh_in y x) (spare_room (tables_of x)) ≡ all_or_nothing p.refusal p s m
copied_is {m} L G D e =
    let back = copied_again (tables_of m) (going_sizes L G) G.sound ∙ copied_back (same_past G) G.sound in
    rw (e, D.tables, D.handled, D.splits, D.flips, ← D.refusal, back) refl
