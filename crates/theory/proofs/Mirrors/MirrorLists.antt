-- A list of triangles refined in a mirrored mesh, with mirrored spare tables.
use Prim.Native.Nat.{ℕ, zero, suc, ◌*◌}
use mathlib.Core.Bool.{Bool, true, false}
use mathlib.Core.List.{List, [], ◌∷◌}
use mathlib.Core.Path.{◌≡◌, refl}
use lib.Dec.{leb}
use lib.IntN.{pos}
use lib.ListN.{get_or}
use Rattle.theory.proofs.Mirrors.MirrorRefusals.{refine_refused}
use Rattle.theory.proofs.Mirrors.MirrorTables.{get_or_mirror, fill_mirror}
use Rattle.theory.proofs.Mirrors.MirrorWork.{mirror_work, either, refine_mirror}
use Rattle.rules.specs.Calls.{refine_refusal}
use Rattle.rules.specs.Lists.{Progress, goes_on, risen, entry_refusal, entry_work, handle_unless, handle}
use Rattle.rules.specs.Lists.{handle_all}
use Rattle.rules.specs.Mirror.{mirror, mirror_spares}
use Rattle.rules.specs.Spares.{Spares, copied}
use Rattle.rules.specs.Split.{Work, refine}
use Rattle.rules.specs.Tables.{Mesh}

-- Progress on the mirrored mesh.
abbrev pub mirror_progress : ℕ → Progress → Progress
mirror_progress k p = record { work = mirror_work k p.work; handled = p.handled; refusal = p.refusal }

module _ (k : ℕ) where
  entry_refused : (start : Mesh) (t : ℕ) (m : Mesh)
      → entry_refusal (mirror k start) t (mirror k m) ≡ entry_refusal start t m
  unfolding entry_refusal
  entry_refused start t m = go (leb start.topology.triangles t) (risen start t m)
    where
      go : (a b : Bool)
          → ◌≡◌ {A = ℕ} (elim a [ true ↦ 8 | false ↦ elim b [ true ↦ 0 | false ↦ refine_refusal t (mirror k m) ] ])
          (elim a [ true ↦ 8 | false ↦ elim b [ true ↦ 0 | false ↦ refine_refusal t m ] ])
      go true b = refl
      go false true = refl
      go false false = refine_refused k m t

  entry_mirror : (start : Mesh) (t : ℕ) (w : Work)
      → entry_work (mirror k start) t (mirror_work k w) ≡ mirror_work k (entry_work start t w)
  unfolding entry_work
  entry_mirror start t w = either k (risen start t w.mesh) w (refine t w) refl (refine_mirror k t w)

  goes_mirror : (n : ℕ) (w : Work) (p : Progress)
      → goes_on n (mirror_work k w) (mirror_progress k p) ≡ mirror_progress k (goes_on n w p)
  goes_mirror zero w p = refl
  goes_mirror (suc n) w p = refl

  handle_mirror : (start : Mesh) (t : ℕ) (p : Progress)
      → handle (mirror k start) t (mirror_progress k p) ≡ mirror_progress k (handle start t p)
  unfolding handle
  handle_mirror start t p = go p.refusal
    where
      go : (n : ℕ)
          → handle_unless n (mirror k start) t (mirror_progress k p) ≡ mirror_progress k (handle_unless n start t p)
      go zero =
          rw (entry_refused start t p.work.mesh, entry_mirror start t p.work)
          (goes_mirror (entry_refusal start t p.work.mesh) (entry_work start t p.work) p)
      go (suc n) = refl

  pub handle_all_mirror : (start : Mesh) (list : List ℕ) (p : Progress)
      → handle_all (mirror k start) list (mirror_progress k p) ≡ mirror_progress k (handle_all start list p)
  unfolding handle_all
  handle_all_mirror start [] p = refl
  handle_all_mirror start (t ∷ rest) p = rw handle_mirror (handle_all_mirror start rest (handle start t p))

  pub copied_mirror : (m : Mesh) (s : Spares)
      → copied (mirror k m) (mirror_spares k s) ≡ mirror_spares k (copied m s)
  unfolding copied
  copied_mirror m s =
      rw (fill_mirror k (3 * m.topology.vertices) (λ i. get_or m.positions i (pos 0)) _ s.positions
      (λ i l. get_or_mirror k m.positions i))
