-- What a call of a mirrored mesh refuses.
use Prim.Native.Nat.{ℕ, ◌*◌, ◌%◌}
use native.Mathlib.Omega.{arith}
use mathlib.Core.List.{List}
use mathlib.Core.Path.{◌≡◌}
use lib.IntN.{ℤ}
use Rattle.theory.proofs.Loads.Alike.{all_same, SameCorners, corners_fit_same, sides_differ_same, partner_same}
use Rattle.theory.proofs.Mirrors.MirrorTables.{length_mirror, get_or_mirror, fill_mirror}
use Rattle.theory.proofs.Mirrors.Opposites.{mirror_range}
use Rattle.theory.proofs.Numbers.Fill.{fill_same}
use Rattle.rules.specs.Cage.{cage_of, partner, loaded, sizes_fit, coordinates_fit, fans_fit, some_inner_of_two}
use Rattle.rules.specs.Calls.{load_refusal, refine_refusal, whole_step_refusal, limit_refusal, ring_refusal}
use Rattle.rules.specs.Calls.{lock_refusal, position_refusal, view_refusal, alters_locked, some_locked}
use Rattle.rules.specs.Lists.{spares_refusal}
use Rattle.rules.specs.Mirror.{mirror_table, mirror, mirror_spares, MirrorCage}
use Rattle.rules.specs.Rim.{curve_refusal}
use Rattle.rules.specs.Sound.{is_sound}
use Rattle.rules.specs.Spares.{Spares, same_sizes}
use Rattle.rules.specs.Tables.{Mesh, tables_agree}

module _ (k : ℕ) (m : Mesh) where
  pub tables_mirror : tables_agree (mirror k m) ≡ tables_agree m
  unfolding tables_agree
  tables_mirror = rw (length_mirror k m.positions)

  pub sound_mirror : is_sound (mirror k m) ≡ is_sound m
  unfolding is_sound
  sound_mirror = simp (tables_mirror, length_mirror, get_or_mirror, mirror_range)

  pub refine_refused : (t : ℕ) → refine_refusal t (mirror k m) ≡ refine_refusal t m
  unfolding refine_refusal alters_locked
  refine_refused t = rw (tables_mirror, sound_mirror, length_mirror k m.positions)

  pub step_refused : whole_step_refusal (mirror k m) ≡ whole_step_refusal m
  unfolding whole_step_refusal some_locked
  step_refused = rw (tables_mirror, sound_mirror, length_mirror k m.positions)

  pub lock_refused_lem : (t : ℕ) → lock_refusal t (mirror k m) ≡ lock_refusal t m
  unfolding lock_refusal
  lock_refused_lem t = rw (tables_mirror, sound_mirror)

  pub limit_refused : (table : List ℤ) → limit_refusal (mirror_table k table) (mirror k m) ≡ limit_refusal table m
  unfolding limit_refusal
  limit_refused table = rw (tables_mirror, sound_mirror, length_mirror k table)

  pub ring_refused : (v : ℕ) (buffer : List ℕ) → ring_refusal v buffer (mirror k m) ≡ ring_refusal v buffer m
  unfolding ring_refusal
  ring_refused v buffer = rw (tables_mirror, sound_mirror)

  pub position_refused : (v : ℕ) → position_refusal v (mirror k m) ≡ position_refusal v m
  unfolding position_refusal
  position_refused v = rw (tables_mirror, sound_mirror)

  pub view_refused : (n : ℕ) → view_refusal n (mirror k m) ≡ view_refusal n m
  unfolding view_refusal
  view_refused n = rw (tables_mirror, sound_mirror)

  pub curve_refused : (v : ℕ) (table : List ℤ)
      → curve_refusal v (mirror_table k table) (mirror k m) ≡ curve_refusal v table m
  unfolding curve_refusal
  curve_refused v table = rw (tables_mirror, sound_mirror, length_mirror k table)

  pub same_sizes_mirror : (spares : Spares) → same_sizes (mirror_spares k spares) (mirror k m) ≡ same_sizes spares m
  unfolding same_sizes
  same_sizes_mirror spares = rw (length_mirror k m.positions, length_mirror k spares.positions)

  pub spares_refused : (spares : Spares)
      → spares_refusal (mirror_spares k spares) (mirror k m) ≡ spares_refusal spares m
  unfolding spares_refusal
  spares_refused spares = rw (tables_mirror, same_sizes_mirror, sound_mirror)

  module _ {those these : List ℕ} (C : MirrorCage k those these) where
    same_corners_lem : SameCorners (cage_of these) (cage_of those)
    same_corners_lem = record {
      vertices = C.vertices;
      triangles = C.triangles;
      corner = λ h l. C.corners h (omega arith);
    }

    pub loaded_mirror : loaded (cage_of these) (mirror k m) ≡ mirror k (loaded (cage_of those) m)
    unfolding loaded
    loaded_mirror =
        let c = cage_of these in
        let d = cage_of those in
        let t = m.topology in
        rw (
          fill_same (3 * c.triangles) c.corner d.corner t.corners same_corners_lem.corner,
          fill_same (3 * c.triangles) (partner c) (partner d) t.links (partner_same same_corners_lem),
          C.vertices,
          C.triangles,
          fill_mirror k (3 * d.vertices) d.coordinate c.coordinate m.positions C.coordinates,
        )

    sizes_mirror : sizes_fit these (mirror k m) ≡ sizes_fit those m
    unfolding sizes_fit
    sizes_mirror = rw (C.size, C.vertices, C.triangles, length_mirror k m.positions)

    coordinates_mirror : coordinates_fit (cage_of these) ≡ coordinates_fit (cage_of those)
    unfolding coordinates_fit
    coordinates_mirror = rw C.vertices (all_same _ _ _ (λ i b. rw (C.coordinates i b) (mirror_range k (i % 3) _)))

    fans_mirror : fans_fit (cage_of these) (mirror k m) ≡ fans_fit (cage_of those) m
    unfolding fans_fit
    fans_mirror = rw (loaded_mirror, C.vertices)

    two_mirror : some_inner_of_two (cage_of these) (mirror k m) ≡ some_inner_of_two (cage_of those) m
    unfolding some_inner_of_two
    two_mirror = rw (loaded_mirror, C.triangles)

    pub load_refused : (rule : ℕ) → load_refusal rule these (mirror k m) ≡ load_refusal rule those m
    unfolding load_refusal
    load_refused rule =
        let corners = corners_fit_same same_corners_lem in
        let sides = sides_differ_same same_corners_lem in
        rw (tables_mirror, sizes_mirror, corners, coordinates_mirror, sides, fans_mirror, two_mirror)
