-- `soundness::surface::start_by` meets its contract: triangles that fit are glued, the walks then tell of the fans, and
-- the start kept for a vertex is where its ring starts.
use Prim.Native.Nat.{ℕ, suc, ◌-◌, ◌≤◌, ◌<◌}
use native.Mathlib.Decide.{dec_lt}
use native.Mathlib.Omega.{arith}
use mathlib.Core.Bool.{true}
use mathlib.Core.List.{List}
use mathlib.Core.Path.{◌≡◌, refl, sym, ap, ◌∙◌}
use lib.ListN.{get_or}
use Rattle.std.specs.Prelude.{Some}
use Rattle.theory.proofs.Numbers.Decide.{is_all, when_true}
use Rattle.theory.proofs.Rings.FanTest.{one_start, one_fan_is}
use Rattle.theory.proofs.Rings.Fans.{Starts, first_side_lem, first_in_use, first_none}
use Rattle.theory.proofs.Rings.Turning.{Glued}
use Rattle.rules.specs.Below.{all}
use Rattle.rules.specs.Ring.{first_side}
use Rattle.rules.specs.Sound.{OneFan, has_one_fan}
use Rattle.rules.specs.Tables.{Topology, sides, boundary}
use Rattle.tables.specs.Lent.{seen, topology_with}
use Rattle.rings.specs.Walks.{CornersInUse}
use Rattle.sides.specs.Parts.{triangle_fits}
use Rattle.sides.specs.Starts.{Kept, AllKept}
use Rattle.sides.proofs.Starts.{all_begun}
use Rattle.soundness.proofs.Triangles.{TriangleFits, triangles_are, sound_side_lem, sides_glued}
use Rattle.soundness.proofs.surface.start_by.Goals as goal

-- What is returned for v where it is no vertex in use.
past : (m : Topology) (v : ℕ) → CornersInUse m.vertices (sides m) m.corners → m.vertices ≤ v
    → sides m ≡ first_side m v
past m v corner l = let e = first_none m v (λ h i o. let k = corner h i in omega arith) in omega arith

-- The same where it is one, each vertex having one fan.
module _ (m : Topology) (G : Glued m) (fans : all m.vertices (has_one_fan m) ≡ true) (v : ℕ) where
  kept : (starts : List ℕ) → AllKept m.vertices m.corners m.links (sides m) starts → v < m.vertices
      → get_or starts v 0 ≡ suc (first_side m v)
  kept starts A l = go (dec_lt 0 x)
    where
      x : ℕ
      x = get_or starts v 0

      K : Kept m.corners m.links (sides m) v x
      K = A.each v l

      F : OneFan m v
      F = when_true (is_all m.vertices (has_one_fan m) (OneFan m) (λ w _. one_fan_is m G w)) fans v l

      starts_at : 0 < x → Starts m v (x - 1)
      starts_at p =
          let B = K.begun in
          record {
            begins = record { in_use = omega (arith, B.in_use); out = B.out p; best = B.best p };
            lowest = λ n h i o. let r = K.lowest p (n _ (omega (arith, B.in_use)) (B.out p)) h i o in omega arith;
          }

      go : Dec (0 < x) → x ≡ suc (first_side m v)
      go (yes p) =
          let i = first_in_use m v F.first F.in_use F.out in
          let e = one_start m G v F (x - 1) (first_side m v) (starts_at p) (first_side_lem m v i) in
          omega arith
      go (no n) = absurd (K.begun.none (omega arith) F.first F.in_use F.out)

-- What is known once every triangle fits.
module _ (m : Topology) (few : sides m < boundary) (fitted : all m.triangles (triangle_fits m) ≡ true) where
  triangles : (t : ℕ) → t < m.triangles → TriangleFits m t
  triangles = when_true (triangles_are m) fitted

  corner : CornersInUse m.vertices (sides m) m.corners
  corner h l = (sound_side_lem m few triangles h l).corner

  glued : Glued m
  glued = sides_glued m few triangles

pub returns-then-not-fans : goal.returns-then-not-fans
returns-then-not-fans c =
    let m : Topology = topology_with c.args.counts (seen c.args.view.now) in
    let few : sides m < boundary = omega (arith, c.requires.room.0.few_slots, c.requires.room.0.triangle_room) in
    let fitted = sym c.triangles_fit.ensures.value ∙ c.if-not-triangles_fit.false in
    let A = c.triangles_fit.ensures.all_kept c.if-not-triangles_fit.false in
    let told = c.fans.ensures _ (corner m few fitted) (all_begun A) _ (glued m few fitted) in
    rw (fitted, (sym told ∙ c.if-not-fans.true)) refl

pub returns-then-counts-v : goal.returns-then-counts-v
returns-then-counts-v c =
    let m : Topology = topology_with c.args.counts (seen c.args.view.now) in
    let few : sides m < boundary = omega (arith, c.requires.room.0.few_slots, c.requires.room.0.triangle_room) in
    let fitted = sym c.triangles_fit.ensures.value ∙ c.if-not-triangles_fit.false in
    let A = c.triangles_fit.ensures.all_kept c.if-not-triangles_fit.false in
    let told = c.fans.ensures _ (corner m few fitted) (all_begun A) _ (glued m few fitted) in
    rw (fitted, (sym told ∙ c.if-not-fans.false)) (ap Some (past m _ (corner m few fitted) c.if-counts-v.true))

pub overflow_sub-result : goal.overflow_sub-result
overflow_sub-result c =
    let m : Topology = topology_with c.args.counts (seen c.args.view.now) in
    let few : sides m < boundary = omega (arith, c.requires.room.0.few_slots, c.requires.room.0.triangle_room) in
    let fitted = sym c.triangles_fit.ensures.value ∙ c.if-not-triangles_fit.false in
    let A = c.triangles_fit.ensures.all_kept c.if-not-triangles_fit.false in
    let told = c.fans.ensures _ (corner m few fitted) (all_begun A) _ (glued m few fitted) in
    let start = kept m (glued m few fitted) (sym told ∙ c.if-not-fans.false) c.args.v _ A c.if-counts-v.false in
    omega (arith, start)

pub returns : goal.returns
returns c =
    let m : Topology = topology_with c.args.counts (seen c.args.view.now) in
    let few : sides m < boundary = omega (arith, c.requires.room.0.few_slots, c.requires.room.0.triangle_room) in
    let fitted = sym c.triangles_fit.ensures.value ∙ c.if-not-triangles_fit.false in
    let A = c.triangles_fit.ensures.all_kept c.if-not-triangles_fit.false in
    let told = c.fans.ensures _ (corner m few fitted) (all_begun A) _ (glued m few fitted) in
    let all_fans = sym told ∙ c.if-not-fans.false in
    let start = kept m (glued m few fitted) all_fans c.args.v _ A c.if-counts-v.false in
    rw (fitted, all_fans) (ap Some (omega (arith, start)))
