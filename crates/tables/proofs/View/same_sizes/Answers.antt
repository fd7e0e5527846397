-- `tables::View::same_sizes` meets its contract.
use borrow.Author.Tests.{eq-eqb, ne_eqb}
use mathlib.Core.Bool.{false}
use mathlib.Core.Logic.{◌≢◌}
use mathlib.Core.Path.{◌≡◌, refl}
use lib.Dec.{eqb}
use lib.ListN.{length}
use Rattle.rules.specs.Spares.{Spares, same_sizes}
use Rattle.rules.specs.Tables.{Mesh}
use Rattle.tables.specs.Lent.{mesh_with, seen}
use Rattle.tables.proofs.View.same_sizes.Goals as goal

module _ (s : Spares) (m : Mesh) where
  positions_differ : length s.positions ≢ length m.positions → false ≡ same_sizes s m
  unfolding same_sizes
  positions_differ n = rw (ne_eqb _ _ n, same_sizes) refl

  module _ (a : length s.positions ≡ length m.positions) where
    corners_differ : length s.corners ≢ length m.topology.corners → false ≡ same_sizes s m
    unfolding same_sizes
    corners_differ n = rw (eq-eqb _ _ a, ne_eqb _ _ n, same_sizes) refl

    module _ (b : length s.corners ≡ length m.topology.corners) where
      links_differ : length s.links ≢ length m.topology.links → false ≡ same_sizes s m
      unfolding same_sizes
      links_differ n = rw (eq-eqb _ _ a, eq-eqb _ _ b, ne_eqb _ _ n, same_sizes) refl

      module _ (c : length s.links ≡ length m.topology.links) where
        generations_differ : length s.generations ≢ length m.topology.generations → false ≡ same_sizes s m
        unfolding same_sizes
        generations_differ n = rw (eq-eqb _ _ a, eq-eqb _ _ b, eq-eqb _ _ c, ne_eqb _ _ n, same_sizes) refl

        locks_decide : length s.generations ≡ length m.topology.generations
            → eqb (length s.locks) (length m.locks) ≡ same_sizes s m
        unfolding same_sizes
        locks_decide d = rw (eq-eqb _ _ a, eq-eqb _ _ b, eq-eqb _ _ c, eq-eqb _ _ d, same_sizes) refl

pub returns-then-spares-self : goal.returns-then-spares-self
returns-then-spares-self c n =
    positions_differ (seen c.args.spares.now) (mesh_with n (seen c.args.self.now)) c.if-spares-self.true

pub returns-then-spares-self-2 : goal.returns-then-spares-self-2
returns-then-spares-self-2 c n =
    corners_differ (seen c.args.spares.now) (mesh_with n (seen c.args.self.now)) c.if-spares-self.false c.if-spares-self-2.true

pub returns-then-spares-self-3 : goal.returns-then-spares-self-3
returns-then-spares-self-3 c n =
    links_differ (seen c.args.spares.now) (mesh_with n (seen c.args.self.now)) c.if-spares-self.false c.if-spares-self-2.false
    c.if-spares-self-3.true

pub returns-then-spares-self-4 : goal.returns-then-spares-self-4
returns-then-spares-self-4 c n =
    generations_differ (seen c.args.spares.now) (mesh_with n (seen c.args.self.now)) c.if-spares-self.false c.if-spares-self-2.false
    c.if-spares-self-3.false c.if-spares-self-4.true

pub returns : goal.returns
returns c n =
    locks_decide (seen c.args.spares.now) (mesh_with n (seen c.args.self.now)) c.if-spares-self.false c.if-spares-self-2.false
    c.if-spares-self-3.false c.if-spares-self-4.false
