-- `wanting::refine_marked` meets its contract.
use mathlib.Core.List.{List}
use lib.ListN.{length, take}
use Prim.Native.Nat.{◌≤◌}
use Rattle.std.proofs.lemmas.List.{length-take-le}
use native.Mathlib.Omega.{arith}
use mathlib.Core.Path.{◌≡◌, refl, sym, ap, subst, ◌∙◌}
use Prim.Native.Nat.{ℕ}
use Rattle.points.specs.Axes.{box_of}
use Rattle.points.specs.declared.Point.{Point}
use Rattle.split.specs.declared.Chain.{Chain}
use Rattle.rules.specs.Tables.{Mesh}
use Rattle.rules.specs.Spares.{Spares}
use Rattle.split.specs.Made.{BaseChain}
use Rattle.tables.specs.declared.Counts.{Counts}
use Rattle.tables.specs.Lent.{held, mesh_with, topology_now, topology_with}
use Rattle.wanting.specs.Wanting.{Seen, SeenFrom, Refines, Looks, Stale, nearby}
use Rattle.refining.proofs.Locking.{follows}
use Rattle.tables.proofs.Standing.{sound_standing}
use Rattle.wanting.proofs.Turn.{refine_carried, refined_sound, odd_inside, stale, seen_after, sees_new}
use Rattle.wanting.proofs.refine_marked.Goals.{After-refine-done}
use Rattle.wanting.proofs.refine_marked.Goals as goal

-- Once the new vertices are marked, the triangles can be told by what is seen of the tables.
looks : {t : ℕ} {x : Mesh} (n : Counts) {v s : Spares} → Refines t x (mesh_with n s) → v ≡ s
    → {low high : Point} {below : ℕ} {inside after : List ℕ} → Seen (box_of low high below) x inside
    → SeenFrom x.topology.vertices n.vertices low high v.positions inside after
    → Looks (box_of low high below) (mesh_with n s) v.corners v.generations after below
looks {x = x} n R e {low} {high} {inside = inside} {after} S A = record {
  sound = refined_sound R;
  corners = ap (λ (y : Spares). y.corners) e;
  generations = ap (λ (y : Spares). y.generations) e;
  below = refl;
  seen = seen_after R S
      (subst (λ (y : Spares). SeenFrom x.topology.vertices n.vertices low high y.positions inside after) e A);
}

pub base_chain-chain-requires : goal.base_chain-chain-requires
base_chain-chain-requires c =
    let young = c.requires.1.generations c.args.t c.requires.2 in
    rw (ap (λ (s : Spares). s.generations) c.view-before.ensures.same) young

-- The chain and its end's neighbours, by the tables.
chain_of : (n : Counts) {t : ℕ} {chain : Chain} {v s : Spares} → BaseChain (topology_with n v) t chain → v ≡ s
    → BaseChain (topology_with n s) t chain
chain_of n {t} {chain} C e = subst (λ (y : Spares). BaseChain (topology_with n y) t chain) e C

near_of : (n : Counts) (c g : List ℕ) {end : ℕ} {near : List ℕ} {v s : Spares} → near ≡ nearby (topology_now n c v.links g) end
    → v ≡ s → near ≡ nearby (topology_now n c s.links g) end
near_of n c g {end} q e = q ∙ ap (λ (y : Spares). nearby (topology_now n c y.links g) end) e

pub with_neighbours-near-requires : goal.with_neighbours-near-requires
with_neighbours-near-requires c =
    let C = chain_of c.args.counts (c.base_chain-chain.ensures c.args.counts _) c.view-before.ensures.same in
    omega (arith, (follows c.requires.1 c.requires.2 C).end, c.view-before.ensures.sizes)

pub refine-done-requires : goal.refine-done-requires
refine-done-requires c = sound_standing c.requires.1

abbrev mesh_of : After-refine-done → Mesh
mesh_of c = mesh_with c.args.counts (held c.args.tables.now)

-- The mesh that the refine leaves.
abbrev left : After-refine-done → Mesh
left c = mesh_with c.refine-done.result.counts (held c.refine-done.new.tables)

refined : (c : After-refine-done) → c.refine-done.result.refusal ≡ 0 → Refines c.args.t (mesh_of c) (left c)
refined c z = refine_carried c.args.t (mesh_of c) c.refine-done.ensures.refined z

chain : (c : After-refine-done) → BaseChain (mesh_of c).topology c.args.t c.base_chain-chain.result
chain c = chain_of c.args.counts (c.base_chain-chain.ensures c.args.counts _) c.view-before.ensures.same

not_yet : (c : After-refine-done) → c.refine-done.result.refusal ≡ 0
    → Stale (box_of c.args.low c.args.high c.args.below) c.args.t (mesh_of c) (left c)
    (take c.base_chain-chain.result.odd c.base_chain-chain.result.slots) c.with_neighbours-near.result c.args.bits.now
    c.args.words.now
not_yet c z =
    stale (refined c z) (chain c)
    (near_of c.args.counts c.args.tables.now.corners.now c.args.tables.now.generations.now (c.with_neighbours-near.ensures c.args.counts c.args.tables.now.corners.now c.args.tables.now.generations.now)
    c.view-before.ensures.same) c.requires.0.marks

pub mark_inside-requires : goal.mark_inside-requires
mark_inside-requires c =
    let at = (goal.at.mark_inside-requires c).After-refine-done in
    let (room, marks, off) = sees_new (refined at c.if-done-eq0.true) c.requires.0.seen in
    (omega (arith, room, c.view-after.ensures.sizes), marks, off)

inside : (c : After-refine-done) → c.refine-done.result.refusal ≡ 0
    → c.base_chain-chain.result.odd ≤ length c.base_chain-chain.result.slots
inside c z = odd_inside (refined c z).found (chain c)

pub slice_bounds-slots-end : goal.slice_bounds-slots-end
slice_bounds-slots-end c = inside (goal.at.slice_bounds-slots-end c).After-refine-done c.if-done-eq0.true

pub slice_bounds-mend_after-end : goal.slice_bounds-mend_after-end
slice_bounds-mend_after-end c =
    sym (length-take-le _ _ (inside (goal.at.slice_bounds-mend_after-end c).After-refine-done c.if-done-eq0.true))

pub mend_after-requires : goal.mend_after-requires
mend_after-requires c =
    let at = (goal.at.mend_after-requires c).After-refine-done in
    let z = c.if-done-eq0.true in (
      _,
      _,
      _,
      _,
      not_yet at z,
      looks c.refine-done.result.counts (refined at z) c.view-after.ensures.same c.requires.0.seen c.mark_inside.ensures,
      refl,
      refl,
    )

pub returns-then-done-eq0-clause-marked : goal.returns-then-done-eq0-clause-marked
returns-then-done-eq0-clause-marked c z =
    let at = (goal.at.returns-then-done-eq0-clause-marked c).After-refine-done in
    let K = looks c.refine-done.result.counts (refined at z) c.view-after.ensures.same c.requires.0.seen
    c.mark_inside.ensures in
    record { seen = K.seen; marks = c.mend_after.ensures _ _ _ _ (not_yet at z) K refl refl }
