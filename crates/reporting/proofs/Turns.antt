-- A split of refine: what it asks, what is told of it, and where the next one is.
use Prim.Native.Nat.{ℕ, zero, suc, ◌+◌, ◌-◌, ◌*◌, ◌≤◌, ◌<◌}
use native.Mathlib.Omega.{arith}
use mathlib.Core.Bool.{Bool, true}
use mathlib.Core.List.{List, ◌++◌}
use mathlib.Core.Path.{◌≡◌, sym, ap, ◌∙◌, subst}
use lib.ListN.{length, get_or}
use Rattle.theory.proofs.Calls.Carried.{RefineFound}
use Rattle.theory.proofs.Chains.RefineLoop.{Across, Refining, few_splits, refining_next, refining_on, refining_across}
use Rattle.theory.proofs.Chains.RefineLoop.{Ahead, ahead, ahead_end, ahead_splitting, longer_ahead}
use Rattle.theory.proofs.Soundness.Relaxed.{agree_on}
use Rattle.theory.proofs.Splits.After.{split_after}
use Rattle.rules.specs.Calls.{splits_of}
use Rattle.rules.specs.Split.{Work, at_first, split_at, chain_end, refine}
use Rattle.rules.specs.Tables.{Mesh, generation}
use Rattle.split.specs.Made.{MaySplit}
use Rattle.reporting.specs.Told.{Tells}
use Rattle.reporting.proofs.Telling.{tells_on, room_then}

-- The end of the chain is within the tables.
pub end_within : {t end : ℕ} {m : Mesh} → RefineFound t m → end ≡ chain_end m.topology t
    → 3 * end + 2 < length m.topology.links
end_within {t} {end} {m} R e = go (splits_of m.topology t) (omega arith) (ahead R)
  where
    go : (k : ℕ) → 0 < k → Ahead k (generation m.topology t) t (at_first m)
        → 3 * end + 2 < length m.topology.links
    go zero i A = absurd (omega arith)
    go (suc k) i A = omega (arith, e, (ahead_end A).in_use, A.manifold.link_room)

-- Refining t in m with some splits left, which is told from place `at` of b on if it is to be told: it has made w, and
-- told b as far as place `next`.
pub record Turned (t : ℕ) (m : Mesh) (slots : List ℕ) (telling : Bool) (b : List ℕ) (at left : ℕ) (w : Work)
    (s : List ℕ) (next : ℕ) : Type 0 where
  pub refining : Refining t m slots left w
  pub tells : telling ≡ true → Tells w.report b s at next
  pub size : length s ≡ length b

-- The next split is across the base of the last triangle that is remembered.
abbrev pub Next : ℕ → List ℕ → ℕ → Work → Type 0
Next t slots left w =
    0 < left → Across (get_or slots (left - 1) 0) (chain_end w.mesh.topology t) w.mesh.topology

-- With some splits left, the next at the end of the chain, which makes w to a.
module _ {t left end : ℕ} {m : Mesh} {slots : List ℕ} {w : Work} (R : RefineFound t m) (N : Refining t m slots left w)
    (i : 0 < left) (e : end ≡ chain_end w.mesh.topology t) where
  turn : Refining t m slots (suc (left - 1)) w
  turn =
      let q : left ≡ suc (left - 1) = omega arith in subst (λ (k : ℕ). Refining t m slots k w) q N

  pub turn_may_split : MaySplit end w
  turn_may_split =
      let S = refining_next R turn in
      rw e (record {
        tables = S.tables;
        slot = omega (arith, S.in_use, S.room.triangles);
        room = S.room;
        young = omega (arith, S.young);
        splits = omega (arith, few_splits R, N.splits);
        flips = omega (arith, few_splits R, N.splits, N.flips);
      })

  module _ (a : Work) (ea : a ≡ split_at end w) where
    split_is : a ≡ split_at (chain_end w.mesh.topology t) w
    split_is = ea ∙ ap (λ (v : ℕ). split_at v w) e

    turn_on : Refining t m slots (left - 1) a
    turn_on = rw split_is (refining_on R turn)

    -- What it reports, read from the tables that it leaves.
    abbrev told : List ℕ
    told = split_after a.mesh.topology.links a.mesh.topology.generations end w.mesh.topology.triangles

    turn_report : a.report ≡ w.report ++ told
    turn_report =
        let after : ℕ → Work → Type 0 = λ v b.
        let m = b.mesh.topology in
        b.report ≡ w.report ++ split_after m.links m.generations v w.mesh.topology.triangles in
        subst (after end) (sym ea)
        (subst (λ (v : ℕ). after v (split_at v w)) (sym e) (ahead_splitting turn.ahead).after)

    -- Where it is to be told, and the whole report has room, it has; and it is told after what was.
    module _ {telling : Bool} {b s : List ℕ} {at next : ℕ} (T : Turned t m slots telling b at left w s next) where
      pub turn_asks : (telling ≡ true → at + length (refine t (at_first m)).report ≤ length b) →
          let g = a.mesh.topology.generations in
          (end < length g) × (w.mesh.topology.triangles + 1 < length g)
          × (3 * length g ≤ length a.mesh.topology.links) × (length g ≤ 65536)
          × (telling ≡ true → next + length told ≤ length s)
      turn_asks room =
          let S = refining_next R turn in
          let A = agree_on R.sound.tables turn_on.room in
          let q : length a.mesh.topology.generations ≡ length w.mesh.topology.generations =
          turn_on.room.generations ∙ sym N.room.generations in
          let l = S.room.triangles in
          let i : length a.report ≤ length (refine t (at_first m)).report =
          subst (λ (x : Work). length a.report ≤ length x.report) turn_on.result
          (longer_ahead (left - 1) a turn_on.ahead) in (
            omega (arith, e, S.in_use),
            omega arith,
            omega (arith, A.links),
            A.few_triangles,
            λ f. room_then told (T.tells f) (omega (arith, room f, ap length turn_report)),
          )

      pub turn_done : {x : List ℕ} {then : ℕ} → (telling ≡ true → Tells told s x next then) → length x ≡ length s
          → Turned t m slots telling b at (left - 1) a x then × Next t slots (left - 1) a
      turn_done {x} {then} U z = (
        record {
          refining = turn_on;
          tells = λ f.
              subst (λ (l : List ℕ). Tells l b x at then) (sym turn_report) (tells_on (T.tells f) (U f));
          size = z ∙ T.size;
        },
        λ j.
            let q : left ≡ suc (suc (left - 1 - 1)) = omega arith in
            rw split_is (refining_across R (subst (λ (k : ℕ). Refining t m slots k w) q N)),
      )
